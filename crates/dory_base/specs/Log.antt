-- What a folder decides by when it is asked to stage, to commit or to name an update.
use Rattle.std.specs.Prelude.{ℕ, ◌+◌, ◌-◌, ◌==◌, ◌&&◌, nat_lt, Bool, true, if◌then◌else◌, List, [], ◌∷◌, length, replicate, slice_get, Option, Some, None, Result, Ok, Err}
use Rattle.dory_base.specs.Dims.{Dims, same_shape}
use Rattle.dory_base.specs.SameUpdate.{is_same_update}
use Rattle.dory_base.specs.declared.ids.Side.{Side}
use Rattle.dory_base.specs.declared.ids.Side.TheVariants.{Lead, Follow}
use Rattle.dory_base.specs.declared.ids.UpdateId.{UpdateId}
use Rattle.dory_base.specs.declared.entry.Entry.{Entry}
use Rattle.dory_base.specs.declared.entry.Change.{Change}
use Rattle.dory_base.specs.declared.entry.Change.TheVariants.{Post, Remove}
use Rattle.dory_base.specs.declared.plan.StagePlan.{StagePlan}
use Rattle.dory_base.specs.declared.plan.StagePlan.TheVariants.{New, Same, Done}
use Rattle.dory_base.specs.declared.plan.Plan.{Plan}
use Rattle.dory_base.specs.declared.plan.Plan.TheVariants.{Again, Fresh}
use Rattle.dory_base.specs.declared.refusal.Refusal.{Refusal}
use Rattle.dory_base.specs.declared.refusal.Refusal.TheVariants.{ShapeWrong, BadMember, Past, Clash, Unfinished, Unstaged, Taken, Gap, WrongRole, HistoryFull, NoEntry}

-- a folder's role and shape, the ids of its history in order, and a place for what each of its 64 members has staged
pub record Log : Type 0 where
  pub role : Side
  pub shape : Dims
  pub ids : List UpdateId
  pub staged : List (Option Entry)

-- a folder with no update
abbrev pub empty_log : Side → Dims → Log
empty_log role shape = record { role = role; shape = shape; ids = []; staged = replicate 64 None }

-- ---- what is looked up

-- two ids are one
abbrev pub same_id : UpdateId → UpdateId → Bool
same_id a b = (a.member.0 == b.member.0) && (a.serial == b.serial)

-- the number of an id among ids of which the first has number n
abbrev pub number_from : ℕ → List UpdateId → UpdateId → Option ℕ
number_from n [] id = None
number_from n (x ∷ ids) id = if same_id x id then Some n else number_from (n + 1) ids id

-- the number of an id: its place in the history, counted from 1
abbrev pub number_of : List UpdateId → UpdateId → Option ℕ
number_of ids id = number_from 1 ids id

-- the serial of a member's last id, or this one where there is none
abbrev pub last_after : ℕ → List UpdateId → ℕ → ℕ
last_after serial [] member = serial
last_after serial (x ∷ ids) member = last_after (if x.member.0 == member then x.serial else serial) ids member

-- the last serial of a member in the history, or 0
abbrev pub last_of : List UpdateId → ℕ → ℕ
last_of ids member = last_after 0 ids member

-- what stands at a place, if there is such a place
abbrev pub at_place : Option (Option Entry) → Option Entry
at_place None = None
at_place (Some staged) = staged

-- what a member has staged
abbrev pub staged_by : List (Option Entry) → ℕ → Option Entry
staged_by staged member = at_place (slice_get staged member)

-- an update, if it has this id
abbrev pub with_id : UpdateId → Option Entry → Option Entry
with_id id None = None
with_id id (Some e) = if same_id e.id id then Some e else None

-- the staged update of this id
abbrev pub staged_as : List (Option Entry) → UpdateId → Option Entry
staged_as staged id = with_id id (staged_by staged id.member.0)

-- ---- Stage

-- a removal has every shape, a post only its own
abbrev pub has_shape : Dims → Change → Bool
has_shape shape (Post posted row tags) = same_shape posted shape
has_shape shape Remove = true

-- after a member's last serial in the history
abbrev pub stage_after : ℕ → Entry → Result StagePlan Refusal
stage_after last e = if nat_lt e.id.serial last then Err (Past last) else Ok New

-- an update that is staged already
abbrev pub stage_again : Entry → Entry → Result StagePlan Refusal
stage_again staged e = if is_same_update staged e then Ok Same else Err (Clash e.id)

-- an update whose member has another one staged
abbrev pub stage_busy : UpdateId → UpdateId → Result StagePlan Refusal
stage_busy staged id = if nat_lt id.serial staged.serial then Err (Past staged.serial) else Err (Unfinished staged)

-- beside what its member has staged
abbrev pub stage_beside : Option Entry → ℕ → Entry → Result StagePlan Refusal
stage_beside (Some staged) last e = if same_id staged.id e.id then stage_again staged e else stage_busy staged.id e.id
stage_beside None last e = stage_after last e

-- an update that is committed at this number, or isn't
abbrev pub stage_known : Option ℕ → Log → Entry → Result StagePlan Refusal
stage_known (Some number) log e = Ok (Done number)
stage_known None log e = stage_beside (staged_by log.staged e.id.member.0) (last_of log.ids e.id.member.0) e

-- what staging an update comes to
abbrev pub look_stage : Log → Entry → Result StagePlan Refusal
look_stage log e =
    if nat_lt 63 e.id.member.0 then Err (BadMember e.id.member)
    else if has_shape log.shape e.change then stage_known (number_of log.ids e.id) log e
    else Err (ShapeWrong log.shape.depth log.shape.probes)

-- ---- Order

-- an update that is staged, or isn't, and would be committed after n others
abbrev pub order_staged : Option Entry → ℕ → UpdateId → Result Plan Refusal
order_staged None n id = Err (Unstaged id)
order_staged (Some e) n id = if nat_lt n 1048576 then Ok (Fresh (n + 1)) else Err HistoryFull

-- an update that is committed at this number, or isn't
abbrev pub order_known : Option ℕ → Log → UpdateId → Result Plan Refusal
order_known (Some number) log id = Ok (Again number)
order_known None log id = order_staged (staged_as log.staged id) (length log.ids) id

-- only a lead takes orders
abbrev pub order_as : Side → Log → UpdateId → Result Plan Refusal
order_as Follow log id = Err (WrongRole Follow)
order_as Lead log id = order_known (number_of log.ids id) log id

-- what ordering an update comes to
abbrev pub look_order : Log → UpdateId → Result Plan Refusal
look_order log id = order_as log.role log id

-- ---- Follow

-- an update that is staged, or isn't, and would come next at this number
abbrev pub follow_staged : Option Entry → ℕ → UpdateId → Result Plan Refusal
follow_staged None number id = Err (Unstaged id)
follow_staged (Some e) number id = Ok (Fresh number)

-- a number beyond the history, for an update that is committed at another one, or isn't
abbrev pub follow_known : Option ℕ → Log → ℕ → UpdateId → Result Plan Refusal
follow_known (Some own) log number id = Err (Taken own id)
follow_known None log number id =
    if nat_lt (length log.ids + 1) number then Err (Gap (length log.ids)) else follow_staged (staged_as log.staged id) number id

-- a number within the history, at which this id stands
abbrev pub follow_again : Option UpdateId → ℕ → UpdateId → Result Plan Refusal
follow_again None number id = Ok (Again number)
follow_again (Some x) number id = if same_id x id then Ok (Again number) else Err (Taken number x)

-- only a follower follows
abbrev pub follow_as : Side → Log → ℕ → UpdateId → Result Plan Refusal
follow_as Lead log number id = Err (WrongRole Lead)
follow_as Follow log number id =
    if nat_lt (length log.ids) number then follow_known (number_of log.ids id) log number id
    else follow_again (slice_get log.ids (number - 1)) number id

-- what committing an update at a number comes to
abbrev pub look_follow : Log → ℕ → UpdateId → Result Plan Refusal
look_follow log number id = follow_as log.role log number id

-- ---- Which

-- the id at a number, or how long the history is
abbrev pub which_at : Option UpdateId → ℕ → Result UpdateId Refusal
which_at None n = Err (NoEntry n)
which_at (Some id) n = Ok id

-- the update of a number
abbrev pub which : Log → ℕ → Result UpdateId Refusal
which log number = which_at (slice_get log.ids (number - 1)) (length log.ids)
