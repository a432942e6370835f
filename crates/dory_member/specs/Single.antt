-- The checks of a reply that is checked by itself, in their order: Form, Echo, Refused, and the number and the id that
-- are wanted.
use Rattle.std.specs.Prelude.{ℕ, ◌==◌, ◌&&◌, not, List, Result, Ok, Err, if◌then◌else◌}
use Rattle.dory_base.specs.declared.ids.Side.{Side}
use Rattle.dory_base.specs.declared.ids.AskId.{AskId}
use Rattle.dory_base.specs.declared.ids.UpdateId.{UpdateId}
use Rattle.dory_base.specs.declared.refusal.Refusal.{Refusal}
use Rattle.dory_base.specs.declared.refusal.Refusal.TheVariants.{Taken}
use Rattle.dory_base.specs.Log.{same_id}
use Rattle.dory_wire.specs.declared.message.What.{What}
use Rattle.dory_wire.specs.declared.message.What.TheVariants.{Id, Staged, Committed, Refused}
use Rattle.dory_verify.specs.declared.fault.CheckFault.{CheckFault}
use Rattle.dory_verify.specs.declared.fault.CheckFault.TheVariants as check
use Rattle.dory_verify.specs.declared.reply.Allowed.{Allowed}
use Rattle.dory_verify.specs.declared.reply.Allowed.TheVariants as kind
use Rattle.dory_verify.specs.Checks.{◌>>=◌, form, echo}
use Rattle.dory_member.specs.declared.phase.Single.{Single}
use Rattle.dory_member.specs.declared.phase.Single.TheVariants.{Which, Stage, Order, Follow}
use Rattle.dory_member.specs.declared.outcome.Mark.{Mark}
use Rattle.dory_member.specs.declared.outcome.Fault.{Fault}
use Rattle.dory_member.specs.declared.outcome.Fault.TheVariants as fault

-- a check's fault, as the command's
abbrev pub checked : {A : Type 0} → Result A CheckFault → Result A Fault
checked (Ok x) = Ok x
checked (Err e) = Err (fault.Check e)

-- the replies that an ask allows
abbrev pub allowed : Single → Allowed
allowed (Which n) = kind.Id
allowed (Stage i) = kind.StagedOrCommitted
allowed (Order i) = kind.Committed
allowed (Follow n i) = kind.Committed

-- a number and an update
abbrev pub mark : ℕ → UpdateId → Mark
mark number id = record { number = number; id = id }

-- the mark got is the one wanted
abbrev pub wanted : Side → Mark → Mark → Result Mark Fault
wanted side want got =
    if (want.number == got.number) && same_id want.id got.id then Ok got else Err (fault.Unconfirmed side want got)

-- a number that another update has at the follower: the domains have diverged there
abbrev pub taken_by : Side → ℕ → UpdateId → ℕ → UpdateId → Fault
taken_by side n i number id =
    if (n == number) && not (same_id i id) then fault.Diverged n i id else fault.Check (check.Refused side (Taken number id))

-- Refused: what a refusal of an ask comes to
abbrev pub refused : Side → Single → Refusal → Fault
refused side (Follow n i) (Taken number id) = taken_by side n i number id
refused side ask code = fault.Check (check.Refused side code)

-- what a reply confirms. A mark of Staged has number 0, and the wanted number of an Order is the reply's own, as is that of
-- a Committed to a Stage and the wanted id of Which
abbrev pub said : Side → Single → What → Result Mark Fault
said side ask (Refused code) = Err (refused side ask code)
said side (Which n) (Id number id) = wanted side (mark n id) (mark number id)
said side (Stage i) (Staged id) = wanted side (mark 0 i) (mark 0 id)
said side (Stage i) (Committed number id) = wanted side (mark number i) (mark number id)
said side (Order i) (Committed number id) = wanted side (mark number i) (mark number id)
said side (Follow n i) (Committed number id) = wanted side (mark n i) (mark number id)
said side ask what = Err (fault.Check (check.Form side 4))

-- what a frame confirms that came to an ask, or the first fault
unfoldable pub confirmed : Side → Single → AskId → List ℕ → Result Mark Fault
confirmed side ask asked frame = do
  reply ← checked (form side (allowed ask) frame)
  e ← checked (echo side asked reply)
  said side ask reply.what
