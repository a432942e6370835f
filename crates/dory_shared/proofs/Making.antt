-- What a look finds may be published.
use Rattle.std.proofs.Common.{◌≡◌, ℕ, ◌<◌, ◌≤◌, ◌+◌, List, [], ◌∷◌, ◌++◌, length, take, take_all, refl, ap, sym, ◌∙◌, subst, arith, Option, Some, None, Result, Ok, Err, inl, inr, Bool, true, false, cond}
use Rattle.std.specs.Prelude.{nat_lt, if◌then◌else◌}
use Rattle.std.specs.Arc.{arc_value}
use Rattle.std.specs.declared.sync.Arc.{Arc}
use Rattle.std.specs.declared.alloc.Global.{Global}
use Rattle.dory_chunks.specs.declared.version.Version.{Version}
use Rattle.std.proofs.lemmas.List.{length-map}
use Rattle.dory_base.specs.Dims.{Dims}
use Rattle.dory_base.specs.declared.entry.Entry.{Entry}
use Rattle.dory_base.specs.declared.entry.Change.{Change}
use Rattle.dory_base.specs.declared.entry.Change.TheVariants.{Post, Remove}
use Rattle.dory_base.specs.declared.event.Event.TheVariants.{Staged, Appended}
use Rattle.dory_base.specs.declared.ids.Side.{Side}
use Rattle.dory_base.specs.declared.ids.UpdateId.{UpdateId}
use Rattle.dory_base.specs.declared.plan.StagePlan.{StagePlan}
use Rattle.dory_base.specs.declared.plan.StagePlan.TheVariants.{New}
use Rattle.dory_base.specs.declared.plan.Plan.TheVariants.{Fresh}
use Rattle.dory_base.specs.declared.refusal.Refusal.{Refusal}
use Rattle.dory_base.specs.declared.refusal.Refusal.TheVariants.{BadMember, ShapeWrong, Unretained, NoMemory}
use Rattle.dory_base.specs.History.{IsWhole, IsChangeOf, version_of}
use Rattle.dory_base.specs.Log.{Log, look_stage, number_of, staged_as, stage_known, has_shape}
use Rattle.dory_base.specs.Step.{State, log_of, ids_of}
use Rattle.dory_base.specs.TableMeaning.{Kept, kept_of, StandsFor, next_of}
use Rattle.dory_base.proofs.StepLaws.{history_is}
use Rattle.dory_base.proofs.LogLaws.{IsFresh, order_seen, follow_seen}
use Rattle.dory_log.specs.Spared.{MayCommit}
use Rattle.dory_wire.specs.Spelling.{IsEntry, IsChange, IsRefusal}
use Rattle.dory_shelf.specs.Published.{Published, folder_of, history_of, MayFollow, with_event, IsLawful}
use Rattle.dory_shelf.specs.Versions.{newest_of, table_at, is_retained, oldest_of, version_at, IsAnswer}
use Rattle.dory_shared.specs.Seen.{IsKept, folder_as}
use Rattle.dory_shared.proofs.Folding.{shape_is, history_with}
use Rattle.dory_shared.proofs.Holding.{good_of, staged_fits}

-- ---- a new update

-- the log of a history, whatever role it is said to have
abbrev log_by : Side → Dims → Published → Log
log_by role shape h = record { role = role; shape = shape; ids = ids_of (history_of h); staged = (folder_of h).staged }

known_by : (r r' : Side) (shape : Dims) (h : Published) (e : Entry) (o : Option ℕ) → stage_known o (log_by r shape h) e ≡ stage_known o (log_by r' shape h) e
known_by r r' shape h e (Some n) = refl
known_by r r' shape h e None = refl

-- staging doesn't look at the role
look_by : (r r' : Side) (shape : Dims) (h : Published) (e : Entry) → look_stage (log_by r shape h) e ≡ look_stage (log_by r' shape h) e
look_by r r' shape h e =
    ap (λ (x : Result StagePlan Refusal). cond (nat_lt 63 e.id.member.0) (Err (BadMember e.id.member)) (cond (has_shape shape e.change) x (Err (ShapeWrong shape.depth shape.probes))))
    (known_by r r' shape h e (number_of (ids_of (history_of h)) e.id))

whole_change : (change : Change) → IsChange change → IsWhole change
whole_change (Post shape row tags) is = is.cells
whole_change Remove is = tt

-- a new update that a message carried may be staged
pub may_stage : (role : Side) (h : Published) (e : Entry) → look_stage (log_of (folder_as role h)) e ≡ Ok New → IsEntry e → MayFollow h (Staged e)
may_stage role h e fresh is =
    let here : look_stage (log_by (folder_of h).role h.shelf.shape h) e ≡ Ok New = look_by (folder_of h).role role h.shelf.shape h e ∙ fresh in
    let there : look_stage (log_of (folder_of h)) e ≡ Ok New =
    subst (λ (d : Dims). look_stage (log_by (folder_of h).role d h) e ≡ Ok New) (sym (shape_is h)) here in
    (there, record { some = is.id.some; few = is.id.serial }, is.doc, whole_change e.change is.change)

-- ---- a staged update that joins the history

-- a look said that it may come next
pub fresh_of : (log : Log) (number : ℕ) (id : UpdateId) → MayCommit log number id → IsFresh log number id × (number ≤ 1048576)
fresh_of log number id (inl order) = order_seen log id number order
fresh_of log number id (inr follow) = ((follow_seen log number number id follow.0).0, follow.1)

room_of : (role : Side) (h : Published) (number : ℕ) (id : UpdateId) → IsFresh (log_of (folder_as role h)) number id → number ≤ 1048576 → length (history_of h) < 1048576
room_of role h number id fresh few = omega (arith, fresh.next, few, length-map (history_of h) (λ (e : Entry). e.id))

pub may_commit : (role : Side) (h : Published) (number : ℕ) (id : UpdateId) → MayCommit (log_of (folder_as role h)) number id → MayFollow h (Appended id)
may_commit role h number id may =
    let p = fresh_of (log_of (folder_as role h)) number id may in
    ((p.0.entry, p.0.staged), room_of role h number id p.0 p.1)

-- the newest version is among the last
pub newest_retained : (h : Published) → 1 ≤ h.shelf.retained → is_retained h (newest_of h) ≡ true
newest_retained h some = grind arith

-- ---- its version

whole_table : (h : Published) → table_at h (newest_of h) ≡ kept_of h.shelf.shape (history_of h)
whole_table h = ap (kept_of h.shelf.shape) (take_all (length (history_of h)) (history_of h) (omega arith))

-- the version after the newest one stands for the history with the update
pub next_stands : (h : Published) (id : UpdateId) (e : Entry) (newest v : Kept) → staged_as (folder_of h).staged id ≡ Some e → newest ≡ kept_of h.shelf.shape (history_of h) → v ≡ next_of newest e
    → ((entries : List Entry) → StandsFor newest entries → StandsFor v (entries ++ e ∷ [])) → v ≡ kept_of h.shelf.shape (history_of (with_event h (Appended id)))
next_stands h id e newest v there is next stands =
    let now : StandsFor newest (history_of h) = subst (λ (t : Kept). StandsFor t (history_of h)) (sym is) refl in
    stands (history_of h) now
    ∙ ap (λ (t : Kept). kept_of t.shape (history_of h ++ e ∷ [])) next
    ∙ ap (λ (t : Kept). kept_of t.shape (history_of h ++ e ∷ [])) is
    ∙ ap (kept_of h.shelf.shape) (sym (history_with h id e there))

-- the newest version's number leaves room for one more
pub next_room : (role : Side) (h : Published) (number : ℕ) (id : UpdateId) (t : Kept) → MayCommit (log_of (folder_as role h)) number id → t ≡ kept_of h.shelf.shape (history_of h) → t.number < 1048576
next_room role h number id t may is =
    let p = fresh_of (log_of (folder_as role h)) number id may in
    omega (arith, room_of role h number id p.0 p.1, ap (λ (k : Kept). k.number) is)

-- and the update is of its shape
pub next_change : (h : Published) (id : UpdateId) (e : Entry) (t : Kept) → IsLawful h → staged_as (folder_of h).staged id ≡ Some e → t ≡ kept_of h.shelf.shape (history_of h) → IsChangeOf t.shape e.change
next_change h id e t lawful there is =
    subst (λ (d : Dims). IsChangeOf d e.change) (sym (ap (λ (k : Kept). k.shape) is)) (staged_fits h id e lawful there)

-- ---- versions

pub version_ok : (h : Published) (n : ℕ) (v : Arc Version Global) → IsAnswer (version_at h n) (Ok v) → (is_retained h n ≡ true) × (arc_value v ≡ table_at h n)
version_ok h n v = by (is_retained h n) refl
  where
    by : (b : Bool) → is_retained h n ≡ b → IsAnswer (cond b (Ok (table_at h n)) (Err (Unretained (oldest_of h) (newest_of h)))) (Ok v) → (is_retained h n ≡ true) × (arc_value v ≡ table_at h n)
    by true is answer = (is, answer)
    by false is answer = absurd answer

pub version_err : (h : Published) (n : ℕ) (code : Refusal) → IsAnswer (version_at h n) (Err code) → code ≡ (if is_retained h n then NoMemory else Unretained (oldest_of h) (newest_of h))
version_err h n code = by (is_retained h n)
  where
    by : (b : Bool) → IsAnswer (cond b (Ok (table_at h n)) (Err (Unretained (oldest_of h) (newest_of h)))) (Err code) → code ≡ (if b then NoMemory else Unretained (oldest_of h) (newest_of h))
    by true answer = answer
    by false answer = answer

-- the newest one is the table of all that was appended
pub newest_stands : (h : Published) (v : Arc Version Global) → IsAnswer (version_at h (newest_of h)) (Ok v) → arc_value v ≡ kept_of h.shelf.shape (history_of h)
newest_stands h v answer = (version_ok h (newest_of h) v answer).1 ∙ whole_table h

-- a version that is retained
pub retained_low : (h : Published) (n : ℕ) → is_retained h n ≡ true → n ≤ newest_of h
retained_low h n is = grind arith

pub table_stands : (h : Published) (n : ℕ) (t : Kept) → t ≡ table_at h n → StandsFor t (version_of n (history_of h))
table_stands h n t is = subst (λ (k : Kept). StandsFor k (version_of n (history_of h))) (sym is) refl

pub few_updates : (h : Published) → IsLawful h → newest_of h ≤ 1048576
few_updates h lawful = (history_is (folder_of h) (good_of h lawful).state).few

kept_few : (h : Published) (n : ℕ) (b : Bool) → newest_of h ≤ 1048576 → 1 ≤ h.shelf.retained → IsRefusal (if b then NoMemory else Unretained (oldest_of h) (newest_of h))
kept_few h n true few some = tt
kept_few h n false few some = (omega (arith, few, some), few)

-- the refusal to keep a version is one that a message carries
pub kept_range : (h : Published) (n : ℕ) (code : Refusal) → IsLawful h → IsKept h → code ≡ (if is_retained h n then NoMemory else Unretained (oldest_of h) (newest_of h)) → IsRefusal code
kept_range h n code lawful kept is = subst IsRefusal (sym is) (kept_few h n (is_retained h n) (few_updates h lawful) kept.some)
