-- More updates are made, and what was made stays.
use Rattle.std.proofs.Common.{◌≡◌, ℕ, ◌≤◌, ◌<◌, List, [], ◌∷◌, refl, ap, arith, subst}
use Rattle.std.specs.Prelude.{Option, Some, None, Bool, true, false, if◌then◌else◌}
use Rattle.std.specs.List.{AllByRecursion}
use Rattle.dory_base.specs.Log.{same_id, staged_by}
use Rattle.dory_base.specs.Step.{State}
use Rattle.dory_base.specs.declared.entry.Entry.{Entry}
use Rattle.dory_base.specs.declared.ids.UpdateId.{UpdateId}
use Rattle.dory_base.proofs.SameLaws.{same_id-true, same_id_refl}
use Rattle.dory_wire.specs.declared.message.Want.{Want}
use Rattle.dory_wire.specs.declared.message.Want.TheVariants.{Latest, Search, Which, Stage, Order, Follow}
use Rattle.dory_state.specs.declared.kept.KeptState.{KeptState}
use Rattle.dory_member.specs.declared.phase.Phase.{Phase}
use Rattle.dory_member.specs.declared.phase.Phase.TheVariants.{Updating, Measuring, Searching, Ended}
use Rattle.dory_member.specs.Course.{entry_of}
use Rattle.dory_run.specs.declared.setup.Setup.{Setup}
use Rattle.dory_run.specs.Kept.{IsFolder, IsKnown, IsPhase, IsPutRight, IsStation, IsStored, IsWanted, next_of}
use Rattle.dory_run.specs.Law.{IsMade, made_as}
use Rattle.dory_run.specs.Start.{fresh}
use Rattle.dory_run.specs.World.{Station, Idle, Busy, Message, Asked, Replied}
use Rattle.dory_run.proofs.Lists.{all_map, some_map}

-- all that was made is made, as it was
pub record Grows (made made' : List Entry) : Type 0 where
  pub keeps : (id : UpdateId) (e : Entry) → made_as made id ≡ Some e → made_as made' id ≡ Some e

pub grows_by_none : (made : List Entry) → Grows made made
grows_by_none made = record { keeps = λ id e h. h }

pub made_first : (e : Entry) (made : List Entry) → IsMade (e ∷ made) e
made_first e made = ap (λ (b : Bool). if b then Some e else made_as made e.id) (same_id_refl e.id)

grows_if : (b : Bool) (x e : Entry) (o : Option Entry) → (b ≡ true → o ≡ None) → o ≡ Some e → (if b then Some x else o) ≡ Some e
grows_if true x e o none some = absurd (let n : o ≡ None = none refl in cc)
grows_if false x e o none some = some

pub grows_by_new : (x : Entry) (made : List Entry) → made_as made x.id ≡ None → Grows made (x ∷ made)
grows_by_new x made new = record {
  keeps = λ id e h. grows_if (same_id x.id id) x e (made_as made id)
      (λ s. subst (λ (i : UpdateId). made_as made i ≡ None) (same_id-true x.id id s) new) h;
}

-- what holds of all that was made holds of what is found
known_if : (P : Entry → Type 0) (b : Bool) (x e : Entry) (o : Option Entry) → P x → (o ≡ Some e → P e) → (if b then Some x else o) ≡ Some e → P e
known_if P true x e o p rest is = let w : x ≡ e = cc in subst P w p
known_if P false x e o p rest is = rest is

pub made_known : (P : Entry → Type 0) (made : List Entry) (id : UpdateId) (e : Entry) → AllByRecursion P made → made_as made id ≡ Some e → P e
made_known P [] id e all is = absurd (cc)
made_known P (x ∷ made) id e all is = known_if P (same_id x.id id) x e (made_as made id) all.0 (made_known P made id e all.1) is

-- a serial that isn't used up was never made
unmade_if : (b : Bool) (x : Entry) (o : Option Entry) → (b ≡ true → ⊥) → o ≡ None → (if b then Some x else o) ≡ None
unmade_if true x o never is = absurd (never refl)
unmade_if false x o never is = is

pub unmade : (s : Setup) (members : List Station) (made : List Entry) (id : UpdateId) → AllByRecursion (IsKnown s members) made → next_of members id.member.0 ≤ id.serial → made_as made id ≡ None
unmade s members [] id all le = refl
unmade s members (x ∷ made) id all le =
    unmade_if (same_id x.id id) x (made_as made id)
    (λ b. let w = same_id-true x.id id b in
    let below : id.serial < next_of members id.member.0 = subst (λ (i : UpdateId). i.serial < next_of members i.member.0) w all.0.below in
    omega (arith, below, le)) (unmade s members made id all.1 le)

-- ---- what grows

pub grow_made : (made made' : List Entry) → Grows made made' → (e : Entry) → IsMade made e → IsMade made' e
grow_made made made' g e m = g.keeps e.id e m

pub grow_folder : (s : Setup) (made made' : List Entry) → Grows made made' → (f : State) → IsFolder s made f → IsFolder s made' f
grow_folder s made made' g f h = record {
  held = h.held;
  shape = h.shape;
  history = all_map (IsMade made) (IsMade made') f.history (grow_made made made' g) h.history;
  staged = λ m. some_map (IsMade made) (IsMade made') (staged_by f.staged m) (grow_made made made' g) (h.staged m);
}

grow_want : (made made' : List Entry) → Grows made made' → (want : Want) → IsWanted made want → IsWanted made' want
grow_want made made' g (Stage e) h = grow_made made made' g e h
grow_want made made' g Latest h = h
grow_want made made' g (Search v shape keys) h = h
grow_want made made' g (Which n) h = h
grow_want made made' g (Order id) h = h
grow_want made made' g (Follow n id) h = h

pub grow_message : (s : Setup) (made made' : List Entry) → Grows made made' → (x : Message) → IsPutRight s made x → IsPutRight s made' x
grow_message s made made' g (Asked side request) h = record { ask = h.ask; folder = h.folder; want = grow_want made made' g request.want h.want }
grow_message s made made' g (Replied side m frame) h = h

pub grow_stored : (s : Setup) (made made' : List Entry) → Grows made made' → (m : ℕ) (k : KeptState) → IsStored s made m k → IsStored s made' m k
grow_stored s made made' g m k h = record {
  state = h.state;
  member = h.member;
  folder = h.folder;
  shape = h.shape;
  master = h.master;
  pending = some_map (λ p. IsMade made (entry_of (fresh s m) p)) (λ p. IsMade made' (entry_of (fresh s m) p)) k.pending (λ p q. grow_made made made' g (entry_of (fresh s m) p) q) h.pending;
}

grow_phase : (made made' : List Entry) → Grows made made' → (p : Phase) (step : ℕ) → IsPhase made p step → IsPhase made' p step
grow_phase made made' g (Updating e at) step h = (grow_made made made' g e h.0, h.1, h.2)
grow_phase made made' g (Measuring word None) step h = h
grow_phase made made' g (Measuring word (Some lead)) step h = h
grow_phase made made' g (Searching q None) step h = h
grow_phase made made' g (Searching q (Some lead)) step h = h
grow_phase made made' g (Ended outcome) step h = h

pub grow_station : (s : Setup) (made made' : List Entry) → Grows made made' → (m : ℕ) (x : Station) → IsStation s made m x → IsStation s made' m x
grow_station s made made' g m (Idle k) h = grow_stored s made made' g m k h
grow_station s made made' g m (Busy run) h =
    record { kept = grow_stored s made made' g m run.kept h.kept; serial = h.serial; phase = grow_phase made made' g run.phase run.step h.phase }
