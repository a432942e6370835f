-- A folder stays what it has to be when an update is staged or joins its history.
use Rattle.std.proofs.Common.{◌≡◌, ℕ, ◌<◌, ◌≤◌, List, [], ◌∷◌, ◌++◌, length, Option, Some, None, Ok, arith, ap, ◌∙◌, sym, subst, refl, inl, inr, length-append}
use Rattle.std.specs.Prelude.{slice_set}
use Rattle.std.specs.List.{AllByRecursion}
use Rattle.std.proofs.lemmas.Bool.{cases_eq}
use Rattle.dory_base.specs.Dims.{Dims, IsDims}
use Rattle.dory_base.specs.declared.ids.Side.{Side}
use Rattle.dory_base.specs.declared.ids.UpdateId.{UpdateId}
use Rattle.dory_base.specs.declared.entry.Entry.{Entry}
use Rattle.dory_base.specs.declared.entry.Change.{Change}
use Rattle.dory_base.specs.declared.entry.Change.TheVariants.{Post, Remove}
use Rattle.dory_base.specs.declared.plan.StagePlan.TheVariants.{New}
use Rattle.dory_base.specs.History.{IsWhole, IsChangeOf, IsEntryOf}
use Rattle.dory_base.specs.Log.{Log, empty_log, look_stage, staged_by, staged_as}
use Rattle.dory_base.specs.Step.{IsState, log_of, after, log_after, log_appended, state_appended}
use Rattle.dory_base.specs.declared.event.Event.TheVariants.{Staged, Appended}
use Rattle.dory_base.proofs.LogLaws.{MayHappen, IsFresh, new_seen, order_seen, follow_seen, place_set_same, place_set_other, place_within, with_id_some, all_snoc, nothing_staged}
use Rattle.dory_base.proofs.StepLaws.{history_is, log_of_after, after_is_state, empty_is_state}
use Rattle.dory_log.specs.Spared.{MayCommit}
use Rattle.dory_wire.specs.Spelling.{IsEntry, IsChange}
use Rattle.dory_domain.specs.Held.{Held, IsHeld, IsNamed, IsNamedPlace, in_state, opened}
use Rattle.dory_domain.specs.declared.config.FolderConfig.{FolderConfig}

set_named : (xs : List (Option Entry)) (i : ℕ) (v : Option Entry) → i < length xs → IsNamedPlace v → ((m : ℕ) → IsNamedPlace (staged_by xs m)) → (m : ℕ) → IsNamedPlace (staged_by (slice_set xs i v) m)
set_named xs i v h named all m =
    elim (cases_eq i m) [
      | inl eq ↦
          subst (λ (m : ℕ). IsNamedPlace (staged_by (slice_set xs i v) m)) eq (subst IsNamedPlace (sym (place_set_same xs i v h)) named)
      | inr other ↦
          subst IsNamedPlace (sym (place_set_other xs i m v other)) (all m)
    ]

whole_change : (change : Change) → IsChange change → IsWhole change
whole_change (Post shape row tags) is = is.cells
whole_change Remove is = tt

-- an update that is new and that a message carried is staged
pub held_staged : (f : Held) (e : Entry) → IsHeld f → look_stage (log_of f.state) e ≡ Ok New → IsEntry e → IsHeld (in_state (after f.state (Staged e)) f)
held_staged f e held fresh is =
    let new = new_seen (log_of f.state) e fresh in
    record {
      dims = held.dims;
      some = held.some;
      few = held.few;
      state = after_is_state f.state (Staged e) held.state (new, record { some = is.id.some; few = is.id.serial }) (whole_change e.change is.change);
      named = held.named;
      waiting = set_named f.state.staged e.id.member.0 (Some e) (omega (arith, new.member, held.state.log.places)) is.doc held.waiting;
    }

appended_held : (f : Held) (id : UpdateId) (o : Option Entry) → staged_as f.state.staged id ≡ o → IsHeld f → IsState (state_appended f.state id o) → IsHeld (in_state (state_appended f.state id o) f)
appended_held f id None h held state = record { dims = held.dims; some = held.some; few = held.few; state = state; named = held.named; waiting = held.waiting }
appended_held f id (Some e) h held state =
    let p = with_id_some id (staged_by f.state.staged id.member.0) e h in
    let named : IsNamed e = subst IsNamedPlace p.0 (held.waiting id.member.0) in
    record {
      dims = held.dims;
      some = held.some;
      few = held.few;
      state = state;
      named = all_snoc IsNamed f.state.history e held.named named;
      waiting = set_named f.state.staged id.member.0 None (place_within f.state.staged id.member.0 e p.0) tt held.waiting;
    }

-- a look said that this update may come next
pub next_may : (log : Log) (number : ℕ) (id : UpdateId) → MayCommit log number id → MayHappen log (Appended id) × IsFresh log number id
next_may log number id (inl order) =
    let p = order_seen log id number order in
    ((p.0.entry, p.0.staged, omega (arith, p.0.next, p.1)), p.0)
next_may log number id (inr follow) =
    let p = follow_seen log number number id follow.0 in
    ((p.0.entry, p.0.staged, omega (arith, p.0.next, follow.1)), p.0)

-- a staged update joins the history
pub held_appended : (f : Held) (number : ℕ) (id : UpdateId) → IsHeld f → MayCommit (log_of f.state) number id → IsHeld (in_state (after f.state (Appended id)) f)
held_appended f number id held next =
    appended_held f id (staged_as f.state.staged id) refl held (after_is_state f.state (Appended id) held.state (next_may (log_of f.state) number id next).0 tt)

all_last : {X : Type 0} (P : X → Type 0) (xs : List X) (y : X) → AllByRecursion P (xs ++ y ∷ []) → P y
all_last P [] y all = all.0
all_last P (x ∷ xs) y all = all_last P xs y all.1

-- an update that may come next is of the folder's shape, and there is room for it
pub next_fits : (f : Held) (number : ℕ) (id : UpdateId) (e : Entry) → IsHeld f → MayCommit (log_of f.state) number id → staged_as f.state.staged id ≡ Some e
    → (length f.state.history < 1048576) × IsChangeOf f.state.shape e.change
next_fits f number id e held may there =
    let next : IsState (state_appended f.state id (Some e)) = subst (λ (o : Option Entry). IsState (state_appended f.state id o)) there (held_appended f number id held may).state in (
      omega (arith, (history_is (state_appended f.state id (Some e)) next).few, length-append f.state.history (e ∷ [])),
      (all_last (IsEntryOf f.state.shape) f.state.history e next.entries).change,
    )

-- a folder as it begins
pub held_opened : (role : Side) (c : FolderConfig) → IsDims c.shape → 1 ≤ c.retained → c.retained ≤ 256 → IsHeld (opened role c)
held_opened role c dims some few = record {
  dims = dims;
  some = some;
  few = few;
  state = empty_is_state role c.shape c.retained;
  named = tt;
  waiting = λ m. subst IsNamedPlace (sym (nothing_staged 64 m)) tt;
}

-- ---- a folder by its parts

abbrev pub by_parts : ℕ → Dims → ℕ → List Entry → Log → Held
by_parts number shape retained history log = record { number = number; state = record { role = log.role; shape = shape; retained = retained; history = history; staged = log.staged } }

-- what is true of a folder whose log and history are these
abbrev pub AreParts : ℕ → Dims → ℕ → List Entry → Log → Type 0
AreParts number shape retained history log = IsHeld (by_parts number shape retained history log) × (log ≡ log_of (by_parts number shape retained history log).state)

pub parts_staged : (number : ℕ) (shape : Dims) (retained : ℕ) (history : List Entry) (log log' : Log) (e e' : Entry) → AreParts number shape retained history log
    → log' ≡ log_after log (Staged e') → e' ≡ e → look_stage (log_of (by_parts number shape retained history log).state) e ≡ Ok New → IsEntry e → AreParts number shape retained history log'
parts_staged number shape retained history log log' e e' whole after_is same fresh is =
    let f : Held = by_parts number shape retained history log in
    let log_is : log' ≡ log_after log (Staged e) = after_is ∙ ap (λ (x : Entry). log_after log (Staged x)) same in
    subst (AreParts number shape retained history) (sym log_is)
    (held_staged f e whole.0 fresh is, ap (λ (l : Log). log_after l (Staged e)) whole.1)

pub parts_appended : (number : ℕ) (shape : Dims) (retained : ℕ) (history history' : List Entry) (log log' : Log) (n : ℕ) (id : UpdateId) (e : Entry) → AreParts number shape retained history log
    → MayCommit (log_of (by_parts number shape retained history log).state) n id → log' ≡ log_after log (Appended id) → staged_as log.staged id ≡ Some e → history' ≡ history ++ e ∷ [] → AreParts number shape retained history' log'
parts_appended number shape retained history history' log log' n id e whole may after_is there more =
    let f : Held = by_parts number shape retained history log in
    let next : Log = log_appended log id (Some e) in
    let log_is : log' ≡ next = after_is ∙ ap (log_appended log id) there in
    let held : IsHeld (in_state (state_appended f.state id (Some e)) f) = subst (λ (o : Option Entry). IsHeld (in_state (state_appended f.state id o) f)) there (held_appended f n id whole.0 may) in
    let equal : log_of (state_appended f.state id (Some e)) ≡ log_appended (log_of f.state) id (Some e) =
    subst (λ (o : Option Entry). log_of (state_appended f.state id o) ≡ log_appended (log_of f.state) id o) there (log_of_after f.state (Appended id)) in
    let mine : next ≡ log_of (state_appended f.state id (Some e)) = ap (λ (l : Log). log_appended l id (Some e)) whole.1 ∙ sym equal in
    subst (λ (h : List Entry). AreParts number shape retained h log') (sym more)
    (subst (AreParts number shape retained (history ++ e ∷ [])) (sym log_is) (held, mine))

-- a folder as it begins
pub parts_opened : (number : ℕ) (shape : Dims) (retained : ℕ) (history : List Entry) (log : Log) (role : Side) → IsDims shape → 1 ≤ retained → retained ≤ 256 → log ≡ empty_log role shape → history ≡ [] → AreParts number shape retained history log
parts_opened number shape retained history log role dims some few log_is none =
    subst (λ (h : List Entry). AreParts number shape retained h log) (sym none)
    (subst (AreParts number shape retained []) (sym log_is)
    (held_opened role (record { folder = record { 0 = number }; shape = shape; retained = retained }) dims some few, refl))
