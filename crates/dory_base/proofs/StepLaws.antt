-- What is true of every folder: a folder's state follows its log.
use Rattle.std.proofs.Common.{inl, inr, ◌≡◌, ℕ, ◌<◌, ◌^◌, List, [], ◌∷◌, ◌++◌, length, refl, ap, sym, ◌∙◌, arith, subst}
use Rattle.std.specs.Prelude.{true, Option, Some, None, slice_set}
use Rattle.std.proofs.Math.ListN.{length-map}
use Rattle.std.proofs.lemmas.List.{get_or-map}
use Rattle.std.proofs.lemmas.Bool.{cases_eq}
use Rattle.dory_base.specs.Dims.{Dims}
use Rattle.dory_base.specs.History.{IsChangeOf, IsEntryOf, IsHistory, IsWhole}
use Rattle.dory_base.specs.declared.ids.Side.{Side}
use Rattle.dory_base.specs.declared.ids.UpdateId.{UpdateId}
use Rattle.dory_base.specs.declared.entry.Entry.{Entry}
use Rattle.dory_base.specs.declared.entry.Change.{Change}
use Rattle.dory_base.specs.declared.entry.Change.TheVariants.{Post, Remove}
use Rattle.dory_base.specs.Log.{Log, staged_by, staged_as, has_shape}
use Rattle.dory_base.specs.declared.event.Event.{Event}
use Rattle.dory_base.specs.declared.event.Event.TheVariants.{Staged, Appended}
use Rattle.dory_base.specs.Step.{State, empty_state, ids_of, log_of, log_after, log_appended, state_appended, after, IsStagedOf, IsLog, IsState}
use Rattle.dory_base.proofs.SameLaws.{shape_decides}
use Rattle.dory_base.proofs.LogLaws.{MayHappen, empty_is_log, after_is_log, all_snoc, log_distinct, nothing_staged, place_set_same, place_set_other, place_within, with_id_some}

-- ---- the log of a state

pub ids_snoc : (history : List Entry) (e : Entry) → ids_of (history ++ e ∷ []) ≡ ids_of history ++ e.id ∷ []
ids_snoc [] e = refl
ids_snoc (x ∷ xs) e = ap (λ (ids : List UpdateId). x.id ∷ ids) (ids_snoc xs e)

appended_log : (s : State) (id : UpdateId) (o : Option Entry) → staged_as s.staged id ≡ o → log_of (state_appended s id o) ≡ log_appended (log_of s) id o
appended_log s id None h = refl
appended_log s id (Some e) h =
    let p = with_id_some id (staged_by s.staged id.member.0) e h in
    ap (λ (ids : List UpdateId). let l : Log = record { role = s.role; shape = s.shape; ids = ids; staged = slice_set s.staged id.member.0 None } in l)
    (ids_snoc s.history e ∙ ap (λ (i : UpdateId). ids_of s.history ++ i ∷ []) p.1)

-- an event does to a folder's log what it does to a log
pub log_of_after : (s : State) (event : Event) → log_of (after s event) ≡ log_after (log_of s) event
log_of_after s (Staged e) = refl
log_of_after s (Appended id) = appended_log s id (staged_as s.staged id) refl

-- an event leaves role, shape and the number of retained versions
pub record KeepsConfig (s s' : State) : Type 0 where
  pub role : s'.role ≡ s.role
  pub shape : s'.shape ≡ s.shape
  pub retained : s'.retained ≡ s.retained

appended_config : (s : State) (id : UpdateId) (o : Option Entry) → KeepsConfig s (state_appended s id o)
appended_config s id None = record { role = refl; shape = refl; retained = refl }
appended_config s id (Some e) = record { role = refl; shape = refl; retained = refl }

pub keeps_config : (s : State) (event : Event) → KeepsConfig s (after s event)
keeps_config s (Staged e) = record { role = refl; shape = refl; retained = refl }
keeps_config s (Appended id) = appended_config s id (staged_as s.staged id)

-- ---- what is true of every folder

pub empty_is_state : (role : Side) (shape : Dims) (retained : ℕ) → IsState (empty_state role shape retained)
empty_is_state role shape retained = record {
  log = empty_is_log role shape;
  entries = tt;
  staged = λ m. subst (λ (o : Option Entry). IsStagedOf shape o) (sym (nothing_staged 64 m)) tt;
}

-- a whole update of a folder's shape may be committed in it
pub shaped_change : (shape : Dims) (change : Change) → has_shape shape change ≡ true → IsWhole change → IsChangeOf shape change
shaped_change shape (Post posted row tags) h whole =
    let e : posted ≡ shape = (shape_decides posted shape).0 h in
    record { shape_is = e; row = whole.row ∙ ap (λ (d : Dims). 2 ^ d.depth) e; tags_are = whole.tags_are ∙ ap (λ (d : Dims). 2 ^ d.depth) e }
shaped_change shape Remove h whole = tt

-- an event whose update is whole
abbrev pub IsWholeEvent : Event → Type 0
IsWholeEvent (Staged e) = IsWhole e.change
IsWholeEvent (Appended id) = Unit {0}

staged_entries : (s : State) (e : Entry) → IsState s → e.id.member.0 < length s.staged → IsEntryOf s.shape e → (m : ℕ) →
    IsStagedOf s.shape (staged_by (slice_set s.staged e.id.member.0 (Some e)) m)
staged_entries s e good within entry m =
    elim (cases_eq e.id.member.0 m) [
      | inl eq ↦
          subst (λ (m : ℕ). IsStagedOf s.shape (staged_by (slice_set s.staged e.id.member.0 (Some e)) m)) eq
          (subst (λ (o : Option Entry). IsStagedOf s.shape o) (sym (place_set_same s.staged e.id.member.0 (Some e) within)) entry)
      | inr other ↦
          subst (λ (o : Option Entry). IsStagedOf s.shape o) (sym (place_set_other s.staged e.id.member.0 m (Some e) other)) (good.staged m)
    ]

left_entries : (s : State) (i : ℕ) → IsState s → i < length s.staged → (m : ℕ) → IsStagedOf s.shape (staged_by (slice_set s.staged i None) m)
left_entries s i good within m =
    elim (cases_eq i m) [
      | inl eq ↦
          subst (λ (m : ℕ). IsStagedOf s.shape (staged_by (slice_set s.staged i None) m)) eq
          (subst (λ (o : Option Entry). IsStagedOf s.shape o) (sym (place_set_same s.staged i None within)) tt)
      | inr other ↦
          subst (λ (o : Option Entry). IsStagedOf s.shape o) (sym (place_set_other s.staged i m None other)) (good.staged m)
    ]

appended_state : (s : State) (id : UpdateId) (o : Option Entry) → staged_as s.staged id ≡ o → IsState s → IsLog (log_of (state_appended s id o)) → IsState (state_appended s id o)
appended_state s id None h good log = good
appended_state s id (Some e) h good log =
    let p = with_id_some id (staged_by s.staged id.member.0) e h in
    let entry : IsEntryOf s.shape e = subst (λ (o : Option Entry). IsStagedOf s.shape o) p.0 (good.staged id.member.0) in
    record {
      log = log;
      entries = all_snoc (IsEntryOf s.shape) s.history e good.entries entry;
      staged = left_entries s id.member.0 good (place_within s.staged id.member.0 e p.0);
    }

-- each event that may happen keeps what is true of every folder
pub after_is_state : (s : State) (event : Event) → IsState s → MayHappen (log_of s) event → IsWholeEvent event → IsState (after s event)
after_is_state s (Staged e) good may whole =
    let entry : IsEntryOf s.shape e = record { serial = may.1.some; change = shaped_change s.shape e.change may.0.shape whole } in
    record {
      log = after_is_log (log_of s) (Staged e) good.log may;
      entries = good.entries;
      staged = staged_entries s e good (omega (arith, may.0.member, good.log.places)) entry;
    }
after_is_state s (Appended id) good may whole =
    appended_state s id (staged_as s.staged id) refl good
    (subst (λ (l : Log). IsLog l) (sym (log_of_after s (Appended id))) (after_is_log (log_of s) (Appended id) good.log may))

-- a folder's history is a history
pub history_is : (s : State) → IsState s → IsHistory s.shape s.history
history_is s good =
    let n : length (ids_of s.history) ≡ length s.history = length-map s.history (λ (e : Entry). e.id) in
    record {
      few = omega (arith, good.log.few);
      distinct = λ i j d lt low e.
          log_distinct (log_of s) good.log i j d.id lt (omega arith)
          (get_or-map (λ (e : Entry). e.id) s.history i d d.id (omega arith) ∙ e ∙ sym (get_or-map (λ (e : Entry). e.id) s.history j d d.id low));
      entries = good.entries;
    }
