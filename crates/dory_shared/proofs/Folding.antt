-- The folder that a published history makes, in either role.
use Rattle.std.proofs.Common.{◌≡◌, ℕ, List, [], ◌∷◌, ◌++◌, length, refl, ap, sym, ◌∙◌, subst, Option, Some, None}
use Rattle.std.specs.List.{fold}
use Rattle.dory_base.specs.Dims.{Dims}
use Rattle.dory_base.specs.declared.entry.Entry.{Entry}
use Rattle.dory_base.specs.declared.event.Event.{Event}
use Rattle.dory_base.specs.declared.event.Event.TheVariants.{Staged, Appended}
use Rattle.dory_base.specs.declared.ids.Side.{Side}
use Rattle.dory_base.specs.declared.ids.Side.TheVariants.{Lead}
use Rattle.dory_base.specs.declared.ids.UpdateId.{UpdateId}
use Rattle.dory_base.specs.Log.{Log, staged_as}
use Rattle.dory_base.specs.Step.{State, empty_state, log_of, log_after, after, state_appended}
use Rattle.dory_base.proofs.StepLaws.{KeepsConfig, keeps_config, log_of_after}
use Rattle.dory_shelf.specs.Published.{Published, folder_of, history_of, with_event}
use Rattle.dory_shelf.proofs.Growing.{folder_snoc}
use Rattle.dory_shared.specs.Seen.{folder_as}

fold_shape : (s : State) (events : List Event) → (fold after s events).shape ≡ s.shape
fold_shape s [] = refl
fold_shape s (e ∷ es) = fold_shape (after s e) es ∙ (keeps_config s e).shape

-- a folder's shape is that of its shelf
pub shape_is : (h : Published) → (folder_of h).shape ≡ h.shelf.shape
shape_is h = fold_shape (empty_state Lead h.shelf.shape h.shelf.retained) h.events

-- a folder by its parts
abbrev pub parts : Side → Dims → ℕ → List Entry → List (Option Entry) → State
parts role shape retained history staged = record { role = role; shape = shape; retained = retained; history = history; staged = staged }

appended_parts : (role : Side) (shape : Dims) (retained : ℕ) (s : State) (id : UpdateId) (o : Option Entry)
    → parts role shape retained (state_appended s id o).history (state_appended s id o).staged ≡ state_appended (parts role shape retained s.history s.staged) id o
appended_parts role shape retained s id None = refl
appended_parts role shape retained s id (Some e) = refl

after_parts : (role : Side) (shape : Dims) (retained : ℕ) (s : State) (e : Event)
    → parts role shape retained (after s e).history (after s e).staged ≡ after (parts role shape retained s.history s.staged) e
after_parts role shape retained s (Staged e) = refl
after_parts role shape retained s (Appended id) = appended_parts role shape retained s id (staged_as s.staged id)

-- one operation more
pub folder_with : (role : Side) (h : Published) (e : Event) → folder_as role (with_event h e) ≡ after (folder_as role h) e
folder_with role h e =
    ap (λ (s : State). parts role h.shelf.shape h.shelf.retained s.history s.staged) (folder_snoc h e)
    ∙ after_parts role h.shelf.shape h.shelf.retained (folder_of h) e

-- the log after one operation more
pub log_with : (role : Side) (h : Published) (e : Event) → log_of (folder_as role (with_event h e)) ≡ log_after (log_of (folder_as role h)) e
log_with role h e = ap log_of (folder_with role h e) ∙ log_of_after (folder_as role h) e

-- the log that an event leaves is that of the history with the event
pub log_goes_on : (role : Side) (h : Published) (e : Event) (log log' : Log) → log ≡ log_of (folder_as role h) → log' ≡ log_after log e → log' ≡ log_of (folder_as role (with_event h e))
log_goes_on role h e log log' is next = next ∙ ap (λ (l : Log). log_after l e) is ∙ sym (log_with role h e)

-- what is appended stands last
pub history_with : (h : Published) (id : UpdateId) (e : Entry) → staged_as (folder_of h).staged id ≡ Some e → history_of (with_event h (Appended id)) ≡ history_of h ++ e ∷ []
history_with h id e there =
    ap (λ (s : State). s.history) (folder_snoc h (Appended id)) ∙ ap (λ (o : Option Entry). (state_appended (folder_of h) id o).history) there
