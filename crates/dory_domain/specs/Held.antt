-- A folder as its domain holds it.
use Rattle.std.specs.Prelude.{ℕ, ◌≡◌, ◌==◌, ◌<◌, ◌≤◌, ◌^◌, ◌≢◌, Bool, cond, List, [], ◌∷◌, length, AllPairs, Option, Some, None}
use Rattle.std.specs.List.{AllByRecursion, find}
use Rattle.dory_base.specs.Dims.{IsDims}
use Rattle.dory_base.specs.declared.ids.Side.{Side}
use Rattle.dory_base.specs.declared.entry.Entry.{Entry}
use Rattle.dory_base.specs.declared.refusal.Refusal.TheVariants.{NoFolder}
use Rattle.dory_base.specs.Log.{staged_by}
use Rattle.dory_base.specs.Step.{State, IsState, empty_state}
use Rattle.dory_wire.specs.declared.message.Want.{Want}
use Rattle.dory_wire.specs.declared.message.What.{What}
use Rattle.dory_wire.specs.declared.message.What.TheVariants.{Refused}
use Rattle.dory_wire.specs.StepReply.{Steps}
use Rattle.dory_domain.specs.declared.config.FolderConfig.{FolderConfig}

-- a folder's number, and its state
pub record Held : Type 0 where
  pub number : ℕ
  pub state : State

-- a document that a message can carry
abbrev pub IsNamed : Entry → Type 0
IsNamed e = e.doc.0 < 2 ^ 32

-- a place is empty, or has an update of such a document
abbrev pub IsNamedPlace : Option Entry → Type 0
IsNamedPlace None = Unit {0}
IsNamedPlace (Some e) = IsNamed e

-- what is true of every folder of a domain
pub record IsHeld (f : Held) : Type 0 where
  pub dims : IsDims f.state.shape
  pub some : 1 ≤ f.state.retained
  pub few : f.state.retained ≤ 256
  pub state : IsState f.state
  pub named : AllByRecursion IsNamed f.state.history
  pub waiting : (member : ℕ) → IsNamedPlace (staged_by f.state.staged member)

-- a folder as it begins
abbrev pub opened : Side → FolderConfig → Held
opened role c = record { number = c.folder.0; state = empty_state role c.shape c.retained }

-- the same folder in another state
abbrev pub in_state : State → Held → Held
in_state next f = record { number = f.number; state = next }

-- this is the folder of that number
abbrev pub is_folder : ℕ → Held → Bool
is_folder number f = f.number == number

-- the first folder of this number
abbrev pub folder_in : List Held → ℕ → Option Held
folder_in folders number = find (is_folder number) folders

-- the folders, of which the first of this number is in another state
abbrev pub folders_with : ℕ → State → List Held → List Held
folders_with number next [] = []
folders_with number next (f ∷ folders) = cond (is_folder number f) (in_state next f ∷ folders) (f ∷ folders_with number next folders)

-- a domain has at most 8 folders, no number twice
pub record AreHeld (folders : List Held) : Type 0 where
  pub few : length folders ≤ 8
  pub distinct : AllPairs (λ a b. a.number ≢ b.number) folders

-- what a domain does at a request: the folder of this number steps, or there is none
abbrev pub ServesBy : Option Held → List Held → ℕ → Want → What → List Held → Type 0
ServesBy None folders number want what now = (what ≡ Refused NoFolder) × (now ≡ folders)
ServesBy (Some f) folders number want what now = (next : State) × Steps f.state want what next × (now ≡ folders_with number next folders)

-- the same by the folder of this number
abbrev pub Serves : List Held → ℕ → Want → What → List Held → Type 0
Serves folders number want what now = ServesBy (folder_in folders number) folders number want what now

-- a refusal changes nothing
abbrev pub KeptIfRefused : List Held → List Held → What → Type 0
KeptIfRefused folders now (Refused code) = now ≡ folders
KeptIfRefused folders now what = Unit {0}
