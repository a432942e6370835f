-- What a folder's members have posted and removed, in the order in which it was committed.
use Rattle.std.specs.Prelude.{ℕ, ◌≡◌, ◌≢◌, ◌≤◌, ◌^◌, ◌++◌, List, length, take, AllPairs}
use Rattle.std.specs.List.{AllByRecursion}
use Rattle.dory_base.specs.Dims.{Dims}
use Rattle.dory_base.specs.declared.entry.Entry.{Entry}
use Rattle.dory_base.specs.declared.entry.Change.{Change}
use Rattle.dory_base.specs.declared.entry.Change.TheVariants.{Post, Remove}

-- a post of this shape, whose row has a cell for each column, and a tag for each cell
pub record IsPostOf (shape posted : Dims) (cells tags : ℕ) : Type 0 where
  pub shape_is : posted ≡ shape
  pub row : cells ≡ 2 ^ shape.depth
  pub tags_are : tags ≡ 2 ^ shape.depth

-- what may be done to a folder of this shape
abbrev pub IsChangeOf : Dims → Change → Type 0
IsChangeOf shape (Post posted row tags) = IsPostOf shape posted (length row) (length tags)
IsChangeOf shape Remove = Unit {0}

-- a post whose row and tags have its own shape, or a removal
abbrev pub IsWhole : Change → Type 0
IsWhole (Post posted row tags) = IsPostOf posted posted (length row) (length tags)
IsWhole Remove = Unit {0}

-- what may be committed in a folder of this shape
pub record IsEntryOf (shape : Dims) (e : Entry) : Type 0 where
  pub serial : 1 ≤ e.id.serial
  pub change : IsChangeOf shape e.change

-- a history: at most 1,048,576 entries, no id twice
pub record IsHistory (shape : Dims) (history : List Entry) : Type 0 where
  pub few : length history ≤ 1048576
  pub distinct : AllPairs (λ a b. a.id ≢ b.id) history
  pub entries : AllByRecursion (IsEntryOf shape) history

-- the version of this number is what was committed up to it; version 0 is the empty folder
abbrev pub version_of : ℕ → List Entry → List Entry
version_of number history = take number history

-- the later history is the earlier one, and more
abbrev pub IsPrefix : List Entry → List Entry → Type 0
IsPrefix earlier later = (more : List Entry) × (later ≡ earlier ++ more)
