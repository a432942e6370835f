-- What a domain answers to Latest and Search, by its history.
use Rattle.std.specs.Prelude.{ℕ, ◌≡◌, ◌+◌, ◌-◌, ◌&&◌, nat_le, List, ◌⊎◌, length, map, if◌then◌else◌, Option, Some, None}
use Rattle.dory_base.specs.Dims.{Dims, same_shape}
use Rattle.dory_base.specs.declared.entry.Entry.{Entry}
use Rattle.dory_base.specs.declared.found.Found.{Found}
use Rattle.dory_base.specs.declared.refusal.Refusal.TheVariants.{ShapeWrong, Unretained, NoMemory}
use Rattle.dory_base.specs.History.{version_of}
use Rattle.dory_base.specs.Table.{table_of, manifest_of}
use Rattle.dory_base.specs.Sum.{sum_of}
use Rattle.dory_dpf.specs.PointKey.{PointKey, shares_of}
use Rattle.dory_wire.specs.declared.message.Want.{Want}
use Rattle.dory_wire.specs.declared.message.Want.TheVariants.{Latest, Search, Which, Stage, Order, Follow}
use Rattle.dory_wire.specs.declared.message.What.{What}
use Rattle.dory_wire.specs.declared.message.What.TheVariants.{At, Found as Finds, Id, Staged, Committed, Refused}

-- the oldest version that is retained of a history of n entries
abbrev pub oldest_of : ℕ → ℕ → ℕ
oldest_of retained n = n + 1 - retained

-- what a version holds: its manifest, and for each key the sum that the key's shares select
abbrev pub found_of : List Entry → ℕ → List PointKey → Found
found_of history number keys =
    record {
      version = number;
      manifest = manifest_of (table_of (version_of number history));
      sums = map (λ key. sum_of (table_of (version_of number history)) (shares_of key)) keys;
    }

-- the answer to a search of a folder with this shape, so many retained versions and this history
abbrev pub search_of : Dims → ℕ → List Entry → ℕ → Dims → List PointKey → What
search_of shape retained history number asked keys =
    if same_shape asked shape
    then (if nat_le (oldest_of retained (length history)) number && nat_le number (length history)
    then Finds (found_of history number keys)
    else Refused (Unretained (oldest_of retained (length history)) (length history)))
    else Refused (ShapeWrong shape.depth shape.probes)

-- the answer of a folder to a read; the other requests are none
abbrev pub read_of : Dims → ℕ → List Entry → Want → Option What
read_of shape retained history Latest = Some (At (length history))
read_of shape retained history (Search number asked keys) = Some (search_of shape retained history number asked keys)
read_of shape retained history (Which number) = None
read_of shape retained history (Stage e) = None
read_of shape retained history (Order name) = None
read_of shape retained history (Follow number name) = None

-- memory may run out for a Found, and for no other answer
abbrev pub IsReadAs : What → What → Type 0
IsReadAs (Finds f) given = (given ≡ Finds f) ⊎ (given ≡ Refused NoMemory)
IsReadAs (At length) given = given ≡ At length
IsReadAs (Id number name) given = given ≡ Id number name
IsReadAs (Staged name) given = given ≡ Staged name
IsReadAs (Committed number name) given = given ≡ Committed number name
IsReadAs (Refused code) given = given ≡ Refused code

-- so is what is given to a read; nothing is, where it is none
abbrev pub IsReadOf : Option What → What → Type 0
IsReadOf (Some answer) given = IsReadAs answer given
IsReadOf None given = ⊥
