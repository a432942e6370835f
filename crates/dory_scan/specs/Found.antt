-- What a scan answers.
use Rattle.std.specs.Prelude.{ℕ, ◌≡◌, Bool, List, length, map, All}
use Rattle.dory_base.specs.declared.found.Found.{Found}
use Rattle.dory_base.specs.Sum.{sum_of}
use Rattle.dory_base.specs.Table.{manifest_of}
use Rattle.dory_base.specs.TableMeaning.{Kept}

-- each selector has a bit for each column
abbrev pub AreSelectors : ℕ → List (List Bool) → Type 0
AreSelectors columns selectors = All (λ s. length s ≡ columns) selectors

-- the number of a table, its live slots, and a sum for each selector
abbrev pub found_in : Kept → List (List Bool) → Found
found_in t selectors = record { version = t.number; manifest = manifest_of t.slots; sums = map (sum_of t.slots) selectors }
