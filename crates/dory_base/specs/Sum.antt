-- What a domain adds up for one probe: a bit for each live slot, and one tag.
use Rattle.std.specs.Prelude.{ℕ, Bool, true, false, ◌&&◌, List, [], ◌∷◌, map, bit_xor}
use Rattle.std.specs.List.{flat_map}
use Rattle.dory_base.specs.declared.entry.Change.{Change}
use Rattle.dory_base.specs.declared.entry.Change.TheVariants.{Post, Remove}
use Rattle.dory_base.specs.declared.found.Sum.{Sum}
use Rattle.dory_base.specs.Table.{Slots, live_of}
use Rattle.dory_base.specs.Xor.{xor}

-- the cells that a change gives to its document
abbrev pub row_of : Change → List Bool
row_of (Post shape row tags) = row
row_of Remove = []

-- the tags of these cells
abbrev pub tags_of : Change → List ℕ
tags_of (Post shape row tags) = tags
tags_of Remove = []

-- whether an odd number of places is set in both
abbrev pub parity : List Bool → List Bool → Bool
parity [] row = false
parity (s ∷ selector) [] = false
parity (s ∷ selector) (cell ∷ row) = xor (s && cell) (parity selector row)

-- the members at the places that are set
abbrev pub selected : {A : Type 0} → List Bool → List A → List A
selected [] xs = []
selected (s ∷ selector) [] = []
selected (true ∷ selector) (x ∷ xs) = x ∷ selected selector xs
selected (false ∷ selector) (x ∷ xs) = selected selector xs

-- the XOR of all tags, which of none is the zero tag
abbrev pub xor_all : List ℕ → ℕ
xor_all [] = 0
xor_all (t ∷ ts) = bit_xor t (xor_all ts)

-- for each live slot the parity of its selected cells, and the XOR of all selected tags
abbrev pub sum_of : Slots → List Bool → Sum
sum_of slots selector =
    record {
      bits = map (λ l. parity selector (row_of l.entry.change)) (live_of slots);
      tag = xor_all (flat_map (λ l. selected selector (tags_of l.entry.change)) (live_of slots));
    }
