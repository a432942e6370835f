-- The tags of the lines of a manifest, in one column.
use Rattle.std.specs.Prelude.{ℕ, Bool, List, [], ◌∷◌}
use Rattle.dory_base.specs.Xor.{xor}
use Rattle.dory_base.specs.declared.found.Place.{Place}
use Rattle.dory_base.specs.Sum.{xor_all}
use Rattle.dory_hmac.specs.declared.folder_keys.FolderKeys.{FolderKeys}
use Rattle.dory_seal.specs.Seal.{cell_tag_of}

-- two lists of bits, XORed place by place
abbrev pub xor_bits : List Bool → List Bool → List Bool
xor_bits [] bs = []
xor_bits (a ∷ more) [] = []
xor_bits (a ∷ more) (b ∷ bs) = xor a b ∷ xor_bits more bs

-- the tags of the lines' cells in one column, where the cells are these bits
abbrev pub line_tags : (Place → Bool → ℕ) → List Place → List Bool → List ℕ
line_tags tag [] bits = []
line_tags tag (p ∷ places) [] = []
line_tags tag (p ∷ places) (b ∷ bits) = tag p b ∷ line_tags tag places bits

-- the cell tag of a line's document and update in a column
abbrev pub line_tag : FolderKeys → ℕ → Place → Bool → ℕ
line_tag keys column p cell = cell_tag_of keys p.doc p.id column cell

-- the XOR of the lines' cell tags
abbrev pub tag_sum : FolderKeys → ℕ → List Place → List Bool → ℕ
tag_sum keys column places bits = xor_all (line_tags (line_tag keys column) places bits)
