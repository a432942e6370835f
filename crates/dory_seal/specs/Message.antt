-- What is authenticated of a cell, and what its mask is made from, as bytes. Numbers have their highest byte first.
use Rattle.std.specs.Prelude.{ℕ, Bool, List, [], ◌∷◌, ◌++◌, if◌then◌else◌}
use Rattle.std.specs.Int.{w32, w64, to_be_bytes}
use Rattle.dory_base.specs.declared.ids.DocId.{DocId}
use Rattle.dory_base.specs.declared.ids.UpdateId.{UpdateId}

-- the document in four bytes, the member in four, the serial in eight, and a number in four
abbrev pub cell_place : DocId → UpdateId → ℕ → List ℕ
cell_place doc id number =
    to_be_bytes w32 doc.0 ++ to_be_bytes w32 id.member.0 ++ to_be_bytes w64 id.serial ++ to_be_bytes w32 number

-- the message of a block of 256 mask bits: its number is the last
abbrev pub mask_message : DocId → UpdateId → ℕ → List ℕ
mask_message doc id block = cell_place doc id block

-- the message of a cell: its column is the last number, and then comes the cell as a byte, 0 or 1
abbrev pub cell_message : DocId → UpdateId → ℕ → Bool → List ℕ
cell_message doc id column cell = cell_place doc id column ++ (if cell then 1 else 0) ∷ []
