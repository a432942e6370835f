-- What two replies list together: the documents of the lines whose plain cells are set at every probe.
use Rattle.std.specs.Prelude.{ℕ, ◌≡◌, ◌+◌, ◌&&◌, Bool, true, false, List, [], ◌∷◌, slice_index_or, if◌then◌else◌}
use Rattle.dory_base.specs.Xor.{xor}
use Rattle.dory_base.specs.declared.found.Place.{Place}
use Rattle.dory_base.specs.declared.found.Sum.{Sum}
use Rattle.dory_base.specs.declared.found.Found.{Found}
use Rattle.dory_hmac.specs.declared.folder_keys.FolderKeys.{FolderKeys}
use Rattle.dory_seal.specs.Seal.{mask_bit_of}
use Rattle.dory_verify.specs.declared.answer.Answer.{Answer}
use Rattle.dory_verify.specs.Answer.{IsRising, numbers}
use Rattle.dory_verify.specs.Tags.{xor_bits}

-- the XOR of the two replies' bits, for each probe
abbrev pub crossed : List Sum → List Sum → List (List Bool)
crossed [] follow = []
crossed (l ∷ lead) [] = []
crossed (l ∷ lead) (f ∷ follow) = xor_bits l.bits f.bits ∷ crossed lead follow

-- a line's sealed cell XOR its mask bit
abbrev pub plain_cell : FolderKeys → Place → ℕ → Bool → Bool
plain_cell keys p column cell = xor cell (mask_bit_of keys p.doc p.id column)

-- the plain cells of a line are set at every column
abbrev pub is_line_listed : FolderKeys → List ℕ → List (List Bool) → ℕ → Place → Bool
is_line_listed keys [] bits line p = true
is_line_listed keys (c ∷ columns) [] line p = false
is_line_listed keys (c ∷ columns) (b ∷ bits) line p = plain_cell keys p c (slice_index_or b line false) && is_line_listed keys columns bits line p

-- the documents of the lines from this one on whose plain cells are set
abbrev pub listed_from : FolderKeys → List ℕ → List (List Bool) → ℕ → List Place → List ℕ
listed_from keys columns bits line [] = []
listed_from keys columns bits line (p ∷ places) =
    if is_line_listed keys columns bits line p
    then p.doc.0 ∷ listed_from keys columns bits (line + 1) places
    else listed_from keys columns bits (line + 1) places

-- the documents that two replies with one manifest list at these columns
abbrev pub listed_in : FolderKeys → List ℕ → Found → Found → List ℕ
listed_in keys columns lead follow = listed_from keys columns (crossed lead.sums follow.sums) 0 lead.manifest

-- the answer names this version, and lists what the two found, rising
pub record Lists (keys : FolderKeys) (columns : List ℕ) (version : ℕ) (lead follow : Found) (answer : Answer) : Type 0 where
  pub named : answer.version ≡ version
  pub docs : IsRising (listed_in keys columns lead follow) (numbers answer.docs)
