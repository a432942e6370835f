-- A point function key, its share at each place, and the two keys of a position.
use Rattle.std.specs.Prelude.{ℕ, zero, suc, ◌≡◌, ◌≤◌, ◌-◌, ◌/◌, ◌%◌, ◌^◌, ◌==◌, Bool, ◌&&◌, if◌then◌else◌, List, [], ◌∷◌, All, length, map, take, Option, None, Some}
use Rattle.std.specs.Int.{bit_at}
use Rattle.std.specs.List.{range_with_len}
use Rattle.dory_base.specs.Xor.{xor}
use Rattle.dory_dpf.specs.declared.tree.Correction.{Correction}
use Rattle.dory_dpf.specs.declared.tree.Node.{Node}
use Rattle.dory_dpf.specs.Sixteen.{xor_bytes, byte_bit, one_bit}
use Rattle.dory_dpf.specs.Tree.{corrections_of, walk}

-- what a party holds: the depth of the tree, its number, its seed, a correction for each level and, in form 2, the last word
pub record PointKey : Type 0 where
  pub depth : ℕ
  pub party : ℕ
  pub seed : List ℕ
  pub corrections : List Correction
  pub last : Option (List ℕ)

-- form 2 is the form with a last word
abbrev pub form_with : Option (List ℕ) → ℕ
form_with None = 1
form_with (Some word) = 2

-- the form of a key
abbrev pub form_of : PointKey → ℕ
form_of key = form_with key.last

-- how many corrections a key has: in form 2 the tree ends seven levels higher, at 128 places a leaf
abbrev pub levels_of : ℕ → ℕ → ℕ
levels_of form depth = if form == 1 then depth else depth - 7

-- the key that these parts keep, with the corrections of its levels alone
abbrev pub kept_key : ℕ → ℕ → List ℕ → List Correction → Option (List ℕ) → PointKey
kept_key depth party seed corrections last = record {
  depth = depth;
  party = party;
  seed = seed;
  corrections = take (levels_of (form_with last) depth) corrections;
  last = last;
}

-- the leaf that a place belongs to
abbrev pub leaf_of : ℕ → ℕ → ℕ
leaf_of form place = if form == 1 then place else place / 128

-- how many bytes the last word has
abbrev pub last_len : ℕ → ℕ
last_len form = if form == 1 then 0 else 16

-- the bytes of the last word, where there is one
abbrev pub last_bytes : Option (List ℕ) → List ℕ
last_bytes None = []
last_bytes (Some word) = word

-- the lowest bits of a leaf's number, the highest first
unfoldable pub path_of : ℕ → ℕ → List Bool
path_of zero leaf = []
path_of (suc n) leaf = (bit_at leaf n == 1) ∷ path_of n leaf

-- the path to a place's leaf
abbrev pub path_to : ℕ → ℕ → ℕ → List Bool
path_to form depth place = path_of (levels_of form depth) (leaf_of form place)

-- where a party's walks begin: party 1 with the bit set
abbrev pub root_of : ℕ → List ℕ → Node
root_of party seed = record { seed = seed; bit = party == 1 }

-- the end of a key's walk to a place
abbrev pub key_walk_end : PointKey → ℕ → Node
key_walk_end key place = walk (root_of key.party key.seed) key.corrections (path_to (form_of key) key.depth place)

-- the share at a place, from the walk's end: in form 1 the control bit; in form 2 the seed's bit that the place names,
-- XORed with that bit of the last word where the control bit is set
abbrev pub share_at : Option (List ℕ) → Node → ℕ → Bool
share_at None end place = end.bit
share_at (Some word) end place = xor (byte_bit end.seed (place % 128)) (end.bit && byte_bit word (place % 128))

-- the share of a key at a place
abbrev pub share_of : PointKey → ℕ → Bool
share_of key place = share_at key.last (key_walk_end key place) place

-- the shares at all places
unfoldable pub shares_of : PointKey → List Bool
shares_of key = map (share_of key) (range_with_len 0 (2 ^ key.depth))

-- the last word of a position: the XOR of the seeds at the ends of its two walks and of the position's one bit
abbrev pub last_word_of : List Bool → Node → Node → ℕ → List ℕ
last_word_of path m n position =
    let cs = corrections_of path m n in
    xor_bytes (xor_bytes (walk m cs path).seed (walk n cs path).seed) (one_bit (position % 128))

-- the key of a party for a position in form 1, with the seeds of both parties
abbrev pub long_key_of : ℕ → ℕ → ℕ → List ℕ → List ℕ → PointKey
long_key_of party depth position seed0 seed1 = record {
  depth = depth;
  party = party;
  seed = if party == 0 then seed0 else seed1;
  corrections = corrections_of (path_to 1 depth position) (root_of 0 seed0) (root_of 1 seed1);
  last = None;
}

-- the same in form 2
abbrev pub short_key_of : ℕ → ℕ → ℕ → List ℕ → List ℕ → PointKey
short_key_of party depth position seed0 seed1 = record {
  depth = depth;
  party = party;
  seed = if party == 0 then seed0 else seed1;
  corrections = corrections_of (path_to 2 depth position) (root_of 0 seed0) (root_of 1 seed1);
  last = Some (last_word_of (path_to 2 depth position) (root_of 0 seed0) (root_of 1 seed1) position);
}

-- what every key is: depth 8 to 11, party 0 or 1, and as many corrections and bytes as its form has
pub record IsKey (key : PointKey) : Type 0 where
  pub low : 8 ≤ key.depth
  pub high : key.depth ≤ 11
  pub parties : key.party ≤ 1
  pub seed : length key.seed ≡ 16
  pub levels : length key.corrections ≡ levels_of (form_of key) key.depth
  pub whole : All (λ c. length c.seed ≡ 16) key.corrections
  pub last : length (last_bytes key.last) ≡ last_len (form_of key)

-- a key of this form and depth
pub record IsKeyOf (f d : ℕ) (k : PointKey) : Type 0 where
  pub key : IsKey k
  pub form : form_of k ≡ f
  pub depth : k.depth ≡ d
