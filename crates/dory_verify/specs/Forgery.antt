-- What a lying domain's reply would have to be so that the tags still add up.
use Rattle.std.specs.Prelude.{ℕ, ◌≡◌, ◌⊎◌, Bool, true, false, List, [], ◌∷◌, map, bit_xor, if◌then◌else◌}
use Rattle.std.specs.List.{AllZip}
use Rattle.dory_base.specs.Xor.{xor}
use Rattle.dory_base.specs.declared.found.Place.{Place}
use Rattle.dory_base.specs.declared.found.Sum.{Sum}
use Rattle.dory_base.specs.Sum.{xor_all, sum_of}
use Rattle.dory_base.specs.declared.entry.Entry.{Entry}
use Rattle.dory_base.specs.History.{version_of}
use Rattle.dory_base.specs.Table.{Slots, manifest_of, table_of}
use Rattle.dory_hmac.specs.declared.folder_keys.FolderKeys.{FolderKeys}
use Rattle.dory_verify.specs.Tags.{line_tag}

-- the lines at which two lists of bits differ
abbrev pub flips_of : List Place → List Bool → List Bool → List Place
flips_of [] given would = []
flips_of (p ∷ places) [] would = []
flips_of (p ∷ places) (b ∷ given) [] = []
flips_of (p ∷ places) (b ∷ given) (w ∷ would) = if xor b w then p ∷ flips_of places given would else flips_of places given would

-- the XOR of a line's two cell tags, for cell 0 and for cell 1
abbrev pub both_tags : (Place → Bool → ℕ) → Place → ℕ
both_tags tag p = bit_xor (tag p false) (tag p true)

-- by how much a sum's tag is off another's
abbrev pub shift_of : Sum → Sum → ℕ
shift_of given would = bit_xor given.tag would.tag

-- a probe of a domain: its column, and the shares that the domain was sent
pub record Probe : Type 0 where
  pub column : ℕ
  pub shares : List Bool

-- what an honest domain would have answered to a probe
abbrev pub would_of : Slots → Probe → Sum
would_of slots p = sum_of slots p.shares

-- the sum is what an honest domain would have answered, tag and bits
abbrev pub IsHonest : Slots → Probe → Sum → Type 0
IsHonest slots p given = given ≡ would_of slots p

-- the lines that a sum flips
abbrev pub flips : Slots → Probe → Sum → List Place
flips slots p given = flips_of (manifest_of slots) given.bits (would_of slots p).bits

-- the sum's tag is shifted by the two tags of each line that it flips
abbrev pub IsShifted : (ℕ → Place → Bool → ℕ) → Slots → Probe → Sum → Type 0
IsShifted tag slots p given = shift_of given (would_of slots p) ≡ xor_all (map (both_tags (tag p.column)) (flips slots p given))

-- a line is flipped at some probe
abbrev pub SomeFlip : Slots → List Probe → List Sum → Type 0
SomeFlip slots [] sums = ⊥
SomeFlip slots (p ∷ probes) [] = ⊥
SomeFlip slots (p ∷ probes) (s ∷ sums) = ((first : Place) × (more : List Place) × (flips slots p s ≡ first ∷ more)) ⊎ SomeFlip slots probes sums

-- The forgery: a line is flipped at some probe, and at every probe the tag is shifted by the two tags of each flipped line.
pub record IsForgeryOf (tag : ℕ → Place → Bool → ℕ) (slots : Slots) (probes : List Probe) (sums : List Sum) : Type 0 where
  pub some : SomeFlip slots probes sums
  pub each : AllZip (IsShifted tag slots) probes sums

-- the probes of a search: its columns, and for each the shares that the domain was sent
abbrev pub probes_of : List ℕ → List (List Bool) → List Probe
probes_of [] shares = []
probes_of (c ∷ columns) [] = []
probes_of (c ∷ columns) (s ∷ shares) = record { column = c; shares = s } ∷ probes_of columns shares

-- The forgery, by the cell tags of a folder's keys: what a domain that was sent these shares found isn't what it would
-- have found at this version of the history, and yet the tags are shifted just so that they add up.
abbrev pub IsForgery : FolderKeys → List Entry → ℕ → List ℕ → List (List Bool) → List Sum → Type 0
IsForgery keys history version columns shares sums =
    IsForgeryOf (line_tag keys) (table_of (version_of version history)) (probes_of columns shares) sums
