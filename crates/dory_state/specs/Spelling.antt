-- The bytes that a kept state is written as, and the states that have such bytes.
use Rattle.std.specs.Prelude.{ℕ, ◌≡◌, ◌⊎◌, ◌<◌, ◌≤◌, ◌^◌, Bool, List, [], ◌∷◌, ◌++◌, length, Option, Some, None, IfSome, codes}
use Rattle.dory_base.specs.Dims.{Dims, IsDims, column_count}
use Rattle.dory_fields.specs.Bytes.{eight, four}
use Rattle.dory_fields.specs.Packing.{packed}
use Rattle.dory_state.specs.declared.kept.Pending.{Pending}
use Rattle.dory_state.specs.declared.kept.KeptState.{KeptState}

-- a post has a row, a removal has none
abbrev pub kind : Option (List Bool) → ℕ
kind (Some row) = 1
kind None = 2

-- a post's row
abbrev pub cells : Option (List Bool) → List ℕ
cells (Some row) = packed row
cells None = []

-- a pending update: its kind, its serial, its document and its row, or a zero byte where nothing is pending
abbrev pub pending : Option Pending → List ℕ
pending None = 0 ∷ []
pending (Some p) = kind p.row ∷ (eight p.serial ++ (four p.doc.0 ++ cells p.row))

-- what both forms have: folder, member, depth, probes, master key, next serial and the version seen
abbrev pub head : KeptState → List ℕ
head s = four s.folder.0 ++ four s.member.0 ++ s.shape.depth ∷ s.shape.probes ∷ [] ++ s.master ++ eight s.next_serial ++ four s.seen

-- The one form in which states are written: `dorystt2`, the head, how many posts of the epoch are used, and what is pending.
abbrev pub spelling_of_state : KeptState → List ℕ
spelling_of_state s = codes "dorystt2" ++ head s ++ four s.used ++ pending s.pending

-- the first form, `dorystt1`, which counts no posts
abbrev pub first_spelling_of_state : KeptState → List ℕ
first_spelling_of_state s = codes "dorystt1" ++ head s ++ pending s.pending

-- The first form has states of which no post is counted, and whose next serial is at most 2 ^ 56.
abbrev pub IsFirst : KeptState → Type 0
IsFirst s = (s.used ≡ 0) × (s.next_serial ≤ 72057594037927936)

-- the bytes are one of the two forms of a state
abbrev pub Spells : List ℕ → KeptState → Type 0
Spells bytes s = (bytes ≡ spelling_of_state s) ⊎ (IsFirst s × (bytes ≡ first_spelling_of_state s))

-- a pending update of a member whose next serial is this one
pub record IsPending (shape : Dims) (next : ℕ) (p : Pending) : Type 0 where
  pub serial : 1 ≤ p.serial
  pub past : p.serial < next
  pub doc : p.doc.0 < 2 ^ 32
  pub row : IfSome p.row (λ row. length row ≡ column_count shape)

-- the ranges of a kept state
pub record IsKeptState (s : KeptState) : Type 0 where
  pub folder : s.folder.0 < 2 ^ 32
  pub member : s.member.0 ≤ 63
  pub shape : IsDims s.shape
  pub master : length s.master ≡ 32
  pub next : 1 ≤ s.next_serial
  pub serials : s.next_serial < 2 ^ 64
  pub seen : s.seen ≤ 1048576
  pub used : s.used ≤ 65536
  pub pending : IfSome s.pending (IsPending s.shape s.next_serial)
