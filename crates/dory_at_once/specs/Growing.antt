-- How what a seat has seen grows, whatever others publish.
use Rattle.std.specs.Prelude.{ℕ, ◌≡◌, List, [], ◌∷◌, length, Option, Some, None, ⊤}
use Rattle.dory_base.specs.declared.ids.UpdateId.{UpdateId}
use Rattle.dory_wire.specs.declared.message.Want.TheVariants.{Order}
use Rattle.dory_wire.specs.declared.message.What.{What}
use Rattle.dory_wire.specs.declared.message.What.TheVariants.{At, Found, Id, Staged, Committed, Refused}
use Rattle.dory_shelf.specs.Published.{Grew, history_of}
use Rattle.dory_shared.specs.Seen.{Seen, knowing, seen_in}
use Rattle.dory_shared.specs.Answering.{Answers}

-- the same folders, and what is seen of each begins with what was seen of it before
abbrev pub HaveGrown : List Seen → List Seen → Type 0
HaveGrown [] [] = ⊤
HaveGrown [] (t ∷ now) = ⊥
HaveGrown (s ∷ seen) [] = ⊥
HaveGrown (s ∷ seen) (t ∷ now) = (t ≡ knowing t.known s) × Grew s.known t.known × HaveGrown seen now

-- how many updates were seen of a folder; none, where there is no such folder
abbrev pub updates_of : Option Seen → ℕ
updates_of None = 0
updates_of (Some s) = length (history_of s.known)

-- the same, of the folder of this number
abbrev pub updates_seen : ℕ → List Seen → ℕ
updates_seen number seen = updates_of (seen_in seen number)

-- the length that a reply tells: none, where it tells another thing
abbrev pub length_in : What → ℕ
length_in (At length) = length
length_in (Found f) = 0
length_in (Id number id) = 0
length_in (Staged id) = 0
length_in (Committed number id) = 0
length_in (Refused code) = 0

-- the number at which a reply says that an update is committed
abbrev pub committed_in : What → Option ℕ
committed_in (At length) = None
committed_in (Found f) = None
committed_in (Id number id) = None
committed_in (Staged id) = None
committed_in (Committed number id) = Some number
committed_in (Refused code) = None

-- An update was ordered by a seat that had not seen less by then, and this is the number that it was told.
pub record WasOrdered (seen : List Seen) (folder : ℕ) (id : UpdateId) (number : Option ℕ) (now : List Seen) : Type 0 where
  pub between : List Seen
  pub what : What
  pub grown : HaveGrown seen between
  pub answers : Answers between folder (Order id) what now
  pub told : number ≡ committed_in what
