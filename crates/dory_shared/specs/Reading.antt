-- What a seat reads of a folder, keeps of it, tells of it and learns of it.
use Rattle.std.specs.Prelude.{ℕ, ◌≡◌, ◌==◌, true, List, Option, Some, None, Result, Ok, Err, if◌then◌else◌, ⊤}
use Rattle.std.specs.List.{find}
use Rattle.std.specs.Option.{option_map}
use Rattle.dory_base.specs.declared.refusal.Refusal.{Refusal}
use Rattle.dory_base.specs.declared.refusal.Refusal.TheVariants.{NoFolder, Unretained, NoMemory}
use Rattle.dory_wire.specs.declared.message.Want.{Want}
use Rattle.dory_wire.specs.declared.message.Want.TheVariants.{Latest, Search, Which, Stage, Order, Follow}
use Rattle.dory_wire.specs.declared.message.What.{What}
use Rattle.dory_wire.specs.declared.message.What.TheVariants.{Refused}
use Rattle.dory_wire.specs.Read.{read_of, IsReadOf}
use Rattle.dory_shelf.specs.Published.{Shelf, Published, IsLawful, Grew, history_of}
use Rattle.dory_shelf.specs.Versions.{is_retained, oldest_of, newest_of}
use Rattle.dory_shared.specs.Seen.{Seen, Named, seen_in, with_seen}

-- one published history of the folder, which begins with all that was seen of it
pub record IsLater (before : Seen) (now : Published) : Type 0 where
  pub lawful : IsLawful now
  pub begins : Grew before.known now

-- ---- reading

-- the length of the history, or what a version holds
abbrev pub IsReading : Want → Type 0
IsReading Latest = ⊤
IsReading (Search version shape keys) = ⊤
IsReading (Which number) = ⊥
IsReading (Stage e) = ⊥
IsReading (Order id) = ⊥
IsReading (Follow number id) = ⊥

-- an update, or the question which one has a number
abbrev pub IsWriting : Want → Type 0
IsWriting Latest = ⊥
IsWriting (Search version shape keys) = ⊥
IsWriting (Which number) = ⊤
IsWriting (Stage e) = ⊤
IsWriting (Order id) = ⊤
IsWriting (Follow number id) = ⊤

-- what is read at this history
abbrev pub ReadsAt : Published → Want → What → Type 0
ReadsAt h want what = IsReadOf (read_of h.shelf.shape h.shelf.retained (history_of h) want) what

-- what a seat reads, by what it had seen of the folder, if there is such a folder
abbrev pub ReadsBy : Option Seen → List Seen → ℕ → Want → What → List Seen → Type 0
ReadsBy None seen number want what now = (what ≡ Refused NoFolder) × (now ≡ seen)
ReadsBy (Some s) seen number want what now =
    (known : Published) × IsLater s known × ReadsAt known want what × (now ≡ with_seen number known seen)

-- what a seat reads of the folder of this number, at the history that it then has seen
abbrev pub Reads : List Seen → ℕ → Want → What → List Seen → Type 0
Reads seen number want what now = ReadsBy (seen_in seen number) seen number want what now

-- ---- one version, kept

-- a published history of which one version is kept
pub record Kept : Type 0 where
  pub known : Published
  pub number : ℕ

-- the version is kept where it is among the last; else the refusal says which are. A copy may want memory.
abbrev pub KeepsAt : Published → ℕ → Result Kept Refusal → Type 0
KeepsAt h number (Ok kept) = (is_retained h number ≡ true) × (kept ≡ record { known = h; number = number })
KeepsAt h number (Err code) = code ≡ (if is_retained h number then NoMemory else Unretained (oldest_of h) (newest_of h))

-- what is kept, by what the seat had seen of the folder, if there is such a folder
abbrev pub KeepsBy : Option Seen → List Seen → ℕ → ℕ → Result Kept Refusal → List Seen → Type 0
KeepsBy None seen folder number result now = (result ≡ Err NoFolder) × (now ≡ seen)
KeepsBy (Some s) seen folder number result now =
    (known : Published) × IsLater s known × KeepsAt known number result × (now ≡ with_seen folder known seen)

-- what is kept of a folder for a seat, at the history that the seat then has seen
abbrev pub Keeps : List Seen → ℕ → ℕ → Result Kept Refusal → List Seen → Type 0
Keeps seen folder number result now = KeepsBy (seen_in seen folder) seen folder number result now

-- ---- notes

-- a folder's number, and a published history that was told of it
pub record Noted : Type 0 where
  pub number : ℕ
  pub known : Published

-- what is told, by what the seat had seen of the folder, if there is such a folder
abbrev pub TellsBy : Option Seen → List Seen → ℕ → Result Noted Refusal → List Seen → Type 0
TellsBy None seen number result now = (result ≡ Err NoFolder) × (now ≡ seen)
TellsBy (Some s) seen number result now =
    (known : Published) × IsLater s known × (result ≡ Ok (record { number = number; known = known })) × (now ≡ with_seen number known seen)

-- a published history is told, which the seat then has seen
abbrev pub Tells : List Seen → ℕ → Result Noted Refusal → List Seen → Type 0
Tells seen number result now = TellsBy (seen_in seen number) seen number result now

-- what a seat learns, by what it had seen of the folder; a note of another folder teaches nothing
abbrev pub LearnsBy : Option Seen → List Seen → Noted → List Seen → Type 0
LearnsBy None seen note now = now ≡ seen
LearnsBy (Some s) seen note now = (known : Published) × Grew s.known known × Grew note.known known × (now ≡ with_seen note.number known seen)

-- later histories of the folder begin with what was seen and with what was told
abbrev pub Learns : List Seen → Noted → List Seen → Type 0
Learns seen note now = LearnsBy (seen_in seen note.number) seen note now

-- the shelf of the first of these names with this number
abbrev pub shelf_in : List Named → ℕ → Option Shelf
shelf_in names number = option_map (λ n. n.shelf) (find (λ n. n.number == number) names)

-- the note is of a folder of these names
abbrev pub IsNoteOf : List Named → Noted → Type 0
IsNoteOf names note = shelf_in names note.number ≡ Some note.known.shelf
