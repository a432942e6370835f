-- One session, from its input to its output.
use Rattle.std.specs.Prelude.{ℕ, ◌≡◌, ◌≤◌, ◌<◌, ⊤, List, ◌++◌, length, take, Option, Some, Vec, Result, Ok, Err}
use Rattle.std.specs.List.{AllByRecursion, concat}
use Rattle.std.specs.Io.KnownBytes.{Appends}
use Rattle.std.specs.declared.alloc.Global.{Global}
use Rattle.dory_wire.specs.declared.message.Request.{Request}
use Rattle.dory_wire.specs.Frame.{frame_of}
use Rattle.dory_wire.specs.Cut.{IsMessage, frames_of, cut_of}
use Rattle.dory_wire.specs.Reading.{request_of}
use Rattle.dory_io.specs.Bytes.{BytesRead}
use Rattle.dory_session.specs.declared.end.How.{How}
use Rattle.dory_session.specs.declared.end.How.TheVariants.{Ended, Cut, Length, Kind, Body, Trailing, InputFault, OutputFault, Limit, NoMemory}
use Rattle.dory_session.specs.declared.end.SessionEnd.{SessionEnd}
use Rattle.dory_domain.specs.Answered.{Steps}
use Rattle.dory_session.specs.Answered.{AreAnswered}
use Rattle.dory_session.specs.Ends.{Stops, IsEnd}

-- the bytes held, which grew by those that came, are the frame of a message and what is held now, or no message comes
abbrev pub IsNext : List ℕ → List ℕ → List ℕ → Option (List ℕ) → Option (List ℕ) → Result (Vec ℕ Global) How → Type 0
IsNext held now came before left (Ok message) = IsMessage message.items × (held ++ came ≡ frame_of message.items ++ now)
IsNext held now came before left (Err how) = Stops how (held ++ came) before left

-- more bytes came, at least one, or no message comes
abbrev pub IsMore : List ℕ → List ℕ → List ℕ → Option (List ℕ) → Option (List ℕ) → Result (Unit {0}) How → Type 0
IsMore held now came before left (Ok u) = (now ≡ held ++ came) × (1 ≤ length came)
IsMore held now came before left (Err how) = Stops how (held ++ came) before left

-- what is around a session: what is seen of the domain, what is left of the input, how many bytes the source has given, and
-- what is written
pub record Around (V : Type 0) : Type 0 where
  pub seen : V
  pub left : Option (List ℕ)
  pub given : ℕ
  pub written : Option (List ℕ)

-- the four of them together
abbrev pub around : {V : Type 0} → V → Option (List ℕ) → ℕ → Option (List ℕ) → Around V
around seen left given written = record { seen = seen; left = left; given = given; written = written }

-- what a session has done when these messages are answered by these frames, and `held` came after them
pub record IsUnderway {V : Type 0} (steps : Steps V) (before now : Around V) (answered : ℕ) (held : List ℕ) (messages frames : List (List ℕ)) : Type 0 where
  pub came : BytesRead before.left now.left before.given now.given (frames_of messages ++ held)
  pub each : AllByRecursion IsMessage messages
  pub wrote : Appends before.written now.written (concat frames)
  pub replied : AreAnswered steps before.seen messages frames now.seen
  pub count : answered ≡ length frames

-- The whole of a session: messages that were answered by frames, each by a step from what the one before it left, what came
-- after them, a part of a frame that was written after those, and what was seen between the last whole reply and the end.
pub record IsServedBy {V : Type 0} (steps : Steps V) (before now : Around V) (end : SessionEnd)
    (messages frames : List (List ℕ)) (rest part : List ℕ) (mid : V) : Type 0 where
  pub came : BytesRead before.left now.left before.given now.given (frames_of messages ++ rest)
  pub each : AllByRecursion IsMessage messages
  -- they are the first that what came is cut into, in whatever pieces it came
  pub first : messages ≡ take (length messages) (cut_of (frames_of messages ++ rest)).messages
  pub wrote : Appends before.written now.written (concat frames ++ part)
  pub replied : AreAnswered steps before.seen messages frames mid
  pub count : end.answered ≡ length frames
  pub ended : IsEnd steps end.how end.answered rest before.left now.left mid part now.seen

-- a whole session, with some messages
abbrev pub IsSession : {V : Type 0} → Steps V → Around V → Around V → SessionEnd → Type 0
IsSession {V} steps before now end =
    (messages : List (List ℕ)) × (frames : List (List ℕ)) × (rest : List ℕ) × (part : List ℕ) × (mid : V)
    × IsServedBy steps before now end messages frames rest part mid

-- a message that is a request
abbrev pub IsAsking : List ℕ → Type 0
IsAsking message = IsMessage message × ((request : Request) × (request_of message ≡ Ok request))

-- what is left is the frames of requests, fewer than a session answers
abbrev pub IsWell : Option (List ℕ) → Type 0
IsWell left = (messages : List (List ℕ)) × (left ≡ Some (frames_of messages)) × AllByRecursion IsAsking messages × (length messages < 4294967295)

-- no fault ends it
abbrev pub EndsWell : How → Type 0
EndsWell Ended = ⊤
EndsWell (Cut held) = ⊥
EndsWell (Length n) = ⊥
EndsWell (Kind b) = ⊥
EndsWell (Body at) = ⊥
EndsWell (Trailing at) = ⊥
EndsWell InputFault = ⊥
EndsWell OutputFault = ⊥
EndsWell Limit = ⊥
EndsWell NoMemory = ⊤
