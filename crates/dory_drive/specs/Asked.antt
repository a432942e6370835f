-- One ask, as the links tell it.
use Rattle.std.specs.Prelude.{ℕ, ◌≡◌, ◌<◌, ◌⊎◌, ⊤, List, [], ◌∷◌, ◌++◌, slice_index, map, Option, Some, None}
use Rattle.dory_wire.specs.declared.message.Request.{Request}
use Rattle.dory_wire.specs.declared.message.What.{What}
use Rattle.dory_wire.specs.Frame.{frame_of}
use Rattle.dory_wire.specs.Reading.{reply_in}
use Rattle.dory_wire.specs.Spelling.{IsRequest, spelling_of_request}
use Rattle.dory_link.specs.Told.{Told, Talk, talk, Heard, Grows, IsFolderReply}
use Rattle.dory_drive.specs.declared.broken.Broken.{Broken}
use Rattle.dory_drive.specs.declared.broken.Broken.TheVariants.{KeeperFault, LinkFault, NoMemory}

-- the frame of a request
abbrev pub request_frame : Request → List ℕ
request_frame r = frame_of (spelling_of_request r)

-- where they are told, the exchanges grew by these; a link that tells none goes on telling none
abbrev pub GrewBy : Option (List Talk) → Option (List Talk) → List Talk → Type 0
GrewBy None None more = ⊤
GrewBy (Some before) (Some now) more = now ≡ before ++ more
GrewBy _ _ more = ⊥

-- where they are told, the exchanges grew, and these frames were asked
abbrev pub AskedFrames : Option (List Talk) → Option (List Talk) → List (List ℕ) → Type 0
AskedFrames before now frames = (more : List Talk) × GrewBy before now more × (map (λ t. t.request) more ≡ frames)

-- a request and the frame that came to it
abbrev pub spoke : Request → List ℕ → Talk
spoke request frame = talk (request_frame request) (Some frame)

-- where folders are told, the frame is what the folder answers to this request; a link that tells none goes on telling
-- none
abbrev pub HasReply : Option (ℕ → Option Told) → Option (ℕ → Option Told) → Request → List ℕ → Type 0
HasReply None None request frame = ⊤
HasReply (Some before) (Some now) request frame =
    (what : What) × (reply_in frame ≡ Some (record { ask = request.ask; what = what }))
    × IsFolderReply (before request.folder.0) (now request.folder.0) request.want what
HasReply _ _ request frame = ⊥

-- a request was asked, and this frame came
pub record Exchanged (before now : Heard) (request : Request) (frame : List ℕ) : Type 0 where
  pub grew : GrewBy before.exchanges now.exchanges (spoke request frame ∷ [])
  pub replies : HasReply before.folders now.folders request frame
  pub grown : Grows before.folders now.folders
  pub in_range : IsRequest request
  pub are_bytes : (i : ℕ) → slice_index frame i < 256

-- what a link tells grew from one moment to a later one
pub record Grew (before after : Heard) : Type 0 where
  pub more : List Talk
  pub grew : GrewBy before.exchanges after.exchanges more
  pub grown : Grows before.folders after.folders

-- This frame came to this request, wherever it was asked between two moments of a link.
pub record FrameCame (before after : Heard) (request : Request) (frame : List ℕ) : Type 0 where
  pub asking : Heard
  pub answered : Heard
  pub earlier : Grew before asking
  pub asked : Exchanged asking answered request frame
  pub later : Grew answered after

-- a request and no frame that came to it
abbrev pub unspoken : Request → Talk
unspoken request = talk (request_frame request) None

-- what an ask that brought no frame adds to the exchanges: the request without a reply where the link failed, and that or
-- nothing where memory ran out
abbrev pub Misses : Broken → Request → List Talk → Type 0
Misses (LinkFault side) request more = more ≡ unspoken request ∷ []
Misses NoMemory request more = (more ≡ []) ⊎ (more ≡ unspoken request ∷ [])
Misses KeeperFault request more = ⊥

-- a request was asked or not, no frame came, and this is why
pub record Unanswered (before now : Heard) (request : Request) (end : Broken) : Type 0 where
  pub more : List Talk
  pub misses : Misses end request more
  pub grew : GrewBy before.exchanges now.exchanges more
  pub grown : Grows before.folders now.folders
