-- What a message is answered through a seat.
use Rattle.std.specs.Prelude.{ℕ, ◌≡◌, List, [], ◌∷◌, Ok}
use Rattle.dory_wire.specs.declared.message.Request.{Request}
use Rattle.dory_wire.specs.declared.message.Reply.{Reply}
use Rattle.dory_wire.specs.Frame.{frame_of}
use Rattle.dory_wire.specs.Spelling.{spelling_of_reply, IsReply}
use Rattle.dory_wire.specs.Reading.{request_of}
use Rattle.dory_shelf.specs.Published.{Grew}
use Rattle.dory_shared.specs.Seen.{Seen, names_of}
use Rattle.dory_shared.specs.Answering.{Answers}

-- The message is this request, and the frame is that of this reply, which has the request's ask. It is given at one point of
-- the published history of its folder, which begins with all that the seat had seen of it; what that leaves is then seen.
pub record IsAnsweredBy (before : List Seen) (message frame : List ℕ) (now : List Seen) (request : Request) (reply : Reply) : Type 0 where
  pub asked : request_of message ≡ Ok request
  pub ask : reply.ask ≡ request.ask
  pub range : IsReply reply
  pub spelled : frame ≡ frame_of (spelling_of_reply reply)
  pub answers : Answers before request.folder.0 request.want reply.what now
  pub names : names_of now ≡ names_of before

-- the message is a request, and the frame is that of a reply to it
abbrev pub IsAnswered : List Seen → List ℕ → List ℕ → List Seen → Type 0
IsAnswered before message frame now = (request : Request) × (reply : Reply) × IsAnsweredBy before message frame now request reply

-- of each folder of a seat, the history that is seen begins with the one that was
abbrev pub HaveGrown : List Seen → List Seen → Type 0
HaveGrown [] [] = Unit {0}
HaveGrown (s ∷ before) (t ∷ now) = Grew s.known t.known × HaveGrown before now
HaveGrown [] (t ∷ now) = ⊥
HaveGrown (s ∷ before) [] = ⊥
