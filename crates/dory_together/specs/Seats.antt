-- What a seat at a shared domain answers to a message.
use Rattle.std.specs.Prelude.{ℕ, ◌≡◌, List, Some, Ok}
use Rattle.dory_wire.specs.declared.message.Request.{Request}
use Rattle.dory_wire.specs.declared.message.Reply.{Reply}
use Rattle.dory_wire.specs.Frame.{frame_of, message_in}
use Rattle.dory_wire.specs.Spelling.{spelling_of_reply, IsReply}
use Rattle.dory_wire.specs.Reading.{request_of}
use Rattle.dory_shared.specs.Seen.{Seen}
use Rattle.dory_shared.specs.Answering.{Answers}

-- the message is this request, and the frame is that of this reply, which has the request's ask and answers it at one point
-- of one history
pub record IsSeatedBy (before : List Seen) (message frame : List ℕ) (now : List Seen) (request : Request) (reply : Reply) : Type 0 where
  pub asked : request_of message ≡ Ok request
  pub ask : reply.ask ≡ request.ask
  pub range : IsReply reply
  pub spelled : frame ≡ frame_of (spelling_of_reply reply)
  pub answers : Answers before request.folder.0 request.want reply.what now

-- the message is a request, and the frame is that of a reply to it
abbrev pub IsSeated : List Seen → List ℕ → List ℕ → List Seen → Type 0
IsSeated before message frame now = (request : Request) × (reply : Reply) × IsSeatedBy before message frame now request reply

-- the frame is that of a message, to which this is the reply
abbrev pub RepliesTo : List Seen → List ℕ → List ℕ → List Seen → Type 0
RepliesTo before frame reply now = (message : List ℕ) × (message_in frame ≡ Some message) × IsSeated before message reply now
