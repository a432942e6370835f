-- What a domain answers to a message.
use Rattle.std.specs.Prelude.{ℕ, ◌≡◌, ◌⊎◌, List, Some, Vec, Result, Ok, Err}
use Rattle.std.specs.declared.alloc.Global.{Global}
use Rattle.dory_wire.specs.declared.fault.WireFault.{WireFault}
use Rattle.dory_wire.specs.declared.fault.WireFault.TheVariants.{Kind, Body, Trailing, NoMemory}
use Rattle.dory_wire.specs.declared.message.Request.{Request}
use Rattle.dory_wire.specs.declared.message.Reply.{Reply}
use Rattle.dory_wire.specs.declared.message.What.{What}
use Rattle.dory_wire.specs.Frame.{frame_of}
use Rattle.dory_wire.specs.Spelling.{spelling_of_reply, IsReply}
use Rattle.dory_wire.specs.Reading.{request_of}
use Rattle.dory_domain.specs.Held.{Held, IsHeld, Serves, KeptIfRefused, folder_in}

-- a domain with these folders may answer a request so, and then has these
abbrev pub IsStep : List Held → Request → What → List Held → Type 0
IsStep before request what now = Serves before request.folder.0 request.want what now

-- the message is this request, and the frame is that of this reply, which has the request's ask
pub record IsAnsweredBy (before : List Held) (message frame : List ℕ) (now : List Held) (request : Request) (reply : Reply) : Type 0 where
  pub asked : request_of message ≡ Ok request
  pub ask : reply.ask ≡ request.ask
  pub range : IsReply reply
  pub spelled : frame ≡ frame_of (spelling_of_reply reply)
  pub step : IsStep before request reply.what now
  pub held : (f : Held) → folder_in before request.folder.0 ≡ Some f → IsHeld f
  pub unchanged : KeptIfRefused before now reply.what

-- the message is a request, and the frame is that of a reply to it
abbrev pub IsAnswered : List Held → List ℕ → List ℕ → List Held → Type 0
IsAnswered before message frame now = (request : Request) × (reply : Reply) × IsAnsweredBy before message frame now request reply

-- how a frame that answers a message leads from what was seen of a domain to what is seen
abbrev pub Steps : Type 0 → Type 1
Steps V = V → List ℕ → List ℕ → V → Type 0

-- What is made of a message: a frame that answers it by a step, or the fault that reading it finds, where what is seen stays.
-- A step may be taken, and memory then run out.
abbrev pub Responds : {V : Type 0} → Steps V → V → List ℕ → Result (Vec ℕ Global) WireFault → V → Type 0
Responds steps before message (Ok frame) now = steps before message frame.items now
Responds steps before message (Err (Kind b)) now = (request_of message ≡ Err (Kind b)) × (now ≡ before)
Responds steps before message (Err (Body at)) now = (request_of message ≡ Err (Body at)) × (now ≡ before)
Responds steps before message (Err (Trailing at)) now = (request_of message ≡ Err (Trailing at)) × (now ≡ before)
Responds steps before message (Err NoMemory) now = (now ≡ before) ⊎ ((frame : List ℕ) × steps before message frame now)
