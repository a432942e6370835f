-- What a link tells: the exchanges over it, and the folders of the domain behind it.
use Rattle.std.specs.Prelude.{ℕ, ◌≡◌, ⊤, ◌⊎◌, List, [], ◌∷◌, ◌++◌, Option, Some, None, Result, Ok, Err, Vec, option_map}
use Rattle.std.specs.declared.alloc.Global.{Global}
use Rattle.dory_base.specs.Dims.{Dims}
use Rattle.dory_base.specs.declared.entry.Entry.{Entry}
use Rattle.dory_base.specs.declared.refusal.Refusal.TheVariants.{NoFolder}
use Rattle.dory_base.specs.History.{IsHistory, IsPrefix}
use Rattle.dory_base.specs.Step.{State, IsState}
use Rattle.dory_wire.specs.declared.message.Want.{Want}
use Rattle.dory_wire.specs.declared.message.Want.TheVariants.{Latest, Search, Which, Stage, Order, Follow}
use Rattle.dory_wire.specs.declared.message.What.{What}
use Rattle.dory_wire.specs.declared.message.What.TheVariants.{Refused}
use Rattle.dory_wire.specs.declared.message.Request.{Request}
use Rattle.dory_link.specs.declared.exchange.Exchange.{Exchange}
use Rattle.dory_link.specs.declared.link.LinkError.{LinkError}
use Rattle.dory_link.specs.declared.link.LinkError.TheVariants as link
use Rattle.dory_wire.specs.Reading.{request_in, reply_in}
use Rattle.dory_wire.specs.Read.{read_of, IsReadOf}
use Rattle.dory_wire.specs.StepReply.{Steps}

-- a folder of the peer: its shape, how many versions it keeps, and what is committed
pub record Told : Type 0 where
  pub shape : Dims
  pub retained : ℕ
  pub history : List Entry

-- a request that was asked, and the frame that came
pub record Talk : Type 0 where
  pub request : List ℕ
  pub reply : Option (List ℕ)

-- the exchange of this request and this reply
abbrev pub talk : List ℕ → Option (List ℕ) → Talk
talk request reply = record { request = request; reply = reply }

-- the bytes of a frame that came
abbrev pub frames : {E : Type 0} → Result (Vec ℕ Global) E → Result (List ℕ) E
frames (Ok frame) = Ok frame.items
frames (Err e) = Err e

-- The exchanges after an ask: a link tells them before and after it, or never. One that finds no memory adds nothing, or
-- its request.
abbrev pub Adds : Option (List Talk) → Option (List Talk) → List ℕ → Result (List ℕ) LinkError → Type 0
Adds None None request result = ⊤
Adds None (Some now) request result = ⊥
Adds (Some before) None request result = ⊥
Adds (Some before) (Some now) request (Ok frame) = now ≡ before ++ talk request (Some frame) ∷ []
Adds (Some before) (Some now) request (Err link.Failed) = now ≡ before ++ talk request None ∷ []
Adds (Some before) (Some now) request (Err link.NoMemory) = (now ≡ before) ⊎ (now ≡ before ++ talk request None ∷ [])

-- the shape and the number of versions stay, and the history only grows
pub record GrownFrom (before now : Told) : Type 0 where
  pub shape : now.shape ≡ before.shape
  pub retained : now.retained ≡ before.retained
  pub history : IsPrefix before.history now.history

-- the same folder is there before and now, grown
abbrev pub Grown : Option Told → Option Told → Type 0
Grown None None = ⊤
Grown None (Some now) = ⊥
Grown (Some before) None = ⊥
Grown (Some before) (Some now) = GrownFrom before now

-- no folders are told, before or now, or the same ones are, each grown
abbrev pub Grows : Option (ℕ → Option Told) → Option (ℕ → Option Told) → Type 0
Grows None None = ⊤
Grows None (Some now) = ⊥
Grows (Some before) None = ⊥
Grows (Some before) (Some now) = (folder : ℕ) → Grown (before folder) (now folder)

-- the reply that a domain with this history may give to a read
pub record IsReadAt (before now : Told) (want : Want) (what : What) (history : List Entry) : Type 0 where
  pub later : IsPrefix before.history history
  pub earlier : IsPrefix history now.history
  pub is : IsHistory before.shape history
  pub value : IsReadOf (read_of before.shape before.retained history want) what

-- the folder as it is told has this state, but for what is staged
pub record IsStateOf (told : Told) (s : State) : Type 0 where
  pub shape : s.shape ≡ told.shape
  pub retained : s.retained ≡ told.retained
  pub state : IsState s

-- the reply that a domain may give to any other request: it steps in a state whose history, before and after the step,
-- lies between those before and after the call
pub record IsStepAt (before now : Told) (want : Want) (what : What) (s next : State) : Type 0 where
  pub told : IsStateOf before s
  pub later : IsPrefix before.history s.history
  pub steps : Steps s want what next
  pub earlier : IsPrefix next.history now.history

-- what a folder answers to a read
abbrev pub ReadsOnce : Told → Told → Want → What → Type 0
ReadsOnce before now want what = (history : List Entry) × IsReadAt before now want what history

-- what it answers to any other request
abbrev pub StepsOnce : Told → Told → Want → What → Type 0
StepsOnce before now want what = (s : State) × (next : State) × IsStepAt before now want what s next

-- what a folder answers, by the request
abbrev pub IsReplyTo : Told → Told → Want → What → Type 0
IsReplyTo before now Latest what = ReadsOnce before now Latest what
IsReplyTo before now (Search number asked keys) what = ReadsOnce before now (Search number asked keys) what
IsReplyTo before now (Which number) what = StepsOnce before now (Which number) what
IsReplyTo before now (Stage e) what = StepsOnce before now (Stage e) what
IsReplyTo before now (Order id) what = StepsOnce before now (Order id) what
IsReplyTo before now (Follow number id) what = StepsOnce before now (Follow number id) what

-- what a folder answers: a value at a history between those before and after the call
abbrev pub IsFolderReply : Option Told → Option Told → Want → What → Type 0
IsFolderReply None now want what = what ≡ Refused NoFolder
IsFolderReply (Some before) None want what = ⊥
IsFolderReply (Some before) (Some now) want what = IsReplyTo before now want what

-- where the folders are told, the frame is a reply to the request that was sent
abbrev pub IsReplyFrame : Option (ℕ → Option Told) → Option (ℕ → Option Told) → List ℕ → List ℕ → Type 0
IsReplyFrame None None sent frame = ⊤
IsReplyFrame None (Some now) sent frame = ⊥
IsReplyFrame (Some before) None sent frame = ⊥
IsReplyFrame (Some before) (Some now) sent frame =
    (request : Request) → request_in sent ≡ Some request →
    (what : What) × (reply_in frame ≡ Some (record { ask = request.ask; what = what })) × IsFolderReply (before request.folder.0) (now request.folder.0) request.want what

-- what a link tells, each part where it tells it: the exchanges, and the peer's folders by their numbers
pub record Heard : Type 0 where
  pub exchanges : Option (List Talk)
  pub folders : Option (ℕ → Option Told)

-- where a frame came, it is a reply to the request that was sent
abbrev pub CameFrom : {E : Type 0} → Option (ℕ → Option Told) → Option (ℕ → Option Told) → List ℕ → Result (List ℕ) E → Type 0
CameFrom before now sent (Ok frame) = IsReplyFrame before now sent frame
CameFrom before now sent (Err e) = ⊤

-- an ask adds to the exchanges, histories only grow, and what came is a reply by a history between those before and after
pub record IsAsked (before now : Heard) (sent : List ℕ) (result : Result (List ℕ) LinkError) : Type 0 where
  pub added : Adds before.exchanges now.exchanges sent result
  pub grown : Grows before.folders now.folders
  pub answers : CameFrom before.folders now.folders sent result

-- an exchange as it is told
abbrev pub told_exchange : Exchange → Talk
told_exchange e = talk e.request.items (option_map (λ frame. frame.items) e.reply)
