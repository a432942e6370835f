-- How a session ends.
use Rattle.std.specs.Prelude.{ℕ, ◌≡◌, ◌≢◌, ◌<◌, ◌⊎◌, ⊤, List, [], length, take, Option, Some, None, Result, Ok, Err}
use Rattle.dory_wire.specs.declared.fault.WireFault.{WireFault}
use Rattle.dory_wire.specs.declared.fault.WireFault.TheVariants as wire
use Rattle.dory_wire.specs.Cut.{front_of}
use Rattle.dory_wire.specs.Reading.{request_of}
use Rattle.dory_io.specs.Bytes.{IsOver}
use Rattle.dory_session.specs.declared.end.How.{How}
use Rattle.dory_session.specs.declared.end.SessionEnd.{SessionEnd}
use Rattle.dory_session.specs.declared.end.How.TheVariants.{Ended, Cut, Length, Kind, Body, Trailing, InputFault, OutputFault, Limit, NoMemory}
use Rattle.dory_domain.specs.Answered.{Steps}

-- why no message comes next, where `rest` came of it, and of the input `before` was left and `left` is
abbrev pub Stops : How → List ℕ → Option (List ℕ) → Option (List ℕ) → Type 0
Stops Ended rest before left = (rest ≡ []) × IsOver before left
Stops (Cut held) rest before left = (rest ≢ []) × (held ≡ length rest) × (front_of rest ≡ Ok None) × IsOver before left
Stops (Length n) rest before left = front_of rest ≡ Err n
Stops (Kind b) rest before left = ⊥
Stops (Body at) rest before left = ⊥
Stops (Trailing at) rest before left = ⊥
Stops InputFault rest before left = front_of rest ≡ Ok None
Stops OutputFault rest before left = ⊥
Stops Limit rest before left = ⊥
Stops NoMemory rest before left = ⊤

-- nothing was written, and what is seen stays
abbrev pub Nothing : {V : Type 0} → V → List ℕ → V → Type 0
Nothing before part now = (part ≡ []) × (now ≡ before)

-- a first part of the bytes that isn't all of them
abbrev pub IsLess : List ℕ → List ℕ → Type 0
IsLess part bytes = (n : ℕ) × (n < length bytes) × (part ≡ take n bytes)

-- the end that a fault of a message is
abbrev pub end_of_fault : WireFault → How
end_of_fault (wire.Kind b) = Kind b
end_of_fault (wire.Body at) = Body at
end_of_fault (wire.Trailing at) = Trailing at
end_of_fault wire.NoMemory = NoMemory

-- Why a message has no whole reply, where `part` was written of it. A step may have been taken, and memory then run out.
abbrev pub Breaks : {V : Type 0} → Steps V → How → V → List ℕ → List ℕ → V → Type 0
Breaks steps Ended before message part now = ⊥
Breaks steps (Cut held) before message part now = ⊥
Breaks steps (Length n) before message part now = ⊥
Breaks steps (Kind b) before message part now = (request_of message ≡ Err (wire.Kind b)) × Nothing before part now
Breaks steps (Body at) before message part now = (request_of message ≡ Err (wire.Body at)) × Nothing before part now
Breaks steps (Trailing at) before message part now = (request_of message ≡ Err (wire.Trailing at)) × Nothing before part now
Breaks steps InputFault before message part now = ⊥
Breaks steps OutputFault before message part now = (frame : List ℕ) × steps before message frame now × IsLess part frame
Breaks steps Limit before message part now = ⊥
Breaks steps NoMemory before message part now = (part ≡ []) × ((now ≡ before) ⊎ ((frame : List ℕ) × steps before message frame now))

-- a whole message stands at the front, and breaks so
abbrev pub BreaksAt : {V : Type 0} → Steps V → How → V → List ℕ → List ℕ → V → Type 0
BreaksAt steps how before rest part now =
    (message : List ℕ) × (more : List ℕ) × (front_of rest ≡ Ok (Some (message, more))) × Breaks steps how before message part now

-- A session's end. After the messages that were answered `rest` came, and of the input, of which `before` was left, `left`
-- is. After their replies `part` was written, and what was seen as `mid` then is seen as `now`.
abbrev pub IsEnd : {V : Type 0} → Steps V → How → ℕ → List ℕ → Option (List ℕ) → Option (List ℕ) → V → List ℕ → V → Type 0
IsEnd steps Ended answered rest before left mid part now = Stops Ended rest before left × Nothing mid part now
IsEnd steps (Cut held) answered rest before left mid part now = Stops (Cut held) rest before left × Nothing mid part now
IsEnd steps (Length n) answered rest before left mid part now = Stops (Length n) rest before left × Nothing mid part now
IsEnd steps (Kind b) answered rest before left mid part now = BreaksAt steps (Kind b) mid rest part now
IsEnd steps (Body at) answered rest before left mid part now = BreaksAt steps (Body at) mid rest part now
IsEnd steps (Trailing at) answered rest before left mid part now = BreaksAt steps (Trailing at) mid rest part now
IsEnd steps InputFault answered rest before left mid part now = Stops InputFault rest before left × Nothing mid part now
IsEnd steps OutputFault answered rest before left mid part now = BreaksAt steps OutputFault mid rest part now
IsEnd steps Limit answered rest before left mid part now = (answered ≡ 4294967295) × Nothing mid part now
IsEnd steps NoMemory answered rest before left mid part now = Nothing mid part now ⊎ BreaksAt steps NoMemory mid rest part now

-- what was written for a message is its reply's frame, or it breaks
abbrev pub WritesReply : {V : Type 0} → Steps V → V → List ℕ → List ℕ → V → Result (Unit {0}) How → Type 0
WritesReply steps before message part now (Ok u) = steps before message part now
WritesReply steps before message part now (Err how) = Breaks steps how before message part now

-- the end is the limit where as many messages were answered as a session answers, and nowhere else
pub record IsLimited (end : SessionEnd) : Type 0 where
  pub reached : end.answered ≡ 4294967295 → end.how ≡ Limit
  pub only : end.how ≡ Limit → end.answered ≡ 4294967295
