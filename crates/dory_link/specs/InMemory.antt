-- What an ask makes of a link in memory.
use Rattle.std.specs.Prelude.{ℕ, ◌≡◌, ⊤, ◌⊎◌, ◌&&◌, Bool, true, false, not, is_some, List, Some, Vec, Result, Ok, Err, if◌then◌else◌}
use Rattle.std.specs.declared.alloc.Global.{Global}
use Rattle.dory_io.specs.declared.fails.Fails.{Fails}
use Rattle.dory_io.specs.Causes.{one_more, is_listed, is_next_listed}
use Rattle.dory_wire.specs.Frame.{message_in}
use Rattle.dory_wire.specs.Reading.{request_in}
use Rattle.dory_domain.specs.Answered.{IsAnswered}
use Rattle.dory_domain.specs.Held.{Held}
use Rattle.dory_link.specs.declared.link.LinkError.{LinkError}
use Rattle.dory_link.specs.declared.link.LinkError.TheVariants as link

-- an ask failed
abbrev pub is_failed : {A : Type 0} → Result A LinkError → Bool
is_failed (Ok reply) = false
is_failed (Err link.Failed) = true
is_failed (Err link.NoMemory) = false

-- the counts after an ask: one call more, and one fault more where it failed
abbrev pub after_ask : {A : Type 0} → Fails → Result A LinkError → Fails
after_ask f result = record f { calls = one_more f.calls; faults = if is_failed result then one_more f.faults else f.faults }

-- an ask fails where `stopped` holds, and nowhere else; there and elsewhere memory may run out
abbrev pub FailsWhere : {A : Type 0} → Type 0 → Result A LinkError → Type 0
FailsWhere stopped (Ok reply) = ¬ stopped
FailsWhere stopped (Err link.Failed) = stopped
FailsWhere stopped (Err link.NoMemory) = ⊤

-- the frame is a domain's answer to the request of a frame that was sent
abbrev pub IsFrameAnswered : List Held → List ℕ → List ℕ → List Held → Type 0
IsFrameAnswered before sent frame now = (message : List ℕ) × (message_in sent ≡ Some message) × IsAnswered before message frame now

-- a domain has answered the request of a frame that was sent
abbrev pub HasAnswered : List Held → List ℕ → List Held → Type 0
HasAnswered before sent now = (frame : List ℕ) × IsFrameAnswered before sent frame now

-- a domain is as it was, or has answered the request of a frame that was sent
abbrev pub MayHaveAnswered : List Held → List ℕ → List Held → Type 0
MayHaveAnswered before sent now = (now ≡ before) ⊎ HasAnswered before sent now

-- the next call is on the list of those whose reply is lost
abbrev pub is_next_lost : Fails → List ℕ → Bool
is_next_lost f lost = is_listed lost (one_more f.calls)

-- the next ask comes to the domain: it isn't listed as one that fails, and its frame is a request
abbrev pub is_reached : Fails → List ℕ → Bool
is_reached f sent = not (is_next_listed f) && is_some (request_in sent)

-- a domain after an ask that failed: it has answered one that reached it, and is as it was after any other
abbrev pub FailedAfter : Bool → List Held → List ℕ → List Held → Type 0
FailedAfter true before sent now = HasAnswered before sent now
FailedAfter false before sent now = now ≡ before

-- A domain's folders after an ask, which reached it or not. A frame that came is their answer. They have answered an ask
-- that failed though it reached them too: its reply is lost.
abbrev pub FoldersAfter : Bool → List Held → List ℕ → Result (Vec ℕ Global) LinkError → List Held → Type 0
FoldersAfter reached before sent (Ok frame) now = IsFrameAnswered before sent frame.items now
FoldersAfter reached before sent (Err link.Failed) now = FailedAfter reached before sent now
FoldersAfter reached before sent (Err link.NoMemory) now = MayHaveAnswered before sent now
