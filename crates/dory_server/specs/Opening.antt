-- How a server opens: what its words decide, and the line that says where it is found.
use Rattle.std.specs.Prelude.{ℕ, ◌≡◌, ◌-◌, ◌⊎◌, ⊤, All, List, [], ◌++◌, length, codes, Option, Some, None, option_map, Result, Ok, Err}
use Rattle.std.specs.Io.KnownBytes.{Appends}
use Rattle.dory_io.specs.Bytes.{Tells}
use Rattle.dory_io.specs.Given.{IsBoundFor}
use Rattle.dory_io.specs.Output.{AppendsLess}
use Rattle.dory_io.specs.Address.{address_text}
use Rattle.dory_io.specs.declared.address.Address.{Address}
use Rattle.dory_domain.specs.Setup.{setup_fault}
use Rattle.dory_shared.specs.Seen.{Seen}
use Rattle.dory_shared.specs.Opening.{AreOpened}
use Rattle.dory_server.specs.declared.end.ServerEnd.{ServerEnd}
use Rattle.dory_server.specs.declared.end.ServerEnd.TheVariants.{Usage, BadConfig, PlaceRefused, NoThreads, BindFault, OutputFault, Sessions, AcceptFault, NoMemory}
use Rattle.dory_server.specs.declared.line.ServerLine.{ServerLine}
use Rattle.dory_server.specs.declared.line.ServerWords.{ServerWords}
use Rattle.dory_server.specs.declared.line.ServerWords.TheVariants as word

-- the end that faulty words or a faulty configuration have
abbrev pub fault_of : Result ServerLine ServerWords → Option ServerEnd
fault_of (Ok line) = option_map BadConfig (setup_fault line.config.folders line.config.seats)
fault_of (Err (word.At at)) = Some (Usage at)
fault_of (Err word.NoMemory) = None

-- such a fault is the end, unless memory ran out, and it is the end of nothing else
abbrev pub OpensBy : Option ServerEnd → ServerEnd → Type 0
OpensBy (Some fault) end = (end ≡ fault) ⊎ (end ≡ NoMemory)
OpensBy None (Usage at) = ⊥
OpensBy None (BadConfig fault) = ⊥
OpensBy None PlaceRefused = ⊤
OpensBy None NoThreads = ⊤
OpensBy None BindFault = ⊤
OpensBy None OutputFault = ⊤
OpensBy None Sessions = ⊤
OpensBy None AcceptFault = ⊤
OpensBy None NoMemory = ⊤

-- the line that says where a server is found: `ready `, the address, and a line end
abbrev pub ready_text : Address → List ℕ
ready_text address = codes "ready " ++ address_text address ++ codes "\n"

-- this of the address that was bound for the one in the words, which the binder tells where it tells any
abbrev pub OfBound : Result ServerLine ServerWords → Option Address → (Address → Type 0) → Type 0
OfBound read bound said =
    (line : ServerLine) × (address : Address) × (read ≡ Ok line) × IsBoundFor line.address address × Tells bound address × said address

-- what was written by the end: the whole line before anything is served, or a first part of it, or nothing
abbrev pub Wrote : Result ServerLine ServerWords → Option Address → Option (List ℕ) → Option (List ℕ) → ServerEnd → Type 0
Wrote read bound before now (Usage at) = Appends before now []
Wrote read bound before now (BadConfig fault) = Appends before now []
Wrote read bound before now PlaceRefused = Appends before now []
Wrote read bound before now NoThreads = Appends before now []
Wrote read bound before now BindFault = Appends before now []
Wrote read bound before now OutputFault = OfBound read bound (λ address. AppendsLess before now (ready_text address))
Wrote read bound before now Sessions = OfBound read bound (λ address. Appends before now (ready_text address))
Wrote read bound before now AcceptFault = OfBound read bound (λ address. Appends before now (ready_text address))
Wrote read bound before now NoMemory = Appends before now []

-- What stands open: the line's folders, each with no update, as many seats as it says, each of which has seen just that, and the
-- address that was bound for the one in the line. Neither the words nor the configuration have a fault, and as many threads were
-- made at once as the seats need beside the one that there is.
pub record IsOpen (read : Result ServerLine ServerWords) (made : ℕ) (bound : Option Address) (opened : List Seen) (seats : List (List Seen)) (address : Address) : Type 0 where
  pub line : ServerLine
  pub reads : read ≡ Ok line
  pub right : fault_of read ≡ None
  pub folders : AreOpened line.config.role line.config.folders opened
  pub same : All (λ s. s ≡ opened) seats
  pub many : length seats ≡ line.config.seats
  pub tried : made ≡ line.config.seats - 1
  pub found : IsBoundFor line.address address × Tells bound address

-- as many threads were made at once as the line's seats need beside the one that there is
abbrev pub TriedFor : Result ServerLine ServerWords → ℕ → Type 0
TriedFor read made = (line : ServerLine) × (read ≡ Ok line) × (made ≡ line.config.seats - 1)

-- they were before anything was written
abbrev pub Tried : Result ServerLine ServerWords → ℕ → ServerEnd → Type 0
Tried read made (Usage at) = ⊤
Tried read made (BadConfig fault) = ⊤
Tried read made PlaceRefused = ⊤
Tried read made NoThreads = ⊤
Tried read made BindFault = ⊤
Tried read made OutputFault = TriedFor read made
Tried read made Sessions = TriedFor read made
Tried read made AcceptFault = TriedFor read made
Tried read made NoMemory = ⊤

-- the line was written, or a first part of it where the sink failed, or nothing where memory ran out
abbrev pub SaysReady : Address → Option (List ℕ) → Option (List ℕ) → Result (Unit {0}) ServerEnd → Type 0
SaysReady address before now (Ok u) = Appends before now (ready_text address)
SaysReady address before now (Err (Usage at)) = ⊥
SaysReady address before now (Err (BadConfig fault)) = ⊥
SaysReady address before now (Err PlaceRefused) = ⊥
SaysReady address before now (Err NoThreads) = ⊥
SaysReady address before now (Err BindFault) = ⊥
SaysReady address before now (Err OutputFault) = AppendsLess before now (ready_text address)
SaysReady address before now (Err Sessions) = ⊥
SaysReady address before now (Err AcceptFault) = ⊥
SaysReady address before now (Err NoMemory) = Appends before now []

-- where a server that has bound its address ends, and what it wrote by then
abbrev pub EndsBound : Address → Option (List ℕ) → Option (List ℕ) → ServerEnd → Type 0
EndsBound address before now (Usage at) = ⊥
EndsBound address before now (BadConfig fault) = ⊥
EndsBound address before now PlaceRefused = ⊥
EndsBound address before now NoThreads = ⊥
EndsBound address before now BindFault = Appends before now []
EndsBound address before now OutputFault = AppendsLess before now (ready_text address)
EndsBound address before now Sessions = Appends before now (ready_text address)
EndsBound address before now AcceptFault = Appends before now (ready_text address)
EndsBound address before now NoMemory = Appends before now []

-- an end that comes before anything is open
abbrev pub EndsUnopened : ServerEnd → Type 0
EndsUnopened (Usage at) = ⊤
EndsUnopened (BadConfig fault) = ⊤
EndsUnopened PlaceRefused = ⊥
EndsUnopened NoThreads = ⊥
EndsUnopened BindFault = ⊥
EndsUnopened OutputFault = ⊥
EndsUnopened Sessions = ⊥
EndsUnopened AcceptFault = ⊥
EndsUnopened NoMemory = ⊤

-- an end that comes before the address is bound
abbrev pub EndsUnbound : ServerEnd → Type 0
EndsUnbound (Usage at) = ⊤
EndsUnbound (BadConfig fault) = ⊤
EndsUnbound PlaceRefused = ⊤
EndsUnbound NoThreads = ⊤
EndsUnbound BindFault = ⊤
EndsUnbound OutputFault = ⊥
EndsUnbound Sessions = ⊥
EndsUnbound AcceptFault = ⊥
EndsUnbound NoMemory = ⊤
