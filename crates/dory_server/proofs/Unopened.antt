-- What a server that doesn't open has written.
use Rattle.std.proofs.Common.{ℕ, List, [], Option, Result}
use Rattle.std.specs.Io.KnownBytes.{Appends}
use Rattle.dory_io.specs.declared.address.Address.{Address}
use Rattle.dory_server.specs.Opening.{EndsUnbound, Wrote}
use Rattle.dory_server.specs.declared.end.ServerEnd.{ServerEnd}
use Rattle.dory_server.specs.declared.end.ServerEnd.TheVariants.{Usage, BadConfig, PlaceRefused, NoThreads, BindFault, OutputFault, Sessions, AcceptFault, NoMemory}
use Rattle.dory_server.specs.declared.line.ServerLine.{ServerLine}
use Rattle.dory_server.specs.declared.line.ServerWords.{ServerWords}

-- an end before anything is bound is said by nothing written
pub wrote_nothing : (read : Result ServerLine ServerWords) (bound : Option Address) (before now : Option (List ℕ)) (end : ServerEnd) → EndsUnbound end → Appends before now [] → Wrote read bound before now end
wrote_nothing read bound before now (Usage at) u e = e
wrote_nothing read bound before now (BadConfig fault) u e = e
wrote_nothing read bound before now PlaceRefused u e = e
wrote_nothing read bound before now NoThreads u e = e
wrote_nothing read bound before now BindFault u e = e
wrote_nothing read bound before now OutputFault u e = absurd u
wrote_nothing read bound before now Sessions u e = absurd u
wrote_nothing read bound before now AcceptFault u e = absurd u
wrote_nothing read bound before now NoMemory u e = e
