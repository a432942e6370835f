-- The ends of a call.
use Rattle.std.specs.Prelude.{◌≡◌, ◌⊎◌, ⊤}
use Rattle.dory_member.specs.declared.outcome.Fault.{Fault}
use Rattle.dory_member.specs.declared.outcome.Fault.TheVariants as fault
use Rattle.dory_drive.specs.declared.broken.Broken.{Broken}
use Rattle.dory_drive.specs.declared.broken.Broken.TheVariants as broken
use Rattle.dory_drive.specs.Scene.{Part, Keeper, Link, Output}
use Rattle.dory_client.specs.declared.input.InputEnd.{InputEnd}
use Rattle.dory_client.specs.declared.input.InputEnd.TheVariants as input
use Rattle.dory_client.specs.declared.end.ClientEnd.{ClientEnd}
use Rattle.dory_client.specs.declared.end.ClientEnd.TheVariants as ends

-- the end at a command's fault
abbrev pub fault_end : Fault → ClientEnd
fault_end (fault.Check f) = ends.Check f
fault_end (fault.Unconfirmed side want got) = ends.Unconfirmed side want got
fault_end (fault.Diverged number lead_id follow_id) = ends.Diverged number lead_id follow_id
fault_end (fault.Unfinished id) = ends.Unfinished id
fault_end fault.SerialEnd = ends.SerialEnd
fault_end fault.EpochEnd = ends.EpochEnd
fault_end fault.NoMemory = ends.NoMemory

-- the end where a text wasn't read
abbrev pub input_end : InputEnd → ClientEnd
input_end input.Fault = ends.InputFault
input_end input.Long = ends.InputLong
input_end input.NoMemory = ends.NoMemory

-- the end of a load or a save that failed
abbrev pub IsKeeperEnd : ClientEnd → Type 0
IsKeeperEnd end = (end ≡ ends.KeeperFault) ⊎ (end ≡ ends.NoMemory)

-- the end where a conversation broke off
abbrev pub broken_end : Broken → ClientEnd
broken_end broken.KeeperFault = ends.KeeperFault
broken_end (broken.LinkFault side) = ends.LinkFault side
broken_end broken.NoMemory = ends.NoMemory

-- the call ended since this part failed
abbrev pub FailedAt : ClientEnd → Part → Type 0
FailedAt end Keeper = end ≡ ends.KeeperFault
FailedAt end (Link side) = end ≡ ends.LinkFault side
FailedAt end Output = end ≡ ends.OutputFault

-- the call wasn't done
abbrev pub IsUndone : ClientEnd → Type 0
IsUndone end = ¬ (end ≡ ends.Done)

-- what an end says of what was asked and written
pub data EndKind : Type 0 where
  -- all was asked, and the line is written
  Whole : EndKind
  -- all was asked, and the first part of the line is written
  Torn : EndKind
  -- all was asked, what came is a fault, and nothing is written
  Faulty : EndKind
  -- the call may have stopped anywhere, and nothing is written
  Stopped : EndKind

-- what an end says
abbrev pub kind_of : ClientEnd → EndKind
kind_of ends.Done = Whole
kind_of ends.OutputFault = Torn
kind_of (ends.Check f) = Faulty
kind_of (ends.Unconfirmed side want got) = Faulty
kind_of (ends.Diverged number lead_id follow_id) = Faulty
kind_of _ = Stopped

-- nothing is written at an end of this kind
abbrev pub IsSilent : EndKind → Type 0
IsSilent Whole = ⊥
IsSilent Torn = ⊥
IsSilent Faulty = ⊤
IsSilent Stopped = ⊤
