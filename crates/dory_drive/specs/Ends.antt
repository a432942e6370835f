-- What breaks a conversation off.
use Rattle.std.specs.Prelude.{◌≡◌, ◌⊎◌, Result, IsErrOf}
use Rattle.dory_base.specs.declared.ids.Side.{Side}
use Rattle.dory_drive.specs.declared.broken.Broken.{Broken}
use Rattle.dory_drive.specs.declared.broken.Broken.TheVariants.{KeeperFault, LinkFault, NoMemory}
use Rattle.dory_drive.specs.Scene.{Part, Keeper, Link, Output}

-- an ask of this side's domain brought no frame
abbrev pub IsAskEnd : Side → Broken → Type 0
IsAskEnd side end = (end ≡ LinkFault side) ⊎ (end ≡ NoMemory)

-- a save failed
abbrev pub IsSaveEnd : Broken → Type 0
IsSaveEnd end = (end ≡ KeeperFault) ⊎ (end ≡ NoMemory)

-- it broke off since this part failed
abbrev pub BrokeAt : {O : Type 0} → Result O Broken → Part → Type 0
BrokeAt result Keeper = IsErrOf result KeeperFault
BrokeAt result (Link side) = IsErrOf result (LinkFault side)
BrokeAt result Output = ⊥
