use Rattle.std.proofs.Common.{◌≡◌, map, take}
use Rattle.dory_domain.specs.Held.{opened}
use Rattle.dory_domain.proofs.folders.Folders.new.Given as goal

abbrev pub invariant-loop-config : goal.invariant-loop-config
invariant-loop-config l = l.folders.items ≡ map (opened l.role) (take l.config-index l.configs)
