use Rattle.std.proofs.Common.{◌≡◌, map, take}
use Rattle.dory_domain.specs.Held.{opened}
use Rattle.dory_shared.specs.Seen.{held_of}
use Rattle.dory_shared.proofs.opened.begin.Given as goal

abbrev pub invariant-loop-folder : goal.invariant-loop-folder
invariant-loop-folder g l = map held_of l.all.items ≡ map (opened l.config.role) (take l.folder-index l.config.folders)
