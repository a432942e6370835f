use Rattle.std.proofs.Common.{◌≡◌, ◌*◌}
use Rattle.dory_seal.proofs.Sealing.{tags_over}
use Rattle.dory_seal.proofs.post.sealed_tags.Given as goal

abbrev pub invariant-loop-run : goal.invariant-loop-run
invariant-loop-run l = l.tags.items ≡ tags_over l.keys.keys l.doc l.id (64 * l.run) l.cells
