use Rattle.std.proofs.Common.{List, map, subst, sym}
use Rattle.std.specs.List.Sorted.{IsStrictlyIncreasing}
use Rattle.dory_base.specs.declared.found.Place.{Place}
use Rattle.dory_base.proofs.TableLaws.{manifest_rises}
use Rattle.dory_chunks.proofs.version.VersionSlotTable.manifest.Goals as goal

pub of-requires : goal.of-requires
of-requires c = subst (λ (ps : List Place). IsStrictlyIncreasing (map (λ p. p.slot) ps)) (sym c.in_ok-places.ensures.value) (manifest_rises c.args.self.now.slots)
