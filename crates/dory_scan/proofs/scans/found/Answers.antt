use Rattle.std.proofs.Common.{◌≤◌, List, length, ◌∙◌, sym, subst}
use Rattle.dory_base.specs.declared.found.Place.{Place}
use Rattle.dory_base.specs.TableMeaning.{Kept}
use Rattle.dory_scan.proofs.LineLaws.{few_lines}
use Rattle.dory_scan.proofs.scans.found.Goals as goal

pub sums-requires-clause-few : goal.sums-requires-clause-few
sums-requires-clause-few g c =
    let t : Kept = g.T.SlotTable.meaning c.args.table.now in
    subst (λ (ps : List Place). length ps ≤ 4096) (sym (c.items-lines.ensures.value ∙ c.requires.manifest)) (few_lines t c.number-version.ensures.kept)
