use Rattle.std.proofs.Common.{◌≡◌, ℕ, ◌+◌, ◌/◌, ◌≤◌, List, length, replicate, ap, ◌∙◌, sym, subst, arith}
use Rattle.std.proofs.lemmas.List.{length-replicate}
use Rattle.dory_base.specs.declared.found.Place.{Place}
use Rattle.dory_base.specs.TableMeaning.{Kept}
use Rattle.dory_scan.proofs.LineLaws.{few_lines}
use Rattle.dory_scan.proofs.scans.scan.Goals as goal

pub fill-requires-clause-few : goal.fill-requires-clause-few
fill-requires-clause-few g c =
    let t : Kept = g.T.SlotTable.meaning c.args.table.now in
    let lines : length c.items.result.now ≤ 4096 = subst (λ (ps : List Place). length ps ≤ 4096) (sym (c.items.ensures.value ∙ c.in_ok-manifest.ensures.value)) (few_lines t c.in_ok-manifest.ensures.kept) in
    let count : length c.deref_mut.result.now ≡ (length c.items.result.now + 63) / 64 =
    ap (length {A = List ℕ}) (c.deref_mut.ensures.value ∙ c.in_ok-blocks.ensures) ∙ length-replicate ((length c.items.result.now + 63) / 64) (replicate (length c.args.selectors.now) 0) in
    omega arith
