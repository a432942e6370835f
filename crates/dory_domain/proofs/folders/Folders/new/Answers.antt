use Rattle.std.proofs.Common.{◌<◌, ◌≤◌, length, map, ap, ◌∙◌, sym, subst, arith, take_all}
use Rattle.dory_domain.specs.declared.config.FolderConfig.{FolderConfig}
use Rattle.dory_domain.specs.Held.{opened}
use Rattle.dory_domain.proofs.ConfigLaws.{retained_at, all_opened}
use Rattle.dory_domain.proofs.folders.Folders.new.Goals as goal

pub new-requires-clause-some : goal.new-requires-clause-some
new-requires-clause-some c =
    let inside : c.loop-config.config-index < length c.args.configs.now = omega arith in
    let at = retained_at c.args.configs.now c.requires c.loop-config.config-index c.config-item.result inside in
    subst (λ (x : FolderConfig). 1 ≤ x.retained) (sym c.config-item.is) at.0

pub new-requires-clause-few : goal.new-requires-clause-few
new-requires-clause-few c =
    let inside : c.loop-config.config-index < length c.args.configs.now = omega arith in
    let at = retained_at c.args.configs.now c.requires c.loop-config.config-index c.config-item.result inside in
    subst (λ (x : FolderConfig). x.retained ≤ 256) (sym c.config-item.is) at.1

pub invariant_of-result : goal.invariant_of-result
invariant_of-result c =
    all_opened c.args.role c.args.configs.now c.requires c.loop-config.folders.items
    (c.loop-config.invariant ∙ ap (map (opened c.args.role)) (take_all c.loop-config.config-index c.args.configs.now (omega arith)))
