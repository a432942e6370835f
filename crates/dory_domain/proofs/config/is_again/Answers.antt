use Rattle.std.proofs.Common.{◌≡◌, ℕ, ◌==◌, map, take, get_or, ap, ◌∙◌, sym, subst, rules}
use Rattle.std.specs.List.{list_any}
use Rattle.std.proofs.lemmas.List.{get_or-map}
use Rattle.dory_domain.specs.declared.config.FolderConfig.{FolderConfig}
use Rattle.dory_domain.proofs.config.is_again.Goals as goal

pub returns : goal.returns
returns c =
    let number : FolderConfig → ℕ = λ x. x.folder.0 in
    let at : c.index-configs-place.result.folder.0 ≡ get_or (map number c.args.configs.now) c.args.place 0 =
    ap number c.index-configs-place.is ∙ sym (get_or-map number c.args.configs.now c.args.place c.index-configs-place.result 0 c.requires) in
    subst (λ (n : ℕ). c.is_listed.result ≡ list_any (λ x. x.folder.0 == n) (take c.args.place c.args.configs.now)) at (search rules)
