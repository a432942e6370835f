use Rattle.std.proofs.Common.{◌≡◌, ◌++◌, ◌∷◌, [], List, ap, ◌∙◌, sym, subst, arith}
use Rattle.dory_base.specs.TableMeaning.{Kept}
use Rattle.dory_domain.specs.Versions.{AreVersions}
use Rattle.dory_domain.proofs.VersionLaws.{first_are}
use Rattle.dory_domain.proofs.versions.LastVersions.new.Goals as goal

pub invariant_of-result : goal.invariant_of-result
invariant_of-result c =
    let one : c.push_within.new.versions.items ≡ c.in_ok-empty.field-0 ∷ [] = c.push_within.ensures.items ∙ ap (λ (vs : List Kept). vs ++ c.in_ok-empty.field-0 ∷ []) c.in_ok-versions.ensures.items in
    let first : AreVersions c.args.shape c.args.retained [] (c.in_ok-empty.field-0 ∷ []) = first_are c.args.shape c.args.retained c.in_ok-empty.field-0 c.requires (ap (λ (t : Kept). t.shape) c.in_ok-empty.ensures.value) c.in_ok-empty.ensures.stands in (
      c.requires,
      omega (arith, c.in_ok-versions.ensures.exact, c.push_within.ensures.capacity),
      ([], subst (AreVersions c.args.shape c.args.retained []) (sym one) first),
    )
