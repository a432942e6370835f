use Rattle.std.proofs.Common.{◌++◌, ◌∷◌, [], sym, subst, arith}
use Rattle.dory_domain.specs.Versions.{AreVersions, Last, MayFollow}
use Rattle.dory_domain.proofs.VersionLaws.{versions_next}
use Rattle.dory_domain.proofs.versions.LastVersions.push.Goals as goal

pub invariant_of-self : goal.invariant_of-self
invariant_of-self c =
    let may : MayFollow (record { shape = c.self.inside.shape; retained = c.self.inside.retained; versions = c.self.inside.versions.items }) c.args.next = subst (λ (l : Last). MayFollow l c.args.next) (sym c.self.view_is) c.requires in
    let next = versions_next c.self.inside.shape c.self.inside.retained may.0 may.1 c.self.inside.versions.items c.args.next c.self.invariant.0 may.2 may.3 may.4 in (
      c.self.invariant.0,
      omega (arith, c.self.invariant.1, c.keep.ensures.capacity),
      (may.0 ++ may.1 ∷ [], subst (AreVersions c.self.inside.shape c.self.inside.retained (may.0 ++ may.1 ∷ [])) (sym c.keep.ensures.items) next),
    )
