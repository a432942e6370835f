use Rattle.std.proofs.Common.{◌≡◌, ◌≤◌, ℕ, List, [], ◌∷◌, sym, subst, arith, rules}
use Rattle.dory_base.specs.Dims.{Dims, IsDims}
use Rattle.dory_dpf.specs.PointKey.{PointKey, IsKeyOf}
use Rattle.dory_wire.specs.Spelling.{AreKeys}
use Rattle.dory_domain.proofs.tests.search_by.Goals as goal

are_keys : (form : ℕ) (shape : Dims) (keys : List PointKey) (k l : PointKey) → shape.probes ≡ 2 → IsKeyOf form shape.depth k → IsKeyOf form shape.depth l → keys ≡ k ∷ l ∷ [] → AreKeys shape keys
are_keys form shape keys k l probes one two is =
    let same = one.form in
    subst (AreKeys shape) (sym is) (record { many = sym probes; each = (rw same one, (rw same two, tt)) })

pub returns : goal.returns
returns c =
    let dims : IsDims c.args.shape = record { low = c.requires.low; high = c.requires.high; some = omega arith; few = omega arith } in
    (omega arith, dims, are_keys _ c.args.shape c.of.result c.key.result c.key-2.result c.requires.probes c.key.ensures c.key-2.ensures (search rules))
