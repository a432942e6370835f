use Rattle.std.proofs.Common.{◌≡◌, ℕ, List, [], ◌∷◌, ◌++◌, flat_map, refl, ap}
use Rattle.dory_dpf.specs.PointKey.{PointKey, last_bytes}
use Rattle.dory_dpf.specs.KeyBytes.{bytes_of_key, correction_bytes}
use Rattle.dory_dpf.proofs.Spelled.{read_back}
use Rattle.dory_dpf.proofs.key.Key.put.Goals as goal

joined : (old : List ℕ) (d p : ℕ) (seed flat last : List ℕ)
    → old ++ (d ∷ []) ++ (p ∷ []) ++ seed ++ flat ++ last ≡ old ++ (d ∷ p ∷ seed ++ flat ++ last)
joined [] d p seed flat last = refl
joined (x ∷ old) d p seed flat last = ap (λ (xs : List ℕ). x ∷ xs) (joined old d p seed flat last)

pub returns-clause-bytes : goal.returns-clause-bytes
unfolding bytes_of_key
returns-clause-bytes c =
    let key : PointKey = c.args.self.now in
    rw (
      c.in_ok-put_last.ensures,
      c.in_ok-put_corrections.ensures,
      c.in_ok-extend_from_slice.ensures.items,
      c.in_ok-push-2.ensures.items,
      c.in_ok-push.ensures.items,
      c.corrections.ensures.value,
      c.seed.ensures,
      c.depth.ensures.value,
      c.party.ensures.value,
    ) (joined c.args.out.now.items key.depth key.party key.seed (flat_map correction_bytes key.corrections) (last_bytes key.last))

pub returns-clause-read_back : goal.returns-clause-read_back
returns-clause-read_back c = read_back c.args.self.now c.depth.ensures.key
