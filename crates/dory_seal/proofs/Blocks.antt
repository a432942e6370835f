-- The columns of a shape, block by block.
use Rattle.std.proofs.Common.{◌≡◌, ℕ, zero, suc, ◌+◌, ◌-◌, ◌*◌, ◌%◌, ◌^◌, refl, ap, ◌∙◌, arith}
use Rattle.dory_base.specs.Dims.{Dims, IsDims}

doubled : (n : ℕ) → 2 ^ suc n ≡ 2 * 2 ^ n
doubled n = omega arith

blocks_from : (n : ℕ) → 2 ^ (8 + n) % 256 ≡ 0
blocks_from zero = refl
blocks_from (suc n) =
    let e : 8 + suc n ≡ suc (8 + n) = omega arith in
    ap (λ (d : ℕ). 2 ^ d % 256) e ∙ omega (arith, doubled (8 + n), blocks_from n)

-- they are whole blocks of 256
pub whole_blocks : (shape : Dims) → IsDims shape → 2 ^ shape.depth % 256 ≡ 0
whole_blocks shape range =
    let low = range.low in
    let e : shape.depth ≡ 8 + (shape.depth - 8) = omega arith in
    ap (λ (d : ℕ). 2 ^ d % 256) e ∙ blocks_from (shape.depth - 8)
