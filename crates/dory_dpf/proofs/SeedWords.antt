-- The words of a seed with sixteen zero bytes after it.
use Rattle.std.proofs.Common.{◌≡◌, ℕ, ◌+◌, ◌-◌, ◌*◌, ◌≤◌, List, ◌++◌, length, refl, arith}
use Rattle.std.proofs.Math.ListN.{get_or-append}
use Rattle.std.proofs.lemmas.List.{get_or-append_right}
use Rattle.rand_core.specs.Steps.{u32_at}

-- a word of the seed
pub u32_front : (xs ys : List ℕ) (i : ℕ) → 4 * i + 4 ≤ length xs → u32_at (xs ++ ys) i ≡ u32_at xs i
unfolding u32_at
u32_front xs ys i h =
    rw (
      get_or-append xs ys 0 (4 * i) (omega arith),
      get_or-append xs ys 0 (4 * i + 1) (omega arith),
      get_or-append xs ys 0 (4 * i + 2) (omega arith),
      get_or-append xs ys 0 (4 * i + 3) (omega arith),
    ) refl

-- a word of what follows sixteen bytes
pub u32_back : (xs ys : List ℕ) (i j : ℕ) → length xs ≡ 16 → i ≡ 4 + j → u32_at (xs ++ ys) i ≡ u32_at ys j
unfolding u32_at
u32_back xs ys i j h e =
    let a : 4 * i - 16 ≡ 4 * j = omega arith in
    let b : 4 * i + 1 - 16 ≡ 4 * j + 1 = omega arith in
    let c : 4 * i + 2 - 16 ≡ 4 * j + 2 = omega arith in
    let d : 4 * i + 3 - 16 ≡ 4 * j + 3 = omega arith in
    rw (
      get_or-append_right xs ys 16 (4 * i) 0 h (omega arith),
      get_or-append_right xs ys 16 (4 * i + 1) 0 h (omega arith),
      get_or-append_right xs ys 16 (4 * i + 2) 0 h (omega arith),
      get_or-append_right xs ys 16 (4 * i + 3) 0 h (omega arith),
      a,
      b,
      c,
      d,
    ) refl
