use Rattle.std.proofs.Common.{◌≡◌, ℕ, List, length, replicate, refl, arith}
use Rattle.rand_core.specs.Steps.{u32_at}
use Rattle.dory_dpf.proofs.SeedWords.{u32_front, u32_back}
use Rattle.dory_dpf.proofs.block.state_of.Goals as goal

pub returns : goal.returns
unfolding u32_at
returns c =
    let seed = c.args.seed.now in
    let zeros : List ℕ = replicate 16 0 in
    let sixteen : length seed ≡ 16 = omega arith in
    rw (
      u32_front seed zeros 0 (omega arith),
      u32_front seed zeros 1 (omega arith),
      u32_front seed zeros 2 (omega arith),
      u32_front seed zeros 3 (omega arith),
      u32_back seed zeros 4 0 sixteen refl,
      u32_back seed zeros 5 1 sixteen refl,
      u32_back seed zeros 6 2 sixteen refl,
      u32_back seed zeros 7 3 sixteen refl,
      c.read_u32.ensures,
      c.read_u32-2.ensures,
      c.read_u32-3.ensures,
      c.read_u32-4.ensures,
    ) refl
