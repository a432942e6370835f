use Rattle.std.proofs.Common.{◌≡◌, ℕ, ◌∙◌, replicate, None, ap, arith}
use Rattle.dory_bloom.proofs.recent.Recent.new.Goals as goal

pub returns : goal.returns
returns c =
    let all : c.loop.counter ≡ 4096 = omega arith in
    c.loop.invariant ∙ ap (λ (n : ℕ). replicate n None) all
