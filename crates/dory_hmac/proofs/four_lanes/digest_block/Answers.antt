use Rattle.std.proofs.Common.{◌≡◌, ℕ, List, ◌<◌, ◌*◌, ◌++◌, ◌∙◌, ap, sym, arith, slice_index}
use Rattle.sha2.specs.Sha256.{compress, digest_bytes, padding, word_at}
use Rattle.dory_hmac.specs.Lanes.{lane_at}
use Rattle.dory_hmac.proofs.LaneLemmas.{splat_at, below_sixteen, compress-lt, digest_words, slice_index-lane}
use Rattle.dory_hmac.proofs.four_lanes.digest_block.Goals as goal

pub returns : goal.returns
unfolding digest_bytes
returns c j s b near held =
    let at : (k : ℕ) → k < 8 → lane_at c.args.h k j ≡ word_at (digest_bytes (compress s b) 8 ++ padding 96) (4 * k) =
    λ k lt. sym (slice_index-lane c.args.h j k lt) ∙ ap (λ (x : List ℕ). slice_index x k) held ∙ sym (digest_words (compress s b) (compress-lt s b) k lt) in
    below_sixteen _
    (at 0 (omega arith)) (at 1 (omega arith)) (at 2 (omega arith)) (at 3 (omega arith))
    (at 4 (omega arith)) (at 5 (omega arith)) (at 6 (omega arith)) (at 7 (omega arith))
    (splat_at 0x80000000 j near) (splat_at 0 j near) (splat_at 0 j near) (splat_at 0 j near)
    (splat_at 0 j near) (splat_at 0 j near) (splat_at 0 j near) (splat_at 768 j near)
