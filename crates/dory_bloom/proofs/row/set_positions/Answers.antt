use Rattle.std.proofs.Common.{◌≡◌, ℕ, ◌<◌, ◌-◌, ◌^◌, List, length, get_or, arith}
use Rattle.dory_hmac.specs.Hmac.{hmac_of_block}
use Rattle.dory_bloom.specs.Positions.{columns_of}
use Rattle.dory_bloom.proofs.Columns.{length-columns_of, columns_of-lt, column_before_zeros}
use Rattle.dory_bloom.proofs.row.set_positions.Goals as goal

pub put-requires : goal.put-requires
put-requires c =
    let tag : List ℕ = hmac_of_block c.args.word_key.now c.args.word.now in
    let positions : List ℕ = columns_of tag c.args.shape in
    let many : length positions ≡ c.args.shape.probes = length-columns_of tag c.args.shape in
    let value = c.probes-p-end.ensures.value in
    let near : c.loop-p.p < length positions = omega arith in
    let same : get_or c.keyed_positions.new.into c.loop-p.p 0 ≡ get_or positions c.loop-p.p 0 =
    column_before_zeros c.keyed_positions.new.into positions (8 - c.args.shape.probes) c.loop-p.p c.keyed_positions.ensures near
    in
    let small : get_or positions c.loop-p.p 0 < 2 ^ c.args.shape.depth = columns_of-lt tag c.args.shape c.loop-p.p 0 near in
    let len = c.loop-p.invariant.len in
    omega arith
