use Rattle.std.proofs.Common.{arith, bit_xor, get_or}
use Rattle.std.proofs.lemmas.List.{get_or_default}
use Rattle.std.proofs.lemmas.List.Edits.{map_over_more}
use Rattle.dory_hmac.proofs.key_block.xor_pad.Goals as goal

pub loop-byte-preserved : goal.loop-byte-preserved
loop-byte-preserved c =
    let items = c.loop-byte.byte-items in
    let at = c.loop-byte.byte-index in
    let old = get_or items at 0 in
    map_over_more (λ b. bit_xor b c.args.pad) c.args.block.now items at old (omega arith) c.loop-byte.invariant
    (get_or_default items at 0 old (omega arith))
