use Rattle.std.proofs.Common.{◌≡◌, ◌∙◌, sym, length, arith}
use Rattle.std.proofs.lemmas.Grind.{same_number_lists}
use Rattle.dory_dpf.specs.Sixteen.{xor_bytes}
use Rattle.dory_dpf.proofs.XorLaws.{get_or-xor_bytes, length-xor_bytes}
use Rattle.dory_dpf.proofs.sixteen.xor16.Goals as goal

pub returns : goal.returns
returns c =
    let same : length c.args.a.now ≡ length c.args.b.now = omega arith in
    let whole : length (xor_bytes c.args.a.now c.args.b.now) ≡ length c.args.a.now = length-xor_bytes c.args.a.now c.args.b.now same in
    same_number_lists c.loop-i.out (xor_bytes c.args.a.now c.args.b.now) (omega arith)
    (λ k h. c.loop-i.invariant.done k (omega arith) ∙ sym (get_or-xor_bytes c.args.a.now c.args.b.now k))
