use Rattle.std.proofs.Common.{◌∙◌, sym, ◌*◌, ◌+◌, ◌^◌}
use Rattle.std.specs.Prelude.{bit_xor}
use Rattle.std.proofs.lemmas.Nat.{xor_lt}
use Rattle.dory_base.proofs.TagHalves.{are_bytes, number_of, halves, together}
use Rattle.dory_base.proofs.tag.Tag.xor.Goals as goal

pub invariant_of-result : goal.invariant_of-result
invariant_of-result c = are_bytes c.to_be_bytes-h.result c.to_be_bytes-l.result _ _ c.to_be_bytes-h.ensures c.to_be_bytes-l.ensures

pub returns : goal.returns
returns c =
    let a = c.from_be_bytes.result in
    let b = c.from_be_bytes-2.result in
    let d = c.from_be_bytes-3.result in
    let e = c.from_be_bytes-4.result in
    number_of c.to_be_bytes-h.result c.to_be_bytes-l.result (bit_xor a b) (bit_xor d e) (xor_lt 64 a b c.from_be_bytes.type_inv c.from_be_bytes-2.type_inv) (xor_lt 64 d e c.from_be_bytes-3.type_inv c.from_be_bytes-4.type_inv) c.to_be_bytes-h.ensures c.to_be_bytes-l.ensures
    ∙ together c.self.inside.0 c.other.inside.0 a b d e c.args.self.now c.args.other.now
    (halves c.self.inside.0 c.self.invariant.sixteen ∙ sym (λ i. c.from_be_bytes.ensures i * 2 ^ 64 + c.from_be_bytes-3.ensures i)) (halves c.other.inside.0 c.other.invariant.sixteen ∙ sym (λ i. c.from_be_bytes-2.ensures i * 2 ^ 64 + c.from_be_bytes-4.ensures i))
    c.from_be_bytes.type_inv c.from_be_bytes-2.type_inv c.from_be_bytes-3.type_inv c.from_be_bytes-4.type_inv c.self.view_is c.other.view_is
