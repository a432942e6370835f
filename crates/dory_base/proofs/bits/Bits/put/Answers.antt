use Rattle.std.proofs.Common.{◌≡◌, ℕ, ◌<◌, ◌/◌, ap, ◌∙◌, sym, length, Bool, get_or, set, List, arith}
use Rattle.std.specs.Int.{bit_at}
use Rattle.std.proofs.lemmas.List.{get_or_default}
use Rattle.dory_base.proofs.Packing.{length-bits_of, put_packed, put_bits}
use Rattle.dory_base.proofs.bits.Bits.put.Goals as goal

pub index-word-requires : goal.index-word-requires
index-word-requires c =
    let n : length c.args.self.now ≡ c.self.inside.len = sym (ap (length {A = Bool}) c.self.view_is) ∙ length-bits_of c.self.inside.len c.self.inside.words.items in
    let e = c.self.inside.words.ok in
    omega (arith, e.0)

pub index_mut-requires : goal.index_mut-requires
index_mut-requires c =
    let n : length c.args.self.now ≡ c.self.inside.len = sym (ap (length {A = Bool}) c.self.view_is) ∙ length-bits_of c.self.inside.len c.self.inside.words.items in
    let e = c.self.inside.words.ok in
    omega (arith, e.0)

pub invariant_of-self : goal.invariant_of-self
invariant_of-self c =
    let n : length c.args.self.now ≡ c.self.inside.len = sym (ap (length {A = Bool}) c.self.view_is) ∙ length-bits_of c.self.inside.len c.self.inside.words.items in
    let e = c.self.inside.words.ok in
    let h : c.args.place < c.self.inside.len = omega arith in
    let low : c.args.place / 64 < length c.self.inside.words.items = omega arith in
    let read : (i : ℕ) → bit_at c.index-word.result.now i ≡ bit_at (get_or c.self.inside.words.items (c.args.place / 64) 0) i = λ i. ap (λ (x : ℕ). bit_at x i) (c.index-word.ensures ∙ get_or_default c.self.inside.words.items (c.args.place / 64) c.index-word.result.now 0 low) in
    put_packed c.self.inside.len c.self.inside.words.items c.args.place c.with_bit.result c.self.invariant h low (λ i near ne. c.with_bit.ensures.others i near ne ∙ read i)

pub returns : goal.returns
returns c =
    let n : length c.args.self.now ≡ c.self.inside.len = sym (ap (length {A = Bool}) c.self.view_is) ∙ length-bits_of c.self.inside.len c.self.inside.words.items in
    let e = c.self.inside.words.ok in
    let h : c.args.place < c.self.inside.len = omega arith in
    let low : c.args.place / 64 < length c.self.inside.words.items = omega arith in
    let read : (i : ℕ) → bit_at c.index-word.result.now i ≡ bit_at (get_or c.self.inside.words.items (c.args.place / 64) 0) i = λ i. ap (λ (x : ℕ). bit_at x i) (c.index-word.ensures ∙ get_or_default c.self.inside.words.items (c.args.place / 64) c.index-word.result.now 0 low) in
    put_bits c.self.inside.len c.self.inside.words.items c.args.place c.with_bit.result c.args.bit h low c.with_bit.ensures.same (λ i near ne. c.with_bit.ensures.others i near ne ∙ read i)
    ∙ ap (λ (bs : List Bool). set bs c.args.place c.args.bit) c.self.view_is
