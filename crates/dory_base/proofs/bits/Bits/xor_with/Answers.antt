use Rattle.std.proofs.Common.{◌≡◌, ℕ, ◌+◌, ◌/◌, ap, ◌∙◌, sym, length, Bool, arith}
use mathlib.Core.Path.{ap₂}
use Rattle.std.specs.Simd.Lanes.{zip2}
use Rattle.dory_base.specs.Packed.{bits_of}
use Rattle.dory_base.specs.Xor.{xor}
use Rattle.dory_base.proofs.Packing.{length-bits_of, xor_packed, xor_bits}
use Rattle.dory_base.proofs.bits.Bits.xor_with.Goals as goal

pub xor_words-requires : goal.xor_words-requires
xor_words-requires c =
    let n : length c.args.self.now ≡ c.self.inside.len = sym (ap (length {A = Bool}) c.self.view_is) ∙ length-bits_of c.self.inside.len c.self.inside.words.items in
    let m : length c.args.other.now ≡ c.other.inside.len = sym (ap (length {A = Bool}) c.other.view_is) ∙ length-bits_of c.other.inside.len c.other.inside.words.items in
    let e = c.self.inside.words.ok in
    let f = c.other.inside.words.ok in
    let same : c.self.inside.len ≡ c.other.inside.len = omega arith in
    let g : (c.self.inside.len + 63) / 64 ≡ (c.other.inside.len + 63) / 64 = ap (λ (x : ℕ). (x + 63) / 64) same in
    omega (arith, e.0, f.0)

pub invariant_of-self : goal.invariant_of-self
invariant_of-self c =
    let n : length c.args.self.now ≡ c.self.inside.len = sym (ap (length {A = Bool}) c.self.view_is) ∙ length-bits_of c.self.inside.len c.self.inside.words.items in
    let m : length c.args.other.now ≡ c.other.inside.len = sym (ap (length {A = Bool}) c.other.view_is) ∙ length-bits_of c.other.inside.len c.other.inside.words.items in
    let same : c.self.inside.len ≡ c.other.inside.len = omega arith in
    rw c.xor_words.ensures (xor_packed c.self.inside.len c.self.inside.words.items c.other.inside.words.items c.self.invariant (rw (← same) at c.other.invariant))

pub returns : goal.returns
returns c =
    let n : length c.args.self.now ≡ c.self.inside.len = sym (ap (length {A = Bool}) c.self.view_is) ∙ length-bits_of c.self.inside.len c.self.inside.words.items in
    let m : length c.args.other.now ≡ c.other.inside.len = sym (ap (length {A = Bool}) c.other.view_is) ∙ length-bits_of c.other.inside.len c.other.inside.words.items in
    let same : c.self.inside.len ≡ c.other.inside.len = omega arith in
    let long : length c.self.inside.words.items ≡ length c.other.inside.words.items = c.self.invariant.exact ∙ ap (λ (x : ℕ). (x + 63) / 64) same ∙ sym c.other.invariant.exact in
    ap (bits_of c.self.inside.len) c.xor_words.ensures
    ∙ xor_bits c.self.inside.len c.self.inside.words.items c.other.inside.words.items long
    ∙ ap₂ (zip2 xor) c.self.view_is (ap (λ (x : ℕ). bits_of x c.other.inside.words.items) same ∙ c.other.view_is)
