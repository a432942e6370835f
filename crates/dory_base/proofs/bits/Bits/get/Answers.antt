use Rattle.std.proofs.Common.{◌≡◌, ℕ, ◌<◌, ◌/◌, ◌%◌, ap, ◌∙◌, sym, length, Bool, false, get_or, List, eqb, arith}
use Rattle.std.specs.Int.{bit_at}
use Rattle.std.proofs.lemmas.List.{get_or_default}
use Rattle.std.proofs.lemmas.Nat.Bits.{shr_and_one}
use Rattle.dory_base.proofs.Packing.{length-bits_of, get_or-bits_of}
use Rattle.dory_base.proofs.bits.Bits.get.Goals as goal

pub index-requires : goal.index-requires
index-requires c =
    let n : length c.args.self.now ≡ c.self.inside.len = sym (ap (length {A = Bool}) c.self.view_is) ∙ length-bits_of c.self.inside.len c.self.inside.words.items in
    let e = c.self.inside.words.ok in
    omega (arith, e.0)

pub returns : goal.returns
returns c =
    let n : length c.args.self.now ≡ c.self.inside.len = sym (ap (length {A = Bool}) c.self.view_is) ∙ length-bits_of c.self.inside.len c.self.inside.words.items in
    let e = c.self.inside.words.ok in
    let h : c.args.place < c.self.inside.len = omega arith in
    let low : c.args.place / 64 < length c.self.inside.words.items = omega arith in
    let read : c.index.result.now ≡ get_or c.self.inside.words.items (c.args.place / 64) 0 = c.index.ensures ∙ get_or_default c.self.inside.words.items (c.args.place / 64) c.index.result.now 0 low in
    ap (λ (x : ℕ). eqb x 1) (shr_and_one c.index.result.now (c.args.place % 64) ∙ ap (λ (x : ℕ). bit_at x (c.args.place % 64)) read)
    ∙ sym (get_or-bits_of c.self.inside.len c.self.inside.words.items c.args.place h)
    ∙ ap (λ (bs : List Bool). get_or bs c.args.place false) c.self.view_is
