use Rattle.std.proofs.Common.{◌++◌, ◌*◌, ap, sym, ◌∙◌, append_assoc, append-nil, take, List, ℕ, get_or, arith}
use mathlib.Core.Path.{ap₂}
use Rattle.std.specs.Int.{w64, to_le_bytes}
use Rattle.std.proofs.lemmas.List.{take_all}
use Rattle.dory_fields.specs.Packing.{packed}
use Rattle.dory_fields.proofs.Packing.{length-packed}
use Rattle.dory_fields.proofs.Words.{piece_done}
use Rattle.dory_fields.proofs.packed.put_bits.Goals as goal

pub loop-word-init : goal.loop-word-init
loop-word-init c = record { left = omega (arith, c.len.ensures.value); written = sym (append-nil c.args.out.now.items) }

pub loop-word-preserved : goal.loop-word-preserved
loop-word-preserved c =
    let bits = c.args.bits.now in
    let i = c.loop-word.word-index in
    let words = c.words-word-items.result.now in
    let piece = c.min-piece.result in
    record {
      left = omega (arith, c.loop-word.invariant.left, c.min-piece.ensures);
      written =
          c.in_ok-extend_from_slice.ensures.items
          ∙ ap₂ (λ (x y : List ℕ). x ++ take piece y) c.loop-word.invariant.written c.to_le_bytes.ensures
          ∙ append_assoc c.args.out.now.items (take (8 * i) (packed bits)) (take piece (to_le_bytes w64 (get_or words i 0)))
          ∙ ap (λ (x : List ℕ). c.args.out.now.items ++ x) (piece_done words bits i c.loop-word.left piece c.words-word-items.ensures.bits c.loop-word.invariant.left c.min-piece.ensures (omega (arith, c.words-word-items.ensures.len, c.loop-word-test.true)));
    }

pub returns : goal.returns
returns c =
    let bits = c.args.bits.now in
    c.loop-word.invariant.written ∙ ap (λ (x : List ℕ). c.args.out.now.items ++ x) (take_all (8 * c.loop-word.word-index) (packed bits) (omega (arith, length-packed bits, c.words-word-items.ensures.len, c.loop-word-test.false)))
