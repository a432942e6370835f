use Rattle.std.proofs.Common.{rules, [], ◌∷◌, refl, ap, sym, ◌∙◌, arith}
use Rattle.std.specs.Int.{w64, from_le_bytes}
use Rattle.std.proofs.lemmas.Bool.{eqb-true, eqb-false}
use Rattle.std.proofs.lemmas.List.{length-append}
use Rattle.dory_fields.proofs.Words.{front_word, left_later, words_more, word_bits}
use Rattle.dory_fields.proofs.packed.words_in.Goals as goal

pub loop-rest-init : goal.loop-rest-init
loop-rest-init c = rw c.in_ok-words.ensures.items (record { left = refl; len = omega arith; words = λ k h. absurd (omega arith) })

pub loop-rest-smaller : goal.loop-rest-smaller
loop-rest-smaller c = search rules

pub loop-rest-preserved : goal.loop-rest-preserved
loop-rest-preserved c =
    let words = c.loop-rest.words.items in
    let bytes = c.args.packed.now in
    let left = c.loop-rest.invariant.left in
    rw c.in_ok-push.ensures.items (record {
      left = c.split_at.ensures.back ∙ left_later words bytes c.loop-rest.rest.now c.word_of.result left;
      len = omega (arith, c.loop-rest.invariant.len, length-append words (c.word_of.result ∷ []), c.split_at.ensures.back_len, c.loop-rest-test.true);
      words = words_more words bytes c.word_of.result c.loop-rest.invariant.words (c.word_of.ensures ∙ ap (from_le_bytes w64) c.split_at.ensures.front ∙ front_word words bytes c.loop-rest.rest.now left);
    })

pub returns-then-is_empty-clause-len : goal.returns-then-is_empty-clause-len
returns-then-is_empty-clause-len c = omega (arith, c.loop-rest.invariant.len, eqb-true _ _ (sym c.if-is_empty.ensures))

pub returns-then-is_empty-clause-bits : goal.returns-then-is_empty-clause-bits
returns-then-is_empty-clause-bits c =
    word_bits c.loop-rest.words.items c.args.packed.now (λ i. omega (arith, c.type_inv.packed i)) c.loop-rest.invariant.words (returns-then-is_empty-clause-len c)

pub returns-clause-len : goal.returns-clause-len
returns-clause-len c =
    let words = c.loop-rest.words.items in
    rw c.in_ok-push-2.ensures.items (omega (arith, c.loop-rest.invariant.len, length-append words (c.last_word.result ∷ []), eqb-false _ _ (sym c.if-is_empty.ensures), c.loop-rest-test.false))

pub returns-clause-bits : goal.returns-clause-bits
returns-clause-bits c =
    let words = c.loop-rest.words.items in
    let bytes = c.args.packed.now in
    let are = words_more words bytes c.last_word.result c.loop-rest.invariant.words (c.last_word.ensures ∙ ap (from_le_bytes w64) c.loop-rest.invariant.left) in
    word_bits c.push-2.new.self.items bytes (λ i. omega (arith, c.type_inv.packed i)) (rw c.in_ok-push-2.ensures.items are) (returns-clause-len c)
