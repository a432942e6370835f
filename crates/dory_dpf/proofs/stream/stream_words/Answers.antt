use Rattle.std.proofs.Common.{◌≡◌, ℕ, ◌+◌, ◌%◌, ◌^◌, ◌<◌, ◌≢◌, length, arith, ap, ◌∙◌, below_more, get_or-set_other, get_or-set_same}
use Rattle.rand_chacha.specs.ChaCha.{ChaCha, next_word}
use Rattle.dory_dpf.specs.Block.{stream_word}
use Rattle.dory_dpf.proofs.Words.{word_is}
use Rattle.dory_dpf.proofs.stream.stream_words.Goals as goal

pub loop-word-preserved : goal.loop-word-preserved
loop-word-preserved c =
    let at = c.loop-word.word-index in
    let near : at < length c.loop-word.into = omega arith in
    let next : (at + 1) % 2 ^ 68 ≡ at + 1 = omega (arith, c.requires) in
    let stepped = ap (next_word 10) c.loop-word.invariant.place in
    let all = c.next_word.ensures ∙ stepped in
    let word : c.next_word.result ≡ stream_word c.args.key.now c.args.stream at =
    ap (λ (p : ℕ × ChaCha). p.0) all ∙ word_is c.args.key.now c.args.stream at (omega (arith, c.requires)) in
    record {
      place = rw next at (ap (λ (p : ℕ × ChaCha). p.1) all);
      written = below_more _ _
          (λ k h. let other : k ≢ at = omega arith in rw get_or-set_other (c.loop-word.invariant.written k h))
          (rw get_or-set_same word);
    }
