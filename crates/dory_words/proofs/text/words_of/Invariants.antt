use Rattle.std.proofs.Common.{◌≡◌, ◌++◌, ℕ, ◌<◌, ◌≤◌, true, get_or, drop}
use Rattle.dory_base.specs.Words.{is_word_byte}
use Rattle.dory_words.specs.WordsIn.{words_in}
use Rattle.dory_words.proofs.text.words_of.Given as goal

abbrev pub invariant-loop-at : goal.invariant-loop-at
invariant-loop-at l = record {
  within : l.start ≤ l.at;
  run : (k : ℕ) → l.start ≤ k → k < l.at → is_word_byte (get_or l.text k 0) ≡ true;
  words : l.words.items ++ words_in (drop l.start l.text) ≡ words_in l.text;
}
