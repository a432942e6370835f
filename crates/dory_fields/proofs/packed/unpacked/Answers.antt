use Rattle.std.proofs.Common.{◌∙◌, arith}
use Rattle.dory_fields.proofs.Words.{clear_words, bits_of_words}
use Rattle.dory_fields.proofs.packed.unpacked.Goals as goal

pub of_words-requires-clause-clear : goal.of_words-requires-clause-clear
of_words-requires-clause-clear c = clear_words c.in_ok-words.words.items c.args.packed.now c.args.count c.in_ok-words.ensures.bits c.requires.clear

pub returns : goal.returns
returns c = c.of_words.ensures ∙ bits_of_words c.in_ok-words.words.items c.args.packed.now c.args.count c.in_ok-words.ensures.bits (omega (arith, c.requires.len))
