use Rattle.std.proofs.Common.{◌∙◌, sym}
use Rattle.dory_base.proofs.WordRun.{none_is_run}
use Rattle.dory_base.proofs.word.Word.read.Goals as goal

pub of_run-requires-clause-word_bytes : goal.of_run-requires-clause-word_bytes
of_run-requires-clause-word_bytes c = none_is_run c.args.bytes.now (sym c.first_separator.ensures ∙ c.in-None.is)
