use Rattle.std.proofs.Common.{◌∙◌, string_bytes, ap, sym}
use Rattle.dory_cli.specs.Barred.{is_barred}
use Rattle.dory_cli.proofs.Barring.{any_at}
use Rattle.dory_cli.proofs.checked.has_barred.Goals as goal

pub returns-then-is_barred-clause-value : goal.returns-then-is_barred-clause-value
returns-then-is_barred-clause-value c =
    any_at string_bytes is_barred c.args.words.now c.loop-word.word-index c.word-item.result c.loop-word-test.true c.word-item.is
    (ap is_barred (sym c.as_str-text.ensures.value) ∙ sym c.is_barred.ensures ∙ c.if-is_barred.true)
