use Rattle.std.proofs.Common.{◌∙◌, ap}
use Rattle.dory_journal.specs.Made.{done_number}
use Rattle.dory_journal.proofs.Numbers.{done_is}
use Rattle.dory_journal.proofs.number.number_in.Goals as goal

pub returns : goal.returns
returns c = c.done_number.ensures ∙ ap done_number c.look_stage.ensures ∙ done_is c.args.log.now.log c.args.id (record { 0 = 0 }) c.length.ensures.log
