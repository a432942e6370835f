use Rattle.std.proofs.Common.{List, Option, [], sym, subst}
use Rattle.dory_base.specs.declared.entry.Entry.{Entry}
use Rattle.dory_base.specs.Step.{IsLog}
use Rattle.dory_base.proofs.LogLaws.{empty_is_log}
use Rattle.dory_log.specs.Numbered.{Numbered}
use Rattle.dory_log.proofs.log.FolderLog.new.Goals as goal

pub invariant_of-result : goal.invariant_of-result
invariant_of-result c =
    let role = c.args.role in
    let shape = c.args.shape in
    subst (λ (n : Numbered). IsLog (record { role = role; shape = shape; ids = n.ids; staged = c.in_ok-places.places })) (sym c.in_ok-numbers.ensures)
    (subst (λ (places : List (Option Entry)). IsLog (record { role = role; shape = shape; ids = []; staged = places })) (sym c.in_ok-places.ensures) (empty_is_log role shape))
