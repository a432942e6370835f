use Rattle.std.proofs.Common.{List, [], ◌∷◌, ◌++◌, ap, ◌∙◌}
use Rattle.dory_run.specs.Start.{members_from}
use Rattle.dory_run.specs.World.{Station, Idle}
use Rattle.dory_world.proofs.Begun.{members_next}
use Rattle.dory_world.proofs.starting.members.Goals as goal

pub loop-number-preserved : goal.loop-number-preserved
loop-number-preserved c =
    c.in_ok-push.ensures.items
    ∙ ap (λ (xs : List Station). xs ++ c.idle.result ∷ []) c.loop-number.invariant
    ∙ ap (λ (x : Station). members_from c.args.setup.now 0 c.loop-number.number ++ x ∷ []) (c.idle.ensures ∙ ap Idle c.fresh.ensures.value)
    ∙ members_next c.args.setup.now c.loop-number.number
