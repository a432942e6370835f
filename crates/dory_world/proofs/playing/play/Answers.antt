use Rattle.dory_run.proofs.Every.{seen, whole}
use Rattle.dory_world.proofs.Runs.{accepts_at}
use Rattle.std.proofs.Common.{◌≡◌, List, subst}
use Rattle.std.specs.Prelude.{Some, slice_get}
use Rattle.dory_run.specs.Run.{telling_of}
use Rattle.dory_run.specs.declared.line.WorldLine.{WorldLine}
use Rattle.dory_run.specs.declared.line.WorldLine.TheVariants.{Ended}
use Rattle.dory_member.specs.declared.outcome.Outcome.TheVariants.{Accepted}
use Rattle.dory_world.proofs.playing.play.Goals as goal

pub returns-in_err-world-clause-whole : goal.returns-in_err-world-clause-whole
returns-in_err-world-clause-whole g c = whole c.args.honest c.args.setup.now c.args.events.now c.requires.setup

pub returns-in_err-world-clause-seen : goal.returns-in_err-world-clause-seen
returns-in_err-world-clause-seen g c = λ side honest. seen c.args.honest side honest c.args.setup.now c.args.events.now c.requires.setup

pub returns-in_err-lines-clause-whole : goal.returns-in_err-lines-clause-whole
returns-in_err-lines-clause-whole g c = whole c.args.honest c.args.setup.now c.args.events.now c.requires.setup

pub returns-in_err-lines-clause-seen : goal.returns-in_err-lines-clause-seen
returns-in_err-lines-clause-seen g c = λ side honest. seen c.args.honest side honest c.args.setup.now c.args.events.now c.requires.setup

pub returns-clause-whole : goal.returns-clause-whole
returns-clause-whole g c = whole c.args.honest c.args.setup.now c.args.events.now c.requires.setup

pub returns-clause-seen : goal.returns-clause-seen
returns-clause-seen g c = λ side honest. seen c.args.honest side honest c.args.setup.now c.args.events.now c.requires.setup

pub returns-clause-accepted : goal.returns-clause-accepted
returns-clause-accepted g c = λ place m answer at.
    let told : c.in_ok-lines.lines ≡ (telling_of c.args.honest c.args.setup.now c.args.events.now).lines = c.in_ok-lines.ensures.lines in
    accepts_at c.args.honest c.args.setup.now c.args.events.now c.requires.setup place m answer (subst (λ (ls : List WorldLine). slice_get ls place ≡ Some (Ended m (Accepted answer))) told at)
