use Rattle.std.proofs.Common.{rules, ◌≡◌, ◌≤◌, length, drop, true, false, Some, Ok, Err, sym, ◌∙◌, subst, arith}
use Rattle.dory_journal.proofs.Loads.{fails_as, goes, unlawful}
use Rattle.dory_journal.proofs.load.step.Goals as goal
use Rattle.dory_journal.specs.Ops.{may, log_after_op}
use Rattle.dory_journal.specs.Reading.{LooksAs, IsLoaded}

pub returns-in-Err-clause-steps : goal.returns-in-Err-clause-steps
returns-in-Err-clause-steps g c = λ b told is.
    let looked : LooksAs c.args.folder.0 c.args.gate b (Err c.in-Err.fault) = c.in-Err.ensures.looks b told in
    fails_as c.args.folder.0 c.args.role c.args.log.now.log.shape c.args.log.now.log c.args.log.now.log c.args.gate b c.in-Err.fault is looked

pub returns-then-branch-clause-steps : goal.returns-then-branch-clause-steps
returns-then-branch-clause-steps g c = λ b told is.
    let looked : LooksAs c.args.folder.0 c.args.gate b (Ok (Some (c.in-Ok-Some.request, c.in-Ok-Some.next))) = subst (λ o. LooksAs c.args.folder.0 c.args.gate b (Ok o)) c.in-Ok-Some.field-0-is (c.in-Ok-Some.ensures.looks b told) in
    let op = looked.0 in
    let lawful : may c.args.log.now.log op ≡ true = sym (c.in_ok-replay-in-Ok-Some.ensures.lawful op looked.1) ∙ c.if-branch.true in
    let log_is : c.replay.new.log.log ≡ log_after_op c.args.log.now.log op = c.in_ok-replay-in-Ok-Some.ensures.done op looked.1 c.if-branch.true in
    let next : c.in-Ok-Some.next ≤ c.args.length = search rules in
    let within : c.in-Ok-Some.next ≤ length b = omega (arith, c.requires.length b told, next) in
    subst (λ log. IsLoaded c.args.folder.0 c.args.role c.args.log.now.log.shape log c.in-Ok-Some.next b) (sym log_is)
    (goes c.args.folder.0 c.args.role c.args.log.now.log.shape c.args.log.now.log c.args.gate b is op c.in-Ok-Some.next looked.2 lawful within)

pub returns-else-branch-clause-steps : goal.returns-else-branch-clause-steps
returns-else-branch-clause-steps g c = λ b told is.
    let looked : LooksAs c.args.folder.0 c.args.gate b (Ok (Some (c.in-Ok-Some.request, c.in-Ok-Some.next))) = subst (λ o. LooksAs c.args.folder.0 c.args.gate b (Ok o)) c.in-Ok-Some.field-0-is (c.in-Ok-Some.ensures.looks b told) in
    let op = looked.0 in
    let not_may : may c.args.log.now.log op ≡ false = sym (c.in_ok-replay-in-Ok-Some.ensures.lawful op looked.1) ∙ c.if-branch.false in
    unlawful c.args.folder.0 c.args.role c.args.log.now.log.shape c.args.log.now.log c.args.gate b is op (drop c.in-Ok-Some.next b) looked.2 not_may
