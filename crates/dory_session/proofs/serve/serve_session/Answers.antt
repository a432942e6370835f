use Rattle.std.proofs.Common.{rules, arith, inl, refl, sym, subst, ap, ◌≡◌, ◌≤◌, ℕ, List, [], Err}
use Rattle.dory_session.specs.Ends.{Breaks}
use Rattle.dory_session.specs.Session.{around, IsUnderway}
use Rattle.dory_session.proofs.Underway.{begun, at_once, stopped, broken, gone_on, at_limit, caused, uncaused, stops_not_output, breaks_not_input, limit_not_input, limit_not_output, stops_no_limit, breaks_no_limit, below_limit}
use Rattle.dory_session.proofs.Complete.{ends_well}
use Rattle.dory_session.proofs.serve.serve_session.Goals as goal

pub returns-in_default-clause-session : goal.returns-in_default-clause-session
returns-in_default-clause-session g c = at_once _ _ _ _ _ _ _ _ (begun _ _) (inl (refl, refl))

pub returns-in_default-from_elem-clause-session : goal.returns-in_default-from_elem-clause-session
returns-in_default-from_elem-clause-session g c = at_once _ _ _ _ _ _ _ _ (begun _ _) (inl (refl, refl))

pub loop-answered-init : goal.loop-answered-init
loop-answered-init g c =
    let start = around (g.D.Answers.seen c.args.domain.now) (g.S.Source.left c.args.input.now) (g.S.Source.given c.args.input.now) (g.O.Sink.written c.args.out.now) in
    record {
      underway = ([], [], subst (λ (held : List ℕ). IsUnderway g.D.Answers.steps start start 0 held [] []) (sym c.in-Ok.ensures) (begun _ start));
      source = omega arith;
      sink = omega arith;
    }

pub returns-in-Err-clause-session : goal.returns-in-Err-clause-session
returns-in-Err-clause-session g c =
    let so_far = c.loop-answered.invariant.underway in
    let next = c.in-Err.ensures.next in
    stopped _ _ _ _ _ so_far.0 so_far.1 _ _ next.0 _ so_far.2 next.1 next.2

pub returns-in-Err-clause-input_fault : goal.returns-in-Err-clause-input_fault
returns-in-Err-clause-input_fault g c = caused _ _ _ _ _ c.loop-answered.invariant.source c.in-Err.ensures.cause (λ e. ap Err e)

pub returns-in-Err-clause-output_fault : goal.returns-in-Err-clause-output_fault
returns-in-Err-clause-output_fault g c =
    let next = c.in-Err.ensures.next in
    uncaused _ _ _ c.loop-answered.invariant.sink (stops_not_output _ _ _ _ next.2)

pub returns-in-Err-clause-limited : goal.returns-in-Err-clause-limited
returns-in-Err-clause-limited g c =
    let next = c.in-Err.ensures.next in
    below_limit _ _ (search rules) (stops_no_limit _ _ _ _ next.2)

pub returns-in-Err-clause-complete : goal.returns-in-Err-clause-complete
returns-in-Err-clause-complete g c = λ well no_in no_out.
    ends_well _ _ _ _ _ _ _ _ _ (returns-in-Err-clause-session g c) (returns-in-Err-clause-input_fault g c) (returns-in-Err-clause-output_fault g c) well no_in no_out

pub returns-in-Err-reply_to-clause-session : goal.returns-in-Err-reply_to-clause-session
returns-in-Err-reply_to-clause-session g c =
    let so_far = c.loop-answered.invariant.underway in
    let next = c.in-Ok-next_message.ensures.next in
    let replies = c.in-Err-reply_to.ensures.replies in
    let breaks = subst (λ (message : List ℕ). Breaks g.D.Answers.steps c.in-Err-reply_to.how (g.D.Answers.seen c.loop-answered.domain) message replies.0 (g.D.Answers.seen c.reply_to.new.domain)) c.deref.ensures.value replies.2 in
    broken _ _ _ _ _ so_far.0 so_far.1 _ _ _ _ next.0 c.in-Ok-next_message.message.items c.next_message.new.framer replies.0 _ so_far.2 next.1 next.2.0 next.2.1 replies.1 breaks

pub returns-in-Err-reply_to-clause-input_fault : goal.returns-in-Err-reply_to-clause-input_fault
returns-in-Err-reply_to-clause-input_fault g c =
    let later : g.S.Source.faults c.loop-answered.input ≤ g.S.Source.faults c.next_message.new.input = c.in-Ok-next_message.ensures.cause.later in
    let replies = c.in-Err-reply_to.ensures.replies in
    uncaused _ _ _ (omega (arith, c.loop-answered.invariant.source, later)) (breaks_not_input _ _ _ _ _ _ replies.2)

pub returns-in-Err-reply_to-clause-output_fault : goal.returns-in-Err-reply_to-clause-output_fault
returns-in-Err-reply_to-clause-output_fault g c = caused _ _ _ _ _ c.loop-answered.invariant.sink c.in-Err-reply_to.ensures.cause (λ e. ap Err e)

pub returns-in-Err-reply_to-clause-limited : goal.returns-in-Err-reply_to-clause-limited
returns-in-Err-reply_to-clause-limited g c =
    let replies = c.in-Err-reply_to.ensures.replies in
    below_limit _ _ (search rules) (breaks_no_limit _ _ _ _ _ _ replies.2)

pub returns-in-Err-reply_to-clause-complete : goal.returns-in-Err-reply_to-clause-complete
returns-in-Err-reply_to-clause-complete g c = λ well no_in no_out.
    ends_well _ _ _ _ _ _ _ _ _ (returns-in-Err-reply_to-clause-session g c) (returns-in-Err-reply_to-clause-input_fault g c) (returns-in-Err-reply_to-clause-output_fault g c) well no_in no_out

pub loop-answered-preserved : goal.loop-answered-preserved
loop-answered-preserved g c =
    let so_far = c.loop-answered.invariant.underway in
    let next = c.in-Ok-next_message.ensures.next in
    let replies = c.in-Ok-reply_to.ensures.replies in
    let answered = subst (λ (message : List ℕ). g.D.Answers.steps (g.D.Answers.seen c.loop-answered.domain) message replies.0 (g.D.Answers.seen c.reply_to.new.domain)) c.deref.ensures.value replies.2 in
    let read : g.S.Source.faults c.loop-answered.input ≤ g.S.Source.faults c.next_message.new.input = c.in-Ok-next_message.ensures.cause.later in
    let wrote : g.O.Sink.faults c.loop-answered.out ≤ g.O.Sink.faults c.reply_to.new.out = c.in-Ok-reply_to.ensures.cause.later in
    record {
      underway = (_, _, gone_on _ _ _ _ _ so_far.0 so_far.1 _ _ _ _ next.0 c.in-Ok-next_message.message.items c.next_message.new.framer replies.0 so_far.2 next.1 next.2.0 next.2.1 replies.1 answered);
      source = omega (arith, c.loop-answered.invariant.source, read);
      sink = omega (arith, c.loop-answered.invariant.sink, wrote);
    }

pub returns-clause-session : goal.returns-clause-session
returns-clause-session g c =
    let so_far = c.loop-answered.invariant.underway in
    let all : c.loop-answered.answered ≡ 4294967295 = search rules in
    at_limit _ _ _ _ _ so_far.0 so_far.1 so_far.2 all

pub returns-clause-input_fault : goal.returns-clause-input_fault
returns-clause-input_fault g c = uncaused _ _ _ c.loop-answered.invariant.source limit_not_input

pub returns-clause-output_fault : goal.returns-clause-output_fault
returns-clause-output_fault g c = uncaused _ _ _ c.loop-answered.invariant.sink limit_not_output

pub returns-clause-complete : goal.returns-clause-complete
returns-clause-complete g c = λ well no_in no_out.
    ends_well _ _ _ _ _ _ _ _ _ (returns-clause-session g c) (returns-clause-input_fault g c) (returns-clause-output_fault g c) well no_in no_out
