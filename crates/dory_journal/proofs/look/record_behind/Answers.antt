use Rattle.std.proofs.Common.{rules, true, ◌≡◌, ◌+◌, ◌≤◌, length, drop, None, ◌∙◌, ap, arith}
use Rattle.dory_wire.specs.Reading.{request_of}
use Rattle.dory_journal.proofs.Looks.{few_bytes, zero_length, large_length, cut_short, whole, there}
use Rattle.dory_journal.proofs.look.record_behind.Goals as goal
use Rattle.dory_journal.proofs.look.record_behind.Goals.{then-n-lt1-via-then-n-lt1, then-n-lt1-via-else-n-lt1+then-n-gt1048576, then-n-lt1-via-else-n-lt1+else-n-gt1048576+then-n-rest}
use Rattle.dory_journal.specs.Bytes.{op_of_request, with_rest}
use Rattle.dory_journal.specs.Ops.{has_op, op_of_want}

pub returns-then-rest-lt4-clause-found : goal.returns-then-rest-lt4-clause-found
returns-then-rest-lt4-clause-found g c = λ b told.
    few_bytes c.args.folder.0 c.args.gate b (omega (arith, c.requires.length b told, c.requires.within, c.if-rest-lt4.true))

pub returns-then-n-lt1-clause-found : goal.returns-then-n-lt1-clause-found
returns-then-n-lt1-clause-found g c = λ b told.
    let length_is = c.requires.length b told in
    let four : c.args.gate + 5 ≤ length b = omega (arith, length_is, c.requires.within, c.if-rest-lt4.false) in
    elim c.then-n-lt1.branch [
      | then-n-lt1-via-then-n-lt1 w ↦ zero_length c.args.folder.0 c.args.gate b c.length_of-n.result c.in_ok-read.field-0 four (c.in_ok-read.ensures.bytes b told) c.length_of-n.ensures (omega (arith, w.if-n-lt1.true))
      | then-n-lt1-via-else-n-lt1+then-n-gt1048576 w ↦ large_length c.args.folder.0 c.args.gate b c.length_of-n.result c.in_ok-read.field-0 four (c.in_ok-read.ensures.bytes b told) c.length_of-n.ensures (omega (arith, w.if-n-lt1.false)) (omega (arith, w.if-n-gt1048576.true))
      | then-n-lt1-via-else-n-lt1+else-n-gt1048576+then-n-rest w ↦ cut_short c.args.folder.0 c.args.gate b c.length_of-n.result c.in_ok-read.field-0 four (c.in_ok-read.ensures.bytes b told) c.length_of-n.ensures (omega (arith, w.if-n-lt1.false)) (omega (arith, w.if-n-gt1048576.false)) (omega (arith, length_is, w.if-n-rest.true))
    ]

pub returns-in-None-clause-found : goal.returns-in-None-clause-found
returns-in-None-clause-found g c = λ b told.
    let length_is = c.requires.length b told in
    let four : c.args.gate + 5 ≤ length b = omega (arith, length_is, c.requires.within, c.if-rest-lt4.false) in
    let told_mid = c.read.ensures.quiet.same ∙ told in
    let message_is = c.deref.ensures.value ∙ c.in_ok-message.ensures.bytes b told_mid in
    let none : op_of_request c.args.folder.0 (request_of c.deref.result.now) ≡ None = search rules in
    whole c.args.folder.0 c.args.gate b c.length_of-n.result c.in_ok-read.field-0 four (c.in_ok-read.ensures.bytes b told) c.length_of-n.ensures (omega (arith, c.if-n-lt1.false)) (omega (arith, c.if-n-gt1048576.false)) (omega (arith, length_is, c.if-n-rest.false)) c.deref.result.now message_is
    ∙ ap (with_rest (drop (c.args.gate + 5 + c.length_of-n.result) b)) none

pub returns-clause-found : goal.returns-clause-found
returns-clause-found g c = λ b told.
    let length_is = c.requires.length b told in
    let four : c.args.gate + 5 ≤ length b = omega (arith, length_is, c.requires.within, c.if-rest-lt4.false) in
    let told_mid = c.read.ensures.quiet.same ∙ told in
    let message_is = c.deref.ensures.value ∙ c.in_ok-message.ensures.bytes b told_mid in
    let read = whole c.args.folder.0 c.args.gate b c.length_of-n.result c.in_ok-read.field-0 four (c.in_ok-read.ensures.bytes b told) c.length_of-n.ensures (omega (arith, c.if-n-lt1.false)) (omega (arith, c.if-n-gt1048576.false)) (omega (arith, length_is, c.if-n-rest.false)) c.deref.result.now message_is in
    let same : op_of_request c.args.folder.0 (request_of c.deref.result.now) ≡ op_of_want c.in-Some.request.want = search rules in
    let some : has_op (op_of_want c.in-Some.request.want) ≡ true = search rules in
    let op = there (op_of_want c.in-Some.request.want) some in
    (op.0, op.1, read ∙ ap (with_rest (drop (c.args.gate + 5 + c.length_of-n.result) b)) (same ∙ op.1))
