use Rattle.std.proofs.Common.{rules, inr, ◌≡◌, ◌+◌, ◌<◌, length, drop, slice_index, Some, None, Ok, refl, ◌∙◌, ap, arith}
use Rattle.dory_journal.proofs.Looks.{open_at}
use Rattle.dory_journal.proofs.look.look.Goals as goal
use Rattle.dory_journal.specs.Bytes.{op_at, look_at, look_on}
use Rattle.dory_journal.specs.Reading.{FindsAs}

pub returns-in-None-clause-looks : goal.returns-in-None-clause-looks
returns-in-None-clause-looks g c = λ b told.
    let told_mid = c.read.ensures.quiet.same ∙ told in
    let within : c.args.gate < length b = omega (arith, c.requires.length b told, c.if-gate-length.false) in
    let one : slice_index c.in_ok-bytes.bytes 0 ≡ 1 = search rules in
    let parts = open_at c.args.gate b c.in_ok-bytes.bytes within (c.in_ok-bytes.ensures.bytes b told) one in
    let found = c.in_ok-record_behind.ensures.found b told_mid in
    let none : op_at c.args.folder.0 (drop (c.args.gate + 1) b) ≡ None = search rules in
    (refl, inr (ap (look_at c.args.folder.0) parts ∙ ap look_on none))

pub returns-in-Some-clause-looks : goal.returns-in-Some-clause-looks
returns-in-Some-clause-looks g c = λ b told.
    let told_mid = c.read.ensures.quiet.same ∙ told in
    let within : c.args.gate < length b = omega (arith, c.requires.length b told, c.if-gate-length.false) in
    let one : slice_index c.in_ok-bytes.bytes 0 ≡ 1 = search rules in
    let parts = open_at c.args.gate b c.in_ok-bytes.bytes within (c.in_ok-bytes.ensures.bytes b told) one in
    let found : FindsAs c.args.folder.0 c.args.gate b (Ok (Some c.in-Some.record)) = search rules in
    (found.0, found.1, ap (look_at c.args.folder.0) parts ∙ ap look_on found.2)
