use Rattle.std.proofs.Common.{map, refl, string_bytes, None, Some}
use Rattle.dory_cli.specs.Line.{line_of}
use Rattle.dory_state.specs.Reading.{state_of}
use Rattle.dory_client.specs.Run.{Loaded}
use Rattle.dory_client.proofs.Calls.{begins_after_load, may_after_load, runs_line, untouched_by_load}
use Rattle.dory_client.proofs.run.run_words.Goals as goal

pub returns-in-None-clause-run : goal.returns-in-None-clause-run
returns-in-None-clause-run g c =
    let a = g.W.Outside.scene c.args.outside.now in
    let b = g.W.Outside.scene c.load.new.self in
    let z = g.W.Outside.scene c.begin.new.outside in
    let after = begins_after_load c.in-Init.first a b z c.begin.result c.in-Ok-load.ensures.only c.in-Ok-load.ensures.same c.begin.ensures.asked c.begin.ensures.begins in
    runs_line (line_of (map string_bytes c.args.words.now)) c.in-Ok.line c.start_of.result _ c.args.seed _ _ a z c.begin.result c.in-Ok.ensures.value c.start_of.ensures.value c.in-Init.is
    (Loaded None (rw c.in-None.is at c.in-Ok-load.ensures.bytes) (refl, after.0, after.1))

pub returns-in-Init-clause-run : goal.returns-in-Init-clause-run
returns-in-Init-clause-run g c =
    runs_line (line_of (map string_bytes c.args.words.now)) c.in-Ok.line c.start_of.result _ c.args.seed _ _ _ _ _ c.in-Ok.ensures.value c.start_of.ensures.value c.in-Init.is
    (Loaded (Some c.in-Some.field-0.items) (rw c.in-Some.is at c.in-Ok-load.ensures.bytes) ((refl, untouched_by_load _ _ c.in-Ok-load.ensures.only c.in-Ok-load.ensures.same), refl))

pub returns-in-None-kept-clause-run : goal.returns-in-None-kept-clause-run
returns-in-None-kept-clause-run g c =
    runs_line (line_of (map string_bytes c.args.words.now)) c.in-Ok.line c.start_of.result _ c.args.seed _ _ _ _ _ c.in-Ok.ensures.value c.start_of.ensures.value c.in-Act.is
    (Loaded None (rw c.in-None-kept.is at c.in-Ok-load.ensures.bytes) ((refl, untouched_by_load _ _ c.in-Ok-load.ensures.only c.in-Ok-load.ensures.same), refl))

pub returns-clause-run : goal.returns-clause-run
returns-clause-run g c =
    runs_line (line_of (map string_bytes c.args.words.now)) c.in-Ok.line c.start_of.result _ c.args.seed _ _ _ _ c.act.result c.in-Ok.ensures.value c.start_of.ensures.value c.in-Act.is
    (Loaded (Some c.in-Some-kept.bytes.items) (rw c.in-Some-kept.is at c.in-Ok-load.ensures.bytes)
    (may_after_load (state_of c.in-Some-kept.bytes.items) c.args.seed c.in-Act.todo _ _ _ _ _ c.act.result c.in-Ok-load.ensures.only c.in-Ok-load.ensures.same (rw c.deref.ensures.value at c.act.ensures.acts)))
