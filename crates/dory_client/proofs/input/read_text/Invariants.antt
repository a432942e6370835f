use Rattle.std.proofs.Common.{length, ◌-◌, ◌≤◌}
use Rattle.dory_io.specs.Bytes.{BytesRead}
use Rattle.dory_client.specs.Input.{text_limit}
use Rattle.dory_client.proofs.input.read_text.Given as goal

-- the text is what came since the call began
abbrev pub invariant-loop-text : goal.invariant-loop-text
invariant-loop-text g l = record {
  came : BytesRead (g.S.Source.left l.fn.input) (g.S.Source.left l.input) (g.S.Source.given l.fn.input) (g.S.Source.given l.input) l.text.items;
  short : length l.text.items ≤ text_limit;
  later : g.S.Source.faults l.fn.input ≤ g.S.Source.faults l.input;
}

-- the bytes that a text may still take
abbrev pub decreases-loop-text : goal.decreases-loop-text
decreases-loop-text g l = text_limit - length l.text.items
