use Rattle.std.proofs.Common.{rules, ◌+◌, ◌<◌, ◌≤◌, length}
use Rattle.dory_client.specs.Input.{text_limit}
use Rattle.dory_client.proofs.Reading.{long_text, unkept_text}
use Rattle.dory_client.proofs.input.read_text.Goals as goal

pub returns-then-n-len-clause-read : goal.returns-then-n-len-clause-read
returns-then-n-len-clause-read g c =
    let many : text_limit < length c.loop-text.text.items + c.in-Ok.n = search rules in
    let few : c.in-Ok.n ≤ length c.read.new.into = search rules in
    long_text _ _ _ _ _ _ _ _ c.in-Ok.n c.read.new.into c.loop-text.text.items c.loop-text.invariant.came many few c.in-Ok.ensures.bytes c.in-Ok.ensures.given

pub returns-in-Err-extend_from_slice-clause-read : goal.returns-in-Err-extend_from_slice-clause-read
returns-in-Err-extend_from_slice-clause-read g c =
    let short : length c.loop-text.text.items + c.in-Ok.n ≤ text_limit = search rules in
    let few : c.in-Ok.n ≤ length c.read.new.into = search rules in
    unkept_text _ _ _ _ _ _ _ _ c.in-Ok.n c.read.new.into c.loop-text.text.items c.loop-text.invariant.came short few c.in-Ok.ensures.bytes c.in-Ok.ensures.given
