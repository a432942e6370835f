use Rattle.std.proofs.Common.{◌≡◌, ◌∙◌, ap, ℕ, List, ◌-◌, ◌++◌, set, take, map, replicate, arith}
use Rattle.std.specs.Char.{to_ascii_lowercase}
use mathlib.Core.Path.{ap₂}
use Rattle.dory_base.proofs.WordRun.{lowered_more, front_is, is_kept}
use Rattle.dory_base.proofs.word.Word.of_run.Goals as goal

pub loop-i-preserved : goal.loop-i-preserved
loop-i-preserved c =
    let run = c.args.run.now in
    let i = c.loop-i.i in
    ap₂ (λ (bytes : List ℕ) (byte : ℕ). set bytes i byte) c.loop-i.invariant c.to_ascii_lowercase.ensures.value
    ∙ lowered_more run i (omega arith) (omega arith)

pub invariant_of-result : goal.invariant_of-result
invariant_of-result c =
    let e : c.loop-i.i ≡ c.min-len.result = omega arith in
    is_kept c.args.run.now c.loop-i.bytes c.min-len.result c.requires.some c.requires.word_bytes (omega arith)
    (c.loop-i.invariant ∙ ap (λ (n : ℕ). map to_ascii_lowercase (take n c.args.run.now) ++ replicate (64 - n) 0) e)

pub returns : goal.returns
returns c =
    let e : c.loop-i.i ≡ c.min-len.result = omega arith in
    front_is c.args.run.now c.loop-i.bytes c.min-len.result (omega arith)
    (c.loop-i.invariant ∙ ap (λ (n : ℕ). map to_ascii_lowercase (take n c.args.run.now) ++ replicate (64 - n) 0) e)
