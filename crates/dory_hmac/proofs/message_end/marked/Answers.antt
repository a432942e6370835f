use Rattle.std.proofs.Common.{ℕ, List, ◌≡◌, ◌-◌, ◌+◌, take, replicate, refl, arith, add-one}
use Rattle.std.proofs.lemmas.List.{take-replicate}
use Rattle.dory_hmac.proofs.message_end.marked.Goals as goal

pub returns : goal.returns
returns c =
    let at : 56 - c.args.used ≡ 55 - c.args.used + 1 = omega arith in
    let long : List ℕ = replicate 55 0 in
    let short : List ℕ = replicate (55 - c.args.used) 0 in
    let zeros : take (55 - c.args.used) long ≡ short = take-replicate (55 - c.args.used) 55 0 (omega arith) in
    rw (at, add-one, zeros) refl
