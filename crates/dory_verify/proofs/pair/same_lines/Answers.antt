use Rattle.std.proofs.Common.{◌≡◌, ◌≢◌, ◌<◌, sym, ◌∙◌, length, arith, rules, ⊎_elim}
use Rattle.std.proofs.lemmas.Bool.{cases_lt}
use Rattle.dory_verify.proofs.Going.{manifest_lead_ends, manifest_follow_ends}
use Rattle.dory_verify.proofs.pair.same_lines.Goals as goal

pub returns-else-lead-follow : goal.returns-else-lead-follow
returns-else-lead-follow c =
    let n = c.min-shorter.result in
    let at : c.loop-place.place ≡ n = omega arith in
    let lead = c.args.lead.now in
    let follow = c.args.follow.now in
    let differ : length lead ≢ length follow = search rules in
    sym (rw (sym at) c.loop-place.invariant) ∙ ⊎_elim
    (λ (l : length lead < length follow). manifest_lead_ends n n lead follow (omega (arith, c.min-shorter.ensures)) (omega (arith, c.min-shorter.ensures)))
    (λ l. manifest_follow_ends n n lead follow (omega (arith, c.min-shorter.ensures)) (omega (arith, c.min-shorter.ensures)))
    (cases_lt (length lead) (length follow))
