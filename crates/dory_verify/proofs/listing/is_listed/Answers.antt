use Rattle.std.proofs.Common.{◌≡◌, ◌<◌, ◌≤◌, ◌/◌, ap, sym, ◌∙◌, arith, rules, get_or, ⊎_elim, refl}
use Rattle.std.proofs.lemmas.Bool.{cases_lt}
use Rattle.dory_verify.proofs.Going.{all_listed, one_missing, met_before}
use Rattle.dory_verify.proofs.listing.is_listed.Goals as goal
use Rattle.dory_verify.proofs.listing.is_listed.Goals.{else-not-is_met-via-then-not-is_met+else-not-is_set_in, else-not-is_met-via-else-not-is_met}

pub returns-then-not-is_set_in : goal.returns-then-not-is_set_in
returns-then-not-is_set_in c =
    let missing = c.if-not-is_set_in.ensures.no (search rules) in
    sym (one_missing c.args.keys.now.keys c.args.columns.now c.args.bits.now c.args.line c.args.place missing.0 c.requires.many missing.1 missing.2)

pub loop-probe-preserved : goal.loop-probe-preserved
loop-probe-preserved c k near r low same =
    ⊎_elim
    (λ (l : r < c.loop-probe.probe). c.loop-probe.invariant k near r l same)
    (λ (l : c.loop-probe.probe ≤ r).
    let is : r ≡ c.loop-probe.probe = omega arith in
    let block : get_or c.args.columns.now k 0 / 256 ≡ get_or c.args.columns.now c.loop-probe.probe 0 / 256 = same ∙ ap (λ n. get_or c.args.columns.now n 0 / 256) is in
    elim c.else-not-is_met.branch [
      | else-not-is_met-via-then-not-is_met+else-not-is_set_in w ↦ w.is_set_in.ensures.yes (search rules) k near block
      | else-not-is_met-via-else-not-is_met w ↦
          let met = met_before c.args.columns.now c.loop-probe.probe (get_or c.args.columns.now c.loop-probe.probe 0 / 256) (search rules) in
          c.loop-probe.invariant k near met.0 met.1 (block ∙ sym met.2)
    ])
    (cases_lt r c.loop-probe.probe)

pub returns : goal.returns
returns c = sym (all_listed c.args.keys.now.keys c.args.columns.now c.args.bits.now c.args.line c.args.place c.requires.many (λ k h. c.loop-probe.invariant k h k (omega arith) refl))
