use Rattle.std.proofs.Common.{◌≡◌, ◌<◌, ap, sym, ◌∙◌, length, List, Bool, arith, get_or}
use Rattle.dory_base.specs.declared.found.Sum.{Sum}
use Rattle.dory_verify.specs.Tags.{xor_bits}
use Rattle.dory_verify.proofs.Going.{length-crossed, length-xored, crossed_at, sum_at, no_sum}
use Rattle.dory_verify.proofs.search.all_add_up.Goals as goal

pub bounds-bits-probe : goal.bounds-bits-probe
bounds-bits-probe c = omega (arith, ap length c.requires.crossed, length-crossed c.args.lead.now c.args.follow.now (omega (arith, c.requires.lead, c.requires.follow)), c.requires.lead)

pub adds_up-requires-clause-crossed : goal.adds_up-requires-clause-crossed
adds_up-requires-clause-crossed c =
    let i = c.loop-probe.probe in
    let lead = c.args.lead.now in
    let follow = c.args.follow.now in
    let near : i < length lead = omega (arith, c.requires.lead) in
    let near' : i < length follow = omega (arith, c.requires.follow) in
    c.index-bits-probe.is ∙ ap (λ (bs : List (List Bool)). get_or bs i c.index-bits-probe.result) c.requires.crossed
    ∙ crossed_at i lead follow c.index-lead-probe.result c.index-follow-probe.result c.index-bits-probe.result near near'
    ∙ (λ k. xor_bits (ap (λ (s : Sum). s.bits) (sym c.index-lead-probe.is) k) (ap (λ (s : Sum). s.bits) (sym c.index-follow-probe.is) k))

pub adds_up-requires-clause-many : goal.adds_up-requires-clause-many
adds_up-requires-clause-many c =
    let i = c.loop-probe.probe in
    let lead = c.args.lead.now in
    let follow = c.args.follow.now in
    let lines = length c.args.manifest.now in
    let near : i < length lead = omega (arith, c.requires.lead) in
    let near' : i < length follow = omega (arith, c.requires.follow) in
    let same : length (get_or lead i no_sum).bits ≡ lines = sum_at lines i lead no_sum near c.requires.lead_sums in
    let same' : length (get_or follow i no_sum).bits ≡ lines = sum_at lines i follow no_sum near' c.requires.follow_sums in
    ap length (c.index-bits-probe.is ∙ ap (λ (bs : List (List Bool)). get_or bs i c.index-bits-probe.result) c.requires.crossed ∙ crossed_at i lead follow no_sum no_sum c.index-bits-probe.result near near')
    ∙ length-xored (get_or lead i no_sum).bits (get_or follow i no_sum).bits (same ∙ sym same') ∙ same
