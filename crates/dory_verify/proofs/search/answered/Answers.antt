use Rattle.std.proofs.Common.{ap, sym, ◌∙◌, subst, length, List}
use Rattle.std.specs.List.{AllByRecursion}
use Rattle.dory_base.specs.declared.found.Place.{Place}
use Rattle.dory_base.specs.declared.found.Sum.{Sum}
use Rattle.dory_wire.specs.Spelling.{IsSum}
use Rattle.dory_verify.proofs.CheckLaws.{one_version_ok}
use Rattle.dory_verify.proofs.Going.{length-crossed}
use Rattle.dory_verify.proofs.search.answered.Goals as goal

pub crossed-requires-clause-many : goal.crossed-requires-clause-many
crossed-requires-clause-many c =
    let one = one_version_ok (length c.args.columns.now) c.args.version c.args.seen c.in_ok-l.l c.in_ok-l.f c.in_ok-of_one_version.field-0 c.in_ok-of_one_version.ensures in
    ap length c.items.ensures ∙ one.lead_count ∙ sym one.follow_count ∙ sym (ap length c.items-2.ensures)

pub crossed-requires-clause-same : goal.crossed-requires-clause-same
crossed-requires-clause-same c =
    let one = one_version_ok (length c.args.columns.now) c.args.version c.args.seen c.in_ok-l.l c.in_ok-l.f c.in_ok-of_one_version.field-0 c.in_ok-of_one_version.ensures in (
      length c.in_ok-l.l.manifest,
      subst (λ (sums : List Sum). AllByRecursion (IsSum (length c.in_ok-l.l.manifest)) sums) (sym c.items.ensures) c.in_ok-l.ensures.range.0.sums,
      subst (λ (sums : List Sum). AllByRecursion (IsSum (length c.in_ok-l.l.manifest)) sums) (sym c.items-2.ensures) (subst (λ (places : List Place). AllByRecursion (IsSum (length places)) c.in_ok-l.f.sums) (sym one.manifest) c.in_ok-l.ensures.range.1.sums),
    )

pub all_add_up-requires-clause-lead : goal.all_add_up-requires-clause-lead
all_add_up-requires-clause-lead c =
    let one = one_version_ok (length c.args.columns.now) c.args.version c.args.seen c.in_ok-l.l c.in_ok-l.f c.in_ok-of_one_version.field-0 c.in_ok-of_one_version.ensures in
    ap length c.items-3.ensures ∙ one.lead_count

pub all_add_up-requires-clause-follow : goal.all_add_up-requires-clause-follow
all_add_up-requires-clause-follow c =
    let one = one_version_ok (length c.args.columns.now) c.args.version c.args.seen c.in_ok-l.l c.in_ok-l.f c.in_ok-of_one_version.field-0 c.in_ok-of_one_version.ensures in
    ap length c.items-4.ensures ∙ one.follow_count

pub all_add_up-requires-clause-follow_sums : goal.all_add_up-requires-clause-follow_sums
all_add_up-requires-clause-follow_sums c =
    let one = one_version_ok (length c.args.columns.now) c.args.version c.args.seen c.in_ok-l.l c.in_ok-l.f c.in_ok-of_one_version.field-0 c.in_ok-of_one_version.ensures in
    subst (λ (sums : List Sum). AllByRecursion (IsSum (length c.in_ok-l.l.manifest)) sums) (sym c.items-4.ensures) (subst (λ (places : List Place). AllByRecursion (IsSum (length places)) c.in_ok-l.f.sums) (sym one.manifest) c.in_ok-l.ensures.range.1.sums)

pub rising-requires : goal.rising-requires
rising-requires c =
    let one = one_version_ok (length c.args.columns.now) c.args.version c.args.seen c.in_ok-l.l c.in_ok-l.f c.in_ok-of_one_version.field-0 c.in_ok-of_one_version.ensures in
    ap length (c.deref-2.ensures.value ∙ c.in_ok-bits.ensures) ∙ length-crossed c.items.result.now c.items-2.result.now (ap length c.items.ensures ∙ one.lead_count ∙ sym one.follow_count ∙ sym (ap length c.items-2.ensures))
    ∙ ap length c.items.ensures ∙ one.lead_count
