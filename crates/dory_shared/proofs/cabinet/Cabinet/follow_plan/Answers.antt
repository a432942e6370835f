use Rattle.std.proofs.Common.{◌≡◌, ◌≤◌, ◌<◌, ap, ◌∙◌, sym, subst, rules, refl, arith, inl, inr, Some, None, Ok, Err}
use Rattle.dory_shared.specs.Seen.{Seen, IsKept, folder_as, held_of, knowing}
use Rattle.dory_base.specs.Log.{Log, look_follow}
use Rattle.dory_base.specs.Step.{log_of}
use Rattle.dory_domain.specs.Held.{IsHeld}
use Rattle.dory_domain.proofs.RangeLaws.{follow_says}
use Rattle.dory_shelf.specs.Published.{IsLawful}
use Rattle.dory_shared.proofs.Holding.{held_seen}
use Rattle.dory_shared.proofs.cabinet.Cabinet.follow_plan.Goals as goal

pub returns-clause-value : goal.returns-clause-value
returns-clause-value g c =
    c.look_follow.ensures
    ∙ subst (λ (s : Seen). look_follow c.self.inside.log.log c.args.number c.args.id ≡ look_follow (log_of (folder_as s.role s.known)) c.args.number c.args.id) c.self.view_is
    (ap (λ (l : Log). look_follow l c.args.number c.args.id) c.self.invariant.2)

pub returns-clause-range : goal.returns-clause-range
returns-clause-range g c =
    let held : IsHeld (held_of (record { number = c.self.inside.folder.0; role = c.self.inside.role; known = c.self.inside.writer.known })) = held_seen (record { number = c.self.inside.folder.0; role = c.self.inside.role; known = c.self.inside.writer.known }) c.self.invariant.1 (subst (λ (s : Seen). IsLawful s.known) (sym c.self.view_is) c.requires.lawful) in
    follow_says c.self.inside.log.log c.args.number c.args.id c.look_follow.result (folder_as c.self.inside.role c.self.inside.writer.known) held.state.log c.self.invariant.2 c.requires.number c.requires.id c.look_follow.ensures
