use Rattle.std.proofs.Common.{◌≡◌, List, Option, Some, None, position, ap, ◌∙◌, sym, subst, refl, rules}
use Rattle.std.specs.Prelude.{slice_set}
use Rattle.dory_shared.specs.Seen.{Seen, is_folder, names_of, knowing}
use Rattle.dory_shared.specs.Reading.{Keeps}
use Rattle.dory_shared.proofs.SeatLists.{keeps_at, keeps_none, names_stay}
use Rattle.dory_shared.proofs.seat.Seat.hold.Goals as goal

pub returns-in-Some-clause-keeps : goal.returns-in-Some-clause-keeps
returns-in-Some-clause-keeps c =
    let seen : List Seen = c.self.inside.places.items in
    let at : position (is_folder c.args.folder.0) seen ≡ Some c.in-Some.at = ap (position (is_folder c.args.folder.0)) c.self.view_is ∙ sym c.place.ensures ∙ c.in-Some.is in
    subst (λ (ss : List Seen). Keeps ss c.args.folder.0 c.args.number c.hold.result (slice_set seen c.in-Some.at c.hold.new.self)) c.self.view_is
    (keeps_at c.args.folder.0 c.args.number seen c.in-Some.at c.index_mut.result.now c.hold.new.self c.hold.result at c.index_mut.ensures.value c.hold.ensures.same c.hold.ensures.later c.hold.ensures.keeps)

pub returns-in-Some-clause-names : goal.returns-in-Some-clause-names
returns-in-Some-clause-names c =
    let seen : List Seen = c.self.inside.places.items in
    subst (λ (ss : List Seen). names_of (slice_set seen c.in-Some.at c.hold.new.self) ≡ names_of ss) c.self.view_is
    (names_stay seen c.in-Some.at c.index_mut.result.now c.hold.new.self (search rules) c.index_mut.ensures.value c.hold.ensures.same c.hold.ensures.later.begins.0)

pub returns-in-None-clause-keeps : goal.returns-in-None-clause-keeps
returns-in-None-clause-keeps c = keeps_none c.args.folder.0 c.args.number c.args.self.now (sym c.place.ensures ∙ c.in-None.is)
