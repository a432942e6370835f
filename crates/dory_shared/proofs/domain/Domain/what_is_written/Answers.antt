use Rattle.std.proofs.Common.{◌≡◌, ◌<◌, List, Option, Some, None, length, position, ap, ◌∙◌, sym, subst, refl, rules}
use Rattle.std.specs.Prelude.{slice_set}
use Rattle.dory_shared.specs.Seen.{Seen, is_folder, names_of, knowing}
use Rattle.dory_shared.specs.Answering.{Answers}
use Rattle.dory_shared.proofs.SeatLists.{answered_shelf, answers_at, answers_none, names_stay}
use Rattle.dory_shared.proofs.domain.Domain.what_is_written.Goals as goal

pub returns-in-Some-clause-answers : goal.returns-in-Some-clause-answers
returns-in-Some-clause-answers g c =
    let seen : List Seen = c.seat.inside.places.items in
    let at : position (is_folder c.args.folder.0) seen ≡ Some c.in-Some.at = ap (position (is_folder c.args.folder.0)) c.seat.view_is ∙ sym c.place.ensures ∙ c.in-Some.is in
    subst (λ (ss : List Seen). Answers ss c.args.folder.0 c.args.want.now c.write.result (slice_set seen c.in-Some.at c.write.new.place)) c.seat.view_is
    (answers_at c.args.folder.0 seen c.in-Some.at c.index_mut.result.now c.write.new.place c.args.want.now c.write.result at c.index_mut.ensures.value c.write.ensures.same c.write.ensures.answered)

pub returns-in-Some-clause-names : goal.returns-in-Some-clause-names
returns-in-Some-clause-names g c =
    let seen : List Seen = c.seat.inside.places.items in
    subst (λ (ss : List Seen). names_of (slice_set seen c.in-Some.at c.write.new.place) ≡ names_of ss) c.seat.view_is
    (names_stay seen c.in-Some.at c.index_mut.result.now c.write.new.place (search rules) c.index_mut.ensures.value c.write.ensures.same (answered_shelf c.index_mut.result.now c.args.want.now c.write.result c.write.new.place.known c.write.ensures.answered))

pub returns-in-None-clause-answers : goal.returns-in-None-clause-answers
returns-in-None-clause-answers g c = answers_none c.args.folder.0 c.args.seat.now c.args.want.now c.no_folder.result (sym c.place.ensures ∙ c.in-None.is) c.no_folder.ensures
