use Rattle.std.proofs.Common.{◌≡◌, List, Option, Some, None, position, ap, ◌∙◌, sym, subst, refl, rules, Ok}
use Rattle.std.specs.Prelude.{slice_set}
use Rattle.dory_shelf.specs.Published.{Published}
use Rattle.dory_shared.specs.Seen.{Seen, Named, is_folder, names_of, knowing}
use Rattle.dory_shared.specs.Reading.{IsNoteOf, Noted, Tells}
use Rattle.dory_shared.proofs.SeatLists.{tells_at, tells_none, names_stay, noted, there_at}
use Rattle.dory_shared.proofs.domain.Domain.note.Goals as goal

pub returns-in-Some-clause-tells : goal.returns-in-Some-clause-tells
returns-in-Some-clause-tells g c =
    let seen : List Seen = c.seat.inside.places.items in
    let at : position (is_folder c.args.folder.0) seen ≡ Some c.in-Some.at = ap (position (is_folder c.args.folder.0)) c.seat.view_is ∙ sym c.place.ensures ∙ c.in-Some.is in
    subst (λ (ss : List Seen). Tells ss c.args.folder.0 (Ok (record { number = c.args.folder.0; known = c.note-told.result })) (slice_set seen c.in-Some.at c.note-told.new.place)) c.seat.view_is
    (tells_at c.args.folder.0 seen c.in-Some.at c.index_mut.result.now c.note-told.new.place (Ok (record { number = c.args.folder.0; known = c.note-told.result })) at c.index_mut.ensures.value c.note-told.ensures.same c.note-told.ensures.later
    (ap (λ (k : Published). Ok (record { number = c.args.folder.0; known = k })) c.note-told.ensures.told))

pub returns-in-Some-clause-of : goal.returns-in-Some-clause-of
returns-in-Some-clause-of g c =
    let seen : List Seen = c.seat.inside.places.items in
    let at : position (is_folder c.args.folder.0) seen ≡ Some c.in-Some.at = ap (position (is_folder c.args.folder.0)) c.seat.view_is ∙ sym c.place.ensures ∙ c.in-Some.is in
    let shelf : c.note-told.result.shelf ≡ c.index_mut.result.now.known.shelf = ap (λ (k : Published). k.shelf) c.note-told.ensures.told ∙ c.note-told.ensures.later.begins.0 in
    subst (λ (ns : List Named). IsNoteOf ns (record { number = c.args.folder.0; known = c.note-told.result })) (ap names_of c.seat.view_is ∙ c.requires.fits)
    (noted seen c.args.folder.0 c.note-told.result c.index_mut.result.now (there_at c.args.folder.0 seen c.in-Some.at c.index_mut.result.now at c.index_mut.ensures.value) shelf)

pub returns-in-Some-clause-fits : goal.returns-in-Some-clause-fits
returns-in-Some-clause-fits g c =
    let seen : List Seen = c.seat.inside.places.items in
    names_stay seen c.in-Some.at c.index_mut.result.now c.note-told.new.place (search rules) c.index_mut.ensures.value c.note-told.ensures.same c.note-told.ensures.later.begins.0
    ∙ (ap names_of c.seat.view_is ∙ c.requires.fits)

pub returns-in-None-clause-tells : goal.returns-in-None-clause-tells
returns-in-None-clause-tells g c = tells_none c.args.folder.0 c.args.seat.now (sym c.place.ensures ∙ c.in-None.is)
