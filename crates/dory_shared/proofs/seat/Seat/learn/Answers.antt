use Rattle.std.proofs.Common.{◌≡◌, List, Option, Some, None, position, ap, ◌∙◌, sym, subst, refl, rules}
use Rattle.std.specs.Prelude.{slice_set}
use Rattle.dory_shared.specs.Seen.{Seen, is_folder, names_of, knowing}
use Rattle.dory_shared.specs.Reading.{IsNoteOf, Learns, Noted}
use Rattle.dory_shared.proofs.SeatLists.{learns_at, learns_none, names_stay, note_at, there_at}
use Rattle.dory_shared.proofs.seat.Seat.learn.Goals as goal

pub learn-requires : goal.learn-requires
learn-requires c =
    let seen : List Seen = c.self.inside.places.items in
    let note : Noted = record { number = c.note.inside.folder.0; known = c.note.inside.told } in
    let at : position (is_folder note.number) seen ≡ Some c.in-Some.at = ap (position (is_folder note.number)) c.self.view_is ∙ sym c.place.ensures ∙ c.in-Some.is in
    note_at seen note c.index_mut.result.now
    (subst (λ (ss : List Seen). IsNoteOf (names_of ss) note) (sym c.self.view_is) (subst (λ (n : Noted). IsNoteOf (names_of c.args.self.now) n) (sym c.note.view_is) c.requires))
    (there_at note.number seen c.in-Some.at c.index_mut.result.now at c.index_mut.ensures.value)

pub returns-in-Some-clause-learned : goal.returns-in-Some-clause-learned
returns-in-Some-clause-learned c =
    let seen : List Seen = c.self.inside.places.items in
    let note : Noted = record { number = c.note.inside.folder.0; known = c.note.inside.told } in
    let at : position (is_folder note.number) seen ≡ Some c.in-Some.at = ap (position (is_folder note.number)) c.self.view_is ∙ sym c.place.ensures ∙ c.in-Some.is in
    subst (λ (n : Noted). Learns c.args.self.now n (slice_set seen c.in-Some.at c.learn.new.self)) c.note.view_is
    (subst (λ (ss : List Seen). Learns ss note (slice_set seen c.in-Some.at c.learn.new.self)) c.self.view_is
    (learns_at note seen c.in-Some.at c.index_mut.result.now c.learn.new.self at c.index_mut.ensures.value c.learn.ensures.same c.learn.ensures.seen c.learn.ensures.told))

pub returns-in-Some-clause-names : goal.returns-in-Some-clause-names
returns-in-Some-clause-names c =
    let seen : List Seen = c.self.inside.places.items in
    subst (λ (ss : List Seen). names_of (slice_set seen c.in-Some.at c.learn.new.self) ≡ names_of ss) c.self.view_is
    (names_stay seen c.in-Some.at c.index_mut.result.now c.learn.new.self (search rules) c.index_mut.ensures.value c.learn.ensures.same c.learn.ensures.seen.0)

pub returns-in_default-clause-learned : goal.returns-in_default-clause-learned
returns-in_default-clause-learned c = learns_none c.args.note c.args.self.now (search rules)
