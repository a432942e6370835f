use Rattle.std.proofs.Common.{◌≡◌, List, Option, Some, None, position, ap, ◌∙◌, sym, subst, refl, rules}
use Rattle.std.specs.Prelude.{slice_set}
use Rattle.dory_shared.specs.Seen.{Seen, is_folder, names_of, knowing}
use Rattle.dory_shared.specs.Reading.{Reads}
use Rattle.dory_shared.proofs.SeatLists.{reads_at, reads_none, names_stay}
use Rattle.dory_shared.proofs.seat.Seat.what_is_read.Goals as goal

pub returns-in-Some-clause-reads : goal.returns-in-Some-clause-reads
returns-in-Some-clause-reads g c =
    let seen : List Seen = c.self.inside.places.items in
    let at : position (is_folder c.args.folder.0) seen ≡ Some c.in-Some.at = ap (position (is_folder c.args.folder.0)) c.self.view_is ∙ sym c.place.ensures ∙ c.in-Some.is in
    subst (λ (ss : List Seen). Reads ss c.args.folder.0 c.args.want.now c.read.result (slice_set seen c.in-Some.at c.read.new.self)) c.self.view_is
    (reads_at c.args.folder.0 seen c.in-Some.at c.index_mut.result.now c.read.new.self c.args.want.now c.read.result at c.index_mut.ensures.value c.read.ensures.same c.read.ensures.later c.read.ensures.reads)

pub returns-in-Some-clause-names : goal.returns-in-Some-clause-names
returns-in-Some-clause-names g c =
    let seen : List Seen = c.self.inside.places.items in
    subst (λ (ss : List Seen). names_of (slice_set seen c.in-Some.at c.read.new.self) ≡ names_of ss) c.self.view_is
    (names_stay seen c.in-Some.at c.index_mut.result.now c.read.new.self (search rules) c.index_mut.ensures.value c.read.ensures.same c.read.ensures.later.begins.0)

pub returns-in-None-clause-reads : goal.returns-in-None-clause-reads
returns-in-None-clause-reads g c = reads_none c.args.folder.0 c.args.self.now c.args.want.now c.no_folder.result (sym c.place.ensures ∙ c.in-None.is) c.no_folder.ensures
