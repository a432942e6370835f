use Rattle.std.proofs.Common.{Ok, Err, subst}
use Rattle.dory_wire.specs.Read.{search_of, IsReadAs}
use Rattle.dory_shelf.specs.Published.{history_of}
use Rattle.dory_shared.specs.Reading.{Kept, KeepsAt}
use Rattle.dory_shared.proofs.Making.{kept_range}
use Rattle.dory_shared.proofs.place.Place.search.Goals as goal

pub returns-in-Ok-clause-reads : goal.returns-in-Ok-clause-reads
returns-in-Ok-clause-reads g c =
    let keeps : KeepsAt c.hold.new.self.known c.args.version (Ok c.in-Ok.held) = subst (KeepsAt c.hold.new.self.known c.args.version) c.in-Ok.is c.hold.ensures.keeps in
    subst (λ (k : Kept). IsReadAs (search_of k.known.shelf.shape k.known.shelf.retained (history_of k.known) k.number c.args.asked c.args.keys.now) c.answer.result) keeps.1 c.answer.ensures.value

pub returns-in-Err-clause-range : goal.returns-in-Err-clause-range
returns-in-Err-clause-range g c =
    let keeps : KeepsAt c.hold.new.self.known c.args.version (Err c.in-Err.code) = subst (KeepsAt c.hold.new.self.known c.args.version) c.in-Err.is c.hold.ensures.keeps in
    kept_range c.hold.new.self.known c.args.version c.in-Err.code c.hold.ensures.later.lawful c.hold.ensures.kept keeps
