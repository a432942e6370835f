use Rattle.std.proofs.Common.{rules, ◌≡◌}
use Rattle.std.specs.Arc.{arc_value}
use Rattle.dory_base.specs.TableMeaning.{kept_of}
use Rattle.dory_shelf.specs.Published.{history_of}
use Rattle.dory_shelf.proofs.Growing.{stands_later}
use Rattle.dory_shelf.proofs.store.Stored.version_of.Goals as goal

pub returns-in-Ok : goal.returns-in-Ok
returns-in-Ok c =
    let s = c.args.self.now in
    let stands : arc_value c.in-Ok.version ≡ kept_of s.front.shelf.shape (history_of s.front) = search rules in
    stands_later s.front c.args.front.now s.number (arc_value c.in-Ok.version) c.requires.same s.counted c.compare.ensures c.requires.within stands
