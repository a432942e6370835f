use Rattle.std.proofs.Common.{◌≡◌, ◌≤◌, ◌<◌, ap, ◌∙◌, sym, subst, rules, refl, arith, inl, inr, Some, None, Ok, Err}
use Rattle.dory_shared.specs.Seen.{Seen, IsKept, folder_as, held_of, knowing}
use Rattle.dory_base.specs.TableMeaning.{kept_of}
use Rattle.std.specs.Arc.{arc_value}
use Rattle.dory_shelf.specs.Published.{history_of}
use Rattle.dory_shared.proofs.Making.{newest_stands}
use Rattle.dory_shared.proofs.cabinet.Cabinet.newest.Goals as goal

pub returns-in-Ok : goal.returns-in-Ok
returns-in-Ok g c =
    subst (λ (s : Seen). arc_value c.in-Ok.version ≡ kept_of s.known.shelf.shape (history_of s.known)) c.self.view_is
    (newest_stands c.self.inside.writer.known c.in-Ok.version (search rules))
