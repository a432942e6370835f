-- What a writer keeps.
use Rattle.std.specs.Prelude.{◌≡◌, [], drop, Option, Some, None}
use Rattle.std.specs.declared.alloc.Global.{Global}
use Rattle.left_right.specs.declared.Absorb.{Ghosts}
use Rattle.left_right.specs.declared.writer.Writer.{Writer}
use Rattle.left_right.specs.Sides.{view}
use Rattle.dory_shelf.specs.Published.{Published, IsLawful, Grew}
use Rattle.dory_shelf.specs.ShelfRule.{IsShelf}
use Rattle.dory_shelf.specs.declared.store.Store.{Store}
use Rattle.dory_shelf.specs.declared.store.Stored.{Stored}
use Rattle.dory_shelf.specs.declared.store.Change.{Change}
use Rattle.dory_shelf.specs.declared.rule.Shelved.{Shelved}

module _ {g : Ghosts Store Change Store} where
  -- the writer shows this history, and has nothing in its log; the rule may not know it yet
  abbrev pub Standing : Writer Store Change (Option Store) Shelved Global Store g → Published → Type 0
  Standing w k = (w.desk.shown.value.known ≡ k) × IsShelf w.desk.shown.value × (drop w.behind w.log.items ≡ [])

  -- the writer shows this history, has nothing in its log, and the rule knows it
  abbrev pub Showing : Writer Store Change (Option Store) Shelved Global Store g → Published → Type 0
  Showing w k =
      (w.desk.shown.value.known ≡ k) × IsShelf w.desk.shown.value × (drop w.behind w.log.items ≡ []) × (view w.desk.place ≡ Some w.desk.shown.value)

-- its version, if it has one, is of this shelf
abbrev pub StoredOf : Published → Option Stored → Type 0
StoredOf k None = Unit {0}
StoredOf k (Some s) = s.front.shelf ≡ k.shelf

-- the change goes on from this history, lawfully
abbrev pub GoesOn : Published → Change → Type 0
GoesOn k c = Grew k c.front × IsLawful c.front × StoredOf k c.stored

-- so does the next one, if there is one
abbrev pub NextOf : Published → Option Change → Type 0
NextOf k None = Unit {0}
NextOf k (Some c) = GoesOn k c
