use Rattle.std.proofs.Common.{◌≡◌, ◌≤◌, ◌∙◌, ap, sym, subst, take, length, List}
use mathlib.Core.List.{IsPrefix}
use Rattle.dory_base.specs.declared.event.Event.{Event}
use Rattle.dory_shelf.specs.Published.{Shelf, Published, history_of}
use Rattle.dory_shelf.proofs.Growing.{histories_compare}
use Rattle.dory_shelf.proofs.front.Front.compare.Goals as goal

pub returns : goal.returns
returns c =
    let both = c.learn.new.self.log in
    let this : IsPrefix c.self.inside.seen.log both = subst (λ (l : List Event). IsPrefix l both) (ap (λ s. s.log) c.again-both.ensures) c.learn.ensures.2 in
    let one : Shelf = record { book = c.self.inside.seen.book; shape = c.self.inside.shape; retained = c.self.inside.retained } in
    let other : Shelf = record { book = c.other.inside.seen.book; shape = c.other.inside.shape; retained = c.other.inside.retained } in
    let same : other ≡ one = ap (λ (k : Published). k.shelf) c.other.view_is ∙ (c.requires ∙ sym (ap (λ (k : Published). k.shelf) c.self.view_is)) in
    let mine : Published = record { shelf = one; events = c.self.inside.seen.log } in
    let theirs : Shelf → Published = λ s. record { shelf = s; events = c.other.inside.seen.log } in
    let P : Shelf → Type 0 = λ s. length (history_of mine) ≤ length (history_of (theirs s)) → history_of mine ≡ take (length (history_of mine)) (history_of (theirs s)) in
    rw (← c.self.view_is, ← c.other.view_is) (subst P (sym same) (histories_compare one c.self.inside.seen.log c.other.inside.seen.log both this c.learn.ensures.3))
