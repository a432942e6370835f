use Rattle.std.proofs.Common.{◌∙◌, sym, ap, subst, arith, ◌≤◌, ◌-◌, ◌∷◌, Some, None, replicate, ℕ}
use Rattle.dory_shelf.specs.Published.{Published, IsLawful}
use Rattle.dory_shelf.specs.ShelfRule.{Shown, IsShelf}
use Rattle.dory_shelf.proofs.SlotLaws.{blank_slots, first_is_shelf}
use Rattle.dory_shelf.proofs.open.blank.Goals as goal

pub returns-clause-value : goal.returns-clause-value
returns-clause-value c =
    let k = c.args.front.now in
    let some : 1 ≤ c.args.retained = omega (arith, c.requires.retained, ap (λ (h : Published). h.shelf.retained) c.again.ensures.value, c.again.ensures.some) in
    rw (c.of.ensures, c.again-2.ensures.value, c.in_ok-slots.ensures)
    (ap (λ l. let s : Shown = record { known = k; slots = l } in s)
    (blank_slots c.args.retained _ k some c.again.ensures.value ∙ ap (λ (m : ℕ). Some k ∷ replicate (m - 1) None) (sym c.requires.retained)))

pub returns-clause-shelf : goal.returns-clause-shelf
returns-clause-shelf c =
    let k = c.args.front.now in
    let lawful : IsLawful k = subst IsLawful c.again.ensures.value c.again.ensures.lawful in
    let some : 1 ≤ k.shelf.retained = subst (λ (h : Published). 1 ≤ h.shelf.retained) c.again.ensures.value c.again.ensures.some in
    subst IsShelf (sym (returns-clause-value c)) (first_is_shelf k lawful some)
