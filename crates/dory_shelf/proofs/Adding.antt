-- The exchange that adds an operation keeps the book's rule.
use Rattle.std.proofs.Common.{◌≡◌, ℕ, ◌+◌, ◌<◌, ◌==◌, Bool, true, false, List, [], ◌∷◌, ◌++◌, length, refl, ap, sym, subst, arith, inl, length-append, None}
use Rattle.std.proofs.lemmas.List.{append-nil}
use Rattle.std.proofs.lemmas.Bool.Decides.{nat_tests}
use mathlib.Core.List.{IsPrefix}
use prog.Atomic.{either}
use Rattle.logbook.specs.Pages.{Cell, cell, keeps, no_nib, step, Moves, Goes}
use Rattle.dory_base.specs.declared.event.Event.{Event}
use Rattle.dory_shelf.specs.Published.{Shelf, Published, IsLawful, MayFollow}
use Rattle.dory_shelf.specs.BookRule.{IsKept, Adds}
use Rattle.dory_shelf.proofs.Prefixes.{prefix_whole}
use Rattle.dory_shelf.proofs.Growing.{lawful_snoc}

abbrev pub shown : List Event → List Event
shown events = []

abbrev pub moved : List Event → List Event → ℕ → Type 0
moved xs ys n = Unit {0}

abbrev published : Shelf → List Event → Published
published shelf events = record { shelf = shelf; events = events }

adds_goes : (log : List Event) (shelf : Shelf) (v : List Event) (e : Event) (old : ℕ) → length v ≡ old → IsLawful (published shelf v) → MayFollow (published shelf v) e
    → ((s : Shelf) × IsLawful (published s log)) → IsPrefix v log → (b : Bool) → (length log == old) ≡ b
    → Goes IsKept shown moved 0 (v, (no_nib, None)) (λ n. either (n == old) (old + 1) n) (Adds (step 0 old (old + 1) e) (v, (no_nib, None))) ((length log, true) ∷ (0, true) ∷ []) log
adds_goes log shelf v e old len lawful may kept pre true is =
    let here : length log ≡ old = grind (arith, nat_tests) in
    let same : v ≡ log = prefix_whole v log pre (omega arith) in
    let lawful' : IsLawful (published shelf (log ++ e ∷ [])) = subst (λ (l : List Event). IsLawful (published shelf (l ++ e ∷ []))) same (lawful_snoc (published shelf v) e lawful may) in
    let n : either (length log == old) (old + 1) (length log) ≡ length (log ++ e ∷ []) = rw is (omega (arith, length-append log (e ∷ []))) in (
      keeps,
      e ∷ [],
      None,
      tt,
      record { words = ap (λ (k : ℕ). (k, true) ∷ (0, true) ∷ []) n; lawful = (shelf, lawful') },
      inl (refl, refl),
      rw is (ap (λ w. w ++ e ∷ []) (sym same)),
    )
adds_goes log shelf v e old len lawful may kept pre false is =
    let all : log ++ [] ≡ log = append-nil log in
    let lawful' : IsLawful (published kept.0 (log ++ [])) = subst (λ (l : List Event). IsLawful (published kept.0 l)) (sym all) kept.1 in
    let n : either (length log == old) (old + 1) (length log) ≡ length (log ++ []) = rw is (ap length (sym all)) in (
      keeps,
      [],
      None,
      tt,
      record { words = ap (λ (k : ℕ). (k, true) ∷ (0, true) ∷ []) n; lawful = (kept.0, lawful') },
      inl (refl, refl),
      rw is tt,
    )

pub adds_moves : (shelf : Shelf) (v : List Event) (e : Event) (old : ℕ) → length v ≡ old → IsLawful (published shelf v) → MayFollow (published shelf v) e
    → Moves IsKept shown moved 0 (v, (no_nib, None)) (λ n. either (n == old) (old + 1) n) (Adds (step 0 old (old + 1) e) (v, (no_nib, None)))
adds_moves shelf v e old len lawful may cs log kept pre away =
    let P : List Cell → Type 0 = λ c. (0 < length c) × ((cell c 0).1 ≡ true) × Goes IsKept shown moved 0 (v, (no_nib, None)) (λ n. either (n == old) (old + 1) n) (Adds (step 0 old (old + 1) e) (v, (no_nib, None))) c log in
    subst P (sym kept.words) (omega arith, refl, adds_goes log shelf v e old len lawful may kept.lawful pre (length log == old) refl)
