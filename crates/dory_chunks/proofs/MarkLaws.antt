-- The marks of slots, one by one.
use Rattle.std.proofs.Common.{◌≡◌, ℕ, suc, ◌+◌, ◌<◌, List, [], ◌∷◌, ◌++◌, length, map, take, get_or, Option, Some, None, refl, sym, ap, ◌∙◌, arith}
use Rattle.std.proofs.lemmas.List.{take_more, length-take}
use Rattle.dory_base.specs.declared.found.Place.{Place}
use Rattle.dory_base.specs.Table.{Slots, live_from, place_of}
use Rattle.dory_chunks.specs.declared.marks.Mark.{Mark}
use Rattle.dory_chunks.specs.Marks.{mark_of}
use Rattle.dory_chunks.specs.Places.{places_from, places_of}

places_from-append : (n : ℕ) (xs ys : List (Option Mark)) → places_from n (xs ++ ys) ≡ places_from n xs ++ places_from (n + length xs) ys
places_from-append n [] ys = let e : n ≡ n + 0 = omega arith in ap (λ (m : ℕ). places_from m ys) e
places_from-append n (None ∷ xs) ys =
    let e : n + 1 + length xs ≡ n + suc (length xs) = omega arith in
    places_from-append (n + 1) xs ys ∙ ap (λ (m : ℕ). places_from (n + 1) xs ++ places_from m ys) e
places_from-append n (Some x ∷ xs) ys =
    let e : n + 1 + length xs ≡ n + suc (length xs) = omega arith in
    ap (λ (ps : List Place). record { slot = n; doc = x.doc; id = x.id } ∷ ps) (places_from-append (n + 1) xs ys ∙ ap (λ (m : ℕ). places_from (n + 1) xs ++ places_from m ys) e)

-- one slot more, and its line if it is live
pub places_more : (marks : List (Option Mark)) (i : ℕ) (all more : List Place) → i < length marks
    → all ≡ places_of (take i marks) → more ≡ all ++ places_from i (get_or marks i None ∷ []) → more ≡ places_of (take (i + 1) marks)
places_more marks i all more h before after =
    let e : 0 + length (take i marks) ≡ i = omega (arith, length-take i marks) in
    after
    ∙ ap (λ (ps : List Place). ps ++ places_from i (get_or marks i None ∷ [])) before
    ∙ sym (ap places_of (take_more marks i None h)
    ∙ places_from-append 0 (take i marks) (get_or marks i None ∷ [])
    ∙ ap (λ (k : ℕ). places_of (take i marks) ++ places_from k (get_or marks i None ∷ [])) e)

-- the marks give the manifest of the slots
pub places_are : (n : ℕ) (slots : Slots) → places_from n (map mark_of slots) ≡ map place_of (live_from n slots)
places_are n [] = refl
places_are n (None ∷ slots) = places_are (n + 1) slots
places_are n (Some e ∷ slots) = ap (λ (ps : List Place). record { slot = n; doc = e.doc; id = e.id } ∷ ps) (places_are (n + 1) slots)
