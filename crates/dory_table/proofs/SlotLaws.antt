-- Going over slots one by one.
use Rattle.std.proofs.Common.{◌≡◌, ℕ, zero, suc, ◌+◌, ◌<◌, List, [], ◌∷◌, ◌++◌, length, map, take, drop, set, get_or, Option, None, refl, sym, ap, ◌∙◌, arith}
use Rattle.std.proofs.lemmas.List.{get_or_default}
use Rattle.dory_base.specs.declared.entry.Entry.{Entry}
use Rattle.dory_base.specs.declared.found.Place.{Place}
use Rattle.dory_base.specs.Table.{Slots, live_from, place_of, manifest_of}
use Rattle.dory_base.proofs.TableLaws.{manifest_more}

replaced : {X : Type 0} (f : X → X) (xs : List X) (i : ℕ) (d : X) → i < length xs
    → set (map f (take i xs) ++ drop i xs) i (f (get_or (map f (take i xs) ++ drop i xs) i d)) ≡ map f (take (suc i) xs) ++ drop (suc i) xs
replaced f [] i d h = absurd (omega arith)
replaced f (x ∷ xs) zero d h = refl
replaced f (x ∷ xs) (suc i) d h = ap (λ (ys : List _). f x ∷ ys) (replaced f xs i d (omega arith))

-- one member more is replaced by its image
pub replaced_more : {X : Type 0} (f : X → X) (xs ys : List X) (i : ℕ) (x y : X) → i < length ys → length ys ≡ length xs
    → ys ≡ map f (take i xs) ++ drop i xs → x ≡ get_or ys i x → y ≡ f (get_or ys i x) → set ys i y ≡ map f (take (i + 1) xs) ++ drop (i + 1) xs
replaced_more f xs ys i x y h same is read image =
    let e : suc i ≡ i + 1 = omega arith in
    let l : i < length xs = omega arith in
    ap (set ys i) image
    ∙ ap (λ (zs : List _). set zs i (f (get_or zs i x))) is
    ∙ replaced f xs i x l
    ∙ ap (λ (k : ℕ). map f (take k xs) ++ drop k xs) e

-- one slot more, and its line if it is live
pub places_more : (slots : Slots) (i : ℕ) (s : Option Entry) (all more : List Place) → i < length slots → s ≡ get_or slots i s
    → all ≡ manifest_of (take i slots) → more ≡ all ++ map place_of (live_from i (s ∷ [])) → more ≡ manifest_of (take (i + 1) slots)
places_more slots i s all more h read before after =
    after
    ∙ ap (λ (ps : List Place). ps ++ map place_of (live_from i (s ∷ []))) before
    ∙ ap (λ (x : Option Entry). manifest_of (take i slots) ++ map place_of (live_from i (x ∷ []))) (read ∙ get_or_default slots i s None h)
    ∙ sym (manifest_more slots i h)
