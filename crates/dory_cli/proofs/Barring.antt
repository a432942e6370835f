-- One word among words that a test picks out.
use Rattle.std.proofs.Common.{◌≡◌, ◌<◌, ℕ, zero, suc, Bool, true, false, ◌||◌, List, [], ◌∷◌, map, length, slice_index_or, refl, sym, arith}
use Rattle.std.specs.List.{list_any}

pub true_after : (b : Bool) → (b || true) ≡ true
true_after true = refl
true_after false = refl

-- where the test picks out one, there is one
pub any_at : {A B : Type 0} (f : A → B) (p : B → Bool) (xs : List A) (i : ℕ) (x : A) → i < length xs → x ≡ slice_index_or xs i x → p (f x) ≡ true → true ≡ list_any p (map f xs)
any_at f p [] i x lt is e = absurd (omega arith)
any_at f p (y ∷ ys) zero x lt is e = let h : p (f y) ≡ true = rw is at e in rw h refl
any_at f p (y ∷ ys) (suc i) x lt is e = rw (sym (any_at f p ys i x (omega arith) is e)) (sym (true_after (p (f y))))
