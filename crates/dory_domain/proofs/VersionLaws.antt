-- The versions that a folder retains, after one update more.
use Rattle.std.proofs.Common.{◌≡◌, ℕ, zero, suc, refl, ◌+◌, ◌-◌, ◌<◌, ◌≤◌, inl, inr, ltb, List, [], ◌∷◌, ◌++◌, length, take, take_all, get_or, sym, ap, ◌∙◌, subst, arith, length-append}
use Rattle.std.specs.List.{remove}
use Rattle.std.proofs.lemmas.Bool.{cases_lt, cases_Bool, ltb-true, ltb-false}
use Rattle.std.proofs.lemmas.List.{take-append-le}
use Rattle.std.proofs.lemmas.List.Edits.{get_or-remove_above, length-remove}
use Rattle.std.proofs.Math.ListN.{get_or-append}
use Rattle.std.proofs.Math.Seq.{get_or-append_seam}
use Rattle.dory_base.specs.Dims.{Dims}
use Rattle.dory_base.specs.declared.entry.Entry.{Entry}
use Rattle.dory_base.specs.TableMeaning.{Kept, StandsFor}
use Rattle.dory_wire.specs.Read.{oldest_of}
use Rattle.dory_domain.specs.Versions.{IsVersion, AreVersions, newest_of}

take_nothing : (n : ℕ) → ◌≡◌ {A = List Entry} (take n []) []
take_nothing zero = refl
take_nothing (suc n) = refl

-- the table of no update is the one version of a history with none
pub first_are : (shape : Dims) (retained : ℕ) (t : Kept) → 1 ≤ retained → t.shape ≡ shape → StandsFor t [] → AreVersions shape retained [] (t ∷ [])
first_are shape retained t some same stands = record {
  count = omega (arith, some);
  each = first_each;
}
  where
    first_each : (k : ℕ) (d : Kept) → k < 1 → IsVersion shape [] (oldest_of retained 0 + k) (get_or (t ∷ []) k d)
    first_each zero d h = record { shape_is = same; stands = subst (StandsFor t) (sym (take_nothing (oldest_of retained 0 + 0))) stands }
    first_each (suc k) d h = absurd (omega arith)

-- an earlier version stays what it is
version_stays : (shape : Dims) (history : List Entry) (e : Entry) (n : ℕ) (t : Kept) → n ≤ length history → IsVersion shape history n t → IsVersion shape (history ++ e ∷ []) n t
version_stays shape history e n t low is = record { shape_is = is.shape_is; stands = subst (StandsFor t) (sym (take-append-le n history (e ∷ []) low)) is.stands }

-- the newest version
version_last : (shape : Dims) (history : List Entry) (e : Entry) (n : ℕ) (t : Kept) → n ≡ length history + 1 → t.shape ≡ shape → StandsFor t (history ++ e ∷ []) → IsVersion shape (history ++ e ∷ []) n t
version_last shape history e n t is same stands =
    let all : take n (history ++ e ∷ []) ≡ history ++ e ∷ [] = take_all n (history ++ e ∷ []) (omega (arith, is, length-append history (e ∷ []))) in
    record { shape_is = same; stands = subst (StandsFor t) (sym all) stands }

-- each version, and the next behind the last
version_more : (shape : Dims) (retained : ℕ) (history : List Entry) (e : Entry) (vs : List Kept) (next : Kept) → AreVersions shape retained history vs → next.shape ≡ shape → StandsFor next (history ++ e ∷ [])
    → (k : ℕ) (d : Kept) → k < length (vs ++ next ∷ []) → IsVersion shape (history ++ e ∷ []) (oldest_of retained (length history) + k) (get_or (vs ++ next ∷ []) k d)
version_more shape retained history e vs next are same stands k d h =
    let n : ℕ = oldest_of retained (length history) + k in
    elim (cases_lt k (length vs)) [
      | inl low ↦
          subst (IsVersion shape (history ++ e ∷ []) n) (sym (get_or-append vs (next ∷ []) d k low))
          (version_stays shape history e n (get_or vs k d) (omega (arith, are.count)) (are.each k d low))
      | inr high ↦
          let at : k ≡ length vs = omega (arith, length-append vs (next ∷ [])) in
          let here : get_or (vs ++ next ∷ []) k d ≡ next = ap (λ (j : ℕ). get_or (vs ++ next ∷ []) j d) at ∙ get_or-append_seam vs next [] d in
          subst (IsVersion shape (history ++ e ∷ []) n) (sym here) (version_last shape history e n next (omega (arith, at, are.count)) same stands)
    ]

-- the versions with the next, without the oldest where there is one too many
pub versions_next : (shape : Dims) (retained : ℕ) (history : List Entry) (e : Entry) (vs : List Kept) (next : Kept) → 1 ≤ retained → AreVersions shape retained history vs → next.shape ≡ shape → StandsFor next (history ++ e ∷ [])
    → AreVersions shape retained (history ++ e ∷ []) (newest_of retained (vs ++ next ∷ []))
versions_next shape retained history e vs next some are same stands =
    let xs : List Kept = vs ++ next ∷ [] in
    let long : length xs ≡ length vs + 1 = length-append vs (next ∷ []) in
    let more : length (history ++ e ∷ []) ≡ length history + 1 = length-append history (e ∷ []) in
    elim (cases_Bool (ltb retained (length xs))) [
      | inl over ↦
          let past : retained < length xs = ltb-true retained (length xs) over in
          let cut : length (remove xs 0) + 1 ≡ length xs = length-remove xs 0 (omega arith) in
          rw over (record {
            count = omega (arith, are.count);
            each = λ k d h.
                let near : k + 1 < length xs = omega arith in
                let number : oldest_of retained (length history) + (k + 1) ≡ oldest_of retained (length (history ++ e ∷ [])) + k = omega (arith, are.count) in
                subst (IsVersion shape (history ++ e ∷ []) (oldest_of retained (length (history ++ e ∷ [])) + k)) (sym (get_or-remove_above xs 0 d k (omega arith) (omega arith)))
                (subst (λ (n : ℕ). IsVersion shape (history ++ e ∷ []) n (get_or xs (k + 1) d)) number (version_more shape retained history e vs next are same stands (k + 1) d near));
          })
      | inr under ↦
          let room : length xs ≤ retained = ltb-false retained (length xs) under in
          rw under (record {
            count = omega (arith, are.count);
            each = λ k d h.
                let number : oldest_of retained (length history) + k ≡ oldest_of retained (length (history ++ e ∷ [])) + k = omega (arith, are.count) in
                subst (λ (n : ℕ). IsVersion shape (history ++ e ∷ []) n (get_or xs k d)) number (version_more shape retained history e vs next are same stands k d h);
          })
    ]

-- the newest version is that of the whole history
pub newest_is : (shape : Dims) (retained : ℕ) (history : List Entry) (vs : List Kept) (t : Kept) → 1 ≤ retained → AreVersions shape retained history vs → t ≡ get_or vs (length vs - 1) t → (t.shape ≡ shape) × StandsFor t history
newest_is shape retained history vs t some are at =
    let low : length vs - 1 < length vs = omega (arith, are.count) in
    let is : IsVersion shape history (oldest_of retained (length history) + (length vs - 1)) t = subst (IsVersion shape history (oldest_of retained (length history) + (length vs - 1))) (sym at) (are.each (length vs - 1) t low) in
    let all : take (oldest_of retained (length history) + (length vs - 1)) history ≡ history = take_all (oldest_of retained (length history) + (length vs - 1)) history (omega (arith, are.count)) in
    (is.shape_is, subst (StandsFor t) all is.stands)

-- a version that is retained, counted from the oldest
pub version_is : (shape : Dims) (retained : ℕ) (history : List Entry) (vs : List Kept) (number : ℕ) (t : Kept) → AreVersions shape retained history vs → oldest_of retained (length history) ≤ number → number ≤ length history
    → t ≡ get_or vs (number - oldest_of retained (length history)) t → IsVersion shape history number t
version_is shape retained history vs number t are old new at =
    let k : ℕ = number - oldest_of retained (length history) in
    let low : k < length vs = omega (arith, are.count) in
    let is : oldest_of retained (length history) + k ≡ number = omega (arith, are.count) in
    subst (λ (n : ℕ). IsVersion shape history n t) is (subst (IsVersion shape history (oldest_of retained (length history) + k)) (sym at) (are.each k t low))
