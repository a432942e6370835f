-- Positions set in a row one by one, and words one by one.
use Rattle.std.proofs.Common.{◌≡◌, ◌≢◌, ℕ, ◌<◌, ◌+◌, ◌^◌, Bool, true, false, ◌||◌, ◌==◌, inl, inr, List, length, get_or, take, map, set, replicate, Option, Some, None, zero, suc, refl, ap, sym, ◌∙◌, arith}
use Rattle.std.specs.List.{list_any, range_with_len}
use Rattle.std.proofs.lemmas.Bool.{cases_eq}
use Rattle.std.proofs.lemmas.Bool.Decides.{nat_tests}
use Rattle.std.proofs.lemmas.List.{get_or-set_same, get_or-set_other, get_or-replicate}
use Rattle.std.proofs.lemmas.List.Folds.{list_any_more}
use Rattle.std.proofs.lemmas.List.FromFn.{fill_by_all}
use Rattle.std.proofs.lemmas.Option.{none-some}
use Rattle.dory_base.specs.Dims.{Dims}
use Rattle.dory_hmac.specs.Hmac.{block_key, hmac_of_block}
use Rattle.dory_hmac.specs.declared.folder_keys.FolderKeys.{FolderKeys}
use Rattle.dory_bloom.specs.Positions.{columns_of}
use Rattle.dory_bloom.specs.PlainRow.{is_among, plain_row_of}
use Rattle.dory_bloom.specs.Recent.{AreSet}

or_true : (a b : Bool) → true ≡ (a || (b || true))
or_true true b = refl
or_true false true = refl
or_true false false = refl

or_false : (a b : Bool) → (a || b) ≡ (a || (b || false))
or_false true b = refl
or_false false true = refl
or_false false false = refl

or_assoc : (a b c : Bool) → ((a || b) || c) ≡ (a || (b || c))
or_assoc true b c = refl
or_assoc false b c = refl

same_number : (q j : ℕ) → j ≡ q → (q == j) ≡ true
same_number q j e = grind (arith, nat_tests)

other_number : (q j : ℕ) → j ≢ q → (q == j) ≡ false
other_number q j ne = grind (arith, nat_tests)

-- one more position is set
pub put_more : (row old : List Bool) (positions : List ℕ) (p n q : ℕ) → length row ≡ n → p < length positions → q ≡ get_or positions p 0 → q < n
    → ((j : ℕ) → j < n → get_or row j false ≡ (get_or old j false || is_among j (take p positions)))
    → (j : ℕ) → j < n → get_or (set row q true) j false ≡ (get_or old j false || is_among j (take (p + 1) positions))
put_more row old positions p n q len h is near so_far j low =
    let a : Bool = get_or old j false in
    let b : Bool = is_among j (take p positions) in
    let more : is_among j (take (p + 1) positions) ≡ (b || (q == j)) =
    list_any_more (λ position. position == j) positions p 0 h ∙ ap (λ (x : ℕ). b || (x == j)) (sym is)
    in
    elim (cases_eq j q) [
      | inl e ↦
          let within : q < length row = omega arith in
          ap (λ (x : ℕ). get_or (set row q true) x false) e
          ∙ get_or-set_same row q true false within
          ∙ or_true a b
          ∙ ap (λ (t : Bool). a || (b || t)) (sym (same_number q j e))
          ∙ ap (λ (t : Bool). a || t) (sym more)
      | inr ne ↦
          get_or-set_other row q j true false ne
          ∙ so_far j low
          ∙ or_false a b
          ∙ ap (λ (t : Bool). a || (b || t)) (sym (other_number q j ne))
          ∙ ap (λ (t : Bool). a || t) (sym more)
    ]

-- a row that had no bit has those of all words
pub row_is : (f : ℕ → List ℕ → Bool) (words : List (List ℕ)) (old new : List Bool) (n : ℕ) → old ≡ replicate n false → length new ≡ n
    → ((j : ℕ) → j < n → get_or new j false ≡ (get_or old j false || list_any (f j) words)) → new ≡ map (λ j. list_any (f j) words) (range_with_len 0 n)
row_is f words old new n none len each =
    fill_by_all (λ j. list_any (f j) words) new n false len
    (λ j low.
    each j low
    ∙ ap (λ (row : List Bool). get_or row j false || list_any (f j) words) none
    ∙ ap (λ (b : Bool). b || list_any (f j) words) (get_or-replicate n j false false low))

-- and so it is the plain row under the key of this block
pub row_under : (keys : FolderKeys) (shape : Dims) (words : List (List ℕ)) (block : List ℕ) (old new : List Bool)
    → block ≡ block_key keys.word → old ≡ replicate (2 ^ shape.depth) false → length new ≡ 2 ^ shape.depth
    → ((j : ℕ) → j < 2 ^ shape.depth → get_or new j false ≡ (get_or old j false || list_any (λ word. is_among j (columns_of (hmac_of_block block word) shape)) words))
    → new ≡ plain_row_of keys shape words
row_under keys shape words block old new key none len each =
    row_is (λ j word. is_among j (columns_of (hmac_of_block block word) shape)) words old new (2 ^ shape.depth) none len each
    ∙ ap (λ (b : List ℕ). map (λ j. list_any (λ word. is_among j (columns_of (hmac_of_block b word) shape)) words) (range_with_len 0 (2 ^ shape.depth))) key

-- empty slots hold no word
empty_slot : (n slot : ℕ) (word : List ℕ) → get_or (replicate n None) slot None ≡ Some word → ⊥
empty_slot zero slot word e = none-some word e
empty_slot (suc n) zero word e = none-some word e
empty_slot (suc n) (suc slot) word e = empty_slot n slot word e

-- so each column of each word in them is set
pub none_kept : (slots : List (Option (List ℕ))) (row : List Bool) (block : List ℕ) (shape : Dims) (n : ℕ) → slots ≡ replicate n None → AreSet slots row block shape
none_kept slots row block shape n empty = λ slot word j holds low among.
    absurd (empty_slot n slot word (ap (λ (all : List (Option (List ℕ))). get_or all slot None) (sym empty) ∙ holds))
