-- The first slot that passes a test, looked for chunk by chunk.
use Rattle.std.proofs.Common.{◌≡◌, ℕ, ◌+◌, ◌*◌, ◌/◌, ◌%◌, ◌<◌, ◌≤◌, inl, inr, Bool, true, false, ltb, List, length, get_or, Option, Some, None, position, refl, ap, ◌∙◌, arith}
use Rattle.std.specs.List.{position_or_len}
use Rattle.std.proofs.lemmas.Bool.{cases_Bool, cases_lt, ltb-true, ltb-false}
use Rattle.std.proofs.lemmas.List.Sums.{position_or_len_is}
use Rattle.std.proofs.lemmas.List.Quantifiers.{position-Some}
use Rattle.dory_base.specs.declared.entry.Entry.{Entry}
use Rattle.dory_base.specs.Table.{Slots}
use Rattle.dory_chunks.specs.Parts.{Part, IsPart, part_at, slot_at, slots_in}
use Rattle.dory_chunks.proofs.PartLaws.{length-slots_in, slot_in}
use Rattle.dory_chunks.proofs.TargetLaws.{nowhere}

-- no slot of these chunks passes, of which there are so many
abbrev pub NoneSo : (Option Entry → Bool) → List Part → ℕ → Type 0
NoneSo p parts n = (k : ℕ) → k < 64 * n → p (slot_at parts k) ≡ false

first_at : (p : Option Entry → Bool) (xs : Slots) (n : ℕ) → n < length xs → p (get_or xs n None) ≡ true → ((k : ℕ) → k < n → p (get_or xs k None) ≡ false) → position p xs ≡ Some n
first_at p xs n low here before =
    let e : position_or_len p xs ≡ n = position_or_len_is p xs n None (omega arith) before (λ _. here) in
    elim (cases_Bool (ltb n (length xs))) [
      | inl lower ↦ rw e (rw lower refl)
      | inr higher ↦ let f : length xs ≤ n = ltb-false n (length xs) higher in absurd (omega arith)
    ]

no_first : (p : Option Entry → Bool) (xs : Slots) → ((k : ℕ) → k < length xs → p (get_or xs k None) ≡ false) → position p xs ≡ None
no_first p xs never =
    let e : position_or_len p xs ≡ length xs = position_or_len_is p xs (length xs) None (omega arith) never (λ low. absurd (omega arith)) in
    elim (cases_Bool (ltb (length xs) (length xs))) [
      | inl lower ↦ let f : length xs < length xs = ltb-true (length xs) (length xs) lower in absurd (omega arith)
      | inr higher ↦ rw e (rw higher refl)
    ]

-- one chunk more has none
pub none_more : (p : Option Entry → Bool) (w : ℕ) (parts : List Part) (n : ℕ) → IsPart w (part_at parts n) → NoneSo p parts n → position p (part_at parts n).slots ≡ None → NoneSo p parts (n + 1)
none_more p w parts n is so none = λ k low.
    elim (cases_lt k (64 * n)) [
      | inl near ↦ so k near
      | inr far ↦
          let e : k / 64 ≡ n = omega arith in
          let inside : k % 64 < length (part_at parts n).slots = omega (arith, is.full) in
          ap (λ (q : ℕ). p (get_or (part_at parts q).slots (k % 64) None)) e ∙ nowhere p (part_at parts n).slots (k % 64) None none inside
    ]

-- a slot of a chunk passes, and none before it does
pub record IsFirst (p : Option Entry → Bool) (parts : List Part) (at : ℕ) : Type 0 where
  pub passes : p (slot_at parts at) ≡ true
  pub before : (k : ℕ) → k < at → p (slot_at parts k) ≡ false

pub is_first : (p : Option Entry → Bool) (w : ℕ) (parts : List Part) (n place : ℕ) → IsPart w (part_at parts n) → NoneSo p parts n → position p (part_at parts n).slots ≡ Some place → IsFirst p parts (64 * n + place)
is_first p w parts n place is so found =
    let at = position-Some p (part_at parts n).slots place None found in
    let low : place < 64 = omega (arith, at.0, is.full) in
    let chunk : (64 * n + place) / 64 ≡ n = omega arith in
    let rest : (64 * n + place) % 64 ≡ place = omega arith in
    record {
      passes = (λ i. p (get_or (part_at parts (chunk i)).slots (rest i) None)) ∙ at.1;
      before = λ k near.
          elim (cases_lt k (64 * n)) [
            | inl early ↦ so k early
            | inr late ↦
                let e : k / 64 ≡ n = omega arith in
                let less : k % 64 < place = omega arith in
                ap (λ (q : ℕ). p (get_or (part_at parts q).slots (k % 64) None)) e ∙ at.2 (k % 64) less
          ];
    }

-- it is the first of the slots, where it is one of them
pub first_inside : (p : Option Entry → Bool) (count : ℕ) (parts : List Part) (at : ℕ) → IsFirst p parts at → at < count → position p (slots_in count parts) ≡ Some at
first_inside p count parts at is low =
    first_at p (slots_in count parts) at (omega (arith, length-slots_in count parts)) (ap p (slot_in count parts at low) ∙ is.passes)
    (λ k near. ap p (slot_in count parts k (omega arith)) ∙ is.before k near)

pub first_outside : (p : Option Entry → Bool) (count : ℕ) (parts : List Part) (at : ℕ) → IsFirst p parts at → count ≤ at → position p (slots_in count parts) ≡ None
first_outside p count parts at is high =
    no_first p (slots_in count parts) (λ k near.
    let low : k < count = omega (arith, length-slots_in count parts) in
    ap p (slot_in count parts k low) ∙ is.before k (omega arith))

-- no chunk has one
pub nowhere_inside : (p : Option Entry → Bool) (count n : ℕ) (parts : List Part) → NoneSo p parts n → count ≤ 64 * n → position p (slots_in count parts) ≡ None
nowhere_inside p count n parts so all =
    no_first p (slots_in count parts) (λ k near.
    let low : k < count = omega (arith, length-slots_in count parts) in
    ap p (slot_in count parts k low) ∙ so k (omega arith))
