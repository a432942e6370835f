-- Slots in chunks: one of them is written, or one is put behind the last.
use Rattle.std.proofs.Common.{◌≡◌, ◌≢◌, ℕ, ◌+◌, ◌/◌, ◌%◌, ◌<◌, ◌≤◌, inl, inr, ltb, List, [], ◌∷◌, ◌++◌, length, set, get_or, Option, None, refl, sym, ap, ◌∙◌, subst, arith, length-append}
use Rattle.std.proofs.lemmas.Bool.{cases_eq, cases_lt, cases_Bool, ltb-true, ltb-false}
use Rattle.std.proofs.lemmas.List.{get_or-set_same, get_or-set_other, get_or_past, length-set, get_or-replicate}
use Rattle.std.proofs.lemmas.List.FromFn.{length-map-range_with_len, get_or-map-range_with_len, fill_by_all}
use Rattle.std.proofs.Math.ListN.{get_or-append}
use Rattle.std.proofs.Math.Seq.{get_or-append_seam}
use Rattle.dory_base.specs.declared.entry.Entry.{Entry}
use Rattle.dory_base.specs.Table.{Slots}
use Rattle.dory_chunks.specs.Parts.{Part, IsPart, empty_part, put_in, part_at, slot_at, slots_in, parts_with}
use Rattle.dory_chunks.specs.Target.{written}
use Rattle.dory_chunks.specs.Versions.{AreParts}

pub length-slots_in : (count : ℕ) (parts : List Part) → length (slots_in count parts) ≡ count
length-slots_in count parts = length-map-range_with_len (slot_at parts) 0 count

pub slot_in : (count : ℕ) (parts : List Part) (n : ℕ) → n < count → get_or (slots_in count parts) n None ≡ slot_at parts n
slot_in count parts n h = get_or-map-range_with_len (slot_at parts) 0 count n n None h (omega arith)

pub no_slot_in : (count : ℕ) (parts : List Part) (n : ℕ) → count ≤ n → get_or (slots_in count parts) n None ≡ None
no_slot_in count parts n h =
    let far : length (slots_in count parts) ≤ n = rw (length-slots_in count parts) h in
    get_or_past (slots_in count parts) n None far

-- ---- a list with something else at a place, or behind the last

pub length-written : (slots : Slots) (n : ℕ) (x : Option Entry) → n ≤ length slots → length slots ≤ length (written slots n x)
length-written slots n x h =
    elim (cases_Bool (ltb n (length slots))) [
      | inl lower ↦ rw lower (let e : length (set slots n x) ≡ length slots = length-set slots n x in omega arith)
      | inr higher ↦ rw higher (omega (arith, length-append slots (x ∷ [])))
    ]

pub written_here : (slots : Slots) (n : ℕ) (x : Option Entry) → n ≤ length slots → get_or (written slots n x) n None ≡ x
written_here slots n x h =
    elim (cases_Bool (ltb n (length slots))) [
      | inl lower ↦ rw lower (get_or-set_same slots n x None (ltb-true n (length slots) lower))
      | inr higher ↦
          let e : n ≡ length slots = omega (arith, ltb-false n (length slots) higher) in
          rw higher (ap (λ (k : ℕ). get_or (slots ++ x ∷ []) k None) e ∙ get_or-append_seam slots x [] None)
    ]

behind : (slots : Slots) (x : Option Entry) (k : ℕ) → k ≢ length slots → get_or (slots ++ x ∷ []) k None ≡ get_or slots k None
behind slots x k ne =
    elim (cases_lt k (length slots)) [
      | inl low ↦ get_or-append slots (x ∷ []) None k low
      | inr high ↦
          let past : length (slots ++ x ∷ []) ≤ k = omega (arith, ne, length-append slots (x ∷ [])) in
          get_or_past (slots ++ x ∷ []) k None past ∙ sym (get_or_past slots k None high)
    ]

pub written_there : (slots : Slots) (n : ℕ) (x : Option Entry) (k : ℕ) → n ≤ length slots → k ≢ n → get_or (written slots n x) k None ≡ get_or slots k None
written_there slots n x k h ne =
    elim (cases_Bool (ltb n (length slots))) [
      | inl lower ↦ rw lower (get_or-set_other slots n k x None ne)
      | inr higher ↦
          let e : n ≡ length slots = omega (arith, ltb-false n (length slots) higher) in
          rw higher (behind slots x k (λ is. ne (is ∙ sym e)))
    ]

pub below_count : (slots : Slots) (n : ℕ) (x : Option Entry) (k : ℕ) → n ≤ length slots → k ≢ n → k < length (written slots n x) → k < length slots
below_count slots n x k h ne near =
    elim (cases_Bool (ltb n (length slots))) [
      | inl lower ↦ let f : k < length (set slots n x) = rw lower at near in omega (arith, length-set slots n x)
      | inr higher ↦
          let f : k < length (slots ++ x ∷ []) = rw higher at near in
          omega (arith, ne, ltb-false n (length slots) higher, length-append slots (x ∷ []))
    ]

-- ---- the chunks

same_place : (k n : ℕ) → k / 64 ≡ n / 64 → k ≢ n → k % 64 ≢ n % 64
same_place k n e ne f = ne (omega arith)

-- what the chunks have at a place that is written, and elsewhere
pub record AreWritten (parts now : List Part) (n : ℕ) (x : Option Entry) : Type 0 where
  pub here : slot_at now n ≡ x
  pub there : (k : ℕ) → k ≢ n → slot_at now k ≡ slot_at parts k

put_here : (w : ℕ) (part : Part) (r : ℕ) (x : Option Entry) → IsPart w part → r < 64 → get_or (put_in part r x).slots r None ≡ x
put_here w part r x is h =
    let inside : r < length part.slots = omega (arith, is.full) in
    get_or-set_same part.slots r x None inside

put_part : (w : ℕ) (part : Part) (r : ℕ) (x : Option Entry) → IsPart w part → IsPart w (put_in part r x)
put_part w part r x is = record { full = length-set part.slots r x ∙ is.full; width_is = is.width_is }

empty_is : (w : ℕ) → IsPart w (empty_part w)
empty_is w = record { full = refl; width_is = refl }

copied : (w : ℕ) (parts : List Part) (n : ℕ) (x : Option Entry) → n / 64 < length parts → IsPart w (part_at parts (n / 64))
    → AreWritten parts (set parts (n / 64) (put_in (part_at parts (n / 64)) (n % 64) x)) n x
copied w parts n x h is =
    let part : Part = put_in (part_at parts (n / 64)) (n % 64) x in
    let r : n % 64 < 64 = omega arith in
    let own : part_at (set parts (n / 64) part) (n / 64) ≡ part = get_or-set_same parts (n / 64) part (record { width = 0; slots = [] }) h in
    record {
      here = ap (λ (p : Part). get_or p.slots (n % 64) None) own ∙ put_here w (part_at parts (n / 64)) (n % 64) x is r;
      there = λ k ne.
          elim (cases_eq (k / 64) (n / 64)) [
            | inl e ↦
                ap (λ (q : ℕ). get_or (part_at (set parts (n / 64) part) q).slots (k % 64) None) e
                ∙ ap (λ (p : Part). get_or p.slots (k % 64) None) own
                ∙ get_or-set_other (part_at parts (n / 64)).slots (n % 64) (k % 64) x None (same_place k n e ne)
                ∙ ap (λ (q : ℕ). get_or (part_at parts q).slots (k % 64) None) (sym e)
            | inr f ↦ ap (λ (p : Part). get_or p.slots (k % 64) None) (get_or-set_other parts (n / 64) (k / 64) part (record { width = 0; slots = [] }) f)
          ];
    }

made : (w : ℕ) (parts : List Part) (n : ℕ) (x : Option Entry) → n / 64 ≡ length parts
    → AreWritten parts (parts ++ put_in (empty_part w) (n % 64) x ∷ []) n x
made w parts n x h =
    let part : Part = put_in (empty_part w) (n % 64) x in
    let none : Part = record { width = 0; slots = [] } in
    let r : n % 64 < 64 = omega arith in
    let own : part_at (parts ++ part ∷ []) (n / 64) ≡ part = ap (part_at (parts ++ part ∷ [])) h ∙ get_or-append_seam parts part [] none in
    record {
      here = ap (λ (p : Part). get_or p.slots (n % 64) None) own ∙ put_here w (empty_part w) (n % 64) x (empty_is w) r;
      there = λ k ne.
          elim (cases_eq (k / 64) (n / 64)) [
            | inl e ↦
                let s : k % 64 < 64 = omega arith in
                let past : length parts ≤ k / 64 = omega (arith, e, h) in
                ap (λ (q : ℕ). get_or (part_at (parts ++ part ∷ []) q).slots (k % 64) None) e
                ∙ ap (λ (p : Part). get_or p.slots (k % 64) None) own
                ∙ get_or-set_other (empty_part w).slots (n % 64) (k % 64) x None (same_place k n e ne)
                ∙ get_or-replicate 64 (k % 64) None None s
                ∙ sym (ap (λ (p : Part). get_or p.slots (k % 64) None) (get_or_past parts (k / 64) none past))
            | inr f ↦
                elim (cases_lt (k / 64) (length parts)) [
                  | inl low ↦ ap (λ (p : Part). get_or p.slots (k % 64) None) (get_or-append parts (part ∷ []) none (k / 64) low)
                  | inr high ↦
                      let past : length (parts ++ part ∷ []) ≤ k / 64 = omega (arith, f, h, length-append parts (part ∷ [])) in
                      ap (λ (p : Part). get_or p.slots (k % 64) None) (get_or_past (parts ++ part ∷ []) (k / 64) none past ∙ sym (get_or_past parts (k / 64) none high))
                ]
          ];
    }

-- one chunk is copied, or made where there is none
pub are_written : (w : ℕ) (parts : List Part) (n : ℕ) (x : Option Entry) → n / 64 ≤ length parts → ((q : ℕ) → q < length parts → IsPart w (part_at parts q))
    → AreWritten parts (parts_with w parts n x) n x
are_written w parts n x h each =
    elim (cases_Bool (ltb (n / 64) (length parts))) [
      | inl lower ↦ let low : n / 64 < length parts = ltb-true (n / 64) (length parts) lower in rw lower (copied w parts n x low (each (n / 64) low))
      | inr higher ↦ let e : n / 64 ≡ length parts = omega (arith, ltb-false (n / 64) (length parts) higher) in rw higher (made w parts n x e)
    ]

set_parts : (w : ℕ) (parts : List Part) (q : ℕ) (part : Part) → IsPart w part → ((j : ℕ) → j < length parts → IsPart w (part_at parts j))
    → (j : ℕ) → j < length (set parts q part) → IsPart w (part_at (set parts q part) j)
set_parts w parts q part is each j h =
    let low : j < length parts = omega (arith, length-set parts q part) in
    let none : Part = record { width = 0; slots = [] } in
    elim (cases_eq j q) [
      | inl e ↦
          let inside : q < length parts = omega (arith, e) in
          subst (IsPart w) (sym (ap (part_at (set parts q part)) e ∙ get_or-set_same parts q part none inside)) is
      | inr f ↦ subst (IsPart w) (sym (get_or-set_other parts q j part none f)) (each j low)
    ]

more_parts : (w : ℕ) (parts : List Part) (part : Part) → IsPart w part → ((j : ℕ) → j < length parts → IsPart w (part_at parts j))
    → (j : ℕ) → j < length (parts ++ part ∷ []) → IsPart w (part_at (parts ++ part ∷ []) j)
more_parts w parts part is each j h =
    let none : Part = record { width = 0; slots = [] } in
    elim (cases_lt j (length parts)) [
      | inl low ↦ subst (IsPart w) (sym (get_or-append parts (part ∷ []) none j low)) (each j low)
      | inr high ↦
          let e : j ≡ length parts = omega (arith, length-append parts (part ∷ [])) in
          subst (IsPart w) (sym (ap (part_at (parts ++ part ∷ [])) e ∙ get_or-append_seam parts part [] none)) is
    ]

-- they are chunks of that width still, and reach as far and over the slot that is written
pub parts_kept : (w count more : ℕ) (parts : List Part) (n : ℕ) (x : Option Entry) → AreParts w count parts → n ≤ count → more ≤ count + 1 → (n < count → more ≡ count)
    → AreParts w more (parts_with w parts n x)
parts_kept w count more parts n x are h few same =
    elim (cases_Bool (ltb (n / 64) (length parts))) [
      | inl lower ↦
          let low : n / 64 < length parts = ltb-true (n / 64) (length parts) lower in
          let part : Part = put_in (part_at parts (n / 64)) (n % 64) x in
          rw lower (record {
            reached =
                elim (cases_lt n count) [
                  | inl near ↦ omega (arith, same near, are.reached, length-set parts (n / 64) part)
                  | inr far ↦ omega (arith, are.reached, length-set parts (n / 64) part)
                ];
            each = set_parts w parts (n / 64) part (put_part w (part_at parts (n / 64)) (n % 64) x (are.each (n / 64) low)) are.each;
          })
      | inr higher ↦
          let part : Part = put_in (empty_part w) (n % 64) x in
          rw higher (record {
            reached = omega (arith, ltb-false (n / 64) (length parts) higher, are.reached, length-append parts (part ∷ []));
            each = more_parts w parts part (put_part w (empty_part w) (n % 64) x (empty_is w)) are.each;
          })
    ]

-- the slots that the chunks then have
pub slots_written : (w count more : ℕ) (parts : List Part) (n : ℕ) (x : Option Entry) → AreParts w count parts → n ≤ count → length (written (slots_in count parts) n x) ≡ more
    → slots_in more (parts_with w parts n x) ≡ written (slots_in count parts) n x
slots_written w count more parts n x are h long =
    let slots : Slots = slots_in count parts in
    let inside : n ≤ length slots = omega (arith, length-slots_in count parts) in
    let chunk : n / 64 ≤ length parts = omega (arith, are.reached) in
    let now : AreWritten parts (parts_with w parts n x) n x = are_written w parts n x chunk are.each in
    sym (fill_by_all (slot_at (parts_with w parts n x)) (written slots n x) more None long (λ k near.
    elim (cases_eq k n) [
      | inl e ↦ ap (λ (j : ℕ). get_or (written slots n x) j None) e ∙ written_here slots n x inside ∙ sym now.here ∙ ap (slot_at (parts_with w parts n x)) (sym e)
      | inr ne ↦
          let low : k < length slots = below_count slots n x k inside ne (omega (arith, long)) in
          written_there slots n x k inside ne ∙ slot_in count parts k (omega (arith, length-slots_in count parts)) ∙ sym (now.there k ne)
    ]))
