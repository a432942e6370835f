-- An update changes one slot or none.
use Rattle.std.proofs.Common.{◌≡◌, ℕ, zero, suc, ◌+◌, ◌<◌, ◌≤◌, inl, inr, Bool, true, false, not, cond, ltb, List, [], ◌∷◌, ◌++◌, length, map, set, get_or, Option, Some, None, IfSome, IfNone, is_none, position, refl, sym, ap, ◌∙◌, subst, arith}
use mathlib.Core.Path.{ap₂}
use Rattle.std.proofs.lemmas.Bool.{cases_Bool, cases_eq, cases_lt, ltb-true, ltb-false, false≢true}
use Rattle.std.proofs.lemmas.List.{get_or_past, get_or-set_same, get_or-set_other, length-set, length-map}
use Rattle.std.proofs.lemmas.List.Quantifiers.{position-Some}
use Rattle.std.specs.List.{prefix_len, position_or_len}
use Rattle.dory_base.specs.Dims.{Dims}
use Rattle.dory_base.specs.History.{IsChangeOf}
use Rattle.dory_base.specs.declared.ids.DocId.{DocId}
use Rattle.dory_base.specs.declared.entry.Entry.{Entry}
use Rattle.dory_base.specs.declared.entry.Change.{Change}
use Rattle.dory_base.specs.declared.entry.Change.TheVariants.{Post, Remove}
use Rattle.dory_base.specs.Table.{Slots, has_doc, placed, emptied, changed, step}
use Rattle.dory_base.specs.TableMeaning.{IsSlotOf}
use Rattle.dory_chunks.specs.Marks.{mark_of, is_marked, is_mark_of, is_slot_of}
use Rattle.dory_chunks.specs.Target.{place_for, target_in, target_of, left_in, left_by, written, AreApart, IsAlone, IsTarget}

-- ---- where a test holds first

not_none : {A : Type 0} (x : A) → ◌≡◌ {A = Option A} (Some x) None → ⊥
not_none x e = false≢true (ap is_none e)

abbrev number_or_zero : Option ℕ → ℕ
number_or_zero None = 0
number_or_zero (Some n) = n

some_same : (n m : ℕ) → ◌≡◌ {A = Option ℕ} (Some n) (Some m) → n ≡ m
some_same n m e = ap number_or_zero e

cut_short : (b : Bool) (n m : ℕ) → b ≡ false → suc n ≤ cond (not b) (1 + m) 0 → n ≤ m
cut_short true n m e h = absurd (false≢true (sym e))
cut_short false n m e h = omega arith

first_never : {A : Type 0} (p : A → Bool) (x : A) (xs : List A) → suc (length xs) ≤ prefix_len (λ x. not (p x)) (x ∷ xs) → p x ≡ false
first_never p x xs h =
    elim (cases_Bool (p x)) [
      | inl here ↦ let f : suc (length xs) ≤ 0 = rw here at h in absurd (omega arith)
      | inr past ↦ past
    ]

never : {A : Type 0} (p : A → Bool) (xs : List A) (k : ℕ) (d : A) → length xs ≤ prefix_len (λ x. not (p x)) xs → k < length xs → p (get_or xs k d) ≡ false
never p [] k d h near = absurd (omega arith)
never p (x ∷ xs) zero d h near = first_never p x xs h
never p (x ∷ xs) (suc k) d h near = never p xs k d (cut_short (p x) (length xs) (prefix_len (λ x. not (p x)) xs) (first_never p x xs h) h) (omega arith)

-- the test holds nowhere
pub nowhere : {A : Type 0} (p : A → Bool) (xs : List A) (k : ℕ) (d : A) → position p xs ≡ None → k < length xs → p (get_or xs k d) ≡ false
nowhere p xs k d none near =
    elim (cases_Bool (ltb (position_or_len p xs) (length xs))) [
      | inl lower ↦ let e : Some (position_or_len p xs) ≡ None = rw lower at none in absurd (not_none (position_or_len p xs) e)
      | inr higher ↦ never p xs k d (ltb-false (position_or_len p xs) (length xs) higher) near
    ]

prefix-map : {A B : Type 0} (q : B → Bool) (f : A → B) (xs : List A) → prefix_len q (map f xs) ≡ prefix_len (λ x. q (f x)) xs
prefix-map q f [] = refl
prefix-map q f (x ∷ xs) = ap (λ (n : ℕ). cond (q (f x)) (1 + n) 0) (prefix-map q f xs)

position-map : {A B : Type 0} (p : B → Bool) (f : A → B) (xs : List A) → position p (map f xs) ≡ position (λ x. p (f x)) xs
position-map p f xs =
    ap₂ (λ (n m : ℕ). cond (ltb n m) (Some n) None) (prefix-map (λ y. not (p y)) f xs) (length-map xs f)

marks_name : (doc : DocId) (s : Option Entry) → is_marked doc (mark_of s) ≡ has_doc doc s
marks_name doc None = refl
marks_name doc (Some e) = refl

marks_empty : (s : Option Entry) → is_none (mark_of s) ≡ is_none s
marks_empty None = refl
marks_empty (Some e) = refl

-- the marks tell where a document is, and which slot is empty
own_marked : (doc : DocId) (slots : Slots) → position (is_marked doc) (map mark_of slots) ≡ position (has_doc doc) slots
own_marked doc slots = position-map (is_marked doc) mark_of slots ∙ (λ i. position (λ s. marks_name doc s i) slots)

empty_marked : (slots : Slots) → position is_none (map mark_of slots) ≡ position is_none slots
empty_marked slots = position-map is_none mark_of slots ∙ (λ i. position (λ s. marks_empty s i) slots)

-- the marks tell which slot is sought
pub sought_marked : (doc : Option DocId) (slots : Slots) → position (is_mark_of doc) (map mark_of slots) ≡ position (is_slot_of doc) slots
sought_marked None slots = empty_marked slots
sought_marked (Some doc) slots = own_marked doc slots

-- ---- what is written

written_inside : (slots : Slots) (n : ℕ) (x : Option Entry) → n < length slots → written slots n x ≡ set slots n x
written_inside slots n x h =
    elim (cases_Bool (ltb n (length slots))) [
      | inl lower ↦ rw lower refl
      | inr higher ↦ let far : length slots ≤ n = ltb-false n (length slots) higher in absurd (omega arith)
    ]

written_behind : (slots : Slots) (x : Option Entry) → written slots (length slots) x ≡ slots ++ x ∷ []
written_behind slots x =
    elim (cases_Bool (ltb (length slots) (length slots))) [
      | inl lower ↦ let low : length slots < length slots = ltb-true (length slots) (length slots) lower in absurd (omega arith)
      | inr higher ↦ rw higher refl
    ]

no_doc : (doc : DocId) (slots : Slots) (k : ℕ) → position (has_doc doc) slots ≡ None → has_doc doc (get_or slots k None) ≡ false
no_doc doc slots k none =
    elim (cases_lt k (length slots)) [
      | inl low ↦ nowhere (has_doc doc) slots k None none low
      | inr high ↦ ap (has_doc doc) (get_or_past slots k None high)
    ]

same_slots : (xs ys : Slots) → length xs ≡ length ys → ((k : ℕ) → k < length xs → get_or xs k None ≡ get_or ys k None) → xs ≡ ys
same_slots [] [] e each = refl
same_slots [] (y ∷ ys) e each = absurd (omega arith)
same_slots (x ∷ xs) [] e each = absurd (omega arith)
same_slots (x ∷ xs) (y ∷ ys) e each =
    let f : length xs ≡ length ys = omega arith in
    ap₂ (λ (s : Option Entry) (t : Slots). s ∷ t) (each 0 (omega arith)) (same_slots xs ys f (λ k near. each (suc k) (omega arith)))

image : (f : Option Entry → Option Entry) (slots : Slots) (k : ℕ) → k < length slots → get_or (map f slots) k None ≡ f (get_or slots k None)
image f [] k h = absurd (omega arith)
image f (s ∷ slots) zero h = refl
image f (s ∷ slots) (suc k) h = image f slots k (omega arith)

emptied_other : (doc : DocId) (slots : Slots) (k : ℕ) → has_doc doc (get_or slots k None) ≡ false → emptied doc (get_or slots k None) ≡ get_or slots k None
emptied_other doc slots k no_such = ap (λ (b : Bool). cond b None (get_or slots k None)) no_such

emptied_own : (doc : DocId) (slots : Slots) (k : ℕ) → has_doc doc (get_or slots k None) ≡ true → emptied doc (get_or slots k None) ≡ None
emptied_own doc slots k such = ap (λ (b : Bool). cond b None (get_or slots k None)) such

none_emptied : (doc : DocId) (slots : Slots) → position (has_doc doc) slots ≡ None → map (emptied doc) slots ≡ slots
none_emptied doc slots none =
    same_slots (map (emptied doc) slots) slots (length-map slots (emptied doc)) (λ k near.
    let low : k < length slots = omega (arith, length-map slots (emptied doc)) in
    image (emptied doc) slots k low ∙ emptied_other doc slots k (no_doc doc slots k none))

one_emptied : (doc : DocId) (slots : Slots) (n : ℕ) → AreApart slots → position (has_doc doc) slots ≡ Some n → map (emptied doc) slots ≡ set slots n None
one_emptied doc slots n apart found =
    let at = position-Some (has_doc doc) slots n None found in
    let long : length (map (emptied doc) slots) ≡ length (set slots n None) = length-map slots (emptied doc) ∙ sym (length-set slots n None) in
    same_slots (map (emptied doc) slots) (set slots n None) long (λ k near.
    let low : k < length slots = omega (arith, length-map slots (emptied doc)) in
    image (emptied doc) slots k low
    ∙ elim (cases_eq k n) [
      | inl e ↦
          ap (λ (j : ℕ). emptied doc (get_or slots j None)) e ∙ emptied_own doc slots n at.1
          ∙ sym (ap (λ (j : ℕ). get_or (set slots n None) j None) e ∙ get_or-set_same slots n None None at.0)
      | inr ne ↦
          emptied_other doc slots k
          (elim (cases_Bool (has_doc doc (get_or slots k None))) [
            | inl such ↦ absurd (ne (apart k n doc such at.1))
            | inr no_such ↦ no_such
          ])
          ∙ sym (get_or-set_other slots n k None None ne)
    ])

-- ---- the target

-- the slot exists or comes next, and the update changes nothing else
pub record IsTargetOf (slots : Slots) (e : Entry) (change : Change) (n : ℕ) : Type 0 where
  pub within : n ≤ length slots
  pub few : n < 4096
  pub changes : changed e slots change ≡ written slots n (left_in e change)
  pub alone : IsAlone slots n (left_in e change)

pub record IsPlaced (slots : Slots) (e : Entry) (own empty : Option ℕ) (n : ℕ) : Type 0 where
  pub within : n ≤ length slots
  pub few : n < 4096
  pub places : placed e slots own empty ≡ written slots n (Some e)
  pub alone : IsAlone slots n (Some e)

new_alone : (slots : Slots) (e : Entry) (n : ℕ) → position (has_doc e.doc) slots ≡ None → IsAlone slots n (Some e)
new_alone slots e n none = λ k such. absurd (false≢true (sym (no_doc e.doc slots k none) ∙ such))

behind_last : (slots : Slots) (e : Entry) (n : ℕ) (b : Bool) → length slots ≤ 4096 → position (has_doc e.doc) slots ≡ None → ltb (length slots) 4096 ≡ b
    → cond b (Some (length slots)) None ≡ Some n → (n ≤ length slots) × (n < 4096) × (cond b (slots ++ Some e ∷ []) slots ≡ written slots n (Some e))
behind_last slots e n true few none low is =
    let at : length slots ≡ n = some_same (length slots) n is in
    let room : length slots < 4096 = ltb-true (length slots) 4096 low in
    (omega arith, omega arith, sym (written_behind slots (Some e)) ∙ ap (λ (k : ℕ). written slots k (Some e)) at)
behind_last slots e n false few none low is = absurd (not_none n (sym is))

is_placed : (slots : Slots) (e : Entry) (own empty : Option ℕ) (n : ℕ) → AreApart slots → length slots ≤ 4096
    → position (has_doc e.doc) slots ≡ own → position is_none slots ≡ empty → place_for own empty (length slots) ≡ Some n → IsPlaced slots e own empty n
is_placed slots e (Some a) empty n apart few found first is =
    let at = position-Some (has_doc e.doc) slots a None found in
    let same : a ≡ n = some_same a n is in
    let low : n < length slots = omega (arith, at.0) in
    record {
      within = omega arith;
      few = omega arith;
      places = ap (λ (k : ℕ). set slots k (Some e)) same ∙ sym (written_inside slots n (Some e) low);
      alone = λ k such. apart k a e.doc such at.1 ∙ same;
    }
is_placed slots e None (Some a) n apart few found first is =
    let at = position-Some is_none slots a None first in
    let same : a ≡ n = some_same a n is in
    let low : n < length slots = omega (arith, at.0) in
    record {
      within = omega arith;
      few = omega arith;
      places = ap (λ (k : ℕ). set slots k (Some e)) same ∙ sym (written_inside slots n (Some e) low);
      alone = new_alone slots e n found;
    }
is_placed slots e None None n apart few found first is =
    let last = behind_last slots e n (ltb (length slots) 4096) few found refl is in
    record { within = last.0; few = last.1; places = last.2; alone = new_alone slots e n found }

pub is_target : (slots : Slots) (e : Entry) (change : Change) (n : ℕ) → AreApart slots → length slots ≤ 4096 → target_in slots e.doc change ≡ Some n → IsTargetOf slots e change n
is_target slots e (Post shape row tags) n apart few is =
    let p : IsPlaced slots e (position (has_doc e.doc) slots) (position is_none slots) n = is_placed slots e (position (has_doc e.doc) slots) (position is_none slots) n apart few refl refl is in
    record { within = p.within; few = p.few; changes = p.places; alone = p.alone }
is_target slots e Remove n apart few is =
    let at = position-Some (has_doc e.doc) slots n None is in
    record {
      within = omega (arith, at.0);
      few = omega (arith, at.0);
      changes = one_emptied e.doc slots n apart is ∙ sym (written_inside slots n None at.0);
      alone = tt;
    }

full_placed : (slots : Slots) (e : Entry) (own empty : Option ℕ) → place_for own empty (length slots) ≡ None → placed e slots own empty ≡ slots
full_placed slots e (Some a) empty is = absurd (not_none a is)
full_placed slots e None (Some a) is = absurd (not_none a is)
full_placed slots e None None is =
    elim (cases_Bool (ltb (length slots) 4096)) [
      | inl lower ↦ let f : Some (length slots) ≡ None = rw lower at is in absurd (not_none (length slots) f)
      | inr higher ↦ rw higher refl
    ]

-- an update without a target changes nothing
pub no_target : (slots : Slots) (e : Entry) (change : Change) → target_in slots e.doc change ≡ None → changed e slots change ≡ slots
no_target slots e (Post shape row tags) is = full_placed slots e (position (has_doc e.doc) slots) (position is_none slots) is
no_target slots e Remove is = none_emptied e.doc slots is

left_post : (shape : Dims) (e : Entry) (change : Change) → e.change ≡ change → IsChangeOf shape change → IsSlotOf shape (left_in e change)
left_post shape e (Post posted row tags) is h = subst (λ (c : Change). IsSlotOf shape (Some (record { id = e.id; doc = e.doc; change = c }))) (sym is) h
left_post shape e Remove is h = tt

pub left_fits : (shape : Dims) (e : Entry) → IsChangeOf shape e.change → IsSlotOf shape (left_by e)
left_fits shape e h = left_post shape e e.change refl h

pub some_target : (slots : Slots) (e : Entry) (o : Option ℕ) → AreApart slots → length slots ≤ 4096 → o ≡ target_of slots e → IfSome o (λ n. IsTarget slots e n)
some_target slots e None apart few is = tt
some_target slots e (Some n) apart few is =
    let t : IsTargetOf slots e e.change n = is_target slots e e.change n apart few (sym is) in
    record { within = t.within; few = t.few; changes = t.changes; alone = t.alone }

pub none_target : (slots : Slots) (e : Entry) (o : Option ℕ) → o ≡ target_of slots e → IfNone o (step slots e ≡ slots)
none_target slots e None is = no_target slots e e.change (sym is)
none_target slots e (Some n) is = tt
