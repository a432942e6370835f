-- The version after one slot has changed.
use Rattle.std.proofs.Common.{◌≡◌, ◌≢◌, ℕ, ◌+◌, ◌<◌, ◌≤◌, inl, inr, true, cond, ltb, List, [], ◌∷◌, length, get_or, Option, Some, None, refl, sym, ap, ◌∙◌, subst, arith, length-append}
use Rattle.std.proofs.lemmas.Bool.{cases_Bool, cases_eq, ltb-false, false≢true, eqb-true}
use Rattle.std.proofs.lemmas.List.{length-set}
use Rattle.dory_base.specs.Dims.{Dims}
use Rattle.dory_base.specs.declared.ids.DocId.{DocId}
use Rattle.dory_base.specs.declared.entry.Entry.{Entry}
use Rattle.dory_base.specs.Table.{Slots, has_doc}
use Rattle.dory_base.specs.TableMeaning.{IsSlotOf}
use Rattle.dory_chunks.specs.Parts.{Part, slots_in, parts_with}
use Rattle.dory_chunks.specs.Target.{written, AreApart, IsAlone}
use Rattle.dory_chunks.specs.Versions.{AreTags, AreKept, AreParts, width_of}
use Rattle.dory_chunks.proofs.PartLaws.{written_here, written_there, slots_written, parts_kept, length-slots_in}

few_written : (slots : Slots) (n : ℕ) (x : Option Entry) → length slots ≤ 4096 → n ≤ length slots → n < 4096 → length (written slots n x) ≤ 4096
few_written slots n x few h low =
    elim (cases_Bool (ltb n (length slots))) [
      | inl lower ↦ rw lower (omega (arith, length-set slots n x))
      | inr higher ↦ rw higher (omega (arith, length-append slots (x ∷ []), ltb-false n (length slots) higher))
    ]

pub length_written : (slots : Slots) (n : ℕ) (x : Option Entry) → n ≤ length slots → length (written slots n x) ≡ cond (ltb n (length slots)) (length slots) (n + 1)
length_written slots n x h =
    elim (cases_Bool (ltb n (length slots))) [
      | inl lower ↦ rw lower (length-set slots n x)
      | inr higher ↦ rw higher (omega (arith, h, length-append slots (x ∷ []), ltb-false n (length slots) higher))
    ]

longer : (n count : ℕ) → n ≤ count → cond (ltb n count) count (n + 1) ≤ count + 1
longer n count h =
    elim (cases_Bool (ltb n count)) [
      | inl lower ↦ rw lower (omega arith)
      | inr higher ↦ rw higher (omega arith)
    ]

as_long : (n count : ℕ) → n < count → cond (ltb n count) count (n + 1) ≡ count
as_long n count h =
    elim (cases_Bool (ltb n count)) [
      | inl lower ↦ rw lower refl
      | inr higher ↦ let f : count ≤ n = ltb-false n count higher in absurd (omega arith)
    ]

posts_written : (shape : Dims) (slots : Slots) (n : ℕ) (x : Option Entry) → n ≤ length slots → IsSlotOf shape x → ((k : ℕ) → IsSlotOf shape (get_or slots k None))
    → (k : ℕ) → IsSlotOf shape (get_or (written slots n x) k None)
posts_written shape slots n x h fits all k =
    elim (cases_eq k n) [
      | inl e ↦ subst (IsSlotOf shape) (sym (ap (λ (j : ℕ). get_or (written slots n x) j None) e ∙ written_here slots n x h)) fits
      | inr ne ↦ subst (IsSlotOf shape) (sym (written_there slots n x k h ne)) (all k)
    ]

only_there : (slots : Slots) (n : ℕ) (x : Option Entry) (j : ℕ) (doc : DocId) → IsAlone slots n x → has_doc doc x ≡ true → has_doc doc (get_or slots j None) ≡ true → j ≡ n
only_there slots n None j doc alone own other = absurd (false≢true own)
only_there slots n (Some e) j doc alone own other =
    let same : e.doc.0 ≡ doc.0 = eqb-true e.doc.0 doc.0 own in
    alone j (ap (λ (d : ℕ). has_doc (record { 0 = d }) (get_or slots j None)) same ∙ other)

apart_written : (slots : Slots) (n : ℕ) (x : Option Entry) → n ≤ length slots → IsAlone slots n x → AreApart slots → AreApart (written slots n x)
apart_written slots n x h alone apart = λ i j doc first second.
    let here : get_or (written slots n x) n None ≡ x = written_here slots n x h in
    let own : (k : ℕ) → k ≡ n → has_doc doc (get_or (written slots n x) k None) ≡ true → has_doc doc x ≡ true =
    λ k e such. sym (ap (has_doc doc) (ap (λ (m : ℕ). get_or (written slots n x) m None) e ∙ here)) ∙ such in
    let old : (k : ℕ) → k ≢ n → has_doc doc (get_or (written slots n x) k None) ≡ true → has_doc doc (get_or slots k None) ≡ true =
    λ k ne such. sym (ap (has_doc doc) (written_there slots n x k h ne)) ∙ such in
    elim (cases_eq i n) [
      | inl e ↦ elim (cases_eq j n) [
        | inl f ↦ e ∙ sym f
        | inr g ↦ absurd (g (only_there slots n x j doc alone (own i e first) (old j g second)))
      ]
      | inr f ↦ elim (cases_eq j n) [
        | inl e ↦ absurd (f (only_there slots n x i doc alone (own j e second) (old i f first)))
        | inr g ↦ apart i j doc (old i f first) (old j g second)
      ]
    ]

-- what is true of a version stays true
pub record IsNext (shape : Dims) (slots : Slots) (parts : List Part) (count : ℕ) (tags : List ℕ) : Type 0 where
  pub kept : AreKept shape (slots_in count parts) tags
  pub reach : AreParts (width_of shape) count parts
  pub slots_are : slots_in count parts ≡ slots

pub is_next : (shape : Dims) (parts now : List Part) (count more : ℕ) (tags sums : List ℕ) (n : ℕ) (x : Option Entry)
    → AreKept shape (slots_in count parts) tags → AreParts (width_of shape) count parts
    → n ≤ length (slots_in count parts) → n < 4096 → IsSlotOf shape x → IsAlone (slots_in count parts) n x
    → more ≡ cond (ltb n count) count (n + 1)
    → now ≡ parts_with (width_of shape) parts n x
    → AreTags shape (written (slots_in count parts) n x) sums
    → IsNext shape (written (slots_in count parts) n x) now more sums
is_next shape parts now count more tags sums n x kept reach h low fits alone more_is parts_are are =
    let slots : Slots = slots_in count parts in
    let all : length slots ≡ count = length-slots_in count parts in
    let place : n ≤ count = omega (arith, all) in
    let long : length (written slots n x) ≡ more = length_written slots n x h ∙ ap (λ (k : ℕ). cond (ltb n k) k (n + 1)) all ∙ sym more_is in
    let slots_are : slots_in more now ≡ written slots n x =
    ap (slots_in more) parts_are ∙ slots_written (width_of shape) count more parts n x reach place long in
    let few : more ≤ count + 1 = omega (arith, more_is, longer n count place) in
    let same : n < count → more ≡ count = λ near. more_is ∙ as_long n count near in
    let after : AreKept shape (written slots n x) sums = record {
      dims = kept.dims;
      few = few_written slots n x kept.few h low;
      posts = posts_written shape slots n x h fits kept.posts;
      apart = apart_written slots n x h alone kept.apart;
      sums = are;
    } in
    record {
      kept = subst (λ (s : Slots). AreKept shape s sums) (sym slots_are) after;
      reach = subst (AreParts (width_of shape) more) (sym parts_are) (parts_kept (width_of shape) count more parts n x reach place few same);
      slots_are = slots_are;
    }
