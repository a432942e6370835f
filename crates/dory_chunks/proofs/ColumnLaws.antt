-- The tag of a column, where one slot changes.
use Rattle.std.proofs.Common.{◌≡◌, ℕ, zero, suc, ◌+◌, ◌/◌, ◌^◌, ◌<◌, ◌≤◌, inl, inr, ltb, List, [], ◌∷◌, ◌++◌, length, map, set, get_or, Option, Some, None, bit_xor, refl, sym, ap, ◌∙◌, arith}
use lib.Bits.{xor_assoc, xor_self, xor_comm, xor_zero_r}
use Rattle.std.proofs.lemmas.Bool.{cases_Bool, cases_eq, ltb-true, ltb-false}
use Rattle.std.proofs.lemmas.List.{get_or_past}
use Rattle.dory_base.specs.Dims.{Dims, IsDims}
use Rattle.dory_base.specs.declared.entry.Entry.{Entry}
use Rattle.dory_base.specs.declared.entry.Change.{Change}
use Rattle.dory_base.specs.declared.entry.Change.TheVariants.{Post, Remove}
use Rattle.dory_base.specs.Sum.{row_of, tags_of, xor_all}
use Rattle.dory_base.specs.Table.{Slots, Live, live_from}
use Rattle.dory_base.specs.TableMeaning.{IsPostedAs, IsSlotOf, column_tag_of}
use Rattle.dory_chunks.specs.Marks.{tag_at, HasTags}
use Rattle.dory_chunks.specs.Parts.{HasWidth}
use Rattle.dory_chunks.specs.Target.{written}
use Rattle.dory_chunks.specs.Versions.{width_of}

tag_in : ℕ → Live → ℕ
tag_in column l = get_or (tags_of l.entry.change) column 0

-- the numbers of slots don't matter
any_number : (n m : ℕ) (slots : Slots) (column : ℕ) → map (λ (l : Live). get_or (tags_of l.entry.change) column 0) (live_from n slots) ≡ map (λ (l : Live). get_or (tags_of l.entry.change) column 0) (live_from m slots)
any_number n m [] column = refl
any_number n m (None ∷ slots) column = any_number (n + 1) (m + 1) slots column
any_number n m (Some e ∷ slots) column = ap (λ (ts : List ℕ). get_or (tags_of e.change) column 0 ∷ ts) (any_number (n + 1) (m + 1) slots column)

xor_zero_left : (a : ℕ) → bit_xor 0 a ≡ a
xor_zero_left a = xor_comm 0 a ∙ xor_zero_r a

first_and_rest : (s : Option Entry) (slots : Slots) (column : ℕ) → column_tag_of (s ∷ slots) column ≡ bit_xor (tag_at s column) (column_tag_of slots column)
first_and_rest None slots column = ap xor_all (any_number 1 0 slots column) ∙ sym (xor_zero_left (column_tag_of slots column))
first_and_rest (Some e) slots column = ap (λ (ts : List ℕ). bit_xor (get_or (tags_of e.change) column 0) (xor_all ts)) (any_number 1 0 slots column)

-- what is taken out and put in
xor_swap : (a b c : ℕ) → bit_xor (bit_xor (bit_xor a b) a) c ≡ bit_xor c b
xor_swap a b c =
    ap (λ (x : ℕ). bit_xor x c) (ap (λ (x : ℕ). bit_xor x a) (xor_comm a b) ∙ xor_assoc b a a ∙ ap (bit_xor b) (xor_self a) ∙ xor_zero_r b) ∙ xor_comm b c

xor_pass : (t b a c : ℕ) → bit_xor (bit_xor (bit_xor t b) a) c ≡ bit_xor t (bit_xor (bit_xor b a) c)
xor_pass t b a c = ap (λ (x : ℕ). bit_xor x c) (xor_assoc t b a) ∙ xor_assoc t (bit_xor b a) c

column_set : (slots : Slots) (n : ℕ) (x : Option Entry) (column : ℕ) → n < length slots
    → column_tag_of (set slots n x) column ≡ bit_xor (bit_xor (column_tag_of slots column) (tag_at (get_or slots n None) column)) (tag_at x column)
column_set [] n x column h = absurd (omega arith)
column_set (s ∷ slots) zero x column h =
    first_and_rest x slots column
    ∙ sym (xor_swap (tag_at s column) (column_tag_of slots column) (tag_at x column))
    ∙ ap (λ (t : ℕ). bit_xor (bit_xor t (tag_at s column)) (tag_at x column)) (sym (first_and_rest s slots column))
column_set (s ∷ slots) (suc n) x column h =
    let k : n < length slots = omega arith in
    first_and_rest s (set slots n x) column
    ∙ ap (bit_xor (tag_at s column)) (column_set slots n x column k)
    ∙ sym (xor_pass (tag_at s column) (column_tag_of slots column) (tag_at (get_or slots n None) column) (tag_at x column))
    ∙ ap (λ (t : ℕ). bit_xor (bit_xor t (tag_at (get_or slots n None) column)) (tag_at x column)) (sym (first_and_rest s slots column))

column_end : (slots : Slots) (x : Option Entry) (column : ℕ) → column_tag_of (slots ++ x ∷ []) column ≡ bit_xor (column_tag_of slots column) (tag_at x column)
column_end [] x column = first_and_rest x [] column ∙ xor_comm (tag_at x column) 0
column_end (s ∷ slots) x column =
    first_and_rest s (slots ++ x ∷ []) column
    ∙ ap (bit_xor (tag_at s column)) (column_end slots x column)
    ∙ sym (xor_assoc (tag_at s column) (column_tag_of slots column) (tag_at x column))
    ∙ ap (λ (t : ℕ). bit_xor t (tag_at x column)) (sym (first_and_rest s slots column))

-- the old tag goes, and the new one comes
pub column_written : (slots : Slots) (n : ℕ) (x : Option Entry) (column : ℕ) → n ≤ length slots
    → column_tag_of (written slots n x) column ≡ bit_xor (bit_xor (column_tag_of slots column) (tag_at (get_or slots n None) column)) (tag_at x column)
column_written slots n x column h =
    elim (cases_Bool (ltb n (length slots))) [
      | inl lower ↦ rw lower (column_set slots n x column (ltb-true n (length slots) lower))
      | inr higher ↦
          let far : length slots ≤ n = ltb-false n (length slots) higher in
          rw higher (column_end slots x column
          ∙ ap (λ (t : ℕ). bit_xor t (tag_at x column)) (sym (xor_zero_r (column_tag_of slots column))
          ∙ ap (λ (s : Option Entry). bit_xor (column_tag_of slots column) (tag_at s column)) (sym (get_or_past slots n None far))))
    ]

-- ---- a slot of a shape

posted_tags : (shape : Dims) (change : Change) → IsPostedAs shape change → length (tags_of change) ≡ 2 ^ shape.depth
posted_tags shape (Post posted row tags) h = h.tags_are
posted_tags shape Remove h = absurd h

pub has_tags : (shape : Dims) (s : Option Entry) → IsSlotOf shape s → HasTags (2 ^ shape.depth) s
has_tags shape None h = tt
has_tags shape (Some e) h = posted_tags shape e.change h

posted_row : (shape : Dims) (change : Change) → IsPostedAs shape change → length (row_of change) ≡ 2 ^ shape.depth
posted_row shape (Post posted row tags) h = h.row
posted_row shape Remove h = absurd h

pub has_width : (shape : Dims) (s : Option Entry) → IsSlotOf shape s → HasWidth (width_of shape) s
has_width shape None h = tt
has_width shape (Some e) h = ap (λ (n : ℕ). (n + 63) / 64) (posted_row shape e.change h)

pub is_narrow : (shape : Dims) → IsDims shape → width_of shape ≤ 32
is_narrow shape dims =
    elim (cases_eq shape.depth 8) [
      | inl a ↦ rw a (omega arith)
      | inr b ↦ elim (cases_eq shape.depth 9) [
        | inl c ↦ rw c (omega arith)
        | inr d ↦ elim (cases_eq shape.depth 10) [
          | inl e ↦ rw e (omega arith)
          | inr f ↦ let g : shape.depth ≡ 11 = omega (arith, dims.low, dims.high, b, d, f) in rw g (omega arith)
        ]
      ]
    ]
