-- What holds of every table, whatever keeps it.
use Rattle.std.proofs.Common.{◌≡◌, ℕ, zero, suc, ◌+◌, ◌<◌, ◌≤◌, Bool, true, false, cond, List, [], ◌∷◌, ◌++◌, length, map, take, set, get_or, bit_xor, Option, Some, None, is_none, refl, sym, ap, ◌∙◌, subst, arith, ltb, position, length-append}
use Rattle.std.specs.List.Sorted.{IsStrictlyIncreasing}
use Rattle.std.proofs.lemmas.List.{take_more, length-set, length-take, get_or_default, map-append}
use Rattle.std.proofs.lemmas.List.Sums.{fold-append}
use borrow.Author.Tests.{ltb-true}
use Rattle.dory_base.specs.Dims.{Dims, IsDims}
use Rattle.dory_base.specs.History.{IsChangeOf}
use Rattle.dory_base.specs.declared.ids.DocId.{DocId}
use Rattle.dory_base.specs.declared.entry.Entry.{Entry}
use Rattle.dory_base.specs.declared.entry.Change.{Change}
use Rattle.dory_base.specs.declared.entry.Change.TheVariants.{Post, Remove}
use Rattle.dory_base.specs.declared.found.Place.{Place}
use Rattle.dory_base.specs.Table.{Slots, has_doc, placed, emptied, changed, step, table_of, Live, live_from, live_of, place_of, manifest_of}
use Rattle.dory_base.specs.TableMeaning.{Kept, IsPostedAs, IsSlotOf, IsKept, empty_of, next_of, StandsFor, column_tag_of}
use Rattle.dory_base.specs.Sum.{tags_of, xor_all}
use Rattle.dory_base.proofs.Selected.{xor_all-append}

-- ---- what a table stands for

pub stands_empty : (shape : Dims) → StandsFor (empty_of shape) []
stands_empty shape = refl

pub number_stands : (t : Kept) (entries : List Entry) → StandsFor t entries → t.number ≡ length entries
number_stands t entries stands = ap (λ (k : Kept). k.number) stands

pub slots_stand : (t : Kept) (entries : List Entry) → StandsFor t entries → t.slots ≡ table_of entries
slots_stand t entries stands = ap (λ (k : Kept). k.slots) stands

-- one update more
pub table_of-more : (entries : List Entry) (e : Entry) → table_of (entries ++ e ∷ []) ≡ step (table_of entries) e
table_of-more entries e = fold-append step [] entries (e ∷ [])

pub stands_next : (t : Kept) (e : Entry) (entries : List Entry) → StandsFor t entries → StandsFor (next_of t e) (entries ++ e ∷ [])
stands_next t e entries s =
    let number : t.number + 1 ≡ length (entries ++ e ∷ []) = omega (arith, number_stands t entries s, length-append entries (e ∷ [])) in
    let slots : step t.slots e ≡ table_of (entries ++ e ∷ []) = ap (λ (slots : Slots). step slots e) (slots_stand t entries s) ∙ sym (table_of-more entries e) in
    (λ i. record { shape = t.shape; number = number i; slots = slots i })

-- ---- what a table keeps

set_posts : (shape : Dims) (slots : Slots) (at : ℕ) (x : Option Entry) → IsSlotOf shape x → ((k : ℕ) → IsSlotOf shape (get_or slots k None)) → (k : ℕ) → IsSlotOf shape (get_or (set slots at x) k None)
set_posts shape [] at x h all k = all k
set_posts shape (s ∷ slots) zero x h all zero = h
set_posts shape (s ∷ slots) zero x h all (suc k) = all (suc k)
set_posts shape (s ∷ slots) (suc at) x h all zero = all zero
set_posts shape (s ∷ slots) (suc at) x h all (suc k) = set_posts shape slots at x h (λ j. all (suc j)) k

last_posts : (shape : Dims) (slots : Slots) (x : Option Entry) → IsSlotOf shape x → ((k : ℕ) → IsSlotOf shape (get_or slots k None)) → (k : ℕ) → IsSlotOf shape (get_or (slots ++ x ∷ []) k None)
last_posts shape [] x h all zero = h
last_posts shape [] x h all (suc k) = tt
last_posts shape (s ∷ slots) x h all zero = all zero
last_posts shape (s ∷ slots) x h all (suc k) = last_posts shape slots x h (λ j. all (suc j)) k

emptied_post : (shape : Dims) (doc : DocId) (s : Option Entry) → IsSlotOf shape s → IsSlotOf shape (emptied doc s)
emptied_post shape doc None h = tt
emptied_post shape doc (Some e) h = elim (has_doc doc (Some e)) as (λ (b : Bool). IsSlotOf shape (cond b None (Some e))) [ true ↦ tt | false ↦ h ]

emptied_posts : (shape : Dims) (doc : DocId) (slots : Slots) → ((k : ℕ) → IsSlotOf shape (get_or slots k None)) → (k : ℕ) → IsSlotOf shape (get_or (map (emptied doc) slots) k None)
emptied_posts shape doc [] all k = all k
emptied_posts shape doc (s ∷ slots) all zero = emptied_post shape doc s (all zero)
emptied_posts shape doc (s ∷ slots) all (suc k) = emptied_posts shape doc slots (λ j. all (suc j)) k

length-emptied : (doc : DocId) (slots : Slots) → length (map (emptied doc) slots) ≡ length slots
length-emptied doc [] = refl
length-emptied doc (s ∷ slots) = ap suc (length-emptied doc slots)

-- the slots are few, and each is one of this shape
pub record AreSlots (shape : Dims) (slots : Slots) : Type 0 where
  pub few : length slots ≤ 4096
  pub posts : (k : ℕ) → IsSlotOf shape (get_or slots k None)

grown : (shape : Dims) (slots : Slots) (x : Option Entry) (b : Bool) → ltb (length slots) 4096 ≡ b → IsSlotOf shape x → AreSlots shape slots → AreSlots shape (cond b (slots ++ x ∷ []) slots)
grown shape slots x true is h are =
    let low : length slots < 4096 = ltb-true (length slots) 4096 is in
    record { few = omega (arith, length-append slots (x ∷ [])); posts = last_posts shape slots x h are.posts }
grown shape slots x false is h are = are

set_slots : (shape : Dims) (slots : Slots) (at : ℕ) (x : Option Entry) → IsSlotOf shape x → AreSlots shape slots → AreSlots shape (set slots at x)
set_slots shape slots at x h are = record { few = omega (arith, length-set slots at x, are.few); posts = set_posts shape slots at x h are.posts }

placed_slots : (shape : Dims) (e : Entry) (slots : Slots) (own empty : Option ℕ) → IsSlotOf shape (Some e) → AreSlots shape slots → AreSlots shape (placed e slots own empty)
placed_slots shape e slots (Some at) empty h are = set_slots shape slots at (Some e) h are
placed_slots shape e slots None (Some at) h are = set_slots shape slots at (Some e) h are
placed_slots shape e slots None None h are = grown shape slots (Some e) (ltb (length slots) 4096) refl h are

changed_slots : (shape : Dims) (e : Entry) (slots : Slots) (change : Change) → e.change ≡ change → IsChangeOf shape change → AreSlots shape slots → AreSlots shape (changed e slots change)
changed_slots shape e slots (Post posted row tags) is h are =
    let fits : IsSlotOf shape (Some e) = subst (IsPostedAs shape) (sym is) h in
    placed_slots shape e slots (position (has_doc e.doc) slots) (position is_none slots) fits are
changed_slots shape e slots Remove is h are = record {
  few = omega (arith, length-emptied e.doc slots, are.few);
  posts = emptied_posts shape e.doc slots are.posts;
}

pub kept_empty : (shape : Dims) → IsDims shape → IsKept (empty_of shape)
kept_empty shape dims = record { dims = dims; few = omega arith; posts = λ k. tt }

pub kept_next : (t : Kept) (e : Entry) → IsKept t → IsChangeOf t.shape e.change → IsKept (next_of t e)
kept_next t e kept h =
    let are : AreSlots t.shape (changed e t.slots e.change) = changed_slots t.shape e t.slots e.change refl h (record { few = kept.few; posts = kept.posts }) in
    record { dims = kept.dims; few = are.few; posts = are.posts }

-- ---- the manifest rises

abbrev numbers_from : ℕ → Slots → List ℕ
numbers_from n slots = map (λ (p : Place). p.slot) (map place_of (live_from n slots))

at_least : (n : ℕ) (slots : Slots) (k : ℕ) → k < length (numbers_from n slots) → n ≤ get_or (numbers_from n slots) k 0
at_least n [] k h = absurd (omega arith)
at_least n (None ∷ slots) k h = omega (arith, at_least (n + 1) slots k h)
at_least n (Some e ∷ slots) zero h = omega arith
at_least n (Some e ∷ slots) (suc k) h = omega (arith, at_least (n + 1) slots k (omega arith))

rising_from : (n : ℕ) (slots : Slots) (k : ℕ) → suc k < length (numbers_from n slots) → get_or (numbers_from n slots) k 0 < get_or (numbers_from n slots) (suc k) 0
rising_from n [] k h = absurd (omega arith)
rising_from n (None ∷ slots) k h = rising_from (n + 1) slots k h
rising_from n (Some e ∷ slots) zero h = omega (arith, at_least (n + 1) slots 0 (omega arith))
rising_from n (Some e ∷ slots) (suc k) h = rising_from (n + 1) slots k (omega arith)

pub manifest_rises : (slots : Slots) → IsStrictlyIncreasing (map (λ (p : Place). p.slot) (manifest_of slots))
manifest_rises slots = λ k h.
    let e : k + 1 ≡ suc k = omega arith in
    subst (λ (j : ℕ). get_or (numbers_from 0 slots) k 0 < get_or (numbers_from 0 slots) j 0) (sym e) (rising_from 0 slots k (omega arith))

-- ---- slot by slot

pub live_from-append : (n : ℕ) (xs ys : Slots) → live_from n (xs ++ ys) ≡ live_from n xs ++ live_from (n + length xs) ys
live_from-append n [] ys = let e : n ≡ n + 0 = omega arith in ap (λ (m : ℕ). live_from m ys) e
live_from-append n (None ∷ xs) ys =
    let e : n + 1 + length xs ≡ n + suc (length xs) = omega arith in
    live_from-append (n + 1) xs ys ∙ ap (λ (m : ℕ). live_from (n + 1) xs ++ live_from m ys) e
live_from-append n (Some x ∷ xs) ys =
    let e : n + 1 + length xs ≡ n + suc (length xs) = omega arith in
    ap (λ (ls : List Live). record { slot = n; entry = x } ∷ ls) (live_from-append (n + 1) xs ys ∙ ap (λ (m : ℕ). live_from (n + 1) xs ++ live_from m ys) e)

-- the live slots of a list and of one slot more
pub live_more : (slots : Slots) (i : ℕ) → i < length slots → live_of (take (i + 1) slots) ≡ live_of (take i slots) ++ live_from i (get_or slots i None ∷ [])
live_more slots i h =
    let e : 0 + length (take i slots) ≡ i = omega (arith, length-take i slots) in
    ap live_of (take_more slots i None h)
    ∙ live_from-append 0 (take i slots) (get_or slots i None ∷ [])
    ∙ ap (λ (m : ℕ). live_of (take i slots) ++ live_from m (get_or slots i None ∷ [])) e

pub length-live : (n : ℕ) (slots : Slots) → length (live_from n slots) ≤ length slots
length-live n [] = omega arith
length-live n (None ∷ slots) = omega (arith, length-live (n + 1) slots)
length-live n (Some e ∷ slots) = omega (arith, length-live (n + 1) slots)

-- the manifest of one slot more
pub manifest_more : (slots : Slots) (i : ℕ) → i < length slots → manifest_of (take (i + 1) slots) ≡ manifest_of (take i slots) ++ map place_of (live_from i (get_or slots i None ∷ []))
manifest_more slots i h = ap (map place_of) (live_more slots i h) ∙ map-append place_of (live_of (take i slots)) (live_from i (get_or slots i None ∷ []))

-- ---- the tag of a column

one_slot : (n : ℕ) (s : Option Entry) (column : ℕ)
    → map (λ (l : Live). get_or (tags_of l.entry.change) column 0) (live_from n (s ∷ [])) ≡ map (λ (l : Live). get_or (tags_of l.entry.change) column 0) (live_of (s ∷ []))
one_slot n None column = refl
one_slot n (Some e) column = refl

-- the tag of one slot more
pub column_more : (slots : Slots) (i column : ℕ) (s : Option Entry) → i < length slots → s ≡ get_or slots i s
    → column_tag_of (take (i + 1) slots) column ≡ bit_xor (column_tag_of (take i slots) column) (column_tag_of (s ∷ []) column)
column_more slots i column s h read =
    let f : Live → ℕ = λ l. get_or (tags_of l.entry.change) column 0 in
    ap (λ (ls : List Live). xor_all (map f ls)) (live_more slots i h)
    ∙ ap xor_all (map-append f (live_of (take i slots)) (live_from i (get_or slots i None ∷ [])))
    ∙ xor_all-append (map f (live_of (take i slots))) (map f (live_from i (get_or slots i None ∷ [])))
    ∙ ap (λ (ts : List ℕ). bit_xor (column_tag_of (take i slots) column) (xor_all ts)) (one_slot i (get_or slots i None) column)
    ∙ ap (λ (x : Option Entry). bit_xor (column_tag_of (take i slots) column) (column_tag_of (x ∷ []) column)) (sym (read ∙ get_or_default slots i s None h))
