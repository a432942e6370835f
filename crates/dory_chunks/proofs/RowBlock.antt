-- The rows of a chunk in one block: what a write to one of them leaves.
use Rattle.std.proofs.Common.{◌≡◌, ℕ, zero, suc, ◌+◌, ◌-◌, ◌*◌, ◌<◌, ◌≤◌, inl, inr, List, [], ◌∷◌, ◌++◌, length, map, take, drop, set, get_or, Some, None, sym, ap, ◌∙◌, subst, arith, length-append}
use Rattle.std.proofs.lemmas.Bool.{cases_eq, cases_lt}
use Rattle.std.proofs.lemmas.List.{length-take, length-drop, get_or-set_same, get_or-set_other, length-set}
use Rattle.std.proofs.lemmas.Slice.{between_is, take-put_mid_below, drop-put_mid}
use Rattle.std.proofs.Math.Seq.{take-append_seam}
use Rattle.std.proofs.Math.Nat.{mul-le-mul_right}
use Rattle.std.specs.List.{slice_range}
use borrow.Rule.Slice.PartMut.{put_mid, post_of}
use Rattle.dory_base.specs.declared.entry.Entry.{Entry}
use Rattle.dory_base.specs.Table.{Slots}
use Rattle.dory_chunks.specs.Parts.{ShowsSlot, row_in, IsChunk}

pub image_at : {A B : Type 0} (f : A → B) (xs : List A) (i : ℕ) (x : A) (d : B) → i < length xs → x ≡ get_or xs i x → get_or (map f xs) i d ≡ f x
image_at f [] i x d h read = absurd (omega arith)
image_at f (y ∷ ys) zero x d h read = ap f (sym read)
image_at f (y ∷ ys) (suc i) x d h read = image_at f ys i x d (omega arith) read

pub length-written : (xs ys : List ℕ) (s k : ℕ) → s + k ≤ length xs → length ys ≡ k → length (put_mid s k xs ys) ≡ length xs
length-written xs ys s k h e =
    omega (arith, length-append (take s xs) (ys ++ post_of s k xs), length-append ys (post_of s k xs), length-take s xs, length-drop s xs, length-drop k (drop s xs))

-- a list of the old length, of which nothing follows
pub cut_off : (xs ys : List ℕ) (s k n : ℕ) → n ≡ length xs → s + k ≤ length xs → length ys ≡ k
    → take n (put_mid s k xs ys ++ drop (length (put_mid s k xs ys)) xs) ≡ put_mid s k xs ys
cut_off xs ys s k n long h e =
    let same : n ≡ length (put_mid s k xs ys) = long ∙ sym (length-written xs ys s k h e) in
    ap (λ (m : ℕ). take m (put_mid s k xs ys ++ drop (length (put_mid s k xs ys)) xs)) same
    ∙ take-append_seam (put_mid s k xs ys) (drop (length (put_mid s k xs ys)) xs)

pub written_below : (xs ys : List ℕ) (s k a e : ℕ) → s + k ≤ length xs → e ≤ s → slice_range (put_mid s k xs ys) a e ≡ slice_range xs a e
written_below xs ys s k a e h low =
    let inside : s ≤ length xs = omega arith in
    between_is (put_mid s k xs ys) a e ∙ ap (drop a) (take-put_mid_below s k xs ys e low inside) ∙ sym (between_is xs a e)

pub written_above : (xs ys : List ℕ) (s k a e : ℕ) → s + k ≤ length xs → length ys ≡ k → s + k ≤ a → slice_range (put_mid s k xs ys) a e ≡ slice_range xs a e
written_above xs ys s k a e h same high =
    let inside : s ≤ length xs = omega arith in
    ap (take (e - a)) (drop-put_mid s k xs ys a high inside same)

mul_more : (k w : ℕ) → (k + 1) * w ≡ k * w + w
mul_more k w = omega arith

next_start : (k w : ℕ) → suc k * w ≡ k * w + w
next_start k w = let e : suc k ≡ k + 1 = omega arith in ap (λ (n : ℕ). n * w) e ∙ mul_more k w

-- a block with another row in a live slot
pub put_live : (w : ℕ) (slots : Slots) (rows now : List ℕ) (place start : ℕ) (e : Entry) (words : List ℕ) → IsChunk w slots rows → place < 64
    → start ≡ place * w → length words ≡ w → ShowsSlot words (Some e) → length now ≡ length rows
    → slice_range now start (start + length words) ≡ words
    → ((a b : ℕ) → b ≤ start → slice_range now a b ≡ slice_range rows a b)
    → ((a b : ℕ) → start + length words ≤ a → slice_range now a b ≡ slice_range rows a b)
    → IsChunk w (set slots place (Some e)) now
put_live w slots rows now place start e words chunk h begins wide shows same there below above =
    let inside : place < length slots = omega (arith, chunk.full) in
    record {
      full = length-set slots place (Some e) ∙ chunk.full;
      narrow = chunk.narrow;
      block = same ∙ chunk.block;
      shown = λ k near.
          elim (cases_eq k place) [
            | inl is ↦
                let words_are : row_in w now k ≡ words =
                ap (λ (i : ℕ). row_in w now i) is ∙ ap (λ (s : ℕ). slice_range now s (s + w)) (sym begins) ∙ ap (λ (n : ℕ). slice_range now start (start + n)) (sym wide) ∙ there in
                let slot_is : get_or (set slots place (Some e)) k None ≡ Some e =
                ap (λ (i : ℕ). get_or (set slots place (Some e)) i None) is ∙ get_or-set_same slots place (Some e) None inside in
                subst (λ (ws : List ℕ). ShowsSlot ws (get_or (set slots place (Some e)) k None)) (sym words_are) (subst (ShowsSlot words) (sym slot_is) shows)
            | inr ne ↦
                let slot_is : get_or (set slots place (Some e)) k None ≡ get_or slots k None = get_or-set_other slots place k (Some e) None ne in
                let words_are : row_in w now k ≡ row_in w rows k =
                elim (cases_lt k place) [
                  | inl low ↦
                      let far : suc k * w ≤ place * w = mul-le-mul_right w low in
                      let under : k * w + w ≤ start = omega (arith, far, next_start k w, begins) in
                      below (k * w) (k * w + w) under
                  | inr high ↦
                      let apart : suc place ≤ k = omega (arith, ne) in
                      let far : suc place * w ≤ k * w = mul-le-mul_right w apart in
                      let over : start + length words ≤ k * w = omega (arith, far, next_start place w, begins, wide) in
                      above (k * w) (k * w + w) over
                ] in
                subst (λ (ws : List ℕ). ShowsSlot ws (get_or (set slots place (Some e)) k None)) (sym words_are) (subst (ShowsSlot (row_in w rows k)) (sym slot_is) (chunk.shown k near))
          ];
    }

-- the same block, where a slot is emptied
pub put_empty : (w : ℕ) (slots : Slots) (rows : List ℕ) (place : ℕ) → IsChunk w slots rows → place < 64 → IsChunk w (set slots place None) rows
put_empty w slots rows place chunk h =
    let inside : place < length slots = omega (arith, chunk.full) in
    record {
      full = length-set slots place None ∙ chunk.full;
      narrow = chunk.narrow;
      block = chunk.block;
      shown = λ k near.
          elim (cases_eq k place) [
            | inl is ↦
                let slot_is : get_or (set slots place None) k None ≡ None = ap (λ (i : ℕ). get_or (set slots place None) i None) is ∙ get_or-set_same slots place None None inside in
                subst (ShowsSlot (row_in w rows k)) (sym slot_is) tt
            | inr ne ↦ subst (ShowsSlot (row_in w rows k)) (sym (get_or-set_other slots place k None None ne)) (chunk.shown k near)
          ];
    }
