-- The tag of a sum, column by column.
use Rattle.std.proofs.Common.{◌≡◌, ℕ, zero, suc, ◌+◌, ◌<◌, Bool, true, false, cond, List, [], ◌∷◌, ◌++◌, length, map, take, get_or, bit_xor, refl, sym, ap, ◌∙◌, arith}
use Rattle.std.specs.List.{flat_map}
use Rattle.std.specs.Int.Bits.{xor_assoc, xor_zero_l, xor_zero_r}
use Rattle.std.proofs.lemmas.Nat.{xor_comm}
use Rattle.dory_base.specs.Sum.{selected, tags_of, xor_all}
use Rattle.dory_base.specs.Table.{Live}

pub xor_all-append : (xs ys : List ℕ) → xor_all (xs ++ ys) ≡ bit_xor (xor_all xs) (xor_all ys)
xor_all-append [] ys = sym (xor_zero_l (xor_all ys))
xor_all-append (x ∷ xs) ys = ap (bit_xor x) (xor_all-append xs ys) ∙ sym (xor_assoc x (xor_all xs) (xor_all ys))

-- the middle two change places
pub swap_middle : (a b c d : ℕ) → bit_xor (bit_xor a b) (bit_xor c d) ≡ bit_xor (bit_xor a c) (bit_xor b d)
swap_middle a b c d =
    xor_assoc a b (bit_xor c d)
    ∙ ap (bit_xor a) (sym (xor_assoc b c d) ∙ ap (λ x. bit_xor x d) (xor_comm b c) ∙ xor_assoc c b d)
    ∙ sym (xor_assoc a c (bit_xor b d))

both_or_none : (b : Bool) (x y : ℕ) → bit_xor (cond b x 0) (cond b y 0) ≡ cond b (bit_xor x y) 0
both_or_none true x y = refl
both_or_none false x y = xor_zero_l 0

none : (b : Bool) → ◌≡◌ {A = ℕ} 0 (cond b 0 0)
none true = refl
none false = refl

-- one column more of one row
row_more : (s : List Bool) (ts : List ℕ) (j : ℕ) → j < length s
    → xor_all (selected (take (suc j) s) ts) ≡ bit_xor (xor_all (selected (take j s) ts)) (cond (get_or s j false) (get_or ts j 0) 0)
row_more [] ts j h = absurd (omega arith)
row_more (b ∷ s) [] zero h = none b ∙ sym (xor_zero_l (cond b 0 0))
row_more (b ∷ s) [] (suc j) h = none (get_or s j false) ∙ sym (xor_zero_l (cond (get_or s j false) 0 0))
row_more (true ∷ s) (t ∷ ts) zero h = xor_zero_r t ∙ sym (xor_zero_l t)
row_more (false ∷ s) (t ∷ ts) zero h = sym (xor_zero_l 0)
row_more (true ∷ s) (t ∷ ts) (suc j) h = ap (bit_xor t) (row_more s ts j (omega arith)) ∙ sym (xor_assoc t (xor_all (selected (take j s) ts)) (cond (get_or s j false) (get_or ts j 0) 0))
row_more (false ∷ s) (t ∷ ts) (suc j) h = row_more s ts j (omega arith)

abbrev pub tag_of : List Bool → List Live → ℕ
tag_of s ls = xor_all (flat_map (λ (l : Live). selected s (tags_of l.entry.change)) ls)

abbrev pub column_of : ℕ → List Live → ℕ
column_of j ls = xor_all (map (λ (l : Live). get_or (tags_of l.entry.change) j 0) ls)

-- one column more of all rows
column_more : (s : List Bool) (ls : List Live) (j : ℕ) → j < length s → tag_of (take (suc j) s) ls ≡ bit_xor (tag_of (take j s) ls) (cond (get_or s j false) (column_of j ls) 0)
column_more s [] j h = none (get_or s j false) ∙ sym (xor_zero_l (cond (get_or s j false) 0 0))
column_more s (l ∷ ls) j h =
    let b : Bool = get_or s j false in
    let ts : List ℕ = tags_of l.entry.change in
    xor_all-append (selected (take (suc j) s) ts) (flat_map (λ (l : Live). selected (take (suc j) s) (tags_of l.entry.change)) ls)
    ∙ (λ i. bit_xor (row_more s ts j h i) (column_more s ls j h i))
    ∙ swap_middle (xor_all (selected (take j s) ts)) (cond b (get_or ts j 0) 0) (tag_of (take j s) ls) (cond b (column_of j ls) 0)
    ∙ (λ i. bit_xor (sym (xor_all-append (selected (take j s) ts) (flat_map (λ (l : Live). selected (take j s) (tags_of l.entry.change)) ls)) i) (both_or_none b (get_or ts j 0) (column_of j ls) i))

pub selected_more : (s : List Bool) (ls : List Live) (j : ℕ) → j < length s → get_or s j false ≡ true → tag_of (take (j + 1) s) ls ≡ bit_xor (tag_of (take j s) ls) (column_of j ls)
selected_more s ls j h is =
    let e : j + 1 ≡ suc j = omega arith in
    ap (λ (k : ℕ). tag_of (take k s) ls) e ∙ column_more s ls j h ∙ ap (λ (b : Bool). bit_xor (tag_of (take j s) ls) (cond b (column_of j ls) 0)) is

pub passed_more : (s : List Bool) (ls : List Live) (j : ℕ) → j < length s → get_or s j false ≡ false → tag_of (take (j + 1) s) ls ≡ tag_of (take j s) ls
passed_more s ls j h is =
    let e : j + 1 ≡ suc j = omega arith in
    ap (λ (k : ℕ). tag_of (take k s) ls) e ∙ column_more s ls j h ∙ ap (λ (b : Bool). bit_xor (tag_of (take j s) ls) (cond b (column_of j ls) 0)) is
    ∙ xor_zero_r (tag_of (take j s) ls)

pub selected_none : (ls : List Live) → tag_of [] ls ≡ 0
selected_none [] = refl
selected_none (l ∷ ls) = selected_none ls
