-- A reply that passes the tags beside an honest one is honest and shows the cells, or is a forgery.
use Rattle.std.proofs.Common.{◌≡◌, ℕ, ◌<◌, Bool, true, false, List, [], ◌∷◌, length, map, get_or, refl, ap, sym, ◌∙◌, arith, cond, subst, inl, inr, ◌⊎◌, ⊎_elim, ne_eqb, eq-eqb}
use Rattle.std.specs.Prelude.{bit_xor}
use Rattle.std.specs.List.{flat_map, AllByRecursion, AllZip}
use Rattle.std.specs.Int.Bits.{xor_assoc, xor_self, xor_zero_l, xor_zero_r}
use Rattle.std.proofs.lemmas.List.{length-map}
use Rattle.std.proofs.lemmas.Nat.{xor_comm}
use Rattle.dory_base.specs.Xor.{xor}
use Rattle.dory_base.specs.PointPair.{IsPointPair}
use Rattle.dory_base.specs.declared.found.Place.{Place}
use Rattle.dory_base.specs.declared.found.Sum.{Sum}
use Rattle.dory_base.specs.Table.{Slots, Live, live_of, place_of, manifest_of}
use Rattle.dory_base.specs.Sum.{row_of, tags_of, selected, parity, xor_all, sum_of}
use Rattle.dory_base.proofs.Selected.{xor_all-append, swap_middle}
use Rattle.dory_verify.specs.SideBySide.{IsTagged, cells_at, AddUp, ShowsCells, Both, other_of, HasPointPair, IsChecked, IsShown}
use Rattle.dory_verify.specs.Tags.{xor_bits, line_tags}
use Rattle.dory_verify.specs.Forgery.{Probe, flips_of, both_tags, IsHonest, flips, IsShifted, SomeFlip, IsForgeryOf}
use Rattle.dory_verify.proofs.TagLaws.{DifferAt, cancel, tags_differ, point_selected, point_parity, bit_cancel}

abbrev places : List Live → List Place
places ls = map place_of ls

abbrev bits_by : List Live → List Bool → List Bool
bits_by ls s = map (λ (l : Live). parity s (row_of l.entry.change)) ls

abbrev tag_by : List Live → List Bool → ℕ
tag_by ls s = xor_all (flat_map (λ (l : Live). selected s (tags_of l.entry.change)) ls)

bits_point : (tag : ℕ → Place → Bool → ℕ) (m : ℕ) (us vs : List Bool) (c : ℕ) (ls : List Live) → AllByRecursion (IsTagged tag m) ls → length us ≡ m → length vs ≡ m → c < m → DifferAt us vs c
    → xor_bits (bits_by ls us) (bits_by ls vs) ≡ cells_at c ls
bits_point tag m us vs c [] all p q l h = refl
bits_point tag m us vs c (x ∷ ls) all p q l h =
    ap (λ b. b ∷ xor_bits (bits_by ls us) (bits_by ls vs)) (point_parity us vs (row_of x.entry.change) c (p ∙ sym all.0.cells) (q ∙ sym all.0.cells) (subst (λ (n : ℕ). c < n) (sym all.0.cells) l) h)
    ∙ ap (λ bs. get_or (row_of x.entry.change) c false ∷ bs) (bits_point tag m us vs c ls all.1 p q l h)

tags_point : (tag : ℕ → Place → Bool → ℕ) (m : ℕ) (us vs : List Bool) (c : ℕ) (ls : List Live) → AllByRecursion (IsTagged tag m) ls → length us ≡ m → length vs ≡ m → c < m → DifferAt us vs c
    → bit_xor (tag_by ls us) (tag_by ls vs) ≡ xor_all (line_tags (tag c) (places ls) (cells_at c ls))
tags_point tag m us vs c [] all p q l h = xor_zero_l 0
tags_point tag m us vs c (x ∷ ls) all p q l h =
    (λ i. bit_xor (xor_all-append (selected us (tags_of x.entry.change)) (flat_map (λ (y : Live). selected us (tags_of y.entry.change)) ls) i) (xor_all-append (selected vs (tags_of x.entry.change)) (flat_map (λ (y : Live). selected vs (tags_of y.entry.change)) ls) i))
    ∙ swap_middle (xor_all (selected us (tags_of x.entry.change))) (tag_by ls us) (xor_all (selected vs (tags_of x.entry.change))) (tag_by ls vs)
    ∙ ap (λ t. bit_xor t (bit_xor (tag_by ls us) (tag_by ls vs))) (point_selected us vs (tags_of x.entry.change) c (p ∙ sym all.0.tags) (q ∙ sym all.0.tags) (subst (λ (n : ℕ). c < n) (sym all.0.tags) l) h ∙ all.0.each c l)
    ∙ ap (bit_xor (tag c (place_of x) (get_or (row_of x.entry.change) c false))) (tags_point tag m us vs c ls all.1 p q l h)

flips_cancel : (ls : List Place) (hs us vs : List Bool) → length hs ≡ length ls → length us ≡ length ls → length vs ≡ length ls → flips_of ls (xor_bits hs us) (xor_bits hs vs) ≡ flips_of ls us vs
flips_cancel [] hs us vs p q r = refl
flips_cancel (l ∷ ls) [] us vs p q r = absurd (omega arith)
flips_cancel (l ∷ ls) (h ∷ hs) [] vs p q r = absurd (omega arith)
flips_cancel (l ∷ ls) (h ∷ hs) (u ∷ us) [] p q r = absurd (omega arith)
flips_cancel (l ∷ ls) (h ∷ hs) (u ∷ us) (v ∷ vs) p q r =
    ap (λ b. cond b (l ∷ flips_of ls (xor_bits hs us) (xor_bits hs vs)) (flips_of ls (xor_bits hs us) (xor_bits hs vs))) (bit_cancel h u v)
    ∙ ap (λ fs. cond (xor u v) (l ∷ fs) fs) (flips_cancel ls hs us vs (omega arith) (omega arith) (omega arith))

pub length-xor : (us vs : List Bool) → length us ≡ length vs → length (xor_bits us vs) ≡ length us
length-xor [] vs e = refl
length-xor (u ∷ us) [] e = absurd (omega arith)
length-xor (u ∷ us) (v ∷ vs) e = omega (arith, length-xor us vs (omega arith))

pair_differs : (m c : ℕ) (us vs : List Bool) → IsPointPair m c us vs → c < m → DifferAt us vs c
pair_differs m c us vs is l = record {
  here = is.differ c l ∙ eq-eqb c c refl;
  elsewhere = λ j h n. is.differ j (omega (arith, is.lead_has)) ∙ ne_eqb j c n;
}

length-bits : (ls : List Live) (s : List Bool) → length (bits_by ls s) ≡ length (places ls)
length-bits ls s = length-map ls _ ∙ sym (length-map ls _)

-- the honest sums of a point pair show the cells of its column
bits_show : (tag : ℕ → Place → Bool → ℕ) (m c : ℕ) (slots : Slots) (us vs : List Bool) → AllByRecursion (IsTagged tag m) (live_of slots) → c < m → IsPointPair m c us vs → ShowsCells slots c (sum_of slots us) (sum_of slots vs)
bits_show tag m c slots us vs all l pair = bits_point tag m us vs c (live_of slots) all pair.lead_has pair.follow_has l (pair_differs m c us vs pair l)

-- and their tags add up
pub sums_add : (tag : ℕ → Place → Bool → ℕ) (m c : ℕ) (slots : Slots) (us vs : List Bool) → AllByRecursion (IsTagged tag m) (live_of slots) → c < m → IsPointPair m c us vs → AddUp tag slots c (sum_of slots us) (sum_of slots vs)
sums_add tag m c slots us vs all l pair =
    tags_point tag m us vs c (live_of slots) all pair.lead_has pair.follow_has l (pair_differs m c us vs pair l)
    ∙ ap (λ (bs : List Bool). xor_all (line_tags (tag c) (places (live_of slots)) bs)) (sym (bits_show tag m c slots us vs all l pair))

-- the tags of the lines that two sums show beside mine differ by both tags of each line that one of them flips
lines_differ : (tag : ℕ → Place → Bool → ℕ) (c : ℕ) (slots : Slots) (mine : List Bool) (p : Probe) (given : Sum) → length given.bits ≡ length (manifest_of slots)
    → bit_xor (xor_all (line_tags (tag c) (manifest_of slots) (xor_bits (sum_of slots mine).bits given.bits))) (xor_all (line_tags (tag c) (manifest_of slots) (xor_bits (sum_of slots mine).bits (sum_of slots p.shares).bits)))
    ≡ xor_all (map (both_tags (tag c)) (flips slots p given))
lines_differ tag c slots mine p given n =
    let ls : List Live = live_of slots in
    let us : List Bool = bits_by ls mine in
    let vs : List Bool = bits_by ls p.shares in
    tags_differ (tag c) (places ls) (xor_bits us given.bits) (xor_bits us vs)
    (length-xor us given.bits (length-bits ls mine ∙ sym n) ∙ length-bits ls mine)
    (length-xor us vs (length-bits ls mine ∙ sym (length-bits ls p.shares)) ∙ length-bits ls mine)
    ∙ ap (λ (fs : List Place). xor_all (map (both_tags (tag c)) fs)) (flips_cancel (places ls) us given.bits vs (length-bits ls mine) n (length-bits ls p.shares))

-- a sum whose tags add up beside an honest one is shifted by what it flips
pub shifted : (tag : ℕ → Place → Bool → ℕ) (m c : ℕ) (slots : Slots) (mine : List Bool) (p : Probe) (given : Sum)
    → AllByRecursion (IsTagged tag m) (live_of slots) → p.column ≡ c → c < m → IsPointPair m c mine p.shares
    → length given.bits ≡ length (manifest_of slots) → AddUp tag slots c (sum_of slots mine) given → IsShifted tag slots p given
shifted tag m c slots mine p given all is l pair n adds = subst (λ (k : ℕ). shift_is k) (sym is) whole
  where
    shift_is : ℕ → Type 0
    shift_is k = bit_xor given.tag (tag_by (live_of slots) p.shares) ≡ xor_all (map (both_tags (tag k)) (flips slots p given))

    whole : shift_is c
    whole =
        sym (cancel (tag_by (live_of slots) mine) given.tag (tag_by (live_of slots) p.shares))
        ∙ (λ i. bit_xor (adds i) (sums_add tag m c slots mine p.shares all l pair i))
        ∙ lines_differ tag c slots mine p given n

-- and its tags add up where it is shifted so
pub adds_where_shifted : (tag : ℕ → Place → Bool → ℕ) (m c : ℕ) (slots : Slots) (mine : List Bool) (p : Probe) (given : Sum)
    → AllByRecursion (IsTagged tag m) (live_of slots) → p.column ≡ c → c < m → IsPointPair m c mine p.shares
    → length given.bits ≡ length (manifest_of slots) → IsShifted tag slots p given → AddUp tag slots c (sum_of slots mine) given
adds_where_shifted tag m c slots mine p given all is l pair n shift =
    let a : ℕ = tag_by (live_of slots) mine in
    let w : ℕ = tag_by (live_of slots) p.shares in
    let x : ℕ = xor_all (line_tags (tag c) (manifest_of slots) (xor_bits (sum_of slots mine).bits given.bits)) in
    let y : ℕ = xor_all (line_tags (tag c) (manifest_of slots) (xor_bits (sum_of slots mine).bits (sum_of slots p.shares).bits)) in
    let z : ℕ = xor_all (map (both_tags (tag c)) (flips slots p given)) in
    let here : bit_xor given.tag w ≡ z = subst (λ (k : ℕ). bit_xor given.tag w ≡ xor_all (map (both_tags (tag k)) (flips slots p given))) is shift in
    let pair_adds : bit_xor a w ≡ y = sums_add tag m c slots mine p.shares all l pair in
    let apart : bit_xor x y ≡ z = lines_differ tag c slots mine p given n in
    xor_comm a given.tag
    ∙ sym (xor_zero_r (bit_xor given.tag a))
    ∙ ap (bit_xor (bit_xor given.tag a)) (sym (xor_self w))
    ∙ swap_middle given.tag a w w
    ∙ (λ i. bit_xor (here i) (pair_adds i))
    ∙ ap (λ (k : ℕ). bit_xor k y) (sym apart)
    ∙ xor_assoc x y y
    ∙ ap (bit_xor x) (xor_self y)
    ∙ xor_zero_r x

-- where nothing is flipped the two lists of bits are one
same_bits : (ls : List Place) (us vs : List Bool) → length us ≡ length ls → length vs ≡ length ls → flips_of ls us vs ≡ [] → us ≡ vs
same_bits [] [] [] p q e = refl
same_bits [] [] (v ∷ vs) p q e = absurd (omega arith)
same_bits [] (u ∷ us) vs p q e = absurd (omega arith)
same_bits (l ∷ ls) [] vs p q e = absurd (omega arith)
same_bits (l ∷ ls) (u ∷ us) [] p q e = absurd (omega arith)
same_bits (l ∷ ls) (true ∷ us) (true ∷ vs) p q e = ap (λ bs. true ∷ bs) (same_bits ls us vs (omega arith) (omega arith) e)
same_bits (l ∷ ls) (false ∷ us) (false ∷ vs) p q e = ap (λ bs. false ∷ bs) (same_bits ls us vs (omega arith) (omega arith) e)
same_bits (l ∷ ls) (true ∷ us) (false ∷ vs) p q e = absurd (cc)
same_bits (l ∷ ls) (false ∷ us) (true ∷ vs) p q e = absurd (cc)

-- a sum that flips no line is the honest one
unflipped : (tag : ℕ → Place → Bool → ℕ) (m c : ℕ) (slots : Slots) (mine : List Bool) (p : Probe) (given : Sum)
    → AllByRecursion (IsTagged tag m) (live_of slots) → p.column ≡ c → c < m → IsPointPair m c mine p.shares
    → length given.bits ≡ length (manifest_of slots) → AddUp tag slots c (sum_of slots mine) given → flips slots p given ≡ [] → IsHonest slots p given
unflipped tag m c slots mine p given all is l pair n adds none =
    let would : Sum = sum_of slots p.shares in
    let shift : bit_xor given.tag would.tag ≡ 0 =
    shifted tag m c slots mine p given all is l pair n adds ∙ ap (λ (ls : List Place). xor_all (map (both_tags (tag p.column)) ls)) none in
    let tags : given.tag ≡ would.tag =
    sym (xor_zero_r given.tag)
    ∙ ap (bit_xor given.tag) (sym (xor_self would.tag))
    ∙ sym (xor_assoc given.tag would.tag would.tag)
    ∙ ap (λ (k : ℕ). bit_xor k would.tag) shift
    ∙ xor_zero_l would.tag in
    let bits : given.bits ≡ would.bits = same_bits (places (live_of slots)) given.bits would.bits n (length-bits (live_of slots) p.shares) none in
    (λ i. record { bits = bits i; tag = tags i })

-- honest sums show the cells
shows_all : (tag : ℕ → Place → Bool → ℕ) (m : ℕ) (slots : Slots) (bs : List Both) (sums : List Sum) → AllByRecursion (IsTagged tag m) (live_of slots) → AllByRecursion (HasPointPair m) bs
    → AllZip (IsHonest slots) (map other_of bs) sums → AllZip (IsShown slots) bs sums
shows_all tag m slots [] [] sealed all honest = tt
shows_all tag m slots [] (s ∷ sums) sealed all honest = absurd honest
shows_all tag m slots (b ∷ bs) [] sealed all honest = absurd honest
shows_all tag m slots (b ∷ bs) (s ∷ sums) sealed all honest = (
  ap (λ (x : Sum). xor_bits (bits_by (live_of slots) b.mine) x.bits) honest.0 ∙ bits_show tag m b.column slots b.mine b.other sealed all.0.within all.0.pair,
  shows_all tag m slots bs sums sealed all.1 honest.1,
)

pub all_shifted : (tag : ℕ → Place → Bool → ℕ) (m : ℕ) (slots : Slots) (bs : List Both) (sums : List Sum) → AllByRecursion (IsTagged tag m) (live_of slots) → AllByRecursion (HasPointPair m) bs → AllZip (IsChecked tag slots) bs sums
    → AllZip (IsShifted tag slots) (map other_of bs) sums
all_shifted tag m slots [] [] sealed all checked = tt
all_shifted tag m slots [] (s ∷ sums) sealed all checked = absurd checked
all_shifted tag m slots (b ∷ bs) [] sealed all checked = absurd checked
all_shifted tag m slots (b ∷ bs) (s ∷ sums) sealed all checked =
    (shifted tag m b.column slots b.mine (other_of b) s sealed refl all.0.within all.0.pair checked.0.count checked.0.adds, all_shifted tag m slots bs sums sealed all.1 checked.1)

flips_or_honest : (tag : ℕ → Place → Bool → ℕ) (m : ℕ) (slots : Slots) (bs : List Both) (sums : List Sum) → AllByRecursion (IsTagged tag m) (live_of slots) → AllByRecursion (HasPointPair m) bs → AllZip (IsChecked tag slots) bs sums
    → SomeFlip slots (map other_of bs) sums ⊎ AllZip (IsHonest slots) (map other_of bs) sums
flips_or_honest tag m slots [] [] sealed all checked = inr tt
flips_or_honest tag m slots [] (s ∷ sums) sealed all checked = absurd checked
flips_or_honest tag m slots (b ∷ bs) [] sealed all checked = absurd checked
flips_or_honest tag m slots (b ∷ bs) (s ∷ sums) sealed all checked = by (flips slots (other_of b) s) refl (flips_or_honest tag m slots bs sums sealed all.1 checked.1)
  where
    by : (fs : List Place) → flips slots (other_of b) s ≡ fs → SomeFlip slots (map other_of bs) sums ⊎ AllZip (IsHonest slots) (map other_of bs) sums
        → SomeFlip slots (map other_of (b ∷ bs)) (s ∷ sums) ⊎ AllZip (IsHonest slots) (map other_of (b ∷ bs)) (s ∷ sums)
    by (l ∷ more) e rest = inl (inl (l, more, e))
    by [] e (inl some) = inl (inr some)
    by [] e (inr rest) = inr (unflipped tag m b.column slots b.mine (other_of b) s sealed refl all.0.within all.0.pair checked.0.count checked.0.adds e, rest)

-- the law of verification: beside an honest domain, sums whose tags add up at every probe are what an honest domain would
-- have answered, and the two show the cells; or they are the forgery
pub verified : (tag : ℕ → Place → Bool → ℕ) (m : ℕ) (slots : Slots) (bs : List Both) (sums : List Sum) → AllByRecursion (IsTagged tag m) (live_of slots) → AllByRecursion (HasPointPair m) bs → AllZip (IsChecked tag slots) bs sums
    → IsForgeryOf tag slots (map other_of bs) sums ⊎ (AllZip (IsHonest slots) (map other_of bs) sums × AllZip (IsShown slots) bs sums)
verified tag m slots bs sums sealed all checked =
    ⊎_elim
    (λ (s : SomeFlip slots (map other_of bs) sums). inl (record { some = s; each = all_shifted tag m slots bs sums sealed all checked }))
    (λ (h : AllZip (IsHonest slots) (map other_of bs) sums). inr (h, shows_all tag m slots bs sums sealed all h))
    (flips_or_honest tag m slots bs sums sealed all checked)
