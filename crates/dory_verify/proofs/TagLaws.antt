-- How sums of tags and bits differ where their selectors are a point pair, or their bits differ.
use Rattle.std.proofs.Common.{◌≡◌, ◌≢◌, ℕ, ◌<◌, zero, suc, Bool, true, false, ◌&&◌, List, [], ◌∷◌, length, map, get_or, refl, ap, ◌∙◌, arith}
use Rattle.std.specs.Prelude.{bit_xor}
use Rattle.std.specs.Int.Bits.{xor_assoc, xor_self, xor_zero_l, xor_zero_r}
use Rattle.std.proofs.lemmas.Nat.{xor_comm}
use Rattle.dory_base.specs.Xor.{xor}
use Rattle.dory_base.specs.declared.found.Place.{Place}
use Rattle.dory_base.specs.Sum.{selected, parity, xor_all}
use Rattle.dory_base.proofs.Selected.{swap_middle}
use Rattle.dory_verify.specs.Tags.{line_tags}
use Rattle.dory_verify.specs.Forgery.{flips_of, both_tags}

-- equal heads cancel
pub cancel : (a x y : ℕ) → bit_xor (bit_xor a x) (bit_xor a y) ≡ bit_xor x y
cancel a x y = swap_middle a x a y ∙ ap (λ z. bit_xor z (bit_xor x y)) (xor_self a) ∙ xor_zero_l (bit_xor x y)

-- the tags of two lists of bits differ by the two tags of each flipped line
pub tags_differ : (tag : Place → Bool → ℕ) (ls : List Place) (us vs : List Bool) → length us ≡ length ls → length vs ≡ length ls
    → bit_xor (xor_all (line_tags tag ls us)) (xor_all (line_tags tag ls vs)) ≡ xor_all (map (both_tags tag) (flips_of ls us vs))
tags_differ tag [] us vs p q = xor_zero_l 0
tags_differ tag (l ∷ ls) [] vs p q = absurd (omega arith)
tags_differ tag (l ∷ ls) (a ∷ us) [] p q = absurd (omega arith)
tags_differ tag (l ∷ ls) (true ∷ us) (true ∷ vs) p q = cancel (tag l true) _ _ ∙ tags_differ tag ls us vs (omega arith) (omega arith)
tags_differ tag (l ∷ ls) (false ∷ us) (false ∷ vs) p q = cancel (tag l false) _ _ ∙ tags_differ tag ls us vs (omega arith) (omega arith)
tags_differ tag (l ∷ ls) (true ∷ us) (false ∷ vs) p q =
    swap_middle (tag l true) (xor_all (line_tags tag ls us)) (tag l false) (xor_all (line_tags tag ls vs))
    ∙ ap (λ z. bit_xor z (bit_xor (xor_all (line_tags tag ls us)) (xor_all (line_tags tag ls vs)))) (xor_comm (tag l true) (tag l false))
    ∙ ap (bit_xor (both_tags tag l)) (tags_differ tag ls us vs (omega arith) (omega arith))
tags_differ tag (l ∷ ls) (false ∷ us) (true ∷ vs) p q =
    swap_middle (tag l false) (xor_all (line_tags tag ls us)) (tag l true) (xor_all (line_tags tag ls vs))
    ∙ ap (bit_xor (both_tags tag l)) (tags_differ tag ls us vs (omega arith) (omega arith))

-- two selectors that differ at this place and at no other
pub record DifferAt (us vs : List Bool) (c : ℕ) : Type 0 where
  pub here : xor (get_or us c false) (get_or vs c false) ≡ true
  pub elsewhere : (j : ℕ) → j < length us → j ≢ c → xor (get_or us j false) (get_or vs j false) ≡ false

pub tail_differ : (a b : Bool) (us vs : List Bool) (c : ℕ) → DifferAt (a ∷ us) (b ∷ vs) (suc c) → DifferAt us vs c
tail_differ a b us vs c h = record { here = h.here; elsewhere = λ j l n. h.elsewhere (suc j) (omega arith) (omega arith) }

-- nowhere different
same_selected : (us vs : List Bool) (ts : List ℕ) → length us ≡ length ts → length vs ≡ length ts → ((j : ℕ) → j < length us → xor (get_or us j false) (get_or vs j false) ≡ false)
    → bit_xor (xor_all (selected us ts)) (xor_all (selected vs ts)) ≡ 0
same_selected [] [] ts p q h = xor_zero_l 0
same_selected [] (b ∷ vs) [] p q h = absurd (omega arith)
same_selected [] (b ∷ vs) (t ∷ ts) p q h = absurd (omega arith)
same_selected (a ∷ us) vs [] p q h = absurd (omega arith)
same_selected (a ∷ us) [] (t ∷ ts) p q h = absurd (omega arith)
same_selected (true ∷ us) (true ∷ vs) (t ∷ ts) p q h = cancel t _ _ ∙ same_selected us vs ts (omega arith) (omega arith) (λ j l. h (suc j) (omega arith))
same_selected (false ∷ us) (false ∷ vs) (t ∷ ts) p q h = same_selected us vs ts (omega arith) (omega arith) (λ j l. h (suc j) (omega arith))
same_selected (true ∷ us) (false ∷ vs) (t ∷ ts) p q h = absurd (let e : true ≡ false = h 0 (omega arith) in cc)
same_selected (false ∷ us) (true ∷ vs) (t ∷ ts) p q h = absurd (let e : true ≡ false = h 0 (omega arith) in cc)

-- different at one place: the sums differ by its tag
pub point_selected : (us vs : List Bool) (ts : List ℕ) (c : ℕ) → length us ≡ length ts → length vs ≡ length ts → c < length ts → DifferAt us vs c
    → bit_xor (xor_all (selected us ts)) (xor_all (selected vs ts)) ≡ get_or ts c 0
point_selected [] vs [] c p q l h = absurd (omega arith)
point_selected [] vs (t ∷ ts) c p q l h = absurd (omega arith)
point_selected (a ∷ us) vs [] c p q l h = absurd (omega arith)
point_selected (a ∷ us) [] (t ∷ ts) c p q l h = absurd (omega arith)
point_selected (true ∷ us) (true ∷ vs) (t ∷ ts) zero p q l h = absurd (let e : false ≡ true = h.here in cc)
point_selected (false ∷ us) (false ∷ vs) (t ∷ ts) zero p q l h = absurd (let e : false ≡ true = h.here in cc)
point_selected (true ∷ us) (false ∷ vs) (t ∷ ts) zero p q l h =
    xor_assoc t (xor_all (selected us ts)) (xor_all (selected vs ts))
    ∙ ap (bit_xor t) (same_selected us vs ts (omega arith) (omega arith) (λ j k. h.elsewhere (suc j) (omega arith) (omega arith)))
    ∙ xor_zero_r t
point_selected (false ∷ us) (true ∷ vs) (t ∷ ts) zero p q l h =
    xor_comm (xor_all (selected us ts)) (bit_xor t (xor_all (selected vs ts)))
    ∙ xor_assoc t (xor_all (selected vs ts)) (xor_all (selected us ts))
    ∙ ap (bit_xor t) (xor_comm (xor_all (selected vs ts)) (xor_all (selected us ts)) ∙ same_selected us vs ts (omega arith) (omega arith) (λ j k. h.elsewhere (suc j) (omega arith) (omega arith)))
    ∙ xor_zero_r t
point_selected (true ∷ us) (true ∷ vs) (t ∷ ts) (suc c) p q l h = cancel t _ _ ∙ point_selected us vs ts c (omega arith) (omega arith) (omega arith) (tail_differ true true us vs c h)
point_selected (false ∷ us) (false ∷ vs) (t ∷ ts) (suc c) p q l h = point_selected us vs ts c (omega arith) (omega arith) (omega arith) (tail_differ false false us vs c h)
point_selected (true ∷ us) (false ∷ vs) (t ∷ ts) (suc c) p q l h = absurd (let e : true ≡ false = h.elsewhere 0 (omega arith) (omega arith) in cc)
point_selected (false ∷ us) (true ∷ vs) (t ∷ ts) (suc c) p q l h = absurd (let e : true ≡ false = h.elsewhere 0 (omega arith) (omega arith) in cc)

-- XOR of bits
pub bit_swap : (a b c d : Bool) → xor (xor a b) (xor c d) ≡ xor (xor a c) (xor b d)
bit_swap true true true true = refl
bit_swap true true true false = refl
bit_swap true true false true = refl
bit_swap true true false false = refl
bit_swap true false true true = refl
bit_swap true false true false = refl
bit_swap true false false true = refl
bit_swap true false false false = refl
bit_swap false true true true = refl
bit_swap false true true false = refl
bit_swap false true false true = refl
bit_swap false true false false = refl
bit_swap false false true true = refl
bit_swap false false true false = refl
bit_swap false false false true = refl
bit_swap false false false false = refl

pub bit_cancel : (a b c : Bool) → xor (xor a b) (xor a c) ≡ xor b c
bit_cancel true true true = refl
bit_cancel true true false = refl
bit_cancel true false true = refl
bit_cancel true false false = refl
bit_cancel false b c = refl

and_xor : (a b c : Bool) → xor (a && c) (b && c) ≡ (xor a b && c)
and_xor true true true = refl
and_xor true true false = refl
and_xor true false true = refl
and_xor true false false = refl
and_xor false true true = refl
and_xor false true false = refl
and_xor false false true = refl
and_xor false false false = refl

xor_false : (b : Bool) → xor b false ≡ b
xor_false true = refl
xor_false false = refl

parity_same : (us vs row : List Bool) → length us ≡ length row → length vs ≡ length row → ((j : ℕ) → j < length us → xor (get_or us j false) (get_or vs j false) ≡ false) → xor (parity us row) (parity vs row) ≡ false
parity_same [] [] row p q h = refl
parity_same [] (v ∷ vs) [] p q h = absurd (omega arith)
parity_same [] (v ∷ vs) (r ∷ row) p q h = absurd (omega arith)
parity_same (u ∷ us) vs [] p q h = absurd (omega arith)
parity_same (u ∷ us) [] (r ∷ row) p q h = absurd (omega arith)
parity_same (u ∷ us) (v ∷ vs) (r ∷ row) p q h =
    bit_swap (u && r) (parity us row) (v && r) (parity vs row)
    ∙ ap (λ x. xor x (xor (parity us row) (parity vs row))) (and_xor u v r ∙ ap (λ x. x && r) (h 0 (omega arith)))
    ∙ parity_same us vs row (omega arith) (omega arith) (λ j l. h (suc j) (omega arith))

-- different at one place: the parities differ by the row's cell there
pub point_parity : (us vs row : List Bool) (c : ℕ) → length us ≡ length row → length vs ≡ length row → c < length row → DifferAt us vs c → xor (parity us row) (parity vs row) ≡ get_or row c false
point_parity [] vs [] c p q l h = absurd (omega arith)
point_parity [] vs (r ∷ row) c p q l h = absurd (omega arith)
point_parity (u ∷ us) vs [] c p q l h = absurd (omega arith)
point_parity (u ∷ us) [] (r ∷ row) c p q l h = absurd (omega arith)
point_parity (u ∷ us) (v ∷ vs) (r ∷ row) zero p q l h =
    bit_swap (u && r) (parity us row) (v && r) (parity vs row)
    ∙ ap (λ x. xor x (xor (parity us row) (parity vs row))) (and_xor u v r ∙ ap (λ x. x && r) h.here)
    ∙ ap (xor r) (parity_same us vs row (omega arith) (omega arith) (λ j k. h.elsewhere (suc j) (omega arith) (omega arith)))
    ∙ xor_false r
point_parity (u ∷ us) (v ∷ vs) (r ∷ row) (suc c) p q l h =
    bit_swap (u && r) (parity us row) (v && r) (parity vs row)
    ∙ ap (λ x. xor x (xor (parity us row) (parity vs row))) (and_xor u v r ∙ ap (λ x. x && r) (h.elsewhere 0 (omega arith) (omega arith)))
    ∙ point_parity us vs row c (omega arith) (omega arith) (omega arith) (tail_differ u v us vs c h)
