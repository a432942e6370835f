-- Going over the lines and the probes of two replies.
use Rattle.std.proofs.Common.{◌≡◌, ◌≢◌, ℕ, zero, suc, ◌<◌, ◌+◌, ◌/◌, List, [], ◌∷◌, ◌++◌, length, take, drop, get_or, refl, sym, ap, ◌∙◌, arith, cond, Bool, true, false, ◌&&◌, append_assoc, drop-cons, Ok, Err, Result}
use Rattle.std.specs.Prelude.{bit_xor, ◌==◌, ◌||◌}
use Rattle.std.proofs.lemmas.List.{get_or_default}
use Rattle.std.proofs.lemmas.Bool.Decides.{nat_tests}
use Rattle.std.specs.List.{AllByRecursion, list_any}
use Rattle.std.specs.Simd.Lanes.{zip2}
use Rattle.dory_base.specs.Xor.{xor}
use Rattle.dory_base.specs.declared.found.Place.{Place}
use Rattle.dory_base.specs.declared.found.Sum.{Sum}
use Rattle.dory_hmac.specs.declared.folder_keys.FolderKeys.{FolderKeys}
use Rattle.dory_seal.specs.declared.cell.Cell.{Cell}
use Rattle.dory_wire.specs.Spelling.{IsSum}
use Rattle.dory_verify.specs.declared.fault.CheckFault.{CheckFault}
use Rattle.dory_verify.specs.declared.fault.CheckFault.TheVariants as fault
use Rattle.dory_verify.specs.Tags.{xor_bits, tag_sum}
use Rattle.dory_verify.specs.Listing.{crossed, plain_cell, is_line_listed, listed_from}
use Rattle.dory_verify.specs.Checks.{same_place, same_manifest, adds_up, all_add_up}

-- something to stand past the last line and the last sum
abbrev pub no_place : Place
no_place = record { slot = 0; doc = record { 0 = 0 }; id = record { member = record { 0 = 0 }; serial = 0 } }

abbrev pub no_cell : Cell
no_cell = record { doc = record { 0 = 0 }; id = record { member = record { 0 = 0 }; serial = 0 }; column = 0; cell = false }

abbrev pub no_sum : Sum
no_sum = record { bits = []; tag = 0 }

number_is : (a b : ℕ) → (a == b) ≡ true → a ≡ b
number_is a b h = grind (arith, nat_tests)

number_isnt : (a b : ℕ) → a ≢ b → (a == b) ≡ false
number_isnt a b h = grind (arith, nat_tests)

same_number : (a b : ℕ) → a ≡ b → (a == b) ≡ true
same_number a b h = grind (arith, nat_tests)

-- the next line
pub next : (i : ℕ) → i + 1 ≡ suc i
next i = omega arith

-- ---- the manifests

-- one line of both
pub manifest_more : (at i : ℕ) (lead follow : List Place) (d : Place) (b : Bool) → i < length lead → i < length follow → same_place (get_or lead i d) (get_or follow i d) ≡ b
    → same_manifest at (drop i lead) (drop i follow) ≡ cond b (same_manifest (at + 1) (drop (suc i) lead) (drop (suc i) follow)) (Err (fault.Manifest at))
manifest_more at i [] follow d b h k e = absurd (omega arith)
manifest_more at i (p ∷ lead) [] d b h k e = absurd (omega arith)
manifest_more at zero (p ∷ lead) (q ∷ follow) d b h k e = ap (λ (x : Bool). cond x (same_manifest (at + 1) lead follow) (Err (fault.Manifest at))) e
manifest_more at (suc i) (p ∷ lead) (q ∷ follow) d b h k e = manifest_more at i lead follow d b (omega arith) (omega arith) e

pub manifest_end : (at i : ℕ) (lead follow : List Place) → i ≡ length lead → i ≡ length follow → same_manifest at (drop i lead) (drop i follow) ≡ Ok tt
manifest_end at zero [] [] h k = refl
manifest_end at zero [] (q ∷ follow) h k = absurd (omega arith)
manifest_end at zero (p ∷ lead) follow h k = absurd (omega arith)
manifest_end at (suc i) [] follow h k = absurd (omega arith)
manifest_end at (suc i) (p ∷ lead) [] h k = absurd (omega arith)
manifest_end at (suc i) (p ∷ lead) (q ∷ follow) h k = manifest_end at i lead follow (omega arith) (omega arith)

-- one of the two has ended
pub manifest_lead_ends : (at i : ℕ) (lead follow : List Place) → i ≡ length lead → i < length follow → same_manifest at (drop i lead) (drop i follow) ≡ Err (fault.Manifest at)
manifest_lead_ends at zero [] [] h k = absurd (omega arith)
manifest_lead_ends at zero [] (q ∷ follow) h k = refl
manifest_lead_ends at zero (p ∷ lead) follow h k = absurd (omega arith)
manifest_lead_ends at (suc i) [] follow h k = absurd (omega arith)
manifest_lead_ends at (suc i) (p ∷ lead) [] h k = absurd (omega arith)
manifest_lead_ends at (suc i) (p ∷ lead) (q ∷ follow) h k = manifest_lead_ends at i lead follow (omega arith) (omega arith)

pub manifest_follow_ends : (at i : ℕ) (lead follow : List Place) → i < length lead → i ≡ length follow → same_manifest at (drop i lead) (drop i follow) ≡ Err (fault.Manifest at)
manifest_follow_ends at i [] follow h k = absurd (omega arith)
manifest_follow_ends at zero (p ∷ lead) [] h k = refl
manifest_follow_ends at zero (p ∷ lead) (q ∷ follow) h k = absurd (omega arith)
manifest_follow_ends at (suc i) (p ∷ lead) [] h k = absurd (omega arith)
manifest_follow_ends at (suc i) (p ∷ lead) (q ∷ follow) h k = manifest_follow_ends at i lead follow (omega arith) (omega arith)

-- ---- the XOR of the bits

pub zip_is : (us vs : List Bool) → zip2 xor us vs ≡ xor_bits us vs
zip_is [] vs = refl
zip_is (u ∷ us) [] = refl
zip_is (u ∷ us) (v ∷ vs) = ap (λ (bs : List Bool). xor u v ∷ bs) (zip_is us vs)

-- the bits are as many as the lines
pub sum_at : (n i : ℕ) (sums : List Sum) (d : Sum) → i < length sums → AllByRecursion (IsSum n) sums → length (get_or sums i d).bits ≡ n
sum_at n i [] d h all = absurd (omega arith)
sum_at n zero (s ∷ sums) d h all = all.0.bits
sum_at n (suc i) (s ∷ sums) d h all = sum_at n i sums d (omega arith) all.1

-- one probe
pub crossed_more : (i : ℕ) (lead follow : List Sum) (d : Sum) → i < length lead → i < length follow
    → crossed (drop i lead) (drop i follow) ≡ xor_bits (get_or lead i d).bits (get_or follow i d).bits ∷ crossed (drop (suc i) lead) (drop (suc i) follow)
crossed_more i [] follow d h k = absurd (omega arith)
crossed_more i (l ∷ lead) [] d h k = absurd (omega arith)
crossed_more zero (l ∷ lead) (f ∷ follow) d h k = refl
crossed_more (suc i) (l ∷ lead) (f ∷ follow) d h k = crossed_more i lead follow d (omega arith) (omega arith)

pub crossed_push : (i : ℕ) (lead follow : List Sum) (d e : Sum) (all : List (List Bool)) (bits : List Bool) → i < length lead → i < length follow
    → bits ≡ zip2 xor (get_or lead i d).bits (get_or follow i e).bits
    → (all ++ bits ∷ []) ++ crossed (drop (suc i) lead) (drop (suc i) follow) ≡ all ++ crossed (drop i lead) (drop i follow)
crossed_push i lead follow d e all bits h k is =
    append_assoc all (bits ∷ []) (crossed (drop (suc i) lead) (drop (suc i) follow))
    ∙ ap (λ (b : List Bool). all ++ b ∷ crossed (drop (suc i) lead) (drop (suc i) follow)) (is ∙ zip_is (get_or lead i d).bits (get_or follow i e).bits)
    ∙ ap (λ (s : Sum). all ++ xor_bits (get_or lead i d).bits s.bits ∷ crossed (drop (suc i) lead) (drop (suc i) follow)) (get_or_default follow i e d k)
    ∙ ap (λ (bs : List (List Bool)). all ++ bs) (sym (crossed_more i lead follow d h k))

pub crossed_end : (i : ℕ) (lead follow : List Sum) → i ≡ length lead → crossed (drop i lead) (drop i follow) ≡ []
crossed_end zero [] follow h = refl
crossed_end zero (l ∷ lead) follow h = absurd (omega arith)
crossed_end (suc i) [] follow h = absurd (omega arith)
crossed_end (suc i) (l ∷ lead) [] h = none (drop i lead)
  where
    none : (ls : List Sum) → crossed ls [] ≡ []
    none [] = refl
    none (x ∷ ls) = refl
crossed_end (suc i) (l ∷ lead) (f ∷ follow) h = crossed_end i lead follow (omega arith)

pub crossed_at : (i : ℕ) (lead follow : List Sum) (d e : Sum) (none : List Bool) → i < length lead → i < length follow → get_or (crossed lead follow) i none ≡ xor_bits (get_or lead i d).bits (get_or follow i e).bits
crossed_at i [] follow d e none h k = absurd (omega arith)
crossed_at i (l ∷ lead) [] d e none h k = absurd (omega arith)
crossed_at zero (l ∷ lead) (f ∷ follow) d e none h k = refl
crossed_at (suc i) (l ∷ lead) (f ∷ follow) d e none h k = crossed_at i lead follow d e none (omega arith) (omega arith)

pub length-crossed : (lead follow : List Sum) → length lead ≡ length follow → length (crossed lead follow) ≡ length lead
length-crossed [] follow e = refl
length-crossed (l ∷ lead) [] e = absurd (omega arith)
length-crossed (l ∷ lead) (f ∷ follow) e = ap suc (length-crossed lead follow (omega arith))

pub length-xored : (us vs : List Bool) → length us ≡ length vs → length (xor_bits us vs) ≡ length us
length-xored [] vs e = refl
length-xored (u ∷ us) [] e = absurd (omega arith)
length-xored (u ∷ us) (v ∷ vs) e = ap suc (length-xored us vs (omega arith))

-- ---- the tags

abbrev verdict : Bool → ℕ → ℕ → ℕ → Result (Unit {0}) CheckFault
verdict b probe got want = cond b (Ok tt) (Err (fault.TagSum probe got want))

pub adds_up_ok : (keys : FolderKeys) (places : List Place) (probe c : ℕ) (l f : Sum) → bit_xor l.tag f.tag ≡ tag_sum keys c places (xor_bits l.bits f.bits) → adds_up keys places probe c l f ≡ Ok tt
adds_up_ok keys places probe c l f e =
    ap (λ (b : Bool). verdict b probe (bit_xor l.tag f.tag) (tag_sum keys c places (xor_bits l.bits f.bits))) (same_number (bit_xor l.tag f.tag) (tag_sum keys c places (xor_bits l.bits f.bits)) e)

pub adds_up_err : (keys : FolderKeys) (places : List Place) (probe c : ℕ) (l f : Sum) → bit_xor l.tag f.tag ≢ tag_sum keys c places (xor_bits l.bits f.bits)
    → adds_up keys places probe c l f ≡ Err (fault.TagSum probe (bit_xor l.tag f.tag) (tag_sum keys c places (xor_bits l.bits f.bits)))
adds_up_err keys places probe c l f e =
    ap (λ (b : Bool). verdict b probe (bit_xor l.tag f.tag) (tag_sum keys c places (xor_bits l.bits f.bits))) (number_isnt (bit_xor l.tag f.tag) (tag_sum keys c places (xor_bits l.bits f.bits)) e)

-- one probe
pub tags_more : (keys : FolderKeys) (places : List Place) (at i : ℕ) (columns : List ℕ) (lead follow : List Sum) (d : Sum) → i < length columns → i < length lead → i < length follow
    → adds_up keys places at (get_or columns i 0) (get_or lead i d) (get_or follow i d) ≡ Ok tt
    → all_add_up keys places at (drop i columns) (drop i lead) (drop i follow) ≡ all_add_up keys places (at + 1) (drop (suc i) columns) (drop (suc i) lead) (drop (suc i) follow)
tags_more keys places at i [] lead follow d h k m e = absurd (omega arith)
tags_more keys places at i (c ∷ columns) [] follow d h k m e = absurd (omega arith)
tags_more keys places at i (c ∷ columns) (l ∷ lead) [] d h k m e = absurd (omega arith)
tags_more keys places at zero (c ∷ columns) (l ∷ lead) (f ∷ follow) d h k m e = rw e refl
tags_more keys places at (suc i) (c ∷ columns) (l ∷ lead) (f ∷ follow) d h k m e = tags_more keys places at i columns lead follow d (omega arith) (omega arith) (omega arith) e

pub tags_fail : (keys : FolderKeys) (places : List Place) (at i : ℕ) (columns : List ℕ) (lead follow : List Sum) (d : Sum) (e : CheckFault) → i < length columns → i < length lead → i < length follow
    → adds_up keys places at (get_or columns i 0) (get_or lead i d) (get_or follow i d) ≡ Err e
    → all_add_up keys places at (drop i columns) (drop i lead) (drop i follow) ≡ Err e
tags_fail keys places at i [] lead follow d e h k m is = absurd (omega arith)
tags_fail keys places at i (c ∷ columns) [] follow d e h k m is = absurd (omega arith)
tags_fail keys places at i (c ∷ columns) (l ∷ lead) [] d e h k m is = absurd (omega arith)
tags_fail keys places at zero (c ∷ columns) (l ∷ lead) (f ∷ follow) d e h k m is = rw is refl
tags_fail keys places at (suc i) (c ∷ columns) (l ∷ lead) (f ∷ follow) d e h k m is = tags_fail keys places at i columns lead follow d e (omega arith) (omega arith) (omega arith) is

pub tags_end : (keys : FolderKeys) (places : List Place) (at i : ℕ) (columns : List ℕ) (lead follow : List Sum) → i ≡ length columns → all_add_up keys places at (drop i columns) (drop i lead) (drop i follow) ≡ Ok tt
tags_end keys places at zero [] lead follow h = refl
tags_end keys places at zero (c ∷ columns) lead follow h = absurd (omega arith)
tags_end keys places at (suc i) [] lead follow h = absurd (omega arith)
tags_end keys places at (suc i) (c ∷ columns) [] follow h = none (drop i columns) (drop (suc i) follow)
  where
    none : (cs : List ℕ) (fs : List Sum) → all_add_up keys places at cs [] fs ≡ Ok tt
    none [] fs = refl
    none (x ∷ cs) fs = refl
tags_end keys places at (suc i) (c ∷ columns) (l ∷ lead) [] h = none (drop i columns) (drop i lead)
  where
    none : (cs : List ℕ) (ls : List Sum) → all_add_up keys places at cs ls [] ≡ Ok tt
    none [] ls = refl
    none (x ∷ cs) [] = refl
    none (x ∷ cs) (y ∷ ls) = refl
tags_end keys places at (suc i) (c ∷ columns) (l ∷ lead) (f ∷ follow) h = tags_end keys places at i columns lead follow (omega arith)

-- ---- a line's cells

-- one cell of a line
abbrev pub cell_is : FolderKeys → List ℕ → List (List Bool) → ℕ → Place → ℕ → Bool
cell_is keys columns bits line p k = plain_cell keys p (get_or columns k 0) (get_or (get_or bits k []) line false)

pub all_listed : (keys : FolderKeys) (columns : List ℕ) (bits : List (List Bool)) (line : ℕ) (p : Place) → length bits ≡ length columns
    → ((k : ℕ) → k < length columns → cell_is keys columns bits line p k ≡ true) → is_line_listed keys columns bits line p ≡ true
all_listed keys [] bits line p e each = refl
all_listed keys (c ∷ columns) [] line p e each = absurd (omega arith)
all_listed keys (c ∷ columns) (b ∷ bits) line p e each =
    ap (λ (x : Bool). x && is_line_listed keys columns bits line p) (each 0 (omega arith)) ∙ all_listed keys columns bits line p (omega arith) (λ k h. each (suc k) (omega arith))

pub one_missing : (keys : FolderKeys) (columns : List ℕ) (bits : List (List Bool)) (line : ℕ) (p : Place) (k : ℕ) → length bits ≡ length columns → k < length columns
    → cell_is keys columns bits line p k ≡ false → is_line_listed keys columns bits line p ≡ false
one_missing keys [] bits line p k e h is = absurd (omega arith)
one_missing keys (c ∷ columns) [] line p k e h is = absurd (omega arith)
one_missing keys (c ∷ columns) (b ∷ bits) line p zero e h is = ap (λ (x : Bool). x && is_line_listed keys columns bits line p) is
one_missing keys (c ∷ columns) (b ∷ bits) line p (suc k) e h is = both (plain_cell keys p c (get_or b line false)) (one_missing keys columns bits line p k (omega arith) (omega arith) is)
  where
    both : (x : Bool) → is_line_listed keys columns bits line p ≡ false → (x && is_line_listed keys columns bits line p) ≡ false
    both true i = i
    both false i = refl

-- ---- the lines

-- a line that is listed, and one that isn't
pub line_listed : (keys : FolderKeys) (columns : List ℕ) (bits : List (List Bool)) (line : ℕ) (places : List Place) (p d : Place) (docs : List ℕ) (doc : ℕ) → line < length places → p ≡ get_or places line d → doc ≡ p.doc.0 → is_line_listed keys columns bits line p ≡ true
    → (docs ++ doc ∷ []) ++ listed_from keys columns bits (line + 1) (drop (suc line) places) ≡ docs ++ listed_from keys columns bits line (drop line places)
line_listed keys columns bits line places p d docs doc h is doc_is set =
    let more = listed_from keys columns bits (line + 1) (drop (suc line) places) in
    append_assoc docs (doc ∷ []) more
    ∙ ap (λ (x : ℕ). docs ++ x ∷ more) doc_is
    ∙ ap (λ (b : Bool). docs ++ cond b (p.doc.0 ∷ more) more) (sym set)
    ∙ ap (λ (ps : List Place). docs ++ listed_from keys columns bits line ps) (sym cut)
  where
    cut : drop line places ≡ p ∷ drop (suc line) places
    cut = drop-cons places line d h ∙ ap (λ (x : Place). x ∷ drop (suc line) places) (sym is)

pub line_left_out : (keys : FolderKeys) (columns : List ℕ) (bits : List (List Bool)) (line : ℕ) (places : List Place) (p d : Place) (docs : List ℕ) → line < length places → p ≡ get_or places line d → is_line_listed keys columns bits line p ≡ false
    → docs ++ listed_from keys columns bits (line + 1) (drop (suc line) places) ≡ docs ++ listed_from keys columns bits line (drop line places)
line_left_out keys columns bits line places p d docs h is clear =
    let more = listed_from keys columns bits (line + 1) (drop (suc line) places) in
    ap (λ (b : Bool). docs ++ cond b (p.doc.0 ∷ more) more) (sym clear)
    ∙ ap (λ (ps : List Place). docs ++ listed_from keys columns bits line ps) (sym cut)
  where
    cut : drop line places ≡ p ∷ drop (suc line) places
    cut = drop-cons places line d h ∙ ap (λ (x : Place). x ∷ drop (suc line) places) (sym is)

-- a column before stands in this block
pub met_before : (columns : List ℕ) (n block : ℕ) → list_any (λ c. (c / 256) == block) (take n columns) ≡ true → (r : ℕ) × (r < n) × (get_or columns r 0 / 256 ≡ block)
met_before columns zero block is = absurd (cc)
met_before [] (suc n) block is = absurd (cc)
met_before (c ∷ columns) (suc n) block is = by ((c / 256) == block) refl is (λ i. met_before columns n block i)
  where
    by : (b : Bool) → ((c / 256) == block) ≡ b → (b || list_any (λ d. (d / 256) == block) (take n columns)) ≡ true
        → (list_any (λ d. (d / 256) == block) (take n columns) ≡ true → (r : ℕ) × (r < n) × (get_or columns r 0 / 256 ≡ block)) → (r : ℕ) × (r < suc n) × (get_or (c ∷ columns) r 0 / 256 ≡ block)
    by true e i more = (0, omega arith, number_is (c / 256) block e)
    by false e i more = let rest = more i in (suc rest.0, omega (arith, rest.1), rest.2)
