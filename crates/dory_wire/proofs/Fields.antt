-- An ask, an update's id and a tag: what is read is what was written, and what was written is read again.
use Rattle.std.proofs.Common.{◌≡◌, ℕ, ◌+◌, ◌*◌, ◌/◌, ◌%◌, ◌^◌, ◌<◌, true, leb, List, ◌++◌, length, take, drop, Ok, refl, sym, ap, subst, ◌∙◌, append_assoc, arith}
use mathlib.Core.Path.{ap₂}
use Rattle.std.specs.Int.{w32, w64, from_be_bytes, to_be_bytes}
use Rattle.std.proofs.lemmas.Bool.{leb-true, le-leb}
use Rattle.std.proofs.lemmas.List.{take-append-drop, length-take, length-drop}
use Rattle.std.proofs.lemmas.Nat.{from_be_bytes-to_be_bytes_8}
use Rattle.dory_base.specs.TagBytes.{tag_number, tag_bytes, tag_bytes-tag_number, tag_number_small, IsTagBytes}
use Rattle.dory_base.specs.declared.ids.AskId.{AskId}
use Rattle.dory_base.specs.declared.ids.UpdateId.{UpdateId}
use Rattle.dory_fields.specs.declared.fault.FieldFault.{FieldFault}
use Rattle.dory_fields.specs.Bytes.{IsBytes, four}
use Rattle.dory_fields.specs.Reading.{Fails, field_at, ranged}
use Rattle.dory_fields.proofs.Many.{fails_all}
use Rattle.dory_fields.proofs.Fields.{IsBytes-drop, IsBytes-take, bind_ok, ok_is, ranged_ok, Takes, field_takes, field_again, wide32, wide64}
use Rattle.dory_wire.specs.Spelling.{ask, id, IsAsk, IsId}
use Rattle.dory_wire.specs.Reading.{ask_at, id_at, tag_at}

-- ---- an ask

sixteen_parts : (f : List ℕ) → f ≡ take 4 f ++ (take 8 (drop 4 f) ++ drop 8 (drop 4 f))
sixteen_parts f = sym (take-append-drop 4 f) ∙ ap (λ (x : List ℕ). take 4 f ++ x) (sym (take-append-drop 8 (drop 4 f)))

pub ask_takes : (total : ℕ) (bytes : List ℕ) (x : AskId × List ℕ) → IsBytes bytes → ask_at total bytes ≡ Ok x → Takes bytes (ask x.0) x.1 × IsAsk x.0
unfolding ask_at
ask_takes total bytes x fits e =
    let b = bind_ok (field_at 16 total bytes) (λ f. Ok (record { member = record { 0 = from_be_bytes w32 (take 4 f.0) }; serial = from_be_bytes w64 (take 8 (drop 4 f.0)); step = from_be_bytes w32 (drop 8 (drop 4 f.0)) }, f.1)) x e in
    let f = b.0.0 in
    let t = field_takes 16 total bytes f b.0.1 fits b.1 in
    let made : AskId = record { member = record { 0 = from_be_bytes w32 (take 4 f) }; serial = from_be_bytes w64 (take 8 (drop 4 f)); step = from_be_bytes w32 (drop 8 (drop 4 f)) } in
    let p4 = IsBytes-take 4 f t.2 in
    let p8 = IsBytes-take 8 (drop 4 f) (IsBytes-drop 4 f t.2) in
    let p12 = IsBytes-drop 8 (drop 4 f) (IsBytes-drop 4 f t.2) in
    let l4 : length (take 4 f) ≡ 4 = omega (arith, length-take 4 f, t.1) in
    let l8 : length (take 8 (drop 4 f)) ≡ 8 = omega (arith, length-take 8 (drop 4 f), length-drop 4 f, t.1) in
    let l12 : length (drop 8 (drop 4 f)) ≡ 4 = omega (arith, length-drop 8 (drop 4 f), length-drop 4 f, t.1) in
    let one : four made.member.0 ≡ take 4 f = wide32.back (take 4 f) l4 p4 in
    let two : to_be_bytes w64 made.serial ≡ take 8 (drop 4 f) = wide64.back (take 8 (drop 4 f)) l8 p8 in
    let three : four made.step ≡ drop 8 (drop 4 f) = wide32.back (drop 8 (drop 4 f)) l12 p12 in
    let whole : ask made ≡ f = append_assoc (four made.member.0) (to_be_bytes w64 made.serial) (four made.step) ∙ (λ i. one i ++ (two i ++ three i)) ∙ sym (sixteen_parts f) in
    let are : IsAsk made = record { member = wide32.below (take 4 f) p4; serial = wide64.below (take 8 (drop 4 f)) p8; step = wide32.below (drop 8 (drop 4 f)) p12 } in
    subst (λ (y : AskId × List ℕ). Takes bytes (ask y.0) y.1 × IsAsk y.0) (ok_is (made, b.0.1) x b.2) (subst (λ (y : List ℕ). Takes bytes y b.0.1) (sym whole) t.0, are)

length-ask : (a : AskId) → length (ask a) ≡ 16
length-ask a = refl

pub ask_again : (total : ℕ) (a : AskId) (rest : List ℕ) → IsAsk a → ask_at total (ask a ++ rest) ≡ Ok (a, rest)
unfolding ask_at
ask_again total a rest is =
    let one : from_be_bytes w32 (take 4 (ask a)) ≡ a.member.0 = wide32.again a.member.0 is.member in
    let two : from_be_bytes w64 (take 8 (drop 4 (ask a))) ≡ a.serial = wide64.again a.serial is.serial in
    let three : from_be_bytes w32 (drop 8 (drop 4 (ask a))) ≡ a.step = wide32.again a.step is.step in
    rw (field_again 16 total (ask a) rest (length-ask a)) (λ i. Ok (record { member = record { 0 = one i }; serial = two i; step = three i }, rest))

-- ---- an update's id

pub id_takes : (total : ℕ) (bytes : List ℕ) (x : UpdateId × List ℕ) → IsBytes bytes → id_at total bytes ≡ Ok x → Takes bytes (id x.0) x.1 × IsId x.0
unfolding id_at
id_takes total bytes x fits e =
    let b = bind_ok (field_at 12 total bytes) (λ f. ranged total bytes (leb 1 (from_be_bytes w64 (drop 4 f.0))) (record { member = record { 0 = from_be_bytes w32 (take 4 f.0) }; serial = from_be_bytes w64 (drop 4 f.0) }, f.1)) x e in
    let f = b.0.0 in
    let t = field_takes 12 total bytes f b.0.1 fits b.1 in
    let made : UpdateId = record { member = record { 0 = from_be_bytes w32 (take 4 f) }; serial = from_be_bytes w64 (drop 4 f) } in
    let g = ranged_ok total bytes (leb 1 made.serial) (made, b.0.1) x b.2 in
    let p4 = IsBytes-take 4 f t.2 in
    let p8 = IsBytes-drop 4 f t.2 in
    let l4 : length (take 4 f) ≡ 4 = omega (arith, length-take 4 f, t.1) in
    let l8 : length (drop 4 f) ≡ 8 = omega (arith, length-drop 4 f, t.1) in
    let one : four made.member.0 ≡ take 4 f = wide32.back (take 4 f) l4 p4 in
    let two : to_be_bytes w64 made.serial ≡ drop 4 f = wide64.back (drop 4 f) l8 p8 in
    let whole : id made ≡ f = (λ i. one i ++ two i) ∙ take-append-drop 4 f in
    let is : IsId made = record { member = wide32.below (take 4 f) p4; some = leb-true 1 made.serial g.0; serial = wide64.below (drop 4 f) p8 } in
    subst (λ (y : UpdateId × List ℕ). Takes bytes (id y.0) y.1 × IsId y.0) g.1 (subst (λ (y : List ℕ). Takes bytes y b.0.1) (sym whole) t.0, is)

length-id : (i : UpdateId) → length (id i) ≡ 12
length-id i = refl

pub id_again : (total : ℕ) (u : UpdateId) (rest : List ℕ) → IsId u → id_at total (id u ++ rest) ≡ Ok (u, rest)
unfolding id_at
id_again total u rest is =
    let one : from_be_bytes w32 (take 4 (id u)) ≡ u.member.0 = wide32.again u.member.0 is.member in
    let two : from_be_bytes w64 (drop 4 (id u)) ≡ u.serial = wide64.again u.serial is.serial in
    let met : leb 1 (from_be_bytes w64 (drop 4 (id u))) ≡ true = rw two (le-leb 1 u.serial is.some) in
    rw (field_again 12 total (id u) rest (length-id u)) (rw met (λ i. Ok (record { member = record { 0 = one i }; serial = two i }, rest)))

-- ---- a tag

pub length-tag_bytes : (n : ℕ) → length (tag_bytes n) ≡ 16
unfolding tag_bytes
length-tag_bytes n = refl

halves : (n : ℕ) → n < 2 ^ 128 → (n / 2 ^ 64 < 2 ^ 64) × (n % 2 ^ 64 < 2 ^ 64) × (n / 2 ^ 64 * 2 ^ 64 + n % 2 ^ 64 ≡ n)
halves n h = (omega arith, omega arith, omega arith)

tag_again : (n : ℕ) → n < 2 ^ 128 → tag_number (tag_bytes n) ≡ n
unfolding tag_number tag_bytes
tag_again n h =
    let parts = halves n h in
    ap₂ (λ (x y : ℕ). x * 2 ^ 64 + y) (from_be_bytes-to_be_bytes_8 (n / 2 ^ 64) parts.0) (from_be_bytes-to_be_bytes_8 (n % 2 ^ 64) parts.1) ∙ parts.2

-- a number of sixteen bytes
abbrev pub IsTag : ℕ → Type 0
IsTag t = t < 2 ^ 128

pub tag_takes : (total : ℕ) (bytes : List ℕ) (x : ℕ × List ℕ) → IsBytes bytes → tag_at total bytes ≡ Ok x → Takes bytes (tag_bytes x.0) x.1 × IsTag x.0
unfolding tag_at
tag_takes total bytes x fits e =
    let a = bind_ok (field_at 16 total bytes) (λ tag. Ok (tag_number tag.0, tag.1)) x e in
    let t = field_takes 16 total bytes a.0.0 a.0.1 fits a.1 in
    let are : IsTagBytes a.0.0 = record { sixteen = t.1; small = t.2 } in
    subst (λ (y : ℕ × List ℕ). Takes bytes (tag_bytes y.0) y.1 × IsTag y.0) (ok_is (tag_number a.0.0, a.0.1) x a.2)
    (subst (λ (y : List ℕ). Takes bytes y a.0.1) (sym (tag_bytes-tag_number a.0.0 are)) t.0, tag_number_small a.0.0 are)

pub tag_read_again : (total t : ℕ) (rest : List ℕ) → IsTag t → tag_at total (tag_bytes t ++ rest) ≡ Ok (t, rest)
unfolding tag_at
tag_read_again total t rest is = rw (field_again 16 total (tag_bytes t) rest (length-tag_bytes t)) (λ i. Ok (tag_again t is i, rest))

-- the field of a tag is read, and so is the tag
pub tag_reads : (total : ℕ) (bytes field rest : List ℕ) → field_at 16 total bytes ≡ Ok (field, rest) → tag_at total bytes ≡ Ok (tag_number field, rest)
unfolding tag_at
tag_reads total bytes field rest e = rw e refl

-- and its fault is the tag's
pub tag_fails : (e : FieldFault) (total : ℕ) (bytes : List ℕ) → Fails e (field_at 16 total bytes) → Fails e (tag_at total bytes)
unfolding tag_at
tag_fails e total bytes = fails_all e (field_at 16 total bytes) (tag_at total bytes) (λ f h. rw h refl)
