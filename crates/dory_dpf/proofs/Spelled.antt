-- What is spelled is read back, and what is read is spelled so.
use Rattle.std.proofs.Common.{◌≡◌, ℕ, zero, suc, ◌*◌, ◌%◌, ◌==◌, ◌≤◌, ◌≢◌, Bool, true, false, leb, ltb, List, [], ◌∷◌, ◌++◌, All, flat_map, length, take, drop, Option, None, Some, Result, Ok, Err, inl, inr, refl, sym, ap, subst, ◌∙◌, append_assoc, arith}
use Rattle.std.proofs.lemmas.Bool.{ltb-false}
use Rattle.std.proofs.lemmas.Bool.Decides.{eqb_tells}
use Rattle.std.proofs.lemmas.List.{append-nil, length-append, length-take, nil_from_length}
use Rattle.std.proofs.lemmas.List.Elements.{All-tail, All-from_recursion, recursion_from_All}
use Rattle.dory_fields.specs.declared.fault.FieldFault.TheVariants.{CutShort}
use Rattle.dory_fields.specs.Bytes.{IsBytes}
use Rattle.dory_fields.specs.Left.{Left}
use Rattle.dory_fields.specs.Reading.{◌>>=◌, Read, byte_at, field_at, many_at, place}
use Rattle.dory_fields.proofs.Fields.{Takes, Takes-then, bind_ok, byte_again, byte_takes, field_again, field_takes, guard_ok, in_range, ok_is, range_met, ranged_ok}
use Rattle.dory_fields.proofs.Many.{many_again, many_each, many_take}
use Rattle.dory_dpf.specs.declared.tree.Correction.{Correction}
use Rattle.dory_dpf.specs.declared.key_fault.KeyFault.{KeyFault}
use Rattle.dory_dpf.specs.declared.key_fault.KeyFault.TheVariants.{KeyLength}
use Rattle.dory_dpf.specs.PointKey.{PointKey, IsKey, IsKeyOf, form_of, form_with, kept_key, last_bytes, last_len, levels_of}
use Rattle.dory_dpf.specs.KeyBytes.{bytes_of_key, control_byte, correction_at, correction_bytes, is_control, is_depth_of, is_party, key_at, key_len, key_of, last_at, read_of}
use Rattle.dory_dpf.proofs.XorBits.{same_number}

-- what is read, and what is left
abbrev pub read_as : {A : Type 0} → A → List ℕ → Read A
read_as x rest = Ok (x, rest)

-- ---- single fields

sixteen_long : (total : ℕ) (bytes text rest : List ℕ) → field_at 16 total bytes ≡ Ok (text, rest) → length text ≡ 16
sixteen_long total bytes text rest e =
    let g = guard_ok (ltb (length bytes) 16) (CutShort (place total bytes)) (take 16 bytes, drop 16 bytes) (text, rest) e in
    let long : 16 ≤ length bytes = ltb-false _ _ g.0 in
    let same : take 16 bytes ≡ text = ap (λ (p : List ℕ × List ℕ). p.0) g.1 in
    subst (λ (t : List ℕ). length t ≡ 16) same (omega (arith, length-take 16 bytes))

byte_met : (test : ℕ → Bool) (total : ℕ) (bytes : List ℕ) (x : ℕ × List ℕ) → byte_at test total bytes ≡ Ok x → test x.0 ≡ true
unfolding byte_at
byte_met test total [] x e = absurd cc
byte_met test total (b ∷ bytes) x e =
    let g = ranged_ok total (b ∷ bytes) (test b) (b, bytes) x e in
    subst (λ (p : ℕ × List ℕ). test p.0 ≡ true) g.1 g.0

-- ---- the control bits

spelled_control : (n : ℕ) → n ≤ 3 → control_byte (n % 2 == 1) (leb 2 n) ≡ n
spelled_control zero h = refl
spelled_control (suc zero) h = refl
spelled_control (suc (suc zero)) h = refl
spelled_control (suc (suc (suc zero))) h = refl
spelled_control (suc (suc (suc (suc n)))) h = absurd (omega arith)

left_again : (l r : Bool) → (control_byte l r % 2 == 1) ≡ l
left_again true true = refl
left_again true false = refl
left_again false true = refl
left_again false false = refl

right_again : (l r : Bool) → leb 2 (control_byte l r) ≡ r
right_again true true = refl
right_again true false = refl
right_again false true = refl
right_again false false = refl

control_met : (l r : Bool) → is_control (control_byte l r) ≡ true
control_met true true = refl
control_met true false = refl
control_met false true = refl
control_met false false = refl

-- ---- a correction

abbrev WholeSeed : Correction → Type 0
WholeSeed c = length c.seed ≡ 16

correction_takes : (total : ℕ) (bytes : List ℕ) (x : Correction × List ℕ) → correction_at total bytes ≡ Ok x
    → (IsBytes bytes → Takes bytes (correction_bytes x.0) x.1) × WholeSeed x.0
unfolding correction_at
correction_takes total bytes x e =
    let a = bind_ok (field_at 16 total bytes) (λ seed. byte_at is_control total seed.1 >>= λ control. Ok (record { seed = seed.0; left_bit = control.0 % 2 == 1; right_bit = leb 2 control.0 }, control.1)) x e in
    let b = bind_ok (byte_at is_control total a.0.1) (λ control. Ok (record { seed = a.0.0; left_bit = control.0 % 2 == 1; right_bit = leb 2 control.0 }, control.1)) x a.2 in
    let made : Correction = record { seed = a.0.0; left_bit = b.0.0 % 2 == 1; right_bit = leb 2 b.0.0 } in
    let took : IsBytes bytes → Takes bytes (correction_bytes made) b.0.1 = λ fits.
    let t0 = field_takes 16 total bytes a.0.0 a.0.1 fits a.1 in
    let t1 = byte_takes is_control total a.0.1 b.0.0 b.0.1 t0.0.rest_fits b.1 in
    let both = Takes-then bytes a.0.0 a.0.1 (b.0.0 ∷ []) b.0.1 t0.0 t1.0 in
    let same = spelled_control b.0.0 (in_range 0 3 b.0.0 t1.1).1 in
    subst (λ (n : ℕ). Takes bytes (a.0.0 ++ n ∷ []) b.0.1) (sym same) both in
    subst (λ (y : Correction × List ℕ). (IsBytes bytes → Takes bytes (correction_bytes y.0) y.1) × WholeSeed y.0) (ok_is (made, b.0.1) x b.2) (took, sixteen_long total bytes a.0.0 a.0.1 a.1)

corrections_take : (n total : ℕ) (bytes : List ℕ) (x : List Correction × List ℕ) → IsBytes bytes → many_at correction_at n total bytes ≡ Ok x → Takes bytes (flat_map correction_bytes x.0) x.1
corrections_take n total bytes x fits e =
    (many_take correction_at correction_bytes WholeSeed (λ t b y f g. let t = correction_takes t b y g in (t.0 f, t.1)) n total bytes x fits e).0

same_correction : (s : List ℕ) (l m r q : Bool) (rest : List ℕ) → l ≡ m → r ≡ q
    → (let c : Correction = record { seed = s; left_bit = l; right_bit = r } in let d : Correction = record { seed = s; left_bit = m; right_bit = q } in read_as c rest ≡ read_as d rest)
same_correction s l m r q rest e f = rw (e, f) refl

correction_again : (total : ℕ) (c : Correction) (rest : List ℕ) → WholeSeed c → correction_at total (correction_bytes c ++ rest) ≡ Ok (c, rest)
unfolding correction_at
correction_again total c rest whole =
    let control = control_byte c.left_bit c.right_bit in
    let one = field_again 16 total c.seed (control ∷ rest) whole in
    let two = byte_again is_control total control rest (control_met c.left_bit c.right_bit) in
    ap (correction_at total) (append_assoc c.seed (control ∷ []) rest)
    ∙ rw (one, two) (same_correction c.seed (control % 2 == 1) c.left_bit (leb 2 control) c.right_bit rest (left_again c.left_bit c.right_bit) (right_again c.left_bit c.right_bit))

-- ---- the last word

record IsLast (form : ℕ) (word : Option (List ℕ)) : Type 0 where
  pub same : form_with word ≡ form
  pub whole : length (last_bytes word) ≡ last_len form

is_second : (form : ℕ) → 1 ≤ form → form ≤ 2 → form ≢ 1 → 2 ≡ form
is_second zero one two isnt = absurd (omega arith)
is_second (suc zero) one two isnt = absurd (isnt refl)
is_second (suc (suc zero)) one two isnt = refl
is_second (suc (suc (suc n))) one two isnt = absurd (omega arith)

last_takes : (form total : ℕ) (bytes : List ℕ) (x : Option (List ℕ) × List ℕ) → 1 ≤ form → form ≤ 2 → last_at form total bytes ≡ Ok x
    → (IsBytes bytes → Takes bytes (last_bytes x.0) x.1) × IsLast form x.0
unfolding last_at
last_takes form total bytes x one two e =
    elim (eqb_tells form 1) [
      | inl is ↦
          let made : Option (List ℕ) × List ℕ = (None, bytes) in
          let kept : IsLast form None = record { same = sym is.1; whole = rw is.0 refl } in
          subst (λ (y : Option (List ℕ) × List ℕ). (IsBytes bytes → Takes bytes (last_bytes y.0) y.1) × IsLast form y.0) (ok_is made x (rw is.0 at e)) (λ fits. record { parts = refl; rest_fits = fits }, kept)
      | inr isnt ↦
          let f = rw isnt.0 at e in
          let a = bind_ok (field_at 16 total bytes) (λ word. Ok (Some word.0, word.1)) x f in
          let made : Option (List ℕ) × List ℕ = (Some a.0.0, a.0.1) in
          let kept : IsLast form (Some a.0.0) = record { same = is_second form one two isnt.1; whole = rw isnt.0 (sixteen_long total bytes a.0.0 a.0.1 a.1) } in
          subst (λ (y : Option (List ℕ) × List ℕ). (IsBytes bytes → Takes bytes (last_bytes y.0) y.1) × IsLast form y.0) (ok_is made x a.2) (λ fits. (field_takes 16 total bytes a.0.0 a.0.1 fits a.1).0, kept)
    ]

last_again : (total : ℕ) (word : Option (List ℕ)) (rest : List ℕ) → length (last_bytes word) ≡ last_len (form_with word) → last_at (form_with word) total (last_bytes word ++ rest) ≡ Ok (word, rest)
unfolding last_at
last_again total None rest whole = refl
last_again total (Some word) rest whole = rw (field_again 16 total word rest whole) refl

-- ---- a key

pub key_takes : (form depth total : ℕ) (bytes : List ℕ) (x : PointKey × List ℕ) → 1 ≤ form → form ≤ 2 → 8 ≤ depth → depth ≤ 11 → key_at form depth total bytes ≡ Ok x
    → (IsBytes bytes → Takes bytes (bytes_of_key x.0) x.1) × IsKeyOf form depth x.0
unfolding key_at bytes_of_key
key_takes form depth total bytes x one two low high e =
    let levels = levels_of form depth in
    let after_last : ℕ × List ℕ → List ℕ × List ℕ → List Correction × List ℕ → Option (List ℕ) × List ℕ → Read PointKey = λ party seed corrections last. Ok (record { depth = depth; party = party.0; seed = seed.0; corrections = corrections.0; last = last.0 }, last.1) in
    let a = bind_ok (byte_at (is_depth_of depth) total bytes) (λ same. byte_at is_party total same.1 >>= λ party. field_at 16 total party.1 >>= λ seed. many_at correction_at levels total seed.1 >>= λ corrections. last_at form total corrections.1 >>= λ last. after_last party seed corrections last) x e in
    let b = bind_ok (byte_at is_party total a.0.1) (λ party. field_at 16 total party.1 >>= λ seed. many_at correction_at levels total seed.1 >>= λ corrections. last_at form total corrections.1 >>= λ last. after_last party seed corrections last) x a.2 in
    let c = bind_ok (field_at 16 total b.0.1) (λ seed. many_at correction_at levels total seed.1 >>= λ corrections. last_at form total corrections.1 >>= λ last. after_last b.0 seed corrections last) x b.2 in
    let d = bind_ok (many_at correction_at levels total c.0.1) (λ corrections. last_at form total corrections.1 >>= λ last. after_last b.0 c.0 corrections last) x c.2 in
    let l = bind_ok (last_at form total d.0.1) (λ last. after_last b.0 c.0 d.0 last) x d.2 in
    let each = many_each correction_at WholeSeed (λ t b y g. (correction_takes t b y g).1) levels total c.0.1 d.0 d.1 in
    let end = last_takes form total d.0.1 l.0 one two l.1 in
    let flat = flat_map correction_bytes d.0.0 in
    let last = last_bytes l.0.0 in
    let key : PointKey = record { depth = depth; party = b.0.0; seed = c.0.0; corrections = d.0.0; last = l.0.0 } in
    let is : IsKey key = record {
      low = low;
      high = high;
      parties = (in_range 0 1 b.0.0 (byte_met is_party total a.0.1 b.0 b.1)).1;
      seed = sixteen_long total b.0.1 c.0.0 c.0.1 c.1;
      levels = each.0 ∙ ap (λ (f : ℕ). levels_of f depth) (sym end.1.same);
      whole = All-from_recursion WholeSeed d.0.0 each.1;
      last = end.1.whole ∙ ap last_len (sym end.1.same);
    } in
    let took : IsBytes bytes → Takes bytes (depth ∷ b.0.0 ∷ (c.0.0 ++ flat ++ last)) l.0.1 = λ fits.
    let t0 = byte_takes (is_depth_of depth) total bytes a.0.0 a.0.1 fits a.1 in
    let t1 = byte_takes is_party total a.0.1 b.0.0 b.0.1 t0.0.rest_fits b.1 in
    let t2 = field_takes 16 total b.0.1 c.0.0 c.0.1 t1.0.rest_fits c.1 in
    let t3 = corrections_take levels total c.0.1 d.0 t2.0.rest_fits d.1 in
    let same : a.0.0 ≡ depth = omega (arith, in_range depth depth a.0.0 t0.1) in
    let p2 = Takes-then b.0.1 (c.0.0 ++ flat) d.0.1 last l.0.1 (Takes-then b.0.1 c.0.0 c.0.1 flat d.0.1 t2.0 t3) (end.0 t3.rest_fits) in
    let p1 = Takes-then a.0.1 (b.0.0 ∷ []) b.0.1 (c.0.0 ++ flat ++ last) l.0.1 t1.0 p2 in
    let p0 = Takes-then bytes (a.0.0 ∷ []) a.0.1 (b.0.0 ∷ (c.0.0 ++ flat ++ last)) l.0.1 t0.0 p1 in
    subst (λ (n : ℕ). Takes bytes (n ∷ b.0.0 ∷ (c.0.0 ++ flat ++ last)) l.0.1) same p0 in
    subst (λ (y : PointKey × List ℕ). (IsBytes bytes → Takes bytes (y.0.depth ∷ y.0.party ∷ (y.0.seed ++ flat_map correction_bytes y.0.corrections ++ last_bytes y.0.last)) y.1) × IsKeyOf form depth y.0) (ok_is (key, l.0.1) x l.2)
    (took, record { key = is; form = end.1.same; depth = refl })

pub key_again : (total : ℕ) (key : PointKey) (rest : List ℕ) → IsKey key → key_at (form_of key) key.depth total (bytes_of_key key ++ rest) ≡ Ok (key, rest)
unfolding key_at bytes_of_key
key_again total key rest is =
    let flat = flat_map correction_bytes key.corrections in
    let last = last_bytes key.last in
    let r4 = last ++ rest in
    let r3 = flat ++ r4 in
    let r2 = key.seed ++ r3 in
    let r1 = key.party ∷ r2 in
    let regrouped : (key.seed ++ flat ++ last) ++ rest ≡ r2 = append_assoc (key.seed ++ flat) last rest ∙ append_assoc key.seed flat r4 in
    let same = byte_again (is_depth_of key.depth) total key.depth r1 (range_met key.depth key.depth key.depth (omega arith) (omega arith)) in
    let party = byte_again is_party total key.party r2 (range_met 0 1 key.party (omega arith) is.parties) in
    let seed = field_again 16 total key.seed r3 is.seed in
    let corrections : many_at correction_at (levels_of (form_of key) key.depth) total r3 ≡ Ok (key.corrections, r4) =
    subst (λ (n : ℕ). many_at correction_at n total r3 ≡ Ok (key.corrections, r4)) is.levels (many_again correction_at correction_bytes WholeSeed total (correction_again total) key.corrections r4 (recursion_from_All WholeSeed key.corrections is.whole)) in
    let end = last_again total key.last rest is.last in
    ap (λ (y : List ℕ). key_at (form_of key) key.depth total (key.depth ∷ key.party ∷ y)) regrouped ∙ rw (same, party, seed, corrections, end) refl

-- ---- all of the bytes

pub length-corrections : (cs : List Correction) → All (λ c. length c.seed ≡ 16) cs → length (flat_map correction_bytes cs) ≡ 17 * length cs
length-corrections [] all = refl
length-corrections (c ∷ cs) all =
    let e : length c.seed ≡ 16 = all 0 c (omega arith) in
    let f = length-corrections cs (All-tail WholeSeed c cs all) in
    let x = control_byte c.left_bit c.right_bit in
    let g = length-append (c.seed ++ x ∷ []) (flat_map correction_bytes cs) in
    let h = length-append c.seed (x ∷ []) in
    omega (arith, e, f, g, h)

length_is : (key : PointKey) → IsKey key → length (bytes_of_key key) ≡ key_len (form_of key) key.depth
unfolding bytes_of_key
length_is key is =
    let flat = flat_map correction_bytes key.corrections in
    let f = length-append key.seed flat in
    let g = length-append (key.seed ++ flat) (last_bytes key.last) in
    let h = length-corrections key.corrections is.whole in
    omega (arith, f, g, h, is.seed, is.levels, is.last)

long_as : (form depth : ℕ) (key : PointKey) → IsKeyOf form depth key → length (bytes_of_key key) ≡ key_len form depth
long_as form depth key is = rw (← is.form, ← is.depth) (length_is key is.key)

-- a reading that did not fail
read_ok : (want : ℕ) (bytes : List ℕ) (read : Read PointKey) (key : PointKey) → read_of want bytes read ≡ Ok key → (x : PointKey × List ℕ) × (read ≡ Ok x) × (x.0 ≡ key)
read_ok want bytes (Ok x) key e = (x, refl, cc)
read_ok want bytes (Err f) key e = absurd cc

no_key : (f : KeyFault) (key : PointKey) → (let r : Result PointKey KeyFault = Err f in r) ≢ Ok key
no_key f key e = cc

-- what is read has the form and the depth, and is spelled so
pub spelled : (form depth : ℕ) (bytes : List ℕ) (key : PointKey) → 1 ≤ form → form ≤ 2 → 8 ≤ depth → depth ≤ 11 → IsBytes bytes → key_of form depth bytes ≡ Ok key
    → (form_of key ≡ form) × (key.depth ≡ depth) × (bytes ≡ bytes_of_key key)
unfolding key_of
spelled form depth bytes key one two low high fits e =
    elim (eqb_tells (length bytes) (key_len form depth)) [
      | inr h ↦ absurd (no_key (KeyLength (length bytes) (key_len form depth)) key (rw h.0 at e))
      | inl h ↦
          let r = read_ok (key_len form depth) bytes (key_at form depth (length bytes) bytes) key (rw h.0 at e) in
          let took = key_takes form depth (length bytes) bytes r.0 one two low high r.1 in
          let parts = (took.0 fits).parts in
          let long : length (bytes_of_key r.0.0) ≡ key_len form depth = long_as form depth r.0.0 took.1 in
          let none : r.0.1 ≡ [] = nil_from_length r.0.1 (omega (arith, long, h.1, ap (length {A = ℕ}) parts, length-append (bytes_of_key r.0.0) r.0.1)) in
          subst (λ (k : PointKey). (form_of k ≡ form) × (k.depth ≡ depth) × (bytes ≡ bytes_of_key k)) r.2
          (took.1.form, took.1.depth, parts ∙ ap (λ (xs : List ℕ). bytes_of_key r.0.0 ++ xs) none ∙ append-nil (bytes_of_key r.0.0))
    ]

pub read_back : (key : PointKey) → IsKey key → key_of (form_of key) key.depth (bytes_of_key key) ≡ Ok key
unfolding key_of
read_back key is =
    let bytes = bytes_of_key key in
    let want = key_len (form_of key) key.depth in
    let again : key_at (form_of key) key.depth (length bytes) bytes ≡ Ok (key, []) =
    ap (key_at (form_of key) key.depth (length bytes)) (sym (append-nil bytes)) ∙ key_again (length bytes) key [] is in
    rw (again, length_is key is, same_number want want refl) refl

pub only : (form depth : ℕ) (bytes : List ℕ) (key : PointKey) → IsKey key → form_of key ≡ form → key.depth ≡ depth → bytes ≡ bytes_of_key key
    → key_of form depth bytes ≡ Ok key
only form depth bytes key is e f g = rw (← e, ← f, g) (read_back key is)

-- ---- the parts of a key, as they are read

same_key : (depth party : ℕ) (seed : List ℕ) (cs ds : List Correction) (word : Option (List ℕ)) (rest : List ℕ) → cs ≡ ds
    → (let k : PointKey = record { depth = depth; party = party; seed = seed; corrections = cs; last = word } in let l : PointKey = record { depth = depth; party = party; seed = seed; corrections = ds; last = word } in read_as k rest ≡ read_as l rest)
same_key depth party seed cs ds word rest e = rw e refl

-- a reader read this
abbrev Took : {A : Type 0} → (ℕ → List ℕ → Read A) → A → Left → Left → Type 0
Took read x old new = (new.total ≡ old.total) × (read old.total old.rest ≡ Ok (x, new.rest))

took_by : {A : Type 0} (read : ℕ → List ℕ → Read A) (x : A) (total : ℕ) (old new : Left) → old.total ≡ total → Took read x old new → (new.total ≡ total) × (read total old.rest ≡ Ok (x, new.rest))
took_by read x total old new same took = (took.0 ∙ same, subst (λ (t : ℕ). read t old.rest ≡ Ok (x, new.rest)) same took.1)

-- the key that is read from them
pub key_read : (form depth : ℕ) (r0 r1 r2 r3 r4 r5 : Left) (d party : ℕ) (seed : List ℕ) (cs : List Correction) (word : Option (List ℕ)) → 1 ≤ form → form ≤ 2
    → Took (byte_at (is_depth_of depth)) d r0 r1 → Took (byte_at is_party) party r1 r2 → Took (field_at 16) seed r2 r3 → Took (many_at correction_at (levels_of form depth)) (take (levels_of form depth) cs) r3 r4 → Took (last_at form) word r4 r5
    → Took (key_at form depth) (kept_key depth party seed cs word) r0 r5
unfolding key_at
key_read form depth r0 r1 r2 r3 r4 r5 d party seed cs word one two e p s c l =
    let p1 = took_by (byte_at is_party) party r0.total r1 r2 e.0 p in
    let s1 = took_by (field_at 16) seed r0.total r2 r3 p1.0 s in
    let c1 = took_by (many_at correction_at (levels_of form depth)) (take (levels_of form depth) cs) r0.total r3 r4 s1.0 c in
    let l1 = took_by (last_at form) word r0.total r4 r5 c1.0 l in
    let end = (last_takes form r0.total r4.rest (word, r5.rest) one two l1.1).1 in
    let kept : take (levels_of form depth) cs ≡ take (levels_of (form_with word) depth) cs = ap (λ (f : ℕ). take (levels_of f depth) cs) (sym end.same) in
    (l1.0, rw (e.1, p1.1, s1.1, c1.1, l1.1) (same_key depth party seed (take (levels_of form depth) cs) (take (levels_of (form_with word) depth) cs) word r5.rest kept))
