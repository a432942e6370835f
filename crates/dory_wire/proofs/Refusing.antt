-- A refusal is read as it is spelled.
use Rattle.std.proofs.Common.{◌≡◌, ℕ, zero, suc, ◌^◌, ◌≤◌, true, cond, eqb, List, [], ◌∷◌, ◌++◌, Ok, refl, sym, ap, subst, ◌∙◌, append_assoc, arith}
use Rattle.std.specs.Int.{w32, w64}
use Rattle.dory_base.specs.declared.ids.Side.{Side}
use Rattle.dory_base.specs.declared.ids.Side.TheVariants.{Lead, Follow}
use Rattle.dory_base.specs.declared.refusal.Refusal.{Refusal}
use Rattle.dory_base.specs.declared.refusal.Refusal.TheVariants.{NoFolder, ShapeWrong, Unretained, BadMember, Past, Clash, Unfinished, Unstaged, Taken, Gap, WrongRole, HistoryFull, NoEntry, NoMemory}
use Rattle.dory_fields.specs.Bytes.{four, IsBytes}
use Rattle.dory_fields.specs.Reading.{Read, ◌>>=◌, number_at, tested_at, byte_at}
use Rattle.dory_fields.proofs.Fields.{in_range, range_met, bind_ok, ok_is, Takes, Takes-then, wide32, wide64, number_takes, number_again, tested_takes, tested_again, byte_takes, byte_again}
use Rattle.dory_wire.specs.Spelling.{role_byte, refusal, refusal_code, refusal_fields, IsRefusal}
use Rattle.dory_wire.specs.Reading.{named_at, numbered_at, counted_at, shape_at, retained_at, member_at, past_at, role_at, role_of, later_code_at, code_at, refusal_at, is_code, is_count, is_depth, is_probes, is_role}
use Rattle.dory_wire.proofs.Made.{named_takes, named_again, numbered_takes, numbered_again, counted_takes, counted_again, by_number, at_last}

-- what was read of a refusal of this code
pub record TakesCode (code : ℕ) (bytes : List ℕ) (x : Refusal × List ℕ) : Type 0 where
  pub code_is : refusal_code x.0 ≡ code
  pub takes : Takes bytes (refusal_fields x.0) x.1
  pub ranges : IsRefusal x.0

shape_takes : (total : ℕ) (bytes : List ℕ) (x : Refusal × List ℕ) → IsBytes bytes → shape_at total bytes ≡ Ok x → TakesCode 2 bytes x
unfolding shape_at
shape_takes total bytes x fits e =
    let a = bind_ok (byte_at is_depth total bytes) (λ depth. byte_at is_probes total depth.1 >>= λ probes. Ok (ShapeWrong depth.0 probes.0, probes.1)) x e in
    let b = bind_ok (byte_at is_probes total a.0.1) (λ probes. Ok (ShapeWrong a.0.0 probes.0, probes.1)) x a.2 in
    let t0 = byte_takes is_depth total bytes a.0.0 a.0.1 fits a.1 in
    let t1 = byte_takes is_probes total a.0.1 b.0.0 b.0.1 t0.0.rest_fits b.1 in
    let depth = in_range 8 11 a.0.0 t0.1 in
    let probes = in_range 1 8 b.0.0 t1.1 in
    let made : Refusal × List ℕ = (ShapeWrong a.0.0 b.0.0, b.0.1) in
    subst (TakesCode 2 bytes) (ok_is made x b.2) (record {
      code_is = refl;
      takes = Takes-then bytes (a.0.0 ∷ []) a.0.1 (b.0.0 ∷ []) b.0.1 t0.0 t1.0;
      ranges = (depth.0, depth.1, probes.0, probes.1);
    })

retained_takes : (total : ℕ) (bytes : List ℕ) (x : Refusal × List ℕ) → IsBytes bytes → retained_at total bytes ≡ Ok x → TakesCode 3 bytes x
unfolding retained_at
retained_takes total bytes x fits e =
    let a = bind_ok (tested_at w32 is_count total bytes) (λ oldest. tested_at w32 is_count total oldest.1 >>= λ newest. Ok (Unretained oldest.0 newest.0, newest.1)) x e in
    let b = bind_ok (tested_at w32 is_count total a.0.1) (λ newest. Ok (Unretained a.0.0 newest.0, newest.1)) x a.2 in
    let t0 = tested_takes w32 (2 ^ 32) wide32 is_count total bytes a.0.0 a.0.1 fits a.1 in
    let t1 = tested_takes w32 (2 ^ 32) wide32 is_count total a.0.1 b.0.0 b.0.1 t0.0.rest_fits b.1 in
    let made : Refusal × List ℕ = (Unretained a.0.0 b.0.0, b.0.1) in
    subst (TakesCode 3 bytes) (ok_is made x b.2) (record {
      code_is = refl;
      takes = Takes-then bytes (four a.0.0) a.0.1 (four b.0.0) b.0.1 t0.0 t1.0;
      ranges = ((in_range 0 1048576 a.0.0 t0.2).1, (in_range 0 1048576 b.0.0 t1.2).1);
    })

member_takes : (total : ℕ) (bytes : List ℕ) (x : Refusal × List ℕ) → IsBytes bytes → member_at total bytes ≡ Ok x → TakesCode 4 bytes x
unfolding member_at
member_takes total bytes x fits e =
    let a = bind_ok (number_at w32 total bytes) (λ member. Ok (BadMember (record { 0 = member.0 }), member.1)) x e in
    let t = number_takes w32 (2 ^ 32) wide32 total bytes a.0.0 a.0.1 fits a.1 in
    subst (TakesCode 4 bytes) (ok_is (BadMember (record { 0 = a.0.0 }), a.0.1) x a.2) (record { code_is = refl; takes = t.0; ranges = t.1 })

past_takes : (total : ℕ) (bytes : List ℕ) (x : Refusal × List ℕ) → IsBytes bytes → past_at total bytes ≡ Ok x → TakesCode 5 bytes x
unfolding past_at
past_takes total bytes x fits e =
    let a = bind_ok (number_at w64 total bytes) (λ last. Ok (Past last.0, last.1)) x e in
    let t = number_takes w64 (2 ^ 64) wide64 total bytes a.0.0 a.0.1 fits a.1 in
    subst (TakesCode 5 bytes) (ok_is (Past a.0.0, a.0.1) x a.2) (record { code_is = refl; takes = t.0; ranges = t.1 })

role_again : (n : ℕ) → n ≤ 1 → role_byte (role_of n) ≡ n
role_again zero h = refl
role_again (suc zero) h = refl
role_again (suc (suc n)) h = absurd (omega arith)

role_takes : (total : ℕ) (bytes : List ℕ) (x : Refusal × List ℕ) → IsBytes bytes → role_at total bytes ≡ Ok x → TakesCode 11 bytes x
unfolding role_at
role_takes total bytes x fits e =
    let a = bind_ok (byte_at is_role total bytes) (λ role. Ok (WrongRole (role_of role.0), role.1)) x e in
    let t = byte_takes is_role total bytes a.0.0 a.0.1 fits a.1 in
    let text : role_byte (role_of a.0.0) ≡ a.0.0 = role_again a.0.0 (in_range 0 1 a.0.0 t.1).1 in
    subst (TakesCode 11 bytes) (ok_is (WrongRole (role_of a.0.0), a.0.1) x a.2) (record { code_is = refl; takes = subst (λ (n : ℕ). Takes bytes (n ∷ []) a.0.1) (sym text) t.0; ranges = tt })

no_fields : (code : ℕ) (bytes : List ℕ) (r : Refusal) (x : Refusal × List ℕ) → IsBytes bytes → refusal_code r ≡ code → refusal_fields r ≡ [] → IsRefusal r → (r, bytes) ≡ x → TakesCode code bytes x
no_fields code bytes r x fits code_is none is same =
    subst (TakesCode code bytes) same (record { code_is = code_is; takes = record { parts = ap (λ (y : List ℕ). y ++ bytes) (sym none); rest_fits = fits }; ranges = is })

-- ---- the fields by the code

abbrev code_from_11 : ℕ → ℕ → List ℕ → Read Refusal
code_from_11 code total bytes = cond (eqb code 11) (role_at total bytes) (cond (eqb code 12) (Ok (HistoryFull, bytes)) (cond (eqb code 13) (counted_at NoEntry total bytes) (Ok (NoMemory, bytes))))

from_11_takes : (code total : ℕ) (bytes : List ℕ) (x : Refusal × List ℕ) → IsBytes bytes → 11 ≤ code → code ≤ 14 → code_from_11 code total bytes ≡ Ok x → TakesCode code bytes x
from_11_takes code total bytes x fits low high =
    by_number code 11 (λ n. TakesCode n bytes x) (role_at total bytes) (cond (eqb code 12) (Ok (HistoryFull, bytes)) (cond (eqb code 13) (counted_at NoEntry total bytes) (Ok (NoMemory, bytes)))) x low
    (role_takes total bytes x fits)
    (λ above. by_number code 12 (λ n. TakesCode n bytes x) (Ok (HistoryFull, bytes)) (cond (eqb code 13) (counted_at NoEntry total bytes) (Ok (NoMemory, bytes))) x above
    (λ e. no_fields 12 bytes HistoryFull x fits refl refl tt (ok_is (HistoryFull, bytes) x e))
    (λ more. by_number code 13 (λ n. TakesCode n bytes x) (counted_at NoEntry total bytes) (Ok (NoMemory, bytes)) x more
    (λ e. counted_takes NoEntry (TakesCode 13 bytes) total bytes x fits e (λ n rest t is. record { code_is = refl; takes = t; ranges = is }))
    (λ most e. at_last code 14 (λ n. TakesCode n bytes x) most high (no_fields 14 bytes NoMemory x fits refl refl tt (ok_is (NoMemory, bytes) x e)))))

later_takes : (code total : ℕ) (bytes : List ℕ) (x : Refusal × List ℕ) → IsBytes bytes → 8 ≤ code → code ≤ 14 → later_code_at code total bytes ≡ Ok x → TakesCode code bytes x
unfolding later_code_at
later_takes code total bytes x fits low high =
    by_number code 8 (λ n. TakesCode n bytes x) (named_at Unstaged total bytes) (cond (eqb code 9) (numbered_at Taken total bytes) (cond (eqb code 10) (counted_at Gap total bytes) (code_from_11 code total bytes))) x low
    (λ e. named_takes Unstaged (TakesCode 8 bytes) total bytes x fits e (λ name rest t is. record { code_is = refl; takes = t; ranges = is }))
    (λ above. by_number code 9 (λ n. TakesCode n bytes x) (numbered_at Taken total bytes) (cond (eqb code 10) (counted_at Gap total bytes) (code_from_11 code total bytes)) x above
    (λ e. numbered_takes Taken (TakesCode 9 bytes) total bytes x fits e (λ number name rest t is. record { code_is = refl; takes = t; ranges = is }))
    (λ more. by_number code 10 (λ n. TakesCode n bytes x) (counted_at Gap total bytes) (code_from_11 code total bytes) x more
    (λ e. counted_takes Gap (TakesCode 10 bytes) total bytes x fits e (λ n rest t is. record { code_is = refl; takes = t; ranges = is }))
    (λ most. from_11_takes code total bytes x fits most high)))

abbrev code_from_5 : ℕ → ℕ → List ℕ → Read Refusal
code_from_5 code total bytes = cond (eqb code 5) (past_at total bytes) (cond (eqb code 6) (named_at Clash total bytes) (cond (eqb code 7) (named_at Unfinished total bytes) (later_code_at code total bytes)))

from_5_takes : (code total : ℕ) (bytes : List ℕ) (x : Refusal × List ℕ) → IsBytes bytes → 5 ≤ code → code ≤ 14 → code_from_5 code total bytes ≡ Ok x → TakesCode code bytes x
from_5_takes code total bytes x fits low high =
    by_number code 5 (λ n. TakesCode n bytes x) (past_at total bytes) (cond (eqb code 6) (named_at Clash total bytes) (cond (eqb code 7) (named_at Unfinished total bytes) (later_code_at code total bytes))) x low
    (past_takes total bytes x fits)
    (λ above. by_number code 6 (λ n. TakesCode n bytes x) (named_at Clash total bytes) (cond (eqb code 7) (named_at Unfinished total bytes) (later_code_at code total bytes)) x above
    (λ e. named_takes Clash (TakesCode 6 bytes) total bytes x fits e (λ name rest t is. record { code_is = refl; takes = t; ranges = is }))
    (λ more. by_number code 7 (λ n. TakesCode n bytes x) (named_at Unfinished total bytes) (later_code_at code total bytes) x more
    (λ e. named_takes Unfinished (TakesCode 7 bytes) total bytes x fits e (λ name rest t is. record { code_is = refl; takes = t; ranges = is }))
    (λ most. later_takes code total bytes x fits most high)))

abbrev code_from_3 : ℕ → ℕ → List ℕ → Read Refusal
code_from_3 code total bytes = cond (eqb code 3) (retained_at total bytes) (cond (eqb code 4) (member_at total bytes) (code_from_5 code total bytes))

from_3_takes : (code total : ℕ) (bytes : List ℕ) (x : Refusal × List ℕ) → IsBytes bytes → 3 ≤ code → code ≤ 14 → code_from_3 code total bytes ≡ Ok x → TakesCode code bytes x
from_3_takes code total bytes x fits low high =
    by_number code 3 (λ n. TakesCode n bytes x) (retained_at total bytes) (cond (eqb code 4) (member_at total bytes) (code_from_5 code total bytes)) x low
    (retained_takes total bytes x fits)
    (λ more. by_number code 4 (λ n. TakesCode n bytes x) (member_at total bytes) (code_from_5 code total bytes) x more
    (member_takes total bytes x fits)
    (λ most. from_5_takes code total bytes x fits most high))

code_takes : (code total : ℕ) (bytes : List ℕ) (x : Refusal × List ℕ) → IsBytes bytes → is_code code ≡ true → code_at code total bytes ≡ Ok x → TakesCode code bytes x
unfolding code_at
code_takes code total bytes x fits known e =
    let r = in_range 1 14 code known in
    by_number code 1 (λ n. TakesCode n bytes x) (Ok (NoFolder, bytes)) (cond (eqb code 2) (shape_at total bytes) (code_from_3 code total bytes)) x r.0
    (λ got. no_fields 1 bytes NoFolder x fits refl refl tt (ok_is (NoFolder, bytes) x got))
    (λ more. by_number code 2 (λ n. TakesCode n bytes x) (shape_at total bytes) (code_from_3 code total bytes) x more
    (shape_takes total bytes x fits)
    (λ most. from_3_takes code total bytes x fits most r.1)) e

pub refusal_takes : (total : ℕ) (bytes : List ℕ) (x : Refusal × List ℕ) → IsBytes bytes → refusal_at total bytes ≡ Ok x → Takes bytes (refusal x.0) x.1 × IsRefusal x.0
unfolding refusal_at
refusal_takes total bytes x fits e =
    let a = bind_ok (byte_at is_code total bytes) (λ code. code_at code.0 total code.1) x e in
    let t0 = byte_takes is_code total bytes a.0.0 a.0.1 fits a.1 in
    let t1 = code_takes a.0.0 total a.0.1 x t0.0.rest_fits t0.1 a.2 in
    let both = Takes-then bytes (a.0.0 ∷ []) a.0.1 (refusal_fields x.0) x.1 t0.0 t1.takes in
    (subst (λ (n : ℕ). Takes bytes (n ∷ refusal_fields x.0) x.1) (sym t1.code_is) both, t1.ranges)

-- ---- what is spelled is read

role_of_byte : (s : Side) → role_of (role_byte s) ≡ s
role_of_byte Lead = refl
role_of_byte Follow = refl

role_met : (s : Side) → is_role (role_byte s) ≡ true
role_met Lead = refl
role_met Follow = refl

fields_again : (total : ℕ) (r : Refusal) (rest : List ℕ) → IsRefusal r → code_at (refusal_code r) total (refusal_fields r ++ rest) ≡ Ok (r, rest)
unfolding code_at later_code_at shape_at retained_at member_at past_at role_at
fields_again total NoFolder rest is = refl
fields_again total (ShapeWrong depth probes) rest is =
    rw (byte_again is_depth total depth (probes ∷ rest) (range_met 8 11 depth is.0 is.1), byte_again is_probes total probes rest (range_met 1 8 probes is.2 is.3)) refl
fields_again total (Unretained oldest newest) rest is =
    ap (retained_at total) (append_assoc (four oldest) (four newest) rest)
    ∙ rw (tested_again w32 (2 ^ 32) wide32 is_count total oldest (four newest ++ rest) (omega (arith, is.0)) (range_met 0 1048576 oldest (omega arith) is.0), tested_again w32 (2 ^ 32) wide32 is_count total newest rest (omega (arith, is.1)) (range_met 0 1048576 newest (omega arith) is.1)) refl
fields_again total (BadMember member) rest is = rw (number_again w32 (2 ^ 32) wide32 total member.0 rest is) refl
fields_again total (Past last) rest is = rw (number_again w64 (2 ^ 64) wide64 total last rest is) refl
fields_again total (Clash name) rest is = named_again Clash total name rest is
fields_again total (Unfinished name) rest is = named_again Unfinished total name rest is
fields_again total (Unstaged name) rest is = named_again Unstaged total name rest is
fields_again total (Taken number name) rest is = numbered_again Taken total number name rest is
fields_again total (Gap n) rest is = counted_again Gap total n rest is
fields_again total (WrongRole role) rest is = rw (byte_again is_role total (role_byte role) rest (role_met role)) (ap (λ (s : Side). Ok (WrongRole s, rest)) (role_of_byte role))
fields_again total HistoryFull rest is = refl
fields_again total (NoEntry n) rest is = counted_again NoEntry total n rest is
fields_again total NoMemory rest is = refl

code_met : (r : Refusal) → is_code (refusal_code r) ≡ true
code_met NoFolder = refl
code_met (ShapeWrong depth probes) = refl
code_met (Unretained oldest newest) = refl
code_met (BadMember member) = refl
code_met (Past last) = refl
code_met (Clash name) = refl
code_met (Unfinished name) = refl
code_met (Unstaged name) = refl
code_met (Taken number name) = refl
code_met (Gap n) = refl
code_met (WrongRole role) = refl
code_met HistoryFull = refl
code_met (NoEntry n) = refl
code_met NoMemory = refl

pub refusal_again : (total : ℕ) (r : Refusal) (rest : List ℕ) → IsRefusal r → refusal_at total (refusal r ++ rest) ≡ Ok (r, rest)
unfolding refusal_at
refusal_again total r rest is = rw (byte_again is_code total (refusal_code r) (refusal_fields r ++ rest) (code_met r)) (fields_again total r rest is)
