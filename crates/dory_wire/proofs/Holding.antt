-- What a version holds: its sums and its lines are read as they are spelled.
use Rattle.std.proofs.Common.{◌≡◌, ℕ, ◌^◌, ◌≤◌, List, [], ◌∷◌, ◌++◌, length, Ok, refl, sym, ap, subst, ◌∙◌, append_assoc, arith}
use Rattle.std.specs.List.{flat_map, AllByRecursion}
use Rattle.std.specs.Int.{w16, w32, to_be_bytes}
use Rattle.dory_base.specs.TagBytes.{tag_bytes}
use Rattle.dory_base.specs.declared.found.Place.{Place}
use Rattle.dory_base.specs.declared.found.Sum.{Sum}
use Rattle.dory_base.specs.declared.found.Found.{Found}
use Rattle.dory_fields.specs.Bytes.{IsBytes, four}
use Rattle.dory_fields.specs.Packing.{packed}
use Rattle.dory_fields.specs.Reading.{◌>>=◌, Read, tested_at, byte_at, bits_at, many_at}
use Rattle.dory_fields.proofs.Fields.{bind_ok, ok_is, in_range, range_met, Takes, Takes-then, wide16, wide32, tested_takes, tested_again, byte_takes, byte_again}
use Rattle.dory_fields.proofs.Many.{many_take, many_again}
use Rattle.dory_fields.proofs.Packing.{bits_take, bits_again}
use Rattle.dory_wire.specs.Spelling.{line, sum, found, IsSum, IsFound}
use Rattle.dory_wire.specs.Reading.{lines_at, sum_at, found_at, tag_at, is_count, is_lines, is_few}
use Rattle.dory_wire.proofs.Fields.{tag_takes, tag_read_again}
use Rattle.dory_wire.proofs.Lines.{IsLeast, rises_increase, increase_rises, lines_take, lines_again}

pub sum_takes : (lines total : ℕ) (bytes : List ℕ) (x : Sum × List ℕ) → IsBytes bytes → sum_at lines total bytes ≡ Ok x → Takes bytes (sum x.0) x.1 × IsSum lines x.0
unfolding sum_at
sum_takes lines total bytes x fits e =
    let a = bind_ok (bits_at lines total bytes) (λ bits. tag_at total bits.1 >>= λ tag. Ok (record { bits = bits.0; tag = tag.0 }, tag.1)) x e in
    let b = bind_ok (tag_at total a.0.1) (λ tag. Ok (record { bits = a.0.0; tag = tag.0 }, tag.1)) x a.2 in
    let t0 = bits_take lines total bytes a.0 fits a.1 in
    let t1 = tag_takes total a.0.1 b.0 t0.0.rest_fits b.1 in
    let both = Takes-then bytes (packed a.0.0) a.0.1 (tag_bytes b.0.0) b.0.1 t0.0 t1.0 in
    let made : Sum = record { bits = a.0.0; tag = b.0.0 } in
    subst (λ (y : Sum × List ℕ). Takes bytes (sum y.0) y.1 × IsSum lines y.0) (ok_is (made, b.0.1) x b.2) (both, record { bits = t0.1; tag = t1.1 })

pub sum_again : (lines total : ℕ) (s : Sum) (rest : List ℕ) → IsSum lines s → sum_at lines total (sum s ++ rest) ≡ Ok (s, rest)
unfolding sum_at
sum_again lines total s rest is =
    let regrouped : sum s ++ rest ≡ packed s.bits ++ (tag_bytes s.tag ++ rest) = append_assoc (packed s.bits) (tag_bytes s.tag) rest in
    ap (sum_at lines total) regrouped ∙ rw (bits_again lines total s.bits (tag_bytes s.tag ++ rest) is.bits, tag_read_again total s.tag rest is.tag) refl

-- the parts of a found, from left to right
regroup : (a b c : List ℕ) (n : ℕ) (d rest : List ℕ) → (a ++ b ++ c ++ n ∷ d) ++ rest ≡ a ++ (b ++ (c ++ (n ∷ (d ++ rest))))
regroup a b c n d rest = simp append_assoc

abbrev after_sums : (version count : ℕ) → List Place → List Sum × List ℕ → Read Found
after_sums version count lines sums = Ok (record { version = version; manifest = lines; sums = sums.0 }, sums.1)

abbrev after_probes : ℕ → (version count : ℕ) → List Place → ℕ × List ℕ → Read Found
after_probes total version count lines probes = many_at (sum_at count) probes.0 total probes.1 >>= λ sums. after_sums version count lines sums

abbrev after_lines : ℕ → (version count : ℕ) → List Place × List ℕ → Read Found
after_lines total version count lines = byte_at is_few total lines.1 >>= λ probes. after_probes total version count lines.0 probes

abbrev after_count : ℕ → ℕ → ℕ × List ℕ → Read Found
after_count total version count = lines_at count.0 0 total count.1 >>= λ lines. after_lines total version count.0 lines

abbrev after_version : ℕ → ℕ × List ℕ → Read Found
after_version total version = tested_at w16 is_lines total version.1 >>= λ count. after_count total version.0 count

pub found_takes : (total : ℕ) (bytes : List ℕ) (x : Found × List ℕ) → IsBytes bytes → found_at total bytes ≡ Ok x → Takes bytes (found x.0) x.1 × IsFound x.0
unfolding found_at
found_takes total bytes x fits e =
    let a = bind_ok (tested_at w32 is_count total bytes) (after_version total) x e in
    let b = bind_ok (tested_at w16 is_lines total a.0.1) (after_count total a.0.0) x a.2 in
    let c = bind_ok (lines_at b.0.0 0 total b.0.1) (after_lines total a.0.0 b.0.0) x b.2 in
    let d = bind_ok (byte_at is_few total c.0.1) (after_probes total a.0.0 b.0.0 c.0.0) x c.2 in
    let s = bind_ok (many_at (sum_at b.0.0) d.0.0 total d.0.1) (after_sums a.0.0 b.0.0 c.0.0) x d.2 in
    let t0 = tested_takes w32 (2 ^ 32) wide32 is_count total bytes a.0.0 a.0.1 fits a.1 in
    let t1 = tested_takes w16 (2 ^ 16) wide16 is_lines total a.0.1 b.0.0 b.0.1 t0.0.rest_fits b.1 in
    let t2 = lines_take b.0.0 0 total b.0.1 c.0 t1.0.rest_fits c.1 in
    let t3 = byte_takes is_few total c.0.1 d.0.0 d.0.1 t2.0.rest_fits d.1 in
    let t4 = many_take (sum_at b.0.0) sum (IsSum b.0.0) (sum_takes b.0.0) d.0.0 total d.0.1 s.0 t3.0.rest_fits s.1 in
    let p1 = Takes-then bytes (four a.0.0) a.0.1 (to_be_bytes w16 b.0.0) b.0.1 t0.0 t1.0 in
    let p2 = Takes-then bytes (four a.0.0 ++ to_be_bytes w16 b.0.0) b.0.1 (flat_map line c.0.0) c.0.1 p1 t2.0 in
    let p3 = Takes-then c.0.1 (d.0.0 ∷ []) d.0.1 (flat_map sum s.0.0) s.0.1 t3.0 t4.0 in
    let p4 = Takes-then bytes (four a.0.0 ++ to_be_bytes w16 b.0.0 ++ flat_map line c.0.0) c.0.1 (d.0.0 ∷ flat_map sum s.0.0) s.0.1 p2 p3 in
    let made : Found = record { version = a.0.0; manifest = c.0.0; sums = s.0.0 } in
    let text : four a.0.0 ++ to_be_bytes w16 b.0.0 ++ flat_map line c.0.0 ++ d.0.0 ∷ flat_map sum s.0.0 ≡ found made =
    (λ i. four a.0.0 ++ to_be_bytes w16 (sym t2.1 i) ++ flat_map line c.0.0 ++ (sym t4.1 i) ∷ flat_map sum s.0.0) in
    let is : IsFound made = record {
      version = (in_range 0 1048576 a.0.0 t0.2).1;
      lines = t2.2;
      rising = rises_increase 0 c.0.0 t2.3;
      many = subst (λ (k : ℕ). k ≤ 4096) (sym t2.1) (in_range 0 4096 b.0.0 t1.2).1;
      probes = subst (λ (k : ℕ). k ≤ 8) (sym t4.1) (in_range 0 8 d.0.0 t3.1).1;
      sums = subst (λ (k : ℕ). AllByRecursion (IsSum k) s.0.0) (sym t2.1) t4.2;
    } in
    subst (λ (y : Found × List ℕ). Takes bytes (found y.0) y.1 × IsFound y.0) (ok_is (made, s.0.1) x s.2) (subst (λ (y : List ℕ). Takes bytes y s.0.1) text p4, is)

from_zero : (ps : List Place) → IsLeast 0 ps
from_zero [] = tt
from_zero (p ∷ ps) = omega arith

pub found_again : (total : ℕ) (f : Found) (rest : List ℕ) → IsFound f → found_at total (found f ++ rest) ≡ Ok (f, rest)
unfolding found_at
found_again total f rest is =
    let r3 = flat_map sum f.sums ++ rest in
    let r2 = length f.sums ∷ r3 in
    let r1 = flat_map line f.manifest ++ r2 in
    let r0 = to_be_bytes w16 (length f.manifest) ++ r1 in
    let version = tested_again w32 (2 ^ 32) wide32 is_count total f.version r0 (omega (arith, is.version)) (range_met 0 1048576 f.version (omega arith) is.version) in
    let count = tested_again w16 (2 ^ 16) wide16 is_lines total (length f.manifest) r1 (omega (arith, is.many)) (range_met 0 4096 (length f.manifest) (omega arith) is.many) in
    let lines = lines_again 0 total f.manifest r2 is.lines (increase_rises 0 f.manifest (from_zero f.manifest) is.rising) in
    let probes = byte_again is_few total (length f.sums) r3 (range_met 0 8 (length f.sums) (omega arith) is.probes) in
    let sums = many_again (sum_at (length f.manifest)) sum (IsSum (length f.manifest)) total (sum_again (length f.manifest) total) f.sums rest is.sums in
    ap (found_at total) (regroup (four f.version) (to_be_bytes w16 (length f.manifest)) (flat_map line f.manifest) (length f.sums) (flat_map sum f.sums) rest)
    ∙ rw (version, count, lines, probes, sums) refl
