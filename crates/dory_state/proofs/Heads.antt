-- What both forms begin with: what is read is spelled so, and what is spelled so is read.
use Rattle.std.proofs.Common.{◌≡◌, ℕ, ◌<◌, ◌≤◌, ◌^◌, List, [], ◌∷◌, ◌++◌, length, None, Ok, refl, ap, subst, ◌∙◌, append_assoc, arith}
use Rattle.std.specs.Int.{w32, w64, is_in_range}
use Rattle.dory_base.specs.Dims.{Dims, IsDims}
use Rattle.dory_base.specs.declared.ids.FolderId.{FolderId}
use Rattle.dory_base.specs.declared.ids.MemberId.{MemberId}
use Rattle.dory_state.specs.declared.kept.Head.{Head}
use Rattle.dory_state.specs.declared.kept.KeptState.{KeptState}
use Rattle.dory_fields.specs.Bytes.{IsBytes, eight, four}
use Rattle.dory_fields.specs.Reading.{◌>>=◌, byte_at, field_at, number_at, tested_at}
use Rattle.dory_fields.proofs.Fields.{Takes, Takes-then, bind_ok, byte_takes, byte_again, field_again, field_takes, in_range, number_again, number_takes, ok_is, range_met, tested_again, tested_takes, wide32, wide64}
use Rattle.dory_state.specs.Spelling.{IsKeptState, head}
use Rattle.dory_state.specs.Reading.{counts_at, head_at, kept, owner_at, shape_at}

-- ---- whose state it is

abbrev owner : FolderId × MemberId → List ℕ
owner o = four o.0.0 ++ four o.1.0

owner_takes : (total : ℕ) (bytes : List ℕ) (x : (FolderId × MemberId) × List ℕ) → IsBytes bytes → owner_at total bytes ≡ Ok x
    → Takes bytes (owner x.0) x.1 × (x.0.0.0 < 2 ^ 32) × (x.0.1.0 ≤ 63)
unfolding owner_at
owner_takes total bytes x fits e =
    let a = bind_ok (number_at w32 total bytes) (λ folder. tested_at w32 (is_in_range 0 63) total folder.1 >>= λ member. Ok ((record { 0 = folder.0 }, record { 0 = member.0 }), member.1)) x e in
    let b = bind_ok (tested_at w32 (is_in_range 0 63) total a.0.1) (λ member. Ok ((record { 0 = a.0.0 }, record { 0 = member.0 }), member.1)) x a.2 in
    let t0 = number_takes w32 (2 ^ 32) wide32 total bytes a.0.0 a.0.1 fits a.1 in
    let t1 = tested_takes w32 (2 ^ 32) wide32 (is_in_range 0 63) total a.0.1 b.0.0 b.0.1 t0.0.rest_fits b.1 in
    let made : (FolderId × MemberId) × List ℕ = ((record { 0 = a.0.0 }, record { 0 = b.0.0 }), b.0.1) in
    subst (λ (y : (FolderId × MemberId) × List ℕ). Takes bytes (owner y.0) y.1 × (y.0.0.0 < 2 ^ 32) × (y.0.1.0 ≤ 63)) (ok_is made x b.2)
    (Takes-then bytes (four a.0.0) a.0.1 (four b.0.0) b.0.1 t0.0 t1.0, t0.1, (in_range 0 63 b.0.0 t1.2).1)

owner_again : (total : ℕ) (folder : FolderId) (member : MemberId) (rest : List ℕ) → folder.0 < 2 ^ 32 → member.0 ≤ 63 → owner_at total (four folder.0 ++ (four member.0 ++ rest)) ≡ Ok ((folder, member), rest)
unfolding owner_at
owner_again total folder member rest lt few =
    rw (
      number_again w32 (2 ^ 32) wide32 total folder.0 (four member.0 ++ rest) lt,
      tested_again w32 (2 ^ 32) wide32 (is_in_range 0 63) total member.0 rest (omega (arith, few)) (range_met 0 63 member.0 (omega arith) few),
    ) refl

-- ---- the shape

abbrev dims : Dims → List ℕ
dims shape = shape.depth ∷ shape.probes ∷ []

shape_takes : (total : ℕ) (bytes : List ℕ) (x : Dims × List ℕ) → IsBytes bytes → shape_at total bytes ≡ Ok x → Takes bytes (dims x.0) x.1 × IsDims x.0
unfolding shape_at
shape_takes total bytes x fits e =
    let a = bind_ok (byte_at (is_in_range 8 11) total bytes) (λ depth. byte_at (is_in_range 1 8) total depth.1 >>= λ probes. Ok (record { depth = depth.0; probes = probes.0 }, probes.1)) x e in
    let b = bind_ok (byte_at (is_in_range 1 8) total a.0.1) (λ probes. Ok (record { depth = a.0.0; probes = probes.0 }, probes.1)) x a.2 in
    let t0 = byte_takes (is_in_range 8 11) total bytes a.0.0 a.0.1 fits a.1 in
    let t1 = byte_takes (is_in_range 1 8) total a.0.1 b.0.0 b.0.1 t0.0.rest_fits b.1 in
    let depth = in_range 8 11 a.0.0 t0.1 in
    let probes = in_range 1 8 b.0.0 t1.1 in
    let made : Dims × List ℕ = (record { depth = a.0.0; probes = b.0.0 }, b.0.1) in
    subst (λ (y : Dims × List ℕ). Takes bytes (dims y.0) y.1 × IsDims y.0) (ok_is made x b.2)
    (Takes-then bytes (a.0.0 ∷ []) a.0.1 (b.0.0 ∷ []) b.0.1 t0.0 t1.0, record { low = depth.0; high = depth.1; some = probes.0; few = probes.1 })

shape_again : (total : ℕ) (shape : Dims) (rest : List ℕ) → IsDims shape → shape_at total (shape.depth ∷ shape.probes ∷ rest) ≡ Ok (shape, rest)
unfolding shape_at
shape_again total shape rest is = rw (
  byte_again (is_in_range 8 11) total shape.depth (shape.probes ∷ rest) (range_met 8 11 shape.depth is.low is.high),
  byte_again (is_in_range 1 8) total shape.probes rest (range_met 1 8 shape.probes is.some is.few),
) refl

-- ---- the next serial, and the version seen

abbrev counts : ℕ × ℕ → List ℕ
counts c = eight c.0 ++ four c.1

record AreCounts (latest : ℕ) (c : ℕ × ℕ) : Type 0 where
  next : 1 ≤ c.0
  early : c.0 ≤ latest
  serials : c.0 < 2 ^ 64
  seen : c.1 ≤ 1048576

counts_take : (latest total : ℕ) (bytes : List ℕ) (x : (ℕ × ℕ) × List ℕ) → IsBytes bytes → counts_at latest total bytes ≡ Ok x → Takes bytes (counts x.0) x.1 × AreCounts latest x.0
unfolding counts_at
counts_take latest total bytes x fits e =
    let a = bind_ok (tested_at w64 (is_in_range 1 latest) total bytes) (λ next. tested_at w32 (is_in_range 0 1048576) total next.1 >>= λ seen. Ok ((next.0, seen.0), seen.1)) x e in
    let b = bind_ok (tested_at w32 (is_in_range 0 1048576) total a.0.1) (λ seen. Ok ((a.0.0, seen.0), seen.1)) x a.2 in
    let t0 = tested_takes w64 (2 ^ 64) wide64 (is_in_range 1 latest) total bytes a.0.0 a.0.1 fits a.1 in
    let t1 = tested_takes w32 (2 ^ 32) wide32 (is_in_range 0 1048576) total a.0.1 b.0.0 b.0.1 t0.0.rest_fits b.1 in
    let next = in_range 1 latest a.0.0 t0.2 in
    let made : (ℕ × ℕ) × List ℕ = ((a.0.0, b.0.0), b.0.1) in
    subst (λ (y : (ℕ × ℕ) × List ℕ). Takes bytes (counts y.0) y.1 × AreCounts latest y.0) (ok_is made x b.2)
    (Takes-then bytes (eight a.0.0) a.0.1 (four b.0.0) b.0.1 t0.0 t1.0, record { next = next.0; early = next.1; serials = t0.1; seen = (in_range 0 1048576 b.0.0 t1.2).1 })

counts_again : (latest total next seen : ℕ) (rest : List ℕ) → AreCounts latest (next, seen) → counts_at latest total (eight next ++ (four seen ++ rest)) ≡ Ok ((next, seen), rest)
unfolding counts_at
counts_again latest total next seen rest are =
    rw (
      tested_again w64 (2 ^ 64) wide64 (is_in_range 1 latest) total next (four seen ++ rest) are.serials (range_met 1 latest next are.next are.early),
      tested_again w32 (2 ^ 32) wide32 (is_in_range 0 1048576) total seen rest (omega (arith, are.seen)) (range_met 0 1048576 seen (omega arith) are.seen),
    ) refl

-- ---- the head

pub record IsHead (latest : ℕ) (h : Head) : Type 0 where
  pub folder : h.folder.0 < 2 ^ 32
  pub member : h.member.0 ≤ 63
  pub shape : IsDims h.shape
  pub master : length h.master ≡ 32
  pub next : 1 ≤ h.next_serial
  pub early : h.next_serial ≤ latest
  pub serials : h.next_serial < 2 ^ 64
  pub seen : h.seen ≤ 1048576

abbrev pub text_of : Head → List ℕ
text_of h = head (kept h 0 None)

abbrev head_of : FolderId × MemberId → Dims → List ℕ → ℕ × ℕ → Head
head_of o shape master c = record { folder = o.0; member = o.1; shape = shape; master = master; next_serial = c.0; seen = c.1 }

in_parts : (a b c m d e : List ℕ) → (a ++ b) ++ (c ++ (m ++ (d ++ e))) ≡ a ++ b ++ c ++ m ++ d ++ e
in_parts a b c m d e = simp append_assoc

taken_head : (latest total : ℕ) (bytes : List ℕ) (made x : Head × List ℕ) → made ≡ x → Takes bytes (text_of made.0) made.1 → IsHead latest made.0 → Takes bytes (text_of x.0) x.1 × IsHead latest x.0
taken_head latest total bytes made x e takes is = subst (λ (y : Head × List ℕ). Takes bytes (text_of y.0) y.1 × IsHead latest y.0) e (takes, is)

pub head_takes : (latest total : ℕ) (bytes : List ℕ) (x : Head × List ℕ) → IsBytes bytes → head_at latest total bytes ≡ Ok x → Takes bytes (text_of x.0) x.1 × IsHead latest x.0
unfolding head_at
head_takes latest total bytes x fits e =
    let a = bind_ok (owner_at total bytes) (λ o. shape_at total o.1 >>= λ s. field_at 32 total s.1 >>= λ m. counts_at latest total m.1 >>= λ c. Ok (head_of o.0 s.0 m.0 c.0, c.1)) x e in
    let b = bind_ok (shape_at total a.0.1) (λ s. field_at 32 total s.1 >>= λ m. counts_at latest total m.1 >>= λ c. Ok (head_of a.0.0 s.0 m.0 c.0, c.1)) x a.2 in
    let m = bind_ok (field_at 32 total b.0.1) (λ m. counts_at latest total m.1 >>= λ c. Ok (head_of a.0.0 b.0.0 m.0 c.0, c.1)) x b.2 in
    let c = bind_ok (counts_at latest total m.0.1) (λ c. Ok (head_of a.0.0 b.0.0 m.0.0 c.0, c.1)) x m.2 in
    let t0 = owner_takes total bytes a.0 fits a.1 in
    let t1 = shape_takes total a.0.1 b.0 t0.0.rest_fits b.1 in
    let t2 = field_takes 32 total b.0.1 m.0.0 m.0.1 t1.0.rest_fits m.1 in
    let t3 = counts_take latest total m.0.1 c.0 t2.0.rest_fits c.1 in
    let e23 = Takes-then b.0.1 m.0.0 m.0.1 (counts c.0.0) c.0.1 t2.0 t3.0 in
    let e13 = Takes-then a.0.1 (dims b.0.0) b.0.1 (m.0.0 ++ counts c.0.0) c.0.1 t1.0 e23 in
    let e03 = Takes-then bytes (owner a.0.0) a.0.1 (dims b.0.0 ++ (m.0.0 ++ counts c.0.0)) c.0.1 t0.0 e13 in
    let made : Head × List ℕ = (head_of a.0.0 b.0.0 m.0.0 c.0.0, c.0.1) in
    let whole : Takes bytes (text_of made.0) c.0.1 = subst (λ (text : List ℕ). Takes bytes text c.0.1) {x = owner a.0.0 ++ (dims b.0.0 ++ (m.0.0 ++ counts c.0.0))} {y = text_of made.0} (in_parts (four a.0.0.0.0) (four a.0.0.1.0) (dims b.0.0) m.0.0 (eight c.0.0.0) (four c.0.0.1)) e03 in
    let is : IsHead latest made.0 = record { folder = t0.1; member = t0.2; shape = t1.1; master = t2.1; next = t3.1.next; early = t3.1.early; serials = t3.1.serials; seen = t3.1.seen } in
    taken_head latest total bytes made x (ok_is made x c.2) whole is

abbrev pub head_of_state : KeptState → Head
head_of_state s = record { folder = s.folder; member = s.member; shape = s.shape; master = s.master; next_serial = s.next_serial; seen = s.seen }

regroup : (a b c m d e rest : List ℕ) → (a ++ b ++ c ++ m ++ d ++ e) ++ rest ≡ a ++ (b ++ (c ++ (m ++ (d ++ (e ++ rest)))))
regroup a b c m d e rest = simp append_assoc

pub head_again : (latest total : ℕ) (s : KeptState) (rest : List ℕ) → IsKeptState s → s.next_serial ≤ latest → head_at latest total (head s ++ rest) ≡ Ok (head_of_state s, rest)
unfolding head_at
head_again latest total s rest is early =
    let after_seen = four s.seen ++ rest in
    let after_master = eight s.next_serial ++ after_seen in
    let after_shape = s.master ++ after_master in
    let whose = owner_again total s.folder s.member (s.shape.depth ∷ s.shape.probes ∷ after_shape) is.folder is.member in
    let shape = shape_again total s.shape after_shape is.shape in
    let master = field_again 32 total s.master after_master is.master in
    let count = counts_again latest total s.next_serial s.seen rest (record { next = is.next; early = early; serials = is.serials; seen = is.seen }) in
    ap (head_at latest total) (regroup (four s.folder.0) (four s.member.0) (dims s.shape) s.master (eight s.next_serial) (four s.seen) rest) ∙ rw (whose, shape, master, count) refl
