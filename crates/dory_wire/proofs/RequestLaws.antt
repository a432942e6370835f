-- The two laws of requests: what is read is spelled so, and what is spelled so is read.
use Rattle.std.proofs.Common.{◌≡◌, ℕ, suc, ◌^◌, ◌≤◌, true, cond, eqb, List, [], ◌∷◌, ◌++◌, length, Result, Ok, Err, refl, sym, ap, subst, ◌∙◌, append_assoc, arith}
use Rattle.std.specs.List.{flat_map, AllByRecursion}
use Rattle.std.specs.Prelude.{IfOk}
use Rattle.std.specs.Int.{w32}
use Rattle.std.proofs.lemmas.List.{append-nil}
use Rattle.dory_base.specs.Dims.{Dims, IsDims}
use Rattle.dory_base.specs.declared.ids.AskId.{AskId}
use Rattle.dory_dpf.specs.PointKey.{PointKey, IsKeyOf}
use Rattle.dory_dpf.specs.KeyBytes.{bytes_of_key, key_at}
use Rattle.dory_fields.specs.Bytes.{four, IsBytes}
use Rattle.dory_fields.specs.Reading.{Read, many_at, ◌>>=◌, number_at, tested_at, byte_at}
use Rattle.dory_fields.proofs.Fields.{in_range, range_met, IsBytes-rest, bind_ok, ok_is, Takes, Takes-then, wide32, number_takes, number_again, tested_takes, tested_again, byte_takes, byte_again}
use Rattle.dory_wire.specs.declared.message.Want.{Want}
use Rattle.dory_wire.specs.declared.message.Want.TheVariants.{Latest, Search, Which, Stage, Order, Follow}
use Rattle.dory_wire.specs.declared.message.Request.{Request}
use Rattle.dory_wire.specs.declared.fault.WireFault.{WireFault}
use Rattle.dory_wire.specs.declared.fault.WireFault.TheVariants.{Kind}
use Rattle.dory_wire.specs.Spelling.{ask, want, want_kind, spelling_of_request, form_of_keys, AreKeys, IsWant, IsRequest}
use Rattle.dory_wire.specs.Reading.{Gives, ask_at, search_at, which_at, stage_at, entry_at, named_at, numbered_at, want_at, ended, request_at, request_of, is_count, is_number, is_depth, is_probes, is_form, is_asking}
use Rattle.dory_wire.proofs.Fields.{ask_takes, ask_again}
use Rattle.dory_wire.proofs.Ranges.{ended_ok, choice_met}
use Rattle.dory_wire.proofs.KeyFields.{form_is, form_met, keys_again, keys_take}
use Rattle.dory_wire.proofs.Made.{number_range, number_met, named_takes, named_again, numbered_takes, numbered_again, by_number, at_last}
use Rattle.dory_wire.proofs.Staging.{entry_takes, entry_again}

abbrev after_form : ℕ → (version depth probes : ℕ) → ℕ × List ℕ → Read Want
after_form total version depth probes form = many_at (key_at form.0 depth) probes total form.1 >>= λ keys. Ok (Search version (record { depth = depth; probes = probes }) keys.0, keys.1)

abbrev after_probes : ℕ → (version depth : ℕ) → ℕ × List ℕ → Read Want
after_probes total version depth probes = byte_at is_form total probes.1 >>= λ form. after_form total version depth probes.0 form

abbrev after_depth : ℕ → ℕ → ℕ × List ℕ → Read Want
after_depth total version depth = byte_at is_probes total depth.1 >>= λ probes. after_probes total version depth.0 probes

abbrev after_version : ℕ → ℕ × List ℕ → Read Want
after_version total version = byte_at is_depth total version.1 >>= λ depth. after_depth total version.0 depth

-- a search's fields
abbrev pub search : ℕ → Dims → List PointKey → List ℕ
search version shape keys = four version ++ shape.depth ∷ shape.probes ∷ form_of_keys keys ∷ flat_map bytes_of_key keys

-- what was read is a search
pub record TakesSearch (bytes : List ℕ) (x : Want × List ℕ) : Type 0 where
  pub version : ℕ
  pub shape : Dims
  pub keys : List PointKey
  pub is : x.0 ≡ Search version shape keys
  pub takes : Takes bytes (search version shape keys) x.1
  pub ranges : IsWant (Search version shape keys)

pub search_takes : (total : ℕ) (bytes : List ℕ) (x : Want × List ℕ) → IsBytes bytes → search_at total bytes ≡ Ok x → TakesSearch bytes x
unfolding search_at
search_takes total bytes x fits e =
    let a = bind_ok (tested_at w32 is_count total bytes) (after_version total) x e in
    let b = bind_ok (byte_at is_depth total a.0.1) (after_depth total a.0.0) x a.2 in
    let c = bind_ok (byte_at is_probes total b.0.1) (after_probes total a.0.0 b.0.0) x b.2 in
    let d = bind_ok (byte_at is_form total c.0.1) (after_form total a.0.0 b.0.0 c.0.0) x c.2 in
    let k = bind_ok (many_at (key_at d.0.0 b.0.0) c.0.0 total d.0.1) (λ keys. Ok (Search a.0.0 (record { depth = b.0.0; probes = c.0.0 }) keys.0, keys.1)) x d.2 in
    let t0 = tested_takes w32 (2 ^ 32) wide32 is_count total bytes a.0.0 a.0.1 fits a.1 in
    let t1 = byte_takes is_depth total a.0.1 b.0.0 b.0.1 t0.0.rest_fits b.1 in
    let t2 = byte_takes is_probes total b.0.1 c.0.0 c.0.1 t1.0.rest_fits c.1 in
    let t3 = byte_takes is_form total c.0.1 d.0.0 d.0.1 t2.0.rest_fits d.1 in
    let depth = in_range 8 11 b.0.0 t1.1 in
    let probes = in_range 1 8 c.0.0 t2.1 in
    let forms = in_range 1 2 d.0.0 t3.1 in
    let t4 = keys_take c.0.0 d.0.0 b.0.0 total d.0.1 k.0 forms.0 forms.1 depth.0 depth.1 t3.0.rest_fits k.1 in
    let form : form_of_keys k.0.0 ≡ d.0.0 = form_is d.0.0 b.0.0 k.0.0 (omega (arith, probes.0, t4.1)) t4.2 in
    let p3 = Takes-then c.0.1 (d.0.0 ∷ []) d.0.1 (flat_map bytes_of_key k.0.0) k.0.1 t3.0 t4.0 in
    let p2 = Takes-then b.0.1 (c.0.0 ∷ []) c.0.1 (d.0.0 ∷ flat_map bytes_of_key k.0.0) k.0.1 t2.0 p3 in
    let p1 = Takes-then a.0.1 (b.0.0 ∷ []) b.0.1 (c.0.0 ∷ d.0.0 ∷ flat_map bytes_of_key k.0.0) k.0.1 t1.0 p2 in
    let p0 = Takes-then bytes (four a.0.0) a.0.1 (b.0.0 ∷ c.0.0 ∷ d.0.0 ∷ flat_map bytes_of_key k.0.0) k.0.1 t0.0 p1 in
    let shape : Dims = record { depth = b.0.0; probes = c.0.0 } in
    let made : Want × List ℕ = (Search a.0.0 shape k.0.0, k.0.1) in
    let dims : IsDims shape = record { low = depth.0; high = depth.1; some = probes.0; few = probes.1 } in
    let keys : AreKeys shape k.0.0 = record { many = t4.1; each = subst (λ (f : ℕ). AllByRecursion (IsKeyOf f b.0.0) k.0.0) (sym form) t4.2 } in
    subst (TakesSearch bytes) (ok_is made x k.2) (record {
      version = a.0.0;
      shape = shape;
      keys = k.0.0;
      is = refl;
      takes = subst (λ (f : ℕ). Takes bytes (four a.0.0 ++ b.0.0 ∷ c.0.0 ∷ f ∷ flat_map bytes_of_key k.0.0) k.0.1) (sym form) p0;
      ranges = ((in_range 0 1048576 a.0.0 t0.2).1, dims, keys);
    })

regroup : (a : List ℕ) (d p f : ℕ) (k rest : List ℕ) → (a ++ d ∷ p ∷ f ∷ k) ++ rest ≡ a ++ (d ∷ p ∷ f ∷ (k ++ rest))
regroup a d p f k rest = append_assoc a (d ∷ p ∷ f ∷ k) rest

pub search_again : (total version : ℕ) (shape : Dims) (keys : List PointKey) (rest : List ℕ) → IsWant (Search version shape keys) → search_at total (search version shape keys ++ rest) ≡ Ok (Search version shape keys, rest)
unfolding search_at
search_again total version shape keys rest is =
    let form_byte = form_of_keys keys in
    let r4 = flat_map bytes_of_key keys ++ rest in
    let r3 = form_byte ∷ r4 in
    let r2 = shape.probes ∷ r3 in
    let r1 = shape.depth ∷ r2 in
    let first = tested_again w32 (2 ^ 32) wide32 is_count total version r1 (omega (arith, is.0)) (range_met 0 1048576 version (omega arith) is.0) in
    let depth = byte_again is_depth total shape.depth r2 (range_met 8 11 shape.depth is.1.low is.1.high) in
    let probes = byte_again is_probes total shape.probes r3 (range_met 1 8 shape.probes is.1.some is.1.few) in
    let form = byte_again is_form total form_byte r4 (form_met keys) in
    let read : many_at (key_at form_byte shape.depth) shape.probes total r4 ≡ Ok (keys, rest) = subst (λ (n : ℕ). many_at (key_at form_byte shape.depth) n total r4 ≡ Ok (keys, rest)) is.2.many (keys_again form_byte shape.depth total keys rest is.2.each) in
    ap (search_at total) (regroup (four version) shape.depth shape.probes form_byte (flat_map bytes_of_key keys) rest) ∙ rw (first, depth, probes, form, read) refl

-- ---- what is asked

pub want_again : (total : ℕ) (w : Want) (rest : List ℕ) → IsWant w → want_at (want_kind w) total (want w ++ rest) ≡ Ok (w, rest)
unfolding want_at which_at stage_at
want_again total Latest rest is = refl
want_again total (Search version shape keys) rest is = search_again total version shape keys rest is
want_again total (Which number) rest is = rw (tested_again w32 (2 ^ 32) wide32 is_number total number rest (omega (arith, is.few)) (number_met number is)) refl
want_again total (Stage e) rest is = rw (entry_again total e rest is) refl
want_again total (Order name) rest is = named_again Order total name rest is
want_again total (Follow number name) rest is = numbered_again Follow total number name rest is

-- what was read of this kind
pub record TakesWant (kind : ℕ) (bytes : List ℕ) (x : Want × List ℕ) : Type 0 where
  pub kind_is : want_kind x.0 ≡ kind
  pub takes : Takes bytes (want x.0) x.1
  pub ranges : IsWant x.0

is_search : (bytes : List ℕ) (w : Want) (rest : List ℕ) → TakesSearch bytes (w, rest) → TakesWant 2 bytes (w, rest)
is_search bytes w rest t =
    subst (λ (y : Want). TakesWant 2 bytes (y, rest)) (sym t.is) (record { kind_is = refl; takes = t.takes; ranges = t.ranges })

which_takes : (total : ℕ) (bytes : List ℕ) (x : Want × List ℕ) → IsBytes bytes → which_at total bytes ≡ Ok x → TakesWant 3 bytes x
unfolding which_at
which_takes total bytes x fits e =
    let a = bind_ok (tested_at w32 is_number total bytes) (λ number. Ok (Which number.0, number.1)) x e in
    let t = tested_takes w32 (2 ^ 32) wide32 is_number total bytes a.0.0 a.0.1 fits a.1 in
    subst (TakesWant 3 bytes) (ok_is (Which a.0.0, a.0.1) x a.2) (record { kind_is = refl; takes = t.0; ranges = number_range a.0.0 t.2 })

stage_takes : (total : ℕ) (bytes : List ℕ) (x : Want × List ℕ) → IsBytes bytes → stage_at total bytes ≡ Ok x → TakesWant 4 bytes x
unfolding stage_at
stage_takes total bytes x fits e =
    let a = bind_ok (entry_at total bytes) (λ entry. Ok (Stage entry.0, entry.1)) x e in
    let t = entry_takes total bytes a.0 fits a.1 in
    subst (TakesWant 4 bytes) (ok_is (Stage a.0.0, a.0.1) x a.2) (record { kind_is = refl; takes = t.0; ranges = t.1 })

abbrev want_from_5 : ℕ → ℕ → List ℕ → Read Want
want_from_5 kind total bytes = cond (eqb kind 5) (named_at Order total bytes) (numbered_at Follow total bytes)

abbrev want_from_3 : ℕ → ℕ → List ℕ → Read Want
want_from_3 kind total bytes = cond (eqb kind 3) (which_at total bytes) (cond (eqb kind 4) (stage_at total bytes) (want_from_5 kind total bytes))

from_5_takes : (kind total : ℕ) (bytes : List ℕ) (x : Want × List ℕ) → IsBytes bytes → 5 ≤ kind → kind ≤ 6 → want_from_5 kind total bytes ≡ Ok x → TakesWant kind bytes x
from_5_takes kind total bytes x fits low high =
    by_number kind 5 (λ n. TakesWant n bytes x) (named_at Order total bytes) (numbered_at Follow total bytes) x low
    (λ e. named_takes Order (TakesWant 5 bytes) total bytes x fits e (λ name rest t is. record { kind_is = refl; takes = t; ranges = is }))
    (λ more e. at_last kind 6 (λ n. TakesWant n bytes x) more high (numbered_takes Follow (TakesWant 6 bytes) total bytes x fits e (λ number name rest t is. record { kind_is = refl; takes = t; ranges = is })))

from_3_takes : (kind total : ℕ) (bytes : List ℕ) (x : Want × List ℕ) → IsBytes bytes → 3 ≤ kind → kind ≤ 6 → want_from_3 kind total bytes ≡ Ok x → TakesWant kind bytes x
from_3_takes kind total bytes x fits low high =
    by_number kind 3 (λ n. TakesWant n bytes x) (which_at total bytes) (cond (eqb kind 4) (stage_at total bytes) (want_from_5 kind total bytes)) x low
    (which_takes total bytes x fits)
    (λ more. by_number kind 4 (λ n. TakesWant n bytes x) (stage_at total bytes) (want_from_5 kind total bytes) x more
    (stage_takes total bytes x fits)
    (λ most. from_5_takes kind total bytes x fits most high))

want_takes : (kind total : ℕ) (bytes : List ℕ) (x : Want × List ℕ) → IsBytes bytes → is_asking kind ≡ true → want_at kind total bytes ≡ Ok x → TakesWant kind bytes x
unfolding want_at
want_takes kind total bytes x fits known e =
    let r = in_range 1 6 kind known in
    by_number kind 1 (λ n. TakesWant n bytes x) (Ok (Latest, bytes)) (cond (eqb kind 2) (search_at total bytes) (want_from_3 kind total bytes)) x r.0
    (λ got. subst (TakesWant 1 bytes) (ok_is (Latest, bytes) x got) (record { kind_is = refl; takes = record { parts = refl; rest_fits = fits }; ranges = tt }))
    (λ more. by_number kind 2 (λ n. TakesWant n bytes x) (search_at total bytes) (want_from_3 kind total bytes) x more
    (λ got. is_search bytes x.0 x.1 (search_takes total bytes x fits got))
    (λ most. from_3_takes kind total bytes x fits most r.1)) e

-- ---- requests

abbrev made_request : AskId → ℕ → Want → Request
made_request a folder w = record { ask = a; folder = record { 0 = folder }; want = w }

abbrev after_folder : ℕ → ℕ → AskId → ℕ × List ℕ → Read Request
after_folder kind total a folder = want_at kind total folder.1 >>= λ want. Ok (made_request a folder.0 want.0, want.1)

abbrev after_ask : ℕ → ℕ → AskId × List ℕ → Read Request
after_ask kind total a = number_at w32 total a.1 >>= λ folder. after_folder kind total a.0 folder

-- a request's bytes behind its kind
abbrev request_fields : Request → List ℕ
request_fields r = ask r.ask ++ four r.folder.0 ++ want r.want

-- what was read behind this kind
record TakesRequest (kind : ℕ) (bytes : List ℕ) (x : Request × List ℕ) : Type 0 where
  pub kind_is : want_kind x.0.want ≡ kind
  pub takes : Takes bytes (request_fields x.0) x.1
  pub ranges : IsRequest x.0

request_at_takes : (kind total : ℕ) (bytes : List ℕ) (x : Request × List ℕ) → IsBytes bytes → is_asking kind ≡ true → request_at kind total bytes ≡ Ok x → TakesRequest kind bytes x
unfolding request_at
request_at_takes kind total bytes x fits known e =
    let a = bind_ok (ask_at total bytes) (after_ask kind total) x e in
    let b = bind_ok (number_at w32 total a.0.1) (after_folder kind total a.0.0) x a.2 in
    let c = bind_ok (want_at kind total b.0.1) (λ want. Ok (made_request a.0.0 b.0.0 want.0, want.1)) x b.2 in
    let t0 = ask_takes total bytes a.0 fits a.1 in
    let t1 = number_takes w32 (2 ^ 32) wide32 total a.0.1 b.0.0 b.0.1 t0.0.rest_fits b.1 in
    let t2 = want_takes kind total b.0.1 c.0 t1.0.rest_fits known c.1 in
    let p1 = Takes-then bytes (ask a.0.0) a.0.1 (four b.0.0) b.0.1 t0.0 t1.0 in
    let p2 = Takes-then bytes (ask a.0.0 ++ four b.0.0) b.0.1 (want c.0.0) c.0.1 p1 t2.takes in
    let is : IsRequest (made_request a.0.0 b.0.0 c.0.0) = record { ask = t0.1; folder = t1.1; want = t2.ranges } in
    subst (TakesRequest kind bytes) (ok_is (made_request a.0.0 b.0.0 c.0.0, c.0.1) x c.2) (record { kind_is = t2.kind_is; takes = p2; ranges = is })

-- what is read of a message is spelled so, and is in range
pub request_takes : (bytes : List ℕ) (r : Request) → IsBytes bytes → request_of bytes ≡ Ok r → (bytes ≡ spelling_of_request r) × IsRequest r
unfolding request_of spelling_of_request
request_takes [] r fits e = absurd cc
request_takes (kind ∷ bytes) r fits e =
    let total = suc (length bytes) in
    let g = choice_met (is_asking kind) (Kind kind) (ended total (request_at kind total bytes)) r e in
    let h = ended_ok total (request_at kind total bytes) r g.1 in
    let t = request_at_takes kind total bytes (r, h.0) (IsBytes-rest kind bytes fits) g.0 h.1 in
    let text : bytes ≡ request_fields r = t.takes.parts ∙ ap (λ (z : List ℕ). request_fields r ++ z) h.2 ∙ append-nil (request_fields r) in
    ((λ i. sym t.kind_is i ∷ text i), t.ranges)

known_kind : (w : Want) → is_asking (want_kind w) ≡ true
known_kind Latest = refl
known_kind (Search version shape keys) = refl
known_kind (Which number) = refl
known_kind (Stage e) = refl
known_kind (Order name) = refl
known_kind (Follow number name) = refl

request_at_again : (total : ℕ) (r : Request) → IsRequest r → request_at (want_kind r.want) total (ask r.ask ++ (four r.folder.0 ++ (want r.want ++ []))) ≡ Ok (r, [])
unfolding request_at
request_at_again total r is =
    rw (ask_again total r.ask (four r.folder.0 ++ (want r.want ++ [])) is.ask, number_again w32 (2 ^ 32) wide32 total r.folder.0 (want r.want ++ []) is.folder, want_again total r.want [] is.want) refl

-- a request that is spelled is read
pub read_again_request : (r : Request) → IsRequest r → request_of (spelling_of_request r) ≡ Ok r
unfolding request_of spelling_of_request
read_again_request r is =
    let text : ask r.ask ++ four r.folder.0 ++ want r.want ≡ ask r.ask ++ (four r.folder.0 ++ (want r.want ++ [])) =
    append_assoc (ask r.ask) (four r.folder.0) (want r.want) ∙ ap (λ (z : List ℕ). ask r.ask ++ (four r.folder.0 ++ z)) (sym (append-nil (want r.want))) in
    let total = suc (length (ask r.ask ++ four r.folder.0 ++ want r.want)) in
    rw (known_kind r.want) (ap (λ (z : List ℕ). ended total (request_at (want_kind r.want) total z)) text ∙ ap (ended total) (request_at_again total r is))

-- so is what a call gives that gives what reading gives
pub request_spelled : (bytes : List ℕ) (result : Result Request WireFault) → IsBytes bytes → Gives result (request_of bytes) → IfOk result (λ r. IsRequest r × (bytes ≡ spelling_of_request r))
request_spelled bytes (Ok r) fits given =
    let t = request_takes bytes r fits given in
    (t.1, t.0)
request_spelled bytes (Err e) fits given = tt

pub request_only : (bytes : List ℕ) (result : Result Request WireFault) → Gives result (request_of bytes) → (r : Request) → IsRequest r → bytes ≡ spelling_of_request r → Gives result (Ok r)
request_only bytes result given r is e = subst (Gives result) (ap request_of e ∙ read_again_request r is) given
