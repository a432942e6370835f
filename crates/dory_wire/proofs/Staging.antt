-- An update that is to be staged is read as it is spelled.
use Rattle.std.proofs.Common.{◌≡◌, ◌∙◌, ℕ, ◌^◌, Bool, true, List, [], ◌∷◌, ◌++◌, length, Ok, refl, sym, ap, subst, append_assoc}
use Rattle.std.specs.List.{flat_map}
use Rattle.std.specs.Int.{w32}
use Rattle.dory_base.specs.Dims.{Dims, IsDims}
use Rattle.dory_base.specs.TagBytes.{tag_bytes}
use Rattle.dory_base.specs.declared.ids.UpdateId.{UpdateId}
use Rattle.dory_base.specs.declared.entry.Entry.{Entry}
use Rattle.dory_base.specs.declared.entry.Change.{Change}
use Rattle.dory_base.specs.declared.entry.Change.TheVariants.{Post, Remove}
use Rattle.dory_base.specs.History.{IsPostOf}
use Rattle.dory_fields.specs.Bytes.{four, IsBytes}
use Rattle.dory_fields.specs.Packing.{packed}
use Rattle.dory_fields.specs.Reading.{Read, many_at, ◌>>=◌, number_at, byte_at, bits_at}
use Rattle.dory_fields.proofs.Many.{many_take, many_again}
use Rattle.dory_fields.proofs.Fields.{in_range, range_met, bind_ok, ok_is, Takes, Takes-then, wide32, number_takes, number_again, byte_takes, byte_again}
use Rattle.dory_fields.proofs.Packing.{bits_take, bits_again}
use Rattle.dory_wire.specs.Spelling.{id, change, entry, IsPost, IsChange, IsEntry}
use Rattle.dory_wire.specs.Reading.{tag_at, id_at, post_at, change_at, entry_at, is_depth, is_probes, is_change}
use Rattle.dory_wire.proofs.Fields.{IsTag, tag_takes, tag_read_again, id_takes, id_again}
use Rattle.dory_wire.proofs.Made.{by_number, at_last}

-- ---- what an update does

-- what was read after the byte that says what an update does
pub record TakesChange (does : ℕ) (bytes : List ℕ) (x : Change × List ℕ) : Type 0 where
  pub fields : List ℕ
  pub text : change x.0 ≡ does ∷ fields
  pub takes : Takes bytes fields x.1
  pub ranges : IsChange x.0

abbrev shape_of : ℕ → ℕ → Dims
shape_of depth probes = record { depth = depth; probes = probes }

abbrev after_row : ℕ → (depth probes : ℕ) → List Bool × List ℕ → Read Change
after_row total depth probes row = many_at tag_at (2 ^ depth) total row.1 >>= λ tags. Ok (Post (shape_of depth probes) row.0 tags.0, tags.1)

abbrev after_probes : ℕ → ℕ → ℕ × List ℕ → Read Change
after_probes total depth probes = bits_at (2 ^ depth) total probes.1 >>= λ row. after_row total depth probes.0 row

abbrev after_depth : ℕ → ℕ × List ℕ → Read Change
after_depth total depth = byte_at is_probes total depth.1 >>= λ probes. after_probes total depth.0 probes

post_takes : (total : ℕ) (bytes : List ℕ) (x : Change × List ℕ) → IsBytes bytes → post_at total bytes ≡ Ok x → TakesChange 1 bytes x
unfolding post_at
post_takes total bytes x fits e =
    let a = bind_ok (byte_at is_depth total bytes) (after_depth total) x e in
    let b = bind_ok (byte_at is_probes total a.0.1) (after_probes total a.0.0) x a.2 in
    let c = bind_ok (bits_at (2 ^ a.0.0) total b.0.1) (after_row total a.0.0 b.0.0) x b.2 in
    let d = bind_ok (many_at tag_at (2 ^ a.0.0) total c.0.1) (λ tags. Ok (Post (shape_of a.0.0 b.0.0) c.0.0 tags.0, tags.1)) x c.2 in
    let t0 = byte_takes is_depth total bytes a.0.0 a.0.1 fits a.1 in
    let t1 = byte_takes is_probes total a.0.1 b.0.0 b.0.1 t0.0.rest_fits b.1 in
    let t2 = bits_take (2 ^ a.0.0) total b.0.1 c.0 t1.0.rest_fits c.1 in
    let t3 = many_take tag_at tag_bytes IsTag tag_takes (2 ^ a.0.0) total c.0.1 d.0 t2.0.rest_fits d.1 in
    let p2 = Takes-then b.0.1 (packed c.0.0) c.0.1 (flat_map tag_bytes d.0.0) d.0.1 t2.0 t3.0 in
    let p1 = Takes-then a.0.1 (b.0.0 ∷ []) b.0.1 (packed c.0.0 ++ flat_map tag_bytes d.0.0) d.0.1 t1.0 p2 in
    let p0 = Takes-then bytes (a.0.0 ∷ []) a.0.1 (b.0.0 ∷ packed c.0.0 ++ flat_map tag_bytes d.0.0) d.0.1 t0.0 p1 in
    let shape = shape_of a.0.0 b.0.0 in
    let depth = in_range 8 11 a.0.0 t0.1 in
    let probes = in_range 1 8 b.0.0 t1.1 in
    let dims : IsDims shape = record { low = depth.0; high = depth.1; some = probes.0; few = probes.1 } in
    let cells : IsPostOf shape shape (length c.0.0) (length d.0.0) = record { shape_is = refl; row = t2.1; tags_are = t3.1 } in
    let made : Change × List ℕ = (Post shape c.0.0 d.0.0, d.0.1) in
    subst (TakesChange 1 bytes) (ok_is made x d.2) (record {
      fields = a.0.0 ∷ b.0.0 ∷ packed c.0.0 ++ flat_map tag_bytes d.0.0;
      text = refl;
      takes = p0;
      ranges = record { dims = dims; cells = cells; wide = t3.2 };
    })

post_again : (total : ℕ) (shape : Dims) (row : List Bool) (tags rest : List ℕ) → IsPost shape row tags → post_at total (shape.depth ∷ shape.probes ∷ (packed row ++ (flat_map tag_bytes tags ++ rest))) ≡ Ok (Post shape row tags, rest)
unfolding post_at
post_again total shape row tags rest is =
    let r2 = flat_map tag_bytes tags ++ rest in
    let r1 = packed row ++ r2 in
    let depth = byte_again is_depth total shape.depth (shape.probes ∷ r1) (range_met 8 11 shape.depth is.dims.low is.dims.high) in
    let probes = byte_again is_probes total shape.probes r1 (range_met 1 8 shape.probes is.dims.some is.dims.few) in
    let cells = bits_again (2 ^ shape.depth) total row r2 is.cells.row in
    let many : many_at tag_at (2 ^ shape.depth) total r2 ≡ Ok (tags, rest) = subst (λ (n : ℕ). many_at tag_at n total r2 ≡ Ok (tags, rest)) is.cells.tags_are (many_again tag_at tag_bytes IsTag total (tag_read_again total) tags rest is.wide) in
    rw (depth, probes, cells, many) refl

change_takes : (does total : ℕ) (bytes : List ℕ) (x : Change × List ℕ) → IsBytes bytes → is_change does ≡ true → change_at does total bytes ≡ Ok x → TakesChange does bytes x
unfolding change_at
change_takes does total bytes x fits known e =
    let r = in_range 1 2 does known in
    by_number does 1 (λ n. TakesChange n bytes x) (post_at total bytes) (Ok (Remove, bytes)) x r.0 (post_takes total bytes x fits) (λ more got.
    at_last does 2 (λ n. TakesChange n bytes x) more r.1 (subst (TakesChange 2 bytes) (ok_is (Remove, bytes) x got) (record { fields = []; text = refl; takes = record { parts = refl; rest_fits = fits }; ranges = tt }))) e

-- ---- an update

abbrev entry_of : UpdateId → ℕ → Change → Entry
entry_of name doc done = record { id = name; doc = record { 0 = doc }; change = done }

abbrev after_does : ℕ → UpdateId → ℕ → ℕ × List ℕ → Read Entry
after_does total name doc does = change_at does.0 total does.1 >>= λ change. Ok (entry_of name doc change.0, change.1)

abbrev after_doc : ℕ → UpdateId → ℕ × List ℕ → Read Entry
after_doc total name doc = byte_at is_change total doc.1 >>= λ does. after_does total name doc.0 does

abbrev after_name : ℕ → UpdateId × List ℕ → Read Entry
after_name total name = number_at w32 total name.1 >>= λ doc. after_doc total name.0 doc

pub entry_takes : (total : ℕ) (bytes : List ℕ) (x : Entry × List ℕ) → IsBytes bytes → entry_at total bytes ≡ Ok x → Takes bytes (entry x.0) x.1 × IsEntry x.0
unfolding entry_at
entry_takes total bytes x fits e =
    let a = bind_ok (id_at total bytes) (after_name total) x e in
    let b = bind_ok (number_at w32 total a.0.1) (after_doc total a.0.0) x a.2 in
    let c = bind_ok (byte_at is_change total b.0.1) (after_does total a.0.0 b.0.0) x b.2 in
    let d = bind_ok (change_at c.0.0 total c.0.1) (λ change. Ok (entry_of a.0.0 b.0.0 change.0, change.1)) x c.2 in
    let t0 = id_takes total bytes a.0 fits a.1 in
    let t1 = number_takes w32 (2 ^ 32) wide32 total a.0.1 b.0.0 b.0.1 t0.0.rest_fits b.1 in
    let t2 = byte_takes is_change total b.0.1 c.0.0 c.0.1 t1.0.rest_fits c.1 in
    let t3 = change_takes c.0.0 total c.0.1 d.0 t2.0.rest_fits t2.1 d.1 in
    let p1 = Takes-then bytes (id a.0.0) a.0.1 (four b.0.0) b.0.1 t0.0 t1.0 in
    let p2 = Takes-then b.0.1 (c.0.0 ∷ []) c.0.1 t3.fields d.0.1 t2.0 t3.takes in
    let p3 = subst (λ (y : List ℕ). Takes b.0.1 y d.0.1) (sym t3.text) p2 in
    let p4 = Takes-then bytes (id a.0.0 ++ four b.0.0) b.0.1 (change d.0.0) d.0.1 p1 p3 in
    let made = entry_of a.0.0 b.0.0 d.0.0 in
    let is : IsEntry made = record { id = t0.1; doc = t1.1; change = t3.ranges } in
    subst (λ (y : Entry × List ℕ). Takes bytes (entry y.0) y.1 × IsEntry y.0) (ok_is (made, d.0.1) x d.2) (p4, is)

-- the byte that says what an update does, and the fields after it
abbrev does_of : Change → ℕ
does_of (Post shape row tags) = 1
does_of Remove = 2

abbrev fields_of : Change → List ℕ
fields_of (Post shape row tags) = shape.depth ∷ shape.probes ∷ packed row ++ flat_map tag_bytes tags
fields_of Remove = []

change_text : (done : Change) → change done ≡ does_of done ∷ fields_of done
change_text (Post shape row tags) = refl
change_text Remove = refl

does_met : (done : Change) → is_change (does_of done) ≡ true
does_met (Post shape row tags) = refl
does_met Remove = refl

change_again : (total : ℕ) (done : Change) (rest : List ℕ) → IsChange done → change_at (does_of done) total (fields_of done ++ rest) ≡ Ok (done, rest)
unfolding change_at
change_again total (Post shape row tags) rest is =
    ap (λ (y : List ℕ). post_at total (shape.depth ∷ shape.probes ∷ y)) (append_assoc (packed row) (flat_map tag_bytes tags) rest) ∙ post_again total shape row tags rest is
change_again total Remove rest is = refl

pub entry_again : (total : ℕ) (e : Entry) (rest : List ℕ) → IsEntry e → entry_at total (entry e ++ rest) ≡ Ok (e, rest)
unfolding entry_at
entry_again total e rest is =
    let r2 = fields_of e.change ++ rest in
    let r1 = does_of e.change ∷ r2 in
    let text : entry e ++ rest ≡ id e.id ++ (four e.doc.0 ++ r1) =
    ap (λ (y : List ℕ). (id e.id ++ four e.doc.0 ++ y) ++ rest) (change_text e.change)
    ∙ append_assoc (id e.id ++ four e.doc.0) (does_of e.change ∷ fields_of e.change) rest
    ∙ append_assoc (id e.id) (four e.doc.0) r1 in
    let name = id_again total e.id (four e.doc.0 ++ r1) is.id in
    let doc = number_again w32 (2 ^ 32) wide32 total e.doc.0 r1 is.doc in
    let does = byte_again is_change total (does_of e.change) r2 (does_met e.change) in
    let done = change_again total e.change rest is.change in
    ap (entry_at total) text ∙ rw (name, doc, does, done) refl
