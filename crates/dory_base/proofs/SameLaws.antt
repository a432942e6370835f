-- What the tests for equal ids, shapes and updates decide.
use Rattle.std.proofs.Common.{◌≡◌, ℕ, List, refl, ap, sym, ◌∙◌}
use Rattle.std.specs.Prelude.{◌==◌, ◌&&◌, Bool, true, false, nat_eq}
use Rattle.std.specs.Bool.{beq, Decides, one_answer}
use Rattle.std.proofs.lemmas.Bool.{eqb-true, eq-eqb, and_parts, and_from, false≢true}
use Rattle.std.proofs.lemmas.Slice.Eq.{slice_eq-Decides}
use Rattle.std.specs.Cmp.{booleans_Decides, unsigned_Decides}
use lib.Pointwise.{pointwise}
use Rattle.dory_base.specs.Dims.{Dims, same_shape}
use Rattle.dory_base.specs.Log.{same_id}
use Rattle.dory_base.specs.SameUpdate.{is_same_change, is_same_update}
use Rattle.dory_base.specs.declared.ids.DocId.{DocId}
use Rattle.dory_base.specs.declared.ids.UpdateId.{UpdateId}
use Rattle.dory_base.specs.declared.entry.Entry.{Entry}
use Rattle.dory_base.specs.declared.entry.Change.{Change}
use Rattle.dory_base.specs.declared.entry.Change.TheVariants.{Post, Remove}

pub bits_decide : (xs ys : List Bool) → Decides (pointwise beq xs ys) (xs ≡ ys)
bits_decide xs ys = slice_eq-Decides booleans_Decides xs ys (pointwise beq xs ys) refl

pub tags_decide : (xs ys : List ℕ) → Decides (pointwise nat_eq xs ys) (xs ≡ ys)
tags_decide xs ys = slice_eq-Decides unsigned_Decides xs ys (pointwise nat_eq xs ys) refl

pub same_id-true : (a b : UpdateId) → same_id a b ≡ true → a ≡ b
same_id-true a b e =
    let p = and_parts (a.member.0 == b.member.0) (a.serial == b.serial) e in
    ap (λ (m : ℕ). record { member = record { 0 = m }; serial = a.serial }) (eqb-true a.member.0 b.member.0 p.0)
    ∙ ap (λ (s : ℕ). record { member = b.member; serial = s }) (eqb-true a.serial b.serial p.1)

pub same_id_refl : (a : UpdateId) → same_id a a ≡ true
same_id_refl a = and_from (a.member.0 == a.member.0) (a.serial == a.serial) (eq-eqb a.member.0 a.member.0 refl) (eq-eqb a.serial a.serial refl)

pub shape_decides : (s t : Dims) → Decides (same_shape s t) (s ≡ t)
shape_decides s t = (
  (λ e. let p = and_parts (s.depth == t.depth) (s.probes == t.probes) e in
      ap (λ (n : ℕ). record { depth = n; probes = s.probes }) (eqb-true s.depth t.depth p.0)
      ∙ ap (λ (n : ℕ). record { depth = t.depth; probes = n }) (eqb-true s.probes t.probes p.1)),
  λ e. and_from (s.depth == t.depth) (s.probes == t.probes) (eq-eqb s.depth t.depth (ap (λ (d : Dims). d.depth) e)) (eq-eqb s.probes t.probes (ap (λ (d : Dims). d.probes) e)),
)

-- the test of changes is true exactly where they are equal
pub change_decides : (a b : Change) → Decides (is_same_change a b) (a ≡ b)
change_decides (Post s r t) (Post s' r' t') = (
  (λ e.
      let p = and_parts (same_shape s s' && pointwise beq r r') (pointwise nat_eq t t') e in
      let q = and_parts (same_shape s s') (pointwise beq r r') p.0 in
      let x : s ≡ s' = (shape_decides s s').0 q.0 in
      let y : r ≡ r' = (bits_decide r r').0 q.1 in
      let z : t ≡ t' = (tags_decide t t').0 p.1 in cc),
  λ e.
      let x : s ≡ s' = cc in
      let y : r ≡ r' = cc in
      let z : t ≡ t' = cc in
      and_from (same_shape s s' && pointwise beq r r') (pointwise nat_eq t t')
      (and_from (same_shape s s') (pointwise beq r r') ((shape_decides s s').1 x) ((bits_decide r r').1 y)) ((tags_decide t t').1 z),
)
change_decides (Post s r t) Remove = ((λ e. absurd (cc)), λ e. absurd (cc))
change_decides Remove (Post s r t) = ((λ e. absurd (cc)), λ e. absurd (cc))
change_decides Remove Remove = ((λ e. refl), λ e. refl)

-- posts that differ in a part are different
pub other_shape : (s s' : Dims) (r r' : List Bool) (t t' : List ℕ) → same_shape s s' ≡ false → Post s r t ≡ Post s' r' t' → ⊥
other_shape s s' r r' t t' h e = let x : s ≡ s' = cc in false≢true (sym h ∙ (shape_decides s s').1 x)

pub other_row : (s s' : Dims) (r r' : List Bool) (t t' : List ℕ) → (r ≡ r' → ⊥) → Post s r t ≡ Post s' r' t' → ⊥
other_row s s' r r' t t' h e = let x : r ≡ r' = cc in h x

-- posts that agree in shape and row are equal exactly where their tags are
pub tags_tell : (s s' : Dims) (r r' : List Bool) (t t' : List ℕ) (b : Bool) → s ≡ s' → r ≡ r' → Decides b (t ≡ t') → Decides b (Post s r t ≡ Post s' r' t')
tags_tell s s' r r' t t' b x y d =
    ((λ e. let z : t ≡ t' = d.0 e in cc), λ e. let z : t ≡ t' = cc in d.1 z)

-- so whatever decides their equality is the test
pub change_answer : (a b : Change) (r : Bool) → Decides r (a ≡ b) → r ≡ is_same_change a b
change_answer a b r d = one_answer r (is_same_change a b) d (change_decides a b)

pub change_other : (a b : Change) → (a ≡ b → ⊥) → false ≡ is_same_change a b
change_other a b h = change_answer a b false ((λ e. absurd (false≢true e)), λ e. absurd (h e))

-- the test of updates is true exactly where document and change are equal
pub update_decides : (a b : Entry) → Decides (is_same_update a b) ((a.doc ≡ b.doc) × (a.change ≡ b.change))
update_decides a b = (
  (λ e. let p = and_parts (a.doc.0 == b.doc.0) (is_same_change a.change b.change) e in
      (ap (λ (n : ℕ). let d : DocId = record { 0 = n } in d) (eqb-true a.doc.0 b.doc.0 p.0), (change_decides a.change b.change).0 p.1)),
  λ e. and_from (a.doc.0 == b.doc.0) (is_same_change a.change b.change) (eq-eqb a.doc.0 b.doc.0 (ap (λ (d : DocId). d.0) e.0)) ((change_decides a.change b.change).1 e.1),
)
