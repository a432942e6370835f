use Rattle.std.proofs.Common.{◌≡◌, ◌+◌, ◌*◌, ◌<◌, Bool, List, Option, Some, None, map, position, length, sym, ap, ◌∙◌, arith}
use Rattle.std.specs.Arc.{arc_value}
use Rattle.dory_base.specs.declared.entry.Entry.{Entry}
use Rattle.dory_base.specs.TableMeaning.{Kept}
use Rattle.dory_chunks.specs.Marks.{is_slot_of}
use Rattle.dory_chunks.specs.Parts.{Part, part_at}
use Rattle.dory_chunks.specs.Versions.{width_of}
use Rattle.dory_chunks.proofs.PartLaws.{length-slots_in}
use Rattle.dory_chunks.proofs.Seeking.{IsFirst, none_more, is_first, first_inside, first_outside, nowhere_inside}
use Rattle.dory_chunks.proofs.version.Version.first_slot.Goals as goal

pub overflow_add-n-end : goal.overflow_add-n-end
overflow_add-n-end c =
    let parts : List Part = map arc_value c.self.inside.chunks.items in
    omega (arith, c.self.invariant.0.few, length-slots_in c.self.inside.count parts)

pub loop-n-preserved : goal.loop-n-preserved
loop-n-preserved c =
    let parts : List Part = map arc_value c.self.inside.chunks.items in
    let p : Option Entry → Bool = is_slot_of c.args.doc in
    let low : c.loop-n.n < length parts = omega (arith, c.loop-n-test.true, c.self.invariant.1.reached) in
    let none : position p (part_at parts c.loop-n.n).slots ≡ None = ap (λ (q : Part). position p q.slots) (sym c.chunk_at.ensures) ∙ sym c.first.ensures ∙ c.in_default.is in
    none_more p (width_of c.self.inside.shape) parts c.loop-n.n (c.self.invariant.1.each c.loop-n.n low) c.loop-n.invariant none

pub returns-then-at-self : goal.returns-then-at-self
returns-then-at-self c =
    let parts : List Part = map arc_value c.self.inside.chunks.items in
    let p : Option Entry → Bool = is_slot_of c.args.doc in
    let low : c.loop-n.n < length parts = omega (arith, c.loop-n-test.true, c.self.invariant.1.reached) in
    let found : position p (part_at parts c.loop-n.n).slots ≡ Some c.in-Some.place = ap (λ (q : Part). position p q.slots) (sym c.chunk_at.ensures) ∙ sym c.first.ensures ∙ c.in-Some.is in
    let first : IsFirst p parts (64 * c.loop-n.n + c.in-Some.place) = is_first p (width_of c.self.inside.shape) parts c.loop-n.n c.in-Some.place (c.self.invariant.1.each c.loop-n.n low) c.loop-n.invariant found in
    sym (ap (λ (t : Kept). position p t.slots) (sym c.self.view_is) ∙ first_inside p c.self.inside.count parts (64 * c.loop-n.n + c.in-Some.place) first (omega arith))

pub returns-else-at-self : goal.returns-else-at-self
returns-else-at-self c =
    let parts : List Part = map arc_value c.self.inside.chunks.items in
    let p : Option Entry → Bool = is_slot_of c.args.doc in
    let low : c.loop-n.n < length parts = omega (arith, c.loop-n-test.true, c.self.invariant.1.reached) in
    let found : position p (part_at parts c.loop-n.n).slots ≡ Some c.in-Some.place = ap (λ (q : Part). position p q.slots) (sym c.chunk_at.ensures) ∙ sym c.first.ensures ∙ c.in-Some.is in
    let first : IsFirst p parts (64 * c.loop-n.n + c.in-Some.place) = is_first p (width_of c.self.inside.shape) parts c.loop-n.n c.in-Some.place (c.self.invariant.1.each c.loop-n.n low) c.loop-n.invariant found in
    sym (ap (λ (t : Kept). position p t.slots) (sym c.self.view_is) ∙ first_outside p c.self.inside.count parts (64 * c.loop-n.n + c.in-Some.place) first (omega arith))

pub returns : goal.returns
returns c =
    let parts : List Part = map arc_value c.self.inside.chunks.items in
    let p : Option Entry → Bool = is_slot_of c.args.doc in
    sym (ap (λ (t : Kept). position p t.slots) (sym c.self.view_is) ∙ nowhere_inside p c.self.inside.count c.loop-n.n parts c.loop-n.invariant (omega arith))
