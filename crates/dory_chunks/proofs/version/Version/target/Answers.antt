use Rattle.std.proofs.Common.{◌≡◌, ◌∙◌, IfSome, List, map, length, ap, sym, subst}
use Rattle.std.specs.Arc.{arc_value}
use Rattle.dory_base.specs.Table.{Slots}
use Rattle.dory_base.specs.TableMeaning.{Kept}
use Rattle.dory_chunks.specs.Parts.{Part, slots_in}
use Rattle.dory_chunks.specs.Target.{place_for, target_in, target_of, IsTarget}
use Rattle.dory_chunks.proofs.PartLaws.{length-slots_in}
use Rattle.dory_chunks.proofs.TargetLaws.{some_target, none_target}
use Rattle.dory_chunks.proofs.version.Version.target.Goals as goal

pub returns-in-Post-clause-value : goal.returns-in-Post-clause-value
returns-in-Post-clause-value c =
    let parts : List Part = map arc_value c.self.inside.chunks.items in
    let count : c.self.inside.count ≡ length c.args.self.now.slots = sym (length-slots_in c.self.inside.count parts) ∙ ap (λ (t : Kept). length t.slots) c.self.view_is in
    c.slot_for.ensures ∙ (λ i. place_for (c.first_slot-own.ensures i) (c.first_slot.ensures i) (count i)) ∙ sym (ap (target_in c.args.self.now.slots c.args.entry.now.doc) c.in-Post.is)

pub returns-in-Post-clause-some : goal.returns-in-Post-clause-some
returns-in-Post-clause-some c =
    let parts : List Part = map arc_value c.self.inside.chunks.items in
    let slots : Slots = slots_in c.self.inside.count parts in
    let is : c.slot_for.result ≡ target_of slots c.args.entry.now = subst (λ (t : Kept). c.slot_for.result ≡ target_of t.slots c.args.entry.now) (sym c.self.view_is) (returns-in-Post-clause-value c) in
    subst (λ (t : Kept). IfSome c.slot_for.result (λ n. IsTarget t.slots c.args.entry.now n)) c.self.view_is (some_target slots c.args.entry.now c.slot_for.result c.self.invariant.0.apart c.self.invariant.0.few is)

pub returns-in-Post-clause-none : goal.returns-in-Post-clause-none
returns-in-Post-clause-none c = none_target c.args.self.now.slots c.args.entry.now c.slot_for.result (returns-in-Post-clause-value c)

pub returns-in-Remove-clause-value : goal.returns-in-Remove-clause-value
returns-in-Remove-clause-value c = c.first_slot-own.ensures ∙ sym (ap (target_in c.args.self.now.slots c.args.entry.now.doc) c.in-Remove.is)

pub returns-in-Remove-clause-some : goal.returns-in-Remove-clause-some
returns-in-Remove-clause-some c =
    let parts : List Part = map arc_value c.self.inside.chunks.items in
    let slots : Slots = slots_in c.self.inside.count parts in
    let is : c.first_slot-own.result ≡ target_of slots c.args.entry.now = subst (λ (t : Kept). c.first_slot-own.result ≡ target_of t.slots c.args.entry.now) (sym c.self.view_is) (returns-in-Remove-clause-value c) in
    subst (λ (t : Kept). IfSome c.first_slot-own.result (λ n. IsTarget t.slots c.args.entry.now n)) c.self.view_is (some_target slots c.args.entry.now c.first_slot-own.result c.self.invariant.0.apart c.self.invariant.0.few is)

pub returns-in-Remove-clause-none : goal.returns-in-Remove-clause-none
returns-in-Remove-clause-none c = none_target c.args.self.now.slots c.args.entry.now c.first_slot-own.result (returns-in-Remove-clause-value c)
