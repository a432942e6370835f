use Rattle.std.proofs.Common.{sym, ◌∙◌}
use Rattle.std.proofs.lemmas.Bool.{false≢true}
use Rattle.dory_base.proofs.SameLaws.{shape_decides, change_answer, change_other, other_shape, other_row, tags_tell}
use Rattle.dory_base.proofs.entry.Change.same.Goals as goal

pub returns-then-not-same : goal.returns-then-not-same
returns-then-not-same c =
    let a = c.in-Post in
    let b = c.in-Post-other-2 in
    change_other c.args.self.now c.args.other.now (λ e.
    other_shape a.shape b.posted a.row b.cells a.tags b.marks (sym c.same.ensures ∙ c.if-not-same.true) (sym a.is ∙ e ∙ b.is))

pub returns-then-not-same-2 : goal.returns-then-not-same-2
returns-then-not-same-2 c =
    let a = c.in-Post in
    let b = c.in-Post-other-2 in
    change_other c.args.self.now c.args.other.now (λ e.
    other_row a.shape b.posted a.row b.cells a.tags b.marks (λ r. false≢true (sym c.if-not-same-2.true ∙ c.same-in-Post-other-2.ensures.1 r)) (sym a.is ∙ e ∙ b.is))

pub returns-else-not-same-2 : goal.returns-else-not-same-2
returns-else-not-same-2 c =
    let a = c.in-Post in
    let b = c.in-Post-other-2 in
    let r = c.same-in-Post-other-2-2.result in
    let s = (shape_decides a.shape b.posted).0 (sym c.same.ensures ∙ c.if-not-same.false) in
    let d = tags_tell a.shape b.posted a.row b.cells a.tags b.marks r s (c.same-in-Post-other-2.ensures.0 c.if-not-same-2.false) c.same-in-Post-other-2-2.ensures in
    change_answer c.args.self.now c.args.other.now r
    ((λ t. a.is ∙ d.0 t ∙ sym b.is), λ e. d.1 (sym a.is ∙ e ∙ b.is))
