use Rattle.std.proofs.Common.{◌≤◌, [], ◌∷◌, ◌++◌, sym, subst}
use Rattle.std.specs.Prelude.{List, Option}
use Rattle.dory_base.specs.declared.entry.Entry.{Entry}
use Rattle.dory_base.specs.Step.{IsLog}
use Rattle.dory_log.specs.Numbered.{Numbered}
use Rattle.dory_log.specs.Spared.{Spared, MayCommit}
use Rattle.dory_log.proofs.CommitLaws.{may_join, committed_log}
use Rattle.dory_log.proofs.log.FolderLog.put_commit.Goals as goal

pub push-requires : goal.push-requires
push-requires c =
    let i = c.self.inside in
    let may = subst (λ (v : Spared). MayCommit v.log c.args.number c.args.id) (sym c.self.view_is) c.requires.fresh in
    let one = subst (λ (v : Spared). 1 ≤ v.spare) (sym c.self.view_is) c.requires.spare in
    may_join (record { role = i.role; shape = i.shape; ids = i.numbers.ids; staged = i.places }) i.numbers.spare c.args.number c.args.id c.self.invariant may one

pub invariant_of-self : goal.invariant_of-self
invariant_of-self c =
    let i = c.self.inside in
    let may = subst (λ (v : Spared). MayCommit v.log c.args.number c.args.id) (sym c.self.view_is) c.requires.fresh in
    let good = (committed_log (record { role = i.role; shape = i.shape; ids = i.numbers.ids; staged = i.places }) c.args.number c.args.id c.self.invariant may).0 in
    subst (λ (n : Numbered). IsLog (record { role = i.role; shape = i.shape; ids = n.ids; staged = c.clear.new.self })) (sym c.push.ensures)
    (subst (λ (places : List (Option Entry)). IsLog (record { role = i.role; shape = i.shape; ids = i.numbers.ids ++ c.args.id ∷ []; staged = places })) (sym c.clear.ensures) good)
