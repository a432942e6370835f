use Rattle.std.proofs.Common.{◌≡◌, ℕ, ◌+◌, ◌-◌, ◌*◌, ◌/◌, length, refl, arith}
use Rattle.dory_seal.specs.Seal.{cell_tag_of}
use Rattle.dory_seal.specs.declared.cell.Cell.{Cell}
use Rattle.dory_seal.proofs.Written.{part_written, last_part_written}
use Rattle.dory_seal.proofs.epoch_keys.EpochKeys.cell_tags.Goals as goal

pub loop-run-preserved : goal.loop-run-preserved
loop-run-preserved c =
    let tag_at : Cell → ℕ = λ cell. cell_tag_of c.args.self.now.keys cell.doc cell.id cell.column cell.cell in
    let a : ℕ = 64 * c.loop-run.run in
    part_written tag_at c.args.cells.now c.loop-run.into c.tags_of_run.new.into a (a + 64 - a) (a + 64 - a) (64 * (c.loop-run.run + 1))
    c.loop-run.invariant.0 refl (omega arith) (omega arith) c.loop-run.invariant.1 c.tags_of_run.ensures

pub returns : goal.returns
returns c =
    let tag_at : Cell → ℕ = λ cell. cell_tag_of c.args.self.now.keys cell.doc cell.id cell.column cell.cell in
    let a : ℕ = length c.args.cells.now / 64 * 64 in
    let at : 64 * c.loop-run.run ≡ a = omega arith in
    last_part_written tag_at c.args.cells.now c.loop-run.into c.tags_of_run-2.new.into a (length c.loop-run.into - a) (length c.args.cells.now - a)
    c.loop-run.invariant.0 (omega (arith, c.loop-run.invariant.0)) (omega (arith, c.loop-run.invariant.0))
    (rw at at c.loop-run.invariant.1) c.tags_of_run-2.ensures
