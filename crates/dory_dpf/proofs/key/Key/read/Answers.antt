use Rattle.std.proofs.Common.{◌∙◌, ap, sym}
use Rattle.dory_dpf.specs.PointKey.{PointKey}
use Rattle.dory_dpf.proofs.Spelled.{key_read, key_takes, read_as}
use Rattle.dory_dpf.proofs.key.Key.read.Goals as goal

pub of_parts-requires : goal.of_parts-requires
of_parts-requires c =
    let corrections = rw c.levels_of.ensures.value at c.in_ok-corrections.ensures.value in
    let read = key_read c.args.form c.args.depth c.args.reader.now c.u8_in.new.self c.u8_in-2.new.self c.array.new.self c.read_corrections.new.reader c.read_last.new.reader c.in_ok-u8_in.field-0 c.in_ok-party.party c.in_ok-seed.seed c.in_ok-corrections.corrections c.in_ok-last.last
    c.requires.form.0 c.requires.form.1 c.in_ok-u8_in.ensures.value c.in_ok-party.ensures.value c.in_ok-seed.ensures.value corrections c.in_ok-last.ensures.value in
    (key_takes c.args.form c.args.depth c.args.reader.now.total c.args.reader.now.rest _ c.requires.form.0 c.requires.form.1 c.requires.depth.0 c.requires.depth.1 read.1).1.key

pub returns-clause-value : goal.returns-clause-value
returns-clause-value c =
    let corrections = rw c.levels_of.ensures.value at c.in_ok-corrections.ensures.value in
    let read = key_read c.args.form c.args.depth c.args.reader.now c.u8_in.new.self c.u8_in-2.new.self c.array.new.self c.read_corrections.new.reader c.read_last.new.reader c.in_ok-u8_in.field-0 c.in_ok-party.party c.in_ok-seed.seed c.in_ok-corrections.corrections c.in_ok-last.last
    c.requires.form.0 c.requires.form.1 c.in_ok-u8_in.ensures.value c.in_ok-party.ensures.value c.in_ok-seed.ensures.value corrections c.in_ok-last.ensures.value in
    (read.0, read.1 ∙ ap (λ (k : PointKey). read_as k c.read_last.new.reader.rest) (sym c.of_parts.ensures))
