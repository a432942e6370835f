use Rattle.std.proofs.Common.{ℕ, ◌<◌, ◌∙◌, List, length, take, Ok, refl, ap, arith}
use Rattle.std.proofs.Math.ListN.{length-set}
use Rattle.std.proofs.lemmas.List.{take_more_set, take_all}
use Rattle.std.proofs.lemmas.Result.{err_from_is_err_and}
use Rattle.dory_base.specs.TagBytes.{tag_number}
use Rattle.dory_fields.specs.Reading.{Read}
use Rattle.dory_fields.proofs.Many.{many_go, many_fail, many_done}
use Rattle.dory_wire.specs.Reading.{tag_at}
use Rattle.dory_wire.proofs.Fields.{tag_reads, tag_fails}
use Rattle.dory_wire.proofs.staged.read_tags.Goals as goal

abbrev read_as : List ℕ → List ℕ → Read (List ℕ)
read_as tags rest = Ok (tags, rest)

pub returns-in_err-field : goal.returns-in_err-field
returns-in_err-field c =
    let p = err_from_is_err_and c.from_residual-in_err-field.result c.from_residual-in_err-field.ensures.1 in
    let e = c.in_err-field.field-0.0 in
    let took = c.in_err-field.ensures.value in
    let below : c.loop-i.i < c.args.count = omega arith in
    let fault = many_fail tag_at e (take c.loop-i.i c.loop-i.tags.items) c.args.count c.loop-i.i c.args.reader.now c.loop-i.own c.slice.new.self below (took.0, tag_fails e c.loop-i.own.total c.loop-i.own.rest took.1) c.loop-i.invariant.read in
    (refl, rw (p.1, p.2) fault.1)

pub loop-i-preserved : goal.loop-i-preserved
loop-i-preserved c =
    let tags : List ℕ = c.loop-i.tags.items in
    let i = c.loop-i.i in
    let took = c.in_ok-field.ensures.value in
    let below : i < c.args.count = omega arith in
    let inside : i < length tags = omega (arith, below, c.loop-i.invariant.whole) in
    record {
      whole = length-set tags i c.tag_of.result ∙ c.loop-i.invariant.whole;
      read = rw (take_more_set tags i c.tag_of.result inside, c.tag_of.ensures) (many_go tag_at (take i tags) c.args.count i c.args.reader.now c.loop-i.own c.slice.new.self (tag_number c.in_ok-field.field.now) below (took.0, tag_reads c.loop-i.own.total c.loop-i.own.rest c.in_ok-field.field.now c.slice.new.self.rest took.1) c.loop-i.invariant.read);
    }

pub returns : goal.returns
returns c =
    let tags : List ℕ = c.loop-i.tags.items in
    let i = c.loop-i.i in
    let all = many_done tag_at (take i tags) c.args.count i c.args.reader.now c.loop-i.own (omega arith) c.loop-i.invariant.read in
    rw c.of.ensures (all.0, all.1 ∙ ap (λ (ts : List ℕ). read_as ts c.loop-i.own.rest) (take_all i tags (omega (arith, c.loop-i.invariant.whole))))
