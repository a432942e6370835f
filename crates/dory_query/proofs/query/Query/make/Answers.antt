use Rattle.std.proofs.Common.{◌≡◌, ℕ, ◌<◌, ◌≤◌, ◌^◌, ◌-◌, sym, ◌∙◌, subst, List, take, replicate, arith}
use Rattle.std.specs.List.{AllByRecursion}
use Rattle.std.proofs.lemmas.List.FromFn.{length-map-range_with_len}
use Rattle.dory_hmac.specs.Hmac.{hmac}
use Rattle.dory_bloom.specs.Positions.{column_at, positions_of}
use Rattle.dory_query.proofs.KeyList.{within, front_is, pairs_of}
use Rattle.dory_query.proofs.query.Query.make.Goals as goal

pub draw-requires-clause-within : goal.draw-requires-clause-within
draw-requires-clause-within c =
    let shape = c.args.shape in
    let columns = positions_of c.args.keys.now shape c.args.word.now in
    let tag = hmac c.args.keys.now.word c.args.word.now in
    let front : take c.probes-probes.result c.positions.new.into ≡ columns =
    front_is c.probes-probes.result c.positions.new.into columns (replicate (8 - shape.probes) 0) c.positions.ensures (c.probes-probes.ensures.value ∙ sym (length-map-range_with_len (column_at tag shape.depth) 0 shape.probes)) in
    subst (λ (cs : List ℕ). AllByRecursion (λ x. x < 2 ^ shape.depth) cs) (sym front) (within tag shape.depth 0 shape.probes)

pub returns-clause-pairs : goal.returns-clause-pairs
returns-clause-pairs c =
    let shape = c.args.shape in
    let columns = positions_of c.args.keys.now shape c.args.word.now in
    let tag = hmac c.args.keys.now.word c.args.word.now in
    let front : take c.probes-probes.result c.positions.new.into ≡ columns =
    front_is c.probes-probes.result c.positions.new.into columns (replicate (8 - shape.probes) 0) c.positions.ensures (c.probes-probes.ensures.value ∙ sym (length-map-range_with_len (column_at tag shape.depth) 0 shape.probes)) in
    let low : 7 ≤ shape.depth = omega (arith, c.probes-probes.ensures.range.low) in
    rw (c.in_ok-drawn.ensures.lead, c.in_ok-drawn.ensures.follow, front) (pairs_of shape.depth c.args.seed.now _ 0 columns low (within tag shape.depth 0 shape.probes))
