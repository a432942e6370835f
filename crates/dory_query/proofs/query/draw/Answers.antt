use Rattle.std.proofs.Common.{◌<◌, ◌∙◌, ◌∷◌, [], arith, get_or}
use Rattle.std.proofs.lemmas.List.{length-append}
use Rattle.dory_dpf.specs.PointKey.{IsKeyOf}
use Rattle.dory_query.proofs.KeyList.{all_more, next, keys_push, key_is, short_is}
use Rattle.dory_query.proofs.query.draw.Goals as goal

pub loop-probe-preserved : goal.loop-probe-preserved
loop-probe-preserved c =
    let i = c.loop-probe.probe in
    let depth = c.args.shape.depth in
    let seed = c.args.seed.now in
    let stream = c.args.stream in
    let columns = c.args.columns.now in
    let first = c.seed_at-first.result in
    let second = c.seed_at-second.result in
    let few : i < 8 = omega (arith, c.requires.few) in
    let lead = key_is 0 depth seed stream i (get_or columns i 0) c.drawn-words.result first second c.gen_short-l.result.0 (λ place h. c.drawn-words.ensures place (omega arith)) few c.seed_at-first.ensures c.seed_at-second.ensures c.gen_short-l.ensures.lead in
    let follow = key_is 1 depth seed stream i (get_or columns i 0) c.drawn-words.result first second c.gen_short-l.result.1 (λ place h. c.drawn-words.ensures place (omega arith)) few c.seed_at-first.ensures c.seed_at-second.ensures c.gen_short-l.ensures.follow in
    let l_is : IsKeyOf 2 depth c.gen_short-l.result.0 = short_is 0 depth (get_or columns i 0) first second c.gen_short-l.result.0 c.gen_short-l.ensures.lead c.depth.ensures.key in
    let f_is : IsKeyOf 2 depth c.gen_short-l.result.1 = short_is 1 depth (get_or columns i 0) first second c.gen_short-l.result.1 c.gen_short-l.ensures.follow c.depth-in-loop-probe.ensures.key in
    rw (next i, c.in_ok-push.ensures.items, c.in_ok-push-2.ensures.items) (record {
      lead = keys_push 0 depth seed stream i columns c.loop-probe.lead.items c.gen_short-l.result.0 (omega arith) lead ∙ c.loop-probe.invariant.lead;
      follow = keys_push 1 depth seed stream i columns c.loop-probe.follow.items c.gen_short-l.result.1 (omega arith) follow ∙ c.loop-probe.invariant.follow;
      lead_many = omega (arith, length-append c.loop-probe.lead.items (c.gen_short-l.result.0 ∷ []), c.loop-probe.invariant.lead_many);
      follow_many = omega (arith, length-append c.loop-probe.follow.items (c.gen_short-l.result.1 ∷ []), c.loop-probe.invariant.follow_many);
      lead_are = all_more (IsKeyOf 2 depth) c.loop-probe.lead.items c.gen_short-l.result.0 c.loop-probe.invariant.lead_are l_is;
      follow_are = all_more (IsKeyOf 2 depth) c.loop-probe.follow.items c.gen_short-l.result.1 c.loop-probe.invariant.follow_are f_is;
    })
