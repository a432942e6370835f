use Rattle.std.proofs.Common.{refl, sym}
use Rattle.sha2.proofs.Schedule256.{rounds_first}
use Rattle.dory_hmac.proofs.LaneLemmas.{slice_index-words}
use Rattle.dory_hmac.specs.Lanes.{lane, words}
use Rattle.dory_hmac.proofs.compression.first_step.Goals as goal

pub returns : goal.returns
returns c = λ j b h near window held.
    rounds_first b h (words j c.args.w.now) (lane j c.args.v) c.args.t _ _ _ c.requires window held refl
    (sym (slice_index-words j c.args.w.now c.args.t)) (c.round.ensures j near)
