use Rattle.std.proofs.Common.{◌≡◌, ◌%◌, ◌+◌, arith, refl}
use Rattle.dory_hmac.proofs.LaneLemmas.{slice_index-words}
use Rattle.dory_hmac.proofs.compression.next_word.Goals as goal

pub returns-clause-value : goal.returns-clause-value
returns-clause-value c j near =
    let at : c.args.place % 16 ≡ c.args.place = omega arith in
    let w = c.args.w.now in
    rw (
      at,
      c.add-word.ensures j near,
      c.add-two.ensures j near,
      c.add-one.ensures j near,
      c.small_sigma1-s1.ensures j near,
      c.small_sigma0-s0.ensures j near,
      slice_index-words j w ((c.args.place + 14) % 16),
      slice_index-words j w ((c.args.place + 9) % 16),
      slice_index-words j w ((c.args.place + 1) % 16),
      slice_index-words j w c.args.place,
    ) refl
