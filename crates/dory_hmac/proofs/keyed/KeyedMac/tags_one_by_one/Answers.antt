use Rattle.std.proofs.Common.{◌∙◌, ap, arith}
use Rattle.std.proofs.lemmas.List.{length-set}
use Rattle.dory_hmac.specs.Hmac.{hmac_of_block}
use Rattle.dory_hmac.proofs.EachTag.{one_more}
use Rattle.dory_hmac.proofs.keyed.KeyedMac.tags_one_by_one.Goals as goal

pub loop-i-preserved : goal.loop-i-preserved
loop-i-preserved g c = (
  length-set _ _ _ ∙ c.loop-i.invariant.0,
  one_more (hmac_of_block c.args.self.now) c.args.messages.now c.loop-i.tags c.loop-i.i _ _ c.loop-i.invariant.0 (omega arith) c.loop-i.invariant.1
      (c.tag.ensures ∙ ap (hmac_of_block c.args.self.now) c.index-messages-i.is),
)
