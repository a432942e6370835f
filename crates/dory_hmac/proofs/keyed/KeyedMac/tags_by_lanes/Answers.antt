use Rattle.std.proofs.Common.{rules, ◌≡◌, ◌+◌, ◌*◌, [], List, ℕ, get_or, ◌∙◌, ap, arith}
use Rattle.std.proofs.lemmas.List.{length-set}
use Rattle.dory_hmac.specs.Hmac.{hmac_of_block}
use Rattle.dory_hmac.proofs.EachTag.{one_more, four_more}
use Rattle.dory_hmac.proofs.keyed.KeyedMac.tags_by_lanes.Goals as goal

pub groups-preserved : goal.groups-preserved
groups-preserved g c =
    let f = hmac_of_block c.args.self.now in
    let at : 4 * (c.groups.group + 1) ≡ 4 * c.groups.group + 3 + 1 = omega arith in
    let len = c.groups.invariant.0 in
    let is : (k : ℕ) → _ = λ k. ap (λ (l : List (List ℕ)). get_or l k []) (rw c.self.view_is at c.tags_of_four.ensures) in (
      search (rules, length-set),
      rw at (four_more f c.args.messages.now c.groups.tags (4 * c.groups.group) _ _ _ _ _ _ _ _ len (omega arith) c.groups.invariant.1
          (is 0 ∙ ap f c.index-messages-at.is) (is 1 ∙ ap f c.index-messages-at-in-groups.is) (is 2 ∙ ap f c.index-messages-at-in-groups-2.is) (is 3 ∙ ap f c.index-messages-at-in-groups-3.is)),
    )

pub rest-preserved : goal.rest-preserved
rest-preserved g c =
    let f = hmac_of_block c.args.self.now in (
      length-set _ _ _ ∙ c.rest.invariant.0,
      one_more f c.args.messages.now c.rest.tags c.rest.i _ _ c.rest.invariant.0 (omega arith) c.rest.invariant.1 (c.tag.ensures ∙ ap f c.index-messages-i.is),
    )
