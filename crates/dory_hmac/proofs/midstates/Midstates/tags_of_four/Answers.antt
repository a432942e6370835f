use Rattle.std.proofs.Common.{◌≡◌, ℕ, List, [], ◌∷◌, ◌++◌, ◌<◌, ◌≤◌, ◌+◌, ◌∙◌, length, sym, ap, arith, subst}
use Rattle.sha2.specs.Sha256.{compress, digest_bytes, padding}
use Rattle.dory_hmac.specs.Hmac.{hmac_of_block}
use Rattle.dory_hmac.specs.Midstate.{midstate}
use Rattle.dory_hmac.specs.Lanes.{HasBlock, lane}
use Rattle.dory_hmac.proofs.ShortMessage.{hmac_from_midstates}
use Rattle.dory_hmac.proofs.midstates.Midstates.tags_of_four.Goals as goal

pub returns : goal.returns
returns c =
    let key : List ℕ = c.self.inside.block in
    let tag : (j : ℕ) → j < 4 → (m b : List ℕ) → length m ≤ 55 → b ≡ m ++ padding (64 + length m)
    → HasBlock j c.loaded.result b
    → digest_bytes (lane j c.compress4-outside.result) 8 ≡ hmac_of_block key m =
    λ j near m b short is has.
    let within : HasBlock j c.loaded.result (m ++ padding (64 + length m)) = subst (HasBlock j c.loaded.result) is has in
    let inside = c.compress4-inside.ensures j (m ++ padding (64 + length m)) near within
    ∙ ap (λ (h : List ℕ). compress h (m ++ padding (64 + length m))) (c.spread.ensures j near ∙ c.self.invariant.0) in
    let after = c.digest_block.ensures j (midstate 0x36 key) (m ++ padding (64 + length m)) near inside in
    let outside = c.compress4-outside.ensures j _ near after
    ∙ ap (λ (h : List ℕ). compress h (digest_bytes (compress (midstate 0x36 key) (m ++ padding (64 + length m))) 8 ++ padding 96)) (c.spread-2.ensures j near ∙ c.self.invariant.1) in
    ap (λ (h : List ℕ). digest_bytes h 8) outside ∙ sym (hmac_from_midstates key m c.self.told.0 short) in
    rw (← c.self.view_is)
    (c.digests.ensures
    ∙ (λ i. tag 0 (omega arith) c.args.first.now _ c.requires.first c.last_block.ensures (c.loaded.ensures 0 (omega arith)) i
    ∷ tag 1 (omega arith) c.args.second.now _ c.requires.second c.last_block-2.ensures (c.loaded.ensures 1 (omega arith)) i
    ∷ tag 2 (omega arith) c.args.third.now _ c.requires.third c.last_block-3.ensures (c.loaded.ensures 2 (omega arith)) i
    ∷ tag 3 (omega arith) c.args.fourth.now _ c.requires.fourth c.last_block-4.ensures (c.loaded.ensures 3 (omega arith)) i
    ∷ []))
