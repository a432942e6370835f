use Rattle.std.proofs.Common.{◌≡◌, ℕ, List, length, take, map, ap, ◌∙◌, arith, sym}
use Rattle.std.proofs.lemmas.List.{length-map, length-set, take_all}
use Rattle.dory_hmac.specs.Hmac.{block_key, hmac_of_block}
use Rattle.dory_seal.specs.Epoch.{epoch_of, mask_key_of}
use Rattle.dory_seal.specs.Message.{mask_message}
use Rattle.dory_seal.specs.Seal.{mask_block_of}
use Rattle.dory_seal.specs.declared.mask.Block.{Block}
use Rattle.dory_seal.proofs.Masks.{mask_block_is}
use Rattle.dory_seal.proofs.Written.{map_alike, map_more_beside, map_twice}
use Rattle.dory_seal.proofs.epoch_keys.EpochKeys.masks_of_run.Goals as goal

pub loop-i-preserved : goal.loop-i-preserved
loop-i-preserved c =
    let message : Block → List ℕ = λ block. mask_message block.doc block.id block.block in
    let few = c.requires.few in
    let long : length c.loop-i.messages ≡ 64 = c.loop-i.invariant.0 in (
      length-set c.loop-i.messages c.loop-i.i c.mask_message.result ∙ long,
      map_more_beside message c.args.blocks.now c.loop-i.messages c.loop-i.i c.mask_message.result _ (omega arith) (omega arith) c.loop-i.invariant.1 c.mask_message.ensures,
    )

pub returns : goal.returns
returns c =
    let message : Block → List ℕ = λ block. mask_message block.doc block.id block.block in
    let key : List ℕ = c.self.inside.mask in
    let blocks : List Block = c.args.blocks.now in
    let tag_at : List ℕ → List ℕ = λ m. hmac_of_block key m in
    let is_key : key ≡ block_key (mask_key_of c.args.self.now.keys c.args.self.now.epoch) = c.self.invariant.0 ∙ ap (λ k. block_key (mask_key_of k.keys k.epoch)) c.self.view_is in
    let all : c.loop-i.i ≡ length blocks = omega (arith, c.loop-i-test.false, c.loop-i.auto.i-end) in
    let messages : take (length blocks) c.loop-i.messages ≡ map message blocks =
    ap (λ (n : ℕ). take n c.loop-i.messages) (sym all)
    ∙ c.loop-i.invariant.1
    ∙ take_all c.loop-i.i (map message blocks) (omega (arith, length-map blocks message, all))
    in
    c.masks_of.ensures
    ∙ c.tags.ensures
    ∙ ap (map tag_at) messages
    ∙ map_twice tag_at message blocks
    ∙ map_alike (λ (block : Block). epoch_of block.id ≡ c.args.self.now.epoch) (λ block. tag_at (message block)) (λ block. mask_block_of c.args.self.now.keys block.doc block.id block.block) blocks
    (λ block within. mask_block_is c.args.self.now.keys block.doc block.id c.args.self.now.epoch key within is_key block.block) c.requires.epoch
