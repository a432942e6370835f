use Rattle.std.proofs.Common.{◌≡◌, ℕ, List, false, ◌+◌, get_or, length, take, map, ap, ◌∙◌, arith, sym}
use Rattle.std.specs.List.{range_with_len}
use Rattle.std.proofs.lemmas.List.{length-set, take_all}
use Rattle.dory_base.specs.TagBytes.{tag_number}
use Rattle.dory_hmac.specs.Hmac.{block_key, hmac_of_block}
use Rattle.dory_seal.specs.Epoch.{tag_key_of}
use Rattle.dory_seal.specs.Message.{cell_message}
use Rattle.dory_seal.proofs.Tagged.{cell_tag_is}
use Rattle.dory_seal.proofs.Written.{map_twice, run_more}
use Rattle.dory_seal.proofs.epoch_keys.EpochKeys.tags_from.Goals as goal

pub loop-i-preserved : goal.loop-i-preserved
loop-i-preserved c =
    let message : ℕ → List ℕ = λ j. cell_message c.args.doc c.args.id j (get_or c.args.row.now j false) in
    let long : length c.loop-i.messages ≡ 64 = c.loop-i.invariant.0 in (
      length-set c.loop-i.messages c.loop-i.i c.cell_message.result ∙ long,
      run_more message c.loop-i.messages c.args.from c.loop-i.i c.cell_message.result (omega arith) c.loop-i.invariant.1
          (c.cell_message.ensures ∙ ap (cell_message c.args.doc c.args.id (c.args.from + c.loop-i.i)) c.get.ensures),
    )

pub returns : goal.returns
returns c =
    let message : ℕ → List ℕ = λ j. cell_message c.args.doc c.args.id j (get_or c.args.row.now j false) in
    let block : List ℕ = c.self.inside.tag in
    let tag_at : List ℕ → ℕ = λ m. tag_number (take 16 (hmac_of_block block m)) in
    let is_key : block ≡ block_key (tag_key_of c.args.self.now.keys c.args.self.now.epoch) = c.self.invariant.1 ∙ ap (λ k. block_key (tag_key_of k.keys k.epoch)) c.self.view_is in
    let all : c.loop-i.i ≡ 64 = omega arith in
    let messages : c.loop-i.messages ≡ map message (range_with_len c.args.from 64) =
    sym (take_all c.loop-i.i c.loop-i.messages (omega (arith, c.loop-i.invariant.0))) ∙ c.loop-i.invariant.1 ∙ ap (λ (n : ℕ). map message (range_with_len c.args.from n)) all
    in
    c.run_of_tags.ensures
    ∙ ap (map tag_at) messages
    ∙ map_twice tag_at message (range_with_len c.args.from 64)
    ∙ (λ i. map (λ (j : ℕ). cell_tag_is c.args.self.now.keys c.args.doc c.args.id c.args.self.now.epoch block c.requires.epoch is_key j (get_or c.args.row.now j false) i) (range_with_len c.args.from 64))
