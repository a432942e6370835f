use Rattle.std.proofs.Common.{◌≡◌, ℕ, List, length, take, map, ap, ◌∙◌, arith, sym}
use Rattle.std.proofs.lemmas.List.{length-map, length-set, take_all}
use Rattle.dory_base.specs.TagBytes.{tag_number}
use Rattle.dory_hmac.specs.Hmac.{block_key, hmac_of_block}
use Rattle.dory_seal.specs.Epoch.{epoch_of, tag_key_of}
use Rattle.dory_seal.specs.Message.{cell_message}
use Rattle.dory_seal.specs.Seal.{cell_tag_of}
use Rattle.dory_seal.specs.declared.cell.Cell.{Cell}
use Rattle.dory_seal.proofs.Tagged.{cell_tag_is}
use Rattle.dory_seal.proofs.Written.{map_alike, map_more_beside, map_twice}
use Rattle.dory_seal.proofs.epoch_keys.EpochKeys.tags_of_run.Goals as goal

pub loop-i-preserved : goal.loop-i-preserved
loop-i-preserved c =
    let message : Cell → List ℕ = λ cell. cell_message cell.doc cell.id cell.column cell.cell in
    let few = c.requires.few in
    let long : length c.loop-i.messages ≡ 64 = c.loop-i.invariant.0 in (
      length-set c.loop-i.messages c.loop-i.i c.cell_message.result ∙ long,
      map_more_beside message c.args.cells.now c.loop-i.messages c.loop-i.i c.cell_message.result _ (omega arith) (omega arith) c.loop-i.invariant.1 c.cell_message.ensures,
    )

pub returns : goal.returns
returns c =
    let message : Cell → List ℕ = λ cell. cell_message cell.doc cell.id cell.column cell.cell in
    let block : List ℕ = c.self.inside.tag in
    let cells : List Cell = c.args.cells.now in
    let tag_at : List ℕ → ℕ = λ m. tag_number (take 16 (hmac_of_block block m)) in
    let is_key : block ≡ block_key (tag_key_of c.args.self.now.keys c.args.self.now.epoch) = c.self.invariant.1 ∙ ap (λ k. block_key (tag_key_of k.keys k.epoch)) c.self.view_is in
    let all : c.loop-i.i ≡ length cells = omega (arith, c.loop-i-test.false, c.loop-i.auto.i-end) in
    let messages : take (length cells) c.loop-i.messages ≡ map message cells =
    ap (λ (n : ℕ). take n c.loop-i.messages) (sym all)
    ∙ c.loop-i.invariant.1
    ∙ take_all c.loop-i.i (map message cells) (omega (arith, length-map cells message, all))
    in
    c.run_of_tags.ensures
    ∙ ap (map tag_at) messages
    ∙ map_twice tag_at message cells
    ∙ map_alike (λ (cell : Cell). epoch_of cell.id ≡ c.args.self.now.epoch) (λ cell. tag_at (message cell)) (λ cell. cell_tag_of c.args.self.now.keys cell.doc cell.id cell.column cell.cell) cells
    (λ cell within. cell_tag_is c.args.self.now.keys cell.doc cell.id c.args.self.now.epoch block within is_key cell.column cell.cell) c.requires.epoch
