use Rattle.std.proofs.Common.{◌≡◌, ◌%◌, ◌^◌, ℕ, length, refl, ap, ◌∙◌}
use Rattle.dory_seal.specs.Seal.{IsSealingOf, masked}
use Rattle.dory_base.specs.declared.entry.Change.TheVariants.{Post}
use Rattle.dory_seal.proofs.Blocks.{whole_blocks}
use Rattle.dory_seal.proofs.Masks.{length-masked}
use Rattle.dory_seal.proofs.Sealing.{tags_over, sealing, sealing_is_one}
use Rattle.dory_seal.proofs.post.seal_post.Goals as goal
use Rattle.dory_seal.proofs.post.seal_post.Goals.{In_ok-tags}

pub sealed_cells-requires-clause-blocks : goal.sealed_cells-requires-clause-blocks
sealed_cells-requires-clause-blocks c = ap (λ (n : ℕ). n % 256) c.requires ∙ whole_blocks c.args.shape c.columns-columns.ensures.range

pub sealed_tags-requires-clause-blocks : goal.sealed_tags-requires-clause-blocks
sealed_tags-requires-clause-blocks c =
    let long : length c.in_ok-cells.cells ≡ 2 ^ c.args.shape.depth =
    ap length c.in_ok-cells.ensures ∙ length-masked c.new-epoch_keys.result.keys c.args.doc c.args.id c.args.row.now ∙ c.requires
    in
    ap (λ (n : ℕ). n % 256) long ∙ whole_blocks c.args.shape c.columns-columns.ensures.range

sealed : (c : In_ok-tags)
    → IsSealingOf c.args.keys.now c.args.shape c.args.id c.args.doc c.args.row.now (record { id = c.args.id; doc = c.args.doc; change = Post c.args.shape c.in_ok-cells.cells c.in_ok-tags.tags })
sealed c =
    let keys = c.new-epoch_keys.ensures.keys in
    sealing c.args.keys.now c.args.shape c.args.id c.args.doc c.args.row.now c.in_ok-cells.cells c.in_ok-tags.tags c.requires
    (c.in_ok-cells.ensures ∙ ap (λ k. masked k c.args.doc c.args.id c.args.row.now) keys)
    (c.in_ok-tags.ensures ∙ ap (λ k. tags_over k c.args.doc c.args.id (length c.in_ok-cells.cells) c.in_ok-cells.cells) keys)

pub returns-clause-sealed : goal.returns-clause-sealed
returns-clause-sealed c = sealed c

pub returns-clause-fits : goal.returns-clause-fits
returns-clause-fits c =
    let row = (sealed c).sealed in
    record { shape_is = refl; row = row.cells; tags_are = row.tagged }

pub returns-clause-only : goal.returns-clause-only
returns-clause-only c other is = sealing_is_one c.args.keys.now c.args.shape c.args.id c.args.doc c.args.row.now other _ is (sealed c)
