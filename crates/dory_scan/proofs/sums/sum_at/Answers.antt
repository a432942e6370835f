use Rattle.std.proofs.Common.{◌≡◌, ℕ, ◌<◌, Bool, List, [], length, get_or, refl, ap, ◌∙◌, sym, subst, arith}
use mathlib.Core.Path.{ap₂}
use Rattle.dory_base.specs.declared.found.Sum.{Sum}
use Rattle.std.proofs.lemmas.List.Elements.{at_read}
use Rattle.dory_base.specs.Table.{Slots, live_of}
use Rattle.dory_base.proofs.Selected.{tag_of}
use Rattle.dory_scan.specs.Words.{parities_of, IsWordOf}
use Rattle.dory_scan.proofs.LineLaws.{length-parities}
use Rattle.dory_scan.proofs.WordLaws.{words_at, length-words_at, word_at, words_are}
use Rattle.dory_scan.proofs.sums.sum_at.Goals as goal

pub returns-clause-value : goal.returns-clause-value
returns-clause-value g c =
    let slots : Slots = (g.T.SlotTable.meaning c.args.table.now).slots in
    let blocks : List (List ℕ) = c.args.blocks.now in
    let selector : List Bool = get_or c.args.selectors.now c.args.at [] in
    let bits : List Bool = parities_of slots selector in
    let ws : List ℕ = words_at blocks c.args.at in
    let count : length ws ≡ length blocks = length-words_at blocks c.args.at in
    let long : length bits ≡ c.args.lines = length-parities slots selector ∙ sym c.requires.lines in
    let each : (k : ℕ) → k < length ws → IsWordOf bits k (get_or ws k 0) = λ k h.
    let low : k < length blocks = omega arith in
    let many = (c.requires.blocks k low).many in
    subst (IsWordOf bits k) (sym (word_at blocks c.args.at k low)) ((c.requires.blocks k low).each c.args.at (omega (arith, many, c.requires.at))) in
    let are : c.in_ok-bits.bits ≡ bits = c.in_ok-bits.ensures ∙ words_are bits ws c.args.lines long (count ∙ c.requires.exact) each in
    let sum : List Bool → ℕ → Sum = λ b t. record { bits = b; tag = t } in
    let is : c.index-selectors-at.result ≡ selector = at_read c.args.selectors.now (λ (s : List Bool). c.index-selectors-at.result ≡ s) c.args.at c.index-selectors-at.result c.requires.at c.index-selectors-at.is refl [] in
    ap₂ sum are (c.selected_tag-tag.ensures.value ∙ ap (λ (s : List Bool). tag_of s (live_of slots)) is)
