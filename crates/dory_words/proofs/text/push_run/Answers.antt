use Rattle.std.proofs.Common.{◌∙◌, ap, sym, ℕ, List, [], ◌∷◌, ◌++◌, length, ◌≤◌, arith}
use Rattle.dory_words.proofs.Cuts.{word_alone}
use Rattle.dory_words.proofs.text.push_run.Goals as goal

pub returns-in_ok-push : goal.returns-in_ok-push
returns-in_ok-push c =
    let run = c.args.run.now in
    let some : 1 ≤ length run = grind arith in
    c.in_ok-push.ensures.items
    ∙ ap (λ (ws : List (List ℕ)). c.args.words.now.items ++ ws) (ap (λ (w : List ℕ). w ∷ []) c.of_run.ensures ∙ sym (word_alone run some c.requires))
