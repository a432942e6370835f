use Rattle.std.proofs.Common.{List, map, string_bytes, sym, ap, subst, option_map, inl, inr}
use Rattle.dory_cli.specs.Words.{Text}
use Rattle.dory_cli.specs.Commands.{texts_of, init_texts_of, FailsAs}
use Rattle.dory_cli.proofs.InitReads.{init_ok, init_err, texts_are, words_spelled}
use Rattle.dory_cli.proofs.init.init_texts.Goals as goal

pub returns-in-Ok : goal.returns-in-Ok
returns-in-Ok c =
    let ws : List Text = map string_bytes c.args.words.now in
    let o = init_ok _ ws c.in-Ok.matches c.in_ok-command.ensures (words_spelled ws c.requires) c.in-Ok.ensures.kinds c.in-Ok.ensures.matches in
    (texts_of o.0, ap (option_map texts_of) o.1, sym (texts_are c.in-Ok.matches o.0 o.2 _ _ _ _ _ _ c.text.ensures c.text-in-Ok.ensures c.text-in-Ok-2.ensures c.text-in-Ok-3.ensures c.text-in-Ok-4.ensures c.get_str.ensures))

pub returns-in-Err : goal.returns-in-Err
returns-in-Err c =
    let ws : List Text = map string_bytes c.args.words.now in
    elim c.refusal.ensures [
      | inl memory ↦ subst (λ f. FailsAs f (init_texts_of ws)) (sym memory) tt
      | inr other ↦ subst (λ f. FailsAs f (init_texts_of ws)) (sym other.0)
          (ap (option_map texts_of) (init_err _ ws c.in-Err.error c.in_ok-command.ensures (words_spelled ws c.requires) c.in-Err.ensures.kinds other.1))
    ]
