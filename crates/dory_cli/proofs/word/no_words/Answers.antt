use Rattle.std.proofs.Common.{List, map, string_bytes, sym, subst, inl, inr}
use Rattle.dory_cli.specs.Words.{Text}
use Rattle.dory_cli.specs.Commands.{FailsAs, nothing_of}
use Rattle.dory_cli.specs.Rules.{bare_app}
use Rattle.dory_cli.proofs.Walks.{rows_of_options}
use Rattle.dory_cli.proofs.InitReads.{words_spelled}
use Rattle.dory_cli.proofs.WordReads.{err_case, nothing_reads, ok_case, simple_bare, free_bare}
use Rattle.dory_cli.proofs.word.no_words.Goals as goal

pub returns-in-Ok : goal.returns-in-Ok
returns-in-Ok c =
    let ws : List Text = map string_bytes c.args.words.now in
    let name : Text = c.args.command.now in
    let o = ok_case rows_of_options (bare_app name) _ ws (nothing_of ws) c.bare-command.ensures (simple_bare name) (free_bare name) (nothing_reads name ws (words_spelled ws c.requires)) c.in-Ok.matches c.in-Ok.ensures.kinds c.in-Ok.ensures.matches in
    (o.0, o.1, tt)

pub returns-in-Err : goal.returns-in-Err
returns-in-Err c =
    let ws : List Text = map string_bytes c.args.words.now in
    let name : Text = c.args.command.now in
    elim c.refusal.ensures [
      | inl memory ↦ subst (λ f. FailsAs f (nothing_of ws)) (sym memory) tt
      | inr other ↦ subst (λ f. FailsAs f (nothing_of ws)) (sym other.0)
          (err_case rows_of_options (bare_app name) _ ws (nothing_of ws) c.bare-command.ensures (simple_bare name) (free_bare name) (nothing_reads name ws (words_spelled ws c.requires)) c.in-Err.error c.in-Err.ensures.kinds other.1)
    ]
