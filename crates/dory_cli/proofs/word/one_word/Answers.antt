use Rattle.std.proofs.Common.{◌∙◌, List, [], codes, map, string_bytes, sym, subst, inl, inr, ap, slice_get, option_and_then, unwrap_or}
use Rattle.dory_cli.specs.Words.{Text}
use Rattle.dory_cli.specs.Commands.{FailsAs, word_of, words_of}
use Rattle.dory_cli.specs.Rules.{word_app}
use Rattle.dory_cli.proofs.Places.{rows_of_others}
use Rattle.dory_cli.proofs.InitReads.{words_spelled}
use Rattle.dory_cli.proofs.WordReads.{err_case, free_word, ok_case, read_word_value, simple_word, some_word, word_reads}
use Rattle.dory_cli.proofs.word.one_word.Goals as goal

pub returns-in-Ok : goal.returns-in-Ok
returns-in-Ok c =
    let ws : List Text = map string_bytes c.args.words.now in
    let name : Text = c.args.command.now in
    let o = ok_case (rows_of_others (codes "word")) (word_app name (codes "word")) _ ws (words_of ws) c.in_ok-command.ensures (simple_word name (codes "word")) (free_word name (codes "word")) (word_reads name (codes "word") ws (words_spelled ws c.requires)) c.in-Ok.matches c.in-Ok.ensures.kinds c.in-Ok.ensures.matches in
    some_word ws o.0 c.text.result.now o.1 (c.text.ensures ∙ ap (λ v. unwrap_or v []) (read_word_value c.in-Ok.matches (codes "word") o.0 o.2))

pub returns-in-Err : goal.returns-in-Err
returns-in-Err c =
    let ws : List Text = map string_bytes c.args.words.now in
    let name : Text = c.args.command.now in
    elim c.refusal.ensures [
      | inl memory ↦ subst (λ f. FailsAs f (word_of ws)) (sym memory) tt
      | inr other ↦ subst (λ f. FailsAs f (word_of ws)) (sym other.0)
          (ap (option_and_then (λ o. slice_get o 0)) (err_case (rows_of_others (codes "word")) (word_app name (codes "word")) _ ws (words_of ws) c.in_ok-command.ensures (simple_word name (codes "word")) (free_word name (codes "word")) (word_reads name (codes "word") ws (words_spelled ws c.requires)) c.in-Err.error c.in-Err.ensures.kinds other.1))
    ]
