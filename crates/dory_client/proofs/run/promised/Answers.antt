use Rattle.std.proofs.Common.{map, string_bytes}
use Rattle.dory_client.proofs.Endings.{ends_so, complete}
use Rattle.dory_client.proofs.EffectLaws.{accepted, does}
use Rattle.dory_client.proofs.AskLaws.{puts}
use Rattle.dory_client.proofs.CauseLaws.{judges}
use Rattle.dory_client.proofs.KeptLaws.{leaves}
use Rattle.dory_client.proofs.PrintLaws.{writes}
use Rattle.dory_client.proofs.run.promised.Goals as goal

pub returns-clause-call : goal.returns-clause-call
returns-clause-call g c =
    let words = map string_bytes c.args.words.now in
    let ran = c.run_words.ensures.run in
    record {
      run = ran;
      cause = c.run_words.ensures.cause;
      input_cause = c.run_words.ensures.input;
      long = c.run_words.ensures.long;
      accepted = λ is. accepted words c.args.seed _ _ _ _ (rw is at ran);
      does = λ is. does words c.args.seed _ _ _ _ (rw is at ran);
      asked = puts words c.args.seed _ _ _ _ c.run_words.result ran;
      judged = judges words c.args.seed _ _ _ _ c.run_words.result ran;
      leaves = leaves words c.args.seed _ _ _ _ c.run_words.result ran;
      wrote = writes words c.args.seed _ _ _ _ c.run_words.result ran;
      complete = complete words c.args.seed _ _ _ _ c.run_words.result ran;
      ends = ends_so words c.args.seed _ _ _ _ c.run_words.result (record { caused = c.run_words.ensures.cause; input = c.run_words.ensures.input; long = c.run_words.ensures.long }) ran;
    }
