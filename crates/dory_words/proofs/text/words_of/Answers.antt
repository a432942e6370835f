use Rattle.std.proofs.Common.{◌∙◌, sym, ap, ℕ, ◌++◌, length, drop, Vec, Global, arith, subst}
use Rattle.dory_base.specs.declared.word.Word.{Word}
use Rattle.dory_words.specs.Division.{AreWords}
use Rattle.dory_words.specs.WordsIn.{words_in}
use Rattle.dory_words.proofs.Cuts.{only_words}
use Rattle.dory_words.proofs.Divisions.{words_in_are}
use Rattle.dory_words.proofs.Steps.{between, run_more, cut_more, words_end}
use Rattle.dory_words.proofs.text.words_of.Goals as goal
use Rattle.dory_words.proofs.text.words_of.Goals.{then-not-has_byte+in_ok-push_run, else-not-has_byte}

pub loop-at-preserved : goal.loop-at-preserved
loop-at-preserved c =
    elim c.if-not-has_byte.branch [
      | then-not-has_byte+in_ok-push_run w ↦
          record {
            within = omega (arith, w.start-is);
            run = λ k low high. absurd (omega (arith, w.start-is));
            words =
                ap (λ (n : ℕ). c.if-not-has_byte.words.items ++ words_in (drop n c.args.text.now)) w.start-is
                ∙ cut_more c.args.text.now c.loop-at.words.items c.if-not-has_byte.words.items c.loop-at.start c.loop-at.at c.loop-at.invariant.within (omega arith)
                c.loop-at.invariant.run (sym c.has_byte.ensures ∙ w.if-not-has_byte.true) c.loop-at.invariant.words
                (ap (λ (v : Vec Word Global). v.items) w.words-is ∙ w.in_ok-push_run.ensures);
          }
      | else-not-has_byte w ↦
          record {
            within = omega (arith, w.start-is);
            run = λ k low high. run_more c.args.text.now c.loop-at.start c.loop-at.at c.loop-at.invariant.run (sym c.has_byte.ensures ∙ w.if-not-has_byte.false) k (omega (arith, w.start-is)) high;
            words =
                ap (λ (n : ℕ). c.if-not-has_byte.words.items ++ words_in (drop n c.args.text.now)) w.start-is
                ∙ ap (λ (v : Vec Word Global). v.items ++ words_in (drop c.loop-at.start c.args.text.now)) w.words-is
                ∙ c.loop-at.invariant.words;
          }
    ]

pub push_run-requires-2 : goal.push_run-requires-2
push_run-requires-2 c =
    between c.args.text.now c.loop-at.start (length c.args.text.now) (omega arith) (λ k low high. c.loop-at.invariant.run k low (omega arith))

pub returns-clause-divided : goal.returns-clause-divided
returns-clause-divided c =
    subst (AreWords c.args.text.now) (sym (words_end c.args.text.now c.loop-at.words.items c.push_run-2.new.words.items c.loop-at.start c.loop-at.invariant.words c.in_ok-push_run-2.ensures))
    (words_in_are c.args.text.now)

pub returns-clause-only : goal.returns-clause-only
returns-clause-only c = λ others are.
    only_words c.args.text.now others are
    ∙ sym (words_end c.args.text.now c.loop-at.words.items c.push_run-2.new.words.items c.loop-at.start c.loop-at.invariant.words c.in_ok-push_run-2.ensures)
