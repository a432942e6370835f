-- A list of replies with one more.
use Rattle.std.proofs.Common.{◌≡◌, ℕ, List, [], ◌∷◌, ◌++◌, refl, sym, ap, ◌∙◌, append_assoc}
use Rattle.dory_member.specs.declared.phase.Run.{Run}
use Rattle.dory_member.specs.Course.{Put, asked_of, asks, put_at, run_after, took}

pub one_more_run : (run : Run) (frames : List (List ℕ)) (frame : List ℕ) → run_after run (frames ++ frame ∷ []) ≡ took (run_after run frames) frame
one_more_run run [] frame = refl
one_more_run run (f ∷ frames) frame = one_more_run (took run f) frames frame

pub one_more_ask : (run : Run) (frames : List (List ℕ)) (frame : List ℕ)
    → asked_of run (frames ++ frame ∷ []) ≡ asked_of run frames ++ put_at (took (run_after run frames) frame) (asks (took (run_after run frames) frame).phase)
one_more_ask run [] frame = refl
one_more_ask run (f ∷ frames) frame =
    let last = took (run_after (took run f) frames) frame in
    ap (λ (asked : List Put). put_at run (asks run.phase) ++ asked) (one_more_ask (took run f) frames frame)
    ∙ sym (append_assoc (put_at run (asks run.phase)) (asked_of (took run f) frames) (put_at last (asks last.phase)))
