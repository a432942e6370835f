-- A member's course is one of a conversation. This stands in `specs` since the `impl` of the trait of conversations cites it,
-- and a ghost item may cite nothing of its own crate's `proofs`.
use Rattle.std.proofs.Common.{◌≡◌, true, false, Some, None, refl}
use Rattle.dory_state.specs.declared.kept.KeptState.{KeptState}
use Rattle.dory_member.specs.declared.outcome.Outcome.{Outcome}
use Rattle.dory_member.specs.declared.outcome.Outcome.TheVariants.{Posted, Removed, Accepted}
use Rattle.dory_member.specs.declared.phase.Phase.{Phase}
use Rattle.dory_member.specs.declared.phase.Phase.TheVariants.{Measuring, Searching, Ended}
use Rattle.dory_member.specs.declared.phase.Run.{Run}
use Rattle.dory_member.specs.Course.{asks, finished, kept_at, outcome_at, phase_after}
use Rattle.dory_member.specs.Machine.{keeps, saves_first, saves_last}
use Rattle.dory_drive.specs.Course.{IsCourse}
use Rattle.dory_drive.specs.Member.{member_course, put_of}

has_outcome : (run : Run) (p : Phase) → put_of run (asks p) ≡ None → (outcome : Outcome) × (outcome_at p ≡ Some outcome)
has_outcome run (Ended outcome) h = (outcome, refl)
has_outcome run (Measuring word None) h = absurd (cc)
has_outcome run (Searching q None) h = absurd (cc)
has_outcome run _ h = absurd (cc)

asks_none : (run : Run) (p : Phase) → saves_first p ≡ false → (put_of run (asks p) ≡ None) × (saves_last p ≡ false)
asks_none run (Ended outcome) h = (refl, h)
asks_none run _ h = absurd (cc)

saving : (run : Run) (p : Phase) → saves_last p ≡ true → put_of run (asks p) ≡ None
saving run (Ended outcome) h = refl
saving run _ h = absurd (cc)

kept_by : (k : KeptState) (outcome : Outcome) → keeps outcome ≡ false → finished k outcome ≡ k
kept_by k (Posted doc number) h = absurd (cc)
kept_by k (Removed doc number) h = absurd (cc)
kept_by k (Accepted answer) h = absurd (cc)
kept_by k _ h = refl

kept_same : (k : KeptState) (p : Phase) → saves_last p ≡ false → kept_at k p ≡ k
kept_same k (Ended outcome) h = kept_by k outcome h
kept_same k _ h = refl

-- all that is true of a course is true of a member's
pub is_course : IsCourse member_course
is_course = record {
  ends = λ run. has_outcome run run.phase;
  idle = λ run. asks_none run run.phase;
  last = λ run. saving run run.phase;
  keeps = λ run frame. kept_same run.kept (phase_after run run.phase frame);
  lost = λ run. (refl, refl, refl);
}
