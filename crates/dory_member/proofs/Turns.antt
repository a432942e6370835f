-- What holds of a member between two replies.
use Rattle.std.proofs.Common.{◌≡◌, ℕ, ◌+◌, inl, inr, refl, sym, ap, subst, ◌∙◌}
use Rattle.std.specs.Prelude.{◌⊎◌, Bool, List, Option, Some, None, Result, Ok, Err}
use Rattle.dory_state.specs.declared.kept.KeptState.{KeptState}
use Rattle.dory_verify.specs.declared.fault.CheckFault.{CheckFault}
use Rattle.dory_verify.specs.Checks.{lengths_of}
use Rattle.dory_member.specs.declared.outcome.Fault.TheVariants as fault
use Rattle.dory_member.specs.declared.phase.Phase.{Phase}
use Rattle.dory_member.specs.declared.phase.Phase.TheVariants.{Updating, Measuring, Searching, Ended}
use Rattle.dory_member.specs.declared.phase.Run.{Run}
use Rattle.dory_member.specs.Course.{Ask, after_lengths, asks, fails, kept_at, moved, name, phase_after, ask_request}
use Rattle.dory_member.specs.Machine.{IsFrameOf, IsFramed, Machine, going_on, ran_out, saves_last, reply_taken}
use Rattle.dory_member.specs.Stands.{Stands}
use Rattle.dory_member.specs.Within.{AsksNamed, RunInRange, Within}
use Rattle.dory_member.proofs.Kept.{kept_at_is}

-- the frame of what is asked stays its frame when the state is kept
kept_frame : (run : Run) (p : Phase) (frame : List ℕ) → IsFramed (name run (run.step + 1)) run.kept.folder (asks p) frame
    → IsFramed (name (moved run p) (run.step + 1)) (moved run p).kept.folder (asks p) frame
kept_frame run (Updating e at) frame h = h
kept_frame run (Measuring word None) frame h = h
kept_frame run (Measuring word (Some lead)) frame h = h
kept_frame run (Searching q None) frame h = h
kept_frame run (Searching q (Some lead)) frame h = h
kept_frame run (Ended o) frame h = tt

kept_names : (run : Run) (p : Phase) → AsksNamed run p → AsksNamed (moved run p) p
kept_names run (Updating e at) h = tt
kept_names run (Measuring word lead) h = tt
kept_names run (Searching q lead) h = h
kept_names run (Ended o) h = tt

-- a run that goes on stands
pub goes_on : (run : Run) (p : Phase) (frame : List ℕ) → RunInRange run → AsksNamed run p → Within p (run.step + 1)
    → IsFramed (name run (run.step + 1)) run.kept.folder (asks p) frame → Stands (moved run p) frame
goes_on run p frame h named within framed = record {
  runs = record { kept = kept_at_is run.kept p (run.step + 1) h.kept within; serial = h.serial; named = kept_names run p named; phase = within };
  framed = kept_frame run p frame framed;
}

other_lengths : (run : Run) (other : Phase) (word : Option (List ℕ)) (r : Result (ℕ × ℕ) CheckFault) → after_lengths (record run { phase = other }) word r ≡ after_lengths run word r
other_lengths run other word (Err f) = refl
other_lengths run other None (Ok n) = refl
other_lengths run other (Some word) (Ok n) = refl

after_other : (run : Run) (other : Phase) (word : Option (List ℕ)) (lead frame : List ℕ)
    → phase_after (record run { phase = other }) (Measuring word (Some lead)) frame ≡ phase_after run (Measuring word (Some lead)) frame
after_other run other word lead frame = other_lengths run other word (lengths_of run.kept.seen (name run 0) (name run 1) lead frame)

-- what a reply leads to doesn't hang on the phase that a run names, but on the one that is given
same_after : (run : Run) (other p : Phase) (frame : List ℕ) → phase_after (record run { phase = other }) p frame ≡ phase_after run p frame
same_after run other (Updating e at) frame = refl
same_after run other (Measuring word None) frame = refl
same_after run other (Measuring None (Some lead)) frame = after_other run other None lead frame
same_after run other (Measuring (Some word) (Some lead)) frame = after_other run other (Some word) lead frame
same_after run other (Searching q None) frame = refl
same_after run other (Searching q (Some lead)) frame = refl
same_after run other (Ended o) frame = refl

-- a member at a run
abbrev pub machine : Run → Bool → Machine
machine run unsaved = record { run = run; unsaved = unsaved }

-- the run with what is kept and the phase after a reply
abbrev pub stepped : Run → KeptState → Phase → Run
stepped run kept p = record { kept = kept; seed = run.seed; serial = run.serial; step = run.step + 1; phase = p }

next_is : (run : Run) (kept : KeptState) (p : Phase) (u : Bool) → kept ≡ kept_at run.kept p → u ≡ saves_last p → machine (stepped run kept p) u ≡ going_on (moved run p)
next_is run kept p u k s = λ i. record { run = record { kept = k i; seed = run.seed; serial = run.serial; step = run.step + 1; phase = p }; unsaved = s i }

-- a reply is taken, or memory ran out
pub goes : (run : Run) (u : Bool) (m : Machine) (frame : List ℕ) (other given p : Phase) (kept : KeptState) (unsaved : Bool) → machine run u ≡ m → given ≡ run.phase
    → (p ≡ phase_after (record run { phase = other }) given frame) ⊎ (p ≡ fails fault.NoMemory) → kept ≡ kept_at run.kept p → unsaved ≡ saves_last p
    → (machine (stepped run kept p) unsaved ≡ reply_taken m frame) ⊎ (machine (stepped run kept p) unsaved ≡ ran_out m)
goes run u m frame other given p kept unsaved view g (inl e) k s =
    let after : p ≡ phase_after run run.phase frame = e ∙ same_after run other given frame ∙ ap (λ (q : Phase). phase_after run q frame) g in
    inl (next_is run kept p unsaved k s ∙ ap (λ (q : Phase). going_on (moved run q)) after ∙ ap (λ (m : Machine). reply_taken m frame) view)
goes run u m frame other given p kept unsaved view g (inr e) k s =
    inr (next_is run kept p unsaved k s ∙ ap (λ (q : Phase). going_on (moved run q)) e ∙ ap ran_out view)

-- what is shown of a member that asks is a frame of its request
pub asks_by : (run : Run) (u : Bool) (m : Machine) (ask : Ask) (frame shown : List ℕ) → machine run u ≡ m → IsFramed (name run run.step) run.kept.folder (asks run.phase) frame
    → asks m.run.phase ≡ Some ask → shown ≡ frame → IsFrameOf (ask_request m.run ask) shown
asks_by run u m ask frame shown view framed asked same =
    let now : asks run.phase ≡ Some ask = ap (λ (m : Machine). asks m.run.phase) view ∙ asked in
    let held : IsFrameOf (ask_request run ask) frame = subst (λ (o : Option Ask). IsFramed (name run run.step) run.kept.folder o frame) now framed in
    subst (λ (m : Machine). IsFrameOf (ask_request m.run ask) shown) view (subst (IsFrameOf (ask_request run ask)) (sym same) held)
