-- By which of the replies that came a call ends, over links that tell their exchanges.
use Rattle.std.specs.Prelude.{ℕ, ◌≡◌, ◌⊎◌, ◌+◌, ⊤, Bool, false, nat_lt, if◌then◌else◌, List, [], ◌∷◌, Option, Some, None, Result, Ok, Err}
use Rattle.dory_base.specs.declared.ids.Side.{Side}
use Rattle.dory_base.specs.declared.ids.Side.TheVariants.{Follow}
use Rattle.dory_base.specs.declared.refusal.Refusal.TheVariants.{Gap}
use Rattle.dory_query.specs.Columns.{asked_columns}
use Rattle.dory_verify.specs.declared.fault.CheckFault.{CheckFault}
use Rattle.dory_verify.specs.declared.fault.CheckFault.TheVariants as check
use Rattle.dory_verify.specs.Checks.{first_fault_of, lengths_of}
use Rattle.dory_cli.specs.Line.{line_of as read_of}
use Rattle.dory_state.specs.declared.kept.KeptState.{KeptState}
use Rattle.dory_member.specs.declared.outcome.Fault.{Fault}
use Rattle.dory_member.specs.declared.outcome.Fault.TheVariants as fault
use Rattle.dory_member.specs.declared.outcome.Mark.{Mark}
use Rattle.dory_member.specs.declared.outcome.Outcome.{Outcome}
use Rattle.dory_member.specs.declared.phase.Phase.{Phase}
use Rattle.dory_member.specs.declared.phase.Phase.TheVariants.{Updating, Measuring, Searching, Ended}
use Rattle.dory_member.specs.declared.phase.Run.{Run}
use Rattle.dory_member.specs.declared.phase.UpdateStep.{UpdateStep}
use Rattle.dory_member.specs.declared.phase.UpdateStep.TheVariants.{FollowOn}
use Rattle.dory_member.specs.Course.{ended_of, folder_keys, name, side_of, single_of, took}
use Rattle.dory_member.specs.Single.{confirmed}
use Rattle.dory_drive.specs.Member.{member_course}
use Rattle.dory_drive.specs.Received.{BothTellMore, IsUnreplied, Received, Talks}
use Rattle.dory_drive.specs.Scene.{AskedNothing}
use Rattle.dory_drive.specs.Way.{scene_links}
use Rattle.dory_client.specs.declared.start.Todo.{Todo}
use Rattle.dory_client.specs.declared.end.ClientEnd.{ClientEnd}
use Rattle.dory_client.specs.declared.end.ClientEnd.TheVariants as ends
use Rattle.dory_client.specs.ByWords.{ByWords}
use Rattle.dory_client.specs.CallEffects.{IsBegun}
use Rattle.dory_client.specs.CommandEnds.{IsGood}
use Rattle.dory_client.specs.Ends.{fault_end}
use Rattle.dory_client.specs.Scene.{Moment}

-- ---- what the checks find

-- the first fault of a pair of replies, if they have one
abbrev pub fault_of_pair : {A : Type 0} → Result A CheckFault → Option Fault
fault_of_pair (Ok x) = None
fault_of_pair (Err f) = Some (fault.Check f)

-- a follower that misses more than this update, as it refuses to follow it for the first time: it is repaired
abbrev pub is_behind : UpdateStep → Fault → Bool
is_behind (FollowOn number false) (fault.Check (check.Refused Follow (Gap l))) = nat_lt (l + 1) number
is_behind at f = false

-- the first fault of a reply that is checked by itself, if it has one
abbrev pub fault_of_one : UpdateStep → Result Mark Fault → Option Fault
fault_of_one at (Ok m) = None
fault_of_one at (Err f) = if is_behind at f then None else Some f

-- The first fault that the checks find where this frame came: of an update's reply by itself, and of a pair when both
-- have come.
abbrev pub fault_at : Run → Phase → List ℕ → Option Fault
fault_at run (Updating e at) frame = fault_of_one at (confirmed (side_of at) (single_of e.id at) (name run run.step) frame)
fault_at run (Measuring word None) frame = None
fault_at run (Measuring word (Some lead)) frame = fault_of_pair (lengths_of run.kept.seen (name run 0) (name run 1) lead frame)
fault_at run (Searching q None) frame = None
fault_at run (Searching q (Some lead)) frame =
    fault_of_pair (first_fault_of (folder_keys run.kept) (asked_columns q) q.version run.kept.seen (name run 2) (name run 3) lead frame)
fault_at run (Ended outcome) frame = None

-- a fault, where there is one, and else the one of what came later
abbrev pub or_later : Option Fault → Option Fault → Option Fault
or_later None later = later
or_later (Some f) later = Some f

-- the first fault that the checks find in the replies that came to a command
abbrev pub first_fault : Run → List (List ℕ) → Option Fault
first_fault run [] = None
first_fault run (frame ∷ frames) = or_later (fault_at run run.phase frame) (first_fault (took run frame) frames)

-- ---- the ends that come of it

-- a fault of what came: of a check, of a reply that confirms something else, or of domains that have diverged
abbrev pub IsOfReplies : Fault → Type 0
IsOfReplies (fault.Check f) = ⊤
IsOfReplies (fault.Unconfirmed side want got) = ⊤
IsOfReplies (fault.Diverged number lead_id follow_id) = ⊤
IsOfReplies _ = ⊥

-- an end that comes of no ask
abbrev pub IsOfNoAsk : ClientEnd → Type 0
IsOfNoAsk (ends.LinkFault side) = ⊥
IsOfNoAsk (ends.Check f) = ⊥
IsOfNoAsk (ends.Unconfirmed side want got) = ⊥
IsOfNoAsk (ends.Diverged number lead_id follow_id) = ⊥
IsOfNoAsk _ = ⊤

-- How a command ends by what both links told of it. These replies came, and no others. It ends by a failed check, as
-- unconfirmed or as diverged exactly where that is the first fault of these replies, and by a link's fault exactly where
-- the last ask over that link has no reply, unless memory ran out. It is done only where they have no fault and are all
-- that it asks.
pub record IsJudged (run : Run) (told : Talks) (end : ClientEnd) : Type 0 where
  pub frames : List (List ℕ)
  pub received : Received member_course run told frames
  pub alone : (others : List (List ℕ)) → Received member_course run told others → others ≡ frames
  pub only : (f : Fault) → IsOfReplies f → end ≡ fault_end f → first_fault run frames ≡ Some f
  pub always : (f : Fault) → first_fault run frames ≡ Some f → (end ≡ fault_end f) ⊎ (end ≡ ends.NoMemory)
  pub broke : (side : Side) → end ≡ ends.LinkFault side → IsUnreplied side received.left
  pub unreplied : (side : Side) → IsUnreplied side received.left → (end ≡ ends.LinkFault side) ⊎ (end ≡ ends.NoMemory)
  pub done : end ≡ ends.Done → (first_fault run frames ≡ None) × (outcome : Outcome) × (ended_of run frames ≡ Some outcome) × IsGood outcome

-- A command asked nothing, and its end comes of no ask, or it began, and where both links tell their exchanges it ends by
-- them.
pub data JudgedInAll (t : Todo) (seed : List ℕ) (before after : Moment) (end : ClientEnd) : Type 0 where
  Nothing : AskedNothing before.outside after.outside → IsOfNoAsk end → JudgedInAll t seed before after end
  ByReplies : (k : KeptState) (run : Run) → IsBegun t seed before after k run
      → ((told : Talks) → BothTellMore (scene_links before.outside) (scene_links after.outside) told → IsJudged run told end)
      → JudgedInAll t seed before after end

-- by what a call of these words ends: by no ask where a first state begins, or where the words are no line
abbrev pub CallCauses : List (List ℕ) → List ℕ → Moment → Moment → ClientEnd → Type 0
CallCauses words seed before after end =
    ByWords (read_of words) (λ first. IsOfNoAsk end) (λ t. JudgedInAll t seed before after end) (IsOfNoAsk end)
