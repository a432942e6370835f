-- What a call comes to, by what its words set out to do.
use Rattle.std.proofs.Common.{◌≡◌, ℕ, List, Option, None, Some, Result, Ok, Err, refl, ap, sym, ◌∙◌, subst, inl, inr}
use Rattle.std.specs.Prelude.{◌⊎◌}
use Rattle.std.specs.Io.KnownBytes.{Appends}
use Rattle.dory_io.specs.Bytes.{Tells}
use Rattle.dory_cli.specs.declared.line.Line.{Line}
use Rattle.dory_cli.specs.declared.fault.UsageFault.{UsageFault}
use Rattle.dory_state.specs.Reading.{state_of}
use Rattle.dory_state.specs.Spelling.{IsKeptState}
use Rattle.dory_state.specs.declared.kept.KeptState.{KeptState}
use Rattle.dory_state.specs.declared.fault.StateFault.{StateFault}
use Rattle.dory_member.specs.declared.outcome.Fault.{Fault}
use Rattle.dory_member.specs.declared.outcome.Fault.TheVariants as fault
use Rattle.dory_member.specs.declared.outcome.Outcome.{Outcome}
use Rattle.dory_member.specs.declared.phase.Run.{Run}
use Rattle.dory_member.specs.Course.{ended_of, outcome_at, run_after}
use Rattle.dory_drive.specs.declared.broken.Broken.{Broken}
use Rattle.dory_drive.specs.declared.broken.Broken.TheVariants as broken
use Rattle.dory_drive.specs.Course.{run_after as driven_run}
use Rattle.dory_drive.specs.Driven.{Finished, RanOut, KeepsOf as KeepsBy}
use Rattle.dory_drive.specs.Member.{member_course}
use Rattle.dory_drive.specs.Scene.{AskedNothing, IsUntouched, Scene}
use Rattle.dory_client.specs.declared.input.InputEnd.{InputEnd}
use Rattle.dory_client.specs.declared.input.InputEnd.TheVariants as input
use Rattle.dory_client.specs.declared.start.Todo.{Todo}
use Rattle.dory_client.specs.declared.start.Start.{Start}
use Rattle.dory_client.specs.declared.start.Start.TheVariants.{Init, Act}
use Rattle.dory_client.specs.declared.end.ClientEnd.{ClientEnd}
use Rattle.dory_client.specs.declared.end.ClientEnd.TheVariants as ends
use Rattle.dory_client.specs.ByWords.{ByStart, ByWords}
use Rattle.dory_client.specs.CallCauses.{IsOfNoAsk}
use Rattle.dory_client.specs.CallEffects.{IsBegun}
use Rattle.dory_client.specs.CommandEnds.{CommandEnds, BrokeOff, CommandFailed, CommandTold, ExchangedBetween, IsGood, Prints, Wrote, WrotePart, Untold, outcome_line}
use Rattle.dory_client.specs.Complete.{KeepsState}
use Rattle.dory_client.specs.Ends.{IsKeeperEnd, IsSilent, IsUndone, broken_end, fault_end, input_end, kind_of}
use Rattle.dory_client.specs.Kept.{KeepsOf}
use Rattle.dory_client.specs.Run.{Acts, Refused, NoText, NoRoom, Began, ActsIn, Loads, Unloaded, Loaded, Runs, StartsIn, StateBegins}
use Rattle.dory_client.specs.Scene.{Input, met}
use Rattle.dory_client.specs.Start.{command_of, start_of}
use Rattle.dory_client.proofs.Beginnings.{refused_no_ask}
use Rattle.dory_client.proofs.WayLaws.{lost_bad, same_run}

-- ---- ends at which nothing is written

fault_silent : (f : Fault) → IsSilent (kind_of (fault_end f))
fault_silent (fault.Check c) = tt
fault_silent _ = tt

input_silent : (e : InputEnd) → IsSilent (kind_of (input_end e))
input_silent input.Fault = tt
input_silent _ = tt

broken_silent : (b : Broken) → IsSilent (kind_of (broken_end b))
broken_silent broken.KeeperFault = tt
broken_silent _ = tt

silent_as : (end x : ClientEnd) → end ≡ x → IsSilent (kind_of x) → IsSilent (kind_of end)
silent_as end x is quiet = subst (λ (e : ClientEnd). IsSilent (kind_of e)) (sym is) quiet

pub at_fault : (end : ClientEnd) (f : Fault) → end ≡ fault_end f → IsSilent (kind_of end)
at_fault end f is = silent_as end (fault_end f) is (fault_silent f)

pub at_break : (end : ClientEnd) (b : Broken) → end ≡ broken_end b → IsSilent (kind_of end)
at_break end b is = silent_as end (broken_end b) is (broken_silent b)

pub at_keeper : (end : ClientEnd) → IsKeeperEnd end → IsSilent (kind_of end)
at_keeper end (inl is) = silent_as end ends.KeeperFault is tt
at_keeper end (inr is) = silent_as end ends.NoMemory is tt

pub undone : (end : ClientEnd) → IsSilent (kind_of end) → IsUndone end
undone end quiet done = silent_as ends.Done end (sym done) quiet

-- ---- ends that come of no ask

pub no_ask : (end x : ClientEnd) → end ≡ x → IsOfNoAsk x → IsOfNoAsk end
no_ask end x is none = subst IsOfNoAsk (sym is) none

input_no_ask : (e : InputEnd) → IsOfNoAsk (input_end e)
input_no_ask input.Fault = tt
input_no_ask _ = tt

-- an end that comes of no ask, and at which nothing is written
pub record IsQuietEnd (end : ClientEnd) : Type 0 where
  pub silent : IsSilent (kind_of end)
  pub no_ask : IsOfNoAsk end

quiet_as : (end x : ClientEnd) → end ≡ x → IsSilent (kind_of x) → IsOfNoAsk x → IsQuietEnd end
quiet_as end x is silent none = record { silent = silent_as end x is silent; no_ask = no_ask end x is none }

quiet_keeper : (end : ClientEnd) → IsKeeperEnd end → IsQuietEnd end
quiet_keeper end (inl is) = quiet_as end ends.KeeperFault is tt tt
quiet_keeper end (inr is) = quiet_as end ends.NoMemory is tt tt

-- ---- in a told state

-- the state wasn't read, since the keeper failed or memory ran out, or it is in range and the command acts in it
abbrev pub Acted : KeptState → List ℕ → Todo → Input → Input → Scene → Scene → ClientEnd → Type 0
Acted k seed t i i' a z end = IsKeeperEnd end ⊎ (IsKeptState k × Acts k seed t (met i a) (met i' z) end)

ok_as : (k : KeptState) (r : Result KeptState StateFault) (seed : List ℕ) (t : Todo) (i i' : Input) (a z : Scene) (end : ClientEnd) → r ≡ Ok k → ActsIn r seed t (met i a) (met i' z) end → Acted k seed t i i' a z end
ok_as k (Ok l) seed t i i' a z end is acts =
    let same : l ≡ k = cc in
    inr (subst (λ (x : KeptState). IsKeptState x × Acts x seed t (met i a) (met i' z) end) same acts)
ok_as k (Err f) seed t i i' a z end is acts = absurd (cc)

pub told_as : (told : Option (Option (List ℕ))) (k : KeptState) (kept : Option (List ℕ)) → KeepsState told k → Tells told kept → (bytes : List ℕ) × (kept ≡ Some bytes) × (state_of bytes ≡ Ok k)
told_as None k kept keeps t = absurd keeps
told_as (Some None) k kept keeps t = absurd keeps
told_as (Some (Some bytes)) k kept keeps t = (bytes, sym t, keeps)

started : (k : KeptState) (kept : Option (List ℕ)) (bytes seed : List ℕ) (t : Todo) (i i' : Input) (a z : Scene) (end : ClientEnd) → kept ≡ Some bytes → state_of bytes ≡ Ok k → StartsIn (Act t) kept seed (met i a) (met i' z) end → Acted k seed t i i' a z end
started k None bytes seed t i i' a z end e is s = absurd (cc)
started k (Some b) bytes seed t i i' a z end e is (inl (quiet, out)) = inl (inr out)
started k (Some b) bytes seed t i i' a z end e is (inr acts) =
    let same : b ≡ bytes = cc in
    ok_as k (state_of b) seed t i i' a z end (ap state_of same ∙ is) acts

pub acted : (k : KeptState) (seed : List ℕ) (t : Todo) (i i' : Input) (a z : Scene) (end : ClientEnd) → KeepsState a.kept k → Loads (Act t) seed (met i a) (met i' z) end → Acted k seed t i i' a z end
acted k seed t i i' a z end keeps (Unloaded quiet is) = inl is
acted k seed t i i' a z end keeps (Loaded kept told starts) =
    let bytes = told_as a.kept k kept keeps told in
    started k kept bytes.0 seed t i i' a z end bytes.1 bytes.2 starts

-- ---- by the words

-- nothing was touched or written, and the end comes of no ask
abbrev pub IsStill : Scene → Scene → ClientEnd → Type 0
IsStill a z end = IsUntouched a z × IsQuietEnd end

-- the command began in the state that is kept, and went on
abbrev pub BeginsOrNot : Todo → List ℕ → Input → Input → Scene → Scene → ClientEnd → Type 0
BeginsOrNot t seed i i' a z end = IsStill a z end ⊎ ((k : KeptState) × (r : Run) × IsBegun t seed (met i a) (met i' z) k r × CommandEnds r a z end)

-- a first state began
abbrev pub FirstOrNot : KeptState → Scene → Scene → ClientEnd → Type 0
FirstOrNot first a z end = IsStill a z end ⊎ (AskedNothing a z × StateBegins first a.kept z.kept a.written z.written end)

acts_begin : (t : Todo) (bytes seed : List ℕ) (i i' : Input) (a z : Scene) (end : ClientEnd) (k : KeptState) → Tells a.kept (Some bytes) → state_of bytes ≡ Ok k → IsKeptState k → Acts k seed t (met i a) (met i' z) end → BeginsOrNot t seed i i' a z end
acts_begin t bytes seed i i' a z end k told is range (Refused text f has e u at) = inl (u, quiet_as end (fault_end f) at (fault_silent f) (refused_no_ask k seed (command_of k text t) f e))
acts_begin t bytes seed i i' a z end k told is range (NoText e has u at) = inl (u, quiet_as end (input_end e) at (input_silent e) (input_no_ask e))
acts_begin t bytes seed i i' a z end k told is range (NoRoom text has u at) = inl (u, quiet_as end ends.NoMemory at tt tt)
acts_begin t bytes seed i i' a z end k told is range (Began text r has begins goes) =
    inr (k, r, record { bytes = bytes; text = text; is_kept = told; is_state = is; in_range = range; has_text = has; begins = begins }, goes)

acts_in_begin : (t : Todo) (bytes seed : List ℕ) (i i' : Input) (a z : Scene) (end : ClientEnd) (read : Result KeptState StateFault) → Tells a.kept (Some bytes) → state_of bytes ≡ read → ActsIn read seed t (met i a) (met i' z) end → BeginsOrNot t seed i i' a z end
acts_in_begin t bytes seed i i' a z end (Ok k) told is (range, acts) = acts_begin t bytes seed i i' a z end k told is range acts
acts_in_begin t bytes seed i i' a z end (Err f) told is (quiet, at) = inl (quiet.1, quiet_as end (ends.StateForm f) at tt tt)

pub begins_or_not : (t : Todo) (seed : List ℕ) (i i' : Input) (a z : Scene) (end : ClientEnd) → Loads (Act t) seed (met i a) (met i' z) end → BeginsOrNot t seed i i' a z end
begins_or_not t seed i i' a z end (Unloaded quiet is) = inl (quiet.1, quiet_keeper end is)
begins_or_not t seed i i' a z end (Loaded None told (quiet, at)) = inl (quiet.1, quiet_as end ends.NoState at tt tt)
begins_or_not t seed i i' a z end (Loaded (Some bytes) told (inl (quiet, at))) = inl (quiet.1, quiet_as end ends.NoMemory at tt tt)
begins_or_not t seed i i' a z end (Loaded (Some bytes) told (inr acts)) = acts_in_begin t bytes seed i i' a z end (state_of bytes) told refl acts

by_start : (s : Start) (seed : List ℕ) (i i' : Input) (a z : Scene) (end : ClientEnd) (F : KeptState → Type 0) (A : Todo → Type 0) → ((first : KeptState) → FirstOrNot first a z end → F first) → ((t : Todo) → BeginsOrNot t seed i i' a z end → A t)
    → Loads s seed (met i a) (met i' z) end → ByStart s F A
by_start (Init first) seed i i' a z end F A begins acts (Unloaded quiet is) = begins first (inl (quiet.1, quiet_keeper end is))
by_start (Init first) seed i i' a z end F A begins acts (Loaded None told (unread, asked, b)) = begins first (inr (asked, b))
by_start (Init first) seed i i' a z end F A begins acts (Loaded (Some bytes) told (quiet, at)) = begins first (inl (quiet.1, quiet_as end ends.HasState at tt tt))
by_start (Act t) seed i i' a z end F A begins acts loads = acts t (begins_or_not t seed i i' a z end loads)

-- what is true of each way that a call may go is true of the call
pub by_words : (r : Result Line UsageFault) (seed : List ℕ) (i i' : Input) (a z : Scene) (end : ClientEnd) (F : KeptState → Type 0) (A : Todo → Type 0) (N : Type 0) → ((first : KeptState) → FirstOrNot first a z end → F first) → ((t : Todo) → BeginsOrNot t seed i i' a z end → A t)
    → (IsStill a z end → N) → Runs r seed (met i a) (met i' z) end → ByWords r F A N
by_words (Ok line) seed i i' a z end F A N begins acts none loads = by_start (start_of line) seed i i' a z end F A begins acts loads
by_words (Err f) seed i i' a z end F A N begins acts none (quiet, inl at) = none (quiet.1, quiet_as end (ends.Usage f) at tt tt)
by_words (Err f) seed i i' a z end F A N begins acts none (quiet, inr at) = none (quiet.1, quiet_as end ends.NoMemory at tt tt)

-- ---- a command that was done

-- it came to an outcome by these frames, which was kept
pub record Came (run : Run) (a z : Scene) (outcome : Outcome) : Type 0 where
  pub frames : List (List ℕ)
  pub went : ExchangedBetween run frames a z
  pub ended : ended_of run frames ≡ Some outcome
  pub kept : KeepsOf run a.kept z.kept (run_after run frames).kept

pub came : (run : Run) (a z : Scene) (o : Outcome) (frames : List (List ℕ)) → ExchangedBetween run frames a z → outcome_at (driven_run member_course run frames).phase ≡ Some o → KeepsBy member_course run a z (driven_run member_course run frames) → Came run a z o
came run a z o frames went ended kept = record {
  frames = frames;
  went = went;
  ended = subst (λ (r : Run). outcome_at r.phase ≡ Some o) (same_run run frames) ended;
  kept = subst (λ (r : Run). KeepsOf run a.kept z.kept r.kept) (same_run run frames) kept;
}

-- and the line of it was written
pub record CameWell (run : Run) (a z : Scene) : Type 0 where
  pub outcome : Outcome
  pub good : IsGood outcome
  pub by : Came run a z outcome
  pub wrote : Appends a.written z.written (outcome_line outcome)

wrote_all : (text : List ℕ) (before now : Option (List ℕ)) → Prints text before now ends.Done → Appends before now text
wrote_all text before now (Wrote w e) = w
wrote_all text before now (WrotePart w e) = absurd (cc)
wrote_all text before now (Untold w e) = absurd (cc)

pub came_well : (run : Run) (a z : Scene) → CommandEnds run a z ends.Done → CameWell run a z
came_well run a z (BrokeOff b goes wrote is) = absurd (at_break ends.Done b is)
came_well run a z (CommandFailed f comes wrote is) = absurd (at_fault ends.Done f is)
came_well run a z (CommandTold o good (RanOut earlier frame went is kept) says) = lost_bad o is good
came_well run a z (CommandTold o good (Finished frames went is kept) says) = record { outcome = o; good = good; by = came run a z o frames went is kept; wrote = wrote_all (outcome_line o) a.written z.written says }
