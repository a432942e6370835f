-- By which of the replies that came a call ends.
use Rattle.std.proofs.Common.{◌≡◌, ℕ, ◌+◌, Bool, true, false, nat_lt, List, [], ◌∷◌, ◌++◌, Option, None, Some, Result, Ok, Err, refl, ap, sym, ◌∙◌, subst, inl, inr}
use Rattle.std.specs.Prelude.{◌⊎◌, if◌then◌else◌}
use Rattle.dory_base.specs.declared.entry.Change.TheVariants as change
use Rattle.dory_base.specs.declared.entry.Entry.{Entry}
use Rattle.dory_base.specs.declared.ids.Side.{Side}
use Rattle.dory_base.specs.declared.ids.Side.TheVariants.{Follow}
use Rattle.dory_base.specs.declared.refusal.Refusal.TheVariants.{Gap}
use Rattle.dory_base.specs.declared.found.Found.{Found}
use Rattle.dory_hmac.specs.declared.folder_keys.FolderKeys.{FolderKeys}
use Rattle.dory_query.specs.Columns.{asked_columns}
use Rattle.dory_query.specs.declared.query.Query.{Query}
use Rattle.dory_verify.specs.declared.fault.CheckFault.{CheckFault}
use Rattle.dory_verify.specs.declared.fault.CheckFault.TheVariants as check
use Rattle.dory_verify.specs.Checks.{first_fault_of, lengths_of}
use Rattle.dory_cli.specs.Line.{line_of}
use Rattle.dory_state.specs.declared.kept.KeptState.{KeptState}
use Rattle.dory_member.specs.declared.outcome.Fault.{Fault}
use Rattle.dory_member.specs.declared.outcome.Fault.TheVariants as fault
use Rattle.dory_member.specs.declared.outcome.Mark.{Mark}
use Rattle.dory_member.specs.declared.outcome.Outcome.{Outcome}
use Rattle.dory_member.specs.declared.outcome.Outcome.TheVariants.{Failed}
use Rattle.dory_member.specs.declared.phase.Phase.{Phase}
use Rattle.dory_member.specs.declared.phase.Phase.TheVariants.{Updating, Measuring, Searching, Ended}
use Rattle.dory_member.specs.declared.phase.Run.{Run}
use Rattle.dory_member.specs.declared.phase.UpdateStep.{UpdateStep}
use Rattle.dory_member.specs.declared.phase.UpdateStep.TheVariants as step
use Rattle.dory_member.specs.Course.{Put, after_lengths, after_mark, after_refused, after_search, after_update, asks, ended_of, fails, folder_keys, name, outcome_at, phase_after, side_of, single_of, took, updated}
use Rattle.dory_member.specs.Single.{confirmed}
use Rattle.dory_drive.specs.declared.broken.Broken.{Broken}
use Rattle.dory_drive.specs.declared.broken.Broken.TheVariants as broken
use Rattle.dory_drive.specs.Course.{run_after as driven_run}
use Rattle.dory_drive.specs.Driven.{AskFailed, Finished, FirstSaveFailed, LastSaveFailed, RanOut}
use Rattle.dory_drive.specs.Ends.{IsSaveEnd}
use Rattle.dory_drive.specs.Member.{member_course, put_of}
use Rattle.dory_drive.specs.Received.{BothTellMore, CameInTurn, IsLeft, IsUnreplied, Talks, none}
use Rattle.dory_drive.specs.Scene.{Scene}
use Rattle.dory_drive.specs.Way.{Links, PutAnswered, PutUnanswered, scene_links}
use Rattle.dory_drive.proofs.Receiving.{Added, Stuck, added_none, added_nothing, added_told, came_told, none_left, received_once, stuck}
use Rattle.dory_client.specs.declared.start.Todo.{Todo}
use Rattle.dory_client.specs.declared.end.ClientEnd.{ClientEnd}
use Rattle.dory_client.specs.declared.end.ClientEnd.TheVariants as ends
use Rattle.dory_client.specs.CallCauses.{ByReplies, CallCauses, IsJudged, IsOfNoAsk, IsOfReplies, JudgedInAll, Nothing, fault_at, fault_of_one, fault_of_pair, first_fault, is_behind, or_later}
use Rattle.dory_client.specs.CommandEnds.{BrokeOff, CommandEnds, CommandFailed, CommandTold, ExchangedBetween, IsGood, Prints, Wrote, WrotePart, Untold, outcome_line}
use Rattle.dory_client.specs.Ends.{IsKeeperEnd, broken_end, fault_end}
use Rattle.dory_client.specs.Run.{IsRun, Saved, Unsaved}
use Rattle.dory_client.specs.Scene.{Input, met}
use Rattle.dory_client.specs.Start.{command_of}
use Rattle.dory_client.specs.Way.{ExchangedInTurn}
use Rattle.dory_client.proofs.Acting.{BeginsOrNot, FirstOrNot, at_break, at_fault, by_words, no_ask, undone}
use Rattle.dory_client.proofs.Beginnings.{Kind, Measures, Rests, Searches, Updates, beginning}
use Rattle.dory_client.proofs.WayLaws.{at_end, lost_bad, lost_fails, no_frames, same_run, saved}

-- ---- where the checks find a fault, the command fails by it

-- the failure of a phase, if it is one
abbrev failed_at : Phase → Fault → Type 0
failed_at p f = outcome_at p ≡ Some (Failed f)

fails_at : (f : Fault) → failed_at (fails f) f
fails_at f = refl

fails_by : (f g : Fault) → failed_at (fails g) f → g ≡ f
fails_by f g e = cc

some_fault : (f g : Fault) → Some g ≡ Some f → g ≡ f
some_fault f g e = cc

refused_finds : (e : Entry) (n : ℕ) (g f : Fault) → (if is_behind (step.FollowOn n false) g then None else Some g) ≡ Some f → after_refused e n g ≡ fails f
refused_finds e n (fault.Check (check.Refused Follow (Gap l))) f h = by (nat_lt (l + 1) n) refl
  where
    by : (b : Bool) → nat_lt (l + 1) n ≡ b → after_refused e n (fault.Check (check.Refused Follow (Gap l))) ≡ fails f
    by true is = absurd (cc)
    by false is = cc
refused_finds e n g f h = cc

update_finds : (e : Entry) (at : UpdateStep) (r : Result Mark Fault) (f : Fault) → fault_of_one at r ≡ Some f → after_update e at r ≡ fails f
update_finds e at (Ok m) f h = absurd (cc)
update_finds e (step.FollowOn n false) (Err g) f h = refused_finds e n g f h
update_finds e at (Err g) f h = ap fails (some_fault f g h)

lengths_find : (run : Run) (word : Option (List ℕ)) (r : Result (ℕ × ℕ) CheckFault) (f : Fault) → fault_of_pair r ≡ Some f → after_lengths run word r ≡ fails f
lengths_find run word (Ok n) f h = absurd (cc)
lengths_find run None (Err c) f h = ap fails (some_fault f (fault.Check c) h)
lengths_find run (Some w) (Err c) f h = ap fails (some_fault f (fault.Check c) h)

search_finds : (keys : FolderKeys) (q : Query) (r : Result (Found × Found) CheckFault) (f : Fault) → fault_of_pair r ≡ Some f → after_search keys q r ≡ fails f
search_finds keys q (Ok both) f h = absurd (cc)
search_finds keys q (Err c) f h = ap fails (some_fault f (fault.Check c) h)

found : (run : Run) (p : Phase) (frame : List ℕ) (f : Fault) → fault_at run p frame ≡ Some f → phase_after run p frame ≡ fails f
found run (Updating e at) frame f h = update_finds e at (confirmed (side_of at) (single_of e.id at) (name run run.step) frame) f h
found run (Measuring word None) frame f h = absurd (cc)
found run (Measuring word (Some lead)) frame f h = lengths_find run word (lengths_of run.kept.seen (name run 0) (name run 1) lead frame) f h
found run (Searching q None) frame f h = absurd (cc)
found run (Searching q (Some lead)) frame f h =
    search_finds (folder_keys run.kept) q (first_fault_of (folder_keys run.kept) (asked_columns q) q.version run.kept.seen (name run 2) (name run 3) lead frame) f h
found run (Ended o) frame f h = absurd (cc)

-- ---- and where they find none, it doesn't fail

mark_goes : (e : Entry) (at : UpdateStep) (m : Mark) (f : Fault) → failed_at (after_mark e at m) f → ⊥
mark_goes e step.StageFollow m f h = absurd (cc)
mark_goes e step.StageLead m f h = absurd (cc)
mark_goes e step.OrderLead m f h = absurd (cc)
mark_goes e (step.FollowOn number repaired) m f h = by e.change h
  where
    by : (c : _) → failed_at (Ended (updated c e.doc number)) f → ⊥
    by (change.Post shape row tags) is = absurd (cc)
    by change.Remove is = absurd (cc)
mark_goes e (step.WhichOther number at) m f h = absurd (cc)
mark_goes e (step.FollowOther number at id) m f h = by (nat_lt (at + 1) number) h
  where
    by : (b : Bool) → failed_at (if b then Updating e (step.WhichOther number (at + 1)) else Updating e (step.FollowOn number true)) f → ⊥
    by true is = absurd (cc)
    by false is = absurd (cc)

refused_fails : (e : Entry) (n : ℕ) (g f : Fault) → failed_at (after_refused e n g) f → (if is_behind (step.FollowOn n false) g then None else Some g) ≡ Some f
refused_fails e n (fault.Check (check.Refused Follow (Gap l))) f h = by (nat_lt (l + 1) n) refl
  where
    by : (b : Bool) → nat_lt (l + 1) n ≡ b → (if is_behind (step.FollowOn n false) (fault.Check (check.Refused Follow (Gap l))) then None else Some (fault.Check (check.Refused Follow (Gap l)))) ≡ Some f
    by true is = absurd (cc)
    by false is = cc
refused_fails e n g f h = cc

update_fails : (e : Entry) (at : UpdateStep) (r : Result Mark Fault) (f : Fault) → failed_at (after_update e at r) f → fault_of_one at r ≡ Some f
update_fails e at (Ok m) f h = absurd (mark_goes e at m f h)
update_fails e (step.FollowOn n false) (Err g) f h = refused_fails e n g f h
update_fails e at (Err g) f h = cc

lengths_fail : (run : Run) (word : Option (List ℕ)) (r : Result (ℕ × ℕ) CheckFault) (f : Fault) → failed_at (after_lengths run word r) f → fault_of_pair r ≡ Some f
lengths_fail run None (Ok n) f h = absurd (cc)
lengths_fail run (Some w) (Ok n) f h = absurd (cc)
lengths_fail run None (Err c) f h = cc
lengths_fail run (Some w) (Err c) f h = cc

search_fails : (keys : FolderKeys) (q : Query) (r : Result (Found × Found) CheckFault) (f : Fault) → failed_at (after_search keys q r) f → fault_of_pair r ≡ Some f
search_fails keys q (Ok both) f h = absurd (cc)
search_fails keys q (Err c) f h = cc

-- a command that asked fails by what came only where the checks find that
only_found : (run : Run) (p : Phase) (frame : List ℕ) (f : Fault) (a z : Links) → PutAnswered (put_of run (asks p)) a z frame → failed_at (phase_after run p frame) f → fault_at run p frame ≡ Some f
only_found run (Updating e at) frame f a z put h = update_fails e at (confirmed (side_of at) (single_of e.id at) (name run run.step) frame) f h
only_found run (Measuring word None) frame f a z put h = absurd (cc)
only_found run (Measuring word (Some lead)) frame f a z put h = lengths_fail run word (lengths_of run.kept.seen (name run 0) (name run 1) lead frame) f h
only_found run (Searching q None) frame f a z put h = absurd (cc)
only_found run (Searching q (Some lead)) frame f a z put h =
    search_fails (folder_keys run.kept) q (first_fault_of (folder_keys run.kept) (asked_columns q) q.version run.kept.seen (name run 2) (name run 3) lead frame) f h
only_found run (Ended o) frame f a z put h = absurd put

-- ---- all replies

later_of : (o later : Option Fault) (f : Fault) → or_later o later ≡ Some f → (o ≡ Some f) ⊎ ((o ≡ None) × (later ≡ Some f))
later_of None later f e = inr (refl, e)
later_of (Some g) later f e = inl e

or_none : (o later : Option Fault) → o ≡ None → or_later o later ≡ later
or_none None later e = refl
or_none (Some g) later e = absurd (cc)

or_first : (o later : Option Fault) (f : Fault) → o ≡ Some f → or_later o later ≡ Some f
or_first None later f e = absurd (cc)
or_first (Some g) later f e = e

-- a command that has failed asks nothing
failed_stops : (run : Run) (f : Fault) (frames : List (List ℕ)) (a z : Links) → run.phase ≡ fails f → ExchangedInTurn run frames a z → frames ≡ []
failed_stops run f frames a z is went = no_frames run frames a z (ap asks is) went

-- where the replies have a fault, the command has failed by the first
fault_ends : (run : Run) (frames : List (List ℕ)) (a z : Links) (f : Fault) → ExchangedInTurn run frames a z → first_fault run frames ≡ Some f → failed_at (driven_run member_course run frames).phase f
fault_ends run [] a z f went h = absurd (cc)
fault_ends run (g ∷ frames) a z f (m, put, more) h = by (fault_ends (took run g) frames m z f more) (later_of (fault_at run run.phase g) (first_fault (took run g) frames) f h)
  where
    by : (first_fault (took run g) frames ≡ Some f → failed_at (driven_run member_course (took run g) frames).phase f)
        → (fault_at run run.phase g ≡ Some f) ⊎ ((fault_at run run.phase g ≡ None) × (first_fault (took run g) frames ≡ Some f)) → failed_at (driven_run member_course (took run g) frames).phase f
    by on (inr (not, later)) = on later
    by on (inl is) =
        let here : (took run g).phase ≡ fails f = found run run.phase g f is in
        let last : frames ≡ [] = failed_stops (took run g) f frames m z here more in
        subst (λ (fs : List (List ℕ)). failed_at (driven_run member_course (took run g) fs).phase f) (sym last) (subst (λ (p : Phase). failed_at p f) (sym here) (fails_at f))

-- a command that begins without a failure fails by the first fault of the replies
ends_by_fault : (run : Run) (frames : List (List ℕ)) (a z : Links) (f : Fault) → ((g : Fault) → failed_at run.phase g → ⊥) → ExchangedInTurn run frames a z → failed_at (driven_run member_course run frames).phase f → first_fault run frames ≡ Some f
ends_by_fault run [] a z f well went h = absurd (well f h)
ends_by_fault run (g ∷ frames) a z f well (m, put, more) h = by (λ on. ends_by_fault (took run g) frames m z f on more h) (fault_at run run.phase g) refl
  where
    by : (((x : Fault) → failed_at (took run g).phase x → ⊥) → first_fault (took run g) frames ≡ Some f) → (o : Option Fault) → fault_at run run.phase g ≡ o → first_fault run (g ∷ frames) ≡ Some f
    by on None is =
        or_none (fault_at run run.phase g) (first_fault (took run g) frames) is
        ∙ on (λ x bad. let there : fault_at run run.phase g ≡ Some x = only_found run run.phase g x a m put bad in absurd (cc))
    by on (Some x) is =
        let here : (took run g).phase ≡ fails x = found run run.phase g x is in
        let last : frames ≡ [] = failed_stops (took run g) x frames m z here more in
        let same : failed_at (took run g).phase f = subst (λ (fs : List (List ℕ)). failed_at (driven_run member_course (took run g) fs).phase f) last h in
        let one : x ≡ f = fails_by f x (subst (λ (p : Phase). failed_at p f) here same) in
        or_first (fault_at run run.phase g) (first_fault (took run g) frames) f (is ∙ ap (λ (v : Fault). Some v) one)

-- a command begins without a failure
begins_well : (k : KeptState) (seed : List ℕ) (c : _) (run : Run) → Kind k seed c run → (g : Fault) → failed_at run.phase g → ⊥
begins_well k seed c run (Updates e is) g bad = let no : failed_at (Updating e step.StageFollow) g = subst (λ (p : Phase). failed_at p g) is bad in absurd (cc)
begins_well k seed c run (Searches word w is) g bad = let no : failed_at (Measuring (Some word) None) g = subst (λ (r : Run). failed_at r.phase g) is bad in absurd (cc)
begins_well k seed c run (Measures w is) g bad = let no : failed_at (Measuring None None) g = subst (λ (r : Run). failed_at r.phase g) is bad in absurd (cc)
begins_well k seed c run (Rests o good is) g bad = let no : failed_at (Ended o) g = subst (λ (p : Phase). failed_at p g) is bad in absurd (let same : o ≡ Failed g = cc in good g same)

-- ---- ends

-- the fault of what came that an end is of, if it is
abbrev back : ClientEnd → Option Fault
back (ends.Check c) = Some (fault.Check c)
back (ends.Unconfirmed side want got) = Some (fault.Unconfirmed side want got)
back (ends.Diverged number lead_id follow_id) = Some (fault.Diverged number lead_id follow_id)
back _ = None

back_of : (f : Fault) → IsOfReplies f → back (fault_end f) ≡ Some f
back_of (fault.Check c) h = refl
back_of (fault.Unconfirmed side want got) h = refl
back_of (fault.Diverged number lead_id follow_id) h = refl
back_of _ h = absurd h

-- an end that is of no reply
not_back : (end x : ClientEnd) (f : Fault) → back x ≡ None → end ≡ x → IsOfReplies f → end ≡ fault_end f → ⊥
not_back end x f not is h e = let both : back x ≡ Some f = ap back (sym is ∙ e) ∙ back_of f h in cc

broken_back : (b : Broken) → back (broken_end b) ≡ None
broken_back broken.KeeperFault = refl
broken_back _ = refl

same_back : (g f : Fault) → back (fault_end g) ≡ Some f → g ≡ f
same_back (fault.Check c) f e = some_fault f (fault.Check c) e
same_back (fault.Unconfirmed side want got) f e = some_fault f (fault.Unconfirmed side want got) e
same_back (fault.Diverged number lead_id follow_id) f e = some_fault f (fault.Diverged number lead_id follow_id) e
same_back _ f e = absurd (cc)

same_fault : (end : ClientEnd) (g f : Fault) → IsOfReplies f → end ≡ fault_end g → end ≡ fault_end f → g ≡ f
same_fault end g f h is e = same_back g f (ap back (sym is ∙ e) ∙ back_of f h)

-- the side of the link that an end is the fault of, if it is
abbrev link : ClientEnd → Option Side
link (ends.LinkFault side) = Some side
link _ = None

not_link : (end x : ClientEnd) (side : Side) → link x ≡ None → end ≡ x → end ≡ ends.LinkFault side → ⊥
not_link end x side not is e = let both : link x ≡ Some side = ap link (sym is ∙ e) in cc

fault_link : (f : Fault) → link (fault_end f) ≡ None
fault_link (fault.Check c) = refl
fault_link _ = refl

save_link : (end : ClientEnd) (b : Broken) (side : Side) → IsSaveEnd b → end ≡ broken_end b → end ≡ ends.LinkFault side → ⊥
save_link end b side (inl e) is at = not_link end ends.KeeperFault side refl (is ∙ ap broken_end e) at
save_link end b side (inr e) is at = not_link end ends.NoMemory side refl (is ∙ ap broken_end e) at

link_broken : (b : Broken) (side : Side) → link (broken_end b) ≡ Some side → b ≡ broken.LinkFault side
link_broken (broken.LinkFault s) side e = cc
link_broken _ side e = absurd (cc)

-- ---- by what both links tell

left_none : (o : Option Put) → IsLeft o none
left_none None = refl
left_none (Some put) = inl refl

-- what is so of the replies that came, and of what is left
record Causes (r : Run) (frames : List (List ℕ)) (left : Talks) (end : ClientEnd) : Type 0 where
  pub only : (f : Fault) → IsOfReplies f → end ≡ fault_end f → first_fault r frames ≡ Some f
  pub always : (f : Fault) → first_fault r frames ≡ Some f → (end ≡ fault_end f) ⊎ (end ≡ ends.NoMemory)
  pub broke : (side : Side) → end ≡ ends.LinkFault side → IsUnreplied side left
  pub unreplied : (side : Side) → IsUnreplied side left → (end ≡ ends.LinkFault side) ⊎ (end ≡ ends.NoMemory)
  pub done : end ≡ ends.Done → (first_fault r frames ≡ None) × (o : Outcome) × (ended_of r frames ≡ Some o) × IsGood o

judge : (r : Run) (a m z : Links) (end : ClientEnd) (frames : List (List ℕ)) (left told : Talks) → ExchangedInTurn r frames a m → Added m z left → IsLeft (member_course.asks (driven_run member_course r frames)) left → Causes r frames left end → BothTellMore a z told → IsJudged r told end
judge r a m z end frames left told went added is_left causes tell =
    let t = came_told member_course r frames a m z left went added in
    let came : CameInTurn member_course r frames told left = subst (λ (v : Talks). CameInTurn member_course r frames v left) (added_told a z t.0 told t.1 tell) t.2 in
    record {
      frames = frames;
      received = record { left = left; came = came; is_left = is_left };
      alone = λ others got. received_once member_course r told left got.left frames others came is_left got.came got.is_left;
      only = causes.only;
      always = causes.always;
      broke = causes.broke;
      unreplied = causes.unreplied;
      done = causes.done;
    }

-- where nothing is left
judge_all : (r : Run) (a z : Links) (end : ClientEnd) (frames : List (List ℕ)) (told : Talks) → ExchangedInTurn r frames a z → Causes r frames none end → BothTellMore a z told → IsJudged r told end
judge_all r a z end frames told went causes tell = judge r a z z end frames none told went (added_none z) (left_none _) causes tell

-- a run that has ended asks nothing
no_put : (last : Run) (b : Broken) (m z : Links) (o : Outcome) → outcome_at last.phase ≡ Some o → PutUnanswered (put_of last (asks last.phase)) m z b → ⊥
no_put last b m z o is cut = subst (λ (x : Option Put). PutUnanswered x m z b) (ap (put_of last) (at_end last.phase o is)) cut

link_or_memory : (end : ClientEnd) (b : Broken) (side : Side) → end ≡ broken_end b → (b ≡ broken.LinkFault side) ⊎ (b ≡ broken.NoMemory) → (end ≡ ends.LinkFault side) ⊎ (end ≡ ends.NoMemory)
link_or_memory end b side is (inl e) = inl (is ∙ ap broken_end e)
link_or_memory end b side is (inr e) = inr (is ∙ ap broken_end e)

-- an outcome that is no failure isn't one
two_ends : (p : Phase) (o : Outcome) (f : Fault) → outcome_at p ≡ Some o → IsGood o → failed_at p f → ⊥
two_ends p o f is good bad = let same : o ≡ Failed f = cc in good f same

one_failure : (p : Phase) (f g : Fault) → failed_at p f → failed_at p g → f ≡ g
one_failure p f g is at = let same : Failed f ≡ Failed g = cc in cc

no_memory : (f : Fault) → failed_at (fails fault.NoMemory) f → f ≡ fault.NoMemory
no_memory f lost = let same : Failed f ≡ Failed fault.NoMemory = lost_fails (Failed f) lost in cc

no_fault : (o : Option Fault) → ((f : Fault) → o ≡ Some f → ⊥) → o ≡ None
no_fault None never = refl
no_fault (Some f) never = absurd (never f refl)

-- a line that was to be written is no end of a reply, nor of a link
said_back : (o : Outcome) (x y : Option (List ℕ)) (end : ClientEnd) → Prints (outcome_line o) x y end → (back end ≡ None) × (link end ≡ None)
said_back o x y end (Wrote w e) = (ap back e, ap link e)
said_back o x y end (WrotePart w e) = (ap back e, ap link e)
said_back o x y end (Untold w e) = (ap back e, ap link e)

goes_judged : (r : Run) (a z : Scene) (end : ClientEnd) → ((g : Fault) → failed_at r.phase g → ⊥) → CommandEnds r a z end → (told : Talks) → BothTellMore (scene_links a) (scene_links z) told → IsJudged r told end
goes_judged r a z end well goes told tell = by goes
  where
    none_unreplied : (side : Side) → IsUnreplied side none → (end ≡ ends.LinkFault side) ⊎ (end ≡ ends.NoMemory)
    none_unreplied side u = absurd (none_left side u)

    failed : (frames : List (List ℕ)) (f : Fault) → ExchangedBetween r frames a z → first_fault r frames ≡ Some f → failed_at (driven_run member_course r frames).phase f
    failed frames f went h = fault_ends r frames (scene_links a) (scene_links z) f went h

    by : CommandEnds r a z end → IsJudged r told end
    by (BrokeOff b (FirstSaveFailed asked kept save) w is) =
        judge r (scene_links a) (scene_links a) (scene_links z) end [] none told refl (added_nothing (scene_links a) (scene_links z) asked.0 asked.1) (left_none _) (record {
          only = λ f h e. absurd (not_back end (broken_end b) f (broken_back b) is h e);
          always = λ f h. absurd (cc);
          broke = λ side e. absurd (save_link end b side save is e);
          unreplied = none_unreplied;
          done = λ e. absurd (undone end (at_break end b is) e);
        }) tell
    by (BrokeOff b (AskFailed cut kept) w is) =
        let last : Run = driven_run member_course r cut.frames in
        let s : Stuck (put_of last (asks last.phase)) cut.between (scene_links z) b = stuck (put_of last (asks last.phase)) cut.between (scene_links z) b cut.stuck in
        judge r (scene_links a) cut.between (scene_links z) end cut.frames s.left told cut.went s.added s.is_left (record {
          only = λ f h e. absurd (not_back end (broken_end b) f (broken_back b) is h e);
          always = λ f h. absurd (no_put last b cut.between (scene_links z) (Failed f) (fault_ends r cut.frames (scene_links a) cut.between f cut.went h) cut.stuck);
          broke = λ side e. s.failed side (link_broken b side (ap link (sym is ∙ e)));
          unreplied = λ side u. link_or_memory end b side is (s.unreplied side u);
          done = λ e. absurd (undone end (at_break end b is) e);
        }) tell
    by (BrokeOff b (LastSaveFailed frames went saving kept save) w is) =
        judge_all r (scene_links a) (scene_links z) end frames told went (record {
          only = λ f h e. absurd (not_back end (broken_end b) f (broken_back b) is h e);
          always = λ f h. let o = saved (driven_run member_course r frames).phase saving in absurd (two_ends _ o.0 f o.1 o.2 (failed frames f went h));
          broke = λ side e. absurd (save_link end b side save is e);
          unreplied = none_unreplied;
          done = λ e. absurd (undone end (at_break end b is) e);
        }) tell
    by (CommandFailed f (RanOut earlier frame went lost kept) w is) =
        let out : end ≡ ends.NoMemory = is ∙ ap fault_end (no_memory f lost) in
        judge_all r (scene_links a) (scene_links z) end (earlier ++ frame ∷ []) told went (record {
          only = λ g h e. absurd (not_back end ends.NoMemory g refl out h e);
          always = λ g h. inr out;
          broke = λ side e. absurd (not_link end ends.NoMemory side refl out e);
          unreplied = none_unreplied;
          done = λ e. absurd (undone end (at_fault end f is) e);
        }) tell
    by (CommandFailed f (Finished frames went ended kept) w is) =
        judge_all r (scene_links a) (scene_links z) end frames told went (record {
          only = λ g h e. ends_by_fault r frames (scene_links a) (scene_links z) g well went (ended ∙ ap (λ (v : Fault). Some (Failed v)) (same_fault end f g h is e));
          always = λ g h. inl (is ∙ ap fault_end (one_failure _ f g ended (failed frames g went h)));
          broke = λ side e. absurd (not_link end (fault_end f) side (fault_link f) is e);
          unreplied = none_unreplied;
          done = λ e. absurd (undone end (at_fault end f is) e);
        }) tell
    by (CommandTold o good (RanOut earlier frame went lost kept) says) = lost_bad o lost good
    by (CommandTold o good (Finished frames went ended kept) says) =
        let quiet = said_back o a.written z.written end says in
        judge_all r (scene_links a) (scene_links z) end frames told went (record {
          only = λ f h e. absurd (not_back end end f quiet.0 refl h e);
          always = λ f h. absurd (two_ends _ o f ended good (failed frames f went h));
          broke = λ side e. absurd (not_link end end side quiet.1 refl e);
          unreplied = none_unreplied;
          done = λ e. (no_fault (first_fault r frames) (λ f h. two_ends _ o f ended good (failed frames f went h)), o, subst (λ (x : Run). outcome_at x.phase ≡ Some o) (same_run r frames) ended, good);
        }) tell

-- ---- a whole call

begun_judged : (t : Todo) (seed : List ℕ) (i i' : Input) (a z : Scene) (end : ClientEnd) → BeginsOrNot t seed i i' a z end → JudgedInAll t seed (met i a) (met i' z) end
begun_judged t seed i i' a z end (inl (u, quiet)) = Nothing u.asked quiet.no_ask
begun_judged t seed i i' a z end (inr (k, r, begun, goes)) =
    let b = beginning k seed (command_of k begun.text t) r begun.begins in
    ByReplies k r begun (goes_judged r a z end (begins_well k seed (command_of k begun.text t) r b.kind) goes)

said_no_ask : (text : List ℕ) (x y : Option (List ℕ)) (end : ClientEnd) → Prints text x y end → IsOfNoAsk end
said_no_ask text x y end (Wrote w e) = no_ask end ends.Done e tt
said_no_ask text x y end (WrotePart w e) = no_ask end ends.OutputFault e tt
said_no_ask text x y end (Untold w e) = no_ask end ends.NoMemory e tt

keeper_no_ask : (end : ClientEnd) → IsKeeperEnd end → IsOfNoAsk end
keeper_no_ask end (inl e) = no_ask end ends.KeeperFault e tt
keeper_no_ask end (inr e) = no_ask end ends.NoMemory e tt

first_judged : (first : KeptState) (a z : Scene) (end : ClientEnd) → FirstOrNot first a z end → IsOfNoAsk end
first_judged first a z end (inl (u, quiet)) = quiet.no_ask
first_judged first a z end (inr (asked, Unsaved kept stays is)) = keeper_no_ask end is
first_judged first a z end (inr (asked, Saved kept says)) = said_no_ask _ _ _ end says

-- by which of the replies a call ends
pub judges : (words : List (List ℕ)) (seed : List ℕ) (i i' : Input) (a z : Scene) (end : ClientEnd) → IsRun words seed (met i a) (met i' z) end → CallCauses words seed (met i a) (met i' z) end
judges words seed i i' a z end run =
    by_words (line_of words) seed i i' a z end (λ first. IsOfNoAsk end) (λ t. JudgedInAll t seed (met i a) (met i' z) end) (IsOfNoAsk end) (λ first. first_judged first a z end) (λ t. begun_judged t seed i i' a z end) (λ still. still.1.no_ask) run
