-- What is kept when a call has ended.
use Rattle.std.proofs.Common.{◌≡◌, ℕ, Bool, true, false, List, [], ◌∷◌, ◌++◌, Some, refl, ap, subst, inl, inr, arith}
use Rattle.dory_cli.specs.Line.{line_of}
use Rattle.dory_state.specs.declared.kept.KeptState.{KeptState}
use Rattle.dory_member.specs.declared.outcome.Outcome.{Outcome}
use Rattle.dory_member.specs.declared.outcome.Outcome.TheVariants.{Failed}
use Rattle.dory_member.specs.declared.phase.Phase.{Phase}
use Rattle.dory_member.specs.declared.phase.Phase.TheVariants.{Ended}
use Rattle.dory_member.specs.declared.phase.Run.{Run}
use Rattle.dory_member.specs.Course.{outcome_at}
use Rattle.dory_member.specs.Machine.{keeps, saves_first, saves_last}
use Rattle.dory_drive.specs.Course.{run_after as driven_run}
use Rattle.dory_drive.specs.Driven.{AskFailed, Finished, FirstSaveFailed, LastSaveFailed, RanOut, KeepsOf as KeepsBy}
use Rattle.dory_drive.specs.Kept.{KeepsIf, KeepsNow}
use Rattle.dory_drive.specs.Member.{member_course}
use Rattle.dory_drive.specs.MemberLaws.{is_course}
use Rattle.dory_drive.specs.Scene.{AskedNothing, Scene}
use Rattle.dory_drive.specs.Way.{scene_links}
use Rattle.dory_drive.proofs.Finishing.{idle, kept_on}
use Rattle.dory_client.specs.declared.start.Todo.{Todo}
use Rattle.dory_client.specs.declared.end.ClientEnd.{ClientEnd}
use Rattle.dory_client.specs.CallEffects.{IsBegun}
use Rattle.dory_client.specs.CommandEnds.{CommandEnds, BrokeOff, CommandFailed, CommandTold, IsGood, ExchangedBetween}
use Rattle.dory_client.specs.Ends.{IsUndone}
use Rattle.dory_client.specs.Kept.{KeepsOf}
use Rattle.dory_client.specs.KeptAfter.{BeginningKept, CallKeeps, Finished as Last, First, KeptAfter, Old, Unchanged}
use Rattle.dory_client.specs.Run.{IsRun, Saved, Unsaved}
use Rattle.dory_client.specs.Scene.{Input, met}
use Rattle.dory_client.specs.Start.{command_of}
use Rattle.dory_client.proofs.Acting.{BeginsOrNot, Came, FirstOrNot, at_break, at_fault, at_keeper, by_words, came, undone}
use Rattle.dory_client.proofs.Beginnings.{IsBeginning, beginning}
use Rattle.dory_client.proofs.CameTo.{came_to, rises}
use Rattle.dory_client.proofs.WayLaws.{asks_none, lost_bad, none_asked, saved, stuck_asks}

unsaved : (p : Phase) (f : _) → outcome_at p ≡ Some (Failed f) → saves_last p ≡ false
unsaved (Ended o) f is = let same : o ≡ Failed f = cc in ap keeps same
unsaved _ f is = absurd (cc)

-- ---- a command

goes_leaves : (t : Todo) (seed : List ℕ) (i i' : Input) (a z : Scene) (end : ClientEnd) (k : KeptState) (r : Run) → IsBegun t seed (met i a) (met i' z) k r → CommandEnds r a z end → KeptAfter t seed (met i a) (met i' z) end
goes_leaves t seed i i' a z end k r begun goes = by goes
  where
    b : IsBeginning k seed (command_of k begun.text t) r
    b = beginning k seed (command_of k begun.text t) r begun.begins

    first : KeepsNow a.kept z.kept r.kept → IsUndone end → KeptAfter t seed (met i a) (met i' z) end
    first now not = First k r begun now (omega (arith, b.seen)) not

    last : (o : Outcome) → IsGood o → Came r a z o → KeptAfter t seed (met i a) (met i' z) end
    last o good c =
        Last k r c.frames o begun c.went c.ended good c.kept
        (rises k seed r (scene_links a) (scene_links z) o _ (came_to k seed (command_of k begun.text t) r c.frames (scene_links a) (scene_links z) o b c.went c.ended good))

    first_or : (u : Bool) → saves_first r.phase ≡ u → KeepsIf u a.kept z.kept r.kept → IsUndone end → (saves_first r.phase ≡ false → AskedNothing a z) → KeptAfter t seed (met i a) (met i' z) end
    first_or true is now not silent = first now not
    first_or false is stays not silent = Old (silent is) stays not

    -- a run that saves nothing first asks nothing
    first_or_old : (frames : List (List ℕ)) → ExchangedBetween r frames a z → KeepsOf r a.kept z.kept r.kept → IsUndone end → KeptAfter t seed (met i a) (met i' z) end
    first_or_old frames went kept not = first_or (saves_first r.phase) refl kept not (λ is. none_asked r frames a z (asks_none r.phase is) went)

    new : (frames : List (List ℕ)) → ExchangedBetween r frames a z → saves_last (driven_run member_course r frames).phase ≡ true → KeepsNow a.kept z.kept (driven_run member_course r frames).kept → KeepsBy member_course r a z (driven_run member_course r frames)
    new frames went saving now = choose (saves_first r.phase) refl
      where
        choose : (u : Bool) → saves_first r.phase ≡ u → KeepsIf u a.kept z.kept (driven_run member_course r frames).kept
        choose true is = now
        choose false is = absurd (let still : saves_last (driven_run member_course r frames).phase ≡ false = idle member_course is_course r frames (scene_links a) (scene_links z) went is in cc)

    by : CommandEnds r a z end → KeptAfter t seed (met i a) (met i' z) end
    by (BrokeOff x (FirstSaveFailed asked (inl stays) save) wrote is) = Old asked stays (undone end (at_break end x is))
    by (BrokeOff x (FirstSaveFailed asked (inr now) save) wrote is) = first now (undone end (at_break end x is))
    by (BrokeOff x (AskFailed broke kept) wrote is) =
        first_or (saves_first r.phase) refl kept (undone end (at_break end x is)) (λ silent. absurd (stuck_asks r (scene_links a) (scene_links z) x broke (asks_none r.phase silent)))
    by (BrokeOff x (LastSaveFailed frames went saving (inl now) save) wrote is) = first now (undone end (at_break end x is))
    by (BrokeOff x (LastSaveFailed frames went saving (inr now) save) wrote is) =
        let o = saved (driven_run member_course r frames).phase saving in
        last o.0 o.2 (came r a z o.0 frames went o.1 (new frames went saving now))
    by (CommandFailed f (RanOut earlier frame went lost kept) wrote is) = first_or_old (earlier ++ frame ∷ []) went kept (undone end (at_fault end f is))
    by (CommandFailed f (Finished frames went ended kept) wrote is) =
        let still : saves_last (driven_run member_course r frames).phase ≡ false = unsaved (driven_run member_course r frames).phase f ended in
        first_or_old frames went (subst (KeepsOf r a.kept z.kept) (kept_on member_course is_course r frames (scene_links a) (scene_links z) went still) kept) (undone end (at_fault end f is))
    by (CommandTold o good (RanOut earlier frame went lost kept) says) = lost_bad o lost good
    by (CommandTold o good (Finished frames went ended kept) says) = last o good (came r a z o frames went ended kept)

-- ---- a whole call

begun_leaves : (t : Todo) (seed : List ℕ) (i i' : Input) (a z : Scene) (end : ClientEnd) → BeginsOrNot t seed i i' a z end → KeptAfter t seed (met i a) (met i' z) end
begun_leaves t seed i i' a z end (inl (u, quiet)) = Old u.asked u.kept (undone end quiet.silent)
begun_leaves t seed i i' a z end (inr (k, r, begun, goes)) = goes_leaves t seed i i' a z end k r begun goes

first_leaves : (first : KeptState) (a z : Scene) (end : ClientEnd) → FirstOrNot first a z end → BeginningKept first a z end
first_leaves first a z end (inl (u, quiet)) = record { asked = u.asked; kept = inl u.kept; done = λ e. absurd (undone end quiet.silent e) }
first_leaves first a z end (inr (asked, Unsaved kept stays is)) = record { asked = asked; kept = kept; done = λ e. absurd (undone end (at_keeper end is) e) }
first_leaves first a z end (inr (asked, Saved now says)) = record { asked = asked; kept = inr now; done = λ e. now }

-- what a call leaves kept
pub leaves : (words : List (List ℕ)) (seed : List ℕ) (i i' : Input) (a z : Scene) (end : ClientEnd) → IsRun words seed (met i a) (met i' z) end → CallKeeps words seed (met i a) (met i' z) end
leaves words seed i i' a z end run =
    by_words (line_of words) seed i i' a z end (λ first. BeginningKept first a z end) (λ t. KeptAfter t seed (met i a) (met i' z) end) (Unchanged a z end) (λ first. first_leaves first a z end) (λ t. begun_leaves t seed i i' a z end)
    (λ still. record { asked = still.0.asked; kept = still.0.kept; undone = undone end still.1.silent }) run
