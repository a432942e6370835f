-- How a call is made of its parts.
use Rattle.std.proofs.Common.{◌≡◌, ℕ, Bool, true, false, List, [], Option, None, Some, Result, Ok, Err, ap, sym, ◌∙◌, subst, inl, inr}
use Rattle.dory_io.specs.Bytes.{Stays, Tells}
use Rattle.dory_link.specs.Told.{Heard}
use Rattle.dory_cli.specs.declared.line.Line.{Line}
use Rattle.dory_cli.specs.declared.fault.UsageFault.{UsageFault}
use Rattle.dory_state.specs.Spelling.{IsKeptState}
use Rattle.dory_state.specs.declared.kept.KeptState.{KeptState}
use Rattle.dory_state.specs.declared.fault.StateFault.{StateFault}
use Rattle.dory_member.specs.declared.command.Command.{Command}
use Rattle.dory_member.specs.declared.phase.Run.{Run}
use Rattle.dory_bloom.specs.PlainRow.{plain_row_of}
use Rattle.dory_words.specs.WordsIn.{words_in}
use Rattle.dory_member.specs.declared.outcome.Fault.{Fault}
use Rattle.dory_member.specs.declared.outcome.Outcome.{Outcome}
use Rattle.dory_member.specs.declared.outcome.Outcome.TheVariants.{Failed}
use Rattle.dory_member.specs.Course.{begun, folder_keys}
use Rattle.dory_member.specs.Machine.{saves_first}
use Rattle.dory_client.specs.declared.start.Todo.{Todo}
use Rattle.dory_client.specs.declared.start.Todo.TheVariants.{Post, Plain}
use Rattle.dory_client.specs.declared.start.Start.{Start}
use Rattle.dory_client.specs.declared.end.ClientEnd.{ClientEnd}
use Rattle.dory_client.specs.Command.{HasCommand, HasText, NoCommand}
use Rattle.dory_client.specs.Command as none
use Rattle.dory_client.specs.CommandEnds.{CommandEnds, BrokeOff, CommandFailed, CommandTold, CommandEndsFrom, IsBegun, NotBegun}
use Rattle.dory_client.specs.CommandEnds as goes
use Rattle.dory_drive.specs.declared.broken.Broken.{Broken}
use Rattle.dory_drive.specs.Driven.{AskFailed, BreaksOff, ComesTo, Finished, FirstSaveFailed, LastSaveFailed, RanOut}
use Rattle.dory_drive.specs.Kept.{KeepsIf, KeepsNow, OldOrNew}
use Rattle.dory_drive.specs.Member.{member_course}
use Rattle.dory_client.specs.Run.{Acts, Refused, NoText, NoRoom, Began, ActsIn, MayAct, StateBegins, Loads, Runs}
use Rattle.dory_client.specs.Run as run
use Rattle.dory_client.specs.Scene.{Input, IsUnread, met}
use Rattle.dory_drive.specs.Scene.{AskedNothing, Faults, IsUntouched, OnlyKeeper, Scene, scene}
use Rattle.dory_client.specs.Start.{start_of, command_of}
use Rattle.dory_drive.proofs.Keeping.{stays_same, stays_twice}
use Rattle.dory_client.proofs.Finish.{untouched}

abbrev Told : Type 0
Told = Option (Option (List ℕ))

-- ---- from a keeper's earlier moment, at which it kept the same

now_from : (a b c : Told) (k : KeptState) → Stays a b → KeepsNow b c k → KeepsNow a c k
now_from None b c k same now = tt
now_from (Some a) None c k same now = absurd same
now_from (Some a) (Some b) None k same now = absurd now
now_from (Some a) (Some b) (Some c) k same now = now

either_from : (a b c : Told) (k : KeptState) → Stays a b → OldOrNew b c k → OldOrNew a c k
either_from a b c k same (inl stays) = inl (stays_twice a b c same stays)
either_from a b c k same (inr now) = inr (now_from a b c k same now)

if_from : (u : Bool) (a b c : Told) (k : KeptState) → Stays a b → KeepsIf u b c k → KeepsIf u a c k
if_from true a b c k same now = now_from a b c k same now
if_from false a b c k same stays = stays_twice a b c same stays

tells_from : (a b : Told) (x : Option (List ℕ)) → Stays a b → Tells b x → Tells a x
tells_from None b x same told = tt
tells_from (Some a) None x same told = absurd same
tells_from (Some a) (Some b) x same told = sym same ∙ told

untouched_from : (a b : Told) (lead follow : Heard) (written : Option (List ℕ)) (fa fb : Faults) (z : Scene) → Stays a b → IsUntouched (scene b lead follow written fb) z → IsUntouched (scene a lead follow written fa) z
untouched_from a b lead follow written fa fb z same u = record { asked = u.asked; kept = stays_twice a b z.kept same u.kept; wrote = u.wrote }

broke_earlier : (r : Run) (a b : Told) (lead follow : Heard) (written : Option (List ℕ)) (fa fb : Faults) (z : Scene) (x : Broken) → Stays a b → BreaksOff member_course r (scene b lead follow written fb) z x → BreaksOff member_course r (scene a lead follow written fa) z x
broke_earlier r a b lead follow written fa fb z x same (FirstSaveFailed asked kept is) = FirstSaveFailed asked (either_from a b z.kept r.kept same kept) is
broke_earlier r a b lead follow written fa fb z x same (AskFailed broke kept) = AskFailed broke (if_from (saves_first r.phase) a b z.kept r.kept same kept)
broke_earlier r a b lead follow written fa fb z x same (LastSaveFailed frames went saving (inl now) is) = LastSaveFailed frames went saving (inl (now_from a b z.kept _ same now)) is
broke_earlier r a b lead follow written fa fb z x same (LastSaveFailed frames went saving (inr now) is) = LastSaveFailed frames went saving (inr (now_from a b z.kept _ same now)) is

came_earlier : (r : Run) (a b : Told) (lead follow : Heard) (written : Option (List ℕ)) (fa fb : Faults) (z : Scene) (o : Outcome) → Stays a b → ComesTo member_course r (scene b lead follow written fb) z o → ComesTo member_course r (scene a lead follow written fa) z o
came_earlier r a b lead follow written fa fb z o same (RanOut earlier frame went is kept) = RanOut earlier frame went is (if_from (saves_first r.phase) a b z.kept _ same kept)
came_earlier r a b lead follow written fa fb z o same (Finished frames went is kept) = Finished frames went is (if_from (saves_first r.phase) a b z.kept _ same kept)

goes_earlier : (r : Run) (a b : Told) (lead follow : Heard) (written : Option (List ℕ)) (fa fb : Faults) (z : Scene) (end : ClientEnd) → Stays a b → CommandEnds r (scene b lead follow written fb) z end → CommandEnds r (scene a lead follow written fa) z end
goes_earlier r a b lead follow written fa fb z end same (BrokeOff x goes wrote is) = BrokeOff x (broke_earlier r a b lead follow written fa fb z x same goes) wrote is
goes_earlier r a b lead follow written fa fb z end same (CommandFailed f comes wrote is) = CommandFailed f (came_earlier r a b lead follow written fa fb z (Failed f) same comes) wrote is
goes_earlier r a b lead follow written fa fb z end same (CommandTold o good comes says) = CommandTold o good (came_earlier r a b lead follow written fa fb z o same comes) says

acts_earlier : (k : KeptState) (seed : List ℕ) (t : Todo) (i i' : Input) (a b : Told) (lead follow : Heard) (written : Option (List ℕ)) (fa fb : Faults) (z : Scene) (end : ClientEnd) → Stays a b → Acts k seed t (met i (scene b lead follow written fb)) (met i' z) end → Acts k seed t (met i (scene a lead follow written fa)) (met i' z) end
acts_earlier k seed t i i' a b lead follow written fa fb z end same (Refused text f has e u is) = Refused text f has e (untouched_from a b lead follow written fa fb z same u) is
acts_earlier k seed t i i' a b lead follow written fa fb z end same (NoText e has u is) = NoText e has (untouched_from a b lead follow written fa fb z same u) is
acts_earlier k seed t i i' a b lead follow written fa fb z end same (NoRoom text has u is) = NoRoom text has (untouched_from a b lead follow written fa fb z same u) is
acts_earlier k seed t i i' a b lead follow written fa fb z end same (Began text r has begins goes) = Began text r has begins (goes_earlier r a b lead follow written fa fb z end same goes)

acts_in_earlier : (r : Result KeptState StateFault) (seed : List ℕ) (t : Todo) (i i' : Input) (a b : Told) (lead follow : Heard) (written : Option (List ℕ)) (fa fb : Faults) (z : Scene) (end : ClientEnd) → Stays a b → ActsIn r seed t (met i (scene b lead follow written fb)) (met i' z) end → ActsIn r seed t (met i (scene a lead follow written fa)) (met i' z) end
acts_in_earlier (Ok k) seed t i i' a b lead follow written fa fb z end same (range, acts) = (range, acts_earlier k seed t i i' a b lead follow written fa fb z end same acts)
acts_in_earlier (Err f) seed t i i' a b lead follow written fa fb z end same ((unread, u), is) = ((unread, untouched_from a b lead follow written fa fb z same u), is)

pub may_earlier : (r : Result KeptState StateFault) (seed : List ℕ) (t : Todo) (i i' : Input) (a b : Told) (lead follow : Heard) (written : Option (List ℕ)) (fa fb : Faults) (z : Scene) (end : ClientEnd) → Stays a b → MayAct r seed t (met i (scene b lead follow written fb)) (met i' z) end → MayAct r seed t (met i (scene a lead follow written fa)) (met i' z) end
may_earlier r seed t i i' a b lead follow written fa fb z end same (inl ((unread, u), is)) = inl ((unread, untouched_from a b lead follow written fa fb z same u), is)
may_earlier r seed t i i' a b lead follow written fa fb z end same (inr acts) = inr (acts_in_earlier r seed t i i' a b lead follow written fa fb z end same acts)

pub begins_earlier : (first : KeptState) (a b c : Told) (written written' : Option (List ℕ)) (end : ClientEnd) → Stays a b → StateBegins first b c written written' end → StateBegins first a c written written' end
begins_earlier first a b c written written' end same (run.Unsaved kept stays is) = run.Unsaved (either_from a b c first same kept) stays is
begins_earlier first a b c written written' end same (run.Saved kept says) = run.Saved (now_from a b c first same kept) says

-- ---- after a load

pub untouched_by_load : (a b : Scene) → OnlyKeeper a b → Stays a.kept b.kept → IsUntouched a b
untouched_by_load a b only same = record {
  asked = (ap (λ (s : Scene). s.lead) only, ap (λ (s : Scene). s.follow) only);
  kept = same;
  wrote = subst (λ (w : Option (List ℕ)). Stays a.written w) (sym (ap (λ (s : Scene). s.written) only)) (stays_same a.written);
}

pub may_after_load : (r : Result KeptState StateFault) (seed : List ℕ) (t : Todo) (i i' : Input) (a b z : Scene) (end : ClientEnd) → OnlyKeeper a b → Stays a.kept b.kept → MayAct r seed t (met i b) (met i' z) end → MayAct r seed t (met i a) (met i' z) end
may_after_load r seed t i i' a b z end only same acts =
    may_earlier r seed t i i' a.kept b.kept a.lead a.follow a.written a.faults (record a.faults { keeper = b.faults.keeper }) z end same (subst (λ (s : Scene). MayAct r seed t (met i s) (met i' z) end) only acts)

pub begins_after_load : (first : KeptState) (a b z : Scene) (end : ClientEnd) → OnlyKeeper a b → Stays a.kept b.kept → AskedNothing b z → StateBegins first b.kept z.kept b.written z.written end → AskedNothing a z × StateBegins first a.kept z.kept a.written z.written end
begins_after_load first a b z end only same asked begins = (
  subst (λ (s : Scene). AskedNothing s z) only asked,
  begins_earlier first a.kept b.kept z.kept a.written z.written end same (subst (λ (w : Option (List ℕ)). StateBegins first b.kept z.kept w z.written end) (ap (λ (s : Scene). s.written) only) begins),
)

-- ---- a command in a state that was read

not_made : (k : KeptState) (seed : List ℕ) (t : Todo) (i i' : Input) (a : Scene) (end : ClientEnd) → NoCommand k t i i' end → Acts k seed t (met i a) (met i' a) end
not_made k seed t i i' a end (none.Refused f always unread is) = Refused [] f unread (always seed) (untouched a) is
not_made k seed t i i' a end (none.NoText e has is) = NoText e has (untouched a) is
not_made k seed t i i' a end (none.NoRoom text has is) = NoRoom text has (untouched a) is

pub no_command : (r : Result KeptState StateFault) (k : KeptState) (seed : List ℕ) (t : Todo) (i i' : Input) (a : Scene) (end : ClientEnd) → r ≡ Ok k → IsKeptState k → NoCommand k t i i' end → MayAct r seed t (met i a) (met i' a) end
no_command r k seed t i i' a end is range none = subst (λ (x : Result KeptState StateFault). MayAct x seed t (met i a) (met i' a) end) (sym is) (inr (range, not_made k seed t i i' a end none))

-- a post that was read for isn't refused, and nothing else reads its input
refused_unread : (k : KeptState) (seed : List ℕ) (t : Todo) (i i' : Input) (text : List ℕ) (f : Fault) → HasText k t i i' text → begun k seed (command_of k text t) ≡ Err f → IsUnread i i'
refused_unread k seed (Post doc) i i' text f has e = absurd (has.0 seed doc (plain_row_of (folder_keys k) k.shape (words_in text)) f e)
refused_unread k seed (Plain c) i i' text f has e = has

went_on : (k : KeptState) (seed : List ℕ) (t : Todo) (c : Command) (i i' : Input) (a z : Scene) (end : ClientEnd) → HasCommand k t i i' (Ok c) → CommandEndsFrom k seed c a z end → Acts k seed t (met i a) (met i' z) end
went_on k seed t c i i' a z end (text, has, is) (NotBegun f e u e') =
    let refused : begun k seed (command_of k text t) ≡ Err f = ap (begun k seed) (sym is) ∙ e in
    Refused text f (refused_unread k seed t i i' text f has refused) refused u e'
went_on k seed t c i i' a z end (text, has, is) (goes.NoRoom u e) = NoRoom text has u e
went_on k seed t c i i' a z end (text, has, is) (IsBegun r e goes) = Began text r has (ap (begun k seed) (sym is) ∙ e) goes

pub acts_on : (r : Result KeptState StateFault) (k : KeptState) (seed : List ℕ) (t : Todo) (c : Command) (i i' : Input) (a z : Scene) (end : ClientEnd) → r ≡ Ok k → IsKeptState k → HasCommand k t i i' (Ok c) → CommandEndsFrom k seed c a z end → MayAct r seed t (met i a) (met i' z) end
acts_on r k seed t c i i' a z end is range has goes = subst (λ (x : Result KeptState StateFault). MayAct x seed t (met i a) (met i' z) end) (sym is) (inr (range, went_on k seed t c i i' a z end has goes))

-- ---- a line that was read

pub runs_line : (r : Result Line UsageFault) (line : Line) (s s' : Start) (seed : List ℕ) (i i' : Input) (a z : Scene) (end : ClientEnd) → r ≡ Ok line → s ≡ start_of line → s ≡ s' → Loads s' seed (met i a) (met i' z) end → Runs r seed (met i a) (met i' z) end
runs_line r line s s' seed i i' a z end is starts same loads =
    subst (λ (x : Result Line UsageFault). Runs x seed (met i a) (met i' z) end) (sym is) (subst (λ (x : Start). Loads x seed (met i a) (met i' z) end) (sym same ∙ starts) loads)
