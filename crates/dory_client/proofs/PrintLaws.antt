-- What is written by each end of a call.
use Rattle.std.specs.Prelude.{codes}
use Rattle.std.proofs.Common.{ℕ, List, [], ◌∷◌, ◌++◌, Option, Result, Ok, Err, sym, subst, inl, inr}
use Rattle.dory_io.specs.Bytes.{Stays}
use Rattle.dory_cli.specs.Line.{line_of}
use Rattle.dory_cli.specs.declared.line.Line.{Line}
use Rattle.dory_cli.specs.declared.fault.UsageFault.{UsageFault}
use Rattle.dory_state.specs.declared.kept.KeptState.{KeptState}
use Rattle.dory_member.specs.declared.phase.Run.{Run}
use Rattle.dory_member.specs.Texts.{text_of_outcome}
use Rattle.dory_drive.specs.Scene.{Scene}
use Rattle.dory_client.specs.declared.start.Todo.{Todo}
use Rattle.dory_client.specs.declared.start.Start.{Start}
use Rattle.dory_client.specs.declared.start.Start.TheVariants.{Init, Act}
use Rattle.dory_client.specs.declared.end.ClientEnd.{ClientEnd}
use Rattle.dory_client.specs.ByWords.{ByStart, ByWords}
use Rattle.dory_client.specs.CallPrints.{CallPrints, KindPrints}
use Rattle.dory_client.specs.CommandEnds.{CommandEnds, BrokeOff, CommandFailed, CommandTold, Prints, Wrote, WrotePart, Untold}
use Rattle.dory_client.specs.Ends.{EndKind, Whole, Torn, Faulty, Stopped, IsSilent, kind_of}
use Rattle.dory_client.specs.Run.{IsRun, Saved, Unsaved}
use Rattle.dory_client.specs.Scene.{Input, met}
use Rattle.dory_client.specs.Start.{start_of}
use Rattle.dory_client.proofs.Acting.{BeginsOrNot, FirstOrNot, at_break, at_fault, at_keeper, by_words}

silent : (kind : EndKind) (x y : Option (List ℕ)) → IsSilent kind → Stays x y → KindPrints kind x y
silent Whole x y quiet w = absurd quiet
silent Torn x y quiet w = absurd quiet
silent Faulty x y quiet w = w
silent Stopped x y quiet w = w

saying : (x y : Option (List ℕ)) (text : List ℕ) (end : ClientEnd) → Prints (text ++ 10 ∷ []) x y end → CallPrints end x y
saying x y text end (Wrote w e) = subst (λ (c : ClientEnd). CallPrints c x y) (sym e) (text, w)
saying x y text end (WrotePart w e) = subst (λ (c : ClientEnd). CallPrints c x y) (sym e) (text, w)
saying x y text end (Untold w e) = subst (λ (c : ClientEnd). CallPrints c x y) (sym e) w

going : (r : Run) (a z : Scene) (end : ClientEnd) → CommandEnds r a z end → CallPrints end a.written z.written
going r a z end (BrokeOff b goes w e) = silent (kind_of end) a.written z.written (at_break end b e) w
going r a z end (CommandFailed f comes w e) = silent (kind_of end) a.written z.written (at_fault end f e) w
going r a z end (CommandTold o good comes says) = saying a.written z.written (text_of_outcome o) end says

begun : (t : Todo) (seed : List ℕ) (i i' : Input) (a z : Scene) (end : ClientEnd) → BeginsOrNot t seed i i' a z end → CallPrints end a.written z.written
begun t seed i i' a z end (inl (u, quiet)) = silent (kind_of end) a.written z.written quiet.silent u.wrote
begun t seed i i' a z end (inr (k, r, b, goes)) = going r a z end goes

first : (k : KeptState) (a z : Scene) (end : ClientEnd) → FirstOrNot k a z end → CallPrints end a.written z.written
first k a z end (inl (u, quiet)) = silent (kind_of end) a.written z.written quiet.silent u.wrote
first k a z end (inr (asked, Unsaved kept w is)) = silent (kind_of end) a.written z.written (at_keeper end is) w
first k a z end (inr (asked, Saved kept says)) = saying a.written z.written (codes "ready") end says

either : (s : Start) (P : Type 0) → ByStart s (λ (k : KeptState). P) (λ (t : Todo). P) → P
either (Init k) P p = p
either (Act t) P p = p

any : (r : Result Line UsageFault) (P : Type 0) → ByWords r (λ (k : KeptState). P) (λ (t : Todo). P) P → P
any (Ok line) P p = either (start_of line) P p
any (Err f) P p = p

-- what a call writes
pub writes : (words : List (List ℕ)) (seed : List ℕ) (i i' : Input) (a z : Scene) (end : ClientEnd) → IsRun words seed (met i a) (met i' z) end → CallPrints end a.written z.written
writes words seed i i' a z end run =
    any (line_of words) (CallPrints end a.written z.written)
    (by_words (line_of words) seed i i' a z end (λ k. CallPrints end a.written z.written) (λ t. CallPrints end a.written z.written) (CallPrints end a.written z.written) (λ k. first k a z end) (λ t. begun t seed i i' a z end)
    (λ still. silent (kind_of end) a.written z.written still.1.silent still.0.wrote) run)
