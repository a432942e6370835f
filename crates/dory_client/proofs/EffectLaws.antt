-- What a command that is done did.
use Rattle.std.proofs.Common.{◌≡◌, ℕ, ◌-◌, ◌≤◌, ◌<◌, Bool, true, false, List, ◌++◌, length, length-append, Option, None, Some, Result, refl, ap, sym, subst, arith, inl, inr}
use Rattle.std.specs.Prelude.{⊤, nat_lt, if◌then◌else◌}
use Rattle.std.proofs.Math.ListN.{length-map}
use Rattle.std.proofs.lemmas.Option.{slice_get_within}
use Rattle.std.specs.Io.KnownBytes.{Appends}
use Rattle.dory_base.specs.Step.{ids_of}
use Rattle.dory_base.specs.declared.entry.Entry.{Entry}
use Rattle.dory_base.specs.declared.ids.UpdateId.{UpdateId}
use Rattle.dory_base.specs.declared.ids.Side.{Side}
use Rattle.dory_base.specs.declared.ids.Side.TheVariants.{Lead, Follow}
use Rattle.dory_link.specs.Told.{Told, Grown, Grows}
use Rattle.dory_verify.specs.declared.answer.Answer.{Answer}
use Rattle.dory_cli.specs.Line.{line_of as read_of}
use Rattle.dory_cli.specs.declared.fault.UsageFault.{UsageFault}
use Rattle.dory_cli.specs.declared.line.Line.{Line}
use Rattle.dory_state.specs.Spelling.{IsKeptState}
use Rattle.dory_state.specs.declared.kept.KeptState.{KeptState}
use Rattle.dory_member.specs.declared.command.Command.TheVariants as command
use Rattle.dory_member.specs.declared.outcome.Outcome.{Outcome}
use Rattle.dory_member.specs.declared.outcome.Outcome.TheVariants.{Failed}
use Rattle.dory_member.specs.declared.phase.Phase.{Phase}
use Rattle.dory_member.specs.declared.phase.Run.{Run}
use Rattle.dory_member.specs.Course.{run_after}
use Rattle.dory_member.specs.Course.{Put}
use Rattle.dory_drive.specs.declared.broken.Broken.{Broken}
use Rattle.dory_drive.specs.Driven.{AskFailed, ComesTo, Finished, FirstSaveFailed, LastSaveFailed, RanOut}
use Rattle.dory_drive.proofs.Growth.{went_grew}
use Rattle.dory_drive.specs.Member.{member_course}
use Rattle.dory_drive.specs.Pair.{IsRight, IsRightBy, IsRightOf, SearchPair}
use Rattle.dory_drive.specs.Scene.{AskedNothing, Scene}
use Rattle.dory_drive.specs.Way.{PutUnanswered, scene_links, Links}
use Rattle.dory_client.specs.declared.end.ClientEnd.TheVariants as ends
use Rattle.dory_client.specs.declared.start.Todo.{Todo}
use Rattle.dory_client.specs.declared.start.Todo.TheVariants.{Plain}
use Rattle.dory_client.specs.declared.start.Start.TheVariants.{Act}
use Rattle.dory_client.specs.CallEffects.{ToldAt, Confirms, IsBegun, SeenOf, SeenBy, IsDone, CallEffects}
use Rattle.dory_client.specs.CommandEnds.{BrokeOff, CommandEnds, CommandFailed, CommandTold, outcome_line}
use Rattle.dory_client.specs.Headline.{IsAccepted}
use Rattle.dory_client.specs.Sought.{pair_of}
use Rattle.dory_client.specs.Run.{IsRun, Loads, Runs}
use Rattle.dory_client.specs.Scene.{Input, met}
use Rattle.dory_client.specs.Start.{command_of}
use Rattle.dory_client.specs.Way.{ExchangedInTurn}
use Rattle.dory_client.proofs.Acting.{BeginsOrNot, CameWell, begins_or_not, by_words, came_well}
use Rattle.dory_client.proofs.Beginnings.{beginning, search_begins}
use Rattle.dory_client.proofs.CameTo.{Answers, CameTo, Stands, Stays, answered, came_to, rises, searched}
use Rattle.dory_client.proofs.Right.{right}
use Rattle.dory_client.proofs.Updates.{Grow, grow_twice, heard_same}

-- ---- how far was seen

-- a number that a told history has, where the folder was told before
abbrev Reaches : Option (ℕ → Option Told) → Option (ℕ → Option Told) → ℕ → ℕ → Type 0
Reaches None now folder n = ⊤
Reaches (Some old) None folder n = ⊥
Reaches (Some old) (Some new) folder n = (x t : Told) → old folder ≡ Some x → new folder ≡ Some t → n ≤ length t.history

longer_told : (old new : Told) → (more : List Entry) → new.history ≡ old.history ++ more → length old.history ≤ length new.history
longer_told old new more is = omega (arith, ap length is, length-append old.history more)

same_of : (a z : Option Told) (b : ℕ) → Grown a z → SeenOf a z b b
same_of None z b g = tt
same_of (Some old) None b g = absurd g
same_of (Some old) (Some new) b g = λ le. omega (arith, le, longer_told old new g.history.0 g.history.1)

seen_same : (a z : Option (ℕ → Option Told)) (folder b : ℕ) → Grows a z → SeenBy a z folder b b
seen_same None z folder b g = tt
seen_same (Some a) None folder b g = absurd g
seen_same (Some a) (Some z) folder b g = same_of (a folder) (z folder) b (g folder)

reach_of : (a z : Option Told) (b n : ℕ) → Grown a z → ((x t : Told) → a ≡ Some x → z ≡ Some t → n ≤ length t.history) → SeenOf a z b n
reach_of None z b n g r = tt
reach_of (Some old) None b n g r = absurd g
reach_of (Some old) (Some new) b n g r = λ le. r old new refl refl

pub seen_reach : (a z : Option (ℕ → Option Told)) (folder b n : ℕ) → Grows a z → Reaches a z folder n → SeenBy a z folder b n
seen_reach None z folder b n g r = tt
seen_reach (Some a) None folder b n g r = absurd g
seen_reach (Some a) (Some z) folder b n g r = reach_of (a folder) (z folder) b n (g folder) r

seen_greater : (u : Bool) (a z : Option (ℕ → Option Told)) (folder b n : ℕ) → Grows a z → Reaches a z folder n → SeenBy a z folder b (if u then n else b)
seen_greater true a z folder b n g r = seen_reach a z folder b n g r
seen_greater false a z folder b n g r = seen_same a z folder b g

told_reaches : (a z : Option (ℕ → Option Told)) (folder n : ℕ) (id : UpdateId) → ToldAt a z folder n id → Reaches a z folder n
told_reaches None z folder n id t = tt
told_reaches (Some a) None folder n id t = absurd t
told_reaches (Some a) (Some z) folder n id (t, is, has) = λ x u e i.
    let same : t ≡ u = cc in
    let few : n - 1 < length (ids_of t.history) = slice_get_within (ids_of t.history) (n - 1) id has.there in
    subst (λ (v : Told). n ≤ length v.history) same (omega (arith, few, has.counted, length-map t.history (λ (e : Entry). e.id)))

-- a command that was done only made histories grow
went_grows : (run : Run) (frames : List (List ℕ)) (a z : Links) → ExchangedInTurn run frames a z → Grow a z
went_grows run frames a z went = record { lead = (went_grew member_course Lead run frames a z went).grown; follow = (went_grew member_course Follow run frames a z went).grown }

unanswered_grows : (o : Option Put) (m z : Links) (b : Broken) → PutUnanswered o m z b → Grow m z
unanswered_grows None m z b stuck = absurd stuck
unanswered_grows (Some (Lead, r)) m z b ((un, same), is) = record { lead = un.grown; follow = heard_same m.follow z.follow same }
unanswered_grows (Some (Follow, r)) m z b ((same, un), is) = record { lead = heard_same m.lead z.lead same; follow = un.grown }

nothing_grows : (a z : Scene) → AskedNothing a z → Grow (scene_links a) (scene_links z)
nothing_grows a z (lead, follow) = record { lead = heard_same a.lead z.lead lead; follow = heard_same a.follow z.follow follow }

comes_grow : (r : Run) (a z : Scene) (o : Outcome) → ComesTo member_course r a z o → Grow (scene_links a) (scene_links z)
comes_grow r a z o (RanOut earlier frame went lost kept) = went_grows r _ (scene_links a) (scene_links z) went
comes_grow r a z o (Finished frames went ended kept) = went_grows r frames (scene_links a) (scene_links z) went

command_grows : (r : Run) (a z : Scene) (end : _) → CommandEnds r a z end → Grow (scene_links a) (scene_links z)
command_grows r a z end (BrokeOff b (FirstSaveFailed asked kept is) w e) = nothing_grows a z asked
command_grows r a z end (BrokeOff b (AskFailed broke kept) w e) =
    grow_twice (scene_links a) broke.between (scene_links z) (went_grows r broke.frames (scene_links a) broke.between broke.went) (unanswered_grows _ broke.between (scene_links z) b broke.stuck)
command_grows r a z end (BrokeOff b (LastSaveFailed frames went saving kept is) w e) = went_grows r frames (scene_links a) (scene_links z) went
command_grows r a z end (CommandFailed f comes w e) = comes_grow r a z (Failed f) comes
command_grows r a z end (CommandTold o good comes says) = comes_grow r a z o comes

-- whatever a call did, the histories only grew
pub goes_grow : (t : Todo) (seed : List ℕ) (i i' : Input) (a z : Scene) (end : _) → BeginsOrNot t seed i i' a z end → Grow (scene_links a) (scene_links z)
goes_grow t seed i i' a z end (inl (u, quiet)) = nothing_grows a z u.asked
goes_grow t seed i i' a z end (inr (k, r, begun, goes)) = command_grows r a z end goes

-- ---- a command that was done

right_reach : (p : SearchPair) (side : Side) (frame : List ℕ) (answer : Answer) (a z : Option (ℕ → Option Told)) → IsRightBy p side frame answer a z → Reaches a z p.folder.0 p.version
right_reach p side frame answer None z r = tt
right_reach p side frame answer (Some a) None r = absurd r
right_reach p side frame answer (Some a) (Some z) r = λ x t e i. at x t (subst (IsRightOf p side frame answer (Some x)) i (subst (λ (o : Option Told). IsRightOf p side frame answer o (z p.folder.0)) e r))
  where
    at : (x t : Told) → IsRight p side frame answer x t → p.version ≤ length t.history
    at x t h = omega (arith, h.committed, ap length h.earlier.1, length-append h.history h.earlier.0)

is_done : (k : KeptState) (seed : List ℕ) (run : Run) (a z : Scene) (c : CameWell run a z) → IsKeptState k → CameTo k seed run (scene_links a) (scene_links z) c.outcome (run_after run c.by.frames).kept.seen → IsDone k run a z
is_done k seed run a z c range so = by so
  where
    grow : Grow (scene_links a) (scene_links z)
    grow = went_grows run c.by.frames (scene_links a) (scene_links z) c.by.went

    done : (n : ℕ) → (run_after run c.by.frames).kept.seen ≡ n → SeenBy a.lead.folders z.lead.folders k.folder.0 k.seen n → SeenBy a.follow.folders z.follow.folders k.folder.0 k.seen n → Confirms k.folder.0 run.phase a z → IsDone k run a z
    done n last lead follow confirmed = record {
      last = (run_after run c.by.frames).kept;
      kept = c.by.kept;
      rises = rises k seed run (scene_links a) (scene_links z) c.outcome (run_after run c.by.frames).kept.seen so;
      lead_seen = subst (SeenBy a.lead.folders z.lead.folders k.folder.0 k.seen) (sym last) lead;
      follow_seen = subst (SeenBy a.follow.folders z.follow.folders k.folder.0 k.seen) (sym last) follow;
      confirmed = confirmed;
    }

    by : CameTo k seed run (scene_links a) (scene_links z) c.outcome (run_after run c.by.frames).kept.seen → IsDone k run a z
    by (Stands e number is named lead follow last) =
        done _ last (seen_greater (nat_lt k.seen number) a.lead.folders z.lead.folders k.folder.0 k.seen number grow.lead (told_reaches a.lead.folders z.lead.folders k.folder.0 number e.id lead))
        (seen_greater (nat_lt k.seen number) a.follow.folders z.follow.folders k.folder.0 k.seen number grow.follow (told_reaches a.follow.folders z.follow.folders k.folder.0 number e.id follow))
        (subst (λ (p : Phase). Confirms k.folder.0 p a z) (sym is) (record { number = number; by_lead = lead; by_follow = follow; written = subst (λ (x : Outcome). Appends a.written z.written (outcome_line x)) named c.wrote }))
    by (Answers word answer none it last) =
        let p : SearchPair = pair_of k seed word answer.version in
        let r = right k seed word answer a z range it in
        done _ last (seen_reach a.lead.folders z.lead.folders k.folder.0 k.seen answer.version grow.lead (right_reach p Follow (r.frames Follow) answer a.lead.folders z.lead.folders (r.right Lead)))
        (seen_reach a.follow.folders z.follow.folders k.folder.0 k.seen answer.version grow.follow (right_reach p Lead (r.frames Lead) answer a.follow.folders z.follow.folders (r.right Follow))) (none k.folder.0 a z)
    by (Stays none last) = done _ last (seen_same a.lead.folders z.lead.folders k.folder.0 k.seen grow.lead) (seen_same a.follow.folders z.follow.folders k.folder.0 k.seen grow.follow) (none k.folder.0 a z)

-- ---- a whole call

-- a command that was done began in the state that is kept
pub record DidWell (t : Todo) (seed : List ℕ) (i i' : Input) (a z : Scene) : Type 0 where
  pub k : KeptState
  pub run : Run
  pub begins : IsBegun t seed (met i a) (met i' z) k run
  pub came : CameWell run a z

did : (t : Todo) (seed : List ℕ) (i i' : Input) (a z : Scene) → BeginsOrNot t seed i i' a z ends.Done → DidWell t seed i i' a z
did t seed i i' a z (inl (u, quiet)) = absurd quiet.silent
did t seed i i' a z (inr (k, r, begun, goes)) = record { k = k; run = r; begins = begun; came = came_well r a z goes }

acts : (t : Todo) (seed : List ℕ) (i i' : Input) (a z : Scene) → BeginsOrNot t seed i i' a z ends.Done → (k : KeptState) × (run : Run) × IsBegun t seed (met i a) (met i' z) k run × IsDone k run a z
acts t seed i i' a z begun =
    let d = did t seed i i' a z begun in
    let c = command_of d.k d.begins.text t in
    let so = came_to d.k seed c d.run d.came.by.frames (scene_links a) (scene_links z) d.came.outcome (beginning d.k seed c d.run d.begins.begins) d.came.by.went d.came.by.ended d.came.good in
    (d.k, d.run, d.begins, is_done d.k seed d.run a z d.came d.begins.in_range so)

-- words that were done
pub does : (words : List (List ℕ)) (seed : List ℕ) (i i' : Input) (a z : Scene) → IsRun words seed (met i a) (met i' z) ends.Done → CallEffects words seed (met i a) (met i' z)
does words seed i i' a z run =
    by_words (read_of words) seed i i' a z ends.Done (λ first. ⊤) (λ t. (k : KeptState) × (r : Run) × IsBegun t seed (met i a) (met i' z) k r × IsDone k r a z) ⊥ (λ first so. tt) (λ t. acts t seed i i' a z) (λ still. still.1.silent) run

-- a search that was accepted
pub accepted : (words : List (List ℕ)) (seed : List ℕ) (i i' : Input) (a z : Scene) → IsRun words seed (met i a) (met i' z) ends.Done → IsAccepted words seed a z
accepted words seed i i' a z run word is =
    let loads : Loads (Act (Plain (command.Search word))) seed (met i a) (met i' z) ends.Done = subst (λ (r : Result Line UsageFault). Runs r seed (met i a) (met i' z) ends.Done) is run in
    let d = did (Plain (command.Search word)) seed i i' a z (begins_or_not (Plain (command.Search word)) seed i i' a z ends.Done loads) in
    let c = d.came in
    let so = searched d.k seed word d.run c.by.frames (scene_links a) (scene_links z) c.outcome (search_begins d.k seed word d.run d.begins.begins) c.by.went c.by.ended in
    let got = answered d.k seed word (scene_links a) (scene_links z) c.outcome so c.good in (
      d.begins.bytes,
      d.k,
      d.begins.is_kept,
      d.begins.is_state,
      record {
        answer = got.0;
        right = right d.k seed word got.0 a z d.begins.in_range got.2;
        written = subst (λ (x : Outcome). Appends a.written z.written (outcome_line x)) got.1 c.wrote;
      },
    )
