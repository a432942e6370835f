-- How a member's command goes on.
use Rattle.std.proofs.Common.{◌≡◌, ◌≢◌, ℕ, Bool, true, false, List, [], ◌∷◌, ◌++◌, length, ap, ◌∙◌, refl, sym, true≢false}
use Rattle.std.specs.Prelude.{Option, Some, None, option_map, slice_set}
use Rattle.dory_base.specs.declared.ids.MemberId.{MemberId}
use Rattle.dory_base.specs.declared.ids.Side.{Side}
use Rattle.dory_base.specs.declared.ids.Side.TheVariants.{Lead, Follow}
use Rattle.dory_wire.specs.Spelling.{want_kind}
use Rattle.dory_wire.specs.declared.message.Want.TheVariants as want
use Rattle.dory_member.specs.Course.{Ask, ask_request, asks, fails, side_of, single_of, to, want_of}
use Rattle.dory_member.specs.Machine.{Machine, Turn, Saves, Asks, Ends, asks_next, turn_of, waits_for_reply}
use Rattle.dory_member.specs.declared.outcome.Fault.TheVariants as fault
use Rattle.dory_member.specs.declared.outcome.Outcome.{Outcome}
use Rattle.dory_member.specs.declared.phase.Phase.{Phase}
use Rattle.dory_member.specs.declared.phase.Phase.TheVariants.{Updating, Measuring, Searching, Ended}
use Rattle.dory_member.specs.declared.phase.Run.{Run}
use Rattle.dory_run.specs.Happening.{line_of, puts, station_at}
use Rattle.dory_wire.specs.declared.message.Request.{Request}
use Rattle.dory_run.specs.World.{Station, Busy, Message, Asked}
use Rattle.dory_world.specs.Steps.{IsDue, WentOn}
use Rattle.dory_world.specs.declared.asking.Asking.{Asking}
use Rattle.dory_run.specs.declared.line.WorldLine.{WorldLine}
use Rattle.dory_run.specs.declared.line.WorldLine.TheVariants as line

-- the domain that a turn asks
abbrev pub side_in : Turn → Option Side
side_in Saves = None
side_in (Asks side frame) = Some side
side_in Ends = None

asks_side : (run : Run) (o : Option Ask) → side_in (asks_next run o) ≡ option_map (λ (a : Ask). a.side) o
asks_side run None = refl
asks_side run (Some ask) = refl

-- one that waits for a reply has saved
pub waits_saved : (run : Run) (unsaved : Bool) → waits_for_reply (turn_of (record { run = run; unsaved = unsaved })) ≡ true → unsaved ≡ false
waits_saved run true w = absurd (true≢false (sym w))
waits_saved run false w = refl

-- and asks that domain
pub side_of_turn : (m : Machine) → m.unsaved ≡ false → side_in (turn_of m) ≡ option_map (λ (a : Ask). a.side) (asks m.run.phase)
side_of_turn m saved = ap (λ (b : Bool). side_in (turn_of (record { run = m.run; unsaved = b }))) saved ∙ asks_side m.run (asks m.run.phase)

-- a run that asks goes on
pub asks_busy : (run : Run) (p : Phase) (ask : Ask) → asks p ≡ Some ask → station_at run p ≡ Busy run
asks_busy run (Updating e at) ask is = refl
asks_busy run (Measuring word lead) ask is = refl
asks_busy run (Searching q lead) ask is = refl
asks_busy run (Ended outcome) ask is = absurd (cc)

-- its line tells the ask
told_ask : (n : ℕ) (a b : Ask) → ◌≡◌ {A = Option Ask} (Some a) (Some b) → line.Ask n a.side (want_kind a.want) ≡ line.Ask n b.side (want_kind b.want)
told_ask n a b is = let w : a ≡ b = cc in ap (λ (x : Ask). line.Ask n x.side (want_kind x.want)) w

pub asks_line : (n : ℕ) (m : MemberId) (p : Phase) (ask : Ask) → asks p ≡ Some ask → line_of n m p ≡ line.Ask n ask.side (want_kind ask.want)
asks_line n m (Updating e at) ask is = told_ask n (to (side_of at) (want_of e (single_of e.id at))) ask is
asks_line n m (Measuring word None) ask is = told_ask n (to Lead want.Latest) ask is
asks_line n m (Measuring word (Some lead)) ask is = told_ask n (to Follow want.Latest) ask is
asks_line n m (Searching q None) ask is = told_ask n (to Lead (want.Search q.version q.shape q.lead_keys)) ask is
asks_line n m (Searching q (Some lead)) ask is = told_ask n (to Follow (want.Search q.version q.shape q.follow_keys)) ask is
asks_line n m (Ended outcome) ask is = absurd (cc)

-- and one that asks doesn't end for want of memory
pub asks_remembers : (p : Phase) (ask : Ask) → asks p ≡ Some ask → p ≢ fails fault.NoMemory
asks_remembers p ask is = λ ran. let e : ◌≡◌ {A = Option Ask} None (Some ask) = sym (ap asks ran) ∙ is in absurd cc

-- one that asks nothing has ended
pub asks_nothing : (p : Phase) → asks p ≡ None → (outcome : Outcome) × (p ≡ Ended outcome)
asks_nothing (Updating e at) is = absurd (cc)
asks_nothing (Measuring word None) is = absurd (cc)
asks_nothing (Measuring word (Some lead)) is = absurd (cc)
asks_nothing (Searching q None) is = absurd (cc)
asks_nothing (Searching q (Some lead)) is = absurd (cc)
asks_nothing (Ended outcome) is = (outcome, refl)

-- a command that asks has gone on where its ask is put
pub goes_by_ask : (m : MemberId) (run : Run) (before : List Station) (put : List Message) (a : Asking) (o : Option Ask) → asks run.phase ≡ o → IsDue run o (Some a)
    → (told : WorldLine) (now : List Station) (put_now : List Message) → now ≡ slice_set before m.0 (Busy run) → put_now ≡ put ++ Asked a.side a.request ∷ [] → told ≡ line.Ask (length put) a.side (want_kind a.request.want)
    → WentOn m run before put told now put_now
goes_by_ask m run before put a None is due told now put_now members messages tells = absurd due
goes_by_ask m run before put a (Some ask) is due told now put_now members messages tells =
    let asked : Asked a.side a.request ≡ Asked ask.side (ask_request run ask) = ap (λ (x : Side). Asked x a.request) due.0 ∙ ap (Asked ask.side) due.1 in
    record {
      members = members ∙ ap (slice_set before m.0) (sym (asks_busy run run.phase ask is));
      messages = messages ∙ ap (λ (x : Message). put ++ x ∷ []) asked ∙ ap (λ (x : Option Ask). put ++ puts run x) (sym is);
      line = tells ∙ ap (λ (x : Side). line.Ask (length put) x (want_kind a.request.want)) due.0 ∙ ap (λ (x : Request). line.Ask (length put) ask.side (want_kind x.want)) due.1 ∙ sym (asks_line (length put) m run.phase ask is);
      remembers = asks_remembers run.phase ask is;
    }
