-- How a drive, and what is told of it, make the whole of a command's way.
use Rattle.std.proofs.Common.{◌≡◌, ℕ, List, Option, Result, Ok, Err, refl, ap, sym, ◌∙◌, subst}
use Rattle.dory_io.specs.Bytes.{Stays}
use Rattle.dory_state.specs.declared.kept.KeptState.{KeptState}
use Rattle.dory_member.specs.declared.phase.Run.{Run}
use Rattle.dory_member.specs.declared.outcome.Outcome.{Outcome}
use Rattle.dory_member.specs.declared.outcome.Outcome.TheVariants.{Failed}
use Rattle.dory_member.specs.declared.outcome.Fault.{Fault}
use Rattle.dory_member.specs.declared.outcome.Fault.TheVariants as fault
use Rattle.dory_member.specs.declared.command.Command.{Command}
use Rattle.dory_member.specs.Course.{begun}
use Rattle.dory_member.specs.Machine.{IsRefused, Machine, begins, just_begun}
use Rattle.dory_drive.specs.declared.broken.Broken.{Broken}
use Rattle.dory_drive.specs.Driven.{BreaksOff, ComesTo}
use Rattle.dory_drive.specs.Member.{member_course}
use Rattle.dory_drive.specs.Scene.{IsUntouched, IsUnwritten, OnlyOutput, Scene}
use Rattle.dory_drive.proofs.Finishing.{written_after}
use Rattle.dory_drive.proofs.Keeping.{stays_same}
use Rattle.dory_client.specs.declared.end.ClientEnd.{ClientEnd}
use Rattle.dory_client.specs.Ends.{broken_end, fault_end}
use Rattle.dory_client.specs.CommandEnds.{BrokeOff, CommandEnds, CommandEndsFrom, CommandFailed, CommandTold, IsBegun, NoRoom, NotBegun, OutcomePrints}

pub untouched : (a : Scene) → IsUntouched a a
untouched a = record { asked = (refl, refl); kept = stays_same a.kept; wrote = stays_same a.written }

-- ---- from a drive

-- a command whose conversation broke off
pub broken_off : (run : Run) (a z : Scene) (b : Broken) → IsUnwritten a z → BreaksOff member_course run a z b → CommandEnds run a z (broken_end b)
broken_off run a z b un goes = BrokeOff b goes (subst (λ (w : Option (List ℕ)). Stays a.written w) (sym un.written) (stays_same a.written)) refl

told : (run : Run) (a z : Scene) (o : Outcome) (end : ClientEnd) → OutcomePrints o a.written z.written end → ComesTo member_course run a z o → CommandEnds run a z end
told run a z (Failed f) end says comes = CommandFailed f comes says.0 says.1
told run a z o end says comes = CommandTold o (λ f e. cc) comes says

-- a command whose outcome was handed back, and told
pub handed_told : (run : Run) (a t z : Scene) (o : Outcome) (end : ClientEnd) → IsUnwritten a t → OnlyOutput t z → OutcomePrints o t.written z.written end → ComesTo member_course run a t o → CommandEnds run a z end
handed_told run a t z o end un only says comes =
    told run a z o end (subst (λ (w : Option (List ℕ)). OutcomePrints o w z.written end) un.written says) (written_after member_course run a t z o only comes)

-- ---- how a command begins

began_run : (r : Result Run Fault) (m : Machine) → begins r ≡ Ok m → (run : Run) × (r ≡ Ok run) × (m ≡ just_begun run)
began_run (Ok run) m e = (run, refl, cc)
began_run (Err f) m e = absurd (cc)

-- a member that begins stands at the first of its run
pub stands_first : (r : Result Run Fault) (m : Machine) → begins r ≡ Ok m → m ≡ just_begun m.run
stands_first r m e =
    let b = began_run r m e in
    b.2 ∙ ap just_begun (sym (ap (λ (x : Machine). x.run) b.2))

-- a command that went on from its beginning
pub goes_from : (k : KeptState) (seed : List ℕ) (c : Command) (m : Machine) (a z : Scene) (end : ClientEnd) → begins (begun k seed c) ≡ Ok m → CommandEnds m.run a z end → CommandEndsFrom k seed c a z end
goes_from k seed c m a z end e goes =
    let b = began_run (begun k seed c) m e in
    IsBegun b.0 b.1 (subst (λ (r : Run). CommandEnds r a z end) (ap (λ (x : Machine). x.run) b.2) goes)

refused_so : (r : Result Run Fault) (f : Fault) → begins r ≡ Err f → r ≡ Err f
refused_so (Ok run) f e = absurd (cc)
refused_so (Err g) f e = let same : g ≡ f = cc in ap (λ (x : Fault). Err x) same

-- a command that didn't begin
pub not_begun : (k : KeptState) (seed : List ℕ) (c : Command) (a z : Scene) (f : Fault) → IsRefused f (begins (begun k seed c)) → IsUntouched a z → CommandEndsFrom k seed c a z (fault_end f)
not_begun k seed c a z fault.NoMemory e same = NoRoom same refl
not_begun k seed c a z f e same = NotBegun f (refused_so (begun k seed c) f e) same refl
