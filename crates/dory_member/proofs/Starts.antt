-- How a command begins is a run in range.
use Rattle.std.proofs.Common.{◌≡◌, ℕ, ◌+◌, ◌^◌, ◌<◌, ◌≤◌, refl, sym, ap, subst, ◌∙◌, arith}
use Rattle.std.specs.Prelude.{Bool, false, ◌&&◌, List, Option, Some, None, Result, Err}
use Rattle.dory_base.specs.declared.ids.DocId.{DocId}
use Rattle.dory_state.specs.Spelling.{IsKeptState, IsPending}
use Rattle.dory_state.specs.declared.kept.Pending.{Pending}
use Rattle.dory_state.specs.declared.kept.KeptState.{KeptState}
use Rattle.dory_member.specs.declared.outcome.Fault.{Fault}
use Rattle.dory_member.specs.declared.outcome.Fault.TheVariants as fault
use Rattle.dory_member.specs.declared.outcome.Outcome.{Outcome}
use Rattle.dory_member.specs.declared.phase.Phase.{Phase}
use Rattle.dory_member.specs.declared.phase.Run.{Run}
use Rattle.dory_member.specs.Course.{asking, ended_with, id_of, if_finished, if_serial, posting, refused_if, update_run}
use Rattle.dory_member.specs.Draw.{drawn, is_last_epoch, is_last_serial, is_used_up, ready}
use Rattle.dory_member.specs.Machine.{IsRefused, begins}
use Rattle.dory_member.specs.Within.{AsksNamed, RunInRange, IsSeen, Within}
use Rattle.dory_member.proofs.Entries.{entry_range}
use Rattle.dory_member.proofs.Kept.{drawn_is, with_pending_is}

-- a new update that begins
pub update_run_is : (k : KeptState) (seed : List ℕ) (used : ℕ) (p : Pending) → IsKeptState k → k.next_serial < 18446744073709551615 → used ≤ 65536
    → p.serial ≡ k.next_serial → IsPending k.shape (2 ^ 64) p → RunInRange (update_run k seed used p)
update_run_is k seed used p h left le same is =
    let below : p.serial < k.next_serial + 1 = omega arith in
    let past : IsPending k.shape (k.next_serial + 1) p = record { serial = is.serial; past = below; doc = is.doc; row = is.row } in
    record {
      kept = with_pending_is (drawn k used) p (drawn_is k used h left le) past;
      serial = omega (arith, left);
      named = tt;
      phase = (entry_range k p h is, tt, omega arith);
    }

-- a command that asks and has no new update
pub asking_is : (k : KeptState) (seed : List ℕ) (phase : Phase) → IsKeptState k → k.next_serial < 18446744073709551615
    → AsksNamed (asking k seed k.used phase) phase → Within phase 0 → RunInRange (asking k seed k.used phase)
asking_is k seed phase h left named within = record {
  kept = drawn_is k k.used h left h.used;
  serial = omega (arith, left);
  named = named;
  phase = within;
}

-- a command that asks nothing
pub ended_is : (k : KeptState) (seed : List ℕ) (o : Outcome) → IsKeptState k → IsSeen o → RunInRange (ended_with k seed o)
ended_is k seed o h seen = record { kept = h; serial = omega arith; named = tt; phase = seen }

-- a refusal stays one when a run is made a machine
pub refused_begins : (f : Fault) (made : Result Run Fault) → IsRefused f made → IsRefused f (begins made)
refused_begins fault.NoMemory made is = tt
refused_begins (fault.Check e) made is = subst (λ (m : Result Run Fault). begins m ≡ Err (fault.Check e)) (sym is) refl
refused_begins (fault.Unconfirmed side want got) made is = subst (λ (m : Result Run Fault). begins m ≡ Err (fault.Unconfirmed side want got)) (sym is) refl
refused_begins (fault.Diverged n i j) made is = subst (λ (m : Result Run Fault). begins m ≡ Err (fault.Diverged n i j)) (sym is) refl
refused_begins (fault.Unfinished i) made is = subst (λ (m : Result Run Fault). begins m ≡ Err (fault.Unfinished i)) (sym is) refl
refused_begins fault.SerialEnd made is = subst (λ (m : Result Run Fault). begins m ≡ Err fault.SerialEnd) (sym is) refl
refused_begins fault.EpochEnd made is = subst (λ (m : Result Run Fault). begins m ≡ Err fault.EpochEnd) (sym is) refl

-- a command that finds an update pending
pub unfinished : (k : KeptState) (p : Pending) (made : Result Run Fault) → k.pending ≡ Some p → if_finished k k.pending made ≡ Err (fault.Unfinished (id_of k p))
unfinished k p made e = ap (λ (o : Option Pending). if_finished k o made) e

-- a post that nothing refuses
pub unrefused : (k : KeptState) (made : Result Run Fault) → k.pending ≡ None → is_last_serial k ≡ false → (is_used_up k && is_last_epoch k) ≡ false
    → if_finished k k.pending (if_serial k (refused_if (is_used_up k && is_last_epoch k) fault.EpochEnd made)) ≡ made
unrefused k made e s l =
    ap (λ (o : Option Pending). if_finished k o (if_serial k (refused_if (is_used_up k && is_last_epoch k) fault.EpochEnd made))) e
    ∙ ap (λ (b : Bool). refused_if b fault.SerialEnd (refused_if (is_used_up k && is_last_epoch k) fault.EpochEnd made)) s
    ∙ ap (λ (b : Bool). refused_if b fault.EpochEnd made) l

-- the run of a post
pub posted : (k ready' : KeptState) (seed : List ℕ) (d : DocId) (n : ℕ) (row : List Bool) (run : Run) → ready' ≡ ready k → d.0 ≡ n → run ≡ posting ready' seed d row
    → posting (ready k) seed (record { 0 = n }) row ≡ run
posted k ready' seed d n row run a b is = sym (is ∙ (λ i. posting (a i) seed (record { 0 = b i }) row))
