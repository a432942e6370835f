-- How a run of calls on a disk goes on.
use Rattle.std.proofs.Common.{◌≡◌, Some, ◌∙◌, inl, inr, ⊎_elim, ℕ, List, Option, refl, subst, arith}
use Rattle.dory_disk.specs.Disk.{Elapses}
use Rattle.dory_disk.specs.Disk.{IsOnDisk}
use Rattle.dory_journal.proofs.Pieces.{was_told}
use Rattle.dory_journal.specs.Runs.{LeavesOnly, Quiet}

module _ {D : Type 0} (moment : D → ℕ) (left_since : D → ℕ → List ℕ → Type 0) where
  -- before the first call
  pub started : (old : D) (P : List ℕ → Type 0) → ((c : List ℕ) → left_since old (moment old) c → P c) → LeavesOnly moment left_since old old P
  started old P here = record { later = omega arith; each = here; before = λ t c le left. inl left }

  -- one call more, after which a crash leaves what has P
  pub goes_on : (old mid new : D) (P images : List ℕ → Type 0) → LeavesOnly moment left_since old mid P → Elapses (moment mid) (moment new) (left_since mid) (left_since new) images
      → ((c : List ℕ) → images c → P c) → LeavesOnly moment left_since old new P
  goes_on old mid new P images so_far time here = record {
    later = omega (arith, so_far.later, time.later);
    each = λ c left. ⊎_elim (so_far.each c) (here c) (time.nothing_else (moment old) c so_far.later left);
    before = λ t c le left. ⊎_elim (so_far.before t c le) (λ now. inr (here c now)) (time.nothing_else t c (omega (arith, le, so_far.later)) left);
  }

  -- one run after the other
  pub joined : (old mid new : D) (P : List ℕ → Type 0) → LeavesOnly moment left_since old mid P → LeavesOnly moment left_since mid new P → LeavesOnly moment left_since old new P
  joined old mid new P first second = record {
    later = omega (arith, first.later, second.later);
    each = λ c left. ⊎_elim (first.each c) (λ now. now) (second.before (moment old) c first.later left);
    before = λ t c le left. ⊎_elim (first.before t c le) inr (second.before t c (omega (arith, le, first.later)) left);
  }

  -- what has P has Q
  pub widened : (old new : D) (P Q : List ℕ → Type 0) → LeavesOnly moment left_since old new P → ((c : List ℕ) → P c → Q c) → LeavesOnly moment left_since old new Q
  widened old new P Q run also = record {
    later = run.later;
    each = λ c left. also c (run.each c left);
    before = λ t c le left. ⊎_elim inl (λ p. inr (also c p)) (run.before t c le left);
  }

module _ {D : Type 0} (told : D → Option (List ℕ)) (may_leave : D → List ℕ → Type 0) (moment : D → ℕ) (left_since : D → ℕ → List ℕ → Type 0) where
  -- no call changes nothing
  pub quiet_start : (old : D) → ((c : List ℕ) → left_since old (moment old) c → may_leave old c) → Quiet told may_leave moment left_since old old
  quiet_start old only_now = record { same = refl; within = λ c now. now; leaves = started moment left_since old (may_leave old) only_now }

  -- one quiet run after another
  pub quiet_then : (old mid new : D) → Quiet told may_leave moment left_since old mid → Quiet told may_leave moment left_since mid new → Quiet told may_leave moment left_since old new
  quiet_then old mid new first second = record {
    same = second.same ∙ first.same;
    within = λ c now. first.within c (second.within c now);
    leaves = joined moment left_since old mid new (may_leave old) first.leaves (widened moment left_since mid new (may_leave mid) (may_leave old) second.leaves first.within);
  }

  -- where the disk had what is told, a quiet run leaves it at any moment
  pub quiet_leaves : (old new : D) (b : List ℕ) (P : List ℕ → Type 0) → Quiet told may_leave moment left_since old new → told old ≡ Some b → IsOnDisk (told old) (may_leave old) → P b → LeavesOnly moment left_since old new P
  quiet_leaves old new b P quiet is durable here = widened moment left_since old new (may_leave old) P quiet.leaves (λ c left. subst P (was_told (told old) b c (may_leave old) is durable left) here)
