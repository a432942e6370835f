-- What a command keeps is in range.
use Rattle.std.proofs.Common.{ℕ, ◌+◌, ◌*◌, ◌/◌, ◌^◌, ◌<◌, ◌≤◌, arith}
use Rattle.std.specs.Prelude.{Bool, true, false, if◌then◌else◌, nat_lt, Option, Some, None, IfSome}
use Rattle.dory_base.specs.Dims.{Dims}
use Rattle.dory_state.specs.Spelling.{IsKeptState, IsPending}
use Rattle.dory_state.specs.declared.kept.Pending.{Pending}
use Rattle.dory_state.specs.declared.kept.KeptState.{KeptState}
use Rattle.dory_member.specs.declared.outcome.Outcome.{Outcome}
use Rattle.dory_member.specs.declared.outcome.Outcome.TheVariants.{Posted, Removed, Accepted, NothingPending, Lengths, Rotated, Failed}
use Rattle.dory_member.specs.declared.phase.Phase.{Phase}
use Rattle.dory_member.specs.declared.phase.Phase.TheVariants.{Updating, Measuring, Searching, Ended}
use Rattle.dory_member.specs.Course.{finished, kept_at, settled}
use Rattle.dory_member.specs.Draw.{epoch_in, drawn, turned, with_pending}
use Rattle.dory_member.specs.Within.{IsSeen, Within}

-- a pending update stays one where the next serial is later
pub pending_later : (s : Dims) (n m : ℕ) (p : Pending) → n ≤ m → IsPending s n p → IsPending s m p
pending_later s n m p le h = record { serial = h.serial; past = omega (arith, h.past); doc = h.doc; row = h.row }

pub some_later : (s : Dims) (n m : ℕ) (o : Option Pending) → n ≤ m → IfSome o (IsPending s n) → IfSome o (IsPending s m)
some_later s n m None le h = tt
some_later s n m (Some p) le h = pending_later s n m p le h

-- the first serial of the next epoch
turn_past : (n : ℕ) → n ≤ (n / 2 ^ 56 + 1) * 2 ^ 56
turn_past n = omega arith

turn_low : (n : ℕ) → n / 2 ^ 56 < 255 → (n / 2 ^ 56 + 1) * 2 ^ 56 < 2 ^ 64
turn_low n low = omega arith

turn_some : (n : ℕ) → 1 ≤ (n / 2 ^ 56 + 1) * 2 ^ 56
turn_some n = omega arith

pub turned_is : (k : KeptState) → IsKeptState k → epoch_in k.next_serial < 255 → IsKeptState (turned k)
turned_is k h low = record {
  folder = h.folder;
  member = h.member;
  shape = h.shape;
  master = h.master;
  next = turn_some k.next_serial;
  serials = turn_low k.next_serial low;
  seen = h.seen;
  used = omega arith;
  pending = some_later k.shape k.next_serial (turned k).next_serial k.pending (turn_past k.next_serial) h.pending;
}

few : (b : Bool) (used : ℕ) → used ≤ 65536 → (if b then used else 0) ≤ 65536
few true used le = le
few false used le = omega arith

pub drawn_is : (k : KeptState) (used : ℕ) → IsKeptState k → k.next_serial < 18446744073709551615 → used ≤ 65536 → IsKeptState (drawn k used)
drawn_is k used h left le = record {
  folder = h.folder;
  member = h.member;
  shape = h.shape;
  master = h.master;
  next = omega arith;
  serials = omega (arith, left);
  seen = h.seen;
  used = few _ used le;
  pending = some_later k.shape k.next_serial (k.next_serial + 1) k.pending (omega arith) h.pending;
}

pub with_pending_is : (k : KeptState) (p : Pending) → IsKeptState k → IsPending k.shape k.next_serial p → IsKeptState (with_pending k p)
with_pending_is k p h is = record {
  folder = h.folder;
  member = h.member;
  shape = h.shape;
  master = h.master;
  next = h.next;
  serials = h.serials;
  seen = h.seen;
  used = h.used;
  pending = is;
}

seen_is : (k : KeptState) (n : ℕ) → IsKeptState k → n ≤ 1048576 → IsKeptState (record k { seen = n })
seen_is k n h le = record {
  folder = h.folder;
  member = h.member;
  shape = h.shape;
  master = h.master;
  next = h.next;
  serials = h.serials;
  seen = le;
  used = h.used;
  pending = h.pending;
}

larger : (b : Bool) (m n : ℕ) → m ≤ 1048576 → n ≤ 1048576 → (if b then n else m) ≤ 1048576
larger true m n p q = q
larger false m n p q = p

settled_is : (k : KeptState) (n : ℕ) → IsKeptState k → n ≤ 1048576 → IsKeptState (settled k n)
settled_is k n h le = record {
  folder = h.folder;
  member = h.member;
  shape = h.shape;
  master = h.master;
  next = h.next;
  serials = h.serials;
  seen = larger (nat_lt k.seen n) k.seen n h.seen le;
  used = h.used;
  pending = tt;
}

finished_is : (k : KeptState) (o : Outcome) → IsKeptState k → IsSeen o → IsKeptState (finished k o)
finished_is k (Posted doc n) h s = settled_is k n h s
finished_is k (Removed doc n) h s = settled_is k n h s
finished_is k (Accepted answer) h s = seen_is k answer.version h s
finished_is k NothingPending h s = h
finished_is k (Lengths lead follow seen) h s = h
finished_is k (Rotated epoch) h s = h
finished_is k (Failed f) h s = h

-- what a phase keeps is a state
pub kept_at_is : (k : KeptState) (p : Phase) (step : ℕ) → IsKeptState k → Within p step → IsKeptState (kept_at k p)
kept_at_is k (Updating e at) step h w = h
kept_at_is k (Measuring word lead) step h w = h
kept_at_is k (Searching q lead) step h w = h
kept_at_is k (Ended o) step h w = finished_is k o h w
