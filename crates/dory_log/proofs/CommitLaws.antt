-- What a commit that a look allows does to a log.
use Rattle.std.proofs.Common.{◌≡◌, ℕ, ◌≤◌, inl, inr, [], ◌∷◌, ◌++◌, ap, arith}
use Rattle.std.specs.Prelude.{Option, None, slice_set}
use Rattle.dory_base.specs.declared.ids.UpdateId.{UpdateId}
use Rattle.dory_base.specs.declared.entry.Entry.{Entry}
use Rattle.dory_base.specs.Log.{Log}
use Rattle.dory_base.specs.declared.event.Event.TheVariants.{Appended}
use Rattle.dory_base.specs.Step.{log_appended, log_after, IsLog}
use Rattle.dory_base.proofs.LogLaws.{IsFresh, order_seen, follow_seen, above_of, place_within, committed_is_log}
use Rattle.dory_log.specs.Numbered.{MayJoin}
use Rattle.dory_log.specs.Spared.{MayCommit}

commit_seen : (log : Log) (number : ℕ) (id : UpdateId) → MayCommit log number id → IsFresh log number id × (number ≤ 1048576)
commit_seen log number id (inl h) = order_seen log id number h
commit_seen log number id (inr h) = ((follow_seen log number number id h.0).0, h.1)

-- the id may come next
pub may_join : (log : Log) (spare number : ℕ) (id : UpdateId) → IsLog log → MayCommit log number id → 1 ≤ spare → MayJoin (record { ids = log.ids; spare = spare }) number id
may_join log spare number id good may one =
    let p = commit_seen log number id may in
    let a = above_of log id p.0.entry good p.0.staged in
    record {
      member = omega (arith, place_within log.staged id.member.0 p.0.entry a.0, good.places);
      above = a.2.above;
      next = p.0.next;
      few = p.1;
      spare = one;
    }

-- the log after it
abbrev pub committed : Log → UpdateId → Log
committed log id = record { role = log.role; shape = log.shape; ids = log.ids ++ id ∷ []; staged = slice_set log.staged id.member.0 None }

pub committed_log : (log : Log) (number : ℕ) (id : UpdateId) → IsLog log → MayCommit log number id → IsLog (committed log id) × (log_after log (Appended id) ≡ committed log id)
committed_log log number id good may =
    let p = commit_seen log number id may in
    (committed_is_log log id p.0.entry good p.0.staged (omega (arith, p.0.next, p.1)), ap (λ (o : Option Entry). log_appended log id o) p.0.staged)
