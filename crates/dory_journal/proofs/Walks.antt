-- From a gate of a list to the next one.
use Rattle.std.proofs.Common.{◌≡◌, ◌⊎◌, inl, inr, ℕ, true, false, cond, List, [], ◌∷◌, ◌++◌, length, drop, Option, Some, None, Result, Ok, Err, refl, sym, ◌∙◌, ap, arith, append_assoc, length-drop}
use Rattle.std.specs.List.{fold}
use Rattle.std.proofs.lemmas.List.{append-nil}
use Rattle.std.proofs.lemmas.List.Sums.{fold-append}
use Rattle.dory_base.specs.Dims.{Dims}
use Rattle.dory_base.specs.Log.{Log, empty_log}
use Rattle.dory_base.specs.declared.ids.Side.{Side}
use Rattle.dory_wire.specs.declared.message.Request.{Request}
use Rattle.dory_journal.specs.declared.fault.JournalFault.{JournalFault}
use Rattle.dory_journal.specs.declared.fault.JournalFault.TheVariants.{DiskFault, Damaged, Broken, NoMemory}
use Rattle.dory_journal.specs.Ops.{Op, may, log_after_op}
use Rattle.dory_journal.specs.Bytes.{Scan, Look, Lost, Shut, Bad, Holds, look_at, stopped, with_op, with_ops, scan, scan_of, ops_of}
use Rattle.dory_journal.specs.Reading.{IsGate, LooksAs, WalksAs}
use Rattle.dory_journal.proofs.Crashes.{scan_at, bool_cases}
use Rattle.dory_journal.proofs.Loads.{by_look, looks}

-- the first gate
pub first_gate : (folder : ℕ) (role : Side) (shape : Dims) (b : List ℕ) → IsGate folder role shape [] 0 b
first_gate folder role shape b = record { goes_on = scan_at folder role shape b }

module _ (folder : ℕ) (role : Side) (shape : Dims) (ops : List Op) (gate : ℕ) (b : List ℕ) (whole : (scan_of folder role shape b).whole ≡ true) (is : IsGate folder role shape ops gate b) where
  abbrev reached : Log
  reached = fold log_after_op (empty_log role shape) ops

  seen : (look : Look) → look_at folder (drop gate b) ≡ look → scan_of folder role shape b ≡ with_ops ops (by_look (length b) folder reached (drop gate b) look)
  seen look e = is.goes_on ∙ ap (with_ops ops) (looks (length b) folder reached (drop gate b) (omega (arith, length-drop gate b)) ∙ ap (by_look (length b) folder reached (drop gate b)) e)

  unbroken : (s : Scan) → scan_of folder role shape b ≡ with_ops ops s → s.whole ≡ false → ⊥
  unbroken s e damaged = let both : true ≡ false = sym whole ∙ ap (λ (x : Scan). x.whole) e ∙ damaged in cc

  last : look_at folder (drop gate b) ≡ Shut → ops_of folder role shape b ≡ ops
  last e = ap (λ (x : Scan). x.ops) (seen Shut e) ∙ append-nil ops

  next : (op : Op) (place : ℕ) → look_at folder (drop gate b) ≡ Holds op (drop place b) → IsGate folder role shape (ops ++ op ∷ []) place b
  next op place e = elim (bool_cases (may reached op)) [
    | inl lawful ↦
        let after = scan (length b) folder (log_after_op reached op) (drop place b) in
        let s : scan_of folder role shape b ≡ with_ops ops (with_op op after) =
        seen (Holds op (drop place b)) e ∙ ap (λ c. with_ops ops (cond c (with_op op after) (stopped reached (drop gate b) false))) lawful in
        let joined : with_ops ops (with_op op after) ≡ with_ops (ops ++ op ∷ []) after = λ i. record { ops = sym (append_assoc ops (op ∷ []) after.ops) i; log = after.log; rest = after.rest; whole = after.whole } in
        let log_is : fold log_after_op (empty_log role shape) (ops ++ op ∷ []) ≡ log_after_op reached op = fold-append log_after_op (empty_log role shape) ops (op ∷ []) in
        record { goes_on = s ∙ joined ∙ ap (λ l. with_ops (ops ++ op ∷ []) (scan (length b) folder l (drop place b))) (sym log_is) }
    | inr unlawful ↦
        let after = scan (length b) folder (log_after_op reached op) (drop place b) in
        absurd (unbroken (stopped reached (drop gate b) false) (seen (Holds op (drop place b)) e ∙ ap (λ c. with_ops ops (cond c (with_op op after) (stopped reached (drop gate b) false))) unlawful) refl)
  ]

  lost : (look_at folder (drop gate b) ≡ Lost) ⊎ (look_at folder (drop gate b) ≡ Bad) → ⊥
  lost (inl e) = unbroken (stopped reached (drop gate b) false) (seen Lost e) refl
  lost (inr e) = unbroken (stopped reached (drop gate b) false) (seen Bad e) refl

  -- what a look at a gate of the list gives
  pub walked : (r : Result (Option (Request × ℕ)) JournalFault) → LooksAs folder gate b r → WalksAs folder role shape ops b r
  walked (Ok None) look = last look
  walked (Ok (Some r)) look = (look.0, look.1, next look.0 r.1 look.2)
  walked (Err DiskFault) look = tt
  walked (Err (Damaged at)) look = absurd (lost look.1)
  walked (Err Broken) look = absurd look
  walked (Err NoMemory) look = tt
