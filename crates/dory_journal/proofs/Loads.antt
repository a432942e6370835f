-- How a scan goes on by what is found at a gate.
use Rattle.std.proofs.Common.{◌≡◌, inl, inr, ℕ, zero, suc, ◌≤◌, true, false, cond, List, [], ◌∷◌, ◌++◌, length, drop, Option, Some, None, Err, refl, sym, ◌∙◌, ap, subst, arith, append_assoc, length-drop}
use Rattle.std.proofs.lemmas.Bool.{cases_eq}
use Rattle.std.proofs.lemmas.Bool.Decides.{nat_tests}
use Rattle.std.proofs.lemmas.List.{drop_all}
use Rattle.dory_base.specs.Dims.{Dims}
use Rattle.dory_base.specs.Log.{Log, empty_log}
use Rattle.dory_base.specs.declared.ids.Side.{Side}
use Rattle.dory_journal.specs.declared.fault.JournalFault.{JournalFault}
use Rattle.dory_journal.specs.declared.fault.JournalFault.TheVariants.{DiskFault, Damaged, Broken, NoMemory}
use Rattle.dory_journal.proofs.Scans.{enough, shorter}
use Rattle.dory_journal.proofs.Crashes.{scan_at, shut_gate}
use Rattle.dory_journal.specs.Bytes.{Scan, Look, Lost, Shut, Bad, Holds, op_at, look_at, look_on, stopped, with_op, with_ops, scan_on, scan, scan_of}
use Rattle.dory_journal.specs.Ops.{Op, may, log_after_op}
use Rattle.dory_journal.specs.Reading.{IsLoaded, IsDamagedAt, LooksAs, StepsAs, LoadsAs}
use Rattle.dory_journal.specs.Recording.{IsAt}

-- what a scan is, by the look at its first gate
abbrev pub by_look : ℕ → ℕ → Log → List ℕ → Look → Scan
by_look n folder log bytes Lost = stopped log bytes false
by_look n folder log bytes Shut = stopped log bytes true
by_look n folder log bytes Bad = stopped log bytes false
by_look n folder log bytes (Holds op more) = cond (may log op) (with_op op (scan n folder (log_after_op log op) more)) (stopped log bytes false)

on_looks : (n folder : ℕ) (log : Log) (rest : List ℕ) (o : Option (Op × List ℕ)) → op_at folder rest ≡ o → length rest ≤ n
    → scan_on (scan n folder) log (1 ∷ rest) o ≡ by_look (suc n) folder log (1 ∷ rest) (look_on o)
on_looks n folder log rest None is few = refl
on_looks n folder log rest (Some x) is few =
    let short = shorter folder rest x is in
    ap (λ s. cond (may log x.0) (with_op x.0 s) (stopped log (1 ∷ rest) false)) (enough n (suc n) folder (log_after_op log x.0) x.1 (omega (arith, short, few)) (omega (arith, short, few)))

pub looks : (n folder : ℕ) (log : Log) (bytes : List ℕ) → length bytes ≤ n → scan n folder log bytes ≡ by_look n folder log bytes (look_at folder bytes)
looks zero folder log [] few = refl
looks zero folder log (gate ∷ rest) few = absurd (omega arith)
looks (suc n) folder log [] few = refl
looks (suc n) folder log (gate ∷ rest) few = elim (cases_eq gate 1) [
  | inl is_open ↦ subst (λ g. scan (suc n) folder log (g ∷ rest) ≡ by_look (suc n) folder log (g ∷ rest) (look_at folder (g ∷ rest))) (sym is_open) (on_looks n folder log rest (op_at folder rest) refl (omega arith))
  | inr shut ↦
      let seen : look_at folder (gate ∷ rest) ≡ Shut = grind (arith, nat_tests) in
      shut_gate gate _ _ shut ∙ ap (by_look (suc n) folder log (gate ∷ rest)) (sym seen)
]

module _ (folder : ℕ) (role : Side) (shape : Dims) (log : Log) (gate : ℕ) (b : List ℕ) (is : IsLoaded folder role shape log gate b) where
  seen : (look : Look) → look_at folder (drop gate b) ≡ look → scan_of folder role shape b ≡ with_ops is.ops (by_look (length b) folder log (drop gate b) look)
  seen look e = is.goes_on ∙ ap (with_ops is.ops) (looks (length b) folder log (drop gate b) (omega (arith, length-drop gate b)) ∙ ap (by_look (length b) folder log (drop gate b)) e)

  some_left : (xs : List ℕ) → look_at folder xs ≡ Shut → 1 ≤ length xs
  some_left [] e = absurd cc
  some_left (x ∷ xs) e = omega arith

  pub ends : look_at folder (drop gate b) ≡ Shut → IsAt folder role shape log gate b
  ends e =
      let s = seen Shut e in
      record { log_is = ap (λ x. x.log) s; rest_is = ap (λ x. x.rest) s; whole = ap (λ x. x.whole) s; within = omega (arith, some_left (drop gate b) e, length-drop gate b) }

  at_gate : (s : Scan) → scan_of folder role shape b ≡ s → s.whole ≡ false → s.rest ≡ drop gate b → IsDamagedAt folder role shape b gate
  at_gate s e broken rest =
      record { damaged = ap (λ x. x.whole) e ∙ broken; place = omega (arith, ap length (ap (λ x. x.rest) e ∙ rest), length-drop gate b, is.within) }

  pub lost : look_at folder (drop gate b) ≡ Lost → IsDamagedAt folder role shape b gate
  lost e = at_gate _ (seen Lost e) refl refl

  pub bad : look_at folder (drop gate b) ≡ Bad → IsDamagedAt folder role shape b gate
  bad e = at_gate _ (seen Bad e) refl refl

  pub unlawful : (op : Op) (more : List ℕ) → look_at folder (drop gate b) ≡ Holds op more → may log op ≡ false → IsDamagedAt folder role shape b gate
  unlawful op more e not_may =
      let s = seen (Holds op more) e ∙ ap (λ c. with_ops is.ops (cond c (with_op op (scan (length b) folder (log_after_op log op) more)) (stopped log (drop gate b) false))) not_may in
      at_gate _ s refl refl

  pub goes : (op : Op) (next : ℕ) → look_at folder (drop gate b) ≡ Holds op (drop next b) → may log op ≡ true → next ≤ length b → IsLoaded folder role shape (log_after_op log op) next b
  goes op next e lawful within =
      let s = seen (Holds op (drop next b)) e ∙ ap (λ c. with_ops is.ops (cond c (with_op op (scan (length b) folder (log_after_op log op) (drop next b))) (stopped log (drop gate b) false))) lawful in
      let after = scan (length b) folder (log_after_op log op) (drop next b) in
      record {
        ops = is.ops ++ op ∷ [];
        goes_on = s ∙ (λ i. record { ops = sym (append_assoc is.ops (op ∷ []) after.ops) i; log = after.log; rest = after.rest; whole = after.whole });
        within = within;
      }

pub first_loaded : (folder : ℕ) (role : Side) (shape : Dims) (b : List ℕ) → IsLoaded folder role shape (empty_log role shape) 0 b
first_loaded folder role shape b = record { ops = []; goes_on = scan_at folder role shape b; within = omega arith }

-- a look that fails is a step that fails
pub fails_as : (folder : ℕ) (role : Side) (shape : Dims) (log log' : Log) (gate : ℕ) (b : List ℕ) (fault : JournalFault) → IsLoaded folder role shape log gate b → LooksAs folder gate b (Err fault) → StepsAs folder role shape log' gate b (Err fault)
fails_as folder role shape log log' gate b DiskFault is looked = tt
fails_as folder role shape log log' gate b (Damaged at) is looked =
    let here : IsDamagedAt folder role shape b gate = elim looked.1 [ inl e ↦ lost folder role shape log gate b is e | inr e ↦ bad folder role shape log gate b is e ] in
    subst (IsDamagedAt folder role shape b) (sym looked.0) here
fails_as folder role shape log log' gate b Broken is looked = looked
fails_as folder role shape log log' gate b NoMemory is looked = tt

-- nothing stands at the end
pub past_end : (folder : ℕ) (role : Side) (shape : Dims) (log : Log) (gate : ℕ) (b : List ℕ) → IsLoaded folder role shape log gate b → length b ≤ gate → IsDamagedAt folder role shape b gate
past_end folder role shape log gate b is le = lost folder role shape log gate b is (ap (look_at folder) (drop_all gate b le))

-- a step's fault is the whole loading's
pub loads_fault : (folder : ℕ) (role : Side) (shape : Dims) (log : Log) (gate : ℕ) (b : List ℕ) (fault : JournalFault) → StepsAs folder role shape log gate b (Err fault) → LoadsAs folder role shape log b (Err fault)
loads_fault folder role shape log gate b DiskFault is = tt
loads_fault folder role shape log gate b (Damaged at) is = is
loads_fault folder role shape log gate b Broken is = is
loads_fault folder role shape log gate b NoMemory is = tt
