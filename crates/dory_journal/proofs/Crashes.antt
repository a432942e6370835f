-- What a crash leaves of a record is read as the operations before it, with it or without it.
use Rattle.std.proofs.Common.{◌≡◌, ◌≢◌, ◌⊎◌, inl, inr, ℕ, zero, suc, ◌+◌, ◌≤◌, Bool, true, false, cond, eqb, List, [], ◌∷◌, ◌++◌, length, take, drop, Option, Some, None, refl, sym, ◌∙◌, ap, subst, arith, append_assoc, length-append, length-drop, take-append-drop}
use Rattle.std.proofs.lemmas.Bool.{cases_eq}
use Rattle.std.proofs.lemmas.Bool.Decides.{nat_tests}
use Rattle.std.proofs.lemmas.List.{take_at, drop_at, drop-take, length-take, append-nil}
use Rattle.dory_base.specs.Dims.{Dims}
use Rattle.dory_base.specs.Log.{Log, empty_log}
use Rattle.dory_base.specs.declared.ids.Side.{Side}
use Rattle.dory_journal.proofs.Scans.{Before, nothing_before, one_before, enough}
use Rattle.dory_journal.specs.Bytes.{Scan, op_at, stopped, with_op, with_ops, scan_on, scan, scan_of, ops_of, Keeps}
use Rattle.dory_journal.specs.Ops.{Op, may, log_after_op}
use Rattle.dory_journal.specs.Recording.{IsAt, IsPiece, IsWithOrWithout}
use Rattle.dory_journal.specs.Writing.{opened, IsLeft}

pub shut_gate : (gate : ℕ) (s t : Scan) → gate ≢ 1 → cond (eqb gate 1) s t ≡ t
shut_gate gate s t shut = grind (arith, nat_tests)

pub bool_cases : (b : Bool) → (b ≡ true) ⊎ (b ≡ false)
bool_cases true = inl refl
bool_cases false = inr refl

-- what is so of every scan: what stands before its last gate, and that a whole one ends at a shut gate
record Found (folder : ℕ) (log : Log) (bytes : List ℕ) (s : Scan) : Type 0 where
  before : Before folder log bytes s
  shut : s.whole ≡ true → (gate : ℕ) × (junk : List ℕ) × (s.rest ≡ gate ∷ junk) × (gate ≢ 1)

damaged : (folder : ℕ) (log : Log) (bytes : List ℕ) → Found folder log bytes (stopped log bytes false)
damaged folder log bytes = record { before = nothing_before folder log bytes false; shut = λ w. absurd cc }

found_on : (folder : ℕ) (log : Log) (rest : List ℕ) (next : Log → List ℕ → Scan) (o : Option (Op × List ℕ)) → op_at folder rest ≡ o → ((l : Log) (x : Op × List ℕ) → o ≡ Some x → Found folder l x.1 (next l x.1))
    → Found folder log (1 ∷ rest) (scan_on next log (1 ∷ rest) o)
found_on folder log rest next None is h = damaged folder log (1 ∷ rest)
found_on folder log rest next (Some x) is h = elim (bool_cases (may log x.0)) [
  | inl lawful ↦
      let f = h (log_after_op log x.0) x refl in
      let b = one_before folder log rest x (next (log_after_op log x.0) x.1) is lawful f.before in
      subst (Found folder log (1 ∷ rest)) (sym (ap (λ c. cond c (with_op x.0 (next (log_after_op log x.0) x.1)) (stopped log (1 ∷ rest) false)) lawful)) (record { before = b; shut = f.shut })
  | inr not_lawful ↦
      subst (Found folder log (1 ∷ rest)) (sym (ap (λ c. cond c (with_op x.0 (next (log_after_op log x.0) x.1)) (stopped log (1 ∷ rest) false)) not_lawful)) (damaged folder log (1 ∷ rest))
]

found : (n folder : ℕ) (log : Log) (bytes : List ℕ) → Found folder log bytes (scan n folder log bytes)
found zero folder log bytes = damaged folder log bytes
found (suc n) folder log [] = damaged folder log []
found (suc n) folder log (gate ∷ rest) = elim (cases_eq gate 1) [
  | inl is_open ↦
      subst (λ g. Found folder log (g ∷ rest) (scan (suc n) folder log (g ∷ rest))) (sym is_open)
      (found_on folder log rest (scan n folder) (op_at folder rest) refl (λ l x e. found n folder l x.1))
  | inr shut ↦
      let is_stopped : scan (suc n) folder log (gate ∷ rest) ≡ stopped log (gate ∷ rest) true = shut_gate gate _ _ shut in
      subst (Found folder log (gate ∷ rest)) (sym is_stopped) (record { before = nothing_before folder log (gate ∷ rest) true; shut = λ w. (gate, rest, refl, shut) })
]

pub scan_at : (folder : ℕ) (role : Side) (shape : Dims) (bytes : List ℕ) → scan_of folder role shape bytes ≡ scan (length bytes) folder (empty_log role shape) bytes
unfolding scan_of
scan_at folder role shape bytes = refl

take_one : (xs : List ℕ) (x : ℕ) → take 1 xs ≡ x ∷ [] → (ys : List ℕ) × (xs ≡ x ∷ ys)
take_one [] x e = absurd cc
take_one (y ∷ ys) x e = (ys, ap (λ (l : List ℕ). l ++ ys) e)

shorten : (n m : ℕ) (xs : List ℕ) → n ≤ m → take n (take m xs) ≡ take n xs
shorten zero m xs few = refl
shorten (suc n) zero xs few = absurd (omega arith)
shorten (suc n) (suc m) [] few = refl
shorten (suc n) (suc m) (x ∷ xs) few = ap (λ (l : List ℕ). x ∷ l) (shorten n m xs (omega arith))

take_less : (n : ℕ) (xs ys : List ℕ) → take (n + 1) xs ≡ take (n + 1) ys → take n xs ≡ take n ys
take_less n xs ys e = sym (shorten n (n + 1) xs (omega arith)) ∙ ap (take n) e ∙ shorten n (n + 1) ys (omega arith)

module _ (folder : ℕ) (role : Side) (shape : Dims) (log : Log) (gate : ℕ) (b : List ℕ) (is : IsAt folder role shape log gate b) where
  abbrev s : Scan
  s = scan_of folder role shape b

  f : Found folder (empty_log role shape) b s
  f = subst (Found folder (empty_log role shape) b) (sym (scan_at folder role shape b)) (found (length b) folder (empty_log role shape) b)

  front_is : f.before.front ≡ take gate b
  front_is =
      let size : length f.before.front ≡ gate = omega (arith, ap length f.before.split, length-append f.before.front s.rest, ap length is.rest_is, length-drop gate b, is.within) in
      sym (take_at f.before.front s.rest gate size) ∙ ap (take gate) (sym f.before.split)

  -- what comes in place of the gate and all behind it is read by the log
  read_on : (t : List ℕ) → scan_of folder role shape (take gate b ++ t) ≡ with_ops (ops_of folder role shape b) (scan (length t) folder log t)
  read_on t =
      scan_at folder role shape (take gate b ++ t)
      ∙ ap (λ (front : List ℕ). scan (length (front ++ t)) folder (empty_log role shape) (front ++ t)) (sym front_is)
      ∙ f.before.again t (length (f.before.front ++ t)) (length t) (omega arith) (omega arith)
      ∙ ap (λ l. with_ops s.ops (scan (length t) folder l t)) is.log_is

  -- the gate of these bytes is shut
  gate_is : (g : ℕ) × (junk : List ℕ) × (drop gate b ≡ g ∷ junk) × (g ≢ 1)
  gate_is =
      let shut = f.shut is.whole in
      (shut.0, shut.1, sym is.rest_is ∙ shut.2, shut.3)

  keeps_shut : (g : ℕ) (junk c : List ℕ) → g ≢ 1 → c ≡ take gate b ++ (g ∷ junk) → Keeps folder role shape (ops_of folder role shape b) c
  keeps_shut g junk c shut parts =
      let scanned : scan_of folder role shape c ≡ with_ops (ops_of folder role shape b) (stopped log (g ∷ junk) true) =
      ap (scan_of folder role shape) parts ∙ read_on (g ∷ junk) ∙ ap (with_ops (ops_of folder role shape b)) (shut_gate g _ _ shut) in
      record { whole = ap (λ x. x.whole) scanned; are = ap (λ x. x.ops) scanned ∙ append-nil (ops_of folder role shape b) }

  -- the gate and what stands before it stay: so do the operations
  pub stays : (c : List ℕ) → take (gate + 1) c ≡ take (gate + 1) b → Keeps folder role shape (ops_of folder role shape b) c
  stays c same =
      let g = gate_is in
      let front : take gate c ≡ take gate b = take_less gate c b same in
      let one : take 1 (drop gate c) ≡ g.0 ∷ [] = sym (drop-take gate 1 c) ∙ ap (drop gate) same ∙ drop-take gate 1 b ∙ ap (take 1) g.2 in
      let rest = take_one (drop gate c) g.0 one in
      keeps_shut g.0 rest.0 c g.3 (sym (take-append-drop gate c) ∙ (λ i. front i ++ rest.1 i))

  -- an open gate and a piece behind it
  pub scan_joined : (op : Op) (piece more c : List ℕ) → IsPiece folder op piece → may log op ≡ true → c ≡ take gate b ++ (1 ∷ (piece ++ more))
      → scan_of folder role shape c ≡ with_ops (ops_of folder role shape b) (with_op op (stopped (log_after_op log op) (0 ∷ more) true))
  scan_joined op piece more c p lawful parts =
      let behind : piece ++ more ≡ p.frame ++ (0 ∷ more) = ap (λ (l : List ℕ). l ++ more) p.is ∙ append_assoc p.frame (0 ∷ []) more in
      let n = length (piece ++ more) in
      let op_is : op_at folder (piece ++ more) ≡ Some (op, 0 ∷ more) = ap (op_at folder) behind ∙ p.reads (0 ∷ more) in
      let long : length (0 ∷ more) ≤ n = omega (arith, ap length behind, length-append p.frame (0 ∷ more)) in
      let inner : scan n folder (log_after_op log op) (0 ∷ more) ≡ stopped (log_after_op log op) (0 ∷ more) true = enough n (length (0 ∷ more)) folder (log_after_op log op) (0 ∷ more) long (omega arith) in
      let one : scan (length (1 ∷ (piece ++ more))) folder log (1 ∷ (piece ++ more)) ≡ with_op op (stopped (log_after_op log op) (0 ∷ more) true) =
      ap (scan_on (scan n folder) log (1 ∷ (piece ++ more))) op_is
      ∙ ap (λ d. cond d (with_op op (scan n folder (log_after_op log op) (0 ∷ more))) (stopped log (1 ∷ (piece ++ more)) false)) lawful
      ∙ ap (with_op op) inner in
      ap (scan_of folder role shape) parts ∙ read_on (1 ∷ (piece ++ more)) ∙ ap (with_ops (ops_of folder role shape b)) one

  -- whatever a crash leaves while a record is put there
  pub left_is : (op : Op) (piece c : List ℕ) → IsPiece folder op piece → may log op ≡ true → IsLeft gate piece b c → IsWithOrWithout folder role shape (ops_of folder role shape b) (Some op) c
  left_is op piece c p lawful (inl same) = inl (stays c same)
  left_is op piece c p lawful (inr (g, more, parts)) = elim (cases_eq g 1) [
    | inl is_open ↦
        let scanned = scan_joined op piece more c p lawful (parts ∙ ap (λ (h : ℕ). take gate b ++ (h ∷ (piece ++ more))) is_open) in
        inr (record { whole = ap (λ x. x.whole) scanned; are = ap (λ x. x.ops) scanned })
    | inr shut ↦ inl (keeps_shut g (piece ++ more) c shut parts)
  ]

  -- the record, once it is there
  pub opened_at : (op : Op) (piece : List ℕ) → IsPiece folder op piece → may log op ≡ true → IsAt folder role shape (log_after_op log op) (gate + length piece) (opened gate piece b)
  opened_at op piece p lawful =
      let more = drop (gate + 1 + length piece) b in
      let scanned = scan_joined op piece more (opened gate piece b) p lawful refl in
      let head = take gate b ++ (1 ∷ p.frame) in
      let size : length head ≡ gate + length piece = omega (arith, length-append (take gate b) (1 ∷ p.frame), length-take gate b, is.within, ap length p.is, length-append p.frame (0 ∷ [])) in
      let parts : opened gate piece b ≡ head ++ (0 ∷ more) =
      ap (λ (l : List ℕ). take gate b ++ (1 ∷ l)) (ap (λ (l : List ℕ). l ++ more) p.is ∙ append_assoc p.frame (0 ∷ []) more) ∙ sym (append_assoc (take gate b) (1 ∷ p.frame) (0 ∷ more)) in
      let behind : drop (gate + length piece) (opened gate piece b) ≡ 0 ∷ more = ap (drop (gate + length piece)) parts ∙ drop_at head (0 ∷ more) (gate + length piece) size in
      record {
        log_is = ap (λ x. x.log) scanned;
        rest_is = ap (λ x. x.rest) scanned ∙ sym behind;
        whole = ap (λ x. x.whole) scanned;
        within = omega (arith, ap length parts, length-append head (0 ∷ more), size);
      }

  pub opened_ops : (op : Op) (piece : List ℕ) → IsPiece folder op piece → may log op ≡ true → ops_of folder role shape (opened gate piece b) ≡ ops_of folder role shape b ++ op ∷ []
  opened_ops op piece p lawful = ap (λ x. x.ops) (scan_joined op piece (drop (gate + 1 + length piece) b) (opened gate piece b) p lawful refl)
