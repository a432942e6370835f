-- What is read behind operations doesn't depend on them but by the log.
use Rattle.std.proofs.Common.{◌≡◌, ℕ, zero, suc, ◌+◌, ◌≤◌, Bool, true, false, cond, eqb, List, [], ◌∷◌, ◌++◌, length, take, drop, Option, Some, None, Result, Ok, Err, refl, sym, ◌∙◌, ap, subst, arith, append_assoc, length-append, take-append-drop}
use Rattle.std.proofs.lemmas.List.{take_at, drop_at, length-take}
use Rattle.std.specs.Int.{w32, from_be_bytes}
use Rattle.dory_base.specs.Log.{Log}
use Rattle.dory_wire.specs.Frame.{length_in}
use Rattle.dory_wire.specs.Cut.{front_of}
use Rattle.dory_wire.specs.Reading.{request_of}
use Rattle.dory_wire.proofs.Cuts.{stands, front_whole}
use Rattle.dory_journal.proofs.Pieces.{some_is}
use Rattle.dory_journal.specs.Bytes.{Scan, op_at, op_of_front, op_of_request, with_rest, stopped, with_op, with_ops, scan_on, scan}
use Rattle.dory_journal.specs.Ops.{Op, may, log_after_op}

-- ---- a record's bytes and what follows them

-- bytes that begin a list, whatever comes after them
pub record Head (folder : ℕ) (bytes : List ℕ) (op : Op) (rest : List ℕ) : Type 0 where
  pub head : List ℕ
  pub some : 1 ≤ length head
  pub split : bytes ≡ head ++ rest
  pub again : (t : List ℕ) → op_at folder (head ++ t) ≡ Some (op, t)

-- a message at the front, and its size before it
record Fronted (bytes message more : List ℕ) : Type 0 where
  split : bytes ≡ (take 4 bytes ++ message) ++ more
  again : (t : List ℕ) → front_of ((take 4 bytes ++ message) ++ t) ≡ Ok (Some (message, t))

fronted : (bytes message more : List ℕ) → front_of bytes ≡ Ok (Some (message, more)) → Fronted bytes message more
fronted bytes message more e =
    let s = stands bytes message more e in
    let n = length_in bytes in
    let size = take 4 bytes in
    let four : length size ≡ 4 = omega (arith, length-take 4 bytes, s.four) in
    let len : length message ≡ n = ap length s.message_is ∙ omega (arith, length-take n (drop 4 bytes), s.whole) in
    let rest : message ++ more ≡ drop 4 bytes = (λ i. s.message_is i ++ s.more_is i) ∙ take-append-drop n (drop 4 bytes) in
    record {
      split = sym (take-append-drop 4 bytes) ∙ ap (λ (l : List ℕ). size ++ l) (sym rest) ∙ sym (append_assoc size message more);
      again = λ t.
          let bytes' = (size ++ message) ++ t in
          let parts : bytes' ≡ size ++ (message ++ t) = append_assoc size message t in
          let front : take 4 bytes' ≡ size = ap (take 4) parts ∙ take_at size (message ++ t) 4 four in
          let after : drop 4 bytes' ≡ message ++ t = ap (drop 4) parts ∙ drop_at size (message ++ t) 4 four in
          let number : length_in bytes' ≡ n = ap (from_be_bytes w32) front in
          let long : length bytes' ≡ 4 + (length message + length t) = ap length parts ∙ omega (arith, length-append size (message ++ t), length-append message t, four) in
          let found = front_whole bytes' (omega (arith, long)) (subst (λ k. 1 ≤ k) (sym number) s.some) (subst (λ k. k ≤ 1048576) (sym number) s.few)
          (omega (arith, number, len, ap length after, length-append message t)) in
          let taken : take (length_in bytes') (drop 4 bytes') ≡ message = (λ i. take (number i) (after i)) ∙ take_at message t n len in
          let left : drop (length_in bytes') (drop 4 bytes') ≡ t = (λ i. drop (number i) (after i)) ∙ drop_at message t n len in
          found ∙ (λ i. Ok (Some (taken i, left i)));
    }

with_rest_some : (rest : List ℕ) (o : Option Op) (op : Op) (more : List ℕ) → with_rest rest o ≡ Some (op, more) → (o ≡ Some op) × (rest ≡ more)
with_rest_some rest None op more e = absurd cc
with_rest_some rest (Some x) op more e =
    let p : (x, rest) ≡ (op, more) = some_is (x, rest) (op, more) e in
    (ap (λ q. Some q.0) p, ap (λ q. q.1) p)

record Opened (folder : ℕ) (bytes : List ℕ) (op : Op) (rest : List ℕ) : Type 0 where
  message : List ℕ
  front : front_of bytes ≡ Ok (Some (message, rest))
  op_is : op_of_request folder (request_of message) ≡ Some op

opened_as : (folder : ℕ) (bytes : List ℕ) (r : Result (Option (List ℕ × List ℕ)) ℕ) (op : Op) (rest : List ℕ) → front_of bytes ≡ r → op_of_front folder r ≡ Some (op, rest) → Opened folder bytes op rest
opened_as folder bytes (Err n) op rest is e = absurd cc
opened_as folder bytes (Ok None) op rest is e = absurd cc
opened_as folder bytes (Ok (Some front)) op rest is e =
    let parts = with_rest_some front.1 (op_of_request folder (request_of front.0)) op rest e in
    record { message = front.0; front = is ∙ ap (λ (l : List ℕ). Ok (Some (front.0, l))) parts.1; op_is = parts.0 }

-- a record is read again whatever follows it
pub head_of : (folder : ℕ) (bytes : List ℕ) (op : Op) (rest : List ℕ) → op_at folder bytes ≡ Some (op, rest) → Head folder bytes op rest
head_of folder bytes op rest e =
    let o = opened_as folder bytes (front_of bytes) op rest refl e in
    let f = fronted bytes o.message rest o.front in
    let s = stands bytes o.message rest o.front in
    record {
      head = take 4 bytes ++ o.message;
      some = omega (arith, length-append (take 4 bytes) o.message, length-take 4 bytes, s.four);
      split = f.split;
      again = λ t. ap (op_of_front folder) (f.again t) ∙ ap (with_rest t) o.op_is;
    }

-- ---- enough turns are as good as more

on_same : (f g : Log → List ℕ → Scan) (log : Log) (bytes : List ℕ) (o : Option (Op × List ℕ)) → ((x : Op × List ℕ) → o ≡ Some x → (l : Log) → f l x.1 ≡ g l x.1) → scan_on f log bytes o ≡ scan_on g log bytes o
on_same f g log bytes None h = refl
on_same f g log bytes (Some x) h = ap (λ s. cond (may log x.0) (with_op x.0 s) (stopped log bytes false)) (h x refl (log_after_op log x.0))

pub shorter : (folder : ℕ) (bytes : List ℕ) (x : Op × List ℕ) → op_at folder bytes ≡ Some x → length x.1 ≤ length bytes
shorter folder bytes x e =
    let h = head_of folder bytes x.0 x.1 e in
    omega (arith, ap length h.split, length-append h.head x.1)

pub enough : (m k folder : ℕ) (log : Log) (bytes : List ℕ) → length bytes ≤ m → length bytes ≤ k → scan m folder log bytes ≡ scan k folder log bytes
enough zero zero folder log bytes lm lk = refl
enough zero (suc k) folder log [] lm lk = refl
enough zero (suc k) folder log (gate ∷ rest) lm lk = absurd (omega arith)
enough (suc m) zero folder log [] lm lk = refl
enough (suc m) zero folder log (gate ∷ rest) lm lk = absurd (omega arith)
enough (suc m) (suc k) folder log [] lm lk = refl
enough (suc m) (suc k) folder log (gate ∷ rest) lm lk =
    ap (λ s. cond (eqb gate 1) s (stopped log (gate ∷ rest) true))
    (on_same (scan m folder) (scan k folder) log (gate ∷ rest) (op_at folder rest) (λ x e l. enough m k folder l x.1 (omega (arith, shorter folder rest x e)) (omega (arith, shorter folder rest x e))))

-- ---- what stands before the last gate is read again, whatever stands from there on

pub record Before (folder : ℕ) (log : Log) (bytes : List ℕ) (s : Scan) : Type 0 where
  pub front : List ℕ
  pub split : bytes ≡ front ++ s.rest
  pub again : (t : List ℕ) (m k : ℕ) → length (front ++ t) ≤ m → length t ≤ k → scan m folder log (front ++ t) ≡ with_ops s.ops (scan k folder s.log t)

pub nothing_before : (folder : ℕ) (log : Log) (bytes : List ℕ) (whole : Bool) → Before folder log bytes (stopped log bytes whole)
nothing_before folder log bytes whole = record { front = []; split = refl; again = λ t m k lm lk. enough m k folder log t lm lk }

pub one_before : (folder : ℕ) (log : Log) (rest : List ℕ) (x : Op × List ℕ) (s : Scan) → op_at folder rest ≡ Some x → may log x.0 ≡ true → Before folder (log_after_op log x.0) x.1 s → Before folder log (1 ∷ rest) (with_op x.0 s)
one_before folder log rest x s e lawful b =
    let h = head_of folder rest x.0 x.1 e in
    record {
      front = 1 ∷ (h.head ++ b.front);
      split = ap (λ (l : List ℕ). 1 ∷ l) (h.split ∙ ap (λ (l : List ℕ). h.head ++ l) b.split ∙ sym (append_assoc h.head b.front s.rest));
      again = λ t m k lm lk. more t m k lm lk;
    }
  where
    h : Head folder rest x.0 x.1
    h = head_of folder rest x.0 x.1 e

    more : (t : List ℕ) (m k : ℕ) → length ((1 ∷ (h.head ++ b.front)) ++ t) ≤ m → length t ≤ k → scan m folder log ((1 ∷ (h.head ++ b.front)) ++ t) ≡ with_ops (x.0 ∷ s.ops) (scan k folder s.log t)
    more t zero k lm lk = absurd (omega arith)
    more t (suc m) k lm lk =
        let parts : (h.head ++ b.front) ++ t ≡ h.head ++ (b.front ++ t) = append_assoc h.head b.front t in
        let op_is : op_at folder ((h.head ++ b.front) ++ t) ≡ Some (x.0, b.front ++ t) = ap (op_at folder) parts ∙ h.again (b.front ++ t) in
        let inner = b.again t m k (omega (arith, lm, ap length parts, length-append h.head (b.front ++ t))) lk in
        ap (scan_on (scan m folder) log (1 ∷ ((h.head ++ b.front) ++ t))) op_is
        ∙ ap (λ c. cond c (with_op x.0 (scan m folder (log_after_op log x.0) (b.front ++ t))) (stopped log (1 ∷ ((h.head ++ b.front) ++ t)) false)) lawful
        ∙ ap (with_op x.0) inner
