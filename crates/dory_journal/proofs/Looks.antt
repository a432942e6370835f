-- What the bytes behind an open gate say, by what is read of them.
use Rattle.std.proofs.Common.{◌≡◌, ℕ, zero, suc, ◌+◌, ◌<◌, ◌≤◌, true, false, leb, ◌&&◌, List, [], ◌∷◌, length, get_or, slice_index, take, drop, Option, Some, None, Ok, Err, refl, sym, ◌∙◌, ap, subst, arith, length-drop}
use Rattle.std.specs.Int.{w32, from_be_bytes}
use Rattle.std.proofs.Math.Seq.{drop-nil}
use Rattle.std.proofs.lemmas.List.{drop_more}
use Rattle.std.proofs.lemmas.Bool.{lt-ltb, le-ltb, le-leb, lt-leb}
use Rattle.dory_wire.specs.Frame.{length_in, is_length}
use Rattle.dory_wire.specs.Cut.{front_of}
use Rattle.dory_wire.specs.Reading.{request_of}
use Rattle.dory_wire.proofs.Cuts.{front_whole, none_in_front}
use Rattle.dory_journal.specs.Bytes.{op_at, op_of_front, op_of_request, with_rest}
use Rattle.dory_journal.specs.Ops.{Op, has_op}

wrong_length : (bytes : List ℕ) → 4 ≤ length bytes → is_length (length_in bytes) ≡ false → front_of bytes ≡ Err (length_in bytes)
unfolding front_of
wrong_length bytes four wrong = rw (le-ltb (length bytes) 4 four, wrong) refl

too_short : (bytes : List ℕ) → 4 ≤ length bytes → is_length (length_in bytes) ≡ true → length (drop 4 bytes) < length_in bytes → front_of bytes ≡ Ok None
unfolding front_of
too_short bytes four right short = rw (le-ltb (length bytes) 4 four, right, lt-ltb (length (drop 4 bytes)) (length_in bytes) short) refl

pub drop_drop : (m n k : ℕ) (xs : List ℕ) → k ≡ m + n → drop n (drop m xs) ≡ drop k xs
drop_drop zero n k xs e = let same : n ≡ k = omega (arith, e) in ap (λ (i : ℕ). drop i xs) same
drop_drop (suc m) n k [] e = drop-nil n ∙ sym (drop-nil k)
drop_drop (suc m) n zero (x ∷ xs) e = absurd (omega arith)
drop_drop (suc m) n (suc k) (x ∷ xs) e = drop_drop m n k xs (omega (arith, e))

module _ (folder gate : ℕ) (b : List ℕ) where
  abbrev rest : List ℕ
  rest = drop (gate + 1) b

  pub few_bytes : length b < gate + 5 → op_at folder rest ≡ None
  few_bytes few = ap (op_of_front folder) (none_in_front rest (omega (arith, few, length-drop (gate + 1) b)))

  module _ (n : ℕ) (size : List ℕ) (four : gate + 5 ≤ length b) (size_is : size ≡ take 4 rest) (n_is : n ≡ from_be_bytes w32 size) where
    number : length_in rest ≡ n
    number = ap (from_be_bytes w32) (sym size_is) ∙ sym n_is

    long : 4 ≤ length rest
    long = omega (arith, four, length-drop (gate + 1) b)

    pub zero_length : n < 1 → op_at folder rest ≡ None
    zero_length few =
        let wrong : is_length (length_in rest) ≡ false = ap is_length number ∙ ap (λ c. c && leb n 1048576) (lt-leb 1 n few) in
        ap (op_of_front folder) (wrong_length rest long wrong)

    pub large_length : 1 ≤ n → 1048576 < n → op_at folder rest ≡ None
    large_length some large =
        let wrong : is_length (length_in rest) ≡ false = ap is_length number ∙ (λ i. le-leb 1 n some i && lt-leb n 1048576 large i) in
        ap (op_of_front folder) (wrong_length rest long wrong)

    pub cut_short : 1 ≤ n → n ≤ 1048576 → length b < gate + 5 + n → op_at folder rest ≡ None
    cut_short some few short =
        let right : is_length (length_in rest) ≡ true = ap is_length number ∙ (λ i. le-leb 1 n some i && le-leb n 1048576 few i) in
        ap (op_of_front folder) (too_short rest long right (omega (arith, short, number, length-drop 4 rest, length-drop (gate + 1) b)))

    pub whole : 1 ≤ n → n ≤ 1048576 → gate + 5 + n ≤ length b → (message : List ℕ) → message ≡ take n (drop (gate + 5) b)
        → op_at folder rest ≡ with_rest (drop (gate + 5 + n) b) (op_of_request folder (request_of message))
    whole some few fits message is =
        let front = front_whole rest long (subst (λ k. 1 ≤ k) (sym number) some) (subst (λ k. k ≤ 1048576) (sym number) few)
        (omega (arith, fits, number, length-drop 4 rest, length-drop (gate + 1) b)) in
        let behind : drop 4 rest ≡ drop (gate + 5) b = drop_drop (gate + 1) 4 (gate + 5) b (omega arith) in
        let message_is : take (length_in rest) (drop 4 rest) ≡ message = (λ i. take (number i) (behind i)) ∙ sym is in
        let left : drop (length_in rest) (drop 4 rest) ≡ drop (gate + 5 + n) b = (λ i. drop (number i) (behind i)) ∙ drop_drop (gate + 5) n (gate + 5 + n) b refl in
        ap (op_of_front folder) front ∙ (λ i. with_rest (left i) (op_of_request folder (request_of (message_is i))))

pub there : (o : Option Op) → has_op o ≡ true → (op : Op) × (o ≡ Some op)
there None h = absurd cc
there (Some op) h = (op, refl)

-- a gate, by its byte
pub byte_at : (gate : ℕ) (b : List ℕ) (x : ℕ) → gate < length b → x ∷ [] ≡ take 1 (drop gate b) → drop gate b ≡ x ∷ drop (gate + 1) b
byte_at gate b x within is =
    let first : get_or b gate 0 ≡ x = sym (ap (λ (l : List ℕ). get_or l 0 0) (is ∙ ap (take 1) (drop_more b gate 0 within))) in
    drop_more b gate 0 within ∙ ap (λ (y : ℕ). y ∷ drop (gate + 1) b) first

-- an open gate
pub open_at : (gate : ℕ) (b bytes : List ℕ) → gate < length b → bytes ≡ take 1 (drop gate b) → slice_index bytes 0 ≡ 1 → drop gate b ≡ 1 ∷ drop (gate + 1) b
open_at gate b bytes within is one =
    let first : get_or b gate 0 ≡ 1 = sym (ap (λ (l : List ℕ). slice_index l 0) (is ∙ ap (take 1) (drop_more b gate 0 within))) ∙ one in
    drop_more b gate 0 within ∙ ap (λ (y : ℕ). y ∷ drop (gate + 1) b) first
