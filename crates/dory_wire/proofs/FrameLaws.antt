-- A frame has its message and no other, and bytes that have a message are its frame.
use Rattle.std.proofs.Common.{◌≡◌, ◌∙◌, ℕ, ◌≤◌, Bool, true, false, ◌&&◌, cond, ltb, leb, eqb, List, ◌++◌, length, take, drop, Option, Some, None, refl, sym, ap, subst, arith, take-append-drop}
use Rattle.std.specs.Int.{w32, to_be_bytes, from_be_bytes}
use Rattle.std.proofs.lemmas.Bool.{le-ltb, le-leb, leb-true, ltb-false, eqb-true, eq-eqb}
use Rattle.std.proofs.lemmas.List.{take_at, drop_at, length-append, length-take}
use Rattle.std.proofs.lemmas.Nat.{be_bytes_4, from_be_bytes-to_be_bytes_4}
use Rattle.dory_fields.specs.Bytes.{IsBytes}
use Rattle.dory_fields.proofs.Fields.{IsBytes-take, both_true}
use Rattle.dory_wire.specs.Frame.{frame_of, is_length, length_in, message_in}

-- the message of a frame
pub message_in_frame : (m : List ℕ) → 1 ≤ length m → length m ≤ 1048576 → message_in (frame_of m) ≡ Some m
unfolding message_in
message_in_frame m some few =
    let long : ltb (length (frame_of m)) 4 ≡ false = le-ltb _ _ (omega (arith, length-append (to_be_bytes w32 (length m)) m)) in
    let front : take 4 (frame_of m) ≡ to_be_bytes w32 (length m) = take_at (to_be_bytes w32 (length m)) m 4 refl in
    let rest : drop 4 (frame_of m) ≡ m = drop_at (to_be_bytes w32 (length m)) m 4 refl in
    let number : length_in (frame_of m) ≡ length m = ap (from_be_bytes w32) front ∙ from_be_bytes-to_be_bytes_4 (length m) (omega (arith, few)) in
    rw (long, number, rest) (rw (le-leb 1 (length m) some, le-leb (length m) 1048576 few, eq-eqb (length m) (length m) refl) refl)

some_is : (b : Bool) (x y : List ℕ) → cond b (Some x) None ≡ Some y → (b ≡ true) × (x ≡ y)
some_is true x y e = (refl, cc)
some_is false x y e = absurd cc

not_none : (b : Bool) (x : Option (List ℕ)) (y : List ℕ) → cond b None x ≡ Some y → (b ≡ false) × (x ≡ Some y)
not_none true x y e = absurd cc
not_none false x y e = (refl, e)

-- bytes that have a message are its frame
pub frame_is : (bytes m : List ℕ) → IsBytes bytes → message_in bytes ≡ Some m → (bytes ≡ frame_of m) × (1 ≤ length m) × (length m ≤ 1048576)
unfolding message_in
frame_is bytes m fits e =
    let inner = cond (is_length (length_in bytes) && eqb (length_in bytes) (length (drop 4 bytes))) (Some (drop 4 bytes)) None in
    let a = not_none (ltb (length bytes) 4) inner m e in
    let b = some_is (is_length (length_in bytes) && eqb (length_in bytes) (length (drop 4 bytes))) (drop 4 bytes) m a.1 in
    let c = both_true (is_length (length_in bytes)) (eqb (length_in bytes) (length (drop 4 bytes))) b.0 in
    let d = both_true (leb 1 (length_in bytes)) (leb (length_in bytes) 1048576) c.0 in
    let long : 4 ≤ length bytes = ltb-false _ _ a.0 in
    let number : length_in bytes ≡ length m = eqb-true _ _ c.1 ∙ ap length b.1 in
    let front : to_be_bytes w32 (length_in bytes) ≡ take 4 bytes = be_bytes_4 (take 4 bytes) (length_in bytes) (omega (arith, length-take 4 bytes)) (IsBytes-take 4 bytes fits) refl in
    let whole : bytes ≡ frame_of m = sym (take-append-drop 4 bytes) ∙ (λ i. sym front i ++ b.1 i) ∙ ap (λ (n : ℕ). to_be_bytes w32 n ++ m) number in
    (whole, subst (λ (n : ℕ). 1 ≤ n) number (leb-true 1 (length_in bytes) d.0), subst (λ (n : ℕ). n ≤ 1048576) number (leb-true (length_in bytes) 1048576 d.1))
