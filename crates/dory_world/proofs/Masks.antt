-- Bytes, and bytes that are XORed by a mask.
use Rattle.std.proofs.Common.{◌≡◌, ℕ, zero, suc, ◌+◌, ◌<◌, ◌≤◌, ◌&&◌, Bool, true, false, List, [], ◌∷◌, ◌++◌, length, take, drop, refl, ap, ◌∙◌, sym, arith, add-one, lt-ltb}
use Rattle.std.specs.Prelude.{bit_xor, slice_index, slice_set}
use Rattle.std.specs.List.{list_all}
use Rattle.std.proofs.lemmas.List.{take-append-drop}
use Rattle.dory_run.specs.Happening.{bent, is_byte, xored}

and_true : (b : Bool) → (b && true) ≡ b
and_true true = refl
and_true false = refl

-- each of a program's bytes is one
pub all_bytes : (bytes : List ℕ) → ((i : ℕ) → slice_index bytes i < 256) → list_all is_byte bytes ≡ true
all_bytes [] h = refl
all_bytes (b ∷ bytes) h = ap (λ (x : Bool). x && list_all is_byte bytes) (lt-ltb b 256 (h 0)) ∙ all_bytes bytes (λ i. h (suc i))

-- so it adds nothing to ask
pub and_bytes : (b : Bool) (bytes : List ℕ) → ((i : ℕ) → slice_index bytes i < 256) → b ≡ (b && list_all is_byte bytes)
and_bytes b bytes h = sym (ap (λ (x : Bool). b && x) (all_bytes bytes h) ∙ and_true b)

xored_nothing : (frame : List ℕ) → xored frame [] ≡ frame
xored_nothing [] = refl
xored_nothing (b ∷ frame) = refl

-- a mask of no bytes changes nothing
pub bent_nothing : (at : ℕ) (frame : List ℕ) → bent at [] frame ≡ frame
bent_nothing at frame = ap (λ (xs : List ℕ). take at frame ++ xs) (xored_nothing (drop at frame)) ∙ take-append-drop at frame

xored_step : (frame mask : List ℕ) (i j : ℕ) → j ≡ i → i < length mask → length mask ≤ length frame
    → slice_set (xored frame (take i mask)) j (bit_xor (slice_index (xored frame (take i mask)) j) (slice_index mask i)) ≡ xored frame (take (suc i) mask)
xored_step frame [] i j e h le = absurd (omega arith)
xored_step [] (x ∷ mask) i j e h le = absurd (omega arith)
xored_step (b ∷ frame) (x ∷ mask) zero zero e h le = ap (λ (ys : List ℕ). bit_xor b x ∷ ys) (sym (xored_nothing frame))
xored_step (b ∷ frame) (x ∷ mask) zero (suc j) e h le = absurd (omega arith)
xored_step (b ∷ frame) (x ∷ mask) (suc i) zero e h le = absurd (omega arith)
xored_step (b ∷ frame) (x ∷ mask) (suc i) (suc j) e h le = ap (λ (ys : List ℕ). bit_xor b x ∷ ys) (xored_step frame mask i j (omega arith) (omega arith) (omega arith))

bent_step : (at : ℕ) (frame mask : List ℕ) (i j : ℕ) → j ≡ at + i → i < length mask → at + length mask ≤ length frame
    → slice_set (bent at (take i mask) frame) j (bit_xor (slice_index (bent at (take i mask) frame) j) (slice_index mask i)) ≡ bent at (take (suc i) mask) frame
bent_step zero frame mask i j e h le = xored_step frame mask i j (omega arith) h (omega arith)
bent_step (suc at) [] mask i j e h le = absurd (omega arith)
bent_step (suc at) (b ∷ frame) mask i zero e h le = absurd (omega arith)
bent_step (suc at) (b ∷ frame) mask i (suc j) e h le = ap (λ (ys : List ℕ). b ∷ ys) (bent_step at frame mask i j (omega arith) h (omega arith))

-- one byte more of a mask
pub bent_more : (at i : ℕ) (mask frame bytes : List ℕ) → i < length mask → at + length mask ≤ length frame → bytes ≡ bent at (take i mask) frame
    → slice_set bytes (at + i) (bit_xor (slice_index bytes (at + i)) (slice_index mask i)) ≡ bent at (take (i + 1) mask) frame
bent_more at i mask frame bytes h le is =
    ap (λ (xs : List ℕ). slice_set xs (at + i) (bit_xor (slice_index xs (at + i)) (slice_index mask i))) is ∙ rw add-one (bent_step at frame mask i (at + i) refl h le)
