-- What a crash leaves of a write, and of a piece behind a gate.
use Rattle.std.proofs.Common.{◌≡◌, inl, inr, ℕ, zero, suc, ◌+◌, ◌≤◌, List, [], ◌∷◌, ◌++◌, length, get_or, take, drop, Option, Some, None, Result, Ok, Err, refl, sym, ◌∙◌, ap, subst, arith, append_assoc, length-append, take-append-drop}
use Rattle.std.proofs.lemmas.List.{drop_at, drop_more, length-take, append-nil}
use Rattle.std.specs.Option.{option_map}
use Rattle.dory_disk.specs.Disk.{IsWithin, Torn, Follows, IsOnDisk, WritesAt, overwritten}
use Rattle.dory_journal.specs.Writing.{opened, IsLeft, IsStillTold}

pub some_is : {A : Type 0} (x y : A) → Some x ≡ Some y → x ≡ y
some_is x y e = cc

-- no write is a torn one
pub torn_same : (at n : ℕ) (bytes : List ℕ) → Torn at n bytes bytes
torn_same at n bytes = record { before = refl; after = ([], sym (append-nil (drop (at + n) bytes))); no_shorter = omega arith }

-- where the disk had what is told, a crash leaves it as it was
pub was_told : (told : Option (List ℕ)) (b c : List ℕ) (images : List ℕ → Type 0) → told ≡ Some b → IsOnDisk told images → images c → b ≡ c
was_told told b c images is durable now = some_is b c (sym is ∙ durable c now)

-- where the disk had what is told, a crash leaves a torn write of it
pub torn_from : (at n : ℕ) (told : Option (List ℕ)) (b : List ℕ) (old new : List ℕ → Type 0) → told ≡ Some b → IsOnDisk told old → Follows at n old new → (c : List ℕ) → new c → Torn at n b c
torn_from at n told b old new is durable follows c now =
    let from = follows c now in
    subst (λ d. Torn at n d c) (sym (was_told told b from.0 old is durable from.1)) from.2

-- the gate is not in the range of the first write
pub behind_left : (gate : ℕ) (piece b c : List ℕ) → Torn (gate + 1) (length piece) b c → IsLeft gate piece b c
behind_left gate piece b c torn = inl torn.before

take_take : (n m : ℕ) (xs ys : List ℕ) → n ≤ m → n ≤ length xs → take n (take m xs ++ ys) ≡ take n xs
take_take zero m xs ys few le = refl
take_take (suc n) zero xs ys few le = absurd (omega arith)
take_take (suc n) (suc m) [] ys few le = absurd (omega arith)
take_take (suc n) (suc m) (x ∷ xs) ys few le = ap (λ (l : List ℕ). x ∷ l) (take_take n m xs ys (omega arith) (omega arith))

-- the piece is not in the range of the second
pub gate_left : (gate : ℕ) (piece b c : List ℕ) → gate + 1 ≤ length b → Torn gate 1 (overwritten (gate + 1) piece b) c → IsLeft gate piece b c
gate_left gate piece b c fits torn =
    let b1 = overwritten (gate + 1) piece b in
    let front : take gate c ≡ take gate b = torn.before ∙ take_take gate (gate + 1) b (piece ++ drop (gate + 1 + length piece) b) (omega arith) (omega arith) in
    let behind : drop (gate + 1) b1 ≡ piece ++ drop (gate + 1 + length piece) b =
    drop_at (take (gate + 1) b) (piece ++ drop (gate + 1 + length piece) b) (gate + 1) (omega (arith, length-take (gate + 1) b)) in
    let long : gate + 1 ≤ length b1 = omega (arith, length-append (take (gate + 1) b) (piece ++ drop (gate + 1 + length piece) b), length-take (gate + 1) b) in
    let more = torn.after.0 in
    let at = get_or c gate 0 in
    let rest : drop gate c ≡ at ∷ (piece ++ (drop (gate + 1 + length piece) b ++ more)) =
    drop_more c gate 0 (omega (arith, torn.no_shorter, long)) ∙ ap (λ (l : List ℕ). at ∷ l) (torn.after.1 ∙ ap (λ (l : List ℕ). l ++ more) behind ∙ append_assoc piece (drop (gate + 1 + length piece) b) more) in
    inr (at, drop (gate + 1 + length piece) b ++ more, sym (take-append-drop gate c) ∙ (λ i. front i ++ rest i))

-- what both writes come to
pub opened_is : (gate : ℕ) (piece b : List ℕ) → gate + 1 ≤ length b → overwritten gate (1 ∷ []) (overwritten (gate + 1) piece b) ≡ opened gate piece b
opened_is gate piece b fits =
    let front : take gate (overwritten (gate + 1) piece b) ≡ take gate b = take_take gate (gate + 1) b (piece ++ drop (gate + 1 + length piece) b) (omega arith) (omega arith) in
    let behind : drop (gate + 1) (overwritten (gate + 1) piece b) ≡ piece ++ drop (gate + 1 + length piece) b =
    drop_at (take (gate + 1) b) (piece ++ drop (gate + 1 + length piece) b) (gate + 1) (omega (arith, length-take (gate + 1) b)) in
    (λ i. front i ++ (1 ∷ behind i))

-- the gate stays within the bytes
pub within_behind : (gate : ℕ) (piece : List ℕ) (told : Option (List ℕ)) → IsWithin told (gate + 1) → IsWithin (option_map (overwritten (gate + 1) piece) told) gate
within_behind gate piece None fits = fits
within_behind gate piece (Some b) fits =
    let long : length (overwritten (gate + 1) piece b) ≡ length (take (gate + 1) b) + length (piece ++ drop (gate + 1 + length piece) b) = length-append (take (gate + 1) b) (piece ++ drop (gate + 1 + length piece) b) in
    omega (arith, fits, long, length-take (gate + 1) b)

-- what both writes come to, where the bytes are told
pub both_writes : (gate : ℕ) (piece : List ℕ) (told : Option (List ℕ)) → IsWithin told (gate + 1) → option_map (overwritten gate (1 ∷ [])) (option_map (overwritten (gate + 1) piece) told) ≡ option_map (opened gate piece) told
both_writes gate piece None fits = refl
both_writes gate piece (Some b) fits = ap Some (opened_is gate piece b fits)

-- a write leaves a disk honest that was
pub still_told : {E : Type 0} (at : ℕ) (piece : List ℕ) (before now : Option (List ℕ)) (r : Result (Unit {0}) E) → WritesAt at piece before now r → IsStillTold before now
still_told at piece None now r writes = λ b e. absurd cc
still_told at piece (Some old) now (Ok u) writes = λ b e. (overwritten at piece old, writes)
still_told at piece (Some old) now (Err fault) writes = λ b e. (writes.0, writes.1)
