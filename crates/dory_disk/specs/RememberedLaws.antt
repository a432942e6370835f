-- What a disk in memory tells of its images: the bytes as read are one of them, and now is the last moment.
use Rattle.std.proofs.Common.{◌≡◌, ℕ, ◌+◌, ◌≤◌, ◌<◌, ◌^◌, true, List, [], ◌∷◌, ◌++◌, length, take, drop, Option, Some, None, refl, sym, ◌∙◌, ap, subst, arith, append_assoc, length-append, length-drop}
use Rattle.std.proofs.lemmas.Bool.{and_parts, leb-true}
use Rattle.std.proofs.lemmas.List.{take_all, take_at, drop_at, length-take, append-nil}
use Rattle.std.proofs.Math.Nat.{le_refl}
use Rattle.dory_disk.specs.Disk.{overwritten, Torn}
use Rattle.dory_disk.specs.Remembered.{Held, new_disk, held_after, size_of, replay, sizes, begins_within, all_begin_within, Leaves, MayLeave, LeftSince}
use Rattle.dory_disk.specs.declared.mem_disk.Done.{Done}
use Rattle.dory_disk.specs.declared.mem_disk.Done.TheVariants.{Wrote, Synced}

-- a write that was done is among the torn ones
pub torn_written : (at : ℕ) (piece old : List ℕ) → at ≤ length old → Torn at (length piece) old (overwritten at piece old)
torn_written at piece old within =
    let rest = drop (at + length piece) old in
    let size : length (take at old) ≡ at = omega (arith, length-take at old, within) in
    let front : take at (overwritten at piece old) ≡ take at old = take_at (take at old) (piece ++ rest) at size in
    let parts : overwritten at piece old ≡ (take at old ++ piece) ++ rest = sym (append_assoc (take at old) piece rest) in
    let sizes_are : length (take at old ++ piece) ≡ at + length piece = omega (arith, length-append (take at old) piece, size) in
    let behind : drop (at + length piece) (overwritten at piece old) ≡ rest = ap (drop (at + length piece)) parts ∙ drop_at (take at old ++ piece) rest (at + length piece) sizes_are in
    record {
      before = front;
      after = ([], behind ∙ sym (append-nil rest));
      no_shorter = omega (arith, ap length parts, length-append (take at old ++ piece) rest, sizes_are, length-drop (at + length piece) old);
    }

-- what a disk holds as read is among what a crash may leave of it, after one more call too
one_leaves : (d : Done) (text : List ℕ) (h : Held) → size_of d ≤ length text → begins_within h d ≡ true → Leaves h h.bytes → Leaves (held_after h d text) (held_after h d text).bytes
one_leaves (Wrote place size) text h few within leaves =
    let piece = take size text in
    let size_is : length piece ≡ size = omega (arith, few, length-take size text) in
    (h.bytes, leaves, subst (λ (n : ℕ). Torn place n h.bytes (overwritten place piece h.bytes)) size_is (torn_written place piece h.bytes (leb-true place (length h.bytes) within)))
one_leaves Synced text h few within leaves = refl

-- and after any calls
all_leave : (done : List Done) (text : List ℕ) (h : Held) → sizes done ≤ length text → all_begin_within done text h ≡ true → Leaves h h.bytes → Leaves (replay done text h) (replay done text h).bytes
all_leave [] text h few within leaves = leaves
all_leave (d ∷ done) text h few within leaves =
    let p = and_parts (begins_within h d) (all_begin_within done (drop (size_of d) text) (held_after h d text)) within in
    all_leave done (drop (size_of d) text) (held_after h d text) (omega (arith, few, length-drop (size_of d) text)) p.1 (one_leaves d text h (omega (arith, few)) p.0 leaves)

-- the bytes that are told, or other ones where none are
abbrev content : Option (List ℕ) → List ℕ → List ℕ
content None other = other
content (Some bytes) other = bytes

-- what is told is told once
pub told_is : (bytes c : List ℕ) → Some bytes ≡ Some c → bytes ≡ c
told_is bytes c told = ap (λ o. content o bytes) told

-- the bytes that a disk reads are among those that a crash now may leave
pub reads_left : (done : List Done) (text bytes c : List ℕ) → (replay done text new_disk).bytes ≡ bytes → sizes done ≡ length text → all_begin_within done text new_disk ≡ true → Some bytes ≡ Some c → MayLeave done text c
reads_left done text bytes c replayed size within told =
    subst (MayLeave done text) (replayed ∙ told_is bytes c told) (all_leave done text new_disk (omega (arith, size)) within refl)

-- what is told has no more bytes than a disk
pub few_told : (bytes c : List ℕ) → Some bytes ≡ Some c → length bytes < 2 ^ 63 → length c < 2 ^ 63
few_told bytes c told few = subst (λ (l : List ℕ). length l < 2 ^ 63) (told_is bytes c told) few

-- what a crash now may leave is among what it may leave since an earlier moment
pub left_now : (done : List Done) (text : List ℕ) (t : ℕ) (c : List ℕ) → t ≤ length done → MayLeave done text c → LeftSince done text t c
left_now done text t c le now = (length done, le, le_refl (length done), subst (λ (d : List Done). MayLeave d text c) (sym (take_all (length done) done (le_refl (length done)))) now)

-- since the last moment it may leave what it may leave now
pub only_left : (done : List Done) (text c : List ℕ) → LeftSince done text (length done) c → MayLeave done text c
only_left done text c left = subst (λ (d : List Done). MayLeave d text c) (take_all left.0 done left.1) left.3
