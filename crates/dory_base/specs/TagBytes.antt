-- A tag is sixteen bytes, seen as one number.
use Rattle.std.specs.Prelude.{ℕ, ◌≡◌, ◌<◌, ◌≤◌, ◌+◌, ◌*◌, ◌/◌, ◌%◌, ◌^◌, List, ◌++◌, length, slice_index, take, drop}
use Rattle.std.specs.Int.{w64, from_be_bytes, to_be_bytes}
use Rattle.std.proofs.Common.{arith, ◌∙◌, refl, ⊎_elim, take-append-drop}
use Rattle.std.proofs.lemmas.List.{get_or-drop, length-drop, length-take, get_or-take, get_or_past}
use Rattle.std.proofs.lemmas.Nat.{be_bytes_8}
use Rattle.std.proofs.lemmas.Bool.{cases_lt}

-- sixteen numbers below 256
pub record IsTagBytes (bytes : List ℕ) : Type 0 where
  pub sixteen : length bytes ≡ 16
  pub small : (i : ℕ) → slice_index bytes i < 256

-- the number that eight bytes spell, the highest first
abbrev pub half : List ℕ → ℕ
half bytes = from_be_bytes w64 bytes

-- the number that the bytes spell, the highest first
unfoldable pub tag_number : List ℕ → ℕ
tag_number bytes = half (take 8 bytes) * 2 ^ 64 + half (drop 8 bytes)

-- the sixteen bytes that spell a number below 2 to the 128, the highest first
unfoldable pub tag_bytes : ℕ → List ℕ
tag_bytes n = to_be_bytes w64 (n / 2 ^ 64) ++ to_be_bytes w64 (n % 2 ^ 64)

half_small : (bytes : List ℕ) → ((i : ℕ) → slice_index bytes i < 256) → half bytes < 2 ^ 64
half_small bytes small = omega (arith, small 0, small 1, small 2, small 3, small 4, small 5, small 6, small 7)

joined : (n h l : ℕ) → n ≡ h * 2 ^ 64 + l → l < 2 ^ 64 → (n / 2 ^ 64 ≡ h) × (n % 2 ^ 64 ≡ l)
joined n h l is small = (omega arith, omega arith)

again : (bytes : List ℕ) → length bytes ≡ 8 → ((i : ℕ) → slice_index bytes i < 256) → to_be_bytes w64 (half bytes) ≡ bytes
again bytes eight small = be_bytes_8 bytes (half bytes) eight small refl

small_front : (bytes : List ℕ) → ((i : ℕ) → slice_index bytes i < 256) → (i : ℕ) → slice_index (take 8 bytes) i < 256
small_front bytes small i = ⊎_elim (λ (l : i < 8). rw (get_or-take 8 bytes i 0 l) (small i)) (λ (l : 8 ≤ i). rw (get_or_past (take 8 bytes) i 0 (omega (arith, length-take 8 bytes))) (omega arith)) (cases_lt i 8)

small_back : (bytes : List ℕ) → ((i : ℕ) → slice_index bytes i < 256) → (i : ℕ) → slice_index (drop 8 bytes) i < 256
small_back bytes small i = rw (get_or-drop 8 bytes i 0) (small (8 + i))

-- A tag's bytes are those that its number spells. It stands here, and not among the proofs, since the model of a tag
-- gives its bytes back by it.
pub tag_bytes-tag_number : (bytes : List ℕ) → IsTagBytes bytes → tag_bytes (tag_number bytes) ≡ bytes
unfolding tag_number tag_bytes
tag_bytes-tag_number bytes are =
    let parts = joined (half (take 8 bytes) * 2 ^ 64 + half (drop 8 bytes)) (half (take 8 bytes)) (half (drop 8 bytes)) refl (half_small (drop 8 bytes) (small_back bytes are.small)) in
    (λ i. to_be_bytes w64 (parts.0 i) ++ to_be_bytes w64 (parts.1 i))
    ∙ (λ i. again (take 8 bytes) (omega (arith, length-take 8 bytes, are.sixteen)) (small_front bytes are.small) i ++ again (drop 8 bytes) (omega (arith, length-drop 8 bytes, are.sixteen)) (small_back bytes are.small) i)
    ∙ take-append-drop 8 bytes

both_small : (h l : ℕ) → h < 2 ^ 64 → l < 2 ^ 64 → h * 2 ^ 64 + l < 2 ^ 128
both_small h l p q = omega arith

-- a tag's number is below 2 to the 128
pub tag_number_small : (bytes : List ℕ) → IsTagBytes bytes → tag_number bytes < 2 ^ 128
unfolding tag_number
tag_number_small bytes are = both_small (half (take 8 bytes)) (half (drop 8 bytes)) (half_small (take 8 bytes) (small_front bytes are.small)) (half_small (drop 8 bytes) (small_back bytes are.small))
