use Rattle.std.proofs.Common.{◌≡◌, ℕ, zero, suc, ◌<◌, ◌+◌, ◌-◌, ◌*◌, ◌/◌, ◌%◌, ◌^◌, List, [], ◌∷◌, length, slice_index, slice_set, bit_or, w32, arith, refl, ◌∙◌, subst}
use lib.ListN.{get_or-map, length-map}
use lib.Seq.{map-set}
use Rattle.std.specs.Int.{rotate_right}
use Rattle.std.specs.Simd.Lanes.{zip2}
use Rattle.std.proofs.lemmas.Nat.{from_be_bytes-to_be_bytes_4}
use Rattle.std.proofs.Common.{◌++◌, mod-lt, pow_pos}
use Rattle.sha2.specs.Sha256.{IsWindow, compress, digest_bytes, padding, schedule, word_at}
use Rattle.sha2.proofs.Schedule256.{IsWindow_first}
use Rattle.dory_hmac.specs.Lanes.{HasBlock, lane, lane_at, words}

-- what holds of each of the four lanes
pub below_four : (P : ℕ → Type 0) → P 0 → P 1 → P 2 → P 3 → (j : ℕ) → j < 4 → P j
below_four P p0 p1 p2 p3 zero h = p0
below_four P p0 p1 p2 p3 (suc zero) h = p1
below_four P p0 p1 p2 p3 (suc (suc zero)) h = p2
below_four P p0 p1 p2 p3 (suc (suc (suc zero))) h = p3
below_four P p0 p1 p2 p3 (suc (suc (suc (suc n)))) h = absurd (omega arith)

-- what holds of each of the sixteen words
pub below_sixteen : (P : ℕ → Type 0) → P 0 → P 1 → P 2 → P 3 → P 4 → P 5 → P 6 → P 7
    → P 8 → P 9 → P 10 → P 11 → P 12 → P 13 → P 14 → P 15 → (k : ℕ) → k < 16 → P k
below_sixteen P a0 a1 a2 a3 b0 b1 b2 b3 c0 c1 c2 c3 d0 d1 d2 d3 k h =
    let place : 4 * (k / 4) + k % 4 ≡ k = omega arith in
    subst P place (below_four (λ row. (col : ℕ) → col < 4 → P (4 * row + col))
    (below_four _ a0 a1 a2 a3) (below_four _ b0 b1 b2 b3) (below_four _ c0 c1 c2 c3) (below_four _ d0 d1 d2 d3)
    (k / 4) (omega arith) (k % 4) (omega arith))

-- what holds of each list of four elements
pub four_lanes : (P : List ℕ → Type 0) → ((a b c d : ℕ) → P (a ∷ b ∷ c ∷ d ∷ [])) → (xs : List ℕ) → length xs ≡ 4 → P xs
four_lanes P p (a ∷ b ∷ c ∷ d ∷ []) h = p a b c d
four_lanes P p [] h = absurd (omega arith)
four_lanes P p (a ∷ []) h = absurd (omega arith)
four_lanes P p (a ∷ b ∷ []) h = absurd (omega arith)
four_lanes P p (a ∷ b ∷ c ∷ []) h = absurd (omega arith)
four_lanes P p (a ∷ b ∷ c ∷ d ∷ e ∷ xs) h = absurd (omega arith)

-- each lane, with k bits fewer
abbrev Shifts : ℕ → List ℕ → Type 0
Shifts k a = (j : ℕ) → j < 4
    → slice_index (zip2 (λ x n. x / 2 ^ n) a (k ∷ k ∷ k ∷ k ∷ [])) j ≡ slice_index a j / 2 ^ k

pub shifts : (k : ℕ) → k < 32 → (a : List ℕ) → length a ≡ 4 → Shifts k a
shifts k low = four_lanes (Shifts k) (λ a0 a1 a2 a3. below_four _ refl refl refl refl)

-- two shifts of each lane and an or are a rotation
abbrev Rotates : ℕ → List ℕ → Type 0
Rotates k a = (j : ℕ) → j < 4
    → slice_index (zip2 bit_or
    (zip2 (λ x n. x / 2 ^ n) a (k ∷ k ∷ k ∷ k ∷ []))
    (zip2 (λ x n. x * 2 ^ n % 2 ^ 32) a ((32 - k) ∷ (32 - k) ∷ (32 - k) ∷ (32 - k) ∷ []))) j
    ≡ rotate_right w32 (slice_index a j) k

pub shifts_rotate : (k : ℕ) → 0 < k → k < 32 → (a : List ℕ) → length a ≡ 4 → Rotates k a
shifts_rotate k low high =
    let left : k % 32 ≡ k = omega arith in
    let right : (32 - k) % 32 ≡ 32 - k = omega arith in
    four_lanes (Rotates k) (λ a0 a1 a2 a3.
    below_four _ (rw (left, right) refl) (rw (left, right) refl) (rw (left, right) refl) (rw (left, right) refl))

-- word k of the words in lane j
pub slice_index-words : (j : ℕ) (x : List (List ℕ)) (k : ℕ) → slice_index (words j x) k ≡ lane_at x k j
slice_index-words j x k = get_or-map (λ (v : List ℕ). slice_index v j) x k []

-- a word written in each lane
pub words-set : (j : ℕ) (x : List (List ℕ)) (k : ℕ) (v : List ℕ) → words j (slice_set x k v) ≡ slice_set (words j x) k (slice_index v j)
words-set j x k v = map-set (λ (v : List ℕ). slice_index v j) x k v

-- the window that the block's words fill
pub window_of : (j : ℕ) (x : List (List ℕ)) (b : List ℕ) → length x ≡ 16 → HasBlock j x b → IsWindow (words j x) (schedule b 48) 16
window_of j x b len held =
    let long : length (words j x) ≡ 16 = length-map x (λ (v : List ℕ). slice_index v j) ∙ len in
    IsWindow_first b (words j x) long (λ k lt. slice_index-words j x k ∙ held k lt)

-- what holds of each of the eight words of a hash value
pub below_eight : (P : ℕ → Type 0) → P 0 → P 1 → P 2 → P 3 → P 4 → P 5 → P 6 → P 7 → (k : ℕ) → k < 8 → P k
below_eight P a0 a1 a2 a3 b0 b1 b2 b3 zero h = a0
below_eight P a0 a1 a2 a3 b0 b1 b2 b3 (suc zero) h = a1
below_eight P a0 a1 a2 a3 b0 b1 b2 b3 (suc (suc zero)) h = a2
below_eight P a0 a1 a2 a3 b0 b1 b2 b3 (suc (suc (suc zero))) h = a3
below_eight P a0 a1 a2 a3 b0 b1 b2 b3 (suc (suc (suc (suc k)))) h =
    below_four (λ n. P (suc (suc (suc (suc n))))) b0 b1 b2 b3 k (omega arith)

-- word k of the hash value in lane j
pub slice_index-lane : (x : List (List ℕ)) (j k : ℕ) → k < 8 → slice_index (lane j x) k ≡ lane_at x k j
slice_index-lane x j = below_eight _ refl refl refl refl refl refl refl refl

-- each word of a hash value after a block is a word
pub compress-lt : (s b : List ℕ) (k : ℕ) → k < 8 → slice_index (compress s b) k < 2 ^ 32
unfolding compress
compress-lt s b =
    below_eight (λ k. slice_index (compress s b) k < 2 ^ 32) (mod-lt _ (pow_pos 32)) (mod-lt _ (pow_pos 32)) (mod-lt _ (pow_pos 32)) (mod-lt _ (pow_pos 32)) (mod-lt _ (pow_pos 32)) (mod-lt _ (pow_pos 32)) (mod-lt _ (pow_pos 32)) (mod-lt _ (pow_pos 32))

-- the words of a digest that ends a message are the hash value's
pub digest_words : (h : List ℕ) → ((k : ℕ) → k < 8 → slice_index h k < 2 ^ 32) → (k : ℕ) → k < 8
    → word_at (digest_bytes h 8 ++ padding 96) (4 * k) ≡ slice_index h k
unfolding digest_bytes
digest_words h fits =
    below_eight _
    (from_be_bytes-to_be_bytes_4 _ (fits 0 (omega arith)))
    (from_be_bytes-to_be_bytes_4 _ (fits 1 (omega arith)))
    (from_be_bytes-to_be_bytes_4 _ (fits 2 (omega arith)))
    (from_be_bytes-to_be_bytes_4 _ (fits 3 (omega arith)))
    (from_be_bytes-to_be_bytes_4 _ (fits 4 (omega arith)))
    (from_be_bytes-to_be_bytes_4 _ (fits 5 (omega arith)))
    (from_be_bytes-to_be_bytes_4 _ (fits 6 (omega arith)))
    (from_be_bytes-to_be_bytes_4 _ (fits 7 (omega arith)))

-- a lane of one number in each
pub splat_at : (x j : ℕ) → j < 4 → slice_index (x ∷ x ∷ x ∷ x ∷ []) j ≡ x
splat_at x j near = below_four (λ n. slice_index (x ∷ x ∷ x ∷ x ∷ []) n ≡ x) refl refl refl refl j near
