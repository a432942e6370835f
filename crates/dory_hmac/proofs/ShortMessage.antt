-- A message of one block and up to 55 bytes more, and HMAC from midstate hash values.
use Rattle.std.proofs.Common.{◌≡◌, ℕ, ◌+◌, ◌-◌, ◌*◌, ◌/◌, ◌%◌, ◌^◌, ◌≤◌, List, [], ◌∷◌, ◌++◌, length, take, drop, replicate, bit_xor, refl, ap, ◌∙◌, arith, length-append, w64}
use Rattle.std.proofs.lemmas.List.{append-nil, append_assoc, take_at, take_all, drop-append-le, drop_all, length-replicate, length-map}
use Rattle.std.specs.Int.{to_be_bytes}
use Rattle.sha2.specs.Sha256.{compress, digest_bytes, final_hash, hash_after, initial_hash_256, padded_message, padding, sha256}
use Rattle.std.proofs.Common.{length-drop}
use Rattle.std.proofs.lemmas.List.{length-take-le}
use Rattle.std.proofs.lemmas.Slice.{take-put_mid}
use borrow.Rule.Slice.PartMut.{put_mid, same_len_mid}
use Rattle.dory_hmac.specs.Hmac.{hmac_of_block, xor_pad}
use Rattle.dory_hmac.specs.Midstate.{midstate}

-- the block that ends a message of one block more
pub length-last : (m : List ℕ) → length m ≤ 55 → length (m ++ padding (64 + length m)) ≡ 64
length-last m short =
    let zeros : ℕ = (119 - (64 + length m) % 64) % 64 in
    let bits : List ℕ = to_be_bytes w64 ((64 + length m) * 8 % 2 ^ 64) in
    let width : length bits ≡ 8 = refl in
    let fill : List ℕ = replicate zeros 0 in
    let padded : length fill ≡ zeros = length-replicate zeros 0 in
    omega (
      arith,
      length-append m (padding (64 + length m)),
      length-append (0x80 ∷ fill) bits,
      padded,
      width,
    )

pub hash_two : (i kb m : List ℕ) → length kb ≡ 64 → length m ≤ 55
    → final_hash i (kb ++ m) ≡ compress (compress i kb) (m ++ padding (64 + length m))
unfolding hash_after
hash_two i kb m len short =
    let tail : List ℕ = m ++ padding (64 + length m) in
    let count : length (kb ++ m) ≡ 64 + length m = omega (arith, length-append kb m) in
    let whole : padded_message (kb ++ m) ≡ kb ++ tail = rw count (append_assoc kb m (padding (64 + length m))) in
    let long : length tail ≡ 64 = length-last m short in
    let two : length (kb ++ tail) / 64 ≡ 2 = omega (arith, length-append kb tail) in
    let first : take 64 (kb ++ tail) ≡ kb = take_at kb tail 64 (omega arith) in
    let rest : drop 64 (kb ++ tail) ≡ tail = drop-append-le 64 kb tail (omega arith) ∙ ap (λ (x : List ℕ). x ++ tail) (drop_all 64 kb (omega arith)) in
    let second : take 64 (drop 64 (kb ++ tail)) ≡ tail = ap (take 64) rest ∙ take_all 64 tail (omega arith) in
    ap (λ (p : List ℕ). hash_after i p (length p / 64)) whole
    ∙ ap (hash_after i (kb ++ tail)) two
    ∙ (λ j. compress (compress i (first j)) (second j))

-- HMAC of a short message, from the hash values after the key's block
pub hmac_from_midstates : (block m : List ℕ) → length block ≡ 64 → length m ≤ 55
    → hmac_of_block block m
    ≡ digest_bytes (compress (midstate 0x5c block) (digest_bytes (compress (midstate 0x36 block) (m ++ padding (64 + length m))) 8 ++ padding 96)) 8
unfolding hmac_of_block sha256 midstate digest_bytes
hmac_from_midstates block m len short =
    let inner_len : length (xor_pad 0x36 block) ≡ 64 = length-map block (λ b. bit_xor b 0x36) ∙ len in
    let outer_len : length (xor_pad 0x5c block) ≡ 64 = length-map block (λ b. bit_xor b 0x5c) ∙ len in
    let inner = hash_two initial_hash_256 (xor_pad 0x36 block) m inner_len short in
    let digest : List ℕ = digest_bytes (compress (compress initial_hash_256 (xor_pad 0x36 block)) (m ++ padding (64 + length m))) 8 in
    let outer = hash_two initial_hash_256 (xor_pad 0x5c block) digest outer_len (omega arith) in
    ap (λ (h : List ℕ). digest_bytes (final_hash initial_hash_256 (xor_pad 0x5c block ++ digest_bytes h 8)) 8) inner
    ∙ ap (λ (h : List ℕ). digest_bytes h 8) outer

-- the three parts of the last block, written one after the other
pub last_is : (m ys bits : List ℕ) → length m ≤ 55 → ys ≡ 0x80 ∷ replicate (55 - length m) 0
    → bits ≡ to_be_bytes w64 (8 * (64 + length m))
    → put_mid 56 8 (put_mid (length m) (56 - length m) (m ++ replicate (64 - length m) 0) ys) bits ≡ m ++ padding (64 + length m)
last_is m ys bits short eys ebits =
    let n : ℕ = length m in
    let fill : List ℕ = replicate (64 - n) 0 in
    let zeros : List ℕ = replicate (55 - n) 0 in
    let start : List ℕ = m ++ fill in
    let lf : length fill ≡ 64 - n = length-replicate (64 - n) 0 in
    let lz : length zeros ≡ 55 - n = length-replicate (55 - n) 0 in
    let ls : length start ≡ 64 = omega (arith, length-append m fill) in
    let ly : length ys ≡ 56 - n = omega (arith, ap length eys) in
    let mid : length (take (56 - n) (drop n start)) ≡ 56 - n = length-take-le (56 - n) (drop n start) (omega (arith, length-drop n start)) in
    let x : List ℕ = put_mid n (56 - n) start ys in
    let lx : length x ≡ 64 = same_len_mid n (56 - n) start ys (omega arith) ∙ ls in
    let front : take n start ≡ m = take_at m fill n refl in
    let most : take 56 x ≡ m ++ ys = take-put_mid n (56 - n) start ys 56 (omega arith) (omega arith) ∙ ap (λ (f : List ℕ). f ++ ys) front in
    let none : drop 8 (drop 56 x) ≡ [] = drop_all 8 (drop 56 x) (omega (arith, length-drop 56 x)) in
    let count : (119 - (64 + n) % 64) % 64 ≡ 55 - n = omega arith in
    let worth : (64 + n) * 8 % 2 ^ 64 ≡ 8 * (64 + n) = omega arith in
    rw (most, none, append-nil, count, worth, eys, ebits) (append_assoc m (0x80 ∷ zeros) (to_be_bytes w64 (8 * (64 + n))))
