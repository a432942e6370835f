-- The keys of a search, probe by probe.
use Rattle.std.proofs.Common.{◌≡◌, ℕ, zero, suc, ◌+◌, ◌*◌, ◌<◌, ◌≤◌, ◌^◌, ◌%◌, List, [], ◌∷◌, ◌++◌, length, map, drop, take, get_or, refl, sym, ap, ◌∙◌, arith, append_assoc}
use Rattle.std.specs.Int.{w32, to_le_bytes}
use Rattle.std.specs.List.{AllByRecursion, range_with_len}
use Rattle.dory_dpf.specs.Block.{stream_word}
use Rattle.dory_dpf.specs.PointKey.{PointKey, IsKey, IsKeyOf, form_of, short_key_of, shares_of}
use Rattle.dory_dpf.proofs.Pair.{short_pair}
use Rattle.dory_bloom.specs.Positions.{column_at}
use Rattle.dory_query.specs.Drawn.{four_words, probe_key, keys_from}
use Rattle.dory_query.specs.Pairs.{ArePairs}

pub all_more : {X : Type 0} (P : X → Type 0) (xs : List X) (y : X) → AllByRecursion P xs → P y → AllByRecursion P (xs ++ y ∷ [])
all_more P [] y all h = (h, tt)
all_more P (x ∷ xs) y all h = (all.0, all_more P xs y all.1 h)

-- a key that is drawn is of form 2 and of the row's depth
pub short_is : (party depth column : ℕ) (first second : List ℕ) (key : PointKey) → key ≡ short_key_of party depth column first second → IsKey key → IsKeyOf 2 depth key
short_is party depth column first second key e is = record { key = is; form = ap (λ (k : PointKey). form_of k) e; depth = ap (λ (k : PointKey). k.depth) e }

pub next : (i : ℕ) → i + 1 ≡ suc i
next i = omega arith

-- one probe
keys_more : (party depth : ℕ) (seed : List ℕ) (stream at i : ℕ) (columns : List ℕ) → i < length columns
    → keys_from party depth seed stream at (drop i columns) ≡ probe_key party depth seed stream at (get_or columns i 0) ∷ keys_from party depth seed stream (suc at) (drop (suc i) columns)
keys_more party depth seed stream at i [] h = absurd (omega arith)
keys_more party depth seed stream at zero (c ∷ columns) h = ap (λ (n : ℕ). probe_key party depth seed stream at c ∷ keys_from party depth seed stream n columns) (next at)
keys_more party depth seed stream at (suc i) (c ∷ columns) h = keys_more party depth seed stream at i columns (omega arith)

pub keys_push : (party depth : ℕ) (seed : List ℕ) (stream i : ℕ) (columns : List ℕ) (keys : List PointKey) (key : PointKey) → i < length columns → key ≡ probe_key party depth seed stream i (get_or columns i 0)
    → (keys ++ key ∷ []) ++ keys_from party depth seed stream (suc i) (drop (suc i) columns) ≡ keys ++ keys_from party depth seed stream i (drop i columns)
keys_push party depth seed stream i columns keys key h is =
    append_assoc keys (key ∷ []) (keys_from party depth seed stream (suc i) (drop (suc i) columns))
    ∙ ap (λ (k : PointKey). keys ++ k ∷ keys_from party depth seed stream (suc i) (drop (suc i) columns)) is
    ∙ ap (λ (ks : List PointKey). keys ++ ks) (sym (keys_more party depth seed stream i i columns h))

-- the words of a stream as bytes
abbrev pub bytes_at : List ℕ → ℕ → List ℕ
bytes_at words at = to_le_bytes w32 (get_or words at 0) ++ to_le_bytes w32 (get_or words (at + 1) 0) ++ to_le_bytes w32 (get_or words (at + 2) 0) ++ to_le_bytes w32 (get_or words (at + 3) 0)

words_are : (seed : List ℕ) (stream at : ℕ) (words : List ℕ) → ((place : ℕ) → place < 64 → get_or words place 0 ≡ stream_word seed stream place) → at + 4 ≤ 64 → bytes_at words at ≡ four_words seed stream at
words_are seed stream at words each h = λ i.
    to_le_bytes w32 (each at (omega arith) i) ++ to_le_bytes w32 (each (at + 1) (omega arith) i)
    ++ to_le_bytes w32 (each (at + 2) (omega arith) i) ++ to_le_bytes w32 (each (at + 3) (omega arith) i)

pub key_is : (party depth : ℕ) (seed : List ℕ) (stream probe column : ℕ) (words first second : List ℕ) (key : PointKey)
    → ((place : ℕ) → place < 64 → get_or words place 0 ≡ stream_word seed stream place) → probe < 8 → first ≡ bytes_at words (8 * probe) → second ≡ bytes_at words (8 * probe + 4)
    → key ≡ short_key_of party depth column first second → key ≡ probe_key party depth seed stream probe column
unfolding probe_key
key_is party depth seed stream probe column words first second key each h one two is =
    is ∙ (λ i. short_key_of party depth column ((one ∙ words_are seed stream (8 * probe) words each (omega arith)) i) ((two ∙ words_are seed stream (8 * probe + 4) words each (omega arith)) i))

-- the shares of the two parties' keys are point pairs
pub pairs_of : (depth : ℕ) (seed : List ℕ) (stream probe : ℕ) (columns : List ℕ) → 7 ≤ depth → AllByRecursion (λ c. c < 2 ^ depth) columns
    → ArePairs (2 ^ depth) columns (map shares_of (keys_from 0 depth seed stream probe columns)) (map shares_of (keys_from 1 depth seed stream probe columns))
unfolding probe_key
pairs_of depth seed stream probe [] low all = tt
pairs_of depth seed stream probe (c ∷ columns) low all =
    (all.0, short_pair depth c (four_words seed stream (8 * probe)) (four_words seed stream (8 * probe + 4)) low all.0, pairs_of depth seed stream (probe + 1) columns low all.1)

power : (depth : ℕ) → 1 ≤ 2 ^ depth
power zero = omega arith
power (suc depth) = omega (arith, power depth)

small : (a b : ℕ) → 1 ≤ b → a % b < b
small a b h = omega arith

near : (tag : List ℕ) (depth p : ℕ) → column_at tag depth p < 2 ^ depth
unfolding column_at
near tag depth p = small _ (2 ^ depth) (power depth)

-- a word's columns lie within the row
pub within : (tag : List ℕ) (depth from n : ℕ) → AllByRecursion (λ c. c < 2 ^ depth) (map (column_at tag depth) (range_with_len from n))
within tag depth from zero = tt
within tag depth from (suc n) = (near tag depth from, within tag depth (from + 1) n)

front_of : (n : ℕ) (xs ys : List ℕ) → n ≡ length xs → take n (xs ++ ys) ≡ xs
front_of zero [] ys e = refl
front_of zero (x ∷ xs) ys e = absurd (omega arith)
front_of (suc n) [] ys e = absurd (omega arith)
front_of (suc n) (x ∷ xs) ys e = ap (λ (zs : List ℕ). x ∷ zs) (front_of n xs ys (omega arith))

-- what is in front of the zeros
pub front_is : (n : ℕ) (columns xs ys : List ℕ) → columns ≡ xs ++ ys → n ≡ length xs → take n columns ≡ xs
front_is n columns xs ys is e = ap (take n) is ∙ front_of n xs ys e
