-- Four blocks side by side: each word is a vector of four, with one lane for each block.
use Rattle.std.specs.Prelude.{◌≡◌, ℕ, ◌*◌, ◌<◌, List, [], ◌∷◌, map, slice_index, slice_index_or}
use Rattle.sha2.specs.Sha256.{word_at}

-- The word of block j in the vector at place k.
abbrev pub lane_at : List (List ℕ) → ℕ → ℕ → ℕ
lane_at x k j = slice_index (slice_index_or x k []) j

-- The hash value of block j, or its working variables (FIPS 180-4, section 6.2), which are eight words.
abbrev pub lane : ℕ → List (List ℕ) → List ℕ
lane j x =
    lane_at x 0 j ∷ lane_at x 1 j ∷ lane_at x 2 j ∷ lane_at x 3 j
    ∷ lane_at x 4 j ∷ lane_at x 5 j ∷ lane_at x 6 j ∷ lane_at x 7 j ∷ []

-- The words of block j, however many the vectors are.
abbrev pub words : ℕ → List (List ℕ) → List ℕ
words j x = map (λ v. slice_index v j) x

-- The vectors have the sixteen words of block b (FIPS 180-4, section 5.2.1) in lane j.
abbrev pub HasBlock : ℕ → List (List ℕ) → List ℕ → Type 0
HasBlock j x b = (k : ℕ) → k < 16 → lane_at x k j ≡ word_at b (4 * k)
