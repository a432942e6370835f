-- Facts of positions, for the proofs of callers: they are as many as the probes, and each is a column.
use Rattle.std.proofs.Common.{◌≡◌, ℕ, suc, ◌<◌, ◌≤◌, ◌+◌, ◌-◌, ◌*◌, ◌%◌, ◌^◌, List, [], ◌∷◌, ◌++◌, length, get_or, take, drop, map, set, replicate, ap, sym, ◌∙◌, arith, mod-lt, pow_pos}
use Rattle.std.specs.Int.{w32, from_be_bytes}
use Rattle.std.specs.List.{All, range_with_len}
use Rattle.std.proofs.lemmas.List.{append_assoc, drop_more, get_or_append_left, set_at}
use Rattle.std.proofs.lemmas.List.Elements.{All-map}
use Rattle.std.proofs.lemmas.List.FromFn.{length-map-range_with_len, map-range_with_len_more}
use Rattle.dory_base.specs.Dims.{Dims}
use Rattle.dory_hmac.specs.declared.folder_keys.FolderKeys.{FolderKeys}
use Rattle.dory_bloom.specs.Positions.{column_at, columns_of, positions_of}

-- a column is below 2 to the depth
pub column_at-lt : (tag : List ℕ) (depth p : ℕ) → column_at tag depth p < 2 ^ depth
unfolding column_at
column_at-lt tag depth p = mod-lt (from_be_bytes w32 (take 4 (drop (4 * p) tag))) (pow_pos depth)

pub length-columns_of : (tag : List ℕ) (shape : Dims) → length (columns_of tag shape) ≡ shape.probes
length-columns_of tag shape = length-map-range_with_len (column_at tag shape.depth) 0 shape.probes

pub columns_of-lt : (tag : List ℕ) (shape : Dims) → All (λ column. column < 2 ^ shape.depth) (columns_of tag shape)
columns_of-lt tag shape =
    All-map (λ column. column < 2 ^ shape.depth) (column_at tag shape.depth) (range_with_len 0 shape.probes) (λ k d near. column_at-lt tag shape.depth (get_or (range_with_len 0 shape.probes) k d))

-- a word has as many positions as there are probes
pub length-positions_of : (keys : FolderKeys) (shape : Dims) (word : List ℕ) → length (positions_of keys shape word) ≡ shape.probes
length-positions_of keys shape word = length-columns_of _ shape

-- each is a column of the shape
pub positions_of-lt : (keys : FolderKeys) (shape : Dims) (word : List ℕ) → All (λ position. position < 2 ^ shape.depth) (positions_of keys shape word)
positions_of-lt keys shape word = columns_of-lt _ shape

-- ---- one column

-- four bytes of a tag, one by one
four_bytes : (tag : List ℕ) (at : ℕ) → at + 4 ≤ length tag
    → get_or tag at 0 ∷ get_or tag (at + 1) 0 ∷ get_or tag (at + 2) 0 ∷ get_or tag (at + 3) 0 ∷ [] ≡ take 4 (drop at tag)
four_bytes tag at h =
    let e2 : at + 1 + 1 ≡ at + 2 = omega arith in
    let e3 : at + 2 + 1 ≡ at + 3 = omega arith in
    let d1 : drop at tag ≡ get_or tag at 0 ∷ drop (at + 1) tag = drop_more tag at 0 (omega arith) in
    let d2 : drop (at + 1) tag ≡ get_or tag (at + 1) 0 ∷ drop (at + 2) tag = drop_more tag (at + 1) 0 (omega arith) ∙ ap (λ (n : ℕ). get_or tag (at + 1) 0 ∷ drop n tag) e2 in
    let d3 : drop (at + 2) tag ≡ get_or tag (at + 2) 0 ∷ drop (at + 3) tag = drop_more tag (at + 2) 0 (omega arith) ∙ ap (λ (n : ℕ). get_or tag (at + 2) 0 ∷ drop n tag) e3 in
    let d4 : drop (at + 3) tag ≡ get_or tag (at + 3) 0 ∷ drop (at + 3 + 1) tag = drop_more tag (at + 3) 0 (omega arith) in
    sym
    (ap (take 4)
    (d1 ∙ ap (λ (bs : List ℕ). get_or tag at 0 ∷ bs) (d2 ∙ ap (λ (bs : List ℕ). get_or tag (at + 1) 0 ∷ bs) (d3 ∙ ap (λ (bs : List ℕ). get_or tag (at + 2) 0 ∷ bs) d4))))

-- the number that they spell, modulo the number of columns
pub column_is : (tag : List ℕ) (depth p : ℕ) → 4 * p + 4 ≤ length tag
    → from_be_bytes w32 (get_or tag (4 * p) 0 ∷ get_or tag (4 * p + 1) 0 ∷ get_or tag (4 * p + 2) 0 ∷ get_or tag (4 * p + 3) 0 ∷ []) % 2 ^ depth ≡ column_at tag depth p
unfolding column_at
column_is tag depth p h = ap (λ (bytes : List ℕ). from_be_bytes w32 bytes % 2 ^ depth) (four_bytes tag (4 * p) h)

-- ---- the loop

-- one more column is written
pub columns_more : (tag : List ℕ) (depth p : ℕ) → p < 8
    → set (map (column_at tag depth) (range_with_len 0 p) ++ replicate (8 - p) 0) p (column_at tag depth p)
    ≡ map (column_at tag depth) (range_with_len 0 (p + 1)) ++ replicate (8 - (p + 1)) 0
columns_more tag depth p h =
    let front : List ℕ = map (column_at tag depth) (range_with_len 0 p) in
    let column : ℕ = column_at tag depth p in
    let left : List ℕ = replicate (8 - (p + 1)) 0 in
    let e : 8 - p ≡ suc (8 - (p + 1)) = omega arith in
    let l : length front ≡ p = length-map-range_with_len (column_at tag depth) 0 p in
    ap (λ (n : ℕ). set (front ++ replicate n 0) p column) e
    ∙ set_at front 0 left column p l
    ∙ sym (append_assoc front (column ∷ []) left)
    ∙ ap (λ (xs : List ℕ). xs ++ left) (sym (map-range_with_len_more (column_at tag depth) 0 p p (omega arith)))

-- what is written at a place before the zeros
pub column_before_zeros : (columns tagged : List ℕ) (n p : ℕ) → columns ≡ tagged ++ replicate n 0 → p < length tagged → get_or columns p 0 ≡ get_or tagged p 0
column_before_zeros columns tagged n p is h = ap (λ (xs : List ℕ). get_or xs p 0) is ∙ get_or_append_left tagged (replicate n 0) 0 p h
