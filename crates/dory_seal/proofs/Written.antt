-- Lists that are written one place at a time, or a run at a time.
use Rattle.std.proofs.Common.{◌≡◌, ℕ, zero, suc, ◌+◌, ◌<◌, ◌≤◌, List, [], ◌∷◌, ◌++◌, length, map, take, drop, get_or, set, refl, ap, sym, ◌∙◌, arith}
use Rattle.std.specs.List.{range_with_len}
use Rattle.std.specs.List.{All}
use Rattle.std.proofs.lemmas.List.{length-map, length-take, length-drop, get_or-map, get_or-take, get_or-drop, take_more, take_more_set, take_all, take-map, drop-map, map-append}
use Rattle.std.proofs.lemmas.List.Elements.{All-head, All-tail}
use Rattle.std.proofs.lemmas.Slice.{take-put_mid}
use lib.Seq.{take-add}
use borrow.Rule.Slice.PartMut.{put_mid, same_len_mid}
use Rattle.std.proofs.lemmas.List.FromFn.{map-range_with_len_more}

pub map_twice : {A : Type 0} {B : Type 0} {C : Type 0} (g : B → C) (f : A → B) (xs : List A) → map g (map f xs) ≡ map (λ x. g (f x)) xs
map_twice g f [] = refl
map_twice g f (x ∷ xs) = ap (λ rest. g (f x) ∷ rest) (map_twice g f xs)

-- one more element of a list's map is written, into a list that may be longer
pub map_more_beside : {A : Type 0} {B : Type 0} (f : A → B) (xs : List A) (out : List B) (i : ℕ) (v : B) (d : A) → i < length out → i < length xs
    → take i out ≡ take i (map f xs) → v ≡ f (get_or xs i d)
    → take (i + 1) (set out i v) ≡ take (i + 1) (map f xs)
map_more_beside f xs out i v d within near held is =
    let long : length (map f xs) ≡ length xs = length-map xs f in
    let same : v ≡ get_or (map f xs) i v = is ∙ sym (get_or-map f xs i d v near) in
    take_more_set out i v within
    ∙ (λ j. held j ++ same j ∷ [])
    ∙ sym (take_more (map f xs) i v (omega arith))

-- one more place of a run is written
pub run_more : {B : Type 0} (f : ℕ → B) (out : List B) (from i : ℕ) (v : B) → i < length out → take i out ≡ map f (range_with_len from i) → v ≡ f (from + i)
    → take (i + 1) (set out i v) ≡ map f (range_with_len from (i + 1))
run_more f out from i v near held is =
    take_more_set out i v near
    ∙ (λ j. held j ++ is j ∷ [])
    ∙ sym (map-range_with_len_more f from i (from + i) (omega arith))

joined : (a n b k : ℕ) → a + n ≡ b → range_with_len a n ++ range_with_len b k ≡ range_with_len a (n + k)
joined a zero b k e =
    let same : b ≡ a = omega arith in
    let count : k ≡ 0 + k = omega arith in
    λ i. range_with_len (same i) (count i)
joined a (suc n) b k e =
    let count : suc (n + k) ≡ suc n + k = omega arith in
    ap (λ (rest : List ℕ). a ∷ rest) (joined (a + 1) n b k (omega arith)) ∙ ap (range_with_len a) count

-- one run after the others
pub runs_more : {B : Type 0} (f : ℕ → B) (out run : List B) (n k : ℕ) → out ≡ map f (range_with_len 0 n) → run ≡ map f (range_with_len n k) → out ++ run ≡ map f (range_with_len 0 (n + k))
runs_more f out run n k before more =
    (λ j. before j ++ more j)
    ∙ sym (map-append f (range_with_len 0 n) (range_with_len n k))
    ∙ ap (map f) (joined 0 n n k (omega arith))

-- two functions that agree on each element give one list
pub map_alike : {A : Type 0} {B : Type 0} (P : A → Type 0) (f g : A → B) (xs : List A) → ((x : A) → P x → f x ≡ g x) → All P xs → map f xs ≡ map g xs
map_alike P f g [] same all = refl
map_alike P f g (x ∷ xs) same all = λ i. same x (All-head P x xs all) i ∷ map_alike P f g xs same (All-tail P x xs all) i

part_of_map : {A : Type 0} {B : Type 0} (f : A → B) (xs : List A) (a k : ℕ) → map f (take k (drop a xs)) ≡ take k (drop a (map f xs))
part_of_map f xs a k = sym (ap (take k) (drop-map f a xs) ∙ take-map f k (drop a xs))

-- one run of a list's map is written over a part
pub part_written : {A : Type 0} {B : Type 0} (f : A → B) (xs : List A) (out ys : List B) (a k m n : ℕ) → length out ≡ length xs → m ≡ k → n ≡ a + k → n ≤ length xs
    → take a out ≡ take a (map f xs) → ys ≡ map f (take m (drop a xs))
    → (length (put_mid a k out ys) ≡ length xs) × (take n (put_mid a k out ys) ≡ take n (map f xs))
part_written f xs out ys a k m n len part end near held is =
    let is_part : ys ≡ map f (take k (drop a xs)) = is ∙ ap (λ (c : ℕ). map f (take c (drop a xs))) part in
    let count : length ys ≡ k = ap length is_part ∙ length-map (take k (drop a xs)) f ∙ omega (arith, length-take k (drop a xs), length-drop a xs) in
    let middle : length ys ≡ length (take k (drop a out)) = omega (arith, count, length-take k (drop a out), length-drop a out) in (
      same_len_mid a k out ys middle ∙ len,
      take-put_mid a k out ys n (omega arith) (omega arith)
          ∙ (λ j. held j ++ (is_part ∙ part_of_map f xs a k) j)
          ∙ sym (take-add a k (map f xs))
          ∙ ap (λ (c : ℕ). take c (map f xs)) (sym end),
    )

-- the last run, after which the whole list is written
pub last_part_written : {A : Type 0} {B : Type 0} (f : A → B) (xs : List A) (out ys : List B) (a k m : ℕ) → length out ≡ length xs → m ≡ k → length xs ≡ a + k
    → take a out ≡ take a (map f xs) → ys ≡ map f (take m (drop a xs)) → put_mid a k out ys ≡ map f xs
last_part_written f xs out ys a k m len part end held is =
    let written = part_written f xs out ys a k m (length xs) len part end (omega arith) held is in
    sym (take_all (length xs) (put_mid a k out ys) (omega (arith, written.0)))
    ∙ written.1
    ∙ take_all (length xs) (map f xs) (omega (arith, length-map xs f))

-- an element of a part
pub part_at : (xs : List ℕ) (a k i : ℕ) → i < k → get_or (take k (drop a xs)) i 0 ≡ get_or xs (a + i) 0
part_at xs a k i near = get_or-take k (drop a xs) i 0 near ∙ get_or-drop a xs i 0
