-- One step of a walk, and of the corrections along a path, where a loop goes down the levels.
use Rattle.std.proofs.Common.{◌≡◌, ℕ, suc, ◌+◌, ◌-◌, ◌<◌, ◌≤◌, ◌==◌, Bool, List, [], ◌∷◌, ◌++◌, length, get_or, take, drop, set, refl, sym, ap, ◌∙◌, arith}
use Rattle.std.specs.Int.{bit_at}
use Rattle.std.proofs.Math.Seq.{drop-cons}
use Rattle.std.proofs.lemmas.List.{append_assoc, append-nil, drop_all, take_more_set}
use Rattle.dory_dpf.specs.declared.tree.Correction.{Correction}
use Rattle.dory_dpf.specs.declared.tree.Node.{Node}
use Rattle.dory_dpf.specs.Tree.{child_of, correction_of, corrections_of, walk}
use Rattle.dory_dpf.specs.PointKey.{path_of}

-- the side that the path to a leaf takes at a level
abbrev pub side_at : ℕ → ℕ → ℕ → Bool
side_at levels leaf level = bit_at leaf (levels - 1 - level) == 1

-- what is left of a path at a level
abbrev pub path_from : ℕ → ℕ → ℕ → List Bool
path_from levels leaf level = path_of (levels - level) leaf

pub path_step : (levels leaf level : ℕ) → level < levels
    → path_from levels leaf level ≡ side_at levels leaf level ∷ path_from levels leaf (level + 1)
unfolding path_of
path_step levels leaf level h =
    let e : levels - level ≡ suc (levels - 1 - level) = omega arith in
    let f : levels - (level + 1) ≡ levels - 1 - level = omega arith in
    rw (e, f) refl

drop_step : (cs : List Correction) (level : ℕ) (c : Correction) → level < length cs → get_or cs level c ≡ c → drop level cs ≡ c ∷ drop (level + 1) cs
drop_step cs level c h e =
    let f : suc level ≡ level + 1 = omega arith in
    drop-cons cs level c h ∙ ap (λ (x : Correction). x ∷ drop (suc level) cs) e ∙ ap (λ (k : ℕ). c ∷ drop k cs) f

pub walk_step : (cs : List Correction) (levels leaf level : ℕ) (n : Node) (c : Correction) → level < levels → level < length cs → get_or cs level c ≡ c
    → walk n (drop level cs) (path_from levels leaf level) ≡ walk (child_of (side_at levels leaf level) n c) (drop (level + 1) cs) (path_from levels leaf (level + 1))
unfolding walk
walk_step cs levels leaf level n c h k e = rw (path_step levels leaf level h, drop_step cs level c k e) refl

-- the corrections from a level on
abbrev pub rest_of : ℕ → ℕ → ℕ → Node → Node → List Correction
rest_of levels leaf level m n = corrections_of (path_from levels leaf level) m n

pub rest_step : (levels leaf level : ℕ) (m n : Node) (c : Correction) → level < levels → c ≡ correction_of (side_at levels leaf level) m n
    → rest_of levels leaf level m n
    ≡ c ∷ rest_of levels leaf (level + 1) (child_of (side_at levels leaf level) m c) (child_of (side_at levels leaf level) n c)
unfolding corrections_of
rest_step levels leaf level m n c h e = rw (path_step levels leaf level h, e) refl

pub rest_walk : (levels leaf level : ℕ) (m n v : Node) (c : Correction) → level < levels → c ≡ correction_of (side_at levels leaf level) m n
    → walk v (rest_of levels leaf level m n) (path_from levels leaf level)
    ≡ walk (child_of (side_at levels leaf level) v c)
    (rest_of levels leaf (level + 1) (child_of (side_at levels leaf level) m c) (child_of (side_at levels leaf level) n c))
    (path_from levels leaf (level + 1))
unfolding corrections_of walk
rest_walk levels leaf level m n v c h e = rw (path_step levels leaf level h, e) refl

-- the corrections that are made, one more written
pub made_step : (made : List Correction) (level : ℕ) (c : Correction) (rest all : List Correction) → level < length made
    → all ≡ take level made ++ c ∷ rest → all ≡ take (level + 1) (set made level c) ++ rest
made_step made level c rest all h e =
    e ∙ sym (ap (λ (xs : List Correction). xs ++ rest) (take_more_set made level c h) ∙ append_assoc (take level made) (c ∷ []) rest)

-- at the end of the path

pub walk_end : (cs : List Correction) (level : ℕ) (path : List Bool) (n : Node) → length cs ≤ level → walk n (drop level cs) path ≡ n
unfolding walk
walk_end cs level path n h = rw (drop_all level cs h) refl

pub rest_end : (levels leaf level : ℕ) (m n : Node) → levels ≤ level → rest_of levels leaf level m n ≡ []
unfolding path_of corrections_of
rest_end levels leaf level m n h =
    let e : levels - level ≡ 0 = omega arith in
    rw e refl

pub made_all : (made all : List Correction) (levels leaf level : ℕ) (m n : Node) → level ≡ levels
    → all ≡ take level made ++ rest_of levels leaf level m n → take levels made ≡ all
made_all made all levels leaf level m n e h =
    let ended : rest_of levels leaf level m n ≡ [] = rest_end levels leaf level m n (omega arith) in
    sym (h ∙ ap (λ (xs : List Correction). take level made ++ xs) ended ∙ append-nil (take level made) ∙ ap (λ (k : ℕ). take k made) e)

pub rest_walk_end : (levels leaf level : ℕ) (m n v : Node) → levels ≤ level → walk v (rest_of levels leaf level m n) (path_from levels leaf level) ≡ v
unfolding walk
rest_walk_end levels leaf level m n v h = rw (rest_end levels leaf level m n h) refl
