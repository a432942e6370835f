-- A further write.
use Rattle.std.proofs.Common.{◌≡◌, ℕ, ◌+◌, List, ◌++◌, Option, Some, None, Ok, take, drop, ap, sym, ◌∙◌, append_assoc, take-add}
use Rattle.std.specs.Io.KnownBytes.{Appends}
use Rattle.dory_io.specs.Bytes.{Writes}

pub appends_more : (E : Type 0) (a b c : Option (List ℕ)) (bytes piece : List ℕ) (at n : ℕ) → piece ≡ drop at bytes → Appends a b (take at bytes) → Writes {E = E} b c piece (Ok n) → Appends a c (take (at + n) bytes)
appends_more E None b c bytes piece at n e p q = tt
appends_more E (Some xs) None c bytes piece at n e p q = absurd p
appends_more E (Some xs) (Some ys) None bytes piece at n e p q = absurd q
appends_more E (Some xs) (Some ys) (Some zs) bytes piece at n e p q =
    q ∙ ap (λ v. ys ++ take n v) e ∙ ap (λ v. v ++ take n (drop at bytes)) p ∙ append_assoc xs (take at bytes) (take n (drop at bytes)) ∙ ap (λ v. xs ++ v) (sym (take-add at n bytes))
