-- A word gives back the array that it is kept in. It stands here, and not among the proofs, since the model of a word
-- is turned back by it.
use Rattle.std.specs.Prelude.{ℕ, ◌≡◌, ◌-◌, List, ◌++◌, length, take, replicate}
use Rattle.std.proofs.Common.{arith, ap, ◌∙◌, length-take}
use mathlib.Core.Path.{ap₂}
use Rattle.dory_base.specs.Words.{IsKept}

-- what is made of the word is what it was kept as
pub kept_again : {A : Type 0} (f : List ℕ → ℕ → A) (bytes : List ℕ) (len : ℕ) → IsKept bytes len
    → f (take len bytes ++ replicate (64 - length (take len bytes)) 0) (length (take len bytes)) ≡ f bytes len
kept_again f bytes len h =
    let e : length (take len bytes) ≡ len = omega (arith, length-take len bytes, h.room, h.fits) in
    ap₂ f (ap (λ (n : ℕ). take len bytes ++ replicate (64 - n) 0) e ∙ h.padded) e
