-- A relation of two values is one of their equals.
use Rattle.std.proofs.Common.{◌≡◌, subst}

pub moved : {A : Type 0} (R : A → A → Type 0) (a b x y : A) → a ≡ x → b ≡ y → R a b → R x y
moved R a b x y p q r = subst (λ v. R v y) p (subst (R a) q r)
