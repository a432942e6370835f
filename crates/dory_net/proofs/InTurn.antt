-- One connection after another is served.
use Rattle.std.proofs.Common.{◌≡◌, ℕ, ◌+◌, ◌<◌, List, [], ◌∷◌, ◌++◌, length, Option, Some, None, refl, sym, ap, subst, ◌∙◌, arith}
use Rattle.dory_io.specs.Causes.{one_more}
use Rattle.dory_domain.specs.Answered.{Steps}
use Rattle.dory_net.specs.Serving.{Connection, Telling, IsSessionOf, AreServed, IsServing, EndsAfter, count_after}
use Rattle.dory_net.specs.declared.serving.ServeEnd.TheVariants.{Sessions, AcceptFault}

-- so many connections were given and served, and these
pub record IsUnderway {V From To : Type 0} (steps : Steps V) (tell : Telling From To) (before now : V) (given given_now n : ℕ) (cs : List (Connection From To)) : Type 0 where
  pub each : AreServed steps tell before cs now
  pub count : given_now ≡ count_after (length cs) given
  pub number : length cs ≡ n

-- so many were given and served
abbrev pub SoFar : {V From To : Type 0} → Steps V → Telling From To → V → V → ℕ → ℕ → ℕ → Type 0
SoFar {V} {From} {To} steps tell before now given given_now n = (cs : List (Connection From To)) × IsUnderway steps tell before now given given_now n cs

pub none_yet : {V From To : Type 0} (steps : Steps V) (tell : Telling From To) (seen : V) (given : ℕ) → SoFar steps tell seen seen given given 0
none_yet steps tell seen given = ([], record { each = refl; count = refl; number = refl })

served_more : {V From To : Type 0} (steps : Steps V) (tell : Telling From To) (cs : List (Connection From To)) (c : Connection From To) (before mid now : V) → AreServed steps tell before cs mid → IsSessionOf steps tell mid c now → AreServed steps tell before (cs ++ c ∷ []) now
served_more steps tell [] c before mid now e s = (now, subst (λ seen. IsSessionOf steps tell seen c now) e s, refl)
served_more steps tell (d ∷ ds) c before mid now (next, first, rest) s = (next, first, served_more steps tell ds c next mid now rest s)

counted_more : {A : Type 0} (xs : List A) (x : A) (count : ℕ) → count_after (length (xs ++ x ∷ [])) count ≡ one_more (count_after (length xs) count)
counted_more [] x count = refl
counted_more (y ∷ ys) x count = ap one_more (counted_more ys x count)

longer : {A : Type 0} (xs : List A) (x : A) → length (xs ++ x ∷ []) ≡ length xs + 1
longer [] x = refl
longer (y ∷ ys) x = omega (arith, longer ys x)

-- one more was given and served
pub one_on : {V From To : Type 0} (steps : Steps V) (tell : Telling From To) (before mid now : V) (given given_mid given_now n : ℕ) → SoFar steps tell before mid given given_mid n → (c : Connection From To) × IsSessionOf steps tell mid c now → given_now ≡ one_more given_mid → SoFar steps tell before now given given_now (n + 1)
one_on steps tell before mid now given given_mid given_now n (cs, u) (c, s) e = (
  cs ++ c ∷ [],
  record {
    each = served_more steps tell cs c before mid now u.each s;
    count = e ∙ ap one_more u.count ∙ sym (counted_more cs c given);
    number = longer cs c ∙ ap (λ k. k + 1) u.number;
  },
)

-- no further one was given, and fewer were served than were asked for
pub too_few : {V From To : Type 0} (steps : Steps V) (tell : Telling From To) (before mid now : V) (given given_mid given_now n many : ℕ) (asked : Option ℕ) → SoFar steps tell before mid given given_mid n → now ≡ mid → given_now ≡ given_mid → asked ≡ Some many → n < many → (cs : List (Connection From To)) × IsServing steps tell before now given given_now asked AcceptFault cs
too_few steps tell before mid now given given_mid given_now n many asked (cs, u) f e is less = (
  cs,
  record {
    each = subst (AreServed steps tell before cs) (sym f) u.each;
    count = e ∙ u.count;
    ended = subst (λ (o : Option ℕ). EndsAfter o (length cs) AcceptFault) (sym is) (omega (arith, u.number));
  },
)

-- no further one was given, and there was no end to those that were asked for
pub no_more : {V From To : Type 0} (steps : Steps V) (tell : Telling From To) (before mid now : V) (given given_mid given_now n : ℕ) (asked : Option ℕ) → SoFar steps tell before mid given given_mid n → now ≡ mid → given_now ≡ given_mid → asked ≡ None → (cs : List (Connection From To)) × IsServing steps tell before now given given_now asked AcceptFault cs
no_more steps tell before mid now given given_mid given_now n asked (cs, u) f e is = (
  cs,
  record {
    each = subst (AreServed steps tell before cs) (sym f) u.each;
    count = e ∙ u.count;
    ended = subst (λ (o : Option ℕ). EndsAfter o (length cs) AcceptFault) (sym is) tt;
  },
)

-- as many were served as were asked for
pub all_served : {V From To : Type 0} (steps : Steps V) (tell : Telling From To) (before now : V) (given given_now n many : ℕ) (asked : Option ℕ) → SoFar steps tell before now given given_now n → asked ≡ Some many → n ≡ many → (cs : List (Connection From To)) × IsServing steps tell before now given given_now asked Sessions cs
all_served steps tell before now given given_now n many asked (cs, u) is e = (
  cs,
  record {
    each = u.each;
    count = u.count;
    ended = subst (λ (o : Option ℕ). EndsAfter o (length cs) Sessions) (sym is) (u.number ∙ e);
  },
)
