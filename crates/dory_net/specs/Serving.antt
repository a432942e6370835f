-- Connections to one domain, served one after another.
use Rattle.std.specs.Prelude.{ℕ, zero, suc, ◌≡◌, ◌<◌, ⊤, List, [], ◌∷◌, length, Option, Some, None, Result, Ok, Err}
use Rattle.dory_io.specs.Causes.{one_more}
use Rattle.dory_domain.specs.Answered.{Steps}
use Rattle.dory_session.specs.declared.end.SessionEnd.{SessionEnd}
use Rattle.dory_session.specs.Session.{Around, around, IsSession}
use Rattle.dory_net.specs.declared.serving.ServeEnd.{ServeEnd}
use Rattle.dory_net.specs.declared.serving.ServeEnd.TheVariants.{Sessions, AcceptFault}

-- a connection: what comes of it and what goes to it, as the port gave them and as they are after its session, and how that
-- ended
pub record Connection (From To : Type 0) : Type 0 where
  pub input : From
  pub input_after : From
  pub out : To
  pub out_after : To
  pub end : SessionEnd

-- what the sources and the sinks of a port tell: the bytes left, how many were given, and the bytes written
pub record Telling (From To : Type 0) : Type 0 where
  pub left : From → Option (List ℕ)
  pub given : From → ℕ
  pub written : To → Option (List ℕ)

-- what is seen of a domain, and what a source and a sink tell
abbrev pub around_ends : {V From To : Type 0} → Telling From To → V → From → To → Around V
around_ends tell seen input out = around seen (tell.left input) (tell.given input) (tell.written out)

-- the connection's session began from what was seen before it, and left what is seen now
abbrev pub IsSessionOf : {V From To : Type 0} → Steps V → Telling From To → V → Connection From To → V → Type 0
IsSessionOf steps tell before c now = IsSession steps (around_ends tell before c.input c.out) (around_ends tell now c.input_after c.out_after) c.end

-- one session after another, each of which begins from what the one before it left
abbrev pub AreServed : {V From To : Type 0} → Steps V → Telling From To → V → List (Connection From To) → V → Type 0
AreServed steps tell before [] now = now ≡ before
AreServed {V} steps tell before (c ∷ cs) now = (mid : V) × IsSessionOf steps tell before c mid × AreServed steps tell mid cs now

-- a count after so many more
abbrev pub count_after : ℕ → ℕ → ℕ
count_after zero count = count
count_after (suc n) count = one_more (count_after n count)

-- serving ends when as many connections were served as were asked for, or when no further one is given
abbrev pub EndsAfter : Option ℕ → ℕ → ServeEnd → Type 0
EndsAfter (Some asked) served Sessions = served ≡ asked
EndsAfter None served Sessions = ⊥
EndsAfter (Some asked) served AcceptFault = served < asked
EndsAfter None served AcceptFault = ⊤

-- these connections were given and served, by a domain of which `before` was seen and `now` is
pub record IsServing {V From To : Type 0} (steps : Steps V) (tell : Telling From To) (before now : V) (given given_now : ℕ) (asked : Option ℕ) (end : ServeEnd) (connections : List (Connection From To)) : Type 0 where
  pub each : AreServed steps tell before connections now
  pub count : given_now ≡ count_after (length connections) given
  pub ended : EndsAfter asked (length connections) end

-- a connection was given and served, or none was given and what is seen stays
abbrev pub IsNextServed : {V From To E : Type 0} → Steps V → Telling From To → V → V → Result (Unit {0}) E → Type 0
IsNextServed {V} {From} {To} steps tell before now (Ok u) = (c : Connection From To) × IsSessionOf steps tell before c now
IsNextServed steps tell before now (Err e) = now ≡ before
