-- How a conversation goes on, ask by ask.
use Rattle.std.proofs.Common.{◌≡◌, ℕ, ◌-◌, ◌<◌, ◌≤◌, Bor, arith, Bool, true, false, List, [], ◌∷◌, ◌++◌, Option, None, Some, refl, ap, sym, ◌∙◌, subst, inl, inr}
use Rattle.std.specs.Prelude.{◌⊎◌}
use Rattle.dory_base.specs.declared.ids.Side.{Side}
use Rattle.dory_base.specs.declared.ids.Side.TheVariants.{Lead, Follow}
use Rattle.dory_io.specs.Causes.{HasCause}
use Rattle.dory_member.specs.declared.next.Next.{Next}
use Rattle.dory_member.specs.declared.next.Next.TheVariants as next
use Rattle.dory_member.specs.Course.{Put}
use Rattle.dory_drive.specs.declared.broken.Broken.{Broken}
use Rattle.dory_drive.specs.Course.{Course, IsAsk, IsCourse, IsTurn, Takes, is_asking, run_after}
use Rattle.dory_drive.specs.Driven.{Driven, RanOutAt, StandsAt, WentOn}
use Rattle.dory_drive.specs.Ends.{IsAskEnd}
use Rattle.dory_drive.specs.Scene.{OnlyLink, OnlyLinks, Scene, link_faults}
use Rattle.dory_drive.specs.Way.{ExchangedInTurn, ExchangedOver, InterruptedAfter, Links, PutAnswered, PutUnanswered, UnansweredOver}

-- nothing was asked yet
pub not_yet : {R O : Type 0} (c : Course R O) (began : R) (u : Bool) (a : Links) → u ≡ false → WentOn c began a a began u
not_yet c began u a quiet = record { frames = []; went = refl; stands = inl (refl, inl (refl, quiet)) }

-- one frame more
after_more : {R O : Type 0} (c : Course R O) (run : R) (frames : List (List ℕ)) (frame : List ℕ) → run_after c run (frames ++ frame ∷ []) ≡ c.took (run_after c run frames) frame
after_more c run [] frame = refl
after_more c run (f ∷ frames) frame = after_more c (c.took run f) frames frame

one_more : {R O : Type 0} (c : Course R O) (run : R) (frames : List (List ℕ)) (frame : List ℕ) (a m z : Links) → ExchangedInTurn c run frames a m → PutAnswered (c.asks (run_after c run frames)) m z frame → ExchangedInTurn c run (frames ++ frame ∷ []) a z
one_more c run [] frame a m z same turned = (z, subst (λ (x : Links). PutAnswered (c.asks run) x z frame) same turned, refl)
one_more c run (f ∷ frames) frame a m z (b, first, more) turned = (b, first, one_more c (c.took run f) frames frame b m z more turned)

-- a run that asks hasn't run out of memory
no_ask : {R O : Type 0} (c : Course R O) → IsCourse c → (run at : R) (put : Put) → run ≡ c.lost at → c.asks run ≡ Some put → ⊥
no_ask c law run at put e asked = let none : c.asks run ≡ None = ap c.asks e ∙ (law.lost at).0 in cc

answered : {R O : Type 0} (c : Course R O) (run came : R) (side : Side) (sent frame : List ℕ) (b z : Links) → run ≡ came → (p : IsAsk c run side sent) → ExchangedOver side b z p.request frame → PutAnswered (c.asks came) b z frame
answered c run came side sent frame b z here p over =
    subst (λ (o : Option Put). PutAnswered o b z frame) (sym p.asks ∙ ap c.asks here) over

unanswered : {R O : Type 0} (c : Course R O) (run came : R) (side : Side) (sent : List ℕ) (end : Broken) (b z : Links) → run ≡ came → (p : IsAsk c run side sent) → UnansweredOver side b z p.request end → IsAskEnd side end → PutUnanswered (c.asks came) b z end
unanswered c run came side sent end b z here p over is =
    subst (λ (o : Option Put). PutUnanswered o b z end) (sym p.asks ∙ ap c.asks here) (over, is)

-- a run that asks goes on by the frame that comes
pub goes_further : {R O : Type 0} (c : Course R O) → IsCourse c → (began run run' : R) (u u' : Bool) (a b z : Links) (side : Side) (sent frame : List ℕ) → WentOn c began a b run u → (p : IsAsk c run side sent) → ExchangedOver side b z p.request frame → Takes c run frame run' → u' ≡ c.saves_last run' → WentOn c began a z run' u'
goes_further {R = R} c law began run run' u u' a b z side sent frame g p over takes saves = by g.stands takes
  where
    by : StandsAt c began run u g.frames ⊎ (RanOutAt c began run g.frames × (u ≡ false)) → Takes c run frame run' → WentOn c began a z run' u'
    by (inr (out, quiet)) t = absurd (no_ask c law run (run_after c began out.earlier) (side, p.request) out.lost p.asks)
    by (inl (here, stood)) (inl t) = record {
      frames = g.frames ++ frame ∷ [];
      went = one_more c began g.frames frame a b z g.went (answered c run (run_after c began g.frames) side sent frame b z here p over);
      stands = inl (t ∙ ap (λ (r : R). c.took r frame) here ∙ sym (after_more c began g.frames frame), inr saves);
    }
    by (inl (here, stood)) (inr t) = record {
      frames = g.frames ++ frame ∷ [];
      went = one_more c began g.frames frame a b z g.went (answered c run (run_after c began g.frames) side sent frame b z here p over);
      stands = inr (record { earlier = g.frames; frame = frame; all = refl; lost = t ∙ ap c.lost here }, saves ∙ ap c.saves_last t ∙ (law.lost run).1);
    }

-- a run that asks, and no frame comes
pub breaks : {R O : Type 0} (c : Course R O) → IsCourse c → (began run : R) (u : Bool) (a b z : Links) (side : Side) (sent : List ℕ) (end : Broken) → WentOn c began a b run u → (p : IsAsk c run side sent) → UnansweredOver side b z p.request end → IsAskEnd side end → InterruptedAfter c began a z end
breaks c law began run u a b z side sent end g p over is = by g.stands
  where
    by : StandsAt c began run u g.frames ⊎ (RanOutAt c began run g.frames × (u ≡ false)) → InterruptedAfter c began a z end
    by (inr (out, quiet)) = absurd (no_ask c law run (run_after c began out.earlier) (side, p.request) out.lost p.asks)
    by (inl (here, stood)) = record {
      frames = g.frames;
      between = b;
      went = g.went;
      stuck = unanswered c run (run_after c began g.frames) side sent end b z here p over is;
    }

-- ---- what is next

saving : (o : Option Put) (u : Bool) → u ≡ true → is_asking o u ≡ false
saving None u e = refl
saving (Some put) true e = refl
saving (Some put) false e = absurd (cc)

silent : (o : Option Put) (u : Bool) → o ≡ None → is_asking o u ≡ false
silent None u e = refl
silent (Some put) u e = absurd (cc)

pub asking : (o : Option Put) (u : Bool) (put : Put) → u ≡ false → o ≡ Some put → is_asking o u ≡ true
asking None u put e i = absurd (cc)
asking (Some p) true put e i = absurd (cc)
asking (Some p) false put e i = refl

still : {R O : Type 0} (c : Course R O) (run : R) (u : Bool) (n : Next) → IsTurn c run u n → ((x : Side) (f : Bor (List ℕ)) → n ≡ next.Ask x f → ⊥) → is_asking (c.asks run) u ≡ false
still c run u next.Save turn never = saving (c.asks run) u turn
still c run u (next.Ask x f) turn never = absurd (never x f refl)
still c run u next.End turn never = silent (c.asks run) u turn.1

-- a conversation that is next to do something else asks nothing
pub stops : {R O : Type 0} (c : Course R O) (began run : R) (u : Bool) (a z : Links) (n : Next) → WentOn c began a z run u → ((x : Side) (f : Bor (List ℕ)) → n ≡ next.Ask x f → ⊥) → IsTurn c run u n → Driven c began a z run u
stops c began run u a z n g never turn = record { goes = g; still = still c run u n turn never }

-- each reply leaves fewer asks
pub falls : (m n : ℕ) → 0 < m → n ≡ m - 1 → n < m
falls m n some e = omega (arith, some, e)

-- ---- all but the links

pub no_others : (a : Scene) → OnlyLinks a a
no_others a = record { kept = refl; written = refl; keeper = refl; output = refl }

pub others : (side : Side) (a m z : Scene) → OnlyLinks a m → OnlyLink side m z → OnlyLinks a z
others Lead a m z first only = record {
  kept = ap (λ (s : Scene). s.kept) only ∙ first.kept;
  written = ap (λ (s : Scene). s.written) only ∙ first.written;
  keeper = ap (λ (s : Scene). s.faults.keeper) only ∙ first.keeper;
  output = ap (λ (s : Scene). s.faults.output) only ∙ first.output;
}
others Follow a m z first only = record {
  kept = ap (λ (s : Scene). s.kept) only ∙ first.kept;
  written = ap (λ (s : Scene). s.written) only ∙ first.written;
  keeper = ap (λ (s : Scene). s.faults.keeper) only ∙ first.keeper;
  output = ap (λ (s : Scene). s.faults.output) only ∙ first.output;
}

-- ---- the counts of the links

pub lead_counts : {failed : Type 0} (side : Side) (a m z : Scene) → a.faults.lead ≤ m.faults.lead → OnlyLink side m z → HasCause (link_faults side m) (link_faults side z) failed → a.faults.lead ≤ z.faults.lead
lead_counts Lead a m z first only cause = omega (arith, first, cause.later)
lead_counts Follow a m z first only cause = let same : z.faults.lead ≡ m.faults.lead = ap (λ (s : Scene). s.faults.lead) only in omega (arith, first, same)

pub follow_counts : {failed : Type 0} (side : Side) (a m z : Scene) → a.faults.follow ≤ m.faults.follow → OnlyLink side m z → HasCause (link_faults side m) (link_faults side z) failed → a.faults.follow ≤ z.faults.follow
follow_counts Lead a m z first only cause = let same : z.faults.follow ≡ m.faults.follow = ap (λ (s : Scene). s.faults.follow) only in omega (arith, first, same)
follow_counts Follow a m z first only cause = omega (arith, first, cause.later)
