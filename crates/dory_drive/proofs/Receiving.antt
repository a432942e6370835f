-- What came to a conversation is what both links tell of it, and nothing else.
use Rattle.std.proofs.Common.{◌≡◌, ℕ, List, [], ◌∷◌, ◌++◌, Option, None, Some, refl, ap, sym, ◌∙◌, subst, inl, inr}
use Rattle.std.specs.Prelude.{◌⊎◌}
use Rattle.dory_base.specs.declared.ids.Side.{Side}
use Rattle.dory_base.specs.declared.ids.Side.TheVariants.{Lead, Follow}
use Rattle.dory_wire.specs.declared.message.Request.{Request}
use Rattle.dory_link.specs.Told.{Heard, Talk}
use Rattle.dory_member.specs.Course.{Put}
use Rattle.dory_drive.specs.declared.broken.Broken.{Broken}
use Rattle.dory_drive.specs.declared.broken.Broken.TheVariants as broken
use Rattle.dory_drive.specs.Asked.{GrewBy, Misses, spoke, unspoken}
use Rattle.dory_drive.specs.Course.{Course, run_after}
use Rattle.dory_drive.specs.Ends.{IsAskEnd}
use Rattle.dory_drive.specs.Received.{BothTellMore, CameInTurn, IsFirst, IsLeft, IsUnreplied, Talks, TellsMore, first, none, talks}
use Rattle.dory_drive.specs.Way.{ExchangedInTurn, Links, PutAnswered, PutUnanswered, UnansweredOver}
use Rattle.dory_drive.proofs.Growth.{grew_none, grew_on}

-- ---- what was added to the exchanges, where a link tells any

-- these were added to the exchanges of each link that tells any
pub record Added (a z : Links) (more : Talks) : Type 0 where
  pub lead : GrewBy a.lead.exchanges z.lead.exchanges more.lead
  pub follow : GrewBy a.follow.exchanges z.follow.exchanges more.follow

pub added_none : (a : Links) → Added a a none
added_none a = record { lead = grew_none a.lead.exchanges; follow = grew_none a.follow.exchanges }

same_none : (a z : Heard) → z ≡ a → GrewBy a.exchanges z.exchanges []
same_none a z same = subst (λ (h : Heard). GrewBy a.exchanges h.exchanges []) (sym same) (grew_none a.exchanges)

-- where neither link was asked
pub added_nothing : (a z : Links) → z.lead ≡ a.lead → z.follow ≡ a.follow → Added a z none
added_nothing a z lead follow = record { lead = same_none a.lead z.lead lead; follow = same_none a.follow z.follow follow }

same_from : (a n z : Heard) (more : List Talk) → n ≡ a → GrewBy n.exchanges z.exchanges more → GrewBy a.exchanges z.exchanges more
same_from a n z more same grew = subst (λ (h : Heard). GrewBy h.exchanges z.exchanges more) same grew

append_same : (xs ys zs : List Talk) → xs ++ ys ≡ xs ++ zs → ys ≡ zs
append_same [] ys zs e = e
append_same (x ∷ xs) ys zs e = append_same xs ys zs (cc)

told_same : (a z : Option (List Talk)) (xs ys : List Talk) → GrewBy a z xs → TellsMore a z ys → xs ≡ ys
told_same None z xs ys grew told = absurd told
told_same (Some a) None xs ys grew told = absurd told
told_same (Some a) (Some z) xs ys grew told = append_same a xs ys (sym grew ∙ told)

talks_same : (x y : Talks) → x.lead ≡ y.lead → x.follow ≡ y.follow → x ≡ y
talks_same x y l f = ap (λ (v : List Talk). talks v x.follow) l ∙ ap (λ (v : List Talk). talks y.lead v) f

-- what was added is what is told
pub added_told : (a z : Links) (more told : Talks) → Added a z more → BothTellMore a z told → more ≡ told
added_told a z more told added tell =
    talks_same more told (told_same a.lead.exchanges z.lead.exchanges more.lead told.lead added.lead tell.lead)
    (told_same a.follow.exchanges z.follow.exchanges more.follow told.follow added.follow tell.follow)

-- ---- what came, from what was added last

one_added : (o : Option Put) (a n z : Links) (frame : List ℕ) (later : Talks) → PutAnswered o a n frame → Added n z later → (told : Talks) × Added a z told × IsFirst o frame told later
one_added None a n z frame later put added = absurd put
one_added (Some (Lead, r)) a n z frame later (ask, same) added = (
  first Lead (spoke r frame) later,
  record { lead = grew_on a.lead.exchanges n.lead.exchanges z.lead.exchanges (spoke r frame ∷ []) later.lead ask.grew added.lead; follow = same_from a.follow n.follow z.follow later.follow same added.follow },
  refl,
)
one_added (Some (Follow, r)) a n z frame later (same, ask) added = (
  first Follow (spoke r frame) later,
  record { lead = same_from a.lead n.lead z.lead later.lead same added.lead; follow = grew_on a.follow.exchanges n.follow.exchanges z.follow.exchanges (spoke r frame ∷ []) later.follow ask.grew added.follow },
  refl,
)

-- frames that came one after another are told so, before what was added after them
pub came_told : {R O : Type 0} (c : Course R O) (run : R) (frames : List (List ℕ)) (a m z : Links) (left : Talks) → ExchangedInTurn c run frames a m → Added m z left → (told : Talks) × Added a z told × CameInTurn c run frames told left
came_told c run [] a m z left same added = (left, subst (λ (l : Links). Added l z left) same added, refl)
came_told c run (f ∷ frames) a m z left (n, put, more) added =
    let later = came_told c (c.took run f) frames n m z left more added in
    let told = one_added (c.asks run) a n z f later.0 put later.1 in
    (told.0, told.1, (later.0, told.2, later.2))

-- ---- what is left where no frame came

-- what is left, and that it is an ask without a reply where the link failed
pub record Stuck (o : Option Put) (m z : Links) (end : Broken) : Type 0 where
  pub left : Talks
  pub added : Added m z left
  pub is_left : IsLeft o left
  pub failed : (side : Side) → end ≡ broken.LinkFault side → IsUnreplied side left
  pub unreplied : (side : Side) → IsUnreplied side left → (end ≡ broken.LinkFault side) ⊎ (end ≡ broken.NoMemory)

-- no exchange is no ask without a reply
pub none_left : (side : Side) → IsUnreplied side none → ⊥
none_left Lead (r, e) = let no : [] ≡ unspoken r ∷ [] = ap (λ (t : Talks). t.lead) e in absurd (cc)
none_left Follow (r, e) = let no : [] ≡ unspoken r ∷ [] = ap (λ (t : Talks). t.follow) e in absurd (cc)

sided : (s t : Side) (r : Request) → IsUnreplied t (first s (unspoken r) none) → t ≡ s
sided Lead Lead r e = refl
sided Lead Follow r (q, e) = let no : [] ≡ unspoken q ∷ [] = ap (λ (t : Talks). t.follow) e in absurd (cc)
sided Follow Lead r (q, e) = let no : [] ≡ unspoken q ∷ [] = ap (λ (t : Talks). t.lead) e in absurd (cc)
sided Follow Follow r e = refl

-- exchanges over the link to this side alone
abbrev only : Side → List Talk → Talks
only Lead more = talks more []
only Follow more = talks [] more

only_first : (side : Side) (r : Request) → only side (unspoken r ∷ []) ≡ first side (unspoken r) none
only_first Lead r = refl
only_first Follow r = refl

only_none : (side : Side) → only side [] ≡ none
only_none Lead = refl
only_none Follow = refl

over_left : (side : Side) (m z : Links) (r : Request) (end : Broken) → UnansweredOver side m z r end → (more : List Talk) × Misses end r more × Added m z (only side more)
over_left Lead m z r end (u, same) = (u.more, u.misses, record { lead = u.grew; follow = same_none m.follow z.follow same })
over_left Follow m z r end (same, u) = (u.more, u.misses, record { lead = same_none m.lead z.lead same; follow = u.grew })

left_by : (side : Side) (m z : Links) (r : Request) (end : Broken) (more : List Talk) → Misses end r more → IsAskEnd side end → Added m z (only side more) → Stuck (Some (side, r)) m z end
left_by side m z r (broken.LinkFault s) more misses (inr e) added = absurd (cc)
left_by side m z r (broken.LinkFault s) more misses (inl e) added =
    let same : only side more ≡ first side (unspoken r) none = ap (only side) misses ∙ only_first side r in
    record {
      left = first side (unspoken r) none;
      added = subst (Added m z) same added;
      is_left = inr refl;
      failed = λ t is. let here : side ≡ t = cc in subst (λ (x : Side). IsUnreplied x (first side (unspoken r) none)) here (r, refl);
      unreplied = λ t u. inl (e ∙ ap (λ (x : Side). broken.LinkFault x) (sym (sided side t r u)));
    }
left_by side m z r broken.NoMemory more (inl is) e added = record {
  left = none;
  added = subst (Added m z) (ap (only side) is ∙ only_none side) added;
  is_left = inl refl;
  failed = λ t no. absurd (cc);
  unreplied = λ t u. inr refl;
}
left_by side m z r broken.NoMemory more (inr is) e added = record {
  left = first side (unspoken r) none;
  added = subst (Added m z) (ap (only side) is ∙ only_first side r) added;
  is_left = inr refl;
  failed = λ t no. absurd (cc);
  unreplied = λ t u. inr refl;
}
left_by side m z r broken.KeeperFault more misses e added = absurd misses

-- where a conversation got stuck, what is left is of the ask that brought no frame
pub stuck : (o : Option Put) (m z : Links) (end : Broken) → PutUnanswered o m z end → Stuck o m z end
stuck None m z end un = absurd un
stuck (Some put) m z end (over, is) = let l = over_left put.0 m z put.1 end over in left_by put.0 m z put.1 end l.0 l.1 is l.2

-- ---- no other frames came

heads_same : (side : Side) (r : Request) (f g : List ℕ) (x y : Talks) → first side (spoke r f) x ≡ first side (spoke r g) y → (f ≡ g) × (x ≡ y)
heads_same Lead r f g x y e =
    let l : spoke r f ∷ x.lead ≡ spoke r g ∷ y.lead = ap (λ (t : Talks). t.lead) e in
    let m : x.follow ≡ y.follow = ap (λ (t : Talks). t.follow) e in
    let head : spoke r f ≡ spoke r g = cc in
    let tail : x.lead ≡ y.lead = cc in
    let reply : Some f ≡ Some g = ap (λ (t : Talk). t.reply) head in
    (cc, talks_same x y tail m)
heads_same Follow r f g x y e =
    let l : spoke r f ∷ x.follow ≡ spoke r g ∷ y.follow = ap (λ (t : Talks). t.follow) e in
    let m : x.lead ≡ y.lead = ap (λ (t : Talks). t.lead) e in
    let head : spoke r f ≡ spoke r g = cc in
    let tail : x.follow ≡ y.follow = cc in
    let reply : Some f ≡ Some g = ap (λ (t : Talk). t.reply) head in
    (cc, talks_same x y m tail)

firsts_same : (o : Option Put) (f g : List ℕ) (told x y : Talks) → IsFirst o f told x → IsFirst o g told y → (f ≡ g) × (x ≡ y)
firsts_same None f g told x y p q = absurd p
firsts_same (Some put) f g told x y p q = heads_same put.0 put.1 f g x y (sym p ∙ q)

not_none : (side : Side) (t : Talk) (x : Talks) → none ≡ first side t x → ⊥
not_none Lead t x e = let no : [] ≡ t ∷ x.lead = ap (λ (v : Talks). v.lead) e in absurd (cc)
not_none Follow t x e = let no : [] ≡ t ∷ x.follow = ap (λ (v : Talks). v.follow) e in absurd (cc)

not_replied : (side : Side) (r : Request) (f : List ℕ) (x y : Talks) → first side (unspoken r) x ≡ first side (spoke r f) y → ⊥
not_replied Lead r f x y e =
    let l : unspoken r ∷ x.lead ≡ spoke r f ∷ y.lead = ap (λ (v : Talks). v.lead) e in
    let head : unspoken r ≡ spoke r f = cc in
    let reply : None ≡ Some f = ap (λ (t : Talk). t.reply) head in
    absurd (cc)
not_replied Follow r f x y e =
    let l : unspoken r ∷ x.follow ≡ spoke r f ∷ y.follow = ap (λ (v : Talks). v.follow) e in
    let head : unspoken r ≡ spoke r f = cc in
    let reply : None ≡ Some f = ap (λ (t : Talk). t.reply) head in
    absurd (cc)

-- what is left has no frame
no_more : (o : Option Put) (f : List ℕ) (told later : Talks) → IsLeft o told → IsFirst o f told later → ⊥
no_more None f told later left is = is
no_more (Some put) f told later (inl e) is = not_none put.0 (spoke put.1 f) later (sym e ∙ is)
no_more (Some put) f told later (inr e) is = not_replied put.0 put.1 f none later (sym e ∙ is)

-- what both links tell to have come is one list of frames
pub received_once : {R O : Type 0} (c : Course R O) (run : R) (told x y : Talks) (fs gs : List (List ℕ)) → CameInTurn c run fs told x → IsLeft (c.asks (run_after c run fs)) x → CameInTurn c run gs told y → IsLeft (c.asks (run_after c run gs)) y → gs ≡ fs
received_once c run told x y [] [] p l q k = refl
received_once c run told x y [] (g ∷ gs) p l (later, is, q) k = absurd (no_more (c.asks run) g told later (subst (IsLeft (c.asks run)) (sym p) l) is)
received_once c run told x y (f ∷ fs) [] (later, is, p) l q k = absurd (no_more (c.asks run) f told later (subst (IsLeft (c.asks run)) (sym q) k) is)
received_once {R = R} c run told x y (f ∷ fs) (g ∷ gs) (s, is, p) l (t, at, q) k =
    let same = firsts_same (c.asks run) f g told s t is at in
    let q' : CameInTurn c (c.took run f) gs s y = subst (λ (v : Talks). CameInTurn c (c.took run f) gs v y) (sym same.1) (subst (λ (h : List ℕ). CameInTurn c (c.took run h) gs t y) (sym same.0) q) in
    let k' : IsLeft (c.asks (run_after c (c.took run f) gs)) y = subst (λ (h : List ℕ). IsLeft (c.asks (run_after c (c.took run h) gs)) y) (sym same.0) k in
    let rest = received_once c (c.took run f) s x y fs gs p l q' k' in
    cc
