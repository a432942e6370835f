-- What a link tells grows, from each moment to the next.
use Rattle.std.proofs.Common.{◌≡◌, ℕ, List, [], ◌∷◌, ◌++◌, append_assoc, append-nil, map, Option, None, Some, refl, ap, sym, subst, ◌∙◌}
use Rattle.std.proofs.lemmas.List.{map-append}
use Rattle.dory_base.specs.declared.entry.Entry.{Entry}
use Rattle.dory_base.specs.History.{IsPrefix}
use Rattle.dory_wire.specs.declared.message.Request.{Request}
use Rattle.dory_link.specs.Told.{Grown, Grows, Heard, Talk, Told}
use Rattle.dory_base.specs.declared.ids.Side.{Side}
use Rattle.dory_base.specs.declared.ids.Side.TheVariants.{Lead, Follow}
use Rattle.dory_member.specs.Course.{Put}
use Rattle.dory_drive.specs.Asked.{AskedFrames, FrameCame, Exchanged, Grew, GrewBy, spoke}
use Rattle.dory_drive.specs.Course.{Course, run_after}
use Rattle.dory_drive.specs.Way.{ExchangedInTurn, ExchangedOver, Links, PutAnswered, link_at}

-- ---- the exchanges

pub grew_none : (x : Option (List Talk)) → GrewBy x x []
grew_none None = tt
grew_none (Some talks) = sym (append-nil talks)

pub grew_on : (a b c : Option (List Talk)) (x y : List Talk) → GrewBy a b x → GrewBy b c y → GrewBy a c (x ++ y)
grew_on None None None x y p q = tt
grew_on (Some a) (Some b) (Some c) x y p q = q ∙ ap (λ (v : List Talk). v ++ y) p ∙ append_assoc a x y
grew_on None (Some b) c x y p q = absurd p
grew_on (Some a) None c x y p q = absurd p
grew_on _ _ _ x y p q = absurd q

pub asked_on : (a b c : Option (List Talk)) (x y : List (List ℕ)) → AskedFrames a b x → AskedFrames b c y → AskedFrames a c (x ++ y)
asked_on a b c x y (m, grew, are) (n, grew', are') = (
  m ++ n,
  grew_on a b c m n grew grew',
  map-append (λ (t : Talk). t.request) m n ∙ ap (λ (v : List (List ℕ)). v ++ map (λ (t : Talk). t.request) n) are ∙ ap (λ (v : List (List ℕ)). x ++ v) are',
)

-- ---- the folders

pub prefix_of : (a b c : List Entry) → IsPrefix a b → IsPrefix b c → IsPrefix a c
prefix_of a b c (xs, p) (ys, q) = (xs ++ ys, q ∙ ap (λ (v : List Entry). v ++ ys) p ∙ append_assoc a xs ys)

grown_same : (t : Option Told) → Grown t t
grown_same None = tt
grown_same (Some t) = record { shape = refl; retained = refl; history = ([], sym (append-nil t.history)) }

pub grows_same : (f : Option (ℕ → Option Told)) → Grows f f
grows_same None = tt
grows_same (Some f) = λ folder. grown_same (f folder)

grown_twice : (a b c : Option Told) → Grown a b → Grown b c → Grown a c
grown_twice None None c p q = q
grown_twice (Some a) (Some b) (Some c) p q = record { shape = q.shape ∙ p.shape; retained = q.retained ∙ p.retained; history = prefix_of a.history b.history c.history p.history q.history }
grown_twice (Some a) (Some b) None p q = absurd q
grown_twice _ _ c p q = absurd p

pub grows_twice : (a b c : Option (ℕ → Option Told)) → Grows a b → Grows b c → Grows a c
grows_twice None None c p q = q
grows_twice (Some a) (Some b) (Some c) p q = λ folder. grown_twice (a folder) (b folder) (c folder) (p folder) (q folder)
grows_twice (Some a) (Some b) None p q = absurd q
grows_twice _ _ c p q = absurd p

-- ---- a link

grew_same : (x : Heard) → Grew x x
grew_same x = record { more = []; grew = grew_none x.exchanges; grown = grows_same x.folders }

grew_twice : (x y z : Heard) → Grew x y → Grew y z → Grew x z
grew_twice x y z p q = record { more = p.more ++ q.more; grew = grew_on x.exchanges y.exchanges z.exchanges p.more q.more p.grew q.grew; grown = grows_twice x.folders y.folders z.folders p.grown q.grown }

asked_grew : (x y : Heard) (r : Request) (f : List ℕ) → Exchanged x y r f → Grew x y
asked_grew x y r f ask = record { more = spoke r f ∷ []; grew = ask.grew; grown = ask.grown }

-- what came to the second of two asks
pub came_second : (a b c : Heard) (r s : Request) (f g : List ℕ) → Exchanged a b r f → Exchanged b c s g → FrameCame a c s g
came_second a b c r s f g first second = record { asking = b; answered = c; earlier = asked_grew a b r f first; asked = second; later = grew_same c }

-- ---- a conversation

stays : (x y : Heard) → y ≡ x → Grew x y
stays x y same = subst (Grew x) (sym same) (grew_same x)

pub over_grew : (s t : Side) (a z : Links) (r : Request) (f : List ℕ) → ExchangedOver t a z r f → Grew (link_at s a) (link_at s z)
over_grew Lead Lead a z r f (ask, same) = asked_grew a.lead z.lead r f ask
over_grew Lead Follow a z r f (same, ask) = stays a.lead z.lead same
over_grew Follow Lead a z r f (ask, same) = stays a.follow z.follow same
over_grew Follow Follow a z r f (same, ask) = asked_grew a.follow z.follow r f ask

put_grew : (s : Side) (o : Option Put) (a z : Links) (f : List ℕ) → PutAnswered o a z f → Grew (link_at s a) (link_at s z)
put_grew s None a z f put = absurd put
put_grew s (Some p) a z f put = over_grew s p.0 a z p.1 f put

-- its way only makes what each link tells grow
pub went_grew : {R O : Type 0} (c : Course R O) (s : Side) (run : R) (frames : List (List ℕ)) (a z : Links) → ExchangedInTurn c run frames a z → Grew (link_at s a) (link_at s z)
went_grew c s run [] a z same = subst (λ (l : Links). Grew (link_at s a) (link_at s l)) (sym same) (grew_same (link_at s a))
went_grew c s run (f ∷ frames) a z (m, put, more) = grew_twice (link_at s a) (link_at s m) (link_at s z) (put_grew s (c.asks run) a m f put) (went_grew c s (c.took run f) frames m z more)

over_asked : (s : Side) (a z : Links) (r : Request) (f : List ℕ) → ExchangedOver s a z r f → Exchanged (link_at s a) (link_at s z) r f
over_asked Lead a z r f over = over.0
over_asked Follow a z r f over = over.1

-- each of its frames came to what was asked when those before it had come
pub came_in : {R O : Type 0} (c : Course R O) (s : Side) (r : Request) (run : R) (earlier later : List (List ℕ)) (frame : List ℕ) (a z : Links) → c.asks (run_after c run earlier) ≡ Some (s, r) → ExchangedInTurn c run (earlier ++ frame ∷ later) a z
    → FrameCame (link_at s a) (link_at s z) r frame
came_in c s r run [] later frame a z asks (m, put, more) = record {
  asking = link_at s a;
  answered = link_at s m;
  earlier = grew_same (link_at s a);
  asked = over_asked s a m r frame (subst (λ (o : Option Put). PutAnswered o a m frame) asks put);
  later = went_grew c s (c.took run frame) later m z more;
}
came_in c s r run (f ∷ earlier) later frame a z asks (m, put, more) =
    let came = came_in c s r (c.took run f) earlier later frame m z asks more in
    record { asking = came.asking; answered = came.answered; earlier = grew_twice (link_at s a) (link_at s m) came.asking (put_grew s (c.asks run) a m f put) came.earlier; asked = came.asked; later = came.later }
