-- Each event keeps that few posts are made: of one member and one epoch at most 65,536, and no more than the member counts.
use Rattle.std.proofs.Common.{◌≡◌, ℕ, suc, ◌+◌, ◌*◌, ◌/◌, ◌^◌, ◌≤◌, ◌<◌, ◌≢◌, Bool, true, false, List, [], ◌∷◌, ◌++◌, refl, ap, sym, ◌∙◌, arith, subst, ◌⊎◌, inl, inr}
use Rattle.std.specs.Prelude.{◌==◌, ◌&&◌, Option, Some, None, IfSome, AllPairs, if◌then◌else◌, slice_get, slice_set}
use Rattle.std.specs.List.{AllByRecursion}
use Rattle.std.proofs.lemmas.Bool.{cases_eq, and_parts, eqb-true, eq-eqb, false≢true}
use Rattle.std.proofs.lemmas.List.Elements.{recursion_from_All}
use Rattle.dory_base.specs.Log.{same_id}
use Rattle.dory_base.specs.declared.entry.Entry.{Entry}
use Rattle.dory_base.specs.declared.ids.MemberId.{MemberId}
use Rattle.dory_base.specs.declared.ids.UpdateId.{UpdateId}
use Rattle.dory_base.proofs.LogLaws.{get_set_same, get_set_other}
use Rattle.dory_base.proofs.SameLaws.{same_id-true}
use Rattle.dory_seal.specs.Epoch.{epoch_of}
use Rattle.dory_state.specs.declared.kept.KeptState.{KeptState}
use Rattle.dory_member.specs.declared.command.Command.{Command}
use Rattle.dory_member.specs.declared.outcome.Outcome.{Outcome}
use Rattle.dory_member.specs.declared.outcome.Outcome.TheVariants.{Posted, Removed, Accepted, NothingPending, Lengths, Rotated, Failed}
use Rattle.dory_member.specs.declared.phase.Phase.{Phase}
use Rattle.dory_member.specs.declared.phase.Phase.TheVariants.{Updating, Measuring, Searching, Ended}
use Rattle.dory_member.specs.declared.phase.Run.{Run}
use Rattle.dory_member.specs.declared.phase.UpdateStep.TheVariants.{StageFollow}
use Rattle.dory_member.specs.Course.{asking, ended_with, entry_of, finished, kept_at, new_update, phase_after, posting, removing, took}
use Rattle.dory_member.specs.Draw.{drawn, epoch_in, is_used_up, ready, turned}
use Rattle.dory_run.specs.declared.event.Event.{Event}
use Rattle.dory_run.specs.declared.event.Honest.{Honest}
use Rattle.dory_run.specs.declared.setup.Setup.{Setup}
use Rattle.dory_run.specs.Happening.{Happened, gone_on, makes, settled, station_at}
use Rattle.dory_run.specs.Kept.{IsGood, IsKnown, IsStation, IsStored, next_in, next_of}
use Rattle.dory_run.specs.Law.{IsMade, count_posts, is_post, is_post_in, kept_in, made_as, one}
use Rattle.dory_run.specs.World.{Station, Idle, Busy, World}
use Rattle.dory_run.proofs.Good.{next_phase, next_settled}
use Rattle.dory_run.proofs.Lists.{all_map, get_within, some_at, some_map}
use Rattle.dory_run.proofs.Moves.{Moves, Begins, Carries, Lies, Quits, Refuses, Returns}
use Rattle.dory_run.proofs.Starts.{Measures, Posts, Removes, Rests, Resumes, Rotates, Searches, Starts, ready_is, starts}

-- ---- a history has no more of a kind than were made

-- no id twice
abbrev IsOnce : List Entry → Type 0
IsOnce [] = Unit {0}
IsOnce (e ∷ es) = AllByRecursion (λ x. e.id ≢ x.id) es × IsOnce es

once_from : (es : List Entry) → AllPairs (λ a b. a.id ≢ b.id) es → IsOnce es
once_from [] h = tt
once_from (e ∷ es) h = (recursion_from_All (λ x. e.id ≢ x.id) es (λ k d lt. h 0 (suc k) d (omega arith) (omega (arith, lt))), once_from es (λ i j d lt low. h (suc i) (suc j) d (omega (arith, lt)) (omega (arith, low))))

abbrev leave : Bool → Entry → List Entry → List Entry
leave true x xs = xs
leave false x xs = x ∷ xs

-- a list without this id
abbrev without : UpdateId → List Entry → List Entry
without id [] = []
without id (x ∷ xs) = leave (same_id id x.id) x (without id xs)

left_all : (P : Entry → Type 0) (b : Bool) (x : Entry) (xs : List Entry) → P x → AllByRecursion P xs → AllByRecursion P (leave b x xs)
left_all P true x xs p all = all
left_all P false x xs p all = (p, all)

without_all : (P : Entry → Type 0) (id : UpdateId) (xs : List Entry) → AllByRecursion P xs → AllByRecursion P (without id xs)
without_all P id [] all = tt
without_all P id (x ∷ xs) all = left_all P (same_id id x.id) x (without id xs) all.0 (without_all P id xs all.1)

left_once : (b : Bool) (x : Entry) (xs : List Entry) → AllByRecursion (λ y. x.id ≢ y.id) xs → IsOnce xs → IsOnce (leave b x xs)
left_once true x xs p h = h
left_once false x xs p h = (p, h)

without_once : (id : UpdateId) (xs : List Entry) → IsOnce xs → IsOnce (without id xs)
without_once id [] h = tt
without_once id (x ∷ xs) h = left_once (same_id id x.id) x (without id xs) (without_all (λ y. x.id ≢ y.id) id xs h.0) (without_once id xs h.1)

absent_if : (b : Bool) (x : Entry) (xs : List Entry) → (b ≡ true → ⊥) → leave b x xs ≡ x ∷ xs
absent_if true x xs never = absurd (never refl)
absent_if false x xs never = refl

absent : (id : UpdateId) (xs : List Entry) → AllByRecursion (λ y. id ≢ y.id) xs → without id xs ≡ xs
absent id [] all = refl
absent id (x ∷ xs) all = absent_if (same_id id x.id) x (without id xs) (λ e. all.0 (same_id-true id x.id e)) ∙ ap (λ (l : List Entry). x ∷ l) (absent id xs all.1)

module _ (m epoch : ℕ) where
  made_if : (b : Bool) (e x : Entry) (made : List Entry) → (if b then Some e else made_as made x.id) ≡ Some x → (b ≡ true → e ≡ x) × (b ≡ false → made_as made x.id ≡ Some x)
  made_if true e x made is = ((λ q. cc), (λ q. absurd (false≢true (sym q))))
  made_if false e x made is = ((λ q. absurd (false≢true q)), (λ q. is))

  less_if : (b : Bool) (e x : Entry) (xs : List Entry) → (b ≡ true → e ≡ x) → (b ≡ true → without e.id xs ≡ xs) → (count_posts m epoch) xs ≤ (count_posts m epoch) (without e.id xs) + one (is_post_in m epoch e)
      → (count_posts m epoch) (x ∷ xs) ≤ (count_posts m epoch) (leave b x (without e.id xs)) + one (is_post_in m epoch e)
  less_if true e x xs is gone le =
      let a : one (is_post_in m epoch e) ≡ one (is_post_in m epoch x) = ap (λ (y : Entry). one (is_post_in m epoch y)) (is refl) in
      let b : (count_posts m epoch) (without e.id xs) ≡ (count_posts m epoch) xs = ap (count_posts m epoch) (gone refl) in
      omega (arith, a, b)
  less_if false e x xs is gone le = omega (arith, le)

  less : (e : Entry) (made xs : List Entry) → IsOnce xs → AllByRecursion (IsMade (e ∷ made)) xs → (count_posts m epoch) xs ≤ (count_posts m epoch) (without e.id xs) + one (is_post_in m epoch e)
  less e made [] once all = omega arith
  less e made (x ∷ xs) once all =
      let p = made_if (same_id e.id x.id) e x made all.0 in
      less_if (same_id e.id x.id) e x xs p.0
      (λ b. absent e.id xs (subst (λ (i : UpdateId). AllByRecursion (λ y. i ≢ y.id) xs) (sym (same_id-true e.id x.id b)) once.0)) (less e made xs once.1 all.1)

  left_made : (b : Bool) (e x : Entry) (made xs : List Entry) → (b ≡ false → IsMade made x) → AllByRecursion (IsMade made) xs → AllByRecursion (IsMade made) (leave b x xs)
  left_made true e x made xs is all = all
  left_made false e x made xs is all = (is refl, all)

  rest_made : (e : Entry) (made xs : List Entry) → AllByRecursion (IsMade (e ∷ made)) xs → AllByRecursion (IsMade made) (without e.id xs)
  rest_made e made [] all = tt
  rest_made e made (x ∷ xs) all = left_made (same_id e.id x.id) e x made (without e.id xs) (made_if (same_id e.id x.id) e x made all.0).1 (rest_made e made xs all.1)

  at_most : (made xs : List Entry) → IsOnce xs → AllByRecursion (IsMade made) xs → (count_posts m epoch) xs ≤ (count_posts m epoch) made
  at_most [] [] once all = omega arith
  at_most [] (x ∷ xs) once all = absurd (let e : ◌≡◌ {A = Option Entry} None (Some x) = all.0 in cc)
  at_most (e ∷ made) xs once all =
      omega (arith, less e made xs once all, at_most made (without e.id xs) (without_once e.id xs once) (rest_made e made xs all))

  -- a history of made updates has at most as many posts as were made
  pub history_few : (made history : List Entry) → AllPairs (λ a b. a.id ≢ b.id) history → AllByRecursion (IsMade made) history → count_posts m epoch history ≤ count_posts m epoch made
  history_few made history distinct all = at_most made history (once_from history distinct) all

-- ---- what a member counts

pub record Counted (made : List Entry) (m next used : ℕ) : Type 0 where
  pub all : (epoch : ℕ) → count_posts m epoch made ≤ 65536
  pub now : count_posts m (epoch_in next) made ≤ used

abbrev pub IsCounted : List Station → List Entry → Type 0
IsCounted members made = (m : ℕ) → IfSome (slice_get members m) (λ x. Counted made m (kept_in x).next_serial (kept_in x).used)

-- the serials of a member are at most this
abbrev UpTo : ℕ → ℕ → Entry → Type 0
UpTo m next e = e.id.member.0 ≡ m → e.id.serial ≤ next

post_parts : (m epoch : ℕ) (e : Entry) → is_post_in m epoch e ≡ true → (e.id.member.0 ≡ m) × (epoch_of e.id ≡ epoch)
post_parts m epoch e h =
    let p = and_parts (is_post e.change) ((e.id.member.0 == m) && (epoch_of e.id == epoch)) h in
    let q = and_parts (e.id.member.0 == m) (epoch_of e.id == epoch) p.1 in
    (eqb-true e.id.member.0 m q.0, eqb-true (epoch_of e.id) epoch q.1)

none_if : (b : Bool) → (b ≡ true → ⊥) → one b ≡ 0
none_if true never = absurd (never refl)
none_if false never = refl

one_low : (b : Bool) → one b ≤ 1
one_low true = omega arith
one_low false = omega arith

early : (a b c : ℕ) → a ≤ b → b / 2 ^ 56 < c → a / 2 ^ 56 ≡ c → ⊥
early a b c le lt e = omega (arith, le, lt, e)

none_later : (m next epoch : ℕ) (made : List Entry) → AllByRecursion (UpTo m next) made → epoch_in next < epoch → count_posts m epoch made ≡ 0
none_later m next epoch [] all lt = refl
none_later m next epoch (e ∷ made) all lt =
    let a : one (is_post_in m epoch e) ≡ 0 = none_if (is_post_in m epoch e) (λ h. let p = post_parts m epoch e h in early e.id.serial next epoch (all.0 p.0) lt p.1) in
    omega (arith, a, none_later m next epoch made all.1 lt)

later_epoch : (n n' : ℕ) → n ≤ n' → n / 2 ^ 56 ≤ n' / 2 ^ 56
later_epoch n n' le = omega (arith, le)

-- a later serial
counted_later : (made : List Entry) (m next used next' used' : ℕ) → AllByRecursion (UpTo m next) made → next ≤ next' → (epoch_in next' ≡ epoch_in next → used ≤ used') → Counted made m next used → Counted made m next' used'
counted_later made m next used next' used' all le same c = record { all = c.all; now = by (cases_eq (epoch_in next') (epoch_in next)) }
  where
    above : (a b : ℕ) → a ≤ b → (b ≡ a → ⊥) → a < b
    above a b low other = omega (arith, low, other)

    by : ((epoch_in next' ≡ epoch_in next) ⊎ (epoch_in next' ≡ epoch_in next → ⊥)) → count_posts m (epoch_in next') made ≤ used'
    by (inl e) = subst (λ (i : ℕ). count_posts m i made ≤ used') (sym e) (omega (arith, c.now, same e))
    by (inr ne) = let z = none_later m next (epoch_in next') made all (above (epoch_in next) (epoch_in next') (later_epoch next next' le) ne) in omega (arith, z)

-- one more post, which is counted
counted_post : (made : List Entry) (m next used : ℕ) (e : Entry) → e.id.serial ≡ next → used < 65536 → Counted made m next used → Counted (e ∷ made) m next (used + 1)
counted_post made m next used e is few c = record { all = each; now = omega (arith, c.now, one_low (is_post_in m (epoch_in next) e)) }
  where
    by : (epoch : ℕ) (b : Bool) → is_post_in m epoch e ≡ b → one b + count_posts m epoch made ≤ 65536
    by epoch true h =
        let p = post_parts m epoch e h in
        let q : epoch_in next ≡ epoch = ap epoch_in (sym is) ∙ p.1 in
        let r : count_posts m epoch made ≤ used = subst (λ (i : ℕ). count_posts m i made ≤ used) q c.now in
        omega (arith, r, few)
    by epoch false h = omega (arith, c.all epoch)

    each : (epoch : ℕ) → count_posts m epoch (e ∷ made) ≤ 65536
    each epoch = by epoch (is_post_in m epoch e) refl

-- what isn't a post of the member
counted_other : (made : List Entry) (m next used : ℕ) (e : Entry) → ((epoch : ℕ) → is_post_in m epoch e ≡ true → ⊥) → Counted made m next used → Counted (e ∷ made) m next used
counted_other made m next used e never c = record {
  all = λ epoch. omega (arith, none_if (is_post_in m epoch e) (never epoch), c.all epoch);
  now = omega (arith, none_if (is_post_in m (epoch_in next) e) (never (epoch_in next)), c.now);
}

-- one member changes
counted_set : (xs : List Station) (m : ℕ) (x y : Station) (made made' : List Entry) → slice_get xs m ≡ Some x → ((i next used : ℕ) → (m ≡ i → ⊥) → Counted made i next used → Counted made' i next used)
    → Counted made' m (kept_in y).next_serial (kept_in y).used → IsCounted xs made → IsCounted (slice_set xs m y) made'
counted_set xs m x y made made' here others new old i = by (cases_eq m i)
  where
    by : ((m ≡ i) ⊎ (m ≡ i → ⊥)) → IfSome (slice_get (slice_set xs m y) i) (λ z. Counted made' i (kept_in z).next_serial (kept_in z).used)
    by (inl q) = subst (λ (i : ℕ). IfSome (slice_get (slice_set xs m y) i) (λ z. Counted made' i (kept_in z).next_serial (kept_in z).used)) q
        (subst (λ (o : Option Station). IfSome o (λ z. Counted made' m (kept_in z).next_serial (kept_in z).used)) (sym (get_set_same xs m y (get_within xs m x here))) new)
    by (inr ne) = subst (λ (o : Option Station). IfSome o (λ z. Counted made' i (kept_in z).next_serial (kept_in z).used)) (sym (get_set_other xs m i y ne))
        (some_map (λ z. Counted made i (kept_in z).next_serial (kept_in z).used) (λ z. Counted made' i (kept_in z).next_serial (kept_in z).used) (slice_get xs i) (λ z c. others i (kept_in z).next_serial (kept_in z).used ne c) (old i))

used_settled : (run : Run) (p : Phase) → (kept_in (station_at run p)).used ≡ run.kept.used
used_settled run (Updating e at) = refl
used_settled run (Measuring word lead) = refl
used_settled run (Searching q lead) = refl
used_settled run (Ended outcome) = refl

used_finished : (k : KeptState) (o : Outcome) → (finished k o).used ≡ k.used
used_finished k (Posted doc n) = refl
used_finished k (Removed doc n) = refl
used_finished k (Accepted answer) = refl
used_finished k NothingPending = refl
used_finished k (Lengths lead follow seen) = refl
used_finished k (Rotated epoch) = refl
used_finished k (Failed f) = refl

used_phase : (k : KeptState) (p : Phase) → (kept_at k p).used ≡ k.used
used_phase k (Updating e at) = refl
used_phase k (Measuring word lead) = refl
used_phase k (Searching q lead) = refl
used_phase k (Ended outcome) = used_finished k outcome

as_settled : (made : List Entry) (m : ℕ) (run : Run) → Counted made m run.kept.next_serial run.kept.used → Counted made m (kept_in (settled run)).next_serial (kept_in (settled run)).used
as_settled made m run c =
    subst (λ (n : ℕ). Counted made m n (kept_in (settled run)).used) (sym (next_settled run run.phase)) (subst (λ (u : ℕ). Counted made m run.kept.next_serial u) (sym (used_settled run run.phase)) c)

kept_if : (b : Bool) (u : ℕ) → (b ≡ false → ⊥) → u ≤ (if b then u else 0)
kept_if true u never = omega arith
kept_if false u never = absurd (never refl)

not_false : (a b : ℕ) → a ≡ b → (a == b) ≡ false → ⊥
not_false a b e f = false≢true (sym f ∙ eq-eqb a b e)

counted_drawn : (made : List Entry) (m : ℕ) (k : KeptState) (used : ℕ) → AllByRecursion (UpTo m k.next_serial) made → Counted made m k.next_serial used → Counted made m (drawn k used).next_serial (drawn k used).used
counted_drawn made m k used all c =
    counted_later made m k.next_serial used (k.next_serial + 1) (drawn k used).used all (omega arith)
    (λ e. kept_if (epoch_in (k.next_serial + 1) == epoch_in k.next_serial) used (not_false (epoch_in (k.next_serial + 1)) (epoch_in k.next_serial) e)) c

turn_next : (n : ℕ) → n ≤ (n / 2 ^ 56 + 1) * 2 ^ 56
turn_next n = omega arith

turn_other : (n : ℕ) → ((n / 2 ^ 56 + 1) * 2 ^ 56) / 2 ^ 56 ≡ n / 2 ^ 56 → ⊥
turn_other n e = omega (arith, e)

counted_turned : (made : List Entry) (m : ℕ) (k : KeptState) → AllByRecursion (UpTo m k.next_serial) made → Counted made m k.next_serial k.used → Counted made m (turned k).next_serial (turned k).used
counted_turned made m k all c = counted_later made m k.next_serial k.used (turned k).next_serial 0 all (turn_next k.next_serial) (λ e. absurd (turn_other k.next_serial e)) c

counted_ready : (made : List Entry) (m : ℕ) (k : KeptState) (b : Bool) → AllByRecursion (UpTo m k.next_serial) made → Counted made m k.next_serial k.used → Counted made m (if b then turned k else k).next_serial (if b then turned k else k).used
counted_ready made m k true all c = counted_turned made m k all c
counted_ready made m k false all c = c

up_to_more : (m n n' : ℕ) (made : List Entry) → n ≤ n' → AllByRecursion (UpTo m n) made → AllByRecursion (UpTo m n') made
up_to_more m n n' made le all = all_map (UpTo m n) (UpTo m n') made (λ e h own. omega (arith, h own, le)) all

module _ (s : Setup) (w : World) (made : List Entry) (g : IsGood s w made) (c : IsCounted w.members made) where
  up_to : (m : ℕ) (x : Station) → slice_get w.members m ≡ Some x → AllByRecursion (UpTo m (kept_in x).next_serial) made
  up_to m x here = all_map (IsKnown s w.members) (UpTo m (kept_in x).next_serial) made
      (λ e k own. let b : e.id.serial < next_of w.members m = subst (λ (i : ℕ). e.id.serial < next_of w.members i) own k.below in
      let n : next_of w.members m ≡ (kept_in x).next_serial = ap next_in here in omega (arith, b, n)) g.known

  counted_at : (m : ℕ) (x : Station) → slice_get w.members m ≡ Some x → Counted made m (kept_in x).next_serial (kept_in x).used
  counted_at m x here = some_at (λ z. Counted made m (kept_in z).next_serial (kept_in z).used) (slice_get w.members m) x here (c m)

  -- nothing new is made
  counted_on : (m : MemberId) (x : Station) (run : Run) → slice_get w.members m.0 ≡ Some x → Counted made m.0 run.kept.next_serial run.kept.used → IsCounted (gone_on w m run).members made
  counted_on m x run here n = counted_set w.members m.0 x (settled run) made made here (λ i next used ne h. h) (as_settled made m.0 run n) c

  apart : (m : ℕ) (e : Entry) (i : ℕ) → e.id.member.0 ≡ m → (m ≡ i → ⊥) → (epoch : ℕ) → is_post_in i epoch e ≡ true → ⊥
  apart m e i own ne epoch h = ne (sym own ∙ (post_parts i epoch e h).0)

  counted_new : (m : MemberId) (x : Station) (run : Run) (e : Entry) → slice_get w.members m.0 ≡ Some x → e.id.member.0 ≡ m.0 → Counted (e ∷ made) m.0 run.kept.next_serial run.kept.used → IsCounted (gone_on w m run).members (e ∷ made)
  counted_new m x run e here own n =
      counted_set w.members m.0 x (settled run) made (e ∷ made) here (λ i next used ne h. counted_other made i next used e (apart m.0 e i own ne) h) (as_settled (e ∷ made) m.0 run n) c

  ready_own : (k : KeptState) (m : ℕ) (b : Bool) → k.member.0 ≡ m → (if b then turned k else k).member.0 ≡ m
  ready_own k m true own = own
  ready_own k m false own = own

  ready_later : (k : KeptState) (b : Bool) → k.next_serial ≤ (if b then turned k else k).next_serial
  ready_later k true = turn_next k.next_serial
  ready_later k false = omega arith

  counted_started : (m : MemberId) (cmd : Command) (k : KeptState) (seed : List ℕ) (run : Run) → slice_get w.members m.0 ≡ Some (Idle k) → Starts k seed cmd run → IsCounted (gone_on w m run).members (makes cmd run ++ made)
  counted_started m cmd k seed run here (Resumes p is pends l e) =
      let f = counted_on m (Idle k) (asking k seed k.used (Updating (entry_of k p) StageFollow)) here (counted_drawn made m.0 k k.used (up_to m.0 (Idle k) here) (counted_at m.0 (Idle k) here)) in
      subst (λ (run : Run). IsCounted (gone_on w m run).members (makes cmd run ++ made)) e
      (subst (λ (cmd : Command). IsCounted (gone_on w m (asking k seed k.used (Updating (entry_of k p) StageFollow))).members (makes cmd (asking k seed k.used (Updating (entry_of k p) StageFollow)) ++ made)) (sym is) f)
  counted_started m cmd k seed run here (Searches word is l e) =
      let f = counted_on m (Idle k) (asking k seed k.used (Measuring (Some word) None)) here (counted_drawn made m.0 k k.used (up_to m.0 (Idle k) here) (counted_at m.0 (Idle k) here)) in
      subst (λ (run : Run). IsCounted (gone_on w m run).members (makes cmd run ++ made)) e
      (subst (λ (cmd : Command). IsCounted (gone_on w m (asking k seed k.used (Measuring (Some word) None))).members (makes cmd (asking k seed k.used (Measuring (Some word) None)) ++ made)) (sym is) f)
  counted_started m cmd k seed run here (Measures is l e) =
      let f = counted_on m (Idle k) (asking k seed k.used (Measuring None None)) here (counted_drawn made m.0 k k.used (up_to m.0 (Idle k) here) (counted_at m.0 (Idle k) here)) in
      subst (λ (run : Run). IsCounted (gone_on w m run).members (makes cmd run ++ made)) e
      (subst (λ (cmd : Command). IsCounted (gone_on w m (asking k seed k.used (Measuring None None))).members (makes cmd (asking k seed k.used (Measuring None None)) ++ made)) (sym is) f)
  counted_started m cmd k seed run here (Posts doc row is l e r) =
      let q : IsStored s made m.0 k = some_at (IsStation s made m.0) (slice_get w.members m.0) (Idle k) here (g.members m.0) in
      let y = ready_is s made m.0 k (is_used_up k) refl q l e in
      let x = entry_of (ready k) (new_update (ready k) doc (Some row)) in
      let own : x.id.member.0 ≡ m.0 = ready_own k m.0 (is_used_up k) (ap (λ (i : MemberId). i.0) q.member) in
      let all = up_to m.0 (Idle k) here in
      let a = counted_ready made m.0 k (is_used_up k) all (counted_at m.0 (Idle k) here) in
      let b = counted_post made m.0 (ready k).next_serial (ready k).used x refl y.used a in
      let more : AllByRecursion (UpTo m.0 (ready k).next_serial) (x ∷ made) = ((λ o. omega arith), up_to_more m.0 k.next_serial (ready k).next_serial made (ready_later k (is_used_up k)) all) in
      let d = counted_drawn (x ∷ made) m.0 (ready k) ((ready k).used + 1) more b in
      let f = counted_new m (Idle k) (posting (ready k) seed doc row) x here own d in
      subst (λ (run : Run). IsCounted (gone_on w m run).members (makes cmd run ++ made)) r
      (subst (λ (cmd : Command). IsCounted (gone_on w m (posting (ready k) seed doc row)).members (makes cmd (posting (ready k) seed doc row) ++ made)) (sym is) f)
  counted_started m cmd k seed run here (Removes doc is l e) =
      let q : IsStored s made m.0 k = some_at (IsStation s made m.0) (slice_get w.members m.0) (Idle k) here (g.members m.0) in
      let x = entry_of k (new_update k doc None) in
      let own : x.id.member.0 ≡ m.0 = ap (λ (i : MemberId). i.0) q.member in
      let all = up_to m.0 (Idle k) here in
      let b = counted_other made m.0 k.next_serial k.used x (λ epoch h. false≢true h) (counted_at m.0 (Idle k) here) in
      let more : AllByRecursion (UpTo m.0 k.next_serial) (x ∷ made) = ((λ o. omega arith), all) in
      let f = counted_new m (Idle k) (removing k seed doc) x here own (counted_drawn (x ∷ made) m.0 k k.used more b) in
      subst (λ (run : Run). IsCounted (gone_on w m run).members (makes cmd run ++ made)) e
      (subst (λ (cmd : Command). IsCounted (gone_on w m (removing k seed doc)).members (makes cmd (removing k seed doc) ++ made)) (sym is) f)
  counted_started m cmd k seed run here (Rests is e) =
      let f = counted_on m (Idle k) (ended_with k seed NothingPending) here (counted_at m.0 (Idle k) here) in
      subst (λ (run : Run). IsCounted (gone_on w m run).members (makes cmd run ++ made)) e
      (subst (λ (cmd : Command). IsCounted (gone_on w m (ended_with k seed NothingPending)).members (makes cmd (ended_with k seed NothingPending) ++ made)) (sym is) f)
  counted_started m cmd k seed run here (Rotates is l e) =
      let f = counted_on m (Idle k) (ended_with (turned k) seed (Rotated (epoch_in (turned k).next_serial))) here (counted_turned made m.0 k (up_to m.0 (Idle k) here) (counted_at m.0 (Idle k) here)) in
      subst (λ (run : Run). IsCounted (gone_on w m run).members (makes cmd run ++ made)) e
      (subst (λ (cmd : Command). IsCounted (gone_on w m (ended_with (turned k) seed (Rotated (epoch_in (turned k).next_serial)))).members (makes cmd (ended_with (turned k) seed (Rotated (epoch_in (turned k).next_serial))) ++ made)) (sym is) f)

  took_counted : (m : MemberId) (run : Run) (frame : List ℕ) → slice_get w.members m.0 ≡ Some (Busy run) → Counted made m.0 (took run frame).kept.next_serial (took run frame).kept.used
  took_counted m run frame here =
      subst (λ (n : ℕ). Counted made m.0 n (took run frame).kept.used) (sym (next_phase run.kept (phase_after run run.phase frame)))
      (subst (λ (u : ℕ). Counted made m.0 run.kept.next_serial u) (sym (used_phase run.kept (phase_after run run.phase frame))) (counted_at m.0 (Busy run) here))

  pub counted_move : (h : Honest) (e : Event) (t : Happened) → Moves h s w e t → IsCounted t.world.members (t.made ++ made)
  counted_move h e t (Refuses m f x is idle eq) = subst (λ (t : Happened). IsCounted t.world.members (t.made ++ made)) eq c
  counted_move h e t (Begins m cmd k run is here fit b eq) = subst (λ (t : Happened). IsCounted t.world.members (t.made ++ made)) eq (counted_started m cmd k _ run here (starts k _ cmd run b))
  counted_move h e t (Carries i side request is here eq) = subst (λ (t : Happened). IsCounted t.world.members (t.made ++ made)) eq c
  counted_move h e t (Returns i side m frame run a is came here q same eq) =
      subst (λ (t : Happened). IsCounted t.world.members (t.made ++ made)) eq (counted_on m (Busy run) (took run frame) here (took_counted m run frame here))
  counted_move h e t (Lies side m frame never l bytes eq) = subst (λ (t : Happened). IsCounted t.world.members (t.made ++ made)) eq c
  counted_move h e t (Quits m run is here eq) =
      subst (λ (t : Happened). IsCounted t.world.members (t.made ++ made)) eq
      (counted_set w.members m.0 (Busy run) (Idle run.kept) made made here (λ i next used ne h. h) (counted_at m.0 (Busy run) here) c)

  -- few posts were made of any member in any epoch
  none_of : (m epoch : ℕ) (es : List Entry) → slice_get w.members m ≡ None → AllByRecursion (IsKnown s w.members) es → count_posts m epoch es ≡ 0
  none_of m epoch [] gone all = refl
  none_of m epoch (e ∷ es) gone all =
      let a : one (is_post_in m epoch e) ≡ 0 = none_if (is_post_in m epoch e)
      (λ h. let own = (post_parts m epoch e h).0 in
      let b : e.id.serial < next_of w.members m = subst (λ (i : ℕ). e.id.serial < next_of w.members i) own all.0.below in
      let z : next_of w.members m ≡ 0 = ap next_in gone in omega (arith, b, z)) in
      omega (arith, a, none_of m epoch es gone all.1)

  made_few_at : (m epoch : ℕ) (o : Option Station) → slice_get w.members m ≡ o → count_posts m epoch made ≤ 65536
  made_few_at m epoch None is = omega (arith, none_of m epoch made is g.known)
  made_few_at m epoch (Some x) is = (counted_at m x is).all epoch

  pub made_few : (m epoch : ℕ) → count_posts m epoch made ≤ 65536
  made_few m epoch = made_few_at m epoch (slice_get w.members m) refl
