-- What was named stays so while a world goes on, and a new ask has a new name.
use Rattle.std.proofs.Common.{◌≡◌, ℕ, ◌≤◌, ◌<◌, Bool, true, false, List, [], ◌∷◌, ◌++◌, refl, ap, sym, ◌∙◌, arith, subst, ◌⊎◌, inl, inr}
use Rattle.std.specs.Prelude.{◌==◌, ◌&&◌, Option, Some, None, IfSome, if◌then◌else◌, slice_get, slice_set}
use Rattle.std.specs.List.{AllByRecursion}
use Rattle.std.proofs.lemmas.Bool.{cases_eq, and_parts, eqb-true, eq-eqb, and_from}
use Rattle.dory_base.specs.declared.ids.AskId.{AskId}
use Rattle.dory_base.specs.declared.ids.MemberId.{MemberId}
use Rattle.dory_base.specs.declared.ids.Side.{Side}
use Rattle.dory_base.specs.declared.ids.Side.TheVariants.{Lead}
use Rattle.dory_base.proofs.LogLaws.{get_set_same, get_set_other}
use Rattle.dory_wire.specs.declared.message.Request.{Request}
use Rattle.dory_verify.specs.Checks.{same_ask}
use Rattle.dory_query.specs.declared.query.Query.{Query}
use Rattle.dory_member.specs.declared.phase.Phase.{Phase}
use Rattle.dory_member.specs.declared.phase.Phase.TheVariants.{Updating, Measuring, Searching, Ended}
use Rattle.dory_member.specs.declared.phase.Run.{Run}
use Rattle.dory_member.specs.Course.{Ask, ask_request, asks, name, to}
use Rattle.dory_run.specs.declared.event.Honest.{Honest}
use Rattle.dory_run.specs.Happening.{gone_on, puts, settled, station_at}
use Rattle.dory_run.specs.Kept.{next_in, next_of}
use Rattle.dory_run.specs.Law.{kept_in}
use Rattle.dory_run.specs.Named.{AskAt, From, FrameFrom, IsNamed, IsNamedMessage, IsNamedPhase, IsNamedStation, IsPut, IsSought, IsWordGiven, asked_as, to_follow, to_lead}
use Rattle.dory_run.specs.Run.{Given, command_of}
use Rattle.dory_run.specs.World.{Station, Idle, Busy, Message, Asked, Replied, World, folder_of}
use Rattle.dory_run.proofs.Folders.{Later, later_refl, tells_later}
use Rattle.dory_run.proofs.Good.{folders_as, next_more, next_settled}
use Rattle.dory_run.proofs.Lists.{all_append, all_map, get_within, some_map}

-- ---- names

pub same_ask-true : (a b : AskId) → same_ask a b ≡ true → a ≡ b
same_ask-true a b e =
    let p = and_parts ((a.member.0 == b.member.0) && (a.serial == b.serial)) (a.step == b.step) e in
    let q = and_parts (a.member.0 == b.member.0) (a.serial == b.serial) p.0 in
    ap (λ (m : ℕ). record { member = record { 0 = m }; serial = a.serial; step = a.step }) (eqb-true a.member.0 b.member.0 q.0)
    ∙ ap (λ (n : ℕ). record { member = b.member; serial = n; step = a.step }) (eqb-true a.serial b.serial q.1)
    ∙ ap (λ (n : ℕ). record { member = b.member; serial = b.serial; step = n }) (eqb-true a.step b.step p.1)

same_ask_refl : (a : AskId) → same_ask a a ≡ true
same_ask_refl a = and_from ((a.member.0 == a.member.0) && (a.serial == a.serial)) (a.step == a.step)
    (and_from (a.member.0 == a.member.0) (a.serial == a.serial) (eq-eqb a.member.0 a.member.0 refl) (eq-eqb a.serial a.serial refl)) (eq-eqb a.step a.step refl)

found_if : (b : Bool) (x y : Ask) (o o' : Option Ask) → (o ≡ Some y → o' ≡ Some y) → (if b then Some x else o) ≡ Some y → (if b then Some x else o') ≡ Some y
found_if true x y o o' h e = e
found_if false x y o o' h e = h e

-- what was found stays found
pub found_later : (xs ys : List Message) (n : AskId) (a : Ask) → asked_as xs n ≡ Some a → asked_as (xs ++ ys) n ≡ Some a
found_later [] ys n a e = absurd (cc)
found_later (Replied side m frame ∷ xs) ys n a e = found_later xs ys n a e
found_later (Asked side request ∷ xs) ys n a e =
    found_if (same_ask request.ask n) (to side request.want) a (asked_as xs n) (asked_as (xs ++ ys) n) (found_later xs ys n a) e

-- no ask has this name
abbrev Apart : AskId → Message → Type 0
Apart n (Asked side request) = request.ask ≡ n → ⊥
Apart n (Replied side m frame) = Unit {0}

found_if_apart : (b : Bool) (x y : Ask) (o : Option Ask) → (b ≡ true → ⊥) → o ≡ Some y → (if b then Some x else o) ≡ Some y
found_if_apart true x y o h e = absurd (h refl)
found_if_apart false x y o h e = e

found_new : (xs : List Message) (side : Side) (request : Request) → AllByRecursion (Apart request.ask) xs → asked_as (xs ++ Asked side request ∷ []) request.ask ≡ Some (to side request.want)
found_new [] side request h = ap (λ (b : Bool). if b then Some (to side request.want) else None) (same_ask_refl request.ask)
found_new (Replied s m frame ∷ xs) side request h = found_new xs side request h.1
found_new (Asked s r ∷ xs) side request h =
    found_if_apart (same_ask r.ask request.ask) (to s r.want) (to side request.want) (asked_as (xs ++ Asked side request ∷ []) request.ask)
    (λ e. h.0 (same_ask-true r.ask request.ask e)) (found_new xs side request h.1)

-- ---- later worlds

pub record Grown (w v : World) : Type 0 where
  pub more : List Message
  pub messages : v.messages ≡ w.messages ++ more
  pub folders : (side : Side) → Later (folder_of w side) (folder_of v side)

pub same_folders : (w v : World) → v.lead ≡ w.lead → v.follow ≡ w.follow → (side : Side) → Later (folder_of w side) (folder_of v side)
same_folders w v l f = folders_as (λ side g. Later (folder_of w side) g) w v l f (λ side. later_refl (folder_of w side))

pub grown_by : (w v : World) (more : List Message) → v.messages ≡ w.messages ++ more → v.lead ≡ w.lead → v.follow ≡ w.follow → Grown w v
grown_by w v more m l f = record { more = more; messages = m; folders = same_folders w v l f }

pub ask_later : (w v : World) → Grown w v → (n : AskId) (a : Ask) → asked_as w.messages n ≡ Some a → asked_as v.messages n ≡ Some a
ask_later w v g n a e = subst (λ (l : List Message). asked_as l n ≡ Some a) (sym g.messages) (found_later w.messages g.more n a e)

pub from_later : (w v : World) → Grown w v → (side : Side) (frame : List ℕ) → From w.messages (folder_of w side) side frame → From v.messages (folder_of v side) side frame
from_later w v g side frame f = record {
  reply = f.reply;
  came = f.came;
  want = f.want;
  put = ask_later w v g f.reply.ask (to side f.want) f.put;
  tells = tells_later (folder_of w side) (folder_of v side) f.want f.reply.what (g.folders side) f.tells;
}

module _ (h : Honest) where
  pub frame_later : (w v : World) → Grown w v → (side : Side) (frame : List ℕ) → FrameFrom h w side frame → FrameFrom h v side frame
  frame_later w v g side frame f = λ honest. from_later w v g side frame (f honest)

  word_later : (given given' : List Given) (i : ℕ) (word : Option (List ℕ)) → command_of given' i ≡ command_of given i → IsWordGiven given i word → IsWordGiven given' i word
  word_later given given' i None e a = tt
  word_later given given' i (Some word) e a = e ∙ a

  sought_later : (given given' : List Given) (i : ℕ) (run : Run) (q : Query) → command_of given' i ≡ command_of given i → IsSought given i run q → IsSought given' i run q
  sought_later given given' i run q e a = record { word = a.word; searches = e ∙ a.searches; asked = a.asked }

  phase_later : (w v : World) → Grown w v → (given given' : List Given) (i : ℕ) → command_of given' i ≡ command_of given i → (run : Run) (p : Phase) → IsNamedPhase h w given i run p → IsNamedPhase h v given' i run p
  phase_later w v g given given' i e run (Updating x at) a = tt
  phase_later w v g given given' i e run (Measuring word None) a = (a.0, word_later given given' i word e a.1)
  phase_later w v g given given' i e run (Measuring word (Some lead)) a = (a.0, word_later given given' i word e a.1, frame_later w v g Lead lead a.2)
  phase_later w v g given given' i e run (Searching q None) a = (a.0, sought_later given given' i run q e a.1, ask_later w v g (name run 2) (to_lead q) a.2)
  phase_later w v g given given' i e run (Searching q (Some lead)) a =
      (a.0, sought_later given given' i run q e a.1, ask_later w v g (name run 2) (to_lead q) a.2, ask_later w v g (name run 3) (to_follow q) a.3, frame_later w v g Lead lead a.4)
  phase_later w v g given given' i e run (Ended o) a = tt

  pub station_later : (w v : World) → Grown w v → (given given' : List Given) (i : ℕ) → command_of given' i ≡ command_of given i → (x : Station) → IsNamedStation h w given i x → IsNamedStation h v given' i x
  station_later w v g given given' i e (Idle k) a = tt
  station_later w v g given given' i e (Busy run) a = record { member = a.member; serial = a.serial; phase = phase_later w v g given given' i e run run.phase a.phase }

  -- only messages and folders change
  pub message_later : (w v : World) → Grown w v → v.members ≡ w.members → (x : Message) → IsNamedMessage h w x → IsNamedMessage h v x
  message_later w v g e (Asked side request) a = record {
    found = ask_later w v g request.ask (to side request.want) a.found;
    old = subst (λ (l : List Station). request.ask.serial < next_of l request.ask.member.0) (sym e) a.old;
    current = λ run here. a.current run (subst (λ (l : List Station). slice_get l request.ask.member.0 ≡ Some (Busy run)) e here);
  }
  message_later w v g e (Replied side m frame) a = frame_later w v g side frame a

  pub replied_named : (w v : World) (given : List Given) → Grown w v → v.members ≡ w.members → (side : Side) (m : MemberId) (frame : List ℕ)
      → v.messages ≡ w.messages ++ Replied side m frame ∷ [] → FrameFrom h v side frame → IsNamed h w given → IsNamed h v given
  replied_named w v given g e side m frame q f n = record {
    messages = subst (λ (l : List Message). AllByRecursion (IsNamedMessage h v) l) (sym q)
        (all_append (IsNamedMessage h v) w.messages (Replied side m frame ∷ [])
        (all_map (IsNamedMessage h w) (IsNamedMessage h v) w.messages (message_later w v g e) n.messages) (f, tt));
    members = λ i. subst (λ (l : List Station). IfSome (slice_get l i) (IsNamedStation h v given i)) (sym e)
        (some_map (IsNamedStation h w given i) (IsNamedStation h v given i) (slice_get w.members i) (station_later w v g given given i refl) (n.members i));
  }

-- ---- a member goes on

-- its next name is new
pub record IsNewer (w : World) (m : ℕ) (run : Run) : Type 0 where
  pub above : (side : Side) (request : Request) → IsPut w side request → request.ask.member.0 ≡ m → run.serial ≡ request.ask.serial → request.ask.step < run.step

message_apart : (h : Honest) (w : World) (m : ℕ) (run : Run) → run.kept.member.0 ≡ m → IsNewer w m run → (x : Message) → IsNamedMessage h w x → Apart (name run run.step) x
message_apart h w m run e newer (Asked side request) a = λ same.
    let mm : request.ask.member.0 ≡ m = ap (λ (n : AskId). n.member.0) same ∙ e in
    let ss : run.serial ≡ request.ask.serial = sym (ap (λ (n : AskId). n.serial) same) in
    let tt' : request.ask.step ≡ run.step = ap (λ (n : AskId). n.step) same in
    omega (arith, newer.above side request a mm ss, tt')
message_apart h w m run e newer (Replied side j frame) a = tt

-- a station that is busy with a run is where that run settled
busy_is : (run run' : Run) (p : Phase) → station_at run p ≡ Busy run' → run ≡ run'
busy_is run run' (Updating e at) q = cc
busy_is run run' (Measuring word lead) q = cc
busy_is run run' (Searching s lead) q = cc
busy_is run run' (Ended o) q = absurd (cc)

pub gone_grown : (w : World) (m : MemberId) (run : Run) → Grown w (gone_on w m run)
gone_grown w m run = grown_by w (gone_on w m run) (puts run (asks run.phase)) refl refl refl

module _ (h : Honest) (w : World) (given given' : List Given) (m : MemberId) (x : Station) (run : Run) (here : slice_get w.members m.0 ≡ Some x)
    (next : (kept_in x).next_serial ≤ run.kept.next_serial) (own : run.kept.member.0 ≡ m.0) (drawn : run.serial < run.kept.next_serial) (newer : IsNewer w m.0 run)
    (others : (i : ℕ) → (m.0 ≡ i → ⊥) → command_of given' i ≡ command_of given i) (n : IsNamed h w given) where
  set_here : slice_get (slice_set w.members m.0 (settled run)) m.0 ≡ Some (settled run)
  set_here = get_set_same w.members m.0 (settled run) (get_within w.members m.0 x here)

  current_gone : (side : Side) (request : Request) → IsPut w side request → (run' : Run) → slice_get (slice_set w.members m.0 (settled run)) request.ask.member.0 ≡ Some (Busy run') →
      run'.serial ≡ request.ask.serial → request.ask.step ≤ run'.step
  current_gone side request a run' there same = by_case (cases_eq m.0 request.ask.member.0)
    where
      by_case : ((m.0 ≡ request.ask.member.0) ⊎ (m.0 ≡ request.ask.member.0 → ⊥)) → request.ask.step ≤ run'.step
      by_case (inl q) =
          let there' : slice_get (slice_set w.members m.0 (settled run)) m.0 ≡ Some (Busy run') = subst (λ (i : ℕ). slice_get (slice_set w.members m.0 (settled run)) i ≡ Some (Busy run')) (sym q) there in
          let stands : station_at run run.phase ≡ Busy run' = let l : slice_get (slice_set w.members m.0 (settled run)) m.0 ≡ Some (settled run) = set_here in cc in
          let eq : run ≡ run' = busy_is run run' run.phase stands in
          let lt = newer.above side request a (sym q) (ap (λ (r : Run). r.serial) eq ∙ same) in
          let st : run.step ≡ run'.step = ap (λ (r : Run). r.step) eq in
          omega (arith, lt, st)
      by_case (inr ne) = a.current run' (sym (get_set_other w.members m.0 request.ask.member.0 (settled run) ne) ∙ there) same

  message_gone : (y : Message) → IsNamedMessage h w y → IsNamedMessage h (gone_on w m run) y
  message_gone (Asked side request) a = record {
    found = ask_later w (gone_on w m run) (gone_grown w m run) request.ask (to side request.want) a.found;
    old = omega (arith, a.old, next_more w.members m.0 x (settled run) here (omega (arith, next, next_settled run run.phase)) request.ask.member.0);
    current = current_gone side request a;
  }
  message_gone (Replied side j frame) a = frame_later h w (gone_on w m run) (gone_grown w m run) side frame a

  all_apart : AllByRecursion (Apart (name run run.step)) w.messages
  all_apart = all_map (IsNamedMessage h w) (Apart (name run run.step)) w.messages (message_apart h w m.0 run own newer) n.messages

  puts_named : (o : Option Ask) → o ≡ asks run.phase → AllByRecursion (IsNamedMessage h (gone_on w m run)) (puts run o)
  puts_named None q = tt
  puts_named (Some a) q = (
    record {
      found = subst (λ (o : Option Ask). asked_as (w.messages ++ puts run o) (name run run.step) ≡ Some a) q (found_new w.messages a.side (ask_request run a) all_apart);
      old = subst (λ (i : ℕ). run.serial < next_of (slice_set w.members m.0 (settled run)) i) (sym own)
          (let e : next_of (slice_set w.members m.0 (settled run)) m.0 ≡ (kept_in (settled run)).next_serial = ap next_in set_here in
          omega (arith, e, next_settled run run.phase, drawn));
      current = λ run' there same.
          let there' : slice_get (slice_set w.members m.0 (settled run)) m.0 ≡ Some (Busy run') = subst (λ (i : ℕ). slice_get (slice_set w.members m.0 (settled run)) i ≡ Some (Busy run')) own there in
          let l : slice_get (slice_set w.members m.0 (settled run)) m.0 ≡ Some (settled run) = set_here in
          let stands : station_at run run.phase ≡ Busy run' = cc in
          let st : run.step ≡ run'.step = ap (λ (r : Run). r.step) (busy_is run run' run.phase stands) in
          omega (arith, st);
    },
    tt,
  )

  -- the ask that was put is found by its name
  pub put_found : (a : Ask) → asks run.phase ≡ Some a → AskAt (gone_on w m run) run run.step a
  put_found a q = subst (λ (o : Option Ask). asked_as (w.messages ++ puts run o) (name run run.step) ≡ Some a) (sym q) (found_new w.messages a.side (ask_request run a) all_apart)

  settled_named : (p : Phase) → IsNamedPhase h (gone_on w m run) given' m.0 run run.phase → IsNamedStation h (gone_on w m run) given' m.0 (station_at run p)
  settled_named (Updating e at) a = record { member = own; serial = drawn; phase = a }
  settled_named (Measuring word lead) a = record { member = own; serial = drawn; phase = a }
  settled_named (Searching q lead) a = record { member = own; serial = drawn; phase = a }
  settled_named (Ended o) a = tt

  pub gone_named : IsNamedPhase h (gone_on w m run) given' m.0 run run.phase → IsNamed h (gone_on w m run) given'
  gone_named a = record {
    messages = all_append (IsNamedMessage h (gone_on w m run)) w.messages (puts run (asks run.phase))
        (all_map (IsNamedMessage h w) (IsNamedMessage h (gone_on w m run)) w.messages message_gone n.messages) (puts_named (asks run.phase) refl);
    members = member_at;
  }
    where
      member_at : (i : ℕ) → IfSome (slice_get (slice_set w.members m.0 (settled run)) i) (IsNamedStation h (gone_on w m run) given' i)
      member_at i = by_case (cases_eq m.0 i)
        where
          by_case : ((m.0 ≡ i) ⊎ (m.0 ≡ i → ⊥)) → IfSome (slice_get (slice_set w.members m.0 (settled run)) i) (IsNamedStation h (gone_on w m run) given' i)
          by_case (inl q) = subst (λ (i : ℕ). IfSome (slice_get (slice_set w.members m.0 (settled run)) i) (IsNamedStation h (gone_on w m run) given' i)) q
              (subst (λ (o : Option Station). IfSome o (IsNamedStation h (gone_on w m run) given' m.0)) (sym set_here) (settled_named run.phase a))
          by_case (inr ne) = subst (λ (o : Option Station). IfSome o (IsNamedStation h (gone_on w m run) given' i)) (sym (get_set_other w.members m.0 i (settled run) ne))
              (some_map (IsNamedStation h w given i) (IsNamedStation h (gone_on w m run) given' i) (slice_get w.members i) (station_later h w (gone_on w m run) (gone_grown w m run) given given' i (others i ne)) (n.members i))
