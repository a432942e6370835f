-- Which frames were asked of each link in a call.
use Rattle.std.proofs.Common.{◌≡◌, ℕ, List, [], ◌∷◌, ◌++◌, append_assoc, map, Option, None, Some, refl, ap, sym, ◌∙◌, subst, inl, inr}
use Rattle.dory_base.specs.declared.ids.Side.{Side}
use Rattle.dory_base.specs.declared.ids.Side.TheVariants.{Lead, Follow}
use Rattle.dory_wire.specs.declared.message.Request.{Request}
use Rattle.dory_link.specs.Told.{Heard, Talk}
use Rattle.dory_cli.specs.Line.{line_of}
use Rattle.dory_state.specs.declared.kept.KeptState.{KeptState}
use Rattle.dory_member.specs.declared.outcome.Fault.TheVariants as fault
use Rattle.dory_member.specs.declared.outcome.Outcome.TheVariants.{Failed}
use Rattle.dory_member.specs.declared.phase.Run.{Run}
use Rattle.dory_member.specs.Course.{Ask, Put, asked_of, asks, put_at, ask_request, took}
use Rattle.dory_drive.specs.declared.broken.Broken.{Broken}
use Rattle.dory_drive.specs.declared.broken.Broken.TheVariants as broken
use Rattle.dory_drive.specs.Asked.{AskedFrames, GrewBy, Misses, request_frame, spoke, unspoken}
use Rattle.dory_drive.specs.Course.{run_after as driven_run}
use Rattle.dory_drive.specs.Driven.{AskFailed, Finished, FirstSaveFailed, LastSaveFailed, RanOut}
use Rattle.dory_drive.specs.Member.{member_course, put_of}
use Rattle.dory_drive.specs.Scene.{AskedNothing, Scene}
use Rattle.dory_drive.proofs.Growth.{asked_on, grew_none}
use Rattle.dory_drive.specs.Way.{scene_links, ExchangedOver, Links, PutUnanswered, UnansweredOver}
use Rattle.dory_client.specs.declared.start.Todo.{Todo}
use Rattle.dory_client.specs.declared.end.ClientEnd.{ClientEnd}
use Rattle.dory_client.specs.declared.end.ClientEnd.TheVariants as ends
use Rattle.dory_client.specs.CallAsks.{AsksInAll, Nothing, InTurn, Asks, HasAsked, CallAsks, heard_by, put_to}
use Rattle.dory_client.specs.CallEffects.{IsBegun}
use Rattle.dory_client.specs.CommandEnds.{CommandEnds, BrokeOff, CommandFailed, CommandTold, ExchangedBetween}
use Rattle.dory_client.specs.Ends.{broken_end, fault_end, kind_of}
use Rattle.dory_client.specs.Run.{IsRun}
use Rattle.dory_client.specs.Scene.{Input, met}
use Rattle.dory_client.specs.Way.{RunExchanged, ExchangedInTurn}
use Rattle.dory_client.proofs.Acting.{BeginsOrNot, FirstOrNot, at_break, by_words}
use Rattle.dory_client.proofs.WayLaws.{at_end, lost_bad, lost_fails, same_run, saved}

-- ---- exchanges that grow

abbrev frames_to : Side → List Put → List (List ℕ)
frames_to s puts = map request_frame (put_to s puts)

asked_none : (x : Option (List Talk)) → AskedFrames x x []
asked_none x = ([], grew_none x, refl)

-- ---- one ask

-- what one put adds to what is put to a side
one_put : (s t : Side) (r : Request) (puts : List Put) → frames_to s ((t, r) ∷ puts) ≡ frames_to s ((t, r) ∷ []) ++ frames_to s puts
one_put Lead Lead r puts = refl
one_put Lead Follow r puts = refl
one_put Follow Lead r puts = refl
one_put Follow Follow r puts = refl

same_asked : (x y : Heard) → y ≡ x → AskedFrames x.exchanges y.exchanges []
same_asked x y same = subst (λ (h : Heard). AskedFrames x.exchanges h.exchanges []) (sym same) (asked_none x.exchanges)

one_asked : (s t : Side) (a n : Links) (r : Request) (frame : List ℕ) → ExchangedOver t a n r frame → AskedFrames (heard_by s a).exchanges (heard_by s n).exchanges (frames_to s ((t, r) ∷ []))
one_asked Lead Lead a n r frame (ask, same) = (spoke r frame ∷ [], ask.grew, refl)
one_asked Lead Follow a n r frame (same, ask) = same_asked a.lead n.lead same
one_asked Follow Lead a n r frame (ask, same) = same_asked a.follow n.follow same
one_asked Follow Follow a n r frame (same, ask) = (spoke r frame ∷ [], ask.grew, refl)

-- ---- what was put of what a run puts

-- of these frames the first were asked of a side
pub record Part (s : Side) (frames : List (List ℕ)) (a z : Links) (rest : List (List ℕ)) : Type 0 where
  pub first : List (List ℕ)
  pub are : frames ≡ first ++ rest
  pub asked : AskedFrames (heard_by s a).exchanges (heard_by s z).exchanges first

turned_part : (s : Side) (run : Run) (o : Option Ask) (puts : List Put) (a n z : Links) (frame : List ℕ) (rest : List (List ℕ)) → RunExchanged run o a n frame → Part s (frames_to s puts) n z rest → Part s (frames_to s (put_at run o ++ puts)) a z rest
turned_part s run None puts a n z frame rest turned p = absurd turned
turned_part s run (Some ask) puts a n z frame rest over p =
    let one : List (List ℕ) = frames_to s ((ask.side, ask_request run ask) ∷ []) in
    record {
      first = one ++ p.first;
      are = one_put s ask.side (ask_request run ask) puts ∙ ap (λ (v : List (List ℕ)). one ++ v) p.are ∙ sym (append_assoc one p.first rest);
      asked = asked_on (heard_by s a).exchanges (heard_by s n).exchanges (heard_by s z).exchanges one p.first (one_asked s ask.side a n (ask_request run ask) frame over) p.asked;
    }

-- a run that went on by these replies, and then put a part of what it puts next
went_part : (s : Side) (run : Run) (came : List (List ℕ)) (a m z : Links) (rest : List (List ℕ)) → ExchangedInTurn run came a m → Part s (frames_to s (put_at (driven_run member_course run came) (asks (driven_run member_course run came).phase))) m z rest → Part s (frames_to s (asked_of run came)) a z rest
went_part s run [] a m z rest same p = subst (λ (l : Links). Part s (frames_to s (put_at run (asks run.phase))) l z rest) same p
went_part s run (f ∷ came) a m z rest (n, turned, more) p = turned_part s run (asks run.phase) (asked_of (took run f) came) a n z f rest turned (went_part s (took run f) came n m z rest more p)

none_part : (s : Side) (frames : List (List ℕ)) (z : Links) → Part s frames z z frames
none_part s frames z = record { first = []; are = refl; asked = asked_none (heard_by s z).exchanges }

same_part : (s : Side) (frames : List (List ℕ)) (x y : Links) → heard_by s y ≡ heard_by s x → Part s frames x y frames
same_part s frames x y same = record { first = []; are = refl; asked = same_asked (heard_by s x) (heard_by s y) same }

-- what was tried of one frame: it was asked or it wasn't
abbrev Tried : List ℕ → Option (List Talk) → Option (List Talk) → Type 0
Tried f before now = (rest : List (List ℕ)) × (first : List (List ℕ)) × (f ∷ [] ≡ first ++ rest) × AskedFrames before now first

tried_none : (r : Request) (before now : Option (List Talk)) (more : List Talk) → more ≡ [] → GrewBy before now more → Tried (request_frame r) before now
tried_none r before now more is grew = (request_frame r ∷ [], [], refl, ([], subst (GrewBy before now) is grew, refl))

tried_one : (r : Request) (before now : Option (List Talk)) (more : List Talk) → more ≡ unspoken r ∷ [] → GrewBy before now more → Tried (request_frame r) before now
tried_one r before now more is grew = ([], request_frame r ∷ [], refl, (unspoken r ∷ [], subst (GrewBy before now) is grew, refl))

tried_part : (b : Broken) (r : Request) (before now : Option (List Talk)) (more : List Talk) → Misses b r more → GrewBy before now more → Tried (request_frame r) before now
tried_part (broken.LinkFault s) r before now more is grew = tried_one r before now more is grew
tried_part broken.NoMemory r before now more (inl is) grew = tried_none r before now more is grew
tried_part broken.NoMemory r before now more (inr is) grew = tried_one r before now more is grew
tried_part broken.KeeperFault r before now more is grew = absurd is

stuck_part : (s t : Side) (r : Request) (m z : Links) (b : Broken) → UnansweredOver t m z r b → (rest : List (List ℕ)) × Part s (frames_to s ((t, r) ∷ [])) m z rest
stuck_part Lead Lead r m z b (u, same) =
    let t = tried_part b r m.lead.exchanges z.lead.exchanges u.more u.misses u.grew in
    (t.0, record { first = t.1; are = t.2; asked = t.3 })
stuck_part Lead Follow r m z b (same, u) = ([], same_part Lead [] m z same)
stuck_part Follow Lead r m z b (u, same) = ([], same_part Follow [] m z same)
stuck_part Follow Follow r m z b (same, u) =
    let t = tried_part b r m.follow.exchanges z.follow.exchanges u.more u.misses u.grew in
    (t.0, record { first = t.1; are = t.2; asked = t.3 })

stuck_puts : (s : Side) (run : Run) (o : Option Ask) (m z : Links) (b : Broken) → PutUnanswered (put_of run o) m z b → (rest : List (List ℕ)) × Part s (frames_to s (put_at run o)) m z rest
stuck_puts s run None m z b stuck = absurd stuck
stuck_puts s run (Some ask) m z b stuck = stuck_part s ask.side (ask_request run ask) m z b stuck.0

-- ---- how a command goes on

-- something may be left to ask where a conversation broke off, and where memory ran out
broke_left : (b : Broken) → HasAsked (kind_of (broken_end b)) → ⊥
broke_left broken.KeeperFault has = has
broke_left _ has = has

as_asks : (run : Run) (came : List (List ℕ)) (s : Side) (a z : Links) (end : ClientEnd) (rest : List (List ℕ)) → Part s (frames_to s (asked_of run came)) a z rest → (HasAsked (kind_of end) → rest ≡ []) → Asks run came s a z end
as_asks run came s a z end rest p whole = record { frames = p.first; rest = rest; are = p.are; asked = p.asked; whole = whole }

-- a command that asks nothing more has asked all
ended_asks : (run : Run) (came : List (List ℕ)) (s : Side) (a z : Links) (end : ClientEnd) → ExchangedInTurn run came a z → asks (driven_run member_course run came).phase ≡ None → Asks run came s a z end
ended_asks run came s a z end went ended =
    let last : Run = driven_run member_course run came in
    let none : frames_to s (put_at last (asks last.phase)) ≡ [] = ap (λ (x : Option Ask). frames_to s (put_at last x)) ended in
    as_asks run came s a z end [] (went_part s run came a z z [] went (subst (λ (v : List (List ℕ)). Part s v z z []) (sym none) (none_part s [] z))) (λ has. refl)

goes_asks : (t : Todo) (seed : List ℕ) (i i' : Input) (a z : Scene) (end : ClientEnd) (k : KeptState) (r : Run) → IsBegun t seed (met i a) (met i' z) k r → CommandEnds r a z end → AsksInAll t seed (met i a) (met i' z) end
goes_asks t seed i i' a z end k r begun goes = by goes
  where
    all : (frames : List (List ℕ)) → ExchangedBetween r frames a z → asks (driven_run member_course r frames).phase ≡ None → AsksInAll t seed (met i a) (met i' z) end
    all frames went none = InTurn k r frames begun (λ has. subst (λ (x : Run). asks x.phase ≡ None) (same_run r frames) none) (λ s. ended_asks r frames s (scene_links a) (scene_links z) end went none)

    stopped : (x : ClientEnd) → end ≡ x → (HasAsked (kind_of x) → ⊥) → HasAsked (kind_of end) → ⊥
    stopped x is left has = left (subst (λ (e : ClientEnd). HasAsked (kind_of e)) is has)

    some : (frames : List (List ℕ)) → (HasAsked (kind_of end) → ⊥) → ((s : Side) → (rest : List (List ℕ)) × Part s (frames_to s (asked_of r frames)) (scene_links a) (scene_links z) rest) → AsksInAll t seed (met i a) (met i' z) end
    some frames left parts = InTurn k r frames begun (λ has. absurd (left has)) (λ s. as_asks r frames s (scene_links a) (scene_links z) end (parts s).0 (parts s).1 (λ has. absurd (left has)))

    by : CommandEnds r a z end → AsksInAll t seed (met i a) (met i' z) end
    by (BrokeOff b (FirstSaveFailed asked kept save) w is) = Nothing asked (at_break end b is)
    by (BrokeOff b (AskFailed broke kept) w is) = some broke.frames (stopped (broken_end b) is (broke_left b)) (λ s.
        let last : Run = driven_run member_course r broke.frames in
        let p = stuck_puts s last (asks last.phase) broke.between (scene_links z) b broke.stuck in
        (p.0, went_part s r broke.frames (scene_links a) broke.between (scene_links z) p.0 broke.went p.1))
    by (BrokeOff b (LastSaveFailed frames went saving kept save) w is) = all frames went (at_end _ _ (saved _ saving).1)
    by (CommandFailed f (RanOut earlier frame went lost kept) w is) =
        let failed : Failed f ≡ Failed fault.NoMemory = lost_fails (Failed f) lost in
        let same : f ≡ fault.NoMemory = cc in
        let last : Run = driven_run member_course r (earlier ++ frame ∷ []) in
        some (earlier ++ frame ∷ []) (stopped ends.NoMemory (is ∙ ap fault_end same) (λ h. h)) (λ s.
        (frames_to s (put_at last (asks last.phase)), went_part s r (earlier ++ frame ∷ []) (scene_links a) (scene_links z) (scene_links z) _ went (none_part s _ (scene_links z))))
    by (CommandFailed f (Finished frames went ended kept) w is) = all frames went (at_end _ _ ended)
    by (CommandTold o good (RanOut earlier frame went lost kept) says) = lost_bad o lost good
    by (CommandTold o good (Finished frames went ended kept) says) = all frames went (at_end _ o ended)

-- ---- a whole call

begun_asks : (t : Todo) (seed : List ℕ) (i i' : Input) (a z : Scene) (end : ClientEnd) → BeginsOrNot t seed i i' a z end → AsksInAll t seed (met i a) (met i' z) end
begun_asks t seed i i' a z end (inl (u, quiet)) = Nothing u.asked quiet.silent
begun_asks t seed i i' a z end (inr (k, r, begun, goes)) = goes_asks t seed i i' a z end k r begun goes

first_asks : (first : KeptState) (a z : Scene) (end : ClientEnd) → FirstOrNot first a z end → AskedNothing a z
first_asks first a z end (inl (u, quiet)) = u.asked
first_asks first a z end (inr (asked, b)) = asked

-- what a call asks
pub puts : (words : List (List ℕ)) (seed : List ℕ) (i i' : Input) (a z : Scene) (end : ClientEnd) → IsRun words seed (met i a) (met i' z) end → CallAsks words seed (met i a) (met i' z) end
puts words seed i i' a z end run =
    by_words (line_of words) seed i i' a z end (λ first. AskedNothing a z) (λ t. AsksInAll t seed (met i a) (met i' z) end) (AskedNothing a z) (λ first. first_asks first a z end) (λ t. begun_asks t seed i i' a z end) (λ still. still.0.asked) run
