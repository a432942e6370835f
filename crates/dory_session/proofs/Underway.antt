-- How a session begins, goes on by a message, and ends.
use Rattle.std.proofs.Common.{◌≡◌, ◌∙◌, ℕ, ◌+◌, ◌≤◌, ◌<◌, List, [], ◌∷◌, ◌++◌, length, take, Option, Some, Ok, inl, inr, refl, sym, ap, subst, arith, append_assoc, append-nil}
use Rattle.std.specs.Io.KnownBytes.{Appends}
use Rattle.std.proofs.KnownBytes.{Appends-nil, Appends-trans}
use Rattle.std.specs.List.{AllByRecursion, concat}
use Rattle.std.proofs.lemmas.List.{length_push, take_at}
use Rattle.dory_wire.specs.Frame.{frame_of}
use Rattle.dory_wire.specs.Cut.{Cut as WholeCut, IsMessage, frames_of, front_of, cut_of}
use Rattle.dory_wire.proofs.Cuts.{front_frame, cut_frames}
use Rattle.dory_io.specs.Causes.{HasCause}
use Rattle.dory_session.specs.declared.end.How.{How}
use Rattle.dory_session.specs.declared.end.How.TheVariants.{Ended, Cut, Length, Kind, Body, Trailing, InputFault, OutputFault, Limit, NoMemory}
use Rattle.dory_domain.specs.Answered.{Steps}
use Rattle.dory_session.specs.Ends.{Stops, Breaks, IsEnd, IsLimited}
use Rattle.dory_io.specs.Bytes.{BytesRead}
use Rattle.dory_session.specs.Session.{Around, around, IsUnderway, IsSession}
use Rattle.dory_io.proofs.Coming.{none_came, more_came}
use Rattle.dory_session.proofs.Coming.{stops_before}
use Rattle.dory_session.proofs.Answering.{one_more_answered, frames_more, concat_more, messages_more}

pub begun : {V : Type 0} (steps : Steps V) (a : Around V) → IsUnderway steps a a 0 [] [] []
begun steps a = record {
  came = none_came a.left a.given;
  each = tt;
  wrote = Appends-nil a.written;
  replied = refl;
  count = refl;
}

-- the same is seen and the same was written, where more of the input came
abbrev pub further : {V : Type 0} → Around V → Option (List ℕ) → ℕ → Around V
further a left given = around a.seen left given a.written

-- what came before, and then more
came_on : {V : Type 0} (steps : Steps V) (before now : Around V) (answered : ℕ) (held : List ℕ) (messages frames : List (List ℕ)) (left : Option (List ℕ)) (given : ℕ) (bytes : List ℕ) → IsUnderway steps before now answered held messages frames → BytesRead now.left left now.given given bytes → BytesRead before.left left before.given given (frames_of messages ++ (held ++ bytes))
came_on steps before now answered held messages frames left given bytes u more =
    subst (BytesRead before.left left before.given given) (append_assoc (frames_of messages) held bytes) (more_came before.left now.left left before.given now.given given (frames_of messages ++ held) bytes u.came more)

-- a message came whole, and was answered
pub gone_on : {V : Type 0} (steps : Steps V) (before now : Around V) (answered : ℕ) (held : List ℕ) (messages frames : List (List ℕ)) (seen : V) (left written : Option (List ℕ)) (given : ℕ) (bytes message rest frame : List ℕ) → IsUnderway steps before now answered held messages frames → BytesRead now.left left now.given given bytes → IsMessage message → held ++ bytes ≡ frame_of message ++ rest → Appends now.written written frame → steps now.seen message frame seen → IsUnderway steps before (around seen left given written) (answered + 1) rest (messages ++ message ∷ []) (frames ++ frame ∷ [])
gone_on steps before now answered held messages frames seen left written given bytes message rest frame u more is parts wrote replied =
    let all : frames_of messages ++ (held ++ bytes) ≡ frames_of (messages ++ message ∷ []) ++ rest = ap (λ b. frames_of messages ++ b) parts ∙ sym (append_assoc (frames_of messages) (frame_of message) rest) ∙ ap (λ b. b ++ rest) (sym (frames_more messages message)) in
    record {
      came = subst (BytesRead before.left left before.given given) all (came_on steps before now answered held messages frames left given bytes u more);
      each = messages_more messages message u.each is;
      wrote = subst (Appends before.written written) (sym (concat_more frames frame)) (Appends-trans before.written now.written written (concat frames) frame u.wrote wrote);
      replied = one_more_answered steps before.seen now.seen seen messages frames message frame u.replied replied;
      count = ap (λ n. n + 1) u.count ∙ sym (length_push frames frame);
    }

stops_end : {V : Type 0} (steps : Steps V) (how : How) (answered : ℕ) (rest : List ℕ) (a c : Option (List ℕ)) (seen : V) → Stops how rest a c → IsEnd steps how answered rest a c seen [] seen
stops_end steps Ended answered rest a c seen s = (s, (refl, refl))
stops_end steps (Cut held) answered rest a c seen s = (s, (refl, refl))
stops_end steps (Length n) answered rest a c seen s = (s, (refl, refl))
stops_end steps (Kind b) answered rest a c seen s = absurd s
stops_end steps (Body at) answered rest a c seen s = absurd s
stops_end steps (Trailing at) answered rest a c seen s = absurd s
stops_end steps InputFault answered rest a c seen s = (s, (refl, refl))
stops_end steps OutputFault answered rest a c seen s = absurd s
stops_end steps Limit answered rest a c seen s = absurd s
stops_end steps NoMemory answered rest a c seen s = inl (refl, refl)

-- messages are the first that their frames are cut into, however those go on
first_of_cut : (messages : List (List ℕ)) (rest : List ℕ) → AllByRecursion IsMessage messages → messages ≡ take (length messages) (cut_of (frames_of messages ++ rest)).messages
first_of_cut messages rest all =
    sym (ap (λ (c : WholeCut). take (length messages) c.messages) (cut_frames messages rest all) ∙ take_at messages (cut_of rest).messages (length messages) refl)

-- no further message came
pub stopped : {V : Type 0} (steps : Steps V) (before now : Around V) (answered : ℕ) (held : List ℕ) (messages frames : List (List ℕ)) (left : Option (List ℕ)) (given : ℕ) (bytes : List ℕ) (how : How) → IsUnderway steps before now answered held messages frames → BytesRead now.left left now.given given bytes → Stops how (held ++ bytes) now.left left → IsSession steps before (further now left given) (record { answered = answered; how = how })
stopped steps before now answered held messages frames left given bytes how u more stops = (
  messages,
  frames,
  held ++ bytes,
  [],
  now.seen,
  record {
    came = came_on steps before now answered held messages frames left given bytes u more;
    each = u.each;
    first = first_of_cut messages (held ++ bytes) u.each;
    wrote = subst (Appends before.written now.written) (sym (append-nil (concat frames))) u.wrote;
    replied = u.replied;
    count = u.count;
    ended = stops_end steps how answered (held ++ bytes) before.left left now.seen (stops_before how (held ++ bytes) (frames_of messages ++ held) before.left now.left left u.came.first stops);
  },
)

breaks_end : {V : Type 0} (steps : Steps V) (how : How) (answered : ℕ) (rest : List ℕ) (a c : Option (List ℕ)) (mid : V) (message more part : List ℕ) (now : V) → front_of rest ≡ Ok (Some (message, more)) → Breaks steps how mid message part now → IsEnd steps how answered rest a c mid part now
breaks_end steps Ended answered rest a c mid message more part now front b = absurd b
breaks_end steps (Cut held) answered rest a c mid message more part now front b = absurd b
breaks_end steps (Length n) answered rest a c mid message more part now front b = absurd b
breaks_end steps (Kind k) answered rest a c mid message more part now front b = (message, more, front, b)
breaks_end steps (Body at) answered rest a c mid message more part now front b = (message, more, front, b)
breaks_end steps (Trailing at) answered rest a c mid message more part now front b = (message, more, front, b)
breaks_end steps InputFault answered rest a c mid message more part now front b = absurd b
breaks_end steps OutputFault answered rest a c mid message more part now front b = (message, more, front, b)
breaks_end steps Limit answered rest a c mid message more part now front b = absurd b
breaks_end steps NoMemory answered rest a c mid message more part now front b = inr (message, more, front, b)

-- a message came whole, and wasn't answered whole
pub broken : {V : Type 0} (steps : Steps V) (before now : Around V) (answered : ℕ) (held : List ℕ) (messages frames : List (List ℕ)) (seen : V) (left written : Option (List ℕ)) (given : ℕ) (bytes message rest part : List ℕ) (how : How) → IsUnderway steps before now answered held messages frames → BytesRead now.left left now.given given bytes → IsMessage message → held ++ bytes ≡ frame_of message ++ rest → Appends now.written written part → Breaks steps how now.seen message part seen → IsSession steps before (around seen left given written) (record { answered = answered; how = how })
broken steps before now answered held messages frames seen left written given bytes message rest part how u more is parts wrote breaks = (
  messages,
  frames,
  held ++ bytes,
  part,
  now.seen,
  record {
    came = came_on steps before now answered held messages frames left given bytes u more;
    each = u.each;
    first = first_of_cut messages (held ++ bytes) u.each;
    wrote = Appends-trans before.written now.written written (concat frames) part u.wrote wrote;
    replied = u.replied;
    count = u.count;
    ended = breaks_end steps how answered (held ++ bytes) before.left left now.seen message rest part seen (ap front_of parts ∙ front_frame message rest is) breaks;
  },
)

-- a session that has an end at once where it stands
pub at_once : {V : Type 0} (steps : Steps V) (before now : Around V) (answered : ℕ) (held : List ℕ) (messages frames : List (List ℕ)) (how : How) → IsUnderway steps before now answered held messages frames → IsEnd steps how answered held before.left now.left now.seen [] now.seen → IsSession steps before now (record { answered = answered; how = how })
at_once steps before now answered held messages frames how u end = (
  messages,
  frames,
  held,
  [],
  now.seen,
  record {
    came = u.came;
    each = u.each;
    first = first_of_cut messages (held) u.each;
    wrote = subst (Appends before.written now.written) (sym (append-nil (concat frames))) u.wrote;
    replied = u.replied;
    count = u.count;
    ended = end;
  },
)

-- a session that answered as many messages as one answers
pub at_limit : {V : Type 0} (steps : Steps V) (before now : Around V) (answered : ℕ) (held : List ℕ) (messages frames : List (List ℕ)) → IsUnderway steps before now answered held messages frames → answered ≡ 4294967295 → IsSession steps before now (record { answered = 4294967295; how = Limit })
at_limit steps before now answered held messages frames u all =
    subst (λ (n : ℕ). IsSession steps before now (record { answered = n; how = Limit })) all (at_once steps before now answered held messages frames Limit u (all, (refl, refl)))

-- a count that didn't fall before has the cause that it had last
pub caused : (a b c : ℕ) (P Q : Type 0) → a ≤ b → HasCause b c P → (Q → P) → HasCause a c Q
caused a b c P Q early cause why = record {
  later = omega (arith, early, cause.later);
  rose = λ q. let rose = cause.rose (why q) in omega (arith, early, rose);
}

-- a count that didn't fall, where nothing failed
pub uncaused : (a b : ℕ) (Q : Type 0) → a ≤ b → (Q → ⊥) → HasCause a b Q
uncaused a b Q early never = record { later = early; rose = λ q. absurd (never q) }

-- the output doesn't fail where no message comes, nor the input where one breaks
pub stops_not_output : (how : How) (rest : List ℕ) (a b : Option (List ℕ)) → Stops how rest a b → how ≡ OutputFault → ⊥
stops_not_output how rest a b s e = subst (λ (h : How). Stops h rest a b) e s

pub breaks_not_input : {V : Type 0} (steps : Steps V) (how : How) (before : V) (message part : List ℕ) (now : V) → Breaks steps how before message part now → how ≡ InputFault → ⊥
breaks_not_input steps how before message part now b e = subst (λ (h : How). Breaks steps h before message part now) e b

pub limit_not_input : ◌≡◌ {A = How} Limit InputFault → ⊥
limit_not_input e = absurd cc

pub limit_not_output : ◌≡◌ {A = How} Limit OutputFault → ⊥
limit_not_output e = absurd cc

-- no message comes, or one breaks: that is no limit
pub stops_no_limit : (how : How) (rest : List ℕ) (a b : Option (List ℕ)) → Stops how rest a b → how ≡ Limit → ⊥
stops_no_limit how rest a b s e = subst (λ (h : How). Stops h rest a b) e s

pub breaks_no_limit : {V : Type 0} (steps : Steps V) (how : How) (before : V) (message part : List ℕ) (now : V) → Breaks steps how before message part now → how ≡ Limit → ⊥
breaks_no_limit steps how before message part now b e = subst (λ (h : How). Breaks steps h before message part now) e b

-- an end before the limit is another
pub below_limit : (answered : ℕ) (how : How) → answered < 4294967295 → (how ≡ Limit → ⊥) → IsLimited (record { answered = answered; how = how })
below_limit answered how few other = record {
  reached = λ all. absurd (omega (arith, few, all));
  only = λ e. absurd (other e);
}
