-- A stream is its frames and what comes after them, and is cut so in whatever pieces it came.
use Rattle.std.proofs.Common.{◌≡◌, ◌∙◌, ℕ, zero, suc, ◌≤◌, ◌<◌, ◌⊎◌, inl, inr, Bool, true, false, cond, ltb, leb, not, List, [], ◌∷◌, ◌++◌, length, take, drop, Option, Some, None, Result, Ok, Err, refl, sym, ap, arith, append_assoc, length-drop, take-append-drop, append-nil, subst, Vec}
use Rattle.std.specs.Int.{w32, to_be_bytes, from_be_bytes}
use Rattle.std.specs.List.{AllByRecursion}
use Rattle.std.proofs.lemmas.Bool.{lt-ltb, le-ltb, le-leb, leb-true, ltb-true, ltb-false}
use Rattle.std.proofs.lemmas.List.{take_at, drop_at, length-append, length-take, take-append-le, drop-append-le}
use Rattle.std.proofs.lemmas.Nat.{be_bytes_4, from_be_bytes-to_be_bytes_4}
use Rattle.dory_fields.specs.Bytes.{IsBytes}
use Rattle.dory_fields.proofs.Fields.{IsBytes-take, both_true}
use Rattle.dory_wire.specs.Frame.{frame_of, is_length, length_in}
use Rattle.dory_wire.specs.Cut.{IsMessage, frames_of, front_of, Cut, with_message, with_messages, cut_by, cut_most, cut_of, TakesOut, IsCutting, IsCutInto, GoesOn}
use Rattle.dory_wire.specs.declared.framer.FrameFault.{FrameFault}
use Rattle.dory_wire.specs.declared.framer.FrameFault.TheVariants.{Length, NoMemory}
use Rattle.std.specs.declared.alloc.Global.{Global}

-- what is so where a message stands at the front
pub record Stands (bytes message more : List ℕ) : Type 0 where
  pub four : 4 ≤ length bytes
  pub some : 1 ≤ length_in bytes
  pub few : length_in bytes ≤ 1048576
  pub whole : length_in bytes ≤ length (drop 4 bytes)
  pub message_is : message ≡ take (length_in bytes) (drop 4 bytes)
  pub more_is : more ≡ drop (length_in bytes) (drop 4 bytes)

-- the message at the front, where it is whole
pub front_whole : (held : List ℕ) → 4 ≤ length held → 1 ≤ length_in held → length_in held ≤ 1048576 → length_in held ≤ length (drop 4 held) → front_of held ≡ Ok (Some (take (length_in held) (drop 4 held), drop (length_in held) (drop 4 held)))
unfolding front_of
front_whole held four some few whole =
    rw (le-ltb (length held) 4 four, le-leb 1 (length_in held) some, le-leb (length_in held) 1048576 few, le-ltb (length (drop 4 held)) (length_in held) whole) refl

choice_some : (b c d : Bool) (n : ℕ) (p q : List ℕ × List ℕ) → ◌≡◌ {A = Result (Option (List ℕ × List ℕ)) ℕ} (cond b (Ok None) (cond (not c) (Err n) (cond d (Ok None) (Ok (Some p))))) (Ok (Some q)) → (b ≡ false) × (c ≡ true) × (d ≡ false) × (p ≡ q)
choice_some true c d n p q e = absurd cc
choice_some false false d n p q e = absurd cc
choice_some false true true n p q e = absurd cc
choice_some false true false n p q e = (refl, refl, refl, cc)

choice_err : (b c d : Bool) (n k : ℕ) (p : List ℕ × List ℕ) → ◌≡◌ {A = Result (Option (List ℕ × List ℕ)) ℕ} (cond b (Ok None) (cond (not c) (Err n) (cond d (Ok None) (Ok (Some p))))) (Err k) → (b ≡ false) × (c ≡ false) × (n ≡ k)
choice_err true c d n k p e = absurd cc
choice_err false false d n k p e = (refl, refl, cc)
choice_err false true true n k p e = absurd cc
choice_err false true false n k p e = absurd cc

pub stands : (bytes message more : List ℕ) → front_of bytes ≡ Ok (Some (message, more)) → Stands bytes message more
unfolding front_of
stands bytes message more e =
    let n = length_in bytes in
    let c = choice_some (ltb (length bytes) 4) (is_length n) (ltb (length (drop 4 bytes)) n) n (take n (drop 4 bytes), drop n (drop 4 bytes)) (message, more) e in
    let d = both_true (leb 1 n) (leb n 1048576) c.1 in
    record {
      four = ltb-false _ _ c.0;
      some = leb-true 1 n d.0;
      few = leb-true n 1048576 d.1;
      whole = ltb-false _ _ c.2;
      message_is = sym (ap (λ p. p.0) c.3);
      more_is = sym (ap (λ p. p.1) c.3);
    }

-- bytes with a message at the front are its frame, and what comes after it
pub front_is : (bytes message more : List ℕ) → IsBytes bytes → front_of bytes ≡ Ok (Some (message, more)) → IsMessage message × (bytes ≡ frame_of message ++ more)
front_is bytes message more fits e =
    let s = stands bytes message more e in
    let n = length_in bytes in
    let len : length message ≡ n = ap length s.message_is ∙ omega (arith, length-take n (drop 4 bytes), s.whole) in
    let front : to_be_bytes w32 n ≡ take 4 bytes = be_bytes_4 (take 4 bytes) n (omega (arith, length-take 4 bytes, s.four)) (IsBytes-take 4 bytes fits) refl in
    let rest : message ++ more ≡ drop 4 bytes = (λ i. s.message_is i ++ s.more_is i) ∙ take-append-drop n (drop 4 bytes) in
    let parts : take 4 bytes ++ drop 4 bytes ≡ to_be_bytes w32 (length message) ++ (message ++ more) = λ i. (sym front ∙ ap (to_be_bytes w32) (sym len)) i ++ sym rest i in
    (record { some = omega (arith, len, s.some); few = omega (arith, len, s.few) }, sym (take-append-drop 4 bytes) ∙ parts ∙ sym (append_assoc (to_be_bytes w32 (length message)) message more))

-- a frame at the front is its message
pub front_frame : (message more : List ℕ) → IsMessage message → front_of (frame_of message ++ more) ≡ Ok (Some (message, more))
front_frame message more is =
    let size = to_be_bytes w32 (length message) in
    let bytes = frame_of message ++ more in
    let parts : bytes ≡ size ++ (message ++ more) = append_assoc size message more in
    let front : take 4 bytes ≡ size = ap (take 4) parts ∙ take_at size (message ++ more) 4 refl in
    let rest : drop 4 bytes ≡ message ++ more = ap (drop 4) parts ∙ drop_at size (message ++ more) 4 refl in
    let number : length_in bytes ≡ length message = ap (from_be_bytes w32) front ∙ from_be_bytes-to_be_bytes_4 (length message) (omega (arith, is.few)) in
    let long : 4 ≤ length bytes = omega (arith, ap length parts, length-append size (message ++ more)) in
    let whole : length_in bytes ≤ length (drop 4 bytes) = omega (arith, number, ap length rest, length-append message more) in
    front_whole bytes long (omega (arith, number, is.some)) (omega (arith, number, is.few)) whole
    ∙ (λ i. Ok (Some (take (number i) (rest i), drop (number i) (rest i))))
    ∙ (λ i. Ok (Some (take_at message more (length message) refl i, drop_at message more (length message) refl i)))

-- the number in front stays, however the bytes go on
number_stays : (bytes more : List ℕ) → 4 ≤ length bytes → length_in (bytes ++ more) ≡ length_in bytes
number_stays bytes more four = ap (from_be_bytes w32) (take-append-le 4 bytes more four)

-- the message at the front stays, however the bytes go on
pub front_more : (bytes message after more : List ℕ) → front_of bytes ≡ Ok (Some (message, after)) → front_of (bytes ++ more) ≡ Ok (Some (message, after ++ more))
front_more bytes message after more e =
    let s = stands bytes message after e in
    let n = length_in bytes in
    let number : length_in (bytes ++ more) ≡ n = number_stays bytes more s.four in
    let rest : drop 4 (bytes ++ more) ≡ drop 4 bytes ++ more = drop-append-le 4 bytes more s.four in
    let long : 4 ≤ length (bytes ++ more) = omega (arith, s.four, length-append bytes more) in
    let whole : length_in (bytes ++ more) ≤ length (drop 4 (bytes ++ more)) = omega (arith, number, ap length rest, length-append (drop 4 bytes) more, s.whole) in
    front_whole (bytes ++ more) long (omega (arith, number, s.some)) (omega (arith, number, s.few)) whole
    ∙ (λ i. Ok (Some (take (number i) (rest i), drop (number i) (rest i))))
    ∙ (λ i. Ok (Some ((take-append-le n (drop 4 bytes) more s.whole ∙ sym s.message_is) i, (drop-append-le n (drop 4 bytes) more s.whole ∙ ap (λ l. l ++ more) (sym s.more_is)) i)))

-- a length out of range stays, however the bytes go on
pub front_wrong : (bytes more : List ℕ) (n : ℕ) → front_of bytes ≡ Err n → front_of (bytes ++ more) ≡ Err n
unfolding front_of
front_wrong bytes more k e =
    let n = length_in bytes in
    let c = choice_err (ltb (length bytes) 4) (is_length n) (ltb (length (drop 4 bytes)) n) n k (take n (drop 4 bytes), drop n (drop 4 bytes)) e in
    let four : 4 ≤ length bytes = ltb-false _ _ c.0 in
    let long : ltb (length (bytes ++ more)) 4 ≡ false = le-ltb _ _ (omega (arith, four, length-append bytes more)) in
    rw (long, number_stays bytes more four, c.1, c.2) refl

-- what comes after a message is shorter
shorter : (bytes message more : List ℕ) → front_of bytes ≡ Ok (Some (message, more)) → length more < length bytes
shorter bytes message more e =
    let s = stands bytes message more e in
    omega (arith, s.four, s.some, s.whole, ap length s.more_is, length-drop (length_in bytes) (drop 4 bytes), length-drop 4 bytes)

enough_after : (n k : ℕ) (bytes : List ℕ) (r : Result (Option (List ℕ × List ℕ)) ℕ) → front_of bytes ≡ r → ((more : List ℕ) → length more < length bytes → cut_most n more ≡ cut_most k more) → cut_by (cut_most n) bytes r ≡ cut_by (cut_most k) bytes r
enough_after n k bytes (Err d) e h = refl
enough_after n k bytes (Ok None) e h = refl
enough_after n k bytes (Ok (Some p)) e h = ap (with_message p.0) (h p.1 (shorter bytes p.0 p.1 e))

pub none_in_front : (bytes : List ℕ) → length bytes < 4 → front_of bytes ≡ Ok None
unfolding front_of
none_in_front bytes few = rw (lt-ltb (length bytes) 4 few) refl

-- no message stands at the front of no bytes
pub front_nothing : front_of [] ≡ Ok None
front_nothing = none_in_front [] (omega arith)

choice_none : (b c d : Bool) (n : ℕ) (p : List ℕ × List ℕ) → ◌≡◌ {A = Result (Option (List ℕ × List ℕ)) ℕ} (cond b (Ok None) (cond (not c) (Err n) (cond d (Ok None) (Ok (Some p))))) (Ok None) → (b ≡ true) ⊎ ((c ≡ true) × (d ≡ true))
choice_none true c d n p e = inl refl
choice_none false false d n p e = absurd cc
choice_none false true true n p e = inr (refl, refl)
choice_none false true false n p e = absurd cc

few_in_front : (bytes : List ℕ) → (ltb (length bytes) 4 ≡ true) ⊎ ((is_length (length_in bytes) ≡ true) × (ltb (length (drop 4 bytes)) (length_in bytes) ≡ true)) → length bytes < 1048580
few_in_front bytes (inl few) = let h = ltb-true (length bytes) 4 few in omega arith
few_in_front bytes (inr (range, less)) =
    let n = length_in bytes in
    let d = both_true (leb 1 n) (leb n 1048576) range in
    let h = leb-true n 1048576 d.1 in
    let k = ltb-true (length (drop 4 bytes)) n less in
    omega (arith, length-drop 4 bytes)

-- where no whole message stands at the front, fewer bytes are held than the longest frame has
pub front_none : (bytes : List ℕ) → front_of bytes ≡ Ok None → length bytes < 1048580
unfolding front_of
front_none bytes e =
    let n = length_in bytes in
    few_in_front bytes (choice_none (ltb (length bytes) 4) (is_length n) (ltb (length (drop 4 bytes)) n) n (take n (drop 4 bytes), drop n (drop 4 bytes)) e)

-- more than there are bytes makes no difference
enough : (n k : ℕ) (bytes : List ℕ) → length bytes ≤ n → length bytes ≤ k → cut_most n bytes ≡ cut_most k bytes
enough zero zero bytes p q = refl
enough zero (suc k) bytes p q = sym (ap (cut_by (cut_most k) bytes) (none_in_front bytes (omega arith)))
enough (suc n) zero bytes p q = ap (cut_by (cut_most n) bytes) (none_in_front bytes (omega arith))
enough (suc n) (suc k) bytes p q =
    enough_after n k bytes (front_of bytes) refl (λ more less. enough n k more (omega arith) (omega arith))

after_front : (n : ℕ) (bytes : List ℕ) (r : Result (Option (List ℕ × List ℕ)) ℕ) → front_of bytes ≡ r → length bytes ≤ suc n → cut_by (cut_most n) bytes r ≡ cut_by cut_of bytes r
unfolding cut_of
after_front n bytes (Err d) e p = refl
after_front n bytes (Ok None) e p = refl
after_front n bytes (Ok (Some q)) e p =
    let less = shorter bytes q.0 q.1 e in
    ap (with_message q.0) (enough n (length q.1) q.1 (omega arith) (omega arith))

-- a stream is cut by what stands at its front, and then as what comes after it
pub cut_is : (bytes : List ℕ) → cut_of bytes ≡ cut_by cut_of bytes (front_of bytes)
unfolding cut_of
cut_is bytes =
    enough (length bytes) (suc (length bytes)) bytes (omega arith) (omega arith) ∙ after_front (length bytes) bytes (front_of bytes) refl (omega arith)

-- a frame at the front is the first message
pub cut_frame : (message more : List ℕ) → IsMessage message → cut_of (frame_of message ++ more) ≡ with_message message (cut_of more)
cut_frame message more is = cut_is (frame_of message ++ more) ∙ ap (cut_by cut_of (frame_of message ++ more)) (front_frame message more is)

-- frames at the front are the first messages
pub cut_frames : (messages : List (List ℕ)) (more : List ℕ) → AllByRecursion IsMessage messages → cut_of (frames_of messages ++ more) ≡ with_messages messages (cut_of more)
cut_frames [] more all = refl
cut_frames (message ∷ messages) more all =
    ap cut_of (append_assoc (frame_of message) (frames_of messages) more) ∙ cut_frame message (frames_of messages ++ more) all.0 ∙ ap (with_message message) (cut_frames messages more all.1)

append_after : (n : ℕ) (a b : List ℕ) (r : Result (Option (List ℕ × List ℕ)) ℕ) → front_of a ≡ r → ((more : List ℕ) → length more < length a → cut_of (more ++ b) ≡ with_messages (cut_of more).messages (cut_of ((cut_of more).rest ++ b))) → cut_of (a ++ b) ≡ with_messages (cut_by cut_of a r).messages (cut_of ((cut_by cut_of a r).rest ++ b))
append_after n a b (Err d) e h = refl
append_after n a b (Ok None) e h = refl
append_after n a b (Ok (Some p)) e h =
    cut_is (a ++ b) ∙ ap (cut_by cut_of (a ++ b)) (front_more a p.0 p.1 b e) ∙ ap (with_message p.0) (h p.1 (shorter a p.0 p.1 e))

append_most : (n : ℕ) (a b : List ℕ) → length a ≤ n → cut_of (a ++ b) ≡ with_messages (cut_of a).messages (cut_of ((cut_of a).rest ++ b))
append_most zero a b p =
    append_after zero a b (front_of a) refl (λ more less. absurd (omega arith)) ∙ ap (λ c. with_messages c.messages (cut_of (c.rest ++ b))) (sym (cut_is a))
append_most (suc n) a b p =
    append_after n a b (front_of a) refl (λ more less. append_most n more b (omega arith)) ∙ ap (λ c. with_messages c.messages (cut_of (c.rest ++ b))) (sym (cut_is a))

-- a piece more is cut with what the stream before it left over
pub cut_append : (a b : List ℕ) → cut_of (a ++ b) ≡ with_messages (cut_of a).messages (cut_of ((cut_of a).rest ++ b))
cut_append a b = append_most (length a) a b (omega arith)

-- ---- a framer, whatever the pieces

with_both : (a b : List (List ℕ)) (c : Cut) → with_messages (a ++ b) c ≡ with_messages a (with_messages b c)
with_both a b c = ap (λ (m : List (List ℕ)). record { messages = m; rest = c.rest }) (append_assoc a b c.messages)

-- a piece that is fed
pub feeds : (fed : List ℕ) (taken : List (List ℕ)) (held piece : List ℕ) → IsCutting fed taken held → IsCutting (fed ++ piece) taken (held ++ piece)
feeds fed taken held piece is =
    cut_append fed piece
    ∙ ap (λ (c : Cut). with_messages c.messages (cut_of (c.rest ++ piece))) is
    ∙ with_both taken (cut_of held).messages (cut_of ((cut_of held).rest ++ piece))
    ∙ sym (ap (with_messages taken) (cut_append held piece))

-- a message that is taken out
takes_one : (fed : List ℕ) (taken : List (List ℕ)) (held message now : List ℕ) → front_of held ≡ Ok (Some (message, now)) → IsCutting fed taken held → IsCutting fed (taken ++ message ∷ []) now
takes_one fed taken held message now front is =
    is ∙ ap (with_messages taken) (cut_is held ∙ ap (cut_by cut_of held) front) ∙ sym (with_both taken (message ∷ []) (cut_of now))

-- nothing more to take out
takes_none : (fed : List ℕ) (taken : List (List ℕ)) (held : List ℕ) → front_of held ≡ Ok None → IsCutting fed taken held → IsCutInto fed taken held
takes_none fed taken held front is =
    is ∙ ap (with_messages taken) (cut_is held ∙ ap (cut_by cut_of held) front) ∙ ap (λ (m : List (List ℕ)). record { messages = m; rest = held }) (append-nil taken)

takes_wrong : (fed : List ℕ) (taken : List (List ℕ)) (held : List ℕ) (n : ℕ) → front_of held ≡ Err n → IsCutting fed taken held → IsCutInto fed taken held
takes_wrong fed taken held n front is =
    is ∙ ap (with_messages taken) (cut_is held ∙ ap (cut_by cut_of held) front) ∙ ap (λ (m : List (List ℕ)). record { messages = m; rest = held }) (append-nil taken)

pub goes_on : (fed : List ℕ) (taken : List (List ℕ)) (held now : List ℕ) (result : Result (Option (Vec ℕ Global)) FrameFault) → TakesOut held now result → IsCutting fed taken held → GoesOn fed taken now result
goes_on fed taken held now (Ok (Some message)) takes is = takes_one fed taken held message.items now takes is
goes_on fed taken held now (Ok None) takes is = subst (IsCutInto fed taken) (sym takes.1) (takes_none fed taken held takes.0 is)
goes_on fed taken held now (Err (Length n)) takes is = subst (IsCutInto fed taken) (sym takes.1) (takes_wrong fed taken held n takes.0 is)
goes_on fed taken held now (Err NoMemory) takes is = subst (IsCutting fed taken) (sym takes) is
