-- A reply of a kind that is allowed passes Form, and one to the ask passes Echo; what passes them is such a reply. For the
-- proofs of callers too.
use Rattle.std.proofs.Common.{◌≡◌, ℕ, Bool, true, false, cond, List, Option, Some, None, Result, Ok, Err, ap, refl, ◌∙◌}
use Rattle.std.specs.Prelude.{◌&&◌}
use Rattle.std.proofs.lemmas.Bool.{eq-eqb}
use Rattle.dory_base.specs.declared.ids.Side.{Side}
use Rattle.dory_base.specs.declared.ids.AskId.{AskId}
use Rattle.dory_wire.specs.declared.message.What.{What}
use Rattle.dory_wire.specs.declared.message.Reply.{Reply}
use Rattle.dory_wire.specs.declared.fault.WireFault.{WireFault}
use Rattle.dory_wire.specs.Frame.{message_in}
use Rattle.dory_wire.specs.Reading.{reply_of, reply_in, reply_or_none, if_read}
use Rattle.dory_verify.specs.declared.fault.CheckFault.TheVariants as fault
use Rattle.dory_verify.specs.declared.reply.Allowed.{Allowed}
use Rattle.dory_verify.specs.Honest.{reply}
use Rattle.dory_verify.specs.Checks.{◌>>=◌, is_allowed, formed, framed, form, same_ask, echo}

-- ---- one check, and what comes after it

pub bind_is : {E A B : Type 0} (r : Result A E) (x : A) (f : A → Result B E) (z : Result B E) → r ≡ Ok x → f x ≡ z → (r >>= f) ≡ z
bind_is r x f z e h = ap (λ v. v >>= f) e ∙ h

pub bind_err : {E A B : Type 0} (r : Result A E) (e : E) (f : A → Result B E) → r ≡ Err e → (r >>= f) ≡ Err e
bind_err r e f is = ap (λ v. v >>= f) is

pub bind_ok : {E A B : Type 0} (r : Result A E) (f : A → Result B E) (y : B) → (r >>= f) ≡ Ok y → (x : A) × (r ≡ Ok x) × (f x ≡ Ok y)
bind_ok (Ok x) f y e = (x, refl, e)
bind_ok (Err d) f y e = absurd (cc)

-- ---- what passes

read_is : (read : Result Reply WireFault) (r : Reply) → if_read read ≡ Some r → read ≡ Ok r
read_is (Ok x) r e = cc
read_is (Err x) r e = absurd (cc)

framed_is : (side : Side) (kind : Allowed) (m : Option (List ℕ)) (r : Reply) → reply_or_none m ≡ Some r → is_allowed kind r.what ≡ true → framed side kind m ≡ Ok r
framed_is side kind None r e allowed = absurd (cc)
framed_is side kind (Some message) r e allowed =
    ap (formed side kind) (read_is (reply_of message) r e) ∙ ap (λ (b : Bool). cond b (Ok r) (Err (fault.Form side 4))) allowed

-- a reply of an allowed kind passes Form
pub form_is : (side : Side) (kind : Allowed) (frame : List ℕ) (r : Reply) → reply_in frame ≡ Some r → is_allowed kind r.what ≡ true → form side kind frame ≡ Ok r
form_is side kind frame r e allowed = framed_is side kind (message_in frame) r e allowed

-- a reply to the ask passes Echo
pub echo_is : (side : Side) (ask : AskId) (what : What) → echo side ask (reply ask what) ≡ Ok tt
echo_is side ask what =
    let same : same_ask ask ask ≡ true =
    (λ i. (eq-eqb ask.member.0 ask.member.0 refl i && eq-eqb ask.serial ask.serial refl i) && eq-eqb ask.step ask.step refl i)
    in
    ap (λ (b : Bool). cond b (Ok tt) (Err (fault.Echo side ask ask))) same

-- ---- what has passed

-- what was read
abbrev ok_read : Reply → Result Reply WireFault
ok_read r = Ok r

read_ok : (side : Side) (kind : Allowed) (read : Result Reply WireFault) (r : Reply) → formed side kind read ≡ Ok r → read ≡ Ok r
read_ok side kind (Err e) r is = absurd (cc)
read_ok side kind (Ok reply) r is = by (is_allowed kind reply.what) is
  where
    by : (b : Bool) → cond b (Ok reply) (Err (fault.Form side 4)) ≡ Ok r → ok_read reply ≡ ok_read r
    by true e = cc
    by false e = absurd (cc)

framed_ok : (side : Side) (kind : Allowed) (m : Option (List ℕ)) (r : Reply) → framed side kind m ≡ Ok r → (message : List ℕ) × (m ≡ Some message) × (reply_of message ≡ Ok r)
framed_ok side kind None r is = absurd (cc)
framed_ok side kind (Some message) r is = (message, refl, read_ok side kind (reply_of message) r is)

-- what passed Form is the reply of the frame's message
pub form_ok : (side : Side) (kind : Allowed) (frame : List ℕ) (r : Reply) → form side kind frame ≡ Ok r → (message : List ℕ) × (message_in frame ≡ Some message) × (reply_of message ≡ Ok r)
form_ok side kind frame r is = framed_ok side kind (message_in frame) r is

-- so it is the frame's reply
pub form_came : (side : Side) (kind : Allowed) (frame : List ℕ) (r : Reply) → form side kind frame ≡ Ok r → reply_in frame ≡ Some r
form_came side kind frame r is =
    let m = form_ok side kind frame r is in
    ap reply_or_none m.1 ∙ ap if_read m.2

-- what passed Echo is a reply to the ask
pub echo_ok : (side : Side) (asked : AskId) (r : Reply) (u : Unit {0}) → echo side asked r ≡ Ok u → same_ask r.ask asked ≡ true
echo_ok side asked r u is = by (same_ask r.ask asked) is
  where
    by : (b : Bool) → cond b (Ok tt) (Err (fault.Echo side asked r.ask)) ≡ Ok u → b ≡ true
    by true e = refl
    by false e = absurd (cc)
