-- The two laws of replies: what is read is spelled so, and what is spelled so is read.
use Rattle.std.proofs.Common.{◌≡◌, ℕ, suc, ◌≤◌, true, cond, eqb, List, [], ◌∷◌, ◌++◌, length, Result, Ok, Err, refl, sym, ap, subst, ◌∙◌}
use Rattle.std.specs.Prelude.{IfOk}
use Rattle.std.proofs.lemmas.List.{append-nil}
use Rattle.dory_base.specs.declared.ids.AskId.{AskId}
use Rattle.dory_fields.specs.Reading.{Read, ◌>>=◌}
use Rattle.dory_fields.specs.Bytes.{IsBytes}
use Rattle.dory_fields.proofs.Fields.{in_range, IsBytes-rest, bind_ok, ok_is, Takes, Takes-then}
use Rattle.dory_wire.specs.declared.message.What.{What}
use Rattle.dory_wire.specs.declared.message.What.TheVariants.{At, Found as Finds, Id, Staged, Committed, Refused}
use Rattle.dory_wire.specs.declared.message.Reply.{Reply}
use Rattle.dory_wire.specs.declared.fault.WireFault.{WireFault}
use Rattle.dory_wire.specs.declared.fault.WireFault.TheVariants.{Kind}
use Rattle.dory_wire.specs.Spelling.{ask, what, what_kind, spelling_of_reply, IsWhat, IsReply}
use Rattle.dory_wire.specs.Reading.{Gives, ask_at, found_at, refusal_at, named_at, numbered_at, counted_at, holding_at, refused_at, what_at, ended, reply_at, reply_of, is_answering}
use Rattle.dory_wire.proofs.Fields.{ask_takes, ask_again}
use Rattle.dory_wire.proofs.Ranges.{ended_ok, choice_met}
use Rattle.dory_wire.proofs.Made.{named_takes, named_again, numbered_takes, numbered_again, counted_takes, counted_again, by_number, at_last}
use Rattle.dory_wire.proofs.Holding.{found_takes, found_again}
use Rattle.dory_wire.proofs.Refusing.{refusal_takes, refusal_again}

-- what was read of this kind
pub record TakesWhat (kind : ℕ) (bytes : List ℕ) (x : What × List ℕ) : Type 0 where
  pub kind_is : what_kind x.0 ≡ kind
  pub takes : Takes bytes (what x.0) x.1
  pub ranges : IsWhat x.0

holding_takes : (total : ℕ) (bytes : List ℕ) (x : What × List ℕ) → IsBytes bytes → holding_at total bytes ≡ Ok x → TakesWhat 130 bytes x
unfolding holding_at
holding_takes total bytes x fits e =
    let a = bind_ok (found_at total bytes) (λ f. Ok (Finds f.0, f.1)) x e in
    let t0 = found_takes total bytes a.0 fits a.1 in
    subst (TakesWhat 130 bytes) (ok_is (Finds a.0.0, a.0.1) x a.2) (record { kind_is = refl; takes = t0.0; ranges = t0.1 })

refused_takes : (total : ℕ) (bytes : List ℕ) (x : What × List ℕ) → IsBytes bytes → refused_at total bytes ≡ Ok x → TakesWhat 134 bytes x
unfolding refused_at
refused_takes total bytes x fits e =
    let a = bind_ok (refusal_at total bytes) (λ code. Ok (Refused code.0, code.1)) x e in
    let t0 = refusal_takes total bytes a.0 fits a.1 in
    subst (TakesWhat 134 bytes) (ok_is (Refused a.0.0, a.0.1) x a.2) (record { kind_is = refl; takes = t0.0; ranges = t0.1 })

abbrev what_from_132 : ℕ → ℕ → List ℕ → Read What
what_from_132 kind total bytes = cond (eqb kind 132) (named_at Staged total bytes) (cond (eqb kind 133) (numbered_at Committed total bytes) (refused_at total bytes))

abbrev what_from_130 : ℕ → ℕ → List ℕ → Read What
what_from_130 kind total bytes = cond (eqb kind 130) (holding_at total bytes) (cond (eqb kind 131) (numbered_at Id total bytes) (what_from_132 kind total bytes))

from_132_takes : (kind total : ℕ) (bytes : List ℕ) (x : What × List ℕ) → IsBytes bytes → 132 ≤ kind → kind ≤ 134 → what_from_132 kind total bytes ≡ Ok x → TakesWhat kind bytes x
from_132_takes kind total bytes x fits low high =
    by_number kind 132 (λ n. TakesWhat n bytes x) (named_at Staged total bytes) (cond (eqb kind 133) (numbered_at Committed total bytes) (refused_at total bytes)) x low
    (λ e. named_takes Staged (TakesWhat 132 bytes) total bytes x fits e (λ name rest t is. record { kind_is = refl; takes = t; ranges = is }))
    (λ more. by_number kind 133 (λ n. TakesWhat n bytes x) (numbered_at Committed total bytes) (refused_at total bytes) x more
    (λ e. numbered_takes Committed (TakesWhat 133 bytes) total bytes x fits e (λ number name rest t is. record { kind_is = refl; takes = t; ranges = is }))
    (λ most e. at_last kind 134 (λ n. TakesWhat n bytes x) most high (refused_takes total bytes x fits e)))

from_130_takes : (kind total : ℕ) (bytes : List ℕ) (x : What × List ℕ) → IsBytes bytes → 130 ≤ kind → kind ≤ 134 → what_from_130 kind total bytes ≡ Ok x → TakesWhat kind bytes x
from_130_takes kind total bytes x fits low high =
    by_number kind 130 (λ n. TakesWhat n bytes x) (holding_at total bytes) (cond (eqb kind 131) (numbered_at Id total bytes) (what_from_132 kind total bytes)) x low
    (holding_takes total bytes x fits)
    (λ more. by_number kind 131 (λ n. TakesWhat n bytes x) (numbered_at Id total bytes) (what_from_132 kind total bytes) x more
    (λ e. numbered_takes Id (TakesWhat 131 bytes) total bytes x fits e (λ number name rest t is. record { kind_is = refl; takes = t; ranges = is }))
    (λ most. from_132_takes kind total bytes x fits most high))

what_takes : (kind total : ℕ) (bytes : List ℕ) (x : What × List ℕ) → IsBytes bytes → is_answering kind ≡ true → what_at kind total bytes ≡ Ok x → TakesWhat kind bytes x
unfolding what_at
what_takes kind total bytes x fits known e =
    let r = in_range 129 134 kind known in
    by_number kind 129 (λ n. TakesWhat n bytes x) (counted_at At total bytes) (what_from_130 kind total bytes) x r.0
    (λ got. counted_takes At (TakesWhat 129 bytes) total bytes x fits got (λ n rest t is. record { kind_is = refl; takes = t; ranges = is }))
    (λ more. from_130_takes kind total bytes x fits more r.1) e

what_again : (total : ℕ) (w : What) (rest : List ℕ) → IsWhat w → what_at (what_kind w) total (what w ++ rest) ≡ Ok (w, rest)
unfolding what_at holding_at refused_at
what_again total (At n) rest is = counted_again At total n rest is
what_again total (Finds f) rest is = rw (found_again total f rest is) refl
what_again total (Id number name) rest is = numbered_again Id total number name rest is
what_again total (Staged name) rest is = named_again Staged total name rest is
what_again total (Committed number name) rest is = numbered_again Committed total number name rest is
what_again total (Refused code) rest is = rw (refusal_again total code rest is) refl

-- ---- replies

abbrev made_reply : AskId → What → Reply
made_reply a w = record { ask = a; what = w }

abbrev after_ask : ℕ → ℕ → AskId × List ℕ → Read Reply
after_ask kind total a = what_at kind total a.1 >>= λ what. Ok (made_reply a.0 what.0, what.1)

-- a reply's bytes behind its kind
abbrev reply_fields : Reply → List ℕ
reply_fields r = ask r.ask ++ what r.what

-- what was read behind this kind
record TakesReply (kind : ℕ) (bytes : List ℕ) (x : Reply × List ℕ) : Type 0 where
  pub kind_is : what_kind x.0.what ≡ kind
  pub takes : Takes bytes (reply_fields x.0) x.1
  pub ranges : IsReply x.0

reply_at_takes : (kind total : ℕ) (bytes : List ℕ) (x : Reply × List ℕ) → IsBytes bytes → is_answering kind ≡ true → reply_at kind total bytes ≡ Ok x → TakesReply kind bytes x
unfolding reply_at
reply_at_takes kind total bytes x fits known e =
    let a = bind_ok (ask_at total bytes) (after_ask kind total) x e in
    let b = bind_ok (what_at kind total a.0.1) (λ what. Ok (made_reply a.0.0 what.0, what.1)) x a.2 in
    let t0 = ask_takes total bytes a.0 fits a.1 in
    let t1 = what_takes kind total a.0.1 b.0 t0.0.rest_fits known b.1 in
    let p1 = Takes-then bytes (ask a.0.0) a.0.1 (what b.0.0) b.0.1 t0.0 t1.takes in
    let is : IsReply (made_reply a.0.0 b.0.0) = record { ask = t0.1; what = t1.ranges } in
    subst (TakesReply kind bytes) (ok_is (made_reply a.0.0 b.0.0, b.0.1) x b.2) (record { kind_is = t1.kind_is; takes = p1; ranges = is })

-- what is read of a message is spelled so, and is in range
pub reply_takes : (bytes : List ℕ) (r : Reply) → IsBytes bytes → reply_of bytes ≡ Ok r → (bytes ≡ spelling_of_reply r) × IsReply r
unfolding reply_of spelling_of_reply
reply_takes [] r fits e = absurd cc
reply_takes (kind ∷ bytes) r fits e =
    let total = suc (length bytes) in
    let g = choice_met (is_answering kind) (Kind kind) (ended total (reply_at kind total bytes)) r e in
    let h = ended_ok total (reply_at kind total bytes) r g.1 in
    let t = reply_at_takes kind total bytes (r, h.0) (IsBytes-rest kind bytes fits) g.0 h.1 in
    let text : bytes ≡ reply_fields r = t.takes.parts ∙ ap (λ (z : List ℕ). reply_fields r ++ z) h.2 ∙ append-nil (reply_fields r) in
    ((λ i. sym t.kind_is i ∷ text i), t.ranges)

known_kind : (w : What) → is_answering (what_kind w) ≡ true
known_kind (At length) = refl
known_kind (Finds f) = refl
known_kind (Id number name) = refl
known_kind (Staged name) = refl
known_kind (Committed number name) = refl
known_kind (Refused code) = refl

reply_at_again : (total : ℕ) (r : Reply) → IsReply r → reply_at (what_kind r.what) total (ask r.ask ++ (what r.what ++ [])) ≡ Ok (r, [])
unfolding reply_at
reply_at_again total r is = rw (ask_again total r.ask (what r.what ++ []) is.ask, what_again total r.what [] is.what) refl

-- a reply that is spelled is read
pub read_again_reply : (r : Reply) → IsReply r → reply_of (spelling_of_reply r) ≡ Ok r
unfolding reply_of spelling_of_reply
read_again_reply r is =
    let text : ask r.ask ++ what r.what ≡ ask r.ask ++ (what r.what ++ []) = ap (λ (z : List ℕ). ask r.ask ++ z) (sym (append-nil (what r.what))) in
    let total = suc (length (ask r.ask ++ what r.what)) in
    rw (known_kind r.what) (ap (λ (z : List ℕ). ended total (reply_at (what_kind r.what) total z)) text ∙ ap (ended total) (reply_at_again total r is))

-- so is what a call gives that gives what reading gives
pub reply_spelled : (bytes : List ℕ) (result : Result Reply WireFault) → IsBytes bytes → Gives result (reply_of bytes) → IfOk result (λ r. IsReply r × (bytes ≡ spelling_of_reply r))
reply_spelled bytes (Ok r) fits given =
    let t = reply_takes bytes r fits given in
    (t.1, t.0)
reply_spelled bytes (Err e) fits given = tt

pub reply_only : (bytes : List ℕ) (result : Result Reply WireFault) → Gives result (reply_of bytes) → (r : Reply) → IsReply r → bytes ≡ spelling_of_reply r → Gives result (Ok r)
reply_only bytes result given r is e = subst (Gives result) (ap reply_of e ∙ read_again_reply r is) given
