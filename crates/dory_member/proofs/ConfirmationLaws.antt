-- What a reply that passes its checks says, for the proofs of callers.
use Rattle.std.proofs.Common.{◌≡◌, ℕ, Bool, true, false, cond, List, Result, Ok, Err, inl, inr, refl, ap, sym, ◌∙◌}
use Rattle.std.specs.Prelude.{◌⊎◌, ◌==◌, ◌&&◌}
use Rattle.std.proofs.lemmas.Bool.{eqb-true, and_parts}
use Rattle.dory_base.specs.declared.ids.Side.{Side}
use Rattle.dory_base.specs.declared.ids.AskId.{AskId}
use Rattle.dory_base.specs.declared.ids.UpdateId.{UpdateId}
use Rattle.dory_base.specs.Log.{same_id}
use Rattle.dory_base.proofs.SameLaws.{same_id-true}
use Rattle.dory_wire.specs.declared.message.What.{What}
use Rattle.dory_wire.specs.declared.message.What.TheVariants.{At, Found as Finds, Id, Staged, Committed, Refused}
use Rattle.dory_verify.specs.declared.fault.CheckFault.{CheckFault}
use Rattle.dory_verify.specs.Checks.{form, echo}
use Rattle.dory_verify.proofs.FormLaws.{bind_ok, form_came, echo_ok}
use Rattle.dory_member.specs.declared.outcome.Mark.{Mark}
use Rattle.dory_member.specs.declared.outcome.Fault.{Fault}
use Rattle.dory_member.specs.declared.outcome.Fault.TheVariants as fault
use Rattle.dory_member.specs.declared.phase.Single.{Single}
use Rattle.dory_member.specs.declared.phase.Single.TheVariants.{Which, Stage, Order, Follow}
use Rattle.dory_member.specs.Confirmation.{Confirmation}
use Rattle.dory_member.specs.Single.{allowed, checked, confirmed, mark, said, wanted}

checked_ok : {A : Type 0} (r : Result A CheckFault) (x : A) → checked r ≡ Ok x → r ≡ Ok x
checked_ok (Ok y) x e = cc
checked_ok (Err d) x e = absurd (cc)

-- a frame that confirms a mark is such a reply
pub heard : (side : Side) (ask : Single) (asked : AskId) (frame : List ℕ) (m : Mark) → confirmed side ask asked frame ≡ Ok m → Confirmation side ask asked frame m
unfolding confirmed
heard side ask asked frame m e =
    let f = bind_ok (checked (form side (allowed ask) frame)) _ m e in
    let g = bind_ok (checked (echo side asked f.0)) _ m f.2 in
    record {
      reply = f.0;
      came = form_came side (allowed ask) frame f.0 (checked_ok (form side (allowed ask) frame) f.0 f.1);
      echoes = echo_ok side asked f.0 g.0 (checked_ok (echo side asked f.0) g.0 g.1);
      says = g.2;
    }

abbrev ok_mark : Mark → Result Mark Fault
ok_mark m = Ok m

wanted_if : (b : Bool) (side : Side) (w g m : Mark) → cond b (ok_mark g) (Err (fault.Unconfirmed side w g)) ≡ ok_mark m → (b ≡ true) × (g ≡ m)
wanted_if true side w g m e = (refl, cc)
wanted_if false side w g m e = absurd (cc)

wanted_is : (side : Side) (w g m : Mark) → wanted side w g ≡ Ok m → (g ≡ m) × (w.number ≡ m.number) × (w.id ≡ m.id)
wanted_is side w g m e =
    let p = wanted_if ((w.number == g.number) && same_id w.id g.id) side w g m e in
    let q = and_parts (w.number == g.number) (same_id w.id g.id) p.0 in
    (p.1, eqb-true w.number g.number q.0 ∙ ap (λ (x : Mark). x.number) p.1, same_id-true w.id g.id q.1 ∙ ap (λ (x : Mark). x.id) p.1)

-- what confirms an Order
pub said_order : (side : Side) (i : UpdateId) (what : What) (m : Mark) → said side (Order i) what ≡ Ok m → (what ≡ Committed m.number m.id) × (i ≡ m.id)
said_order side i (Committed n id) m e =
    let p = wanted_is side (mark n i) (mark n id) m e in
    (ap (λ (x : Mark). Committed x.number x.id) p.0, p.2)
said_order side i (At n) m e = absurd (cc)
said_order side i (Finds f) m e = absurd (cc)
said_order side i (Id n x) m e = absurd (cc)
said_order side i (Staged x) m e = absurd (cc)
said_order side i (Refused c) m e = absurd (cc)

-- what confirms a Follow
pub said_follow : (side : Side) (n : ℕ) (i : UpdateId) (what : What) (m : Mark) → said side (Follow n i) what ≡ Ok m
    → (what ≡ Committed m.number m.id) × (n ≡ m.number) × (i ≡ m.id)
said_follow side k i (Committed n id) m e =
    let p = wanted_is side (mark k i) (mark n id) m e in
    (ap (λ (x : Mark). Committed x.number x.id) p.0, p.1, p.2)
said_follow side k i (At n) m e = absurd (cc)
said_follow side k i (Finds f) m e = absurd (cc)
said_follow side k i (Id n x) m e = absurd (cc)
said_follow side k i (Staged x) m e = absurd (cc)
said_follow side k i (Refused c) m e = absurd (cc)

-- what confirms a Which
pub said_which : (side : Side) (n : ℕ) (what : What) (m : Mark) → said side (Which n) what ≡ Ok m → (what ≡ Id m.number m.id) × (n ≡ m.number)
said_which side k (Id n id) m e =
    let p = wanted_is side (mark k id) (mark n id) m e in
    (ap (λ (x : Mark). Id x.number x.id) p.0, p.1)
said_which side k (At n) m e = absurd (cc)
said_which side k (Finds f) m e = absurd (cc)
said_which side k (Staged x) m e = absurd (cc)
said_which side k (Committed n x) m e = absurd (cc)
said_which side k (Refused c) m e = absurd (cc)

-- what confirms a Stage
pub said_stage : (side : Side) (i : UpdateId) (what : What) (m : Mark) → said side (Stage i) what ≡ Ok m → (what ≡ Staged i) ⊎ (what ≡ Committed m.number i)
said_stage side i (Staged id) m e =
    let p = wanted_is side (mark 0 i) (mark 0 id) m e in
    inl (ap (λ (x : UpdateId). Staged x) (ap (λ (x : Mark). x.id) p.0 ∙ sym p.2))
said_stage side i (Committed n id) m e =
    let p = wanted_is side (mark n i) (mark n id) m e in
    inr (ap (λ (x : Mark). Committed x.number x.id) p.0 ∙ ap (λ (x : UpdateId). Committed m.number x) (sym p.2))
said_stage side i (At n) m e = absurd (cc)
said_stage side i (Finds f) m e = absurd (cc)
said_stage side i (Id n x) m e = absurd (cc)
said_stage side i (Refused c) m e = absurd (cc)
