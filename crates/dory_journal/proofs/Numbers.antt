-- A look that finds an update committed finds its number.
use Rattle.std.proofs.Common.{◌≡◌, ℕ, zero, suc, ◌-◌, ◌<◌, Bool, true, false, cond, List, [], ◌∷◌, length, Option, Some, None, Result, Ok, Err, refl, subst, arith}
use Rattle.std.specs.Prelude.{slice_get, nat_lt}
use Rattle.std.specs.List.{AllByRecursion}
use Rattle.std.proofs.lemmas.Bool.{ltb-true}
use Rattle.dory_base.specs.Log.{Log, number_of, last_of, staged_by, stage_beside, stage_known, look_stage}
use Rattle.dory_base.specs.Step.{IsLog, IsMembersId}
use Rattle.dory_base.specs.declared.ids.UpdateId.{UpdateId}
use Rattle.dory_base.specs.declared.ids.DocId.{DocId}
use Rattle.dory_base.specs.declared.entry.Entry.{Entry}
use Rattle.dory_base.specs.declared.entry.Change.TheVariants.{Remove}
use Rattle.dory_base.specs.declared.plan.StagePlan.{StagePlan}
use Rattle.dory_base.specs.declared.plan.StagePlan.TheVariants.{New, Same, Done}
use Rattle.dory_base.specs.declared.refusal.Refusal.{Refusal}
use Rattle.dory_base.specs.declared.refusal.Refusal.TheVariants.{BadMember, ShapeWrong}
use Rattle.dory_base.proofs.IdLaws.{number_there}
use Rattle.dory_journal.specs.Made.{done_number}
use Rattle.dory_journal.proofs.Asked.{beside_done}

all_get : {A : Type 0} (P : A → Type 0) (xs : List A) (i : ℕ) (x : A) → AllByRecursion P xs → slice_get xs i ≡ Some x → P x
all_get P [] i x all h = absurd cc
all_get P (y ∷ ys) zero x all h = let same : y ≡ x = cc in subst P same all.0
all_get P (y ∷ ys) (suc i) x all h = all_get P ys i x all.1 h

bad_as : (log : Log) (id : UpdateId) (o : Option ℕ) → IsLog log → 63 < id.member.0 → number_of log.ids id ≡ o → None ≡ o
bad_as log id None good bad e = refl
bad_as log id (Some n) good bad e =
    let there : IsMembersId id = all_get IsMembersId log.ids (n - 1) id good.ids (number_there log.ids id 1 n e).1 in absurd (omega (arith, bad, there.member))

not_done : (r : Result StagePlan Refusal) → ((n : ℕ) → r ≡ Ok (Done n) → ⊥) → done_number r ≡ None
not_done (Ok New) h = refl
not_done (Ok Same) h = refl
not_done (Ok (Done n)) h = absurd (h n refl)
not_done (Err code) h = refl

known_number : (o : Option ℕ) (log : Log) (e : Entry) → done_number (stage_known o log e) ≡ o
known_number (Some n) log e = refl
known_number None log e = not_done (stage_beside (staged_by log.staged e.id.member.0) (last_of log.ids e.id.member.0) e) (λ n h. beside_done (staged_by log.staged e.id.member.0) (last_of log.ids e.id.member.0) e n h)

done_if : (b : Bool) (log : Log) (e : Entry) (y : Refusal) → IsLog log → nat_lt 63 e.id.member.0 ≡ b
    → done_number (cond b (Err (BadMember e.id.member)) (cond true (stage_known (number_of log.ids e.id) log e) (Err y))) ≡ number_of log.ids e.id
done_if true log e y good t = bad_as log e.id (number_of log.ids e.id) good (ltb-true 63 e.id.member.0 t) refl
done_if false log e y good t = known_number (number_of log.ids e.id) log e

-- what staging a removal of an id comes to says its number
pub done_is : (log : Log) (id : UpdateId) (doc : DocId) → IsLog log → done_number (look_stage log (record { id = id; doc = doc; change = Remove })) ≡ number_of log.ids id
done_is log id doc good =
    let e : Entry = record { id = id; doc = doc; change = Remove } in
    done_if (nat_lt 63 id.member.0) log e (ShapeWrong log.shape.depth log.shape.probes) good refl

-- no id has a number in an empty history
pub none_in : (ids : List UpdateId) (id : UpdateId) → length ids ≡ 0 → None ≡ number_of ids id
none_in [] id e = refl
none_in (x ∷ ids) id e = absurd (omega (arith, e))
