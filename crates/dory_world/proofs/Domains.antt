-- What a domain of one folder answers, and how many updates it has.
use Rattle.std.proofs.Common.{◌≡◌, ◌≢◌, ℕ, ◌==◌, Bool, true, cond, List, [], ◌∷◌, length, ap, ◌∙◌, refl, subst, inl, inr, eq-eqb}
use Rattle.std.specs.Prelude.{Option, Some, None, option_map}
use Rattle.dory_base.specs.Step.{State}
use Rattle.dory_base.specs.declared.refusal.Refusal.TheVariants.{NoMemory}
use Rattle.dory_wire.specs.StepReply.{Steps, answer_of}
use Rattle.dory_wire.specs.declared.message.Request.{Request}
use Rattle.dory_wire.specs.declared.message.What.{What}
use Rattle.dory_wire.specs.declared.message.What.TheVariants.{Refused}
use Rattle.dory_domain.specs.Held.{Held, Serves, ServesBy, folder_in, folders_with}
use Rattle.dory_run.specs.Happening.{folder_after}
use Rattle.dory_world.specs.Steps.{only}

same_number : (n : ℕ) → (n == n) ≡ true
same_number n = eq-eqb n n refl

-- the one folder is found by its number
pub found_only : (n : ℕ) (f : State) → folder_in (only n f) n ≡ Some (record { number = n; state = f })
found_only n f = ap (λ (b : Bool). cond b (Some (record { number = n; state = f })) None) (same_number n)

-- so its length is
pub length_only : (n : ℕ) (f : State) (folders : List Held) → folders ≡ only n f → option_map (λ (g : Held). length g.state.history) (folder_in folders n) ≡ Some (length f.history)
length_only n f folders is = ap (λ (fs : List Held). option_map (λ (g : Held). length g.state.history) (folder_in fs n)) is ∙ ap (option_map (λ (g : Held). length g.state.history)) (found_only n f)

with_only : (n : ℕ) (f next : State) → folders_with n next (only n f) ≡ only n next
with_only n f next = ap (λ (b : Bool). cond b (record { number = n; state = next } ∷ []) (record { number = n; state = f } ∷ [])) (same_number n)

-- what it answers, where memory didn't run out, and what it then is
pub record Answered (f : State) (r : Request) (what : What) (now : List Held) : Type 0 where
  pub answer : what ≡ answer_of f r.want
  pub folder : now ≡ only r.folder.0 (folder_after f r)

pub answers_only : (f : State) (r : Request) (what : What) (folders now : List Held) → folders ≡ only r.folder.0 f → Serves folders r.folder.0 r.want what now → what ≢ Refused NoMemory → Answered f r what now
answers_only f r what folders now is serves remembers =
    let one : Serves (only r.folder.0 f) r.folder.0 r.want what now = subst (λ (fs : List Held). Serves fs r.folder.0 r.want what now) is serves in
    let served : ServesBy (Some (record { number = r.folder.0; state = f })) (only r.folder.0 f) r.folder.0 r.want what now =
    subst (λ (o : Option Held). ServesBy o (only r.folder.0 f) r.folder.0 r.want what now) (found_only r.folder.0 f) one in
    let next : State = served.0 in
    let steps : Steps f r.want what next = served.1 in
    let all : now ≡ only r.folder.0 next = served.2 ∙ with_only r.folder.0 f next in
    elim steps [
      | inl stepped ↦ record { answer = stepped.answer; folder = all ∙ ap (only r.folder.0) stepped.now }
      | inr ran ↦ absurd (remembers ran.answer)
    ]
