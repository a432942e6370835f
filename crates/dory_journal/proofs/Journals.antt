-- What a journal knows once a record is on the disk.
use Rattle.std.proofs.Common.{◌≡◌, ℕ, ◌↔◌, ◌+◌, ◌-◌, Bool, true, false, List, [], ◌∷◌, ◌++◌, length, Option, Some, None, refl, sym, ◌∙◌, ap, subst, arith}
use Rattle.std.specs.Option.{option_map}
use Rattle.dory_base.specs.Dims.{Dims}
use Rattle.dory_base.specs.Log.{Log, number_of, staged_as}
use Rattle.dory_base.specs.Step.{log_appended}
use Rattle.dory_base.specs.declared.ids.UpdateId.{UpdateId}
use Rattle.dory_base.specs.declared.entry.Entry.{Entry}
use Rattle.dory_base.specs.declared.ids.Side.{Side}
use Rattle.dory_base.proofs.IdLaws.{number_there}
use Rattle.dory_disk.specs.Disk.{IsOnDisk}
use Rattle.dory_wire.specs.declared.message.Want.{Want}
use Rattle.dory_wire.specs.Spelling.{IsWant}
use Rattle.dory_journal.proofs.Pieces.{some_is, was_told}
use Rattle.dory_journal.proofs.Kept.{IsMadeBy, made_by_bytes}
use Rattle.dory_journal.proofs.Asked.{asked_has}
use Rattle.dory_journal.specs.Made.{HasAsked, op_made, refusal_of, with_made}
use Rattle.dory_journal.proofs.Crashes.{opened_at, opened_ops}
use Rattle.dory_journal.specs.Bytes.{ops_of}
use Rattle.dory_journal.specs.Ops.{Op, Stages, Appends, Has, may, log_after_op}
use Rattle.dory_journal.specs.Recording.{IsAt, IsPiece, TellsOps, Records, IsAcknowledged}
use Rattle.dory_journal.specs.Writing.{opened}

mapped_some : {A B : Type 0} (f : A → B) (o : Option A) (y : B) → Some y ≡ option_map f o → (x : A) × (o ≡ Some x) × (y ≡ f x)
mapped_some f None y e = absurd cc
mapped_some f (Some x) y e = (x, refl, some_is y (f x) e)

-- the log keeps its role and shape
pub record Alike (log now : Log) : Type 0 where
  pub role : now.role ≡ log.role
  pub shape : now.shape ≡ log.shape

alike_appended : (log : Log) (id : UpdateId) (o : Option Entry) → Alike log (log_appended log id o)
alike_appended log id None = record { role = refl; shape = refl }
alike_appended log id (Some e) = record { role = refl; shape = refl }

pub alike : (log : Log) (op : Op) → Alike log (log_after_op log op)
alike log (Stages e) = record { role = refl; shape = refl }
alike log (Appends n id) = alike_appended log id (staged_as log.staged id)

pub role_stays : (log : Log) (op : Op) → (log_after_op log op).role ≡ log.role
role_stays log op = (alike log op).role

pub at_after : (folder folder' : ℕ) (log log' : Log) (gate gate' : ℕ) (op : Op) (piece : List ℕ) (told told' : Option (List ℕ)) (b : List ℕ) {broken : Bool}
    → ((b0 : List ℕ) → broken ≡ false → told ≡ Some b0 → IsAt folder log.role log.shape log gate b0) → broken ≡ false
    → IsPiece folder op piece → may log op ≡ true → told' ≡ option_map (opened gate piece) told → told' ≡ Some b
    → folder' ≡ folder → gate' ≡ gate → log' ≡ log_after_op log op
    → IsAt folder' log'.role log'.shape log' (gate' + length piece) b
at_after folder folder' log log' gate gate' op piece told told' b at unbroken p lawful mapped is same_folder same_gate log_is =
    let m = mapped_some (opened gate piece) told b (sym is ∙ mapped) in
    let here : IsAt folder log.role log.shape (log_after_op log op) (gate + length piece) b =
    subst (λ (c : List ℕ). IsAt folder log.role log.shape (log_after_op log op) (gate + length piece) c) (sym m.2) (opened_at folder log.role log.shape log gate m.0 (at m.0 unbroken m.1) op piece p lawful) in
    let now = alike log op in
    let alone : IsAt folder (log_after_op log op).role (log_after_op log op).shape (log_after_op log op) (gate + length piece) b =
    subst (λ r. IsAt folder r (log_after_op log op).shape (log_after_op log op) (gate + length piece) b) (sym now.role)
    (subst (λ (s : Dims). IsAt folder log.role s (log_after_op log op) (gate + length piece) b) (sym now.shape) here) in
    subst (λ (f : ℕ). IsAt f log'.role log'.shape log' (gate' + length piece) b) (sym same_folder)
    (subst (λ (g : ℕ). IsAt folder log'.role log'.shape log' (g + length piece) b) (sym same_gate)
    (subst (λ l. IsAt folder l.role l.shape l (gate + length piece) b) (sym log_is) alone))

pub tells_after : (folder : ℕ) (role : Side) (shape : Dims) (log : Log) (gate : ℕ) (op : Op) (piece : List ℕ) (told told' : Option (List ℕ)) (b : List ℕ)
    → IsAt folder role shape log gate b → IsPiece folder op piece → may log op ≡ true → told ≡ Some b → told' ≡ option_map (opened gate piece) told
    → TellsOps folder role shape (ops_of folder role shape b ++ op ∷ []) told'
tells_after folder role shape log gate op piece told told' b at p lawful is mapped = (
  opened gate piece b,
  mapped ∙ ap (option_map (opened gate piece)) is,
  record { whole = (opened_at folder role shape log gate b at op piece p lawful).whole; are = opened_ops folder role shape log gate b at op piece p lawful },
)

-- whatever a crash now may leave has what was asked and not refused
pub acknowledged : (folder gate : ℕ) (log : Log) (want : Want) (before now : Option (List ℕ)) (images : List ℕ → Type 0)
    → ((b : List ℕ) → before ≡ Some b → IsAt folder log.role log.shape log gate b) → IsWant want → None ≡ refusal_of log want
    → Records before now folder log (op_made log want) → IsOnDisk now images → IsAcknowledged before images folder log want
acknowledged folder gate log want before now images at range answer kept durable = λ b is c left.
    let ops = ops_of folder log.role log.shape b in
    let made : IsMadeBy log ops = subst (λ (l : Log). IsMadeBy l ops) (at b is).log_is (made_by_bytes folder log.role log.shape b) in
    let tells = kept b is in
    let same : tells.0 ≡ c = was_told now tells.0 c images tells.1 durable left in
    let ops_are : with_made ops (op_made log want) ≡ ops_of folder log.role log.shape c = sym tells.2.are ∙ ap (ops_of folder log.role log.shape) same in
    subst (HasAsked log want) ops_are (asked_has log want ops made range (sym answer))

-- the number of an id in the log is the one at which the bytes say that it was appended
pub number_told : (folder gate : ℕ) (log : Log) (b : List ℕ) (id : UpdateId) (r : Option ℕ) → IsAt folder log.role log.shape log gate b → r ≡ number_of log.ids id
    → (n : ℕ) → r ≡ Some n ↔ Has (Appends n id) (ops_of folder log.role log.shape b)
number_told folder gate log b id r at is = λ n.
    let ops = ops_of folder log.role log.shape b in
    let made : IsMadeBy log ops = subst (λ (l : Log). IsMadeBy l ops) at.log_is (made_by_bytes folder log.role log.shape b) in (
      (λ e.
          let there = number_there log.ids id 1 n (sym is ∙ e) in
          let number : n - 1 + 1 ≡ n = omega (arith, there.0) in
          subst (λ (x : ℕ). Has (Appends x id) ops) number (made.given (n - 1) id there.1)),
      λ has. is ∙ made.number n id has,
    )
