-- The ways in which a command begins.
use Rattle.std.proofs.Common.{◌≡◌, ℕ, ◌+◌, ◌*◌, ◌/◌, ◌≤◌, ◌<◌, ◌^◌, Bool, true, false, cond, List, length, refl, sym, ◌∙◌, arith, subst}
use Rattle.std.specs.Prelude.{Option, Some, None, IfSome, Result, Ok, Err, ◌==◌, ◌&&◌, if◌then◌else◌}
use Rattle.std.proofs.lemmas.Bool.{and_parts, eqb-true, eq-eqb, ltb-true, false≢true}
use Rattle.dory_base.specs.Dims.{Dims, column_count}
use Rattle.dory_base.specs.declared.entry.Entry.{Entry}
use Rattle.dory_base.specs.declared.ids.DocId.{DocId}
use Rattle.dory_hmac.specs.FolderKeys.{keys_of}
use Rattle.dory_hmac.specs.declared.folder_keys.FolderKeys.{FolderKeys}
use Rattle.dory_seal.specs.Seal.{IsSealed}
use Rattle.dory_state.specs.Spelling.{IsKeptState}
use Rattle.dory_state.specs.declared.kept.KeptState.{KeptState}
use Rattle.dory_state.specs.declared.kept.Pending.{Pending}
use Rattle.dory_member.specs.declared.command.Command.{Command}
use Rattle.dory_member.specs.declared.command.Command.TheVariants as command
use Rattle.dory_member.specs.declared.outcome.Fault.{Fault}
use Rattle.dory_member.specs.declared.outcome.Fault.TheVariants as fault
use Rattle.dory_member.specs.declared.outcome.Outcome.TheVariants.{NothingPending, Rotated}
use Rattle.dory_member.specs.declared.phase.Phase.TheVariants.{Updating, Measuring}
use Rattle.dory_member.specs.declared.phase.Run.{Run}
use Rattle.dory_member.specs.declared.phase.UpdateStep.TheVariants.{StageFollow}
use Rattle.dory_member.specs.Course.{asking, begun, change_of, ended_with, entry_of, folder_keys, id_of, if_finished, posting, removing, resumed, sealed_row}
use Rattle.dory_member.specs.Draw.{epoch_in, is_last_epoch, is_last_serial, is_used_up, ready, turned}
use Rattle.dory_member.proofs.Entries.{sealed_is}
use Rattle.dory_member.proofs.Kept.{turned_is}
use Rattle.dory_run.specs.declared.setup.Setup.{Setup}
use Rattle.dory_run.specs.Happening.{fits, is_doc}
use Rattle.dory_run.specs.Kept.{IsStored}
use Rattle.dory_run.specs.Start.{fresh, keys_in}

pub data Starts (k : KeptState) (seed : List ℕ) (c : Command) (run : Run) : Type 0 where
  Resumes : (p : Pending) → c ≡ command.Resume → k.pending ≡ Some p → is_last_serial k ≡ false → asking k seed k.used (Updating (entry_of k p) StageFollow) ≡ run → Starts k seed c run
  Searches : (word : List ℕ) → c ≡ command.Search word → is_last_serial k ≡ false → asking k seed k.used (Measuring (Some word) None) ≡ run → Starts k seed c run
  Measures : c ≡ command.Latest → is_last_serial k ≡ false → asking k seed k.used (Measuring None None) ≡ run → Starts k seed c run
  Posts : (doc : DocId) (row : List Bool) → c ≡ command.Post doc row → is_last_serial k ≡ false → (is_used_up k && is_last_epoch k) ≡ false → posting (ready k) seed doc row ≡ run → Starts k seed c run
  Removes : (doc : DocId) → c ≡ command.Remove doc → is_last_serial k ≡ false → removing k seed doc ≡ run → Starts k seed c run
  Rests : c ≡ command.Resume → ended_with k seed NothingPending ≡ run → Starts k seed c run
  Rotates : c ≡ command.Rotate → is_last_epoch k ≡ false → ended_with (turned k) seed (Rotated (epoch_in (turned k).next_serial)) ≡ run → Starts k seed c run

abbrev ok_run : Run → Result Run Fault
ok_run run = Ok run

run_is : (x y : Run) → ok_run x ≡ ok_run y → x ≡ y
run_is x y e = cc

if_ok : (b : Bool) (f : Fault) (r : Result Run Fault) (run : Run) → cond b (Err f) r ≡ ok_run run → (b ≡ false) × (r ≡ ok_run run)
if_ok true f r run e = absurd (cc)
if_ok false f r run e = (refl, e)

finished_ok : (k : KeptState) (o : Option Pending) (r : Result Run Fault) (run : Run) → if_finished k o r ≡ ok_run run → r ≡ ok_run run
finished_ok k (Some p) r run e = absurd (cc)
finished_ok k None r run e = e

resumed_start : (k : KeptState) (seed : List ℕ) (o : Option Pending) (run : Run) → k.pending ≡ o → resumed k seed o ≡ ok_run run → Starts k seed command.Resume run
resumed_start k seed None run is e = Rests refl (run_is _ run e)
resumed_start k seed (Some p) run is e =
    let q = if_ok (is_last_serial k) fault.SerialEnd (Ok (asking k seed k.used (Updating (entry_of k p) StageFollow))) run e in
    Resumes p refl is q.0 (run_is _ run q.1)

pub starts : (k : KeptState) (seed : List ℕ) (c : Command) (run : Run) → begun k seed c ≡ Ok run → Starts k seed c run
starts k seed (command.Post doc row) run e =
    let a = finished_ok k k.pending _ run e in
    let b = if_ok (is_last_serial k) fault.SerialEnd _ run a in
    let c = if_ok (is_used_up k && is_last_epoch k) fault.EpochEnd _ run b.1 in
    Posts doc row refl b.0 c.0 (run_is _ run c.1)
starts k seed (command.Remove doc) run e =
    let a = finished_ok k k.pending _ run e in
    let b = if_ok (is_last_serial k) fault.SerialEnd _ run a in
    Removes doc refl b.0 (run_is _ run b.1)
starts k seed (command.Search word) run e =
    let b = if_ok (is_last_serial k) fault.SerialEnd _ run e in
    Searches word refl b.0 (run_is _ run b.1)
starts k seed command.Resume run e = resumed_start k seed k.pending run refl e
starts k seed command.Latest run e =
    let b = if_ok (is_last_serial k) fault.SerialEnd _ run e in
    Measures refl b.0 (run_is _ run b.1)
starts k seed command.Rotate run e =
    let b = if_ok (is_last_epoch k) fault.EpochEnd _ run e in
    Rotates refl b.0 (run_is _ run b.1)

-- ---- serials and epochs

-- a number that isn't this one
not_eq : (m n : ℕ) → (m == n) ≡ false → m ≡ n → ⊥
not_eq m n e q = false≢true (sym e ∙ eq-eqb m n q)

pub left : (k : KeptState) → IsKeptState k → is_last_serial k ≡ false → k.next_serial < 18446744073709551615
left k h e = by_parts k.next_serial h.serials (not_eq k.next_serial 18446744073709551615 e)
  where
    by_parts : (n : ℕ) → n < 2 ^ 64 → (n ≡ 18446744073709551615 → ⊥) → n < 18446744073709551615
    by_parts n few other = omega (arith, other)

epoch_few : (n : ℕ) → n < 2 ^ 64 → (n / 2 ^ 56 ≡ 255 → ⊥) → n / 2 ^ 56 < 255
epoch_few n few other = omega (arith, other)

pub epoch_left : (k : KeptState) → IsKeptState k → is_last_epoch k ≡ false → epoch_in k.next_serial < 255
epoch_left k h e = epoch_few k.next_serial h.serials (not_eq (epoch_in k.next_serial) 255 e)

-- a state in which a post may draw its serial
pub record IsReady (s : Setup) (made : List Entry) (m : ℕ) (k r : KeptState) : Type 0 where
  pub stored : IsStored s made m r
  pub later : k.next_serial ≤ r.next_serial
  pub left : r.next_serial < 18446744073709551615
  pub used : r.used < 65536

pub turned_stored : (s : Setup) (made : List Entry) (m : ℕ) (k : KeptState) → IsStored s made m k → epoch_in k.next_serial < 255 → IsStored s made m (turned k)
turned_stored s made m k h e = record {
  state = turned_is k h.state e;
  member = h.member;
  folder = h.folder;
  shape = h.shape;
  master = h.master;
  pending = h.pending;
}

turn_later : (n : ℕ) → n ≤ (n / 2 ^ 56 + 1) * 2 ^ 56
turn_later n = omega arith

turn_left : (n : ℕ) → n / 2 ^ 56 < 255 → (n / 2 ^ 56 + 1) * 2 ^ 56 < 18446744073709551615
turn_left n e = omega arith

used_few : (n : ℕ) → n ≤ 65536 → (n ≡ 65536 → ⊥) → n < 65536
used_few n le other = omega (arith, other)

pub ready_is : (s : Setup) (made : List Entry) (m : ℕ) (k : KeptState) (b : Bool) → is_used_up k ≡ b → IsStored s made m k → is_last_serial k ≡ false → (b && is_last_epoch k) ≡ false → IsReady s made m k (if b then turned k else k)
ready_is s made m k true used h l e =
    let few = epoch_left k h.state e in
    record { stored = turned_stored s made m k h few; later = turn_later k.next_serial; left = turn_left k.next_serial few; used = omega arith }
ready_is s made m k false used h l e = record { stored = h; later = omega arith; left = left k h.state l; used = used_few k.used h.state.used (not_eq k.used 65536 used) }

-- ---- the update that a command makes

change_same : (k l : KeptState) (p : Pending) (r : Option (List Bool)) → k.member ≡ l.member → k.folder ≡ l.folder → k.shape ≡ l.shape → k.master ≡ l.master → change_of k p r ≡ change_of l p r
change_same k l p None a b c d = refl
change_same k l p (Some row) a b c d = λ i. sealed_row (keys_of (d i) (b i).0) (c i) (record { member = a i; serial = p.serial }) p.doc row

-- an update is the same whatever else its member keeps
entry_same : (k l : KeptState) (p : Pending) → k.member ≡ l.member → k.folder ≡ l.folder → k.shape ≡ l.shape → k.master ≡ l.master → entry_of k p ≡ entry_of l p
entry_same k l p a b c d =
    let same = change_same k l p p.row a b c d in
    λ i. record { id = record { member = a i; serial = p.serial }; doc = p.doc; change = same i }

pub entry_stored : (s : Setup) (made : List Entry) (m : ℕ) (k : KeptState) (p : Pending) → IsStored s made m k → entry_of k p ≡ entry_of (fresh s m) p
entry_stored s made m k p h = entry_same k (fresh s m) p h.member h.folder h.shape h.master

keys_are : (s : Setup) (made : List Entry) (m : ℕ) (k : KeptState) → IsStored s made m k → folder_keys k ≡ keys_in s
keys_are s made m k h = λ i. keys_of (h.master i) (h.folder i).0

change_sealed : (k : KeptState) (p : Pending) (r : Option (List Bool)) → IfSome r (λ row. length row ≡ column_count k.shape) → IsSealed (folder_keys k) (record { id = id_of k p; doc = p.doc; change = change_of k p r })
change_sealed k p None h = tt
change_sealed k p (Some row) h = (sealed_is (folder_keys k) k.shape (id_of k p) p.doc row h).sealed

pub entry_sealed : (s : Setup) (made : List Entry) (m : ℕ) (k : KeptState) (p : Pending) → IsStored s made m k → IfSome p.row (λ row. length row ≡ column_count k.shape) → IsSealed (keys_in s) (entry_of k p)
entry_sealed s made m k p h fits = subst (λ (keys : FolderKeys). IsSealed keys (entry_of k p)) (keys_are s made m k h) (change_sealed k p p.row fits)

pub doc_fits : (n : ℕ) → is_doc n ≡ true → n < 2 ^ 32
doc_fits n e = ltb-true n 4294967296 e

pub row_fits : (shape : Dims) (doc : DocId) (row : List Bool) → fits shape (command.Post doc row) ≡ true → (length row ≡ column_count shape) × (doc.0 < 2 ^ 32)
row_fits shape doc row e =
    let p = and_parts (length row == column_count shape) (is_doc doc.0) e in
    (eqb-true (length row) (column_count shape) p.0, doc_fits doc.0 p.1)
