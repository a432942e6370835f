-- From a log back to the lawful operations that made it: each number was given, and each staged update was staged.
use Rattle.std.proofs.Common.{◌≡◌, ◌⊎◌, inl, inr, ℕ, zero, suc, ◌+◌, Bool, true, false, cond, eqb, List, [], ◌∷◌, ◌++◌, length, Option, Some, None, Result, Ok, Err, refl, sym, ◌∙◌, ap, subst, arith, append_assoc}
use Rattle.std.specs.Prelude.{slice_get, slice_set}
use Rattle.std.specs.List.{fold}
use Rattle.std.proofs.lemmas.Bool.{eqb-true}
use Rattle.std.proofs.lemmas.List.{append-nil}
use Rattle.dory_base.specs.Dims.{Dims}
use Rattle.dory_base.specs.Log.{Log, empty_log, number_from, number_of, staged_by, staged_as, same_id}
use Rattle.dory_base.specs.Step.{log_appended}
use Rattle.dory_base.specs.declared.ids.Side.{Side}
use Rattle.dory_base.specs.declared.ids.Side.TheVariants.{Lead, Follow as Following}
use Rattle.dory_base.specs.declared.ids.UpdateId.{UpdateId}
use Rattle.dory_base.specs.declared.entry.Entry.{Entry}
use Rattle.dory_base.specs.declared.plan.Plan.{Plan}
use Rattle.dory_base.specs.declared.plan.Plan.TheVariants.{Again, Fresh}
use Rattle.dory_base.specs.declared.refusal.Refusal.{Refusal}
use Rattle.dory_base.proofs.SameLaws.{same_id_refl}
use Rattle.dory_base.proofs.LogLaws.{IsFresh, order_seen, follow_seen, with_id_some, nothing_staged}
use Rattle.dory_journal.specs.Ops.{Op, Stages, Appends, Has, is_fresh, look_append, may, log_after_op, AreLawful}
use Rattle.dory_journal.specs.Bytes.{Scan, stopped, with_op, scan_on, scan, scan_of, ops_of, op_at}
use Rattle.dory_journal.proofs.Crashes.{scan_at}

-- ---- membership

pub has_more : (op : Op) (ops more : List Op) → Has op ops → Has op (ops ++ more)
has_more op [] more has = absurd has
has_more op (x ∷ ops) more (inl e) = inl e
has_more op (x ∷ ops) more (inr has) = inr (has_more op ops more has)

pub has_last : (op : Op) (ops : List Op) → Has op (ops ++ op ∷ [])
has_last op [] = inl refl
has_last op (x ∷ ops) = inr (has_last op ops)

has_snoc : (op last : Op) (ops : List Op) → Has op (ops ++ last ∷ []) → Has op ops ⊎ (op ≡ last)
has_snoc op last [] (inl e) = inr e
has_snoc op last [] (inr none) = absurd none
has_snoc op last (x ∷ ops) (inl e) = inl (inl e)
has_snoc op last (x ∷ ops) (inr has) = elim (has_snoc op last ops has) [ inl h ↦ inl (inr h) | inr e ↦ inr e ]

-- ---- lists of ids and of places

get_snoc : (ids : List UpdateId) (id x : UpdateId) (i : ℕ) → slice_get (ids ++ id ∷ []) i ≡ Some x → (slice_get ids i ≡ Some x) ⊎ ((i ≡ length ids) × (id ≡ x))
get_snoc [] id x zero e = let same : id ≡ x = cc in inr (refl, same)
get_snoc [] id x (suc i) e = absurd cc
get_snoc (y ∷ ids) id x zero e = inl e
get_snoc (y ∷ ids) id x (suc i) e = elim (get_snoc ids id x i e) [ inl h ↦ inl h | inr h ↦ inr (ap suc h.0, h.1) ]

-- what stands at a place after one was set is what was set, or stood there before
set_cases : (staged : List (Option Entry)) (i m : ℕ) (v : Option Entry) (e : Entry) → staged_by (slice_set staged i v) m ≡ Some e → (v ≡ Some e) ⊎ (staged_by staged m ≡ Some e)
set_cases [] i m v e h = inr h
set_cases (x ∷ staged) zero zero v e h = inl h
set_cases (x ∷ staged) zero (suc m) v e h = inr h
set_cases (x ∷ staged) (suc i) zero v e h = inr h
set_cases (x ∷ staged) (suc i) (suc m) v e h = set_cases staged i m v e h

more_if : (b : Bool) (k n : ℕ) (id : UpdateId) (ids more : List UpdateId) → (number_from (k + 1) ids id ≡ Some n → number_from (k + 1) (ids ++ more) id ≡ Some n)
    → cond b (Some k) (number_from (k + 1) ids id) ≡ Some n → cond b (Some k) (number_from (k + 1) (ids ++ more) id) ≡ Some n
more_if true k n id ids more on h = h
more_if false k n id ids more on h = on h

number_more : (k n : ℕ) (id : UpdateId) (ids more : List UpdateId) → number_from k ids id ≡ Some n → number_from k (ids ++ more) id ≡ Some n
number_more k n id [] more h = absurd cc
number_more k n id (x ∷ ids) more h = more_if (same_id x id) k n id ids more (number_more (k + 1) n id ids more) h

new_if : (b : Bool) (k n : ℕ) (id : UpdateId) (ids : List UpdateId) → (number_from (k + 1) ids id ≡ None → number_from (k + 1) (ids ++ id ∷ []) id ≡ Some n)
    → cond b (Some k) (number_from (k + 1) ids id) ≡ None → cond b (Some k) (number_from (k + 1) (ids ++ id ∷ []) id) ≡ Some n
new_if true k n id ids on h = absurd cc
new_if false k n id ids on h = on h

number_new : (k n : ℕ) (id : UpdateId) (ids : List UpdateId) → n ≡ k + length ids → number_from k ids id ≡ None → number_from k (ids ++ id ∷ []) id ≡ Some n
number_new k n id [] is h = let same : k ≡ n = omega (arith, is) in ap (λ (b : Bool). cond b (Some k) None) (same_id_refl id) ∙ ap Some same
number_new k n id (x ∷ ids) is h = new_if (same_id x id) k n id ids (number_new (k + 1) n id ids (omega (arith, is))) h

-- ---- a log that these operations made

pub record IsMadeBy (log : Log) (ops : List Op) : Type 0 where
  pub given : (i : ℕ) (id : UpdateId) → slice_get log.ids i ≡ Some id → Has (Appends (i + 1) id) ops
  pub made : (i : ℕ) (id : UpdateId) → slice_get log.ids i ≡ Some id → (e : Entry) × Has (Stages e) ops × (e.id ≡ id)
  pub staged : (m : ℕ) (e : Entry) → staged_by log.staged m ≡ Some e → Has (Stages e) ops
  pub number : (n : ℕ) (id : UpdateId) → Has (Appends n id) ops → number_of log.ids id ≡ Some n

none_made : (role : Side) (shape : Dims) → IsMadeBy (empty_log role shape) []
none_made role shape = record {
  given = λ i id h. absurd cc;
  made = λ i id h. absurd cc;
  staged = λ m e h. let none : staged_by (empty_log role shape).staged m ≡ None = nothing_staged 64 m in absurd cc;
  number = λ n id has. absurd has;
}

staged_more : (log : Log) (e : Entry) (ops : List Op) → IsMadeBy log ops → IsMadeBy (log_after_op log (Stages e)) (ops ++ Stages e ∷ [])
staged_more log e ops k = record {
  given = λ i id h. has_more (Appends (i + 1) id) ops (Stages e ∷ []) (k.given i id h);
  made = λ i id h. let m = k.made i id h in (m.0, has_more (Stages m.0) ops (Stages e ∷ []) m.1, m.2);
  staged = λ m x h. elim (set_cases log.staged e.id.member.0 m (Some e) x h) [
    | inl new ↦ let same : e ≡ x = cc in subst (λ (y : Entry). Has (Stages y) (ops ++ Stages e ∷ [])) same (has_last (Stages e) ops)
    | inr old ↦ has_more (Stages x) ops (Stages e ∷ []) (k.staged m x old)
  ];
  number = λ n id has. elim (has_snoc (Appends n id) (Stages e) ops has) [ inl h ↦ k.number n id h | inr other ↦ absurd cc ];
}

appends_is : (n m : ℕ) (id x : UpdateId) → n ≡ m → id ≡ x → Appends n id ≡ Appends m x
appends_is n m id x e f = λ i. Appends (e i) (f i)

appended_more : (log : Log) (n : ℕ) (id : UpdateId) (e : Entry) (ops : List Op) → IsMadeBy log ops → staged_as log.staged id ≡ Some e → number_of log.ids id ≡ None → n ≡ length log.ids + 1
    → IsMadeBy (log_appended log id (Some e)) (ops ++ Appends n id ∷ [])
appended_more log n id e ops k here unknown next =
    let last : List Op = ops ++ Appends n id ∷ [] in
    let entry = with_id_some id (staged_by log.staged id.member.0) e here in
    record {
      given = λ i x h. elim (get_snoc log.ids id x i h) [
        | inl old ↦ has_more (Appends (i + 1) x) ops (Appends n id ∷ []) (k.given i x old)
        | inr new ↦
            let is : Appends n id ≡ Appends (i + 1) x = appends_is n (i + 1) id x (omega (arith, next, new.0)) new.1 in
            subst (λ (op : Op). Has op last) is (has_last (Appends n id) ops)
      ];
      made = λ i x h. elim (get_snoc log.ids id x i h) [
        | inl old ↦ let m = k.made i x old in (m.0, has_more (Stages m.0) ops (Appends n id ∷ []) m.1, m.2)
        | inr new ↦ (e, has_more (Stages e) ops (Appends n id ∷ []) (k.staged id.member.0 e entry.0), entry.1 ∙ new.1)
      ];
      staged = λ m x h. elim (set_cases log.staged id.member.0 m None x h) [
        | inl none ↦ absurd cc
        | inr old ↦ has_more (Stages x) ops (Appends n id ∷ []) (k.staged m x old)
      ];
      number = λ m x has. elim (has_snoc (Appends m x) (Appends n id) ops has) [
        | inl old ↦ number_more 1 m x log.ids (id ∷ []) (k.number m x old)
        | inr new ↦
            let number_is : n ≡ m = cc in
            let id_is : id ≡ x = cc in
            let there : number_of (log.ids ++ id ∷ []) id ≡ Some n = number_new 1 n id log.ids (omega (arith, next)) unknown in
            subst (λ (y : UpdateId). number_of (log.ids ++ id ∷ []) y ≡ Some m) id_is (there ∙ ap Some number_is)
      ];
    }

-- ---- an operation that may be is fresh

fresh_is : (n : ℕ) (r : Result Plan Refusal) → is_fresh n r ≡ true → r ≡ Ok (Fresh n)
fresh_is n (Ok (Fresh next)) h = ap (λ (m : ℕ). Ok (Fresh m)) (eqb-true next n h)
fresh_is n (Ok (Again own)) h = absurd cc
fresh_is n (Err code) h = absurd cc

fresh_as : (role : Side) (log : Log) (n : ℕ) (id : UpdateId) → look_append role log n id ≡ Ok (Fresh n) → IsFresh log n id
fresh_as Lead log n id h = (order_seen log id n h).0
fresh_as Following log n id h = (follow_seen log n n id h).0

one_more : (log : Log) (op : Op) (ops : List Op) → IsMadeBy log ops → may log op ≡ true → IsMadeBy (log_after_op log op) (ops ++ op ∷ [])
one_more log (Stages e) ops k lawful = staged_more log e ops k
one_more log (Appends n id) ops k lawful =
    let fresh = fresh_as log.role log n id (fresh_is n (look_append log.role log n id) lawful) in
    subst (λ (o : Option Entry). IsMadeBy (log_appended log id o) (ops ++ Appends n id ∷ [])) (sym fresh.staged)
    (appended_more log n id fresh.entry ops k fresh.staged fresh.unknown fresh.next)

all_more : (ops : List Op) (log : Log) (before : List Op) → IsMadeBy log before → AreLawful log ops → IsMadeBy (fold log_after_op log ops) (before ++ ops)
all_more [] log before k lawful = subst (IsMadeBy log) (sym (append-nil before)) k
all_more (op ∷ ops) log before k lawful =
    subst (IsMadeBy (fold log_after_op log (op ∷ ops))) (append_assoc before (op ∷ []) ops)
    (all_more ops (log_after_op log op) (before ++ op ∷ []) (one_more log op before k lawful.0) lawful.1)

-- ---- what a scan finds is lawful

record IsLawfulScan (log : Log) (s : Scan) : Type 0 where
  lawful : AreLawful log s.ops
  log_is : s.log ≡ fold log_after_op log s.ops

none_found : (log : Log) (bytes : List ℕ) (whole : Bool) → IsLawfulScan log (stopped log bytes whole)
none_found log bytes whole = record { lawful = tt; log_is = refl }

found_if : (b : Bool) (log : Log) (bytes : List ℕ) (op : Op) (s : Scan) → may log op ≡ b → IsLawfulScan (log_after_op log op) s → IsLawfulScan log (cond b (with_op op s) (stopped log bytes false))
found_if true log bytes op s lawful more = record { lawful = (lawful, more.lawful); log_is = more.log_is }
found_if false log bytes op s unlawful more = none_found log bytes false

found_on : (next : Log → List ℕ → Scan) (log : Log) (bytes : List ℕ) (o : Option (Op × List ℕ)) → ((l : Log) (b : List ℕ) → IsLawfulScan l (next l b)) → IsLawfulScan log (scan_on next log bytes o)
found_on next log bytes None on = none_found log bytes false
found_on next log bytes (Some x) on = found_if (may log x.0) log bytes x.0 (next (log_after_op log x.0) x.1) refl (on (log_after_op log x.0) x.1)

gate_if : (b : Bool) (log : Log) (bytes : List ℕ) (s : Scan) → IsLawfulScan log s → IsLawfulScan log (cond b s (stopped log bytes true))
gate_if true log bytes s on = on
gate_if false log bytes s on = none_found log bytes true

lawful_scan : (n folder : ℕ) (log : Log) (bytes : List ℕ) → IsLawfulScan log (scan n folder log bytes)
lawful_scan zero folder log bytes = none_found log bytes false
lawful_scan (suc n) folder log [] = none_found log [] false
lawful_scan (suc n) folder log (gate ∷ rest) =
    gate_if (eqb gate 1) log (gate ∷ rest) (scan_on (scan n folder) log (gate ∷ rest) (op_at folder rest)) (found_on (scan n folder) log (gate ∷ rest) (op_at folder rest) (lawful_scan n folder))

lawful_bytes : (folder : ℕ) (role : Side) (shape : Dims) (bytes : List ℕ) → IsLawfulScan (empty_log role shape) (scan_of folder role shape bytes)
lawful_bytes folder role shape bytes = subst (IsLawfulScan (empty_log role shape)) (sym (scan_at folder role shape bytes)) (lawful_scan (length bytes) folder (empty_log role shape) bytes)

-- the operations of bytes are lawful, one after the other
pub are_lawful : (folder : ℕ) (role : Side) (shape : Dims) (bytes : List ℕ) → AreLawful (empty_log role shape) (ops_of folder role shape bytes)
are_lawful folder role shape bytes = (lawful_bytes folder role shape bytes).lawful

-- the log after the operations of bytes is made by them
pub made_by_bytes : (folder : ℕ) (role : Side) (shape : Dims) (bytes : List ℕ) → IsMadeBy (scan_of folder role shape bytes).log (ops_of folder role shape bytes)
made_by_bytes folder role shape bytes =
    let l = lawful_bytes folder role shape bytes in
    subst (λ (log : Log). IsMadeBy log (ops_of folder role shape bytes)) (sym l.log_is) (all_more (ops_of folder role shape bytes) (empty_log role shape) [] (none_made role shape) l.lawful)
