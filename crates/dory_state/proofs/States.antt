-- States: what is read is spelled so, and what is spelled so is read.
use Rattle.std.proofs.Common.{◌≡◌, ℕ, ◌≤◌, ◌<◌, ◌^◌, Bool, true, false, cond, eqb, ltb, inl, inr, List, [], ◌++◌, length, take, drop, Option, Result, Ok, Err, codes, refl, sym, ap, subst, ◌∙◌, append_assoc, append-nil, arith}
use Rattle.std.specs.Prelude.{IfOk, IfSome}
use Rattle.std.specs.Int.{w32, is_in_range}
use Rattle.std.specs.Str.{bytes_eq}
use Rattle.std.proofs.lemmas.Slice.Eq.{bytes_eq-Decides}
use Rattle.std.proofs.lemmas.Bool.{eqb-true, ltb-true}
use Rattle.std.proofs.lemmas.List.{length-take, nil_from_length, take-append-drop}
use Rattle.dory_fields.specs.Bytes.{IsBytes, four}
use Rattle.dory_fields.specs.declared.fault.FieldFault.{FieldFault}
use Rattle.dory_fields.specs.declared.fault.FieldFault.TheVariants as field
use Rattle.dory_fields.specs.Reading.{Read, ◌>>=◌, Fails as FieldFails, field_at, tested_at}
use Rattle.dory_fields.proofs.Fields.{IsBytes-drop, Takes, Takes-then, bind_ok, in_range, ok_is, range_met, tested_again, tested_takes, wide32}
use Rattle.dory_state.specs.declared.fault.StateFault.{StateFault}
use Rattle.dory_state.specs.declared.fault.StateFault.TheVariants.{Header, Length}
use Rattle.dory_state.specs.declared.kept.Head.{Head}
use Rattle.dory_state.specs.declared.kept.Pending.{Pending}
use Rattle.dory_state.specs.declared.kept.KeptState.{KeptState}
use Rattle.dory_state.specs.Spelling.{IsFirst, IsKeptState, IsPending, Spells, first_spelling_of_state, head, pending, spelling_of_state}
use Rattle.dory_state.specs.Reading.{Gives, first_at, head_at, kept, pending_at, second_at, state_of, whole}
use Rattle.dory_state.proofs.Updates.{pending_again, pending_takes}
use Rattle.dory_state.proofs.Heads.{IsHead, head_again, head_takes, text_of}

-- what was read of all bytes is what they are
all_taken : (bytes text rest : List ℕ) → Takes bytes text rest → rest ≡ [] → bytes ≡ text
all_taken bytes text rest t none = t.parts ∙ ap (λ (r : List ℕ). text ++ r) none ∙ append-nil text

by_end : (b : Bool) (total : ℕ) (s r : KeptState) → cond b (Ok s) (Err (Length total)) ≡ Ok r → (b ≡ true) × (s ≡ r)
by_end true total s r e = (refl, cc)
by_end false total s r e = absurd cc

-- a state that was read whole was read, and nothing follows
whole_ok : (total : ℕ) (read : Read KeptState) (s : KeptState) → whole total read ≡ Ok s → read ≡ Ok (s, [])
whole_ok total (Ok x) s e =
    let b = by_end (eqb (length x.1) 0) total x.0 s e in
    let none : x.1 ≡ [] = nil_from_length x.1 (eqb-true _ _ b.0) in
    λ i. Ok (b.1 i, none i)
whole_ok total (Err f) s e = absurd cc

is_kept : (latest : ℕ) (h : Head) (used : ℕ) (p : Option Pending) → IsHead latest h → used ≤ 65536 → IfSome p (IsPending h.shape h.next_serial) → IsKeptState (kept h used p)
is_kept latest h used p is few pends = record {
  folder = is.folder;
  member = is.member;
  shape = is.shape;
  master = is.master;
  next = is.next;
  serials = is.serials;
  seen = is.seen;
  used = few;
  pending = pends;
}

-- ---- the second form

abbrev IsSecond : List ℕ → KeptState → List ℕ → Type 0
IsSecond bytes s rest = Takes bytes (head s ++ (four s.used ++ pending s.pending)) rest × IsKeptState s

second_takes : (total : ℕ) (bytes : List ℕ) (x : KeptState × List ℕ) → IsBytes bytes → second_at total bytes ≡ Ok x → IsSecond bytes x.0 x.1
unfolding second_at
second_takes total bytes x fits e =
    let a = bind_ok (head_at 18446744073709551615 total bytes) (λ h. tested_at w32 (is_in_range 0 65536) total h.1 >>= λ used. pending_at h.0.shape h.0.next_serial total used.1 >>= λ p. Ok (kept h.0 used.0 p.0, p.1)) x e in
    let b = bind_ok (tested_at w32 (is_in_range 0 65536) total a.0.1) (λ used. pending_at a.0.0.shape a.0.0.next_serial total used.1 >>= λ p. Ok (kept a.0.0 used.0 p.0, p.1)) x a.2 in
    let c = bind_ok (pending_at a.0.0.shape a.0.0.next_serial total b.0.1) (λ p. Ok (kept a.0.0 b.0.0 p.0, p.1)) x b.2 in
    let t0 = head_takes 18446744073709551615 total bytes a.0 fits a.1 in
    let t1 = tested_takes w32 (2 ^ 32) wide32 (is_in_range 0 65536) total a.0.1 b.0.0 b.0.1 t0.0.rest_fits b.1 in
    let t2 = pending_takes a.0.0.shape a.0.0.next_serial total b.0.1 c.0 t0.1.next t1.0.rest_fits c.1 in
    let e12 = Takes-then a.0.1 (four b.0.0) b.0.1 (pending c.0.0) c.0.1 t1.0 t2.0 in
    let e02 = Takes-then bytes (text_of a.0.0) a.0.1 (four b.0.0 ++ pending c.0.0) c.0.1 t0.0 e12 in
    subst (λ (y : KeptState × List ℕ). IsSecond bytes y.0 y.1) (ok_is (kept a.0.0 b.0.0 c.0.0, c.0.1) x c.2)
    (e02, is_kept 18446744073709551615 a.0.0 b.0.0 c.0.0 t0.1 (in_range 0 65536 b.0.0 t1.2).1 t2.1)

second_again : (total : ℕ) (s : KeptState) → IsKeptState s → second_at total (head s ++ (four s.used ++ pending s.pending)) ≡ Ok (s, [])
unfolding second_at
second_again total s is =
    let h = head_again 18446744073709551615 total s (four s.used ++ pending s.pending) is (omega (arith, is.serials)) in
    let used = tested_again w32 (2 ^ 32) wide32 (is_in_range 0 65536) total s.used (pending s.pending) (omega (arith, is.used)) (range_met 0 65536 s.used (omega arith) is.used) in
    let p = pending_again s.shape s.next_serial total s.pending is.serials is.pending in
    rw (h, used, p) refl

-- ---- the first form

abbrev IsFirstOf : List ℕ → KeptState → List ℕ → Type 0
IsFirstOf bytes s rest = Takes bytes (head s ++ pending s.pending) rest × IsFirst s × IsKeptState s

first_takes : (total : ℕ) (bytes : List ℕ) (x : KeptState × List ℕ) → IsBytes bytes → first_at total bytes ≡ Ok x → IsFirstOf bytes x.0 x.1
unfolding first_at
first_takes total bytes x fits e =
    let a = bind_ok (head_at 72057594037927936 total bytes) (λ h. pending_at h.0.shape h.0.next_serial total h.1 >>= λ p. Ok (kept h.0 0 p.0, p.1)) x e in
    let b = bind_ok (pending_at a.0.0.shape a.0.0.next_serial total a.0.1) (λ p. Ok (kept a.0.0 0 p.0, p.1)) x a.2 in
    let t0 = head_takes 72057594037927936 total bytes a.0 fits a.1 in
    let t1 = pending_takes a.0.0.shape a.0.0.next_serial total a.0.1 b.0 t0.1.next t0.0.rest_fits b.1 in
    let e01 = Takes-then bytes (text_of a.0.0) a.0.1 (pending b.0.0) b.0.1 t0.0 t1.0 in
    subst (λ (y : KeptState × List ℕ). IsFirstOf bytes y.0 y.1) (ok_is (kept a.0.0 0 b.0.0, b.0.1) x b.2)
    (e01, (refl, t0.1.early), is_kept 72057594037927936 a.0.0 0 b.0.0 t0.1 (omega arith) t1.1)

uncounted : (s : KeptState) → s.used ≡ 0 → ◌≡◌ {A = KeptState} (record s { used = 0 }) s
uncounted s e = λ i. record s { used = sym e i }

first_again : (total : ℕ) (s : KeptState) → IsKeptState s → IsFirst s → first_at total (head s ++ pending s.pending) ≡ Ok (s, [])
unfolding first_at
first_again total s is early =
    let h = head_again 72057594037927936 total s (pending s.pending) is early.1 in
    let p = pending_again s.shape s.next_serial total s.pending is.serials is.pending in
    rw (h, p) (ap (λ (y : KeptState). Ok (y, [])) (uncounted s early.0))

-- ---- either form

in_line : (a b c d : List ℕ) → a ++ (b ++ (c ++ d)) ≡ a ++ b ++ c ++ d
in_line a b c d = simp append_assoc

named : (bytes name rest : List ℕ) → bytes_eq (take 8 bytes) name ≡ true → drop 8 bytes ≡ rest → bytes ≡ name ++ rest
named bytes name rest same after = sym (take-append-drop 8 bytes) ∙ ap (λ (x : List ℕ). x ++ drop 8 bytes) ((bytes_eq-Decides (take 8 bytes) name).0 same) ∙ ap (λ (x : List ℕ). name ++ x) after

by_first : (b : Bool) (bytes : List ℕ) (s : KeptState) → IsBytes bytes → bytes_eq (take 8 bytes) (codes "dorystt1") ≡ b → cond b (whole (length bytes) (first_at (length bytes) (drop 8 bytes))) (Err Header) ≡ Ok s → Spells bytes s × IsKeptState s
by_first false bytes s fits is e = absurd cc
by_first true bytes s fits is e =
    let t = first_takes (length bytes) (drop 8 bytes) (s, []) (IsBytes-drop 8 bytes fits) (whole_ok (length bytes) (first_at (length bytes) (drop 8 bytes)) s e) in
    let text = head s ++ pending s.pending in
    let spelled : bytes ≡ first_spelling_of_state s = named bytes (codes "dorystt1") text is (all_taken (drop 8 bytes) text [] t.0 refl) ∙ sym (append_assoc (codes "dorystt1") (head s) (pending s.pending)) in
    (inr (t.1, spelled), t.2)

by_name : (b : Bool) (bytes : List ℕ) (s : KeptState) → IsBytes bytes → bytes_eq (take 8 bytes) (codes "dorystt2") ≡ b
    → cond b (whole (length bytes) (second_at (length bytes) (drop 8 bytes))) (cond (bytes_eq (take 8 bytes) (codes "dorystt1")) (whole (length bytes) (first_at (length bytes) (drop 8 bytes))) (Err Header)) ≡ Ok s
    → Spells bytes s × IsKeptState s
by_name false bytes s fits is e = by_first (bytes_eq (take 8 bytes) (codes "dorystt1")) bytes s fits refl e
by_name true bytes s fits is e =
    let t = second_takes (length bytes) (drop 8 bytes) (s, []) (IsBytes-drop 8 bytes fits) (whole_ok (length bytes) (second_at (length bytes) (drop 8 bytes)) s e) in
    let name = codes "dorystt2" in
    let text = head s ++ (four s.used ++ pending s.pending) in
    let spelled : bytes ≡ spelling_of_state s = named bytes name text is (all_taken (drop 8 bytes) text [] t.0 refl) ∙ in_line name (head s) (four s.used) (pending s.pending) in
    (inl spelled, t.1)

pub state_takes : (bytes : List ℕ) (s : KeptState) → IsBytes bytes → state_of bytes ≡ Ok s → Spells bytes s × IsKeptState s
unfolding state_of
state_takes bytes s fits e = by_name (bytes_eq (take 8 bytes) (codes "dorystt2")) bytes s fits refl e

of_second : (rest : List ℕ) → state_of (codes "dorystt2" ++ rest) ≡ whole (length (codes "dorystt2" ++ rest)) (second_at (length (codes "dorystt2" ++ rest)) rest)
unfolding state_of
of_second rest = refl

of_first : (rest : List ℕ) → state_of (codes "dorystt1" ++ rest) ≡ whole (length (codes "dorystt1" ++ rest)) (first_at (length (codes "dorystt1" ++ rest)) rest)
unfolding state_of
of_first rest = refl

pub written_again : (s : KeptState) → IsKeptState s → state_of (spelling_of_state s) ≡ Ok s
written_again s is =
    let rest = head s ++ (four s.used ++ pending s.pending) in
    ap state_of (sym (in_line (codes "dorystt2") (head s) (four s.used) (pending s.pending))) ∙ of_second rest ∙ ap (whole (length (codes "dorystt2" ++ rest))) (second_again (length (codes "dorystt2" ++ rest)) s is)

pub state_again : (bytes : List ℕ) (s : KeptState) → IsKeptState s → Spells bytes s → state_of bytes ≡ Ok s
state_again bytes s is (inl e) = ap state_of e ∙ written_again s is
state_again bytes s is (inr f) =
    let rest = head s ++ pending s.pending in
    ap state_of (f.1 ∙ append_assoc (codes "dorystt1") (head s) (pending s.pending)) ∙ of_first rest ∙ ap (whole (length (codes "dorystt1" ++ rest))) (first_again (length (codes "dorystt1" ++ rest)) s is f.0)

-- ---- fewer bytes than a form's name

cut_short : (bytes : List ℕ) (e : FieldFault) → ¬ (e ≡ field.NoMemory) → FieldFails e (field_at 8 (length bytes) bytes) → field_at 8 (length bytes) bytes ≡ Err e
cut_short bytes field.NoMemory some fails = absurd (some refl)
cut_short bytes (field.CutShort at) some fails = fails
cut_short bytes (field.OutOfRange at) some fails = fails

is_short : (b : Bool) (f : FieldFault) (x : List ℕ × List ℕ) (e : FieldFault) → ◌≡◌ {A = Result (List ℕ × List ℕ) FieldFault} (cond b (Err f) (Ok x)) (Err e) → b ≡ true
is_short true f x e is = refl
is_short false f x e is = absurd cc

no_test : (b : Bool) → ¬ (b ≡ true) → b ≡ false
no_test true never = absurd (never refl)
no_test false never = refl

other_name : (bytes name : List ℕ) → length bytes < 8 → length name ≡ 8 → bytes_eq (take 8 bytes) name ≡ false
other_name bytes name short eight = no_test (bytes_eq (take 8 bytes) name) (λ met. omega (arith, length-take 8 bytes, ap (length {A = ℕ}) ((bytes_eq-Decides (take 8 bytes) name).0 met), short, eight))

pub no_name : (bytes : List ℕ) (e : FieldFault) → ¬ (e ≡ field.NoMemory) → FieldFails e (field_at 8 (length bytes) bytes) → state_of bytes ≡ Err Header
unfolding state_of
no_name bytes e some fails =
    let short : length bytes < 8 = ltb-true _ _ (is_short (ltb (length bytes) 8) _ _ e (cut_short bytes e some fails)) in
    rw (other_name bytes (codes "dorystt2") short refl, other_name bytes (codes "dorystt1") short refl) refl

-- ---- what a call gives that gives what reading gives

pub all_taken_by : (bytes : List ℕ) (r : Result KeptState StateFault) → IsBytes bytes → Gives r (state_of bytes) → IfOk r (λ s. Spells bytes s × IsKeptState s)
all_taken_by bytes (Ok s) fits given = state_takes bytes s fits given
all_taken_by bytes (Err e) fits given = tt

pub in_ranges : (bytes : List ℕ) (r : Result KeptState StateFault) → IfOk r (λ s. Spells bytes s × IsKeptState s) → IfOk r IsKeptState
in_ranges bytes (Ok s) both = both.1
in_ranges bytes (Err e) both = tt

pub spelled : (bytes : List ℕ) (r : Result KeptState StateFault) → IfOk r (λ s. Spells bytes s × IsKeptState s) → IfOk r (Spells bytes)
spelled bytes (Ok s) both = both.0
spelled bytes (Err e) both = tt
