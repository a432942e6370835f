-- A domain's step keeps what holds of its folder, and what it says is so.
use Rattle.std.proofs.Common.{◌≡◌, ℕ, ◌+◌, ◌-◌, ◌≤◌, Bool, true, false, cond, List, [], ◌∷◌, ◌++◌, length, refl, ap, sym, ◌∙◌, arith, subst, ◌⊎◌, inl, inr, append-nil, append_assoc, length-append}
use Rattle.std.specs.Prelude.{Option, Some, None, slice_get, slice_set, IfSome, Result, Ok, Err, nat_le, nat_lt, ◌&&◌}
use Rattle.std.proofs.lemmas.Bool.{ltb-false}
use Rattle.std.proofs.lemmas.List.{length-map}
use Rattle.dory_base.specs.History.{IsPrefix}
use Rattle.dory_base.specs.Log.{Log, at_place, look_stage, look_order, look_follow, number_of, order_as, order_known, order_staged, follow_as, follow_known, follow_again, follow_staged, same_id, stage_after, stage_again, stage_beside, stage_busy, stage_known, staged_as, staged_by, has_shape, last_of}
use Rattle.dory_base.specs.SameUpdate.{is_same_update}
use Rattle.dory_base.specs.Step.{State, after, after_maybe, event_of_plan, event_of_stage, ids_of, log_of, state_appended}
use Rattle.dory_base.specs.declared.entry.Entry.{Entry}
use Rattle.dory_base.specs.declared.event.Event.{Event}
use Rattle.dory_base.specs.declared.event.Event.TheVariants.{Staged as IsStaged, Appended}
use Rattle.dory_base.specs.declared.ids.Side.{Side}
use Rattle.dory_base.specs.declared.ids.Side.TheVariants.{Lead, Follow as Following}
use Rattle.dory_base.specs.declared.ids.UpdateId.{UpdateId}
use Rattle.dory_base.specs.declared.plan.Plan.{Plan}
use Rattle.dory_base.specs.declared.plan.Plan.TheVariants.{Again, Fresh}
use Rattle.dory_base.specs.declared.plan.StagePlan.{StagePlan}
use Rattle.dory_base.specs.declared.plan.StagePlan.TheVariants.{New, Same, Done}
use Rattle.dory_base.specs.declared.refusal.Refusal.{Refusal}
use Rattle.dory_base.specs.declared.refusal.Refusal.TheVariants as refusal
use Rattle.dory_base.proofs.IdLaws.{number_there}
use Rattle.dory_base.proofs.LogLaws.{IsFresh, follow_seen, order_seen, with_id_some}
use Rattle.dory_domain.specs.Held.{IsHeld}
use Rattle.dory_domain.proofs.StepHeld.{held_appended, held_staged}
use Rattle.dory_base.specs.Dims.{same_shape}
use Rattle.dory_wire.specs.Read.{found_of, oldest_of, search_of}
use Rattle.dory_wire.specs.Spelling.{IsEntry}
use Rattle.dory_wire.specs.StepReply.{answer_of, commit_answer, event_of, stage_answer, which_answer}
use Rattle.dory_wire.specs.declared.message.Want.{Want}
use Rattle.dory_wire.specs.declared.message.Want.TheVariants.{Latest, Search, Which, Stage, Order, Follow}
use Rattle.dory_wire.specs.declared.message.What.{What}
use Rattle.dory_wire.specs.declared.message.What.TheVariants.{At, Found as Finds, Id, Staged, Committed, Refused}
use Rattle.dory_run.specs.declared.setup.Setup.{Setup}
use Rattle.dory_run.specs.Kept.{IsFolder, IsWanted, as_held}
use Rattle.dory_run.specs.Law.{IsMade}
use Rattle.dory_run.specs.Named.{SaysUpTo, SearchedBy, Tells}
use Rattle.dory_run.proofs.Lists.{all_append, get_set_cases, get_within, some_at}

-- ---- histories grow

pub prefix_refl : (h : List Entry) → IsPrefix h h
prefix_refl h = ([], sym (append-nil h))

pub prefix_trans : (a b c : List Entry) → IsPrefix a b → IsPrefix b c → IsPrefix a c
prefix_trans a b c p q = (p.0 ++ q.0, q.1 ∙ ap (λ l. l ++ q.0) p.1 ∙ append_assoc a p.0 q.0)

pub prefix_length : (a b : List Entry) → IsPrefix a b → length a ≤ length b
prefix_length a b p = omega (arith, ap length p.1, length-append a p.0)

-- a folder later: of the same shape, retaining as many versions, with a history that begins with the one before
pub record Later (f g : State) : Type 0 where
  pub shape : g.shape ≡ f.shape
  pub retained : g.retained ≡ f.retained
  pub history : IsPrefix f.history g.history

pub later_refl : (f : State) → Later f f
later_refl f = record { shape = refl; retained = refl; history = prefix_refl f.history }

later_appended : (f : State) (id : UpdateId) (o : Option Entry) → Later f (state_appended f id o)
later_appended f id None = later_refl f
later_appended f id (Some e) = record { shape = refl; retained = refl; history = (e ∷ [], refl) }

later_event : (f : State) (o : Option Event) → Later f (after_maybe f o)
later_event f None = later_refl f
later_event f (Some (IsStaged e)) = record { shape = refl; retained = refl; history = prefix_refl f.history }
later_event f (Some (Appended id)) = later_appended f id (staged_as f.staged id)

pub step_later : (f : State) (want : Want) → Later f (after_maybe f (event_of (log_of f) want))
step_later f want = later_event f (event_of (log_of f) want)

-- ---- what a folder keeps

staged_set : (P : Entry → Type 0) (xs : List (Option Entry)) (i : ℕ) (v : Option Entry) → ((m : ℕ) → IfSome (staged_by xs m) P) → IfSome v P →
    (m : ℕ) → IfSome (staged_by (slice_set xs i v) m) P
staged_set P xs i v old new m = by_case (get_set_cases xs i m v)
  where
    by_case : ((slice_get (slice_set xs i v) m ≡ Some v) ⊎ (slice_get (slice_set xs i v) m ≡ slice_get xs m)) → IfSome (staged_by (slice_set xs i v) m) P
    by_case (inl e) = subst (λ (o : Option (Option Entry)). IfSome (at_place o) P) (sym e) new
    by_case (inr e) = subst (λ (o : Option (Option Entry)). IfSome (at_place o) P) (sym e) (old m)

module _ (s : Setup) (made : List Entry) where
  folder_appended : (f : State) (number : ℕ) (id : UpdateId) (o : Option Entry) → staged_as f.staged id ≡ o → IsHeld (as_held s (state_appended f id o)) → IsFolder s made f → IsFolder s made (state_appended f id o)
  folder_appended f number id None h held g = g
  folder_appended f number id (Some e) h held g =
      let p = with_id_some id (staged_by f.staged id.member.0) e h in
      record {
        held = held;
        shape = g.shape;
        history = all_append (IsMade made) f.history (e ∷ []) g.history (some_at (IsMade made) (staged_by f.staged id.member.0) e p.0 (g.staged id.member.0), tt);
        staged = staged_set (IsMade made) f.staged id.member.0 None g.staged tt;
      }

  folder_plan : (f : State) (id : UpdateId) (look : Result Plan Refusal)
      → ((n : ℕ) → look ≡ Ok (Fresh n) → IsHeld (as_held s (after f (Appended id)))) → IsFolder s made f → IsFolder s made (after_maybe f (event_of_plan id look))
  folder_plan f id (Ok (Fresh n)) h g = folder_appended f n id (staged_as f.staged id) refl (h n refl) g
  folder_plan f id (Ok (Again n)) h g = g
  folder_plan f id (Err c) h g = g

  folder_stage : (f : State) (e : Entry) (look : Result StagePlan Refusal) → look_stage (log_of f) e ≡ look → IsMade made e → IsEntry e → IsFolder s made f → IsFolder s made (after_maybe f (event_of_stage e look))
  folder_stage f e (Ok New) is m r g = record {
    held = held_staged (as_held s f) e g.held is r;
    shape = g.shape;
    history = g.history;
    staged = staged_set (IsMade made) f.staged e.id.member.0 (Some e) g.staged m;
  }
  folder_stage f e (Ok Same) is m r g = g
  folder_stage f e (Ok (Done n)) is m r g = g
  folder_stage f e (Err c) is m r g = g

  -- each step keeps it
  pub folder_step : (f : State) (want : Want) → IsWanted made want → ((e : Entry) → IsMade made e → IsEntry e) → IsFolder s made f → IsFolder s made (after_maybe f (event_of (log_of f) want))
  folder_step f Latest h r g = g
  folder_step f (Search v shape keys) h r g = g
  folder_step f (Which n) h r g = g
  folder_step f (Stage e) h r g = folder_stage f e (look_stage (log_of f) e) refl h (r e h) g
  folder_step f (Order id) h r g = folder_plan f id (look_order (log_of f) id) (λ n e. held_appended (as_held s f) n id g.held (inl e)) g
  folder_step f (Follow n id) h r g =
      folder_plan f id (look_follow (log_of f) n id)
      (λ m e. held_appended (as_held s f) m id g.held (let q = (follow_seen (log_of f) n m id e).1 in inr (subst (λ (k : ℕ). look_follow (log_of f) k id ≡ Ok (Fresh m)) q e, omega (arith, q, h.0.few)))) g

-- ---- what a folder says

ids_length : (f : State) → length (ids_of f.history) ≡ length f.history
ids_length f = length-map f.history (λ (e : Entry). e.id)

known_up_to : (f : State) (id : UpdateId) (n : ℕ) → number_of (ids_of f.history) id ≡ Some n → n ≤ length f.history
known_up_to f id n e =
    let p = number_there (ids_of f.history) id 1 n e in
    omega (arith, p.0, get_within (ids_of f.history) (n - 1) id p.1, ids_length f)

-- Stage
stage_if : (b : Bool) (len : ℕ) (id : UpdateId) (x y : Result StagePlan Refusal) → SaysUpTo len (stage_answer id x) → SaysUpTo len (stage_answer id y) → SaysUpTo len (stage_answer id (cond b x y))
stage_if true len id x y p q = p
stage_if false len id x y p q = q

stage_beside_says : (len : ℕ) (o : Option Entry) (last : ℕ) (e : Entry) → SaysUpTo len (stage_answer e.id (stage_beside o last e))
stage_beside_says len None last e = stage_if (nat_lt e.id.serial last) len e.id (Err (refusal.Past last)) (Ok New) tt tt
stage_beside_says len (Some x) last e =
    stage_if (same_id x.id e.id) len e.id (stage_again x e) (stage_busy x.id e.id)
    (stage_if (is_same_update x e) len e.id (Ok Same) (Err (refusal.Clash e.id)) tt tt)
    (stage_if (nat_lt e.id.serial x.id.serial) len e.id (Err (refusal.Past x.id.serial)) (Err (refusal.Unfinished x.id)) tt tt)

stage_known_says : (f : State) (o : Option ℕ) (e : Entry) → number_of (ids_of f.history) e.id ≡ o → SaysUpTo (length f.history) (stage_answer e.id (stage_known o (log_of f) e))
stage_known_says f (Some n) e is = known_up_to f e.id n is
stage_known_says f None e is = stage_beside_says (length f.history) (staged_by f.staged e.id.member.0) (last_of (ids_of f.history) e.id.member.0) e

stage_says : (f : State) (e : Entry) → SaysUpTo (length f.history) (stage_answer e.id (look_stage (log_of f) e))
stage_says f e =
    stage_if (nat_lt 63 e.id.member.0) (length f.history) e.id (Err (refusal.BadMember e.id.member)) _ tt
    (stage_if (has_shape f.shape e.change) (length f.history) e.id (stage_known (number_of (ids_of f.history) e.id) (log_of f) e) (Err (refusal.ShapeWrong f.shape.depth f.shape.probes))
    (stage_known_says f (number_of (ids_of f.history) e.id) e refl) tt)

stage_length : (f : State) (e : Entry) (look : Result StagePlan Refusal) → length (after_maybe f (event_of_stage e look)).history ≡ length f.history
stage_length f e (Ok New) = refl
stage_length f e (Ok Same) = refl
stage_length f e (Ok (Done n)) = refl
stage_length f e (Err c) = refl

-- Order and Follow: a number that was there, or the next one
again_up_to : (b : Bool) (len n m : ℕ) (c : Refusal) → n ≤ len → ◌≡◌ {A = Result Plan Refusal} (cond b (Ok (Again n)) (Err c)) (Ok (Again m)) → m ≤ len
again_up_to true len n m c le e = let q : n ≡ m = cc in omega (arith, q, le)
again_up_to false len n m c le e = absurd (cc)

order_if_again : (b : Bool) (n m : ℕ) → ◌≡◌ {A = Result Plan Refusal} (cond b (Ok (Fresh (n + 1))) (Err refusal.HistoryFull)) (Ok (Again m)) → ⊥
order_if_again true n m e = cc
order_if_again false n m e = cc

order_staged_again : (o : Option Entry) (n m : ℕ) (id : UpdateId) → order_staged o n id ≡ Ok (Again m) → ⊥
order_staged_again None n m id e = cc
order_staged_again (Some x) n m id e = order_if_again (nat_lt n 1048576) n m e

order_known_again : (f : State) (o : Option ℕ) (id : UpdateId) (m : ℕ) → number_of (ids_of f.history) id ≡ o → order_known o (log_of f) id ≡ Ok (Again m) → m ≤ length f.history
order_known_again f (Some n) id m is e = let q : n ≡ m = cc in omega (arith, q, known_up_to f id n is)
order_known_again f None id m is e = absurd (order_staged_again (staged_as f.staged id) (length (ids_of f.history)) m id e)

order_as_again : (f : State) (role : Side) (id : UpdateId) (m : ℕ) → order_as role (log_of f) id ≡ Ok (Again m) → m ≤ length f.history
order_as_again f Following id m e = absurd (cc)
order_as_again f Lead id m e = order_known_again f (number_of (ids_of f.history) id) id m refl e

follow_staged_again : (o : Option Entry) (n m : ℕ) (id : UpdateId) → follow_staged o n id ≡ Ok (Again m) → ⊥
follow_staged_again None n m id e = cc
follow_staged_again (Some x) n m id e = cc

follow_gap_again : (b : Bool) (o : Option Entry) (len n m : ℕ) (id : UpdateId) → ◌≡◌ {A = Result Plan Refusal} (cond b (Err (refusal.Gap len)) (follow_staged o n id)) (Ok (Again m)) → ⊥
follow_gap_again true o len n m id e = cc
follow_gap_again false o len n m id e = follow_staged_again o n m id e

follow_known_again : (f : State) (o : Option ℕ) (n m : ℕ) (id : UpdateId) → follow_known o (log_of f) n id ≡ Ok (Again m) → ⊥
follow_known_again f (Some own) n m id e = cc
follow_known_again f None n m id e = follow_gap_again (nat_lt (length (ids_of f.history) + 1) n) (staged_as f.staged id) (length (ids_of f.history)) n m id e

follow_again_is : (o : Option UpdateId) (len n m : ℕ) (id : UpdateId) → n ≤ len → follow_again o n id ≡ Ok (Again m) → m ≤ len
follow_again_is None len n m id le e = let q : n ≡ m = cc in omega (arith, q, le)
follow_again_is (Some x) len n m id le e = again_up_to (same_id x id) len n m (refusal.Taken n x) le e

follow_if_again : (f : State) (b : Bool) (n m : ℕ) (id : UpdateId) → nat_lt (length (ids_of f.history)) n ≡ b
    → cond b (follow_known (number_of (ids_of f.history) id) (log_of f) n id) (follow_again (slice_get (ids_of f.history) (n - 1)) n id) ≡ Ok (Again m) → m ≤ length f.history
follow_if_again f true n m id t e = absurd (follow_known_again f (number_of (ids_of f.history) id) n m id e)
follow_if_again f false n m id t e =
    follow_again_is (slice_get (ids_of f.history) (n - 1)) (length f.history) n m id (omega (arith, ltb-false (length (ids_of f.history)) n t, ids_length f)) e

follow_as_again : (f : State) (role : Side) (n m : ℕ) (id : UpdateId) → follow_as role (log_of f) n id ≡ Ok (Again m) → m ≤ length f.history
follow_as_again f Lead n m id e = absurd (cc)
follow_as_again f Following n m id e = follow_if_again f (nat_lt (length (ids_of f.history)) n) n m id refl e

appended_length : (f : State) (id : UpdateId) (o : Option Entry) (e : Entry) → o ≡ Some e → length (state_appended f id o).history ≡ length f.history + 1
appended_length f id None e is = absurd (cc)
appended_length f id (Some x) e is = length-append f.history (x ∷ [])

plan_says : (f : State) (id : UpdateId) (look : Result Plan Refusal) → ((n : ℕ) → look ≡ Ok (Fresh n) → IsFresh (log_of f) n id) → ((n : ℕ) → look ≡ Ok (Again n) → n ≤ length f.history)
    → SaysUpTo (length (after_maybe f (event_of_plan id look)).history) (commit_answer id look)
plan_says f id (Ok (Fresh n)) fresh again =
    let p = fresh n refl in
    omega (arith, appended_length f id (staged_as f.staged id) p.entry p.staged, p.next, ids_length f)
plan_says f id (Ok (Again n)) fresh again = again n refl
plan_says f id (Err c) fresh again = tt

-- a search is no number
search_if : (b : Bool) (len : ℕ) (x y : What) → SaysUpTo len x → SaysUpTo len y → SaysUpTo len (cond b x y)
search_if true len x y p q = p
search_if false len x y p q = q

which_says : (len n : ℕ) (r : Result UpdateId Refusal) → SaysUpTo len (which_answer n r)
which_says len n (Ok id) = tt
which_says len n (Err c) = tt

bound_step : (f : State) (want : Want) → SaysUpTo (length (after_maybe f (event_of (log_of f) want)).history) (answer_of f want)
bound_step f Latest = omega arith
bound_step f (Search v shape keys) =
    search_if (same_shape shape f.shape) (length f.history)
    (cond (nat_le (oldest_of f.retained (length f.history)) v && nat_le v (length f.history)) (Finds (found_of f.history v keys)) (Refused (refusal.Unretained (oldest_of f.retained (length f.history)) (length f.history))))
    (Refused (refusal.ShapeWrong f.shape.depth f.shape.probes))
    (search_if (nat_le (oldest_of f.retained (length f.history)) v && nat_le v (length f.history)) (length f.history) (Finds (found_of f.history v keys)) (Refused (refusal.Unretained (oldest_of f.retained (length f.history)) (length f.history))) tt tt) tt
bound_step f (Which n) = which_says (length f.history) n (Rattle.dory_base.specs.Log.which (log_of f) n)
bound_step f (Stage e) = subst (λ (len : ℕ). SaysUpTo len (stage_answer e.id (look_stage (log_of f) e))) (sym (stage_length f e (look_stage (log_of f) e))) (stage_says f e)
bound_step f (Order id) = plan_says f id (look_order (log_of f) id) (λ n e. (order_seen (log_of f) id n e).0) (λ n e. order_as_again f f.role id n e)
bound_step f (Follow n id) = plan_says f id (look_follow (log_of f) n id) (λ m e. (follow_seen (log_of f) n m id e).0) (λ m e. follow_as_again f f.role n m id e)

searched_step : (f : State) (want : Want) → SearchedBy (after_maybe f (event_of (log_of f) want)) want (answer_of f want)
searched_step f Latest = tt
searched_step f (Search v shape keys) = (f.history, prefix_refl f.history, refl)
searched_step f (Which n) = tt
searched_step f (Stage e) = tt
searched_step f (Order id) = tt
searched_step f (Follow n id) = tt

-- what a step answers is so afterwards
pub step_tells : (f : State) (want : Want) → Tells (after_maybe f (event_of (log_of f) want)) want (answer_of f want)
step_tells f want = record { bound = bound_step f want; searched = searched_step f want }

up_to_more : (m n : ℕ) (what : What) → m ≤ n → SaysUpTo m what → SaysUpTo n what
up_to_more m n (At k) le h = omega (arith, h, le)
up_to_more m n (Committed k id) le h = omega (arith, h, le)
up_to_more m n (Finds f) le h = tt
up_to_more m n (Id k id) le h = tt
up_to_more m n (Staged id) le h = tt
up_to_more m n (Refused c) le h = tt

searched_more : (f g : State) (want : Want) (what : What) → Later f g → SearchedBy f want what → SearchedBy g want what
searched_more f g (Search v shape keys) what l (h, p, is) =
    (h, prefix_trans h f.history g.history p l.history, is ∙ (λ i. search_of (sym l.shape i) (sym l.retained i) h v shape keys))
searched_more f g Latest what l h = tt
searched_more f g (Which n) what l h = tt
searched_more f g (Stage e) what l h = tt
searched_more f g (Order id) what l h = tt
searched_more f g (Follow n id) what l h = tt

-- and stays so
pub tells_later : (f g : State) (want : Want) (what : What) → Later f g → Tells f want what → Tells g want what
tells_later f g want what l t = record {
  bound = up_to_more (length f.history) (length g.history) what (prefix_length f.history g.history l.history) t.bound;
  searched = searched_more f g want what l t.searched;
}
