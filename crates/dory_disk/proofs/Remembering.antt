-- One more call joins those that a disk in memory remembers.
use Rattle.std.proofs.Common.{◌≡◌, ◌⊎◌, inl, inr, Bool, true, false, ◌&&◌, ℕ, zero, suc, ◌+◌, ◌≤◌, List, [], ◌∷◌, ◌++◌, length, take, drop, Some, refl, sym, ◌∙◌, ap, subst, arith, length-append, length-drop}
use Rattle.std.specs.Prelude.{nat_le}
use Rattle.std.proofs.lemmas.Bool.{le-leb}
use Rattle.std.proofs.lemmas.List.{take-append-le, drop-append-le, take_all, append-nil}
use Rattle.dory_disk.specs.Disk.{overwritten, Elapses, Torn, Follows, Within}
use Rattle.dory_disk.specs.Remembered.{Held, new_disk, held_after, size_of, replay, sizes, begins_within, all_begin_within, Leaves, MayLeave, LeftSince}
use Rattle.dory_disk.specs.RememberedLaws.{reads_left}
use Rattle.dory_disk.specs.declared.mem_disk.Done.{Done}
use Rattle.dory_disk.specs.declared.mem_disk.Done.TheVariants.{Wrote, Synced}

-- what comes after a call's text is no matter to it
after_more : (h : Held) (d : Done) (text more : List ℕ) → size_of d ≤ length text → held_after h d (text ++ more) ≡ held_after h d text
after_more h (Wrote place size) text more few =
    ap (λ (t : List ℕ). held_after h (Wrote place size) t) refl ∙ ap (λ (front : List ℕ). record { bytes = overwritten place front h.bytes; synced = h.synced; ranges = record { place = place; size = size } ∷ h.ranges }) (take-append-le size text more few)
after_more h Synced text more few = refl

replay_more : (done : List Done) (text more : List ℕ) (h : Held) → sizes done ≤ length text → replay done (text ++ more) h ≡ replay done text h
replay_more [] text more h few = refl
replay_more (d ∷ done) text more h few =
    let rest : drop (size_of d) (text ++ more) ≡ drop (size_of d) text ++ more = drop-append-le (size_of d) text more (omega (arith, few)) in
    (λ i. replay done (rest i) (after_more h d text more (omega (arith, few)) i)) ∙ replay_more done (drop (size_of d) text) more (held_after h d text) (omega (arith, few, length-drop (size_of d) text))

none_left : (text : List ℕ) → 0 ≡ length text → text ≡ []
none_left [] e = refl
none_left (x ∷ text) e = absurd (omega (arith, e))

replay_one : (done : List Done) (d : Done) (text piece : List ℕ) (h : Held) → sizes done ≡ length text → size_of d ≡ length piece → replay (done ++ d ∷ []) (text ++ piece) h ≡ held_after (replay done text h) d piece
replay_one [] d text piece h same size = ap (λ (t : List ℕ). held_after h d (t ++ piece)) (none_left text same)
replay_one (r ∷ done) d text piece h same size =
    let rest : drop (size_of r) (text ++ piece) ≡ drop (size_of r) text ++ piece = drop-append-le (size_of r) text piece (omega (arith, same)) in
    (λ i. replay (done ++ d ∷ []) (rest i) (after_more h r text piece (omega (arith, same)) i))
    ∙ replay_one done d (drop (size_of r) text) piece (held_after h r text) (omega (arith, same, length-drop (size_of r) text)) size

sizes_take : (k : ℕ) (done : List Done) → sizes (take k done) ≤ sizes done
sizes_take zero done = omega arith
sizes_take (suc k) [] = omega arith
sizes_take (suc k) (d ∷ done) = omega (arith, sizes_take k done)

pub sizes_one : (done : List Done) (d : Done) → sizes (done ++ d ∷ []) ≡ sizes done + size_of d
sizes_one [] d = omega arith
sizes_one (r ∷ done) d = omega (arith, sizes_one done d)

-- the disk after one call more
pub one_more : (done : List Done) (d : Done) (text piece : List ℕ) → sizes done ≡ length text → size_of d ≡ length piece → replay (done ++ d ∷ []) (text ++ piece) new_disk ≡ held_after (replay done text new_disk) d piece
one_more done d text piece same size = replay_one done d text piece new_disk same size

earlier : (k : ℕ) (done : List Done) (d : Done) (text piece : List ℕ) → k ≤ length done → sizes done ≡ length text → replay (take k (done ++ d ∷ [])) (text ++ piece) new_disk ≡ replay (take k done) text new_disk
earlier k done d text piece few same =
    ap (λ (ds : List Done). replay ds (text ++ piece) new_disk) (take-append-le k done (d ∷ []) few) ∙ replay_more (take k done) text piece new_disk (omega (arith, same, sizes_take k done))

le_cases : (m n : ℕ) → (m ≤ n) ⊎ (n + 1 ≤ m)
le_cases zero n = inl (omega arith)
le_cases (suc m) zero = inr (omega arith)
le_cases (suc m) (suc n) = elim (le_cases m n) [ inl le ↦ inl (omega (arith, le)) | inr more ↦ inr (omega (arith, more)) ]

and_true : (b : Bool) → (b && true) ≡ b
and_true true = refl
and_true false = refl

-- time goes on by a call
pub elapses_one : (done : List Done) (d : Done) (text piece : List ℕ) → sizes done ≡ length text → size_of d ≡ length piece
    → Elapses (length done) (length (done ++ d ∷ [])) (LeftSince done text) (LeftSince (done ++ d ∷ []) (text ++ piece)) (MayLeave (done ++ d ∷ []) (text ++ piece))
elapses_one done d text piece same size = record {
  later = omega (arith, length-append done (d ∷ []));
  nothing_else = λ t c le left. elim (le_cases left.0 (length done)) [
    | inl few ↦ inl (left.0, left.1, few, subst (λ (h : Held). Leaves h c) (earlier left.0 done d text piece few same) left.3)
    | inr more ↦ inr (subst (λ (ds : List Done). MayLeave ds (text ++ piece) c) (take_all left.0 (done ++ d ∷ []) (omega (arith, more, length-append done (d ∷ [])))) left.3)
  ];
  keeps = λ t c le left. (left.0, left.1, omega (arith, left.2, length-append done (d ∷ [])), subst (λ (h : Held). Leaves h c) (sym (earlier left.0 done d text piece left.2 same)) left.3);
}

-- what a crash may leave after one call more is what it may leave after that call
pub left_one : (done : List Done) (d : Done) (text piece c : List ℕ) → sizes done ≡ length text → size_of d ≡ length piece → MayLeave (done ++ d ∷ []) (text ++ piece) c ≡ Leaves (held_after (replay done text new_disk) d piece) c
left_one done d text piece c same size = ap (λ (h : Held). Leaves h c) (one_more done d text piece same size)

-- each call begins within the bytes where the last one does, and each one before it
pub begins_one : (done : List Done) (d : Done) (text piece : List ℕ) (h : Held) → sizes done ≡ length text → all_begin_within (done ++ d ∷ []) (text ++ piece) h ≡ (all_begin_within done text h && begins_within (replay done text h) d)
begins_one [] d text piece h same = and_true (begins_within h d)
begins_one (r ∷ done) d text piece h same =
    let rest : drop (size_of r) (text ++ piece) ≡ drop (size_of r) text ++ piece = drop-append-le (size_of r) text piece (omega (arith, same)) in
    (λ i. begins_within h r && all_begin_within (done ++ d ∷ []) (rest i) (after_more h r text piece (omega (arith, same)) i))
    ∙ ap (λ b. begins_within h r && b) (begins_one done d (drop (size_of r) text) piece (held_after h r text) (omega (arith, same, length-drop (size_of r) text)))
    ∙ and_joined (begins_within h r) (all_begin_within done (drop (size_of r) text) (held_after h r text)) (begins_within (replay done (drop (size_of r) text) (held_after h r text)) d)
  where
    and_joined : (a b c : Bool) → (a && (b && c)) ≡ ((a && b) && c)
    and_joined true b c = refl
    and_joined false b c = refl

-- ---- a write

module _ (done done' : List Done) (text text' piece : List ℕ) (place : ℕ) (done_is : done' ≡ done ++ Wrote place (length piece) ∷ []) (text_is : text' ≡ text ++ piece) (same : sizes done ≡ length text) where
  pub write_held : replay done' text' new_disk ≡ held_after (replay done text new_disk) (Wrote place (length piece)) piece
  write_held = (λ i. replay (done_is i) (text_is i) new_disk) ∙ one_more done (Wrote place (length piece)) text piece same refl

  pub write_replayed : (bytes bytes' : List ℕ) → (replay done text new_disk).bytes ≡ bytes → bytes' ≡ overwritten place piece bytes → (replay done' text' new_disk).bytes ≡ bytes'
  write_replayed bytes bytes' replayed is =
      ap (λ (h : Held). h.bytes) write_held
      ∙ ap (λ (p : List ℕ). overwritten place p (replay done text new_disk).bytes) (take_all (length piece) piece (omega arith))
      ∙ ap (overwritten place piece) replayed ∙ sym is

  pub write_begun : (bytes : List ℕ) → (replay done text new_disk).bytes ≡ bytes → all_begin_within done text new_disk ≡ true → place ≤ length bytes → all_begin_within done' text' new_disk ≡ true
  write_begun bytes replayed begun within =
      (λ i. all_begin_within (done_is i) (text_is i) new_disk) ∙ begins_one done (Wrote place (length piece)) text piece new_disk same
      ∙ (λ i. begun i && nat_le place (length (replayed i))) ∙ le-leb place (length bytes) within

  pub write_size : sizes done' ≡ length text'
  write_size = ap sizes done_is ∙ sizes_one done (Wrote place (length piece)) ∙ omega (arith, same, ap length text_is, length-append text piece)

  pub write_follows : Follows place (length piece) (MayLeave done text) (MayLeave done' text')
  write_follows = λ c left. subst (λ (h : Held). Leaves h c) write_held left

  pub write_torn : (c d : List ℕ) → MayLeave done text d → Torn place (length piece) d c → MayLeave done' text' c
  write_torn c d left torn = subst (λ (h : Held). Leaves h c) (sym write_held) (d, left, torn)

  pub write_elapses : Elapses (length done) (length done') (LeftSince done text) (LeftSince done' text') (MayLeave done' text')
  write_elapses =
      let d = Wrote place (length piece) in
      subst (λ (ds : List Done). Elapses (length done) (length ds) (LeftSince done text) (LeftSince ds text') (MayLeave ds text')) (sym done_is)
      (subst (λ (t : List ℕ). Elapses (length done) (length (done ++ d ∷ [])) (LeftSince done text) (LeftSince (done ++ d ∷ []) t) (MayLeave (done ++ d ∷ []) t)) (sym text_is) (elapses_one done d text piece same refl))

-- ---- a sync

module _ (done done' : List Done) (text : List ℕ) (done_is : done' ≡ done ++ Synced ∷ []) (same : sizes done ≡ length text) where
  pub sync_held : replay done' text new_disk ≡ held_after (replay done text new_disk) Synced []
  sync_held = (λ i. replay (done_is i) (sym (append-nil text) i) new_disk) ∙ one_more done Synced text [] same refl

  pub sync_replayed : (bytes : List ℕ) → (replay done text new_disk).bytes ≡ bytes → (replay done' text new_disk).bytes ≡ bytes
  sync_replayed bytes replayed = ap (λ (h : Held). h.bytes) sync_held ∙ replayed

  pub sync_begun : all_begin_within done text new_disk ≡ true → all_begin_within done' text new_disk ≡ true
  sync_begun begun =
      (λ i. all_begin_within (done_is i) (sym (append-nil text) i) new_disk) ∙ begins_one done Synced text [] new_disk same ∙ ap (λ b. b && true) begun

  pub sync_size : sizes done' ≡ length text
  sync_size = ap sizes done_is ∙ sizes_one done Synced ∙ omega (arith, same)

  pub sync_leaves : (bytes c : List ℕ) → (replay done text new_disk).bytes ≡ bytes → MayLeave done' text c → bytes ≡ c
  sync_leaves bytes c replayed left = let is : c ≡ (replay done text new_disk).bytes = subst (λ (h : Held). Leaves h c) sync_held left in sym (is ∙ replayed)

  pub sync_within : (bytes : List ℕ) → (replay done text new_disk).bytes ≡ bytes → all_begin_within done text new_disk ≡ true → Within (MayLeave done text) (MayLeave done' text)
  sync_within bytes replayed begun = λ c left. reads_left done text bytes c replayed same begun (ap Some (sync_leaves bytes c replayed left))

  pub sync_elapses : Elapses (length done) (length done') (LeftSince done text) (LeftSince done' text) (MayLeave done' text)
  sync_elapses =
      subst (λ (ds : List Done). Elapses (length done) (length ds) (LeftSince done text) (LeftSince ds text) (MayLeave ds text)) (sym done_is)
      (subst (λ (t : List ℕ). Elapses (length done) (length (done ++ Synced ∷ [])) (LeftSince done text) (LeftSince (done ++ Synced ∷ []) t) (MayLeave (done ++ Synced ∷ []) t)) (append-nil text) (elapses_one done Synced text [] same refl))
