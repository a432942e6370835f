-- An event that is allowed is one of six moves.
use Rattle.std.proofs.Common.{◌≡◌, ℕ, zero, suc, ◌+◌, List, [], ◌∷◌, ◌++◌, length, take, drop, refl, arith, Bool, true, false}
use Rattle.std.specs.Prelude.{Option, Some, None, Result, Ok, Err, slice_get, ◌&&◌, nat_le}
use Rattle.std.specs.List.{list_all}
use Rattle.std.proofs.lemmas.Bool.{and_parts, ltb-true}
use Rattle.std.proofs.lemmas.Nat.{xor_lt}
use Rattle.dory_base.specs.declared.ids.MemberId.{MemberId}
use Rattle.dory_base.specs.declared.ids.Side.{Side}
use Rattle.dory_base.specs.declared.ids.Side.TheVariants.{Lead, Follow}
use Rattle.dory_fields.specs.Bytes.{IsBytes}
use Rattle.dory_fields.proofs.Fields.{IsBytes-drop, IsBytes-take}
use Rattle.dory_wire.specs.declared.message.Request.{Request}
use Rattle.dory_state.specs.declared.kept.KeptState.{KeptState}
use Rattle.dory_member.specs.declared.command.Command.{Command}
use Rattle.dory_member.specs.declared.outcome.Fault.{Fault}
use Rattle.dory_member.specs.declared.phase.Run.{Run}
use Rattle.dory_member.specs.Course.{Ask, asks, begun, took}
use Rattle.dory_run.specs.declared.event.Event.{Event}
use Rattle.dory_run.specs.declared.event.Event.TheVariants.{Begin, Carry, Return, Lie, Bend, Quit}
use Rattle.dory_run.specs.declared.event.Honest.{Honest}
use Rattle.dory_run.specs.declared.setup.Setup.{Setup}
use Rattle.dory_run.specs.Happening.{Happened, answered, begin_at, begin_if, begins, bend_of, bent, carry_of, fits, happens, is_byte, is_told, is_within, lies, quit_at, quits, return_for, return_if, return_of, return_to, returned, same_side, told, told_if, xored}
use Rattle.dory_run.specs.Start.{seed_of}
use Rattle.dory_run.specs.World.{Station, Idle, Busy, Message, Asked, Replied, World}

pub data Moves (h : Honest) (s : Setup) (w : World) (e : Event) (t : Happened) : Type 0 where
  Refuses : (m : MemberId) (c : Command) (f : Fault) → e ≡ Begin m c → ((run : Run) → slice_get w.members m.0 ≡ Some (Busy run) → ⊥) → begins w m c (Err f) ≡ t → Moves h s w e t
  Begins : (m : MemberId) (c : Command) (k : KeptState) (run : Run) → e ≡ Begin m c → slice_get w.members m.0 ≡ Some (Idle k) → fits k.shape c ≡ true
      → begun k (seed_of s m) c ≡ Ok run → begins w m c (Ok run) ≡ t → Moves h s w e t
  Carries : (n : ℕ) (side : Side) (request : Request) → e ≡ Carry n → slice_get w.messages n ≡ Some (Asked side request) → answered w side request ≡ t → Moves h s w e t
  Returns : (n : ℕ) (side : Side) (m : MemberId) (frame : List ℕ) (run : Run) (ask : Ask) → e ≡ Return n → slice_get w.messages n ≡ Some (Replied side m frame)
      → slice_get w.members m.0 ≡ Some (Busy run) → asks run.phase ≡ Some ask → ask.side ≡ side → returned w m (took run frame) ≡ t → Moves h s w e t
  Lies : (side : Side) (m : MemberId) (frame : List ℕ) → ((m : MemberId) (c : Command) → e ≡ Begin m c → ⊥) → lies h side ≡ true → IsBytes frame → told w side m frame ≡ t → Moves h s w e t
  Quits : (m : MemberId) (run : Run) → e ≡ Quit m → slice_get w.members m.0 ≡ Some (Busy run)
      → quits w m run ≡ t → Moves h s w e t

-- ---- bytes

byte_at : (bytes : List ℕ) → list_all is_byte bytes ≡ true → IsBytes bytes
byte_at [] h i = omega arith
byte_at (b ∷ bytes) h zero = ltb-true b 256 (and_parts (is_byte b) (list_all is_byte bytes) h).0
byte_at (b ∷ bytes) h (suc i) = byte_at bytes (and_parts (is_byte b) (list_all is_byte bytes) h).1 i

bytes_append : (xs ys : List ℕ) → IsBytes xs → IsBytes ys → IsBytes (xs ++ ys)
bytes_append [] ys p q i = q i
bytes_append (x ∷ xs) ys p q zero = p 0
bytes_append (x ∷ xs) ys p q (suc i) = bytes_append xs ys (λ j. p (suc j)) q i

bytes_xored : (bytes mask : List ℕ) → IsBytes bytes → IsBytes mask → IsBytes (xored bytes mask)
bytes_xored [] mask p q i = omega arith
bytes_xored (b ∷ bytes) [] p q i = p i
bytes_xored (b ∷ bytes) (x ∷ mask) p q zero = xor_lt 8 b x (p 0) (q 0)
bytes_xored (b ∷ bytes) (x ∷ mask) p q (suc i) = bytes_xored bytes mask (λ j. p (suc j)) (λ j. q (suc j)) i

bytes_bent : (at : ℕ) (mask frame : List ℕ) → IsBytes mask → IsBytes frame → IsBytes (bent at mask frame)
bytes_bent at mask frame p q = bytes_append (take at frame) (xored (drop at frame) mask) (IsBytes-take at frame q) (bytes_xored (drop at frame) mask (IsBytes-drop at frame q) p)

-- ---- the moves

pub side_same : (a b : Side) → same_side a b ≡ true → a ≡ b
side_same Lead Lead e = refl
side_same Lead Follow e = absurd (cc)
side_same Follow Lead e = absurd (cc)
side_same Follow Follow e = refl

some_is : {A : Type 0} (x y : A) → Some x ≡ Some y → x ≡ y
some_is x y e = cc

module _ (h : Honest) (s : Setup) (w : World) where
  idle_only : (m : MemberId) (k : KeptState) (run : Run) → slice_get w.members m.0 ≡ Some (Idle k) → slice_get w.members m.0 ≡ Some (Busy run) → ⊥
  idle_only m k run here there = cc

  begins_move : (m : MemberId) (c : Command) (k : KeptState) (r : Result Run Fault) (t : Happened) → slice_get w.members m.0 ≡ Some (Idle k) → fits k.shape c ≡ true → begun k (seed_of s m) c ≡ r
      → begins w m c r ≡ t → Moves h s w (Begin m c) t
  begins_move m c k (Ok run) t here fit is e = Begins m c k run refl here fit is e
  begins_move m c k (Err f) t here fit is e = Refuses m c f refl (λ run there. idle_only m k run here there) e

  begin_if_move : (b : Bool) (m : MemberId) (c : Command) (k : KeptState) (t : Happened) → slice_get w.members m.0 ≡ Some (Idle k) → fits k.shape c ≡ b
      → begin_if b w m c (begun k (seed_of s m) c) ≡ Some t → Moves h s w (Begin m c) t
  begin_if_move false m c k t here fit e = absurd (cc)
  begin_if_move true m c k t here fit e = begins_move m c k (begun k (seed_of s m) c) t here fit refl (some_is _ t e)

  begin_move : (m : MemberId) (c : Command) (o : Option Station) (t : Happened) → slice_get w.members m.0 ≡ o → begin_at s w m c o ≡ Some t → Moves h s w (Begin m c) t
  begin_move m c None t here e = absurd (cc)
  begin_move m c (Some (Busy run)) t here e = absurd (cc)
  begin_move m c (Some (Idle k)) t here e = begin_if_move (fits k.shape c) m c k t here refl e

  carry_move : (n : ℕ) (o : Option Message) (t : Happened) → slice_get w.messages n ≡ o → carry_of w o ≡ Some t → Moves h s w (Carry n) t
  carry_move n None t here e = absurd (cc)
  carry_move n (Some (Replied side m frame)) t here e = absurd (cc)
  carry_move n (Some (Asked side request)) t here e = Carries n side request refl here (some_is _ t e)

  return_if_move : (b : Bool) (n : ℕ) (side : Side) (m : MemberId) (frame : List ℕ) (run : Run) (ask : Ask) (t : Happened) → slice_get w.messages n ≡ Some (Replied side m frame)
      → slice_get w.members m.0 ≡ Some (Busy run) → asks run.phase ≡ Some ask → same_side ask.side side ≡ b → return_if b w m run frame ≡ Some t → Moves h s w (Return n) t
  return_if_move false n side m frame run ask t came here asks same e = absurd (cc)
  return_if_move true n side m frame run ask t came here asks same e = Returns n side m frame run ask refl came here asks (side_same ask.side side same) (some_is _ t e)

  return_for_move : (n : ℕ) (side : Side) (m : MemberId) (frame : List ℕ) (run : Run) (o : Option Ask) (t : Happened) → slice_get w.messages n ≡ Some (Replied side m frame)
      → slice_get w.members m.0 ≡ Some (Busy run) → asks run.phase ≡ o → return_for w side m frame run o ≡ Some t → Moves h s w (Return n) t
  return_for_move n side m frame run None t came here asks e = absurd (cc)
  return_for_move n side m frame run (Some ask) t came here asks e = return_if_move (same_side ask.side side) n side m frame run ask t came here asks refl e

  return_to_move : (n : ℕ) (side : Side) (m : MemberId) (frame : List ℕ) (o : Option Station) (t : Happened) → slice_get w.messages n ≡ Some (Replied side m frame)
      → slice_get w.members m.0 ≡ o → return_to w side m frame o ≡ Some t → Moves h s w (Return n) t
  return_to_move n side m frame None t came here e = absurd (cc)
  return_to_move n side m frame (Some (Idle k)) t came here e = absurd (cc)
  return_to_move n side m frame (Some (Busy run)) t came here e = return_for_move n side m frame run (asks run.phase) t came here refl e

  return_move : (n : ℕ) (o : Option Message) (t : Happened) → slice_get w.messages n ≡ o → return_of w o ≡ Some t → Moves h s w (Return n) t
  return_move n None t came e = absurd (cc)
  return_move n (Some (Asked side request)) t came e = absurd (cc)
  return_move n (Some (Replied side m frame)) t came e = return_to_move n side m frame (slice_get w.members m.0) t came refl e

  told_move : (b : Bool) (side : Side) (m : MemberId) (frame : List ℕ) (e : Event) (t : Happened) → ((m : MemberId) (c : Command) → e ≡ Begin m c → ⊥)
      → (b ≡ true → (lies h side ≡ true) × IsBytes frame) → told_if b w side m frame ≡ Some t → Moves h s w e t
  told_move false side m frame e t never p is = absurd (cc)
  told_move true side m frame e t never p is = Lies side m frame never (p refl).0 (p refl).1 (some_is _ t is)

  bend_move : (n at : ℕ) (mask : List ℕ) (o : Option Message) (t : Happened) → ((side : Side) (m : MemberId) (frame : List ℕ) → o ≡ Some (Replied side m frame) → IsBytes frame)
      → bend_of h w at mask o ≡ Some t → Moves h s w (Bend n at mask) t
  bend_move n at mask None t fit e = absurd (cc)
  bend_move n at mask (Some (Asked side request)) t fit e = absurd (cc)
  bend_move n at mask (Some (Replied side m frame)) t fit e =
      told_move (lies h side && is_within at mask frame) side m (bent at mask frame) (Bend n at mask) t (λ m c q. cc)
      (λ b. let p = and_parts (lies h side) (is_within at mask frame) b in
      let q = and_parts (nat_le (at + length mask) (length frame)) (list_all is_byte mask) p.1 in
      (p.0, bytes_bent at mask frame (byte_at mask q.1) (fit side m frame refl))) e

  quit_move : (m : MemberId) (o : Option Station) (t : Happened) → slice_get w.members m.0 ≡ o → quit_at w m o ≡ Some t → Moves h s w (Quit m) t
  quit_move m None t here e = absurd (cc)
  quit_move m (Some (Idle k)) t here e = absurd (cc)
  quit_move m (Some (Busy run)) t here e = Quits m run refl here (some_is _ t e)

  -- every event that is allowed, where frames are bytes
  pub moves : ((n : ℕ) (side : Side) (m : MemberId) (frame : List ℕ) → slice_get w.messages n ≡ Some (Replied side m frame) → IsBytes frame)
      → (e : Event) (t : Happened) → happens h s w e ≡ Some t → Moves h s w e t
  moves fit (Begin m c) t is = begin_move m c (slice_get w.members m.0) t refl is
  moves fit (Carry n) t is = carry_move n (slice_get w.messages n) t refl is
  moves fit (Return n) t is = return_move n (slice_get w.messages n) t refl is
  moves fit (Lie side m bytes) t is =
      told_move (lies h side && is_told bytes) side m bytes (Lie side m bytes) t (λ m c q. cc)
      (λ b. let p = and_parts (lies h side) (is_told bytes) b in (p.0, byte_at bytes (and_parts (nat_le (length bytes) 1048580) (list_all is_byte bytes) p.1).1)) is
  moves fit (Bend n at mask) t is = bend_move n at mask (slice_get w.messages n) t (fit n) is
  moves fit (Quit m) t is = quit_move m (slice_get w.members m.0) t refl is
