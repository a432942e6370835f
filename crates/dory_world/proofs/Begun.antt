-- How a world begins, and what a begin comes to.
use Rattle.std.proofs.Common.{◌≡◌, ◌≢◌, ℕ, zero, suc, ◌+◌, ◌≤◌, Bool, true, List, [], ◌∷◌, ◌++◌, length, ap, ◌∙◌, refl, sym, subst, arith, add-one, ◌⊎◌, inl, inr}
use Rattle.std.specs.Prelude.{Option, Some, None, Result, Ok, Err, IfOk, option_map, slice_get, slice_set}
use Rattle.std.proofs.lemmas.List.{length-append}
use Rattle.dory_base.specs.declared.ids.MemberId.{MemberId}
use Rattle.dory_base.specs.declared.ids.Side.{Side}
use Rattle.dory_member.specs.Course.{Ask, asks, begun, fails, took}
use Rattle.dory_member.specs.Machine.{IsRefused, Machine, began, begins, just_begun, ran_out, reply_taken}
use Rattle.dory_member.specs.declared.command.Command.{Command}
use Rattle.dory_member.specs.declared.outcome.Fault.{Fault}
use Rattle.dory_member.specs.declared.outcome.Fault.TheVariants as fault
use Rattle.dory_member.specs.declared.outcome.Outcome.TheVariants.{Failed}
use Rattle.dory_member.specs.declared.phase.Run.{Run}
use Rattle.dory_state.specs.declared.kept.KeptState.{KeptState}
use Rattle.dory_run.specs.Happening.{Happened, begin_at, begin_if, begins as begins_so, fits, gone_on, line_of, puts, return_for, return_if, return_of, return_to, returned, same_side, settled}
use Rattle.dory_run.specs.Start.{fresh, members_from, seed_of}
use Rattle.dory_run.specs.World.{Station, Idle, Busy, Message, Replied, World, next_message}
use Rattle.dory_run.specs.declared.line.WorldLine.{WorldLine}
use Rattle.dory_run.specs.declared.line.WorldLine.TheVariants as line
use Rattle.dory_run.specs.declared.setup.Setup.{Setup}
use Rattle.dory_world.specs.Places.{GivesUp, awaited_in, idle_in}
use Rattle.dory_world.specs.Plays.{Comes, ComesTo, IsWorld, Shown, shown}
use Rattle.dory_world.specs.Steps.{TakenFrom, WentOn}
use Rattle.dory_world.proofs.Sets.{set_same, set_twice}

-- ---- the members at first

members_more : (s : Setup) (n k m : ℕ) → m ≡ n + k → members_from s n k ++ Idle (fresh s m) ∷ [] ≡ members_from s n (suc k)
members_more s n zero m is = let e : m ≡ n = omega arith in ap (λ (i : ℕ). Idle (fresh s i) ∷ []) e
members_more s n (suc k) m is = ap (λ (xs : List Station). Idle (fresh s n) ∷ xs) (members_more s (n + 1) k m (omega arith))

-- one member more
pub members_next : (s : Setup) (k : ℕ) → members_from s 0 k ++ Idle (fresh s k) ∷ [] ≡ members_from s 0 (k + 1)
members_next s k = rw add-one (members_more s 0 k k (omega arith))

-- ---- a command that goes on

puts_few : (run : Run) (put : List Message) (o : Option Ask) → length (put ++ puts run o) ≤ length put + 1
puts_few run put None = omega (arith, length-append put [])
puts_few run put (Some ask) = omega (arith, length-append put (puts run (Some ask)))

-- after a command went on, the world is the one that goes on
pub went : (folder : ℕ) (w : Shown) (v : World) (m : MemberId) (run : Run) (told : WorldLine) (t : Happened) (ms : List Station) (ns : List Message) → IsWorld folder w v
    → WentOn m run w.members w.messages told ms ns → t.world ≡ gone_on v m run → t.line ≡ line_of (next_message v) m run.phase → Comes folder t v told (shown ms w.lead w.follow ns)
went folder w v m run told t ms ns is g world tells = record {
  line = g.line ∙ ap (λ (xs : List Message). line_of (length xs) m run.phase) is.messages ∙ sym tells;
  world = subst (λ (x : World). IsWorld folder (shown ms w.lead w.follow ns) x) (sym world) (record {
    members = g.members ∙ ap (λ (xs : List Station). slice_set xs m.0 (settled run)) is.members;
    lead = is.lead;
    follow = is.follow;
    messages = g.messages ∙ ap (λ (xs : List Message). xs ++ puts run (asks run.phase)) is.messages;
  });
  few = subst (λ (x : World). length x.messages ≤ length v.messages + 1) (sym world) (puts_few run v.messages (asks run.phase));
}

-- ---- Begin

idle_is : (x : Station) (k : KeptState) → idle_in x ≡ Some k → x ≡ Idle k
idle_is (Idle j) k e = let w : j ≡ k = cc in ap Idle w
idle_is (Busy run) k e = absurd (cc)

began_is : (r : Result Run Fault) (member : Machine) → begins r ≡ Ok member → r ≡ Ok member.run
began_is (Ok run) member e = let w : just_begun run ≡ member = cc in ap (λ (x : Machine). Ok x.run) w
began_is (Err f) member e = absurd (cc)

refused_is : (r : Result Run Fault) (f : Fault) → begins r ≡ Err f → r ≡ Err f
refused_is (Ok run) f e = absurd (cc)
refused_is (Err g) f e = cc

-- how a command begins that an idle member is given, and that fits
begin_is : (s : Setup) (w : Shown) (v : World) (m : MemberId) (c : Command) (k : KeptState) (x : Station) (r : Result Run Fault) → w.members ≡ v.members → slice_get w.members m.0 ≡ Some x → idle_in x ≡ Some k
    → fits k.shape c ≡ true → begun k (seed_of s m) c ≡ r → begin_at s v m c (slice_get v.members m.0) ≡ Some (begins_so v m c r)
begin_is s w v m c k x r members at idle fit is =
    ap (begin_at s v m c) (ap (λ (xs : List Station). slice_get xs m.0) (sym members) ∙ at ∙ ap Some (idle_is x k idle))
    ∙ ap (λ (b : Bool). begin_if b v m c (begun k (seed_of s m) c)) fit
    ∙ ap (λ (b : Result Run Fault). Some (begins_so v m c b)) is

-- a command that begins goes on
pub begun_comes : (folder : ℕ) (s : Setup) (w : Shown) (v : World) (m : MemberId) (c given : Command) (k kept : KeptState) (x : Station) (seed : List ℕ) (member : Machine) (told : WorldLine) (ms : List Station) (ns : List Message)
    → IsWorld folder w v → slice_get w.members m.0 ≡ Some x → idle_in x ≡ Some k → fits k.shape c ≡ true → kept ≡ k → given ≡ c → seed ≡ seed_of s m → began kept seed given ≡ Ok member
    → WentOn m member.run w.members w.messages told ms ns → ComesTo folder (begin_at s v m c (slice_get v.members m.0)) v (Some told) (shown ms w.lead w.follow ns)
begun_comes folder s w v m c given k kept x seed member told ms ns is at idle fit same gave drawn began g =
    let b : begun k (seed_of s m) c ≡ Ok member.run =
    sym (ap (λ (y : KeptState). begun y seed given) same ∙ ap (λ (y : Command). begun k seed y) gave ∙ ap (λ (y : List ℕ). begun k y c) drawn) ∙ began_is (begun kept seed given) member began in
    subst (λ (o : Option Happened). ComesTo folder o v (Some told) (shown ms w.lead w.follow ns)) (sym (begin_is s w v m c k x (Ok member.run) is.members at idle fit b))
    (went folder w v m member.run told (begins_so v m c (Ok member.run)) ms ns is g refl refl)

fault_is : {Y : Type 0} (f : Fault) (made : Result Y Fault) → f ≢ fault.NoMemory → IsRefused f made → made ≡ Err f
fault_is (fault.Check x) made not r = r
fault_is (fault.Unconfirmed side want got) made not r = r
fault_is (fault.Diverged number lead follow) made not r = r
fault_is (fault.Unfinished id) made not r = r
fault_is fault.SerialEnd made not r = r
fault_is fault.EpochEnd made not r = r
fault_is fault.NoMemory made not r = absurd (not refl)

-- one that is refused changes nothing
pub refused_comes : (folder : ℕ) (s : Setup) (w : Shown) (v : World) (m : MemberId) (c given : Command) (k kept : KeptState) (x : Station) (seed : List ℕ) (f : Fault)
    → IsWorld folder w v → slice_get w.members m.0 ≡ Some x → idle_in x ≡ Some k → fits k.shape c ≡ true → kept ≡ k → given ≡ c → seed ≡ seed_of s m → IsRefused f (began kept seed given) → f ≢ fault.NoMemory
    → ComesTo folder (begin_at s v m c (slice_get v.members m.0)) v (Some (line.Ended m (Failed f))) w
refused_comes folder s w v m c given k kept x seed f is at idle fit same gave drawn refused not =
    let b : begun k (seed_of s m) c ≡ Err f =
    sym (ap (λ (y : KeptState). begun y seed given) same ∙ ap (λ (y : Command). begun k seed y) gave ∙ ap (λ (y : List ℕ). begun k y c) drawn) ∙ refused_is (begun kept seed given) f (fault_is f (began kept seed given) not refused) in
    subst (λ (o : Option Happened). ComesTo folder o v (Some (line.Ended m (Failed f))) w) (sym (begin_is s w v m c k x (Err f) is.members at idle fit b))
    (record { line = refl; world = is; few = omega arith })

-- ---- a command is taken

pub taken_at : {E : Type 0} (members : List Station) (m : ℕ) (x now : Station) (r : Result (Option Machine) E) → slice_get members m ≡ Some x → IfOk r (GivesUp x now)
    → IfOk r (λ (o : Option Machine). TakenFrom (slice_get members m) members m o (slice_set members m now))
taken_at members m x now (Err e) at g = tt
taken_at members m (Idle k) now (Ok None) at g =
    subst (λ (y : Option Station). TakenFrom y members m None (slice_set members m now)) (sym at) (ap (slice_set members m) g ∙ set_same members m (Idle k) at)
taken_at members m (Idle k) now (Ok (Some member)) at g = absurd g
taken_at members m (Busy run) now (Ok None) at g = absurd g
taken_at members m (Busy run) now (Ok (Some member)) at g =
    subst (λ (y : Option Station). TakenFrom y members m (Some member) (slice_set members m now)) (sym at) (ap (slice_set members m) g.0, g.1, g.2)

-- ---- Return

asked_side : (run : Run) (o : Option Ask) (waited : Side) → Some waited ≡ option_map (λ (a : Ask). a.side) o → (ask : Ask) × (o ≡ Some ask) × (ask.side ≡ waited)
asked_side run None waited e = absurd (cc)
asked_side run (Some ask) waited e = (ask, refl, cc)

took_is : (member now : Machine) (run : Run) (frame : List ℕ) → member.run ≡ run → now.run.phase ≢ fails fault.NoMemory → (now ≡ reply_taken member frame) ⊎ (now ≡ ran_out member) → now.run ≡ took run frame
took_is member now run frame is not (inl e) = ap (λ (x : Machine). x.run) e ∙ ap (λ (x : Run). took x frame) is
took_is member now run frame is not (inr e) = absurd (not (ap (λ (x : Machine). x.run.phase) e))

module _ (folder : ℕ) (w : Shown) (v : World) (number : ℕ) (side waited : Side) (m : MemberId) (frame : List ℕ) (member now : Machine) (rest : List Station) (told : WorldLine) (ms : List Station) (ns : List Message) where
  busy_comes : (run : Run) → IsWorld folder w v → slice_get w.messages number ≡ Some (Replied side m frame) → slice_get w.members m.0 ≡ Some (Busy run) → Some waited ≡ awaited_in (Some (Busy run)) → same_side waited side ≡ true
      → TakenFrom (Some (Busy run)) w.members m.0 (Some member) rest → (now ≡ reply_taken member frame) ⊎ (now ≡ ran_out member) → WentOn m now.run rest w.messages told ms ns
      → ComesTo folder (return_of v (slice_get v.messages number)) v (Some told) (shown ms w.lead w.follow ns)
  busy_comes run is put at waits same taken takes g =
      let took_run : now.run ≡ took run frame = took_is member now run frame taken.1 g.remembers takes in
      let a = asked_side run (asks run.phase) waited waits in
      let put_v : slice_get v.messages number ≡ Some (Replied side m frame) = ap (λ (xs : List Message). slice_get xs number) (sym is.messages) ∙ put in
      let at_v : slice_get v.members m.0 ≡ Some (Busy run) = ap (λ (xs : List Station). slice_get xs m.0) (sym is.members) ∙ at in
      let allowed : return_of v (slice_get v.messages number) ≡ Some (returned v m (took run frame)) =
      ap (return_of v) put_v ∙ ap (return_to v side m frame) at_v ∙ ap (return_for v side m frame run) a.1
      ∙ ap (λ (b : Bool). return_if b v m run frame) (ap (λ (x : Side). same_side x side) a.2 ∙ same) in
      let members_are : ms ≡ slice_set w.members m.0 (settled (took run frame)) =
      g.members ∙ ap (λ (xs : List Station). slice_set xs m.0 (settled now.run)) taken.0 ∙ set_twice w.members m.0 (Idle run.kept) (settled now.run) ∙ ap (λ (x : Run). slice_set w.members m.0 (settled x)) took_run in
      let goes : WentOn m (took run frame) w.members w.messages told ms ns = record {
        members = members_are;
        messages = g.messages ∙ ap (λ (x : Run). w.messages ++ puts x (asks x.phase)) took_run;
        line = g.line ∙ ap (λ (x : Run). line_of (length w.messages) m x.phase) took_run;
        remembers = subst (λ (x : Run). x.phase ≢ fails fault.NoMemory) took_run g.remembers;
      } in
      subst (λ (o : Option Happened). ComesTo folder o v (Some told) (shown ms w.lead w.follow ns)) (sym allowed)
      (went folder w v m (took run frame) told (returned v m (took run frame)) ms ns is goes refl refl)

  returned_by : (o : Option Station) → IsWorld folder w v → slice_get w.messages number ≡ Some (Replied side m frame) → slice_get w.members m.0 ≡ o → Some waited ≡ awaited_in o → same_side waited side ≡ true
      → TakenFrom o w.members m.0 (Some member) rest → (now ≡ reply_taken member frame) ⊎ (now ≡ ran_out member) → WentOn m now.run rest w.messages told ms ns
      → ComesTo folder (return_of v (slice_get v.messages number)) v (Some told) (shown ms w.lead w.follow ns)
  returned_by None is put at waits same taken takes g = absurd taken
  returned_by (Some (Idle k)) is put at waits same taken takes g = absurd taken
  returned_by (Some (Busy run)) is put at waits same taken takes g = busy_comes run is put at waits same taken takes g

  -- a reply comes to the member that waits for it
  pub returned_comes : (taken : Option Machine) → IsWorld folder w v → slice_get w.messages number ≡ Some (Replied side m frame) → Some waited ≡ awaited_in (slice_get w.members m.0) → same_side waited side ≡ true
      → taken ≡ Some member → TakenFrom (slice_get w.members m.0) w.members m.0 taken rest → (now ≡ reply_taken member frame) ⊎ (now ≡ ran_out member) → WentOn m now.run rest w.messages told ms ns
      → ComesTo folder (return_of v (slice_get v.messages number)) v (Some told) (shown ms w.lead w.follow ns)
  returned_comes taken is put waits same took given takes g =
      returned_by (slice_get w.members m.0) is put refl waits same (subst (λ (o : Option Machine). TakenFrom (slice_get w.members m.0) w.members m.0 o rest) took given) takes g
