-- What a pair of replies without a fault says.
use Rattle.std.proofs.Common.{◌≡◌, ℕ, zero, suc, ◌≤◌, ◌+◌, Bool, true, false, cond, List, [], ◌∷◌, drop, length, Result, Ok, Err, ap, refl, ◌∙◌, subst, arith}
use Rattle.std.specs.Prelude.{nat_lt, ◌==◌, ◌&&◌, bit_xor}
use Rattle.std.proofs.lemmas.Bool.Decides.{nat_tests}
use Rattle.dory_base.specs.declared.ids.Side.{Side}
use Rattle.dory_base.specs.declared.ids.Side.TheVariants.{Lead, Follow}
use Rattle.dory_base.specs.declared.ids.AskId.{AskId}
use Rattle.dory_base.specs.Log.{same_id}
use Rattle.dory_base.specs.declared.found.Place.{Place}
use Rattle.dory_base.specs.declared.found.Sum.{Sum}
use Rattle.dory_base.specs.declared.found.Found.{Found}
use Rattle.dory_hmac.specs.declared.folder_keys.FolderKeys.{FolderKeys}
use Rattle.dory_fields.specs.Bytes.{IsBytes}
use Rattle.dory_wire.specs.declared.message.What.{What}
use Rattle.dory_wire.specs.declared.message.What.TheVariants.{At, Found as Finds, Id, Staged, Committed, Refused}
use Rattle.dory_wire.specs.declared.message.Reply.{Reply}
use Rattle.dory_wire.specs.Reading.{reply_or_none, if_read}
use Rattle.dory_wire.specs.Spelling.{IsWhat, IsFound}
use Rattle.dory_wire.proofs.FrameLaws.{frame_is}
use Rattle.dory_wire.proofs.ReplyLaws.{reply_takes}
use Rattle.dory_verify.specs.declared.fault.CheckFault.{CheckFault}
use Rattle.dory_verify.specs.declared.fault.CheckFault.TheVariants as fault
use Rattle.dory_verify.specs.declared.reply.Allowed.TheVariants as allowed
use Rattle.dory_verify.specs.Honest.{IsFoundIn}
use Rattle.dory_verify.specs.Tags.{xor_bits, tag_sum}
use Rattle.dory_verify.specs.Checks.{◌>>=◌, form, echo, found_given, not_stale, same_version, same_place, same_manifest, counted, adds_up, all_add_up, both_found, of_one_version, first_fault_of}
use Rattle.dory_verify.proofs.FormLaws.{bind_ok, form_ok}

-- one check, and then the others
abbrev pub then_or : Result (Unit {0}) CheckFault → Result (Unit {0}) CheckFault → Result (Unit {0}) CheckFault
then_or r s = r >>= (λ u. s)

-- what was checked
abbrev ok_both : Found × Found → Result (Found × Found) CheckFault
ok_both b = Ok b

-- ---- Form, Echo and Refused

found_ok : (side : Side) (w : What) (f : Found) → found_given side w ≡ Ok f → w ≡ Finds f
found_ok side (At n) f is = absurd (cc)
found_ok side (Finds g) f is = cc
found_ok side (Id number id) f is = absurd (cc)
found_ok side (Staged id) f is = absurd (cc)
found_ok side (Committed number id) f is = absurd (cc)
found_ok side (Refused code) f is = absurd (cc)

bytes_dropped : (n : ℕ) (bytes : List ℕ) → IsBytes bytes → IsBytes (drop n bytes)
bytes_dropped zero bytes h = h
bytes_dropped (suc n) [] h = h
bytes_dropped (suc n) (b ∷ bytes) h = bytes_dropped n bytes (λ i. h (suc i))

-- a frame that found f, and f's ranges
in_frame : (side : Side) (frame : List ℕ) (r : Reply) (f : Found) → IsBytes frame → form side allowed.Found frame ≡ Ok r → found_given side r.what ≡ Ok f → IsFoundIn frame f × IsFound f
in_frame side frame r f bytes formed_as found_as =
    let m = form_ok side allowed.Found frame r formed_as in
    let framing = frame_is frame m.0 bytes m.1 in
    let inside : drop 4 frame ≡ m.0 = ap (drop 4) framing.0 in
    let spelled = reply_takes m.0 r (subst IsBytes inside (bytes_dropped 4 frame bytes)) m.2 in
    let is : r.what ≡ Finds f = found_ok side r.what f found_as in
    ((r, ap reply_or_none m.1 ∙ ap if_read m.2, is), subst IsWhat is spelled.1.what)

-- both frames found something, within the ranges
pub record AreFound (lead follow : List ℕ) (l f : Found) : Type 0 where
  pub in_lead : IsFoundIn lead l
  pub in_follow : IsFoundIn follow f
  pub lead_is : IsFound l
  pub follow_is : IsFound f

pub both_ok : (first second : AskId) (lead follow : List ℕ) (both : Found × Found) → IsBytes lead → IsBytes follow → both_found first second lead follow ≡ Ok both → AreFound lead follow both.0 both.1
unfolding both_found
both_ok first second lead follow both lead_bytes follow_bytes is =
    let l = bind_ok (form Lead allowed.Found lead) _ both is in
    let g = bind_ok (form Follow allowed.Found follow) _ both l.2 in
    let e = bind_ok (echo Lead first l.0) _ both g.2 in
    let h = bind_ok (echo Follow second g.0) _ both e.2 in
    let found_l = bind_ok (found_given Lead l.0.what) _ both h.2 in
    let found_f = bind_ok (found_given Follow g.0.what) _ both found_l.2 in
    made l.0 g.0 found_l.0 found_f.0 l.1 g.1 found_l.1 found_f.1 found_f.2
  where
    made : (r s : Reply) (x y : Found) → form Lead allowed.Found lead ≡ Ok r → form Follow allowed.Found follow ≡ Ok s → found_given Lead r.what ≡ Ok x → found_given Follow s.what ≡ Ok y
        → ok_both (x, y) ≡ ok_both both → AreFound lead follow both.0 both.1
    made r s x y a b i j given =
        let same : (x, y) ≡ both = cc in
        let left = in_frame Lead lead r x lead_bytes a i in
        let right = in_frame Follow follow s y follow_bytes b j in
        subst (λ (p : Found × Found). AreFound lead follow p.0 p.1) same (record { in_lead = left.0; in_follow = right.0; lead_is = left.1; follow_is = right.1 })

-- ---- Version, Stale, Manifest and Count

version_ok : (side : Side) (asked : ℕ) (f : Found) (u : Unit {0}) → same_version side asked f ≡ Ok u → f.version ≡ asked
version_ok side asked f u is = by (f.version == asked) refl is
  where
    by : (b : Bool) → (f.version == asked) ≡ b → cond b (Ok tt) (Err (fault.Version side asked f.version)) ≡ Ok u → f.version ≡ asked
    by true e i = grind (arith, nat_tests)
    by false e i = absurd (cc)

stale_ok : (side : Side) (seen version : ℕ) (u : Unit {0}) → not_stale side seen version ≡ Ok u → seen ≤ version
stale_ok side seen version u is = by (nat_lt version seen) refl is
  where
    by : (b : Bool) → nat_lt version seen ≡ b → cond b (Err (fault.Stale side version seen)) (Ok tt) ≡ Ok u → seen ≤ version
    by true e i = absurd (cc)
    by false e i = grind (arith, nat_tests)

count_ok : (side : Side) (want : ℕ) (f : Found) (u : Unit {0}) → counted side want f ≡ Ok u → length f.sums ≡ want
count_ok side want f u is = by (length f.sums == want) refl is
  where
    by : (b : Bool) → (length f.sums == want) ≡ b → cond b (Ok tt) (Err (fault.Count side (length f.sums) want)) ≡ Ok u → length f.sums ≡ want
    by true e i = grind (arith, nat_tests)
    by false e i = absurd (cc)

number_test : (a b : ℕ) → (a == b) ≡ true → a ≡ b
number_test a b h = grind (arith, nat_tests)

and_true : (a b : Bool) → (a && b) ≡ true → (a ≡ true) × (b ≡ true)
and_true true b e = (refl, e)
and_true false b e = absurd (cc)

place_ok : (a b : Place) → same_place a b ≡ true → a ≡ b
place_ok a b h =
    let first = and_true ((a.slot == b.slot) && (a.doc.0 == b.doc.0)) (same_id a.id b.id) h in
    let front = and_true (a.slot == b.slot) (a.doc.0 == b.doc.0) first.0 in
    let back = and_true (a.id.member.0 == b.id.member.0) (a.id.serial == b.id.serial) first.1 in
    let slot = number_test a.slot b.slot front.0 in
    let doc = number_test a.doc.0 b.doc.0 front.1 in
    let member = number_test a.id.member.0 b.id.member.0 back.0 in
    let serial = number_test a.id.serial b.id.serial back.1 in
    λ i. record { slot = slot i; doc = record { 0 = doc i }; id = record { member = record { 0 = member i }; serial = serial i } }

manifest_ok : (at : ℕ) (lead follow : List Place) (u : Unit {0}) → same_manifest at lead follow ≡ Ok u → lead ≡ follow
manifest_ok at [] [] u is = refl
manifest_ok at [] (q ∷ follow) u is = absurd (cc)
manifest_ok at (p ∷ lead) [] u is = absurd (cc)
manifest_ok at (p ∷ lead) (q ∷ follow) u is = by (same_place p q) refl is (manifest_ok (at + 1) lead follow u)
  where
    by : (b : Bool) → same_place p q ≡ b → cond b (same_manifest (at + 1) lead follow) (Err (fault.Manifest at)) ≡ Ok u → (same_manifest (at + 1) lead follow ≡ Ok u → lead ≡ follow) → p ∷ lead ≡ q ∷ follow
    by true e i rest = λ k. place_ok p q e k ∷ rest i k
    by false e i rest = absurd (cc)

-- both are of the version asked, with one manifest and a sum for each probe
pub record AreOfOne (probes version seen : ℕ) (l f : Found) : Type 0 where
  pub lead_version : l.version ≡ version
  pub follow_version : f.version ≡ version
  pub fresh : seen ≤ version
  pub manifest : l.manifest ≡ f.manifest
  pub lead_count : length l.sums ≡ probes
  pub follow_count : length f.sums ≡ probes

pub one_version_ok : (probes version seen : ℕ) (l f : Found) (u : Unit {0}) → of_one_version probes version seen l f ≡ Ok u → AreOfOne probes version seen l f
unfolding of_one_version
one_version_ok probes version seen l f u is =
    let a = bind_ok (same_version Lead version l) _ u is in
    let b = bind_ok (same_version Follow version f) _ u a.2 in
    let c = bind_ok (not_stale Lead seen version) _ u b.2 in
    let d = bind_ok (same_manifest 0 l.manifest f.manifest) _ u c.2 in
    let e = bind_ok (counted Lead probes l) _ u d.2 in
    record {
      lead_version = version_ok Lead version l a.0 a.1;
      follow_version = version_ok Follow version f b.0 b.1;
      fresh = stale_ok Lead seen version c.0 c.1;
      manifest = manifest_ok 0 l.manifest f.manifest d.0 d.1;
      lead_count = count_ok Lead probes l e.0 e.1;
      follow_count = count_ok Follow probes f u e.2;
    }

-- ---- TagSum

pub adds_ok : (keys : FolderKeys) (places : List Place) (probe column : ℕ) (l f : Sum) (u : Unit {0}) → adds_up keys places probe column l f ≡ Ok u → bit_xor l.tag f.tag ≡ tag_sum keys column places (xor_bits l.bits f.bits)
adds_ok keys places probe column l f u is = by (got == want) refl is
  where
    got : ℕ
    got = bit_xor l.tag f.tag

    want : ℕ
    want = tag_sum keys column places (xor_bits l.bits f.bits)

    by : (b : Bool) → (bit_xor l.tag f.tag == tag_sum keys column places (xor_bits l.bits f.bits)) ≡ b
        → cond b (Ok tt) (Err (fault.TagSum probe (bit_xor l.tag f.tag) (tag_sum keys column places (xor_bits l.bits f.bits)))) ≡ Ok u
        → bit_xor l.tag f.tag ≡ tag_sum keys column places (xor_bits l.bits f.bits)
    by true e i = number_test (bit_xor l.tag f.tag) (tag_sum keys column places (xor_bits l.bits f.bits)) e
    by false e i = absurd (cc)

pub all_add_ok : (keys : FolderKeys) (places : List Place) (probe c : ℕ) (columns : List ℕ) (l f : Sum) (lead follow : List Sum) (u : Unit {0}) → all_add_up keys places probe (c ∷ columns) (l ∷ lead) (f ∷ follow) ≡ Ok u
    → (bit_xor l.tag f.tag ≡ tag_sum keys c places (xor_bits l.bits f.bits)) × (all_add_up keys places (probe + 1) columns lead follow ≡ Ok u)
all_add_ok keys places probe c columns l f lead follow u is =
    let a = bind_ok (adds_up keys places probe c l f) (λ v. all_add_up keys places (probe + 1) columns lead follow) u is in
    (adds_ok keys places probe c l f a.0 a.1, a.2)

-- a pair without a fault
pub record IsChecked (keys : FolderKeys) (columns : List ℕ) (version seen : ℕ) (lead follow : List ℕ) (l f : Found) : Type 0 where
  pub found : AreFound lead follow l f
  pub one : AreOfOne (length columns) version seen l f
  pub tags : all_add_up keys l.manifest 0 columns l.sums f.sums ≡ Ok tt

pub checked_ok : (keys : FolderKeys) (columns : List ℕ) (version seen : ℕ) (first second : AskId) (lead follow : List ℕ) (l f : Found) → IsBytes lead → IsBytes follow
    → first_fault_of keys columns version seen first second lead follow ≡ Ok (l, f) → IsChecked keys columns version seen lead follow l f
unfolding first_fault_of
checked_ok keys columns version seen first second lead follow l f lead_bytes follow_bytes is =
    let a = bind_ok (both_found first second lead follow) _ (l, f) is in
    let b = bind_ok (of_one_version (length columns) version seen a.0.0 a.0.1) _ (l, f) a.2 in
    let c = bind_ok (all_add_up keys a.0.0.manifest 0 columns a.0.0.sums a.0.1.sums) _ (l, f) b.2 in
    made a.0 b.0 c.0 a.1 b.1 c.1 c.2
  where
    made : (both : Found × Found) (u v : Unit {0}) → both_found first second lead follow ≡ Ok both → of_one_version (length columns) version seen both.0 both.1 ≡ Ok u
        → all_add_up keys both.0.manifest 0 columns both.0.sums both.1.sums ≡ Ok v → ok_both both ≡ ok_both (l, f) → IsChecked keys columns version seen lead follow l f
    made both u v i j k given =
        let same : both ≡ (l, f) = cc in
        subst (λ (p : Found × Found). IsChecked keys columns version seen lead follow p.0 p.1) same (record {
          found = both_ok first second lead follow both lead_bytes follow_bytes i;
          one = one_version_ok (length columns) version seen both.0 both.1 u j;
          tags = k;
        })
