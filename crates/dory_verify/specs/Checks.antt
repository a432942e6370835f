-- The checks of a pair of replies, in their order; at each the lead's reply comes before the follower's.
use Rattle.std.specs.Prelude.{ℕ, ◌≡◌, ◌+◌, ◌==◌, ◌&&◌, length, bit_xor, Bool, true, false, nat_lt, List, [], ◌∷◌, Option, Some, None, Result, Ok, Err, if◌then◌else◌}
use Rattle.dory_base.specs.declared.ids.Side.{Side}
use Rattle.dory_base.specs.declared.ids.Side.TheVariants.{Lead, Follow}
use Rattle.dory_base.specs.declared.ids.AskId.{AskId}
use Rattle.dory_base.specs.declared.found.Place.{Place}
use Rattle.dory_base.specs.declared.found.Sum.{Sum}
use Rattle.dory_base.specs.declared.found.Found.{Found}
use Rattle.dory_base.specs.Log.{same_id}
use Rattle.dory_hmac.specs.declared.folder_keys.FolderKeys.{FolderKeys}
use Rattle.dory_wire.specs.declared.message.What.{What}
use Rattle.dory_wire.specs.declared.message.What.TheVariants.{At, Found as Finds_, Id, Staged, Committed, Refused}
use Rattle.dory_wire.specs.declared.message.Reply.{Reply}
use Rattle.dory_wire.specs.declared.fault.WireFault.{WireFault}
use Rattle.dory_wire.specs.declared.fault.WireFault.TheVariants.{Kind, Body, Trailing, NoMemory}
use Rattle.dory_wire.specs.Frame.{message_in}
use Rattle.dory_wire.specs.Reading.{reply_of}
use Rattle.dory_verify.specs.declared.answer.Answer.{Answer}
use Rattle.dory_verify.specs.declared.fault.CheckFault.{CheckFault}
use Rattle.dory_verify.specs.declared.fault.CheckFault.TheVariants as fault
use Rattle.dory_verify.specs.declared.fault.VerifyError.{VerifyError}
use Rattle.dory_verify.specs.declared.reply.Allowed.{Allowed}
use Rattle.dory_verify.specs.declared.reply.Allowed.TheVariants as allowed
use Rattle.dory_verify.specs.declared.fault.VerifyError.TheVariants as errors
use Rattle.dory_verify.specs.Tags.{xor_bits, tag_sum}
use Rattle.dory_verify.specs.Listing.{Lists}

infixl 10 ◌>>=◌
-- go on with what a check gave, or stop at the fault
abbrev pub ◌>>=◌ : {E A B : Type 0} → Result A E → (A → Result B E) → Result B E
(Ok x) >>= f = f x
(Err e) >>= f = Err e

-- a fault is the first that the checks find, and memory may run out
abbrev pub Misses : {Y : Type 0} → VerifyError → Result Y CheckFault → Type 0
Misses errors.NoMemory checked = Unit {0}
Misses (errors.Check f) checked = checked ≡ Err f

-- unless memory runs out, it is what the checks find
abbrev pub Finds : {Y : Type 0} → Result Y VerifyError → Result Y CheckFault → Type 0
Finds (Ok x) checked = checked ≡ Ok x
Finds (Err e) checked = Misses e checked

-- a reply is of a kind that is allowed, or a refusal
abbrev pub is_allowed : Allowed → What → Bool
is_allowed allowed.At (At length) = true
is_allowed allowed.Found (Finds_ f) = true
is_allowed allowed.Id (Id number id) = true
is_allowed allowed.StagedOrCommitted (Staged id) = true
is_allowed allowed.StagedOrCommitted (Committed number id) = true
is_allowed allowed.Committed (Committed number id) = true
is_allowed kind (Refused code) = true
is_allowed kind what = false

-- where in the frame a fault of its message is: the length before it has four bytes
abbrev pub place_in_frame : WireFault → ℕ
place_in_frame (Kind b) = 4
place_in_frame (Body at) = at + 4
place_in_frame (Trailing at) = at + 4
place_in_frame NoMemory = 0

-- a message that decodes, and whose kind is allowed
abbrev pub formed : Side → Allowed → Result Reply WireFault → Result Reply CheckFault
formed side kind (Ok reply) = if is_allowed kind reply.what then Ok reply else Err (fault.Form side 4)
formed side kind (Err e) = Err (fault.Form side (place_in_frame e))

-- bytes that are a frame
abbrev pub framed : Side → Allowed → Option (List ℕ) → Result Reply CheckFault
framed side kind None = Err (fault.Form side 0)
framed side kind (Some message) = formed side kind (reply_of message)

-- Form: the bytes are a frame, its message decodes as a reply, and its kind is one that is allowed
abbrev pub form : Side → Allowed → List ℕ → Result Reply CheckFault
form side kind frame = framed side kind (message_in frame)

-- two asks are one
abbrev pub same_ask : AskId → AskId → Bool
same_ask a b = (a.member.0 == b.member.0) && (a.serial == b.serial) && (a.step == b.step)

-- Echo: the reply's ask is the one asked
abbrev pub echo : Side → AskId → Reply → Result (Unit {0}) CheckFault
echo side asked reply = if same_ask reply.ask asked then Ok tt else Err (fault.Echo side asked reply.ask)

-- Refused: an At isn't refused, and gives its length
abbrev pub length_of : Side → What → Result ℕ CheckFault
length_of side (At length) = Ok length
length_of side (Finds_ f) = Err (fault.Form side 4)
length_of side (Id number id) = Err (fault.Form side 4)
length_of side (Staged id) = Err (fault.Form side 4)
length_of side (Committed number id) = Err (fault.Form side 4)
length_of side (Refused code) = Err (fault.Refused side code)

-- Refused: a Found isn't refused, and gives what was found
abbrev pub found_given : Side → What → Result Found CheckFault
found_given side (At length) = Err (fault.Form side 4)
found_given side (Finds_ f) = Ok f
found_given side (Id number id) = Err (fault.Form side 4)
found_given side (Staged id) = Err (fault.Form side 4)
found_given side (Committed number id) = Err (fault.Form side 4)
found_given side (Refused code) = Err (fault.Refused side code)

-- Stale: a length or a version is at least what was seen
abbrev pub not_stale : Side → ℕ → ℕ → Result (Unit {0}) CheckFault
not_stale side seen latest = if nat_lt latest seen then Err (fault.Stale side latest seen) else Ok tt

-- Version: what was found names the version asked
abbrev pub same_version : Side → ℕ → Found → Result (Unit {0}) CheckFault
same_version side asked f = if f.version == asked then Ok tt else Err (fault.Version side asked f.version)

-- two lines are one: slot, document and id
abbrev pub same_place : Place → Place → Bool
same_place a b = (a.slot == b.slot) && (a.doc.0 == b.doc.0) && same_id a.id b.id

-- Manifest: from this line on the two are alike, else the first line where they differ or one has ended
abbrev pub same_manifest : ℕ → List Place → List Place → Result (Unit {0}) CheckFault
same_manifest at [] [] = Ok tt
same_manifest at [] (q ∷ follow) = Err (fault.Manifest at)
same_manifest at (p ∷ lead) [] = Err (fault.Manifest at)
same_manifest at (p ∷ lead) (q ∷ follow) = if same_place p q then same_manifest (at + 1) lead follow else Err (fault.Manifest at)

-- Count: there is a sum for each probe
abbrev pub counted : Side → ℕ → Found → Result (Unit {0}) CheckFault
counted side want f = if length f.sums == want then Ok tt else Err (fault.Count side (length f.sums) want)

-- TagSum: the XOR of the two tags is that of the cell tags of the XOR of the bits, in the probe's column
abbrev pub adds_up : FolderKeys → List Place → ℕ → ℕ → Sum → Sum → Result (Unit {0}) CheckFault
adds_up keys places probe column lead follow =
    if bit_xor lead.tag follow.tag == tag_sum keys column places (xor_bits lead.bits follow.bits)
    then Ok tt
    else Err (fault.TagSum probe (bit_xor lead.tag follow.tag) (tag_sum keys column places (xor_bits lead.bits follow.bits)))

-- from this probe on the tags add up, probe by probe
abbrev pub all_add_up : FolderKeys → List Place → ℕ → List ℕ → List Sum → List Sum → Result (Unit {0}) CheckFault
all_add_up keys places probe [] lead follow = Ok tt
all_add_up keys places probe (c ∷ columns) [] follow = Ok tt
all_add_up keys places probe (c ∷ columns) (l ∷ lead) [] = Ok tt
all_add_up keys places probe (c ∷ columns) (l ∷ lead) (f ∷ follow) =
    adds_up keys places probe c l f >>= (λ u. all_add_up keys places (probe + 1) columns lead follow)

-- the two lengths that replies to Latest give, or the first fault
unfoldable pub lengths_of : ℕ → AskId → AskId → List ℕ → List ℕ → Result (ℕ × ℕ) CheckFault
lengths_of seen first second lead follow = do
  l ← form Lead allowed.At lead
  f ← form Follow allowed.At follow
  e ← echo Lead first l
  g ← echo Follow second f
  length ← length_of Lead l.what
  other ← length_of Follow f.what
  a ← not_stale Lead seen length
  b ← not_stale Follow seen other
  Ok (length, other)

-- what two replies to Search found, or the first fault of Form, Echo and Refused
unfoldable pub both_found : AskId → AskId → List ℕ → List ℕ → Result (Found × Found) CheckFault
both_found first second lead follow = do
  l ← form Lead allowed.Found lead
  f ← form Follow allowed.Found follow
  e ← echo Lead first l
  g ← echo Follow second f
  found ← found_given Lead l.what
  other ← found_given Follow f.what
  Ok (found, other)

-- what two domains found is of one version, the one that was asked, and has a sum for each probe; or the first fault
-- of Version, Stale, Manifest and Count
unfoldable pub of_one_version : ℕ → ℕ → ℕ → Found → Found → Result (Unit {0}) CheckFault
of_one_version probes version seen lead follow = do
  a ← same_version Lead version lead
  b ← same_version Follow version follow
  c ← not_stale Lead seen version
  d ← same_manifest 0 lead.manifest follow.manifest
  e ← counted Lead probes lead
  counted Follow probes follow

-- what replies to a search at these columns found, or the first fault
unfoldable pub first_fault_of : FolderKeys → List ℕ → ℕ → ℕ → AskId → AskId → List ℕ → List ℕ → Result (Found × Found) CheckFault
first_fault_of keys columns version seen first second lead follow = do
  both ← both_found first second lead follow
  a ← of_one_version (length columns) version seen both.0 both.1
  b ← all_add_up keys both.0.manifest 0 columns both.0.sums both.1.sums
  Ok both

-- unless memory runs out, it is what the checks find: the answer that lists what was found, or the fault
abbrev pub Verifies : FolderKeys → List ℕ → ℕ → Result Answer VerifyError → Result (Found × Found) CheckFault → Type 0
Verifies keys columns version (Ok answer) checked =
    (lead follow : Found) × (checked ≡ Ok (lead, follow)) × Lists keys columns version lead follow answer
Verifies keys columns version (Err e) checked = Misses e checked
