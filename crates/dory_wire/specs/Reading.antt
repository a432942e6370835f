-- Reading a message from left to right, field by field, up to the first fault.
use Rattle.std.specs.Prelude.{ℕ, zero, suc, ◌≡◌, ◌+◌, ◌==◌, ◌^◌, nat_le, Bool, if◌then◌else◌, List, [], ◌∷◌, length, take, drop, Option, Some, None, Result, Ok, Err}
use Rattle.std.specs.Int.{w16, w32, w64, from_be_bytes, is_in_range}
use Rattle.dory_base.specs.TagBytes.{tag_number}
use Rattle.dory_base.specs.declared.ids.AskId.{AskId}
use Rattle.dory_base.specs.declared.ids.UpdateId.{UpdateId}
use Rattle.dory_base.specs.declared.ids.Side.{Side}
use Rattle.dory_base.specs.declared.ids.Side.TheVariants.{Lead, Follow as Following}
use Rattle.dory_base.specs.declared.entry.Entry.{Entry}
use Rattle.dory_base.specs.declared.entry.Change.{Change}
use Rattle.dory_base.specs.declared.entry.Change.TheVariants.{Post, Remove}
use Rattle.dory_base.specs.declared.found.Place.{Place}
use Rattle.dory_base.specs.declared.found.Sum.{Sum}
use Rattle.dory_base.specs.declared.found.Found.{Found}
use Rattle.dory_base.specs.declared.refusal.Refusal.{Refusal}
use Rattle.dory_base.specs.declared.refusal.Refusal.TheVariants.{NoFolder, ShapeWrong, Unretained, BadMember, Past, Clash, Unfinished, Unstaged, Taken, Gap, WrongRole, HistoryFull, NoEntry, NoMemory as OutOfMemory}
use Rattle.dory_fields.specs.declared.fault.FieldFault.{FieldFault}
use Rattle.dory_fields.specs.declared.fault.FieldFault.TheVariants.{CutShort, OutOfRange, NoMemory as FieldNoMemory}
use Rattle.dory_fields.specs.Reading.{◌>>=◌, Read, place, field_at, ranged, number_at, tested_at, byte_at, bits_at, many_at}
use Rattle.dory_dpf.specs.KeyBytes.{key_at}
use Rattle.dory_wire.specs.declared.message.Want.{Want}
use Rattle.dory_wire.specs.declared.message.Want.TheVariants.{Latest, Search, Which, Stage, Order, Follow}
use Rattle.dory_wire.specs.declared.message.What.{What}
use Rattle.dory_wire.specs.declared.message.What.TheVariants.{At, Found as Finds, Id, Staged, Committed, Refused}
use Rattle.dory_wire.specs.declared.message.Request.{Request}
use Rattle.dory_wire.specs.declared.message.Reply.{Reply}
use Rattle.dory_wire.specs.declared.fault.WireFault.{WireFault}
use Rattle.dory_wire.specs.declared.fault.WireFault.TheVariants.{Kind, Body, Trailing, NoMemory}
use Rattle.dory_wire.specs.Frame.{message_in}

-- a fault is the one that reading finds, and memory may run out
abbrev pub Fails : {Y : Type 0} → WireFault → Result Y WireFault → Type 0
Fails NoMemory read = Unit {0}
Fails (Kind b) read = read ≡ Err (Kind b)
Fails (Body at) read = read ≡ Err (Body at)
Fails (Trailing at) read = read ≡ Err (Trailing at)

-- unless memory runs out, a decoder gives what reading gives
abbrev pub Gives : {Y : Type 0} → Result Y WireFault → Result Y WireFault → Type 0
Gives (Ok x) read = read ≡ Ok x
Gives (Err e) read = Fails e read

-- a version or a length of a history
abbrev pub is_count : ℕ → Bool
is_count = is_in_range 0 1048576

-- the number of an entry
abbrev pub is_number : ℕ → Bool
is_number = is_in_range 1 1048576

-- the depth of a shape
abbrev pub is_depth : ℕ → Bool
is_depth = is_in_range 8 11

-- how many probes a shape has
abbrev pub is_probes : ℕ → Bool
is_probes = is_in_range 1 8

-- how many sums there are
abbrev pub is_few : ℕ → Bool
is_few = is_in_range 0 8

-- how many lines a manifest has
abbrev pub is_lines : ℕ → Bool
is_lines = is_in_range 0 4096

-- the form of keys: 1, or 2 for the shorter ones
abbrev pub is_form : ℕ → Bool
is_form = is_in_range 1 2

-- a slot from this one on
abbrev pub is_slot : ℕ → ℕ → Bool
is_slot least = is_in_range least 4095

-- what an update does: 1 posts, 2 removes
abbrev pub is_change : ℕ → Bool
is_change = is_in_range 1 2

-- a role: 0 leads, 1 follows
abbrev pub is_role : ℕ → Bool
is_role = is_in_range 0 1

-- the role of a byte
abbrev pub role_of : ℕ → Side
role_of n = if n == 0 then Lead else Following

-- an ask, which is one field
unfoldable pub ask_at : ℕ → List ℕ → Read AskId
ask_at total bytes = do
  f ← field_at 16 total bytes
  Ok (
    record {
      member = record { 0 = from_be_bytes w32 (take 4 f.0) };
      serial = from_be_bytes w64 (take 8 (drop 4 f.0));
      step = from_be_bytes w32 (drop 8 (drop 4 f.0));
    },
    f.1,
  )

-- an update's id, which is one field; its serial is at least 1
unfoldable pub id_at : ℕ → List ℕ → Read UpdateId
id_at total bytes = do
  f ← field_at 12 total bytes
  ranged total bytes (nat_le 1 (from_be_bytes w64 (drop 4 f.0))) (
    record {
      member = record { 0 = from_be_bytes w32 (take 4 f.0) };
      serial = from_be_bytes w64 (drop 4 f.0);
    },
    f.1,
  )

-- an update's id, and what is made of it
unfoldable pub named_at : {A : Type 0} → (UpdateId → A) → ℕ → List ℕ → Read A
named_at make total bytes = do
  name ← id_at total bytes
  Ok (make name.0, name.1)

-- the number of an entry and its update's id, and what is made of them
unfoldable pub numbered_at : {A : Type 0} → (ℕ → UpdateId → A) → ℕ → List ℕ → Read A
numbered_at make total bytes = do
  number ← tested_at w32 is_number total bytes
  name ← id_at total number.1
  Ok (make number.0 name.0, name.1)

-- the length of a history, and what is made of it
unfoldable pub counted_at : {A : Type 0} → (ℕ → A) → ℕ → List ℕ → Read A
counted_at make total bytes = do
  length ← tested_at w32 is_count total bytes
  Ok (make length.0, length.1)

-- what a search asks: the version, the shape, the form of the keys, and a key for each probe
unfoldable pub search_at : ℕ → List ℕ → Read Want
search_at total bytes = do
  version ← tested_at w32 is_count total bytes
  depth ← byte_at is_depth total version.1
  probes ← byte_at is_probes total depth.1
  form ← byte_at is_form total probes.1
  keys ← many_at (key_at form.0 depth.0) probes.0 total form.1
  Ok (Search version.0 (record { depth = depth.0; probes = probes.0 }) keys.0, keys.1)

-- a tag, of sixteen bytes
unfoldable pub tag_at : ℕ → List ℕ → Read ℕ
tag_at total bytes = do
  tag ← field_at 16 total bytes
  Ok (tag_number tag.0, tag.1)

-- a post: its shape, and a row and tags of that shape
unfoldable pub post_at : ℕ → List ℕ → Read Change
post_at total bytes = do
  depth ← byte_at is_depth total bytes
  probes ← byte_at is_probes total depth.1
  row ← bits_at (2 ^ depth.0) total probes.1
  tags ← many_at tag_at (2 ^ depth.0) total row.1
  Ok (Post (record { depth = depth.0; probes = probes.0 }) row.0 tags.0, tags.1)

-- what an update does, by its byte
unfoldable pub change_at : ℕ → ℕ → List ℕ → Read Change
change_at does total bytes = if does == 1 then post_at total bytes else Ok (Remove, bytes)

-- an update: its id, the document, and what it does
unfoldable pub entry_at : ℕ → List ℕ → Read Entry
entry_at total bytes = do
  name ← id_at total bytes
  doc ← number_at w32 total name.1
  does ← byte_at is_change total doc.1
  change ← change_at does.0 total does.1
  Ok (record { id = name.0; doc = record { 0 = doc.0 }; change = change.0 }, change.1)

-- the number of an entry, as what is asked
unfoldable pub which_at : ℕ → List ℕ → Read Want
which_at total bytes = do
  number ← tested_at w32 is_number total bytes
  Ok (Which number.0, number.1)

-- an update, as what is asked
unfoldable pub stage_at : ℕ → List ℕ → Read Want
stage_at total bytes = do
  e ← entry_at total bytes
  Ok (Stage e.0, e.1)

-- what is asked, by its kind
unfoldable pub want_at : ℕ → ℕ → List ℕ → Read Want
want_at kind total bytes =
    if kind == 1 then Ok (Latest, bytes)
    else (if kind == 2 then search_at total bytes
    else (if kind == 3 then which_at total bytes
    else (if kind == 4 then stage_at total bytes
    else (if kind == 5 then named_at Order total bytes
    else numbered_at Follow total bytes))))

-- a line of a manifest, whose slot is this one or a later one
unfoldable pub line_at : ℕ → ℕ → List ℕ → Read Place
line_at least total bytes = do
  slot ← tested_at w16 (is_slot least) total bytes
  doc ← number_at w32 total slot.1
  id ← id_at total doc.1
  Ok (record { slot = slot.0; doc = record { 0 = doc.0 }; id = id.0 }, id.1)

-- so many lines of a manifest, whose slots rise from this one on
unfoldable pub lines_at : ℕ → ℕ → ℕ → List ℕ → Read (List Place)
lines_at zero least total bytes = Ok ([], bytes)
lines_at (suc n) least total bytes = do
  first ← line_at least total bytes
  more ← lines_at n (first.0.slot + 1) total first.1
  Ok (first.0 ∷ more.0, more.1)

-- a sum with so many bits
unfoldable pub sum_at : ℕ → ℕ → List ℕ → Read Sum
sum_at lines total bytes = do
  bits ← bits_at lines total bytes
  tag ← tag_at total bits.1
  Ok (record { bits = bits.0; tag = tag.0 }, tag.1)

-- what a version holds
unfoldable pub found_at : ℕ → List ℕ → Read Found
found_at total bytes = do
  version ← tested_at w32 is_count total bytes
  count ← tested_at w16 is_lines total version.1
  lines ← lines_at count.0 0 total count.1
  probes ← byte_at is_few total lines.1
  sums ← many_at (sum_at count.0) probes.0 total probes.1
  Ok (record { version = version.0; manifest = lines.0; sums = sums.0 }, sums.1)

-- a shape that was wanted
unfoldable pub shape_at : ℕ → List ℕ → Read Refusal
shape_at total bytes = do
  depth ← byte_at is_depth total bytes
  probes ← byte_at is_probes total depth.1
  Ok (ShapeWrong depth.0 probes.0, probes.1)

-- the versions that are retained
unfoldable pub retained_at : ℕ → List ℕ → Read Refusal
retained_at total bytes = do
  oldest ← tested_at w32 is_count total bytes
  newest ← tested_at w32 is_count total oldest.1
  Ok (Unretained oldest.0 newest.0, newest.1)

-- a member that a folder does not have
unfoldable pub member_at : ℕ → List ℕ → Read Refusal
member_at total bytes = do
  member ← number_at w32 total bytes
  Ok (BadMember (record { 0 = member.0 }), member.1)

-- the last serial of a member
unfoldable pub past_at : ℕ → List ℕ → Read Refusal
past_at total bytes = do
  last ← number_at w64 total bytes
  Ok (Past last.0, last.1)

-- the role of the domain that was asked
unfoldable pub role_at : ℕ → List ℕ → Read Refusal
role_at total bytes = do
  role ← byte_at is_role total bytes
  Ok (WrongRole (role_of role.0), role.1)

-- the fields of a refusal whose code is 8 or above
unfoldable pub later_code_at : ℕ → ℕ → List ℕ → Read Refusal
later_code_at code total bytes =
    if code == 8 then named_at Unstaged total bytes
    else (if code == 9 then numbered_at Taken total bytes
    else (if code == 10 then counted_at Gap total bytes
    else (if code == 11 then role_at total bytes
    else (if code == 12 then Ok (HistoryFull, bytes)
    else (if code == 13 then counted_at NoEntry total bytes
    else Ok (OutOfMemory, bytes))))))

-- the fields of a refusal, by its code
unfoldable pub code_at : ℕ → ℕ → List ℕ → Read Refusal
code_at code total bytes =
    if code == 1 then Ok (NoFolder, bytes)
    else (if code == 2 then shape_at total bytes
    else (if code == 3 then retained_at total bytes
    else (if code == 4 then member_at total bytes
    else (if code == 5 then past_at total bytes
    else (if code == 6 then named_at Clash total bytes
    else (if code == 7 then named_at Unfinished total bytes
    else later_code_at code total bytes))))))

-- the codes of refusals
abbrev pub is_code : ℕ → Bool
is_code = is_in_range 1 14

-- a refusal
unfoldable pub refusal_at : ℕ → List ℕ → Read Refusal
refusal_at total bytes = do
  code ← byte_at is_code total bytes
  code_at code.0 total code.1

-- what a version holds, as what is answered
unfoldable pub holding_at : ℕ → List ℕ → Read What
holding_at total bytes = do
  f ← found_at total bytes
  Ok (Finds f.0, f.1)

-- a refusal, as what is answered
unfoldable pub refused_at : ℕ → List ℕ → Read What
refused_at total bytes = do
  code ← refusal_at total bytes
  Ok (Refused code.0, code.1)

-- what is answered, by its kind
unfoldable pub what_at : ℕ → ℕ → List ℕ → Read What
what_at kind total bytes =
    if kind == 129 then counted_at At total bytes
    else (if kind == 130 then holding_at total bytes
    else (if kind == 131 then numbered_at Id total bytes
    else (if kind == 132 then named_at Staged total bytes
    else (if kind == 133 then numbered_at Committed total bytes
    else refused_at total bytes))))

-- a fault of a field, as a message's
abbrev pub fault_of : FieldFault → WireFault
fault_of (CutShort at) = Body at
fault_of (OutOfRange at) = Body at
fault_of FieldNoMemory = NoMemory

-- what was read to the end; else a fault at the byte after the last field, or the fault of a field
abbrev pub ended : {A : Type 0} → ℕ → Read A → Result A WireFault
ended total (Ok x) = if length x.1 == 0 then Ok x.0 else Err (Trailing (place total x.1))
ended total (Err e) = Err (fault_of e)

-- a request whose kind is known
unfoldable pub request_at : ℕ → ℕ → List ℕ → Read Request
request_at kind total bytes = do
  ask ← ask_at total bytes
  folder ← number_at w32 total ask.1
  want ← want_at kind total folder.1
  Ok (record { ask = ask.0; folder = record { 0 = folder.0 }; want = want.0 }, want.1)

-- a reply whose kind is known
unfoldable pub reply_at : ℕ → ℕ → List ℕ → Read Reply
reply_at kind total bytes = do
  ask ← ask_at total bytes
  what ← what_at kind total ask.1
  Ok (record { ask = ask.0; what = what.0 }, what.1)

-- the kinds of requests
abbrev pub is_asking : ℕ → Bool
is_asking = is_in_range 1 6

-- the kinds of replies
abbrev pub is_answering : ℕ → Bool
is_answering = is_in_range 129 134

-- the request that a message is, or its first fault
unfoldable pub request_of : List ℕ → Result Request WireFault
request_of [] = Err (Body 0)
request_of (kind ∷ bytes) = if is_asking kind then ended (suc (length bytes)) (request_at kind (suc (length bytes)) bytes) else Err (Kind kind)

-- the reply that a message is, or its first fault
unfoldable pub reply_of : List ℕ → Result Reply WireFault
reply_of [] = Err (Body 0)
reply_of (kind ∷ bytes) = if is_answering kind then ended (suc (length bytes)) (reply_at kind (suc (length bytes)) bytes) else Err (Kind kind)

-- what was read, if no fault was
abbrev pub if_read : {A : Type 0} → Result A WireFault → Option A
if_read (Ok x) = Some x
if_read (Err e) = None

-- the request of a frame's message
abbrev pub request_or_none : Option (List ℕ) → Option Request
request_or_none None = None
request_or_none (Some message) = if_read (request_of message)

-- the reply of a frame's message
abbrev pub reply_or_none : Option (List ℕ) → Option Reply
reply_or_none None = None
reply_or_none (Some message) = if_read (reply_of message)

-- the request that bytes say, where they are one whole frame of a request
abbrev pub request_in : List ℕ → Option Request
request_in bytes = request_or_none (message_in bytes)

-- the reply that bytes say, where they are one whole frame of a reply
abbrev pub reply_in : List ℕ → Option Reply
reply_in bytes = reply_or_none (message_in bytes)
