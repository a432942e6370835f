-- The one spelling of each message, and the ranges of its fields. Numbers are written with the highest byte first.
use Rattle.std.specs.Prelude.{ℕ, ◌≡◌, ◌<◌, ◌≤◌, ◌^◌, Bool, List, [], ◌∷◌, ◌++◌, length, map}
use Rattle.std.specs.List.{flat_map, AllByRecursion}
use Rattle.std.specs.List.Sorted.{IsStrictlyIncreasing}
use Rattle.std.specs.Int.{w16, w64, to_be_bytes}
use Rattle.dory_base.specs.Dims.{Dims, IsDims}
use Rattle.dory_base.specs.TagBytes.{tag_bytes}
use Rattle.dory_base.specs.declared.ids.AskId.{AskId}
use Rattle.dory_base.specs.declared.ids.UpdateId.{UpdateId}
use Rattle.dory_base.specs.declared.ids.Side.{Side}
use Rattle.dory_base.specs.declared.ids.Side.TheVariants.{Lead, Follow as Following}
use Rattle.dory_base.specs.declared.entry.Entry.{Entry}
use Rattle.dory_base.specs.declared.entry.Change.{Change}
use Rattle.dory_base.specs.declared.entry.Change.TheVariants.{Post, Remove}
use Rattle.dory_base.specs.History.{IsChangeOf}
use Rattle.dory_base.specs.declared.found.Place.{Place}
use Rattle.dory_base.specs.declared.found.Sum.{Sum}
use Rattle.dory_base.specs.declared.found.Found.{Found}
use Rattle.dory_base.specs.declared.refusal.Refusal.{Refusal}
use Rattle.dory_base.specs.declared.refusal.Refusal.TheVariants.{NoFolder, ShapeWrong, Unretained, BadMember, Past, Clash, Unfinished, Unstaged, Taken, Gap, WrongRole, HistoryFull, NoEntry, NoMemory}
use Rattle.dory_fields.specs.Bytes.{four}
use Rattle.dory_fields.specs.Packing.{packed}
use Rattle.dory_dpf.specs.PointKey.{PointKey, IsKeyOf, form_of}
use Rattle.dory_dpf.specs.KeyBytes.{bytes_of_key}
use Rattle.dory_wire.specs.declared.message.Want.{Want}
use Rattle.dory_wire.specs.declared.message.Want.TheVariants.{Latest, Search, Which, Stage, Order, Follow}
use Rattle.dory_wire.specs.declared.message.What.{What}
use Rattle.dory_wire.specs.declared.message.What.TheVariants.{At, Found as Finds, Id, Staged, Committed, Refused}
use Rattle.dory_wire.specs.declared.message.Request.{Request}
use Rattle.dory_wire.specs.declared.message.Reply.{Reply}

-- an ask: the member, the serial and the step
abbrev pub ask : AskId → List ℕ
ask a = four a.member.0 ++ to_be_bytes w64 a.serial ++ four a.step

-- an update's id: the member and the serial
abbrev pub id : UpdateId → List ℕ
id i = four i.member.0 ++ to_be_bytes w64 i.serial

-- a line of a manifest
abbrev pub line : Place → List ℕ
line p = to_be_bytes w16 p.slot ++ four p.doc.0 ++ id p.id

-- a domain's answer to one probe
abbrev pub sum : Sum → List ℕ
sum s = packed s.bits ++ tag_bytes s.tag

-- what a version holds: its number, the lines and the sums, each with their count before them
abbrev pub found : Found → List ℕ
found f = four f.version ++ to_be_bytes w16 (length f.manifest) ++ flat_map line f.manifest ++ length f.sums ∷ flat_map sum f.sums

-- what an update does: 1 and a post's shape, row and tags, or 2
abbrev pub change : Change → List ℕ
change (Post shape row tags) = 1 ∷ shape.depth ∷ shape.probes ∷ packed row ++ flat_map tag_bytes tags
change Remove = 2 ∷ []

-- an update: its id, the document, and what it does
abbrev pub entry : Entry → List ℕ
entry e = id e.id ++ four e.doc.0 ++ change e.change

-- the byte of a role
abbrev pub role_byte : Side → ℕ
role_byte Lead = 0
role_byte Following = 1

-- the code of a refusal
abbrev pub refusal_code : Refusal → ℕ
refusal_code NoFolder = 1
refusal_code (ShapeWrong depth probes) = 2
refusal_code (Unretained oldest newest) = 3
refusal_code (BadMember member) = 4
refusal_code (Past last) = 5
refusal_code (Clash name) = 6
refusal_code (Unfinished name) = 7
refusal_code (Unstaged name) = 8
refusal_code (Taken number name) = 9
refusal_code (Gap length) = 10
refusal_code (WrongRole role) = 11
refusal_code HistoryFull = 12
refusal_code (NoEntry length) = 13
refusal_code NoMemory = 14

-- what a refusal says, after its code
abbrev pub refusal_fields : Refusal → List ℕ
refusal_fields NoFolder = []
refusal_fields (ShapeWrong depth probes) = depth ∷ probes ∷ []
refusal_fields (Unretained oldest newest) = four oldest ++ four newest
refusal_fields (BadMember member) = four member.0
refusal_fields (Past last) = to_be_bytes w64 last
refusal_fields (Clash name) = id name
refusal_fields (Unfinished name) = id name
refusal_fields (Unstaged name) = id name
refusal_fields (Taken number name) = four number ++ id name
refusal_fields (Gap length) = four length
refusal_fields (WrongRole role) = role_byte role ∷ []
refusal_fields HistoryFull = []
refusal_fields (NoEntry length) = four length
refusal_fields NoMemory = []

-- a refusal: its code, and what it says
abbrev pub refusal : Refusal → List ℕ
refusal r = refusal_code r ∷ refusal_fields r

-- the first byte of a request's message
abbrev pub want_kind : Want → ℕ
want_kind Latest = 1
want_kind (Search version shape keys) = 2
want_kind (Which number) = 3
want_kind (Stage e) = 4
want_kind (Order name) = 5
want_kind (Follow number name) = 6

-- the form of a search's keys, which is that of the first
abbrev pub form_of_keys : List PointKey → ℕ
form_of_keys [] = 2
form_of_keys (key ∷ keys) = form_of key

-- what is asked, after the folder
abbrev pub want : Want → List ℕ
want Latest = []
want (Search version shape keys) = four version ++ shape.depth ∷ shape.probes ∷ form_of_keys keys ∷ flat_map bytes_of_key keys
want (Which number) = four number
want (Stage e) = entry e
want (Order name) = id name
want (Follow number name) = four number ++ id name

-- the first byte of a reply's message
abbrev pub what_kind : What → ℕ
what_kind (At length) = 129
what_kind (Finds f) = 130
what_kind (Id number name) = 131
what_kind (Staged name) = 132
what_kind (Committed number name) = 133
what_kind (Refused code) = 134

-- what is answered, after the ask
abbrev pub what : What → List ℕ
what (At length) = four length
what (Finds f) = found f
what (Id number name) = four number ++ id name
what (Staged name) = id name
what (Committed number name) = four number ++ id name
what (Refused code) = refusal code

-- a request's message
unfoldable pub spelling_of_request : Request → List ℕ
spelling_of_request r = want_kind r.want ∷ ask r.ask ++ four r.folder.0 ++ want r.want

-- a reply's message
unfoldable pub spelling_of_reply : Reply → List ℕ
spelling_of_reply r = what_kind r.what ∷ ask r.ask ++ what r.what

-- the ranges of an ask
pub record IsAsk (a : AskId) : Type 0 where
  pub member : a.member.0 < 2 ^ 32
  pub serial : a.serial < 2 ^ 64
  pub step : a.step < 2 ^ 32

-- the ranges of an update's id
pub record IsId (i : UpdateId) : Type 0 where
  pub member : i.member.0 < 2 ^ 32
  pub some : 1 ≤ i.serial
  pub serial : i.serial < 2 ^ 64

-- the number of an entry, from 1
pub record IsNumber (n : ℕ) : Type 0 where
  pub some : 1 ≤ n
  pub few : n ≤ 1048576

-- the ranges of a manifest's line
pub record IsLine (p : Place) : Type 0 where
  pub slot : p.slot < 4096
  pub doc : p.doc.0 < 2 ^ 32
  pub member : p.id.member.0 < 2 ^ 32
  pub some : 1 ≤ p.id.serial
  pub serial : p.id.serial < 2 ^ 64

-- a bit for each line, and a tag of sixteen bytes
pub record IsSum (lines : ℕ) (s : Sum) : Type 0 where
  pub bits : length s.bits ≡ lines
  pub tag : s.tag < 2 ^ 128

-- the ranges of what a version holds
pub record IsFound (f : Found) : Type 0 where
  pub version : f.version ≤ 1048576
  pub lines : AllByRecursion IsLine f.manifest
  pub rising : IsStrictlyIncreasing (map (λ p. p.slot) f.manifest)
  pub many : length f.manifest ≤ 4096
  pub probes : length f.sums ≤ 8
  pub sums : AllByRecursion (IsSum (length f.manifest)) f.sums

-- as many keys as probes, all of one form and of the row's depth
pub record AreKeys (shape : Dims) (keys : List PointKey) : Type 0 where
  pub many : length keys ≡ shape.probes
  pub each : AllByRecursion (IsKeyOf (form_of_keys keys) shape.depth) keys

-- the ranges of a post: a row and tags of its own shape, each tag of sixteen bytes
pub record IsPost (shape : Dims) (row : List Bool) (tags : List ℕ) : Type 0 where
  pub dims : IsDims shape
  pub cells : IsChangeOf shape (Post shape row tags)
  pub wide : AllByRecursion (λ t. t < 2 ^ 128) tags

-- the ranges of what an update does
abbrev pub IsChange : Change → Type 0
IsChange (Post shape row tags) = IsPost shape row tags
IsChange Remove = Unit {0}

-- the ranges of an update
pub record IsEntry (e : Entry) : Type 0 where
  pub id : IsId e.id
  pub doc : e.doc.0 < 2 ^ 32
  pub change : IsChange e.change

-- the ranges of what is asked
abbrev pub IsWant : Want → Type 0
IsWant Latest = Unit {0}
IsWant (Search version shape keys) = (version ≤ 1048576) × IsDims shape × AreKeys shape keys
IsWant (Which number) = IsNumber number
IsWant (Stage e) = IsEntry e
IsWant (Order name) = IsId name
IsWant (Follow number name) = IsNumber number × IsId name

-- the ranges of a refusal
abbrev pub IsRefusal : Refusal → Type 0
IsRefusal NoFolder = Unit {0}
IsRefusal (ShapeWrong depth probes) = (8 ≤ depth) × (depth ≤ 11) × (1 ≤ probes) × (probes ≤ 8)
IsRefusal (Unretained oldest newest) = (oldest ≤ 1048576) × (newest ≤ 1048576)
IsRefusal (BadMember member) = member.0 < 2 ^ 32
IsRefusal (Past last) = last < 2 ^ 64
IsRefusal (Clash name) = IsId name
IsRefusal (Unfinished name) = IsId name
IsRefusal (Unstaged name) = IsId name
IsRefusal (Taken number name) = IsNumber number × IsId name
IsRefusal (Gap length) = length ≤ 1048576
IsRefusal (WrongRole role) = Unit {0}
IsRefusal HistoryFull = Unit {0}
IsRefusal (NoEntry length) = length ≤ 1048576
IsRefusal NoMemory = Unit {0}

-- the ranges of what is answered
abbrev pub IsWhat : What → Type 0
IsWhat (At length) = length ≤ 1048576
IsWhat (Finds f) = IsFound f
IsWhat (Id number name) = IsNumber number × IsId name
IsWhat (Staged name) = IsId name
IsWhat (Committed number name) = IsNumber number × IsId name
IsWhat (Refused code) = IsRefusal code

-- a request that has a message
pub record IsRequest (r : Request) : Type 0 where
  pub ask : IsAsk r.ask
  pub folder : r.folder.0 < 2 ^ 32
  pub want : IsWant r.want

-- a reply that has a message
pub record IsReply (r : Reply) : Type 0 where
  pub ask : IsAsk r.ask
  pub what : IsWhat r.what
