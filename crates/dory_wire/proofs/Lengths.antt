-- How long messages are, and that an encoder's frame is read back.
use Rattle.std.proofs.Common.{◌≡◌, ◌∙◌, ℕ, suc, ◌*◌, ◌≤◌, List, [], ◌∷◌, ◌++◌, length, Some, Result, Ok, Err, refl, ap, arith, Option, None}
use Rattle.std.specs.Prelude.{IfOk}
use Rattle.std.specs.Global.{Vec}
use Rattle.std.specs.List.{flat_map, AllByRecursion}
use Rattle.std.specs.Int.{w16, to_be_bytes}
use Rattle.std.proofs.lemmas.List.{length-append}
use Rattle.std.proofs.lemmas.List.Concat.{flat_map-cons}
use Rattle.dory_base.specs.TagBytes.{tag_bytes}
use Rattle.dory_base.specs.declared.entry.Entry.{Entry}
use Rattle.dory_base.specs.declared.entry.Change.{Change}
use Rattle.dory_base.specs.declared.entry.Change.TheVariants.{Post, Remove}
use Rattle.dory_base.specs.declared.found.Place.{Place}
use Rattle.dory_base.specs.declared.found.Sum.{Sum}
use Rattle.dory_base.specs.declared.found.Found.{Found}
use Rattle.dory_base.specs.declared.refusal.Refusal.{Refusal}
use Rattle.dory_base.specs.declared.refusal.Refusal.TheVariants.{NoFolder, ShapeWrong, Unretained, BadMember, Past, Clash, Unfinished, Unstaged, Taken, Gap, WrongRole, HistoryFull, NoEntry, NoMemory}
use Rattle.dory_dpf.specs.PointKey.{PointKey, IsKey, IsKeyOf, form_with, last_bytes, last_len, levels_of}
use Rattle.dory_dpf.specs.KeyBytes.{bytes_of_key, correction_bytes}
use Rattle.dory_dpf.proofs.Spelled.{length-corrections}
use Rattle.dory_fields.specs.Bytes.{four}
use Rattle.dory_fields.specs.Packing.{packed}
use Rattle.dory_fields.proofs.Packing.{length-packed}
use Rattle.dory_wire.specs.declared.message.Want.{Want}
use Rattle.dory_wire.specs.declared.message.Want.TheVariants.{Latest, Search, Which, Stage, Order, Follow}
use Rattle.dory_wire.specs.declared.message.What.{What}
use Rattle.dory_wire.specs.declared.message.What.TheVariants.{At, Found as Finds, Id, Staged, Committed, Refused}
use Rattle.dory_wire.specs.declared.message.Request.{Request}
use Rattle.dory_wire.specs.declared.message.Reply.{Reply}
use Rattle.dory_wire.specs.Frame.{frame_of}
use Rattle.dory_wire.specs.Spelling.{ask, id, line, sum, found, change, entry, refusal_fields, want, what, spelling_of_request, spelling_of_reply, form_of_keys, IsSum, IsFound, IsChange, IsEntry, IsWant, IsWhat, IsRequest, IsReply}
use Rattle.dory_wire.specs.Reading.{request_in, request_or_none, reply_in, reply_or_none, if_read}
use Rattle.dory_wire.proofs.Ranges.{narrow}
use Rattle.dory_wire.proofs.Fields.{length-tag_bytes}
use Rattle.dory_wire.proofs.FrameLaws.{message_in_frame}
use Rattle.dory_wire.proofs.RequestLaws.{read_again_request}
use Rattle.dory_wire.proofs.ReplyLaws.{read_again_reply}

-- a key has a correction for each level, at most eleven
few_levels : (word : Option (List ℕ)) (depth : ℕ) → depth ≤ 11 → levels_of (form_with word) depth ≤ 11
few_levels None depth high = high
few_levels (Some word) depth high = omega arith

few_last : (word : Option (List ℕ)) → last_len (form_with word) ≤ 16
few_last None = omega arith
few_last (Some word) = omega arith

short_key : (k : PointKey) → IsKey k → length (bytes_of_key k) ≤ 300
unfolding bytes_of_key
short_key k is =
    let flat = flat_map correction_bytes k.corrections in
    let last = last_bytes k.last in
    omega (arith, length-append (k.seed ++ flat) last, length-append k.seed flat, is.seed, length-corrections k.corrections is.whole, is.levels, few_levels k.last k.depth is.high, is.last, few_last k.last)

short_keys : (form depth : ℕ) (ks : List PointKey) → AllByRecursion (IsKeyOf form depth) ks → length (flat_map bytes_of_key ks) ≤ 300 * length ks
short_keys form depth [] are = omega arith
short_keys form depth (k ∷ ks) are =
    let e : length (flat_map bytes_of_key (k ∷ ks)) ≡ length (bytes_of_key k ++ flat_map bytes_of_key ks) = ap length (flat_map-cons bytes_of_key k ks) in
    omega (arith, e, length-append (bytes_of_key k) (flat_map bytes_of_key ks), short_key k are.0.key, short_keys form depth ks are.1)

length-line : (p : Place) → length (line p) ≡ 18
length-line p = refl

length-lines : (ps : List Place) → length (flat_map line ps) ≡ 18 * length ps
length-lines [] = refl
length-lines (p ∷ ps) = ap length (flat_map-cons line p ps) ∙ omega (arith, length-append (line p) (flat_map line ps), length-line p, length-lines ps)

short_sum : (n : ℕ) (s : Sum) → n ≤ 4096 → IsSum n s → length (sum s) ≤ 528
short_sum n s few is = omega (arith, length-append (packed s.bits) (tag_bytes s.tag), length-packed s.bits, length-tag_bytes s.tag, is.bits)

short_sums : (n : ℕ) (ss : List Sum) → n ≤ 4096 → AllByRecursion (IsSum n) ss → length (flat_map sum ss) ≤ 528 * length ss
short_sums n [] few are = omega arith
short_sums n (s ∷ ss) few are =
    let e : length (flat_map sum (s ∷ ss)) ≡ length (sum s ++ flat_map sum ss) = ap length (flat_map-cons sum s ss) in
    omega (arith, e, length-append (sum s) (flat_map sum ss), short_sum n s few are.0, short_sums n ss few are.1)

short_found : (f : Found) → IsFound f → length (found f) ≤ 90000
short_found f is =
    let rest = length f.sums ∷ flat_map sum f.sums in
    let lines = flat_map line f.manifest in
    let front = four f.version ++ to_be_bytes w16 (length f.manifest) in
    let tail : length rest ≡ suc (length (flat_map sum f.sums)) = refl in
    let six : length front ≡ 6 = refl in
    omega (arith, length-append (front ++ lines) rest, length-append front lines, six, tail, length-lines f.manifest, short_sums (length f.manifest) f.sums is.many is.sums, is.many, is.probes)

short_fields : (r : Refusal) → length (refusal_fields r) ≤ 16
short_fields NoFolder = omega arith
short_fields (ShapeWrong depth probes) = omega arith
short_fields (Unretained oldest newest) = omega arith
short_fields (BadMember member) = omega arith
short_fields (Past last) = omega arith
short_fields (Clash name) = omega arith
short_fields (Unfinished name) = omega arith
short_fields (Unstaged name) = omega arith
short_fields (Taken number name) = omega arith
short_fields (Gap n) = omega arith
short_fields (WrongRole role) = omega arith
short_fields HistoryFull = omega arith
short_fields (NoEntry n) = omega arith
short_fields NoMemory = omega arith

length-tags : (ts : List ℕ) → length (flat_map tag_bytes ts) ≡ 16 * length ts
length-tags [] = refl
length-tags (t ∷ ts) = ap length (flat_map-cons tag_bytes t ts) ∙ omega (arith, length-append (tag_bytes t) (flat_map tag_bytes ts), length-tag_bytes t, length-tags ts)

short_change : (c : Change) → IsChange c → length (change c) ≤ 40000
short_change (Post shape row tags) is =
    let n = narrow shape.depth is.dims.high in
    omega (arith, length-append (packed row) (flat_map tag_bytes tags), length-packed row, length-tags tags, is.cells.row, is.cells.tags_are, n)
short_change Remove is = omega arith

short_entry : (e : Entry) → IsEntry e → length (entry e) ≤ 50000
short_entry e is =
    let front = id e.id ++ four e.doc.0 in
    let sixteen : length front ≡ 16 = refl in
    omega (arith, length-append front (change e.change), sixteen, short_change e.change is.change)

short_what : (w : What) → IsWhat w → length (what w) ≤ 90000
short_what (At n) is = omega arith
short_what (Finds f) is = short_found f is
short_what (Id number name) is = omega arith
short_what (Staged name) is = omega arith
short_what (Committed number name) is = omega arith
short_what (Refused code) is = omega (arith, short_fields code)

short_want : (w : Want) → IsWant w → length (want w) ≤ 90000
short_want Latest is = omega arith
short_want (Search version shape keys) is =
    let flat = flat_map bytes_of_key keys in
    let four_bytes : length (four version) ≡ 4 = refl in
    omega (arith, four_bytes, length-append (four version) (shape.depth ∷ shape.probes ∷ form_of_keys keys ∷ flat), short_keys (form_of_keys keys) shape.depth keys is.2.each, is.2.many, is.1.few)
short_want (Which number) is = omega arith
short_want (Stage e) is = omega (arith, short_entry e is)
short_want (Order name) is = omega arith
short_want (Follow number name) is = omega arith

-- a message's length is that of a frame
pub request_short : (r : Request) → IsRequest r → length (spelling_of_request r) ≤ 1048576
unfolding spelling_of_request
request_short r is =
    let front = ask r.ask ++ four r.folder.0 in
    let twenty : length front ≡ 20 = refl in
    omega (arith, length-append front (want r.want), twenty, short_want r.want is.want)

pub reply_short : (r : Reply) → IsReply r → length (spelling_of_reply r) ≤ 1048576
unfolding spelling_of_reply
reply_short r is =
    let sixteen : length (ask r.ask) ≡ 16 = refl in
    omega (arith, length-append (ask r.ask) (what r.what), sixteen, short_what r.what is.what)

request_some : (r : Request) → 1 ≤ length (spelling_of_request r)
unfolding spelling_of_request
request_some r = omega arith

reply_some : (r : Reply) → 1 ≤ length (spelling_of_reply r)
unfolding spelling_of_reply
reply_some r = omega arith

pub request_read_back : (r : Request) → IsRequest r → request_in (frame_of (spelling_of_request r)) ≡ Some r
request_read_back r is = ap request_or_none (message_in_frame (spelling_of_request r) (request_some r) (request_short r is)) ∙ ap if_read (read_again_request r is)

pub reply_read_back : (r : Reply) → IsReply r → reply_in (frame_of (spelling_of_reply r)) ≡ Some r
reply_read_back r is = ap reply_or_none (message_in_frame (spelling_of_reply r) (reply_some r) (reply_short r is)) ∙ ap if_read (read_again_reply r is)

-- so is what a call gives that gives the frame
pub request_reads : {E : Type 0} (m : List ℕ) (r : Request) (result : Result (Vec ℕ) E) → m ≡ spelling_of_request r → IsRequest r → IfOk result (λ f. f.items ≡ frame_of m) → IfOk result (λ f. request_in f.items ≡ Some r)
request_reads m r (Ok f) spelled is given = ap request_in given ∙ ap (λ (x : List ℕ). request_in (frame_of x)) spelled ∙ request_read_back r is
request_reads m r (Err e) spelled is given = tt

pub reply_reads : {E : Type 0} (m : List ℕ) (r : Reply) (result : Result (Vec ℕ) E) → m ≡ spelling_of_reply r → IsReply r → IfOk result (λ f. f.items ≡ frame_of m) → IfOk result (λ f. reply_in f.items ≡ Some r)
reply_reads m r (Ok f) spelled is given = ap reply_in given ∙ ap (λ (x : List ℕ). reply_in (frame_of x)) spelled ∙ reply_read_back r is
reply_reads m r (Err e) spelled is given = tt
