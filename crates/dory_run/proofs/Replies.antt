-- What a domain replies in a world is in range, and its frame is bytes.
use Rattle.std.proofs.Common.{◌≡◌, ℕ, zero, suc, ◌+◌, ◌%◌, ◌/◌, ◌≤◌, ◌<◌, ◌^◌, Bool, true, false, cond, List, [], ◌∷◌, ◌++◌, length, map, take, drop, fold, refl, arith, subst, ltb, is_none, position}
use Rattle.std.specs.Prelude.{Option, Some, None, bit_xor, nat_le, ◌&&◌, if◌then◌else◌}
use Rattle.std.specs.List.{All, AllByRecursion, flat_map}
use Rattle.std.specs.Int.{w16, w64, to_be_bytes}
use Rattle.std.proofs.lemmas.Bool.Decides.{nat_tests}
use Rattle.std.proofs.lemmas.List.{length-map}
use Rattle.std.proofs.lemmas.List.Elements.{All-from_recursion}
use Rattle.std.proofs.lemmas.Nat.{xor_lt}
use Rattle.dory_base.specs.Dims.{Dims, IsDims, same_shape}
use Rattle.dory_base.specs.History.{IsEntryOf, version_of}
use Rattle.dory_base.specs.Step.{State, log_of}
use Rattle.dory_base.specs.Sum.{selected, sum_of, tags_of, xor_all}
use Rattle.dory_base.specs.Table.{Live, Slots, changed, emptied, has_doc, live_from, live_of, placed, step, table_of}
use Rattle.dory_base.specs.TableMeaning.{IsKept, kept_of}
use Rattle.dory_base.specs.TagBytes.{tag_bytes}
use Rattle.dory_base.specs.declared.entry.Change.{Change}
use Rattle.dory_base.specs.declared.entry.Change.TheVariants.{Post, Remove}
use Rattle.dory_base.specs.declared.entry.Entry.{Entry}
use Rattle.dory_base.specs.declared.found.Found.{Found}
use Rattle.dory_base.specs.declared.found.Place.{Place}
use Rattle.dory_base.specs.declared.found.Sum.{Sum}
use Rattle.dory_base.specs.declared.ids.AskId.{AskId}
use Rattle.dory_base.specs.declared.ids.DocId.{DocId}
use Rattle.dory_base.specs.declared.ids.Side.{Side}
use Rattle.dory_base.specs.declared.ids.Side.TheVariants as sides
use Rattle.dory_base.specs.declared.ids.UpdateId.{UpdateId}
use Rattle.dory_base.specs.declared.refusal.Refusal.{Refusal}
use Rattle.dory_base.specs.declared.refusal.Refusal.TheVariants as refusal
use Rattle.dory_base.proofs.StepLaws.{history_is}
use Rattle.dory_base.proofs.TableLaws.{kept_empty, kept_next}
use Rattle.dory_scan.specs.Found.{found_in}
use Rattle.dory_domain.specs.Held.{IsHeld}
use Rattle.dory_domain.proofs.FoundLaws.{found_is, found_range}
use Rattle.dory_domain.proofs.RangeLaws.{follow_range, order_range, stage_range, which_range}
use Rattle.dory_dpf.specs.PointKey.{PointKey, shares_of}
use Rattle.dory_fields.specs.Bytes.{IsBytes, four}
use Rattle.dory_fields.specs.Packing.{byte, bytes_of, packed, packed_len}
use Rattle.dory_wire.specs.Frame.{frame_of}
use Rattle.dory_wire.specs.Read.{found_of, oldest_of, search_of}
use Rattle.dory_wire.specs.Spelling.{IsEntry, IsFound, IsRefusal, IsReply, IsWhat, ask, found, id, line, refusal_code, refusal_fields, role_byte, spelling_of_reply, sum, what, what_kind}
use Rattle.dory_wire.specs.StepReply.{answer_of}
use Rattle.dory_wire.specs.declared.message.Reply.{Reply}
use Rattle.dory_wire.specs.declared.message.Request.{Request}
use Rattle.dory_wire.specs.declared.message.Want.{Want}
use Rattle.dory_wire.specs.declared.message.Want.TheVariants as want
use Rattle.dory_wire.specs.declared.message.What.{What}
use Rattle.dory_wire.specs.declared.message.What.TheVariants.{At, Found as Finds, Id, Staged, Committed, Refused}
use Rattle.dory_run.specs.declared.setup.Setup.{Setup}
use Rattle.dory_run.specs.Happening.{reply_to}
use Rattle.dory_run.specs.Kept.{IsAsked, IsFolder, IsWanted}
use Rattle.dory_run.specs.Law.{IsMade}
use Rattle.dory_run.proofs.Lists.{all_append, all_map}

-- ---- bytes

abbrev AllBytes : List ℕ → Type 0
AllBytes bytes = AllByRecursion (λ b. b < 256) bytes

low : (n : ℕ) → n % 256 < 256
low n = omega arith

in_list : (bytes : List ℕ) → AllBytes bytes → IsBytes bytes
in_list [] all i = omega arith
in_list (b ∷ bytes) all zero = all.0
in_list (b ∷ bytes) all (suc i) = in_list bytes all.1 i

joined : (xs ys : List ℕ) → AllBytes xs → AllBytes ys → AllBytes (xs ++ ys)
joined xs ys p q = all_append (λ b. b < 256) xs ys p q

two_bytes : (n : ℕ) → AllBytes (to_be_bytes w16 n)
two_bytes n = (low _, (low _, tt))

four_bytes : (n : ℕ) → AllBytes (four n)
four_bytes n = (low _, (low _, (low _, (low _, tt))))

eight_bytes : (n : ℕ) → AllBytes (to_be_bytes w64 n)
eight_bytes n = (low _, (low _, (low _, (low _, (low _, (low _, (low _, (low _, tt))))))))

tag_is_bytes : (n : ℕ) → AllBytes (tag_bytes n)
unfolding tag_bytes
tag_is_bytes n = joined (to_be_bytes w64 (n / 2 ^ 64)) (to_be_bytes w64 (n % 2 ^ 64)) (eight_bytes (n / 2 ^ 64)) (eight_bytes (n % 2 ^ 64))

bit_low : (b : Bool) → (if b then 1 else 0) ≤ 1
bit_low true = omega arith
bit_low false = omega arith

byte_low : (n : ℕ) (bits : List Bool) → byte (take n bits) < 2 ^ n
byte_low zero bits = omega arith
byte_low (suc n) [] = power (suc n)
  where
    power : (k : ℕ) → 0 < 2 ^ k
    power zero = omega arith
    power (suc k) = omega (arith, power k)
byte_low (suc n) (b ∷ bits) = omega (arith, bit_low b, byte_low n bits)

packed_bytes : (n : ℕ) (bits : List Bool) → AllBytes (bytes_of n bits)
packed_bytes zero bits = tt
packed_bytes (suc n) bits = (byte_low 8 bits, packed_bytes n (drop 8 bits))

ask_bytes : (a : AskId) → AllBytes (ask a)
ask_bytes a = joined (four a.member.0 ++ to_be_bytes w64 a.serial) (four a.step) (joined (four a.member.0) (to_be_bytes w64 a.serial) (four_bytes a.member.0) (eight_bytes a.serial)) (four_bytes a.step)

id_bytes : (i : UpdateId) → AllBytes (id i)
id_bytes i = joined (four i.member.0) (to_be_bytes w64 i.serial) (four_bytes i.member.0) (eight_bytes i.serial)

line_bytes : (p : Place) → AllBytes (line p)
line_bytes p = joined (to_be_bytes w16 p.slot ++ four p.doc.0) (id p.id) (joined (to_be_bytes w16 p.slot) (four p.doc.0) (two_bytes p.slot) (four_bytes p.doc.0)) (id_bytes p.id)

sum_bytes : (s : Sum) → AllBytes (sum s)
sum_bytes s = joined (packed s.bits) (tag_bytes s.tag) (packed_bytes (packed_len (length s.bits)) s.bits) (tag_is_bytes s.tag)

flat_bytes : {A : Type 0} (f : A → List ℕ) → ((x : A) → AllBytes (f x)) → (xs : List A) → AllBytes (flat_map f xs)
flat_bytes f h [] = tt
flat_bytes f h (x ∷ xs) = joined (f x) (flat_map f xs) (h x) (flat_bytes f h xs)

found_bytes : (f : Found) → IsFound f → AllBytes (found f)
found_bytes f is =
    joined ((four f.version ++ to_be_bytes w16 (length f.manifest)) ++ flat_map line f.manifest) (length f.sums ∷ flat_map sum f.sums)
    (joined (four f.version ++ to_be_bytes w16 (length f.manifest)) (flat_map line f.manifest)
    (joined (four f.version) (to_be_bytes w16 (length f.manifest)) (four_bytes f.version) (two_bytes (length f.manifest))) (flat_bytes line line_bytes f.manifest))
    (omega (arith, is.probes), flat_bytes sum sum_bytes f.sums)

role_low : (side : Side) → role_byte side < 256
role_low sides.Lead = omega arith
role_low sides.Follow = omega arith

fields_bytes : (r : Refusal) → IsRefusal r → AllBytes (refusal_fields r)
fields_bytes refusal.NoFolder is = tt
fields_bytes (refusal.ShapeWrong depth probes) is = (omega (arith, is.1), (omega (arith, is.3), tt))
fields_bytes (refusal.Unretained oldest newest) is = joined (four oldest) (four newest) (four_bytes oldest) (four_bytes newest)
fields_bytes (refusal.BadMember member) is = four_bytes member.0
fields_bytes (refusal.Past last) is = eight_bytes last
fields_bytes (refusal.Clash name) is = id_bytes name
fields_bytes (refusal.Unfinished name) is = id_bytes name
fields_bytes (refusal.Unstaged name) is = id_bytes name
fields_bytes (refusal.Taken number name) is = joined (four number) (id name) (four_bytes number) (id_bytes name)
fields_bytes (refusal.Gap length) is = four_bytes length
fields_bytes (refusal.WrongRole role) is = (role_low role, tt)
fields_bytes refusal.HistoryFull is = tt
fields_bytes (refusal.NoEntry length) is = four_bytes length
fields_bytes refusal.NoMemory is = tt

code_low : (r : Refusal) → refusal_code r < 256
code_low refusal.NoFolder = omega arith
code_low (refusal.ShapeWrong depth probes) = omega arith
code_low (refusal.Unretained oldest newest) = omega arith
code_low (refusal.BadMember member) = omega arith
code_low (refusal.Past last) = omega arith
code_low (refusal.Clash name) = omega arith
code_low (refusal.Unfinished name) = omega arith
code_low (refusal.Unstaged name) = omega arith
code_low (refusal.Taken number name) = omega arith
code_low (refusal.Gap length) = omega arith
code_low (refusal.WrongRole role) = omega arith
code_low refusal.HistoryFull = omega arith
code_low (refusal.NoEntry length) = omega arith
code_low refusal.NoMemory = omega arith

what_bytes : (w : What) → IsWhat w → AllBytes (what w)
what_bytes (At length) is = four_bytes length
what_bytes (Finds f) is = found_bytes f is
what_bytes (Id number name) is = joined (four number) (id name) (four_bytes number) (id_bytes name)
what_bytes (Staged name) is = id_bytes name
what_bytes (Committed number name) is = joined (four number) (id name) (four_bytes number) (id_bytes name)
what_bytes (Refused code) is = (code_low code, fields_bytes code is)

kind_low : (w : What) → what_kind w < 256
kind_low (At length) = omega arith
kind_low (Finds f) = omega arith
kind_low (Id number name) = omega arith
kind_low (Staged name) = omega arith
kind_low (Committed number name) = omega arith
kind_low (Refused code) = omega arith

spelled_bytes : (r : Reply) → IsReply r → AllBytes (spelling_of_reply r)
unfolding spelling_of_reply
spelled_bytes r is = (kind_low r.what, joined (ask r.ask) (what r.what) (ask_bytes r.ask) (what_bytes r.what is.what))

-- the frame of a reply in range is bytes
pub reply_bytes : (r : Reply) → IsReply r → IsBytes (frame_of (spelling_of_reply r))
reply_bytes r is = in_list (frame_of (spelling_of_reply r)) (joined (four (length (spelling_of_reply r))) (spelling_of_reply r) (four_bytes (length (spelling_of_reply r))) (spelled_bytes r is))

-- ---- what a search finds

abbrev Small : Entry → Type 0
Small e = AllByRecursion (λ t. t < 2 ^ 128) (tags_of e.change)

abbrev SmallSlot : Option Entry → Type 0
SmallSlot None = Unit {0}
SmallSlot (Some e) = Small e

small_set : (slots : Slots) (i : ℕ) (e : Entry) → Small e → AllByRecursion SmallSlot slots → AllByRecursion SmallSlot (Rattle.std.specs.Prelude.slice_set slots i (Some e))
small_set [] i e h all = tt
small_set (s ∷ slots) zero e h all = (h, all.1)
small_set (s ∷ slots) (suc i) e h all = (all.0, small_set slots i e h all.1)

small_last : (b : Bool) (slots : Slots) (e : Entry) → Small e → AllByRecursion SmallSlot slots → AllByRecursion SmallSlot (cond b (slots ++ Some e ∷ []) slots)
small_last true slots e h all = all_append SmallSlot slots (Some e ∷ []) all (h, tt)
small_last false slots e h all = all

small_placed : (e : Entry) (slots : Slots) (own empty : Option ℕ) → Small e → AllByRecursion SmallSlot slots → AllByRecursion SmallSlot (placed e slots own empty)
small_placed e slots (Some at) empty h all = small_set slots at e h all
small_placed e slots None (Some at) h all = small_set slots at e h all
small_placed e slots None None h all = small_last (ltb (length slots) 4096) slots e h all

small_emptied : (doc : DocId) (s : Option Entry) → SmallSlot s → SmallSlot (emptied doc s)
small_emptied doc None h = tt
small_emptied doc (Some e) h = by (has_doc doc (Some e))
  where
    by : (b : Bool) → SmallSlot (cond b None (Some e))
    by true = tt
    by false = h

small_changed : (e : Entry) (slots : Slots) (c : Change) → Small e → AllByRecursion SmallSlot slots → AllByRecursion SmallSlot (changed e slots c)
small_changed e slots (Post shape row tags) h all = small_placed e slots (position (has_doc e.doc) slots) (position is_none slots) h all
small_changed e slots Remove h all = by slots all
  where
    by : (xs : Slots) → AllByRecursion SmallSlot xs → AllByRecursion SmallSlot (map (emptied e.doc) xs)
    by [] p = tt
    by (x ∷ xs) p = (small_emptied e.doc x p.0, by xs p.1)

small_table : (entries : List Entry) (slots : Slots) → AllByRecursion Small entries → AllByRecursion SmallSlot slots → AllByRecursion SmallSlot (fold step slots entries)
small_table [] slots h all = all
small_table (e ∷ entries) slots h all = small_table entries (step slots e) h.1 (small_changed e slots e.change h.0 all)

small_live : (n : ℕ) (slots : Slots) → AllByRecursion SmallSlot slots → AllByRecursion (λ (l : Live). Small l.entry) (live_from n slots)
small_live n [] all = tt
small_live n (None ∷ slots) all = small_live (n + 1) slots all.1
small_live n (Some e ∷ slots) all = (all.0, small_live (n + 1) slots all.1)

small_selected : (selector : List Bool) (tags : List ℕ) → AllByRecursion (λ t. t < 2 ^ 128) tags → AllByRecursion (λ t. t < 2 ^ 128) (selected selector tags)
small_selected [] tags all = tt
small_selected (s ∷ selector) [] all = tt
small_selected (true ∷ selector) (t ∷ tags) all = (all.0, small_selected selector tags all.1)
small_selected (false ∷ selector) (t ∷ tags) all = small_selected selector tags all.1

small_flat : (selector : List Bool) (ls : List Live) → AllByRecursion (λ (l : Live). Small l.entry) ls → AllByRecursion (λ t. t < 2 ^ 128) (flat_map (λ (l : Live). selected selector (tags_of l.entry.change)) ls)
small_flat selector [] all = tt
small_flat selector (l ∷ ls) all =
    all_append (λ t. t < 2 ^ 128) (selected selector (tags_of l.entry.change)) (flat_map (λ (l : Live). selected selector (tags_of l.entry.change)) ls)
    (small_selected selector (tags_of l.entry.change) all.0) (small_flat selector ls all.1)

small_xor : (tags : List ℕ) → AllByRecursion (λ t. t < 2 ^ 128) tags → xor_all tags < 2 ^ 128
small_xor [] all = omega arith
small_xor (t ∷ tags) all = xor_lt 128 t (xor_all tags) all.0 (small_xor tags all.1)

small_sums : (slots : Slots) → AllByRecursion SmallSlot slots → (selectors : List (List Bool)) → AllByRecursion (λ (s : Sum). s.tag < 2 ^ 128) (map (sum_of slots) selectors)
small_sums slots all [] = tt
small_sums slots all (s ∷ selectors) =
    (small_xor (flat_map (λ (l : Live). selected s (tags_of l.entry.change)) (live_of slots)) (small_flat s (live_of slots) (small_live 0 slots all)), small_sums slots all selectors)

table_kept : (shape : Dims) (entries : List Entry) (n : ℕ) (slots : Slots) → IsKept (record { shape = shape; number = n; slots = slots }) → AllByRecursion (IsEntryOf shape) entries
    → IsKept (record { shape = shape; number = n + length entries; slots = fold step slots entries })
table_kept shape [] n slots h all = record { dims = h.dims; few = h.few; posts = h.posts }
table_kept shape (e ∷ entries) n slots h all =
    let k = table_kept shape entries (n + 1) (step slots e) (kept_next (record { shape = shape; number = n; slots = slots }) e h all.0.change) all.1 in
    record { dims = k.dims; few = k.few; posts = k.posts }

taken : {A : Type 0} (P : A → Type 0) (n : ℕ) (xs : List A) → AllByRecursion P xs → AllByRecursion P (take n xs)
taken P zero xs all = tt
taken P (suc n) [] all = tt
taken P (suc n) (x ∷ xs) all = (all.0, taken P n xs all.1)

change_small : (c : Change) → Rattle.dory_wire.specs.Spelling.IsChange c → AllByRecursion (λ t. t < 2 ^ 128) (tags_of c)
change_small (Post shape row tags) is = is.wide
change_small Remove is = tt

-- what an honest domain finds is in range
found_ranged : (f : State) (number : ℕ) (keys : List PointKey) → Rattle.dory_base.specs.Step.IsState f → IsDims f.shape → AllByRecursion Rattle.dory_domain.specs.Held.IsNamed f.history → AllByRecursion IsEntry f.history
    → number ≤ length f.history → length keys ≤ 8 → IsFound (found_of f.history number keys)
found_ranged f number keys is dims named entries le few =
    let shape = f.shape in
    let part = version_of number f.history in
    let table = kept_of shape part in
    let k = table_kept shape part 0 [] (kept_empty shape dims) (taken (IsEntryOf shape) number f.history is.entries) in
    let kept : IsKept table = record { dims = k.dims; few = k.few; posts = k.posts } in
    let small : AllByRecursion Small part = taken Small number f.history (all_map IsEntry Small f.history (λ e i. change_small e.change i.change) entries) in
    let slots : AllByRecursion SmallSlot (table_of part) = small_table part [] small tt in
    let selectors = map shares_of keys in
    let tags = All-from_recursion (λ (s : Sum). s.tag < 2 ^ 128) (map (sum_of (table_of part)) selectors) (small_sums (table_of part) slots selectors) in
    let range = found_range f number table selectors (found_in table selectors) is named le refl kept (omega (arith, few, length-map keys shares_of)) refl tags in
    subst IsFound (found_is f.history number keys table selectors le refl refl) range

-- ---- what a domain answers

in_range : (a b c : ℕ) → (nat_le a b && nat_le b c) ≡ true → b ≤ c
in_range a b c h = grind (arith, nat_tests)

search_ranged : (f : State) (number : ℕ) (asked : Dims) (keys : List PointKey) → 1 ≤ f.retained → length f.history ≤ 1048576 → IsDims f.shape → (number ≤ length f.history → IsFound (found_of f.history number keys))
    → IsWhat (search_of f.shape f.retained f.history number asked keys)
search_ranged f number asked keys some few dims finds = by (same_shape asked f.shape)
  where
    oldest : (n r : ℕ) → n ≤ 1048576 → 1 ≤ r → oldest_of r n ≤ 1048576
    oldest n r p q = omega (arith, p, q)

    inner : (b : Bool) → (nat_le (oldest_of f.retained (length f.history)) number && nat_le number (length f.history)) ≡ b
        → IsWhat (cond b (Finds (found_of f.history number keys)) (Refused (refusal.Unretained (oldest_of f.retained (length f.history)) (length f.history))))
    inner true e = finds (in_range (oldest_of f.retained (length f.history)) number (length f.history) e)
    inner false e = (oldest (length f.history) f.retained few some, few)

    by : (b : Bool) → IsWhat (cond b (cond (nat_le (oldest_of f.retained (length f.history)) number && nat_le number (length f.history)) (Finds (found_of f.history number keys)) (Refused (refusal.Unretained (oldest_of f.retained (length f.history)) (length f.history)))) (Refused (refusal.ShapeWrong f.shape.depth f.shape.probes)))
    by true = inner (nat_le (oldest_of f.retained (length f.history)) number && nat_le number (length f.history)) refl
    by false = (dims.low, dims.high, dims.some, dims.few)

what_ranged : (s : Setup) (made : List Entry) (f : State) (w : Want) → IsFolder s made f → IsWanted made w → ((e : Entry) → IsMade made e → IsEntry e) → IsWhat (answer_of f w)
what_ranged s made f want.Latest g h r = (history_is f g.held.state).few
what_ranged s made f (want.Search version shape keys) g h r =
    search_ranged f version shape keys g.held.some (history_is f g.held.state).few g.held.dims
    (λ le. found_ranged f version keys g.held.state g.held.dims g.held.named (all_map (IsMade made) IsEntry f.history r g.history) le h)
what_ranged s made f (want.Which number) g h r = which_range (log_of f) number g.held.state.log h
what_ranged s made f (want.Stage e) g h r = stage_range (log_of f) e g.held.state.log g.held.dims (r e h).id
what_ranged s made f (want.Order name) g h r = order_range (log_of f) name g.held.state.log h
what_ranged s made f (want.Follow number name) g h r = follow_range (log_of f) number name g.held.state.log h.0 h.1

pub reply_is : (s : Setup) (made : List Entry) (f : State) (request : Request) → IsFolder s made f → IsAsked s made request → ((e : Entry) → IsMade made e → IsEntry e) → IsReply (reply_to f request)
reply_is s made f request g h r = record { ask = h.ask; what = what_ranged s made f request.want g h.want r }
