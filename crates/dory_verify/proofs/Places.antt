-- The place of a fault lies within the message, so it has a place in the frame.
use Rattle.std.proofs.Common.{◌≡◌, ℕ, zero, suc, ◌+◌, ◌≤◌, Bool, true, false, cond, List, [], ◌∷◌, length, Result, Ok, Err, subst, arith}
use Rattle.std.specs.Prelude.{nat_lt, ◌==◌}
use Rattle.dory_base.specs.declared.ids.UpdateId.{UpdateId}
use Rattle.std.specs.Int.{Width, w16, w32, w64, byte_len}
use Rattle.dory_fields.specs.Packing.{packed_len}
use Rattle.dory_fields.specs.declared.fault.FieldFault.{FieldFault}
use Rattle.dory_fields.specs.declared.fault.FieldFault.TheVariants.{CutShort}
use Rattle.dory_fields.specs.Reading.{Read, many_at, ◌>>=◌, place, field_at, ranged, number_at, tested_at, byte_at, bits_at}
use Rattle.dory_wire.specs.declared.fault.WireFault.{WireFault}
use Rattle.dory_wire.specs.declared.fault.WireFault.TheVariants.{Kind, Body, Trailing, NoMemory}
use Rattle.dory_wire.specs.Reading.{tag_at, fault_of, Fails, ask_at, id_at, line_at, lines_at, sum_at, found_at, shape_at, retained_at, member_at, past_at, role_at, named_at, numbered_at, counted_at, later_code_at, code_at, refusal_at, holding_at, refused_at, what_at, ended, reply_at, reply_of, is_answering, is_count, is_lines, is_few, is_depth, is_probes, is_code, is_slot, is_number, is_role}

-- the fault names a place within so many bytes, or none
abbrev pub IsPlaced : ℕ → WireFault → Type 0
IsPlaced total (Kind b) = Unit {0}
IsPlaced total (Body at) = at ≤ total
IsPlaced total (Trailing at) = at ≤ total
IsPlaced total NoMemory = Unit {0}

-- so does the fault of what was read
abbrev pub IsNear : {A : Type 0} → ℕ → Result A FieldFault → Type 0
IsNear total (Ok x) = Unit {0}
IsNear total (Err e) = IsPlaced total (fault_of e)

-- so does the fault of a message
abbrev IsPlacedBy : {A : Type 0} → ℕ → Result A WireFault → Type 0
IsPlacedBy total (Ok x) = Unit {0}
IsPlacedBy total (Err e) = IsPlaced total e

near_then : {A B : Type 0} (total : ℕ) (r : Result A FieldFault) (f : A → Result B FieldFault) → IsNear total r → ((x : A) → IsNear total (f x)) → IsNear total (r >>= f)
near_then total (Ok x) f h each = each x
near_then total (Err e) f h each = h

near_if : {A : Type 0} (total : ℕ) (b : Bool) (x y : Result A FieldFault) → IsNear total x → IsNear total y → IsNear total (cond b x y)
near_if total true x y p q = p
near_if total false x y p q = q

near_ranged : {A : Type 0} (total : ℕ) (bytes : List ℕ) (b : Bool) (x : A) → IsNear total (ranged total bytes b x)
near_ranged total bytes true x = tt
near_ranged total bytes false x = omega arith

near_field : (n total : ℕ) (bytes : List ℕ) → IsNear total (field_at n total bytes)
near_field n total bytes = near_if total (nat_lt (length bytes) n) (Err (CutShort (place total bytes))) _ (omega arith) tt

near_number : (w : Width) (total : ℕ) (bytes : List ℕ) → IsNear total (number_at w total bytes)
unfolding number_at
near_number w total bytes = near_if total (nat_lt (length bytes) (byte_len w)) (Err (CutShort (place total bytes))) _ (omega arith) tt

near_tested : (w : Width) (test : ℕ → Bool) (total : ℕ) (bytes : List ℕ) → IsNear total (tested_at w test total bytes)
unfolding tested_at
near_tested w test total bytes = near_then total (number_at w total bytes) _ (near_number w total bytes) (λ n. near_ranged total bytes (test n.0) n)

near_byte : (test : ℕ → Bool) (total : ℕ) (bytes : List ℕ) → IsNear total (byte_at test total bytes)
unfolding byte_at
near_byte test total [] = omega arith
near_byte test total (b ∷ rest) = near_ranged total (b ∷ rest) (test b) (b, rest)

near_ask : (total : ℕ) (bytes : List ℕ) → IsNear total (ask_at total bytes)
unfolding ask_at
near_ask total bytes = near_then total (field_at 16 total bytes) _ (near_field 16 total bytes) (λ f. tt)

near_id : (total : ℕ) (bytes : List ℕ) → IsNear total (id_at total bytes)
unfolding id_at
near_id total bytes = near_then total (field_at 12 total bytes) _ (near_field 12 total bytes) (λ f. near_ranged total bytes _ _)

near_line : (least total : ℕ) (bytes : List ℕ) → IsNear total (line_at least total bytes)
unfolding line_at
near_line least total bytes =
    near_then total (tested_at w16 (is_slot least) total bytes) _ (near_tested w16 (is_slot least) total bytes) (λ slot.
    near_then total (number_at w32 total slot.1) _ (near_number w32 total slot.1) (λ doc.
    near_then total (id_at total doc.1) _ (near_id total doc.1) (λ id. tt)))

near_lines : (n least total : ℕ) (bytes : List ℕ) → IsNear total (lines_at n least total bytes)
unfolding lines_at
near_lines zero least total bytes = tt
near_lines (suc n) least total bytes =
    near_then total (line_at least total bytes) _ (near_line least total bytes) (λ first.
    near_then total (lines_at n (first.0.slot + 1) total first.1) _ (near_lines n (first.0.slot + 1) total first.1) (λ more. tt))

near_bits : (n total : ℕ) (bytes : List ℕ) → IsNear total (bits_at n total bytes)
unfolding bits_at
near_bits n total bytes = near_then total (field_at (packed_len n) total bytes) _ (near_field (packed_len n) total bytes) (λ f. near_ranged total bytes _ _)

near_tag : (total : ℕ) (bytes : List ℕ) → IsNear total (tag_at total bytes)
unfolding tag_at
near_tag total bytes = near_then total (field_at 16 total bytes) _ (near_field 16 total bytes) (λ tag. tt)

near_sum : (lines total : ℕ) (bytes : List ℕ) → IsNear total (sum_at lines total bytes)
unfolding sum_at
near_sum lines total bytes =
    near_then total (bits_at lines total bytes) _ (near_bits lines total bytes) (λ bits.
    near_then total (tag_at total bits.1) _ (near_tag total bits.1) (λ tag. tt))

near_many : {A : Type 0} (one : ℕ → List ℕ → Read A) (n total : ℕ) (bytes : List ℕ) → ((rest : List ℕ) → IsNear total (one total rest)) → IsNear total (many_at one n total bytes)
unfolding many_at
near_many one zero total bytes each = tt
near_many one (suc n) total bytes each =
    near_then total (one total bytes) _ (each bytes) (λ first.
    near_then total (many_at one n total first.1) _ (near_many one n total first.1 each) (λ more. tt))

near_found : (total : ℕ) (bytes : List ℕ) → IsNear total (found_at total bytes)
unfolding found_at
near_found total bytes =
    near_then total (tested_at w32 is_count total bytes) _ (near_tested w32 is_count total bytes) (λ version.
    near_then total (tested_at w16 is_lines total version.1) _ (near_tested w16 is_lines total version.1) (λ count.
    near_then total (lines_at count.0 0 total count.1) _ (near_lines count.0 0 total count.1) (λ lines.
    near_then total (byte_at is_few total lines.1) _ (near_byte is_few total lines.1) (λ probes.
    near_then total (many_at (sum_at count.0) probes.0 total probes.1) _ (near_many (sum_at count.0) probes.0 total probes.1 (near_sum count.0 total)) (λ sums. tt)))))

near_shape : (total : ℕ) (bytes : List ℕ) → IsNear total (shape_at total bytes)
unfolding shape_at
near_shape total bytes =
    near_then total (byte_at is_depth total bytes) _ (near_byte is_depth total bytes) (λ depth.
    near_then total (byte_at is_probes total depth.1) _ (near_byte is_probes total depth.1) (λ probes. tt))

near_retained : (total : ℕ) (bytes : List ℕ) → IsNear total (retained_at total bytes)
unfolding retained_at
near_retained total bytes =
    near_then total (tested_at w32 is_count total bytes) _ (near_tested w32 is_count total bytes) (λ oldest.
    near_then total (tested_at w32 is_count total oldest.1) _ (near_tested w32 is_count total oldest.1) (λ newest. tt))

near_named : {A : Type 0} (make : UpdateId → A) (total : ℕ) (bytes : List ℕ) → IsNear total (named_at make total bytes)
unfolding named_at
near_named make total bytes = near_then total (id_at total bytes) _ (near_id total bytes) (λ name. tt)

near_numbered : {A : Type 0} (make : ℕ → UpdateId → A) (total : ℕ) (bytes : List ℕ) → IsNear total (numbered_at make total bytes)
unfolding numbered_at
near_numbered make total bytes =
    near_then total (tested_at w32 is_number total bytes) _ (near_tested w32 is_number total bytes) (λ number.
    near_then total (id_at total number.1) _ (near_id total number.1) (λ name. tt))

near_counted : {A : Type 0} (make : ℕ → A) (total : ℕ) (bytes : List ℕ) → IsNear total (counted_at make total bytes)
unfolding counted_at
near_counted make total bytes = near_then total (tested_at w32 is_count total bytes) _ (near_tested w32 is_count total bytes) (λ length. tt)

near_member : (total : ℕ) (bytes : List ℕ) → IsNear total (member_at total bytes)
unfolding member_at
near_member total bytes = near_then total (number_at w32 total bytes) _ (near_number w32 total bytes) (λ member. tt)

near_past : (total : ℕ) (bytes : List ℕ) → IsNear total (past_at total bytes)
unfolding past_at
near_past total bytes = near_then total (number_at w64 total bytes) _ (near_number w64 total bytes) (λ last. tt)

near_role : (total : ℕ) (bytes : List ℕ) → IsNear total (role_at total bytes)
unfolding role_at
near_role total bytes = near_then total (byte_at is_role total bytes) _ (near_byte is_role total bytes) (λ role. tt)

near_later_code : (code total : ℕ) (bytes : List ℕ) → IsNear total (later_code_at code total bytes)
unfolding later_code_at
near_later_code code total bytes =
    near_if total (code == 8) _ _ (near_named _ total bytes)
    (near_if total (code == 9) _ _ (near_numbered _ total bytes)
    (near_if total (code == 10) _ _ (near_counted _ total bytes)
    (near_if total (code == 11) _ _ (near_role total bytes)
    (near_if total (code == 12) _ _ tt
    (near_if total (code == 13) _ _ (near_counted _ total bytes) tt)))))

near_code : (code total : ℕ) (bytes : List ℕ) → IsNear total (code_at code total bytes)
unfolding code_at
near_code code total bytes =
    near_if total (code == 1) _ _ tt
    (near_if total (code == 2) _ _ (near_shape total bytes)
    (near_if total (code == 3) _ _ (near_retained total bytes)
    (near_if total (code == 4) _ _ (near_member total bytes)
    (near_if total (code == 5) _ _ (near_past total bytes)
    (near_if total (code == 6) _ _ (near_named _ total bytes)
    (near_if total (code == 7) _ _ (near_named _ total bytes)
    (near_later_code code total bytes)))))))

near_refusal : (total : ℕ) (bytes : List ℕ) → IsNear total (refusal_at total bytes)
unfolding refusal_at
near_refusal total bytes = near_then total (byte_at is_code total bytes) _ (near_byte is_code total bytes) (λ code. near_code code.0 total code.1)

near_what : (kind total : ℕ) (bytes : List ℕ) → IsNear total (what_at kind total bytes)
unfolding what_at holding_at refused_at
near_what kind total bytes =
    near_if total (kind == 129) _ _ (near_counted _ total bytes)
    (near_if total (kind == 130) _ _ (near_then total (found_at total bytes) _ (near_found total bytes) (λ f. tt))
    (near_if total (kind == 131) _ _ (near_numbered _ total bytes)
    (near_if total (kind == 132) _ _ (near_named _ total bytes)
    (near_if total (kind == 133) _ _ (near_numbered _ total bytes)
    (near_then total (refusal_at total bytes) _ (near_refusal total bytes) (λ code. tt))))))

near_reply : (kind total : ℕ) (bytes : List ℕ) → IsNear total (reply_at kind total bytes)
unfolding reply_at
near_reply kind total bytes =
    near_then total (ask_at total bytes) _ (near_ask total bytes) (λ ask.
    near_then total (what_at kind total ask.1) _ (near_what kind total ask.1) (λ what. tt))

placed_if : {A : Type 0} (total : ℕ) (b : Bool) (x y : Result A WireFault) → IsPlacedBy total x → IsPlacedBy total y → IsPlacedBy total (cond b x y)
placed_if total true x y p q = p
placed_if total false x y p q = q

near_ended : {A : Type 0} (total : ℕ) (read : Read A) → IsNear total read → IsPlacedBy total (ended total read)
near_ended total (Ok x) near = placed_if total (length x.1 == 0) (Ok x.0) (Err (Trailing (place total x.1))) tt (omega arith)
near_ended total (Err e) near = near

near_message : (message : List ℕ) → IsPlacedBy (length message) (reply_of message)
unfolding reply_of
near_message [] = omega arith
near_message (kind ∷ bytes) =
    let total = suc (length bytes) in
    placed_if total (is_answering kind) (ended total (reply_at kind total bytes)) (Err (Kind kind)) (near_ended total (reply_at kind total bytes) (near_reply kind total bytes)) tt

-- the place of the first fault that a decoder names lies within the message
fails_near : (message : List ℕ) (e : WireFault) → Fails e (reply_of message) → IsPlaced (length message) e
fails_near message (Kind b) is = tt
fails_near message (Body at) is = subst (IsPlacedBy (length message)) is (near_message message)
fails_near message (Trailing at) is = subst (IsPlacedBy (length message)) is (near_message message)
fails_near message NoMemory is = tt

pub body_near : (message : List ℕ) (e : WireFault) (at : ℕ) → Fails e (reply_of message) → e ≡ Body at → at ≤ length message
body_near message e at is named = subst (IsPlaced (length message)) named (fails_near message e is)

pub trailing_near : (message : List ℕ) (e : WireFault) (at : ℕ) → Fails e (reply_of message) → e ≡ Trailing at → at ≤ length message
trailing_near message e at is named = subst (IsPlaced (length message)) named (fails_near message e is)
