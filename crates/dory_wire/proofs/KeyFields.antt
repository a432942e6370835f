-- The two laws of a search's keys: what is read is spelled so, and what is spelled so is read.
use Rattle.std.proofs.Common.{◌≡◌, ℕ, ◌≤◌, true, List, [], ◌∷◌, ◌++◌, length, Option, None, Some, Ok, refl, sym, subst, arith}
use Rattle.std.specs.List.{flat_map, AllByRecursion}
use Rattle.dory_base.specs.Dims.{Dims}
use Rattle.dory_dpf.specs.PointKey.{PointKey, IsKeyOf, form_of, form_with}
use Rattle.dory_dpf.specs.KeyBytes.{bytes_of_key, key_at}
use Rattle.dory_dpf.proofs.Spelled.{key_again, key_takes}
use Rattle.dory_fields.specs.Reading.{many_at}
use Rattle.dory_fields.specs.Bytes.{IsBytes}
use Rattle.dory_fields.proofs.Many.{many_take, many_again}
use Rattle.dory_fields.proofs.Fields.{Takes}
use Rattle.dory_wire.specs.Spelling.{form_of_keys, AreKeys}
use Rattle.dory_wire.specs.Reading.{is_form}

-- ---- keys

pub keys_take : (n form depth total : ℕ) (bytes : List ℕ) (x : List PointKey × List ℕ) → 1 ≤ form → form ≤ 2 → 8 ≤ depth → depth ≤ 11 → IsBytes bytes → many_at (key_at form depth) n total bytes ≡ Ok x
    → Takes bytes (flat_map bytes_of_key x.0) x.1 × (length x.0 ≡ n) × AllByRecursion (IsKeyOf form depth) x.0
keys_take n form depth total bytes x one two low high =
    many_take (key_at form depth) bytes_of_key (IsKeyOf form depth) (λ t b k fits e. let taken = key_takes form depth t b k one two low high e in (taken.0 fits, taken.1)) n total bytes x

key_of_again : (form depth total : ℕ) (key : PointKey) (rest : List ℕ) → IsKeyOf form depth key → key_at form depth total (bytes_of_key key ++ rest) ≡ Ok (key, rest)
key_of_again form depth total key rest is =
    subst (λ (f : ℕ). key_at f depth total (bytes_of_key key ++ rest) ≡ Ok (key, rest)) is.form
    (subst (λ (d : ℕ). key_at (form_of key) d total (bytes_of_key key ++ rest) ≡ Ok (key, rest)) is.depth (key_again total key rest is.key))

pub keys_again : (form depth total : ℕ) (keys : List PointKey) (rest : List ℕ) → AllByRecursion (IsKeyOf form depth) keys → many_at (key_at form depth) (length keys) total (flat_map bytes_of_key keys ++ rest) ≡ Ok (keys, rest)
keys_again form depth total = many_again (key_at form depth) bytes_of_key (IsKeyOf form depth) total (key_of_again form depth total)

-- ---- the form

with_met : (word : Option (List ℕ)) → is_form (form_with word) ≡ true
with_met None = refl
with_met (Some word) = refl

pub form_met : (keys : List PointKey) → is_form (form_of_keys keys) ≡ true
form_met [] = refl
form_met (key ∷ keys) = with_met key.last

-- keys of one form have that form, where there is one
pub form_is : (form depth : ℕ) (keys : List PointKey) → 1 ≤ length keys → AllByRecursion (IsKeyOf form depth) keys → form_of_keys keys ≡ form
form_is form depth [] some are = absurd (omega arith)
form_is form depth (key ∷ keys) some are = are.0.form

-- as many keys as probes, each of this form and of the row's depth, are those of a search
pub are_keys : (form : ℕ) (shape : Dims) (keys : List PointKey) → 1 ≤ shape.probes → length keys ≡ shape.probes → AllByRecursion (IsKeyOf form shape.depth) keys → AreKeys shape keys
are_keys form shape keys some many are =
    let same : form_of_keys keys ≡ form = form_is form shape.depth keys (omega (arith, some, many)) are in
    record { many = many; each = subst (λ (f : ℕ). AllByRecursion (IsKeyOf f shape.depth) keys) (sym same) are }
