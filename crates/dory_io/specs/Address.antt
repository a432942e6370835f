-- How an address is written and read.
use Rattle.std.specs.Prelude.{ℕ, ◌==◌, List, [], ◌∷◌, ◌++◌, is_some, codes, slice_get, slice_index, Option, Some, None, option_and_then, if◌then◌else◌}
use Rattle.std.specs.List.{slice_split}
use Rattle.std.specs.Fmt.{decimal}
use Rattle.dory_io.specs.Numbers.{number_of}
use Rattle.dory_io.specs.declared.address.Address.{Address}

-- four numbers with dots between
abbrev pub quad_text : ℕ → ℕ → ℕ → ℕ → List ℕ
quad_text a b c d = decimal a ++ codes "." ++ decimal b ++ codes "." ++ decimal c ++ codes "." ++ decimal d

-- the four numbers of the IPv4 address, a colon, and the port, as `127.0.0.1:7001`
abbrev pub address_text : Address → List ℕ
address_text a = quad_text (slice_index a.ip 0) (slice_index a.ip 1) (slice_index a.ip 2) (slice_index a.ip 3) ++ codes ":" ++ decimal a.port

-- the texts between the dots (46) of a text
abbrev pub between_dots : List ℕ → List (List ℕ)
between_dots text = slice_split (λ b. b == 46) text

-- the texts between its colons (58)
abbrev pub between_colons : List ℕ → List (List ℕ)
between_colons text = slice_split (λ b. b == 58) text

-- the number at a place of a list of texts, from `least` to `most`
abbrev pub number_at : ℕ → ℕ → ℕ → List (List ℕ) → Option ℕ
number_at place least most texts = option_and_then (number_of least most) (slice_get texts place)

infixl 10 ◌>>=◌
-- what isn't of its form ends the reading
abbrev pub ◌>>=◌ : {A B : Type 0} → Option A → (A → Option B) → Option B
(Some x) >>= f = f x
None >>= f = None

-- four numbers below 256, and nothing after them
abbrev pub ip_in : List (List ℕ) → Option (List ℕ)
ip_in texts = if is_some (slice_get texts 4) then None else (do
  a ← number_at 0 0 255 texts
  b ← number_at 1 0 255 texts
  c ← number_at 2 0 255 texts
  d ← number_at 3 0 255 texts
  Some (a ∷ b ∷ c ∷ d ∷ []))

-- an IPv4 address, a port below 65536, and nothing after them
abbrev pub address_in : List (List ℕ) → Option Address
address_in texts = if is_some (slice_get texts 2) then None else (do
  ip ← option_and_then (λ t. ip_in (between_dots t)) (slice_get texts 0)
  port ← number_at 1 0 65535 texts
  Some (record { ip = ip; port = port }))

-- the address that the text writes
abbrev pub address_of : List ℕ → Option Address
address_of text = address_in (between_colons text)
