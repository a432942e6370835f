-- What a read and a piece more make of what came.
use Rattle.std.proofs.Common.{◌≡◌, ◌∙◌, ℕ, ◌≤◌, ◌⊎◌, inl, inr, List, [], ◌++◌, length, take, drop, Option, Some, None, Ok, Err, sym, arith, take-append-drop}
use Rattle.std.proofs.lemmas.List.{length-append, length-take-le}
use Rattle.std.proofs.KnownBytes.{Consumes-nil, Consumes-trans}
use Rattle.std.specs.Io.KnownBytes.{Consumes}
use Rattle.dory_io.specs.Bytes.{BytesRead, IsOver, Reads}
use Rattle.dory_io.specs.Causes.{Gave}

-- nothing comes of what stays
pub none_came : (left : Option (List ℕ)) (given : ℕ) → BytesRead left left given given []
none_came left given = record { first = Consumes-nil left; count = omega arith }

-- what came after what came
pub more_came : (a b c : Option (List ℕ)) (m n k : ℕ) (bytes more : List ℕ) → BytesRead a b m n bytes → BytesRead b c n k more → BytesRead a c m k (bytes ++ more)
more_came a b c m n k bytes more p q = record {
  first = Consumes-trans a b c bytes more p.first q.first;
  count = omega (arith, p.count, q.count, length-append bytes more);
}

read_first : (E : Type 0) (left now : Option (List ℕ)) (room n : ℕ) (into : List ℕ) → Reads {E = E} left now room (Ok n) into → Consumes left now (take n into)
read_first E None now room n into h = tt
read_first E (Some xs) None room n into h = absurd h
read_first E (Some xs) (Some ys) room n into h = sym (take-append-drop n xs) ∙ (λ i. h.0 i ++ sym h.1 i)

-- a read gave the first bytes of the room
pub read_came : (E : Type 0) (left now : Option (List ℕ)) (m k room n : ℕ) (into : List ℕ) → n ≤ length into → Reads {E = E} left now room (Ok n) into → Gave {E = E} m k (Ok n) → BytesRead left now m k (take n into)
read_came E left now m k room n into few h gave = record {
  first = read_first E left now room n into h;
  count = omega (arith, gave, length-take-le n into few);
}

ended : (xs ys : List ℕ) (room n : ℕ) → 1 ≤ room → n ≡ 0 → ys ≡ drop n xs → (room ≡ 0) ⊎ (xs ≡ []) → ys ≡ []
ended xs ys room n some none e (inl z) = absurd (omega (arith, z, some))
ended xs ys room n some none e (inr z) = e ∙ (λ i. drop (none i) (z i))

-- a read that gave nothing into some room found the end
pub read_end : (E : Type 0) (left now : Option (List ℕ)) (room n : ℕ) (into : List ℕ) → 1 ≤ room → n ≡ 0 → Reads {E = E} left now room (Ok n) into → IsOver left now
read_end E None now room n into some none h = tt
read_end E (Some xs) None room n into some none h = absurd h
read_end E (Some xs) (Some ys) room n into some none h = ended xs ys room n some none h.1 (h.2 none)

-- what was over for the bytes that were left then is over
pub over_before : (a b c : Option (List ℕ)) (bytes : List ℕ) → Consumes a b bytes → IsOver b c → IsOver a c
over_before None b c bytes p q = tt
over_before (Some xs) None c bytes p q = absurd p
over_before (Some xs) (Some ys) None bytes p q = absurd q
over_before (Some xs) (Some ys) (Some zs) bytes p q = q

-- a read that failed gave nothing
pub failed_came : (E : Type 0) (left now : Option (List ℕ)) (m k room : ℕ) (e : E) (into : List ℕ) → Reads left now room (Err e) into → Gave {E = E} m k (Err e) → BytesRead left now m k []
failed_came E None now m k room e into h gave = record { first = tt; count = omega (arith, gave) }
failed_came E (Some xs) None m k room e into h gave = absurd h
failed_came E (Some xs) (Some ys) m k room e into h gave = record { first = sym h; count = omega (arith, gave) }
