-- Each member's own updates: their serials and numbers.
use Rattle.std.specs.Prelude.{ℕ, ◌≡◌, ◌+◌, ◌≤◌, ◌==◌, if◌then◌else◌, List, [], ◌∷◌, length, Option, Some, None, Vec, vec_len, vec_capacity, slice_get, IfSome}
use Rattle.std.specs.declared.alloc.Global.{Global}
use Rattle.dory_base.specs.declared.ids.UpdateId.{UpdateId}
use Rattle.dory_log.specs.declared.own.Own.{Own}

-- a member's among ids of which the first has number n
abbrev pub own_from : ℕ → List UpdateId → ℕ → List Own
own_from n [] member = []
own_from n (x ∷ ids) member =
    if x.member.0 == member then record { serial = x.serial; number = n } ∷ own_from (n + 1) ids member
    else own_from (n + 1) ids member

-- what a member's list has, if there is such a list
abbrev pub items_of : Option (Vec Own Global) → List Own
items_of None = []
items_of (Some list) = list.items

-- a member's own updates
abbrev pub own_at : List (Vec Own Global) → ℕ → List Own
own_at lists member = items_of (slice_get lists member)

-- the number of the update with a serial
abbrev pub number_among : List Own → ℕ → Option ℕ
number_among [] serial = None
number_among (o ∷ own) serial = if o.serial == serial then Some o.number else number_among own serial

-- the serial of the last update, or this one where there is none
abbrev pub serial_after : ℕ → List Own → ℕ
serial_after serial [] = serial
serial_after serial (o ∷ own) = serial_after o.serial own

-- each list has room for so many more
abbrev pub HasRoom : List (Vec Own Global) → ℕ → Type 0
HasRoom lists more = (member : ℕ) → IfSome (slice_get lists member) (λ list. vec_len list + more ≤ vec_capacity list)

-- the same lists, with no less room
pub record IsGrown (before now : List (Vec Own Global)) : Type 0 where
  pub long : length now ≡ length before
  pub own : (member : ℕ) → own_at now member ≡ own_at before member
  pub room : (more : ℕ) → HasRoom before more → HasRoom now more
