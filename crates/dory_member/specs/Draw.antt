-- How a member draws serials, and how its epochs turn. A serial's epoch is its highest byte.
use Rattle.std.specs.Prelude.{ℕ, ◌+◌, ◌*◌, ◌/◌, ◌^◌, ◌==◌, Bool, if◌then◌else◌, Some}
use Rattle.dory_state.specs.declared.kept.Pending.{Pending}
use Rattle.dory_state.specs.declared.kept.KeptState.{KeptState}

-- the epoch of a serial
abbrev pub epoch_in : ℕ → ℕ
epoch_in serial = serial / 2 ^ 56

-- a new epoch begins: at its first serial, with no post counted
abbrev pub turned : KeptState → KeptState
turned k = record k { next_serial = (epoch_in k.next_serial + 1) * 2 ^ 56; used = 0 }

-- the posts of the epoch are used up
abbrev pub is_used_up : KeptState → Bool
is_used_up k = k.used == 65536

-- the state in which a post draws its serial: in a new epoch where the posts of this one are used up
abbrev pub ready : KeptState → KeptState
ready k = if is_used_up k then turned k else k

-- A serial is drawn, and so many posts are counted. Where the next serial is in another epoch, none is counted there.
abbrev pub drawn : KeptState → ℕ → KeptState
drawn k used = record k {
  next_serial = k.next_serial + 1;
  used = if epoch_in (k.next_serial + 1) == epoch_in k.next_serial then used else 0;
}

-- an update is pending
abbrev pub with_pending : KeptState → Pending → KeptState
with_pending k update = record k { pending = Some update }

-- no serial is left to draw
abbrev pub is_last_serial : KeptState → Bool
is_last_serial k = k.next_serial == 18446744073709551615

-- no epoch is left to begin
abbrev pub is_last_epoch : KeptState → Bool
is_last_epoch k = epoch_in k.next_serial == 255
