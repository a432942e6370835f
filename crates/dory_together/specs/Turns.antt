-- What a member's turn at two shared domains comes to.
use Rattle.std.specs.Prelude.{ℕ, ◌≡◌, ◌⊎◌, Bool, true, false, List}
use Rattle.dory_base.specs.declared.ids.Side.{Side}
use Rattle.dory_base.specs.declared.ids.Side.TheVariants.{Lead, Follow}
use Rattle.dory_member.specs.Machine.{Machine, Turn, turn_of, is_saving, reply_taken, ran_out}
use Rattle.dory_member.specs.Machine.Turn.{Asks}
use Rattle.dory_together.specs.Seats.{RepliesTo}
use Rattle.dory_together.specs.declared.turns.Seats.{Seats}

-- the frame is answered by the seat at the domain of this side, and the other seat isn't used
abbrev pub IsCarried : Side → List ℕ → Seats → List ℕ → Seats → Type 0
IsCarried Lead frame before reply now = RepliesTo before.lead frame reply now.lead × (now.follow ≡ before.follow)
IsCarried Follow frame before reply now = RepliesTo before.follow frame reply now.follow × (now.lead ≡ before.lead)

-- what a member asks is answered so
abbrev pub IsReplyTo : Turn → Seats → List ℕ → Seats → Type 0
IsReplyTo t before reply now = (side : Side) × (frame : List ℕ) × (t ≡ Asks side frame) × IsCarried side frame before reply now

-- its state is saved and no seat is used, or it takes the reply to what it asks
abbrev pub Turned : Machine → Seats → Machine → Seats → Type 0
Turned m before after now =
    ((is_saving (turn_of m) ≡ true) × (after ≡ record m { unsaved = false }) × (now ≡ before))
    ⊎ ((reply : List ℕ) × IsReplyTo (turn_of m) before reply now × ((after ≡ reply_taken m reply) ⊎ (after ≡ ran_out m)))

-- a turn is taken, or the member stays as it is
abbrev pub Turns : Bool → Machine → Seats → Machine → Seats → Type 0
Turns true m before after now = Turned m before after now
Turns false m before after now = after ≡ m
