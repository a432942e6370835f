-- A world: members, the two domains of their folder, and all messages that were ever put.
use Rattle.std.specs.Prelude.{ℕ, ◌++◌, List, length, slice_set}
use Rattle.dory_base.specs.Step.{State}
use Rattle.dory_base.specs.declared.ids.MemberId.{MemberId}
use Rattle.dory_base.specs.declared.ids.Side.{Side}
use Rattle.dory_base.specs.declared.ids.Side.TheVariants.{Lead, Follow}
use Rattle.dory_wire.specs.declared.message.Request.{Request}
use Rattle.dory_state.specs.declared.kept.KeptState.{KeptState}
use Rattle.dory_member.specs.declared.phase.Run.{Run}

-- a member: idle with its kept state, or busy with a command
pub data Station : Type 0 where
  Idle : KeptState → Station
  Busy : Run → Station

-- a message: an ask to a domain, or a frame that was put in a domain's name to a member
pub data Message : Type 0 where
  Asked : Side → Request → Message
  Replied : Side → MemberId → List ℕ → Message

-- the members in their order, the folder as each domain has it, and all messages in the order in which they were put
pub record World : Type 0 where
  pub members : List Station
  pub lead : State
  pub follow : State
  pub messages : List Message

-- the folder as a domain has it
abbrev pub folder_of : World → Side → State
folder_of w Lead = w.lead
folder_of w Follow = w.follow

-- at the lead the new, and otherwise the old
abbrev pub at_lead : {A : Type 0} → Side → A → A → A
at_lead Lead new old = new
at_lead Follow new old = old

-- at the follower the new, and otherwise the old
abbrev pub at_follow : {A : Type 0} → Side → A → A → A
at_follow Lead new old = old
at_follow Follow new old = new

-- a domain's folder is another
abbrev pub with_folder : World → Side → State → World
with_folder w side f = record { members = w.members; lead = at_lead side f w.lead; follow = at_follow side f w.follow; messages = w.messages }

-- more messages are put
abbrev pub with_messages : World → List Message → World
with_messages w more = record { members = w.members; lead = w.lead; follow = w.follow; messages = w.messages ++ more }

-- a member is at another station
abbrev pub with_member : World → MemberId → Station → World
with_member w m s = record { members = slice_set w.members m.0 s; lead = w.lead; follow = w.follow; messages = w.messages }

-- the number of the next message
abbrev pub next_message : World → ℕ
next_message w = length w.messages
