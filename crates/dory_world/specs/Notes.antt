-- A message as the code has it, and the message that it is.
use Rattle.dory_wire.specs.Spelling.{IsRequest}
use Rattle.dory_run.specs.World.{Message, Asked, Replied}
use Rattle.dory_world.specs.declared.note.Put.{Put}
use Rattle.dory_world.specs.declared.note.Put.TheVariants as put

-- the message
abbrev pub message_of : Put → Message
message_of (put.Asked side request) = Asked side request
message_of (put.Replied side member frame) = Replied side member frame

-- what is asked is in range
abbrev pub IsCarried : Put → Type 0
IsCarried (put.Asked side request) = IsRequest request
IsCarried (put.Replied side member frame) = Unit {0}
