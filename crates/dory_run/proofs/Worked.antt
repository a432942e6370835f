-- The two runs, computed.
use Rattle.std.proofs.Common.{refl}
use Rattle.dory_fields.specs.Reading.{byte_at, number_at, tested_at}
use Rattle.dory_wire.specs.Frame.{message_in}
use Rattle.dory_wire.specs.Reading.{ask_at, code_at, id_at, later_code_at, named_at, numbered_at, refusal_at, refused_at, reply_at, reply_of, what_at}
use Rattle.dory_wire.specs.Spelling.{spelling_of_reply}
use Rattle.dory_member.specs.Single.{confirmed}
use Rattle.dory_run.specs.Worked.{IsDiverged, IsRemoved}

pub removed : IsRemoved
unfolding byte_at number_at tested_at message_in ask_at code_at id_at later_code_at named_at numbered_at refusal_at refused_at reply_at reply_of what_at spelling_of_reply confirmed
removed = record { lines = refl; bad = refl }

pub diverged : IsDiverged
unfolding byte_at number_at tested_at message_in ask_at code_at id_at later_code_at named_at numbered_at refusal_at refused_at reply_at reply_of what_at spelling_of_reply confirmed
diverged = record { last = refl; bad = refl }
