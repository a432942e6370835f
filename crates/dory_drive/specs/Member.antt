-- A member's command as a conversation.
use Rattle.std.specs.Prelude.{◌-◌, Option, Some, None}
use Rattle.dory_member.specs.declared.outcome.Fault.TheVariants as fault
use Rattle.dory_member.specs.declared.outcome.Outcome.{Outcome}
use Rattle.dory_member.specs.declared.phase.Run.{Run}
use Rattle.dory_member.specs.Course.{Ask, Put, ask_request, asks, fails, moved, outcome_at, took}
use Rattle.dory_member.specs.Machine.{saves_first, saves_last}
use Rattle.dory_drive.specs.Course.{Course}

-- what is put where a run asks this
abbrev pub put_of : Run → Option Ask → Option Put
put_of run None = None
put_of run (Some ask) = Some (ask.side, ask_request run ask)

-- the course of a member's command
abbrev pub member_course : Course Run Outcome
member_course = record {
  asks = λ run. put_of run (asks run.phase);
  took = took;
  lost = λ run. moved run (fails fault.NoMemory);
  kept = λ run. run.kept;
  ended = λ run. outcome_at run.phase;
  saves_first = λ run. saves_first run.phase;
  saves_last = λ run. saves_last run.phase;
  left = λ run. 2097158 - run.step;
}
