-- The way of a command: what was put to each domain, one ask after another, and what came.
use Rattle.std.specs.Prelude.{ℕ, List, Option}
use Rattle.dory_member.specs.declared.phase.Run.{Run}
use Rattle.dory_member.specs.Course.{Ask}
use Rattle.dory_drive.specs.Member.{member_course, put_of}
use Rattle.dory_drive.specs.Way.{Links, PutAnswered}
use Rattle.dory_drive.specs.Way as way

-- what a run asks was put, and this frame came
abbrev pub RunExchanged : Run → Option Ask → Links → Links → List ℕ → Type 0
RunExchanged run ask before after frame = PutAnswered (put_of run ask) before after frame

-- These frames came to a run, one after another, each to what it asked.
abbrev pub ExchangedInTurn : Run → List (List ℕ) → Links → Links → Type 0
ExchangedInTurn run frames before after = way.ExchangedInTurn member_course run frames before after
