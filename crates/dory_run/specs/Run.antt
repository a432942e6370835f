-- Run: the worlds after each event of a list, up to the first event that isn't allowed, and the lines that tell them.
use Rattle.std.specs.Prelude.{ℕ, ◌+◌, ◌==◌, List, [], ◌∷◌, ◌++◌, Option, Some, None, if◌then◌else◌}
use Rattle.dory_base.specs.declared.entry.Entry.{Entry}
use Rattle.dory_base.specs.declared.ids.MemberId.{MemberId}
use Rattle.dory_member.specs.declared.command.Command.{Command}
use Rattle.dory_run.specs.declared.event.Event.{Event}
use Rattle.dory_run.specs.declared.event.Event.TheVariants.{Begin, Carry, Return, Lie, Bend, Quit}
use Rattle.dory_run.specs.declared.event.Honest.{Honest}
use Rattle.dory_run.specs.declared.line.WorldLine.{WorldLine}
use Rattle.dory_run.specs.declared.setup.Setup.{Setup}
use Rattle.dory_run.specs.Happening.{Happened, happens}
use Rattle.dory_run.specs.Start.{start}
use Rattle.dory_run.specs.World.{World}

-- ---- the moments of a run

-- a command that a member was given
pub record Given : Type 0 where
  pub member : MemberId
  pub command : Command

-- a moment of a run: the world, and what its members have done so far, the newest first: the updates that they made, and the
-- commands that they were given
pub record Moment : Type 0 where
  pub world : World
  pub made : List Entry
  pub given : List Given

-- the command that an event gives
abbrev pub given_by : Event → List Given
given_by (Begin m c) = record { member = m; command = c } ∷ []
given_by (Carry n) = []
given_by (Return n) = []
given_by (Lie side m bytes) = []
given_by (Bend n at mask) = []
given_by (Quit m) = []

-- the last command that a member was given
abbrev pub command_of : List Given → ℕ → Option Command
command_of [] m = None
command_of (g ∷ given) m = if g.member.0 == m then Some g.command else command_of given m

-- the moment after an event
abbrev pub moment_after : Moment → Event → Happened → Moment
moment_after x e t = record { world = t.world; made = t.made ++ x.made; given = given_by e ++ x.given }

-- where there is one
abbrev pub moment_by : Moment → Event → Option Happened → Option Moment
moment_by x e None = None
moment_by x e (Some t) = Some (moment_after x e t)

-- the next moment, where the event is allowed
abbrev pub next_moment : Honest → Setup → Moment → Event → Option Moment
next_moment h s x e = moment_by x e (happens h s x.world e)

-- the moments from this one on
abbrev pub moments_from : Honest → Setup → Option Moment → List Event → List Moment
moments_from h s None events = []
moments_from h s (Some x) [] = x ∷ []
moments_from h s (Some x) (e ∷ events) = x ∷ moments_from h s (next_moment h s x e) events

-- before the first event
abbrev pub beginning : Setup → Moment
beginning s = record { world = start s; made = []; given = [] }

-- Run: the moments before the first event and after each
abbrev pub run_of : Honest → Setup → List Event → List Moment
run_of h s events = moments_from h s (Some (beginning s)) events

-- ---- what is told of a run

-- the lines of the events that were allowed, the place of the first that wasn't, and the last world
pub record Telling : Type 0 where
  pub lines : List WorldLine
  pub bad : Option ℕ
  pub world : World

-- a line, and then what is told
abbrev pub with_line : WorldLine → Telling → Telling
with_line line t = record { lines = line ∷ t.lines; bad = t.bad; world = t.world }

-- the event of this place isn't allowed, or its line is told and then what follows
abbrev pub tells_by : ℕ → World → (World → Telling) → Option Happened → Telling
tells_by n w rest None = record { lines = []; bad = Some n; world = w }
tells_by n w rest (Some t) = with_line t.line (rest t.world)

-- what is told from this world on, where the first event has this place
abbrev pub telling_from : ℕ → Honest → Setup → World → List Event → Telling
telling_from n h s w [] = record { lines = []; bad = None; world = w }
telling_from n h s w (e ∷ events) = tells_by n w (λ v. telling_from (n + 1) h s v events) (happens h s w e)

-- what is told of a run
abbrev pub telling_of : Honest → Setup → List Event → Telling
telling_of h s events = telling_from 0 h s (start s) events
