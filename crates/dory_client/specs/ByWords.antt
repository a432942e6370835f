-- What is true of a call, by what its words set out to do.
use Rattle.std.specs.Prelude.{Result, Ok, Err}
use Rattle.dory_cli.specs.declared.line.Line.{Line}
use Rattle.dory_cli.specs.declared.fault.UsageFault.{UsageFault}
use Rattle.dory_state.specs.declared.kept.KeptState.{KeptState}
use Rattle.dory_client.specs.declared.start.Todo.{Todo}
use Rattle.dory_client.specs.declared.start.Start.{Start}
use Rattle.dory_client.specs.declared.start.Start.TheVariants.{Init, Act}
use Rattle.dory_client.specs.Start.{start_of}

-- this of a first state that begins, or that of a command
abbrev pub ByStart : Start → (KeptState → Type 0) → (Todo → Type 0) → Type 0
ByStart (Init first) begins acts = begins first
ByStart (Act t) begins acts = acts t

-- the same of words that are a line, and another thing of words that are none
abbrev pub ByWords : Result Line UsageFault → (KeptState → Type 0) → (Todo → Type 0) → Type 0 → Type 0
ByWords (Ok line) begins acts no_line = ByStart (start_of line) begins acts
ByWords (Err fault) begins acts no_line = no_line
