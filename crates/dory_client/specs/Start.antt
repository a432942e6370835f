-- What a command line sets out to do.
use Rattle.std.specs.Prelude.{ℕ, ⊤, List, None}
use Rattle.dory_base.specs.Dims.{Dims}
use Rattle.dory_bloom.specs.PlainRow.{plain_row_of}
use Rattle.dory_words.specs.WordsIn.{words_in}
use Rattle.dory_cli.specs.declared.line.Line.{Line}
use Rattle.dory_cli.specs.declared.line.Line.TheVariants as line
use Rattle.dory_state.specs.declared.kept.KeptState.{KeptState}
use Rattle.dory_member.specs.declared.command.Command.{Command}
use Rattle.dory_member.specs.declared.command.Command.TheVariants as command
use Rattle.dory_state.specs.Spelling.{IsKeptState}
use Rattle.dory_member.specs.Course.{folder_keys}
use Rattle.dory_member.specs.Within.{FitsCommand}
use Rattle.dory_client.specs.declared.start.Todo.{Todo}
use Rattle.dory_client.specs.declared.start.Todo.TheVariants.{Post, Plain}
use Rattle.dory_client.specs.declared.start.Start.{Start}
use Rattle.dory_client.specs.declared.start.Start.TheVariants.{Init, Act}

-- what a line sets out to do: it begins a state, in which nothing was seen, or it acts in the state that is kept
abbrev pub start_of : Line → Start
start_of (line.Init folder member shape master serial) = Init (record {
  folder = folder;
  member = member;
  shape = shape;
  master = master;
  next_serial = serial;
  seen = 0;
  used = 0;
  pending = None;
})
start_of (line.Post doc) = Act (Post doc)
start_of (line.Remove doc) = Act (Plain (command.Remove doc))
start_of (line.Search word) = Act (Plain (command.Search word))
start_of line.Resume = Act (Plain command.Resume)
start_of line.Latest = Act (Plain command.Latest)
start_of line.Rotate = Act (Plain command.Rotate)

-- the command, where the input has this text: a post's row holds the words of the text
abbrev pub command_of : KeptState → List ℕ → Todo → Command
command_of k text (Post doc) = command.Post doc (plain_row_of (folder_keys k) k.shape (words_in text))
command_of k text (Plain c) = c

-- what needs no input has no row, or one of any shape
abbrev pub IsTodo : Todo → Type 0
IsTodo (Post doc) = ⊤
IsTodo (Plain c) = (shape : Dims) → FitsCommand shape c

-- a first state is in range
abbrev pub IsStart : Start → Type 0
IsStart (Init first) = IsKeptState first
IsStart (Act t) = IsTodo t
