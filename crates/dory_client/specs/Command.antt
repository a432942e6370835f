-- Which command a member runs, by its kept state and by what the input had.
use Rattle.std.specs.Prelude.{ℕ, ◌≡◌, ◌≤◌, ◌⊎◌, Bool, List, [], length, Result, Ok, Err}
use Rattle.dory_bloom.specs.PlainRow.{plain_row_of}
use Rattle.dory_words.specs.WordsIn.{words_in}
use Rattle.dory_state.specs.declared.kept.KeptState.{KeptState}
use Rattle.dory_base.specs.declared.ids.DocId.{DocId}
use Rattle.dory_member.specs.declared.command.Command.{Command}
use Rattle.dory_member.specs.declared.command.Command.TheVariants as command
use Rattle.dory_member.specs.declared.outcome.Fault.{Fault}
use Rattle.dory_member.specs.Course.{begun, folder_keys}
use Rattle.dory_client.specs.declared.input.InputEnd.{InputEnd}
use Rattle.dory_client.specs.declared.start.Todo.{Todo}
use Rattle.dory_client.specs.declared.start.Todo.TheVariants.{Post, Plain}
use Rattle.dory_client.specs.declared.end.ClientEnd.{ClientEnd}
use Rattle.dory_client.specs.declared.end.ClientEnd.TheVariants as ends
use Rattle.dory_client.specs.Ends.{fault_end, input_end}
use Rattle.dory_client.specs.Input.{IsNoText, text_limit}
use Rattle.dory_io.specs.Bytes.{BytesRead, IsOver}
use Rattle.dory_client.specs.Scene.{Input, IsUnread}
use Rattle.dory_client.specs.Start.{command_of}

-- the input was read to its end, and this is its text
pub record WasText (input input' : Input) (text : List ℕ) : Type 0 where
  pub came : BytesRead input.left input'.left input.given input'.given text
  pub few : length text ≤ text_limit
  pub over : IsOver input.left input'.left

-- the row of the text that the input had, or why there is none
abbrev pub HasRow : KeptState → Input → Input → Result (List Bool) ClientEnd → Type 0
HasRow k input input' (Ok row) = (text : List ℕ) × WasText input input' text × (row ≡ plain_row_of (folder_keys k) k.shape (words_in text))
HasRow k input input' (Err end) =
    ((e : InputEnd) × IsNoText input.left input'.left input.given input'.given e × (end ≡ input_end e))
    ⊎ ((text : List ℕ) × WasText input input' text × (end ≡ ends.NoMemory))

-- no post is refused in this state, whatever its row is
abbrev pub MayPost : KeptState → Type 0
MayPost k = (seed : List ℕ) (doc : DocId) (row : List Bool) (f : Fault) → ¬ (begun k seed (command.Post doc row) ≡ Err f)

-- only a post that isn't refused reads the input
abbrev pub HasText : KeptState → Todo → Input → Input → List ℕ → Type 0
HasText k (Post doc) input input' text = MayPost k × WasText input input' text
HasText k (Plain c) input input' text = IsUnread input input'

-- the input was to be read, and this is why there is no text
abbrev pub HasNoText : KeptState → Todo → Input → Input → InputEnd → Type 0
HasNoText k (Post doc) input input' e = MayPost k × IsNoText input.left input'.left input.given input'.given e
HasNoText k (Plain c) input input' e = ⊥

-- why there is no command
pub data NoCommand (k : KeptState) (t : Todo) (input input' : Input) (end : ClientEnd) : Type 0 where
  -- it is refused, whatever the input is
  Refused : (f : Fault) → ((seed : List ℕ) → begun k seed (command_of k [] t) ≡ Err f) → IsUnread input input' → end ≡ fault_end f
      → NoCommand k t input input' end
  -- the input failed or is too long, or memory ran out
  NoText : (e : InputEnd) → HasNoText k t input input' e → end ≡ input_end e → NoCommand k t input input' end
  -- memory ran out after the text was read
  NoRoom : (text : List ℕ) → HasText k t input input' text → end ≡ ends.NoMemory → NoCommand k t input input' end

-- the command of what the input had, or why there is none
abbrev pub HasCommand : KeptState → Todo → Input → Input → Result Command ClientEnd → Type 0
HasCommand k t input input' (Ok c) = (text : List ℕ) × HasText k t input input' text × (c ≡ command_of k text t)
HasCommand k t input input' (Err end) = NoCommand k t input input' end
