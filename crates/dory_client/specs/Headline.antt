-- What an accepted search says.
use Rattle.std.specs.Prelude.{ℕ, ◌≡◌, List, Some, Ok}
use Rattle.std.specs.Io.KnownBytes.{Appends}
use Rattle.dory_io.specs.Bytes.{Tells}
use Rattle.dory_verify.specs.declared.answer.Answer.{Answer}
use Rattle.dory_cli.specs.Line.{line_of as read_of}
use Rattle.dory_cli.specs.declared.line.Line.TheVariants.{Search}
use Rattle.dory_state.specs.declared.kept.KeptState.{KeptState}
use Rattle.dory_state.specs.Reading.{state_of}
use Rattle.dory_member.specs.declared.outcome.Outcome.TheVariants.{Accepted}
use Rattle.dory_drive.specs.Pair.{RightPair}
use Rattle.dory_drive.specs.Scene.{Scene, heard_at}
use Rattle.dory_client.specs.CommandEnds.{outcome_line}
use Rattle.dory_client.specs.Sought.{pair_of}

-- An answer in this state to a search of this word. A frame came to each domain's search at the answer's version, which
-- isn't older than what was seen. By each link that tells its folders, the version was committed in a history between
-- those before and after the call, and where the entries up to it are sealed under the folder's keys, either the answer
-- lists exactly the documents whose rows at that version hold all the word's bits, and the other domain's frame is an
-- honest one's (this version, its manifest, and no bit flipped), or that frame is the forgery. Where the other link tells
-- its exchanges, the frame is the one that it tells to have come to this search; where it tells none, it may be any.
abbrev pub IsRightAnswer : KeptState → List ℕ → List ℕ → Answer → Scene → Scene → Type 0
IsRightAnswer k seed word answer before after =
    RightPair (pair_of k seed word answer.version) k.seen answer (λ side. heard_at side before) (λ side. heard_at side after)

-- A search that was accepted in this state: its answer is right, and was written.
pub record Accepts (k : KeptState) (seed word : List ℕ) (before after : Scene) : Type 0 where
  pub answer : Answer
  pub right : IsRightAnswer k seed word answer before after
  pub written : Appends before.written after.written (outcome_line (Accepted answer))

-- where the words are a search, it was accepted in the state that is kept
abbrev pub IsAccepted : List (List ℕ) → List ℕ → Scene → Scene → Type 0
IsAccepted words seed before after = (word : List ℕ) → read_of words ≡ Ok (Search word)
    → (bytes : List ℕ) × (k : KeptState) × Tells before.kept (Some bytes) × (state_of bytes ≡ Ok k) × Accepts k seed word before after
