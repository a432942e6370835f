-- Why there is no command.
use Rattle.std.proofs.Common.{◌≡◌, ℕ, Bool, List, [], Ok, Err, refl, ap, inl, inr}
use Rattle.dory_bloom.specs.PlainRow.{plain_row_of}
use Rattle.dory_words.specs.WordsIn.{words_in}
use Rattle.dory_base.specs.declared.ids.DocId.{DocId}
use Rattle.dory_state.specs.declared.kept.KeptState.{KeptState}
use Rattle.dory_member.specs.declared.command.Command.TheVariants as command
use Rattle.dory_member.specs.declared.outcome.Fault.{Fault}
use Rattle.dory_member.specs.declared.phase.Run.{Run}
use Rattle.dory_member.specs.Course.{begun, folder_keys}
use Rattle.dory_client.specs.declared.start.Todo.TheVariants.{Post}
use Rattle.dory_client.specs.declared.end.ClientEnd.{ClientEnd}
use Rattle.dory_client.specs.Command.{HasCommand, HasRow, MayPost, NoCommand, Refused, NoText, NoRoom}
use Rattle.dory_client.specs.Ends.{fault_end}
use Rattle.dory_client.specs.Scene.{Input}

-- a post that is refused whatever its row is
pub refused_post : (k : KeptState) (doc : DocId) (i : Input) (f : Fault) → ((seed : List ℕ) (d : DocId) (row : List Bool) → begun k seed (command.Post d row) ≡ Err f) → NoCommand k (Post doc) i i (fault_end f)
refused_post k doc i f always = Refused f (λ seed. always seed doc (plain_row_of (folder_keys k) k.shape (words_in []))) refl refl

-- a post that has no row
pub no_row : (k : KeptState) (doc : DocId) (i i' : Input) (end : ClientEnd) → MayPost k → HasRow k i i' (Err end) → NoCommand k (Post doc) i i' end
no_row k doc i i' end may (inl (e, has, is)) = NoText e (may, has) is
no_row k doc i i' end may (inr (text, has, is)) = NoRoom text (may, has) is

-- a post that has a row
pub with_row : (k : KeptState) (doc : DocId) (i i' : Input) (row : List Bool) → MayPost k → HasRow k i i' (Ok row) → HasCommand k (Post doc) i i' (Ok (command.Post doc row))
with_row k doc i i' row may (text, has, is) = (text, (may, has), ap (λ (r : List Bool). command.Post doc r) is)

-- a post that is no fault whatever its row is
pub may_post : (k : KeptState) (run : List ℕ → DocId → List Bool → Run) → ((seed : List ℕ) (d : DocId) (row : List Bool) → begun k seed (command.Post d row) ≡ Ok (run seed d row)) → MayPost k
may_post k run begins seed d row f refused =
    let begun_so = begins seed d row in
    absurd cc
