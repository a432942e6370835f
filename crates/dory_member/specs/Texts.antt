-- How an outcome is printed.
use Rattle.std.specs.Prelude.{ℕ, List, ◌∷◌, ◌++◌, codes}
use Rattle.std.specs.List.{flat_map}
use Rattle.std.specs.Fmt.{decimal}
use Rattle.dory_base.specs.Texts.{side_text, id_text}
use Rattle.dory_base.specs.declared.ids.DocId.{DocId}
use Rattle.dory_verify.specs.Texts.{check_text}
use Rattle.dory_member.specs.declared.outcome.Mark.{Mark}
use Rattle.dory_member.specs.declared.outcome.Fault.{Fault}
use Rattle.dory_member.specs.declared.outcome.Fault.TheVariants as fault
use Rattle.dory_member.specs.declared.outcome.Outcome.{Outcome}
use Rattle.dory_member.specs.declared.outcome.Outcome.TheVariants.{Posted, Removed, Accepted, NothingPending, Lengths, Rotated, Failed}

-- a number and an update
abbrev pub mark_text : Mark → List ℕ
mark_text m = decimal m.number ++ codes " " ++ id_text m.id

-- a fault: its name in lower case, and its values, each after a space
abbrev pub command_fault_text : Fault → List ℕ
command_fault_text (fault.Check f) = check_text f
command_fault_text (fault.Unconfirmed side want got) = codes "unconfirmed " ++ side_text side ++ codes " " ++ mark_text want ++ codes " " ++ mark_text got
command_fault_text (fault.Diverged number lead_id follow_id) = codes "diverged " ++ decimal number ++ codes " " ++ id_text lead_id ++ codes " " ++ id_text follow_id
command_fault_text (fault.Unfinished id) = codes "unfinished " ++ id_text id
command_fault_text fault.SerialEnd = codes "serialend"
command_fault_text fault.EpochEnd = codes "epochend"
command_fault_text fault.NoMemory = codes "nomemory"

-- the documents, each after a space
abbrev pub docs_text : List DocId → List ℕ
docs_text docs = flat_map (λ doc. 32 ∷ decimal doc.0) docs

-- an outcome
unfoldable pub text_of_outcome : Outcome → List ℕ
text_of_outcome (Posted doc number) = codes "posted " ++ decimal doc.0 ++ codes " at " ++ decimal number
text_of_outcome (Removed doc number) = codes "removed " ++ decimal doc.0 ++ codes " at " ++ decimal number
text_of_outcome (Accepted answer) = codes "version " ++ decimal answer.version ++ codes ":" ++ docs_text answer.docs
text_of_outcome NothingPending = codes "nothing pending"
text_of_outcome (Lengths lead follow seen) = codes "lead " ++ decimal lead ++ codes " follow " ++ decimal follow ++ codes " seen " ++ decimal seen
text_of_outcome (Rotated epoch) = codes "epoch " ++ decimal epoch
text_of_outcome (Failed f) = command_fault_text f
