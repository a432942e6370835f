-- How a call's end is printed, and its exit status.
use Rattle.std.specs.Prelude.{ℕ, List, ◌++◌, codes}
use Rattle.std.specs.Fmt.{decimal}
use Rattle.dory_base.specs.Texts.{id_text, side_text}
use Rattle.dory_cli.specs.Texts.{usage_text}
use Rattle.dory_state.specs.Texts.{state_fault_text as form_text}
use Rattle.dory_verify.specs.Texts.{check_text}
use Rattle.dory_member.specs.Texts.{mark_text}
use Rattle.dory_client.specs.declared.end.ClientEnd.{ClientEnd}
use Rattle.dory_client.specs.declared.end.ClientEnd.TheVariants as ends

-- how an end is printed
abbrev pub end_text : ClientEnd → List ℕ
end_text ends.Done = codes "done"
end_text (ends.Usage fault) = usage_text fault
end_text ends.NoState = codes "nostate"
end_text (ends.StateForm fault) = codes "stateform " ++ form_text fault
end_text ends.HasState = codes "hasstate"
end_text ends.KeeperFault = codes "keeperfault"
end_text (ends.LinkFault side) = codes "linkfault " ++ side_text side
end_text ends.InputFault = codes "inputfault"
end_text ends.InputLong = codes "inputlong"
end_text ends.OutputFault = codes "outputfault"
end_text (ends.Check fault) = check_text fault
end_text (ends.Unconfirmed side want got) = codes "unconfirmed " ++ side_text side ++ codes " " ++ mark_text want ++ codes " " ++ mark_text got
end_text (ends.Diverged number lead_id follow_id) = codes "diverged " ++ decimal number ++ codes " " ++ id_text lead_id ++ codes " " ++ id_text follow_id
end_text (ends.Unfinished id) = codes "unfinished " ++ id_text id
end_text ends.SerialEnd = codes "serialend"
end_text ends.EpochEnd = codes "epochend"
end_text ends.NoMemory = codes "nomemory"

-- the exit status of an end
abbrev pub status_of : ClientEnd → ℕ
status_of ends.Done = 0
status_of (ends.Usage fault) = 2
status_of ends.NoState = 3
status_of (ends.StateForm fault) = 3
status_of ends.HasState = 3
status_of ends.KeeperFault = 4
status_of (ends.LinkFault side) = 5
status_of ends.InputFault = 6
status_of ends.InputLong = 6
status_of ends.OutputFault = 7
status_of (ends.Check fault) = 8
status_of (ends.Unconfirmed side want got) = 9
status_of (ends.Diverged number lead_id follow_id) = 9
status_of (ends.Unfinished id) = 10
status_of ends.SerialEnd = 11
status_of ends.NoMemory = 12
status_of ends.EpochEnd = 16
