-- How a fault of kept bytes is printed.
use Rattle.std.specs.Prelude.{ℕ, List, ◌++◌, codes}
use Rattle.std.specs.Fmt.{decimal}
use Rattle.dory_state.specs.declared.fault.StateFault.{StateFault}
use Rattle.dory_state.specs.declared.fault.StateFault.TheVariants as fault

-- the fault's name in lower case, and its number after a space
abbrev pub state_fault_text : StateFault → List ℕ
state_fault_text fault.Header = codes "header"
state_fault_text (fault.Length got) = codes "length " ++ decimal got
state_fault_text (fault.Field at) = codes "field " ++ decimal at
state_fault_text fault.NoMemory = codes "nomemory"
