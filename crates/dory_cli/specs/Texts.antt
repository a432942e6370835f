-- How a fault of a command line is printed.
use Rattle.std.specs.Prelude.{List, ℕ, ◌++◌, codes}
use Rattle.dory_cli.specs.declared.fault.NumberField.{NumberField}
use Rattle.dory_cli.specs.declared.fault.NumberField.TheVariants as field
use Rattle.dory_cli.specs.declared.fault.UsageFault.{UsageFault}
use Rattle.dory_cli.specs.declared.fault.UsageFault.TheVariants as fault

-- the name of a number
abbrev pub field_text : NumberField → List ℕ
field_text field.Folder = codes "folder"
field_text field.Member = codes "member"
field_text field.Depth = codes "depth"
field_text field.Probes = codes "probes"
field_text field.Serial = codes "serial"
field_text field.Doc = codes "doc"

-- a fault: `usage`, its name in lower case, and the number's name where it is one
abbrev pub usage_text : UsageFault → List ℕ
usage_text fault.NoCommand = codes "usage nocommand"
usage_text fault.Unknown = codes "usage unknown"
usage_text fault.Words = codes "usage words"
usage_text (fault.Number field) = codes "usage number " ++ field_text field
usage_text fault.Master = codes "usage master"
usage_text fault.Word = codes "usage word"
usage_text fault.NoMemory = codes "nomemory"
