-- How a failed check is printed.
use Rattle.std.specs.Prelude.{ℕ, List, ◌++◌, codes}
use Rattle.std.specs.Fmt.{decimal}
use Rattle.dory_base.specs.Texts.{side_text, ask_text, tag_text, refusal_text}
use Rattle.dory_verify.specs.declared.fault.CheckFault.{CheckFault}
use Rattle.dory_verify.specs.declared.fault.CheckFault.TheVariants as fault

-- the check's name in lower case, and its values, each after a space
abbrev pub check_text : CheckFault → List ℕ
check_text (fault.Form side at) = codes "form " ++ side_text side ++ codes " " ++ decimal at
check_text (fault.Echo side asked got) = codes "echo " ++ side_text side ++ codes " " ++ ask_text asked ++ codes " " ++ ask_text got
check_text (fault.Refused side code) = codes "refused " ++ side_text side ++ codes " " ++ refusal_text code
check_text (fault.Version side asked got) = codes "version " ++ side_text side ++ codes " " ++ decimal asked ++ codes " " ++ decimal got
check_text (fault.Stale side latest seen) = codes "stale " ++ side_text side ++ codes " " ++ decimal latest ++ codes " " ++ decimal seen
check_text (fault.Manifest place) = codes "manifest " ++ decimal place
check_text (fault.Count side got want) = codes "count " ++ side_text side ++ codes " " ++ decimal got ++ codes " " ++ decimal want
check_text (fault.TagSum probe got want) = codes "tagsum " ++ decimal probe ++ codes " " ++ tag_text got ++ codes " " ++ tag_text want
