-- How ids, sides and refusals are printed.
use Rattle.std.specs.Prelude.{ℕ, ◌/◌, ◌%◌, false, List, [], ◌∷◌, ◌++◌, codes}
use Rattle.std.specs.List.{flat_map}
use Rattle.std.specs.Fmt.{decimal, digit_glyph}
use Rattle.dory_base.specs.TagBytes.{tag_bytes}
use Rattle.dory_base.specs.declared.ids.Side.{Side}
use Rattle.dory_base.specs.declared.ids.Side.TheVariants.{Lead, Follow}
use Rattle.dory_base.specs.declared.ids.UpdateId.{UpdateId}
use Rattle.dory_base.specs.declared.ids.AskId.{AskId}
use Rattle.dory_base.specs.declared.refusal.Refusal.{Refusal}
use Rattle.dory_base.specs.declared.refusal.Refusal.TheVariants.{NoFolder, ShapeWrong, Unretained, BadMember, Past, Clash, Unfinished, Unstaged, Taken, Gap, WrongRole, HistoryFull, NoEntry, NoMemory}

-- `lead` or `follow`
abbrev pub side_text : Side → List ℕ
side_text Lead = codes "lead"
side_text Follow = codes "follow"

-- an update as `member.serial`
abbrev pub id_text : UpdateId → List ℕ
id_text i = decimal i.member.0 ++ codes "." ++ decimal i.serial

-- an ask as `member.serial.step`
abbrev pub ask_text : AskId → List ℕ
ask_text a = decimal a.member.0 ++ codes "." ++ decimal a.serial ++ codes "." ++ decimal a.step

-- a byte as two lower-case hexadecimal digits
abbrev pub byte_text : ℕ → List ℕ
byte_text b = digit_glyph false (b / 16) ∷ digit_glyph false (b % 16) ∷ []

-- a tag as its sixteen bytes
unfoldable pub tag_text : ℕ → List ℕ
tag_text tag = flat_map byte_text (tag_bytes tag)

-- a refusal: its name in lower case, and its fields, each after a space
abbrev pub refusal_text : Refusal → List ℕ
refusal_text NoFolder = codes "nofolder"
refusal_text (ShapeWrong depth probes) = codes "shapewrong " ++ decimal depth ++ codes " " ++ decimal probes
refusal_text (Unretained oldest newest) = codes "unretained " ++ decimal oldest ++ codes " " ++ decimal newest
refusal_text (BadMember member) = codes "badmember " ++ decimal member.0
refusal_text (Past last) = codes "past " ++ decimal last
refusal_text (Clash id) = codes "clash " ++ id_text id
refusal_text (Unfinished id) = codes "unfinished " ++ id_text id
refusal_text (Unstaged id) = codes "unstaged " ++ id_text id
refusal_text (Taken number id) = codes "taken " ++ decimal number ++ codes " " ++ id_text id
refusal_text (Gap length) = codes "gap " ++ decimal length
refusal_text (WrongRole role) = codes "wrongrole " ++ side_text role
refusal_text HistoryFull = codes "historyfull"
refusal_text (NoEntry length) = codes "noentry " ++ decimal length
refusal_text NoMemory = codes "nomemory"
