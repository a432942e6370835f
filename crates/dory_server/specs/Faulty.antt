-- What is wrong with which word, where the words of a server's command line are no configuration.
use Rattle.std.specs.Prelude.{ℕ, ◌==◌, ◌||◌, List, drop, codes, slice_get, is_some, is_none, Option, Some, None, if◌then◌else◌}
use Rattle.dory_io.specs.Address.{between_colons, number_at}
use Rattle.dory_domain.specs.declared.config.ConfigFault.TheVariants as config
use Rattle.dory_server.specs.declared.end.ServerEnd.{ServerEnd}
use Rattle.dory_server.specs.declared.end.ServerEnd.TheVariants.{Usage, BadConfig, PlaceRefused, NoThreads, BindFault, OutputFault, Sessions, AcceptFault, NoMemory}
use Rattle.dory_server.specs.declared.faulty.WordFault.{WordFault}
use Rattle.dory_server.specs.declared.faulty.WordFault.TheVariants as fault

-- what is wrong with a folder's parts, by the first that is: there are three or four, and three of them are numbers in range
abbrev pub parts_fault_of : List (List ℕ) → WordFault
parts_fault_of texts =
    if is_none (slice_get texts 2) || is_some (slice_get texts 4) then fault.Parts
    else if is_none (number_at 0 0 4294967295 texts) then fault.Number
    else if is_none (number_at 1 8 11 texts) then fault.Depth
    else if is_none (number_at 2 1 8 texts) then fault.Probes
    else fault.Retained

-- what is wrong with a folder's word, or that it is absent
abbrev pub folder_fault_of : Option (List ℕ) → WordFault
folder_fault_of None = fault.Parts
folder_fault_of (Some word) = parts_fault_of (between_colons word)

-- what is wrong with the word at a place
abbrev pub fault_at : ℕ → List (List ℕ) → WordFault
fault_at at words =
    if at == 0 then fault.Role
    else if at == 1 then fault.Address
    else if at == 2 then fault.Seats
    else folder_fault_of (slice_get words at)

-- what is wrong with the word that an end is about
abbrev pub word_fault_of : List (List ℕ) → ServerEnd → Option WordFault
word_fault_of words (Usage at) = Some (fault_at at words)
word_fault_of words (BadConfig (config.Folders n)) = Some fault.Folders
word_fault_of words (BadConfig (config.FolderTwice place)) = Some fault.Twice
word_fault_of words (BadConfig (config.Retained place got)) = Some fault.Retained
word_fault_of words (BadConfig (config.Seats n)) = Some fault.Seats
word_fault_of words PlaceRefused = None
word_fault_of words NoThreads = None
word_fault_of words BindFault = None
word_fault_of words OutputFault = None
word_fault_of words Sessions = None
word_fault_of words AcceptFault = None
word_fault_of words NoMemory = None

-- the folder's word at a place of the list of folders, which begins behind the third word
abbrev pub folder_word : List (List ℕ) → ℕ → Option (List ℕ)
folder_word words place = slice_get (drop 3 words) place

-- the word that an end is about, where it is there: of too many folders the ninth
abbrev pub wrong_word_of : List (List ℕ) → ServerEnd → Option (List ℕ)
wrong_word_of words (Usage at) = slice_get words at
wrong_word_of words (BadConfig (config.Folders n)) = folder_word words 8
wrong_word_of words (BadConfig (config.FolderTwice place)) = folder_word words place
wrong_word_of words (BadConfig (config.Retained place got)) = folder_word words place
wrong_word_of words (BadConfig (config.Seats n)) = slice_get words 2
wrong_word_of words PlaceRefused = None
wrong_word_of words NoThreads = None
wrong_word_of words BindFault = None
wrong_word_of words OutputFault = None
wrong_word_of words Sessions = None
wrong_word_of words AcceptFault = None
wrong_word_of words NoMemory = None

-- which word it is
abbrev pub word_name : WordFault → List ℕ
word_name fault.Role = codes "role"
word_name fault.Address = codes "address"
word_name fault.Seats = codes "seats"
word_name fault.Parts = codes "folder"
word_name fault.Number = codes "folder"
word_name fault.Depth = codes "folder"
word_name fault.Probes = codes "folder"
word_name fault.Retained = codes "folder"
word_name fault.Twice = codes "folder"
word_name fault.Folders = codes "folder"

-- what the word should be
abbrev pub word_fault_text : WordFault → List ℕ
word_fault_text fault.Role = codes "a role is lead or follow"
word_fault_text fault.Address = codes "an address is IPv4 a.b.c.d:port"
word_fault_text fault.Seats = codes "seats are 1 to 32"
word_fault_text fault.Parts = codes "a folder is ID:DEPTH:PROBES or ID:DEPTH:PROBES:RETAINED"
word_fault_text fault.Number = codes "ID is 0 to 4294967295"
word_fault_text fault.Depth = codes "depth is 8 to 11"
word_fault_text fault.Probes = codes "probes are 1 to 8"
word_fault_text fault.Retained = codes "retained versions are 1 to 256"
word_fault_text fault.Twice = codes "this ID stands earlier too"
word_fault_text fault.Folders = codes "folders are 1 to 8"
