-- Folders are read word by word.
use Rattle.std.proofs.Common.{◌≡◌, ◌≤◌, ◌-◌, List, [], ◌∷◌, ◌++◌, Result, Ok, Err, String, Global, map, drop, take, length, string_bytes, refl, sym, ap, ◌∙◌, take_all, length-drop, arith}
use Rattle.std.proofs.lemmas.List.{drop-map}
use Rattle.dory_domain.specs.declared.config.FolderConfig.{FolderConfig}
use Rattle.dory_server.specs.declared.line.ServerWords.{ServerWords}

-- these folders, and then those that are read
abbrev pub after : List FolderConfig → Result (List FolderConfig) ServerWords → Result (List FolderConfig) ServerWords
after first (Ok rest) = Ok (first ++ rest)
after first (Err e) = Err e

none_left : {A : Type 0} (xs : List A) → length xs ≤ 3 → drop 3 xs ≡ []
none_left [] few = refl
none_left (a ∷ []) few = refl
none_left (a ∷ b ∷ []) few = refl
none_left (a ∷ b ∷ c ∷ []) few = refl
none_left (a ∷ b ∷ c ∷ d ∷ xs) few = absurd (omega (arith, few))

-- at most three words name no folder
pub no_folders : (words : List (String Global)) → length words ≤ 3 → [] ≡ drop 3 (map string_bytes words)
no_folders words few = sym (drop-map string_bytes 3 words ∙ ap (map string_bytes) (none_left words few))

-- the words behind the third
pub later_words : (words : List (String Global)) → map string_bytes (take (length words - 3) (drop 3 words)) ≡ drop 3 (map string_bytes words)
later_words words = ap (map string_bytes) (take_all (length words - 3) (drop 3 words) (omega (arith, length-drop 3 words))) ∙ sym (drop-map string_bytes 3 words)
