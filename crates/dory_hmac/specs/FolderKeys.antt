-- The three keys of a folder.
use Rattle.std.specs.Prelude.{ℕ, List, ◌++◌, codes}
use Rattle.std.specs.Int.{w32, to_be_bytes}
use Rattle.dory_hmac.specs.Hmac.{hmac}
use Rattle.dory_hmac.specs.declared.folder_keys.FolderKeys.{FolderKeys}

-- Each key is HMAC under the master key of its label and the folder's number, which is written in four
-- bytes with the highest first.
abbrev pub keys_of : List ℕ → ℕ → FolderKeys
keys_of master folder = record {
  word = hmac master (codes "dory word" ++ to_be_bytes w32 folder);
  mask = hmac master (codes "dory mask" ++ to_be_bytes w32 folder);
  tag = hmac master (codes "dory tag" ++ to_be_bytes w32 folder);
}
