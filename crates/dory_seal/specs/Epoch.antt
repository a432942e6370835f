-- The epochs of a member's serials, each with a mask key and a tag key of its own.
use Rattle.std.specs.Prelude.{ℕ, zero, suc, ◌/◌, ◌^◌, List, [], ◌∷◌, ◌++◌, codes}
use Rattle.dory_base.specs.declared.ids.UpdateId.{UpdateId}
use Rattle.dory_hmac.specs.Hmac.{hmac}
use Rattle.dory_hmac.specs.declared.folder_keys.FolderKeys.{FolderKeys}

-- the epoch of an update: the highest byte of its serial
abbrev pub epoch_of : UpdateId → ℕ
epoch_of id = id.serial / 2 ^ 56

-- a key in an epoch: itself in epoch 0, and in a later one its HMAC of a label and the epoch in one byte
unfoldable pub epoch_key : ℕ → List ℕ → List ℕ
epoch_key zero key = key
epoch_key (suc before) key = hmac key (codes "dory epoch" ++ suc before ∷ [])

-- the key that the mask bits of an epoch are made with
abbrev pub mask_key_of : FolderKeys → ℕ → List ℕ
mask_key_of keys epoch = epoch_key epoch keys.mask

-- the key that the cell tags of an epoch are made with
abbrev pub tag_key_of : FolderKeys → ℕ → List ℕ
tag_key_of keys epoch = epoch_key epoch keys.tag

-- a folder's keys, and the epoch that they are used in
pub record KeysIn : Type 0 where
  pub keys : FolderKeys
  pub epoch : ℕ
