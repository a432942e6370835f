-- What a word is searched by.
use Rattle.std.specs.Prelude.{ℕ, List}
use Rattle.dory_hmac.specs.declared.folder_keys.FolderKeys.{FolderKeys}
use Rattle.dory_bloom.specs.Positions.{positions_of}
use Rattle.dory_dpf.specs.PointKey.{PointKey}
use Rattle.dory_query.specs.Drawn.{keys_from}
use Rattle.dory_base.specs.declared.ids.AskId.{AskId}
use Rattle.dory_drive.specs.Pair.{SearchPair, by_side}
use Rattle.dory_wire.specs.declared.message.Want.{Want}
use Rattle.dory_wire.specs.declared.message.Want.TheVariants.{Search}
use Rattle.dory_wire.specs.declared.message.Request.{Request}
use Rattle.dory_state.specs.declared.kept.KeptState.{KeptState}
use Rattle.dory_member.specs.Course.{folder_keys}

-- the folder's keys, the word's columns, and the point keys that the lead and the follower are sent
pub record Sought : Type 0 where
  pub keys : FolderKeys
  pub columns : List ℕ
  pub lead : List PointKey
  pub follow : List PointKey

-- the columns of a word in a state's folder
abbrev pub sought_columns : KeptState → List ℕ → List ℕ
sought_columns state word = positions_of (folder_keys state) state.shape word

-- what a word is searched by in a state's folder: the seed and the next serial draw the keys of party 0 for the lead,
-- and those of party 1 for the follower
abbrev pub sought_of : KeptState → List ℕ → List ℕ → Sought
sought_of state seed word = record {
  keys = folder_keys state;
  columns = sought_columns state word;
  lead = keys_from 0 state.shape.depth seed state.next_serial 0 (sought_columns state word);
  follow = keys_from 1 state.shape.depth seed state.next_serial 0 (sought_columns state word);
}

-- the name of a step's ask, in a command that draws the next serial of this state
abbrev pub ask_of : KeptState → ℕ → AskId
ask_of state step = record { member = state.member; serial = state.next_serial; step = step }

-- what is asked at a step of the state's folder
abbrev pub step_request : KeptState → ℕ → Want → Request
step_request state step want = record { ask = ask_of state step; folder = state.folder; want = want }

-- a search at a version
abbrev pub searching : KeptState → ℕ → ℕ → List PointKey → Request
searching state step version keys = step_request state step (Search version state.shape keys)

-- the pair of a search at a version: its asks are those at steps 2 and 3, after the two for the lengths
abbrev pub pair_of : KeptState → List ℕ → List ℕ → ℕ → SearchPair
pair_of state seed word version = record {
  folder = state.folder;
  keys = folder_keys state;
  shape = state.shape;
  word = word;
  version = version;
  ask = by_side (ask_of state 2) (ask_of state 3);
  sent = by_side (sought_of state seed word).lead (sought_of state seed word).follow;
}
