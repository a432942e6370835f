-- One pair of a search: a word is searched at one version of a folder in both domains, of each by keys of its own.
use Rattle.std.specs.Prelude.{ℕ, ◌≤◌, ◌^◌, ⊤, Bool, List, Option, Some, None, Ok, length, map}
use Rattle.std.specs.List.{AllByRecursion}
use Rattle.dory_base.specs.Dims.{Dims}
use Rattle.dory_base.specs.History.{IsPrefix, version_of}
use Rattle.dory_base.specs.declared.entry.Entry.{Entry}
use Rattle.dory_base.specs.declared.ids.AskId.{AskId}
use Rattle.dory_base.specs.declared.ids.FolderId.{FolderId}
use Rattle.dory_base.specs.declared.ids.Side.{Side}
use Rattle.dory_base.specs.declared.ids.Side.TheVariants.{Lead, Follow}
use Rattle.dory_hmac.specs.declared.folder_keys.FolderKeys.{FolderKeys}
use Rattle.dory_bloom.specs.Positions.{positions_of}
use Rattle.dory_seal.specs.Seal.{IsSealed}
use Rattle.dory_dpf.specs.PointKey.{PointKey, shares_of}
use Rattle.dory_query.specs.Pairs.{ArePairs}
use Rattle.dory_wire.specs.declared.message.Request.{Request}
use Rattle.dory_wire.specs.declared.message.Want.TheVariants.{Search}
use Rattle.dory_link.specs.Told.{Heard, Told}
use Rattle.dory_verify.specs.Checks.{Verifies, first_fault_of}
use Rattle.dory_verify.specs.Honest.{IsRightOrForged}
use Rattle.dory_verify.specs.declared.answer.Answer.{Answer}
use Rattle.dory_drive.specs.Asked.{FrameCame}

-- what is searched, and for each side the name of its ask and the keys that it is sent
pub record SearchPair : Type 0 where
  pub folder : FolderId
  pub keys : FolderKeys
  pub shape : Dims
  pub word : List ℕ
  pub version : ℕ
  pub ask : Side → AskId
  pub sent : Side → List PointKey

-- one thing for each side
abbrev pub by_side : {A : Type 0} → A → A → Side → A
by_side lead follow Lead = lead
by_side lead follow Follow = follow

-- the other side
abbrev pub other : Side → Side
other Lead = Follow
other Follow = Lead

-- what the domain of a side is asked
abbrev pub request_of : SearchPair → Side → Request
request_of p side = record { ask = p.ask side; folder = p.folder; want = Search p.version p.shape (p.sent side) }

-- the columns of the word
abbrev pub columns_of : SearchPair → List ℕ
columns_of p = positions_of p.keys p.shape p.word

-- the shares of the keys that a side is sent
abbrev pub shares_at : SearchPair → Side → List (List Bool)
shares_at p side = map shares_of (p.sent side)

-- the keys of both sides are point pairs at the word's columns
abbrev pub IsPaired : SearchPair → Type 0
IsPaired p = ArePairs (2 ^ p.shape.depth) (columns_of p) (shares_at p Lead) (shares_at p Follow)

-- what came fails no check of a member that has seen so much, and this is its answer
abbrev pub IsVerified : SearchPair → ℕ → (Side → List ℕ) → Answer → Type 0
IsVerified p seen came answer =
    Verifies p.keys (columns_of p) p.version (Ok answer)
    (first_fault_of p.keys (columns_of p) p.version seen (p.ask Lead) (p.ask Follow) (came Lead) (came Follow))

-- By a history between those told before and now, the answer is right beside this frame of the other side: the version was
-- committed, and where the entries up to it are sealed under the folder's keys, either the documents are exactly those
-- whose rows at the version hold all the word's bits, and the frame is what an honest domain finds there for its shares
-- (this version, its manifest, and no bit flipped), or the frame is the forgery.
pub record IsRight (p : SearchPair) (beside : Side) (frame : List ℕ) (answer : Answer) (before now : Told) : Type 0 where
  pub history : List Entry
  pub later : IsPrefix before.history history
  pub earlier : IsPrefix history now.history
  pub committed : p.version ≤ length history
  pub exact : AllByRecursion (IsSealed p.keys) (version_of p.version history)
      → IsRightOrForged p.keys p.shape history p.version p.word (columns_of p) (shares_at p beside) frame answer.docs

-- the same where the folder is there; there is no answer of a folder that isn't
abbrev pub IsRightOf : SearchPair → Side → List ℕ → Answer → Option Told → Option Told → Type 0
IsRightOf p beside frame answer (Some before) (Some now) = IsRight p beside frame answer before now
IsRightOf p beside frame answer _ _ = ⊥

-- the same where the link tells its folders
abbrev pub IsRightBy : SearchPair → Side → List ℕ → Answer → Option (ℕ → Option Told) → Option (ℕ → Option Told) → Type 0
IsRightBy p beside frame answer None None = ⊤
IsRightBy p beside frame answer (Some before) (Some now) = IsRightOf p beside frame answer (before p.folder.0) (now p.folder.0)
IsRightBy p beside frame answer _ _ = ⊥

-- A pair that was answered between two moments of both links: a frame came to each side's request, the version isn't
-- older than what was seen, and by each side's link that tells its folders the answer is right, or the other side's frame
-- is the forgery.
pub record RightPair (p : SearchPair) (seen : ℕ) (answer : Answer) (before after : Side → Heard) : Type 0 where
  pub frames : Side → List ℕ
  pub came : (side : Side) → FrameCame (before side) (after side) (request_of p side) (frames side)
  pub fresh : seen ≤ p.version
  pub right : (side : Side) → IsRightBy p (other side) (frames (other side)) answer (before side).folders (after side).folders
