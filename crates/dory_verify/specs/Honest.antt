-- What an honest domain replies to a search, and what is true beside it.
use Rattle.std.specs.Prelude.{ℕ, ◌≡◌, ◌⊎◌, ◌^◌, Bool, List, map, Some}
use Rattle.std.specs.List.{AllByRecursion}
use Rattle.dory_base.specs.Dims.{Dims}
use Rattle.dory_base.specs.declared.entry.Entry.{Entry}
use Rattle.dory_base.specs.declared.ids.AskId.{AskId}
use Rattle.dory_base.specs.declared.found.Found.{Found}
use Rattle.dory_base.specs.History.{IsHistory, version_of}
use Rattle.dory_base.specs.Sum.{sum_of}
use Rattle.dory_base.specs.Table.{table_of, manifest_of}
use Rattle.dory_bloom.specs.Positions.{positions_of}
use Rattle.dory_hmac.specs.declared.folder_keys.FolderKeys.{FolderKeys}
use Rattle.dory_seal.specs.Seal.{IsSealed}
use Rattle.dory_query.specs.Pairs.{ArePairs}
use Rattle.dory_wire.specs.declared.message.What.{What}
use Rattle.dory_wire.specs.declared.message.What.TheVariants.{Found as Finds}
use Rattle.dory_wire.specs.declared.message.Reply.{Reply}
use Rattle.dory_wire.specs.Reading.{reply_in}
use Rattle.dory_base.specs.declared.ids.DocId.{DocId}
use Rattle.dory_verify.specs.Answer.{IsAnswer}
use Rattle.dory_verify.specs.Forgery.{IsForgery}

-- the reply to an ask
abbrev pub reply : AskId → What → Reply
reply ask what = record { ask = ask; what = what }

-- the frame is a reply with this found
abbrev pub IsFoundIn : List ℕ → Found → Type 0
IsFoundIn frame f = (r : Reply) × (reply_in frame ≡ Some r) × (r.what ≡ Finds f)

-- what a version holds: its manifest, and a sum for each list of shares
abbrev pub found_by : List Entry → ℕ → List (List Bool) → Found
found_by history version shares =
    record {
      version = version;
      manifest = manifest_of (table_of (version_of version history));
      sums = map (sum_of (table_of (version_of version history))) shares;
    }

-- a search of a folder: a history whose entries up to the version are sealed, and for each position of the word a point
-- pair of shares
pub record IsSearch (keys : FolderKeys) (shape : Dims) (history : List Entry) (version : ℕ) (word columns : List ℕ) (lead follow : List (List Bool)) : Type 0 where
  pub history_is : IsHistory shape history
  pub sealed : AllByRecursion (IsSealed keys) (version_of version history)
  pub columns_are : columns ≡ positions_of keys shape word
  pub pairs : ArePairs (2 ^ shape.depth) columns lead follow

-- the documents are the answer, and the frame of the other domain, which was sent these shares, is what an honest one
-- would have found for them: this version, its manifest, and no bit flipped; or the frame is the forgery
abbrev pub IsRightOrForged : FolderKeys → Dims → List Entry → ℕ → List ℕ → List ℕ → List (List Bool) → List ℕ → List DocId → Type 0
IsRightOrForged keys shape history version word columns other frame docs =
    (IsAnswer keys shape history version word docs × IsFoundIn frame (found_by history version other))
    ⊎ ((f : Found) × IsFoundIn frame f × IsForgery keys history version columns other f.sums)
