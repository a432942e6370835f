-- The documents that a search has to list.
use Rattle.std.specs.Prelude.{ℕ, Bool, false, List, filter, map, Contains, slice_index_or}
use Rattle.std.specs.List.{list_all}
use Rattle.std.specs.List.Sorted.{IsStrictlyIncreasing}
use Rattle.dory_base.specs.declared.ids.DocId.{DocId}
use Rattle.dory_base.specs.declared.entry.Entry.{Entry}
use Rattle.dory_base.specs.History.{version_of}
use Rattle.dory_base.specs.Table.{Live, live_of, table_of}
use Rattle.dory_base.specs.Dims.{Dims}
use Rattle.dory_hmac.specs.declared.folder_keys.FolderKeys.{FolderKeys}
use Rattle.dory_seal.specs.Seal.{plain_of}
use Rattle.dory_bloom.specs.Positions.{positions_of}

-- the plain row is set at each of these columns
abbrev pub holds_all : FolderKeys → List ℕ → Live → Bool
holds_all keys columns l = list_all (λ column. slice_index_or (plain_of keys l.entry) column false) columns

-- the documents of a version whose plain rows are set at each of these columns, in the order of their slots
abbrev pub matching : FolderKeys → List Entry → ℕ → List ℕ → List ℕ
matching keys history number columns =
    map (λ l. l.entry.doc.0) (filter (holds_all keys columns) (live_of (table_of (version_of number history))))

-- the same numbers, rising strictly
pub record IsRising (all docs : List ℕ) : Type 0 where
  pub rising : IsStrictlyIncreasing docs
  pub none_else : (doc : ℕ) → Contains docs doc → Contains all doc
  pub each : (doc : ℕ) → Contains all doc → Contains docs doc

-- the documents' numbers
abbrev pub numbers : List DocId → List ℕ
numbers docs = map (λ d. d.0) docs

-- The answer to a word at a version, under a folder's keys and in its shape: the ascending list of the documents whose
-- plain rows at that version are set at every position of the word, the Bloom filter's false positives among them.
abbrev pub IsAnswer : FolderKeys → Dims → List Entry → ℕ → List ℕ → List DocId → Type 0
IsAnswer keys shape history number word docs = IsRising (matching keys history number (positions_of keys shape word)) (numbers docs)
