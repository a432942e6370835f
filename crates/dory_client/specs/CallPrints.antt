-- What is written by each end of a call.
use Rattle.std.specs.Prelude.{ℕ, List, [], ◌∷◌, ◌++◌, Option}
use Rattle.std.specs.Io.KnownBytes.{Appends}
use Rattle.dory_io.specs.Bytes.{Stays}
use Rattle.dory_io.specs.Output.{AppendsLess}
use Rattle.dory_client.specs.declared.end.ClientEnd.{ClientEnd}
use Rattle.dory_client.specs.Ends.{EndKind, Whole, Torn, Faulty, Stopped, kind_of}

-- what is written at an end of this kind
abbrev pub KindPrints : EndKind → Option (List ℕ) → Option (List ℕ) → Type 0
KindPrints Whole before now = (text : List ℕ) × Appends before now (text ++ 10 ∷ [])
KindPrints Torn before now = (text : List ℕ) × AppendsLess before now (text ++ 10 ∷ [])
KindPrints Faulty before now = Stays before now
KindPrints Stopped before now = Stays before now

-- a line where the call is done, the first part of one where the output failed, and nothing at any other end
abbrev pub CallPrints : ClientEnd → Option (List ℕ) → Option (List ℕ) → Type 0
CallPrints end before now = KindPrints (kind_of end) before now
