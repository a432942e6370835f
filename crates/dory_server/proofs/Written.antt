-- What is written where nothing is.
use Rattle.std.proofs.Common.{ℕ, List, [], Option, Some, None, sym, append-nil}
use Rattle.std.specs.Io.KnownBytes.{Appends}

pub appends_nothing : (written : Option (List ℕ)) → Appends written written []
appends_nothing None = tt
appends_nothing (Some xs) = sym (append-nil xs)
