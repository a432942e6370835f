-- The columns of a search, one for each probe.
use Rattle.std.specs.Prelude.{ℕ, List, take}
use Rattle.dory_query.specs.declared.query.Query.{Query}

-- the columns without the zeros after them
abbrev pub asked_columns : Query → List ℕ
asked_columns q = take q.shape.probes q.word_columns
