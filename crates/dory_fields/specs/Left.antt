-- What a reader has left.
use Rattle.std.specs.Prelude.{ℕ, List}

-- how many bytes there are in all, and those that are still to be read
pub record Left : Type 0 where
  pub total : ℕ
  pub rest : List ℕ
