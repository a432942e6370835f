-- The two numbers of a shape.
use Rattle.std.specs.Prelude.{ℕ, ◌≤◌, ◌==◌, ◌&&◌, ◌^◌, Bool}

-- the depth of the tree over a row's columns, and how many positions a word has
pub record Dims : Type 0 where
  pub depth : ℕ
  pub probes : ℕ

-- the ranges: a row has 256 to 2,048 columns, and a word 1 to 8 positions
pub record IsDims (d : Dims) : Type 0 where
  pub low : 8 ≤ d.depth
  pub high : d.depth ≤ 11
  pub some : 1 ≤ d.probes
  pub few : d.probes ≤ 8

-- how many columns a row of this shape has
abbrev pub column_count : Dims → ℕ
column_count shape = 2 ^ shape.depth

-- two shapes are one
abbrev pub same_shape : Dims → Dims → Bool
same_shape s t = (s.depth == t.depth) && (s.probes == t.probes)
