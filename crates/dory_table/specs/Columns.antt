-- The columns for which a slot has a tag.
use Rattle.std.specs.Prelude.{ℕ, ◌<◌, length, Option, Some, None}
use Rattle.dory_base.specs.declared.entry.Entry.{Entry}
use Rattle.dory_base.specs.declared.entry.Change.{Change}
use Rattle.dory_base.specs.declared.entry.Change.TheVariants.{Post, Remove}

-- a post has a tag in this column
abbrev pub ReachesColumn : ℕ → Change → Type 0
ReachesColumn column (Post shape row tags) = column < length tags
ReachesColumn column Remove = Unit {0}

-- the slot is empty, or has a tag in this column
abbrev pub HasColumn : ℕ → Option Entry → Type 0
HasColumn column None = Unit {0}
HasColumn column (Some e) = ReachesColumn column e.change
