-- When two updates say the same: of one document, and with one change.
use Rattle.std.specs.Prelude.{◌==◌, ◌&&◌, Bool, true, false, nat_eq}
use Rattle.std.specs.Bool.{beq}
use lib.Pointwise.{pointwise}
use Rattle.dory_base.specs.Dims.{same_shape}
use Rattle.dory_base.specs.declared.entry.Entry.{Entry}
use Rattle.dory_base.specs.declared.entry.Change.{Change}
use Rattle.dory_base.specs.declared.entry.Change.TheVariants.{Post, Remove}

-- two posts with equal shapes, cells and tags, or two removals
abbrev pub is_same_change : Change → Change → Bool
is_same_change (Post shape row tags) (Post shape' row' tags') = same_shape shape shape' && pointwise beq row row' && pointwise nat_eq tags tags'
is_same_change (Post shape row tags) Remove = false
is_same_change Remove (Post shape row tags) = false
is_same_change Remove Remove = true

-- equal documents and equal changes; the ids aren't compared
abbrev pub is_same_update : Entry → Entry → Bool
is_same_update a b = (a.doc.0 == b.doc.0) && is_same_change a.change b.change
