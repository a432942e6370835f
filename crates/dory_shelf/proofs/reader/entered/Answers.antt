use Rattle.dory_shelf.proofs.Shelving.{enters}
use Rattle.dory_shelf.proofs.reader.entered.Goals as goal

pub enter_as-requires : goal.enter_as-requires
enter_as-requires c x = enters _ _ x
