use Rattle.dory_shelf.proofs.Shelving.{admits}
use Rattle.dory_shelf.proofs.reader.vacant.Goals as goal

pub reader-requires : goal.reader-requires
reader-requires c = admits
