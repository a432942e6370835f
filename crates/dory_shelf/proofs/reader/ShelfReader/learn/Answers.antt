use Rattle.dory_shelf.proofs.Growing.{grew_trans}
use Rattle.dory_shelf.proofs.reader.ShelfReader.learn.Goals as goal

pub invariant_of-self : goal.invariant_of-self
invariant_of-self c =
    let s = c.self.invariant in
    let t = s.2 in
    (s.0, s.1, (t.0, t.1, grew_trans t.0.known c.self.inside.front c.longer.result t.2 c.longer.ensures.this))
