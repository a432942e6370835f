use Rattle.std.proofs.Common.{◌≡◌, List, arith, ap, ◌∙◌, rules}
use Rattle.std.specs.List.{remove}
use Rattle.dory_shared.specs.Seen.{Seen, names_of}
use Rattle.dory_shared.proofs.SeatLists.{first_named, rest_named}
use Rattle.dory_shared.proofs.locks.locked.Goals as goal

pub over-requires : goal.over-requires
over-requires g c = (omega arith, first_named g.J.Names.names g.row.I c.args.cabinets.now.items c.remove.result c.requires (search rules) (search rules))

pub returns-clause-rest : goal.returns-clause-rest
returns-clause-rest g c =
    let left : c.remove.new.self.items ≡ remove c.args.cabinets.now.items 0 = search rules in
    ap names_of left ∙ rest_named g.J.Names.names g.row.I c.args.cabinets.now.items c.requires (search rules)
