use Rattle.std.proofs.Common.{◌≡◌, Bool, List, length, ap, ◌∙◌, subst, arith}
use Rattle.std.proofs.lemmas.List.{length-map}
use Rattle.dory_dpf.specs.PointKey.{shares_of}
use Rattle.dory_domain.specs.Held.{IsHeld}
use Rattle.dory_domain.proofs.FoundLaws.{found_is, found_range}
use Rattle.dory_domain.proofs.folder.Folder.found.Goals as goal

pub returns-clause-value : goal.returns-clause-value
returns-clause-value g c =
    c.in_ok-found.ensures.value ∙ found_is c.args.self.now.state.history c.args.table.now.number c.args.keys.now c.args.table.now c.deref.result.now c.requires.newest c.requires.stands (c.deref.ensures.value ∙ c.in_ok-selectors.ensures.value)

pub returns-clause-range : goal.returns-clause-range
returns-clause-range g c =
    let held : IsHeld c.args.self.now = subst IsHeld c.self.view_is c.self.invariant.0 in
    let many : length c.deref.result.now ≡ length c.args.keys.now =
    ap (length {A = List Bool}) (c.deref.ensures.value ∙ c.in_ok-selectors.ensures.value) ∙ length-map c.args.keys.now shares_of in
    found_range c.args.self.now.state c.args.table.now.number c.args.table.now c.deref.result.now c.in_ok-found.found
    held.state held.named c.requires.newest c.requires.stands c.in_ok-found.ensures.kept (omega (arith, many, c.requires.keys.many, held.dims.few))
    c.in_ok-found.ensures.value c.in_ok-found.ensures.tags
