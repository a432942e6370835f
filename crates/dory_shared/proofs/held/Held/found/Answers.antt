use Rattle.std.proofs.Common.{◌≡◌, ◌≤◌, ℕ, List, Bool, refl, length, map, ap, ◌∙◌, sym, subst, arith, rules}
use Rattle.std.proofs.lemmas.List.{length-map}
use Rattle.std.specs.Arc.{arc_value}
use Rattle.dory_base.specs.TableMeaning.{Kept as Table}
use Rattle.dory_base.specs.declared.found.Found.{Found}
use Rattle.dory_base.specs.declared.ids.Side.TheVariants.{Lead}
use Rattle.dory_dpf.specs.PointKey.{shares_of}
use Rattle.dory_scan.specs.Found.{found_in}
use Rattle.dory_wire.specs.Read.{found_of}
use Rattle.dory_domain.specs.Held.{IsHeld}
use Rattle.dory_domain.proofs.FoundLaws.{found_is, found_range}
use Rattle.dory_shelf.specs.Published.{Published, history_of}
use Rattle.dory_shared.specs.Seen.{Seen, folder_as, held_of}
use Rattle.dory_shared.specs.Reading.{Kept}
use Rattle.dory_shared.proofs.Holding.{held_seen}
use Rattle.dory_shared.proofs.Making.{retained_low, table_stands}
use Rattle.dory_shared.proofs.held.Held.found.Goals as goal

pub returns-clause-value : goal.returns-clause-value
returns-clause-value g c =
    let h : Published = c.self.inside.told in
    let n : ℕ = c.self.inside.number in
    let table : Table = arc_value c.self.inside.version in
    let selectors : List (List Bool) = map shares_of c.args.keys.now in
    let here : c.in_ok-found.found ≡ found_in table selectors = search rules in
    subst (λ (k : Kept). c.in_ok-found.found ≡ found_of (history_of k.known) k.number c.args.keys.now) c.self.view_is
    (here ∙ found_is (history_of h) n c.args.keys.now table selectors (retained_low h n c.self.invariant.1) (table_stands h n table c.self.invariant.2) refl)

pub returns-clause-range : goal.returns-clause-range
returns-clause-range g c =
    let h : Published = c.self.inside.told in
    let n : ℕ = c.self.inside.number in
    let table : Table = arc_value c.self.inside.version in
    let selectors : List (List Bool) = map shares_of c.args.keys.now in
    let here : c.in_ok-found.found ≡ found_in table selectors = search rules in
    let s : Seen = record { number = 0; role = Lead; known = h } in
    let held : IsHeld (held_of s) = held_seen s c.self.invariant.0 (search rules) in
    found_range (folder_as Lead h) n table selectors c.in_ok-found.found
    held.state held.named (retained_low h n c.self.invariant.1) (table_stands h n table c.self.invariant.2) (search rules)
    (omega (arith, length-map c.args.keys.now shares_of, c.requires.many, ap (λ (k : Kept). k.known.shelf.shape.probes) c.self.view_is, held.dims.few))
    here c.in_ok-found.ensures.tags
