use Rattle.std.proofs.Common.{◌≡◌, ◌<◌, List, ◌++◌, [], ◌∷◌, length, map, get_or, take_all, Option, Some, None, ap, ◌∙◌, sym, arith, Vec}
use Rattle.std.specs.Arc.{arc_value}
use Rattle.std.specs.Global.{Global}
use Rattle.std.proofs.lemmas.List.{append-nil, length-map, get_or-map}
use Rattle.dory_base.specs.declared.found.Place.{Place}
use Rattle.dory_base.specs.Table.{Slots}
use Rattle.dory_base.specs.TableMeaning.{Kept}
use Rattle.dory_chunks.specs.declared.marks.Mark.{Mark}
use Rattle.dory_chunks.specs.Marks.{mark_of}
use Rattle.dory_chunks.specs.Parts.{Part}
use Rattle.dory_chunks.specs.Places.{places_from, places_of}
use Rattle.dory_chunks.proofs.MarkLaws.{places_more, places_are}
use Rattle.dory_chunks.proofs.PartLaws.{length-slots_in}
use Rattle.dory_chunks.proofs.version.Version.places.Goals as goal
use Rattle.dory_chunks.proofs.version.Version.places.Goals.{in-Some+in_ok-push, in_default}

pub mark-requires : goal.mark-requires
mark-requires c =
    let parts : List Part = map arc_value c.self.inside.chunks.items in
    let count : c.self.inside.count ≡ length c.args.self.now.slots = sym (length-slots_in c.self.inside.count parts) ∙ ap (λ (t : Kept). length t.slots) c.self.view_is in
    omega (arith, count, c.loop-at-test.true)

pub loop-at-preserved : goal.loop-at-preserved
loop-at-preserved c =
    let slots : Slots = c.args.self.now.slots in
    let marks : List (Option Mark) = map mark_of slots in
    let parts : List Part = map arc_value c.self.inside.chunks.items in
    let count : c.self.inside.count ≡ length slots = sym (length-slots_in c.self.inside.count parts) ∙ ap (λ (t : Kept). length t.slots) c.self.view_is in
    let low : c.loop-at.at < length slots = omega (arith, count, c.loop-at-test.true) in
    let inside : c.loop-at.at < length marks = omega (arith, low, length-map slots mark_of) in
    let mark : get_or marks c.loop-at.at None ≡ c.mark.result = get_or-map mark_of slots c.loop-at.at None None low ∙ sym c.mark.ensures in
    let before : List Place = c.loop-at.all.items in
    let after : c.match-mark.all.items ≡ before ++ places_from c.loop-at.at (get_or marks c.loop-at.at None ∷ []) =
    elim c.match-mark.branch [
      | in-Some+in_ok-push w ↦
          let is : get_or marks c.loop-at.at None ≡ Some w.in-Some.mark = mark ∙ w.in-Some.is in
          ap (λ (v : Vec Place Global). v.items) w.all-is ∙ w.in_ok-push.ensures.items
          ∙ ap (λ (x : Option Mark). before ++ places_from c.loop-at.at (x ∷ [])) (sym is)
      | in_default w ↦
          let is : get_or marks c.loop-at.at None ≡ None = mark ∙ w.in_default.is in
          ap (λ (v : Vec Place Global). v.items) w.all-is ∙ sym (append-nil before)
          ∙ ap (λ (x : Option Mark). before ++ places_from c.loop-at.at (x ∷ [])) (sym is)
    ] in
    places_more marks c.loop-at.at before c.match-mark.all.items inside c.loop-at.invariant after

pub returns-clause-value : goal.returns-clause-value
returns-clause-value c =
    let parts : List Part = map arc_value c.self.inside.chunks.items in
    let slots : Slots = c.args.self.now.slots in
    let count : c.self.inside.count ≡ length slots = sym (length-slots_in c.self.inside.count parts) ∙ ap (λ (t : Kept). length t.slots) c.self.view_is in
    c.loop-at.invariant ∙ ap places_of (take_all c.loop-at.at (map mark_of slots) (omega (arith, count, c.loop-at-test.false, length-map slots mark_of))) ∙ places_are 0 slots
