use Rattle.std.proofs.Common.{◌≡◌, ◌<◌, List, ◌++◌, [], ◌∷◌, length, map, Option, ap, ◌∙◌, sym, arith, Vec}
use Rattle.std.specs.Global.{Global}
use Rattle.std.proofs.lemmas.List.{append-nil}
use Rattle.dory_base.specs.declared.entry.Entry.{Entry}
use Rattle.dory_base.specs.declared.found.Place.{Place}
use Rattle.dory_base.specs.Table.{place_of, live_from}
use Rattle.dory_table.proofs.SlotLaws.{places_more}
use Rattle.dory_table.proofs.slots.places.Goals as goal
use Rattle.dory_table.proofs.slots.places.Goals.{in-Some+in_ok-push, in_default}

pub loop-at-preserved : goal.loop-at-preserved
loop-at-preserved c =
    let inside : c.loop-at.at < length c.args.slots.now = omega arith in
    let before : List Place = c.loop-at.all.items in
    let after : c.match-slots-at.all.items ≡ before ++ map place_of (live_from c.loop-at.at (c.index-slots-at.result ∷ [])) =
    elim c.match-slots-at.branch [
      | in-Some+in_ok-push w ↦
          ap (λ (v : Vec Place Global). v.items) w.all-is ∙ w.in_ok-push.ensures.items
          ∙ ap (λ (x : Option Entry). before ++ map place_of (live_from c.loop-at.at (x ∷ []))) (sym w.in-Some.is)
      | in_default w ↦
          ap (λ (v : Vec Place Global). v.items) w.all-is ∙ sym (append-nil before)
          ∙ ap (λ (x : Option Entry). before ++ map place_of (live_from c.loop-at.at (x ∷ []))) (sym w.in_default.is)
    ] in
    places_more c.args.slots.now c.loop-at.at c.index-slots-at.result before c.match-slots-at.all.items inside c.index-slots-at.is c.loop-at.invariant after
