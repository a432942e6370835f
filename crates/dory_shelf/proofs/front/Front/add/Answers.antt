use Rattle.std.proofs.Common.{◌≡◌, sym, ◌∙◌, ap, length, arith, subst, rules, List, [], ◌∷◌, ◌++◌}
use Rattle.logbook.specs.Pages.{Book}
use Rattle.dory_base.specs.declared.event.Event.{Event}
use Rattle.dory_shelf.specs.Published.{Shelf, Published, IsFront, IsLawful, MayFollow, published, with_event}
use Rattle.dory_shelf.specs.Ops.{event_of}
use Rattle.dory_shelf.proofs.Counting.{few_of, more_is_front}
use Rattle.dory_shelf.proofs.Adding.{adds_moves}
use Rattle.dory_shelf.proofs.front.Front.add.Goals as goal

pub overflow_add-operations : goal.overflow_add-operations
overflow_add-operations c = omega (arith, (few_of _ _ _ c.self.invariant).0)

pub overflow_add-operations-2 : goal.overflow_add-operations-2
overflow_add-operations-2 c = omega (arith, (few_of _ _ _ c.self.invariant).0)

pub compare_exchange-found-requires : goal.compare_exchange-found-requires
compare_exchange-found-requires c =
    let h = c.args.head.now.first in
    let offer = c.plain-offer.ensures in
    let pen = c.no_pen-pen.ensures in
    let is = c.self.invariant in
    let shelf : Shelf = record { book = c.self.inside.seen.book; shape = c.self.inside.shape; retained = c.self.inside.retained } in
    let log : c.again-seen.result.log ≡ c.self.inside.seen.log = ap (λ s. s.log) c.again-seen.ensures in
    let book : c.again-seen.result.book ≡ c.args.head.now.word.book = ap (λ s. s.book) c.again-seen.ensures ∙ (ap (λ k. k.shelf.book) c.self.view_is ∙ sym c.requires.book) in
    let at : List Event → Published = λ l. record { shelf = shelf; events = l } in
    let lawful : IsLawful (at c.again-seen.result.log) = subst (λ (l : List Event). IsLawful (at l)) (sym log) is.lawful in
    let event : Event = event_of c.args.op.now in
    let may : MayFollow (at c.again-seen.result.log) event = subst (λ (l : List Event). MayFollow (at l) event) (sym log) (subst (λ (k : Published). MayFollow k event) (sym c.self.view_is) c.requires.lawful) in
    let count : length c.again-seen.result.log ≡ c.self.inside.operations = ap length log ∙ sym is.operations_are in (
      h.0,
      book,
      pen.0 ∙ book,
      offer.0,
      rw (h.1, pen.1, offer.1, offer.3) (adds_moves shelf c.again-seen.result.log event c.self.inside.operations count lawful may),
    )

pub invariant_of-self : goal.invariant_of-self
invariant_of-self c =
    let now = c.args.self.now in
    let was = c.self.inside in
    let event : Event = event_of c.args.op.now in
    let seen = c.compare_exchange-found.new.seen in
    let is : IsFront now was.operations was.entries = subst (λ (k : Published). IsFront k was.operations was.entries) c.self.view_is c.self.invariant in
    let book : seen.book ≡ was.seen.book = c.compare_exchange-found.ensures.0 ∙ ap (λ s. s.book) c.again-seen.ensures in
    let added : seen.log ≡ c.again-seen.result.log ++ event ∷ [] = search rules in
    let events : seen.log ≡ was.seen.log ++ event ∷ [] = added ∙ ap (λ s. s.log ++ event ∷ []) c.again-seen.ensures in
    let more : published seen.book was.shape was.retained seen.log ≡ with_event now event =
    ap (λ (b : Book). published b was.shape was.retained seen.log) book
    ∙ (ap (λ (l : List Event). published was.seen.book was.shape was.retained l) events
    ∙ ap (λ (k : Published). with_event k event) c.self.view_is) in
    more_is_front now _ event was.operations was.entries c.length_with-entries.result is c.requires.lawful more c.length_with-entries.ensures
