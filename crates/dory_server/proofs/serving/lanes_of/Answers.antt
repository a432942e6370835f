use Rattle.std.proofs.Common.{rules, ◌≡◌, ◌∙◌, All, List, subst, arith}
use Rattle.std.proofs.lemmas.List.Elements.{All-tail}
use Rattle.dory_shared.specs.Seen.{Seen, names_of}
use Rattle.dory_server.proofs.Served.{one_lane_more}
use Rattle.dory_server.proofs.serving.lanes_of.Goals as goal

pub new-seat-requires : goal.new-seat-requires
new-seat-requires g c =
    let P : List Seen → Type 0 = λ s. names_of s ≡ g.J.Names.names in
    (subst (All P) c.in-Some.ensures.steps.0 c.loop-seat.invariant.1) 0 c.in-Some.seat (omega arith)

pub loop-seat-preserved : goal.loop-seat-preserved
loop-seat-preserved g c =
    let P : List Seen → Type 0 = λ s. names_of s ≡ g.J.Names.names in (
      one_lane_more (λ l'. l'.answers.seat) c.loop-seat.lanes.items c.new-lane.result _ c.in-Some.seat _ _ _ (search rules) (search rules) c.in-Some.ensures.steps.0 c.loop-seat.invariant.0,
      All-tail P c.in-Some.seat c.next.new.self.rest.items (subst (All P) c.in-Some.ensures.steps.0 c.loop-seat.invariant.1),
      c.in-Ok.ensures.same ∙ c.loop-seat.invariant.2,
      omega (arith, c.loop-seat.invariant.3, c.in-Ok.ensures.cause.later),
    )
