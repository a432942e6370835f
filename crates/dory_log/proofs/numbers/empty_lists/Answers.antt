use Rattle.std.proofs.Common.{ℕ, ◌+◌, ◌∷◌, [], length, List, Vec, ap, ◌∙◌, length-append}
use Rattle.std.specs.declared.alloc.Global.{Global}
use Rattle.dory_log.specs.declared.own.Own.{Own}
use Rattle.dory_log.specs.Own.{own_at}
use Rattle.dory_log.proofs.RoomLaws.{empty_more}
use Rattle.dory_log.proofs.numbers.empty_lists.Goals as goal

pub loop-init : goal.loop-init
loop-init c =
    let e = c.in_ok-lists.ensures.items in
    (ap (length {A = Vec Own Global}) e, λ m. ap (λ (lists : List (Vec Own Global)). own_at lists m) e)

pub loop-preserved : goal.loop-preserved
loop-preserved c =
    let e = c.in_ok-push.ensures.items in (
      ap (length {A = Vec Own Global}) e ∙ length-append c.loop.lists.items (c.new.result ∷ []) ∙ ap (λ (n : ℕ). n + 1) c.loop.invariant.0,
      λ m. ap (λ (lists : List (Vec Own Global)). own_at lists m) e ∙ empty_more c.loop.lists.items c.new.result c.new.ensures.items c.loop.invariant.1 m,
    )
