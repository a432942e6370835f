-- What a frame says that passes the checks of a reply that is checked by itself.
use Rattle.std.specs.Prelude.{ℕ, ◌≡◌, true, List, Some, Ok}
use Rattle.dory_base.specs.declared.ids.Side.{Side}
use Rattle.dory_base.specs.declared.ids.AskId.{AskId}
use Rattle.dory_wire.specs.declared.message.Reply.{Reply}
use Rattle.dory_wire.specs.Reading.{reply_in}
use Rattle.dory_verify.specs.Checks.{same_ask}
use Rattle.dory_member.specs.declared.outcome.Mark.{Mark}
use Rattle.dory_member.specs.declared.phase.Single.{Single}
use Rattle.dory_member.specs.Single.{said}

-- the reply that a frame is, which passed the checks
pub record Confirmation (side : Side) (ask : Single) (asked : AskId) (frame : List ℕ) (m : Mark) : Type 0 where
  pub reply : Reply
  pub came : reply_in frame ≡ Some reply
  pub echoes : same_ask reply.ask asked ≡ true
  pub says : said side ask reply.what ≡ Ok m
