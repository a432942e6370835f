-- All that is promised of a call.
use Rattle.std.specs.Prelude.{ℕ, ◌≡◌, List}
use Rattle.dory_io.specs.Causes.{HasCause}
use Rattle.dory_drive.specs.Scene.{Caused}
use Rattle.dory_client.specs.declared.end.ClientEnd.{ClientEnd}
use Rattle.dory_client.specs.declared.end.ClientEnd.TheVariants.{Done, InputFault, InputLong}
use Rattle.dory_client.specs.CallAsks.{CallAsks}
use Rattle.dory_client.specs.CallCauses.{CallCauses}
use Rattle.dory_client.specs.CallEffects.{CallEffects}
use Rattle.dory_client.specs.CallEnds.{CallEnds}
use Rattle.dory_client.specs.CallPrints.{CallPrints}
use Rattle.dory_client.specs.Complete.{IsComplete}
use Rattle.dory_client.specs.Ends.{FailedAt}
use Rattle.dory_client.specs.Headline.{IsAccepted}
use Rattle.dory_client.specs.Input.{AreTooMany}
use Rattle.dory_client.specs.KeptAfter.{CallKeeps}
use Rattle.dory_client.specs.Run.{IsRun}
use Rattle.dory_client.specs.Scene.{Moment}

pub record IsCall (words : List (List ℕ)) (seed : List ℕ) (before after : Moment) (end : ClientEnd) : Type 0 where
  -- The whole call: what was read, asked, kept and written, by its end.
  pub run : IsRun words seed before after end
  -- Each fault of the outside comes only where its count rose, and no count falls.
  pub cause : Caused before.outside.faults after.outside.faults (FailedAt end)
  pub input_cause : HasCause before.input.faults after.input.faults (end ≡ InputFault)
  -- A text is too long only where what is left of the input, as it is told, is more than a text has.
  pub long : end ≡ InputLong → AreTooMany before.input.left
  -- The headline: an accepted search is right by each link that tells its folders, or the other link's reply is the
  -- forgery.
  pub accepted : end ≡ Done → IsAccepted words seed before.outside after.outside
  -- What is done: an update stands at one number in both told histories, and what is kept as seen doesn't fall, nor goes
  -- beyond a told history that had what was seen before.
  pub does : end ≡ Done → CallEffects words seed before after
  -- What is asked: the frames of the command's requests, each of its side's link, or the first of them where it broke off.
  pub asked : CallAsks words seed before after end
  -- By what it ends, over two links that tell their exchanges: by a failed check, as unconfirmed or as diverged exactly
  -- where that is the first fault of the replies that came, and by a link's fault exactly where its last ask has no reply,
  -- unless memory runs out.
  pub judged : CallCauses words seed before after end
  -- What is kept: the finished state where the call is done, and at any other end the old one, where neither domain was
  -- asked, the one saved before the first ask, or the finished one. None of them has seen less than the old one.
  pub leaves : CallKeeps words seed before after end
  -- What is written: a line where the call is done, the first part of one where the output failed, and nothing else.
  pub wrote : CallPrints end before.outside.written after.outside.written
  -- Over two links that tell the folder, with sealed histories that agree up to the version that it asks for, a search
  -- fails no check but by a refusal.
  pub complete : IsComplete words before.outside after.outside end
  -- Where nothing in the state forbids it and nothing outside failed, each command ends done, or by a refusal; and over
  -- such links a search with the version that it asked for and its answer.
  pub ends : CallEnds words before after end
