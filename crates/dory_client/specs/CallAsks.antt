-- Which frames were asked of each link in a call.
use Rattle.std.specs.Prelude.{ℕ, ◌≡◌, ⊤, List, [], ◌∷◌, ◌++◌, map, None}
use Rattle.dory_base.specs.declared.ids.Side.{Side}
use Rattle.dory_base.specs.declared.ids.Side.TheVariants.{Lead, Follow}
use Rattle.dory_wire.specs.declared.message.Request.{Request}
use Rattle.dory_link.specs.Told.{Heard}
use Rattle.dory_cli.specs.Line.{line_of as read_of}
use Rattle.dory_state.specs.declared.kept.KeptState.{KeptState}
use Rattle.dory_member.specs.declared.phase.Run.{Run}
use Rattle.dory_member.specs.Course.{Put, asked_of, asks, run_after}
use Rattle.dory_client.specs.declared.start.Todo.{Todo}
use Rattle.dory_client.specs.declared.end.ClientEnd.{ClientEnd}
use Rattle.dory_drive.specs.Asked.{AskedFrames, request_frame}
use Rattle.dory_client.specs.ByWords.{ByWords}
use Rattle.dory_client.specs.CallEffects.{IsBegun}
use Rattle.dory_client.specs.Ends.{EndKind, Whole, Torn, Faulty, Stopped, IsSilent, kind_of}
use Rattle.dory_drive.specs.Way.{scene_links, Links}
use Rattle.dory_client.specs.Scene.{Moment}
use Rattle.dory_drive.specs.Scene.{AskedNothing}

-- what a link of a side tells
abbrev pub heard_by : Side → Links → Heard
heard_by Lead l = l.lead
heard_by Follow l = l.follow

-- a request where it is put to this side
abbrev pub put_first : Side → Side → Request → List Request → List Request
put_first Lead Lead r more = r ∷ more
put_first Lead Follow r more = more
put_first Follow Lead r more = more
put_first Follow Follow r more = r ∷ more

-- the requests that are put to the domain of a side
abbrev pub put_to : Side → List Put → List Request
put_to side [] = []
put_to side (p ∷ puts) = put_first side p.0 p.1 (put_to side puts)

-- all that a command asks was asked at an end of this kind
abbrev pub HasAsked : EndKind → Type 0
HasAsked Whole = ⊤
HasAsked Torn = ⊤
HasAsked Faulty = ⊤
HasAsked Stopped = ⊥

-- Of a side the frames were asked that the command asks after these replies, or the first of them where it broke off.
pub record Asks (run : Run) (came : List (List ℕ)) (side : Side) (before after : Links) (end : ClientEnd) : Type 0 where
  pub frames : List (List ℕ)
  pub rest : List (List ℕ)
  pub are : map request_frame (put_to side (asked_of run came)) ≡ frames ++ rest
  pub asked : AskedFrames (heard_by side before).exchanges (heard_by side after).exchanges frames
  pub whole : HasAsked (kind_of end) → rest ≡ []

-- A command asked nothing, and wrote nothing, or it began, these replies came, and each side was asked so. Where it has
-- asked all that it asks, it asks nothing more after them.
pub data AsksInAll (t : Todo) (seed : List ℕ) (before after : Moment) (end : ClientEnd) : Type 0 where
  Nothing : AskedNothing before.outside after.outside → IsSilent (kind_of end) → AsksInAll t seed before after end
  InTurn : (k : KeptState) (run : Run) (came : List (List ℕ)) → IsBegun t seed before after k run
      → (HasAsked (kind_of end) → asks (run_after run came).phase ≡ None)
      → ((side : Side) → Asks run came side (scene_links before.outside) (scene_links after.outside) end) → AsksInAll t seed before after end

-- what a call of these words asks: nothing where a first state begins, or where the words are no line
abbrev pub CallAsks : List (List ℕ) → List ℕ → Moment → Moment → ClientEnd → Type 0
CallAsks words seed before after end =
    ByWords (read_of words) (λ first. AskedNothing before.outside after.outside) (λ t. AsksInAll t seed before after end)
    (AskedNothing before.outside after.outside)
