-- How a conversation goes on from its beginning, and how far it comes: its first save, its asks and its last save.
use Rattle.std.specs.Prelude.{ℕ, ◌≡◌, ◌⊎◌, Bool, true, false, List, [], ◌∷◌, ◌++◌, Some, Result, Ok, Err}
use Rattle.std.specs.Borrow.{Bor}
use Rattle.dory_drive.specs.declared.broken.Broken.{Broken}
use Rattle.dory_drive.specs.Course.{Course, is_asking, run_after}
use Rattle.dory_drive.specs.Ends.{IsSaveEnd}
use Rattle.dory_drive.specs.Kept.{KeepsIf, KeepsNow, OldOrNew}
use Rattle.dory_drive.specs.Scene.{Scene, AskedNothing}
use Rattle.dory_drive.specs.Way.{Links, ExchangedInTurn, InterruptedAfter, scene_links}

-- a run where it has come by these frames: where it stood, or after a frame
abbrev pub StandsAt : {Run Outcome : Type 0} → Course Run Outcome → Run → Run → Bool → List (List ℕ) → Type 0
StandsAt c began run unsaved frames = (run ≡ run_after c began frames) × (((frames ≡ []) × (unsaved ≡ false)) ⊎ (unsaved ≡ c.saves_last run))

-- a run whose memory ran out as it took the last of these frames
pub record RanOutAt {Run Outcome : Type 0} (c : Course Run Outcome) (began run : Run) (frames : List (List ℕ)) : Type 0 where
  pub earlier : List (List ℕ)
  pub frame : List ℕ
  pub all : frames ≡ earlier ++ frame ∷ []
  pub lost : run ≡ c.lost (run_after c began earlier)

-- a run went on by these frames, or its memory ran out as it took the last of them
pub record WentOn {Run Outcome : Type 0} (c : Course Run Outcome) (began : Run) (before after : Links) (run : Run) (unsaved : Bool) : Type 0 where
  pub frames : List (List ℕ)
  pub went : ExchangedInTurn c began frames before after
  pub stands : StandsAt c began run unsaved frames ⊎ (RanOutAt c began run frames × (unsaved ≡ false))

-- it went on until it asked nothing more
pub record Driven {Run Outcome : Type 0} (c : Course Run Outcome) (began : Run) (before after : Links) (run : Run) (unsaved : Bool) : Type 0 where
  pub goes : WentOn c began before after run unsaved
  pub still : is_asking (c.asks run) unsaved ≡ false

-- The last save of a run that asks nothing more: its state is kept where that is due, and then its outcome is handed back.
pub data Closes {Run Outcome : Type 0} (c : Course Run Outcome) (run : Run) (unsaved : Bool) (before after : Scene)
    (result : Result Outcome Broken) : Type 0 where
  SaveFailed : (end : Broken) → unsaved ≡ true → OldOrNew before.kept after.kept (c.kept run) → IsSaveEnd end → result ≡ Err end
      → Closes c run unsaved before after result
  SaveDone : (outcome : Outcome) → c.ended run ≡ Some outcome → KeepsIf unsaved before.kept after.kept (c.kept run) → result ≡ Ok outcome
      → Closes c run unsaved before after result

-- A run's state is kept. One that asks nothing and comes to nothing new keeps nothing.
abbrev pub KeepsOf : {Run Outcome : Type 0} → Course Run Outcome → Run → Scene → Scene → Run → Type 0
KeepsOf c run before after later = KeepsIf (c.saves_first run) before.kept after.kept (c.kept later)

-- these frames came to a run, each to what it asked
abbrev pub ExchangedBetween : {Run Outcome : Type 0} → Course Run Outcome → Run → List (List ℕ) → Scene → Scene → Type 0
ExchangedBetween c run frames before after = ExchangedInTurn c run frames (scene_links before) (scene_links after)

-- how a conversation broke off that had just begun, by how far it came
pub data BreaksOff {Run Outcome : Type 0} (c : Course Run Outcome) (run : Run) (before after : Scene) (end : Broken) : Type 0 where
  -- the first save failed, and nothing was asked
  FirstSaveFailed : AskedNothing before after → OldOrNew before.kept after.kept (c.kept run) → IsSaveEnd end → BreaksOff c run before after end
  -- an ask brought no frame
  AskFailed : InterruptedAfter c run (scene_links before) (scene_links after) end → KeepsOf c run before after run → BreaksOff c run before after end
  -- it came to its end by these frames, and the last save failed
  LastSaveFailed : (frames : List (List ℕ)) → ExchangedBetween c run frames before after → c.saves_last (run_after c run frames) ≡ true
      → KeepsNow before.kept after.kept (c.kept run) ⊎ KeepsNow before.kept after.kept (c.kept (run_after c run frames)) → IsSaveEnd end
      → BreaksOff c run before after end

-- how one came to an outcome that had just begun, which was handed back
pub data ComesTo {Run Outcome : Type 0} (c : Course Run Outcome) (run : Run) (before after : Scene) (outcome : Outcome) : Type 0 where
  -- memory ran out as it took the last of these frames, and that is its outcome
  RanOut : (earlier : List (List ℕ)) (frame : List ℕ) → ExchangedBetween c run (earlier ++ frame ∷ []) before after
      → c.ended (c.lost (run_after c run earlier)) ≡ Some outcome → KeepsOf c run before after run → ComesTo c run before after outcome
  -- it came to its end by these frames and its state is kept
  Finished : (frames : List (List ℕ)) → ExchangedBetween c run frames before after → c.ended (run_after c run frames) ≡ Some outcome
      → KeepsOf c run before after (run_after c run frames) → ComesTo c run before after outcome

-- how a conversation goes on that has just begun
abbrev pub RunEnds : {Run Outcome : Type 0} → Course Run Outcome → Run → Scene → Scene → Result Outcome Broken → Type 0
RunEnds c run before after (Err end) = BreaksOff c run before after end
RunEnds c run before after (Ok outcome) = ComesTo c run before after outcome

-- what is handed back
abbrev pub handed : {Outcome : Type 0} → Result (Bor Outcome) Broken → Result Outcome Broken
handed (Ok outcome) = Ok outcome.now
handed (Err end) = Err end
