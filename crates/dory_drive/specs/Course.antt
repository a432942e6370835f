-- The course of a conversation: what a run of it asks, where each frame leads, what it keeps and how it ends.
use Rattle.std.specs.Prelude.{ℕ, ◌≡◌, ◌⊎◌, ◌<◌, Bool, true, false, List, [], ◌∷◌, Option, Some, None}
use Rattle.dory_base.specs.declared.ids.Side.{Side}
use Rattle.dory_wire.specs.declared.message.Request.{Request}
use Rattle.dory_state.specs.declared.kept.KeptState.{KeptState}
use Rattle.dory_member.specs.declared.next.Next.{Next}
use Rattle.dory_member.specs.declared.next.Next.TheVariants.{Save, Ask, End}
use Rattle.dory_member.specs.Course.{Put}
use Rattle.dory_member.specs.Machine.{IsFrameOf}

-- what a kind of conversation does at each of its runs
pub record Course (Run Outcome : Type 0) : Type 0 where
  -- what is put to which domain next
  pub asks : Run → Option Put
  -- where a frame leads
  pub took : Run → List ℕ → Run
  -- where it leads when memory runs out as a frame is taken
  pub lost : Run → Run
  -- the state that it keeps
  pub kept : Run → KeptState
  -- how it has ended, if it has
  pub ended : Run → Option Outcome
  -- it saves before its first ask
  pub saves_first : Run → Bool
  -- it saves after the frame that led here
  pub saves_last : Run → Bool
  -- how often it may still ask
  pub left : Run → ℕ

-- What is true of each course. A run that saves asks nothing until it has, and where it asks no more it has ended. What is
-- kept stays, but where it is saved.
pub record IsCourse {Run Outcome : Type 0} (c : Course Run Outcome) : Type 0 where
  pub ends : (run : Run) → c.asks run ≡ None → (outcome : Outcome) × (c.ended run ≡ Some outcome)
  pub idle : (run : Run) → c.saves_first run ≡ false → (c.asks run ≡ None) × (c.saves_last run ≡ false)
  pub last : (run : Run) → c.saves_last run ≡ true → c.asks run ≡ None
  pub keeps : (run : Run) (frame : List ℕ) → c.saves_last (c.took run frame) ≡ false → c.kept (c.took run frame) ≡ c.kept run
  pub lost : (run : Run) → (c.asks (c.lost run) ≡ None) × (c.saves_last (c.lost run) ≡ false) × (c.kept (c.lost run) ≡ c.kept run)

-- the run after these frames
abbrev pub run_after : {Run Outcome : Type 0} → Course Run Outcome → Run → List (List ℕ) → Run
run_after c run [] = run
run_after c run (frame ∷ frames) = run_after c (c.took run frame) frames

-- a frame is taken, or memory runs out
abbrev pub Takes : {Run Outcome : Type 0} → Course Run Outcome → Run → List ℕ → Run → Type 0
Takes c before frame after = (after ≡ c.took before frame) ⊎ (after ≡ c.lost before)

-- a frame is to be sent to the domain of this side, and it is that of what is asked
pub record IsAsk {Run Outcome : Type 0} (c : Course Run Outcome) (run : Run) (side : Side) (frame : List ℕ) : Type 0 where
  pub request : Request
  pub asks : c.asks run ≡ Some (side, request)
  pub framed : IsFrameOf request frame
  pub left : 0 < c.left run

-- what is done next: a save that is due, an ask, or nothing more
abbrev pub IsTurn : {Run Outcome : Type 0} → Course Run Outcome → Run → Bool → Next → Type 0
IsTurn c run unsaved Save = unsaved ≡ true
IsTurn c run unsaved (Ask side frame) = (unsaved ≡ false) × IsAsk c run side frame.now
IsTurn c run unsaved End = (unsaved ≡ false) × (c.asks run ≡ None)

-- something is asked, and no save is due before
abbrev pub is_asking : Option Put → Bool → Bool
is_asking None unsaved = false
is_asking (Some put) true = false
is_asking (Some put) false = true

-- how a run has ended that waits for no save
abbrev pub ended_at : {Run Outcome : Type 0} → Course Run Outcome → Run → Bool → Option Outcome
ended_at c run true = None
ended_at c run false = c.ended run
