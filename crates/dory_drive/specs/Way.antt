-- The way of a conversation: what was put to each domain, one ask after another, and what came.
use Rattle.std.specs.Prelude.{ℕ, ◌≡◌, List, [], ◌∷◌, Option, None, Some}
use Rattle.dory_base.specs.declared.ids.Side.{Side}
use Rattle.dory_base.specs.declared.ids.Side.TheVariants.{Lead, Follow}
use Rattle.dory_wire.specs.declared.message.Request.{Request}
use Rattle.dory_link.specs.Told.{Heard}
use Rattle.dory_member.specs.Course.{Put}
use Rattle.dory_drive.specs.declared.broken.Broken.{Broken}
use Rattle.dory_drive.specs.Asked.{Exchanged, Unanswered}
use Rattle.dory_drive.specs.Course.{Course, run_after}
use Rattle.dory_drive.specs.Ends.{IsAskEnd}
use Rattle.dory_drive.specs.Scene.{Scene}

-- what both links tell at one moment
pub record Links : Type 0 where
  pub lead : Heard
  pub follow : Heard

-- two links that tell this
abbrev pub links : Heard → Heard → Links
links lead follow = record { lead = lead; follow = follow }

-- what the link to the domain of this side tells
abbrev pub link_at : Side → Links → Heard
link_at Lead l = l.lead
link_at Follow l = l.follow

-- what both links tell at a moment
abbrev pub scene_links : Scene → Links
scene_links s = links s.lead s.follow

-- a request was put to the domain of this side, and this frame came; the other link is as it was
abbrev pub ExchangedOver : Side → Links → Links → Request → List ℕ → Type 0
ExchangedOver Lead before after request frame = Exchanged before.lead after.lead request frame × (after.follow ≡ before.follow)
ExchangedOver Follow before after request frame = (after.lead ≡ before.lead) × Exchanged before.follow after.follow request frame

-- a request was put to the domain of this side or not, no frame came, and this is why
abbrev pub UnansweredOver : Side → Links → Links → Request → Broken → Type 0
UnansweredOver Lead before after request end = Unanswered before.lead after.lead request end × (after.follow ≡ before.follow)
UnansweredOver Follow before after request end = (after.lead ≡ before.lead) × Unanswered before.follow after.follow request end

-- what is asked was put, and this frame came
abbrev pub PutAnswered : Option Put → Links → Links → List ℕ → Type 0
PutAnswered None before after frame = ⊥
PutAnswered (Some put) before after frame = ExchangedOver put.0 before after put.1 frame

-- what is asked was put or not, no frame came, and the conversation broke off so
abbrev pub PutUnanswered : Option Put → Links → Links → Broken → Type 0
PutUnanswered None before after end = ⊥
PutUnanswered (Some put) before after end = UnansweredOver put.0 before after put.1 end × IsAskEnd put.0 end

-- These frames came to a run, one after another, each to what it asked.
abbrev pub ExchangedInTurn : {Run Outcome : Type 0} → Course Run Outcome → Run → List (List ℕ) → Links → Links → Type 0
ExchangedInTurn c run [] before after = after ≡ before
ExchangedInTurn c run (frame ∷ frames) before after =
    (m : Links) × PutAnswered (c.asks run) before m frame × ExchangedInTurn c (c.took run frame) frames m after

-- a run went on by these frames, and then got stuck
pub record InterruptedAfter {Run Outcome : Type 0} (c : Course Run Outcome) (run : Run) (before after : Links) (end : Broken) : Type 0 where
  pub frames : List (List ℕ)
  pub between : Links
  pub went : ExchangedInTurn c run frames before between
  pub stuck : PutUnanswered (c.asks (run_after c run frames)) between after end
