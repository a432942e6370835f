-- What two links that tell their exchanges tell to have come to a conversation.
use Rattle.std.specs.Prelude.{ℕ, ◌≡◌, ◌⊎◌, List, [], ◌∷◌, ◌++◌, Option, None, Some}
use Rattle.dory_base.specs.declared.ids.Side.{Side}
use Rattle.dory_base.specs.declared.ids.Side.TheVariants.{Lead, Follow}
use Rattle.dory_wire.specs.declared.message.Request.{Request}
use Rattle.dory_link.specs.Told.{Talk}
use Rattle.dory_member.specs.Course.{Put}
use Rattle.dory_drive.specs.Asked.{spoke, unspoken}
use Rattle.dory_drive.specs.Course.{Course, run_after}
use Rattle.dory_drive.specs.Way.{Links}

-- exchanges over both links
pub record Talks : Type 0 where
  pub lead : List Talk
  pub follow : List Talk

-- these over the two links
abbrev pub talks : List Talk → List Talk → Talks
talks lead follow = record { lead = lead; follow = follow }

-- no exchange
abbrev pub none : Talks
none = talks [] []

-- one exchange over the link to this side, and then these
abbrev pub first : Side → Talk → Talks → Talks
first Lead t later = talks (t ∷ later.lead) later.follow
first Follow t later = talks later.lead (t ∷ later.follow)

-- a link tells its exchanges, and these have been added
abbrev pub TellsMore : Option (List Talk) → Option (List Talk) → List Talk → Type 0
TellsMore None now more = ⊥
TellsMore (Some before) None more = ⊥
TellsMore (Some before) (Some now) more = now ≡ before ++ more

-- both links tell their exchanges, and these have been added
pub record BothTellMore (before after : Links) (more : Talks) : Type 0 where
  pub lead : TellsMore before.lead.exchanges after.lead.exchanges more.lead
  pub follow : TellsMore before.follow.exchanges after.follow.exchanges more.follow

-- the first exchange over the link that is asked is of what is asked, and this frame came to it
abbrev pub IsFirst : Option Put → List ℕ → Talks → Talks → Type 0
IsFirst None frame told later = ⊥
IsFirst (Some put) frame told later = told ≡ first put.0 (spoke put.1 frame) later

-- These frames are told to have come to a run, one after another, each to what it asked, and these exchanges are left.
abbrev pub CameInTurn : {Run Outcome : Type 0} → Course Run Outcome → Run → List (List ℕ) → Talks → Talks → Type 0
CameInTurn c run [] told left = told ≡ left
CameInTurn c run (frame ∷ frames) told left =
    (later : Talks) × IsFirst (c.asks run) frame told later × CameInTurn c (c.took run frame) frames later left

-- nothing is left, or what is asked, to which no frame came
abbrev pub IsLeft : Option Put → Talks → Type 0
IsLeft None left = left ≡ none
IsLeft (Some put) left = (left ≡ none) ⊎ (left ≡ first put.0 (unspoken put.1) none)

-- These frames came to a run, by what was told of both links, and no others.
pub record Received {Run Outcome : Type 0} (c : Course Run Outcome) (run : Run) (told : Talks) (frames : List (List ℕ)) : Type 0 where
  pub left : Talks
  pub came : CameInTurn c run frames told left
  pub is_left : IsLeft (c.asks (run_after c run frames)) left

-- what is left is one ask of this side, to which no frame came
abbrev pub IsUnreplied : Side → Talks → Type 0
IsUnreplied side left = (request : Request) × (left ≡ first side (unspoken request) none)
