-- What stands outside a conversation, as it tells at one moment.
use Rattle.std.specs.Prelude.{ℕ, ◌≡◌, List, Option}
use Rattle.dory_base.specs.declared.ids.Side.{Side}
use Rattle.dory_base.specs.declared.ids.Side.TheVariants.{Lead, Follow}
use Rattle.dory_io.specs.Bytes.{Stays}
use Rattle.dory_io.specs.Causes.{HasCause}
use Rattle.dory_link.specs.Told.{Heard}

-- how often each part has failed
pub record Faults : Type 0 where
  pub keeper : ℕ
  pub lead : ℕ
  pub follow : ℕ
  pub output : ℕ

-- what is kept, what both links tell, what was written, and how often each has failed
pub record Scene : Type 0 where
  pub kept : Option (Option (List ℕ))
  pub lead : Heard
  pub follow : Heard
  pub written : Option (List ℕ)
  pub faults : Faults

-- the parts that have failed so often
abbrev pub faults : ℕ → ℕ → ℕ → ℕ → Faults
faults keeper lead follow output = record { keeper = keeper; lead = lead; follow = follow; output = output }

-- a moment at which this is kept, told and written
abbrev pub scene : Option (Option (List ℕ)) → Heard → Heard → Option (List ℕ) → Faults → Scene
scene kept lead follow written failed = record { kept = kept; lead = lead; follow = follow; written = written; faults = failed }

-- what the link to the domain of this side tells
abbrev pub heard_at : Side → Scene → Heard
heard_at Lead s = s.lead
heard_at Follow s = s.follow

-- how often it has failed
abbrev pub link_faults : Side → Scene → ℕ
link_faults Lead s = s.faults.lead
link_faults Follow s = s.faults.follow

-- all but the link to the domain of this side is as it was
abbrev pub OnlyLink : Side → Scene → Scene → Type 0
OnlyLink Lead before after = after ≡ record before { lead = after.lead; faults = record before.faults { lead = after.faults.lead } }
OnlyLink Follow before after = after ≡ record before { follow = after.follow; faults = record before.faults { follow = after.faults.follow } }

-- all but the keeper is as it was
abbrev pub OnlyKeeper : Scene → Scene → Type 0
OnlyKeeper before after = after ≡ record before { kept = after.kept; faults = record before.faults { keeper = after.faults.keeper } }

-- all but the output is as it was
abbrev pub OnlyOutput : Scene → Scene → Type 0
OnlyOutput before after = after ≡ record before { written = after.written; faults = record before.faults { output = after.faults.output } }

-- neither link was asked
abbrev pub AskedNothing : Scene → Scene → Type 0
AskedNothing before after = (after.lead ≡ before.lead) × (after.follow ≡ before.follow)

-- nothing was written
abbrev pub WroteNothing : Scene → Scene → Type 0
WroteNothing before after = Stays before.written after.written

-- nothing was asked, kept or written
pub record IsUntouched (before after : Scene) : Type 0 where
  pub asked : AskedNothing before after
  pub kept : Stays before.kept after.kept
  pub wrote : WroteNothing before after

-- all but the two links is as it was
pub record OnlyLinks (before after : Scene) : Type 0 where
  pub kept : after.kept ≡ before.kept
  pub written : after.written ≡ before.written
  pub keeper : after.faults.keeper ≡ before.faults.keeper
  pub output : after.faults.output ≡ before.faults.output

-- the output is as it was
pub record IsUnwritten (before after : Scene) : Type 0 where
  pub written : after.written ≡ before.written
  pub output : after.faults.output ≡ before.faults.output

-- the parts of an outside that may fail
pub data Part : Type 0 where
  Keeper : Part
  Link : Side → Part
  Output : Part

-- no count of faults fell, and that of each part that has failed rose
pub record Caused (before after : Faults) (failed : Part → Type 0) : Type 0 where
  pub keeper : HasCause before.keeper after.keeper (failed Keeper)
  pub lead : HasCause before.lead after.lead (failed (Link Lead))
  pub follow : HasCause before.follow after.follow (failed (Link Follow))
  pub output : HasCause before.output after.output (failed Output)
