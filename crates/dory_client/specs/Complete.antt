-- Over which links a search is complete.
use Rattle.std.specs.Prelude.{ℕ, ◌≡◌, ◌≤◌, List, Option, Some, None, Ok, length}
use Rattle.std.specs.List.{AllByRecursion}
use Rattle.dory_base.specs.declared.ids.Side.{Side}
use Rattle.dory_base.specs.declared.refusal.Refusal.{Refusal}
use Rattle.dory_base.specs.History.{version_of}
use Rattle.dory_link.specs.Told.{Told}
use Rattle.dory_seal.specs.Seal.{IsSealed}
use Rattle.dory_verify.specs.declared.fault.CheckFault.{CheckFault}
use Rattle.dory_verify.specs.declared.fault.CheckFault.TheVariants as fault
use Rattle.dory_cli.specs.Line.{line_of}
use Rattle.dory_cli.specs.declared.line.Line.TheVariants.{Search}
use Rattle.dory_state.specs.declared.kept.KeptState.{KeptState}
use Rattle.dory_state.specs.Reading.{state_of}
use Rattle.dory_member.specs.Course.{folder_keys, lesser}
use Rattle.dory_drive.specs.Scene.{Scene}
use Rattle.dory_drive.specs.Way.{Links, scene_links}
use Rattle.dory_client.specs.declared.end.ClientEnd.{ClientEnd}
use Rattle.dory_client.specs.declared.end.ClientEnd.TheVariants as ends

-- the kept bytes are told, and are this state
abbrev pub KeepsState : Option (Option (List ℕ)) → KeptState → Type 0
KeepsState None state = ⊥
KeepsState (Some None) state = ⊥
KeepsState (Some (Some bytes)) state = state_of bytes ≡ Ok state

-- the link tells its folders, and this one is there under this number
abbrev pub TellsFolder : Option (ℕ → Option Told) → ℕ → Told → Type 0
TellsFolder None number folder = ⊥
TellsFolder (Some folders) number folder = folders number ≡ Some folder

-- both links tell a folder under this number
pub record BothTell (folder : ℕ) (m : Links) : Type 0 where
  pub lead : Told
  pub follow : Told
  pub by_lead : TellsFolder m.lead.folders folder lead
  pub by_follow : TellsFolder m.follow.folders folder follow

-- neither history is shorter than what was seen
pub record AreFresh (seen : ℕ) (lead follow : Told) : Type 0 where
  pub lead_seen : seen ≤ length lead.history
  pub follow_seen : seen ≤ length follow.history

-- a length of a history, told at a moment between these two
pub record IsBetween (before now : Told) (n : ℕ) : Type 0 where
  pub least : length before.history ≤ n
  pub most : n ≤ length now.history

-- the version that a search asks for: the smaller of both lengths as they were when it asked for them
pub record IsVersion (lead lead' follow follow' : Told) (version : ℕ) : Type 0 where
  pub lengths : ℕ × ℕ
  pub of_lead : IsBetween lead lead' lengths.0
  pub of_follow : IsBetween follow follow' lengths.1
  pub smaller : version ≡ lesser lengths.0 lengths.1

-- the entries up to a version are alike at both domains, and sealed under the keys of the state's folder; the shapes and
-- how many versions are retained may differ, and so may what comes later
pub record AreAlike (k : KeptState) (lead follow : Told) (version : ℕ) : Type 0 where
  pub agree : version_of version lead.history ≡ version_of version follow.history
  pub sealed : AllByRecursion (IsSealed (folder_keys k)) (version_of version lead.history)

-- Over two links that tell the state's folder, whose histories were no shorter than what was seen: there is the version
-- that a search asked for, and where the entries up to it are alike and sealed, this is so of it and of the lead's folder.
abbrev pub AtVersion : KeptState → Scene → Scene → (ℕ → Told → Type 0) → Type 0
AtVersion k before after says =
    (t : BothTell k.folder.0 (scene_links before)) → (u : BothTell k.folder.0 (scene_links after)) → AreFresh k.seen t.lead t.follow
    → (version : ℕ) × IsVersion t.lead u.lead t.follow u.follow version × (AreAlike k u.lead u.follow version → says version u.lead)

-- a check that failed failed since a domain refused
abbrev pub FailsByRefusal : ClientEnd → Type 0
FailsByRefusal end = (f : CheckFault) → end ≡ ends.Check f → (side : Side) × (code : Refusal) × (f ≡ fault.Refused side code)

-- a search over such links fails no check but by a refusal, whatever failed outside
abbrev pub IsComplete : List (List ℕ) → Scene → Scene → ClientEnd → Type 0
IsComplete words before after end =
    (word : List ℕ) → line_of words ≡ Ok (Search word) → (k : KeptState) → KeepsState before.kept k
    → AtVersion k before after (λ version told. FailsByRefusal end)
