-- The course of a search: two asks for the lengths, and two for what the smaller length's version holds.
use Rattle.std.specs.Prelude.{ℕ, ◌≡◌, ◌⊎◌, List, Result, Ok, Err}
use Rattle.dory_base.specs.declared.found.Found.{Found}
use Rattle.dory_wire.specs.declared.message.Want.TheVariants.{Latest}
use Rattle.dory_wire.specs.declared.message.Request.{Request}
use Rattle.dory_link.specs.Told.{Heard}
use Rattle.dory_verify.specs.declared.answer.Answer.{Answer}
use Rattle.dory_verify.specs.declared.fault.CheckFault.{CheckFault}
use Rattle.dory_verify.specs.Checks.{lengths_of, first_fault_of}
use Rattle.dory_verify.specs.Listing.{Lists}
use Rattle.dory_state.specs.declared.kept.KeptState.{KeptState}
use Rattle.dory_member.specs.Course.{lesser}
use Rattle.dory_client.specs.Sought.{Sought, ask_of, step_request, searching}
use Rattle.dory_drive.specs.Asked.{Exchanged}

-- two requests were asked, the lead's first, and a check of what came gave this
pub record Pair {Y : Type 0} (lead lead' follow follow' : Heard) (first second : Request) (check : List ℕ → List ℕ → Result Y CheckFault) (gave : Result Y CheckFault) : Type 0 where
  pub from_lead : List ℕ
  pub from_follow : List ℕ
  pub asked_lead : Exchanged lead lead' first from_lead
  pub asked_follow : Exchanged follow follow' second from_follow
  pub checked : check from_lead from_follow ≡ gave

-- both were asked for their lengths
abbrev pub Lengths : Heard → Heard → Heard → Heard → KeptState → Result (ℕ × ℕ) CheckFault → Type 0
Lengths lead lead' follow follow' state gave = Pair lead lead' follow follow' (step_request state 0 Latest) (step_request state 1 Latest) (lengths_of state.seen (ask_of state 0) (ask_of state 1)) gave

-- both were asked what a version holds, each by its own keys
abbrev pub Finding : Heard → Heard → Heard → Heard → KeptState → ℕ → Sought → Result (Found × Found) CheckFault → Type 0
Finding lead lead' follow follow' state version s gave =
    Pair lead lead' follow follow' (searching state 2 version s.lead) (searching state 3 version s.follow) (first_fault_of s.keys s.columns version state.seen (ask_of state 2) (ask_of state 3)) gave

-- both pairs, at the smaller of the two lengths, and what the second gave
pub record Searched (lead lead' follow follow' : Heard) (state : KeptState) (s : Sought) (version : ℕ) (gave : Result (Found × Found) CheckFault) : Type 0 where
  pub lead_between : Heard
  pub follow_between : Heard
  pub lengths : ℕ × ℕ
  pub first : Lengths lead lead_between follow follow_between state (Ok lengths)
  pub smaller : version ≡ lesser lengths.0 lengths.1
  pub second : Finding lead_between lead' follow_between follow' state version s gave

-- both pairs went well, and the answer lists what the two found
abbrev pub Answered : Heard → Heard → Heard → Heard → KeptState → Sought → Answer → Type 0
Answered lead lead' follow follow' state s answer =
    (both : Found × Found) × (version : ℕ) × Searched lead lead' follow follow' state s version (Ok both) × Lists s.keys s.columns version both.0 both.1 answer

-- the first pair's check failed, or the second's
abbrev pub Failed : Heard → Heard → Heard → Heard → KeptState → Sought → CheckFault → Type 0
Failed lead lead' follow follow' state s f = Lengths lead lead' follow follow' state (Err f) ⊎ ((version : ℕ) × Searched lead lead' follow follow' state s version (Err f))
