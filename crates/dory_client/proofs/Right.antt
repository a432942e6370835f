-- The answer of a search is right by each link, or the other link's frame is the forgery.
use Rattle.std.proofs.Common.{ℕ, ◌≤◌, List, Ok, arith, sym, subst, map}
use Rattle.std.specs.List.{AllByRecursion}
use Rattle.dory_base.specs.History.{IsHistory, version_of}
use Rattle.dory_base.specs.declared.entry.Entry.{Entry}
use Rattle.dory_base.specs.declared.found.Found.{Found}
use Rattle.dory_base.specs.declared.ids.Side.{Side}
use Rattle.dory_base.specs.declared.ids.Side.TheVariants.{Lead, Follow}
use Rattle.dory_hmac.specs.Hmac.{hmac}
use Rattle.dory_seal.specs.Seal.{IsSealed}
use Rattle.dory_dpf.specs.PointKey.{shares_of}
use Rattle.dory_query.proofs.KeyList.{pairs_of, within}
use Rattle.dory_link.specs.Told.{Heard}
use Rattle.dory_verify.proofs.CheckLaws.{checked_ok}
use Rattle.dory_verify.specs.Honest.{IsSearch}
use Rattle.dory_verify.specs.declared.answer.Answer.{Answer}
use Rattle.dory_state.specs.Spelling.{IsKeptState}
use Rattle.dory_state.specs.declared.kept.KeptState.{KeptState}
use Rattle.dory_member.specs.Course.{folder_keys}
use Rattle.dory_drive.specs.Asked.{FrameCame}
use Rattle.dory_drive.specs.Pair.{IsPaired, RightPair, by_side, request_of}
use Rattle.dory_drive.specs.Scene.{Scene, heard_at}
use Rattle.dory_drive.proofs.Growth.{came_second}
use Rattle.dory_drive.proofs.Pairs.{right_pair, search_in}
use Rattle.dory_client.specs.Headline.{IsRightAnswer}
use Rattle.dory_client.specs.Sought.{ask_of, pair_of, sought_columns, sought_of}
use Rattle.dory_client.proofs.Course.{Answered, Searched}

-- the keys that are drawn for a word are pairs at its columns
paired : (state : KeptState) (seed word : List ℕ) (version : ℕ) → IsKeptState state → IsPaired (pair_of state seed word version)
paired state seed word version kept =
    pairs_of state.shape.depth seed state.next_serial 0 (sought_columns state word) (omega (arith, kept.shape.low)) (within (hmac (folder_keys state).word word) state.shape.depth 0 state.shape.probes)

-- a search of a word in a history whose version is sealed
pub is_search : (state : KeptState) (seed word : List ℕ) (history : List Entry) (version : ℕ) → IsKeptState state → IsHistory state.shape history → AllByRecursion (IsSealed (folder_keys state)) (version_of version history)
    → IsSearch (folder_keys state) state.shape history version word (sought_columns state word) (map shares_of (sought_of state seed word).lead) (map shares_of (sought_of state seed word).follow)
is_search state seed word history version kept is sealed = search_in (pair_of state seed word version) history (paired state seed word version kept) is sealed

-- each side was asked for its length, and then its part of the pair
came : (k : KeptState) (seed word : List ℕ) (a z : Scene) (version : ℕ) (both : Found × Found) (s : Searched a.lead z.lead a.follow z.follow k (sought_of k seed word) version (Ok both)) (side : Side)
    → FrameCame (heard_at side a) (heard_at side z) (request_of (pair_of k seed word version) side) (by_side s.second.from_lead s.second.from_follow side)
came k seed word a z version both s Lead = came_second a.lead s.lead_between z.lead _ _ _ _ s.first.asked_lead s.second.asked_lead
came k seed word a z version both s Follow = came_second a.follow s.follow_between z.follow _ _ _ _ s.first.asked_follow s.second.asked_follow

pub right : (k : KeptState) (seed word : List ℕ) (answer : Answer) (a z : Scene) → IsKeptState k → Answered a.lead z.lead a.follow z.follow k (sought_of k seed word) answer → IsRightAnswer k seed word answer a z
right k seed word answer a z kept (both, version, s, lists) =
    subst (λ (v : ℕ). RightPair (pair_of k seed word v) k.seen answer (λ side. heard_at side a) (λ side. heard_at side z)) (sym lists.named)
    (right_pair (pair_of k seed word version) k.seen (by_side s.second.from_lead s.second.from_follow) answer (λ side. heard_at side a) (λ side. heard_at side z) (paired k seed word version kept)
    (came k seed word a z version both s) (both.0, both.1, s.second.checked, lists))

-- the version of an answer isn't older than what was seen
pub answered_fresh : (lead lead' follow follow' : Heard) (k : KeptState) (seed word : List ℕ) (answer : Answer) → Answered lead lead' follow follow' k (sought_of k seed word) answer → k.seen ≤ answer.version
answered_fresh lead lead' follow follow' k seed word answer (both, version, s, lists) =
    let ok = checked_ok (folder_keys k) (sought_columns k word) version k.seen (ask_of k 2) (ask_of k 3) s.second.from_lead s.second.from_follow both.0 both.1 s.second.asked_lead.are_bytes s.second.asked_follow.are_bytes s.second.checked in
    subst (λ (v : ℕ). k.seen ≤ v) (sym lists.named) ok.one.fresh
