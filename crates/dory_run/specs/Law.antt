-- What is true at each moment of every run.
use Rattle.std.specs.Prelude.{ℕ, ◌≡◌, ◌≢◌, ◌≤◌, ◌+◌, ◌==◌, ◌&&◌, Bool, false, true, List, [], ◌∷◌, length, map, Option, Some, None, AllPairs, if◌then◌else◌, slice_get, IfSome}
use Rattle.std.specs.List.{AllByRecursion}
use Rattle.dory_base.specs.Log.{same_id}
use Rattle.dory_base.specs.declared.entry.Change.{Change}
use Rattle.dory_base.specs.declared.entry.Change.TheVariants.{Post, Remove}
use Rattle.dory_base.specs.declared.entry.Entry.{Entry}
use Rattle.dory_base.specs.declared.ids.MemberId.{MemberId}
use Rattle.dory_base.specs.declared.ids.Side.{Side}
use Rattle.dory_base.specs.declared.ids.Side.TheVariants.{Lead, Follow}
use Rattle.dory_base.specs.declared.ids.UpdateId.{UpdateId}
use Rattle.dory_bloom.specs.Positions.{positions_of}
use Rattle.dory_dpf.specs.PointKey.{shares_of}
use Rattle.dory_hmac.specs.declared.folder_keys.FolderKeys.{FolderKeys}
use Rattle.dory_seal.specs.Epoch.{epoch_of}
use Rattle.dory_seal.specs.Seal.{IsSealed}
use Rattle.dory_query.specs.declared.query.Query.{Query}
use Rattle.dory_verify.specs.Honest.{IsRightOrForged}
use Rattle.dory_verify.specs.declared.answer.Answer.{Answer}
use Rattle.dory_state.specs.declared.kept.KeptState.{KeptState}
use Rattle.dory_member.specs.declared.command.Command.TheVariants as command
use Rattle.dory_member.specs.declared.outcome.Outcome.TheVariants.{Accepted}
use Rattle.dory_member.specs.declared.phase.Phase.TheVariants.{Searching}
use Rattle.dory_member.specs.declared.phase.Run.{Run}
use Rattle.dory_member.specs.Course.{query_of}
use Rattle.dory_run.specs.declared.event.Event.{Event}
use Rattle.dory_run.specs.declared.event.Event.TheVariants.{Return}
use Rattle.dory_run.specs.declared.event.Honest.{Honest}
use Rattle.dory_run.specs.declared.line.WorldLine.TheVariants as line
use Rattle.dory_run.specs.declared.setup.Setup.{Setup}
use Rattle.dory_run.specs.Happening.{Happened, happens, lies}
use Rattle.dory_run.specs.Run.{Moment, command_of}
use Rattle.dory_run.specs.Start.{keys_in}
use Rattle.dory_run.specs.World.{Station, Idle, Busy, Replied, folder_of}

-- ---- each update at most once, and whole

-- the update that was made under this id
abbrev pub made_as : List Entry → UpdateId → Option Entry
made_as [] id = None
made_as (e ∷ made) id = if same_id e.id id then Some e else made_as made id

-- the update is as its member made it
abbrev pub IsMade : List Entry → Entry → Type 0
IsMade made e = made_as made e.id ≡ Some e

-- a post, and not a removal
abbrev pub is_post : Change → Bool
is_post (Post shape row tags) = true
is_post Remove = false

-- a post of this member in this epoch
abbrev pub is_post_in : ℕ → ℕ → Entry → Bool
is_post_in m epoch e = is_post e.change && ((e.id.member.0 == m) && (epoch_of e.id == epoch))

-- one where it is so
abbrev pub one : Bool → ℕ
one true = 1
one false = 0

-- how many posts of a member in an epoch there are
abbrev pub count_posts : ℕ → ℕ → List Entry → ℕ
count_posts m epoch [] = 0
count_posts m epoch (e ∷ entries) = one (is_post_in m epoch e) + count_posts m epoch entries

-- A history: no update stands twice, each is as its member made it and is sealed under the folder's keys, and of one member
-- and one epoch there are at most 65,536 posts.
pub record IsWhole (keys : FolderKeys) (made history : List Entry) : Type 0 where
  pub once : AllPairs (λ a b. a.id ≢ b.id) history
  pub as_made : AllByRecursion (IsMade made) history
  pub sealed : AllByRecursion (IsSealed keys) history
  pub few : (m epoch : ℕ) → count_posts m epoch history ≤ 65536

-- so is the history of each domain, as long as it answers as a domain does
abbrev pub AreWhole : Setup → Moment → Type 0
AreWhole s x = (side : Side) → IsWhole (keys_in s) x.made (folder_of x.world side).history

-- ---- what members have seen

-- what a member keeps
abbrev pub kept_in : Station → KeptState
kept_in (Idle k) = k
kept_in (Busy run) = run.kept

-- no member has seen more than this domain has
abbrev pub HaveSeen : Side → Moment → Type 0
HaveSeen side x = (m : ℕ) → IfSome (slice_get x.world.members m) (λ s. (kept_in s).seen ≤ length (folder_of x.world side).history)

-- ---- accepted searches

-- one thing for each side
abbrev pub by_side : {A : Type 0} → A → A → Side → A
by_side lead follow Lead = lead
by_side lead follow Follow = follow

-- the other side
abbrev pub other : Side → Side
other Lead = Follow
other Follow = Lead

-- what a search's keys select at the domain of a side
abbrev pub shares_at : Query → Side → List (List Bool)
shares_at q side = map shares_of (by_side q.lead_keys q.follow_keys side)

-- By a domain's history the answer is right: the version was committed, and the documents are exactly those whose rows at
-- that version hold the word's bits, and the other domain's frame is what an honest one would have found, or it is the forgery.
pub record IsRightBy (s : Setup) (q : Query) (word : List ℕ) (answer : Answer) (history : List Entry) (beside : Side) (frame : List ℕ) : Type 0 where
  pub committed : answer.version ≤ length history
  pub right : IsRightOrForged (keys_in s) s.shape history answer.version word (positions_of (keys_in s) s.shape word) (shares_at q beside) frame answer.docs

-- A search that is accepted at an event: the member runs the command that it was given, a search for a word. The lead's frame
-- had come and now the follower's is returned. The version is no older than the member had seen, and the answer is right by the
-- history of each honest domain.
pub record IsRight (h : Honest) (s : Setup) (x : Moment) (e : Event) (m : MemberId) (answer : Answer) : Type 0 where
  pub word : List ℕ
  pub given : command_of x.given m.0 ≡ Some (command.Search word)
  pub run : Run
  pub query : Query
  pub frames : Side → List ℕ
  pub runs : slice_get x.world.members m.0 ≡ Some (Busy run)
  pub phase : run.phase ≡ Searching query (Some (frames Lead))
  pub asked : query ≡ query_of run word answer.version
  pub number : ℕ
  pub returns : e ≡ Return number
  pub came : slice_get x.world.messages number ≡ Some (Replied Follow m (frames Follow))
  pub fresh : run.kept.seen ≤ answer.version
  pub right : (side : Side) → lies h side ≡ false → IsRightBy s query word answer (folder_of x.world side).history (other side) (frames (other side))

-- whatever event comes next, a search that it ends accepted is right
abbrev pub AcceptsRight : Honest → Setup → Moment → Type 0
AcceptsRight h s x = (e : Event) (t : Happened) (m : MemberId) (answer : Answer) → happens h s x.world e ≡ Some t → t.line ≡ line.Ended m (Accepted answer) → IsRight h s x e m answer
