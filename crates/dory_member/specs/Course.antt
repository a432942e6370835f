-- The course of a command: how it begins, what it asks, where each reply leads, what it keeps and how it ends.
use Rattle.std.specs.Prelude.{ℕ, ◌+◌, ◌-◌, ◌&&◌, nat_lt, Bool, true, false, if◌then◌else◌, List, [], ◌∷◌, ◌++◌, length, map, replicate, slice_index_or, Option, Some, None, Result, Ok, Err}
use Rattle.std.specs.List.{range_with_len}
use Rattle.dory_base.specs.Dims.{Dims}
use Rattle.dory_base.specs.declared.ids.Side.{Side}
use Rattle.dory_base.specs.declared.ids.Side.TheVariants.{Lead, Follow}
use Rattle.dory_base.specs.declared.ids.AskId.{AskId}
use Rattle.dory_base.specs.declared.ids.DocId.{DocId}
use Rattle.dory_base.specs.declared.ids.UpdateId.{UpdateId}
use Rattle.dory_base.specs.declared.entry.Entry.{Entry}
use Rattle.dory_base.specs.declared.entry.Change.{Change}
use Rattle.dory_base.specs.declared.entry.Change.TheVariants as change
use Rattle.dory_base.specs.declared.refusal.Refusal.TheVariants.{Gap}
use Rattle.dory_base.specs.declared.found.Found.{Found}
use Rattle.dory_hmac.specs.FolderKeys.{keys_of}
use Rattle.dory_hmac.specs.declared.folder_keys.FolderKeys.{FolderKeys}
use Rattle.dory_bloom.specs.Positions.{positions_of}
use Rattle.dory_seal.specs.Seal.{cell_tag_of, masked}
use Rattle.dory_query.specs.declared.query.Query.{Query}
use Rattle.dory_query.specs.Columns.{asked_columns}
use Rattle.dory_query.specs.Drawn.{keys_from}
use Rattle.dory_wire.specs.declared.message.Want.{Want}
use Rattle.dory_wire.specs.declared.message.Want.TheVariants as want
use Rattle.dory_wire.specs.declared.message.Request.{Request}
use Rattle.dory_state.specs.declared.kept.Pending.{Pending}
use Rattle.dory_state.specs.declared.kept.KeptState.{KeptState}
use Rattle.dory_verify.specs.declared.answer.Answer.{Answer}
use Rattle.dory_verify.specs.declared.fault.CheckFault.{CheckFault}
use Rattle.dory_verify.specs.declared.fault.CheckFault.TheVariants as check
use Rattle.dory_verify.specs.Checks.{lengths_of, first_fault_of}
use Rattle.dory_verify.specs.Listing.{listed_in}
use Rattle.dory_member.specs.declared.command.Command.{Command}
use Rattle.dory_member.specs.declared.command.Command.TheVariants as command
use Rattle.dory_member.specs.declared.outcome.Mark.{Mark}
use Rattle.dory_member.specs.declared.outcome.Fault.{Fault}
use Rattle.dory_member.specs.declared.outcome.Fault.TheVariants as fault
use Rattle.dory_member.specs.declared.outcome.Outcome.{Outcome}
use Rattle.dory_member.specs.declared.outcome.Outcome.TheVariants.{Posted, Removed, Accepted, NothingPending, Lengths, Rotated, Failed}
use Rattle.dory_member.specs.declared.phase.UpdateStep.{UpdateStep}
use Rattle.dory_member.specs.declared.phase.UpdateStep.TheVariants.{StageFollow, StageLead, OrderLead, FollowOn, WhichOther, FollowOther}
use Rattle.dory_member.specs.declared.phase.Single.{Single}
use Rattle.dory_member.specs.declared.phase.Single.TheVariants as single
use Rattle.dory_member.specs.declared.phase.Phase.{Phase}
use Rattle.dory_member.specs.declared.phase.Phase.TheVariants.{Updating, Measuring, Searching, Ended}
use Rattle.dory_member.specs.declared.phase.Run.{Run}
use Rattle.dory_member.specs.Draw.{epoch_in, turned, is_used_up, ready, drawn, with_pending, is_last_serial, is_last_epoch}
use Rattle.dory_member.specs.Rising.{docs_of}
use Rattle.dory_member.specs.Single.{confirmed}

-- one ask: of which domain, and what
pub record Ask : Type 0 where
  pub side : Side
  pub want : Want

-- a want, of a domain
abbrev pub to : Side → Want → Ask
to side want = record { side = side; want = want }

-- the domain that an update's step asks
abbrev pub side_of : UpdateStep → Side
side_of StageFollow = Follow
side_of StageLead = Lead
side_of OrderLead = Lead
side_of (FollowOn number repaired) = Follow
side_of (WhichOther number at) = Lead
side_of (FollowOther number at id) = Follow

-- what the step asks for the update of this id. It is staged at both before it is ordered at the lead
abbrev pub single_of : UpdateId → UpdateStep → Single
single_of id StageFollow = single.Stage id
single_of id StageLead = single.Stage id
single_of id OrderLead = single.Order id
single_of id (FollowOn number repaired) = single.Follow number id
single_of id (WhichOther number at) = single.Which at
single_of id (FollowOther number at other) = single.Follow at other

-- what is asked so, where a Stage has this entry
abbrev pub want_of : Entry → Single → Want
want_of e (single.Which number) = want.Which number
want_of e (single.Stage id) = want.Stage e
want_of e (single.Order id) = want.Order id
want_of e (single.Follow number id) = want.Follow number id

-- what is asked at a phase
abbrev pub asks : Phase → Option Ask
asks (Updating e at) = Some (to (side_of at) (want_of e (single_of e.id at)))
asks (Measuring word None) = Some (to Lead want.Latest)
asks (Measuring word (Some lead)) = Some (to Follow want.Latest)
asks (Searching q None) = Some (to Lead (want.Search q.version q.shape q.lead_keys))
asks (Searching q (Some lead)) = Some (to Follow (want.Search q.version q.shape q.follow_keys))
asks (Ended outcome) = None

-- the name of the ask at a step
abbrev pub name : Run → ℕ → AskId
name run step = record { member = run.kept.member; serial = run.serial; step = step }

-- a command that fails
abbrev pub fails : Fault → Phase
fails f = Ended (Failed f)

-- A Follow with the number that the lead gave has failed for the first time. Where the follower is behind by more than
-- this update, it is repaired from the first number that it misses; anything else is the fault.
abbrev pub after_refused : Entry → ℕ → Fault → Phase
after_refused e number (fault.Check (check.Refused Follow (Gap l))) =
    if nat_lt (l + 1) number then Updating e (WhichOther number (l + 1)) else fails (fault.Check (check.Refused Follow (Gap l)))
after_refused e number f = fails f

-- where a fault of an update's step leads
abbrev pub after_fault : Entry → UpdateStep → Fault → Phase
after_fault e (FollowOn number false) f = after_refused e number f
after_fault e at f = fails f

-- a post or a removal that stands in both histories
abbrev pub updated : Change → DocId → ℕ → Outcome
updated (change.Post shape row tags) doc number = Posted doc number
updated change.Remove doc number = Removed doc number

-- Where what a reply confirms leads. In the repair, each number before the update's own is asked of the lead and followed,
-- and then the update is followed again.
abbrev pub after_mark : Entry → UpdateStep → Mark → Phase
after_mark e StageFollow m = Updating e StageLead
after_mark e StageLead m = Updating e OrderLead
after_mark e OrderLead m = Updating e (FollowOn m.number false)
after_mark e (FollowOn number repaired) m = Ended (updated e.change e.doc number)
after_mark e (WhichOther number at) m = Updating e (FollowOther number at m.id)
after_mark e (FollowOther number at id) m =
    if nat_lt (at + 1) number then Updating e (WhichOther number (at + 1)) else Updating e (FollowOn number true)

-- where what an update's step comes to leads
abbrev pub after_update : Entry → UpdateStep → Result Mark Fault → Phase
after_update e at (Ok m) = after_mark e at m
after_update e at (Err f) = after_fault e at f

-- the smaller of two
abbrev pub lesser : ℕ → ℕ → ℕ
lesser m n = if nat_lt m n then m else n

-- the larger of two
abbrev pub greater : ℕ → ℕ → ℕ
greater m n = if nat_lt m n then n else m

-- a member's keys of its folder
abbrev pub folder_keys : KeptState → FolderKeys
folder_keys k = keys_of k.master k.folder.0

-- the search for a word at a version, whose keys are drawn from the seed. Its asks are the third and the fourth
abbrev pub query_of : Run → List ℕ → ℕ → Query
query_of run word version = record {
  word_columns = positions_of (folder_keys run.kept) run.kept.shape word ++ replicate (8 - run.kept.shape.probes) 0;
  shape = run.kept.shape;
  version = version;
  asks = name run 2 ∷ name run 3 ∷ [];
  lead_keys = keys_from 0 run.kept.shape.depth run.seed run.serial 0 (positions_of (folder_keys run.kept) run.kept.shape word);
  follow_keys = keys_from 1 run.kept.shape.depth run.seed run.serial 0 (positions_of (folder_keys run.kept) run.kept.shape word);
}

-- where two lengths lead: a search goes on at the smaller one
abbrev pub after_lengths : Run → Option (List ℕ) → Result (ℕ × ℕ) CheckFault → Phase
after_lengths run word (Err f) = fails (fault.Check f)
after_lengths run None (Ok n) = Ended (Lengths n.0 n.1 run.kept.seen)
after_lengths run (Some word) (Ok n) = Searching (query_of run word (lesser n.0 n.1)) None

-- the answer that two replies to a search give
abbrev pub answer_by : FolderKeys → Query → Found → Found → Answer
answer_by keys q lead follow = record { version = q.version; docs = docs_of (listed_in keys (asked_columns q) lead follow) }

-- where what a pair of replies to a search comes to leads
abbrev pub after_search : FolderKeys → Query → Result (Found × Found) CheckFault → Phase
after_search keys q (Err f) = fails (fault.Check f)
after_search keys q (Ok both) = Ended (Accepted (answer_by keys q both.0 both.1))

-- Where a frame leads. Of a pair, the lead's is held until the follower's came, and then both are checked.
abbrev pub phase_after : Run → Phase → List ℕ → Phase
phase_after run (Updating e at) frame =
    after_update e at (confirmed (side_of at) (single_of e.id at) (name run run.step) frame)
phase_after run (Measuring word None) frame = Measuring word (Some frame)
phase_after run (Measuring word (Some lead)) frame =
    after_lengths run word (lengths_of run.kept.seen (name run 0) (name run 1) lead frame)
phase_after run (Searching q None) frame = Searching q (Some frame)
phase_after run (Searching q (Some lead)) frame =
    after_search (folder_keys run.kept) q (first_fault_of (folder_keys run.kept) (asked_columns q) q.version run.kept.seen (name run 2) (name run 3) lead frame)
phase_after run (Ended outcome) frame = Ended outcome

-- nothing is pending any more, and this number was seen
abbrev pub settled : KeptState → ℕ → KeptState
settled k number = record k { seen = greater k.seen number; pending = None }

-- what an outcome keeps
abbrev pub finished : KeptState → Outcome → KeptState
finished k (Posted doc number) = settled k number
finished k (Removed doc number) = settled k number
finished k (Accepted answer) = record k { seen = answer.version }
finished k NothingPending = k
finished k (Lengths lead follow seen) = k
finished k (Rotated epoch) = k
finished k (Failed f) = k

-- what is kept at a phase
abbrev pub kept_at : KeptState → Phase → KeptState
kept_at k (Updating e at) = k
kept_at k (Measuring word lead) = k
kept_at k (Searching q lead) = k
kept_at k (Ended outcome) = finished k outcome

-- the run goes on to a phase
abbrev pub moved : Run → Phase → Run
moved run phase = record run { kept = kept_at run.kept phase; step = run.step + 1; phase = phase }

-- a frame is taken: one step of a command
abbrev pub took : Run → List ℕ → Run
took run frame = moved run (phase_after run run.phase frame)

-- the id of a member's pending update
abbrev pub id_of : KeptState → Pending → UpdateId
id_of k p = record { member = k.member; serial = p.serial }

-- the tag of each sealed cell
abbrev pub cell_tags : FolderKeys → DocId → UpdateId → List Bool → List ℕ
cell_tags keys doc id cells = map (λ j. cell_tag_of keys doc id j (slice_index_or cells j false)) (range_with_len 0 (length cells))

-- a row, sealed: under its mask, with the tags of its cells
abbrev pub sealed_row : FolderKeys → Dims → UpdateId → DocId → List Bool → Change
sealed_row keys shape id doc row = change.Post shape (masked keys doc id row) (cell_tags keys doc id (masked keys doc id row))

-- what a pending update does to its document
abbrev pub change_of : KeptState → Pending → Option (List Bool) → Change
change_of k p (Some row) = sealed_row (folder_keys k) k.shape (id_of k p) p.doc row
change_of k p None = change.Remove

-- the entry of a pending update
abbrev pub entry_of : KeptState → Pending → Entry
entry_of k p = record { id = id_of k p; doc = p.doc; change = change_of k p p.row }

-- a command that asks: it draws the serial of its asks, and so many posts are counted
abbrev pub asking : KeptState → List ℕ → ℕ → Phase → Run
asking k seed used phase = record { kept = drawn k used; seed = seed; serial = k.next_serial; step = 0; phase = phase }

-- a command that asks nothing
abbrev pub ended_with : KeptState → List ℕ → Outcome → Run
ended_with k seed outcome = record { kept = k; seed = seed; serial = 0; step = 0; phase = Ended outcome }

-- a refusal, where there is a cause
abbrev pub refused_if : Bool → Fault → Result Run Fault → Result Run Fault
refused_if cause f begun = if cause then Err f else begun

-- a command that asks is refused where no serial is left
abbrev pub if_serial : KeptState → Result Run Fault → Result Run Fault
if_serial k begun = refused_if (is_last_serial k) fault.SerialEnd begun

-- an update that is made now, and takes the drawn serial
abbrev pub new_update : KeptState → DocId → Option (List Bool) → Pending
new_update k doc row = record { serial = k.next_serial; doc = doc; row = row }

-- a new update is kept as pending, and begins
abbrev pub update_run : KeptState → List ℕ → ℕ → Pending → Run
update_run k seed used p = record {
  kept = with_pending (drawn k used) p;
  seed = seed;
  serial = k.next_serial;
  step = 0;
  phase = Updating (entry_of k p) StageFollow;
}

-- a post in a state that is ready for it is counted
abbrev pub posting : KeptState → List ℕ → DocId → List Bool → Run
posting k seed doc row = update_run k seed (k.used + 1) (new_update k doc (Some row))

-- a removal isn't
abbrev pub removing : KeptState → List ℕ → DocId → Run
removing k seed doc = update_run k seed k.used (new_update k doc None)

-- a post or a removal is refused where an update is pending
abbrev pub if_finished : KeptState → Option Pending → Result Run Fault → Result Run Fault
if_finished k (Some p) begun = Err (fault.Unfinished (id_of k p))
if_finished k None begun = begun

-- the pending update is taken up again, under its own id, or there is none
abbrev pub resumed : KeptState → List ℕ → Option Pending → Result Run Fault
resumed k seed None = Ok (ended_with k seed NothingPending)
resumed k seed (Some p) = if_serial k (Ok (asking k seed k.used (Updating (entry_of k p) StageFollow)))

-- how a command begins, or why it is refused
abbrev pub begun : KeptState → List ℕ → Command → Result Run Fault
begun k seed (command.Post doc row) =
    if_finished k k.pending (if_serial k (refused_if (is_used_up k && is_last_epoch k) fault.EpochEnd (Ok (posting (ready k) seed doc row))))
begun k seed (command.Remove doc) = if_finished k k.pending (if_serial k (Ok (removing k seed doc)))
begun k seed (command.Search word) = if_serial k (Ok (asking k seed k.used (Measuring (Some word) None)))
begun k seed command.Resume = resumed k seed k.pending
begun k seed command.Latest = if_serial k (Ok (asking k seed k.used (Measuring None None)))
begun k seed command.Rotate =
    refused_if (is_last_epoch k) fault.EpochEnd (Ok (ended_with (turned k) seed (Rotated (epoch_in (turned k).next_serial))))

-- a run, or the fault that there is
abbrev pub or_fault : Option Fault → Run → Result Run Fault
or_fault None run = Ok run
or_fault (Some f) run = Err f

-- the request of an ask at a run's step
abbrev pub ask_request : Run → Ask → Request
ask_request run ask = record { ask = name run run.step; folder = run.kept.folder; want = ask.want }

-- a request, and the domain that it is put to
abbrev pub Put : Type 0
Put = Side × Request

-- what is put to a domain at a run's step, if anything is
abbrev pub put_at : Run → Option Ask → List Put
put_at run None = []
put_at run (Some ask) = (ask.side, ask_request run ask) ∷ []

-- the run after these replies
abbrev pub run_after : Run → List (List ℕ) → Run
run_after run [] = run
run_after run (frame ∷ frames) = run_after (took run frame) frames

-- Asked: what a command has put to the domains, each with its side, when these replies have come
abbrev pub asked_of : Run → List (List ℕ) → List Put
asked_of run [] = put_at run (asks run.phase)
asked_of run (frame ∷ frames) = put_at run (asks run.phase) ++ asked_of (took run frame) frames

-- how a phase has ended, if it has
abbrev pub outcome_at : Phase → Option Outcome
outcome_at (Updating e at) = None
outcome_at (Measuring word lead) = None
outcome_at (Searching q lead) = None
outcome_at (Ended outcome) = Some outcome

-- Ended: how a command has ended, if it has, when these replies have come
abbrev pub ended_of : Run → List (List ℕ) → Option Outcome
ended_of run frames = outcome_at (run_after run frames).phase
