-- Whole commands, one reply after the other.
use Rattle.std.proofs.Common.{◌≡◌, ℕ, List, [], ◌∷◌, ◌++◌, refl, ap, ◌∙◌}
use Rattle.std.specs.Prelude.{Option, Some, None, Result, Ok, Err, false}
use Rattle.dory_base.specs.declared.ids.Side.TheVariants.{Lead, Follow}
use Rattle.dory_base.specs.declared.entry.Entry.{Entry}
use Rattle.dory_base.specs.declared.found.Found.{Found}
use Rattle.dory_hmac.specs.declared.folder_keys.FolderKeys.{FolderKeys}
use Rattle.dory_query.specs.declared.query.Query.{Query}
use Rattle.dory_query.specs.Columns.{asked_columns}
use Rattle.dory_state.specs.declared.kept.KeptState.{KeptState}
use Rattle.dory_verify.specs.declared.fault.CheckFault.{CheckFault}
use Rattle.dory_verify.specs.Checks.{lengths_of, first_fault_of}
use Rattle.dory_member.specs.declared.outcome.Mark.{Mark}
use Rattle.dory_member.specs.declared.outcome.Fault.{Fault}
use Rattle.dory_member.specs.declared.outcome.Outcome.{Outcome}
use Rattle.dory_member.specs.declared.phase.UpdateStep.TheVariants.{StageFollow, StageLead, OrderLead, FollowOn}
use Rattle.dory_member.specs.declared.phase.Single.TheVariants as single
use Rattle.dory_member.specs.declared.phase.Phase.{Phase}
use Rattle.dory_member.specs.declared.phase.Phase.TheVariants.{Updating, Measuring, Searching, Ended}
use Rattle.dory_member.specs.declared.phase.Run.{Run}
use Rattle.dory_member.specs.Course.{Put, after_lengths, after_search, after_update, asked_of, asks, ended_of, folder_keys, lesser, moved, name, put_at, query_of, took, updated}
use Rattle.dory_member.specs.Single.{confirmed}
use Rattle.dory_member.specs.Whole.{start, update_asks, search_asks}

-- a run at a step
abbrev at : KeptState → List ℕ → ℕ → ℕ → Phase → Run
at k seed serial step phase = record { kept = k; seed = seed; serial = serial; step = step; phase = phase }

-- what is asked at a run, and then what is asked after a reply that leads to this run
ask_then : (run next : Run) (frame : List ℕ) (frames : List (List ℕ)) (rest : List Put) → took run frame ≡ next → asked_of next frames ≡ rest
    → asked_of run (frame ∷ frames) ≡ put_at run (asks run.phase) ++ rest
ask_then run next frame frames rest e h =
    ap (λ (r : Run). put_at run (asks run.phase) ++ asked_of r frames) e ∙ ap (λ (asked : List Put). put_at run (asks run.phase) ++ asked) h

end_then : (run next : Run) (frame : List ℕ) (frames : List (List ℕ)) (o : Option Outcome) → took run frame ≡ next → ended_of next frames ≡ o → ended_of run (frame ∷ frames) ≡ o
end_then run next frame frames o e h = ap (λ (r : Run). ended_of r frames) e ∙ h

-- an update whose four replies confirm what they are asked
pub update_whole : (k : KeptState) (seed : List ℕ) (serial : ℕ) (e : Entry) (m0 m1 m2 m3 : Mark) (f0 f1 f2 f3 : List ℕ)
    → confirmed Follow (single.Stage e.id) (name (start k seed serial (Updating e StageFollow)) 0) f0 ≡ Ok m0
    → confirmed Lead (single.Stage e.id) (name (start k seed serial (Updating e StageFollow)) 1) f1 ≡ Ok m1
    → confirmed Lead (single.Order e.id) (name (start k seed serial (Updating e StageFollow)) 2) f2 ≡ Ok m2
    → confirmed Follow (single.Follow m2.number e.id) (name (start k seed serial (Updating e StageFollow)) 3) f3 ≡ Ok m3
    → (asked_of (start k seed serial (Updating e StageFollow)) (f0 ∷ f1 ∷ f2 ∷ f3 ∷ []) ≡ update_asks (start k seed serial (Updating e StageFollow)) e m2.number)
    × (ended_of (start k seed serial (Updating e StageFollow)) (f0 ∷ f1 ∷ f2 ∷ f3 ∷ []) ≡ Some (updated e.change e.doc m2.number))
update_whole k seed serial e m0 m1 m2 m3 f0 f1 f2 f3 c0 c1 c2 c3 =
    let r0 : Run = at k seed serial 0 (Updating e StageFollow) in
    let r1 : Run = at k seed serial 1 (Updating e StageLead) in
    let r2 : Run = at k seed serial 2 (Updating e OrderLead) in
    let r3 : Run = at k seed serial 3 (Updating e (FollowOn m2.number false)) in
    let r4 : Run = moved r3 (Ended (updated e.change e.doc m2.number)) in
    let s0 : took r0 f0 ≡ r1 = ap (λ (r : Result Mark Fault). moved r0 (after_update e StageFollow r)) c0 in
    let s1 : took r1 f1 ≡ r2 = ap (λ (r : Result Mark Fault). moved r1 (after_update e StageLead r)) c1 in
    let s2 : took r2 f2 ≡ r3 = ap (λ (r : Result Mark Fault). moved r2 (after_update e OrderLead r)) c2 in
    let s3 : took r3 f3 ≡ r4 = ap (λ (r : Result Mark Fault). moved r3 (after_update e (FollowOn m2.number false) r)) c3 in (
      ask_then r0 r1 f0 (f1 ∷ f2 ∷ f3 ∷ []) _ s0 (ask_then r1 r2 f1 (f2 ∷ f3 ∷ []) _ s1 (ask_then r2 r3 f2 (f3 ∷ []) _ s2 (ask_then r3 r4 f3 [] [] s3 refl))),
      end_then r0 r1 f0 (f1 ∷ f2 ∷ f3 ∷ []) _ s0 (end_then r1 r2 f1 (f2 ∷ f3 ∷ []) _ s1 (end_then r2 r3 f2 (f3 ∷ []) _ s2 (end_then r3 r4 f3 [] (Some (updated e.change e.doc m2.number)) s3 refl))),
    )

no_ask : (run : Run) (keys : FolderKeys) (q : Query) (r : Result (Found × Found) CheckFault) → put_at (moved run (after_search keys q r)) (asks (after_search keys q r)) ≡ []
no_ask run keys q (Ok both) = refl
no_ask run keys q (Err f) = refl

-- a search whose first pair passes its checks
pub search_whole : (k : KeptState) (seed : List ℕ) (serial : ℕ) (word : List ℕ) (n : ℕ × ℕ) (f0 f1 f2 f3 : List ℕ)
    → lengths_of k.seen (name (start k seed serial (Measuring (Some word) None)) 0) (name (start k seed serial (Measuring (Some word) None)) 1) f0 f1 ≡ Ok n
    → asked_of (start k seed serial (Measuring (Some word) None)) (f0 ∷ f1 ∷ f2 ∷ f3 ∷ [])
    ≡ search_asks (start k seed serial (Measuring (Some word) None)) (query_of (start k seed serial (Measuring (Some word) None)) word (lesser n.0 n.1))
search_whole k seed serial word n f0 f1 f2 f3 c =
    let r0 : Run = at k seed serial 0 (Measuring (Some word) None) in
    let r1 : Run = at k seed serial 1 (Measuring (Some word) (Some f0)) in
    let q : Query = query_of r0 word (lesser n.0 n.1) in
    let r2 : Run = at k seed serial 2 (Searching q None) in
    let r3 : Run = at k seed serial 3 (Searching q (Some f2)) in
    let s1 : took r1 f1 ≡ r2 = ap (λ (r : Result (ℕ × ℕ) CheckFault). moved r1 (after_lengths r1 (Some word) r)) c in
    let last : asked_of (took r3 f3) [] ≡ [] =
    no_ask r3 (folder_keys k) q (first_fault_of (folder_keys k) (asked_columns q) q.version k.seen (name r3 2) (name r3 3) f2 f3)
    in
    ask_then r0 r1 f0 (f1 ∷ f2 ∷ f3 ∷ []) _ refl (ask_then r1 r2 f1 (f2 ∷ f3 ∷ []) _ s1 (ask_then r2 r3 f2 (f3 ∷ []) _ refl (ask_then r3 (took r3 f3) f3 [] [] refl last)))
