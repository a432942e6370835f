-- A search that is made, and the answer to one.
use Rattle.std.proofs.Common.{◌≡◌, ℕ, ◌-◌, ◌≤◌, length, List, [], ◌∷◌, ◌++◌, replicate, refl, sym, ap, subst, ◌∙◌}
use Rattle.std.specs.Prelude.{Result, Ok, None}
use Rattle.std.specs.List.{AllByRecursion}
use Rattle.dory_base.specs.Dims.{Dims, IsDims}
use Rattle.dory_dpf.specs.PointKey.{PointKey, IsKeyOf}
use Rattle.dory_wire.specs.Spelling.{AreKeys, form_of_keys}
use Rattle.dory_hmac.specs.declared.folder_keys.FolderKeys.{FolderKeys}
use Rattle.dory_bloom.specs.Positions.{positions_of}
use Rattle.dory_base.specs.declared.found.Found.{Found}
use Rattle.dory_query.specs.declared.query.Query.{Query}
use Rattle.dory_query.specs.Columns.{asked_columns}
use Rattle.dory_query.specs.Drawn.{keys_from}
use Rattle.dory_verify.specs.declared.answer.Answer.{Answer}
use Rattle.dory_verify.specs.declared.fault.CheckFault.{CheckFault}
use Rattle.dory_verify.specs.Checks.{Verifies}
use Rattle.dory_verify.specs.Listing.{Lists, listed_in}
use Rattle.dory_member.specs.declared.outcome.Outcome.TheVariants.{Accepted}
use Rattle.dory_member.specs.declared.phase.Phase.TheVariants.{Ended, Searching}
use Rattle.dory_member.specs.declared.phase.Run.{Run}
use Rattle.dory_member.specs.Course.{after_search, answer_by, folder_keys, name, query_of}
use Rattle.dory_member.specs.Within.{IsQuery}
use Rattle.dory_member.proofs.RisingLaws.{docs_rise, rising_docs}

-- a query with the parts that are drawn is the run's
pub query_is : (run : Run) (word : List ℕ) (version : ℕ) (keys : FolderKeys) (q : Query) → keys ≡ folder_keys run.kept
    → q.word_columns ≡ positions_of keys run.kept.shape word ++ replicate (8 - run.kept.shape.probes) 0
    → q.shape ≡ run.kept.shape → q.version ≡ version → q.asks ≡ name run 2 ∷ name run 3 ∷ []
    → q.lead_keys ≡ keys_from 0 run.kept.shape.depth run.seed run.serial 0 (positions_of keys run.kept.shape word)
    → q.follow_keys ≡ keys_from 1 run.kept.shape.depth run.seed run.serial 0 (positions_of keys run.kept.shape word)
    → Searching q None ≡ Searching (query_of run word version) None
query_is run word version keys q e columns shape number asks lead follow =
    let columns' = rw e at columns in
    let lead' = rw e at lead in
    let follow' = rw e at follow in
    λ i. Searching (record { word_columns = columns' i; shape = shape i; version = number i; asks = asks i; lead_keys = lead' i; follow_keys = follow' i }) None

answer_is : (keys : FolderKeys) (q : Query) (lead follow : Found) (answer : Answer) → Lists keys (asked_columns q) q.version lead follow answer → answer ≡ answer_by keys q lead follow
answer_is keys q lead follow answer lists =
    let docs = rising_docs (listed_in keys (asked_columns q) lead follow) answer.docs lists.docs in
    λ i. record { version = lists.named i; docs = docs i }

-- an answer that is verified is the one that a search comes to
pub found_is : (keys : FolderKeys) (q : Query) (checked : Result (Found × Found) CheckFault) (answer : Answer) → Verifies keys (asked_columns q) q.version (Ok answer) checked
    → Ended (Accepted answer) ≡ after_search keys q checked
found_is keys q checked answer v =
    let same = answer_is keys q v.0 v.1 answer v.3 in
    ap (λ (a : Answer). Ended (Accepted a)) same ∙ sym (ap (after_search keys q) v.2)

form_is : (d : ℕ) (keys : List PointKey) → AllByRecursion (IsKeyOf 2 d) keys → form_of_keys keys ≡ 2
form_is d [] h = refl
form_is d (k ∷ keys) h = h.0.form

are_keys : (shape : Dims) (keys : List PointKey) → length keys ≡ shape.probes → AllByRecursion (IsKeyOf 2 shape.depth) keys → AreKeys shape keys
are_keys shape keys many each = record {
  many = many;
  each = subst (λ (f : ℕ). AllByRecursion (IsKeyOf f shape.depth) keys) (sym (form_is shape.depth keys each)) each;
}

-- a query that is made has messages
pub query_range : (q : Query) (shape : Dims) (version : ℕ) → IsDims shape → version ≤ 1048576 → q.shape ≡ shape → q.version ≡ version
    → (length q.lead_keys ≡ shape.probes) × AllByRecursion (IsKeyOf 2 shape.depth) q.lead_keys
    → (length q.follow_keys ≡ shape.probes) × AllByRecursion (IsKeyOf 2 shape.depth) q.follow_keys → IsQuery q
query_range q shape version dims few same number lead follow = record {
  version = subst (λ (n : ℕ). n ≤ 1048576) (sym number) few;
  shape = subst IsDims (sym same) dims;
  lead = subst (λ (s : Dims). AreKeys s q.lead_keys) (sym same) (are_keys shape q.lead_keys lead.0 lead.1);
  follow = subst (λ (s : Dims). AreKeys s q.follow_keys) (sym same) (are_keys shape q.follow_keys follow.0 follow.1);
}

-- the answer to a search lists what was found
pub lists_answer : (keys : FolderKeys) (q : Query) (lead follow : Found) → Lists keys (asked_columns q) q.version lead follow (answer_by keys q lead follow)
lists_answer keys q lead follow = record { named = refl; docs = docs_rise (listed_in keys (asked_columns q) lead follow) }
