-- One pair of a search: beside a link that tells the folder, an answer is right, or the other side's frame is the forgery.
use Rattle.std.proofs.Common.{◌≡◌, ℕ, ◌≤◌, ◌&&◌, Bool, true, false, cond, List, [], ◌∷◌, Option, Some, None, Ok, refl, inl, inr, arith, ap, sym, ◌∙◌, subst, length, map}
use Rattle.std.proofs.lemmas.Bool.Decides.{nat_tests}
use Rattle.std.specs.Prelude.{nat_le}
use Rattle.std.specs.List.{AllByRecursion}
use Rattle.dory_base.specs.Dims.{Dims, same_shape}
use Rattle.dory_base.specs.History.{IsHistory, version_of}
use Rattle.dory_base.specs.Sum.{sum_of}
use Rattle.dory_base.specs.Table.{manifest_of, table_of}
use Rattle.dory_base.specs.declared.entry.Entry.{Entry}
use Rattle.dory_base.specs.declared.found.Found.{Found}
use Rattle.dory_base.specs.declared.found.Sum.{Sum}
use Rattle.dory_base.specs.declared.ids.Side.{Side}
use Rattle.dory_base.specs.declared.ids.Side.TheVariants.{Lead, Follow}
use Rattle.dory_base.specs.declared.refusal.Refusal.{Refusal}
use Rattle.dory_base.specs.declared.refusal.Refusal.TheVariants.{NoFolder, NoMemory, ShapeWrong, Unretained}
use Rattle.dory_dpf.specs.PointKey.{PointKey, shares_of}
use Rattle.dory_fields.specs.Bytes.{IsBytes}
use Rattle.dory_seal.specs.Seal.{IsSealed}
use Rattle.dory_wire.specs.Read.{IsReadAs, found_of, oldest_of, search_of}
use Rattle.dory_wire.specs.declared.message.Want.TheVariants.{Search}
use Rattle.dory_wire.specs.declared.message.What.{What}
use Rattle.dory_wire.specs.declared.message.What.TheVariants.{Found as Finds, Refused}
use Rattle.dory_link.specs.Told.{Grown, Grows, Heard, IsFolderReply, Told}
use Rattle.dory_verify.proofs.Beside.{answered_beside_follow, answered_beside_lead}
use Rattle.dory_verify.proofs.CheckLaws.{IsChecked, checked_ok}
use Rattle.dory_verify.specs.Honest.{IsFoundIn, IsRightOrForged, IsSearch, found_by}
use Rattle.dory_verify.specs.declared.answer.Answer.{Answer}
use Rattle.dory_drive.specs.Asked.{FrameCame, HasReply}
use Rattle.dory_drive.specs.Pair.{IsVerified, IsPaired, IsRight, IsRightBy, IsRightOf, RightPair, SearchPair, columns_of, other, request_of, shares_at}
use Rattle.dory_drive.proofs.Growth.{prefix_of}

-- ---- what a domain answers to a search

-- what the version holds of a folder of the shape that the search says, or a refusal
pub data IsSearched (asked shape : Dims) (history : List Entry) (number : ℕ) (keys : List PointKey) (w : What) : Type 0 where
  Holds : asked ≡ shape → number ≤ length history → w ≡ Finds (found_of history number keys) → IsSearched asked shape history number keys w
  Denies : (code : Refusal) → w ≡ Refused code → IsSearched asked shape history number keys w

in_range : (a b c : ℕ) → (nat_le a b && nat_le b c) ≡ true → b ≤ c
in_range a b c h = grind (arith, nat_tests)

same_depth : (s t : Dims) → same_shape s t ≡ true → s.depth ≡ t.depth
same_depth s t h = grind (arith, nat_tests)

same_probes : (s t : Dims) → same_shape s t ≡ true → s.probes ≡ t.probes
same_probes s t h = grind (arith, nat_tests)

-- shapes that are alike are one
one_shape : (s t : Dims) → same_shape s t ≡ true → s ≡ t
one_shape s t h = λ i. record { depth = same_depth s t h i; probes = same_probes s t h i }

sums_same : {A B C : Type 0} (f : B → C) (g : A → B) (xs : List A) → map (λ x. f (g x)) xs ≡ map f (map g xs)
sums_same f g [] = refl
sums_same f g (x ∷ xs) = ap (λ ys. f (g x) ∷ ys) (sums_same f g xs)

-- what keys find is what their shares find
pub found_same : (history : List Entry) (number : ℕ) (keys : List PointKey) → found_of history number keys ≡ found_by history number (map shares_of keys)
found_same history number keys =
    ap (λ (sums : List Sum). record { version = number; manifest = manifest_of (table_of (version_of number history)); sums = sums })
    (sums_same (sum_of (table_of (version_of number history))) shares_of keys)

pub searched : (asked shape : Dims) (retained : ℕ) (history : List Entry) (number : ℕ) (keys : List PointKey) (w : What) → IsReadAs (search_of shape retained history number asked keys) w → IsSearched asked shape history number keys w
searched asked shape retained history number keys w is = by (same_shape asked shape) refl is
  where
    inner : (b : Bool) → (nat_le (oldest_of retained (length history)) number && nat_le number (length history)) ≡ b → asked ≡ shape
        → IsReadAs (cond b (Finds (found_of history number keys)) (Refused (Unretained (oldest_of retained (length history)) (length history)))) w → IsSearched asked shape history number keys w
    inner true within one (inl e) = Holds one (in_range _ number (length history) within) e
    inner true within one (inr e) = Denies NoMemory e
    inner false within one e = Denies (Unretained (oldest_of retained (length history)) (length history)) e

    by : (b : Bool) → same_shape asked shape ≡ b
        → IsReadAs (cond b (cond (nat_le (oldest_of retained (length history)) number && nat_le number (length history)) (Finds (found_of history number keys)) (Refused (Unretained (oldest_of retained (length history)) (length history)))) (Refused (ShapeWrong shape.depth shape.probes))) w
        → IsSearched asked shape history number keys w
    by true same e = inner (nat_le (oldest_of retained (length history)) number && nat_le number (length history)) refl (one_shape asked shape same) e
    by false same e = Denies (ShapeWrong shape.depth shape.probes) e

-- ---- what came, without a fault

-- the search of a pair in a history whose version is sealed
pub search_in : (p : SearchPair) (history : List Entry) → IsPaired p → IsHistory p.shape history → AllByRecursion (IsSealed p.keys) (version_of p.version history)
    → IsSearch p.keys p.shape history p.version p.word (columns_of p) (shares_at p Lead) (shares_at p Follow)
search_in p history paired is sealed = record { history_is = is; sealed = sealed; columns_are = refl; pairs = paired }

-- the checks of both frames
checks : (p : SearchPair) (seen : ℕ) (came : Side → List ℕ) (answer : Answer) → ((side : Side) → IsBytes (came side)) → (ok : IsVerified p seen came answer) → IsChecked p.keys (columns_of p) p.version seen (came Lead) (came Follow) ok.0 ok.1
checks p seen came answer bytes (l, f, is, lists) = checked_ok p.keys (columns_of p) p.version seen (p.ask Lead) (p.ask Follow) (came Lead) (came Follow) l f (bytes Lead) (bytes Follow) is

-- each frame says what was found
found_in : (p : SearchPair) (seen : ℕ) (came : Side → List ℕ) (answer : Answer) → ((side : Side) → IsBytes (came side)) → IsVerified p seen came answer → (side : Side) → (f : Found) × IsFoundIn (came side) f
found_in p seen came answer bytes ok Lead = (ok.0, (checks p seen came answer bytes ok).found.in_lead)
found_in p seen came answer bytes ok Follow = (ok.1, (checks p seen came answer bytes ok).found.in_follow)

-- right or forged, beside a frame with what an honest domain finds
abbrev Exact : SearchPair → Side → List ℕ → Answer → List Entry → Type 0
Exact p beside frame answer history = AllByRecursion (IsSealed p.keys) (version_of p.version history) → IsRightOrForged p.keys p.shape history p.version p.word (columns_of p) (shares_at p beside) frame answer.docs

exact : (p : SearchPair) (seen : ℕ) (came : Side → List ℕ) (answer : Answer) (history : List Entry) → ((side : Side) → IsBytes (came side)) → IsPaired p → IsVerified p seen came answer → IsHistory p.shape history
    → (side : Side) → IsFoundIn (came side) (found_by history p.version (shares_at p side)) → Exact p (other side) (came (other side)) answer history
exact p seen came answer history bytes paired ok is Lead honest = λ sealed.
    answered_beside_lead p.keys p.shape history p.version seen (p.ask Lead) (p.ask Follow) p.word (columns_of p) (shares_at p Lead) (shares_at p Follow) (came Lead) (came Follow) (Ok answer) ok (bytes Lead) (bytes Follow)
    (search_in p history paired is sealed) honest
exact p seen came answer history bytes paired ok is Follow honest = λ sealed.
    answered_beside_follow p.keys p.shape history p.version seen (p.ask Lead) (p.ask Follow) p.word (columns_of p) (shares_at p Lead) (shares_at p Follow) (came Lead) (came Follow) (Ok answer) ok (bytes Lead) (bytes Follow)
    (search_in p history paired is sealed) honest

-- ---- right by a link that tells the folder

right_of : (p : SearchPair) (side : Side) (mine frame : List ℕ) (answer : Answer) (f : Found) (before now : Option Told) → IsFoundIn mine f
    → ((history : List Entry) → IsHistory p.shape history → IsFoundIn mine (found_by history p.version (shares_at p side)) → Exact p (other side) frame answer history)
    → IsFolderReply before now (Search p.version p.shape (p.sent side)) (Finds f) → IsRightOf p (other side) frame answer before now
right_of p side mine frame answer f None now has shown by = absurd (let e : Finds f ≡ Refused NoFolder = by in cc)
right_of p side mine frame answer f (Some before) None has shown by = absurd by
right_of p side mine frame answer f (Some before) (Some now) has shown (history, at) = by (searched p.shape before.shape before.retained history p.version (p.sent side) (Finds f) at.value)
  where
    by : IsSearched p.shape before.shape history p.version (p.sent side) (Finds f) → IsRight p (other side) frame answer before now
    by (Denies code e) = absurd (cc)
    by (Holds one few e) =
        let found : f ≡ found_of history p.version (p.sent side) = cc in
        record {
          history = history;
          later = at.later;
          earlier = at.earlier;
          committed = few;
          exact = shown history (subst (λ (s : Dims). IsHistory s history) (sym one) at.is) (subst (IsFoundIn mine) (found ∙ found_same history p.version (p.sent side)) has);
        }

right_by : (p : SearchPair) (side : Side) (mine frame : List ℕ) (answer : Answer) (f : Found) (before now : Option (ℕ → Option Told)) → IsFoundIn mine f
    → ((history : List Entry) → IsHistory p.shape history → IsFoundIn mine (found_by history p.version (shares_at p side)) → Exact p (other side) frame answer history)
    → HasReply before now (request_of p side) mine → IsRightBy p (other side) frame answer before now
right_by p side mine frame answer f None None has shown replies = tt
right_by p side mine frame answer f (Some before) (Some now) (r, is, finds) shown (what, replied, by) =
    let same : what ≡ Finds f = cc in
    right_of p side mine frame answer f (before p.folder.0) (now p.folder.0) (r, is, finds) shown (subst (IsFolderReply (before p.folder.0) (now p.folder.0) (Search p.version p.shape (p.sent side))) same by)
right_by p side mine frame answer f _ _ has shown replies = absurd replies

-- what is right between two moments is right from an earlier one to a later one
wider_of : (p : SearchPair) (beside : Side) (frame : List ℕ) (answer : Answer) (a b c d : Option Told) → Grown a b → IsRightOf p beside frame answer b c → Grown c d → IsRightOf p beside frame answer a d
wider_of p beside frame answer (Some a) (Some b) (Some c) (Some d) g r h = record {
  history = r.history;
  later = prefix_of a.history b.history r.history g.history r.later;
  earlier = prefix_of r.history c.history d.history r.earlier h.history;
  committed = r.committed;
  exact = r.exact;
}
wider_of p beside frame answer None (Some b) c d g r h = absurd g
wider_of p beside frame answer (Some a) (Some b) (Some c) None g r h = absurd h
wider_of p beside frame answer _ _ _ _ g r h = absurd r

wider : (p : SearchPair) (beside : Side) (frame : List ℕ) (answer : Answer) (a b c d : Option (ℕ → Option Told)) → Grows a b → IsRightBy p beside frame answer b c → Grows c d → IsRightBy p beside frame answer a d
wider p beside frame answer None None None None g r h = tt
wider p beside frame answer (Some a) (Some b) (Some c) (Some d) g r h = wider_of p beside frame answer (a p.folder.0) (b p.folder.0) (c p.folder.0) (d p.folder.0) (g p.folder.0) r (h p.folder.0)
wider p beside frame answer None None None (Some d) g r h = absurd h
wider p beside frame answer (Some a) (Some b) (Some c) None g r h = absurd h
wider p beside frame answer None (Some b) c d g r h = absurd g
wider p beside frame answer (Some a) None c d g r h = absurd g
wider p beside frame answer _ _ _ _ g r h = absurd r

-- the law of one pair, wherever its two requests stand
pub right_pair : (p : SearchPair) (seen : ℕ) (frames : Side → List ℕ) (answer : Answer) (before after : Side → Heard) → IsPaired p → ((side : Side) → FrameCame (before side) (after side) (request_of p side) (frames side)) → IsVerified p seen frames answer
    → RightPair p seen answer before after
right_pair p seen frames answer before after paired came ok =
    let bytes : (side : Side) → IsBytes (frames side) = λ side. (came side).asked.are_bytes in
    record {
      frames = frames;
      came = came;
      fresh = (checks p seen frames answer bytes ok).one.fresh;
      right = λ side.
          let mine = found_in p seen frames answer bytes ok side in
          wider p (other side) (frames (other side)) answer (before side).folders (came side).asking.folders (came side).answered.folders (after side).folders (came side).earlier.grown
          (right_by p side (frames side) (frames (other side)) answer mine.0 (came side).asking.folders (came side).answered.folders mine.1
          (λ history is honest. exact p seen frames answer history bytes paired ok is side honest) (came side).asked.replies)
          (came side).later.grown;
    }
