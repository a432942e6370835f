-- Lanes whose seats are at a domain, as lanes of what their seats have seen.
use Rattle.std.proofs.Common.{◌≡◌, ◌<◌, ℕ, suc, ◌||◌, List, [], ◌∷◌, All, map, length, slice_index_or, Option, if◌then◌else◌, refl, sym, subst, ap, ◌∙◌, ◌++◌, arith}
use Rattle.std.specs.List.{AllZip, list_any}
use Rattle.std.proofs.lemmas.List.{length-map}
use Rattle.std.proofs.lemmas.List.Elements.{All-cons, All-nil, All-tail}
use Rattle.dory_net.specs.declared.serving.ServeEnd.{ServeEnd}
use Rattle.dory_net.specs.declared.serving.ServeEnd.TheVariants.{Sessions, AcceptFault}
use Rattle.dory_shared.specs.Seen.{Seen}
use Rattle.dory_seats.specs.Answered.{IsAnswered}
use Rattle.dory_lanes.specs.Lanes.{IsLaneServed, end_of, is_faulty}
use Rattle.dory_lanes.specs.declared.lane.Lane.{Lane}
use Rattle.dory_server.specs.Served.{Counting, ServedFrom, showing}

-- what holds of what two lists have at each place holds of the lists
pub zipped : {A B : Type 0} (f : A → B) (R : B → B → Type 0) (xs ys : List A) → length ys ≡ length xs → ((i : ℕ) (d : A) → i < length xs → R (f (slice_index_or xs i d)) (f (slice_index_or ys i d))) → AllZip R (map f xs) (map f ys)
zipped f R [] [] len each = tt
zipped f R [] (y ∷ ys) len each = absurd (omega (arith, len))
zipped f R (x ∷ xs) [] len each = absurd (omega (arith, len))
zipped f R (x ∷ xs) (y ∷ ys) len each = (each 0 x (omega arith), zipped f R xs ys (omega (arith, len)) (λ i d h. each (suc i) d (omega (arith, h))))

-- a lane, as what its seat has seen
abbrev pub shown : {D Door : Type 0} → (D → List Seen) → Lane D Door → Lane (List Seen) Door
shown seat_of l = record { answers = seat_of l.answers; port = l.port; end = l.end }

-- what its seat has seen
abbrev pub seat_in : {D Door : Type 0} → (D → List Seen) → Lane D Door → List Seen
seat_in seat_of l = seat_of l.answers

same_seats : {D Door : Type 0} (seat_of : D → List Seen) (seen : List Seen) (lanes : List (Lane D Door)) → All (λ s. s ≡ seen) (map (seat_in seat_of) lanes) → All (λ (l : Lane (List Seen) Door). l.answers ≡ seen) (map (shown seat_of) lanes)
same_seats {D} {Door} seat_of seen [] h = All-nil (λ (l : Lane (List Seen) Door). l.answers ≡ seen)
same_seats {D} {Door} seat_of seen (l ∷ lanes) h =
    All-cons (λ (l : Lane (List Seen) Door). l.answers ≡ seen) (shown seat_of l) (map (shown seat_of) lanes) (h 0 seen (omega arith)) (same_seats seat_of seen lanes (All-tail (λ s. s ≡ seen) (seat_in seat_of l) (map (seat_in seat_of) lanes) h))

some_fault : {D Door : Type 0} (seat_of : D → List Seen) (lanes : List (Lane D Door)) → list_any is_faulty (map (shown seat_of) lanes) ≡ list_any is_faulty lanes
some_fault seat_of [] = refl
some_fault seat_of (l ∷ lanes) = ap (λ b. is_faulty l || b) (some_fault seat_of lanes)

-- what such lanes have served, of each of them, is what they have served together
pub served_from : {D Door From To : Type 0} (counting : Counting Door From To) (seat_of : D → List Seen) (seen : List Seen) (seats : List (List Seen)) (before after : List (Lane D Door)) (asked : Option ℕ) (end : ServeEnd)
    → All (λ s. s ≡ seen) seats → map (seat_in seat_of) before ≡ seats → length after ≡ length before
    → ((i : ℕ) (d : Lane D Door) → i < length before → IsLaneServed IsAnswered (record { seen = seat_of; left = counting.tell.left; given = counting.tell.given; written = counting.tell.written; handed = counting.given; faults = counting.faults }) asked (slice_index_or before i d) (slice_index_or after i d))
    → end ≡ end_of after → ServedFrom counting seen (length seats) asked end
served_from {D} {Door} counting seat_of seen seats before after asked end same are long each ended = (
  map (shown seat_of) before,
  map (shown seat_of) after,
  record {
    number = length-map before (shown seat_of) ∙ (sym (length-map before (seat_in seat_of)) ∙ ap length are);
    seats = same_seats seat_of seen before (subst (All (λ s. s ≡ seen)) (sym are) same);
    served = zipped (shown seat_of) (IsLaneServed IsAnswered (showing counting) asked) before after long (λ i d h. let e = each i d h in record { served = e.served; cause = e.cause });
    ended = ended ∙ sym (ap (λ b. if b then AcceptFault else Sessions) (some_fault seat_of after));
  },
)

one_behind : {A B : Type 0} (f : A → B) (xs : List A) (x : A) (later : List B) → map f (xs ++ x ∷ []) ++ later ≡ map f xs ++ f x ∷ later
one_behind f [] x later = refl
one_behind f (a ∷ xs) x later = ap (λ l. f a ∷ l) (one_behind f xs x later)

-- one lane more for one seat less
pub one_lane_more : {A B : Type 0} (f : A → B) (xs : List A) (x : A) (ys : List A) (seat : B) (rest later all : List B) → ys ≡ xs ++ x ∷ [] → f x ≡ seat → rest ≡ seat ∷ later → map f xs ++ rest ≡ all → map f ys ++ later ≡ all
one_lane_more f xs x ys seat rest later all is at front whole =
    ap (λ l. map f l ++ later) is ∙ (one_behind f xs x later ∙ (ap (λ s. map f xs ++ s ∷ later) at ∙ (ap (λ r. map f xs ++ r) (sym front) ∙ whole)))
