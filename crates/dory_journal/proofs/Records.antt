-- The bytes of an operation are read as it.
use Rattle.std.proofs.Common.{◌≡◌, ℕ, ◌<◌, ◌≤◌, ◌^◌, cond, List, [], ◌∷◌, ◌++◌, length, Option, Some, None, Ok, refl, ◌∙◌, ap, arith}
use Rattle.std.proofs.lemmas.Bool.{eq-eqb}
use Rattle.dory_wire.specs.declared.message.Want.{Want}
use Rattle.dory_wire.specs.declared.message.Request.{Request}
use Rattle.dory_wire.specs.Cut.{IsMessage}
use Rattle.dory_wire.specs.Spelling.{spelling_of_request, IsRequest, IsWant}
use Rattle.dory_wire.proofs.RequestLaws.{read_again_request}
use Rattle.dory_wire.proofs.Lengths.{request_short}
use Rattle.dory_wire.proofs.Cuts.{front_frame}
use Rattle.dory_journal.specs.Bytes.{no_ask, op_at, op_of_front, op_of_request, with_rest, frame_of_op}
use Rattle.dory_journal.specs.Ops.{Op, Stages, Appends, want_of_op, op_of_want}
use Rattle.dory_journal.specs.Recording.{IsPiece}

some_bytes : (r : Request) → 1 ≤ length (spelling_of_request r)
unfolding spelling_of_request
some_bytes r = omega arith

op_again : (op : Op) → op_of_want (want_of_op op) ≡ Some op
op_again (Stages e) = refl
op_again (Appends number id) = refl

same_folder : (folder : ℕ) (o : Option Op) (w : Want) → op_of_want w ≡ o → op_of_request folder (Ok (record { ask = no_ask; folder = record { 0 = folder }; want = w })) ≡ o
same_folder folder o w made = ap (λ b. cond b (op_of_want w) None) (eq-eqb folder folder refl) ∙ made

pub piece_is : (folder : ℕ) (op : Op) (frame piece : List ℕ) → folder < 2 ^ 32 → IsWant (want_of_op op) → frame ≡ frame_of_op folder op → piece ≡ frame ++ 0 ∷ [] → IsPiece folder op piece
piece_is folder op frame piece few ranges spelled is =
    let r : Request = record { ask = no_ask; folder = record { 0 = folder }; want = want_of_op op } in
    let range : IsRequest r = record { ask = record { member = omega arith; serial = omega arith; step = omega arith }; folder = few; want = ranges } in
    let message : IsMessage (spelling_of_request r) = record { some = some_bytes r; few = request_short r range } in
    record {
      frame = frame;
      frame_is = spelled;
      is = is;
      reads = λ more.
          ap (λ (f : List ℕ). op_at folder (f ++ more)) spelled
          ∙ ap (op_of_front folder) (front_frame (spelling_of_request r) more message)
          ∙ ap (λ x. with_rest more (op_of_request folder x)) (read_again_request r range)
          ∙ ap (with_rest more) (same_folder folder (Some op) (want_of_op op) (op_again op));
    }
