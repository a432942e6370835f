-- One more message answered after those that were.
use Rattle.std.proofs.Common.{◌≡◌, ◌∙◌, ℕ, List, Err, [], ◌∷◌, ◌++◌, take, Option, None, Some, refl, sym, ap, subst, append_assoc, append-nil}
use Rattle.std.specs.Io.KnownBytes.{Appends}
use Rattle.dory_wire.specs.declared.fault.WireFault.{WireFault}
use Rattle.dory_wire.specs.declared.fault.WireFault.TheVariants as wire
use Rattle.dory_io.specs.Output.{AppendsLess}
use Rattle.std.specs.List.{AllByRecursion, concat}
use Rattle.dory_wire.specs.Frame.{frame_of}
use Rattle.dory_wire.specs.Cut.{IsMessage, frames_of}
use Rattle.dory_session.specs.declared.end.How.{How}
use Rattle.dory_session.specs.declared.end.How.TheVariants.{OutputFault}
use Rattle.dory_domain.specs.Answered.{Steps, Responds}
use Rattle.dory_session.specs.Answered.{AreAnswered}
use Rattle.dory_session.specs.Ends.{Breaks, IsLess, end_of_fault}

pub one_more_answered : {V : Type 0} (steps : Steps V) (before mid now : V) (messages frames : List (List ℕ)) (message frame : List ℕ) → AreAnswered steps before messages frames mid → steps mid message frame now → AreAnswered steps before (messages ++ message ∷ []) (frames ++ frame ∷ []) now
one_more_answered steps before mid now [] [] message frame h step = (now, subst (λ seen. steps seen message frame now) h step, refl)
one_more_answered steps before mid now (m ∷ ms) (f ∷ fs) message frame h step = (h.0, h.1, one_more_answered steps h.0 mid now ms fs message frame h.2 step)
one_more_answered steps before mid now [] (f ∷ fs) message frame h step = absurd h
one_more_answered steps before mid now (m ∷ ms) [] message frame h step = absurd h

pub frames_more : (messages : List (List ℕ)) (message : List ℕ) → frames_of (messages ++ message ∷ []) ≡ frames_of messages ++ frame_of message
frames_more [] message = append-nil (frame_of message)
frames_more (m ∷ ms) message = ap (λ bytes. frame_of m ++ bytes) (frames_more ms message) ∙ sym (append_assoc (frame_of m) (frames_of ms) (frame_of message))

pub concat_more : (frames : List (List ℕ)) (frame : List ℕ) → concat (frames ++ frame ∷ []) ≡ concat frames ++ frame
concat_more [] frame = append-nil frame
concat_more (f ∷ fs) frame = ap (λ bytes. f ++ bytes) (concat_more fs frame) ∙ sym (append_assoc f (concat fs) frame)

pub messages_more : (messages : List (List ℕ)) (message : List ℕ) → AllByRecursion IsMessage messages → IsMessage message → AllByRecursion IsMessage (messages ++ message ∷ [])
messages_more [] message all is = (is, tt)
messages_more (m ∷ ms) message all is = (all.0, messages_more ms message all.1 is)

-- what a message that has no answer makes of a session
pub broken_by : {V : Type 0} (steps : Steps V) (fault : WireFault) (before : V) (message : List ℕ) (now : V) → Responds steps before message (Err fault) now → Breaks steps (end_of_fault fault) before message [] now
broken_by steps (wire.Kind b) before message now r = (r.0, (refl, r.1))
broken_by steps (wire.Body at) before message now r = (r.0, (refl, r.1))
broken_by steps (wire.Trailing at) before message now r = (r.0, (refl, r.1))
broken_by steps wire.NoMemory before message now r = (refl, r)

pub no_output_fault : (fault : WireFault) → ◌≡◌ {A = How} (end_of_fault fault) OutputFault → ⊥
no_output_fault (wire.Kind b) e = absurd cc
no_output_fault (wire.Body at) e = absurd cc
no_output_fault (wire.Trailing at) e = absurd cc
no_output_fault wire.NoMemory e = absurd cc

-- a part of a frame is what was written of it
pub part_written : (old new : Option (List ℕ)) (frame : List ℕ) → AppendsLess old new frame → (part : List ℕ) × Appends old new part × IsLess part frame
part_written old new frame h = (take h.0 frame, h.2, (h.0, h.1, refl))

-- nothing is written
pub nothing_written : (old : Option (List ℕ)) → Appends old old []
nothing_written None = tt
nothing_written (Some bytes) = sym (append-nil bytes)
