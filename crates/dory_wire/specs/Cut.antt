-- A stream cut into messages.
use Rattle.std.specs.Prelude.{ℕ, zero, suc, ◌≡◌, ◌≤◌, ◌+◌, nat_lt, not, if◌then◌else◌, List, [], ◌∷◌, ◌++◌, length, take, drop, Option, Some, None, Vec, Result, Ok, Err}
use Rattle.std.specs.List.{flat_map}
use Rattle.std.specs.declared.alloc.Global.{Global}
use Rattle.dory_wire.specs.Frame.{frame_of, is_length, length_in}
use Rattle.dory_wire.specs.declared.framer.FrameFault.{FrameFault}
use Rattle.dory_wire.specs.declared.framer.FrameFault.TheVariants.{Length, NoMemory}

-- a list of bytes that a frame may have as its message
pub record IsMessage (message : List ℕ) : Type 0 where
  pub some : 1 ≤ length message
  pub few : length message ≤ 1048576

-- the frames of messages, one after the other
abbrev pub frames_of : List (List ℕ) → List ℕ
frames_of messages = flat_map frame_of messages

-- A message at the front of a stream, and the bytes after it. There is none where fewer than four bytes came, or fewer
-- than the length in front says. A length out of range is an error.
unfoldable pub front_of : List ℕ → Result (Option (List ℕ × List ℕ)) ℕ
front_of bytes =
    if nat_lt (length bytes) 4 then Ok None
    else (if not (is_length (length_in bytes)) then Err (length_in bytes)
    else (if nat_lt (length (drop 4 bytes)) (length_in bytes) then Ok None
    else Ok (Some (take (length_in bytes) (drop 4 bytes), drop (length_in bytes) (drop 4 bytes)))))

-- no message stands at the front yet, or this one
abbrev pub Fronts : List ℕ → Option (List ℕ) → Type 0
Fronts bytes None = front_of bytes ≡ Ok None
Fronts bytes (Some message) = front_of bytes ≡ Ok (Some (message, drop (4 + length message) bytes))

-- whole messages, and what comes after them
pub record Cut : Type 0 where
  pub messages : List (List ℕ)
  pub rest : List ℕ

-- a message, and then what was cut
abbrev pub with_message : List ℕ → Cut → Cut
with_message message cut = record { messages = message ∷ cut.messages; rest = cut.rest }

-- what a stream is cut into, by what stands at its front and the cut of so many messages at most after it
abbrev pub cut_by : (List ℕ → Cut) → List ℕ → Result (Option (List ℕ × List ℕ)) ℕ → Cut
cut_by after bytes (Err n) = record { messages = []; rest = bytes }
cut_by after bytes (Ok None) = record { messages = []; rest = bytes }
cut_by after bytes (Ok (Some front)) = with_message front.0 (after front.1)

-- the first messages of a stream, at most so many
abbrev pub cut_most : ℕ → List ℕ → Cut
cut_most zero bytes = record { messages = []; rest = bytes }
cut_most (suc n) bytes = cut_by (cut_most n) bytes (front_of bytes)

-- the whole messages that a stream begins with, up to the first length out of range, and the rest
unfoldable pub cut_of : List ℕ → Cut
cut_of bytes = cut_most (length bytes) bytes

-- What a taking out answers and leaves of the bytes held. One that finds no memory leaves all.
abbrev pub TakesOut : List ℕ → List ℕ → Result (Option (Vec ℕ Global)) FrameFault → Type 0
TakesOut before now (Ok None) = (front_of before ≡ Ok None) × (now ≡ before)
TakesOut before now (Ok (Some message)) = front_of before ≡ Ok (Some (message.items, now))
TakesOut before now (Err (Length n)) = (front_of before ≡ Err n) × (now ≡ before)
TakesOut before now (Err NoMemory) = now ≡ before

-- what was cut, behind these messages
abbrev pub with_messages : List (List ℕ) → Cut → Cut
with_messages messages cut = record { messages = messages ++ cut.messages; rest = cut.rest }

-- the messages taken out so far, and then what is cut of the bytes held, are what is cut of all bytes fed
abbrev pub IsCutting : List ℕ → List (List ℕ) → List ℕ → Type 0
IsCutting fed taken held = cut_of fed ≡ with_messages taken (cut_of held)

-- no more can be taken out: the messages taken out and the bytes held are what is cut of all bytes fed
abbrev pub IsCutInto : List ℕ → List (List ℕ) → List ℕ → Type 0
IsCutInto fed taken held = cut_of fed ≡ record { messages = taken; rest = held }

-- a message that is taken out is the next one; where none is, all were taken out
abbrev pub GoesOn : List ℕ → List (List ℕ) → List ℕ → Result (Option (Vec ℕ Global)) FrameFault → Type 0
GoesOn fed taken now (Ok (Some message)) = IsCutting fed (taken ++ message.items ∷ []) now
GoesOn fed taken now (Ok None) = IsCutInto fed taken now
GoesOn fed taken now (Err (Length n)) = IsCutInto fed taken now
GoesOn fed taken now (Err NoMemory) = IsCutting fed taken now
