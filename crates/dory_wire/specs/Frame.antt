-- A frame: the length of a message in four bytes, and the message.
use Rattle.std.specs.Prelude.{ℕ, Bool, ◌&&◌, ◌==◌, nat_lt, nat_le, if◌then◌else◌, List, ◌++◌, length, take, drop, Option, Some, None}
use Rattle.std.specs.Int.{w32, to_be_bytes, from_be_bytes}

-- the frame of a message
abbrev pub frame_of : List ℕ → List ℕ
frame_of message = to_be_bytes w32 (length message) ++ message

-- a message has 1 to 1,048,576 bytes
abbrev pub is_length : ℕ → Bool
is_length n = nat_le 1 n && nat_le n 1048576

-- the number that the first four bytes spell
abbrev pub length_in : List ℕ → ℕ
length_in bytes = from_be_bytes w32 (take 4 bytes)

-- the message of bytes that are one whole frame, the length in range and as many bytes after it
unfoldable pub message_in : List ℕ → Option (List ℕ)
message_in bytes =
    if nat_lt (length bytes) 4
    then None
    else (if is_length (length_in bytes) && (length_in bytes == length (drop 4 bytes)) then Some (drop 4 bytes) else None)
