-- What a read and a piece more make of a text.
use Rattle.std.proofs.Common.{◌≡◌, ◌∙◌, ℕ, ◌≤◌, ◌<◌, ◌+◌, ◌^◌, Bool, List, [], ◌++◌, length, take, Option, Some, None, Result, Ok, Err, Vec, Global, IfOk, IsErrOf, sym, ap, subst, arith, append-nil}
use Rattle.std.proofs.lemmas.List.{length-append, length-take-le}
use Rattle.dory_base.specs.Dims.{Dims}
use Rattle.dory_bloom.specs.PlainRow.{plain_row_of}
use Rattle.dory_hmac.specs.declared.folder_keys.FolderKeys.{FolderKeys}
use Rattle.dory_io.specs.Bytes.{Reads, Tells}
use Rattle.dory_io.specs.Causes.{Gave}
use Rattle.dory_client.specs.declared.input.InputEnd.{InputEnd}
use Rattle.dory_client.specs.declared.input.InputEnd.TheVariants.{Fault, Long, NoMemory}
use Rattle.dory_io.specs.Bytes.{BytesRead}
use Rattle.dory_io.proofs.Coming.{more_came, read_came, read_end, over_before, failed_came}
use Rattle.dory_client.specs.Input.{text_limit, IsTextRead, AreTooMany}
use Rattle.dory_client.proofs.Sealed.{length-plain_row}

-- a piece more
pub piece_came : (E : Type 0) (a b c : Option (List ℕ)) (m n k room j : ℕ) (into text : List ℕ) → BytesRead a b m n text → j ≤ length into → Reads {E = E} b c room (Ok j) into → Gave {E = E} n k (Ok j) → BytesRead a c m k (text ++ take j into)
piece_came E a b c m n k room j into text before few h gave = more_came a b c m n k text (take j into) before (read_came E b c n k room j into few h gave)

-- a read that failed ends the text
pub failed_text : (E : Type 0) (a b c : Option (List ℕ)) (m n k room : ℕ) (e : E) (into text : List ℕ) → BytesRead a b m n text → length text ≤ text_limit → Reads b c room (Err e) into → Gave {E = E} n k (Err e) → IsTextRead a c m k (Err Fault)
failed_text E a b c m n k room e into text before short h gave =
    (text ++ [], more_came a b c m n k text [] before (failed_came E b c n k room e into h gave), omega (arith, short, length-append text []))

-- a read that gave nothing ends it whole
pub ended_text : (E : Type 0) (a b c : Option (List ℕ)) (m n k room j : ℕ) (into : List ℕ) (text : Vec ℕ Global) → BytesRead a b m n text.items → length text.items ≤ text_limit → 1 ≤ room → j ≡ 0 → j ≤ length into → Reads {E = E} b c room (Ok j) into → Gave {E = E} n k (Ok j) → IsTextRead a c m k (Ok text)
ended_text E a b c m n k room j into text before short some none few h gave = (
  text.items ++ take j into,
  piece_came E a b c m n k room j into text.items before few h gave,
  (sym (append-nil text.items) ∙ ap (λ (i : ℕ). text.items ++ take i into) (sym none), omega (arith, short, none, length-append text.items (take j into), length-take-le j into few), over_before a b c text.items before.first (read_end E b c room j into some none h)),
)

-- a piece that makes it longer than a text ends it
pub long_text : (E : Type 0) (a b c : Option (List ℕ)) (m n k room j : ℕ) (into text : List ℕ) → BytesRead a b m n text → text_limit < length text + j → j ≤ length into → Reads {E = E} b c room (Ok j) into → Gave {E = E} n k (Ok j) → IsTextRead a c m k (Err Long)
long_text E a b c m n k room j into text before long few h gave =
    (text ++ take j into, piece_came E a b c m n k room j into text before few h gave, omega (arith, long, length-append text (take j into), length-take-le j into few))

-- so does a piece for which there is no memory
pub unkept_text : (E : Type 0) (a b c : Option (List ℕ)) (m n k room j : ℕ) (into text : List ℕ) → BytesRead a b m n text → length text + j ≤ text_limit → j ≤ length into → Reads {E = E} b c room (Ok j) into → Gave {E = E} n k (Ok j) → IsTextRead a c m k (Err NoMemory)
unkept_text E a b c m n k room j into text before short few h gave =
    (text ++ take j into, piece_came E a b c m n k room j into text before few h gave, omega (arith, short, length-append text (take j into), length-take-le j into few))

-- a text that was read is what was left
pub text_told : (a c : Option (List ℕ)) (m k : ℕ) (result : Result (Vec ℕ Global) InputEnd) → IsTextRead a c m k result → IfOk result (λ text. Tells a text.items)
text_told None c m k (Ok text) h = tt
text_told (Some xs) None m k (Ok text) h = absurd h.1.first
text_told (Some xs) (Some ys) m k (Ok text) h = h.1.first ∙ ap (λ (l : List ℕ). h.0 ++ l) h.2.2 ∙ append-nil h.0 ∙ sym h.2.0
text_told a c m k (Err e) h = tt

too_long : (a c : Option (List ℕ)) (m k : ℕ) → IsTextRead a c m k (Err Long) → AreTooMany a
too_long None c m k h = tt
too_long (Some xs) None m k h = absurd h.1.first
too_long (Some xs) (Some ys) m k h = omega (arith, ap (length {A = ℕ}) h.1.first, length-append h.0 ys, h.2)

-- what is too long for a text was too long
pub long_told : (a c : Option (List ℕ)) (m k : ℕ) (result : Result (Vec ℕ Global) InputEnd) → IsTextRead a c m k result → IsErrOf result Long → AreTooMany a
long_told a c m k result h is = too_long a c m k (subst (λ (r : Result (Vec ℕ Global) InputEnd). IsTextRead a c m k r) is h)

-- a plain row that was made has a cell for each column
pub row_len : {E : Type 0} (keys : FolderKeys) (shape : Dims) (words : List (List ℕ)) (result : Result (List Bool) E) → IfOk result (λ row. row ≡ plain_row_of keys shape words) → IfOk result (λ row. length row ≡ 2 ^ shape.depth)
row_len keys shape words (Ok row) is = ap (length {A = Bool}) is ∙ length-plain_row keys shape words
row_len keys shape words (Err e) is = tt
