-- One pass over a text: the words so far and those of what is left are the words of the text.
use Rattle.std.proofs.Common.{◌≡◌, ℕ, ◌<◌, ◌≤◌, ◌+◌, ◌-◌, true, false, not, inl, inr, List, ◌∷◌, ◌++◌, length, get_or, take, drop, ap, sym, ◌∙◌, arith}
use Rattle.std.specs.List.{AllPass}
use Rattle.std.proofs.lemmas.Bool.{cases_lt}
use Rattle.std.proofs.lemmas.List.{append_assoc, get_or-take, get_or-drop, length-take, take-append-drop, drop-drop, drop_more, take_rest}
use Rattle.std.proofs.lemmas.List.Elements.{All-from_get_or}
use Rattle.dory_base.specs.Words.{is_word_byte}
use Rattle.dory_words.specs.WordsIn.{words_in}
use Rattle.dory_words.proofs.Cuts.{words_cut}

-- the bytes from a start up to a place, each of which is a word byte, are a run
pub between : (text : List ℕ) (start at : ℕ) → at ≤ length text → ((k : ℕ) → start ≤ k → k < at → is_word_byte (get_or text k 0) ≡ true)
    → AllPass is_word_byte (take (at - start) (drop start text))
between text start at h each =
    All-from_get_or (λ b. is_word_byte b ≡ true) (take (at - start) (drop start text)) 0 (λ i near.
    let low : i < at - start = omega (arith, length-take (at - start) (drop start text)) in
    let same : get_or (take (at - start) (drop start text)) i 0 ≡ get_or text (start + i) 0 = get_or-take (at - start) (drop start text) i 0 low ∙ get_or-drop start text i 0 in
    ap is_word_byte same ∙ each (start + i) (omega arith) (omega arith))

-- one more byte of the run
pub run_more : (text : List ℕ) (start at : ℕ) → ((k : ℕ) → start ≤ k → k < at → is_word_byte (get_or text k 0) ≡ true) → is_word_byte (get_or text at 0) ≡ true
    → (k : ℕ) → start ≤ k → k < at + 1 → is_word_byte (get_or text k 0) ≡ true
run_more text start at each here k low high =
    elim (cases_lt k at) [
      | inl h ↦ each k low h
      | inr h ↦ let e : k ≡ at = omega arith in ap (λ (n : ℕ). is_word_byte (get_or text n 0)) e ∙ here
    ]

-- the text from the start of a run on: the run, the separator that ends it, and the rest
split_here : (text : List ℕ) (start at : ℕ) → start ≤ at → at < length text
    → drop start text ≡ take (at - start) (drop start text) ++ get_or text at 0 ∷ drop (at + 1) text
split_here text start at h k =
    let e : start + (at - start) ≡ at = omega arith in
    sym (take-append-drop (at - start) (drop start text))
    ∙ ap (λ (rest : List ℕ). take (at - start) (drop start text) ++ rest) (drop-drop (at - start) start text ∙ ap (λ (n : ℕ). drop n text) e ∙ drop_more text at 0 k)

-- a separator ends the run
pub cut_more : (text : List ℕ) (ws us : List (List ℕ)) (start at : ℕ) → start ≤ at → at < length text
    → ((k : ℕ) → start ≤ k → k < at → is_word_byte (get_or text k 0) ≡ true) → is_word_byte (get_or text at 0) ≡ false
    → ws ++ words_in (drop start text) ≡ words_in text → us ≡ ws ++ words_in (take (at - start) (drop start text))
    → us ++ words_in (drop (at + 1) text) ≡ words_in text
cut_more text ws us start at h k each here so_far is =
    let run : List ℕ = take (at - start) (drop start text) in
    let rest : List ℕ = drop (at + 1) text in
    ap (λ (vs : List (List ℕ)). vs ++ words_in rest) is
    ∙ append_assoc ws (words_in run) (words_in rest)
    ∙ ap (λ (vs : List (List ℕ)). ws ++ vs) (sym (words_cut run (get_or text at 0) rest (between text start at (omega arith) each) (ap not here)))
    ∙ ap (λ (xs : List ℕ). ws ++ words_in xs) (sym (split_here text start at h k))
    ∙ so_far

-- the text ends
pub words_end : (text : List ℕ) (ws us : List (List ℕ)) (start : ℕ) → ws ++ words_in (drop start text) ≡ words_in text
    → us ≡ ws ++ words_in (take (length text - start) (drop start text)) → us ≡ words_in text
words_end text ws us start so_far is = is ∙ ap (λ (xs : List ℕ). ws ++ words_in xs) (take_rest text start) ∙ so_far
