-- What is printed of a byte and of a tag.
use Rattle.std.proofs.Common.{◌≡◌, ℕ, ◌<◌, ◌+◌, ◌^◌, ◌-◌, Bool, true, false, List, [], ◌∷◌, ◌++◌, length, get_or, refl, ap, sym, ◌∙◌, arith}
use Rattle.std.specs.List.{flat_map}
use Rattle.std.specs.Fmt.{padded_integral, format_spec, digits}
use Rattle.std.proofs.lemmas.Fmt.{hex_byte}
use Rattle.dory_base.specs.TagBytes.{tag_bytes}
use Rattle.dory_base.specs.Texts.{byte_text, tag_text}

pub byte_printed : (n : ℕ) → n < 256 → padded_integral (format_spec 32 0 4 2 (2 ^ 64 - 1)) false [] (digits 16 false n) ≡ byte_text n
byte_printed n small = hex_byte false n small

abbrev pub word_text : List ℕ → ℕ → List ℕ
word_text bs i = byte_text (get_or bs i 0) ++ byte_text (get_or bs (i + 1) 0) ++ byte_text (get_or bs (i + 2) 0) ++ byte_text (get_or bs (i + 3) 0)

sixteen : (bs : List ℕ) → length bs ≡ 16 → flat_map byte_text bs ≡ word_text bs 0 ++ word_text bs 4 ++ word_text bs 8 ++ word_text bs 12
sixteen (a ∷ b ∷ c ∷ d ∷ e ∷ f ∷ g ∷ h ∷ i ∷ j ∷ k ∷ l ∷ m ∷ n ∷ o ∷ p ∷ []) len = refl
sixteen _ len = absurd (omega arith)

pub tag_printed : (tag : ℕ) (bs : List ℕ) → bs ≡ tag_bytes tag → length bs ≡ 16 → tag_text tag ≡ word_text bs 0 ++ word_text bs 4 ++ word_text bs 8 ++ word_text bs 12
unfolding tag_text
tag_printed tag bs is len = ap (flat_map byte_text) (sym is) ∙ sixteen bs len
