-- The texts of some outcomes, grouped as they are written.
use Rattle.std.proofs.Common.{◌≡◌, ℕ, List, ◌++◌, codes, sym, subst, ◌∙◌, append_assoc}
use Rattle.std.specs.Fmt.{decimal}
use Rattle.dory_base.specs.declared.ids.DocId.{DocId}
use Rattle.dory_member.specs.declared.outcome.Outcome.{Outcome}
use Rattle.dory_member.specs.declared.outcome.Outcome.TheVariants.{Posted, Removed, Lengths}
use Rattle.dory_member.specs.Texts.{text_of_outcome}

grouped : (a b c d : List ℕ) → a ++ (b ++ (c ++ d)) ≡ a ++ b ++ c ++ d
grouped a b c d = simp append_assoc

grouped_six : (a b c d e f : List ℕ) → a ++ (b ++ (c ++ (d ++ (e ++ f)))) ≡ a ++ b ++ c ++ d ++ e ++ f
grouped_six a b c d e f = simp append_assoc

pub posted_text : (o : Outcome) (doc : DocId) (n : ℕ) (bytes : List ℕ) → o ≡ Posted doc n → bytes ≡ codes "posted " ++ (decimal doc.0 ++ (codes " at " ++ decimal n)) → bytes ≡ text_of_outcome o
unfolding text_of_outcome
posted_text o doc n bytes e h = subst (λ (o : Outcome). bytes ≡ text_of_outcome o) (sym e) (h ∙ grouped (codes "posted ") (decimal doc.0) (codes " at ") (decimal n))

pub removed_text : (o : Outcome) (doc : DocId) (n : ℕ) (bytes : List ℕ) → o ≡ Removed doc n → bytes ≡ codes "removed " ++ (decimal doc.0 ++ (codes " at " ++ decimal n)) → bytes ≡ text_of_outcome o
unfolding text_of_outcome
removed_text o doc n bytes e h = subst (λ (o : Outcome). bytes ≡ text_of_outcome o) (sym e) (h ∙ grouped (codes "removed ") (decimal doc.0) (codes " at ") (decimal n))

pub lengths_text : (o : Outcome) (l f s : ℕ) (bytes : List ℕ) → o ≡ Lengths l f s
    → bytes ≡ codes "lead " ++ (decimal l ++ (codes " follow " ++ (decimal f ++ (codes " seen " ++ decimal s)))) → bytes ≡ text_of_outcome o
unfolding text_of_outcome
lengths_text o l f s bytes e h =
    subst (λ (o : Outcome). bytes ≡ text_of_outcome o) (sym e) (h ∙ grouped_six (codes "lead ") (decimal l) (codes " follow ") (decimal f) (codes " seen ") (decimal s))
