-- The bits of a sum, line by line of the manifest.
use Rattle.std.proofs.Common.{◌≡◌, ℕ, zero, suc, ◌+◌, ◌<◌, Bool, false, [], ◌∷◌, length, map, get_or, Some, None, refl, ap, ◌∙◌, arith}
use Rattle.dory_base.specs.declared.found.Place.{Place}
use Rattle.dory_base.specs.Table.{Slots, Live, live_from, live_of, place_of}

-- line k of the manifest is that of this live slot
pub record IsLine (n : ℕ) (slots : Slots) (k : ℕ) (l : Live) : Type 0 where
  pub line : (p : Place) → get_or (map place_of (live_from n slots)) k p ≡ place_of l
  pub image : (f : Live → Bool) → get_or (map f (live_from n slots)) k false ≡ f l
  pub at : ℕ
  pub slot_is : l.slot ≡ n + at
  pub entry_is : get_or slots at None ≡ Some l.entry

line_from : (n : ℕ) (slots : Slots) (k : ℕ) → k < length (live_from n slots) → (l : Live) × IsLine n slots k l
line_from n [] k h = absurd (omega arith)
line_from n (None ∷ slots) k h =
    let r = line_from (n + 1) slots k h in
    (r.0, record { line = r.1.line; image = r.1.image; at = suc r.1.at; slot_is = omega (arith, r.1.slot_is); entry_is = r.1.entry_is })
line_from n (Some e ∷ slots) zero h =
    (record { slot = n; entry = e }, record { line = λ p. refl; image = λ f. refl; at = 0; slot_is = omega arith; entry_is = refl })
line_from n (Some e ∷ slots) (suc k) h =
    let r = line_from (n + 1) slots k (omega arith) in
    (r.0, record { line = r.1.line; image = r.1.image; at = suc r.1.at; slot_is = omega (arith, r.1.slot_is); entry_is = r.1.entry_is })

pub line_at : (slots : Slots) (k : ℕ) → k < length (live_of slots) → (l : Live) × IsLine 0 slots k l
line_at slots k h = line_from 0 slots k h

pub entry_at : (slots : Slots) (k : ℕ) (l : Live) → IsLine 0 slots k l → get_or slots l.slot None ≡ Some l.entry
entry_at slots k l is = let e : l.slot ≡ is.at = omega (arith, is.slot_is) in ap (λ (i : ℕ). get_or slots i None) e ∙ is.entry_is
