-- What an honest domain found flips no line, so that it is never the forgery.
use Rattle.std.proofs.Common.{◌≡◌, ℕ, Bool, true, false, List, [], ◌∷◌, map, refl, ap, sym, ◌∙◌, cond, inl, inr}
use Rattle.dory_base.specs.Xor.{xor}
use Rattle.dory_base.specs.declared.found.Place.{Place}
use Rattle.dory_base.specs.declared.entry.Entry.{Entry}
use Rattle.dory_base.specs.History.{version_of}
use Rattle.dory_base.specs.Table.{Slots, manifest_of, table_of}
use Rattle.dory_base.specs.Sum.{sum_of}
use Rattle.dory_hmac.specs.declared.folder_keys.FolderKeys.{FolderKeys}
use Rattle.dory_verify.specs.Forgery.{flips_of, probes_of, SomeFlip, IsForgery}
use Rattle.dory_verify.specs.Honest.{found_by}

xor_same : (b : Bool) → xor b b ≡ false
xor_same true = refl
xor_same false = refl

none_flipped : (places : List Place) (bits : List Bool) → flips_of places bits bits ≡ []
none_flipped [] bits = refl
none_flipped (p ∷ places) [] = refl
none_flipped (p ∷ places) (b ∷ bits) = ap (λ x. cond x (p ∷ flips_of places bits bits) (flips_of places bits bits)) (xor_same b) ∙ none_flipped places bits

no_flip : (slots : Slots) (columns : List ℕ) (shares : List (List Bool)) → ¬ SomeFlip slots (probes_of columns shares) (map (sum_of slots) shares)
no_flip slots [] shares some = some
no_flip slots (c ∷ columns) [] some = some
no_flip slots (c ∷ columns) (s ∷ shares) (inl (first, more, flipped)) =
    let none : [] ≡ first ∷ more = sym (none_flipped (manifest_of slots) (sum_of slots s).bits) ∙ flipped in
    absurd cc
no_flip slots (c ∷ columns) (s ∷ shares) (inr some) = no_flip slots columns shares some

pub honest_is_no_forgery : (keys : FolderKeys) (history : List Entry) (version : ℕ) (columns : List ℕ) (shares : List (List Bool)) → ¬ IsForgery keys history version columns shares (found_by history version shares).sums
honest_is_no_forgery keys history version columns shares is = no_flip (table_of (version_of version history)) columns shares is.some
