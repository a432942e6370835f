use Rattle.std.proofs.Common.{◌≡◌, ℕ, ◌∙◌, sym, ap, subst, List, eqb}
use Rattle.std.specs.List.{dedup}
use Rattle.std.specs.List.Sorted.{IsStrictlyIncreasing}
use Rattle.std.proofs.lemmas.List.Filters.{dedup_is}
use Rattle.std.proofs.lemmas.List.Kept.{Contains-dedup_nat, Contains-from_dedup}
use Rattle.std.proofs.lemmas.List.Sorted.{Contains-permutation, IsPermutation-sym}
use Rattle.std.proofs.lemmas.Map.Keys.{IsStrictlyIncreasing-dedup}
use Rattle.dory_verify.specs.Answer.{numbers, IsRising}
use Rattle.dory_verify.specs.Listing.{listed_from}
use Rattle.dory_verify.proofs.listing.rising.Goals as goal

pub of-requires : goal.of-requires
of-requires c =
    let e : numbers c.in_ok-docs-2.docs.items ≡ dedup eqb c.sort_unstable.new.self.items = c.in_ok-docs-2.ensures ∙ c.deref.ensures.value ∙ dedup_is eqb c.sort_unstable.new.self.items c.dedup.new.self.items c.dedup.ensures.filtered in
    subst IsStrictlyIncreasing (sym e) (IsStrictlyIncreasing-dedup c.sort_unstable.new.self.items c.sort_unstable.ensures.sorted)

pub returns : goal.returns
returns c =
    let e : numbers c.in_ok-docs-2.docs.items ≡ dedup eqb c.sort_unstable.new.self.items = c.in_ok-docs-2.ensures ∙ c.deref.ensures.value ∙ dedup_is eqb c.sort_unstable.new.self.items c.dedup.new.self.items c.dedup.ensures.filtered in
    let all : c.in_ok-docs.docs.items ≡ listed_from c.args.keys.now c.args.columns.now c.args.bits.now 0 c.args.places.now = c.in_ok-docs.ensures in
    let sorted : IsRising c.in_ok-docs.docs.items (dedup eqb c.sort_unstable.new.self.items) = record {
      rising = IsStrictlyIncreasing-dedup c.sort_unstable.new.self.items c.sort_unstable.ensures.sorted;
      none_else = λ doc h. Contains-permutation c.sort_unstable.new.self.items c.in_ok-docs.docs.items doc (IsPermutation-sym c.in_ok-docs.docs.items c.sort_unstable.new.self.items c.sort_unstable.ensures.permutation) (Contains-from_dedup eqb c.sort_unstable.new.self.items doc h);
      each = λ doc h. Contains-dedup_nat c.sort_unstable.new.self.items doc (Contains-permutation c.in_ok-docs.docs.items c.sort_unstable.new.self.items doc c.sort_unstable.ensures.permutation h);
    } in
    subst (λ (docs : List ℕ). IsRising (listed_from c.args.keys.now c.args.columns.now c.args.bits.now 0 c.args.places.now) docs) (sym (ap numbers c.of.ensures ∙ e)) (subst (λ (xs : List ℕ). IsRising xs (dedup eqb c.sort_unstable.new.self.items)) all sorted)
