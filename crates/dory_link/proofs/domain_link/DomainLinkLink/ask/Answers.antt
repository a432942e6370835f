use Rattle.std.proofs.Common.{rules, ◌⊎◌, inl, inr, ap, sym, ◌∙◌, true, ◌≡◌, List, ℕ, true≢false}
use Rattle.dory_io.specs.declared.fails.Fails.{Fails}
use Rattle.dory_io.specs.Causes.{is_listed}
use Rattle.dory_link.proofs.domain_link.DomainLinkLink.ask.Goals as goal

-- where none of three holds, not one of them does
none_of : {A B C : Type 0} → (A → ⊥) → (B → ⊥) → (C → ⊥) → A ⊎ B ⊎ C → ⊥
none_of no_a no_b no_c (inl a) = no_a a
none_of no_a no_b no_c (inr (inl b)) = no_b b
none_of no_a no_b no_c (inr (inr c)) = no_c c

-- a frame came: the call is on neither list, and what was sent is a request
pub returns-in_ok-keep-in-Ok-2-clause-failed : goal.returns-in_ok-keep-in-Ok-2-clause-failed
returns-in_ok-keep-in-Ok-2-clause-failed g c =
    let call = c.count_call-listed.new.self.calls in
    let named : is_listed c.args.self.now.lost.items call ≡ true → is_listed c.deref.result.now call ≡ true = λ lost. ap (λ (xs : List ℕ). is_listed xs call) c.deref.ensures.value ∙ lost in
    none_of
    (λ listed. search rules)
    (λ lost. true≢false (sym (named (ap (λ (f : Fails). is_listed c.args.self.now.lost.items f.calls) c.count_call-listed.ensures.calls ∙ lost)) ∙ sym c.contains-lost.ensures.value ∙ c.if-lost.false))
    (λ unread. search rules)
