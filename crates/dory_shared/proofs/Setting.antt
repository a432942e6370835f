-- A configuration with no fault.
use Rattle.std.proofs.Common.{◌≡◌, ℕ, suc, ◌+◌, ◌<◌, List, [], ◌∷◌, ◌++◌, length, map, take, get_or, Option, Some, None, arith, ap, sym, ◌∙◌, refl}
use Rattle.std.proofs.lemmas.List.{map-append}
use Rattle.std.proofs.Math.Seq.{take-suc}
use Rattle.dory_base.specs.declared.ids.Side.{Side}
use Rattle.dory_domain.specs.Held.{Held, opened}
use Rattle.dory_shared.specs.Seen.{Seen, held_of}
use Rattle.dory_domain.specs.Config.{config_fault_of}
use Rattle.dory_domain.specs.Setup.{or_of_seats, setup_fault}
use Rattle.dory_domain.specs.declared.config.ConfigFault.{ConfigFault}
use Rattle.dory_domain.specs.declared.config.FolderConfig.{FolderConfig}

none_of : (o : Option ConfigFault) (n : ℕ) → or_of_seats o n ≡ None → o ≡ None
none_of None n h = refl
none_of (Some fault) n h = absurd (cc h)

-- its folders have none
pub folders_right : (folders : List FolderConfig) (n : ℕ) → setup_fault folders n ≡ None → config_fault_of folders ≡ None
folders_right folders n h = none_of (config_fault_of folders) n h

-- one folder more was opened
pub opened_more : (role : Side) (configs : List FolderConfig) (i : ℕ) (c : FolderConfig) (all : List Seen) (s : Seen) → i < length configs → c ≡ get_or configs i c
    → map held_of all ≡ map (opened role) (take i configs) → held_of s ≡ opened role c → map held_of (all ++ s ∷ []) ≡ map (opened role) (take (i + 1) configs)
opened_more role configs i c all s h at before is =
    let next : suc i ≡ i + 1 = omega arith in
    map-append held_of all (s ∷ [])
    ∙ ap (λ (fs : List Held). fs ++ held_of s ∷ []) before
    ∙ ap (λ (f : Held). map (opened role) (take i configs) ++ f ∷ []) (is ∙ ap (opened role) at)
    ∙ sym (map-append (opened role) (take i configs) (get_or configs i c ∷ []))
    ∙ ap (map (opened role)) (sym (take-suc configs i c h))
    ∙ ap (λ (n : ℕ). map (opened role) (take n configs)) next
