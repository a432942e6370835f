use Rattle.std.proofs.Common.{◌≡◌, ◌<◌, ◌≤◌, ◌+◌, ◌++◌, ◌∷◌, [], List, length, map, take, rules, ap, ◌∙◌, sym, subst, arith, None}
use Rattle.dory_domain.specs.Config.{config_fault_of}
use Rattle.dory_domain.specs.declared.config.FolderConfig.{FolderConfig}
use Rattle.dory_domain.proofs.ConfigLaws.{retained_at}
use Rattle.dory_shared.specs.Seen.{Seen, held_of}
use Rattle.dory_domain.specs.Held.{opened}
use Rattle.dory_shared.proofs.Setting.{folders_right, opened_more}
use Rattle.dory_shared.proofs.opened.begin.Goals as goal

pub new-requires-clause-some : goal.new-requires-clause-some
new-requires-clause-some g c =
    let items : List FolderConfig = c.items-folder-items.result.now in
    let same : items ≡ c.args.config.now.folders = c.items-folder-items.ensures in
    let right : config_fault_of items ≡ None = ap config_fault_of same ∙ folders_right c.args.config.now.folders c.args.config.now.seats c.requires in
    let at = retained_at items right c.loop-folder.folder-index c.folder-item.result (omega arith) in
    subst (λ (x : FolderConfig). (1 ≤ x.retained) × (x.retained ≤ 256)) (sym c.folder-item.is) at

pub loop-folder-preserved : goal.loop-folder-preserved
loop-folder-preserved g c =
    let items : List FolderConfig = c.items-folder-items.result.now in
    let same : items ≡ c.args.config.now.folders = c.items-folder-items.ensures in
    let before : map held_of c.loop-folder.all.items ≡ map (opened c.args.config.now.role) (take c.loop-folder.folder-index items) =
    c.loop-folder.invariant ∙ ap (λ (fs : List FolderConfig). map (opened c.args.config.now.role) (take c.loop-folder.folder-index fs)) (sym same) in
    let pushed : c.push.new.self.items ≡ c.loop-folder.all.items ++ c.in_ok-cabinet.cabinet ∷ [] = c.in_ok-push.ensures.items in
    ap (map held_of) pushed
    ∙ opened_more c.args.config.now.role items c.loop-folder.folder-index c.folder-item.result c.loop-folder.all.items c.in_ok-cabinet.cabinet (omega arith) c.folder-item.is before (search rules)
    ∙ ap (λ (fs : List FolderConfig). map (opened c.args.config.now.role) (take (c.loop-folder.folder-index + 1) fs)) same
