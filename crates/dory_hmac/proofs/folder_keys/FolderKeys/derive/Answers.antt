use Rattle.dory_hmac.proofs.folder_keys.FolderKeys.derive.Goals as goal

pub returns : goal.returns
returns c = rw (c.labelled.ensures, c.labelled-2.ensures, c.labelled-3.ensures, c.new-keyed.ensures)
