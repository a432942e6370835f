use Rattle.std.proofs.Common.{◌≡◌, ◌++◌, ◌∷◌, take, codes, string_bytes}
use Rattle.std.specs.List.{flat_map}
use Rattle.std.specs.Fmt.{decimal}
use Rattle.dory_member.proofs.text.answer_text.Given as goal

abbrev pub invariant-loop-doc : goal.invariant-loop-doc
invariant-loop-doc l = string_bytes l.line ≡ codes "version " ++ decimal l.version ++ codes ":" ++ flat_map (λ doc. 32 ∷ decimal doc.0) (take l.doc-index l.doc-items)
