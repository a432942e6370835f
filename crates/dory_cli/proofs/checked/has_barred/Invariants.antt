use Rattle.std.proofs.Common.{◌≡◌, false, map, take, string_bytes}
use Rattle.std.specs.List.{list_any}
use Rattle.dory_cli.specs.Commands.{AreTexts}
use Rattle.dory_cli.specs.Barred.{is_barred}
use Rattle.dory_cli.proofs.checked.has_barred.Given as goal

abbrev pub invariant-loop-word : goal.invariant-loop-word
invariant-loop-word l = record {
  none : list_any is_barred (map string_bytes (take l.word-index l.words)) ≡ false;
  texts : AreTexts (map string_bytes (take l.word-index l.words));
}
