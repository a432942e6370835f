use Rattle.std.proofs.Common.{◌≡◌, ◌+◌, map, drop, string_bytes}
use Rattle.dory_server.specs.Line.{folders_from}
use Rattle.dory_server.proofs.FolderWords.{after}
use Rattle.dory_server.proofs.line.folders.Given as goal

abbrev pub invariant-loop-place : goal.invariant-loop-place
invariant-loop-place l = folders_from 3 (map string_bytes l.words) ≡ after l.folders.items (folders_from (3 + l.place) (map string_bytes (drop l.place l.words)))
