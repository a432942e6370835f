use Rattle.std.proofs.Common.{◌≡◌, ◌≢◌, ℕ, ◌<◌, ◌≤◌, cond, Bool, List, [], length, get_or}
use Rattle.std.specs.Int.{bit_at}
use Rattle.dory_base.specs.Sum.{parity}
use Rattle.dory_base.specs.TableMeaning.{Shows}
use Rattle.dory_scan.proofs.block.Block.mark.Given as goal

abbrev pub invariant-loop-s : goal.invariant-loop-s
invariant-loop-s g l = record {
  many : length l.self-inside.words.items ≡ length l.selectors;
  here : (row : List Bool) → Shows l.cells row → (s : ℕ) → s < l.s → length row ≡ length (get_or l.selectors s []) → bit_at (get_or l.self-inside.words.items s 0) l.place ≡ cond (parity (get_or l.selectors s []) row) 1 0;
  clear : (s : ℕ) → l.s ≤ s → s < length l.selectors → bit_at (get_or l.self-inside.words.items s 0) l.place ≡ 0;
  there : (s i : ℕ) → i ≢ l.place → bit_at (get_or l.self-inside.words.items s 0) i ≡ bit_at (get_or l.initial.self-inside.words.items s 0) i;
}
