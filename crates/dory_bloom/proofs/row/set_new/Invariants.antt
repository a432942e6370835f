use Rattle.std.proofs.Common.{◌≡◌, ℕ, ◌<◌, ◌^◌, ◌||◌, false, length, get_or, take}
use Rattle.std.specs.List.{list_any}
use Rattle.dory_hmac.specs.Hmac.{hmac_of_block}
use Rattle.dory_bloom.specs.Positions.{columns_of}
use Rattle.dory_bloom.specs.PlainRow.{is_among}
use Rattle.dory_bloom.specs.Recent.{AreSet}
use Rattle.dory_bloom.proofs.row.set_new.Given as goal

abbrev pub invariant-loop-word : goal.invariant-loop-word
invariant-loop-word l = record {
  len : length l.row ≡ 2 ^ l.fn.shape.depth;
  bits : (j : ℕ) → j < 2 ^ l.fn.shape.depth → get_or l.row j false ≡ (get_or l.fn.row j false || list_any (λ word. is_among j (columns_of (hmac_of_block l.word_key word) l.fn.shape)) (take l.word-index l.words));
  kept : AreSet l.recent l.row l.word_key l.fn.shape;
}
