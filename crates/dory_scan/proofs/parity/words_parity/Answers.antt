use Rattle.std.proofs.Common.{ℕ, ◌%◌, ◌*◌, ◌≤◌, length, eqb, ap, ◌∙◌, sym, arith}
use Rattle.dory_scan.proofs.Digits.{words_common, parity_is}
use Rattle.dory_scan.proofs.parity.words_parity.Goals as goal

pub returns : goal.returns
returns g c = λ row chosen e p q.
    let room : length row ≤ 64 * length c.args.cells.now = let n = p.exact in omega arith in
    c.parity-odd.ensures
    ∙ ap (λ (n : ℕ). eqb (n % 2) 1) (words_common c.args.cells.now c.args.selector.now row chosen c.requires.same e room (λ i. (c.type_inv.cells i).fits) p.each q.each)
    ∙ sym (parity_is row chosen)
