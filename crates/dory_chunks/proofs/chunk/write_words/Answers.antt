use Rattle.std.proofs.Common.{◌≡◌, ◌+◌, ◌-◌, ◌≤◌, ℕ, length, List, take, drop, ◌++◌, ap, ◌∙◌, sym, arith}
use Rattle.std.proofs.lemmas.List.{length-take, length-drop}
use Rattle.std.specs.List.{slice_range}
use borrow.Rule.Slice.PartMut.{put_mid}
use Rattle.dory_chunks.proofs.RowBlock.{cut_off, written_below, written_above}
use Rattle.dory_chunks.proofs.chunk.write_words.Goals as goal

pub returns-clause-below : goal.returns-clause-below
returns-clause-below c = λ a e h.
    let xs : List ℕ = c.deref_mut.result.now in
    let old : List ℕ = c.args.rows.now.items in
    let ys : List ℕ = c.copy_from_slice.new.self in
    let k : ℕ = c.args.start + length c.args.words.now - c.args.start in
    let is : xs ≡ old = c.deref_mut.ensures.value in
    let inside : c.args.start + k ≤ length xs = omega (arith, c.requires, ap (length {A = ℕ}) is) in
    let long : length ys ≡ k = omega (arith, c.copy_from_slice.ensures.len, length-take k (drop c.args.start xs), length-drop c.args.start xs) in
    let all : c.args.rows.now.len ≡ length xs = let p = c.args.rows.now.ok in omega (arith, p.0, ap (length {A = ℕ}) is) in
    ap (λ (us : List ℕ). slice_range (take c.args.rows.now.len (put_mid c.args.start k xs ys ++ drop (length (put_mid c.args.start k xs ys)) us)) a e) (sym is)
    ∙ ap (λ (us : List ℕ). slice_range us a e) (cut_off xs ys c.args.start k c.args.rows.now.len all inside long)
    ∙ written_below xs ys c.args.start k a e inside h
    ∙ ap (λ (us : List ℕ). slice_range us a e) is

pub returns-clause-above : goal.returns-clause-above
returns-clause-above c = λ a e h.
    let xs : List ℕ = c.deref_mut.result.now in
    let old : List ℕ = c.args.rows.now.items in
    let ys : List ℕ = c.copy_from_slice.new.self in
    let k : ℕ = c.args.start + length c.args.words.now - c.args.start in
    let is : xs ≡ old = c.deref_mut.ensures.value in
    let inside : c.args.start + k ≤ length xs = omega (arith, c.requires, ap (length {A = ℕ}) is) in
    let long : length ys ≡ k = omega (arith, c.copy_from_slice.ensures.len, length-take k (drop c.args.start xs), length-drop c.args.start xs) in
    let all : c.args.rows.now.len ≡ length xs = let p = c.args.rows.now.ok in omega (arith, p.0, ap (length {A = ℕ}) is) in
    let high : c.args.start + k ≤ a = omega arith in
    ap (λ (us : List ℕ). slice_range (take c.args.rows.now.len (put_mid c.args.start k xs ys ++ drop (length (put_mid c.args.start k xs ys)) us)) a e) (sym is)
    ∙ ap (λ (us : List ℕ). slice_range us a e) (cut_off xs ys c.args.start k c.args.rows.now.len all inside long)
    ∙ written_above xs ys c.args.start k a e inside long high
    ∙ ap (λ (us : List ℕ). slice_range us a e) is
