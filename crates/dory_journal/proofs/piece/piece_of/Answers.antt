use Rattle.std.proofs.Common.{rules, ◌≡◌, ◌<◌, ◌^◌, sym, ◌∙◌, ap, subst}
use Rattle.dory_wire.specs.Frame.{frame_of}
use Rattle.dory_wire.specs.Spelling.{spelling_of_request, IsWant}
use Rattle.dory_journal.specs.Ops.{want_of_op}
use Rattle.dory_journal.specs.Bytes.{no_ask, frame_of_op}
use Rattle.dory_journal.proofs.Records.{piece_is}
use Rattle.dory_journal.proofs.piece.piece_of.Goals as goal

pub returns : goal.returns
returns c = λ op made.
    let few : c.args.folder.0 < 2 ^ 32 = search rules in
    let range : IsWant (want_of_op op) = subst IsWant (sym made) c.requires in
    let spelled : c.in_ok-piece.piece.items ≡ frame_of_op c.args.folder.0 op =
    c.in_ok-piece.ensures ∙ ap (λ w. frame_of (spelling_of_request (record { ask = no_ask; folder = record { 0 = c.args.folder.0 }; want = w }))) (sym made) in
    piece_is c.args.folder.0 op c.in_ok-piece.piece.items c.push.new.self.items few range spelled c.in_ok-push.ensures.items
