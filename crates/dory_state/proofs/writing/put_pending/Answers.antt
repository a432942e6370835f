use Rattle.dory_state.proofs.Written.{post_written, removal_written}
use Rattle.dory_state.proofs.writing.put_pending.Goals as goal

pub returns-in_ok-put_bits-in-Some-row : goal.returns-in_ok-put_bits-in-Some-row
returns-in_ok-put_bits-in-Some-row c =
    post_written c.args.out.now.items c.push-in-Some-row.new.self.items c.put_name.new.out.items c.put_bits.new.out.items c.args.pending.now c.in-Some.update c.in-Some-row.row
    c.in-Some.is c.in-Some-row.is c.in_ok-push-in-Some-row.ensures.items c.in_ok-put_name-in-Some-row.ensures c.in_ok-put_bits-in-Some-row.ensures

pub returns-in_ok-put_name-in-None-row : goal.returns-in_ok-put_name-in-None-row
returns-in_ok-put_name-in-None-row c =
    removal_written c.args.out.now.items c.push-in-None-row.new.self.items c.put_name-in-None-row.new.out.items c.args.pending.now c.in-Some.update
    c.in-Some.is c.in-None-row.is c.in_ok-push-in-None-row.ensures.items c.in_ok-put_name-in-None-row.ensures
