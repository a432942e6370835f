use Rattle.std.proofs.Common.{subst}
use Rattle.dory_fields.specs.Left.{Left}
use Rattle.dory_fields.specs.Reading.{Fails, field_at}
use Rattle.dory_state.proofs.States.{no_name}
use Rattle.dory_state.proofs.reading.state_in.Goals as goal

pub returns-in_default : goal.returns-in_default
returns-in_default c =
    no_name c.args.bytes.now c.in_default.field-0 c.in_default.ensures.no_memory
    (subst (λ (r : Left). Fails c.in_default.field-0 (field_at 8 r.total r.rest)) c.new-reader.ensures c.in_default.ensures.value.1)
