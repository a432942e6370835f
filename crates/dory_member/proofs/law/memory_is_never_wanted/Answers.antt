use Rattle.dory_member.proofs.MemoryLaws.{begins_with_memory, goes_on_with_memory, refused_with_memory}
use Rattle.dory_member.proofs.law.memory_is_never_wanted.Goals as goal

pub returns-clause-refused : goal.returns-clause-refused
returns-clause-refused c = refused_with_memory

pub returns-clause-begins : goal.returns-clause-begins
returns-clause-begins c = begins_with_memory

pub returns-clause-goes_on : goal.returns-clause-goes_on
returns-clause-goes_on c run frame = goes_on_with_memory run run.phase frame
