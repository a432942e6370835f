use Rattle.std.proofs.Common.{rules, Ok, Err}
use Rattle.dory_link.proofs.AnswerLaws.{frame_answered, response_grows}
use Rattle.dory_link.proofs.answer.answer.Goals as goal

pub returns-in-Err-NoMemory-clause-grown : goal.returns-in-Err-NoMemory-clause-grown
returns-in-Err-NoMemory-clause-grown g c = response_grows c.args.core.now.folders c.answer.new.self.folders c.in-Some.message.now (Err c.in-Err-NoMemory.field-0) c.in-Err-NoMemory.ensures

pub returns-in-Ok-to_vec-clause-grown : goal.returns-in-Ok-to_vec-clause-grown
returns-in-Ok-to_vec-clause-grown g c = response_grows c.args.core.now.folders c.answer.new.self.folders c.in-Some.message.now (Ok c.in-Ok.frame) c.in-Ok.ensures

pub returns-in-Ok-to_vec-clause-answers : goal.returns-in-Ok-to_vec-clause-answers
returns-in-Ok-to_vec-clause-answers g c = frame_answered c.args.core.now.folders c.answer.new.self.folders c.args.request.now c.in-Some.message.now c.in-Ok.frame.items (search rules) c.in-Ok.ensures

pub returns-in-Err-to_vec-clause-grown : goal.returns-in-Err-to_vec-clause-grown
returns-in-Err-to_vec-clause-grown g c = response_grows c.args.core.now.folders c.answer.new.self.folders c.in-Some.message.now (Ok c.in-Ok.frame) c.in-Ok.ensures
