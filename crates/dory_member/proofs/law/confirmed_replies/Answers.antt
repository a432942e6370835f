use Rattle.dory_member.proofs.ConfirmationLaws.{heard}
use Rattle.dory_member.proofs.law.confirmed_replies.Goals as goal

pub returns : goal.returns
returns c = heard
