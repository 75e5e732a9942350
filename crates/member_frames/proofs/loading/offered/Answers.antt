use Rattle.std.proofs.Common.{sym}
use Rattle.member_frames.proofs.Offering.{other_offered}
use Rattle.member_frames.proofs.loading.offered.Goals as goal

pub returns-in_default-clause-is : goal.returns-in_default-clause-is
returns-in_default-clause-is c Q told = sym (other_offered Q c.args.line c.args.reply.now c.in_default.not-Job)
