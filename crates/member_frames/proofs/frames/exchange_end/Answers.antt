use Rattle.member_frames.proofs.frames.exchange_end.Goals as goal

pub returns-in-Some-clause-is : goal.returns-in-Some-clause-is
returns-in-Some-clause-is c = rw c.in-Some.is (c.offered_end.ensures.is c.in-Some.field-0)

pub returns-in-None-clause-is : goal.returns-in-None-clause-is
returns-in-None-clause-is c = rw c.in-None.is c.cut_end.ensures.is
