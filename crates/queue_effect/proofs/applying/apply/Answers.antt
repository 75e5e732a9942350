use Rattle.queue_effect.proofs.applying.apply.Goals as goal

pub returns-in-Begin-clause-plays : goal.returns-in-Begin-clause-plays
returns-in-Begin-clause-plays c = rw c.in-Begin.is c.begin.ensures.plays

pub returns-in-Drop-clause-plays : goal.returns-in-Drop-clause-plays
returns-in-Drop-clause-plays c = rw c.in-Drop.is c.drop_job.ensures.plays

pub returns-in-Enter-clause-plays : goal.returns-in-Enter-clause-plays
returns-in-Enter-clause-plays c = rw c.in-Enter.is c.enter.ensures.plays

pub returns-in-Converted-clause-plays : goal.returns-in-Converted-clause-plays
returns-in-Converted-clause-plays c = rw c.in-Converted.is c.converted.ensures.plays

pub returns-in-TakeExec-clause-plays : goal.returns-in-TakeExec-clause-plays
returns-in-TakeExec-clause-plays c = rw c.in-TakeExec.is c.take_exec.ensures.plays

pub returns-in-Ended-clause-plays : goal.returns-in-Ended-clause-plays
returns-in-Ended-clause-plays c = rw c.in-Ended.is c.end_job.ensures.plays

pub returns-in-Pick-clause-plays : goal.returns-in-Pick-clause-plays
returns-in-Pick-clause-plays c = rw c.in-Pick.is c.pick.ensures.plays

pub returns-in-Mark-clause-plays : goal.returns-in-Mark-clause-plays
returns-in-Mark-clause-plays c = rw c.in-Mark.is c.mark.ensures.plays

pub returns-in-Done-clause-plays : goal.returns-in-Done-clause-plays
returns-in-Done-clause-plays c = rw c.in-Done.is c.finish.ensures.plays

pub returns-in-Hold-clause-plays : goal.returns-in-Hold-clause-plays
returns-in-Hold-clause-plays c = rw c.in-Hold.is c.set_held.ensures.plays

pub returns-in-Release-clause-plays : goal.returns-in-Release-clause-plays
returns-in-Release-clause-plays c = rw c.in-Release.is c.set_held-in-Release.ensures.plays

pub returns-in-Cancel-clause-plays : goal.returns-in-Cancel-clause-plays
returns-in-Cancel-clause-plays c = rw c.in-Cancel.is c.cancel.ensures.plays

pub returns-in-SetPrio-clause-plays : goal.returns-in-SetPrio-clause-plays
returns-in-SetPrio-clause-plays c = rw c.in-SetPrio.is c.set_prio.ensures.plays

pub returns-in-SetClass-clause-plays : goal.returns-in-SetClass-clause-plays
returns-in-SetClass-clause-plays c = rw c.in-SetClass.is c.set_class.ensures.plays

pub returns-in-Out-clause-plays : goal.returns-in-Out-clause-plays
returns-in-Out-clause-plays c = rw c.in-Out.is c.out.ensures.plays

pub returns-in-CancelOut-clause-plays : goal.returns-in-CancelOut-clause-plays
returns-in-CancelOut-clause-plays c = rw c.in-CancelOut.is c.cancel_out.ensures.plays

pub returns-in-SetOut-clause-plays : goal.returns-in-SetOut-clause-plays
returns-in-SetOut-clause-plays c = rw c.in-SetOut.is c.set_out.ensures.plays

pub returns-in-Show-clause-plays : goal.returns-in-Show-clause-plays
returns-in-Show-clause-plays c = rw c.in-Show.is c.display.ensures

pub returns-in-Back-clause-plays : goal.returns-in-Back-clause-plays
returns-in-Back-clause-plays c = rw c.in-Back.is c.back.ensures.plays

pub returns-in-Forward-clause-plays : goal.returns-in-Forward-clause-plays
returns-in-Forward-clause-plays c = rw c.in-Forward.is c.set_forward.ensures.plays

pub returns-in-Load-clause-plays : goal.returns-in-Load-clause-plays
returns-in-Load-clause-plays c = rw c.in-Load.is c.load.ensures.plays

pub returns-in-Sent-clause-plays : goal.returns-in-Sent-clause-plays
returns-in-Sent-clause-plays c = rw c.in-Sent.is c.acknowledge.ensures.plays

pub returns-in-Got-clause-plays : goal.returns-in-Got-clause-plays
returns-in-Got-clause-plays c = rw c.in-Got.is c.receive.ensures.plays
