-- Lines that only clauses read own nothing, so they may go to any thread, and any thread may share them.
use denote.Param.Send.{IsSend, IsSync, part_keyless}
use Rattle.brief_queue.specs.contracts.told.ToldLines.{the_row}

pub told_send : IsSend the_row
told_send = record { owned = λ d vs. ((λ uss. (tt, tt)), tt); leaving = λ k f vs. tt }

pub told_sync : IsSync the_row
told_sync = record { shared = λ d b o κ q. part_keyless the_row told_send q d b o }
