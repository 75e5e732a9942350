use Rattle.mas_check.proofs.tallies.Tallies.tally.Goals as goal

pub returns-in-Output : goal.returns-in-Output
returns-in-Output c = rw c.in-Output.is c.tally_of-in-Output.ensures
