use Rattle.std.proofs.Common.{◌≡◌, ◌∙◌, inr, Some, sym}
use Rattle.ckpt_pages.specs.Sound.{fault_of}
use Rattle.mas_check.proofs.WorldLemmas.{reads_none}
use Rattle.mas_check.proofs.CheckLemmas.{fault_check}
use Rattle.mas_check.proofs.checking.check_tables.Goals as goal

pub returns-in-Some-clause-reads : goal.returns-in-Some-clause-reads
returns-in-Some-clause-reads g c = reads_none g.P.Plant.tells (g.P.Plant.view c.args.plant.now)

pub returns-in-Some-clause-answer : goal.returns-in-Some-clause-answer
returns-in-Some-clause-answer g c =
    let P = g.P.Plant in
    let v = P.view c.args.plant.now in
    let is : fault_of c.args.tables.now ≡ Some c.in-Some.fault = sym c.in_ok-first_fault.ensures ∙ c.in-Some.is in
    rw c.verdict_of.ensures (inr (fault_check P.tells c.args.tables.now v v c.in-Some.fault is))
