use Rattle.mas_types.specs.declared.jobs.Phase.TheVariants as phase
use Rattle.queue_effect.specs.Phases.{Tells}
use Rattle.queue_effect.proofs.units.phases_of.Given as goal

-- the phases of the jobs of the slots so far
abbrev pub invariant-loop-slot : goal.invariant-loop-slot
invariant-loop-slot l = record {
  purge : Tells phase.Purge l.jobs l.slot-index l.phases.purge;
  output : Tells phase.Output l.jobs l.slot-index l.phases.output;
  execute : Tells phase.Execute l.jobs l.slot-index l.phases.execute;
  convert : Tells phase.Convert l.jobs l.slot-index l.phases.convert;
}
