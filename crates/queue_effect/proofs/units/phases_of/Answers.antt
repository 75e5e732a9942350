use Rattle.mas_types.specs.declared.jobs.Phase.TheVariants as phase
use Rattle.queue_effect.proofs.PhaseLemmas.{tells_more}
use Rattle.queue_effect.proofs.units.phases_of.Goals as goal

pub loop-slot-preserved : goal.loop-slot-preserved
loop-slot-preserved c =
    let jobs = c.args.jobs.now in
    let k = c.loop-slot.slot-index in
    let b = c.loop-slot.phases in
    let n = c.note_slot.new.phases in
    let e = c.note_slot.ensures in
    let i = c.loop-slot.invariant in
    let lt = c.loop-slot-test.true in
    record {
      purge = tells_more phase.Purge jobs k b.purge n.purge e.purge lt i.purge;
      output = tells_more phase.Output jobs k b.output n.output e.output lt i.output;
      execute = tells_more phase.Execute jobs k b.execute n.execute e.execute lt i.execute;
      convert = tells_more phase.Convert jobs k b.convert n.convert e.convert lt i.convert;
    }
