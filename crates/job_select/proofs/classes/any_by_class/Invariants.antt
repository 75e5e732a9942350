use Rattle.std.proofs.Common.{◌≡◌, drop}
use Rattle.mas_types.specs.Lists.{has_first_key_of}
use Rattle.queue_slots.specs.Listed.{listed}
use Rattle.job_select.proofs.classes.any_by_class.Given as goal

-- no job that is picked has one of the classes so far
abbrev pub invariant-loop-class : goal.invariant-loop-class
invariant-loop-class g l =
    has_first_key_of (g.C.Classed.has_class l.choice) l.class-items (g.C.Choice.picks l.choice) (listed g.T.Ordered.order l.slots)
    ≡ has_first_key_of (g.C.Classed.has_class l.choice) (drop l.class-index l.class-items) (g.C.Choice.picks l.choice) (listed g.T.Ordered.order l.slots)
