use Rattle.std.proofs.Common.{arith, ap}
use Rattle.spool_disk.specs.declared.health.Health.{Health}
use Rattle.spool_disk.specs.Health.{since_of}
use Rattle.spool_disk.proofs.Restart.{blank, sounds_at, sounds_still}
use Rattle.spool_disk.proofs.memory.MemPlant.new.Goals as goal

pub begin-requires-clause-first : goal.begin-requires-clause-first
begin-requires-clause-first c place = omega (arith, ap (λ (h : Health). since_of h.since) (sounds_at place c.in_ok-parts.parts.items c.in_ok-parts.ensures))

pub begin-requires-clause-none : goal.begin-requires-clause-none
begin-requires-clause-none c place = ap (λ (h : Health). h.faults) (sounds_at place c.in_ok-parts.parts.items c.in_ok-parts.ensures)

pub returns-clause-view : goal.returns-clause-view
returns-clause-view c = blank c.args.sizes c.in_ok-base.base c.in_ok-parts.parts.items _ c.in_ok-base.ensures.sizes c.in_ok-base.ensures.zeros c.in_ok-base.ensures.none c.in_ok-parts.ensures c.in_ok-begin.ensures.view

pub begin-requires-clause-lost : goal.begin-requires-clause-lost
begin-requires-clause-lost c place = sounds_still place c.in_ok-parts.parts.items c.in_ok-parts.ensures
