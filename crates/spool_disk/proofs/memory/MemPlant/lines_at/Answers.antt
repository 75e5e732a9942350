use Rattle.spool_disk.proofs.Wholes.{all_lines}
use Rattle.spool_disk.proofs.memory.MemPlant.lines_at.Goals as goal

pub returns : goal.returns
returns c =
    let s = c.args.self.now in
    all_lines s.kept.base.said.items s.kept.log.items s.kept.base.text.items s.kept.arena.items c.deref.result.now c.deref-3.result.now c.deref-2.result.now c.deref-4.result.now s.moment c.args.place
    c.new-lines.result c.add_wholes.new.lines c.add_wholes-2.new.lines c.new-lines.ensures c.deref.ensures.value c.deref-2.ensures.value c.deref-3.ensures.value c.deref-4.ensures.value s.in_step.0 c.in_ok-add_wholes.ensures c.in_ok-add_wholes-2.ensures
