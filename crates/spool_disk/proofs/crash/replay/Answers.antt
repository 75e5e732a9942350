use Rattle.std.proofs.Common.{arith, ap, ◌∙◌, sym, ℕ, take, get_or, List}
use Rattle.spool_disk.specs.declared.entry.Entry.TheVariants.{Idle as EntryIdle}
use Rattle.spool_plant.specs.View.{Disk}
use Rattle.spool_disk.specs.Deeds.{after, effect}
use Rattle.spool_disk.specs.Entries.{deeds_of, deed_of, kept_in, kept_by}
use Rattle.spool_disk.proofs.Replaying.{next_kept, next_after, next_within, part_is}
use Rattle.spool_disk.proofs.crash.replay.Goals as goal

pub overflow_add-from : goal.overflow_add-from
overflow_add-from c =
    let within = next_within c.args.log.now c.args.arena.now c.loop-entry.entry-index EntryIdle c.loop-entry-test.true c.requires in
    omega (arith, within, c.loop-entry.invariant.used, c.bytes_of-kept.ensures)

pub slice_bounds-redo-end : goal.slice_bounds-redo-end
slice_bounds-redo-end c =
    let within = next_within c.args.log.now c.args.arena.now c.loop-entry.entry-index EntryIdle c.loop-entry-test.true c.requires in
    omega (arith, within, c.loop-entry.invariant.used, c.bytes_of-kept.ensures)

pub loop-entry-preserved : goal.loop-entry-preserved
loop-entry-preserved c =
    let i = c.loop-entry.entry-index in
    let kept = next_kept c.args.log.now c.args.arena.now i EntryIdle c.loop-entry-test.true in
    record {
      used = omega (arith, kept, c.loop-entry.invariant.used, c.bytes_of-kept.ensures);
      disk = λ d same.
          c.redo.ensures (after c.args.slot d (deeds_of (take i c.args.log.now) c.args.arena.now)) (c.loop-entry.invariant.disk d same)
          ∙ ap (λ (l : List ℕ). (effect c.args.slot (after c.args.slot d (deeds_of (take i c.args.log.now) c.args.arena.now)) (deed_of (get_or c.args.log.now i EntryIdle) l)).bytes)
          (part_is c.args.arena.now c.loop-entry.from c.bytes_of-kept.result (kept_in (take i c.args.log.now)) (kept_by (get_or c.args.log.now i EntryIdle)) c.loop-entry.invariant.used c.bytes_of-kept.ensures)
          ∙ sym (ap (λ (x : Disk). x.bytes) (next_after c.args.log.now c.args.arena.now i EntryIdle c.loop-entry-test.true c.args.slot d));
    }
