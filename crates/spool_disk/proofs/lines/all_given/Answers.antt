use Rattle.std.proofs.Common.{arith, ap, ◌∙◌, sym, ◌++◌, ℕ, take, drop, get_or, List}
use Rattle.std.proofs.lemmas.List.{append-nil}
use Rattle.spool_disk.specs.declared.entry.Entry.TheVariants.{Idle as EntryIdle}
use Rattle.spool_disk.specs.Deeds.{gather, gives}
use Rattle.spool_disk.specs.Entries.{deeds_of, deed_of, kept_in, kept_by}
use Rattle.spool_disk.proofs.Replaying.{next_kept, next_gather, next_within, part_is}
use Rattle.spool_disk.proofs.lines.all_given.Goals as goal

pub overflow_add-from : goal.overflow_add-from
overflow_add-from c =
    let within = next_within c.args.log.now c.args.arena.now c.loop-entry.entry-index EntryIdle c.loop-entry-test.true c.requires in
    omega (arith, within, c.loop-entry.invariant.used, c.bytes_of-kept.ensures)

pub slice_bounds-add_given-end : goal.slice_bounds-add_given-end
slice_bounds-add_given-end c =
    let within = next_within c.args.log.now c.args.arena.now c.loop-entry.entry-index EntryIdle c.loop-entry-test.true c.requires in
    omega (arith, within, c.loop-entry.invariant.used, c.bytes_of-kept.ensures)

pub loop-entry-preserved : goal.loop-entry-preserved
loop-entry-preserved c =
    let i = c.loop-entry.entry-index in
    let log = c.args.log.now in
    let arena = c.args.arena.now in
    let wire = c.args.wire in
    let kept = next_kept log arena i EntryIdle c.loop-entry-test.true in
    let part = part_is arena c.loop-entry.from c.bytes_of-kept.result (kept_in (take i log)) (kept_by (get_or log i EntryIdle)) c.loop-entry.invariant.used c.bytes_of-kept.ensures in
    let here = take (kept_by (get_or log i EntryIdle)) (drop (kept_in (take i log)) arena) in
    record {
      used = omega (arith, kept, c.loop-entry.invariant.used, c.bytes_of-kept.ensures);
      given =
          c.in_ok-add_given.ensures
          ∙ ap (λ (l : List ℕ). c.loop-entry.given ++ gives wire (deed_of (get_or log i EntryIdle) l)) part
          ∙ ap (λ (l : List ℕ). l ++ gives wire (deed_of (get_or log i EntryIdle) here)) c.loop-entry.invariant.given
          ∙ ap (λ (l : List ℕ). gather (gives wire) (deeds_of (take i log) arena) ++ l) (sym (append-nil (gives wire (deed_of (get_or log i EntryIdle) here))))
          ∙ sym (next_gather log arena i EntryIdle c.loop-entry-test.true (gives wire));
    }
