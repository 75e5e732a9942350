use Rattle.std.proofs.Common.{arith, ap, ◌∙◌, sym, ◌++◌, ◌∷◌, [], append_assoc, ℕ, take, drop, get_or, List}
use Rattle.spool_disk.specs.declared.entry.Entry.TheVariants.{Idle as EntryIdle}
use Rattle.spool_disk.specs.Deeds.{line_on, lines_of}
use Rattle.spool_disk.specs.Entries.{deeds_of, deed_of, kept_in, kept_by}
use Rattle.spool_disk.specs.Whole.{whole_lines}
use Rattle.spool_disk.proofs.Replaying.{next_kept, next_gather, next_within, part_is}
use Rattle.spool_disk.proofs.Wholes.{whole_append}
use Rattle.spool_disk.proofs.lines.add_wholes.Goals as goal

pub overflow_add-from : goal.overflow_add-from
overflow_add-from c =
    let within = next_within c.args.log.now c.args.arena.now c.loop-entry.entry-index EntryIdle c.loop-entry-test.true c.requires in
    omega (arith, within, c.loop-entry.invariant.used, c.bytes_of-kept.ensures)

pub slice_bounds-add_whole-end : goal.slice_bounds-add_whole-end
slice_bounds-add_whole-end c =
    let within = next_within c.args.log.now c.args.arena.now c.loop-entry.entry-index EntryIdle c.loop-entry-test.true c.requires in
    omega (arith, within, c.loop-entry.invariant.used, c.bytes_of-kept.ensures)

pub loop-entry-preserved : goal.loop-entry-preserved
loop-entry-preserved c =
    let i = c.loop-entry.entry-index in
    let log = c.args.log.now in
    let arena = c.args.arena.now in
    let kept = next_kept log arena i EntryIdle c.loop-entry-test.true in
    let first = c.args.lines.now in
    let so_far = whole_lines (lines_of c.args.place (deeds_of (take i log) arena)) in
    let part = part_is arena c.loop-entry.from c.bytes_of-kept.result (kept_in (take i log)) (kept_by (get_or log i EntryIdle)) c.loop-entry.invariant.used c.bytes_of-kept.ensures in
    let here = whole_lines (lines_of c.args.place (deed_of (get_or log i EntryIdle) (take (kept_by (get_or log i EntryIdle)) (drop (kept_in (take i log)) arena)) ∷ [])) in
    record {
      used = omega (arith, kept, c.loop-entry.invariant.used, c.bytes_of-kept.ensures);
      lines =
          c.in_ok-add_whole.ensures
          ∙ ap (λ (l : List ℕ). c.loop-entry.lines ++ whole_lines (lines_of c.args.place (deed_of (get_or log i EntryIdle) l ∷ []))) part
          ∙ ap (λ (l : List (List ℕ)). l ++ here) c.loop-entry.invariant.lines
          ∙ append_assoc first so_far here
          ∙ ap (λ (l : List (List ℕ)). first ++ l) (sym (whole_append (lines_of c.args.place (deeds_of (take i log) arena)) (lines_of c.args.place (deed_of (get_or log i EntryIdle) (take (kept_by (get_or log i EntryIdle)) (drop (kept_in (take i log)) arena)) ∷ []))))
          ∙ ap (λ l. first ++ whole_lines l) (sym (next_gather log arena i EntryIdle c.loop-entry-test.true (line_on c.args.place)));
    }
