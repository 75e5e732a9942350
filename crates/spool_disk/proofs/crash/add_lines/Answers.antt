use Rattle.std.proofs.Common.{arith, ap, ◌∙◌, sym, ◌++◌, ◌∷◌, [], append_assoc, ℕ, take, drop, get_or, List}
use Rattle.std.proofs.lemmas.List.{take_all}
use Rattle.spool_disk.specs.declared.entry.Entry.{Entry}
use Rattle.spool_disk.specs.declared.entry.Entry.TheVariants.{Idle as EntryIdle}
use Rattle.spool_plant.specs.View.{Line}
use Rattle.spool_disk.specs.Deeds.{line_on, lines_of}
use Rattle.spool_disk.specs.Entries.{deeds_of, deed_of, kept_in, kept_by}
use Rattle.spool_disk.proofs.Replaying.{next_kept, next_gather, next_within, part_is}
use Rattle.spool_disk.proofs.crash.add_lines.Goals as goal

pub overflow_add-from : goal.overflow_add-from
overflow_add-from c =
    let within = next_within c.args.log.now c.args.arena.now c.loop-entry.entry-index EntryIdle c.loop-entry-test.true c.requires.arena in
    omega (arith, within, c.loop-entry.invariant.used, c.bytes_of-kept.ensures)

pub slice_bounds-add_line-end : goal.slice_bounds-add_line-end
slice_bounds-add_line-end c =
    let within = next_within c.args.log.now c.args.arena.now c.loop-entry.entry-index EntryIdle c.loop-entry-test.true c.requires.arena in
    omega (arith, within, c.loop-entry.invariant.used, c.bytes_of-kept.ensures)

pub loop-entry-preserved : goal.loop-entry-preserved
loop-entry-preserved c =
    let i = c.loop-entry.entry-index in
    let log = c.args.log.now in
    let arena = c.args.arena.now in
    let kept = next_kept log arena i EntryIdle c.loop-entry-test.true in
    let part = part_is arena c.loop-entry.from c.bytes_of-kept.result (kept_in (take i log)) (kept_by (get_or log i EntryIdle)) c.loop-entry.invariant.used c.bytes_of-kept.ensures in
    record {
      used = omega (arith, kept, c.loop-entry.invariant.used, c.bytes_of-kept.ensures);
      lines = λ place.
          c.in_ok-add_line.ensures.lines place
          ∙ ap (λ (l : List ℕ). lines_of place (deeds_of c.loop-entry.said.items c.loop-entry.text.items) ++ lines_of place (deed_of (get_or log i EntryIdle) l ∷ [])) part
          ∙ ap (λ (l : List Line). l ++ lines_of place (deed_of (get_or log i EntryIdle) (take (kept_by (get_or log i EntryIdle)) (drop (kept_in (take i log)) arena)) ∷ [])) (c.loop-entry.invariant.lines place)
          ∙ append_assoc (lines_of place (deeds_of c.args.said.now.items c.args.text.now.items)) (lines_of place (deeds_of (take i log) arena)) (lines_of place (deed_of (get_or log i EntryIdle) (take (kept_by (get_or log i EntryIdle)) (drop (kept_in (take i log)) arena)) ∷ []))
          ∙ ap (λ (l : List Line). lines_of place (deeds_of c.args.said.now.items c.args.text.now.items) ++ l) (sym (next_gather log arena i EntryIdle c.loop-entry-test.true (line_on place)));
      fits = c.in_ok-add_line.ensures.fits;
    }

pub returns-clause-lines : goal.returns-clause-lines
returns-clause-lines c place =
    c.loop-entry.invariant.lines place
    ∙ ap (λ (l : List Entry). lines_of place (deeds_of c.args.said.now.items c.args.text.now.items) ++ lines_of place (deeds_of l c.args.arena.now)) (take_all c.loop-entry.entry-index c.args.log.now (omega (arith, c.loop-entry-test.false)))
