use Rattle.std.proofs.Common.{◌∙◌, ap, ◌++◌, ℕ, List}
use Rattle.spool_disk.specs.declared.entry.Entry.{Entry}
use Rattle.spool_plant.specs.View.{Line}
use Rattle.spool_disk.specs.Deeds.{lines_of}
use Rattle.spool_disk.proofs.Restart.{all_whole}
use Rattle.spool_disk.specs.Entries.{deeds_of}
use Rattle.spool_disk.proofs.crash.crashed_base.Goals as goal

pub invariant_of-result-clause-whole : goal.invariant_of-result-clause-whole
invariant_of-result-clause-whole c = all_whole c.args.choice c.args.base.now c.in_ok-start.start.items (deeds_of c.args.log.now c.args.arena.now) c.in_ok-start.ensures.len c.in_ok-start.ensures.each

pub returns-clause-lines : goal.returns-clause-lines
returns-clause-lines c place =
    let front =
    c.in_ok-add_lines.ensures.lines place
    ∙ ap (λ (es : List Entry). lines_of place (deeds_of es c.new-text.result.items) ++ lines_of place (deeds_of c.deref.result.now c.deref-2.result.now)) c.new-said.ensures.items
    ∙ ap (λ (es : List Entry). lines_of place (deeds_of es c.deref-2.result.now)) c.deref.ensures.value
    ∙ ap (λ (l : List ℕ). lines_of place (deeds_of c.args.base.now.said.items l)) c.deref-2.ensures.value in
    c.in_ok-add_lines-2.ensures.lines place ∙ ap (λ (ls : List Line). ls ++ lines_of place (deeds_of c.args.log.now c.args.arena.now)) front
