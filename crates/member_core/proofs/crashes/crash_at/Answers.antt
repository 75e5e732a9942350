use Rattle.std.proofs.Common.{◌≡◌, ◌<◌, ◌≤◌, ◌∙◌, length, sym, ap, arith}
use Rattle.member_core.specs.Worlds.{no_copy}
use Rattle.member_core.specs.Events.{after_crash}
use Rattle.member_core.specs.Steps.{crash_reads}
use Rattle.member_core.proofs.Places.{at_found, change_past, change_found}
use Rattle.member_core.proofs.crashes.crash_at.Goals as goal

pub returns-then-at-len : goal.returns-then-at-len
returns-then-at-len c = λ l kept reads.
    let x = c.item_mut.result.now in
    let inside : c.args.at < length c.args.copies.now = omega (arith, c.len.ensures, c.if-at-len.true) in
    let is : c.args.reads ≡ crash_reads l kept x = reads inside ∙ ap (crash_reads l kept) (at_found no_copy c.args.at c.args.copies.now x c.item_mut.ensures.value) in
    rw (c.crash_copy.ensures l kept is) (sym (change_found (after_crash l kept c.args.opens) c.args.at c.args.copies.now x c.item_mut.ensures.value))

pub returns-else-at-len : goal.returns-else-at-len
returns-else-at-len c = λ l kept reads. let past : length c.args.copies.now ≤ c.args.at = omega arith in sym (change_past (after_crash l kept c.args.opens) c.args.at c.args.copies.now past)
