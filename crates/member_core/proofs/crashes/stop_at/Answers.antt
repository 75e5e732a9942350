use Rattle.std.proofs.Common.{◌≡◌, ◌<◌, ◌≤◌, ◌∙◌, length, sym, ap, arith}
use Rattle.member_core.specs.declared.worlds.CopyAt.{CopyAt}
use Rattle.member_core.specs.Worlds.{no_copy}
use Rattle.member_core.specs.Events.{after_stop, left_of}
use Rattle.member_core.proofs.Places.{at_found, change_past, change_found}
use Rattle.member_core.proofs.crashes.stop_at.Goals as goal

pub returns-then-at-len : goal.returns-then-at-len
returns-then-at-len c = λ l reads.
    let x = c.item_mut.result.now in
    let inside : c.args.at < length c.args.copies.now = omega (arith, c.len.ensures, c.if-at-len.true) in
    let is : c.args.reads ≡ left_of l x.reads x.next = reads inside ∙ ap (λ (y : CopyAt). left_of l y.reads y.next) (at_found no_copy c.args.at c.args.copies.now x c.item_mut.ensures.value) in
    rw (c.stop_copy.ensures l is) (sym (change_found (after_stop l c.args.opens) c.args.at c.args.copies.now x c.item_mut.ensures.value))

pub returns-else-at-len : goal.returns-else-at-len
returns-else-at-len c = λ l reads. let past : length c.args.copies.now ≤ c.args.at = omega arith in sym (change_past (after_stop l c.args.opens) c.args.at c.args.copies.now past)
