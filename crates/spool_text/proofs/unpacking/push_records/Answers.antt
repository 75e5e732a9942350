use Rattle.std.proofs.Common.{rules, refl, ◌-◌, ◌≡◌, ◌+◌, ◌∷◌, drop, get_or, arith}
use Rattle.mas_types.specs.Records.{end_byte}
use Rattle.spool_text.specs.Reading.{AddsFirst}
use Rattle.spool_text.proofs.Lists.{drop_here}
use Rattle.spool_text.proofs.GroupSteps.{push_none, push_some, push_all, push_step}
use Rattle.spool_text.proofs.unpacking.push_records.Goals as goal

pub loop-at-init : goal.loop-at-init
loop-at-init c = record {
  within = omega arith;
  pushed = push_none c.args.group.now c.args.into.now c.requires;
}

pub loop-at-preserved : goal.loop-at-preserved
loop-at-preserved c =
    let b = get_or c.args.group.now c.loop-at.at 0 in
    let size : c.loop-at.at + 1 + b - (c.loop-at.at + 1) ≡ b = omega arith in
    let next = push_step c.args.group.now c.loop-at.at c.args.into.now c.loop-at.into c.push.new.self c.told-group c.loop-at.invariant.within c.loop-at-test.true (rw size at c.in_ok-push.ensures.ok) c.loop-at.invariant.pushed in
    record { within = next.0; pushed = next.1 }

pub returns-in_err-push-clause-err : goal.returns-in_err-push-clause-err
returns-in_err-push-clause-err c =
    let some = push_some c.args.group.now c.loop-at.at c.args.into.now c.loop-at.into c.loop-at.invariant.pushed in
    let same : AddsFirst c.args.group.now c.args.into.now c.push.new.self = rw c.in_err-push.ensures.err some in
    search rules

pub returns-clause-ok : goal.returns-clause-ok
returns-clause-ok c =
    let group = c.args.group.now in
    let at = c.loop-at.at in
    let here : drop at group ≡ end_byte ∷ drop (at + 1) group = rw (drop_here c.args.group.now c.loop-at.at (omega arith) 0, c.loop-at-test.false) refl in
    push_all group at c.args.into.now c.loop-at.into (drop (at + 1) group) here c.loop-at.invariant.pushed
