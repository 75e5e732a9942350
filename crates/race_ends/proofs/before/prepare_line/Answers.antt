use Rattle.std.proofs.Common.{◌≤◌, ◌<◌, refl, subst}
use Rattle.mas_types.specs.declared.queues.Config.{Config}
use Rattle.mas_complex.specs.Parts.{parts_of}
use Rattle.race_ends.proofs.PrepareLemmas.{armed_line, few_by, prepared_as, prepared_later, raced_or}
use Rattle.race_ends.proofs.before.prepare_line.Goals as goal

pub returns-in-StopIn-clause-prepares : goal.returns-in-StopIn-clause-prepares
returns-in-StopIn-clause-prepares g c =
    let s = c.args.line.now in
    let few = few_by s.by s.what c.requires.raced c.requires.played.fits.by in
    armed_line c.args.complex.now c.arm_line.new.complex c.args.number s _ _ c.in-StopIn.is few.0 c.requires.may.up c.arm_line.ensures.arms

pub returns-then-line-config-clause-prepares : goal.returns-then-line-config-clause-prepares
returns-then-line-config-clause-prepares g c =
    let s = c.args.line.now in
    let x = c.args.complex.now in
    let kind = raced_or s.what c.requires.raced c.in_default.not-StopIn in
    prepared_later g.P.Plant c.args.number s (parts_of x) (parts_of x) refl kind.1 (subst (λ (k : Config). s.by.0 ≤ k.members) c.config.ensures c.if-line-config.true)

pub refuse_line-requires-clause-by : goal.refuse_line-requires-clause-by
refuse_line-requires-clause-by g c =
    let s = c.args.line.now in
    (few_by s.by s.what c.requires.raced c.requires.played.fits.by).1

pub refuse_line-requires-clause-none : goal.refuse_line-requires-clause-none
refuse_line-requires-clause-none g c = subst (λ (k : Config). k.members < c.args.line.now.by.0) c.config.ensures c.if-line-config.false

pub returns-else-line-config-clause-prepares : goal.returns-else-line-config-clause-prepares
returns-else-line-config-clause-prepares g c =
    let s = c.args.line.now in
    let x = c.args.complex.now in
    let kind = raced_or s.what c.requires.raced c.in_default.not-StopIn in
    prepared_as g.P.Plant c.args.number s (parts_of x) (parts_of c.refuse_line.new.complex) c.refuse_line.result kind.0 kind.1 c.refuse_line.ensures.refuses
