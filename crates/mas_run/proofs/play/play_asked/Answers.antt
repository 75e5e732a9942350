use Rattle.mas_run.proofs.Names.{refl, Headline, form_reads}
use Rattle.mas_run.proofs.RunLemmas.{caused_by_lines, play_of_lines}
use Rattle.mas_run.proofs.play.play_asked.Goals as goal

pub play_lines-answer-requires-clause-between : goal.play_lines-answer-requires-clause-between
play_lines-answer-requires-clause-between g c = c.requires.open.between

pub returns-clause-play : goal.returns-clause-play
returns-clause-play g c =
    let x = c.args.run.complex in
    let y = c.play_lines-answer.new.self.complex in
    let w = g.P.Plant.view y.plant in
    let e = c.end_run.ensures in
    let d = c.play_lines-answer.ensures in
    let J = c.end_run.result.journal in
    let head : g.P.Plant.tells → ∥ Headline form_reads x.base x.since J y.renewals w ∥₁ = λ t. rw (e.base, e.since, e.plant, d.base, d.since) at (e.headline t) in
    rw (e.status, c.status_of.ensures, e.base, e.since, e.plant, d.base, d.since)
    (play_of_lines x y c.args.run.members c.requires.open c.args.lines.now c.play_lines-answer.result d refl J e.journal head)

pub returns-clause-cause : goal.returns-clause-cause
returns-clause-cause g c =
    let d = c.play_lines-answer.ensures in
    rw (c.end_run.ensures.status, c.status_of.ensures, c.end_run.ensures.plant)
    (caused_by_lines c.args.run.complex c.play_lines-answer.new.self.complex c.args.run.members c.requires.open c.args.lines.now c.play_lines-answer.result d)

pub returns-clause-goes : goal.returns-clause-goes
returns-clause-goes g c = rw c.end_run.ensures.plant c.play_lines-answer.ensures.kept.devices.goes

pub returns-clause-grow : goal.returns-clause-grow
returns-clause-grow g c d = rw c.end_run.ensures.plant (c.play_lines-answer.ensures.kept.devices.grow d)
