use Rattle.mas_run.proofs.Names.{◌∷◌, ◌≡◌, ◌+◌, drop, drop_of_length-le, refl, sym, subst, arith, err_from_is_err_and, IsPlayed}
use Rattle.run_opening.proofs.LineLemmas.{line_next}
use Rattle.mas_run.proofs.RunLemmas.{way_done, way_ends, way_more, way_none}
use Rattle.mas_run.proofs.running.Running.play_lines.Goals as goal

pub loop-line-init : goal.loop-line-init
loop-line-init g c = record { number = refl; between = c.requires.between; readers = c.requires.readers; way = way_none c.args.lines.now c.args.self.now.complex }

pub play_line-requires-clause-played : goal.play_line-requires-clause-played
play_line-requires-clause-played g c = subst IsPlayed (sym c.line-item.is) (c.requires.played c.loop-line.line-index c.line-item.result c.loop-line-test.true)

pub play_line-requires-clause-few : goal.play_line-requires-clause-few
play_line-requires-clause-few g c = omega (arith, c.loop-line.invariant.number, c.loop-line-test.true, c.requires.few)

-- one more line
pub loop-line-preserved : goal.loop-line-preserved
loop-line-preserved g c =
    let lines = c.args.lines.now in
    let i = c.loop-line.invariant in
    let e = c.in_ok-play_line.ensures in
    let n = c.loop-line.number in
    let line = c.line-item.result in
    let first : drop n lines ≡ line ∷ drop (n + 1) lines = rw i.number (line_next lines c.loop-line.line-index line c.loop-line-test.true c.line-item.is) in
    record { number = omega (arith, i.number); between = e.line.next; readers = e.heard; way = way_more lines c.args.self.now.complex i.way first e.line }

-- a line ended the run
pub returns-in_err-play_line : goal.returns-in_err-play_line
returns-in_err-play_line g c =
    let lines = c.args.lines.now in
    let i = c.loop-line.invariant in
    let n = c.loop-line.number in
    let line = c.line-item.result in
    let first : drop n lines ≡ line ∷ drop (n + 1) lines = rw i.number (line_next lines c.loop-line.line-index line c.loop-line-test.true c.line-item.is) in
    let p = err_from_is_err_and c.from_residual.result c.from_residual.ensures.1 in
    rw (p.1, p.2) (way_ends lines c.args.self.now.complex i.way first c.in_err-play_line.field-0.0 c.in_err-play_line.ensures.line)

-- all of them were played
pub returns : goal.returns
returns g c =
    let i = c.loop-line.invariant in
    way_done c.args.lines.now c.args.self.now.complex i.way (rw i.number (drop_of_length-le c.args.lines.now c.loop-line-test.false))
