use Rattle.std.proofs.Common.{◌∙◌, ◌+◌, ◌≤◌, [], refl, sym, true, false, arith}
use Rattle.std.proofs.lemmas.Result.{err_from_is_err_and}
use Rattle.mas_types.specs.Limits.{steps_most}
use Rattle.member_racing.specs.Asked.{IsAsked}
use Rattle.race_turns.specs.Races.{Asked}
use Rattle.race_run.specs.Racing.{asked_at, plays}
use Rattle.race_run.proofs.LineLemmas.{may_on, opens_later}
use Rattle.race_run.proofs.ScriptLemmas.{all_here, asked_one, step_ended, step_passed, step_played}
use Rattle.race_run.proofs.lines.play_step.Goals as goal

-- A LINE OF ANOTHER MEMBER

pub returns-then-not-plays-clause-base : goal.returns-then-not-plays-clause-base
returns-then-not-plays-clause-base g c = record { bare = refl; told = λ t. refl }

pub returns-then-not-plays-clause-next : goal.returns-then-not-plays-clause-next
returns-then-not-plays-clause-next g c =
    let T = g.T.Turns in
    let x = c.args.turns.now in
    let may = c.requires.may in
    may_on (T.finds x) (T.finds x) T.rests (T.follows (T.place x)) (T.follows (T.place x)) (T.bound x) (T.bound x)
    (λ told. (T.memory x told).cares) (λ told. (T.memory x told).cares) _ _ _ c.args.member.now c.args.member.now c.args.number (c.args.number + 1) may refl refl (λ told. refl) refl
    (λ z f is. opens_later z c.args.member.now c.args.number (c.args.number + 1) (omega arith) (may.first z f is))

pub returns-then-not-plays-clause-raced : goal.returns-then-not-plays-clause-raced
returns-then-not-plays-clause-raced g c =
    let T = g.T.Turns in
    let y = T.memory c.args.turns.now true in
    λ t. step_passed y.base c.args.member.now.id g.J.Beginning.began.view c.args.number c.args.line.now y (sym c.plays.ensures ∙ c.if-not-plays.true)

-- ONE OF ITS OWN

pub play_line-requires-clause-asked : goal.play_line-requires-clause-asked
play_line-requires-clause-asked g c =
    let T = g.T.Turns in
    let y = T.memory c.args.turns.now false in
    let s = c.args.line.now in
    let one = asked_at c.args.number s.what in
    (all_here (λ (a : Asked). IsAsked y.base c.args.member.now.id a.what × (1 ≤ a.number) × (a.number ≤ steps_most)) one [] (asked_one y.base c.args.member.now.id one (plays c.args.member.now.id s) (sym c.plays.ensures ∙ c.if-not-plays.false) c.requires.asked)).0

pub returns-clause-raced : goal.returns-clause-raced
returns-clause-raced g c =
    let T = g.T.Turns in
    let y = T.memory c.args.turns.now true in
    λ t. step_played y.base c.args.member.now.id g.J.Beginning.began.view c.args.number c.args.line.now y (T.memory c.play_line.new.turns true)
    (sym c.plays.ensures ∙ c.if-not-plays.false) (c.in_ok-play_line.ensures.raced t)

pub returns-in_err-play_line-clause-raced : goal.returns-in_err-play_line-clause-raced
returns-in_err-play_line-clause-raced g c =
    let T = g.T.Turns in
    let y = T.memory c.args.turns.now true in
    let q = err_from_is_err_and c.from_residual.result c.from_residual.ensures.1 in
    rw q.1 (λ t. step_ended y.base c.args.member.now.id g.J.Beginning.began.view c.args.number c.args.line.now y (T.memory c.play_line.new.turns true)
    c.in_err-play_line.field-0.0 (sym c.plays.ensures ∙ c.if-not-plays.false) (c.in_err-play_line.ensures.raced t))

pub returns-in_err-play_line-clause-caused : goal.returns-in_err-play_line-clause-caused
returns-in_err-play_line-clause-caused g c =
    let q = err_from_is_err_and c.from_residual.result c.from_residual.ensures.1 in
    rw (q.1, q.2) c.in_err-play_line.ensures.caused
