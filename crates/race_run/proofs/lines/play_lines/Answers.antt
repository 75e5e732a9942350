use Rattle.std.proofs.Common.{◌≡◌, ◌∙◌, ◌+◌, List, [], ◌∷◌, drop, drop_of_length-le, refl, sym, subst, true, false, arith}
use Rattle.std.proofs.lemmas.Result.{err_from_is_err_and}
use Rattle.mas_types.specs.declared.ids.MemberId.{MemberId}
use Rattle.mas_types.specs.declared.queues.Queue.{Queue}
use Rattle.script_lang.specs.declared.types.Step.{Step}
use Rattle.race_turns.specs.Races.{Asked, lines_of, none}
use Rattle.race_run.specs.Races.{seen_in}
use Rattle.race_run.specs.Racing.{AreAsked, HasClosed, asked_at, plays}
use Rattle.run_opening.proofs.LineLemmas.{line_next}
use Rattle.race_run.proofs.ScriptLemmas.{all_closed, asked_here, asked_later, lines_then, then_closed, then_ended}
use Rattle.race_run.proofs.lines.play_lines.Goals as goal

pub loop-line-init : goal.loop-line-init
loop-line-init g c = record {
  number = refl;
  free = c.requires.free;
  place = refl;
  bound = refl;
  cares = λ told. refl;
  base = record { bare = refl; told = λ t. refl };
  id = refl;
  may = c.requires.may;
  asked = c.requires.asked;
  raced = λ t at opens first. record { turns = []; all = none; stands = at; took = (refl, refl, refl); opens = opens; rest = first };
}

-- THE NEXT LINE

pub play_step-requires-clause-asked : goal.play_step-requires-clause-asked
play_step-requires-clause-asked g c =
    let T = g.T.Turns in
    let i = c.loop-line.invariant in
    let by = c.args.member.now.id in
    let lines = c.args.course.now.lines.now in
    let k = c.loop-line.line-index in
    let line = c.line-item.result in
    let number = c.loop-line.number + 1 in
    let bare = (T.memory c.args.turns.now false).base in
    let next = line_next lines k line c.loop-line-test.true c.line-item.is in
    let all = subst (λ (ls : List Asked). AreAsked bare by ls) (lines_then by number (drop k lines) (drop (k + 1) lines) line next) i.asked in
    let one = asked_here bare by (asked_at number line.what) (lines_of by (number + 1) (drop (k + 1) lines)) (plays by line) all in
    subst (λ (b : Queue). AreAsked b c.loop-line.member.id (lines_of c.loop-line.member.id number (line ∷ []))) (sym i.base.bare)
    (subst (λ (m : MemberId). AreAsked bare m (lines_of m number (line ∷ []))) (sym i.id) one)

pub play_step-requires-clause-few : goal.play_step-requires-clause-few
play_step-requires-clause-few g c = (omega arith, omega (arith, c.loop-line.invariant.number, c.loop-line-test.true, c.requires.few))

pub loop-line-preserved : goal.loop-line-preserved
loop-line-preserved g c =
    let T = g.T.Turns in
    let i = c.loop-line.invariant in
    let e = c.in_ok-play_step.ensures in
    let by = c.args.member.now.id in
    let lines = c.args.course.now.lines.now in
    let k = c.loop-line.line-index in
    let line = c.line-item.result in
    let number = c.loop-line.number + 1 in
    let bare = (T.memory c.args.turns.now false).base in
    let base = (T.memory c.args.turns.now true).base in
    let entry = g.J.Beginning.began.view in
    let next = line_next lines k line c.loop-line-test.true c.line-item.is in
    let rest = lines_of by (number + 1) (drop (k + 1) lines) in
    let split = lines_then by number (drop k lines) (drop (k + 1) lines) line next in
    record {
      number = omega (arith, i.number);
      free = e.free;
      place = e.place ∙ i.place;
      bound = e.bound ∙ i.bound;
      cares = λ told. e.cares told ∙ i.cares told;
      base = record { bare = e.base.bare ∙ i.base.bare; told = λ t. e.base.told t ∙ i.base.told t };
      id = e.id ∙ i.id;
      may = e.next;
      asked = asked_later bare by (asked_at number line.what) rest (plays by line) (subst (λ (ls : List Asked). AreAsked bare by ls) split i.asked);
      raced = λ t at opens first. then_closed base by entry number line (T.memory c.args.turns.now true) (T.memory c.loop-line.turns true) (T.memory c.play_step.new.turns true) at rest
          (T.memory c.loop-line.turns true).base c.loop-line.member.id (i.base.told t) i.id
          (subst (λ (ls : List Asked). HasClosed base by (seen_in base entry by) at ls (T.memory c.args.turns.now true) (T.memory c.loop-line.turns true)) split (i.raced t at opens first))
          (e.raced t);
    }

-- THE RUN HAS ENDED FOR THE MEMBER

pub returns-in_err-play_step-clause-raced : goal.returns-in_err-play_step-clause-raced
returns-in_err-play_step-clause-raced g c =
    let T = g.T.Turns in
    let i = c.loop-line.invariant in
    let e = c.in_err-play_step.ensures in
    let why = c.in_err-play_step.field-0.0 in
    let q = err_from_is_err_and c.from_residual.result c.from_residual.ensures.1 in
    let by = c.args.member.now.id in
    let lines = c.args.course.now.lines.now in
    let k = c.loop-line.line-index in
    let line = c.line-item.result in
    let number = c.loop-line.number + 1 in
    let base = (T.memory c.args.turns.now true).base in
    let entry = g.J.Beginning.began.view in
    let next = line_next lines k line c.loop-line-test.true c.line-item.is in
    let rest = lines_of by (number + 1) (drop (k + 1) lines) in
    let split = lines_then by number (drop k lines) (drop (k + 1) lines) line next in
    rw q.1 (λ t at opens first. then_ended base by entry number line (T.memory c.args.turns.now true) (T.memory c.loop-line.turns true) (T.memory c.play_step.new.turns true) at rest
    (T.memory c.loop-line.turns true).base c.loop-line.member.id (i.base.told t) i.id
    (subst (λ (ls : List Asked). HasClosed base by (seen_in base entry by) at ls (T.memory c.args.turns.now true) (T.memory c.loop-line.turns true)) split (i.raced t at opens first))
    why (e.raced t))

pub returns-in_err-play_step-clause-caused : goal.returns-in_err-play_step-clause-caused
returns-in_err-play_step-clause-caused g c =
    let q = err_from_is_err_and c.from_residual.result c.from_residual.ensures.1 in
    rw (q.1, q.2) c.in_err-play_step.ensures.caused

pub returns-in_err-play_step-clause-cares : goal.returns-in_err-play_step-clause-cares
returns-in_err-play_step-clause-cares g c = λ told. c.play_step.ensures.cares told ∙ c.loop-line.invariant.cares told

pub returns-in_err-play_step-clause-base : goal.returns-in_err-play_step-clause-base
returns-in_err-play_step-clause-base g c =
    let e = c.play_step.ensures.base in
    let i = c.loop-line.invariant.base in
    record { bare = e.bare ∙ i.bare; told = λ t. e.told t ∙ i.told t }

pub returns-in_err-play_step-clause-id : goal.returns-in_err-play_step-clause-id
returns-in_err-play_step-clause-id g c = c.play_step.ensures.id ∙ c.loop-line.invariant.id

-- ALL OF THEM ARE PLAYED

pub returns-clause-raced : goal.returns-clause-raced
returns-clause-raced g c =
    let T = g.T.Turns in
    let i = c.loop-line.invariant in
    let by = c.args.member.now.id in
    let lines = c.args.course.now.lines.now in
    let base = (T.memory c.args.turns.now true).base in
    let entry = g.J.Beginning.began.view in
    let none_left : drop c.loop-line.line-index lines ≡ [] = drop_of_length-le lines c.loop-line-test.false in
    λ t at opens first. all_closed base by entry (T.memory c.args.turns.now true) (T.memory c.loop-line.turns true) at
    (subst (λ (ls : List Step). HasClosed base by (seen_in base entry by) at (lines_of by (c.loop-line.number + 1) ls) (T.memory c.args.turns.now true) (T.memory c.loop-line.turns true)) none_left (i.raced t at opens first))
