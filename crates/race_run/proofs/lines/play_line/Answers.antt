use Rattle.std.proofs.Common.{◌≡◌, ◌∙◌, ◌+◌, [], Bool, List, Ok, Err, Some, is_some, refl, sym, ap, subst, true, false, arith}
use Rattle.std.proofs.lemmas.Result.{err_from_is_err_and}
use Rattle.mas_types.specs.declared.queues.Queue.{Queue}
use Rattle.gate_facts.specs.Memory.{Memory}
use Rattle.gate_facts.specs.Values.{marked_at}
use Rattle.gate_turns.proofs.Showing.{follows_left, of_held, rested, took_then}
use Rattle.member_racing.proofs.Chaining.{handed_back}
use Rattle.race_turns.specs.Races.{none}
use Rattle.member_racing.specs.Asked.{IsAsked}
use Rattle.member_racing.specs.Waits.{Waits}
use Rattle.member_racing.specs.declared.stages.Stage.{Stage as Stands}
use Rattle.race_run.proofs.LineLemmas.{may_on, opens_next}
use Rattle.race_run.proofs.PlayLemmas.{IsPlayed, caused_by, known_it, leaves_so, left_it, played_close, played_end, played_on, rests_so}
use Rattle.race_run.proofs.lines.play_line.Goals as goal

pub loop-init : goal.loop-init
loop-init g c =
    let m = c.args.member.now in
    record {
      free = c.requires.free;
      place = refl;
      bound = refl;
      cares = λ told. refl;
      base = record { bare = refl; told = λ t. refl };
      id = refl;
      waits = λ z f is. c.requires.may.first z f is c.args.number c.args.asked.now (omega arith) c.requires.few.1
          (subst (λ (b : Queue). IsAsked b m.id c.args.asked.now) (sym is) c.requires.asked);
      raced = λ t at lines opens first. record { turns = []; all = none; stands = at; took = (refl, refl, refl); stage = opens; rest = refl };
    }

-- WHAT THE TURN FOUND

pub line_turn-next-requires-clause-rest : goal.line_turn-next-requires-clause-rest
line_turn-next-requires-clause-rest g c =
    let T = g.T.Turns in
    let x = c.value.result.now in
    let at = c.args.member.now.id in
    let bound = c.loop.invariant.bound ∙ c.requires.may.is_bound in
    c.requires.may.between x (rested T.rests (T.bound c.loop.turns) (Some at.0) (T.held c.turn.new.self) x bound c.value.ensures.value c.turn.ensures.rest)

pub line_turn-next-requires-clause-waits : goal.line_turn-next-requires-clause-waits
line_turn-next-requires-clause-waits g c =
    let T = g.T.Turns in
    let x = c.value.result.now in
    let i = c.loop.invariant in
    let u = c.turn.new.self in
    let found = of_held (T.held u) x (T.finds c.loop.turns) c.value.ensures.value c.turn.ensures.found in
    let known = known_it (T.bound c.loop.turns) c.args.member.now.id.0 (T.memory c.loop.turns) (T.held u) x (i.bound ∙ c.requires.may.is_bound) c.value.ensures.value c.turn.ensures.known in
    i.waits x found (known.bare.base ∙ i.base.bare)

-- WHAT IT HANDS BACK

pub back-requires-clause-held : goal.back-requires-clause-held
back-requires-clause-held g c = ap is_some (g.met.T.Turns.holds c.turn.new.self c.line_turn-next.new.complex c.turn.ensures.held)

pub back-requires-clause-may : goal.back-requires-clause-may
back-requires-clause-may g c =
    let T = g.T.Turns in
    let L = g.met.T.Turns in
    let i = c.loop.invariant in
    let u = c.turn.new.self in
    let x = c.value.result.now in
    let y = c.line_turn-next.new.complex in
    let e = c.line_turn-next.ensures in
    let at = c.args.member.now.id in
    let bound = i.bound ∙ c.requires.may.is_bound in
    let took = took_then (T.bound c.loop.turns) (T.bound u) (T.bound (T.with_held u y)) (T.held u) x (T.taken u) (T.taken (T.with_held u y)) c.turn.ensures.bound (L.keeps_bound u y) c.value.ensures.value c.turn.ensures.taken (L.keeps_taken u y) in
    handed_back T.rests x y (T.bound c.args.turns.now) (T.bound (T.with_held u y)) (λ told. (T.memory c.args.turns.now told).cares) (λ told. (T.memory (T.with_held u y) told).cares)
    (T.taken (T.with_held u y)) (T.held (T.with_held u y)) (L.keeps_bound u y ∙ c.turn.ensures.bound ∙ i.bound)
    (λ told. L.keeps_cares u y told ∙ ap (λ (m : Memory). m.cares) (c.turn.ensures.memory told) ∙ i.cares told)
    took (L.holds u y c.turn.ensures.held)
    (leaves_so (T.finds c.args.turns.now) T.rests (T.follows (T.place c.args.turns.now)) (T.bound c.args.turns.now) (λ told. (T.memory c.args.turns.now told).cares) _ _ _ _ c.requires.may
    c.loop.member.id x y c.line_turn-next.result i.id
    (rested T.rests (T.bound c.loop.turns) (Some at.0) (T.held u) x bound c.value.ensures.value c.turn.ensures.rest)
    e.rest e.costs e.adds e.back)

-- THE LINE GOES ON

pub loop-preserved : goal.loop-preserved
loop-preserved g c =
    let T = g.T.Turns in
    let L = g.met.T.Turns in
    let i = c.loop.invariant in
    let may = c.requires.may in
    let u = c.turn.new.self in
    let x = c.value.result.now in
    let y = c.line_turn-next.new.complex in
    let at = c.args.member.now.id in
    let bound = i.bound ∙ may.is_bound in
    let e = c.in_ok-stage.ensures in
    let done = c.in_ok-stage.stage in
    let n = c.line_turn-next.new.member in
    let found = of_held (T.held u) x (T.finds c.loop.turns) c.value.ensures.value c.turn.ensures.found in
    let rest = rested T.rests (T.bound c.loop.turns) (Some at.0) (T.held u) x bound c.value.ensures.value c.turn.ensures.rest in
    let known = known_it (T.bound c.loop.turns) at.0 (T.memory c.loop.turns) (T.held u) x bound c.value.ensures.value c.turn.ensures.known in
    let place = L.keeps_place u y ∙ c.turn.ensures.place ∙ i.place in
    let then_bound = L.keeps_bound u y ∙ c.turn.ensures.bound ∙ i.bound in
    let holds = L.holds u y c.turn.ensures.held in
    let next = follows_left (T.held (T.with_held u y)) y (T.place (T.with_held u y)) (T.place c.args.turns.now) T.follows (T.finds c.back.new.self) holds place c.back.ensures.next in
    let left = left_it (T.bound (T.with_held u y)) at.0 (T.memory c.back.new.self) (T.held (T.with_held u y)) y (then_bound ∙ may.is_bound) holds c.back.ensures.left in
    let cares : (told : Bool) → (T.memory c.back.new.self told).cares ≡ (T.memory c.args.turns.now told).cares =
    λ told. c.back.ensures.cares told ∙ L.keeps_cares u y told ∙ ap (λ (m : Memory). m.cares) (c.turn.ensures.memory told) ∙ i.cares told in
    let rests_y = rests_so (T.finds c.args.turns.now) T.rests (T.follows (T.place c.args.turns.now)) (T.bound c.args.turns.now) (λ told. (T.memory c.args.turns.now told).cares) _ _ _ _ may
    c.loop.member.id x y _ i.id rest e.rest e.costs e.adds in
    let base = (T.memory c.args.turns.now true).base in
    let entry = g.J.Beginning.began.view in
    let played : g.P.Plant.tells → IsPlayed entry base at c.loop.member.id c.args.number c.args.asked.now c.loop.stage x y (T.memory c.loop.turns true) (T.memory c.back.new.self true) (Ok done) = λ t. let k = known.told t in record {
      same = i.id;
      turn = e.turn t;
      base_is = k.base ∙ i.base.told t;
      some = may.somebody;
      cared = (ap (λ (l : List Bool). marked_at l at.0) (i.cares true) ∙ may.cared true, ap (λ (l : List Bool). marked_at l at.0) (cares true) ∙ may.cared true);
      knows = k;
      left = left.told t;
      since = may.since x rest;
      costs = e.costs;
    } in
    record {
      free = c.back.ensures.held;
      place = c.back.ensures.place ∙ place;
      bound = c.back.ensures.bound ∙ then_bound;
      cares = cares;
      base = record { bare = left.bare.base ∙ e.base ∙ known.bare.base ∙ i.base.bare; told = λ t. (left.told t).base ∙ e.base ∙ (known.told t).base ∙ i.base.told t };
      id = e.id ∙ i.id;
      waits = λ z f is. may.next y z n c.args.number c.args.asked.now done (e.id ∙ i.id) rests_y (next z f) e.next;
      raced = λ t stands lines opens first. played_on entry base at c.loop.member.id c.args.number c.args.asked.now c.loop.stage x y (T.memory c.loop.turns true) (T.memory c.back.new.self true)
          (Ok done) (played t) stands lines (T.memory c.args.turns.now true) first (i.raced t stands lines opens first) done refl c.in_default.not-Closed;
    }

-- IT HAS CLOSED

pub returns-in-Closed-clause-next : goal.returns-in-Closed-clause-next
returns-in-Closed-clause-next g c =
    let T = g.T.Turns in
    let L = g.met.T.Turns in
    let i = c.loop.invariant in
    let may = c.requires.may in
    let u = c.turn.new.self in
    let x = c.value.result.now in
    let y = c.line_turn-next.new.complex in
    let at = c.args.member.now.id in
    let bound = i.bound ∙ may.is_bound in
    let e = c.in_ok-stage.ensures in
    let done = c.in_ok-stage.stage in
    let n = c.line_turn-next.new.member in
    let found = of_held (T.held u) x (T.finds c.loop.turns) c.value.ensures.value c.turn.ensures.found in
    let rest = rested T.rests (T.bound c.loop.turns) (Some at.0) (T.held u) x bound c.value.ensures.value c.turn.ensures.rest in
    let known = known_it (T.bound c.loop.turns) at.0 (T.memory c.loop.turns) (T.held u) x bound c.value.ensures.value c.turn.ensures.known in
    let place = L.keeps_place u y ∙ c.turn.ensures.place ∙ i.place in
    let then_bound = L.keeps_bound u y ∙ c.turn.ensures.bound ∙ i.bound in
    let holds = L.holds u y c.turn.ensures.held in
    let next = follows_left (T.held (T.with_held u y)) y (T.place (T.with_held u y)) (T.place c.args.turns.now) T.follows (T.finds c.back.new.self) holds place c.back.ensures.next in
    let left = left_it (T.bound (T.with_held u y)) at.0 (T.memory c.back.new.self) (T.held (T.with_held u y)) y (then_bound ∙ may.is_bound) holds c.back.ensures.left in
    let cares : (told : Bool) → (T.memory c.back.new.self told).cares ≡ (T.memory c.args.turns.now told).cares =
    λ told. c.back.ensures.cares told ∙ L.keeps_cares u y told ∙ ap (λ (m : Memory). m.cares) (c.turn.ensures.memory told) ∙ i.cares told in
    let rests_y = rests_so (T.finds c.args.turns.now) T.rests (T.follows (T.place c.args.turns.now)) (T.bound c.args.turns.now) (λ told. (T.memory c.args.turns.now told).cares) _ _ _ _ may
    c.loop.member.id x y _ i.id rest e.rest e.costs e.adds in
    may_on (T.finds c.args.turns.now) (T.finds c.back.new.self) T.rests (T.follows (T.place c.args.turns.now)) (T.follows (T.place c.back.new.self)) (T.bound c.args.turns.now) (T.bound c.back.new.self)
    (λ told. (T.memory c.args.turns.now told).cares) (λ told. (T.memory c.back.new.self told).cares) _ _ _ _ n c.args.number (c.args.number + 1) may (ap T.follows (c.back.ensures.place ∙ place)) (c.back.ensures.bound ∙ then_bound) cares (e.id ∙ i.id)
    (λ z f is. opens_next z n c.args.number c.args.asked.now
    (subst (λ (s : Stands). Waits z n c.args.number c.args.asked.now s) c.in-Closed.is (may.next y z n c.args.number c.args.asked.now done (e.id ∙ i.id) rests_y (next z f) e.next)))

pub returns-in-Closed-clause-raced : goal.returns-in-Closed-clause-raced
returns-in-Closed-clause-raced g c =
    let T = g.T.Turns in
    let L = g.met.T.Turns in
    let i = c.loop.invariant in
    let may = c.requires.may in
    let u = c.turn.new.self in
    let x = c.value.result.now in
    let y = c.line_turn-next.new.complex in
    let at = c.args.member.now.id in
    let bound = i.bound ∙ may.is_bound in
    let e = c.in_ok-stage.ensures in
    let done = c.in_ok-stage.stage in
    let n = c.line_turn-next.new.member in
    let rest = rested T.rests (T.bound c.loop.turns) (Some at.0) (T.held u) x bound c.value.ensures.value c.turn.ensures.rest in
    let known = known_it (T.bound c.loop.turns) at.0 (T.memory c.loop.turns) (T.held u) x bound c.value.ensures.value c.turn.ensures.known in
    let place = L.keeps_place u y ∙ c.turn.ensures.place ∙ i.place in
    let then_bound = L.keeps_bound u y ∙ c.turn.ensures.bound ∙ i.bound in
    let holds = L.holds u y c.turn.ensures.held in
    let left = left_it (T.bound (T.with_held u y)) at.0 (T.memory c.back.new.self) (T.held (T.with_held u y)) y (then_bound ∙ may.is_bound) holds c.back.ensures.left in
    let cares : (told : Bool) → (T.memory c.back.new.self told).cares ≡ (T.memory c.args.turns.now told).cares =
    λ told. c.back.ensures.cares told ∙ L.keeps_cares u y told ∙ ap (λ (m : Memory). m.cares) (c.turn.ensures.memory told) ∙ i.cares told in
    let base = (T.memory c.args.turns.now true).base in
    let entry = g.J.Beginning.began.view in
    let played : g.P.Plant.tells → IsPlayed entry base at c.loop.member.id c.args.number c.args.asked.now c.loop.stage x y (T.memory c.loop.turns true) (T.memory c.back.new.self true) (Ok done) = λ t. let k = known.told t in record {
      same = i.id;
      turn = e.turn t;
      base_is = k.base ∙ i.base.told t;
      some = may.somebody;
      cared = (ap (λ (l : List Bool). marked_at l at.0) (i.cares true) ∙ may.cared true, ap (λ (l : List Bool). marked_at l at.0) (cares true) ∙ may.cared true);
      knows = k;
      left = left.told t;
      since = may.since x rest;
      costs = e.costs;
    } in
    λ t stands lines opens first. played_close entry base at c.loop.member.id c.args.number c.args.asked.now c.loop.stage x y (T.memory c.loop.turns true) (T.memory c.back.new.self true)
    (Ok done) (played t) stands lines (T.memory c.args.turns.now true) first (i.raced t stands lines opens first) done refl c.in-Closed.is

pub returns-in-Closed-clause-base : goal.returns-in-Closed-clause-base
returns-in-Closed-clause-base g c =
    let T = g.T.Turns in
    let L = g.met.T.Turns in
    let i = c.loop.invariant in
    let may = c.requires.may in
    let u = c.turn.new.self in
    let x = c.value.result.now in
    let y = c.line_turn-next.new.complex in
    let at = c.args.member.now.id in
    let bound = i.bound ∙ may.is_bound in
    let e = c.in_ok-stage.ensures in
    let done = c.in_ok-stage.stage in
    let n = c.line_turn-next.new.member in
    let known = known_it (T.bound c.loop.turns) at.0 (T.memory c.loop.turns) (T.held u) x bound c.value.ensures.value c.turn.ensures.known in
    let place = L.keeps_place u y ∙ c.turn.ensures.place ∙ i.place in
    let then_bound = L.keeps_bound u y ∙ c.turn.ensures.bound ∙ i.bound in
    let holds = L.holds u y c.turn.ensures.held in
    let left = left_it (T.bound (T.with_held u y)) at.0 (T.memory c.back.new.self) (T.held (T.with_held u y)) y (then_bound ∙ may.is_bound) holds c.back.ensures.left in
    record { bare = left.bare.base ∙ e.base ∙ known.bare.base ∙ i.base.bare; told = λ t. (left.told t).base ∙ e.base ∙ (known.told t).base ∙ i.base.told t }

pub returns-in-Closed-clause-cares : goal.returns-in-Closed-clause-cares
returns-in-Closed-clause-cares g c = λ told. c.back.ensures.cares told ∙ g.met.T.Turns.keeps_cares c.turn.new.self c.line_turn-next.new.complex told ∙ ap (λ (m : Memory). m.cares) (c.turn.ensures.memory told) ∙ c.loop.invariant.cares told

pub returns-in-Closed-clause-place : goal.returns-in-Closed-clause-place
returns-in-Closed-clause-place g c = c.back.ensures.place ∙ g.met.T.Turns.keeps_place c.turn.new.self c.line_turn-next.new.complex ∙ c.turn.ensures.place ∙ c.loop.invariant.place

pub returns-in-Closed-clause-bound : goal.returns-in-Closed-clause-bound
returns-in-Closed-clause-bound g c = c.back.ensures.bound ∙ g.met.T.Turns.keeps_bound c.turn.new.self c.line_turn-next.new.complex ∙ c.turn.ensures.bound ∙ c.loop.invariant.bound

-- THE RUN HAS ENDED FOR THE MEMBER

pub returns-in_err-stage-clause-raced : goal.returns-in_err-stage-clause-raced
returns-in_err-stage-clause-raced g c =
    let T = g.T.Turns in
    let L = g.met.T.Turns in
    let i = c.loop.invariant in
    let may = c.requires.may in
    let u = c.turn.new.self in
    let x = c.value.result.now in
    let y = c.line_turn-next.new.complex in
    let at = c.args.member.now.id in
    let bound = i.bound ∙ may.is_bound in
    let e = c.in_err-stage.ensures in
    let why = c.in_err-stage.field-0.0 in
    let q = err_from_is_err_and c.from_residual.result c.from_residual.ensures.1 in
    let rest = rested T.rests (T.bound c.loop.turns) (Some at.0) (T.held u) x bound c.value.ensures.value c.turn.ensures.rest in
    let known = known_it (T.bound c.loop.turns) at.0 (T.memory c.loop.turns) (T.held u) x bound c.value.ensures.value c.turn.ensures.known in
    let place = L.keeps_place u y ∙ c.turn.ensures.place ∙ i.place in
    let then_bound = L.keeps_bound u y ∙ c.turn.ensures.bound ∙ i.bound in
    let holds = L.holds u y c.turn.ensures.held in
    let left = left_it (T.bound (T.with_held u y)) at.0 (T.memory c.back.new.self) (T.held (T.with_held u y)) y (then_bound ∙ may.is_bound) holds c.back.ensures.left in
    let cares : (told : Bool) → (T.memory c.back.new.self told).cares ≡ (T.memory c.args.turns.now told).cares =
    λ told. c.back.ensures.cares told ∙ L.keeps_cares u y told ∙ ap (λ (m : Memory). m.cares) (c.turn.ensures.memory told) ∙ i.cares told in
    let base = (T.memory c.args.turns.now true).base in
    let entry = g.J.Beginning.began.view in
    let played : g.P.Plant.tells → IsPlayed entry base at c.loop.member.id c.args.number c.args.asked.now c.loop.stage x y (T.memory c.loop.turns true) (T.memory c.back.new.self true) (Err why) = λ t. let k = known.told t in record {
      same = i.id;
      turn = e.turn t;
      base_is = k.base ∙ i.base.told t;
      some = may.somebody;
      cared = (ap (λ (l : List Bool). marked_at l at.0) (i.cares true) ∙ may.cared true, ap (λ (l : List Bool). marked_at l at.0) (cares true) ∙ may.cared true);
      knows = k;
      left = left.told t;
      since = may.since x rest;
      costs = e.costs;
    } in
    rw q.1 (λ t stands lines opens first. played_end entry base at c.loop.member.id c.args.number c.args.asked.now c.loop.stage x y (T.memory c.loop.turns true) (T.memory c.back.new.self true)
    (Err why) (played t) stands lines (T.memory c.args.turns.now true) first (i.raced t stands lines opens first) why refl)

pub returns-in_err-stage-clause-caused : goal.returns-in_err-stage-clause-caused
returns-in_err-stage-clause-caused g c =
    let T = g.T.Turns in
    let L = g.met.T.Turns in
    let i = c.loop.invariant in
    let may = c.requires.may in
    let u = c.turn.new.self in
    let x = c.value.result.now in
    let y = c.line_turn-next.new.complex in
    let at = c.args.member.now.id in
    let bound = i.bound ∙ may.is_bound in
    let e = c.in_err-stage.ensures in
    let why = c.in_err-stage.field-0.0 in
    let q = err_from_is_err_and c.from_residual.result c.from_residual.ensures.1 in
    let rest = rested T.rests (T.bound c.loop.turns) (Some at.0) (T.held u) x bound c.value.ensures.value c.turn.ensures.rest in
    let place = L.keeps_place u y ∙ c.turn.ensures.place ∙ i.place in
    let then_bound = L.keeps_bound u y ∙ c.turn.ensures.bound ∙ i.bound in
    let holds = L.holds u y c.turn.ensures.held in
    let left = left_it (T.bound (T.with_held u y)) at.0 (T.memory c.back.new.self) (T.held (T.with_held u y)) y (then_bound ∙ may.is_bound) holds c.back.ensures.left in
    rw (q.1, q.2) (caused_by g.J.Beginning.began.view c.loop.member.id at.0 x y (T.memory c.back.new.self false) why left.bare (may.since x rest) e.costs)

pub returns-in_err-stage-clause-base : goal.returns-in_err-stage-clause-base
returns-in_err-stage-clause-base g c =
    let T = g.T.Turns in
    let L = g.met.T.Turns in
    let i = c.loop.invariant in
    let may = c.requires.may in
    let u = c.turn.new.self in
    let x = c.value.result.now in
    let y = c.line_turn-next.new.complex in
    let at = c.args.member.now.id in
    let bound = i.bound ∙ may.is_bound in
    let e = c.in_err-stage.ensures in
    let known = known_it (T.bound c.loop.turns) at.0 (T.memory c.loop.turns) (T.held u) x bound c.value.ensures.value c.turn.ensures.known in
    let place = L.keeps_place u y ∙ c.turn.ensures.place ∙ i.place in
    let then_bound = L.keeps_bound u y ∙ c.turn.ensures.bound ∙ i.bound in
    let holds = L.holds u y c.turn.ensures.held in
    let left = left_it (T.bound (T.with_held u y)) at.0 (T.memory c.back.new.self) (T.held (T.with_held u y)) y (then_bound ∙ may.is_bound) holds c.back.ensures.left in
    record { bare = left.bare.base ∙ e.base ∙ known.bare.base ∙ i.base.bare; told = λ t. (left.told t).base ∙ e.base ∙ (known.told t).base ∙ i.base.told t }

pub returns-in_err-stage-clause-cares : goal.returns-in_err-stage-clause-cares
returns-in_err-stage-clause-cares g c = λ told. c.back.ensures.cares told ∙ g.met.T.Turns.keeps_cares c.turn.new.self c.line_turn-next.new.complex told ∙ ap (λ (m : Memory). m.cares) (c.turn.ensures.memory told) ∙ c.loop.invariant.cares told

pub returns-in_err-stage-clause-place : goal.returns-in_err-stage-clause-place
returns-in_err-stage-clause-place g c = c.back.ensures.place ∙ g.met.T.Turns.keeps_place c.turn.new.self c.line_turn-next.new.complex ∙ c.turn.ensures.place ∙ c.loop.invariant.place

pub returns-in_err-stage-clause-bound : goal.returns-in_err-stage-clause-bound
returns-in_err-stage-clause-bound g c = c.back.ensures.bound ∙ g.met.T.Turns.keeps_bound c.turn.new.self c.line_turn-next.new.complex ∙ c.turn.ensures.bound ∙ c.loop.invariant.bound
