use Rattle.std.proofs.Common.{◌∙◌, inl, inr, [], ◌∷◌, is_some, Ok, Err, ap, refl, sym, subst}
use Rattle.std.proofs.lemmas.Result.{err_from_is_err_and}
use Rattle.step_turns.specs.declared.states.Found.{Found}
use Rattle.step_turns.specs.declared.states.State.TheVariants.{Fresh}
use Rattle.gate_facts.specs.Memory.{Memory}
use Rattle.gate_turns.proofs.Showing.{follows_left, of_held, took_then}
use Rattle.member_hand.specs.Chains.{Pause, TakesTurns}
use Rattle.member_hand.specs.Plays.{MayPlay}
use Rattle.member_hand.proofs.Chaining.{from_found, handed_back, may_leave}
use Rattle.member_hand.proofs.playing.play_in_turns.Goals as goal

pub loop-stand-init : goal.loop-stand-init
loop-stand-init g c =
    let T = g.T.Turns in
    let x = c.args.turns.now in
    let m = c.args.member.now in
    let h = c.args.holder in
    let task = c.args.task in
    let follows = T.follows (T.place x) in
    record {
      free = c.requires.free;
      place = refl;
      bound = refl;
      cares = λ told. refl;
      id = refl;
      may = λ z f. subst (λ (found : Found). MayPlay z m (record { holder = h; state = Fresh task; found = found })) (sym c.nothing_found.ensures) (c.requires.may.first z f);
      found = λ z f. inl f;
      then = λ ts e r chain. (ts, subst (λ (found : Found). TakesTurns follows (T.finds x) (record { member = m; stand = record { holder = h; state = Fresh task; found = found }; reader = c.args.reader.now }) ts e r) c.nothing_found.ensures chain);
    }

pub play_piece-played-requires : goal.play_piece-played-requires
play_piece-played-requires g c =
    let T = g.T.Turns in
    let x = c.value.result.now in
    c.loop-stand.invariant.may x (of_held (T.held c.turn.new.self) x (T.finds c.loop-stand.turns) c.value.ensures.value c.turn.ensures.found)

pub back-requires-clause-held : goal.back-requires-clause-held
back-requires-clause-held g c = ap is_some (g.met.T.Turns.holds c.turn.new.self c.play_piece-played.new.complex c.turn.ensures.held)

pub back-requires-clause-may : goal.back-requires-clause-may
back-requires-clause-may g c =
    let T = g.T.Turns in
    let L = g.met.T.Turns in
    let i = c.loop-stand.invariant in
    let u = c.turn.new.self in
    let x = c.value.result.now in
    let y = c.play_piece-played.new.complex in
    let e = c.play_piece-played.ensures in
    let here : Pause = record { member = c.loop-stand.member; stand = c.loop-stand.stand; reader = c.loop-stand.reader } in
    let found = of_held (T.held u) x (T.finds c.loop-stand.turns) c.value.ensures.value c.turn.ensures.found in
    let took = took_then (T.bound c.loop-stand.turns) (T.bound u) (T.bound (T.with_held u y)) (T.held u) x (T.taken u) (T.taken (T.with_held u y)) c.turn.ensures.bound (L.keeps_bound u y) c.value.ensures.value c.turn.ensures.taken (L.keeps_taken u y) in
    handed_back T.rests x y (T.bound c.args.turns.now) (T.bound (T.with_held u y)) (λ told. (T.memory c.args.turns.now told).cares) (λ told. (T.memory (T.with_held u y) told).cares)
    (T.taken (T.with_held u y)) (T.held (T.with_held u y)) (L.keeps_bound u y ∙ c.turn.ensures.bound ∙ i.bound)
    (λ told. L.keeps_cares u y told ∙ ap (λ (m : Memory). m.cares) (c.turn.ensures.memory told) ∙ i.cares told)
    took (L.holds u y c.turn.ensures.held)
    (may_leave (T.finds c.args.turns.now) (T.follows (T.place c.args.turns.now)) T.rests (T.bound c.args.turns.now) (λ told. (T.memory c.args.turns.now told).cares) _ c.requires.may
    here x y c.play_piece-played.new.member c.play_piece-played.new.reader c.play_piece-played.result i.id (i.found x found) (i.may x found) e.frame e.id e.piece e.next e.cut)

pub loop-stand-preserved : goal.loop-stand-preserved
loop-stand-preserved g c =
    let T = g.T.Turns in
    let L = g.met.T.Turns in
    let i = c.loop-stand.invariant in
    let u = c.turn.new.self in
    let x = c.value.result.now in
    let y = c.play_piece-played.new.complex in
    let n = c.play_piece-played.new.member in
    let at = c.in_ok-stand.stand in
    let e = c.in_ok-stand.ensures in
    let after : Pause = record { member = n; stand = at; reader = c.play_piece-played.new.reader } in
    let follows = T.follows (T.place c.args.turns.now) in
    let found = of_held (T.held u) x (T.finds c.loop-stand.turns) c.value.ensures.value c.turn.ensures.found in
    let place = L.keeps_place u y ∙ c.turn.ensures.place ∙ i.place in
    let id = e.id ∙ i.id in
    let next = follows_left (T.held (T.with_held u y)) y (T.place (T.with_held u y)) (T.place c.args.turns.now) T.follows (T.finds c.back.new.self) (L.holds u y c.turn.ensures.held) place c.back.ensures.next in
    record {
      free = c.back.ensures.held;
      place = c.back.ensures.place ∙ place;
      bound = c.back.ensures.bound ∙ L.keeps_bound u y ∙ c.turn.ensures.bound ∙ i.bound;
      cares = λ told. c.back.ensures.cares told ∙ L.keeps_cares u y told ∙ ap (λ (m : Memory). m.cares) (c.turn.ensures.memory told) ∙ i.cares told;
      id = id;
      may = λ z f. c.requires.may.next y z after id (next z f) (e.next.may c.in_default.not-Told);
      found = λ z f. inr (y, next z f);
      then = λ ts end r chain. i.then (record { found = x; left = y; after = after } ∷ ts) end r
          (found, record { frame = e.frame; id = e.id; piece = e.piece; next = e.next }, from_found follows (T.finds c.back.new.self) (follows y) next after ts end r chain);
    }

pub returns-in-Told-clause-chain : goal.returns-in-Told-clause-chain
returns-in-Told-clause-chain g c =
    let T = g.T.Turns in
    let L = g.met.T.Turns in
    let i = c.loop-stand.invariant in
    let u = c.turn.new.self in
    let x = c.value.result.now in
    let y = c.play_piece-played.new.complex in
    let e = c.in_ok-stand.ensures in
    let found = of_held (T.held u) x (T.finds c.loop-stand.turns) c.value.ensures.value c.turn.ensures.found in
    let place = L.keeps_place u y ∙ c.turn.ensures.place ∙ i.place in
    let whole = i.then [] (record { found = x; left = y; member = c.play_piece-played.new.member; reader = c.play_piece-played.new.reader }) (Ok tt)
    (found, (c.in_ok-stand.stand, record { frame = e.frame; id = e.id; piece = e.piece; next = e.next }, c.in-Told.is)) in
    record {
      turns = whole.0;
      found = x;
      left = y;
      chain = whole.1;
      leaves = follows_left (T.held (T.with_held u y)) y (T.place (T.with_held u y)) (T.place c.args.turns.now) T.follows (T.finds c.back.new.self) (L.holds u y c.turn.ensures.held) place c.back.ensures.next;
    }

pub returns-in_err-stand-clause-chain : goal.returns-in_err-stand-clause-chain
returns-in_err-stand-clause-chain g c =
    let T = g.T.Turns in
    let L = g.met.T.Turns in
    let i = c.loop-stand.invariant in
    let u = c.turn.new.self in
    let x = c.value.result.now in
    let y = c.play_piece-played.new.complex in
    let e = c.in_err-stand.ensures in
    let why = c.in_err-stand.field-0.0 in
    let q = err_from_is_err_and c.from_residual.result c.from_residual.ensures.1 in
    let found = of_held (T.held u) x (T.finds c.loop-stand.turns) c.value.ensures.value c.turn.ensures.found in
    let place = L.keeps_place u y ∙ c.turn.ensures.place ∙ i.place in
    let whole = i.then [] (record { found = x; left = y; member = c.play_piece-played.new.member; reader = c.play_piece-played.new.reader }) (Err why)
    (found, record { frame = c.play_piece-played.ensures.frame; id = c.play_piece-played.ensures.id; played = e.cut }) in
    rw (q.1, q.2) (record {
      turns = whole.0;
      found = x;
      left = y;
      chain = whole.1;
      leaves = follows_left (T.held (T.with_held u y)) y (T.place (T.with_held u y)) (T.place c.args.turns.now) T.follows (T.finds c.back.new.self) (L.holds u y c.turn.ensures.held) place c.back.ensures.next;
    })

pub returns-in-Told-clause-place : goal.returns-in-Told-clause-place
returns-in-Told-clause-place g c = c.back.ensures.place ∙ g.met.T.Turns.keeps_place c.turn.new.self c.play_piece-played.new.complex ∙ c.turn.ensures.place ∙ c.loop-stand.invariant.place

pub returns-in-Told-clause-bound : goal.returns-in-Told-clause-bound
returns-in-Told-clause-bound g c = c.back.ensures.bound ∙ g.met.T.Turns.keeps_bound c.turn.new.self c.play_piece-played.new.complex ∙ c.turn.ensures.bound ∙ c.loop-stand.invariant.bound

pub returns-in_err-stand-clause-place : goal.returns-in_err-stand-clause-place
returns-in_err-stand-clause-place g c = c.back.ensures.place ∙ g.met.T.Turns.keeps_place c.turn.new.self c.play_piece-played.new.complex ∙ c.turn.ensures.place ∙ c.loop-stand.invariant.place

pub returns-in_err-stand-clause-bound : goal.returns-in_err-stand-clause-bound
returns-in_err-stand-clause-bound g c = c.back.ensures.bound ∙ g.met.T.Turns.keeps_bound c.turn.new.self c.play_piece-played.new.complex ∙ c.turn.ensures.bound ∙ c.loop-stand.invariant.bound
