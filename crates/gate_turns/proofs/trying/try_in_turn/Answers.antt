use Rattle.std.proofs.Common.{◌≡◌, ◌∙◌, ℕ, None, true, false, sym, subst}
use Rattle.gate_facts.specs.Memory.{Knows, IsLeft}
use Rattle.lock_cycle.specs.Books.{after_try, try_refusal}
use Rattle.mas_complex.specs.Parts.{shown_of}
use Rattle.gate_turns.specs.Laws.{with_book}
use Rattle.gate_turns.specs.Shared.{facts_of}
use Rattle.gate_turns.specs.Turning.{EachWay, MayTry, Serves}
use Rattle.gate_turns.proofs.BookLemmas.{tries_held}
use Rattle.gate_turns.proofs.Showing.{on_ok, few_seats, shown_framed, tried_back, left_locked, of_held, follows_left, rested, took_then}
use Rattle.gate_turns.proofs.trying.try_in_turn.Goals as goal

pub try_lock-tried-requires-clause-member : goal.try_lock-tried-requires-clause-member
try_lock-tried-requires-clause-member g c =
    let x = c.value.result.now in
    (c.requires.may x (of_held (g.T.Turns.held c.turn.new.self) x (g.T.Turns.finds c.args.turns.now) c.value.ensures.value c.turn.ensures.found)).member

pub try_lock-tried-requires-clause-away : goal.try_lock-tried-requires-clause-away
try_lock-tried-requires-clause-away g c =
    let x = c.value.result.now in
    (c.requires.may x (of_held (g.T.Turns.held c.turn.new.self) x (g.T.Turns.finds c.args.turns.now) c.value.ensures.value c.turn.ensures.found)).away

pub back-requires-clause-may : goal.back-requires-clause-may
back-requires-clause-may g c =
    let T = g.T.Turns in
    let L = g.met.T.Turns in
    let u = c.turn.new.self in
    let x = c.value.result.now in
    let y = c.try_lock-tried.new.self in
    let by = c.args.by in
    let may : MayTry x by = c.requires.may x (of_held (T.held u) x (T.finds c.args.turns.now) c.value.ensures.value c.turn.ensures.found) in
    let took = took_then (T.bound c.args.turns.now) (T.bound u) (T.bound (T.with_held u y)) (T.held u) x (T.taken u) (T.taken (T.with_held u y)) c.turn.ensures.bound (L.keeps_bound u y) c.value.ensures.value c.turn.ensures.taken (L.keeps_taken u y) in
    let serves = subst (λ b. Serves b by.0) (sym (L.keeps_bound u y ∙ c.turn.ensures.bound)) c.requires.serves in
    let shown : shown_of y ≡ with_book (shown_of x) (after_try x.book by c.args.inner) x.reserved = shown_framed x y (after_try x.book by c.args.inner) c.try_lock-tried.ensures.frame in
    let rest = rested T.rests (T.bound c.args.turns.now) (T.bound (T.with_held u y)) (T.held u) x (sym (L.keeps_bound u y ∙ c.turn.ensures.bound)) c.value.ensures.value c.turn.ensures.rest in
    tried_back T.rests x y by c.args.inner (T.bound (T.with_held u y)) (λ told. (T.memory (T.with_held u y) told).cares) (T.taken (T.with_held u y)) (T.held (T.with_held u y)) serves (L.holds u y c.turn.ensures.held)
    took may.member shown (c.requires.rests x y c.try_lock-tried.ensures.frame) rest

pub returns-clause-ok : goal.returns-clause-ok
returns-clause-ok g c =
    let T = g.T.Turns in
    let L = g.met.T.Turns in
    let u = c.turn.new.self in
    let x = c.value.result.now in
    let y = c.try_lock-tried.new.self in
    let by = c.args.by in
    let serves = subst (λ b. Serves b by.0) (sym (L.keeps_bound u y ∙ c.turn.ensures.bound)) c.requires.serves in
    let left = of_held (T.held (T.with_held u y)) y (λ z. EachWay g.P.Plant.tells (λ told. (m : ℕ) → Serves (T.bound (T.with_held u y)) m → IsLeft m (T.memory c.back.new.self told) (facts_of told (shown_of z))))
    (L.holds u y c.turn.ensures.held) c.back.ensures.left in
    on_ok (try_refusal x.book by c.args.inner ≡ None) (((T.memory c.back.new.self false).desk by.0).hold.locked ≡ true) c.try_lock-tried.result
    (λ none. left_locked (T.memory c.back.new.self false) (shown_of y) by (left.bare by.0 serves) (few_seats (T.memory c.args.turns.now false).base.config by c.requires.member)
    (tries_held y.book x.book by c.args.inner c.try_lock-tried.ensures.book c.requires.member.0 none))
    c.try_lock-tried.ensures.ok

pub returns-clause-base : goal.returns-clause-base
returns-clause-base g c =
    let T = g.T.Turns in
    let L = g.met.T.Turns in
    let u = c.turn.new.self in
    let x = c.value.result.now in
    let y = c.try_lock-tried.new.self in
    let by = c.args.by in
    let serves = subst (λ b. Serves b by.0) (sym (L.keeps_bound u y ∙ c.turn.ensures.bound)) c.requires.serves in
    let left = of_held (T.held (T.with_held u y)) y (λ z. EachWay g.P.Plant.tells (λ told. (m : ℕ) → Serves (T.bound (T.with_held u y)) m → IsLeft m (T.memory c.back.new.self told) (facts_of told (shown_of z))))
    (L.holds u y c.turn.ensures.held) c.back.ensures.left in
    let known = of_held (T.held u) x (λ z. EachWay g.P.Plant.tells (λ told. (m : ℕ) → Serves (T.bound c.args.turns.now) m → Knows m (T.memory c.args.turns.now told) (facts_of told (shown_of z)))) c.value.ensures.value c.turn.ensures.known in
    (left.bare by.0 serves).base ∙ c.try_lock-tried.ensures.base ∙ (known.bare by.0 c.requires.serves).base

pub returns-clause-turn : goal.returns-clause-turn
returns-clause-turn g c =
    let T = g.T.Turns in
    let L = g.met.T.Turns in
    let u = c.turn.new.self in
    let x = c.value.result.now in
    let y = c.try_lock-tried.new.self in
    record {
      found = x;
      left = y;
      may = of_held (T.held u) x (T.finds c.args.turns.now) c.value.ensures.value c.turn.ensures.found;
      frame = c.try_lock-tried.ensures.frame;
      granted = c.try_lock-tried.ensures.ok;
      refused = c.try_lock-tried.ensures.err;
      next = follows_left (T.held (T.with_held u y)) y (T.place (T.with_held u y)) (T.place c.args.turns.now) T.follows (T.finds c.back.new.self) (L.holds u y c.turn.ensures.held) (L.keeps_place u y ∙ c.turn.ensures.place) c.back.ensures.next;
    }

pub returns-clause-bound : goal.returns-clause-bound
returns-clause-bound g c = c.back.ensures.bound ∙ g.met.T.Turns.keeps_bound c.turn.new.self c.try_lock-tried.new.self ∙ c.turn.ensures.bound

pub returns-clause-place : goal.returns-clause-place
returns-clause-place g c = c.back.ensures.place ∙ g.met.T.Turns.keeps_place c.turn.new.self c.try_lock-tried.new.self ∙ c.turn.ensures.place
