use Rattle.std.proofs.Common.{◌≡◌, ◌∙◌, ℕ, Bool, Some, ap, refl, subst, sym, true, false}
use Rattle.gate_facts.specs.Memory.{IsLeft}
use Rattle.gate_facts.specs.Ways.{EachWay}
use Rattle.gate_turns.specs.Shared.{facts_of}
use Rattle.gate_turns.specs.Turning.{MayHandBack, Serves}
use Rattle.gate_turns.proofs.Showing.{of_held}
use Rattle.mas_complex.specs.declared.complex.Complex.{Complex}
use Rattle.mas_complex.specs.Parts.{shown_of}
use Rattle.member_gate.specs.Passes.{view}
use Rattle.member_gate.specs.Views.{MayLeave, memory_in, sight}
use Rattle.mas_race.specs.Passings.{RestsAs, at_pass, found_after, found_by}
use Rattle.mas_race.proofs.Steps.{held_here, if_held, knows_after}
use Rattle.mas_race.proofs.passing.PassingTurnsComplex.back.Goals as goal

-- what is handed back is what the pass may give back
pub end_turn-requires-clause-value : goal.end_turn-requires-clause-value
end_turn-requires-clause-value g c =
    let t = c.args.self.now.turn.now in
    let v = view t.pass in
    let x = c.in-Some.complex in
    let hand = of_held _ x (λ (z : Complex g.row.P.Denot g.row.C.Denot g.P.Plant g.C.Steady g.C.Copying). MayHandBack g.P.Plant.tells (RestsAs {P = g.row.P.Denot} {C = g.row.C.Denot} {plants = g.P.Plant} {steadies = g.C.Steady} {copies = g.C.Copying} g.J.Beginning.began z) v.member (λ (told : Bool). (memory_in v told).cares) (λ (told : Bool). (sight v told).out) (shown_of z))
    (held_here v.has t.value x c.requires.held (sym c.in-Some.ensures.value)) c.requires.may in
    subst (λ (z : Complex g.row.P.Denot g.row.C.Denot g.P.Plant g.C.Steady g.C.Copying). MayLeave g.P.Plant.tells v (λ (told : Bool). facts_of told (shown_of z))) (sym c.new.ensures.complex) hand.theirs

pub returns-clause-next : goal.returns-clause-next
returns-clause-next g c =
    let t = c.args.self.now.turn.now in
    let x = c.in-Some.complex in
    let y = c.new.result.complex in
    let gave = c.end_turn.ensures.view in
    if_held (view t.pass).has t.value x (λ (a : Complex g.row.P.Denot g.row.C.Denot g.P.Plant g.C.Steady g.C.Copying). (b : Complex g.row.P.Denot g.row.C.Denot g.P.Plant g.C.Steady g.C.Copying) → found_by {P = g.row.P.Denot} {C = g.row.C.Denot} {plants = g.P.Plant} {steadies = g.C.Steady} {copies = g.C.Copying} g.J.Beginning.began (view c.end_turn.new.pass) b → found_after {P = g.row.P.Denot} {C = g.row.C.Denot} {plants = g.P.Plant} {steadies = g.C.Steady} {copies = g.C.Copying} g.J.Beginning.began (at_pass c.args.self.now.turn.ghost_name t.pass) a b) c.in-Some.ensures.value
    (λ b f. subst (λ (a : Complex g.row.P.Denot g.row.C.Denot g.P.Plant g.C.Steady g.C.Copying). found_after {P = g.row.P.Denot} {C = g.row.C.Denot} {plants = g.P.Plant} {steadies = g.C.Steady} {copies = g.C.Copying} g.J.Beginning.began (at_pass c.args.self.now.turn.ghost_name t.pass) a b) c.new.ensures.complex (record {
      rest = f.rest;
      knows = knows_after g.P.Plant.tells (view t.pass) (λ (told : Bool). facts_of told (shown_of y)) (λ (told : Bool). facts_of told (shown_of b)) (rw gave at f.finds);
    }))

-- and the pass remembers it
pub returns-clause-left : goal.returns-clause-left
returns-clause-left g c =
    let t = c.args.self.now.turn.now in
    let v = view t.pass in
    let w = view c.end_turn.new.pass in
    let x = c.in-Some.complex in
    let y = c.new.result.complex in
    let member : w.member ≡ v.member = ap (λ u. u.member) c.end_turn.ensures.view in
    let left : (told : Bool) → IsLeft v.member (memory_in w told) (facts_of told (shown_of x)) =
    λ told. subst (λ (z : Complex g.row.P.Denot g.row.C.Denot g.P.Plant g.C.Steady g.C.Copying). IsLeft v.member (memory_in w told) (facts_of told (shown_of z))) c.new.ensures.complex
    (subst (λ (k : ℕ). IsLeft k (memory_in w told) (facts_of told (shown_of y))) member (c.end_turn.ensures.left told)) in
    if_held v.has t.value x (λ (z : Complex g.row.P.Denot g.row.C.Denot g.P.Plant g.C.Steady g.C.Copying). EachWay g.P.Plant.tells (λ (told : Bool). (m : ℕ) → v.member ≡ m → IsLeft m (memory_in w told) (facts_of told (shown_of z)))) c.in-Some.ensures.value
    (record {
      bare = λ m is. subst (λ (k : ℕ). IsLeft k (memory_in w false) (facts_of false (shown_of x))) is (left false);
      told = λ tells m is. subst (λ (k : ℕ). IsLeft k (memory_in w true) (facts_of true (shown_of x))) is (left true);
    })
