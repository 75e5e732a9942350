use Rattle.std.proofs.Common.{◌≡◌, ◌∙◌, ◌+◌, ◌++◌, Result, Err, ap, refl, subst, sym}
use Rattle.mas_complex.specs.Journals.{in_flight}
use Rattle.mas_complex.specs.Parts.{Parts, parts_of, unreserved_in}
use Rattle.member_node.specs.declared.member.NodeNo.{NodeNo}
use Rattle.member_asides.specs.Asides.{stopped_at}
use Rattle.member_steps.specs.Steps.{AreKeptFrom}
use Rattle.member_racing.specs.declared.stages.Stage.{Stage as Stands}
use Rattle.member_racing.proofs.Ending.{kept_left}
use Rattle.member_racing.proofs.racing.end_turn.Goals as goal

pub say_stopped-said-requires-clause-kept : goal.say_stopped-said-requires-clause-kept
say_stopped-said-requires-clause-kept g c told =
    let P = g.P.Plant in
    let p = parts_of c.args.complex.now in
    let by = c.args.by in
    let at = c.args.step in
    let there : parts_of c.give_up_reserved.new.self ≡ unreserved_in (stopped_at by p) = c.give_up_reserved.ensures ∙ ap unreserved_in c.stop.ensures.frame in
    let why = rw c.in-Err-Halted.is at c.in-Err-Halted.field-0-is in
    subst (λ (z : Parts _ _). AreKeptFrom by (at + 1) (z.batches ++ in_flight z.current) (P.view z.plant).now) (sym there)
    (kept_left by (at + 1) (P.view p.plant).now p.placed p.current p.batches (c.requires.kept (c.in-Err-Halted.is ∙ ap (λ (k : NodeNo). let r : Result Stands NodeNo = Err k in r) why) told))

pub returns-in-Err-Halted : goal.returns-in-Err-Halted
returns-in-Err-Halted g c =
    let there = c.give_up_reserved.new.self in
    let why = rw c.in-Err-Halted.is at c.in-Err-Halted.field-0-is in
    rw (c.in-Err-Halted.is, why) (record {
      there = there;
      stopped = c.give_up_reserved.ensures ∙ ap unreserved_in c.stop.ensures.frame;
      said = c.say_stopped-said.result;
      says = c.say_stopped-said.ensures.says;
      frame = c.say_stopped-said.ensures.frame;
      answer = c.closed.ensures;
    })

pub returns-in-Err-NoMemory : goal.returns-in-Err-NoMemory
returns-in-Err-NoMemory g c = let why = rw c.in-Err-NoMemory.is at c.in-Err-NoMemory.field-0-is in rw (c.in-Err-NoMemory.is, why) (c.give_up_reserved-in-Err-NoMemory.ensures, refl)

pub returns-in-Err-ConsoleFault : goal.returns-in-Err-ConsoleFault
returns-in-Err-ConsoleFault g c = let why = rw c.in-Err-ConsoleFault.is at c.in-Err-ConsoleFault.field-0-is in rw (c.in-Err-ConsoleFault.is, why) (c.give_up_reserved-in-Err-ConsoleFault.ensures, refl)

pub returns-in-Err-BothLost : goal.returns-in-Err-BothLost
returns-in-Err-BothLost g c = let why = rw c.in-Err-BothLost.is at c.in-Err-BothLost.field-0-is in rw (c.in-Err-BothLost.is, why) (refl, refl)
