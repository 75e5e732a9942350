use Rattle.std.proofs.Common.{◌≡◌, ◌∙◌, ◌<◌, List, Some, length, slice_get, append-nil, refl, sym, ap, subst, arith}
use Rattle.mas_types.specs.Histories.{history}
use Rattle.spool_plant.specs.declared.plant.Part.TheVariants.{Console}
use Rattle.member_node.specs.Calls.{console_now}
use Rattle.race_ends.proofs.FrameLemmas.{frame_on}
use Rattle.race_ends.proofs.HistoryLemmas.{few_kept, line_closes, saying_done, saying_failed, saying_none, says_all, says_next}
use Rattle.race_ends.proofs.histories.say_history.Goals as goal

pub lines_of-requires : goal.lines_of-requires
lines_of-requires g c =
    let x = c.args.complex.now in
    record { count = few_kept x.placed x.journal x.counted x.few }

pub returns-in_default-clause-acts : goal.returns-in_default-clause-acts
returns-in_default-clause-acts g c = saying_none (g.P.Plant.view c.args.complex.now.plant)

pub loop-at-init : goal.loop-at-init
loop-at-init g c = record {
  frame = refl;
  acts = saying_none (g.P.Plant.view c.args.complex.now.plant);
  said = λ t. sym (append-nil (console_now (g.P.Plant.view c.args.complex.now.plant)));
}

pub say-requires-clause-told : goal.say-requires-clause-told
say-requires-clause-told g c told m s closes =
    absurd (line_closes c.args.complex.now.journal c.in-Ok.lines c.in-Ok.ensures c.loop-at.at c.line.result.now c.line.ensures m s closes)

pub loop-at-preserved : goal.loop-at-preserved
loop-at-preserved g c =
    let P = g.P.Plant in
    let x = c.args.complex.now in
    let y = c.loop-at.complex in
    let z = c.say.new.self in
    let i = c.loop-at.invariant in
    let H = history x.journal in
    let lt : c.loop-at.at < length H = omega (arith, ap length c.in-Ok.ensures, c.len-at-end.ensures, c.loop-at-test.true) in
    let here : slice_get H c.loop-at.at ≡ Some c.line.result.now = subst (λ (ls : List _). slice_get ls c.loop-at.at ≡ Some c.line.result.now) c.in-Ok.ensures c.line.ensures in
    record {
      frame = frame_on x y i.frame z c.say.ensures.frame;
      acts = saying_done (P.view x.plant) (P.view y.plant) (P.view z.plant) i.acts c.in-Done.ensures.acts;
      said = λ t. says_next H (P.view x.plant) c.loop-at.at c.line.result.now (P.view y.plant) (P.view z.plant) lt here (i.said t) (c.in-Done.ensures.content t).console;
    }

pub returns-in-Failed-clause-frame : goal.returns-in-Failed-clause-frame
returns-in-Failed-clause-frame g c =
    frame_on c.args.complex.now c.loop-at.complex c.loop-at.invariant.frame c.say.new.self c.say.ensures.frame

pub returns-in-Failed-clause-acts : goal.returns-in-Failed-clause-acts
returns-in-Failed-clause-acts g c =
    let P = g.P.Plant in
    saying_failed (P.view c.args.complex.now.plant) (P.view c.loop-at.complex.plant) (P.view c.say.new.self.plant) c.loop-at.invariant.acts c.in-Failed.ensures.acts

pub returns-in-Failed-clause-says : goal.returns-in-Failed-clause-says
returns-in-Failed-clause-says g c =
    let P = g.P.Plant in
    let x = c.args.complex.now in
    let i = c.loop-at.invariant in
    let H = history x.journal in
    record {
      said = c.loop-at.at;
      few = omega (arith, ap length c.in-Ok.ensures, c.len-at-end.ensures, c.loop-at-test.true);
      console = λ t. (c.in-Failed.ensures.content t).console ∙ i.said t;
      failed = (let rose = c.in-Failed.ensures.acts.failed refl in let before = i.acts.goes.faults Console in omega (arith, rose, before));
    }

pub returns-clause-says : goal.returns-clause-says
returns-clause-says g c =
    let P = g.P.Plant in
    let x = c.args.complex.now in
    let H = history x.journal in
    λ t. says_all H (P.view x.plant) c.loop-at.at (P.view c.loop-at.complex.plant) (omega (arith, ap length c.in-Ok.ensures, c.len-at-end.ensures, c.loop-at-test.false)) (c.loop-at.invariant.said t)
