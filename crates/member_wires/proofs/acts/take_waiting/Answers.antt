use Rattle.std.proofs.Common.{◌≡◌, ℕ, ◌∙◌, drop, refl, subst, arith}
use Rattle.std.proofs.lemmas.List.{length-drop}
use Rattle.spool_plant.specs.declared.plant.Took.TheVariants.{Bytes as TookBytes}
use Rattle.spool_plant.specs.Acts.{Takes}
use Rattle.mas_complex.specs.Parts.{parts_of}
use Rattle.member_wires.proofs.OnLine.{frame_on, so_all, so_halted, so_more, so_none}
use Rattle.member_wires.proofs.acts.take_waiting.Goals as goal

pub loop-count-init : goal.loop-count-init
loop-count-init g c = record { frame = refl; size = refl; so = so_none g.P.Plant.tells c.args.end (g.P.Plant.view c.args.complex.now.plant) c.args.into.now }

pub loop-count-preserved : goal.loop-count-preserved
loop-count-preserved g c =
    let P = g.P.Plant in
    let x = c.args.complex.now in
    let y = c.loop-count.complex in
    let z = c.take_more.new.complex in
    let i = c.loop-count.invariant in
    let e = c.in-Bytes.ensures in
    let fits = e.fits in
    let size = e.size in
    let few = i.so.few in
    record {
      frame = frame_on (parts_of x) (parts_of y) (parts_of z) y.plant z.plant i.frame e.frame;
      size = e.size ∙ i.size;
      so = so_more P.tells c.args.end (P.view x.plant) (P.view y.plant) (P.view z.plant) c.loop-count.into c.take_more.new.into c.loop-count.count i.so e.before c.in-Bytes.more (omega (arith, fits, size, few)) e.acts e.content;
    }

pub returns-in-Halted-clause-takes : goal.returns-in-Halted-clause-takes
returns-in-Halted-clause-takes g c =
    let P = g.P.Plant in
    let i = c.loop-count.invariant in
    let e = c.in-Halted.ensures in
    let size = e.size in
    let few = i.so.few in
    so_halted P.tells c.args.end (P.view c.args.complex.now.plant) (P.view c.loop-count.complex.plant) (P.view c.take_more.new.complex.plant) c.loop-count.into c.take_more.new.into c.loop-count.count i.so e.before (omega (arith, size, few)) e.acts e.content

pub returns-in-Bytes-eq0-clause-takes : goal.returns-in-Bytes-eq0-clause-takes
returns-in-Bytes-eq0-clause-takes g c =
    let P = g.P.Plant in
    let i = c.loop-count.invariant in
    let e = c.in-Bytes-eq0.ensures in
    let size = e.size in
    let room = length-drop c.loop-count.count c.take_more.new.into in
    let y = P.view c.loop-count.complex.plant in
    let z = P.view c.take_more.new.complex.plant in
    let zero : c.in-Bytes-eq0.field-0 ≡ 0 = omega arith in
    let none : P.tells → Takes c.args.end.line c.args.end.by.0 y z (drop c.loop-count.count c.take_more.new.into) (TookBytes 0) =
    λ told. subst (λ (n : ℕ). Takes c.args.end.line c.args.end.by.0 y z (drop c.loop-count.count c.take_more.new.into) (TookBytes n)) zero (e.content told) in
    so_all P.tells c.args.end (P.view c.args.complex.now.plant) y z c.loop-count.into c.take_more.new.into c.loop-count.count i.so e.before (omega (arith, size, room)) e.acts none
