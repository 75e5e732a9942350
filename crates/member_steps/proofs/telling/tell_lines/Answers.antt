use Rattle.std.proofs.Common.{◌∙◌, ◌+◌, ap, false, List, refl, sym, arith, append-nil, subst}
use Rattle.std.proofs.lemmas.Result.{err_from_is_err_and}
use Rattle.member_node.specs.Calls.{console_now}
use Rattle.mas_types.specs.declared.journals.Batch.{Batch}
use Rattle.spool_plant.specs.declared.plant.Act.TheVariants.{Done}
use Rattle.spool_plant.specs.declared.plant.Part.TheVariants.{Console}
use Rattle.member_node.proofs.SpareLemmas.{spares_done, spares_none, spares_then}
use Rattle.mas_complex.specs.Parts.{parts_of}
use Rattle.member_steps.specs.Saying.{TellKept}
use Rattle.member_steps.proofs.FateLemmas.{tell_later, told_at}
use Rattle.member_steps.proofs.SayLemmas.{console_none, console_on, frame_then, said_all, said_next, said_out}
use Rattle.member_steps.proofs.StepLemmas.{none_flying}
use Rattle.member_steps.proofs.telling.tell_lines.Goals as goal

pub loop-at-init : goal.loop-at-init
loop-at-init g c =
    let P = g.P.Plant in
    let x = c.args.complex.now in
    record {
      pair = refl;
      frame = refl;
      acts = console_none P.tells (P.view x.plant);
      spares = spares_none c.args.member.now.id.0 (P.view x.plant);
      front = λ t. sym (append-nil (console_now (P.view x.plant)));
    }

pub tell-requires-clause-told : goal.tell-requires-clause-told
tell-requires-clause-told g c told m s closes =
    let P = g.P.Plant in
    let x = c.args.complex.now in
    let y = c.loop-at.complex in
    let i = c.loop-at.invariant in
    let kept : TellKept c.args.lines.now y.journal.batches (P.view y.plant).now =
    subst (λ (bs : List Batch). TellKept c.args.lines.now bs (P.view y.plant).now) (sym (ap (λ p. p.batches) i.frame))
    (tell_later c.args.lines.now x.journal.batches (P.view x.plant).now (P.view y.plant).now i.acts.goes.later (c.requires.kept told)) in
    none_flying y.journal.batches y.current (P.view y.plant).now m s (ap (λ p. p.current) i.frame ∙ c.requires.none)
    (told_at c.args.lines.now c.loop-at.at c.line.result.now y.journal.batches (P.view y.plant).now kept c.line.ensures m s closes)

pub loop-at-preserved : goal.loop-at-preserved
loop-at-preserved g c =
    let P = g.P.Plant in
    let x = c.args.complex.now in
    let y = c.loop-at.complex in
    let z = c.tell.new.complex in
    let i = c.loop-at.invariant in
    let e = c.tell.ensures in
    let k = c.in_ok-tell.ensures in
    record {
      pair = e.pair ∙ i.pair;
      frame = frame_then (parts_of x) (parts_of y) (parts_of z) y.plant z.plant i.frame e.frame;
      acts = console_on P.tells c.args.member.now.id.0 c.line.result.now (P.view x.plant) (P.view y.plant) (P.view z.plant) Done i.acts k.acts k.content;
      spares = spares_then c.args.member.now.id.0 false (P.view x.plant) (P.view y.plant) (P.view z.plant) i.spares (spares_done c.args.member.now.id.0 Console (P.view y.plant) (P.view z.plant) k.acts);
      front = λ t. said_next c.args.lines.now c.loop-at.at (c.loop-at.at + 1) c.line.result.now (console_now (P.view x.plant)) (console_now (P.view y.plant)) (console_now (P.view z.plant)) (omega arith) c.line.ensures (omega arith) (i.front t) (k.content t).console;
    }

pub returns-in_err-tell-clause-said : goal.returns-in_err-tell-clause-said
returns-in_err-tell-clause-said g c =
    let P = g.P.Plant in
    let x = c.args.complex.now in
    let y = c.loop-at.complex in
    let z = c.tell.new.complex in
    let i = c.loop-at.invariant in
    let k = c.in_err-tell.ensures in
    let p = err_from_is_err_and c.from_residual.result c.from_residual.ensures.1 in
    rw (p.1, p.2) (said_out P.tells c.args.member.now.id.0 c.args.lines.now c.loop-at.at (P.view x.plant) (P.view y.plant) i.acts i.spares i.front c.line.result.now (P.view z.plant) _ (omega arith) c.line.ensures k.only k.acts k.content)

pub returns-clause-said : goal.returns-clause-said
returns-clause-said g c =
    let P = g.P.Plant in
    let x = c.args.complex.now in
    let y = c.loop-at.complex in
    let i = c.loop-at.invariant in
    said_all P.tells c.args.member.now.id.0 c.args.lines.now c.loop-at.at (P.view x.plant) (P.view y.plant) i.acts i.spares i.front (omega arith)
