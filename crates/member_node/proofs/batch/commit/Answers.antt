use Rattle.std.proofs.Common.{◌∙◌, ap}
use Rattle.mas_types.specs.declared.journals.Journal.{Journal}
use Rattle.mas_types.specs.declared.journals.Fate.TheVariants.{Kept}
use Rattle.mas_complex.specs.Journals.{begun, entries_reserved, fated, with_last}
use Rattle.duplex_pair.proofs.Mends.{held_then}
use Rattle.duplex_pair.specs.Outcomes.{pair_stopped}
use Rattle.duplex_pair.proofs.Composing.{acted_then}
use Rattle.member_node.proofs.CourseLemmas.{apart_then}
use Rattle.member_node.proofs.batch.commit.Goals as goal

pub returns-clause-kept : goal.returns-clause-kept
returns-clause-kept g c =
    let b = begun (g.P.Plant.view c.args.complex.now.plant).now c.args.by (entries_reserved c.args.complex.now.reserved) in
    held_then c.open_both.result c.open_both.ensures.kept (λ kept. kept b c.in_ok-log_both.ensures.flying
    ∙ ap (λ (j : Journal). with_last (fated Kept (g.P.Plant.view c.open_both.new.complex.plant).now b) j.batches) c.in_ok-log_both.ensures.journal)

pub returns-clause-apart : goal.returns-clause-apart
returns-clause-apart g c told =
    let v0 = g.P.Plant.view c.args.complex.now.plant in
    let v1 = g.P.Plant.view c.log_both.new.complex.plant in
    let v2 = g.P.Plant.view c.open_both.new.complex.plant in
    let e = c.log_both.ensures in
    let f = c.open_both.ensures in
    apart_then v0 v1 v2 e.acted.goes.later f.acted.goes (e.apart told) (f.apart told)

pub returns-clause-acted : goal.returns-clause-acted
returns-clause-acted g c =
    let x = c.args.complex.now in
    let m = c.log_both.new.complex in
    let n = c.open_both.new.complex in
    acted_then c.args.by.0 (g.P.Plant.view x.plant) (g.P.Plant.view m.plant) (g.P.Plant.view n.plant) x.pair.first.alive m.pair.first.alive n.pair.first.alive x.pair.second.alive m.pair.second.alive n.pair.second.alive (pair_stopped c.open_both.result)
    c.in_ok-log_both.ensures.acted c.open_both.ensures.acted
