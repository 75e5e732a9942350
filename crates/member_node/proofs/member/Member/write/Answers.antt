use Rattle.std.proofs.Common.{◌∙◌, slice_set, ap}
use Rattle.member_node.proofs.member.Member.write.Goals as goal

pub note_pages-requires-clause-reads1 : goal.note_pages-requires-clause-reads1
note_pages-requires-clause-reads1 g c told on = c.in_ok-put.ensures.rests1.reads told on

pub note_pages-requires-clause-reads2 : goal.note_pages-requires-clause-reads2
note_pages-requires-clause-reads2 g c told on = c.in_ok-put.ensures.rests2.reads told on

pub returns-clause-write : goal.returns-clause-write
returns-clause-write g c front place one =
    let e = c.note_pages.ensures.frame in
    rw (ap (λ p. p.placed) e, ap (λ p. p.current) e, ap (λ p. p.batches) e, ap (λ p. p.first_alive) e, ap (λ p. p.second_alive) e, ap (λ p. p.plant) e) (c.in_ok-put.ensures.write front place one)

pub returns-clause-noted : goal.returns-clause-noted
returns-clause-noted g c = ap (λ p. p.had) c.note_pages.ensures.frame ∙ ap (λ had. slice_set had c.args.self.now.id.0 c.args.self.now.checkpoint.pages) c.put.ensures.had
