use Rattle.std.proofs.Common.{◌∙◌, ◌&&◌, ◌||◌, Bool, false, nat_le, nat_lt, slice_set, slice_index_or, ap, arith}
use Rattle.page_marks.specs.Marks.{is_marked}
use Rattle.page_marks.proofs.MarkLemmas.{some_all, some_more, some_none}
use Rattle.page_marks.proofs.marks.Marks.put_from.Goals as goal

pub loop-page-init : goal.loop-page-init
loop-page-init c = some_none (λ p. nat_le c.args.first p && nat_lt p c.args.end) c.args.self.now.pages

pub loop-page-preserved : goal.loop-page-preserved
loop-page-preserved c p =
    let l = c.loop-page in
    ap (λ (b : Bool). is_marked (slice_set c.loop-page.self.pages c.loop-page.page (slice_index_or c.loop-page.self.pages c.loop-page.page false || b)) p) c.is_between.ensures
    ∙ some_more (λ q. nat_le c.args.first q && nat_lt q c.args.end) l.page c.args.self.now.pages l.self.pages (omega (arith, l.self.many)) l.invariant p

pub returns : goal.returns
returns c p lt = some_all (λ q. nat_le c.args.first q && nat_lt q c.args.end) c.loop-page.page c.args.self.now.pages c.loop-page.self.pages (omega arith) c.loop-page.invariant p lt
