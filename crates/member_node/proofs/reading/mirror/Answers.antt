use Rattle.std.proofs.Common.{◌≡◌, ◌∙◌, ◌≤◌, ◌<◌, [], length, get_or, refl, sym, arith}
use Rattle.mas_types.specs.Limits.{pages_most}
use Rattle.ckpt_tables.specs.Pages.{page_in}
use Rattle.member_node.proofs.MirrorLemmas.{mirror_more, rest_set}
use Rattle.member_node.proofs.RedrawLemmas.{page_with}
use Rattle.member_node.proofs.WantedLemmas.{header_set, page_at}
use Rattle.member_node.proofs.reading.mirror.Goals as goal

pub loop-page-init : goal.loop-page-init
loop-page-init c = record { header = refl; rest = λ q from. refl; mirrors = λ q from to. absurd (omega (arith, from, to)) }

-- a page without a mark is the member's own
pub take_own-requires : goal.take_own-requires
take_own-requires c off =
    let page = c.loop-page.page in
    let room = c.loop-page.room in
    let own = c.args.own.now in
    let first : 1 ≤ c.loop-page.page = omega arith in
    let lt : c.loop-page.page < length c.loop-page.room = omega arith in
    let inside : c.loop-page.page < length c.args.own.now = omega (arith, lt, c.requires.many) in
    let before : c.loop-page.page < length c.args.room.now = omega (arith, inside, c.requires.many) in
    let few : c.loop-page.page < pages_most = omega (arith, before, c.requires.few) in
    let here : (get_or c.loop-page.room c.loop-page.page (page_with [])).0 ≡ page_in c.loop-page.room c.loop-page.page = page_at room page (page_with []) lt in
    let there : (get_or c.args.own.now c.loop-page.page (page_with [])).0 ≡ page_in c.args.own.now c.loop-page.page = page_at own page (page_with []) inside in
    here ∙ c.loop-page.invariant.rest page (omega arith) ∙ c.requires.mirrors page first few before inside (sym c.has.ensures ∙ off) ∙ sym there

pub loop-page-preserved : goal.loop-page-preserved
loop-page-preserved c =
    let page = c.loop-page.page in
    let room = c.loop-page.room in
    let own = c.args.own.now in
    let first : 1 ≤ c.loop-page.page = omega arith in
    let lt : c.loop-page.page < length c.loop-page.room = omega arith in
    let inside : c.loop-page.page < length c.args.own.now = omega (arith, lt, c.requires.many) in
    let into = c.take_own.new.into in
    record {
      header = header_set page room into first lt ∙ c.loop-page.invariant.header;
      rest = λ q from. rest_set page room into lt q from ∙ c.loop-page.invariant.rest q (omega (arith, from));
      mirrors = mirror_more page room own into lt c.loop-page.invariant.mirrors (c.take_own.ensures ∙ page_at own page (page_with []) inside);
    }

pub returns-clause-header : goal.returns-clause-header
returns-clause-header c = c.loop-page.invariant.header

pub returns-clause-mirrors : goal.returns-clause-mirrors
returns-clause-mirrors c q from to = c.loop-page.invariant.mirrors q from (omega (arith, to, c.requires.many, c.loop-page-test.false))
