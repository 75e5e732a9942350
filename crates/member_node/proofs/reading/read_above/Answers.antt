use Rattle.std.proofs.Common.{◌≡◌, ◌∙◌, ℕ, ◌≤◌, ◌<◌, nat_lt, Bool, false, List, [], length, get_or, refl, sym, ap, arith}
use Rattle.std.proofs.lemmas.Result.{err_from_is_err_and}
use Rattle.mas_types.specs.declared.ids.Page.{Page}
use Rattle.ckpt_tables.specs.Pages.{page_in}
use Rattle.ckpt_tables.specs.Shape.{level_in}
use Rattle.member_node.proofs.ReadLemmas.{error_later}
use Rattle.page_marks.specs.Marks.{is_marked}
use Rattle.member_node.proofs.MirrorLemmas.{differ_more}
use Rattle.member_node.proofs.RedrawLemmas.{page_with}
use Rattle.member_node.proofs.WantedLemmas.{above_count, above_next, above_start, one_most, page_at}
use Rattle.member_node.proofs.reading.read_above.Goals as goal

pub loop-page-init : goal.loop-page-init
loop-page-init g c =
    let P = g.P.Plant in
    let x = c.args.complex.now in
    record {
      base = refl;
      printed = refl;
      since = refl;
      renewals = refl;
      had = refl;
      book = refl;
      journal = refl;
      current = refl;
      reserved = refl;
      placed = refl;
      first = refl;
      second = refl;
      level = refl;
      copy1 = refl;
      copy2 = refl;
      read = above_start P.tells c.args.by.0 x.pair.first.alive x.pair.second.alive (P.view x.plant) g.C.Copying.reads c.args.level c.args.room.now c.requires.alive (omega (arith, c.requires.some));
      differ = λ q off. refl;
    }

pub read_newer-requires-clause-alive : goal.read_newer-requires-clause-alive
read_newer-requires-clause-alive g c = c.loop-page.invariant.read.some

pub overflow_add-count : goal.overflow_add-count
overflow_add-count g c =
    let i = c.loop-page.invariant.read in
    omega (arith, i.few, i.within, i.many, c.requires.few, c.in_ok-read.ensures.count, one_most c.is_newer-newer.result)

pub loop-page-preserved : goal.loop-page-preserved
loop-page-preserved g c =
    let P = g.P.Plant in
    let x = c.args.complex.now in
    let z = c.loop-page.complex in
    let w = c.read_newer.new.complex in
    let i = c.loop-page.invariant in
    let e = c.in_ok-read.ensures in
    let room = c.loop-page.room in
    let page = c.loop-page.page in
    let first : 1 ≤ c.loop-page.page = omega arith in
    let lt : c.loop-page.page < length c.loop-page.room = omega arith in
    let long : c.loop-page.page < length c.loop-page.differ.pages = omega (arith, lt, i.read.many, c.requires.few, c.loop-page.differ.many) in
    let header : (get_or c.loop-page.room 0 (page_with [])).0 ≡ page_in c.loop-page.room 0 = page_at room 0 (page_with []) (omega (arith, first, lt)) in
    let here : (get_or c.loop-page.room c.loop-page.page (page_with [])).0 ≡ page_in c.loop-page.room c.loop-page.page = page_at room page (page_with []) lt in
    let stays : c.is_newer-newer.result ≡ false → c.read_newer.new.into.0 ≡ page_in c.loop-page.room c.loop-page.page = λ old. ap (λ (p : Page). p.0) (e.stays old) ∙ here in
    record {
      base = e.base ∙ i.base;
      printed = e.printed ∙ i.printed;
      since = e.since ∙ i.since;
      renewals = e.renewals ∙ i.renewals;
      had = e.had ∙ i.had;
      book = e.book ∙ i.book;
      journal = e.journal ∙ i.journal;
      current = e.current ∙ i.current;
      reserved = e.reserved ∙ i.reserved;
      placed = e.placed ∙ i.placed;
      first = e.first ∙ i.first;
      second = e.second ∙ i.second;
      level = e.level ∙ i.level;
      copy1 = e.copy1 ∙ i.copy1;
      copy2 = e.copy2 ∙ i.copy2;
      read = above_next P.tells c.args.by.0 x.pair.first.alive z.pair.first.alive w.pair.first.alive x.pair.second.alive z.pair.second.alive w.pair.second.alive (P.view x.plant) (P.view z.plant) (P.view w.plant) g.C.Copying.reads
          c.args.level page c.loop-page.count c.in_ok-read.read c.is_newer-newer.result c.args.room.now room c.read_newer.new.into i.read first lt
          (c.is_newer-newer.ensures ∙ ap (λ (p : List ℕ). nat_lt c.args.level (level_in p page)) header) e.count
          e.read.acts e.read.spares e.loses e.acts e.read.cause stays e.page;
      differ = λ q off. differ_more c.is_newer-newer.result page c.loop-page.differ.pages room c.args.room.now c.read_newer.new.into long lt stays i.differ q (ap (λ (m : List Bool). is_marked m q) (sym c.mark_if.ensures) ∙ off);
    }

pub returns-in_err-read-clause-read : goal.returns-in_err-read-clause-read
returns-in_err-read-clause-read g c =
    let P = g.P.Plant in
    let x = c.args.complex.now in
    let z = c.loop-page.complex in
    let w = c.read_newer.new.complex in
    let i = c.loop-page.invariant.read in
    let p = err_from_is_err_and c.from_residual.result c.from_residual.ensures.1 in
    rw (p.1, p.2) (error_later ℕ ℕ P.tells c.args.by.0 x.pair.first.alive z.pair.first.alive w.pair.first.alive x.pair.second.alive z.pair.second.alive w.pair.second.alive (P.view x.plant) (P.view z.plant) (P.view w.plant)
    c.in_err-read.field-0.0 i.acts i.spares c.in_err-read.ensures.read)

pub returns-clause-header : goal.returns-clause-header
returns-clause-header g c = c.loop-page.invariant.read.header

pub returns-clause-none : goal.returns-clause-none
returns-clause-none g c = c.loop-page.invariant.read.none

pub returns-clause-differ : goal.returns-clause-differ
returns-clause-differ g c = c.loop-page.invariant.differ

pub returns-clause-count : goal.returns-clause-count
returns-clause-count g c =
    let i = c.loop-page.invariant.read in
    let all : c.loop-page.page ≡ length c.loop-page.room = omega (arith, i.within, i.many, c.loop-page-test.false) in
    above_count c.args.level c.loop-page.page c.loop-page.count c.args.room.now c.loop-page.room i.counts i.header all

pub returns-clause-acts : goal.returns-clause-acts
returns-clause-acts g c = c.loop-page.invariant.read.took

pub returns-clause-read : goal.returns-clause-read
returns-clause-read g c = let i = c.loop-page.invariant.read in record { acts = i.acts; cause = i.some; spares = i.spares }

pub returns-clause-loses : goal.returns-clause-loses
returns-clause-loses g c = c.loop-page.invariant.read.loses

pub returns-clause-pages : goal.returns-clause-pages
returns-clause-pages g c told was one two at same q from to =
    let i = c.loop-page.invariant.read in
    i.pages told was one two at same q from (omega (arith, to, i.many, c.loop-page-test.false))
