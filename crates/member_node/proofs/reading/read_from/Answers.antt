use Rattle.std.proofs.Common.{◌∙◌, refl, arith}
use Rattle.std.proofs.lemmas.Result.{err_from_is_err_and}
use Rattle.member_node.proofs.ReadLemmas.{error_later, front_set, read_more, read_start}
use Rattle.member_node.proofs.reading.read_from.Goals as goal

pub loop-page-init : goal.loop-page-init
loop-page-init g c =
    let P = g.P.Plant in
    let x = c.args.complex.now in
    record {
      base = refl;
      printed = refl;
      since = refl;
      renewals = refl;
      had = refl;
      book = refl;
      journal = refl;
      current = refl;
      reserved = refl;
      placed = refl;
      first = refl;
      second = refl;
      level = refl;
      copy1 = refl;
      copy2 = refl;
      read = read_start P.tells c.args.by.0 x.pair.first.alive x.pair.second.alive (P.view x.plant) g.C.Copying.reads c.args.first c.args.room.now;
    }

pub loop-page-preserved : goal.loop-page-preserved
loop-page-preserved g c =
    let P = g.P.Plant in
    let x = c.args.complex.now in
    let z = c.loop-page.complex in
    let w = c.read_one.new.complex in
    let i = c.loop-page.invariant in
    let e = c.in_ok-read_one.ensures in
    record {
      base = e.base ∙ i.base;
      printed = e.printed ∙ i.printed;
      since = e.since ∙ i.since;
      renewals = e.renewals ∙ i.renewals;
      had = e.had ∙ i.had;
      book = e.book ∙ i.book;
      journal = e.journal ∙ i.journal;
      current = e.current ∙ i.current;
      reserved = e.reserved ∙ i.reserved;
      placed = e.placed ∙ i.placed;
      first = e.first ∙ i.first;
      second = e.second ∙ i.second;
      level = e.level ∙ i.level;
      copy1 = e.copy1 ∙ i.copy1;
      copy2 = e.copy2 ∙ i.copy2;
      read = read_more P.tells c.args.by.0 x.pair.first.alive z.pair.first.alive w.pair.first.alive x.pair.second.alive z.pair.second.alive w.pair.second.alive (P.view x.plant) (P.view z.plant) (P.view w.plant) g.C.Copying.reads
          c.args.first c.loop-page.page c.args.room.now c.loop-page.room c.read_one.new.into i.read (omega arith) (omega arith) e.read.acts e.read.spares e.loses e.read.cause e.page;
    }

pub returns-in_err-read_one-clause-read : goal.returns-in_err-read_one-clause-read
returns-in_err-read_one-clause-read g c =
    let P = g.P.Plant in
    let x = c.args.complex.now in
    let z = c.loop-page.complex in
    let w = c.read_one.new.complex in
    let p = err_from_is_err_and c.from_residual.result c.from_residual.ensures.1 in
    rw (p.1, p.2) (error_later (Unit {0}) (Unit {0}) P.tells c.args.by.0 x.pair.first.alive z.pair.first.alive w.pair.first.alive x.pair.second.alive z.pair.second.alive w.pair.second.alive (P.view x.plant) (P.view z.plant) (P.view w.plant)
    c.in_err-read_one.field-0.0 c.loop-page.invariant.read.acts c.loop-page.invariant.read.spares c.in_err-read_one.ensures.read)

pub returns-in_err-read_one-clause-before : goal.returns-in_err-read_one-clause-before
returns-in_err-read_one-clause-before g c was are =
    front_set c.args.first c.loop-page.page was c.loop-page.room c.read_one.new.into (omega arith) (omega arith) (c.loop-page.invariant.read.front was are)
