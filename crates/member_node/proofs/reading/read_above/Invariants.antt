use Rattle.std.proofs.Common.{◌≡◌, ℕ, false}
use Rattle.ckpt_tables.specs.Pages.{page_in}
use Rattle.page_marks.specs.Marks.{is_marked}
use Rattle.member_node.proofs.WantedLemmas.{IsReadAbove}
use Rattle.member_node.proofs.reading.read_above.Given as goal

abbrev pub invariant-loop-page : goal.invariant-loop-page
invariant-loop-page g l =
    let P = g.P.Plant in
    let C = g.C.Copying in
    let x = l.fn.complex in
    let z = l.complex in
    record {
      base : z.base ≡ x.base;
      printed : z.printed ≡ x.printed;
      since : z.since ≡ x.since;
      renewals : z.renewals ≡ x.renewals;
      had : z.had ≡ x.had;
      book : z.book ≡ x.book;
      journal : z.journal ≡ x.journal;
      current : z.current ≡ x.current;
      reserved : z.reserved ≡ x.reserved;
      placed : z.placed ≡ x.placed;
      first : z.first ≡ x.first;
      second : z.second ≡ x.second;
      level : z.level ≡ x.level;
      copy1 : z.pair.first.copy ≡ x.pair.first.copy;
      copy2 : z.pair.second.copy ≡ x.pair.second.copy;
      read : IsReadAbove P.tells l.by.0 x.pair.first.alive z.pair.first.alive x.pair.second.alive z.pair.second.alive (P.view x.plant) (P.view z.plant) C.reads l.level l.page l.count l.fn.room l.room;
      differ : (q : ℕ) → is_marked l.differ.pages q ≡ false → page_in l.room q ≡ page_in l.fn.room q;
    }
