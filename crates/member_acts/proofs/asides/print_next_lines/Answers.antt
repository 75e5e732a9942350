use Rattle.std.specs.Option.{option_map}
use Rattle.member_acts.proofs.Names.{Found, GroupNo, Batch, ◌≡◌, ◌+◌, ℕ, List, false, true, Option, Some, Ok, ◌∙◌, ◌<◌, is_some, Err, ap, refl, subst, sym, arith, output_at, Output, IsMember, is_stopped, Book, kept_all, IsOfOther, run, parts_of, Parts, counts_of, spools_at, lines_read, HasInked, as_it_is, IsChunkOf, IsPrinting, names_nothing, names_read, IsReadAs, IsOutputStill, NodeNo, OutputThing, Queue, Result, beside_on, beside_volumes, err_from_is_err_and, failed_wider, goes_none, groups_of, lines_next, lines_whole, none_lost, sparing_before, sparing_more, tells_some, wires_then, Bool, Read}
use Rattle.lay_bytes.specs.declared.records.OutRec.{OutRec}
use Rattle.ckpt_tables.specs.declared.tables.Tables.{Tables}
use Rattle.member_asides.specs.Asides.{HasPrintedNext}
use Rattle.member_acts.specs.Names.{lines_to}
use Rattle.job_outcome.specs.declared.outcomes.Read.TheVariants as read
use Rattle.member_acts.specs.Prints.{HasPrinted, upto}
use Rattle.member_acts.proofs.InkedLemmas.{inked_after}
use Rattle.member_acts.proofs.ReadLemmas.{stops_later}
use Rattle.member_work.proofs.CauseLemmas.{wider_read}
use Rattle.member_acts.proofs.Shown.{IsRecordOf, chunk_from, failed_later, inked_unread, lines_behind, may_print_still, only_error, only_lines, only_read, output_was, papers_now, quiet_disks, record_of, same_lines, read_as_it_is}
use Rattle.member_acts.proofs.asides.print_next_lines.Given as given
use Rattle.member_acts.proofs.asides.print_next_lines.Goals as goal
use Rattle.member_acts.proofs.asides.print_next_lines.Goals.{In_ok-read}

-- THE RECORD OF THE OUTPUT

pub unreachable-requires : goal.unreachable-requires
unreachable-requires g c =
    let s = tells_some c.args.member.now.checkpoint.tables in
    let none = rw c.as_slice.ensures at c.in_default.ensures.none in
    absurd (let not : false ≡ true = ap is_some (sym (none s.0.outputs s.1.outputs)) ∙ (c.requires.output.there s.0 s.1) in cc)

pub read_thing-requires-clause-may : goal.read_thing-requires-clause-may
read_thing-requires-clause-may g c = c.requires.may

pub read_thing-requires-clause-count : goal.read_thing-requires-clause-count
read_thing-requires-clause-count g c =
    let f = c.in-Some.found in
    (record_of c.args.member.now.checkpoint.tables c.args.job c.args.output f.at f.item c.requires.may.spelling (rw c.as_slice.ensures at c.in-Some.ensures.some) (rw c.as_slice.ensures at c.in-Some.ensures.here)).told.few

-- ONCE ITS TEXT WAS READ

module _ (g : given.Over) (c : In_ok-read g) where
  abbrev t : Tables
  t = c.args.member.now.checkpoint.tables

  abbrev its : OutRec
  its = c.in-Some.found.item

  rec : IsRecordOf t c.args.job c.args.output its
  rec = record_of t c.args.job c.args.output c.in-Some.found.at its c.requires.may.spelling (rw c.as_slice.ensures at c.in-Some.ensures.some) (rw c.as_slice.ensures at c.in-Some.ensures.here)

  chunk : IsChunkOf t c.args.member.now.id its c.args.last
  chunk = chunk_from t c.args.member.now.id c.args.job c.args.output c.in-Some.found.at its c.args.last c.requires.may.spelling (rw c.as_slice.ensures at c.in-Some.ensures.some) rec c.requires.output.chunk

  abbrev Kept : Queue
  Kept = run c.args.complex.now.base (kept_all c.args.complex.now.journal.batches)

  abbrev There : Output → Type 0
  There o = output_at Kept c.args.job c.args.output ≡ Some o

  -- as its text was read
  seen : g.P.Plant.tells → (o : Output) → There o → IsReadAs g.P.Plant.tells c.args.complex.now.base.config.groups (o.text, groups_of (OutputThing c.args.job c.args.output) Kept.owners) (Some c.in_ok-read.read) (g.P.Plant.view c.args.complex.now.plant) (g.P.Plant.view c.read_thing.new.complex.plant)
  seen told o there =
      let still = c.requires.still told in
      let lines = (output_was t Kept c.args.job c.args.output c.args.member.now.id its o still rec there).3 in
      c.in_ok-read.ensures.read.seen told (c.requires.roomy told) o.text (ap (option_map (λ (x : Output). x.text)) there) lines (still.groups ∙ ap (groups_of (OutputThing c.args.job c.args.output)) still.told.owners)

  -- the lines that stand there are the output's
  inks : (z : Parts g.row.P.Denot g.row.C.Denot) (r : Result Bool NodeNo) → HasPrinted g.P.Plant (parts_of c.read_thing.new.complex) z c.args.member.now.id (upto its c.args.last) c.in_ok-read.read r → g.P.Plant.tells → (o : Output) → There o
      → HasInked g.P.Plant c.args.member.now.id (lines_next (counts_of c.args.complex.now.printed c.args.member.now.id) c.args.last o c.in_ok-read.read) (parts_of c.args.complex.now) z r
  inks z r printed told o there =
      let P = g.P.Plant in
      let m = c.args.member.now.id in
      let x = c.args.complex.now in
      let y = c.read_thing.new.complex in
      let same = output_was t Kept c.args.job c.args.output m its o (c.requires.still told) rec there in
      subst (λ (ls : List (List ℕ)). HasInked P m ls (parts_of x) z r) (same_lines its o (counts_of x.printed m) (counts_of y.printed m) c.args.last c.in_ok-read.read same.0 same.1 same.2 (ap (λ p. counts_of p.printed m) c.read_thing.ensures.on.frame))
      (inked_after P m (lines_read its.job its.index (its.mark + counts_of y.printed m) c.args.last c.in_ok-read.read) (parts_of x) (parts_of y) z r (papers_now P.tells m.0 (P.view x.plant) (P.view y.plant) c.read_thing.ensures.on.acts told) (ap (λ p. p.printed) c.read_thing.ensures.on.frame) (printed.inks told))

-- THE OUTPUT'S LINES MAY BE PRINTED

pub print_text-requires : goal.print_text-requires
print_text-requires g c =
    let w = (goal.at.print_text-requires g c).In_ok-read in
    let x = c.args.complex.now in
    let m = c.args.member.now.id in
    let same = c.read_thing.ensures.on.frame in
    record {
      member = subst (λ (k : Book). IsMember k m) (sym (ap (λ p. p.book) same)) c.requires.seated;
      few = c.requires.few;
      up = let some : 0 < m.0 = let one = c.requires.some in omega (arith, one) in subst (λ (k : Book). is_stopped k m ≡ false) (sym (ap (λ p. p.book) same)) (c.requires.may.up some);
      other = subst (λ (o : Option Batch). IsOfOther o m) (sym (ap (λ p. p.current) same ∙ c.requires.none)) tt;
      some = (rec g w).told.some;
      count = c.in_ok-read.ensures.read.counted;
      limit = (chunk g w).limit;
      may = λ told lines is.
          let P = g.P.Plant in
          let y = c.read_thing.new.complex in
          let still : IsOutputStill (t g w) m c.args.job c.args.output (Kept g w) = c.requires.still told in
          let busy : IsPrinting still.was m c.args.job c.args.output = c.requires.output.printing still.was still.told (c.requires.sound told) in
          let has = still.busy busy.output busy.there busy.busy in
          let gs = groups_of (OutputThing c.args.job c.args.output) (Kept g w).owners in
          let as_lines : IsReadAs P.tells x.base.config.groups (has.0.text, gs) (Some (read.Lines lines)) (P.view x.plant) (P.view y.plant) = rw is at (seen g w told has.0 has.1) in
          let may = may_print_still x.base x.journal.batches y.current m (t g w) c.args.job c.args.output (its g w) c.args.last lines (ap (λ p. p.current) same ∙ c.requires.none) still (rec g w) (chunk g w) busy (lines_whole P.tells x.base.config.groups has.0.text gs lines (P.view x.plant) (P.view y.plant) told as_lines) in
          rw (ap (λ p. p.base) same, ap (λ p. p.batches) same) may;
    }

-- THE OUTPUT'S LINES ARE PRINTED

pub returns-in_err-read : goal.returns-in_err-read
returns-in_err-read g c =
    let P = g.P.Plant in
    let m = c.args.member.now.id in
    let p = err_from_is_err_and c.from_residual.result c.from_residual.ensures.1 in
    let x = c.args.complex.now in
    let y = c.read_thing.new.complex in
    let acts = c.read_thing.ensures.on.acts in
    rw (p.1, p.2) (record {
      frame = only_error m (parts_of x) (parts_of y) Found c.in_err-read.field-0.0 (only_read m (parts_of x) (parts_of y) c.read_thing.ensures.on.frame);
      acts = beside_volumes P.tells m.0 (P.view x.plant) (P.view y.plant) acts;
      reads = c.read_thing.ensures.on.reads;
      inks = λ told o there.
          inked_unread P m (lines_next (counts_of x.printed m) c.args.last o (as_it_is o.text)) (parts_of x) (parts_of y) (λ (k : Found). names_read k.read) c.in_err-read.field-0.0 c.in_err-read.ensures.cause
          (papers_now P.tells m.0 (P.view x.plant) (P.view y.plant) acts told) (ap (λ p. p.printed) c.read_thing.ensures.on.frame);
      counts = λ k other. ap (λ p. counts_of p.printed k) c.read_thing.ensures.on.frame;
      wires = acts.wires;
      cause = c.in_err-read.ensures.cause;
      finds = tt;
    })

pub returns-in_err-printer : goal.returns-in_err-printer
returns-in_err-printer g c =
    let P = g.P.Plant in
    let x = c.args.complex.now in
    let z = c.print_text.new.complex in
    let m = c.args.member.now.id in
    let v = P.view x.plant in
    let w = P.view c.read_thing.new.complex.plant in
    let u = P.view z.plant in
    let path = (goal.at.returns-in_err-printer g c).In_ok-read in
    let e = c.in_err-printer.ensures in
    let why = c.in_err-printer.field-0.0 in
    let on = c.read_thing.ensures.on in
    let p = err_from_is_err_and c.from_residual-in_err-printer.result c.from_residual-in_err-printer.ensures.1 in
    rw (p.1, p.2) (record {
      frame = only_lines m (parts_of x) (parts_of z) Found why (lines_behind m (parts_of x) (parts_of z) {T = Bool} (parts_of c.read_thing.new.complex) (Err why) on.frame e.frame);
      acts = beside_on P.tells v w u (beside_volumes P.tells m.0 v w on.acts) e.beside.acts;
      reads = λ told. quiet_disks (spools_at v v.now) w u (e.beside.disks told) (on.reads told);
      inks = λ told o there. subst (λ (a : Read). HasInked P m (lines_next (counts_of x.printed m) c.args.last o a) (parts_of x) (parts_of z) (Err why))
          (read_as_it_is P.tells x.base.config.groups o.text (groups_of (OutputThing c.args.job c.args.output) (Kept g path).owners) v w c.in_ok-read.read told e.lines (seen g path told o there)) (inks g path (parts_of z) (Err why) e told o there);
      counts = λ k other. e.beside.other_counts k other ∙ ap (λ p. counts_of p.printed k) c.read_thing.ensures.on.frame;
      wires = λ told. wires_then v w u (on.acts.wires told) (e.beside.wires told);
      cause = stops_later {T = Bool} names_nothing m.0 v w u (Err why) on.acts.goes (sparing_more m.0 false (names_read c.in_ok-read.read) none_lost v w (λ n other. e.lines n) c.in_ok-read.ensures.cause) e.cause;
      finds = tt;
    })

pub returns : goal.returns
returns g c =
    let P = g.P.Plant in
    let x = c.args.complex.now in
    let z = c.print_text.new.complex in
    let m = c.args.member.now in
    let v = P.view x.plant in
    let w = P.view c.read_thing.new.complex.plant in
    let u = P.view z.plant in
    let path = (goal.at.returns g c).In_ok-read in
    let e = c.in_ok-printer.ensures in
    let on = c.read_thing.ensures.on in
    let a = c.in_ok-read.read in
    let gs : List GroupNo = groups_of (OutputThing c.args.job c.args.output) (t g path).owners in
    let k = c.in_ok-read.ensures.read in
    subst (λ (f : Found). HasPrintedNext P (parts_of x) (parts_of z) m (lines_to c.args.job c.args.output c.args.last) (Ok f)) (sym c.found_with.ensures) (record {
      frame = lines_behind m.id (parts_of x) (parts_of z) (parts_of c.read_thing.new.complex) (Ok c.in_ok-printer.printer) on.frame e.frame;
      acts = beside_on P.tells v w u (beside_volumes P.tells m.id.0 v w on.acts) e.beside.acts;
      reads = λ told. quiet_disks (spools_at v v.now) w u (e.beside.disks told) (on.reads told);
      inks = λ told o there. inks g path (parts_of z) (Ok c.in_ok-printer.printer) e told o there;
      counts = λ k other. e.beside.other_counts k other ∙ ap (λ p. counts_of p.printed k) c.read_thing.ensures.on.frame;
      wires = λ told. wires_then v w u (on.acts.wires told) (e.beside.wires told);
      cause = sparing_before m.id.0 false (names_read a) v w u c.in_ok-read.ensures.cause e.cause;
      finds = record {
        only = refl;
        fits = k.fits;
        failed = failed_later x.base.config.groups gs a v w u e.beside.acts.goes k.failed;
        read = λ told roomy o there. wider_read P.tells x.base.config.groups m.id 0 v v w u (goes_none v) e.beside.acts.goes o.text (groups_of (OutputThing c.args.job c.args.output) (Kept g path).owners) (Some a) (seen g path told o there);
        printer = λ is. failed_wider m.id v w u u on.acts.goes (goes_none u) (e.failed is);
        counted = λ none told o there.
            let done = e.counted none in
            let same = output_was (t g path) (Kept g path) c.args.job c.args.output m.id (its g path) o (c.requires.still told) (rec g path) there in
            omega (arith, done, same.2);
      };
    })
