use Rattle.member_acts.proofs.Names.{◌≡◌, ◌<◌, ◌∙◌, Option, ap, sym, subst, arith, false, IsMember, is_stopped, Book, kept_all, entries_in, IsOfOther, counts_of, parts_of, Batch}
use Rattle.paper_laws.specs.Next.{MayPrint}
use Rattle.member_acts.specs.Prints.{upto}
use Rattle.member_acts.proofs.InkedLemmas.{lines_done, lines_failed, lines_halted, lines_more, lines_none, lines_unread, lines_wanting, may_print}
use Rattle.member_acts.proofs.printing.print_text.Goals as goal

pub returns-in_default : goal.returns-in_default
returns-in_default g c = lines_unread g.P.Plant c.args.by (upto c.args.output.now c.args.last) (parts_of c.args.complex.now) c.args.read.now c.in_default.not-Lines

pub loop-before-init : goal.loop-before-init
loop-before-init g c =
    let sum = c.saturating_add-first.ensures in
    let count = c.printed_lines.ensures.count in
    lines_none g.P.Plant c.args.by (upto c.args.output.now c.args.last) c.in-Lines.text (parts_of c.args.complex.now) _ (omega (arith, sum, count)) (λ small. omega (arith, sum, count, small))

pub print_line-requires-clause-some : goal.print_line-requires-clause-some
print_line-requires-clause-some g c =
    let some = c.requires.some in
    let count = rw c.in-Lines.is at c.requires.count in
    omega (arith, some, count)

pub print-requires : goal.print-requires
print-requires g c =
    let i = c.loop-before.invariant in
    let small : c.loop-before.before < c.args.last = omega arith in
    let same = i.next small in
    record {
      member = subst (λ (b : Book). IsMember b c.args.by) (sym (ap (λ p. p.book) i.frame)) c.requires.member;
      few = c.requires.few;
      up = subst (λ (b : Book). is_stopped b c.args.by ≡ false) (sym (ap (λ p. p.book) i.frame)) c.requires.up;
      other = subst (λ (o : Option Batch). IsOfOther o c.args.by) (sym (ap (λ p. p.current) i.frame)) c.requires.other;
      most = let limit = c.requires.limit in omega (arith, same, limit, small);
      next = λ told sound.
          let x = c.args.complex.now in
          let is = counts_of c.loop-before.complex.printed c.args.by in
          let may : MayPrint x.base (kept_all x.journal.batches) (entries_in x.current) c.args.by is c.as_slice.result.now =
          may_print x.base x.journal.batches x.current c.args.by (upto c.args.output.now c.args.last) is c.loop-before.before c.in-Lines.text c.as_slice.result.now (c.requires.may told c.in-Lines.text c.in-Lines.is) same small (c.as_slice.ensures ∙ c.in-Ok.ensures) in
          rw (ap (λ p. p.base) i.frame, ap (λ p. p.batches) i.frame, ap (λ p. p.current) i.frame) (∣ may ∣₁);
    }

pub loop-before-preserved : goal.loop-before-preserved
loop-before-preserved g c =
    let e = c.print.ensures in
    let done = c.in-Done.is in
    lines_more g.P.Plant c.args.by (upto c.args.output.now c.args.last) c.in-Lines.text (parts_of c.args.complex.now) c.loop-before.before (parts_of c.loop-before.complex) c.loop-before.invariant (omega arith) (parts_of c.print.new.self) c.as_slice.result.now (c.as_slice.ensures ∙ c.in-Ok.ensures)
    (rw done at e.frame) (rw done at e.acts) (rw done at e.content) (e.counted done)

pub returns-in-Failed : goal.returns-in-Failed
returns-in-Failed g c =
    let e = c.print.ensures in
    let failed = c.in-Failed.is in
    rw c.in-Lines.is (lines_failed g.P.Plant c.args.by (upto c.args.output.now c.args.last) c.in-Lines.text (parts_of c.args.complex.now) c.loop-before.before (parts_of c.loop-before.complex) c.loop-before.invariant (omega arith) (parts_of c.print.new.self) c.as_slice.result.now (c.as_slice.ensures ∙ c.in-Ok.ensures)
    (rw failed at e.frame) (rw failed at e.acts) (rw failed at e.content))

pub returns-in-Halted : goal.returns-in-Halted
returns-in-Halted g c =
    let e = c.print.ensures in
    let halted = c.in-Halted.is in
    rw c.in-Lines.is (lines_halted g.P.Plant c.args.by (upto c.args.output.now c.args.last) c.in-Lines.text (parts_of c.args.complex.now) c.loop-before.before (parts_of c.loop-before.complex) c.loop-before.invariant (omega arith) (parts_of c.print.new.self) c.as_slice.result.now (c.as_slice.ensures ∙ c.in-Ok.ensures)
    (rw halted at e.frame) (rw halted at e.acts) (rw halted at e.content))

pub returns-in_default-print_line : goal.returns-in_default-print_line
returns-in_default-print_line g c = rw c.in-Lines.is (lines_wanting g.P.Plant c.args.by (upto c.args.output.now c.args.last) c.in-Lines.text (parts_of c.args.complex.now) c.loop-before.before (parts_of c.loop-before.complex) c.loop-before.invariant (omega arith))

pub returns : goal.returns
returns g c = rw c.in-Lines.is (lines_done g.P.Plant c.args.by (upto c.args.output.now c.args.last) c.in-Lines.text (parts_of c.args.complex.now) c.loop-before.before (parts_of c.loop-before.complex) c.loop-before.invariant (omega arith))
