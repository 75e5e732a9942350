use Rattle.member_units.proofs.Names.{err_from_is_err_and, ◌∙◌, ap, inr, refl, sym, subst, arith, length, List, Entry, Option, IfSome, Queue, IsMarkRight, MayRefuseBy, counts_after, counts_of, lines_printed as lines_printed_lem, outputs_stand as outputs_stand_lem, queue_here, prints_by, kept_here}
use Rattle.mas_types.specs.declared.answers.Closing.{Closing}
use Rattle.mas_types.specs.declared.commands.Command.TheVariants as command
use Rattle.member_units.proofs.Parts.{ended_may}
use Rattle.member_units.proofs.actions.action_from.Goals as goal

-- A JOB'S TEXT

pub outcome_of-requires-clause-fields : goal.outcome_of-requires-clause-fields
outcome_of-requires-clause-fields g c = (rw c.in-ReadText.is at c.requires.may).0

pub outcome_of-requires-clause-text : goal.outcome_of-requires-clause-text
outcome_of-requires-clause-text g c = (rw c.in-ReadText.is at c.requires.may).1

pub returns-in_err-outcome-in-ReadText-clause-text : goal.returns-in_err-outcome-in-ReadText-clause-text
returns-in_err-outcome-in-ReadText-clause-text g c = let q = err_from_is_err_and c.from_residual.result c.from_residual.ensures.1 in rw (q.1, c.in-ReadText.is) refl

pub action_by-requires : goal.action_by-requires
action_by-requires g c =
    let o = c.in_ok-outcome-in-ReadText.ensures in
    record { works = c.requires.works; bare = c.requires.bare; fits = o.fits; named = o.named; under_way = (rw c.in-ReadText.is at c.requires.may).2 }

pub returns-in_ok-outcome-in-ReadText-clause-is : goal.returns-in_ok-outcome-in-ReadText-clause-is
returns-in_ok-outcome-in-ReadText-clause-is g c = rw c.in-ReadText.is (c.action_by.ensures c.in-ReadText.runs c.in-ReadText.fields c.args.found.now c.in_ok-outcome-in-ReadText.ensures.outcome)

-- A JOB'S OUTPUTS

pub returns-in-Some-clause-is : goal.returns-in-Some-clause-is
returns-in-Some-clause-is g c =
    let o = c.in-SpoolOutputs in
    rw o.is (record {
      may = (c.requires.bare, tt);
      is = λ told. ap (λ lost. outputs_stand_lem c.args.holder lost (queue_here c.args.complex.now c.args.member.now) o.job o.outputs o.progress) (sym c.in-Some.is);
      upto = record { most = omega arith; units = omega arith; level = omega arith };
      caused = c.in-Some.is;
    })

pub returns-in-None-clause-is : goal.returns-in-None-clause-is
returns-in-None-clause-is g c =
    let x = c.args.complex.now in
    let m = c.args.member.now in
    let o = c.in-SpoolOutputs in
    let may = rw o.is at c.requires.may in
    rw o.is (record {
      may = (ended_may x m o.job o.outputs c.requires.bare may.0 may.1 (may.2 c.in-None.is), tt);
      is = λ told. ap (λ lost. outputs_stand_lem c.args.holder lost (queue_here x m) o.job o.outputs o.progress) (sym c.in-None.is);
      upto = record { most = omega arith; units = omega arith; level = omega arith };
      caused = tt;
    })

-- AN OUTPUT'S LINES

pub returns-in-Some-printed_end-clause-is : goal.returns-in-Some-printed_end-clause-is
returns-in-Some-printed_end-clause-is g c =
    let o = c.in-PrintLines in
    let is = sym c.in-Some-printed_end.is ∙ c.printed_end.ensures.is in
    rw o.is (record {
      may = rw c.in-Some-printed_end.is at c.printed_end.ensures.named;
      is = λ told. ap (λ (end : Option Closing). lines_printed_lem c.args.holder end (queue_here c.args.complex.now c.args.member.now) o.job o.output o.last o.progress) is;
      upto = record { most = omega arith; units = omega arith; level = omega arith };
      caused = inr (subst (λ (end : Option Closing). IfSome end (MayRefuseBy c.args.found.now)) (sym is) (prints_by c.args.found.now));
    })

pub returns-in-None-printed_end-clause-is : goal.returns-in-None-printed_end-clause-is
returns-in-None-printed_end-clause-is g c =
    let x = c.args.complex.now in
    let m = c.args.member.now in
    let Q = queue_here x m in
    let w = c.requires.works in
    let o = c.in-PrintLines in
    let mark = command.Mark o.job o.output o.last in
    let is = sym c.in-None-printed_end.is ∙ c.printed_end.ensures.is in
    let none = ap (λ (es : List Entry). length es) c.requires.bare.nothing in
    let may = rw o.is at c.requires.may in
    rw o.is (record {
      may = (
        (
          omega (arith, none),
          record { plain = refl; fit = may.0; giver = (w.still.holds.some, w.still.holds.few); may = w.still.holds.member; closes = refl },
          λ told.
              let here : IsMarkRight Q m.id (counts_of x.printed m.id) mark = subst (λ (R : Queue). IsMarkRight R m.id (counts_of x.printed m.id) mark) (sym (kept_here x m c.requires.bare.nothing)) (may.1 (sym is) told) in
              subst (λ (es : List Entry). IsMarkRight Q m.id (counts_after es (counts_of x.printed) m.id) mark) (sym c.requires.bare.nothing) here,
        ),
        tt,
      );
      is = λ told. ap (λ (end : Option Closing). lines_printed_lem c.args.holder end Q o.job o.output o.last o.progress) is;
      upto = record { most = omega arith; units = omega arith; level = omega arith };
      caused = tt;
    })
