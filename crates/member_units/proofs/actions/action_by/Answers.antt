use Rattle.member_units.proofs.Names.{◌≡◌, ◌≤◌, ◌∙◌, ap, inr, refl, sym, subst, arith, length, take, List, Entry, Queue, MayStopBy, held_by, groups_for_end, job_at, job_ends as job_ends_lem, outputs_at_end, text_read as text_read_lem, queue_here, queue_kept, tells_here, stops_by, kept_here, spooled_nowhere, Tell}
use Rattle.job_outcome.specs.declared.outcomes.Outcome.{Outcome}
use Rattle.member_work.specs.Steps.{IsUnderWay}
use Rattle.member_units.proofs.Parts.{ended_may, takes_turn, ends_none}
use Rattle.member_units.proofs.actions.action_by.Goals as goal

pub returns-in-Convert : goal.returns-in-Convert
returns-in-Convert g c runs fields found read =
    let w = c.requires.works in
    let none = ap (λ (es : List Entry). length es) c.requires.bare.nothing in
    record {
      may = ((omega (arith, none), record { plain = refl; fit = tt; giver = (w.still.holds.some, w.still.holds.few); may = w.still.holds.member; closes = refl }, λ told. tt), tt);
      is = λ told. ap (λ (o : Outcome). text_read_lem c.args.holder o (queue_here c.args.complex.now c.args.member.now) c.args.job c.args.progress) (sym c.in-Convert.is ∙ read);
      upto = record { most = omega arith; units = omega arith; level = omega arith };
      caused = tt;
    }

pub returns-in-Stop : goal.returns-in-Stop
returns-in-Stop g c runs fields found read =
    let is = sym c.in-Stop.is ∙ read in
    record {
      may = rw c.in-Stop.is at c.requires.named;
      is = λ told. ap (λ (o : Outcome). text_read_lem c.args.holder o (queue_here c.args.complex.now c.args.member.now) c.args.job c.args.progress) is;
      upto = record { most = omega arith; units = omega arith; level = omega arith };
      caused = inr (subst (MayStopBy found) (sym is) (stops_by runs fields found));
    }

pub groups_for_end-needed-requires : goal.groups_for_end-needed-requires
groups_for_end-needed-requires g c = rw c.as_slice.ensures (rw c.in-End.is at c.requires.fits)

-- no groups are needed
pub returns-then-needed-eq0 : goal.returns-then-needed-eq0
returns-then-needed-eq0 g c runs fields found read =
    let P = g.P.Plant in
    let x = c.args.complex.now in
    let m = c.args.member.now in
    let h = c.args.holder in
    let n = c.args.job in
    let specs = c.in-End.outputs in
    let p = c.args.progress in
    let R = queue_kept x in
    let Q = queue_here x m in
    let none : P.tells → groups_for_end R n specs ≡ 0 = λ told.
    let tell : Tell m.checkpoint.tables R = subst (Tell m.checkpoint.tables) (kept_here x m c.requires.bare.nothing) (tells_here x m h c.requires.works told) in
    let is = rw c.as_slice.ensures at (c.groups_for_end-needed.ensures.groups R tell) in
    sym is ∙ c.if-needed-eq0.true in
    record {
      may = (ended_may x m n specs c.requires.bare (rw c.in-End.is at c.requires.fits) c.requires.under_way (λ told. spooled_nowhere _ _ (outputs_at_end (job_at R n) specs) (take (groups_for_end R n specs) (held_by m.id R.owners)) (none told)), tt);
      is = λ told.
          let is = ap (λ (q : Queue). groups_for_end q n specs) (kept_here x m c.requires.bare.nothing) ∙ none told in
          sym (ends_none h Q n specs p (groups_for_end Q n specs) is) ∙ ap (λ (o : Outcome). text_read_lem h o Q n p) (sym c.in-End.is ∙ read);
      upto = record { most = omega arith; units = omega arith; level = omega arith };
      caused = tt;
    }

-- the groups are taken
pub returns-else-needed-eq0 : goal.returns-else-needed-eq0
returns-else-needed-eq0 g c runs fields found read =
    let x = c.args.complex.now in
    let m = c.args.member.now in
    let h = c.args.holder in
    let n = c.args.job in
    let specs = c.in-End.outputs in
    let p = c.args.progress in
    let Q = queue_here x m in
    let some : 1 ≤ c.groups_for_end-needed.result = let not = c.if-needed-eq0.false in omega (arith, not) in
    record {
      may = (
        (c.requires.bare, some),
        record {
          job = n;
          specs = specs;
          is = refl;
          outputs = rw c.in-End.is at c.requires.fits;
          all = rw c.as_slice.ensures at (c.groups_for_end-needed.ensures.all some);
          under_way = λ told. subst (λ (R : Queue). IsUnderWay R m.id n) (sym (kept_here x m c.requires.bare.nothing)) (c.requires.under_way told);
        },
      );
      is = λ told.
          let is = rw c.as_slice.ensures at (c.groups_for_end-needed.ensures.groups Q (tells_here x m h c.requires.works told)) in
          takes_turn h Q n specs p c.groups_for_end-needed.result some ∙ ap (λ k. job_ends_lem h k Q n specs p) is ∙ ap (λ (o : Outcome). text_read_lem h o Q n p) (sym c.in-End.is ∙ read);
      upto = record { most = omega arith; units = omega arith; level = omega arith };
      caused = tt;
    }
