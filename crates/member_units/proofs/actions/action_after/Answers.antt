use Rattle.member_units.proofs.Names.{◌+◌, ◌∙◌, inl, inr, refl, sym, arith, queue_here}
use Rattle.member_units.proofs.Parts.{goes_next, goes_rest}
use Rattle.member_units.proofs.actions.action_after.Goals as goal

-- THE HOLD IS SPENT

pub returns-then-rests : goal.returns-then-rests
returns-then-rests g c =
    let p = c.args.progress in
    record {
      is = λ told. rw c.in-Done.is (sym (goes_rest c.args.holder p.left (queue_here c.args.complex.now c.args.member.now) c.args.given (p.done + 1) (sym c.rests.ensures ∙ c.if-rests.true)));
      next = record { may = (λ told. absurd (cc), tt); most = omega arith; units = omega arith; left = omega arith };
      caused = λ units found le may. tt;
    }

-- THE NEXT UNIT

pub returns-else-rests : goal.returns-else-rests
returns-else-rests g c =
    let p = c.args.progress in
    let Q = queue_here c.args.complex.now c.args.member.now in
    let e = c.action_of.ensures in
    let next = e.next in
    record {
      is = λ told. rw c.in-Done.is (e.is told c.args.given ∙ sym (goes_next c.args.holder p.left Q c.args.given (p.done + 1) (sym c.rests.ensures ∙ c.if-rests.false)));
      next = record { may = next.may; most = omega (arith, next.most); units = omega (arith, next.units); left = omega (arith, next.left) };
      caused = λ all found le may. e.caused all found (omega (arith, le));
    }

-- THE STEP CLOSES

pub returns-in-Idle : goal.returns-in-Idle
returns-in-Idle g c = record {
  is = λ told. rw c.in-Idle.is refl;
  next = record { may = tt; most = omega arith; units = omega arith; left = omega arith };
  caused = λ units found le may. inl (c.args.progress.done, omega (arith, le), refl);
}

pub returns-in-Refused : goal.returns-in-Refused
returns-in-Refused g c = record {
  is = λ told. rw c.in-Refused.is refl;
  next = record { may = rw c.in-Refused.is at c.requires.named; most = omega arith; units = omega arith; left = omega arith };
  caused = λ units found le may. inr (rw c.in-Refused.is at may);
}
