use Rattle.member_units.proofs.Names.{None, Some, ◌≤◌, inl, refl, sym, ◌∙◌, arith, counts_after, counts_of, queue_here, tells_some, finish_indexed, IsOfUnit, aside_of, ◌≡◌, ◌-◌, IsMarkRight}
use Rattle.member_units.proofs.Following.{turn_next, unit_given, unit_ready, command_fits, each_command}
use Rattle.member_units.proofs.actions.action_of.Goals as goal

-- NO UNIT IS LEFT

pub returns-then-progress-eq0 : goal.returns-then-progress-eq0
returns-then-progress-eq0 g c = record {
  is = λ told given. rw c.if-progress-eq0.true refl;
  next = record { may = tt; most = omega arith; units = omega arith; left = omega arith };
  caused = λ units found le. inl (c.args.progress.done, omega (arith, le), refl);
}

-- ONE COMMAND

pub find_unit-next-requires : goal.find_unit-next-requires
find_unit-next-requires g c = record { member = c.requires.works.still.holds.few; kept = c.args.member.now.indexed }

pub returns-in-Some : goal.returns-in-Some
returns-in-Some g c =
    let x = c.args.complex.now in
    let m = c.args.member.now in
    let w = c.requires.works in
    let p = c.args.progress in
    let u = c.find_unit-next.result in
    let d = c.in-Some.command in
    let is = sym c.command_of.ensures ∙ c.in-Some.is in
    let s = tells_some m.checkpoint.tables in
    let its : IsOfUnit d = record { of = u; is = is; fit = command_fits u d is (λ n i same. finish_indexed m.checkpoint.tables s.0 m.id n i w.draws.spelling s.1 (sym same ∙ c.find_unit-next.ensures s.0 s.1)) } in
    let some : 1 ≤ p.left = let not = c.if-progress-eq0.false in omega (arith, not) in
    record {
      is = turn_next x m c.args.holder w p c.if-progress-eq0.false u (Some d) None c.find_unit-next.ensures is (λ Q told. each_command (λ v e. None ≡ aside_of m.id (record { done = p.done; left = p.left - 1 }) Q v) (λ n i. refl) refl refl refl refl refl u d is);
      next = record {
        may = ((c.requires.few, unit_given x.base m.id d w.still.holds.some w.still.holds.few w.still.holds.member its, λ told. each_command (λ _ e. IsMarkRight (queue_here x m) m.id (counts_after m.batch (counts_of x.printed) m.id) e) (λ n i. tt) tt tt tt tt tt u d is), tt);
        most = omega (arith, some);
        units = omega (arith, some);
        left = omega (arith, some);
      };
      caused = λ units found le. tt;
    }

-- A TEXT, OR NONE

pub aside_of-requires : goal.aside_of-requires
aside_of-requires g c = record { next = c.find_unit-next.ensures; by = c.requires.works.still.holds.few; spelling = c.requires.works.draws.spelling }

pub returns-in-Some-aside_of : goal.returns-in-Some-aside_of
returns-in-Some-aside_of g c =
    let x = c.args.complex.now in
    let m = c.args.member.now in
    let p = c.args.progress in
    let a = c.in-Some-aside_of.ensures in
    let some : 1 ≤ p.left = let not = c.if-progress-eq0.false in omega (arith, not) in
    record {
      is = turn_next x m c.args.holder c.requires.works p c.if-progress-eq0.false c.find_unit-next.result None (Some c.in-Some-aside_of.aside) c.find_unit-next.ensures (sym c.command_of.ensures ∙ c.in_default.is) a.is;
      next = record {
        may = (λ told. absurd (cc), unit_ready g.P.Plant.tells (queue_here x m) m.checkpoint.tables m.id c.in-Some-aside_of.aside a.awaited.ready);
        most = omega (arith, a.awaited.most, some);
        units = omega (arith, a.awaited.units, a.awaited.done, some);
        left = omega (arith, a.awaited.units, some);
      };
      caused = λ units found le. tt;
    }

pub returns-in-None : goal.returns-in-None
returns-in-None g c =
    let p = c.args.progress in
    record {
      is = turn_next c.args.complex.now c.args.member.now c.args.holder c.requires.works p c.if-progress-eq0.false c.find_unit-next.result None None c.find_unit-next.ensures (sym c.command_of.ensures ∙ c.in_default.is) c.in-None.ensures.is;
      next = record { may = tt; most = omega arith; units = omega arith; left = omega arith };
      caused = λ units found le. inl (p.done, omega (arith, le), refl);
    }
