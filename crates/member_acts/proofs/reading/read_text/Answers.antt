use Rattle.spool_volumes.specs.Texts.{text_unless}
use Rattle.member_acts.proofs.Names.{IsFailedRead, Read, sym, ap, get_or, subst, take, false, List, [], All-cons, All-get_or, All-nil, IsGroupOf, take_all, take_more, GroupNo, parts_of, sparing_then}
use Rattle.member_acts.specs.Reads.{AddsGroup, so_far}
use Rattle.member_acts.proofs.ReadLemmas.{HaveRead, read_more, read_well, read_whole, reads_then}
use Rattle.member_acts.proofs.reading.read_text.Goals as goal

abbrev none : GroupNo
none = record { 0 = 0 }

pub add_group-requires : goal.add_group-requires
add_group-requires g c =
    let x = c.args.complex.now in
    let groups = c.args.groups.now in
    let k = c.loop-group.group-index in
    let base = ap (λ p. p.base) c.loop-group.invariant.on.frame in
    record {
      up = rw (ap (λ p. p.book) c.loop-group.invariant.on.frame) c.requires.may.up;
      some = rw base c.requires.may.some;
      within = rw base (All-cons (IsGroupOf x.base.config) (get_or groups k none) [] (All-get_or (IsGroupOf x.base.config) groups k none c.loop-group-test.true c.requires.may.within) (All-nil (IsGroupOf x.base.config)));
    }

pub returns-in_err-volume-clause-on : goal.returns-in_err-volume-clause-on
returns-in_err-volume-clause-on g c = reads_then g.P.Plant c.args.by (parts_of c.args.complex.now) (parts_of c.loop-group.complex) (parts_of c.add_group.new.complex) c.loop-group.invariant.on c.add_group.ensures.on

pub returns-in-Some-clause-on : goal.returns-in-Some-clause-on
returns-in-Some-clause-on g c = reads_then g.P.Plant c.args.by (parts_of c.args.complex.now) (parts_of c.loop-group.complex) (parts_of c.add_group.new.complex) c.loop-group.invariant.on c.add_group.ensures.on

pub returns-in-Some-clause-cause : goal.returns-in-Some-clause-cause
returns-in-Some-clause-cause g c =
    let P = g.P.Plant in
    sparing_then c.args.by.0 false _ (P.view c.args.complex.now.plant) (P.view c.loop-group.complex.plant) (P.view c.add_group.new.complex.plant) c.loop-group.invariant.spares (rw c.in-Some.is at c.in_ok-volume.ensures.cause)

pub loop-group-preserved : goal.loop-group-preserved
loop-group-preserved g c =
    let x = c.args.complex.now in
    let y = c.loop-group.complex in
    let z = c.add_group.new.complex in
    let i = c.loop-group.invariant in
    let e = c.add_group.ensures in
    let groups = c.args.groups.now in
    let k = c.loop-group.group-index in
    let adds : AddsGroup g.P.Plant.tells y.base.config (get_or groups k none) (g.P.Plant.view y.plant) (so_far c.loop-group.lines c.loop-group.gone) (so_far c.add_group.new.lines c.add_group.new.gone) = rw c.in_default.is at c.in_ok-volume.ensures.added in
    let cause = rw c.in_default.is at c.in_ok-volume.ensures.cause in
    rw (take_more groups k none c.loop-group-test.true)
    (read_more g.P.Plant c.args.by (parts_of x) (parts_of y) (parts_of z) (take k groups) (get_or groups k none) c.loop-group.lines c.add_group.new.lines c.loop-group.gone c.add_group.new.gone i e.on cause (rw (ap (λ p. p.base) i.on.frame) at adds))

pub returns-clause-text : goal.returns-clause-text
returns-clause-text g c =
    let x = parts_of c.args.complex.now in
    let y = parts_of c.loop-group.complex in
    let groups = c.args.groups.now in
    let have : HaveRead g.P.Plant c.args.by x groups c.loop-group.lines c.loop-group.gone y
    = subst (λ (l : List GroupNo). HaveRead g.P.Plant c.args.by x l c.loop-group.lines c.loop-group.gone y) (take_all c.loop-group.group-index groups c.loop-group-test.false) c.loop-group.invariant in
    record {
      fits = c.ended.ensures.fits;
      counted = c.ended.ensures.counted;
      failed = subst (λ (r : Read). IsFailedRead x.base.config.groups groups r (g.P.Plant.view x.plant) (g.P.Plant.view y.plant)) (sym c.ended.ensures.text)
          (read_well x.base.config.groups groups (g.P.Plant.view x.plant) (g.P.Plant.view y.plant) (text_unless c.args.count groups c.loop-group.lines c.loop-group.gone)).failed;
      text = read_whole g.P.Plant c.args.by x y groups c.loop-group.lines c.loop-group.gone c.args.count c.ended.result have c.ended.ensures.text;
    }
