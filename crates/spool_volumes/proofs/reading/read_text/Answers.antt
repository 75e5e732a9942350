use Rattle.std.proofs.Common.{◌≡◌, ◌+◌, ◌++◌, ◌∷◌, ◌∙◌, true, false, refl, sym, ap, subst, List, Ok, take, drop, get_or, drop-cons, add-one}
use Rattle.std.proofs.lemmas.List.{take_all, take_more, take-append-drop}
use Rattle.std.proofs.lemmas.List.Elements.{All-get_or, All-nil}
use Rattle.mas_types.specs.declared.ids.GroupNo.{GroupNo}
use Rattle.mas_types.specs.Records.{is_record}
use Rattle.spool_volumes.specs.Looks.{lie_on_lost}
use Rattle.spool_volumes.specs.Volumes.{IsPlaced}
use Rattle.spool_volumes.proofs.LookLemmas.{looks_none, looks_then, spares_none, spares_then}
use Rattle.spool_volumes.proofs.ReadLemmas.{HaveRead, gone_next, left_next, left_whole, placed_later, read_more, whole_limited}
use Rattle.spool_volumes.proofs.reading.read_text.Goals as goal

abbrev none : GroupNo
none = record { 0 = 0 }

pub loop-group-init : goal.loop-group-init
loop-group-init g c = (record { looks = looks_none g.P.Plant.tells c.args.by.0 (g.P.Plant.view c.args.plant.now); all = λ told. sym c.none-lines.ensures; none = λ told. refl; limited = rw c.none-lines.ensures (All-nil (λ line. is_record line ≡ true)) }, spares_none c.args.by.0 c.args.per c.args.groups.now (g.P.Plant.view c.args.plant.now))

pub add_group-requires-clause-placed : goal.add_group-requires-clause-placed
add_group-requires-clause-placed g c =
    let first = g.P.Plant.view c.args.plant.now in
    let group = get_or c.args.groups.now c.loop-group.group-index none in
    placed_later first (g.P.Plant.view c.loop-group.plant) c.args.per group c.loop-group.invariant.0.looks.goes
    (All-get_or (IsPlaced first c.args.per) c.args.groups.now c.loop-group.group-index none c.loop-group-test.true c.requires.placed)

pub returns-in_err-add_group-clause-looks : goal.returns-in_err-add_group-clause-looks
returns-in_err-add_group-clause-looks g c =
    looks_then (g.P.Plant.view c.args.plant.now) (g.P.Plant.view c.loop-group.plant) (g.P.Plant.view c.add_group.new.plant) g.P.Plant.tells c.args.by.0 c.loop-group.invariant.0.looks c.add_group.ensures.looks

pub returns-then-not-branch-clause-looks : goal.returns-then-not-branch-clause-looks
returns-then-not-branch-clause-looks g c =
    looks_then (g.P.Plant.view c.args.plant.now) (g.P.Plant.view c.loop-group.plant) (g.P.Plant.view c.add_group.new.plant) g.P.Plant.tells c.args.by.0 c.loop-group.invariant.0.looks c.add_group.ensures.looks

pub returns-then-not-branch-clause-left : goal.returns-then-not-branch-clause-left
returns-then-not-branch-clause-left g c told kept =
    let groups = c.args.groups.now in
    let i = c.loop-group.group-index in
    let group = get_or groups i none in
    let new = g.P.Plant.view c.add_group.new.plant in
    let rest : drop i groups ≡ group ∷ drop (i + 1) groups = rw (drop-cons groups i none c.loop-group-test.true, add-one) refl in
    let split : groups ≡ take i groups ++ group ∷ drop (i + 1) groups = rw (← rest) (rw take-append-drop refl) in
    let gone = left_next g.P.Plant.tells c.args.by.0 (g.P.Plant.view c.args.plant.now) (g.P.Plant.view c.loop-group.plant) new c.args.per (take i groups) group (drop (i + 1) groups) c.loop-group.lines told c.loop-group.invariant.0 (c.in_ok-add_group.ensures.out (ap Ok c.if-not-branch.true) told)
    (subst (λ (l : List GroupNo). lie_on_lost new c.args.per l ≡ false) split kept) in
    c.gone.ensures ∙ rw (rw (← split) at gone) refl

pub returns-then-not-branch-clause-text : goal.returns-then-not-branch-clause-text
returns-then-not-branch-clause-text g c told steady =
    let groups = c.args.groups.now in
    let i = c.loop-group.group-index in
    let group = get_or groups i none in
    let rest : drop i groups ≡ group ∷ drop (i + 1) groups = rw (drop-cons groups i none c.loop-group-test.true, add-one) refl in
    let split : take i groups ++ group ∷ drop (i + 1) groups ≡ groups = rw (← rest) (take-append-drop i groups) in
    let gone = gone_next g.P.Plant.tells c.args.by.0 (g.P.Plant.view c.args.plant.now) (g.P.Plant.view c.loop-group.plant) (g.P.Plant.view c.add_group.new.plant) c.args.per (take i groups) group (drop (i + 1) groups) c.loop-group.lines told c.loop-group.invariant.0 c.add_group.ensures.looks.goes steady (c.in_ok-add_group.ensures.none (ap Ok c.if-not-branch.true) told) in
    c.gone.ensures ∙ rw (rw split at gone) refl

pub returns-clause-left : goal.returns-clause-left
returns-clause-left g c told kept =
    let groups = c.args.groups.now in
    let have : HaveRead g.P.Plant.tells c.args.by.0 (g.P.Plant.view c.args.plant.now) (g.P.Plant.view c.loop-group.plant) c.args.per groups c.loop-group.lines =
    subst (λ (l : List GroupNo). HaveRead g.P.Plant.tells c.args.by.0 (g.P.Plant.view c.args.plant.now) (g.P.Plant.view c.loop-group.plant) c.args.per l c.loop-group.lines) (take_all c.loop-group.group-index groups c.loop-group-test.false) c.loop-group.invariant.0 in
    c.ended.ensures.text ∙ left_whole g.P.Plant.tells c.args.by.0 (g.P.Plant.view c.args.plant.now) (g.P.Plant.view c.loop-group.plant) c.args.per c.args.count groups c.loop-group.lines told have

pub returns-clause-limited : goal.returns-clause-limited
returns-clause-limited g c = rw c.ended.ensures.text (whole_limited c.args.count c.args.groups.now c.loop-group.lines c.loop-group.invariant.0.limited)

pub loop-group-preserved : goal.loop-group-preserved
loop-group-preserved g c =
    let groups = c.args.groups.now in
    let i = c.loop-group.group-index in (
      rw (take_more groups i none c.loop-group-test.true)
          (read_more g.P.Plant.tells c.args.by.0 (g.P.Plant.view c.args.plant.now) (g.P.Plant.view c.loop-group.plant) (g.P.Plant.view c.add_group.new.plant) c.args.per (take i groups) (get_or groups i none) c.loop-group.lines c.add_group.new.lines c.loop-group.invariant.0
          c.add_group.ensures.looks (c.in_ok-add_group.ensures.added (ap Ok c.if-not-branch.false)) (c.in_ok-add_group.ensures.records (ap Ok c.if-not-branch.false))),
      spares_then c.args.by.0 c.args.per groups i none false (g.P.Plant.view c.args.plant.now) (g.P.Plant.view c.loop-group.plant) (g.P.Plant.view c.add_group.new.plant) c.loop-group-test.true c.loop-group.invariant.1 c.in_ok-add_group.ensures.spares,
    )

pub returns-then-not-branch-clause-spares : goal.returns-then-not-branch-clause-spares
returns-then-not-branch-clause-spares g c =
    spares_then c.args.by.0 c.args.per c.args.groups.now c.loop-group.group-index none false (g.P.Plant.view c.args.plant.now) (g.P.Plant.view c.loop-group.plant) (g.P.Plant.view c.add_group.new.plant) c.loop-group-test.true c.loop-group.invariant.1 c.in_ok-add_group.ensures.spares
