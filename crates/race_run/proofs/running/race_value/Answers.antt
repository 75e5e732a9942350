use Rattle.std.proofs.Common.{◌∙◌, sym, ap, subst, false, arith}
use Rattle.gate_facts.specs.Ways.{EachWay}
use Rattle.gate_turns.specs.Shared.{facts_of}
use Rattle.mas_complex.specs.Parts.{shown_of}
use Rattle.mas_race.specs.Beginnings.{Began, IsFrom}
use Rattle.mas_race.specs.Passings.{RestsAs}
use Rattle.member_gate.specs.Passes.{members_of, view}
use Rattle.member_gate.specs.Views.{Finds, MayBegin as MayOpen, ending, opened, opener}
use Rattle.race_run.specs.Rounds.{RacedOn}
use Rattle.race_run.specs.Values.{HaveAllRaced}
use Rattle.race_run.proofs.RoundLemmas.{root_still}
use Rattle.race_run.proofs.ValueLemmas.{all_raced, may_all, not_raced, root_opens}
use Rattle.race_run.proofs.running.race_value.Goals as goal

pub new-shared-requires : goal.new-shared-requires
new-shared-requires g c = record {
  rests = record {
    between = c.requires.begin.between;
    from = subst (λ (b : Began). IsFrom b c.args.complex) c.requires.began c.requires.begin.from;
  };
}

pub make-requires-clause-value : goal.make-requires-clause-value
make-requires-clause-value g c =
    subst (λ x. EachWay g.P.Plant.tells (λ told. MayOpen (facts_of told (shown_of x)))) (sym c.new-shared.ensures.complex) c.requires.begin.opens

pub race_rest-root-requires-clause-may : goal.race_rest-root-requires-clause-may
race_rest-root-requires-clause-may g c κs within =
    let made = c.in-Ok.ensures.ok in
    let few = c.requires.begin.few in
    may_all c.in-Ok.root (λ s. s.complex) g.J.Beginning.began (members_of c.in-Ok.gate) c.args.complex c.args.members c.args.course.now.lines.now
    c.requires.began c.requires.begin (made.1 ∙ omega (arith, few))
    (made.2 ∙ ap (λ x. ending (opened (opener (λ told. facts_of told (shown_of x))))) c.new-shared.ensures.complex)

pub close-shared-requires-clause-free : goal.close-shared-requires-clause-free
close-shared-requires-clause-free g c =
    let made = c.in-Ok.ensures.ok in
    (root_still g.P.Plant.tells g.J.Beginning.began.view c.args.course.now.lines.now false (view c.in-Ok.root) c.args.members (view c.race_rest-root.result.0) c.race_rest-root.result.1 c.race_rest-root.ensures.raced).free
    ∙ ap (λ w. w.has) made.2

pub returns-in-Ok : goal.returns-in-Ok
returns-in-Ok g c =
    let made = c.in-Ok.ensures.ok in
    let x = c.args.complex in
    let y = c.into_complex.result in
    let ms = c.args.members in
    let steps = c.args.course.now.lines.now in
    let root = view c.in-Ok.root in
    let end = view c.race_rest-root.result.0 in
    let answer = c.race_rest-root.result.1 in
    let facts = made.2 ∙ ap (λ z. ending (opened (opener (λ told. facts_of told (shown_of z))))) c.new-shared.ensures.complex in
    record {
      raced = all_raced x y ms steps root end answer c.requires.begin
          (subst (λ (b : Began). RacedOn g.P.Plant.tells b.view steps root ms end answer) (sym c.requires.began) c.race_rest-root.ensures.raced)
          (root_opens (λ told. facts_of told (shown_of x)) root facts)
          (subst (λ z. Finds g.P.Plant.tells end (λ told. facts_of told (shown_of z))) (sym c.into_complex.ensures) c.close-shared.ensures.value)
          (subst (λ (b : Began). RestsAs b y) (sym c.requires.began)
          (subst (λ z. RestsAs g.J.Beginning.began z) (sym c.into_complex.ensures) (record { between = c.close-shared.result.rest; from = c.close-shared.result.from })));
    }

pub returns-in-Err : goal.returns-in-Err
returns-in-Err g c =
    let same = c.into_complex-in-Err.ensures ∙ ap (λ s. s.complex) c.in-Err.ensures.err ∙ c.new-shared.ensures.complex in
    record { raced = subst (λ y. HaveAllRaced c.args.complex y c.args.course.now.lines.now _) (sym same) (not_raced c.args.complex c.args.members c.args.course.now.lines.now c.requires.begin) }
