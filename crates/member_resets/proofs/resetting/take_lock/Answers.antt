use Rattle.std.proofs.Common.{◌≡◌, ◌∙◌, ◌||◌, Bool, ap, sym, subst}
use Rattle.std.proofs.Math.Logic.{∥∥₁_map}
use Rattle.mas_types.specs.declared.journals.Fate.{Fate}
use Rattle.mas_types.specs.Sound.{IsSound}
use Rattle.ckpt_copy.specs.Pages.{bytes_of, level}
use Rattle.mas_complex.specs.Parts.{Parts, parts_of}
use Rattle.warm_start.specs.Takeover.{fate_of}
use Rattle.member_node.specs.declared.member.NodeNo.{NodeNo}
use Rattle.member_hand.proofs.PieceLemmas.{played_frame}
use Rattle.member_sittings.specs.Whole.{queue_of}
use Rattle.member_resets.specs.Resetting.{IsTaken, IsUntaken, rested_in}
use Rattle.member_steps.proofs.LowCopies.{kept_sound}
use Rattle.member_resets.proofs.TakenCalmLemmas.{is_taken, others_stand, taken_base, taken_renewals, taken_since, unfound, untaken}
use Rattle.mas_complex.proofs.Values.{given_of}
use Rattle.member_resets.proofs.resetting.take_lock.Goals as goal
use Rattle.member_resets.proofs.resetting.take_lock.Goals.{then-complex, else-complex}

pub takeover-requires-clause-others : goal.takeover-requires-clause-others
takeover-requires-clause-others g c =
    let x = parts_of c.args.complex.now in
    others_stand x.batches x.placed x.book c.args.by x.current c.requires.stands.stands c.requires.up

-- IT WAS TAKEN

pub returns-clause-frame : goal.returns-clause-frame
returns-clause-frame g c =
    let x = parts_of c.args.complex.now in
    let z = parts_of c.takeover.new.complex in
    let now = (g.P.Plant.view z.plant).now in
    let leaves = c.takeover.ensures.leaves in
    played_frame x (parts_of c.rest_copies.new.complex)
    (ap (λ p. p.base) c.rest_copies.ensures ∙ ap (λ p. p.base) leaves ∙ taken_base c.takeover.result now c.args.by c.args.of z x)
    (ap (λ p. p.since) c.rest_copies.ensures ∙ ap (λ p. p.since) leaves ∙ taken_since c.takeover.result now c.args.by c.args.of z x)
    (ap (λ p. p.renewals) c.rest_copies.ensures ∙ ap (λ p. p.renewals) leaves ∙ taken_renewals c.takeover.result now c.args.by c.args.of z x)

pub returns-clause-taken : goal.returns-clause-taken
returns-clause-taken g c =
    let P = g.P.Plant in
    let C = g.C.Copying in
    let by = c.args.by in
    let of = c.args.of in
    let x = parts_of c.args.complex.now in
    let y = c.takeover.new.complex in
    let z = parts_of y in
    let e = c.in-Ok.ensures in
    let stands = c.requires.stands in
    let base : z.base ≡ x.base = ap (λ p. p.base) e.leaves in
    let sound : P.tells → IsSound (queue_of z) = λ t. kept_sound z.base z.batches z.current (ap (λ p. p.current) e.leaves) (subst IsSound (sym base) (stands.base_sound t)) (given_of y t (subst IsSound (sym base) (stands.base_sound t))) in
    let found : Fate = fate_of (level (bytes_of c.in-Ok.found)) x.level in
    let taken : IsTaken P C by of x (rested_in z) found =
    is_taken P C by of x z c.requires.by stands.stands c.in-Ok.found e.leaves e.acts e.tells c.args.complex.now.settled stands.begun stands.roomy sound y.settled in
    (found, subst (λ (p : Parts _ _). IsTaken P C by of x p found) (sym c.rest_copies.ensures) taken)

-- NOTHING WAS FOUND

pub node_no-requires : goal.node_no-requires
node_no-requires g c = unfound c.args.complex.now.book c.args.of c.requires.stopped c.requires.holds c.in-Err.no c.in-Err.ensures.refused

pub returns-in-Err-clause-frame : goal.returns-in-Err-clause-frame
returns-in-Err-clause-frame g c =
    let x = parts_of c.args.complex.now in
    let z = parts_of c.takeover.new.complex in
    let now = (g.P.Plant.view z.plant).now in
    let leaves = c.takeover.ensures.leaves in
    played_frame x z (ap (λ p. p.base) leaves ∙ taken_base c.takeover.result now c.args.by c.args.of z x) (ap (λ p. p.since) leaves ∙ taken_since c.takeover.result now c.args.by c.args.of z x) (ap (λ p. p.renewals) leaves ∙ taken_renewals c.takeover.result now c.args.by c.args.of z x)

pub returns-in-Err-clause-untaken : goal.returns-in-Err-clause-untaken
returns-in-Err-clause-untaken g c =
    let P = g.P.Plant in
    let C = g.C.Copying in
    let x = parts_of c.args.complex.now in
    let z = parts_of c.takeover.new.complex in
    let e = c.in-Err.ensures in
    let un = unfound x.book c.args.of c.requires.stopped c.requires.holds c.in-Err.no e.refused in
    let some : (z.first_alive || z.second_alive) ≡ c.if-complex.some =
    elim c.if-complex.branch [
      | then-complex w ↦ ap (λ (b : Bool). b || z.second_alive) w.if-complex.true ∙ sym w.if-complex.true ∙ sym w.some-is
      | else-complex w ↦ ap (λ (b : Bool). b || z.second_alive) w.if-complex.false ∙ sym w.some-is
    ] in
    subst (λ (e : NodeNo). IsUntaken P C c.args.by c.args.of x z e) (sym c.node_no.ensures)
    (untaken P C c.args.by c.args.of x z c.requires.by c.requires.stands.stands c.if-complex.some c.in-Err.no some un e.leaves e.acts e.tells)
