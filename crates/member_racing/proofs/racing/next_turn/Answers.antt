use Rattle.std.proofs.Common.{◌≡◌, ◌∙◌, inr, ap, Option, Some, None, Result, Err, refl, subst, sym}
use Rattle.std.proofs.lemmas.Result.{err_from_is_err_and}
use Rattle.mas_types.specs.Ids.{nobody}
use Rattle.mas_complex.specs.Parts.{Parts, parts_of}
use Rattle.race_turns.specs.Turns.{left_holder}
use Rattle.step_turns.specs.declared.states.Holder.{Holder}
use Rattle.member_node.specs.declared.member.NodeNo.{NodeNo}
use Rattle.member_racing.specs.Opened.{Tries}
use Rattle.member_racing.specs.Turning.{raced_at}
use Rattle.member_racing.specs.Waits.{MayActNext, MaySitNext, WaitsAt}
use Rattle.member_racing.specs.declared.stages.Stage.{Stage as Stands}
use Rattle.mas_types.specs.declared.journals.Batch.{Batch}
use Rattle.member_resets.specs.Asides.{MayActAfter}
use Rattle.member_racing.proofs.Beside.{acted_acting, beside_err, beside_ok, sat_acting}
use Rattle.member_racing.proofs.GoingOn.{right_now}
use Rattle.member_racing.proofs.Members.{few_of, inside_of, some_of}
use Rattle.member_racing.proofs.OpeningLemmas.{begun_open, free_now, goes_with, hold_free, unlocked_free}
use Rattle.member_racing.proofs.Turning.{up_begun}
use Rattle.member_racing.proofs.Turns.{may_take, nothing_flies}
use Rattle.member_racing.proofs.racing.next_turn.Goals as goal

pub stopped_holder-requires : goal.stopped_holder-requires
stopped_holder-requires g c = c.requires.may.rest.seated

-- A STOPPED MEMBER HOLDS THE LOCK

pub take_up-requires : goal.take_up-requires
take_up-requires g c =
    let x = c.args.complex.now in
    let m = c.args.member.now in
    let left : left_holder x.book ≡ Some c.in-Some.of = sym c.stopped_holder.ensures ∙ c.in-Some.is in
    record {
      may = may_take x c.requires.may.rest c.requires.may.some m c.args.step c.args._asked.now c.args.stage c.requires.may (begun_open c.args.step c.args.stage c.requires.begun) c.in-Some.of left
          (up_begun g.P.Plant g.C.Copying (parts_of x) m c.args.step c.args.stage c.requires.begun c.requires.may.waits.stands) x.book refl refl;
    }

pub returns-in_err-take_up-clause-tries : goal.returns-in_err-take_up-clause-tries
returns-in_err-take_up-clause-tries g c =
    let x = c.args.complex.now in
    let y = c.take_up.new.complex in
    let m = c.args.member.now in
    let e = c.in_err-take_up.field-0.0 in
    let r = raced_at m.id c.args.step c.args._asked.now c.args.stage in
    let left : left_holder x.book ≡ Some c.in-Some.of = sym c.stopped_holder.ensures ∙ c.in-Some.is in
    let p = err_from_is_err_and c.from_residual.result c.from_residual.ensures.1 in
    let failed : c.from_residual.result ≡ Err e = p.1 ∙ ap (λ (q : NodeNo). let f : Result Stands NodeNo = Err q in f) p.2 in
    subst (λ (q : Result Stands NodeNo). Tries r x y m c.take_up.new.member q) (sym failed)
    (beside_err x y c.args.step c.in-Some.of m c.take_up.new.member r e refl refl c.requires.may.some c.requires.may.unheld left c.requires.begun c.in_err-take_up.ensures.takes)

pub returns-in-Some-clause-tries : goal.returns-in-Some-clause-tries
returns-in-Some-clause-tries g c =
    let x = c.args.complex.now in
    let left : left_holder x.book ≡ Some c.in-Some.of = sym c.stopped_holder.ensures ∙ c.in-Some.is in
    beside_ok x c.take_up.new.complex c.args.step c.in-Some.of c.args.member.now c.take_up.new.member (raced_at c.args.member.now.id c.args.step c.args._asked.now c.args.stage) refl refl c.requires.may.some c.requires.may.unheld left c.requires.begun
    c.in_ok-take_up.ensures.takes

-- IT SITS

pub sit_turn-requires-clause-may : goal.sit_turn-requires-clause-may
sit_turn-requires-clause-may g c =
    let P = g.P.Plant in
    let C = g.C.Copying in
    let x = c.args.complex.now in
    let p = parts_of x in
    let m = c.args.member.now in
    let at = c.args.step in
    let stand = c.in-Sits.stand in
    let may = c.requires.may in
    let s : MaySitNext P C p m at stand = subst (λ (q : Stands). WaitsAt P C p m at q) c.in-Sits.is may.waits.stands in
    let none : x.book.holder ≡ nobody = free_now x.book may.unheld (sym c.stopped_holder.ensures ∙ c.in_default.is) in
    let some = some_of x.base.config m.id may.waits.member in
    let few = few_of x.base.config m.id may.waits.member may.waits.config in
    let inside = inside_of x.base.config m.id may.waits.member x.book may.rest.members in
    record {
      goes = goes_with x m at c.args._asked.now c.args.stage may (begun_open at c.args.stage c.requires.begun) none s.goes.up x.book (hold_free x.book m.id inside some few s.goes.up none) stand.holder
          (ap (λ (h : Holder). h.by) s.goes.holder) (ap (λ (h : Holder). h.step) s.goes.holder) (ap (λ (h : Holder). h.grant) s.goes.holder) stand.state s.goes.off s.goes.few;
      right = right_now P C p m.id stand.state stand.found s.goes.mine s.right;
      few = s.goes.few;
    }

pub sit_turn-requires-clause-grant : goal.sit_turn-requires-clause-grant
sit_turn-requires-clause-grant g c =
    let s : MaySitNext g.P.Plant g.C.Copying (parts_of c.args.complex.now) c.args.member.now c.args.step c.in-Sits.stand =
    subst (λ (q : Stands). WaitsAt g.P.Plant g.C.Copying (parts_of c.args.complex.now) c.args.member.now c.args.step q) c.in-Sits.is c.requires.may.waits.stands in
    ap (λ (h : Holder). h.grant) s.goes.holder

pub returns-in-Sits-clause-tries : goal.returns-in-Sits-clause-tries
returns-in-Sits-clause-tries g c =
    let x = c.args.complex.now in
    let none : left_holder x.book ≡ None = sym c.stopped_holder.ensures ∙ c.in_default.is in
    rw (c.in-Sits.is, none) (inr (c.requires.may.some, c.requires.may.unheld, c.sit_turn.ensures.sits))

-- IT ACTS

pub act_turn-requires-clause-lock : goal.act_turn-requires-clause-lock
act_turn-requires-clause-lock g c =
    let x = c.args.complex.now in
    let none : x.book.holder ≡ nobody = free_now x.book c.requires.may.unheld (sym c.stopped_holder.ensures ∙ c.in_default.is) in
    unlocked_free c.in-Acts.stand.state x.book c.args.member.now.id none

pub act_turn-requires-clause-may : goal.act_turn-requires-clause-may
act_turn-requires-clause-may g c =
    let s : MayActNext g.P.Plant g.C.Copying (parts_of c.args.complex.now) c.args.member.now c.args.step c.in-Acts.stand =
    subst (λ (q : Stands). WaitsAt g.P.Plant g.C.Copying (parts_of c.args.complex.now) c.args.member.now c.args.step q) c.in-Acts.is c.requires.may.waits.stands in
    subst (λ (q : Parts _ _). MayActAfter g.P.Plant q c.args.member.now c.in-Acts.stand.state) (ap (λ (o : Option Batch). record (parts_of c.args.complex.now) { current = o }) (sym (nothing_flies c.args.complex.now c.requires.may.rest c.requires.may.some (free_now c.args.complex.now.book c.requires.may.unheld (sym c.stopped_holder.ensures ∙ c.in_default.is))))) s.may

pub returns-in-Acts-clause-tries : goal.returns-in-Acts-clause-tries
returns-in-Acts-clause-tries g c =
    let x = c.args.complex.now in
    let none : left_holder x.book ≡ None = sym c.stopped_holder.ensures ∙ c.in_default.is in
    rw (c.in-Acts.is, none) (inr (c.requires.may.some, c.requires.may.unheld, (c.act_turn.ensures.acts, refl)))

-- WHERE IT WAITS FOR ACTS

pub returns-in-Sits-clause-acting : goal.returns-in-Sits-clause-acting
returns-in-Sits-clause-acting g c = rw c.in-Sits.is (sat_acting c.in-Sits.stand c.args.member.now c.sit_turn.new.member c.sit_turn.result)

pub returns-in-Acts-clause-acting : goal.returns-in-Acts-clause-acting
returns-in-Acts-clause-acting g c =
    rw c.in-Acts.is (acted_acting g.P.Plant g.C.Copying (parts_of c.args.complex.now) (parts_of c.act_turn.new.complex) c.in-Acts.stand c.args.member.now c.args.member.now c.act_turn.result c.act_turn.ensures.acts)
