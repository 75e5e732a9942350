use Rattle.std.proofs.Common.{◌≡◌, ◌∙◌, ◌≤◌, inl, inr, [], ap, refl, sym, subst, arith}
use Rattle.mas_types.specs.declared.ids.MemberId.{MemberId}
use Rattle.mas_types.specs.declared.queues.Config.{Config}
use Rattle.mas_types.specs.Fit.{IsConfig}
use Rattle.mas_complex.specs.Parts.{Parts, parts_of}
use Rattle.member_resets.specs.Quiet.{IsIdle}
use Rattle.member_node.specs.Drawn.{AreDrawn}
use Rattle.member_node.specs.declared.checkpoint.Checkpoint.{Checkpoint}
use Rattle.member_node.specs.declared.member.Member.{Member}
use Rattle.member_steps.proofs.PageLemmas.{few_pages}
use Rattle.member_steps.proofs.ReadLemmas.{pages_of_run}
use Rattle.member_racing.specs.Kinds.{TakesTurnOf}
use Rattle.member_racing.proofs.Beside.{ease_fresh, may_beside, on_done}
use Rattle.member_racing.proofs.taking.take_beside.Goals as goal

pub part_beside-requires-clause-config : goal.part_beside-requires-clause-config
part_beside-requires-clause-config g c = subst (λ (k : Config). IsConfig k) c.requires.may.config c.requires.may.fits

pub part_beside-requires-clause-pages : goal.part_beside-requires-clause-pages
part_beside-requires-clause-pages g c =
    let may = c.requires.may in
    let m = c.args.member.now in
    let pages = pages_of_run c.args.complex.now.base [] m.checkpoint m.room may.config may.idle.drawn may.idle.many in
    let few = few_pages c.args.complex.now.base.config may.fits in
    let many = may.idle.many in
    omega (arith, pages, few, many)

pub take_and_reset-taken-requires : goal.take_and_reset-taken-requires
take_and_reset-taken-requires g c =
    let o = c.in-Ok.ensures.other in
    let anew = o.anew in
    record {
      may = may_beside g.P.Plant g.C.Copying (parts_of c.args.complex.now) c.args.member.now c.in-Ok.other c.args.step c.args.of anew.id
          (record { nothing = anew.batch; drawn = o.drawn; many = anew.room }) anew.fresh o.config c.requires.may;
    }

pub returns-in_default-clause-takes : goal.returns-in_default-clause-takes
returns-in_default-clause-takes g c = inl (refl, c.part_beside.ensures.id, refl)

pub returns-clause-id : goal.returns-clause-id
returns-clause-id g c = c.part_beside.ensures.id

pub returns-clause-kept : goal.returns-clause-kept
returns-clause-kept g c = on_done c.take_and_reset-taken.result c.in-Ok.ensures.kept.checkpoint

pub returns-clause-takes : goal.returns-clause-takes
returns-clause-takes g c = inr (subst (λ (i : MemberId). TakesTurnOf i c.args.step c.args.of c.args.complex.now c.take_and_reset-taken.new.complex c.take_and_reset-taken.result) c.in-Ok.ensures.other.anew.id c.take_and_reset-taken.ensures.takes)

pub returns-clause-ease : goal.returns-clause-ease
returns-clause-ease g c =
    let may = c.requires.may in
    let m : Member = c.args.member.now in
    let k = c.in-Ok.ensures.kept in
    let anew = k.anew in
    let n : Member = c.part_beside.new.member in
    let same : n.checkpoint ≡ m.checkpoint = k.checkpoint in
    let idle : IsIdle n = record {
      nothing = anew.batch;
      drawn = subst (λ (p : Checkpoint). AreDrawn p.tables p.level p.levels p.pages) (sym same) may.idle.drawn;
      many = anew.room;
    } in
    on_done c.take_and_reset-taken.result (λ up. ease_fresh g.P.Plant g.C.Copying (parts_of c.take_and_reset-taken.new.complex) n idle anew.fresh
    (ap (λ (p : Parts _ _). p.base.config) c.take_and_reset-taken.ensures.frame ∙ may.config ∙ ap (λ (p : Checkpoint). p.tables.config) (sym same)))
