use Rattle.std.proofs.Common.{◌≤◌, ◌∙◌, length, slice_set, sym, ap, arith}
use Rattle.std.proofs.lemmas.Result.{on_ok_weaker, on_err_weaker}
use Rattle.member_core.specs.declared.worlds.MemberAt.{MemberAt}
use Rattle.member_core.specs.Events.{has_done}
use Rattle.member_core.proofs.Places.{change_past, change_found, set_same}
use Rattle.member_core.proofs.writes.do_in.Goals as goal

pub returns-then-m-len-clause-ok : goal.returns-then-m-len-clause-ok
returns-then-m-len-clause-ok c =
    let past : length c.args.members.now ≤ c.args.m.0 = omega (arith, c.len.ensures, c.if-m-len.true) in
    sym (change_past (has_done c.args.command.now c.args.entry) c.args.m.0 c.args.members.now past)

pub returns-clause-ok : goal.returns-clause-ok
returns-clause-ok c =
    on_ok_weaker c.do_at.result
    (λ done. ap (λ (x : MemberAt). slice_set c.args.members.now c.args.m.0 x) done
    ∙ sym (change_found (has_done c.args.command.now c.args.entry) c.args.m.0 c.args.members.now c.item_mut.result.now c.item_mut.ensures.value)) c.do_at.ensures.ok

pub returns-clause-err : goal.returns-clause-err
returns-clause-err c =
    on_err_weaker c.do_at.result
    (λ same. ap (λ (x : MemberAt). slice_set c.args.members.now c.args.m.0 x) same ∙ set_same c.args.m.0 c.args.members.now c.item_mut.result.now c.item_mut.ensures.value) c.do_at.ensures.err
