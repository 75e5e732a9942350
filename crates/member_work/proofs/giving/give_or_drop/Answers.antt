use Rattle.member_work.proofs.Names.{[], Ok, ◌∷◌, ◌∙◌, sym, subst, arith, entry_of, reply_to, IsNamedEnd, err_from_is_err_and, if_ok, tells_some, drop_groups, ended_as, GivesAt, LeavesTexts, asked}
use Rattle.mas_types.specs.declared.ids.NoMemory.{NoMemory}
use Rattle.member_work.proofs.GivingLemmas.{can_then, ended_refused, ended_taken, gives_none, one_more, then_gives}
use Rattle.member_work.proofs.giving.give_or_drop.Goals as goal

pub returns-in_err-end-clause-does : goal.returns-in_err-end-clause-does
returns-in_err-end-clause-does c =
    let m = c.args.member.now in
    let p = err_from_is_err_and c.from_residual.result c.from_residual.ensures.1 in
    rw (p.1, p.2) (record { has = c.give.ensures.does.has; gives = λ Q told. gives_none Q m.id c.args.step (ended_as (reply_to Q m.id c.args.command) c.args.command) _ m c.give.new.member _ (omega arith) c.in_err-end.ensures.err told; end = tt })

pub give_back-requires : goal.give_back-requires
give_back-requires c =
    let m = c.args.member.now in
    let h = c.give.ensures.does.has in
    let longer = one_more c.args.step c.args.command _ m c.give.new.member _ c.in_ok-end.ensures.does.gives in
    let order = h.order in
    record { can = can_then c.args.step m c.give.new.member m h c.requires.can; order = omega (arith, order, longer, c.requires.order) }

pub returns-in-Refused : goal.returns-in-Refused
returns-in-Refused c =
    let m = c.args.member.now in
    let d = c.args.command in
    let one = c.in_ok-end.ensures in
    let b = c.give_back.ensures.does in
    record {
      does = then_gives c.args.step d _ m c.give.new.member _ one.does.gives _ (λ Q. drop_groups ∷ []) _ (λ Q. c.in_ok-end.end) _ _ c.give_back.new.member c.give_back.result
          (λ Q told. let end = one.does.end Q told in (ended_refused (reply_to Q m.id d) d c.in-Refused.field-0 (sym end ∙ c.in-Refused.is), sym end))
          (λ Q told gone disks per h has. h.leaves gone has) (λ Q told disks per h. c.give.ensures.does.has.sound h.sound) c.give.ensures.does.has b;
      named = let s = tells_some c.give.new.member.checkpoint.tables in if_ok _ IsNamedEnd c.give_back.result (λ e is. subst IsNamedEnd (sym (is s.0 s.1)) one.named) b.end;
    }

pub returns : goal.returns
returns c =
    let m = c.args.member.now in
    let n = c.give.new.member in
    let d = c.args.command in
    let one = c.in_ok-end.ensures in
    record {
      does = record {
        has = c.give.ensures.does.has;
        gives = λ Q told.
            let g = one.does.gives Q told in
            subst (λ cs. GivesAt {E = NoMemory} (asked Q m.id c.args.step cs) (LeavesTexts m.checkpoint.tables Q (entry_of Q m.id c.args.step d)) m n (Ok c.in_ok-end.end)) (sym (ended_taken (reply_to Q m.id d) d (λ why is. c.in_default.not-Refused why (one.does.end Q told ∙ is))))
            (record { gave = g.gave; batch = g.batch; gives = record { part = g.gives.part; effect = g.gives.effect; texts = λ gone disks per h has. rw g.gives.part (h.leaves gone has) } });
        end = one.does.end;
      };
      named = one.named;
    }
