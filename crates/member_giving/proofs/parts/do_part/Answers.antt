use Rattle.member_giving.proofs.Names.{TellSound, [], ◌∷◌, ap, subst, sym, arith, end_by, closing_reply, given_in, ending, is_member, Config, IsNamedEnd, tells_some, if_ok, ◌∙◌, MayEnd, end_ending, ended_leaves, gives_so}
use Rattle.member_giving.proofs.Given.{closing_one}
use Rattle.member_giving.proofs.parts.do_part.Goals as goal

pub give-requires : goal.give-requires
give-requires c =
    let own = rw c.in-One.is at c.requires.own in
    let order = rw c.in-One.is at c.requires.order in
    record { here = c.requires.can.here; own = own.0; spelling = c.requires.can.spelling; fit = c.requires.can.fit; order = omega (arith, order) }

pub returns-in-One : goal.returns-in-One
returns-in-One c =
    let m = c.args.member.now in
    let at = c.args.step in
    let d = c.in-One.command in
    let own = rw c.in-One.is at c.requires.own in
    rw c.in-One.is (record { does = gives_so at (λ Q. d ∷ []) _ (λ Q. end_by (closing_reply (given_in Q m.id at (d ∷ [])))) _ _ m c.give.new.member _ (λ Q. ap end_by (sym (closing_one Q m.id at d own.1))) (λ Q told disks per h. h) c.give.ensures.does; named = c.give.ensures.named })

pub take_for_end-requires : goal.take_for_end-requires
take_for_end-requires c = let order = rw c.in-Groups.is at c.requires.order in record { can = c.requires.can; needed = rw c.in-Groups.is at c.requires.own; order = omega (arith, order) }

pub returns-in-Groups : goal.returns-in-Groups
returns-in-Groups c = rw c.in-Groups.is (record { does = c.take_for_end.ensures.does; named = c.take_for_end.ensures.named })

pub give_or_drop-requires : goal.give_or_drop-requires
give_or_drop-requires c =
    let can = c.requires.can in
    let outputs = rw c.in-Ended.is at c.requires.own in
    let order = rw c.in-Ended.is at c.requires.order in
    record { can = can; own = record { fit = (outputs.few, outputs.each); giver = (can.some, can.by); may = λ s. ap (λ (k : Config). is_member k c.args.member.now.id) s.told.config ∙ can.member }; order = omega (arith, order) }

pub returns-in-Ended : goal.returns-in-Ended
returns-in-Ended c =
    let m = c.args.member.now in
    let t = m.checkpoint.tables in
    let at = c.args.step in
    let n = c.in-Ended.job in
    let specs = c.in-Ended.outputs in
    rw c.in-Ended.is (record {
      does = gives_so at (λ Q. ending Q m.id n specs) _ (λ Q. end_by (closing_reply (given_in Q m.id at (ending Q m.id n specs)))) _ (λ Q disks per. TellSound t × MayEnd Q m.id n specs disks per) m c.give_or_drop.new.member _ (λ Q. sym (end_ending Q m.id at n specs))
          (λ Q told disks per h. record { sound = h.0; leaves = λ gone has. ended_leaves c.law_of_ended_texts.ensures c.law_of_texts.ensures.told t Q m.id at n specs told gone disks per h has }) c.give_or_drop.ensures.does;
      named = c.give_or_drop.ensures.named;
    })

pub give_back-requires : goal.give_back-requires
give_back-requires c = let order = rw c.in-Lost.is at c.requires.order in record { can = c.requires.can; order = omega (arith, order) }

pub returns-in-Lost : goal.returns-in-Lost
returns-in-Lost c =
    let d = c.give_back.ensures.does in
    let s = tells_some c.args.member.now.checkpoint.tables in
    rw c.in-Lost.is (record { does = d; named = if_ok _ IsNamedEnd c.give_back.result (λ end is. subst IsNamedEnd (sym (is s.0 s.1)) tt) d.end })
