use Rattle.member_work.proofs.Names.{◌∙◌, ap, refl, [], ◌∷◌, Config, is_member, err_from_is_err_and, drop_groups, asked}
use Rattle.member_work.proofs.GivingLemmas.{gives_by}
use Rattle.member_work.proofs.giving.give_back.Goals as goal

pub give-requires : goal.give-requires
give-requires c =
    let can = c.requires.can in
    record { here = can.here; own = record { fit = tt; giver = (can.some, can.by); may = λ s. ap (λ (k : Config). is_member k c.args.member.now.id) s.told.config ∙ can.member }; spelling = can.spelling; fit = can.fit; order = c.requires.order }

pub returns-in_err-give-clause-does : goal.returns-in_err-give-clause-does
returns-in_err-give-clause-does c =
    let m = c.args.member.now in
    let d = c.in_err-give.ensures.does in
    let p = err_from_is_err_and c.from_residual.result c.from_residual.ensures.1 in
    rw (p.1, p.2) (record { has = d.has; gives = λ Q told. gives_by (asked Q m.id c.args.step (drop_groups ∷ [])) _ _ m c.give.new.member _ _ (λ gave all part. part) (λ disks per s. (s, refl)) (d.gives Q told); end = tt })

pub returns-clause-does : goal.returns-clause-does
returns-clause-does c =
    let m = c.args.member.now in
    let d = c.in_ok-give.ensures.does in
    record { has = d.has; gives = λ Q told. gives_by (asked Q m.id c.args.step (drop_groups ∷ [])) _ _ m c.give.new.member _ _ (λ gave all part. part) (λ disks per s. (s, refl)) (d.gives Q told); end = λ Q told. refl }
