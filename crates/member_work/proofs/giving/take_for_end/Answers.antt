use Rattle.member_work.proofs.Names.{◌≡◌, Ok, ◌-◌, ◌<◌, [], ◌∷◌, ◌∙◌, ap, subst, sym, refl, arith, MemberId, Config, Queue, is_member, Tell, reply_to, IsNamedEnd, end_by, err_from_is_err_and, step, if_ok, tells_some, take_counts, drop_groups, taking, TellSound, ended_as, GivesAt, asked}
use Rattle.mas_types.specs.declared.ids.NoMemory.{NoMemory}
use Rattle.mas_types.specs.declared.commands.Command.TheVariants as command
use Rattle.mas_types.specs.declared.commands.Reply.TheVariants as reply
use Rattle.job_outcome.specs.declared.units.UnitEnd.TheVariants as ends
use Rattle.member_work.proofs.GivingLemmas.{can_then, gives_by, gives_none, gives_so, leaves_texts, one_more, one_reply, taken_all, taken_none, taken_some, taking_long, then_gives}
use Rattle.member_work.proofs.giving.take_for_end.Goals as goal
use Rattle.member_work.proofs.giving.take_for_end.Goals.{In-Count}

-- the first Take gave so many groups
got : (c : In-Count) (Q : Queue) → Tell c.args.member.now.checkpoint.tables Q → (step Q c.args.member.now.id (command.Take c.args.needed)).1 ≡ reply.Count c.in-Count.taken
got c Q told = one_reply c.args.step (command.Take c.args.needed) _ c.args.member.now c.give.new.member _ c.in_ok-end.ensures.does.gives c.last_reply.result.now c.last_reply.ensures Q told ∙ c.in-Count.is

less : (c : In-Count) → (c.in-Count.taken ≡ c.args.needed → ⊥) → c.in-Count.taken < c.args.needed
less c apart = let s = tells_some c.args.member.now.checkpoint.tables in let le = (take_counts s.0 c.args.member.now.id c.args.needed c.in-Count.taken c.requires.needed (got c s.0 s.1)).1 in omega (arith, le, apart)

pub give-requires : goal.give-requires
give-requires c =
    let can = c.requires.can in
    record { here = can.here; own = record { fit = tt; giver = (can.some, can.by); may = λ s. ap (λ (k : Config). is_member k c.args.member.now.id) s.told.config ∙ can.member }; spelling = can.spelling; fit = can.fit; order = omega (arith, c.requires.order) }

pub returns-in_err-end-clause-does : goal.returns-in_err-end-clause-does
returns-in_err-end-clause-does c =
    let m = c.args.member.now in
    let p = err_from_is_err_and c.from_residual.result c.from_residual.ensures.1 in
    rw (p.1, p.2) (record { has = c.give.ensures.does.has; gives = λ Q told. gives_none Q m.id c.args.step (taking Q m.id c.args.needed) _ m c.give.new.member _ (taking_long Q m.id c.args.needed c.requires.needed) c.in_err-end.ensures.err told; end = tt })

pub last_reply-requires : goal.last_reply-requires
last_reply-requires c = let more = one_more c.args.step (command.Take c.args.needed) _ c.args.member.now c.give.new.member _ c.in_ok-end.ensures.does.gives in omega (arith, more)

-- IT WAS REFUSED

pub give_back-requires : goal.give_back-requires
give_back-requires c =
    let m = c.args.member.now in
    let h = c.give.ensures.does.has in
    let more = one_more c.args.step (command.Take c.args.needed) _ m c.give.new.member _ c.in_ok-end.ensures.does.gives in
    let order = h.order in
    record { can = can_then c.args.step m c.give.new.member m h c.requires.can; order = omega (arith, order, more, c.requires.order) }

pub returns-in_default : goal.returns-in_default
returns-in_default c =
    let m = c.args.member.now in
    let n = c.give.new.member in
    let take = command.Take c.args.needed in
    let one = c.in_ok-end.ensures in
    let b = c.give_back.ensures.does in
    record {
      does = then_gives c.args.step take _ m n _ one.does.gives _ (λ Q. drop_groups ∷ []) _ (λ Q. c.in_ok-end.end) _ _ c.give_back.new.member c.give_back.result
          (λ Q told.
          let its = taken_none Q m.id c.args.step c.args.needed c.requires.needed (λ k is. c.in_default.not-Count k (sym (one_reply c.args.step take _ m n _ one.does.gives c.last_reply.result.now c.last_reply.ensures Q told) ∙ is)) in
          (its.0, its.1 ∙ sym (one.does.end Q told)))
          (λ Q told gone disks per s. leaves_texts c.law_of_texts.ensures.texts c.law_of_texts.ensures.told Q m.id c.args.step take m.checkpoint.tables told gone disks per (s, refl))
          (λ Q told disks per s. c.give.ensures.does.has.sound s) c.give.ensures.does.has b;
      named = let s = tells_some n.checkpoint.tables in if_ok _ IsNamedEnd c.give_back.result (λ e is. subst IsNamedEnd (sym (is s.0 s.1)) one.named) b.end;
    }

-- IT GAVE ALL GROUPS

pub returns-then-taken-needed : goal.returns-then-taken-needed
returns-then-taken-needed c =
    let m = c.args.member.now in
    let n = c.give.new.member in
    let w = (goal.at.returns-then-taken-needed c).In-Count in
    let all = λ (Q : Queue) (told : Tell m.checkpoint.tables Q). taken_all Q m.id c.args.step c.args.needed c.requires.needed (got w Q told ∙ ap reply.Count c.if-taken-needed.true) in
    record {
      does = record {
        has = c.give.ensures.does.has;
        gives = λ Q told. subst (λ cs. GivesAt {E = NoMemory} (asked Q m.id c.args.step cs) (λ disks per. TellSound m.checkpoint.tables) m n (Ok ends.Done)) (sym (all Q told).0) (gives_by (asked Q m.id c.args.step (command.Take c.args.needed ∷ [])) _ _ m n (Ok c.in_ok-end.end) (Ok ends.Done) (λ gave its part. part) (λ disks per s. (s, refl)) (c.in_ok-end.ensures.does.gives Q told));
        end = λ Q told. sym (all Q told).1;
      };
      named = tt;
    }

-- IT GAVE SOME GROUPS

pub overflow_sub-want : goal.overflow_sub-want
overflow_sub-want c = let lt = less (goal.at.overflow_sub-want c).In-Count c.if-taken-needed.false in omega (arith, lt)

pub give_or_drop-requires : goal.give_or_drop-requires
give_or_drop-requires c =
    let m = c.args.member.now in
    let h = c.give.ensures.does.has in
    let can = can_then c.args.step m c.give.new.member m h c.requires.can in
    let more = one_more c.args.step (command.Take c.args.needed) _ m c.give.new.member _ c.in_ok-end.ensures.does.gives in
    let order = h.order in
    record { can = can; own = record { fit = tt; giver = (can.some, can.by); may = λ s. ap (λ (k : Config). is_member k c.give.new.member.id) s.told.config ∙ can.member }; order = omega (arith, order, more, c.requires.order) }

pub returns : goal.returns
returns c =
    let m = c.args.member.now in
    let n = c.give.new.member in
    let take = command.Take c.args.needed in
    let second = command.Take (c.args.needed - c.in-Count.taken) in
    let w = (goal.at.returns c).In-Count in
    let laws = c.law_of_texts.ensures in
    let id = c.give.ensures.does.has.id in
    record {
      does = then_gives c.args.step take _ m n _ c.in_ok-end.ensures.does.gives _ (λ Q. ended_as (reply_to Q n.id second) second) _ (λ Q. end_by (reply_to Q n.id second)) _ _ c.give_or_drop.new.member c.give_or_drop.result
          (λ Q told.
          let Q1 : Queue = (step Q m.id take).0 in
          let its = taken_some Q m.id c.args.step c.args.needed c.requires.needed c.in-Count.taken (got w Q told) (less w c.if-taken-needed.false) in
          (its.0 ∙ ap (λ (i : MemberId). take ∷ ended_as (reply_to Q1 i second) second) (sym id), its.1 ∙ ap (λ (i : MemberId). end_by (reply_to Q1 i second)) (sym id)))
          (λ Q told gone disks per s. leaves_texts laws.texts laws.told Q m.id c.args.step take m.checkpoint.tables told gone disks per (s, refl))
          (λ Q told disks per s. c.give.ensures.does.has.sound s) c.give.ensures.does.has
          (gives_so c.args.step (λ Q. ended_as (reply_to Q n.id second) second) _ (λ Q. end_by (reply_to Q n.id second)) _ (λ Q disks per. TellSound n.checkpoint.tables) n c.give_or_drop.new.member _ (λ Q. refl)
          (λ Q told disks per s. record { sound = s; leaves = λ gone has. leaves_texts laws.texts laws.told Q n.id c.args.step second n.checkpoint.tables told gone disks per (s, refl) has }) c.give_or_drop.ensures.does);
      named = c.give_or_drop.ensures.named;
    }
