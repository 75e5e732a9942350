use Rattle.std.proofs.Common.{false, rules, ◌∙◌, List, length, refl, sym, ap, subst}
use denote.Param.{param}
use denote.Param.Send.{IsSend, IsSync, arg_send, param_send, recorded_send, sendable, shr_send, struct_send}
use Rattle.std.proofs.Crossing.{crosses}
use Rattle.mas_types.specs.declared.answers.Status.TheVariants as status
use Rattle.member_gate.specs.Passes.{members_of, view}
use Rattle.member_node.specs.declared.member.Member.{Member}
use Rattle.mas_types.specs.declared.answers.Status.{Status}
use Rattle.member_gate.specs.declared.view.View.{View}
use Rattle.race_run.specs.Races.{lesser}
use Rattle.race_run.specs.Racers.{MayRaceWithin, RacedWith}
use Rattle.race_run.specs.Rounds.{MayAllRace, RacedOn}
use Rattle.race_run.proofs.SendLemmas.{course_sync, form_send, four_send, gate_sync, member_row, nothing_send, pass_row, refusal_send, result_send, shared_send, two_send}
use Rattle.race_run.proofs.RoundLemmas.{may_next, may_others, may_split, root_still}
use Rattle.race_run.proofs.racers.+race_rest.Goals as goal

-- what a closure's captures and its result are made of
ruleset crossing = (param_send, arg_send, recorded_send, struct_send)

-- nobody is left
pub returns-in_default-clause-raced : goal.returns-in_default-clause-raced
returns-in_default-clause-raced g t c =
    let root = view c.args.root in
    subst (λ (ms : List Member). RacedOn g.P.Plant.tells g.J.Beginning.began.view c.args.course.now.lines.now root ms root status.Done) (sym c.in_default.ensures) (refl, refl)

-- THE NEXT ONE

pub split_next-pass-requires-clause-new : goal.split_next-pass-requires-clause-new
split_next-pass-requires-clause-new g t c =
    let steps = c.args.course.now.lines.now in
    let may = subst (λ (ms : List Member). MayAllRace c.args.root (λ s. s.complex) g.J.Beginning.began (members_of c.args.gate.now) ms steps) c.in-Some.ensures c.requires.may in
    may_split (λ s. s.complex) g.J.Beginning.began (members_of c.args.gate.now) c.in-Some.member c.next_member.new.members steps c.args.root may

pub split_next-pass-requires-clause-root : goal.split_next-pass-requires-clause-root
split_next-pass-requires-clause-root g t c = (c.requires.may.is_root.free, c.requires.may.is_root.root)

pub join-mine-requires-send-F : goal.join-mine-requires-send-F
join-mine-requires-send-F g t c κs within =
    let r : IsSync (param 0 g.row.R) = search rules in
    let p : IsSend (param 1 g.row.P) = search rules in
    let m : IsSync (param 2 g.row.M) = search rules in
    let j : IsSend (param 3 g.row.J) = search rules in
    search (crossing, shr_send, four_send, course_sync, gate_sync, pass_row, member_row, shared_send, form_send) depth 40 fits 20000

pub join-mine-requires-send-A : goal.join-mine-requires-send-A
join-mine-requires-send-A g t c κs within =
    let p : IsSend (param 1 g.row.P) = search rules in
    let j : IsSend (param 3 g.row.J) = search rules in
    search (crossing, two_send, pass_row, result_send, nothing_send, refusal_send, shared_send, form_send) depth 40 fits 20000

pub join-mine-requires-after_bounds : goal.join-mine-requires-after_bounds
join-mine-requires-after_bounds g t c κs within =
    let course = c.args.course.now in
    let count = members_of c.args.gate.now in
    let m = c.in-Some.member in
    let ms = c.next_member.new.members in
    let p = c.split_next-pass.result in
    let q = c.split_next-pass.new.root in
    let may = subst (λ (all : List Member). MayAllRace c.args.root (λ s. s.complex) g.J.Beginning.began count all course.lines.now) c.in-Some.ensures c.requires.may in
    let own : MayRaceWithin p (λ s. s.complex) g.J.Beginning.began m course.lines.now = may_next (λ s. s.complex) g.J.Beginning.began count m ms course.lines.now c.args.root may p c.split_next-pass.ensures.view in
    let others : MayAllRace q (λ s. s.complex) g.J.Beginning.began count ms course.lines.now = may_others (λ s. s.complex) g.J.Beginning.began count m ms course.lines.now c.args.root may q c.split_next-pass.ensures.root in
    let few = c.requires.few in
    let fewer = ap (λ (all : List Member). length all) c.in-Some.ensures in
    search (rules, sendable, crosses, within) depth 40 fits 200000

pub join-requires-clause-free : goal.join-requires-clause-free
join-requires-clause-free g t c =
    let steps = c.args.course.now.lines.now in
    let a = view c.join-mine.result.0.0 in
    let b = view c.join-mine.result.1.0 in
    let own : RacedWith g.P.Plant.tells g.J.Beginning.began.view (view c.split_next-pass.result) a c.in-Some.member.id steps c.join-mine.result.0.1 = search rules in
    let rest : RacedOn g.P.Plant.tells g.J.Beginning.began.view steps (view c.split_next-pass.new.root) c.next_member.new.members b c.join-mine.result.1.1 = search rules in
    let still = root_still g.P.Plant.tells g.J.Beginning.began.view steps false (view c.split_next-pass.new.root) c.next_member.new.members b c.join-mine.result.1.1 rest in
    (still.free ∙ ap (λ (w : View). w.has) c.split_next-pass.ensures.root ∙ c.requires.may.is_root.free, own.free)

pub returns-clause-raced : goal.returns-clause-raced
returns-clause-raced g t c =
    let tells = g.P.Plant.tells in
    let entry = g.J.Beginning.began.view in
    let steps = c.args.course.now.lines.now in
    let root = view c.args.root in
    let m = c.in-Some.member in
    let ms = c.next_member.new.members in
    let a = view c.join-mine.result.0.0 in
    let b = view c.join-mine.result.1.0 in
    let own : RacedWith tells entry (view c.split_next-pass.result) a m.id steps c.join-mine.result.0.1 = search rules in
    let rest : RacedOn tells entry steps (view c.split_next-pass.new.root) ms b c.join-mine.result.1.1 = search rules in
    subst (λ (all : List Member). RacedOn tells entry steps root all (view c.join.new.pass) c.lesser.result) (sym c.in-Some.ensures) (
      b,
      a,
      c.join-mine.result.0.1,
      c.join-mine.result.1.1,
      subst (λ (w : View). RacedOn tells entry steps w ms b c.join-mine.result.1.1) c.split_next-pass.ensures.root rest,
      subst (λ (w : View). RacedWith tells entry w a m.id steps c.join-mine.result.0.1) c.split_next-pass.ensures.view own,
      c.join.ensures.view,
      c.lesser.ensures ∙ ap (λ (s : Status). lesser s c.join-mine.result.1.1) c.status_of.ensures,
    )
