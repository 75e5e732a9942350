use Rattle.std.proofs.Common.{rules, ◌≡◌, ap, subst, ◌∙◌, true, false, take}
use Rattle.gate_facts.specs.Values.{marked_at, begun_of}
use Rattle.member_gate.specs.Views.{joined, Meets}
use Rattle.member_gate.specs.Passes.{view, IsSame}
use Rattle.gate_example.specs.Writing.{written, diary_facts}
use Rattle.gate_example.proofs.Entries.{joined_first, joined_second}
use Rattle.gate_example.proofs.hands.two.Goals as goal

pub returns-clause-first : goal.returns-clause-first
returns-clause-first g c =
    let a = view c.join-a.result.0.0 in
    let b = view c.join-a.result.1.0 in
    let sa : IsSame (view c.split-one.result) a = search rules in
    let sb : IsSame (view c.split-two.result) b = search rules in
    let ta : begun_of a.bare.last 1 ≡ written 1 (take c.join-a.result.0.1 c.args.first.now) = search rules in
    let ca : marked_at a.cares 1 ≡ true = ap (λ l. marked_at l 1) (sa.cares ∙ ap (λ v. v.cares) c.split-one.ensures.right.1) in
    let cb : marked_at b.cares 1 ≡ false = ap (λ l. marked_at l 1) (sb.cares ∙ ap (λ v. v.cares) c.split-two.ensures.right.1) in
    let k = subst (λ v. Meets v false (diary_facts c.close-diary.result.entries)) (c.join-2.ensures.view ∙ ap (λ v. joined v b) c.join.ensures.view) c.close-diary.ensures.value.bare.0 in
    joined_first (view c.split-two.new.pass) a b _ 1 ca cb k ∙ ta

pub returns-clause-second : goal.returns-clause-second
returns-clause-second g c =
    let a = view c.join-a.result.0.0 in
    let b = view c.join-a.result.1.0 in
    let sb : IsSame (view c.split-two.result) b = search rules in
    let tb : begun_of b.bare.last 2 ≡ written 2 (take c.join-a.result.1.1 c.args.second.now) = search rules in
    let cb : marked_at b.cares 2 ≡ true = ap (λ l. marked_at l 2) (sb.cares ∙ ap (λ v. v.cares) c.split-two.ensures.right.1) in
    let k = subst (λ v. Meets v false (diary_facts c.close-diary.result.entries)) (c.join-2.ensures.view ∙ ap (λ v. joined v b) c.join.ensures.view) c.close-diary.ensures.value.bare.0 in
    joined_second (view c.split-two.new.pass) a b _ 2 cb k ∙ tb
