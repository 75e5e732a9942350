use Rattle.std.proofs.Common.{◌≡◌, ◌+◌, ◌++◌, ◌∙◌, ◌∷◌, [], ℕ, List, length, ap, sym, subst, arith}
use Rattle.std.proofs.lemmas.List.{length-append}
use Rattle.member_node.specs.declared.member.Member.{Member}
use Rattle.run_opening.specs.Fresh.{AreFreshFrom, IsFresh}
use Rattle.run_opening.proofs.BetweenLemmas.{fresh_more, fresh_of}
use Rattle.run_opening.proofs.members.members_of.Goals as goal

pub loop-before-preserved : goal.loop-before-preserved
loop-before-preserved c =
    let config = c.args.config.now in
    let ms = c.loop-before.members in
    let m = c.in_ok-member.member in
    let e = c.in_ok-member.ensures in
    let i = c.loop-before.invariant in
    let is : c.push.new.self ≡ ms ++ m ∷ [] = c.in_ok-push.ensures.ok in
    let one : IsFresh config (c.loop-before.before + 1) m = fresh_of config (c.loop-before.before + 1) m e.id e.config e.drawn e.batch e.room e.fresh in
    let here : c.loop-before.before + 1 ≡ 1 + length ms = omega (arith, i.many) in
    record {
      many = ap length is ∙ length-append ms (m ∷ []) ∙ ap (λ (n : ℕ). n + 1) i.many;
      each = subst (λ (ks : List Member). AreFreshFrom config 1 ks) (sym is) (fresh_more config 1 ms m i.each (subst (λ (n : ℕ). IsFresh config n m) here one));
    }
