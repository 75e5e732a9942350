use Rattle.std.proofs.Common.{◌≡◌, ◌+◌, ◌++◌, ◌∙◌, ◌∷◌, [], ℕ, List, Option, Some, All, length, ap, sym, subst}
use Rattle.std.proofs.lemmas.List.{length-append}
use Rattle.std.proofs.lemmas.List.Elements.{All-nil, All-push}
use Rattle.run_opening.proofs.members.readers_of.Goals as goal

abbrev IsNew : Option (List ℕ) → Type 0
IsNew reader = reader ≡ Some []

pub loop-before-init : goal.loop-before-init
loop-before-init c = record { many = ap length c.new-readers.ensures; new = subst (All IsNew) (sym c.new-readers.ensures) (All-nil IsNew) }

pub loop-before-preserved : goal.loop-before-preserved
loop-before-preserved c =
    let rs = c.loop-before.readers in
    let r = c.new.result in
    let i = c.loop-before.invariant in
    let is : c.push.new.self ≡ rs ++ r ∷ [] = c.in_ok-push.ensures.ok in
    record {
      many = ap length is ∙ length-append rs (r ∷ []) ∙ ap (λ (n : ℕ). n + 1) i.many;
      new = subst (All IsNew) (sym is) (All-push IsNew rs r i.new c.new.ensures);
    }
