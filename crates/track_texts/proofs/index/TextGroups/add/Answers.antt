use Rattle.std.proofs.Common.{ℕ, ◌∙◌, sym, subst}
use Rattle.track_texts.specs.declared.index.TextGroups.{TextGroups}
use Rattle.track_texts.specs.Index.{Adds}
use Rattle.track_texts.proofs.IndexLemmas.{on_ok, one_more, none_more}
use Rattle.track_texts.proofs.index.TextGroups.add.Goals as goal

pub returns-in-Some : goal.returns-in-Some
returns-in-Some c =
    let old : TextGroups = c.args.self.now in
    let new : TextGroups = record { groups = c.add_under.new.groups } in
    let key = c.in-Some.key in
    let place = c.in-Some.place in
    on_ok c.add_under.result (λ adds before long are.
    one_more old new before c.args.owner key place (sym c.placed.ensures ∙ c.in-Some.is)
    (subst (λ (n : ℕ). Adds old.groups key (record { place = place; group = record { 0 = n } }) new.groups) (sym long) adds) are) c.add_under.ensures

pub returns-in-None : goal.returns-in-None
returns-in-None c before long are = none_more c.args.self.now before c.args.owner (sym c.placed.ensures ∙ c.in-None.is) are
