use Rattle.std.proofs.Common.{ℕ, refl, subst, ap, arith, nat_eq}
use Rattle.mas_types.specs.declared.queues.Owner.{Owner}
use Rattle.mas_types.specs.declared.queues.Owner.TheVariants as owner
use Rattle.mas_check.specs.declared.tallies.Tallies.{Tallies}
use Rattle.mas_check.specs.Groups.{has_text}
use Rattle.mas_check.specs.Tallies.{Counts, same_key}
use Rattle.mas_check.proofs.TallyLemmas.{on_ok, none_counted, deck_counted, output_counted, deck_few, output_few}
use Rattle.mas_check.proofs.tallies.Tallies.add.Goals as goal

pub count_in-requires : goal.count_in-requires
count_in-requires c = c.requires (owner.Deck c.in-Deck.job c.in-Deck.place)

pub count_in-requires-in-Output : goal.count_in-requires-in-Output
count_in-requires-in-Output c = c.requires (owner.Output c.in-Output.job c.in-Output.index c.in-Output.place)

pub returns-in-Deck : goal.returns-in-Deck
returns-in-Deck c =
    let old : Tallies = c.args.self.now in
    let new : Tallies = record { decks = c.count_in.new.tallies; prints = old.prints } in
    let n = c.in-Deck.job in
    record {
      counted = on_ok c.count_in.result (λ counts groups are.
          deck_counted old new groups c.args.group.now are n c.in-Deck.place c.in-Deck.is
          (subst (λ (r : ℕ). Counts nat_eq old.decks n.0 c.in-Deck.place r new.decks) c.unwrap_or-records.ensures counts) refl) c.count_in.ensures;
      few = on_ok c.count_in.result (λ counts. deck_few old new c.unwrap_or-records.result (omega arith) n c.in-Deck.place counts refl) c.count_in.ensures;
    }

pub returns-in-Output : goal.returns-in-Output
returns-in-Output c =
    let old : Tallies = c.args.self.now in
    let new : Tallies = record { decks = old.decks; prints = c.count_in-in-Output.new.tallies } in
    let n = c.in-Output.job in
    let i = c.in-Output.index in
    record {
      counted = on_ok c.count_in-in-Output.result (λ counts groups are.
          output_counted old new groups c.args.group.now are n i c.in-Output.place c.in-Output.is
          (subst (λ (r : ℕ). Counts same_key old.prints (n.0, i.0) c.in-Output.place r new.prints) c.unwrap_or-records.ensures counts) refl) c.count_in-in-Output.ensures;
      few = on_ok c.count_in-in-Output.result (λ counts. output_few old new c.unwrap_or-records.result (omega arith) n i c.in-Output.place counts refl) c.count_in-in-Output.ensures;
    }

pub returns-in-Free-clause-counted : goal.returns-in-Free-clause-counted
returns-in-Free-clause-counted c groups are = none_counted c.args.self.now groups c.args.group.now (ap (λ (o : Owner). has_text o) c.in-Free.is) are

pub returns-in-Member-clause-counted : goal.returns-in-Member-clause-counted
returns-in-Member-clause-counted c groups are = none_counted c.args.self.now groups c.args.group.now (ap (λ (o : Owner). has_text o) c.in-Member.is) are
