use Rattle.std.proofs.Common.{refl}
use Rattle.ckpt_pages.specs.declared.keys.PlaceKeys.{PlaceKeys}
use Rattle.ckpt_pages.proofs.KeyLemmas.{on_ok, deck_place, output_place}
use Rattle.ckpt_pages.proofs.keys.PlaceKeys.add.Goals as goal

pub returns-in-Deck : goal.returns-in-Deck
returns-in-Deck c =
    let old : PlaceKeys = c.args.self.now in
    let new : PlaceKeys = record { decks = c.add.new.set; prints = old.prints } in
    rw c.in-Deck.is (on_ok c.add.result (λ adds owners are. deck_place old new owners c.in-Deck.job c.in-Deck.place adds refl are) c.add.ensures)

pub returns-in-Output : goal.returns-in-Output
returns-in-Output c =
    let old : PlaceKeys = c.args.self.now in
    let new : PlaceKeys = record { decks = old.decks; prints = c.add-in-Output.new.set } in
    rw c.in-Output.is (on_ok c.add-in-Output.result (λ adds owners are. output_place old new owners c.in-Output.job c.in-Output.index c.in-Output.place adds refl are) c.add-in-Output.ensures)
