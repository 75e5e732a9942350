use Rattle.std.proofs.Common.{true, refl}
use Rattle.mas_types.specs.Owners.{is_deck_of, is_output_of}
use Rattle.ckpt_pages.specs.Keys.{same_print_key}
use Rattle.ckpt_pages.proofs.KeyLemmas.{on_ok, and_true, more_with, more_without}
use Rattle.ckpt_pages.proofs.keys.GroupKeys.add.Goals as goal

pub returns-in-Output : goal.returns-in-Output
returns-in-Output c =
    rw c.in-Output.is
    (on_ok c.add-in-Output.result (λ adds owners are. record {
      decks = λ n. more_without (is_deck_of n) owners _ _ refl (are.decks n);
      prints = λ n i. more_with (is_output_of n i) owners _ same_print_key c.args.self.now.prints c.add-in-Output.new.set true (c.in-Output.job.0, c.in-Output.index.0) (n.0, i.0) adds (and_true _) (are.prints n i);
    }) c.add-in-Output.ensures)
