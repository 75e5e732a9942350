-- What holds of texts holds of them once one more is brought.
use Rattle.std.proofs.Common.{ℕ, ◌⊎◌, ⊎_elim, List, sym, subst}
use Rattle.std.proofs.lemmas.List.Elements.{All-weaker, All-contains}
use Rattle.mas_types.specs.declared.ids.GroupNo.{GroupNo}
use Rattle.mas_types.specs.declared.ids.JobNo.{JobNo}
use Rattle.mas_types.specs.declared.ids.OutNo.{OutNo}
use Rattle.mas_types.specs.declared.jobs.Text.{Text}
use Rattle.mas_types.specs.declared.jobs.Text.TheVariants.{Whole}
use Rattle.mas_types.specs.declared.queues.Queue.{Queue}
use Rattle.mas_types.specs.declared.queues.Thing.{Thing}
use Rattle.mas_types.specs.declared.queues.Thing.TheVariants.{Deck, Output}
use Rattle.track_groups.specs.Places.{groups_of}
use Rattle.queue_texts.specs.Leaving.{HoldsOfTexts, WasThere}
use Rattle.queue_texts.specs.Entering.{BringsText, IsBrought}

module _ (P : Thing → Text → List GroupNo → Type 0) (Q : Queue) (h : HoldsOfTexts P Q) where
  was_holds : (t : Thing) (text : Text) (groups : List GroupNo) → WasThere Q t text groups → P t text groups
  was_holds (Deck n) text groups w =
      let was : P (Deck w.job.number) w.job.text (groups_of (Deck w.job.number) Q.owners) = All-contains (λ j. P (Deck j.number) j.text (groups_of (Deck j.number) Q.owners)) Q.jobs w.job h.decks w.there in
      subst (P (Deck n) text) w.where_it_was (subst (λ (k : JobNo). P (Deck k) text (groups_of (Deck k) Q.owners)) w.number (subst (λ (x : Text). P (Deck w.job.number) x (groups_of (Deck w.job.number) Q.owners)) w.same was))
  was_holds (Output n i) text groups w =
      let was : P (Output w.output.job w.output.index) w.output.text (groups_of (Output w.output.job w.output.index) Q.owners) = All-contains (λ o. P (Output o.job o.index) o.text (groups_of (Output o.job o.index) Q.owners)) Q.outputs w.output h.outputs w.there in
      subst (P (Output n i) text) w.where_it_was
      (subst (λ (l : OutNo). P (Output n l) text (groups_of (Output n l) Q.owners)) w.index_is
      (subst (λ (k : JobNo). P (Output k w.output.index) text (groups_of (Output k w.output.index) Q.owners)) w.number
      (subst (λ (x : Text). P (Output w.output.job w.output.index) x (groups_of (Output w.output.job w.output.index) Q.owners)) w.same was)))

  module _ (its : Thing) (lines : List (List ℕ)) (places : List GroupNo) (new : P its (Whole lines) places) where
    either_holds : (t : Thing) (text : Text) (groups : List GroupNo) → IsBrought its lines places t text groups ⊎ WasThere Q t text groups → P t text groups
    either_holds t text groups is = ⊎_elim
        (λ (b : IsBrought its lines places t text groups). subst (P t text) (sym b.there) (subst (λ (x : Text). P t x places) (sym b.whole) (subst (λ (s : Thing). P s (Whole lines) places) (sym b.of_it) new)))
        (λ (w : WasThere Q t text groups). was_holds t text groups w)
        is

    pub brought_holds : (R : Queue) → BringsText Q its lines places R → HoldsOfTexts P R
    brought_holds R b = record {
      decks = All-weaker (λ j. IsBrought its lines places (Deck j.number) j.text (groups_of (Deck j.number) R.owners) ⊎ WasThere Q (Deck j.number) j.text (groups_of (Deck j.number) R.owners)) (λ j. P (Deck j.number) j.text (groups_of (Deck j.number) R.owners))
          (λ j is. either_holds (Deck j.number) j.text (groups_of (Deck j.number) R.owners) is) R.jobs b.decks;
      outputs = All-weaker (λ o. IsBrought its lines places (Output o.job o.index) o.text (groups_of (Output o.job o.index) R.owners) ⊎ WasThere Q (Output o.job o.index) o.text (groups_of (Output o.job o.index) R.owners)) (λ o. P (Output o.job o.index) o.text (groups_of (Output o.job o.index) R.owners))
          (λ o is. either_holds (Output o.job o.index) o.text (groups_of (Output o.job o.index) R.owners) is) R.outputs b.outputs;
    }
