-- A step that is told leaves nothing more.
use Rattle.std.proofs.Common.{◌≡◌, inr, ℕ, false, List, [], Option, None, Ok, append-nil, refl, sym, ap, ◌∙◌, subst, arith}
use Rattle.std.proofs.lemmas.List.Elements.{All-nil}
use Rattle.spool_plant.specs.View.{View, paper_now}
use Rattle.spool_plant.specs.declared.plant.Plant.{Ghosts as PlantGhosts}
use Rattle.ckpt_copy.specs.declared.copying.Copying.{Ghosts as CopyGhosts}
use Rattle.mas_complex.specs.Journals.{end_of}
use Rattle.mas_complex.specs.Parts.{Parts}
use Rattle.mas_complex.specs.Paper.{SamePapers}
use Rattle.member_node.specs.Calls.{IsOnlyOn, console_now, none_lost}
use Rattle.member_node.proofs.CourseLemmas.{course_none, only_none, papers_none, stay_none}
use Rattle.member_node.proofs.SpareLemmas.{spares_none}
use Rattle.step_turns.specs.States.{nothing_found}
use Rattle.step_turns.specs.declared.states.State.{State}
use Rattle.step_turns.specs.declared.states.State.TheVariants.{Told}
use Rattle.run_turns.specs.Sights.{clear}
use Rattle.member_sittings.specs.Sat.{Start, journal_of}
use Rattle.member_sittings.specs.Whole.{queue_of}
use Rattle.member_sittings.specs.Tight.{IfNoWork}
use Rattle.member_hand.specs.Shapes.{AreShaped}
use Rattle.member_hand.specs.Hears.{HearsStep, ReaderStaysFrom, line_served}
use Rattle.member_hand.specs.Plays.{IfCommand, IfNoPrint, HasActedIn, HasCut, HasPlayed, pieces_at}
use Rattle.member_hand.specs.Quiet.{IsQuiet}
use Rattle.member_hand.proofs.Passages.{passage_of}
use Rattle.member_hand.proofs.Wiring.{gives_none, takes_none}

module _ {P C : Type 0} (plants : PlantGhosts P) (copies : CopyGhosts C) where
  abbrev v : Parts P C → View
  v x = plants.view x.plant

  -- where nothing is placed the journal is its batches
  pub journal_is : (x : Parts P C) → x.current ≡ None → x.placed ≡ false → journal_of x ≡ x.batches
  journal_is x none unplaced = ap (λ c. end_of x.placed c x.batches) none ∙ ap (λ b. end_of b None x.batches) unplaced

  module _ (s : Start) (x : Parts P C) (pages : ℕ) (quiet : IsQuiet plants copies x pages) (told : s.state ≡ Told) (found : plants.tells → s.found ≡ nothing_found) where
    nothing_left : HasCut plants copies s.holder [] None x x (Ok tt)
    nothing_left = record {
      of = All-nil _;
      by_answer = refl;
      leaves = record { more = []; journal = journal_is x quiet.none quiet.unplaced ∙ sym (append-nil x.batches); batches = tt; book = refl };
    }

    nothing_acted : HasActedIn plants copies s.holder.by x x (Ok tt)
    nothing_acted = record { course = passage_of x.first_alive x.first_alive x.second_alive x.second_alive (v x) (v x) (course_none x.first_alive x.second_alive (v x)); loses = λ t d. refl; spares = spares_none s.holder.by.0 (v x); cause = inr (refl, refl); notes = λ m other. refl }

    pub told_played : (was : Option (List ℕ)) → HasPlayed plants copies s x x pages was was (Ok tt)
    told_played was = record {
      pieces = [];
      cut = None;
      played = nothing_left;
      shaped = subst (λ (u : State). AreShaped s.holder u s.found (v x) (v x) []) (sym told) (record { few = omega arith; kept = omega arith; says = All-nil _ });
      tight = subst (λ (u : State). IfNoWork u (Unit {0})) (sym told) tt;
      acts = nothing_acted;
      dry = λ t. subst (λ (u : State). IfNoPrint u (SamePapers (v x) (v x))) (sym told) (papers_none (v x));
      still = λ t. subst (λ (u : State). IfCommand u (IsOnlyOn (v x) (v x))) (sym told) (only_none (v x));
      quiet = λ b. quiet;
      away = λ nobody. (quiet.unreserved, quiet.none);
      reader = subst (λ (u : State). ReaderStaysFrom u was was) (sym told) refl;
      told = λ t. record {
        sight = clear;
        pieces = [];
        is = ap (λ (u : State). pieces_at plants copies clear x s.holder u) (sym told);
        found = ap (λ (u : State). clear.finds (queue_of x) u) told ∙ sym (found t);
        finds = All-nil _;
        volumes = stay_none none_lost (v x);
        cut = nothing_left;
        tight = subst (λ (u : State). IfNoWork u (Unit {0})) (sym told) tt;
        broke = tt;
        writes = record {
          console = sym (append-nil (console_now (v x)));
          paper = sym (append-nil (paper_now (v x) s.holder.by.0));
          other_papers = λ m other. refl;
          count = refl;
          other_counts = λ m other. refl;
        };
        gives = gives_none s.holder.by (line_served s.state) (v x);
        hears = subst (λ (u : State). HearsStep s.holder.by (v x) (v x) was was u (Ok tt) clear.finds []) (sym told) (takes_none (v x));
      };
    }
