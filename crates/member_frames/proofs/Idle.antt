-- A sitting in which nothing was done, out of memory.
use Rattle.std.proofs.Common.{◌≡◌, inr, false, [], append-nil, Err, refl, sym, ◌∙◌}
use Rattle.mas_types.specs.declared.ids.MemberId.{MemberId}
use Rattle.spool_plant.specs.declared.plant.Plant.{Ghosts as PlantGhosts}
use Rattle.mas_complex.specs.Parts.{Parts}
use Rattle.member_node.specs.declared.member.NodeNo.TheVariants.{NoMemory}
use Rattle.member_node.specs.Calls.{console_now}
use Rattle.member_node.proofs.CourseLemmas.{course_none, only_none, papers_none, wires_none}
use Rattle.member_node.proofs.SpareLemmas.{spares_none}
use Rattle.member_steps.proofs.CountLemmas.{counted_error}
use Rattle.member_steps.proofs.NoteLemmas.{notes_none}
use Rattle.step_turns.specs.Entries.{all_entries}
use Rattle.step_turns.specs.Sittings.{Sitting}
use Rattle.member_sittings.specs.Sat.{IsSat, journal_of}
use Rattle.member_sittings.proofs.ReachLemmas.{none_left}
use Rattle.member_steps.proofs.SayLemmas.{said_none}

-- whatever the sitting was to do
pub sat_nothing : {P C : Type 0} (plants : PlantGhosts P) (by : MemberId) (t : Sitting) (x : Parts P C) → journal_of x ≡ x.batches → IsSat plants by t x x (Err NoMemory)
sat_nothing plants by t x same =
    let v = plants.view x.plant in
    record {
      acts = record {
        course = course_none x.first_alive x.second_alive v;
        loses = λ s d. refl;
        others = λ s. only_none v;
        papers = λ s. papers_none v;
        wires = λ s. wires_none v;
        spares = spares_none by.0 v;
        cause = inr (refl, refl);
        notes = notes_none by x.had;
      };
      reach = record { whole = 0; part = 0; flies = false };
      more = [];
      journal = same ∙ sym (append-nil x.batches);
      left = none_left by v.now v.now t.batches;
      reached = refl;
      console = λ s. said_none _ t.lines (console_now v) (console_now v) NoMemory (λ e. absurd (cc)) refl;
      counts = counted_error by (all_entries t.batches) x.printed x.printed NoMemory refl;
      ends = tt;
    }
