use Rattle.step_turns.proofs.Sittings.{batches_are_within_limits, entries_are_given, no_unit_is_split}
use Rattle.step_turns.proofs.laws.law_of_batches.Goals as goal

pub returns : goal.returns
returns c = record { limits = batches_are_within_limits; whole = no_unit_is_split; given = entries_are_given }
