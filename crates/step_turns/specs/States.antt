-- A step as a machine: what it is asked to do, where it stands, and what its member found. The types are those of the
-- code.
use Rattle.std.specs.Prelude.{false, [], None}
use Rattle.job_outcome.specs.declared.outcomes.Read.TheVariants as read
pub use Rattle.step_turns.specs.declared.states.Task.{Task}
pub use Rattle.step_turns.specs.declared.states.Task.TheVariants.{Give, Deck, Work, Line}
pub use Rattle.step_turns.specs.declared.states.Progress.{Progress}
pub use Rattle.step_turns.specs.declared.states.Aside.{Aside}
pub use Rattle.step_turns.specs.declared.states.Offer.{Offer}
pub use Rattle.step_turns.specs.declared.states.Service.{Service}
pub use Rattle.step_turns.specs.declared.states.Aside.TheVariants.{SpoolDeck, ReadText, SpoolOutputs, PrintLines, Exchange, SpoolArrival, Acknowledge}
pub use Rattle.step_turns.specs.declared.states.State.{State}
pub use Rattle.step_turns.specs.declared.states.State.TheVariants.{Fresh, Away, Rested, Told}
pub use Rattle.step_turns.specs.declared.states.Found.{Found}
pub use Rattle.step_turns.specs.declared.states.Grant.{Grant}
pub use Rattle.step_turns.specs.declared.states.Grant.TheVariants.{ForStep, ByLock}
pub use Rattle.step_turns.specs.declared.states.Holder.{Holder}
pub use Rattle.step_turns.specs.declared.states.Release.{Release}
pub use Rattle.step_turns.specs.declared.states.Release.TheVariants.{Keep, Inner, Outer}

-- what a member found that looked at nothing
abbrev pub nothing_found : Found
nothing_found = record { read = read.Lines []; lost = None; printer = false; wire = false; frames = [] }
