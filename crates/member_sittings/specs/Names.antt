-- The names that many contracts take, each from where it is declared.
pub use Rattle.ckpt_copy.specs.declared.copying.Copying.{Ghosts}
pub use Rattle.ckpt_form.specs.declared.steady.Steady.{Ghosts as SteadyGhosts}
pub use Rattle.ckpt_tables.specs.Shape.{HasShape, HasSpelling}
pub use Rattle.mas_complex.specs.Journals.{AreSettled, begun, end_of, kept_all}
pub use Rattle.mas_complex.specs.Locking.{IsUp, MayAct}
pub use Rattle.mas_complex.specs.Paper.{MayBegin, SamePapers}
pub use Rattle.mas_complex.specs.Parts.{Parts, parts_of, with_copies}
pub use Rattle.mas_complex.specs.Texts.{HasTexts, IsThere, lost_now, spools_at}
pub use Rattle.mas_complex.specs.declared.complex.Complex.{Complex}
pub use Rattle.mas_types.specs.Closings.{IsReplyNamed, closing_line, reply_lines}
pub use Rattle.mas_types.specs.Fit.{AreLines, IsFit, IsJobFields}
pub use Rattle.mas_types.specs.declared.commands.Command.{Command}
pub use Rattle.mas_types.specs.declared.ids.MemberId.{MemberId}
pub use Rattle.mas_types.specs.declared.journals.Batch.{Batch}
pub use Rattle.mas_types.specs.declared.journals.Entry.{Entry}
pub use Rattle.mas_types.specs.declared.queues.Config.{Config}
pub use Rattle.member_decks.specs.Batches.{HasAll, IsFlyingBatch, IsKeptBatch}
pub use Rattle.member_decks.specs.Steps.{AreOf, IsFoundLost, SpoolStops, names_volume}
pub use Rattle.member_node.specs.Reads.{AreLow, IsCalm, ReadsLow, orders_after, too_high}
pub use Rattle.member_node.specs.Wanted.{HasHad}
pub use Rattle.member_node.specs.declared.member.Member.{Member}
pub use Rattle.member_node.specs.declared.member.NodeNo.{NodeNo}
pub use Rattle.member_node.specs.declared.member.NodeNo.TheVariants.{BothLost, ConsoleFault, Halted, NoMemory}
pub use Rattle.member_steps.specs.Saying.{TellKept}
pub use Rattle.member_steps.specs.Steps.{AreKeptFrom, IsAtLock, IsBetween, IsToldSound, StepCauses, entry_with}
pub use Rattle.spool_plant.specs.View.{Line as ViewLine, View, disk_now}
pub use Rattle.spool_plant.specs.declared.plant.Plant.{Ghosts as PlantGhosts}
pub use Rattle.spool_volumes.specs.Volumes.{AreRoomy}
pub use Rattle.step_turns.specs.Decks.{lines_by}
pub use Rattle.step_turns.specs.Entries.{all_entries, closing_reply}
pub use Rattle.step_turns.specs.Sittings.{Sitting, released, sit}
pub use Rattle.step_turns.specs.States.{nothing_found}
pub use Rattle.step_turns.specs.declared.states.Aside.TheVariants.{Acknowledge, Exchange, PrintLines, ReadText, SpoolArrival, SpoolDeck, SpoolOutputs}
pub use Rattle.step_turns.specs.declared.states.Found.{Found}
pub use Rattle.step_turns.specs.declared.states.Holder.{Holder}
pub use Rattle.step_turns.specs.declared.states.State.{State}
pub use Rattle.step_turns.specs.declared.states.State.TheVariants.{Away, Fresh, Rested, Told}
pub use Rattle.step_turns.specs.declared.states.Task.TheVariants.{Deck, Give, Line, Work}
