-- The names that many contracts take, each from where it is declared.
pub use Rattle.std.specs.Prelude.{IfSome, None, Some, [], length, ℕ, ◌*◌, ◌+◌, ◌<◌, ◌≡◌, ◌≤◌}
pub use Rattle.job_exec.specs.Running.{AreOutputs}
pub use Rattle.job_outcome.specs.Next.{IsNamedEnd}
pub use Rattle.job_outcome.specs.Outcomes.{AreFitOutputs, IsNamedOutcome, outcome_of}
pub use Rattle.mas_complex.specs.Paper.{counts_of}
pub use Rattle.mas_complex.specs.Parts.{parts_of}
pub use Rattle.mas_complex.specs.Texts.{spools_at}
pub use Rattle.mas_types.specs.Closings.{AreMembersNamed}
pub use Rattle.mas_types.specs.Sound.{IsSound}
pub use Rattle.mas_types.specs.declared.jobs.JobFields.{JobFields}
pub use Rattle.member_giving.specs.Parts.{IsBare}
pub use Rattle.member_giving.specs.Plays.{HasGiven, MayStopBy, Plays, bounds, rests, unwritten, wrote_after, wrote_of, to_play}
pub use Rattle.member_giving.specs.Ready.{IsReady, MayResume}
pub use Rattle.member_giving.specs.Works.{Follow, HasRoom, IsLow, Leaves, MayLeave, Works, follow, outside, place_of, queue_here, queue_kept, run_of}
pub use Rattle.member_node.specs.Reads.{too_high}
pub use Rattle.member_sittings.specs.Sat.{HasSat, begins, resumes, sat_in}
pub use Rattle.member_sittings.specs.Shapes.{MayCloseBy, MayEndBy, MayRefuseBy}
pub use Rattle.member_sittings.specs.Whole.{MaySit}
pub use Rattle.member_work.specs.Steps.{IsUnderWay}
pub use Rattle.paper_laws.specs.Counts.{IsMarkRight}
pub use Rattle.step_turns.specs.Courses.{aside_most, sittings_most}
pub use Rattle.step_turns.specs.JobEnds.{groups_for_end, printed_end}
pub use Rattle.step_turns.specs.Laws.{aside_done, aside_units}
pub use Rattle.step_turns.specs.Turns.{aside_turn, goes_on_by, job_ends, leaves, lines_printed, outputs_stand, text_read, units_from}
pub use Rattle.step_turns.specs.declared.states.Aside.TheVariants.{ReadText}
pub use Rattle.step_turns.specs.declared.states.Found.{Found}
pub use Rattle.step_turns.specs.declared.states.State.TheVariants.{Fresh, Rested, Told}
pub use Rattle.step_turns.specs.declared.states.Task.TheVariants.{Work}
