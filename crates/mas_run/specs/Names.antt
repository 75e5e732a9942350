-- The names that many contracts take, each from where it is declared.
pub use Rattle.ckpt_copy.specs.declared.copying.Copying.{Ghosts}
pub use Rattle.ckpt_form.specs.Form.{form_needs, form_reads}
pub use Rattle.ckpt_form.specs.declared.steady.Steady.{Ghosts as SteadyGhosts}
pub use Rattle.ckpt_tables.specs.Shape.{page_count}
pub use Rattle.duplex_pair.specs.Halves.{IsBothLost, IsCkpt, SomeAlive, pick}
pub use Rattle.lock_cycle.specs.Books.{Book, IsMember, is_stopped, left_of}
pub use Rattle.mas_complex.specs.Journals.{AreSettled, kept_all}
pub use Rattle.mas_complex.specs.Meaning.{run}
pub use Rattle.mas_complex.specs.Paper.{SamePapers, counts_of}
pub use Rattle.mas_complex.specs.Parts.{Parts, parts_of}
pub use Rattle.mas_complex.specs.Renewals.{begun_on, ended_on, is_open, no_renewals, of_device}
pub use Rattle.mas_complex.specs.declared.complex.Complex.{Complex}
pub use Rattle.mas_complex.specs.declared.renewals.Renewals.{Renewals}
pub use Rattle.mas_types.specs.Limits.{members_most, steps_most, wires_most}
pub use Rattle.mas_types.specs.Lists.{first_some}
pub use Rattle.mas_types.specs.declared.answers.CopyState.{CopyState}
pub use Rattle.mas_types.specs.declared.answers.Status.{Status}
pub use Rattle.mas_types.specs.declared.ids.Dev.{Dev}
pub use Rattle.mas_types.specs.declared.ids.Dev.TheVariants.{Ckpt1, Ckpt2, Spool}
pub use Rattle.mas_types.specs.declared.ids.MemberId.{MemberId}
pub use Rattle.mas_types.specs.declared.journals.Batch.{Batch}
pub use Rattle.member_node.specs.Calls.{Grows, IsLeft, VolumesStay, WasLost, console_now, none_lost}
pub use Rattle.member_node.specs.declared.member.NodeNo.{NodeNo}
pub use Rattle.member_resets.specs.Cuts.{AreBatched, AtCut, IsBroken, IsHaltBy, IsTight, cause_by, whole_pieces}
pub use Rattle.member_resets.specs.Found.{AreFoundIn, Wait, named_in, waits_in}
pub use Rattle.member_resets.specs.Settling.{IfRuns, IsResetPiece, ended_as, settle}
pub use Rattle.member_sittings.specs.Sat.{journal_of}
pub use Rattle.run_opening.specs.Lines.{HasStopped, OnlyStops, Proceeds, StaysLost}
pub use Rattle.run_opening.specs.Refusals.{Answers, IsPlayedOut, IsTakenFrom, IsTooSmall, is_of_script, refusal_of, refused_sizes}
pub use Rattle.run_opening.specs.Runs.{AreAway, AreSidesKept, Begins, HasBase, IsFormatted, IsOpened, IsSafe, IsUnbegun, LosesFirst, OneIsGood, as_found, has_begun}
pub use Rattle.run_opening.specs.Shows.{BetweenLines, IsShown, LeftBetween, Shows}
pub use Rattle.run_opening.specs.Statuses.{IsCaused, IsCausedFrom, LeavesLost, is_of_play, is_of_text, is_unplayed, status_of}
pub use Rattle.run_opening.specs.Unstarted.{IsNotStarted}
pub use Rattle.run_opening.specs.Volumes.{AreVolumesKept, AreVolumesKeptUntil}
pub use Rattle.run_opening.specs.Wires.{Completes, HaveRead}
pub use Rattle.run_turns.specs.Admissions.{Admission, Denied, Plays, Refused, Replaces, Resets, TakesOver, admitted, granted_by, resets}
pub use Rattle.run_turns.specs.Givens.{ArePiecesOf, Given, IsRight, RightIf, given_first, last_cut, line_with, outcomes_with, play_with, queue_met, scene_with, sights_of}
pub use Rattle.run_turns.specs.Pieces.{Piece, Play, fate_found, holder_of}
pub use Rattle.run_turns.specs.Runs.{console, given_on, history, outcomes_of, paper_of}
pub use Rattle.run_turns.specs.Scenes.{Armed, Batched, Scene, scene_of}
pub use Rattle.run_turns.specs.Sights.{Cut, Ends, Halt, LostAgain, NotLost, Renewed, Replaced, Saying, Sight, Stops, Writing}
pub use Rattle.run_turns.specs.Steps.{Outcome, Played, is_up}
pub use Rattle.script_input.specs.Played.{IsPlayed}
pub use Rattle.script_lang.specs.declared.types.Ask.{Ask}
pub use Rattle.script_lang.specs.declared.types.Ask.TheVariants.{Lose, Stop, StopIn}
pub use Rattle.script_lang.specs.declared.types.Script.{Script}
pub use Rattle.script_lang.specs.declared.types.Step.{Step}
pub use Rattle.script_laws.specs.Limits.{IsScript}
pub use Rattle.spool_plant.specs.Acts.{Goes, Rose, SameWires, next, top}
pub use Rattle.spool_plant.specs.View.{Line as ViewLine, Throughout, View, given_now, paper_now, taken_now}
pub use Rattle.spool_plant.specs.declared.plant.Part.TheVariants.{Console, Disk, Printer}
pub use Rattle.spool_plant.specs.declared.plant.Plant.{Ghosts as PlantGhosts}
pub use Rattle.spool_volumes.specs.Volumes.{AreRoomy}
pub use Rattle.step_turns.specs.Courses.{Finds}
pub use Rattle.step_turns.specs.declared.states.State.TheVariants.{Away, Fresh}
pub use Rattle.step_turns.specs.declared.states.Task.{Task}
pub use Rattle.step_turns.specs.declared.states.Task.TheVariants.{Deck, Line, Work}
pub use Rattle.warm_start.specs.Starting.{OnlyLookedAtAll}
