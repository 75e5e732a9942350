-- Worked examples: what a run comes to by the pieces that its lines gave.
use Rattle.std.specs.Prelude.{◌≡◌, ℕ, false, List, [], ◌∷◌, map, Option, Some, None, codes}
use Rattle.mas_types.specs.declared.commands.Command.{Command}
use Rattle.mas_types.specs.declared.commands.Command.TheVariants as command
use Rattle.mas_types.specs.declared.commands.Reply.{Reply}
use Rattle.mas_types.specs.declared.commands.Reply.TheVariants as reply
use Rattle.mas_types.specs.declared.commands.Refusal.TheVariants as refusal
use Rattle.mas_types.specs.declared.journals.Entry.{Entry}
use Rattle.mas_types.specs.declared.journals.Fate.TheVariants.{Kept, Flying}
use Rattle.mas_types.specs.Closings.{reply_lines}
use Rattle.mas_types.specs.Starts.{default_config}
use Rattle.queue_laws.specs.Examples.Small.{empty, job, member}
use Rattle.script_lang.specs.declared.types.Ask.TheVariants as ask
use Rattle.script_lang.specs.declared.types.Step.{Step}
use Rattle.step_turns.specs.declared.states.Release.TheVariants.{Outer}
use Rattle.step_turns.specs.declared.states.State.TheVariants.{Told}
use Rattle.run_turns.specs.Sights.{Cause, Cut, Ends, Halt, Saying, Stops, Writing, clear}
use Rattle.run_turns.specs.Scenes.{Scene, scene_of, with_fate}
use Rattle.run_turns.specs.Cuts.{whole}
use Rattle.run_turns.specs.Pieces.{Piece, piece_of, pieces_of}
use Rattle.run_turns.specs.Admissions.{admitted}
use Rattle.run_turns.specs.Runs.{console, history}
use Rattle.run_turns.specs.Givens.{Given, last_cut, outcomes_with, scene_with}
use Rattle.run_turns.specs.Examples.{line}

abbrev pub hold_job : Command
hold_job = command.Hold (job 1)

abbrev pub held_with : ℕ → ℕ → Reply → Entry
held_with m at r = record { by = member m; step = at; command = hold_job; reply = r }

-- the piece of a command that holds a job, with this reply
abbrev pub hold_piece : ℕ → ℕ → Reply → Piece
hold_piece m at r = piece_of (record {
  batches = (held_with m at r ∷ []) ∷ [];
  next = Told;
  lines = reply_lines (member m) at r;
  release = Outer;
}) false []

abbrev pub gives : Option Cut → Piece → Given
gives cut p = record { sight = record clear { cut = cut }; pieces = p ∷ [] }

abbrev pub cut_so : Halt → Cause → Option Cut
cut_so halt why = Some (record { sittings = 0; halt = halt; cause = why })

abbrev pub two_lines : List Step
two_lines = line 1 (ask.Command hold_job) ∷ line 2 (ask.Command hold_job) ∷ []

abbrev pub first_scene : Scene
first_scene = scene_of (empty default_config)

-- Whatever replies a plant gives that tells nothing, the lines and the batches of a run are those of its pieces.
abbrev pub other_replies : List Given
other_replies = gives None (hold_piece 1 1 reply.Plain) ∷ gives None (hold_piece 2 2 reply.Plain) ∷ []

abbrev pub PiecesAreWhatIsSaid : Type 0
PiecesAreWhatIsSaid =
    (map (λ s. s.line) (console (outcomes_with first_scene 1 other_replies two_lines))
    ≡ map whole (codes "SYSA 00001 OK" ∷ codes "SYSB 00002 OK" ∷ []))
    × (history (outcomes_with first_scene 1 other_replies two_lines)
    ≡ with_fate Kept (held_with 1 1 reply.Plain ∷ []) ∷ with_fate Kept (held_with 2 2 reply.Plain ∷ []) ∷ [])

-- The piece that the queue gives is the refusal of a job that isn't there.
abbrev pub QueueRefuses : Type 0
QueueRefuses =
    pieces_of first_scene (member 1) 1 clear first_scene.queue
    (admitted default_config first_scene.book (member 1) (ask.Command hold_job))
    ≡ hold_piece 1 1 (reply.No refusal.NoJob) ∷ []

-- A member that stops as it writes is stopped, and the run goes on: the next member finds the lock busy, whatever it
-- would have given.
abbrev pub stops_writing : Given
stops_writing = gives (cut_so (Writing 0 (Some (record { entries = 1; fate = Flying }))) Stops) (hold_piece 1 1 reply.Plain)

abbrev pub second_scene : Scene
second_scene = scene_with first_scene 1 (stops_writing ∷ []) (line 1 (ask.Command hold_job) ∷ [])

abbrev pub stopped_first : List Given
stopped_first =
    stops_writing
    ∷ record {
      sight = clear;
      pieces = pieces_of second_scene (member 2) 2 clear second_scene.queue
          (admitted default_config second_scene.book (member 2) (ask.Command hold_job));
    }
    ∷ []

abbrev pub RunGoesOnAfterAStop : Type 0
RunGoesOnAfterAStop =
    (map (λ s. s.line) (console (outcomes_with first_scene 1 stopped_first two_lines))
    ≡ map whole (codes "SYSA 00001 STOPPED" ∷ codes "SYSB 00002 BUSY SYSA" ∷ []))
    × (history (outcomes_with first_scene 1 stopped_first two_lines)
    ≡ with_fate Flying (held_with 1 1 reply.Plain ∷ []) ∷ [])
    × (last_cut first_scene 1 stopped_first two_lines ≡ None)

-- A line in which the run ends is the last: the console failed at its line, once its batch was kept.
abbrev pub ended_first : List Given
ended_first = gives (cut_so (Saying 0 None) Ends) (hold_piece 1 1 reply.Plain) ∷ []

abbrev pub RunEndsInALine : Type 0
RunEndsInALine =
    (map (λ s. s.line) (console (outcomes_with first_scene 1 ended_first two_lines)) ≡ [])
    × (history (outcomes_with first_scene 1 ended_first two_lines) ≡ with_fate Kept (held_with 1 1 reply.Plain ∷ []) ∷ [])
    × (last_cut first_scene 1 ended_first two_lines ≡ cut_so (Saying 0 None) Ends)
