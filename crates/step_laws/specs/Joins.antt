-- A step that is cut into sittings gives what its deck, its command or its work gives as a whole, over a queue that
-- nobody else changes.
use Rattle.std.specs.Prelude.{◌≡◌, ℕ, List, [], ◌∷◌, drop, length, Option, None}
use Rattle.std.specs.Option.{option_map_or}
use Rattle.mas_types.specs.declared.commands.Command.{Command}
use Rattle.mas_types.specs.declared.ids.MemberId.{MemberId}
use Rattle.mas_types.specs.declared.jobs.Job.{Job}
use Rattle.mas_types.specs.declared.jobs.JobFields.{JobFields}
use Rattle.mas_types.specs.declared.jobs.Output.{Output}
use Rattle.mas_types.specs.declared.jobs.Text.{Text}
use Rattle.mas_types.specs.declared.queues.Queue.{Queue}
use Rattle.mas_types.specs.Owners.{groups_needed}
use Rattle.mas_types.specs.Queue.{job_at, output_at}
use Rattle.member_steps.specs.Steps.{entry_of, step_lines}
use Rattle.member_decks.specs.declared.opening.Opened.{Opened}
use Rattle.member_decks.specs.declared.opening.Opened.TheVariants.{Closed, Ready}
use Rattle.member_decks.specs.Decks.{deck_batches, deck_lines, ends_as}
use Rattle.member_work.specs.Looks.{Look, first_look, read_of}
use Rattle.member_work.specs.Work.{work_batches, work_lines}
use Rattle.step_turns.specs.Courses.{Course, Finds, course}
use Rattle.step_turns.specs.Laws.{aside_done}
use Rattle.step_turns.specs.declared.states.Aside.{Aside}
use Rattle.step_turns.specs.declared.states.Found.{Found}
use Rattle.step_turns.specs.declared.states.Holder.{Holder}
use Rattle.step_turns.specs.declared.states.State.TheVariants.{Away}
use Rattle.step_turns.specs.declared.states.Task.TheVariants.{Deck, Give, Work}
use Rattle.step_turns.specs.declared.states.Grant.TheVariants.{ForStep}
use Rattle.step_turns.specs.declared.states.Aside.TheVariants.{Acknowledge, Exchange, PrintLines, ReadText, SpoolArrival, SpoolDeck, SpoolOutputs}
use Rattle.step_turns.specs.States.{nothing_found}

-- a member that took the lock for this step, with a whole hold
abbrev pub holds_for : Queue → MemberId → ℕ → Holder
holds_for Q by at = record { by = by; step = at; hold = Q.config.hold; grant = ForStep }

-- DECKS AND COMMANDS

-- the volume that is found lost when the deck's text is written, if one
abbrev pub finds_lost : Option ℕ → Finds
finds_lost lost Q s = record nothing_found { lost = lost }

-- none is where the deck's job has no groups
abbrev pub MayLose : Opened → Option ℕ → Type 0
MayLose Closed lost = lost ≡ None
MayLose (Ready n) lost = Unit {0}

abbrev pub as_read : Queue → MemberId → ℕ → JobFields → List (List ℕ) → Option ℕ → Course
as_read Q by at fields text lost = record {
  batches = deck_batches Q by at fields text lost;
  lines = deck_lines Q by at fields text lost;
}

abbrev pub DeckIsCut : Type 0
DeckIsCut = (Q : Queue) (by : MemberId) (at : ℕ) (fields : JobFields) (text : List (List ℕ)) (lost : Option ℕ)
    → MayLose (ends_as Q by fields (groups_needed text)) lost
    → course (finds_lost lost) Q (holds_for Q by at) (Deck fields text) ≡ as_read Q by at fields text lost

abbrev pub as_given : Queue → MemberId → ℕ → Command → Course
as_given Q by at c = record { batches = (entry_of Q by at c ∷ []) ∷ []; lines = step_lines Q by at c }

abbrev pub CommandIsCut : Type 0
CommandIsCut = (Q : Queue) (by : MemberId) (at : ℕ) (c : Command) (finds : Finds)
    → course finds Q (holds_for Q by at) (Give c) ≡ as_given Q by at c

-- WORK

-- what the acts of a unit find that looks so: a text as the queue has it, unless it was read otherwise
abbrev pub found_with : Look → Text → Found
found_with look text = record nothing_found { read = read_of look.read text; lost = look.lost; printer = look.printer }

abbrev pub found_in : Look → Queue → Aside → Found
found_in look Q (SpoolDeck n text) = nothing_found
found_in look Q (ReadText runs n fields p) = option_map_or (λ (j : Job). found_with look j.text) (job_at Q n)
    nothing_found
found_in look Q (SpoolOutputs n specs p) = record nothing_found { lost = look.lost }
found_in look Q (PrintLines n i last p) = option_map_or (λ (o : Output). found_with look o.text) (output_at Q n i)
    nothing_found
found_in look Q (Exchange l offer) = nothing_found
found_in look Q (SpoolArrival number n text s) = nothing_found
found_in look Q (Acknowledge number s) = nothing_found

-- the looks of units one after another, one for each
abbrev pub finds_by : List Look → Finds
finds_by looks Q (Away aside) = found_in (first_look (drop (aside_done aside) looks)) Q aside
finds_by looks Q _ = nothing_found

abbrev pub as_worked : Queue → MemberId → ℕ → ℕ → List Look → Course
as_worked Q by at n looks = record { batches = work_batches Q by at n looks; lines = work_lines Q by at n looks }

abbrev pub WorkIsCut : Type 0
WorkIsCut = (Q : Queue) (by : MemberId) (at n : ℕ) (looks : List Look)
    → course (finds_by looks) Q (holds_for Q by at) (Work n) ≡ as_worked Q by at n looks

-- whatever the acts of work find, it is what some looks of the units say
abbrev pub WorkIsOfLooks : Type 0
WorkIsOfLooks = (Q : Queue) (by : MemberId) (at n : ℕ) (finds : Finds)
    → (looks : List Look) × (length looks ≡ n)
    × (course finds Q (holds_for Q by at) (Work n) ≡ as_worked Q by at n looks)
