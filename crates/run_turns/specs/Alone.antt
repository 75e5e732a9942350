-- A script of one member that takes no lock from one line to another: decks, commands, work, lines to other nodes, and
-- losses of devices.
-- Each of its lines gives what it gives as a whole, at the queue and at a book of the lock that knows of no sittings.
use Rattle.std.specs.Prelude.{◌≡◌, ℕ, ◌+◌, true, false, List, [], ◌∷◌, drop, get_or, map, All, None}
use Rattle.mas_types.specs.declared.ids.MemberId.{MemberId}
use Rattle.mas_types.specs.declared.queues.Queue.{Queue}
use Rattle.mas_types.specs.Closings.{closing_line}
use Rattle.mas_types.specs.Queue.{is_member}
use Rattle.mas_types.specs.Run.{run}
use Rattle.lock_cycle.specs.Books.{Book, after_free, after_try, new_book}
use Rattle.script_lang.specs.declared.types.Ask.{Ask}
use Rattle.script_lang.specs.declared.types.Ask.TheVariants as ask
use Rattle.script_lang.specs.declared.types.Step.{Step}
use Rattle.step_turns.specs.Courses.{Course, course}
use Rattle.step_turns.specs.Entries.{all_entries}
use Rattle.step_turns.specs.declared.states.Grant.TheVariants.{ForStep}
use Rattle.run_turns.specs.Sights.{Sight, clear}
use Rattle.run_turns.specs.Scenes.{Batched}
use Rattle.run_turns.specs.Admissions.{Admission, Denied, Plays, Refused, admitted, denied_closing}
use Rattle.run_turns.specs.Cuts.{kept_all, whole}
use Rattle.run_turns.specs.Runs.{outcomes_of}
use Rattle.run_turns.specs.Steps.{Outcome, Said, said_by}

-- a line of a script of one member: a deck, a command, work or a line to another node, of this member, or the loss of a
-- device
abbrev pub IsPlain : MemberId → MemberId → Ask → Type 0
IsPlain by m (ask.Deck cards) = m ≡ by
IsPlain by m (ask.Command c) = m ≡ by
IsPlain by m (ask.Work n) = m ≡ by
IsPlain by m (ask.Line l) = m ≡ by
IsPlain by m (ask.Lose dev) = Unit {0}
IsPlain by m _ = ⊥

-- the lines of a step that takes the lock with a whole hold, or that is refused
abbrev pub course_at : Queue → Book → MemberId → ℕ → Sight → Admission → Course
course_at Q b by at sight (Refused sayer end) = record { batches = []; lines = closing_line by at end ∷ [] }
course_at Q b by at sight (Denied why) = record { batches = []; lines = closing_line by at (denied_closing why) ∷ [] }
course_at Q b by at sight (Plays task) = course sight.finds Q
    (record { by = by; step = at; hold = b.hold; grant = ForStep }) task
course_at Q b by at sight _ = record { batches = []; lines = [] }

-- the lock was tried for, and given up at the step's end
abbrev pub book_at : Book → MemberId → Admission → Book
book_at b by (Denied why) = after_try b by false
book_at b by (Plays task) = after_free (after_try b by false) by false
book_at b by _ = b

abbrev pub ask_course : Queue → Book → MemberId → ℕ → Sight → Ask → Course
ask_course Q b by at sight (ask.Lose dev) = record { batches = []; lines = [] }
ask_course Q b by at sight what = course_at Q b by at sight (admitted Q.config b by what)

abbrev pub ask_book : Queue → Book → MemberId → Ask → Book
ask_book Q b by (ask.Lose dev) = b
ask_book Q b by what = book_at b by (admitted Q.config b by what)

-- lines one after another, of which the first has this number
abbrev pub courses_from : Queue → Book → MemberId → ℕ → List Sight → List Step → List Course
courses_from Q b by at sights [] = []
courses_from Q b by at sights (step ∷ steps) =
    let c = ask_course Q b by at (get_or sights 0 clear) step.what in
    c ∷ courses_from (run Q (all_entries c.batches)) (ask_book Q b by step.what) by (at + 1) (drop 1 sights) steps

abbrev pub courses_of : Queue → MemberId → List Sight → List Step → List Course
courses_of Q by sights steps = courses_from Q (new_book Q.config.members Q.config.hold Q.config.dormancy) by 1 sights
    steps

-- batches and lines of a line, all kept and whole
abbrev pub Shown : Type 0
Shown = List Batched × List Said

abbrev pub shown : Outcome → Shown
shown o = (o.batches, o.said)

abbrev pub shown_whole : MemberId → Course → Shown
shown_whole by c = (kept_all c.batches, map (said_by by) (map whole c.lines))

abbrev pub RunsOfOneAreWhole : Type 0
RunsOfOneAreWhole = (Q : Queue) (by : MemberId) (sights : List Sight) (steps : List Step)
    → is_member Q.config by ≡ true → All (λ sight. sight.cut ≡ None) sights
    → All (λ step. IsPlain by step.by step.what) steps
    → map shown (outcomes_of Q sights steps) ≡ map (shown_whole by) (courses_of Q by sights steps)
