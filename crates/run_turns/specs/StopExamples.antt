-- Worked examples: a member stops at each act of a deck, and another takes over; or the program starts again.
use Rattle.std.specs.Prelude.{◌≡◌, ℕ, true, false, List, [], ◌∷◌, ◌++◌, map, Some, None, codes}
use Rattle.mas_types.specs.declared.commands.Command.TheVariants as command
use Rattle.mas_types.specs.declared.commands.What.TheVariants as what
use Rattle.mas_types.specs.declared.journals.Fate.{Fate}
use Rattle.mas_types.specs.declared.journals.Fate.TheVariants.{Kept, Dropped, Flying}
use Rattle.mas_types.specs.Ids.{nobody}
use Rattle.mas_types.specs.Shown.{shown}
use Rattle.mas_types.specs.Starts.{default_config}
use Rattle.mas_types.specs.Step.{step}
use Rattle.lock_cycle.specs.declared.answers.LockNo.TheVariants as lock
use Rattle.lock_cycle.specs.Books.{after_free, after_try, new_book, try_refusal}
use Rattle.queue_laws.specs.Examples.Small.{empty, member}
use Rattle.script_lang.specs.declared.types.Ask.TheVariants as ask
use Rattle.script_lang.specs.declared.types.Step.{Step}
use Rattle.spool_plant.specs.declared.plant.Fuse.TheVariants as fuse
use Rattle.spool_plant.specs.View.{Line}
use Rattle.run_turns.specs.Sights.{Halt, Saying, Sight, Stops, Waiting, Writing, clear}
use Rattle.run_turns.specs.Scenes.{Scene, queue_found, scene_of}
use Rattle.run_turns.specs.Cuts.{whole}
use Rattle.run_turns.specs.Runs.{console, history, outcomes_of, scene_after}
use Rattle.run_turns.specs.Examples.{line}

-- A DECK, at an act of which its member stops; another member takes over, and looks at the queue

abbrev pub stopped_deck : List Step
stopped_deck =
    line 1 (ask.StopIn fuse.Any 5)
    ∷ line 1 (ask.Deck (codes "//A JOB" ∷ []))
    ∷ line 2 (ask.Command (command.Reset (member 1)))
    ∷ line 2 (ask.Command (command.Show what.Queue))
    ∷ []

-- a step of which so many sittings are whole, and the next one was cut so
abbrev pub cut_in : ℕ → Halt → Sight
cut_in sittings halt = record clear { cut = Some (record { sittings = sittings; halt = halt; cause = Stops }) }

-- the takeover finds the batch in flight kept, or dropped
abbrev pub finds_it : Fate → Sight
finds_it fate = record clear { flight = fate }

abbrev pub sights_of : ℕ → Halt → Fate → List Sight
sights_of sittings halt fate = clear ∷ cut_in sittings halt ∷ finds_it fate ∷ []

abbrev pub said_after : ℕ → Halt → Fate → List Line
said_after sittings halt fate = map (λ s. s.line)
    (console (outcomes_of (empty default_config) (sights_of sittings halt fate) stopped_deck))

-- what is said in any case, between what the deck said and what the queue holds
abbrev pub says_around : List Line → List (List ℕ) → List Line
says_around deck queue = deck ++ map whole (codes "SYSA 00002 STOPPED" ∷ codes "SYSB 00003 OK SYSA" ∷ queue)

abbrev pub no_job : List (List ℕ)
no_job = codes "SYSB 00004 OK 0" ∷ []

abbrev pub in_purge : List (List ℕ)
in_purge = codes "SYSB 00004 - JOB00001 A A 05 PURGE - -" ∷ codes "SYSB 00004 OK 1" ∷ []

abbrev pub in_convert : List (List ℕ)
in_convert = codes "SYSB 00004 - JOB00001 A A 05 CONVERT - -" ∷ codes "SYSB 00004 OK 1" ∷ []

-- in flight are all entries of the batch
abbrev pub flies : ℕ → Halt
flies entries = Writing 0 (Some (record { entries = entries; fate = Flying }))

abbrev pub torn_line : Line
torn_line = record { text = codes "SYSA 00002"; whole = false }

-- Before its first batch there is no job, and after it one that never was entered; after its second batch it is
-- entered. A batch in flight counts as the takeover finds it. The job is entered wherever the deck's line stands, even
-- a torn one.
abbrev pub DeckStopsAnywhere : Type 0
DeckStopsAnywhere =
    (said_after 0 (Writing 0 None) Flying ≡ says_around [] no_job)
    × (said_after 0 (flies 2) Dropped ≡ says_around [] no_job)
    × (said_after 0 (flies 2) Kept ≡ says_around [] in_purge)
    × (said_after 0 (Waiting 0 None) Flying ≡ says_around [] in_purge)
    × (said_after 1 (Writing 0 None) Flying ≡ says_around [] in_purge)
    × (said_after 1 (flies 1) Dropped ≡ says_around [] in_purge)
    × (said_after 1 (flies 1) Kept ≡ says_around [] in_convert)
    × (said_after 1 (Saying 0 None) Flying ≡ says_around [] in_convert)
    × (said_after 1 (Saying 0 (Some (codes "SYSA 00002"))) Flying ≡ says_around (torn_line ∷ []) in_convert)
    × (said_after 1 (Saying 1 None) Flying ≡ says_around (whole (codes "SYSA 00002 OK JOB00001") ∷ []) in_convert)

-- What became of each batch: the deck's first is kept, its second was in flight and is dropped, then the reset and the
-- display.
abbrev pub fates_after : ℕ → Halt → Fate → List Fate
fates_after sittings halt fate = map (λ b. b.fate)
    (history (outcomes_of (empty default_config) (sights_of sittings halt fate) stopped_deck))

abbrev pub FlightIsSettled : Type 0
FlightIsSettled =
    (fates_after 1 (flies 1) Dropped ≡ Kept ∷ Dropped ∷ Kept ∷ Kept ∷ [])
    × (fates_after 1 (flies 1) Kept ≡ Kept ∷ Kept ∷ Kept ∷ Kept ∷ [])
    × (fates_after 1 (flies 1) Flying ≡ Kept ∷ Flying ∷ [])

-- THE PROGRAM STARTS AGAIN instead: it finds the queue with the batch in flight or without it, and resets all members

abbrev pub scene_stopped : ℕ → Halt → Scene
scene_stopped sittings halt = scene_after (scene_of (empty default_config)) 1 (clear ∷ cut_in sittings halt ∷ []) (line 1 (ask.StopIn fuse.Any 5) ∷ line 1 (ask.Deck (codes "//A JOB" ∷ [])) ∷ [])

abbrev pub queue_shown : ℕ → Halt → Fate → List (List ℕ)
queue_shown sittings halt fate =
    let S = scene_stopped sittings halt in
    shown (step (queue_found fate S.flight S.queue) nobody command.Restart).0 what.Queue

abbrev pub StartFindsAlike : Type 0
StartFindsAlike =
    (queue_shown 0 (flies 2) Dropped ≡ [])
    × (queue_shown 0 (flies 2) Kept ≡ codes "JOB00001 A A 05 PURGE - -" ∷ [])
    × (queue_shown 1 (flies 1) Dropped ≡ codes "JOB00001 A A 05 PURGE - -" ∷ [])
    × (queue_shown 1 (flies 1) Kept ≡ codes "JOB00001 A A 05 CONVERT - -" ∷ [])

-- THE LOCK IN THE MIDDLE OF A STEP: while a member's text is written another may take the lock, and is busy then to the
-- first

abbrev pub LockIsFreeInTheMiddle : Type 0
LockIsFreeInTheMiddle =
    let b = after_free (after_try (new_book 2 64 0) (member 2) false) (member 2) true in
    (try_refusal b (member 1) false ≡ None)
    × (try_refusal (after_try b (member 1) false) (member 2) true ≡ Some (lock.Busy (member 1)))

-- WHO HELD WHEN IT STOPPED still holds, at its own batches and lines; in acts that want no lock it doesn't, unless LOCK
-- had taken it. Who takes the lock over gives it up at its step's end.

abbrev pub locked_deck : List Step
locked_deck = line 1 ask.Lock ∷ line 1 (ask.Deck (codes "//A JOB" ∷ [])) ∷ []

abbrev pub held_after : List Step → List Sight → ℕ
held_after lines sights = (scene_after (scene_of (empty default_config)) 1 sights lines).book.holder.0

abbrev pub StoppedHolderHolds : Type 0
StoppedHolderHolds =
    ((scene_stopped 0 (Writing 0 None)).book.holder.0 ≡ 1)
    × ((scene_stopped 1 (flies 1)).book.holder.0 ≡ 1)
    × ((scene_stopped 1 (Saying 1 None)).book.holder.0 ≡ 1)
    × ((scene_stopped 0 (Waiting 0 None)).book.holder.0 ≡ 0)
    × (held_after locked_deck (clear ∷ cut_in 0 (Waiting 0 None) ∷ []) ≡ 1)
    × (held_after stopped_deck (sights_of 1 (flies 1) Kept) ≡ 0)
