-- Worked examples: what a deck's step gives, and how it closes.
use Rattle.member_decks.specs.Names.{Entry, Command, Queue}
use Rattle.std.specs.Prelude.{◌≡◌, List, [], ◌∷◌, Some, None, map, codes}
use Rattle.mas_types.specs.declared.commands.Command.TheVariants as command
use Rattle.mas_types.specs.Starts.{default_config}
use Rattle.queue_laws.specs.Examples.Small.{member, job, empty, fields_of}
use Rattle.queue_laws.specs.Examples.Decks.{cards}
use Rattle.member_decks.specs.Decks.{deck_batches, deck_lines}

abbrev pub commands_of : List (List Entry) → List (List Command)
commands_of ess = map (λ es. map (λ e. e.command) es) ess

abbrev pub one_group : Queue
one_group = empty (record default_config { groups = 1 })

-- a deck of one card: two batches, and the job's number
abbrev pub DeckIsEntered : Type 0
DeckIsEntered =
    (commands_of (deck_batches one_group (member 1) 1 (fields_of (codes "A")) (cards 0) None)
    ≡ (command.Begin (fields_of (codes "A")) ∷ command.Take 1 ∷ []) ∷ (command.Enter (job 1) (cards 0) ∷ []) ∷ [])
    × (deck_lines one_group (member 1) 1 (fields_of (codes "A")) (cards 0) None ≡ codes "SYSA 00001 OK JOB00001" ∷ [])

-- a deck of two groups, where one is there: the job is dropped in the same batch
abbrev pub FullSpoolDropsTheDeck : Type 0
FullSpoolDropsTheDeck =
    (commands_of (deck_batches one_group (member 1) 1 (fields_of (codes "A")) (cards 51) None)
    ≡ (command.Begin (fields_of (codes "A")) ∷ command.Take 2 ∷ command.Take 1 ∷ command.Drop (job 1) ∷ []) ∷ [])
    × (deck_lines one_group (member 1) 1 (fields_of (codes "A")) (cards 51) None ≡ codes "SYSA 00001 NO SPOOL FULL" ∷ [])

-- a volume that is lost: the job is dropped in a batch of its own
abbrev pub LostVolumeDropsTheDeck : Type 0
LostVolumeDropsTheDeck =
    (commands_of (deck_batches one_group (member 1) 2 (fields_of (codes "A")) (cards 0) (Some 1))
    ≡ (command.Begin (fields_of (codes "A")) ∷ command.Take 1 ∷ []) ∷ (command.Drop (job 1) ∷ []) ∷ [])
    × (deck_lines one_group (member 1) 2 (fields_of (codes "A")) (cards 0) (Some 1) ≡ codes "SYSA 00002 NO SPOOL LOST 1" ∷ [])
