-- Decks: how much space they take, and what they are refused.
use Rattle.std.specs.Prelude.{◌≡◌, ℕ, List, [], ◌∷◌, ◌++◌, replicate, codes}
use Rattle.mas_types.specs.declared.queues.Owner.TheVariants as owner
use Rattle.mas_types.specs.declared.queues.Queue.{Queue}
use Rattle.mas_types.specs.declared.commands.Command.TheVariants as command
use Rattle.mas_types.specs.declared.commands.Refusal.TheVariants as refusal
use Rattle.mas_types.specs.declared.commands.Reply.TheVariants as reply
use Rattle.mas_types.specs.declared.commands.What.TheVariants as what
use Rattle.mas_types.specs.Owners.{groups_needed}
use Rattle.mas_types.specs.Shown.{shown}
use Rattle.mas_types.specs.Starts.{default_config}
use Rattle.queue_laws.specs.Examples.Small.{member, job, empty, Given, replies_to, queue_after, fields_of, deck, decks}

-- the card //A JOB and so many comments of 80 bytes
abbrev pub cards : ℕ → List (List ℕ)
cards comments = codes "//A JOB" ∷ replicate comments (codes "//*" ++ replicate 77 88)

-- 8 + 50 * 81 + 1 bytes are within the 4,096 of a group
abbrev pub FiftyCommentsTakeOneGroup : Type 0
FiftyCommentsTakeOneGroup = groups_needed (cards 50) ≡ 1

-- 8 + 51 * 81 + 1 are not
abbrev pub FiftyOneCommentsTakeTwoGroups : Type 0
FiftyOneCommentsTakeTwoGroups = groups_needed (cards 51) ≡ 2

-- A DECK OF TWO GROUPS, WHERE ONE IS THERE

abbrev pub one_group : Queue
one_group = empty (record default_config { groups = 1 })

-- the first Take gets the one group, the second is refused, and the job is dropped
abbrev pub too_long : List Given
too_long =
    (member 1, command.Begin (fields_of (codes "A"))) ∷ (member 1, command.Take 2) ∷ (member 1, command.Take 1) ∷ (member 1, command.Drop (job 1)) ∷ []

-- a dropped job has used its number
abbrev pub SpoolFullDropsTheDeck : Type 0
SpoolFullDropsTheDeck =
    replies_to one_group (too_long ++ deck 1 2) ≡
    reply.Job (job 1) ∷ reply.Count 1 ∷ reply.No refusal.SpoolFull ∷ reply.Plain ∷ reply.Job (job 2) ∷ reply.Count 1
    ∷ reply.Job (job 2) ∷ []

abbrev pub DroppedGroupIsFree : Type 0
DroppedGroupIsFree = shown (queue_after one_group too_long) what.Spool ≡ codes "VOL1 FREE 1 OF 1" ∷ []

-- TWO VOLUMES OF ONE GROUP

abbrev pub SecondDeckIsOnSecondVolume : Type 0
SecondDeckIsOnSecondVolume =
    (queue_after (empty (record default_config { volumes = 2; groups = 1 })) (decks 1 2)).owners
    ≡ owner.Deck (job 1) 0 ∷ owner.Deck (job 2) 0 ∷ []

-- AS MANY JOBS AS THERE MAY BE

abbrev pub sixteen_jobs : Queue
sixteen_jobs = queue_after (empty (record default_config { jobs = 16 })) (decks 1 16)

-- one more deck is refused. A cancelled job makes room, and its number is not given again
abbrev pub SeventeenthDeckIsRefused : Type 0
SeventeenthDeckIsRefused =
    replies_to sixteen_jobs ((member 1, command.Begin (fields_of (codes "A"))) ∷ (member 1, command.Cancel (job 1)) ∷ (member 1, command.Purge) ∷ deck 1 17)
    ≡ reply.No refusal.JobsFull ∷ reply.Job (job 1) ∷ reply.Job (job 1) ∷ reply.Job (job 17) ∷ reply.Count 1
    ∷ reply.Job (job 17) ∷ []

-- NUMBERS

-- the last number given was the greatest
abbrev pub at_greatest : Queue → Queue
at_greatest Q = record Q { last = job 99999 }

-- the next is 1, which a job has
abbrev pub NumbersBeginAgain : Type 0
NumbersBeginAgain =
    (replies_to (at_greatest (queue_after (empty default_config) (deck 1 1))) ((member 1, command.Begin (fields_of (codes "A"))) ∷ []) ≡ reply.Job (job 2) ∷ [])
    × ((queue_after (at_greatest (queue_after (empty default_config) (deck 1 1))) ((member 1, command.Begin (fields_of (codes "A"))) ∷ [])).last ≡ job 2)
