-- Lines between nodes: numbers follow one another.
use Rattle.std.specs.Prelude.{◌≡◌, ℕ, List, [], ◌∷◌, ◌++◌, codes}
use Rattle.mas_types.specs.declared.jobs.JobFields.{JobFields}
use Rattle.mas_types.specs.declared.queues.Queue.{Queue}
use Rattle.mas_types.specs.declared.commands.Command.TheVariants as command
use Rattle.mas_types.specs.declared.commands.Refusal.TheVariants as refusal
use Rattle.mas_types.specs.declared.commands.Reply.TheVariants as reply
use Rattle.mas_types.specs.Starts.{default_config, empty_queue}
use Rattle.queue_laws.specs.Examples.Small.{member, job, name, empty, replies_to, fields_of, deck_of}

-- the queue of a cold start, from which the line 1 leads to the node FAR
abbrev pub with_route : Queue
with_route = empty_queue default_config (record { name = name (codes "FAR"); line = 1 } ∷ [])

abbrev pub for_far : JobFields
for_far = record (fields_of (codes "X")) { node = name (codes "FAR") }

abbrev pub card : List (List ℕ)
card = codes "//X JOB" ∷ []

-- a job for the node goes over the line once, under the number 1
abbrev pub SentJobIsNumbered : Type 0
SentJobIsNumbered =
    replies_to with_route (deck_of 1 1 for_far card
    ++ (member 1, command.Sent 1 2) ∷ (member 1, command.Sent 1 1) ∷ (member 1, command.Load 1)
    ∷ (member 1, command.Sent 1 1) ∷ (member 1, command.Sent 1 1) ∷ (member 1, command.Load 1) ∷ [])
    ≡ reply.Job (job 1) ∷ reply.Count 1 ∷ reply.Job (job 1) ∷ reply.No (refusal.Gap 2 0) ∷ reply.No refusal.Nothing
    ∷ reply.Job (job 1)
    ∷ reply.Count 1 ∷ reply.No (refusal.Again 1) ∷ reply.No refusal.Nothing ∷ []

-- a job that came under the number 1 comes once
abbrev pub GotJobIsNumbered : Type 0
GotJobIsNumbered =
    replies_to (empty default_config) (
    (member 1, command.Begin (fields_of (codes "A"))) ∷ (member 1, command.Take 1) ∷ (member 1, command.Got 1 1 (job 1) card)
    ∷ (member 1, command.Got 1 1 (job 1) card) ∷ (member 1, command.Got 1 3 (job 1) card) ∷ [])
    ≡ reply.Job (job 1) ∷ reply.Count 1 ∷ reply.Job (job 1) ∷ reply.No (refusal.Again 1) ∷ reply.No (refusal.Gap 3 1)
    ∷ []

-- a job for a node that no route names is refused
abbrev pub UnknownNodeIsRefused : Type 0
UnknownNodeIsRefused = replies_to (empty default_config) ((member 1, command.Begin for_far) ∷ [])
    ≡ reply.No refusal.NoNode ∷ []
