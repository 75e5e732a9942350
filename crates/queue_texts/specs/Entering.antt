-- What Enter and Got leave of a queue's texts, each with the groups in which it stands.
use Rattle.std.specs.Prelude.{◌≡◌, ◌⊎◌, ℕ, true, List, Some, take}
use Rattle.mas_types.specs.declared.ids.GroupNo.{GroupNo}
use Rattle.mas_types.specs.declared.ids.MemberId.{MemberId}
use Rattle.mas_types.specs.declared.ids.JobNo.{JobNo}
use Rattle.mas_types.specs.declared.jobs.Job.{Job}
use Rattle.mas_types.specs.declared.jobs.Text.{Text}
use Rattle.mas_types.specs.declared.jobs.Text.TheVariants.{Whole}
use Rattle.mas_types.specs.declared.commands.Command.TheVariants as command
use Rattle.mas_types.specs.declared.queues.Queue.{Queue}
use Rattle.mas_types.specs.declared.queues.Thing.{Thing}
use Rattle.mas_types.specs.declared.queues.Thing.TheVariants.{Deck}
use Rattle.mas_types.specs.Commands.Input.{entered}
use Rattle.mas_types.specs.Owners.{groups_needed}
use Rattle.mas_types.specs.Queue.{in_input, job_at}
use Rattle.mas_types.specs.Step.{step}
use Rattle.track_groups.specs.Groups.{held_by}
use Rattle.queue_texts.specs.Leaving.{HoldsOfTexts, WasThere, AreTheirOwn}

-- the groups that an entered text gets: the lowest ones of the member, as many as it needs
abbrev pub groups_for : Queue → MemberId → List (List ℕ) → List GroupNo
groups_for Q m text = take (groups_needed text) (held_by m Q.owners)

-- the text of one deck or output, and the groups in which it stands
pub record IsBrought (its : Thing) (lines : List (List ℕ)) (where_it_stands : List GroupNo) (t : Thing) (text : Text)
    (groups : List GroupNo) : Type 0 where
  pub of_it : t ≡ its
  pub whole : text ≡ Whole lines
  pub there : groups ≡ where_it_stands

-- each text stands in the groups in which it stood before, or is the one that is brought, in these groups
abbrev pub BringsText : Queue → Thing → List (List ℕ) → List GroupNo → Queue → Type 0
BringsText Q its lines groups R = HoldsOfTexts
    (λ t text gs. IsBrought its lines groups t text gs ⊎ WasThere Q t text gs) R

-- where a job in Input is entered, its text is brought, and each other text stays in its groups
abbrev pub EntersText : Type 0
EntersText = (Q : Queue) (m : MemberId) (n : JobNo) (text : List (List ℕ)) → AreTheirOwn Q
    → ((j : Job) → job_at Q n ≡ Some j → in_input j.phase ≡ true)
    → BringsText Q (Deck n) text (groups_for Q m text) (entered m n text Q)

-- after Enter, refused or not, each text stands where it stood, or is the one that is brought, in its groups
abbrev pub EnterBringsText : Type 0
EnterBringsText = (Q : Queue) (m : MemberId) (n : JobNo) (text : List (List ℕ)) → AreTheirOwn Q
    → BringsText Q (Deck n) text (groups_for Q m text) (step Q m (command.Enter n text)).0

-- after Got, refused or not, each text stands where it stood, or is the one that is brought, in its groups
abbrev pub GotBringsText : Type 0
GotBringsText = (Q : Queue) (m : MemberId) (l number : ℕ) (n : JobNo) (text : List (List ℕ)) → AreTheirOwn Q
    → BringsText Q (Deck n) text (groups_for Q m text) (step Q m (command.Got l number n text)).0
