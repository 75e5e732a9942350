-- What Ended leaves of a queue's texts, each with the groups in which it stands.
use Rattle.std.specs.Prelude.{◌≡◌, ◌⊎◌, ℕ, ◌+◌, false, List, [], ◌∷◌, Some, drop, slice_get, take}
use Rattle.mas_types.specs.declared.ids.GroupNo.{GroupNo}
use Rattle.mas_types.specs.declared.ids.JobNo.{JobNo}
use Rattle.mas_types.specs.declared.ids.MemberId.{MemberId}
use Rattle.mas_types.specs.declared.jobs.OutSpec.{OutSpec}
use Rattle.mas_types.specs.declared.jobs.Text.{Text}
use Rattle.mas_types.specs.declared.jobs.Text.TheVariants.{Whole}
use Rattle.mas_types.specs.declared.commands.Command.TheVariants as command
use Rattle.mas_types.specs.declared.queues.Queue.{Queue}
use Rattle.mas_types.specs.declared.queues.Thing.{Thing}
use Rattle.mas_types.specs.declared.queues.Thing.TheVariants.{Output}
use Rattle.mas_types.specs.Commands.Life.{outputs_at_end}
use Rattle.mas_types.specs.Owners.{groups_needed}
use Rattle.mas_types.specs.Queue.{has_output, job_at}
use Rattle.mas_types.specs.Step.{step}
use Rattle.track_groups.specs.Groups.{held_by}
use Rattle.queue_texts.specs.Leaving.{AreTheirOwn, HoldsOfTexts, WasThere}

-- the groups that each of these outputs gets of a member's: the next lowest ones, as many as its text needs
abbrev pub shares : List OutSpec → List GroupNo → List (List GroupNo)
shares [] groups = []
shares (s ∷ specs) groups = take (groups_needed s.text) groups ∷ shares specs (drop (groups_needed s.text) groups)

-- the text of one of the outputs of a job that ends, and the groups in which it stands
pub record IsOfOutput (n : JobNo) (specs : List OutSpec) (groups : List GroupNo) (t : Thing) (text : Text)
    (its : List GroupNo) : Type 0 where
  pub place : ℕ
  pub spec : OutSpec
  pub is : slice_get specs place ≡ Some spec
  pub of_it : t ≡ Output n (record { 0 = place + 1 })
  pub whole : text ≡ Whole spec.text
  pub there : slice_get (shares specs groups) place ≡ Some its

-- each text stands in the groups in which it stood before, or is of one of the outputs, in its share of the member's
-- groups
abbrev pub EndedBringsTexts : Type 0
EndedBringsTexts = (Q : Queue) (m : MemberId) (n : JobNo) (specs : List OutSpec) → AreTheirOwn Q
    → has_output n Q ≡ false
    → HoldsOfTexts (λ t text gs. IsOfOutput n (outputs_at_end (job_at Q n) specs) (held_by m Q.owners) t text gs
    ⊎ WasThere Q t text gs) (step Q m (command.Ended n specs)).0
