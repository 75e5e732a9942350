-- Room for the texts of a queue, and what they are.
use Rattle.std.specs.Prelude.{◌≡◌, ℕ, List, All}
use Rattle.mas_types.specs.declared.ids.GroupNo.{GroupNo}
use Rattle.mas_types.specs.declared.jobs.Text.{Text}
use Rattle.mas_types.specs.declared.queues.Queue.{Queue}
use Rattle.mas_types.specs.declared.queues.Thing.TheVariants.{Deck, Output}
use Rattle.mas_types.specs.Queue.{line_count}
use Rattle.spool_plant.specs.View.{View}
use Rattle.track_groups.specs.Places.{groups_of}
use Rattle.spool_volumes.specs.Volumes.{volumes_now}
use Rattle.spool_volumes.specs.Texts.{records_on, text_of}

-- The text is what its groups give, of which so many lines are counted. With a group on a lost volume, or with one that
-- holds no records, it is gone, and names the first such group.
abbrev pub IsGiven : View → ℕ → Text → List GroupNo → Type 0
IsGiven v per text groups = text_of (records_on (volumes_now v) per) (line_count text) groups ≡ text

-- each text of a queue is what its groups give
pub record AreGiven (v : View) (per : ℕ) (Q : Queue) : Type 0 where
  pub decks : All (λ j. IsGiven v per j.text (groups_of (Deck j.number) Q.owners)) Q.jobs
  pub outputs : All (λ o. IsGiven v per o.text (groups_of (Output o.job o.index) Q.owners)) Q.outputs
