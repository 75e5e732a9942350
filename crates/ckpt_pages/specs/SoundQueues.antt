-- Sound tables stand for sound queues.
use Rattle.std.specs.Prelude.{◌≡◌, All}
use Rattle.mas_types.specs.declared.jobs.Text.{Text}
use Rattle.mas_types.specs.Queue.{line_count}
use Rattle.mas_types.specs.Fit.{IsText}
use Rattle.mas_types.specs.Sound.{IsSound}
use Rattle.lay_bytes.specs.declared.records.JobRec.{JobRec}
use Rattle.lay_bytes.specs.declared.records.OutRec.{OutRec}
use Rattle.ckpt_tables.specs.declared.tables.Tables.{Tables}
use Rattle.ckpt_tables.specs.Shape.{HasSpelling}
use Rattle.lay_bytes.specs.Used.{used}
use Rattle.ckpt_pages.specs.QueueOf.{queue_of}
use Rattle.ckpt_pages.specs.Sound.{AreSound}

-- a text within the limits for each job and each output, with as many lines as its slot says
pub record AreTexts (t : Tables) (deck : JobRec → Text) (print : OutRec → Text) : Type 0 where
  pub decks : All (λ j. IsText (deck j) × (line_count (deck j) ≡ j.cards)) (used t.jobs)
  pub prints : All (λ o. IsText (print o) × (line_count (print o) ≡ o.lines)) (used t.outputs)

-- sound tables stand for a queue with the sound parts, where their texts are such
abbrev pub SoundStandForSound : Type 0
SoundStandForSound = (t : Tables) (deck : JobRec → Text) (print : OutRec → Text) → HasSpelling t → AreSound t
    → AreTexts t deck print → IsSound (queue_of t deck print)
