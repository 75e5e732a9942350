-- The output that is busy at a member is sound.
use Rattle.std.proofs.Common.{◌≡◌, ◌≤◌, Bool, true, false, Some, None, find, refl}
use Rattle.mas_types.specs.declared.ids.MemberId.{MemberId}
use Rattle.mas_types.specs.declared.jobs.Output.{Output}
use Rattle.mas_types.specs.declared.jobs.Text.{Text}
use Rattle.mas_types.specs.declared.jobs.Text.TheVariants.{Whole, Gone}
use Rattle.mas_types.specs.declared.queues.Queue.{Queue}
use Rattle.mas_types.specs.Fit.{IsText}
use Rattle.mas_types.specs.Ids.{is_somebody}
use Rattle.mas_types.specs.Limits.{text_lines_most}
use Rattle.mas_types.specs.Queue.{line_count, printing_at, prints_at}
use Rattle.mas_types.specs.Sound.{IsSound, IsSoundOutput}
use Rattle.cmd_report.proofs.Pieces.{find_holds}

pub printing_sound : (Q : Queue) (m : MemberId) (o : Output) → IsSound Q → printing_at Q m ≡ Some o → IsSoundOutput Q.config Q.jobs o
printing_sound Q m o sound is = by_test (is_somebody m) refl
  where
    by_test : (v : Bool) → is_somebody m ≡ v → IsSoundOutput Q.config Q.jobs o
    by_test true h =
        let found : find (prints_at m) Q.outputs ≡ Some o = rw h at is in
        find_holds (IsSoundOutput Q.config Q.jobs) (prints_at m) Q.outputs o sound.outputs found
    by_test false h =
        let none : None ≡ Some o = rw h at is in
        absurd (cc)

few_lines : (t : Text) → IsText t → line_count t ≤ text_lines_most
few_lines (Whole lines) y = y.few
few_lines (Gone group count) y = y

-- the text of an output that is printed has no more lines than the limit
pub printing_few : (Q : Queue) (m : MemberId) (o : Output) → IsSound Q → printing_at Q m ≡ Some o → line_count o.text ≤ text_lines_most
printing_few Q m o sound is = few_lines o.text (printing_sound Q m o sound is).text
