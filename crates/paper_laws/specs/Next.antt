-- The line that a member prints next.
use Rattle.std.specs.Prelude.{◌≡◌, ℕ, ◌+◌, ◌<◌, true, List, ◌++◌, Some}
use Rattle.std.specs.Option.{option_map_or}
use Rattle.mas_types.specs.declared.ids.MemberId.{MemberId}
use Rattle.mas_types.specs.declared.jobs.Output.{Output}
use Rattle.mas_types.specs.declared.jobs.Text.TheVariants.{Whole}
use Rattle.mas_types.specs.declared.queues.Queue.{Queue}
use Rattle.mas_types.specs.declared.journals.Entry.{Entry}
use Rattle.mas_types.specs.Queue.{output_at, printing_at, setting_of, total}
use Rattle.mas_types.specs.Printed.{printed_line}
use Rattle.mas_types.specs.Run.{run}
use Rattle.paper_laws.specs.Paper.{busy_in}

-- the lines that the member's printer prints at a time
abbrev pub limit_of : Queue → MemberId → ℕ
limit_of Q m = option_map_or (λ s. s.lines) (setting_of Q m) 0

-- The bytes are the line behind so many, which the member has printed of the output that is busy at it behind that
-- output's mark. There is one, and the member's limit isn't reached.
pub record IsNextLine (Q : Queue) (m : MemberId) (printed : ℕ) (bytes : List ℕ) : Type 0 where
  pub output : Output
  pub busy : printing_at Q m ≡ Some output
  pub lines : List (List ℕ)
  pub text : output.text ≡ Whole lines
  pub is : bytes ≡ printed_line output.job output.index (output.mark + printed + 1) lines
  pub below : output.mark + printed < total output
  pub limit : printed < limit_of Q m

-- the bytes are the member's next line after the kept entries; with those in flight too, its output is busy at it
pub record MayPrint (base : Queue) (K F : List Entry) (m : MemberId) (printed : ℕ) (bytes : List ℕ) : Type 0 where
  pub next : IsNextLine (run base K) m printed bytes
  pub still : busy_in (output_at (run base (K ++ F)) next.output.job next.output.index) m ≡ true
