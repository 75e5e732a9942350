-- The queue of tables without its texts.
use Rattle.std.specs.Prelude.{ℕ, ◌==◌, if◌then◌else◌, []}
use Rattle.mas_types.specs.declared.jobs.Text.{Text}
use Rattle.mas_types.specs.declared.jobs.Text.TheVariants.{Whole, Gone}
use Rattle.lay_bytes.specs.declared.records.JobRec.{JobRec}
use Rattle.lay_bytes.specs.declared.records.OutRec.{OutRec}

-- a text of so many lines: one without lines is there, any other is gone
abbrev pub bare_text : ℕ → Text
bare_text lines = if lines == 0 then Whole [] else Gone (record { 0 = 0 }) lines

abbrev pub bare_deck : JobRec → Text
bare_deck job = bare_text job.cards

abbrev pub bare_print : OutRec → Text
bare_print output = bare_text output.lines
