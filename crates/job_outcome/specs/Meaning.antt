-- A job's meaning: from its fields and its text to its outputs.
use Rattle.std.specs.Prelude.{ℕ, if◌then◌else◌, List, [], ◌∷◌, Option, Some, None, Result, Ok, Err}
use Rattle.mas_types.specs.declared.jobs.JobFields.{JobFields}
use Rattle.mas_types.specs.declared.jobs.OutSpec.{OutSpec}
use Rattle.mas_types.specs.Printed.{jcl_error_line, no_error_line}
use Rattle.jcl_convert.specs.declared.convert_text.Converted.{Converted}
use Rattle.jcl_convert.specs.declared.convert_text.Refused.{Refused}
use Rattle.jcl_convert.specs.Jcl.{converted}
use Rattle.job_exec.specs.Listing.{listing_of}
use Rattle.job_exec.specs.Running.{outputs_of}

-- the line that is listed in place of a run: of a JCL error, or of a job without one that is only scanned
abbrev pub line_listed : JobFields → Result Converted Refused → Option (List ℕ)
line_listed job (Err wrong) = Some (jcl_error_line wrong.card wrong.cause)
line_listed job (Ok read) = if job.scan then Some no_error_line else None

abbrev pub listed : JobFields → List (List ℕ) → Option (List ℕ)
listed job text = line_listed job (converted job text)

-- what the steps print
abbrev pub outputs_run : Result Converted Refused → List OutSpec
outputs_run (Err wrong) = []
outputs_run (Ok read) = outputs_of read.steps

abbrev pub outputs_unless : JobFields → Option (List ℕ) → List OutSpec → List OutSpec
outputs_unless job (Some line) ran = listing_of job line ∷ []
outputs_unless job None ran = ran

-- the outputs of a job with these fields and this text
abbrev pub meaning : JobFields → List (List ℕ) → List OutSpec
meaning job text = outputs_unless job (listed job text) (outputs_run (converted job text))
