use Rattle.std.proofs.Common.{refl}
use Rattle.std.specs.Fmt.{digits}
use Rattle.gen_work.specs.SummaryExamples.{SummariesAreTaken}
use Rattle.gen_work.proofs.examples.examples_of_summaries.Goals as goal

taken : SummariesAreTaken
unfolding digits
taken = record { history = λ fields cards. refl; line = refl }

pub returns : goal.returns
returns c = taken
