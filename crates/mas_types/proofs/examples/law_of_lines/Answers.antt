use Rattle.std.proofs.Common.{refl}
use Rattle.std.specs.Fmt.{digits}
use Rattle.mas_types.specs.Examples.{LinesAreWritten}
use Rattle.mas_types.proofs.examples.law_of_lines.Goals as goal

written : LinesAreWritten
unfolding digits
written = record {
  numbers = refl;
  names = refl;
  closings = refl;
  refusals = refl;
  card_causes = refl;
  closing_lines = refl;
  displays = refl;
  histories = refl;
  paper = refl;
  statuses = refl;
  line_causes = refl;
  verdicts = refl;
  records = refl;
}

pub returns : goal.returns
returns c = written
