use Rattle.paper_laws.specs.Laws.{Passed}
use Rattle.paper_laws.proofs.Commands.{entries_keep}
use Rattle.paper_laws.proofs.Printed.{lines_keep}
use Rattle.paper_laws.proofs.Marked.{marks_answer}
use Rattle.paper_laws.proofs.Plain.{plain_allowed}
use Rattle.paper_laws.proofs.laws.law_of_paper.Goals as goal

pub returns : goal.returns
returns c = record {
  entries = λ on base counts K es sound given allowed lines marks. entries_keep (Passed on) base counts K es sound given allowed lines marks;
  lines = λ on after. lines_keep (Passed on) (Passed after);
  marks = λ on. marks_answer (Passed on);
  plain = plain_allowed;
}
