use Rattle.std.proofs.Common.{◌∙◌}
use Rattle.page_tables.specs.Kinds.{job_fit}
use Rattle.page_tables.proofs.SlotLemmas.{not_ok}
use Rattle.page_tables.proofs.kinds.OptionJobRecSlot.read.Goals as goal

pub returns-in_default-clause-only : goal.returns-in_default-clause-only
returns-in_default-clause-only c x fits e = absurd (not_ok _ _ (c.in_default.ensures.only x (job_fit c.args.order x fits) (c.copy_from_slice.ensures.after ∙ e)))
