use Rattle.ckpt_pages.proofs.StartLemmas.{empty_spelling, first_are_levels, empty_stands}
use Rattle.ckpt_pages.proofs.tables.law_of_empty_tables.Goals as goal

pub returns-clause-spelling : goal.returns-clause-spelling
returns-clause-spelling c = empty_spelling

pub returns-clause-levels : goal.returns-clause-levels
returns-clause-levels c = first_are_levels

pub returns-clause-queue : goal.returns-clause-queue
returns-clause-queue c = empty_stands
