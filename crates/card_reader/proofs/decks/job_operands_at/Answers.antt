use Rattle.std.proofs.Common.{◌∙◌, ap}
use Rattle.card_reader.specs.Jobs.{job_operands_of}
use Rattle.card_reader.specs.Statements.{operands_from}
use Rattle.card_reader.proofs.Fronts.{rest_from}
use Rattle.card_reader.proofs.decks.job_operands_at.Goals as goal

pub returns : goal.returns
returns c =
    c.read_job_operands.ensures ∙ ap job_operands_of (c.in_ok-operands.ensures.value ∙ ap operands_from (rest_from c.args.at c.args.cards.now c.args.card.now c.requires))
