use Rattle.job_outcome.proofs.EndLemmas.{ended_brings}
use Rattle.job_outcome.proofs.laws.law_of_ended_texts.Goals as goal

pub returns : goal.returns
returns c = ended_brings (record {
  no_members = c.law_of_giving.ensures.texts;
  turns = c.law_of_giving.ensures.turns;
  hands_out = c.law_of_giving.ensures.all;
  lowest = c.law_of_texts.ensures.lowest;
  keeps = c.law_of_texts.ensures.others;
  others = c.law_of_texts.ensures.texts;
  freeing = c.law_of_texts.ensures.freeing;
})
