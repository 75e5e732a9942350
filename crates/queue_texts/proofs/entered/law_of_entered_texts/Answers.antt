use Rattle.queue_texts.proofs.EnteredLemmas.{enters_text, enter_brings, got_brings}
use Rattle.queue_texts.proofs.entered.law_of_entered_texts.Goals as goal

pub returns-clause-entered : goal.returns-clause-entered
returns-clause-entered c = enters_text c.law_of_giving.ensures.texts c.law_of_giving.ensures.all c.law_of_texts.ensures.lowest c.law_of_texts.ensures.texts c.law_of_texts.ensures.freeing

pub returns-clause-enter : goal.returns-clause-enter
returns-clause-enter c = enter_brings c.law_of_giving.ensures.texts c.law_of_giving.ensures.all c.law_of_texts.ensures.lowest c.law_of_texts.ensures.texts c.law_of_texts.ensures.freeing

pub returns-clause-got : goal.returns-clause-got
returns-clause-got c = got_brings c.law_of_giving.ensures.texts c.law_of_giving.ensures.all c.law_of_texts.ensures.lowest c.law_of_texts.ensures.texts c.law_of_texts.ensures.freeing
