use Rattle.member_acts.proofs.Names.{◌∙◌, ap, List, list_any, command_of, reply_of, brings_by}
use Rattle.std.proofs.Common.{rules, tests}
use Rattle.std.proofs.lemmas.Iterator.{YieldsList-from_slice}
use Rattle.std.proofs.lemmas.Iterator.Search.{any_from_yields_List}
use Rattle.brief_journal.specs.declared.entries.BriefEntry.{BriefEntry}
use Rattle.member_acts.proofs.BriefLemmas.{any_brought}
use Rattle.member_acts.proofs.gone.is_brought.Goals as goal

pub returns : goal.returns
returns c =
    any_from_yields_List (λ (b : BriefEntry). brings_by c.args.text (command_of b.command) (reply_of b.reply)) _ _ _ c.any.ensures.ran (YieldsList-from_slice c.briefs.result.now cc) (λ x b q k. search (rules, tests))
    ∙ ap (λ (bs : List BriefEntry). list_any (λ b. brings_by c.args.text (command_of b.command) (reply_of b.reply)) bs) c.briefs.ensures
    ∙ any_brought c.args.text c.args.batch.now.entries
