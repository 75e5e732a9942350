use Rattle.std.proofs.Common.{List, subst}
use Rattle.std.proofs.lemmas.List.{take_all}
use Rattle.std.proofs.lemmas.List.Elements.{All-more, All-nil}
use Rattle.std.specs.Prelude.{All}
use Rattle.brief_journal.specs.declared.entries.BriefCommand.TheVariants.{Begin}
use Rattle.brief_journal.specs.declared.entries.BriefEntry.{BriefEntry}
use Rattle.brief_journal.specs.declared.entries.BriefReply.TheVariants.{Plain}
use Rattle.race_ends.proofs.HistoryLemmas.{IsBriefNamed}
use Rattle.race_ends.proofs.histories.are_named.Goals as goal

pub loop-brief-init : goal.loop-brief-init
loop-brief-init c = All-nil IsBriefNamed

pub loop-brief-preserved : goal.loop-brief-preserved
loop-brief-preserved c =
    let none : BriefEntry = record { by = record { 0 = 0 }; step = 0; command = Begin; reply = Plain } in
    All-more IsBriefNamed c.args.briefs.now c.loop-brief.brief-index none c.loop-brief-test.true c.loop-brief.invariant
    (c.is_named.ensures c.if-not-is_named.false, c.is_reply_named.ensures c.if-not-is_reply_named.false)

pub returns : goal.returns
returns c is =
    subst (λ (bs : List BriefEntry). All IsBriefNamed bs) (take_all c.loop-brief.brief-index c.args.briefs.now c.loop-brief-test.false) c.loop-brief.invariant
