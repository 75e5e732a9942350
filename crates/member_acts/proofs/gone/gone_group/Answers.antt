use Rattle.member_acts.proofs.Names.{None, if◌then◌else◌, Bool, ◌∙◌, ap, sym, is_brought, kept_all, parts_of, brings_by}
use Rattle.queue_gone.specs.Gone.{gone_at}
use Rattle.member_acts.proofs.GoneLemmas.{gone_so, since_when, whole_stays}
use Rattle.member_acts.proofs.gone.gone_group.Goals as goal

pub returns-in_default : goal.returns-in_default
returns-in_default g c =
    let y = c.args.complex.now in
    gone_so g.P.Plant (parts_of y) c.args.text None (whole_stays (is_brought (brings_by c.args.text) (kept_all y.journal.batches)) (gone_at c.args.text y.base) (sym c.gone_at.ensures ∙ c.in_default.is)) c.kept_replies.ensures c.requires c.kept_given.ensures.given

pub returns-then-is_brought_in : goal.returns-then-is_brought_in
returns-then-is_brought_in g c =
    let y = c.args.complex.now in
    let since = since_when (brings_by c.args.text) (gone_at c.args.text y.base) y.journal.batches c.batches.result.now _ c.batches.ensures c.is_brought_in.ensures in
    gone_so g.P.Plant (parts_of y) c.args.text None (sym (since ∙ ap (λ (b : Bool). if b then None else gone_at c.args.text y.base) c.if-is_brought_in.true)) c.kept_replies.ensures c.requires c.kept_given.ensures.given

pub returns : goal.returns
returns g c =
    let y = c.args.complex.now in
    let since = since_when (brings_by c.args.text) (gone_at c.args.text y.base) y.journal.batches c.batches.result.now _ c.batches.ensures c.is_brought_in.ensures in
    gone_so g.P.Plant (parts_of y) c.args.text _ (sym c.in-Some.is ∙ c.gone_at.ensures ∙ sym (since ∙ ap (λ (b : Bool). if b then None else gone_at c.args.text y.base) c.if-is_brought_in.false)) c.kept_replies.ensures c.requires c.kept_given.ensures.given
