use Rattle.mas_run.proofs.Names.{◌∙◌, Err, sym, ap, err_from_is_err_and, refusals_calm as calm, said_by, said_answers, script_kind, script_source, unread_answers, ◌≡◌}
use Rattle.mas_run.proofs.AloneLemmas.{none_read}
use Rattle.mas_types.specs.declared.answers.Status.TheVariants as status
use Rattle.mas_run.proofs.top.read_all.Goals as goal

pub returns-in-Ok-clause-only : goal.returns-in-Ok-clause-only
returns-in-Ok-clause-only g c only = none_read (calm c.args.cold c.args.only) only c.law_of_scripts.ensures c.as_slice.result.now c.in-Ok.script c.in-Ok.ensures.said

pub returns-clause-kind : goal.returns-clause-kind
returns-clause-kind g c = rw c.status_of_script.ensures (script_kind c.in-Err.why)

pub returns-clause-refused : goal.returns-clause-refused
returns-clause-refused g c = λ tells v. rw c.status_of_script.ensures
    (said_answers c.args.cold (said_by c.args.cold c.args.only (g.S.Source.left c.args.source.now)) v c.in-Err.why (rw (c.as_slice.ensures, c.in_ok-bytes.ensures.bytes tells) at c.in-Err.ensures.said))

pub returns-clause-source : goal.returns-clause-source
returns-clause-source g c is = absurd (script_source c.in-Err.why (sym c.status_of_script.ensures ∙ (let same : c.status_of_script.result ≡ status.SourceFault = cc in same)))

pub returns-in_err-bytes-clause-refused : goal.returns-in_err-bytes-clause-refused
returns-in_err-bytes-clause-refused g c tells =
    let p = err_from_is_err_and c.from_residual.result c.from_residual.ensures.1 in
    rw (p.1, p.2) (λ v. unread_answers c.args.cold (calm c.args.cold c.args.only) (g.S.Source.left c.args.source.now) v _ c.in_err-bytes.ensures.kind (λ is. c.in_err-bytes.ensures.long tells (ap Err is))
    (λ line why is. c.in_err-bytes.ensures.no_line line why (ap Err is)))
