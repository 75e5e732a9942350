use Rattle.std.proofs.Common.{◌∙◌, sym, ap, Option, [], ◌++◌}
use Rattle.std.specs.List.{cons_option}
use Rattle.std.proofs.lemmas.List.{append-nil}
use Rattle.std.proofs.lemmas.Result.{on_ok_weaker}
use Rattle.gen_work.specs.declared.summaries.Counted.{Counted}
use Rattle.gen_work.proofs.summaries.push_entry.Goals as goal

pub returns-in-Some : goal.returns-in-Some
returns-in-Some c =
    on_ok_weaker c.push.result (λ last. last ∙ ap (λ (o : Option Counted). c.args.counted.now ++ cons_option o []) c.in-Some.ensures) c.push.ensures.ok

pub returns-in-None : goal.returns-in-None
returns-in-None c =
    sym (ap (λ (o : Option Counted). c.args.counted.now ++ cons_option o []) (sym c.in-None.ensures) ∙ append-nil c.args.counted.now)
