use Rattle.std.proofs.Common.{◌≡◌, true, false, ap, sym, ◌∙◌, arith}
use Rattle.std.specs.Prelude.{filter}
use Rattle.std.proofs.lemmas.Bool.Decides.{nat_tests}
use Rattle.mas_types.specs.Ids.{same_number}
use Rattle.mas_types.specs.Owners.{is_of_any}
use Rattle.mas_types.specs.Queue.{is_of}
use Rattle.queue_effect.proofs.GroupLemmas.{any_filtered, none_filtered, key_found}
use Rattle.queue_effect.proofs.groups.is_print_of.Goals as goal

pub returns-then-job-of : goal.returns-then-job-of
returns-then-job-of c =
    let j = c.in-Output.job in
    let i = c.in-Output.index in
    let same : same_number j c.args.of ≡ true = grind (arith, nat_tests) in
    λ os are.
    c.is_some.ensures
    ∙ key_found j i c.args.outputs.now os c.find_output.result are c.find_output.ensures.some c.find_output.ensures.none
    ∙ sym (any_filtered c.args.of j i os same)
    ∙ ap (is_of_any (filter (is_of c.args.of) os)) (sym c.in-Output.is)

pub returns-else-job-of : goal.returns-else-job-of
returns-else-job-of c =
    let j = c.in-Output.job in
    let i = c.in-Output.index in
    let apart : same_number j c.args.of ≡ false = grind (arith, nat_tests) in
    λ os are.
    apart
    ∙ sym (none_filtered c.args.of j i os apart)
    ∙ ap (is_of_any (filter (is_of c.args.of) os)) (sym c.in-Output.is)
