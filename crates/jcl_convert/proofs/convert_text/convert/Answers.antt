use Rattle.std.proofs.Common.{◌≡◌, ◌∙◌, sym, ap, ◌+◌, true, false, Ok, Err, List, ℕ, drop, rules, arith}
use Rattle.std.proofs.lemmas.List.{drop_all}
use Rattle.card_reader.specs.Cards.{is_null_kind, kind_of}
use Rattle.card_reader.specs.Statements.{items_from, up_to_end}
use Rattle.jcl_convert.specs.Jcl.{card_added, converted_after}
use Rattle.jcl_convert.proofs.StepLemmas.{converted_after-refused, converted_after-end, converted_after-more}
use Rattle.jcl_convert.proofs.convert_text.convert.Goals as goal

pub returns-in-Some-clause-refused : goal.returns-in-Some-clause-refused
returns-in-Some-clause-refused c =
    let why : card_added c.args.fields.now c.loop-at.job c.line-card.result.now (drop (c.loop-at.at + 1) c.args.text.now) (kind_of c.line-card.result.now) ≡ Err c.in-Some.cause = rw c.in-Some.is at c.in_ok-cause.ensures in
    (c.loop-at.at + 1, sym c.loop-at.invariant.rest ∙ converted_after-refused c.args.fields.now c.loop-at.job c.args.text.now c.loop-at.at c.line-card.result.now c.line-card.ensures c.in-Some.cause why, c.card_number-card.ensures)

pub returns-then-ends_job-clause-steps : goal.returns-then-ends_job-clause-steps
returns-then-ends_job-clause-steps c =
    let is : is_null_kind (kind_of c.line-card.result.now) ≡ true = search rules in
    let added : card_added c.args.fields.now c.loop-at.job c.line-card.result.now (drop (c.loop-at.at + 1) c.args.text.now) (kind_of c.line-card.result.now) ≡ Ok c.add_card.new.job = rw c.in_default.is at c.in_ok-cause.ensures in
    (c.add_card.new.job.sysouts, sym c.loop-at.invariant.rest ∙ converted_after-end c.args.fields.now c.loop-at.job c.args.text.now c.loop-at.at c.line-card.result.now c.line-card.ensures c.add_card.new.job added is)

pub loop-at-preserved : goal.loop-at-preserved
loop-at-preserved c =
    let other : is_null_kind (kind_of c.line-card.result.now) ≡ false = search rules in
    let added : card_added c.args.fields.now c.loop-at.job c.line-card.result.now (drop (c.loop-at.at + 1) c.args.text.now) (kind_of c.line-card.result.now) ≡ Ok c.add_card.new.job = rw c.in_default.is at c.in_ok-cause.ensures in
    record {
      within = omega (arith, c.in_ok-at.ensures.within);
      rest = sym (converted_after-more c.args.fields.now c.loop-at.job c.args.text.now c.loop-at.at c.line-card.result.now c.line-card.ensures c.add_card.new.job c.in_ok-at.field-0 added other c.in_ok-at.ensures.value) ∙ c.loop-at.invariant.rest;
    }

pub returns-clause-steps : goal.returns-clause-steps
returns-clause-steps c =
    (c.loop-at.job.sysouts, sym c.loop-at.invariant.rest ∙ ap (λ (l : List (List ℕ)). converted_after c.args.fields.now c.loop-at.job (up_to_end (items_from (c.loop-at.at + 1) 0 l))) (drop_all c.loop-at.at c.args.text.now (omega arith)))
