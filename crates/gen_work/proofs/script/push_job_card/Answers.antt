use Rattle.std.proofs.Common.{◌≡◌, ◌∙◌, ap, ◌++◌, decimal}
use Rattle.std.proofs.lemmas.Result.{on_ok_weaker}
use Rattle.mas_types.specs.Shown.{class_text}
use Rattle.gen_work.specs.Generated.{deck_class, deck_priority}
use Rattle.gen_work.proofs.Pieces.{job_pieces}
use Rattle.gen_work.proofs.script.push_job_card.Goals as goal

pub returns : goal.returns
returns c =
    let deck = c.args.deck in
    let front = c.push_text-2.new.line in
    let middle = c.push_text-3.new.line in
    let letter : c.push.new.self ≡ front ++ class_text (deck_class deck) = c.in_ok-push.ensures.ok ∙ ap (λ one. front ++ class_text one) c.class.ensures in
    let priority : c.push_decimal.new.line ≡ middle ++ decimal (deck_priority deck).0 = c.in_ok-push_decimal.ensures ∙ ap (λ one. middle ++ decimal one.0) c.priority.ensures in
    on_ok_weaker c.push-2.result (λ last. job_pieces deck c.args.script.now c.push_text.new.line c.push_digits.new.line front c.push.new.self middle c.push_decimal.new.line c.push-2.new.self c.in_ok-push_text.ensures c.in_ok-push_digits.ensures c.in_ok-push_text-2.ensures letter c.in_ok-push_text-3.ensures priority last) c.push-2.ensures.ok
