use Rattle.std.proofs.Common.{◌≡◌, ◌++◌, ap, ◌∙◌}
use Rattle.std.proofs.lemmas.Result.{on_ok_weaker}
use Rattle.mas_types.specs.Shown.{member_word}
use Rattle.gen_work.specs.Generated.{deck_member}
use Rattle.gen_work.proofs.Pieces.{deck_pieces}
use Rattle.gen_work.proofs.script.push_deck.Goals as goal

pub returns : goal.returns
returns c =
    let start = c.args.script.now in
    let member : c.push_member.new.line ≡ start ++ member_word (deck_member c.args.deck) = c.in_ok-push_member.ensures ∙ ap (λ m. start ++ member_word m) c.member.ensures.is in
    on_ok_weaker c.push_end_cards.result (λ last. deck_pieces c.args.deck start c.push_member.new.line c.push_line.new.script c.push_job_card.new.script c.push_step_cards.new.script c.push_data_cards.new.script c.push_end_cards.new.script member c.in_ok-push_line.ensures c.in_ok-push_job_card.ensures c.in_ok-push_step_cards.ensures c.in_ok-push_data_cards.ensures last) c.push_end_cards.ensures
