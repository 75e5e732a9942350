use Rattle.member_decks.proofs.Names.{◌≡◌, ◌∙◌, reverse, ap, sym, find, option_copied, closes}
use Rattle.member_decks.proofs.KeepLemmas.{closing_named}
use Rattle.member_decks.proofs.keeping.last_lines.Goals as goal

pub reply_lines-requires-clause-named : goal.reply_lines-requires-clause-named
reply_lines-requires-clause-named c =
    let found : option_copied c.last_closing.result ≡ find closes (reverse c.as_slice.result.now) = c.last_closing.ensures in
    closing_named c.args.member.now.batch c.in-Some-last_closing.entry.now c.requires.named (rw c.as_slice.ensures at (sym found ∙ ap option_copied c.in-Some-last_closing.is))
