-- The reply with which a step closes.
use Rattle.member_decks.proofs.Names.{◌≡◌, ◌-◌, List, length, reverse, All, Some, sym, subst, arith, find, get_or-reverse, length-reverse, Entry, IsReplyNamed, find-All, closes}

pub closing_named : (es : List Entry) (e : Entry) → All (λ (f : Entry). IsReplyNamed f.reply) es → find closes (reverse es) ≡ Some e → IsReplyNamed e.reply
closing_named es e named found =
    let P = λ (f : Entry). IsReplyNamed f.reply in
    let long = length-reverse es in
    (find-All P closes (reverse es) e (λ k d lt. subst P (sym (get_or-reverse es k d (omega (arith, lt, long)))) (named (length es - 1 - k) d (omega (arith, lt, long)))) found).0
