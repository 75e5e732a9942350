use Rattle.std.proofs.Common.{◌≡◌, ◌∙◌, ◌≤◌, ◌<◌, [], length, get_or, sym, arith}
use Rattle.std.proofs.lemmas.Slice.Eq.{bytes_eq-Decides}
use Rattle.member_node.proofs.RedrawLemmas.{page_with}
use Rattle.member_node.proofs.WantedLemmas.{page_at}
use Rattle.member_node.proofs.reading.is_own_header.Goals as goal

pub returns : goal.returns
returns c same =
    let room = c.args.room.now in
    let own = c.args.own.now in
    let one = get_or c.args.room.now 0 (page_with []) in
    let two = get_or c.args.own.now 0 (page_with []) in
    let here : 0 < length c.args.room.now = omega (arith, c.requires.some1) in
    let there : 0 < length c.args.own.now = omega (arith, c.requires.some2) in
    let bytes : one.0 ≡ two.0 = (bytes_eq-Decides one.0 two.0).0 (sym c.is_same_page.ensures ∙ same) in
    let some : 1 ≤ c.args.level = omega arith in
    (some, sym (page_at room 0 (page_with []) here) ∙ bytes ∙ page_at own 0 (page_with []) there)
