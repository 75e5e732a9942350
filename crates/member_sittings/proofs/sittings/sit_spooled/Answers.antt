use Rattle.member_sittings.proofs.Names.{◌≡◌, true, false, List, [], ◌∷◌, ◌∙◌, refl, sym, ap, subst, arith, ∥∥₁_map, Command, MemberId, Entry, Queue, IsFit, may_give, kept_all, parts_of, HasTexts, lost_now, spools_at, run_append, entry_of, entry_with, only_entry, closing_reply, finishing, lines_by, finished_texts, finishing_all, one_named, one_of, Told, deck_end, queue_of, SpoolDeck, deck_found}
use Rattle.member_node.specs.Given.{IsGiver}
use Rattle.paper_laws.specs.Counts.{is_mark}
use Rattle.member_sittings.proofs.SeatLemmas.{keeps_one}
use Rattle.member_sittings.proofs.TurnLemmas.{sits_none, sits_by, spooled_sits}
use Rattle.member_sittings.specs.Sat.{resumes}
use Rattle.member_sittings.proofs.sittings.sit_spooled.Goals as goal

pub do_command-requires-clause-command : goal.do_command-requires-clause-command
do_command-requires-clause-command g c = let d = c.args.deck in subst IsFit (sym c.finishing-command.ensures) (finishing_all IsFit d.lost d.job d.text c.requires.text tt)

pub do_command-requires-clause-giver : goal.do_command-requires-clause-giver
do_command-requires-clause-giver g c =
    let m = c.args.member.now in
    let d = c.args.deck in
    let holds = c.requires.may.sits.seat.still.holds in
    subst (IsGiver m.id) (sym c.finishing-command.ensures) (finishing_all (IsGiver m.id) d.lost d.job d.text (holds.some, holds.few) (holds.some, holds.few))

pub do_command-requires-clause-order : goal.do_command-requires-clause-order
do_command-requires-clause-order g c = let order = c.requires.may.bounds.order in omega (arith, order)

pub returns-in_default : goal.returns-in_default
returns-in_default g c =
    let x = parts_of c.args.complex.now in
    let m = c.args.member.now in
    let h = c.args.holder in
    let d = c.args.deck in
    let Q : Queue = queue_of x in
    let e : Entry = entry_of Q h.by h.step (finishing d.lost d.job d.text) in
    sits_none g.P.Plant g.C.Copying (resumes h (SpoolDeck d.job d.text) (deck_found d.lost)) Told (lines_by h.by h.step d.lost (closing_reply (e ∷ []))) x m c.do_command.new.self (e ∷ []) c.do_command.ensures.id (omega arith) c.requires.may.sits.seat
    (λ t. sym (spooled_sits Q h d.job d.text d.lost)) (one_of (e ∷ []) e h.by h.step refl refl refl) (record { few = omega arith; release = refl; says = (refl, (closing_reply (e ∷ []), refl)) }) (λ A a. a)

pub close_deck-requires-clause-may : goal.close_deck-requires-clause-may
close_deck-requires-clause-may g c =
    let P = g.P.Plant in
    let x = parts_of c.args.complex.now in
    let m = c.args.member.now in
    let n = c.do_command.new.self in
    let e = c.do_command.ensures in
    let k = c.in-Ok.ensures in
    let d = c.args.deck in
    let h = c.args.holder in
    let last : Command = finishing d.lost d.job d.text in
    let sits = c.requires.may.sits in
    let b = sits.seat.between in
    let v = P.view x.plant in
    let Q : Queue = queue_of x in
    let p = k.pushed in
    let is = c.finishing-command.ensures in
    keeps_one P g.C.Copying x m n h last c.requires.may
    (record {
      did = record { id = e.id; room = e.room; here = e.behind ∙ sits.seat.still.here; fresh = e.fresh; level = e.level; levels = e.levels; pages = e.pages; config = e.config; spelling = e.spelling; fit = e.fit };
      reply = p.0;
      batch = only_entry m.batch n.batch (entry_with m.id h.step c.finishing-command.result p.0) p.1 b.nothing ∙ ap (λ (q : Command). entry_with m.id h.step q p.0 ∷ []) is;
      told = λ t. only_entry m.batch n.batch (entry_of Q m.id h.step c.finishing-command.result) (k.entry Q (b.queue t)) b.nothing ∙ ap (λ (q : Command). entry_of Q m.id h.step q ∷ []) is;
      order = e.order;
      done = k.done;
      sound = λ t s may. k.sound s (ap (may_give s.queue m.id) is ∙ may);
    })
    (record {
      may = finishing_all (λ (q : Command). may_give x.base m.id q ≡ true) d.lost d.job d.text sits.seat.still.holds.member sits.seat.still.holds.member;
      fit = finishing_all IsFit d.lost d.job d.text c.requires.text tt;
      unmarked = finishing_all (λ (q : Command). is_mark q ≡ false) d.lost d.job d.text refl refl;
      texts = λ t. ∥∥₁_map (c.kept_texts.ensures.kept t) (λ has. subst (HasTexts (lost_now v) (spools_at v v.now) x.base.config.groups) (sym (run_append x.base (kept_all x.batches) (entry_of Q m.id h.step last ∷ [])))
          (finished_texts (lost_now v) (spools_at v v.now) x.base.config.groups Q m.id h.step (c.law_of_texts.ensures.told m.checkpoint.tables Q (b.sound t) (b.queue t)) has c.law_of_texts.ensures.texts c.law_of_entered_texts.ensures.enter d.lost d.job d.text (λ none. c.requires.spooled none t)));
    })

pub close_deck-requires-clause-named : goal.close_deck-requires-clause-named
close_deck-requires-clause-named g c =
    let m = c.args.member.now in
    let n = c.do_command.new.self in
    let p = c.in-Ok.ensures.pushed in
    let e = entry_with m.id c.args.holder.step c.finishing-command.result p.0 in
    one_named n.batch e (only_entry m.batch n.batch e p.1 c.requires.may.sits.seat.between.nothing) p.2

pub returns : goal.returns
returns g c =
    let x = parts_of c.args.complex.now in
    let m = c.args.member.now in
    let n = c.do_command.new.self in
    let h = c.args.holder in
    let k = c.in-Ok.ensures in
    let at = h.step in
    let d = c.args.deck in
    let last : Command = finishing d.lost d.job d.text in
    let Q : Queue = queue_of x in
    let b = c.requires.may.sits.seat.between in
    let p = k.pushed in
    let e = entry_with m.id at c.finishing-command.result p.0 in
    sits_by g.P.Plant g.C.Copying (resumes h (SpoolDeck d.job d.text) (deck_found d.lost)) Told (lines_by h.by at d.lost (closing_reply n.batch)) x (parts_of c.close_deck.new.complex) m n c.close_deck.new.member c.close_deck.result
    c.do_command.ensures.id c.do_command.ensures.level (omega (arith, c.do_command.ensures.order)) c.close_deck.ensures
    (λ t.
    let named : n.batch ≡ entry_of Q m.id at last ∷ [] = only_entry m.batch n.batch (entry_of Q m.id at c.finishing-command.result) (k.entry Q (b.queue t)) b.nothing ∙ ap (λ (q : Command). entry_of Q m.id at q ∷ []) c.finishing-command.ensures in
    ap (λ (es : List Entry). deck_end h es d.lost) named
    ∙ ap (λ (i : MemberId). deck_end h (entry_of Q i at last ∷ []) d.lost) (sym c.requires.may.holder)
    ∙ sym (spooled_sits Q h d.job d.text d.lost))
    (one_of n.batch e h.by at (only_entry m.batch n.batch e p.1 b.nothing) (sym c.requires.may.holder) refl)
    (record { few = omega arith; release = refl; says = (refl, (closing_reply n.batch, refl)) }) (λ A a. a) refl
