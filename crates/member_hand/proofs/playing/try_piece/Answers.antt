use Rattle.std.proofs.Common.{◌∙◌, length, Ok, Err, ap, sym, subst}
use Rattle.std.proofs.lemmas.Result.{err_from_is_err_and}
use Rattle.lock_cycle.specs.Books.{Book}
use Rattle.mas_complex.specs.Parts.{Parts, parts_of}
use Rattle.step_turns.specs.declared.states.Holder.{Holder}
use Rattle.member_hand.specs.Asides.{ActsAfter, IfAway, MayActAfter}
use Rattle.member_hand.specs.Locks.{IsUnlocked}
use Rattle.member_hand.specs.Plays.{HasPieced}
use Rattle.member_hand.specs.Quiet.{MayGoOn}
use Rattle.member_hand.specs.Sits.{start_of}
use Rattle.member_hand.proofs.Entering.{entered_members}
use Rattle.member_hand.proofs.Going.{aside_next, few_next, goes_next, level_next, may_act_then, may_leave, right_next, room_same, seat_next, unlocked}
use Rattle.member_hand.proofs.PieceLemmas.{not_told}
use Rattle.member_hand.proofs.Trying.{frame_then, members_then, piece_cut, pieced}
use Rattle.member_hand.proofs.playing.try_piece.Goals as goal

-- THE TURN ENDED WITH AN ERROR

pub returns-in_err-end-clause-cut : goal.returns-in_err-end-clause-cut
returns-in_err-end-clause-cut g c =
    let p = err_from_is_err_and c.from_residual.result c.from_residual.ensures.1 in
    rw (p.1, p.2) (c.in_err-end.ensures.cut c.args.reader.now)

pub returns-in_err-end-clause-members : goal.returns-in_err-end-clause-members
returns-in_err-end-clause-members g c = ap (λ (b : Book). length b.members) c.take_turn.ensures.book ∙ entered_members c.args.complex.now.book c.args.stand.holder.by

-- THE LOCK IS LEFT, and the acts are done

pub leave-requires : goal.leave-requires
leave-requires g c =
    may_leave g.P.Plant g.C.Copying (start_of c.args.stand) (parts_of c.args.complex.now) (parts_of c.take_turn.new.complex) c.in_ok-end.end c.in_ok-end.ensures.turn c.args.member.now c.requires.goes
    c.take_turn.new.member c.take_turn.ensures.id c.take_turn.ensures.book c.in_ok-end.ensures.again

pub act_then-requires-clause-lock : goal.act_then-requires-clause-lock
act_then-requires-clause-lock g c =
    let end = c.in_ok-end.end in
    subst (λ (b : Book). IfAway end.next (IsUnlocked c.args.stand.holder.grant b c.take_turn.new.member.id)) (sym (ap (λ p. p.book) c.leave.ensures.frame))
    (unlocked g.P.Plant g.C.Copying (start_of c.args.stand) (parts_of c.args.complex.now) (parts_of c.take_turn.new.complex) end c.in_ok-end.ensures.turn c.args.member.now c.requires.goes
    c.take_turn.new.member c.take_turn.ensures.id c.take_turn.ensures.book c.in_ok-end.ensures.again)

pub act_then-requires-clause-may : goal.act_then-requires-clause-may
act_then-requires-clause-may g c =
    let end = c.in_ok-end.end in
    subst (λ (q : Parts _ _). MayActAfter g.P.Plant q c.take_turn.new.member end.next) (sym c.leave.ensures.frame)
    (may_act_then g.P.Plant g.C.Copying (start_of c.args.stand) (parts_of c.args.complex.now) (parts_of c.take_turn.new.complex) end c.in_ok-end.ensures.turn c.args.member.now c.requires.goes
    c.take_turn.new.member c.take_turn.ensures.id c.take_turn.ensures.book c.in_ok-end.ensures.again)

-- THE ACTS ENDED WITH AN ERROR

pub returns-in_err-found-clause-frame : goal.returns-in_err-found-clause-frame
returns-in_err-found-clause-frame g c =
    let end = c.in_ok-end.end in
    let u = parts_of c.act_then.new.complex in
    let n = c.take_turn.new.member in
    let acts = subst (λ (q : Parts _ _). ActsAfter g.P.Plant q u n end.next c.args.reader.now c.act_then.new.reader c.act_then.result) c.leave.ensures.frame c.act_then.ensures.acts in
    frame_then g.P.Plant g.C.Copying (start_of c.args.stand) (parts_of c.args.complex.now) (parts_of c.take_turn.new.complex) end c.in_ok-end.ensures.turn c.args.member.now c.requires.goes
    n c.take_turn.ensures.id c.take_turn.ensures.book c.in_ok-end.ensures.again c.args.reader.now c.act_then.new.reader c.act_then.result u acts

pub returns-in_err-found-clause-cut : goal.returns-in_err-found-clause-cut
returns-in_err-found-clause-cut g c =
    let x = parts_of c.args.complex.now in
    let end = c.in_ok-end.end in
    let u = parts_of c.act_then.new.complex in
    let n = c.take_turn.new.member in
    let e = c.in_err-found.field-0.0 in
    let acts = subst (λ (q : Parts _ _). ActsAfter g.P.Plant q u n end.next c.args.reader.now c.act_then.new.reader (Err e)) c.leave.ensures.frame c.in_err-found.ensures.acts in
    let p = err_from_is_err_and c.from_residual-in_err-found.result c.from_residual-in_err-found.ensures.1 in
    rw (p.1, p.2)
    (piece_cut g.P.Plant g.C.Copying (start_of c.args.stand) x (parts_of c.take_turn.new.complex) end c.in_ok-end.ensures.turn c.args.member.now c.requires.goes
    n c.take_turn.ensures.id c.take_turn.ensures.book c.in_ok-end.ensures.again (not_told g.P.Plant g.C.Copying x c.args.member.now.id c.args.stand.state c.args.stand.found c.requires.right) u c.args.reader.now c.act_then.new.reader e acts c.act_then.ensures.reader)

pub returns-in_err-found-clause-members : goal.returns-in_err-found-clause-members
returns-in_err-found-clause-members g c =
    let end = c.in_ok-end.end in
    let u = parts_of c.act_then.new.complex in
    let n = c.take_turn.new.member in
    let acts = subst (λ (q : Parts _ _). ActsAfter g.P.Plant q u n end.next c.args.reader.now c.act_then.new.reader c.act_then.result) c.leave.ensures.frame c.act_then.ensures.acts in
    members_then g.P.Plant g.C.Copying (start_of c.args.stand) (parts_of c.args.complex.now) (parts_of c.take_turn.new.complex) end c.in_ok-end.ensures.turn c.args.member.now c.requires.goes
    n c.take_turn.ensures.id c.take_turn.ensures.book c.in_ok-end.ensures.again c.args.reader.now c.act_then.new.reader c.act_then.result u acts

-- THE PIECE IS WHOLE

pub returns-clause-frame : goal.returns-clause-frame
returns-clause-frame g c =
    let end = c.in_ok-end.end in
    let u = parts_of c.act_then.new.complex in
    let n = c.take_turn.new.member in
    let acts = subst (λ (q : Parts _ _). ActsAfter g.P.Plant q u n end.next c.args.reader.now c.act_then.new.reader c.act_then.result) c.leave.ensures.frame c.act_then.ensures.acts in
    frame_then g.P.Plant g.C.Copying (start_of c.args.stand) (parts_of c.args.complex.now) (parts_of c.take_turn.new.complex) end c.in_ok-end.ensures.turn c.args.member.now c.requires.goes
    n c.take_turn.ensures.id c.take_turn.ensures.book c.in_ok-end.ensures.again c.args.reader.now c.act_then.new.reader c.act_then.result u acts

pub returns-clause-members : goal.returns-clause-members
returns-clause-members g c =
    let end = c.in_ok-end.end in
    let u = parts_of c.act_then.new.complex in
    let n = c.take_turn.new.member in
    let acts = subst (λ (q : Parts _ _). ActsAfter g.P.Plant q u n end.next c.args.reader.now c.act_then.new.reader c.act_then.result) c.leave.ensures.frame c.act_then.ensures.acts in
    members_then g.P.Plant g.C.Copying (start_of c.args.stand) (parts_of c.args.complex.now) (parts_of c.take_turn.new.complex) end c.in_ok-end.ensures.turn c.args.member.now c.requires.goes
    n c.take_turn.ensures.id c.take_turn.ensures.book c.in_ok-end.ensures.again c.args.reader.now c.act_then.new.reader c.act_then.result u acts

pub returns-clause-piece : goal.returns-clause-piece
returns-clause-piece g c =
    let x = parts_of c.args.complex.now in
    let end = c.in_ok-end.end in
    let u = parts_of c.act_then.new.complex in
    let n = c.take_turn.new.member in
    let found = c.in_ok-found.found in
    let acts = subst (λ (q : Parts _ _). ActsAfter g.P.Plant q u n end.next c.args.reader.now c.act_then.new.reader (Ok found)) c.leave.ensures.frame c.in_ok-found.ensures.acts in
    subst (λ (h : Holder). HasPieced g.P.Plant g.C.Copying (start_of c.args.stand) x u (record { holder = h; state = end.next; found = found }) c.args.reader.now c.act_then.new.reader) (sym c.next_holder-next.ensures)
    (pieced g.P.Plant g.C.Copying (start_of c.args.stand) x (parts_of c.take_turn.new.complex) end c.in_ok-end.ensures.turn c.args.member.now c.requires.goes
    n c.take_turn.ensures.id c.take_turn.ensures.book c.in_ok-end.ensures.again (not_told g.P.Plant g.C.Copying x c.args.member.now.id c.args.stand.state c.args.stand.found c.requires.right) u c.args.reader.now c.act_then.new.reader found acts c.act_then.ensures.reader)

pub returns-clause-next : goal.returns-clause-next
returns-clause-next g c =
    let P = g.P.Plant in
    let C = g.C.Copying in
    let x = parts_of c.args.complex.now in
    let y = parts_of c.take_turn.new.complex in
    let s = start_of c.args.stand in
    let m = c.args.member.now in
    let end = c.in_ok-end.end in
    let turn = c.in_ok-end.ensures.turn in
    let u = parts_of c.act_then.new.complex in
    let n = c.take_turn.new.member in
    let found = c.in_ok-found.found in
    let go = c.requires.goes in
    let same = c.take_turn.ensures.id in
    let book = c.take_turn.ensures.book in
    let again = c.in_ok-end.ensures.again in
    let hold = n.checkpoint.tables.config.hold in
    let acts = subst (λ (q : Parts _ _). ActsAfter P q u n end.next c.args.reader.now c.act_then.new.reader (Ok found)) c.leave.ensures.frame c.in_ok-found.ensures.acts in
    record {
      aside = aside_next P C s x y end turn m go n same book again u c.args.reader.now c.act_then.new.reader found acts hold;
      room = room_same P C s x y end turn m go n same book again;
      goes = level_next P C s x y end turn m go n same book again u c.args.reader.now c.act_then.new.reader found acts hold;
      seat = seat_next P C s x y end turn m go n same book again u c.args.reader.now c.act_then.new.reader found acts hold;
      may = λ ne. record {
        goes = subst (λ (h : Holder). MayGoOn P C u n h end.next) (sym c.next_holder-next.ensures) (goes_next P C s x y end turn m go n same book again u c.args.reader.now c.act_then.new.reader found acts hold ne);
        right = right_next P C s x y end turn m go n same book again u c.args.reader.now c.act_then.new.reader found acts hold ne;
        few = few_next P C s x y end turn m go n same book again c.requires.few;
      };
    }
