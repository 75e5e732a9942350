use Rattle.std.proofs.Common.{inl, inr, ◌∙◌, ℕ, [], Ok, Err, ap, sym, subst}
use Rattle.std.proofs.lemmas.Result.{err_from_is_err_and}
use Rattle.mas_types.specs.declared.commands.Command.TheVariants as command
use Rattle.mas_types.specs.declared.ids.MemberId.{MemberId}
use Rattle.mas_types.specs.declared.queues.Queue.{Queue}
use Rattle.lock_cycle.specs.Books.{Book}
use Rattle.mas_complex.specs.Parts.{parts_of}
use Rattle.member_resets.proofs.Entering.{to_enter}
use Rattle.member_resets.proofs.Going.{seat_of}
use Rattle.member_resets.specs.Quiet.{IsQuiet}
use Rattle.member_resets.proofs.PieceLemmas.{played_frame}
use Rattle.member_sittings.specs.Sat.{seated_in}
use Rattle.member_sittings.specs.Whole.{IsGivable}
use Rattle.member_steps.proofs.ReadLemmas.{pages_of_run}
use Rattle.step_turns.specs.declared.states.Grant.TheVariants.{ForStep}
use Rattle.member_racing.specs.Kinds.{GaveReset}
use Rattle.member_resets.specs.Resetting.{MayResetAt, reset_begins}
use Rattle.member_resets.proofs.ResetCutLemmas.{entered_same}
use Rattle.member_resets.proofs.TakenOnLemmas.{may_reset}
use Rattle.member_racing.proofs.TakingLemmas.{aside_left, may_leave_seat, room_seat, seat_never}
use Rattle.member_racing.proofs.taking.take_and_reset.Goals as goal

pub take_lock-requires-clause-stands : goal.take_lock-requires-clause-stands
take_lock-requires-clause-stands g c =
    let m = c.requires.may in
    record { stands = m.stands; begun = m.begun; base_sound = m.base_sound; roomy = m.roomy }

-- IT WAS NOT TAKEN

pub returns-in_err-take_lock-clause-takes : goal.returns-in_err-take_lock-clause-takes
returns-in_err-take_lock-clause-takes g c =
    let p = err_from_is_err_and c.from_residual.result c.from_residual.ensures.1 in
    rw (p.1, p.2) (inl c.in_err-take_lock.ensures.untaken)

-- IT WAS TAKEN

pub hold_left-requires : goal.hold_left-requires
hold_left-requires g c =
    let x = parts_of c.args.complex.now in
    let mid = parts_of c.take_lock.new.complex in
    let f = c.take_lock.ensures.frame in
    let took = c.in_ok-take_lock.ensures.taken in
    (may_reset g.P.Plant g.C.Copying x mid c.args.member.now c.args.step c.args.of c.requires.may took.0 took.1 (ap (λ p. p.base) f) (ap (λ p. p.since) f)).goes.hold.seated

pub enter-requires : goal.enter-requires
enter-requires g c =
    let P = g.P.Plant in
    let C = g.C.Copying in
    let x = parts_of c.args.complex.now in
    let mid = parts_of c.take_lock.new.complex in
    let m = c.args.member.now in
    let f = c.take_lock.ensures.frame in
    let took = c.in_ok-take_lock.ensures.taken in
    let may : MayResetAt P C mid m (record { by = m.id; step = c.args.step; hold = c.hold_left.result; grant = ForStep }) c.args.of =
    subst (λ (n : ℕ). MayResetAt P C mid m (record { by = m.id; step = c.args.step; hold = n; grant = ForStep }) c.args.of) (sym c.hold_left.ensures)
    (may_reset P C x mid m c.args.step c.args.of c.requires.may took.0 took.1 (ap (λ p. p.base) f) (ap (λ p. p.since) f)) in
    to_enter P C mid m (record { by = m.id; step = c.args.step; hold = c.hold_left.result; grant = ForStep }) (reset_begins c.args.of) may.goes mid
    (sym (ap (λ (b : Book). record mid { book = b }) (entered_same mid.book m.id may.goes.hold.up may.holds)))

-- IT TOOK NO SEAT

pub returns-in_err-enter-clause-takes : goal.returns-in_err-enter-clause-takes
returns-in_err-enter-clause-takes g c =
    let P = g.P.Plant in
    let C = g.C.Copying in
    let x = parts_of c.args.complex.now in
    let mid = parts_of c.take_lock.new.complex in
    let z = parts_of c.enter.new.complex in
    let m = c.args.member.now in
    let f = c.take_lock.ensures.frame in
    let took = c.in_ok-take_lock.ensures.taken in
    let may = may_reset P C x mid m c.args.step c.args.of c.requires.may took.0 took.1 (ap (λ p. p.base) f) (ap (λ p. p.since) f) in
    let acts = c.in_err-enter.ensures.acts in
    let p = err_from_is_err_and c.from_residual-in_err-enter.result c.from_residual-in_err-enter.ensures.1 in
    rw (p.1, p.2) (inr (record {
      mid = mid;
      found = took.0;
      taken_over = took.1;
      why = inl (record {
        frame = c.enter.ensures.frame ∙ ap (λ (b : Book). seated_in z (record mid { book = b })) (sym (entered_same mid.book m.id may.goes.hold.up may.holds));
        acts = record { on = acts.on; notes = acts.notes };
      });
    }))

-- IT RESETS

pub give_reset-requires-clause-givable : goal.give_reset-requires-clause-givable
give_reset-requires-clause-givable g c =
    let f = c.take_lock.ensures.frame in
    let e = c.enter.ensures in
    subst (λ (b : Queue). IsGivable b c.enter.new.member.id (command.Reset c.args.of)) (sym (ap (λ p. p.base) e.frame ∙ ap (λ p. p.base) f))
    (subst (λ (i : MemberId). IsGivable c.args.complex.now.base i (command.Reset c.args.of)) (sym e.id) c.requires.may.givable)

pub returns-in_err-end-clause-id : goal.returns-in_err-end-clause-id
returns-in_err-end-clause-id g c = c.give_reset.ensures.id ∙ c.enter.ensures.id

pub returns-in_err-end-clause-takes : goal.returns-in_err-end-clause-takes
returns-in_err-end-clause-takes g c =
    let P = g.P.Plant in
    let C = g.C.Copying in
    let x = parts_of c.args.complex.now in
    let mid = parts_of c.take_lock.new.complex in
    let z = parts_of c.enter.new.complex in
    let w = parts_of c.give_reset.new.complex in
    let m = c.args.member.now in
    let f = c.take_lock.ensures.frame in
    let took = c.in_ok-take_lock.ensures.taken in
    let may = may_reset P C x mid m c.args.step c.args.of c.requires.may took.0 took.1 (ap (λ p. p.base) f) (ap (λ p. p.since) f) in
    let acts = c.in_ok-enter.ensures.acts in
    let e = c.in_err-end.field-0.0 in
    let gave = subst (λ (n : ℕ). GaveReset P C (record { by = m.id; step = c.args.step; hold = n; grant = ForStep }) c.args.of z w (Err e)) c.hold_left.ensures c.in_err-end.ensures.gave in
    let p = err_from_is_err_and c.from_residual-in_err-end.result c.from_residual-in_err-end.ensures.1 in
    rw (p.1, p.2) (inr (record {
      mid = mid;
      found = took.0;
      taken_over = took.1;
      why = inr (record {
        seat = z;
        took = record {
          frame = c.enter.ensures.frame ∙ ap (λ (b : Book). seated_in z (record mid { book = b })) (sym (entered_same mid.book m.id may.goes.hold.up may.holds));
          acts = record { on = acts.on; notes = acts.notes };
        };
        frame = c.give_reset.ensures.frame;
        gave = gave;
      });
    }))

-- IT LEAVES THE LOCK

pub leave-requires : goal.leave-requires
leave-requires g c =
    let P = g.P.Plant in
    let C = g.C.Copying in
    let w = parts_of c.give_reset.new.complex in
    let n = c.give_reset.new.member in
    may_leave_seat P C w c.args.member.now.id n (c.give_reset.ensures.id ∙ c.enter.ensures.id) (seat_of P C c.in_ok-end.end.next w n c.args.step c.in_ok-end.ensures.again.sits)

pub returns-clause-id : goal.returns-clause-id
returns-clause-id g c = c.give_reset.ensures.id ∙ c.enter.ensures.id

pub returns-clause-takes : goal.returns-clause-takes
returns-clause-takes g c =
    let P = g.P.Plant in
    let C = g.C.Copying in
    let x = parts_of c.args.complex.now in
    let mid = parts_of c.take_lock.new.complex in
    let z = parts_of c.enter.new.complex in
    let w = parts_of c.give_reset.new.complex in
    let m = c.args.member.now in
    let f = c.take_lock.ensures.frame in
    let took = c.in_ok-take_lock.ensures.taken in
    let may = may_reset P C x mid m c.args.step c.args.of c.requires.may took.0 took.1 (ap (λ p. p.base) f) (ap (λ p. p.since) f) in
    let acts = c.in_ok-enter.ensures.acts in
    let end = c.in_ok-end.end in
    let gave = subst (λ (n : ℕ). GaveReset P C (record { by = m.id; step = c.args.step; hold = n; grant = ForStep }) c.args.of z w (Ok end)) c.hold_left.ensures c.in_ok-end.ensures.gave in
    let y = parts_of c.leave.new.complex in
    let n = c.give_reset.new.member in
    let id = c.give_reset.ensures.id ∙ c.enter.ensures.id in
    let seat = seat_of P C end.next w n c.args.step c.in_ok-end.ensures.again.sits in
    let base = ap (λ p. p.base) c.give_reset.ensures.frame ∙ ap (λ p. p.base) c.enter.ensures.frame ∙ ap (λ p. p.base) f in
    record {
      quiet = subst (λ (k : ℕ). IsQuiet P C y k) (room_seat P C w m.id n id seat x.base base) (aside_left P C w m.id n id seat y end.given c.leave.ensures.frame).quiet;
      mid = mid;
      found = took.0;
      taken_over = took.1;
      end = end;
      there = w;
      reset = record {
        seat = z;
        took = record {
          frame = c.enter.ensures.frame ∙ ap (λ (b : Book). seated_in z (record mid { book = b })) (sym (entered_same mid.book m.id may.goes.hold.up may.holds));
          acts = record { on = acts.on; notes = acts.notes };
        };
        frame = c.give_reset.ensures.frame;
        gave = gave;
      };
      frame = c.leave.ensures.frame;
    }

pub returns-clause-next : goal.returns-clause-next
returns-clause-next g c =
    let P = g.P.Plant in
    let C = g.C.Copying in
    let x = parts_of c.args.complex.now in
    let w = parts_of c.give_reset.new.complex in
    let y = parts_of c.leave.new.complex in
    let m = c.args.member.now in
    let n = c.give_reset.new.member in
    let id = c.give_reset.ensures.id ∙ c.enter.ensures.id in
    let end = c.in_ok-end.end in
    let seat = seat_of P C end.next w n c.args.step c.in_ok-end.ensures.again.sits in
    let base = ap (λ p. p.base) c.give_reset.ensures.frame ∙ ap (λ p. p.base) c.enter.ensures.frame ∙ ap (λ p. p.base) c.take_lock.ensures.frame in
    let may = c.requires.may in
    record {
      aside = aside_left P C w m.id n id seat y end.given c.leave.ensures.frame;
      room = room_seat P C w m.id n id seat x.base base ∙ pages_of_run x.base [] m.checkpoint m.room may.config may.idle.drawn may.idle.many;
      seat = seat_never P C w m.id n id seat y end.given c.leave.ensures.frame;
    }

-- THE BASE, the first moment, and when copies were replaced, are as they were

pub returns-in_err-enter-clause-frame : goal.returns-in_err-enter-clause-frame
returns-in_err-enter-clause-frame g c =
    let f = c.take_lock.ensures.frame in
    let e = c.enter.ensures.frame in
    played_frame (parts_of c.args.complex.now) (parts_of c.enter.new.complex) (ap (λ p. p.base) e ∙ ap (λ p. p.base) f) (ap (λ p. p.since) e ∙ ap (λ p. p.since) f) (ap (λ p. p.renewals) e ∙ ap (λ p. p.renewals) f)

pub returns-in_err-end-clause-frame : goal.returns-in_err-end-clause-frame
returns-in_err-end-clause-frame g c =
    let f = c.take_lock.ensures.frame in
    let e = c.enter.ensures.frame in
    let r = c.give_reset.ensures.frame in
    played_frame (parts_of c.args.complex.now) (parts_of c.give_reset.new.complex) (ap (λ p. p.base) r ∙ ap (λ p. p.base) e ∙ ap (λ p. p.base) f) (ap (λ p. p.since) r ∙ ap (λ p. p.since) e ∙ ap (λ p. p.since) f)
    (ap (λ p. p.renewals) r ∙ ap (λ p. p.renewals) e ∙ ap (λ p. p.renewals) f)

pub returns-clause-frame : goal.returns-clause-frame
returns-clause-frame g c =
    let f = c.take_lock.ensures.frame in
    let e = c.enter.ensures.frame in
    let r = c.give_reset.ensures.frame in
    let l = c.leave.ensures.frame in
    played_frame (parts_of c.args.complex.now) (parts_of c.leave.new.complex) (ap (λ p. p.base) l ∙ ap (λ p. p.base) r ∙ ap (λ p. p.base) e ∙ ap (λ p. p.base) f)
    (ap (λ p. p.since) l ∙ ap (λ p. p.since) r ∙ ap (λ p. p.since) e ∙ ap (λ p. p.since) f) (ap (λ p. p.renewals) l ∙ ap (λ p. p.renewals) r ∙ ap (λ p. p.renewals) e ∙ ap (λ p. p.renewals) f)
