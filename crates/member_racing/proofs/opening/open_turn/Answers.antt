use Rattle.std.proofs.Common.{◌≡◌, ◌∙◌, inl, inr, ℕ, ◌≤◌, ◌++◌, false, length, Option, Result, ap, refl, subst, sym}
use Rattle.lock_cycle.specs.Books.{Book, IsMember, after_try, is_holder, is_stopped, left_of}
use Rattle.mas_types.specs.declared.commands.Command.TheVariants as command
use Rattle.mas_types.specs.declared.ids.MemberId.{MemberId}
use Rattle.mas_types.specs.declared.queues.Queue.{Queue}
use Rattle.mas_complex.specs.Journals.{in_flight}
use Rattle.mas_complex.specs.Parts.{Parts, parts_of}
use Rattle.race_turns.specs.Turns.{left_holder, racer}
use Rattle.run_turns.specs.Admissions.{Admission, Denied, Plays, Refused, Resets, TakesOver}
use Rattle.run_turns.specs.Scenes.{Scene}
use Rattle.step_turns.specs.declared.states.Found.{Found}
use Rattle.step_turns.specs.declared.states.Grant.TheVariants.{ForStep}
use Rattle.step_turns.specs.declared.states.Holder.{Holder}
use Rattle.step_turns.specs.declared.states.State.TheVariants.{Fresh}
use Rattle.step_turns.specs.declared.states.Task.TheVariants.{Give}
use Rattle.member_lines.specs.Admissions.{admission_of}
use Rattle.member_lines.specs.Closes.{HasClosed, IsSayer, IsTested, stopped_so}
use Rattle.member_node.specs.declared.member.NodeNo.{NodeNo}
use Rattle.member_resets.specs.Quiet.{MayGoOn}
use Rattle.member_resets.specs.Sits.{MayBeAsked, start_of}
use Rattle.member_sittings.specs.Sat.{Start, begins}
use Rattle.member_steps.specs.Steps.{AreKeptFrom}
use Rattle.member_racing.specs.Kinds.{SitsBy}
use Rattle.member_racing.specs.Opened.{ClosesRefused, OpensAs, TriesBy, WaitsFor}
use Rattle.member_resets.specs.Resetting.{HasResetBy, MayResetAt, MayTakeAt, TakesBy, reset_begins}
use Rattle.member_racing.specs.Turning.{closed_by, raced_at, stood_at}
use Rattle.member_racing.specs.declared.stages.Stage.{Stage as Stands}
use Rattle.member_racing.specs.declared.stages.Stage.TheVariants as line
use Rattle.std.specs.Prelude.{IfOk}
use Rattle.member_racing.specs.Waits.{IsAtEase}
use Rattle.member_racing.proofs.Easing.{ease_as, ease_aside}
use Rattle.member_racing.proofs.Members.{few_of, inside_of, some_of, somebody_of}
use Rattle.member_resets.proofs.BookLemmas.{got_free}
use Rattle.member_racing.proofs.OpeningLemmas.{InArm, comes_closed, denied_holder, denied_left, denied_members, done_closed, few_raced, few_task, frame_on, goes_with, got_book, got_hold, got_may, if_closed, if_left, in_arm, left_some, not_holder, on_ok_as, said_ease, said_frame, sayer_of, tried_frame}
use Rattle.member_racing.proofs.Turns.{may_take, nobody_is, step_kept}
use Rattle.member_racing.proofs.opening.open_turn.Goals as goal

pub admit-requires-clause-seats : goal.admit-requires-clause-seats
admit-requires-clause-seats g c = c.requires.rest.members

pub admit-requires-clause-away : goal.admit-requires-clause-away
admit-requires-clause-away g c = c.requires.rest.away

pub admit-requires-clause-few : goal.admit-requires-clause-few
admit-requires-clause-few g c = few_raced c.args.asked.now c.requires.waits.asked.raced

-- NO MEMORY for what is to be played

pub returns-in_default-clause-tries : goal.returns-in_default-clause-tries
returns-in_default-clause-tries g c = inl (record { frame = c.in_default.ensures.frame; member = refl; answer = inr (refl, c.requires.some) })

-- REFUSED

pub say_refused-said-requires-clause-says : goal.say_refused-said-requires-clause-says
say_refused-said-requires-clause-says g c =
    let x = c.args.complex.now in
    let mid = c.admit.new.complex in
    let by = c.args.member.now.id in
    let w : InArm x by mid c.args.asked.now (Refused c.in-Refused.sayer c.in-Refused.end) =
    in_arm x by mid c.args.asked.now c.requires.waits.asked c.in-Ok.admission (Refused c.in-Refused.sayer c.in-Refused.end) (ap admission_of c.in-Refused.is) c.in-Ok.ensures.admitted c.in-Ok.ensures.frame in
    subst (λ (b : Book). IsSayer b c.in-Refused.sayer by) (sym (ap (λ (z : Parts _ _). z.book) w.frame)) (sayer_of x.base x.book by c.in-Refused.sayer c.requires.rest.members w.known_so.0)

pub say_refused-said-requires-clause-by : goal.say_refused-said-requires-clause-by
say_refused-said-requires-clause-by g c = few_of c.args.complex.now.base.config c.args.member.now.id c.requires.waits.member c.requires.waits.config

pub say_refused-said-requires-clause-named : goal.say_refused-said-requires-clause-named
say_refused-said-requires-clause-named g c =
    let x = c.args.complex.now in
    let mid = c.admit.new.complex in
    let by = c.args.member.now.id in
    let w : InArm x by mid c.args.asked.now (Refused c.in-Refused.sayer c.in-Refused.end) =
    in_arm x by mid c.args.asked.now c.requires.waits.asked c.in-Ok.admission (Refused c.in-Refused.sayer c.in-Refused.end) (ap admission_of c.in-Refused.is) c.in-Ok.ensures.admitted c.in-Ok.ensures.frame in
    w.known_so.1

pub say_refused-said-requires-clause-kept : goal.say_refused-said-requires-clause-kept
say_refused-said-requires-clause-kept g c told =
    let P = g.P.Plant in
    let x = c.args.complex.now in
    let mid = c.admit.new.complex in
    let m = c.args.member.now in
    let at = c.args.step in
    let w : InArm x m.id mid c.args.asked.now (Refused c.in-Refused.sayer c.in-Refused.end) =
    in_arm x m.id mid c.args.asked.now c.requires.waits.asked c.in-Ok.admission (Refused c.in-Refused.sayer c.in-Refused.end) (ap admission_of c.in-Refused.is) c.in-Ok.ensures.admitted c.in-Ok.ensures.frame in
    subst (λ (z : Parts _ _). AreKeptFrom m.id at (z.batches ++ in_flight z.current) (P.view z.plant).now) (sym w.frame)
    (step_kept x c.requires.rest c.requires.some m at c.args.asked.now line.Opens c.requires refl)

pub returns-in-Refused-clause-tries : goal.returns-in-Refused-clause-tries
returns-in-Refused-clause-tries g c =
    let P = g.P.Plant in
    let C = g.C.Copying in
    let x = c.args.complex.now in
    let p = parts_of x in
    let mid = c.admit.new.complex in
    let y = parts_of c.say_refused-said.new.complex in
    let m = c.args.member.now in
    let at = c.args.step in
    let r = c.say_refused-said.result in
    let sayer = c.in-Refused.sayer in
    let end = c.in-Refused.end in
    let w : InArm x m.id mid c.args.asked.now (Refused sayer end) =
    in_arm x m.id mid c.args.asked.now c.requires.waits.asked c.in-Ok.admission (Refused sayer end) (ap admission_of c.in-Refused.is) c.in-Ok.ensures.admitted c.in-Ok.ensures.frame in
    let frame : y ≡ stopped_so r m.id (record p { plant = y.plant }) = subst (λ (z : Parts _ _). y ≡ stopped_so r m.id (record z { plant = y.plant })) w.frame c.say_refused-said.ensures.frame in
    let closed : (S : Scene) → IsTested S m.id (Refused sayer end) x.book → HasClosed P S m.id at (Refused sayer end) sayer p y r =
    subst (λ (z : Parts _ _). (S : Scene) → IsTested S m.id (Refused sayer end) z.book → HasClosed P S m.id at (Refused sayer end) sayer z y r) w.frame c.say_refused-said.ensures.closed in
    let it : ClosesRefused P C (raced_at m.id at c.args.asked.now line.Opens) sayer end p y (closed_by r) = record {
      frame = subst (λ (q : Result (Unit {0}) NodeNo). y ≡ stopped_so q m.id (record p { plant = y.plant })) (sym (done_closed r)) frame;
      closed = subst (λ (q : Result (Unit {0}) NodeNo). (S : Scene) → IsTested S m.id (Refused sayer end) x.book → HasClosed P S m.id at (Refused sayer end) sayer p y q) (sym (done_closed r)) closed;
      next = comes_closed r;
    } in
    subst (λ (q : Result Stands NodeNo). TriesBy P C (raced_at m.id at c.args.asked.now line.Opens) p y m m q) (sym c.closed.ensures)
    (inr (c.requires.some, c.requires.unheld, subst (λ (a : Admission). OpensAs P C (raced_at m.id at c.args.asked.now line.Opens) p y m m (closed_by r) a) w.adm it))

-- DENIED

pub wait_turn-requires-clause-seated : goal.wait_turn-requires-clause-seated
wait_turn-requires-clause-seated g c =
    let x = c.args.complex.now in
    let mid = c.admit.new.complex in
    let by = c.args.member.now.id in
    let why = c.in-Denied.field-0 in
    let w : InArm x by mid c.args.asked.now (Denied why) =
    in_arm x by mid c.args.asked.now c.requires.waits.asked c.in-Ok.admission (Denied why) (ap admission_of c.in-Denied.is) c.in-Ok.ensures.admitted c.in-Ok.ensures.frame in
    let is = w.known_so.1 in
    let book : mid.book ≡ after_try x.book by false = ap (λ (z : Parts _ _). z.book) w.frame in
    subst (λ (b : Book). b.holder.0 ≤ length b.members) (sym book)
    (subst (λ (h : MemberId). h.0 ≤ length (after_try x.book by false).members) (sym (denied_holder x.book by why is))
    (subst (λ (k : ℕ). x.book.holder.0 ≤ k) (sym (ap length (denied_members x.book by why is))) c.requires.rest.seated))

pub wait_turn-requires-clause-may : goal.wait_turn-requires-clause-may
wait_turn-requires-clause-may g c =
    let P = g.P.Plant in
    let C = g.C.Copying in
    let x = c.args.complex.now in
    let p = parts_of x in
    let mid = c.admit.new.complex in
    let m = c.args.member.now in
    let by = m.id in
    let at = c.args.step in
    let why = c.in-Denied.field-0 in
    let w : InArm x by mid c.args.asked.now (Denied why) =
    in_arm x by mid c.args.asked.now c.requires.waits.asked c.in-Ok.admission (Denied why) (ap admission_of c.in-Denied.is) c.in-Ok.ensures.admitted c.in-Ok.ensures.frame in
    let is = w.known_so.1 in
    let book : mid.book ≡ after_try x.book by false = ap (λ (z : Parts _ _). z.book) w.frame in
    if_left (left_holder mid.book) (λ (of : MemberId). MayTakeAt P C (parts_of mid) m at of)
    (λ of left. subst (λ (z : Parts _ _). MayTakeAt P C z m at of) (sym w.frame)
    (may_take x c.requires.rest c.requires.some m at c.args.asked.now line.Opens c.requires refl of (sym (denied_left x.book by why is) ∙ ap left_holder (sym book) ∙ left) w.known_so.0.up
    (after_try x.book by false) (denied_holder x.book by why is) (denied_members x.book by why is)))

pub returns-in-Denied-clause-tries : goal.returns-in-Denied-clause-tries
returns-in-Denied-clause-tries g c =
    let P = g.P.Plant in
    let C = g.C.Copying in
    let x = c.args.complex.now in
    let p = parts_of x in
    let mid = c.admit.new.complex in
    let y = parts_of c.wait_turn.new.complex in
    let m = c.args.member.now in
    let n = c.wait_turn.new.member in
    let by = m.id in
    let at = c.args.step in
    let why = c.in-Denied.field-0 in
    let w : InArm x by mid c.args.asked.now (Denied why) =
    in_arm x by mid c.args.asked.now c.requires.waits.asked c.in-Ok.admission (Denied why) (ap admission_of c.in-Denied.is) c.in-Ok.ensures.admitted c.in-Ok.ensures.frame in
    let is = w.known_so.1 in
    let book : mid.book ≡ after_try x.book by false = ap (λ (z : Parts _ _). z.book) w.frame in
    let left : left_holder mid.book ≡ left_holder x.book = ap left_holder book ∙ denied_left x.book by why is in
    let it : WaitsFor P C (stood_at by at line.Opens) (left_holder x.book) (record p { book = after_try x.book by false }) y c.wait_turn.result =
    subst (λ (z : Parts _ _). WaitsFor P C (stood_at by at line.Opens) (left_holder x.book) z y c.wait_turn.result) w.frame
    (subst (λ (o : Option MemberId). WaitsFor P C (stood_at by at line.Opens) o (parts_of mid) y c.wait_turn.result) left c.wait_turn.ensures.waits) in
    inr (c.requires.some, c.requires.unheld, subst (λ (a : Admission). OpensAs P C (raced_at by at c.args.asked.now line.Opens) p y m n c.wait_turn.result a) w.adm it)

-- IT HAS THE LOCK

pub holder_for-holder-requires : goal.holder_for-holder-requires
holder_for-holder-requires g c =
    let x = c.args.complex.now in
    let mid = c.admit.new.complex in
    let m = c.args.member.now in
    let task = c.in-Plays.task in
    let w : InArm x m.id mid c.args.asked.now (Plays task) =
    in_arm x m.id mid c.args.asked.now c.requires.waits.asked c.in-Ok.admission (Plays task) (ap admission_of c.in-Plays.is) c.in-Ok.ensures.admitted c.in-Ok.ensures.frame in
    let some = some_of x.base.config m.id c.requires.waits.member in
    let few = few_of x.base.config m.id c.requires.waits.member c.requires.waits.config in
    let up = w.known_so.0.up in
    let other : is_holder x.book m.id ≡ false = not_holder x.book m.id c.requires.unheld some up in
    subst (λ (b : Book). IsMember b m.id) (sym (ap (λ (z : Parts _ _). z.book) w.frame))
    (got_may x.book m.id up other w.known_so.1 (inside_of x.base.config m.id c.requires.waits.member x.book c.requires.rest.members) some few).seated

pub sit_turn-requires-clause-may : goal.sit_turn-requires-clause-may
sit_turn-requires-clause-may g c =
    let P = g.P.Plant in
    let C = g.C.Copying in
    let x = c.args.complex.now in
    let mid = c.admit.new.complex in
    let m = c.args.member.now in
    let at = c.args.step in
    let task = c.in-Plays.task in
    let w : InArm x m.id mid c.args.asked.now (Plays task) =
    in_arm x m.id mid c.args.asked.now c.requires.waits.asked c.in-Ok.admission (Plays task) (ap admission_of c.in-Plays.is) c.in-Ok.ensures.admitted c.in-Ok.ensures.frame in
    let some = some_of x.base.config m.id c.requires.waits.member in
    let few = few_of x.base.config m.id c.requires.waits.member c.requires.waits.config in
    let up = w.known_so.0.up in
    let other : is_holder x.book m.id ≡ false = not_holder x.book m.id c.requires.unheld some up in
    let inside : IsMember x.book m.id = inside_of x.base.config m.id c.requires.waits.member x.book c.requires.rest.members in
    let may = w.known_so.2 in
    let off = w.known_so.3 in
    let h = c.holder_for-holder.result in
    let same = c.holder_for-holder.ensures in
    record {
      goes = subst (λ (z : Parts _ _). MayGoOn P C z m h (Fresh task)) (sym w.frame)
          (goes_with x m at c.args.asked.now line.Opens c.requires refl (nobody_is x.book.holder (got_free x.book m.id up other w.known_so.1)) up (after_try x.book m.id false) (got_may x.book m.id up other w.known_so.1 inside some few) h
          (ap (λ (k : Holder). k.by) same) (ap (λ (k : Holder). k.step) same) (ap (λ (k : Holder). k.grant) same) (Fresh task) off (few_task x.base m.id task may off));
      right = (subst (λ (q : Queue). MayBeAsked q m.id task) (sym (ap (λ (z : Parts _ _). z.base) w.frame)) may, c.nothing_found.ensures);
      few = few_task x.base m.id task may off;
    }

pub sit_turn-requires-clause-grant : goal.sit_turn-requires-clause-grant
sit_turn-requires-clause-grant g c = ap (λ (k : Holder). k.grant) c.holder_for-holder.ensures

pub returns-in-Plays-clause-tries : goal.returns-in-Plays-clause-tries
returns-in-Plays-clause-tries g c =
    let P = g.P.Plant in
    let C = g.C.Copying in
    let x = c.args.complex.now in
    let p = parts_of x in
    let mid = c.admit.new.complex in
    let y = parts_of c.sit_turn.new.complex in
    let m = c.args.member.now in
    let n = c.sit_turn.new.member in
    let at = c.args.step in
    let task = c.in-Plays.task in
    let r = c.sit_turn.result in
    let w : InArm x m.id mid c.args.asked.now (Plays task) =
    in_arm x m.id mid c.args.asked.now c.requires.waits.asked c.in-Ok.admission (Plays task) (ap admission_of c.in-Plays.is) c.in-Ok.ensures.admitted c.in-Ok.ensures.frame in
    let some = some_of x.base.config m.id c.requires.waits.member in
    let up = w.known_so.0.up in
    let other : is_holder x.book m.id ≡ false = not_holder x.book m.id c.requires.unheld some up in
    let inside : IsMember x.book m.id = inside_of x.base.config m.id c.requires.waits.member x.book c.requires.rest.members in
    let whole : left_of mid.book m.id ≡ x.base.config.hold = ap (λ (z : Parts _ _). left_of z.book m.id) w.frame ∙ got_hold x.book m.id up other w.known_so.1 inside ∙ c.requires.rest.hold in
    let holder : c.holder_for-holder.result ≡ racer x.base.config m.id at =
    c.holder_for-holder.ensures ∙ ap (λ (k : ℕ). let h : Holder = record { by = m.id; step = at; hold = k; grant = ForStep } in h) whole in
    let start : Start = begins (racer x.base.config m.id at) (Fresh task) in
    let same : start_of (record { holder = c.holder_for-holder.result; state = Fresh task; found = c.nothing_found.result }) ≡ start =
    ap (λ (h : Holder). let s : Start = record { holder = h; state = Fresh task; found = c.nothing_found.result } in s) holder
    ∙ ap (λ (f : Found). let s : Start = record { holder = racer x.base.config m.id at; state = Fresh task; found = f } in s) c.nothing_found.ensures in
    let it : SitsBy P C start (record p { book = after_try x.book m.id false }) y n r =
    subst (λ (z : Parts _ _). SitsBy P C start z y n r) w.frame (subst (λ (s : Start). SitsBy P C s (parts_of mid) y n r) same c.sit_turn.ensures.sits) in
    inr (c.requires.some, c.requires.unheld, subst (λ (a : Admission). OpensAs P C (raced_at m.id at c.args.asked.now line.Opens) p y m n r a) w.adm it)

-- IT RESETS a stopped member

pub holder_for-holder-requires-in-Resets : goal.holder_for-holder-requires-in-Resets
holder_for-holder-requires-in-Resets g c =
    let x = c.args.complex.now in
    let mid = c.admit.new.complex in
    let m = c.args.member.now in
    let of = c.in-Resets.of in
    let w : InArm x m.id mid c.args.asked.now (Resets of) =
    in_arm x m.id mid c.args.asked.now c.requires.waits.asked c.in-Ok.admission (Resets of) (ap admission_of c.in-Resets.is) c.in-Ok.ensures.admitted c.in-Ok.ensures.frame in
    let some = some_of x.base.config m.id c.requires.waits.member in
    let few = few_of x.base.config m.id c.requires.waits.member c.requires.waits.config in
    let up = w.known_so.0.up in
    let other : is_holder x.book m.id ≡ false = not_holder x.book m.id c.requires.unheld some up in
    subst (λ (b : Book). IsMember b m.id) (sym (ap (λ (z : Parts _ _). z.book) w.frame))
    (got_may x.book m.id up other w.known_so.1 (inside_of x.base.config m.id c.requires.waits.member x.book c.requires.rest.members) some few).seated

pub reset_line-reset-requires : goal.reset_line-reset-requires
reset_line-reset-requires g c =
    let P = g.P.Plant in
    let C = g.C.Copying in
    let x = c.args.complex.now in
    let mid = c.admit.new.complex in
    let m = c.args.member.now in
    let at = c.args.step in
    let of = c.in-Resets.of in
    let w : InArm x m.id mid c.args.asked.now (Resets of) =
    in_arm x m.id mid c.args.asked.now c.requires.waits.asked c.in-Ok.admission (Resets of) (ap admission_of c.in-Resets.is) c.in-Ok.ensures.admitted c.in-Ok.ensures.frame in
    let some = some_of x.base.config m.id c.requires.waits.member in
    let few = few_of x.base.config m.id c.requires.waits.member c.requires.waits.config in
    let up = w.known_so.0.up in
    let other : is_holder x.book m.id ≡ false = not_holder x.book m.id c.requires.unheld some up in
    let inside : IsMember x.book m.id = inside_of x.base.config m.id c.requires.waits.member x.book c.requires.rest.members in
    let hold = got_may x.book m.id up other w.known_so.1 inside some few in
    let h = c.holder_for-holder-in-Resets.result in
    let same = c.holder_for-holder-in-Resets.ensures in
    let by : h.by ≡ m.id = ap (λ (k : Holder). k.by) same in
    record {
      may = subst (λ (z : Parts _ _). MayResetAt P C z m h of) (sym w.frame) (record {
        goes = goes_with x m at c.args.asked.now line.Opens c.requires refl (nobody_is x.book.holder (got_free x.book m.id up other w.known_so.1)) up (after_try x.book m.id false) hold h
            by (ap (λ (k : Holder). k.step) same) (ap (λ (k : Holder). k.grant) same) (reset_begins of) refl (few_task x.base m.id (Give (command.Reset of)) w.known_so.2.givable refl);
        holds = ap (λ (b : Book). b.holder) (got_book x.book m.id up other w.known_so.1) ∙ sym by;
        givable = w.known_so.2.givable;
        few = w.known_so.2.few;
      });
    }

pub returns-in-Resets-clause-tries : goal.returns-in-Resets-clause-tries
returns-in-Resets-clause-tries g c =
    let P = g.P.Plant in
    let C = g.C.Copying in
    let x = c.args.complex.now in
    let p = parts_of x in
    let mid = c.admit.new.complex in
    let y = parts_of c.reset_line-reset.new.complex in
    let m = c.args.member.now in
    let n = c.reset_line-reset.new.member in
    let at = c.args.step in
    let of = c.in-Resets.of in
    let r = c.reset_line-reset.result in
    let w : InArm x m.id mid c.args.asked.now (Resets of) =
    in_arm x m.id mid c.args.asked.now c.requires.waits.asked c.in-Ok.admission (Resets of) (ap admission_of c.in-Resets.is) c.in-Ok.ensures.admitted c.in-Ok.ensures.frame in
    let some = some_of x.base.config m.id c.requires.waits.member in
    let up = w.known_so.0.up in
    let other : is_holder x.book m.id ≡ false = not_holder x.book m.id c.requires.unheld some up in
    let inside : IsMember x.book m.id = inside_of x.base.config m.id c.requires.waits.member x.book c.requires.rest.members in
    let whole : left_of mid.book m.id ≡ x.base.config.hold = ap (λ (z : Parts _ _). left_of z.book m.id) w.frame ∙ got_hold x.book m.id up other w.known_so.1 inside ∙ c.requires.rest.hold in
    let holder : c.holder_for-holder-in-Resets.result ≡ racer x.base.config m.id at =
    c.holder_for-holder-in-Resets.ensures ∙ ap (λ (k : ℕ). let h : Holder = record { by = m.id; step = at; hold = k; grant = ForStep } in h) whole in
    let it : HasResetBy P C (racer x.base.config m.id at) of (record p { book = after_try x.book m.id false }) y (length m.room) r =
    subst (λ (z : Parts _ _). HasResetBy P C (racer x.base.config m.id at) of z y (length m.room) r) w.frame
    (subst (λ (h : Holder). HasResetBy P C h of (parts_of mid) y (length m.room) r) holder c.reset_line-reset.ensures.reset) in
    subst (λ (q : Result Stands NodeNo). TriesBy P C (raced_at m.id at c.args.asked.now line.Opens) p y m n q) (sym c.closed-in-Resets.ensures)
    (inr (
      c.requires.some,
      c.requires.unheld,
      subst (λ (a : Admission). OpensAs P C (raced_at m.id at c.args.asked.now line.Opens) p y m n (closed_by r) a) w.adm
          (comes_closed r, subst (λ (q : Result (Unit {0}) NodeNo). HasResetBy P C (racer x.base.config m.id at) of (record p { book = after_try x.book m.id false }) y (length m.room) q) (sym (done_closed r)) it),
    ))

-- IT TAKES THE LOCK OVER

pub take_line-taken-requires : goal.take_line-taken-requires
take_line-taken-requires g c =
    let P = g.P.Plant in
    let C = g.C.Copying in
    let x = c.args.complex.now in
    let mid = c.admit.new.complex in
    let m = c.args.member.now in
    let at = c.args.step in
    let of = c.in-TakesOver.of in
    let w : InArm x m.id mid c.args.asked.now (TakesOver of) =
    in_arm x m.id mid c.args.asked.now c.requires.waits.asked c.in-Ok.admission (TakesOver of) (ap admission_of c.in-TakesOver.is) c.in-Ok.ensures.admitted c.in-Ok.ensures.frame in
    let down = w.known_so.2 in
    let somebody = somebody_of x.base.config of down.member in
    record {
      may = subst (λ (z : Parts _ _). MayTakeAt P C z m at of) (sym w.frame)
          (may_take x c.requires.rest c.requires.some m at c.args.asked.now line.Opens c.requires refl of (left_some x.book of w.known_so.1 somebody down.down) w.known_so.0.up x.book refl refl);
    }

pub returns-in-TakesOver-clause-tries : goal.returns-in-TakesOver-clause-tries
returns-in-TakesOver-clause-tries g c =
    let P = g.P.Plant in
    let C = g.C.Copying in
    let x = c.args.complex.now in
    let p = parts_of x in
    let mid = c.admit.new.complex in
    let y = parts_of c.take_line-taken.new.complex in
    let m = c.args.member.now in
    let n = c.take_line-taken.new.member in
    let at = c.args.step in
    let of = c.in-TakesOver.of in
    let r = c.take_line-taken.result in
    let w : InArm x m.id mid c.args.asked.now (TakesOver of) =
    in_arm x m.id mid c.args.asked.now c.requires.waits.asked c.in-Ok.admission (TakesOver of) (ap admission_of c.in-TakesOver.is) c.in-Ok.ensures.admitted c.in-Ok.ensures.frame in
    let it : TakesBy P C m.id at of p y (length m.room) r = subst (λ (z : Parts _ _). TakesBy P C m.id at of z y (length m.room) r) w.frame c.take_line-taken.ensures.taken in
    subst (λ (q : Result Stands NodeNo). TriesBy P C (raced_at m.id at c.args.asked.now line.Opens) p y m n q) (sym c.closed-in-TakesOver.ensures)
    (inr (
      c.requires.some,
      c.requires.unheld,
      subst (λ (a : Admission). OpensAs P C (raced_at m.id at c.args.asked.now line.Opens) p y m n (closed_by r) a) w.adm
          (comes_closed r, subst (λ (q : Result (Unit {0}) NodeNo). TakesBy P C m.id at of p y (length m.room) q) (sym (done_closed r)) it),
    ))

-- THE BASE, the first moment, and when copies were replaced, are as they were

pub returns-in_default-clause-frame : goal.returns-in_default-clause-frame
returns-in_default-clause-frame g c = tried_frame (parts_of c.args.complex.now) (parts_of c.admit.new.complex) _ c.in_default.ensures.frame

pub returns-in-Refused-clause-frame : goal.returns-in-Refused-clause-frame
returns-in-Refused-clause-frame g c =
    let mid = parts_of c.admit.new.complex in
    let y = parts_of c.say_refused-said.new.complex in
    frame_on (parts_of c.args.complex.now) mid y _ c.in-Ok.ensures.frame (said_frame mid y c.args.member.now.id c.say_refused-said.result c.say_refused-said.ensures.frame)

pub returns-in-Denied-clause-frame : goal.returns-in-Denied-clause-frame
returns-in-Denied-clause-frame g c = frame_on (parts_of c.args.complex.now) (parts_of c.admit.new.complex) (parts_of c.wait_turn.new.complex) _ c.in-Ok.ensures.frame c.wait_turn.ensures.frame

pub returns-in-Plays-clause-frame : goal.returns-in-Plays-clause-frame
returns-in-Plays-clause-frame g c = frame_on (parts_of c.args.complex.now) (parts_of c.admit.new.complex) (parts_of c.sit_turn.new.complex) _ c.in-Ok.ensures.frame c.sit_turn.ensures.frame

pub returns-in-Resets-clause-frame : goal.returns-in-Resets-clause-frame
returns-in-Resets-clause-frame g c =
    frame_on (parts_of c.args.complex.now) (parts_of c.admit.new.complex) (parts_of c.reset_line-reset.new.complex) _ c.in-Ok.ensures.frame c.reset_line-reset.ensures.frame

pub returns-in-TakesOver-clause-frame : goal.returns-in-TakesOver-clause-frame
returns-in-TakesOver-clause-frame g c =
    frame_on (parts_of c.args.complex.now) (parts_of c.admit.new.complex) (parts_of c.take_line-taken.new.complex) _ c.in-Ok.ensures.frame c.take_line-taken.ensures.frame

-- UNLESS IT IS STOPPED the member is at its ease

pub returns-in-Refused-clause-ease : goal.returns-in-Refused-clause-ease
returns-in-Refused-clause-ease g c =
    let P = g.P.Plant in
    let C = g.C.Copying in
    let x = c.args.complex.now in
    let p = parts_of x in
    let mid = c.admit.new.complex in
    let y = parts_of c.say_refused-said.new.complex in
    let m = c.args.member.now in
    let r = c.say_refused-said.result in
    let w : InArm x m.id mid c.args.asked.now (Refused c.in-Refused.sayer c.in-Refused.end) =
    in_arm x m.id mid c.args.asked.now c.requires.waits.asked c.in-Ok.admission (Refused c.in-Refused.sayer c.in-Refused.end) (ap admission_of c.in-Refused.is) c.in-Ok.ensures.admitted c.in-Ok.ensures.frame in
    let frame : y ≡ stopped_so r m.id (record p { plant = y.plant }) = subst (λ (z : Parts _ _). y ≡ stopped_so r m.id (record z { plant = y.plant })) w.frame c.say_refused-said.ensures.frame in
    let A : Type 0 = is_stopped y.book m.id ≡ false → IsAtEase P C y m in
    subst (λ (q : Result Stands NodeNo). IfOk q (λ s. A)) (sym c.closed.ensures) (if_closed r A (said_ease P C p y m m.id r frame c.requires.waits.ease))

pub wait_turn-requires-clause-ease : goal.wait_turn-requires-clause-ease
wait_turn-requires-clause-ease g c =
    let P = g.P.Plant in
    let C = g.C.Copying in
    let x = c.args.complex.now in
    let mid = c.admit.new.complex in
    let m = c.args.member.now in
    let why = c.in-Denied.field-0 in
    let w : InArm x m.id mid c.args.asked.now (Denied why) =
    in_arm x m.id mid c.args.asked.now c.requires.waits.asked c.in-Ok.admission (Denied why) (ap admission_of c.in-Denied.is) c.in-Ok.ensures.admitted c.in-Ok.ensures.frame in
    λ up. ease_as P C (parts_of x) (parts_of mid) m (ap (λ (z : Parts _ _). z.base) w.frame) (ap (λ (z : Parts _ _). z.had) w.frame) (c.requires.waits.ease w.known_so.0.up)

pub returns-in-Resets-clause-ease : goal.returns-in-Resets-clause-ease
returns-in-Resets-clause-ease g c =
    let P = g.P.Plant in
    let C = g.C.Copying in
    let y = parts_of c.reset_line-reset.new.complex in
    let n = c.reset_line-reset.new.member in
    let r = c.reset_line-reset.result in
    let A : Type 0 = is_stopped y.book n.id ≡ false → IsAtEase P C y n in
    subst (λ (q : Result Stands NodeNo). IfOk q (λ s. A)) (sym c.closed-in-Resets.ensures) (if_closed r A (on_ok_as A r (λ a up. ease_aside P C y n a.aside) c.reset_line-reset.ensures.next))

pub returns-in-TakesOver-clause-ease : goal.returns-in-TakesOver-clause-ease
returns-in-TakesOver-clause-ease g c =
    let P = g.P.Plant in
    let C = g.C.Copying in
    let y = parts_of c.take_line-taken.new.complex in
    let n = c.take_line-taken.new.member in
    let r = c.take_line-taken.result in
    let A : Type 0 = is_stopped y.book n.id ≡ false → IsAtEase P C y n in
    subst (λ (q : Result Stands NodeNo). IfOk q (λ s. A)) (sym c.closed-in-TakesOver.ensures) (if_closed r A (on_ok_as A r (λ a up. ease_aside P C y n a.aside) c.take_line-taken.ensures.next))
