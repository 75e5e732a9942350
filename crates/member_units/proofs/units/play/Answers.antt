use Rattle.member_units.proofs.Names.{ℕ, ◌≡◌, ◌+◌, ◌-◌, suc, List, length, None, Some, Option, Ok, Err, ◌∙◌, ap, refl, subst, sym, arith, err_from_is_err_and, Entry, Queue, Away, HasRoom, sittings_most, bounds, unwritten, outside, place_of, queue_here, full_error, played_as, plays_full, full_le, unwritten_one, less_room, own_batch, wrote_of, goes_on_by, units_from, leave_within, leaves, IsWithin, Aside, after_few, played_out, IsUpTo, MayFollow, action_turn, ahead, left_of, most_of, most_then, wait_after, open_left, told_left}
use Rattle.std.proofs.lemmas.List.{length-append}
use Rattle.member_units.specs.declared.actions.Action.TheVariants as action
use Rattle.member_units.proofs.Parts.{above_most, least_then, most_above, not_some, part_error, part_goes, part_uses, part_waits, ready_then, up_to, waited, first_ends}
use Rattle.member_units.proofs.units.play.Given.{Over}
use Rattle.member_units.proofs.units.play.Goals.{After-len, In_default, In_ok-end-in-Give}
use Rattle.member_units.proofs.units.play.Goals as goal
use Rattle.member_giving.proofs.Names.{Tables}
use Rattle.step_turns.specs.Turns.{closes_as}

pub loop-action-init : goal.loop-action-init
loop-action-init g c = record {
  run = refl;
  works = c.requires.works;
  room = c.requires.room;
  one = less_room c.args.complex.now c.args.member.now 1 _ (omega arith) c.requires.room.room;
  may = c.requires.may;
  few = omega arith;
  upto = record { most = omega arith; units = omega arith; level = omega arith };
  caused = λ f found upto caused. caused;
  then = λ f found upto caused new r p.
      let a = c.args.action in
      let m = c.args.member.now in
      let t = action_turn c.args.holder (queue_here c.args.complex.now m) 0 a in
      first_ends c.args.complex.now m c.args.holder (bounds f.most f.units found) t t (most_of a + unwritten m.batch) f.units new r c.requires.nothing (λ told. refl) (omega (arith, most_above a, upto.most)) (omega arith) p;
}

-- THE STEP CLOSES

pub close_step-requires-clause-named : goal.close_step-requires-clause-named
close_step-requires-clause-named g c = rw c.in-Close.is at c.loop-action.invariant.may

pub returns-in-Close : goal.returns-in-Close
returns-in-Close g c =
    let i = c.loop-action.invariant in
    record {
      run = c.close_step.ensures.run ∙ i.run;
      plays = λ f found upto caused.
          let then = rw c.in-Close.is at (i.then f found upto caused (outside c.close_step.new.complex) c.close_step.result) in
          let may = rw c.in-Close.is at (i.caused f found upto caused) in
          let n = c.loop-action.member in
          let h = c.args.holder in
          let e = c.in-Close.end in
          then (played_out g.P.Plant.tells h (IsWithin h (bounds (0 + unwritten n.batch) f.units found)) c.loop-action.given (wrote_of n.batch (closes_as h e)) (place_of c.loop-action.complex n) (outside c.close_step.new.complex) c.close_step.result (record { few = omega arith; says = (e, refl, may) }) c.close_step.ensures.played);
      leaves = λ f upto.
          let here = rw c.in-Close.is at i.upto in
          let e = c.close_step.ensures in
          told_left c.loop-action.complex c.close_step.new.complex c.loop-action.member c.close_step.new.member c.args.holder f c.close_step.result (omega (arith, here.most, upto.most)) (omega (arith, here.level, upto.level)) e.told e.seat e.reached;
    }

-- THE STEP WAITS

pub returns-in-Wait : goal.returns-in-Wait
returns-in-Wait g c =
    let i = c.loop-action.invariant in
    record {
      run = c.leave_step.ensures.run ∙ i.run;
      plays = λ f found upto caused.
          let then = rw c.in-Wait.is at (i.then f found upto caused (outside c.leave_step.new.complex) c.leave_step.result) in
          let h = c.args.holder in
          let n = c.loop-action.member in
          let s = c.in-Wait.next in
          let most = sittings_most s + unwritten n.batch in
          then (played_out g.P.Plant.tells h (IsWithin h (bounds most f.units found)) c.loop-action.given (wrote_of n.batch (leaves s)) (place_of c.loop-action.complex n) (outside c.leave_step.new.complex) c.leave_step.result (leave_within h found f.units n.batch s (rw c.in-Wait.is at i.may).0 most (omega arith)) c.leave_step.ensures.played);
      leaves = λ f upto.
          let here = rw c.in-Wait.is at i.upto in
          let may = rw c.in-Wait.is at i.may in
          let e = c.leave_step.ensures in
          open_left c.loop-action.complex c.leave_step.new.complex c.loop-action.member c.leave_step.new.member c.args.holder f c.leave_step.result c.in-Wait.next may.0
          (record { ready = may.1; fewer = record { falls = omega (arith, here.most, upto.most); few = omega (arith, here.units, upto.units) }; reached = omega (arith, here.level, upto.level) })
          e.run e.tables e.next e.queue e.works e.nothing e.reached;
    }

-- A PART IS GIVEN

pub give_part-requires-clause-may : goal.give_part-requires-clause-may
give_part-requires-clause-may g c = (rw c.in-Give.is at c.loop-action.invariant.may).0

pub returns-in_err-end-in-Give : goal.returns-in_err-end-in-Give
returns-in_err-end-in-Give g c =
    let i = c.loop-action.invariant in
    let z = c.loop-action.complex in
    let n = c.loop-action.member in
    let y = c.give_part.new.complex in
    let q = err_from_is_err_and c.from_residual.result c.from_residual.ensures.1 in
    rw (q.1, q.2) (record {
      run = c.give_part.ensures.run ∙ i.run;
      plays = λ f found upto caused.
          let h = c.args.holder in
          let o = c.in-Give in
          let here = rw o.is at i.upto in
          let then = rw o.is at (i.then f found upto caused) in
          then (outside y) (Err _) (part_error g.P.Plant.tells h (bounds (most_then o.then o.progress + 1 + unwritten n.batch) f.units found) o.part o.then o.progress (place_of z n) (place_of y c.give_part.new.member) c.loop-action.given (own_batch z n h i.works) (rw o.is at (i.caused f found upto caused)) (omega (arith, here.units, upto.units)) (omega arith) _ c.in_err-end-in-Give.ensures.given);
      leaves = λ f upto. tt;
    })

-- it is given
abbrev given_now : (g : Over) (c : After-len g) → ℕ
given_now g c = c.loop-action.given + (c.len.result - c.len-before.result)

given_more : (g : Over) (c : After-len g) → given_now g c ≡ c.loop-action.given + length c.in_ok-end-in-Give.ensures.given.es
given_more g c =
    let es = c.in_ok-end-in-Give.ensures.given.es in
    let longer = ap (λ (es : List Entry). length es) c.in_ok-end-in-Give.ensures.given.left in
    omega (arith, longer, length-append c.loop-action.member.batch es, c.len.ensures, c.len-before.ensures)

room_given : (g : Over) (c : In_ok-end-in-Give g) → HasRoom c.give_part.new.complex c.give_part.new.member (suc c.in-Give.progress.left + 3)
room_given g c =
    let here = rw c.in-Give.is at c.loop-action.invariant.upto in
    let may = rw c.in-Give.is at c.loop-action.invariant.may in
    let e = c.in_ok-end-in-Give.ensures in
    part_uses c.loop-action.complex c.give_part.new.complex c.loop-action.member c.give_part.new.member e.high e.reached (suc c.in-Give.progress.left + 3) (omega (arith, here.units, c.requires.units)) (rw c.in-Give.is at c.loop-action.invariant.room) c.in-Give.part may.0 e.order

-- and the step waits

pub leave_step-requires-in-Some-clause-room : goal.leave_step-requires-in-Some-clause-room
leave_step-requires-in-Some-clause-room g c = less_room c.give_part.new.complex c.give_part.new.member 1 _ (omega arith) (room_given g (goal.at.leave_step-requires-in-Some-clause-room g c).In_ok-end-in-Give)

pub returns-in-Some : goal.returns-in-Some
returns-in-Some g c =
    let P = g.P.Plant in
    let i = c.loop-action.invariant in
    let h = c.args.holder in
    let z = c.loop-action.complex in
    let n = c.loop-action.member in
    let v = c.give_part.new.complex in
    let l = c.give_part.new.member in
    let o = c.in-Give in
    let e = c.in_ok-end-in-Give in
    let a = c.in-Some.aside in
    let some = sym c.waits_then.ensures ∙ c.in-Some.is in
    let is = waited e.end o.then a some in
    let may = rw o.is at i.may in
    record {
      run = c.leave_step-in-Some.ensures.run ∙ c.give_part.ensures.run ∙ i.run;
      plays = λ f found upto caused.
          let new = outside c.leave_step-in-Some.new.complex in
          let r = c.leave_step-in-Some.result in
          let then = rw o.is at (i.then f found upto caused new r) in
          let b = bounds (most_then o.then o.progress + 1 + unwritten n.batch) f.units found in
          let most = ap (λ (x : Option Aside). most_then x o.progress) is.1 in
          let one = unwritten_one l.batch in
          then (part_waits P.tells h b o.part o.then o.progress (place_of z n) (place_of v l) c.loop-action.given e.end _ new r e.ensures.given (given_more g (goal.at.returns-in-Some g c).After-len) a some
          (played_out P.tells h (IsWithin h b) _ (wrote_of l.batch (leaves (Away a))) (place_of v l) new r (leave_within h found f.units l.batch (Away a) (λ told. absurd (cc)) b.most (omega (arith, most, one))) c.leave_step-in-Some.ensures.played));
      leaves = λ f upto.
          let here : IsUpTo (ahead z.level (action.Give o.part (Some a) o.progress)) f = subst (λ (x : Option Aside). IsUpTo (ahead z.level (action.Give o.part x o.progress)) f) is.1 (up_to (rw o.is at i.upto) upto) in
          let w = c.leave_step-in-Some.ensures in
          open_left v c.leave_step-in-Some.new.complex l c.leave_step-in-Some.new.member h f c.leave_step-in-Some.result (Away a) (λ told. absurd (cc))
          (ready_then z v n l h o.part a o.progress f may.0 (subst (λ (x : Option Aside). MayFollow z n o.part x o.progress) is.1 may.1) c.give_part.ensures.run (e.ensures.taken (ap Ok is.0)) e.end is.0 e.ensures.given e.ensures.reached here)
          w.run w.tables w.next w.queue w.works w.nothing w.reached;
    }

-- A FULL BATCH IS KEPT, and further units follow

none_then : (g : Over) (c : In_default g) → wait_after c.in_ok-end-in-Give.end c.in-Give.then ≡ None
none_then g c = not_some (wait_after c.in_ok-end-in-Give.end c.in-Give.then) (λ a is. c.in_default.not-Some a (c.waits_then.ensures ∙ is))

pub keep_full-requires-clause-room : goal.keep_full-requires-clause-room
keep_full-requires-clause-room g c = less_room c.give_part.new.complex c.give_part.new.member 1 _ (omega arith) (room_given g (goal.at.keep_full-requires-clause-room g c).In_ok-end-in-Give)

pub returns-in_err-keep_full-in-Give : goal.returns-in_err-keep_full-in-Give
returns-in_err-keep_full-in-Give g c =
    let P = g.P.Plant in
    let i = c.loop-action.invariant in
    let h = c.args.holder in
    let z = c.loop-action.complex in
    let n = c.loop-action.member in
    let v = c.give_part.new.complex in
    let l = c.give_part.new.member in
    let o = c.in-Give in
    let e = c.in_ok-end-in-Give in
    let k = c.keep_full.ensures in
    let at = goal.at.returns-in_err-keep_full-in-Give g c in
    let q = err_from_is_err_and c.from_residual-in_err-keep_full-in-Give.result c.from_residual-in_err-keep_full-in-Give.ensures.1 in
    rw (q.1, q.2) (record {
      run = k.run ∙ c.give_part.ensures.run ∙ i.run;
      plays = λ f found upto caused.
          let new = outside c.keep_full.new.complex in
          let b = bounds (most_then o.then o.progress + 1 + unwritten n.batch) f.units found in
          let may = rw o.is at i.may in
          let least = least_then z n o.part o.then o.progress may.1 in
          let here = rw o.is at i.upto in
          let then = rw o.is at (i.then f found upto caused) in
          then new (Err _) (part_goes P.tells h b o.part o.then o.progress (place_of z n) (place_of v l) c.loop-action.given e.end _ new (Err _) e.ensures.given (given_more g at.After-len) (none_then g at.In_default)
          (full_error P.tells h b _ {S = Unit {0}} _ e.end o.progress.left o.progress.done (place_of v l) new (e.ensures.ends found (rw o.is at (i.caused f found upto caused))) (omega (arith, here.units, upto.units)) (omega (arith, least)) (own_batch v l h e.ensures.works) k.spares c.in_err-keep_full-in-Give.ensures.keeps c.in_err-keep_full-in-Give.ensures.counts));
      leaves = λ f upto. tt;
    })

pub action_after-action-requires-clause-few : goal.action_after-action-requires-clause-few
action_after-action-requires-clause-few g c = let few = after_few c.give_part.new.member.batch in let left = ap (λ (es : List Entry). length es) c.in_ok-keep_full-in-Give.ensures.left in omega (arith, few, left)

pub action_after-action-requires-clause-units : goal.action_after-action-requires-clause-units
action_after-action-requires-clause-units g c =
    let here = rw c.in-Give.is at c.loop-action.invariant.upto in
    omega (arith, here.units, c.requires.units)

pub loop-action-preserved : goal.loop-action-preserved
loop-action-preserved g c =
    let P = g.P.Plant in
    let i = c.loop-action.invariant in
    let h = c.args.holder in
    let z = c.loop-action.complex in
    let n = c.loop-action.member in
    let v = c.give_part.new.complex in
    let l = c.give_part.new.member in
    let y = c.keep_full.new.complex in
    let k = c.keep_full.new.member in
    let o = c.in-Give in
    let e = c.in_ok-end-in-Give in
    let full = c.in_ok-keep_full-in-Give.ensures in
    let a = c.action_after-action.result in
    let after = c.action_after-action.ensures in
    let at = goal.at.loop-action-preserved g c in
    let room = room_given g at.In_ok-end-in-Give in
    let kept = full.uses (o.progress.left + 3) (less_room v l (o.progress.left + 3 + 1) (suc o.progress.left + 3) (omega arith) room) in
    let may = rw o.is at i.may in
    let least = least_then z n o.part o.then o.progress may.1 in
    let here = rw o.is at i.upto in
    let left = after.next.left in
    record {
      run = c.keep_full.ensures.run ∙ c.give_part.ensures.run ∙ i.run;
      works = full.works;
      one = less_room y k 1 (o.progress.left + 3) (omega arith) kept;
      room = record { room = less_room y k (left_of a + 3) (o.progress.left + 3) (omega (arith, left)) kept; order = let order = room.order in let as_before = ap (λ (t : Tables). t.order) full.tables in omega (arith, order, as_before, left) };
      may = after.next.may;
      few = let few = rw o.is at i.few in omega (arith, few, e.ensures.works.few, left, c.len.ensures);
      upto = record { most = omega (arith, above_most a, after.next.most, least, here.most); units = omega (arith, after.next.units, here.units); level = omega (arith, left, full.reached, e.ensures.reached, here.level) };
      caused = λ f found upto caused.
          after.caused f.units found (omega (arith, here.units, upto.units)) (e.ensures.ends found (rw o.is at (i.caused f found upto caused)));
      then = λ f found upto caused new r p.
          let b = bounds (most_then o.then o.progress + 1 + unwritten n.batch) f.units found in
          let then = rw o.is at (i.then f found upto caused new r) in
          let goes = goes_on_by h e.end o.progress.left (units_from h o.progress.left) in
          let given = given_now g at.After-len in
          then (part_goes P.tells h b o.part o.then o.progress (place_of z n) (place_of v l) c.loop-action.given e.end given new r e.ensures.given (given_more g at.After-len) (none_then g at.In_default)
          (plays_full P.tells h b given {S = Unit {0}} _ (goes (queue_here v l) given o.progress.done) (place_of v l) (place_of y k) new r (most_of a + unwritten k.batch) (full_le l.batch k.batch (most_of a) _ full.left (omega (arith, after.next.most, least))) (own_batch v l h e.ensures.works) full.left c.keep_full.ensures.spares full.keeps full.counts
          (played_as P.tells h (IsWithin h (bounds (most_of a + unwritten k.batch) f.units found)) given (wrote_of k.batch (action_turn h (queue_here y k) given a)) (wrote_of k.batch (goes (queue_here v l) given o.progress.done)) (place_of y k) new r (λ told. ap (wrote_of k.batch) (after.is told ∙ ap (λ (Q : Queue). goes Q given o.progress.done) full.queue)) p)));
    }
