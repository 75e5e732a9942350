use Rattle.mas_run.proofs.Names.{refl, ◌≡◌, ℕ, Some, ap, subst, sym, ◌∙◌, arith, slice_get, set, ◌++◌, ◌-◌, ◌<◌, ◌≤◌, Book, is_holder, in_flight, parts_of, admission_of, IfRuns, AreKeptFrom, Holder, Admission, Denied, Frees, Locks, Plays, Refused, Replaces, Resets, TakesOver, Unplayed, AreReaders, task_place, members_most, few_of}
use Rattle.mas_run.proofs.ArmLemmas.{InArm, arm_book, arm_kept, arm_within, has_turn, holder_same, in_arm, in_place, own_kept, tested_inside, done_at, may_seat}
use Rattle.mas_run.proofs.ClosingLemmas.{short_done}
use Rattle.mas_run.proofs.ClosesLemmas.{denied_done, denied_may, denied_named, freed_line, frees_may, frees_none, refused_done, refused_sayer, none_held}
use Rattle.mas_run.proofs.DoneLemmas.{may_play, may_reset, plays_done, reads_on, resets_done}
use Rattle.mas_run.proofs.AskLemmas.{heard_task, place_inside, reads_line, still_done}
use Rattle.mas_run.proofs.KnownLemmas.{acts_up, few_asked, few_by}
use Rattle.mas_run.proofs.ReplacingLemmas.{may_replace, replaces_done}
use Rattle.mas_run.proofs.SeatLemmas.{seats_done}
use Rattle.mas_run.proofs.TakesLemmas.{may_take_over, takes_over}
use Rattle.mas_run.proofs.running.Running.play_member.Given.{Over}
use Rattle.mas_run.proofs.running.Running.play_member.Goals.{In-Ok}
use Rattle.mas_run.proofs.running.Running.play_member.Goals as goal

-- THE LINE, as it was admitted

abbrev Arm : (g : Over) → In-Ok g → Admission → Type 0
Arm g c a = InArm c.args.self.now.complex c.admit.new.complex c.args.self.now.members c.args.step c.args.by c.args.asked.now a

arm : (g : Over) (c : In-Ok g) (a : Admission) → admission_of c.in-Ok.admission ≡ a → Arm g c a
arm g c a is =
    in_arm c.args.self.now.complex c.admit.new.complex c.args.self.now.members c.args.step c.args.by c.args.asked.now c.requires.few (omega (arith, c.if-self-ge-LEVEL_MOST.false)) c.requires.between
    c.requires.member c.requires.played c.in-Ok.admission a is c.in-Ok.ensures.admitted c.in-Ok.ensures.frame

-- the member's number is one
few_here : (g : Over) (c : In-Ok g) → c.args.by.0 ≤ members_most
few_here g c = few_by c.args.by c.args.asked.now c.requires.member c.requires.played.fits.by

-- ITS MEMBER, which acts in it

pub item_mut-member-requires : goal.item_mut-member-requires
item_mut-member-requires g c =
    let i = (goal.at.item_mut-member-requires g c).In-Ok in
    let w = arm g i (admission_of i.in-Ok.admission) refl in
    let x = c.args.self.now.complex in
    arm_within w (acts_up x.base w.is.config x.book c.args.by i.in-Ok.admission c.in_default-admission.not-Refused w.known_so) c.saturating_sub-at.result c.saturating_sub-at.ensures

pub holder_of-holder-requires : goal.holder_of-holder-requires
holder_of-holder-requires g c =
    let i = (goal.at.holder_of-holder-requires g c).In-Ok in
    let w = arm g i (admission_of i.in-Ok.admission) refl in
    let x = c.args.self.now.complex in
    tested_inside w (acts_up x.base w.is.config x.book c.args.by i.in-Ok.admission c.in_default-admission.not-Refused w.known_so)

-- IT WASN'T TESTED

pub returns-then-self-ge-LEVEL_MOST : goal.returns-then-self-ge-LEVEL_MOST
returns-then-self-ge-LEVEL_MOST g c =
    let x = c.args.self.now.complex in
    record { done = short_done x x refl c.args.self.now.members c.args.step c.args.by c.args.asked.now; heard = tt }

pub admit-requires : goal.admit-requires
admit-requires g c =
    let is = c.requires.between in
    record { seats = is.booked; away = λ free. (is.unreserved, (is.quiet (none_held c.args.self.now.complex.book free)).none); few = few_asked c.args.asked.now c.requires.played.fits.what }

pub returns-in_default : goal.returns-in_default
returns-in_default g c =
    record { done = short_done c.args.self.now.complex c.admit.new.complex c.in_default.ensures.frame c.args.self.now.members c.args.step c.args.by c.args.asked.now; heard = tt }

-- IT IS REFUSED

pub say_refused-requires : goal.say_refused-requires
say_refused-requires g c =
    let i = (goal.at.say_refused-requires g c).In-Ok in
    let w = arm g i (Refused c.in-Refused.sayer c.in-Refused.end) (ap admission_of c.in-Refused.is) in
    record { says = refused_sayer w; by = few_here g i; named = w.known_so.1; kept = λ told. arm_kept w }

pub returns-in-Refused : goal.returns-in-Refused
returns-in-Refused g c =
    let w = arm g (goal.at.returns-in-Refused g c).In-Ok (Refused c.in-Refused.sayer c.in-Refused.end) (ap admission_of c.in-Refused.is) in
    let e = c.say_refused.ensures in
    let done = refused_done w c.say_refused.new.complex c.say_refused.result e.closed e.frame in
    record { done = done; heard = still_done w done c.args.self.now.readers c.requires.readers (λ k same. absurd (cc)) }

-- ITS MEMBER DIDN'T GET THE LOCK

pub say_denied-requires : goal.say_denied-requires
say_denied-requires g c =
    let i = (goal.at.say_denied-requires g c).In-Ok in
    let w = arm g i (Denied c.in-Denied.why) (ap admission_of c.in-Denied.is) in
    record { may = denied_may w (few_here g i); named = denied_named w }

pub returns-in-Denied : goal.returns-in-Denied
returns-in-Denied g c =
    let w = arm g (goal.at.returns-in-Denied g c).In-Ok (Denied c.in-Denied.why) (ap admission_of c.in-Denied.is) in
    let e = c.say_denied.ensures in
    let done = denied_done w c.say_denied.new.complex c.say_denied.result e.closed e.frame in
    record { done = done; heard = still_done w done c.args.self.now.readers c.requires.readers (λ k same. absurd (cc)) }

-- IT GIVES THE LOCK UP

pub free_line-requires : goal.free_line-requires
free_line-requires g c =
    let i = (goal.at.free_line-requires g c).In-Ok in
    let w = arm g i Frees (ap admission_of c.in-Frees.is) in
    record { may = frees_may w (few_here g i); holds = ap (λ (b : Book). is_holder b c.args.by) (arm_book w) ∙ w.known_so.1; none = frees_none w }

pub returns-in-Frees : goal.returns-in-Frees
returns-in-Frees g c =
    let w = arm g (goal.at.returns-in-Frees g c).In-Ok Frees (ap admission_of c.in-Frees.is) in
    let e = c.free_line.ensures in
    let done = freed_line w c.free_line.new.complex c.free_line.result e.closed e.frame in
    record { done = done; heard = still_done w done c.args.self.now.readers c.requires.readers (λ k same. absurd (cc)) }

-- IT PLAYS A TASK

pub item_mut-reader-requires : goal.item_mut-reader-requires
item_mut-reader-requires g c =
    let w = arm g (goal.at.item_mut-reader-requires g c).In-Ok (Plays c.in-Plays.task) (ap admission_of c.in-Plays.is) in
    let base = c.args.self.now.complex.base in
    let inside = place_inside base c.args.by c.in-Plays.task (c.args.by.0 - 1) base.config.members w.known_so.1
    (subst (λ (n : ℕ). c.args.by.0 - 1 < n) w.is.many (arm_within w w.known_so.0 (c.args.by.0 - 1) refl)) in
    omega (arith, inside, c.reader_of-place.ensures, c.requires.readers.many)

pub play_task-requires : goal.play_task-requires
play_task-requires g c =
    let w = arm g (goal.at.play_task-requires g c).In-Ok (Plays c.in-Plays.task) (ap admission_of c.in-Plays.is) in
    let turn = has_turn w w.known_so.0 w.known_so.2 refl c.saturating_sub-at.result c.saturating_sub-at.ensures c.item_mut-member.result.now c.item_mut-member.ensures.value in
    may_play turn c.holder_of-holder.result (holder_same c.admit.new.complex.book c.args.by c.args.step _ _ _ c.holder_of-holder.ensures c.grant_of-grant.ensures) c.in-Plays.task w.known_so.1

pub returns-in-Plays : goal.returns-in-Plays
returns-in-Plays g c =
    let P = g.P.Plant in
    let x = c.args.self.now.complex in
    let by = c.args.by in
    let w = arm g (goal.at.returns-in-Plays g c).In-Ok (Plays c.in-Plays.task) (ap admission_of c.in-Plays.is) in
    let i = c.saturating_sub-at.result in
    let m = c.item_mut-member.result.now in
    let turn = has_turn w w.known_so.0 w.known_so.2 refl i c.saturating_sub-at.ensures m c.item_mut-member.ensures.value in
    let h = c.holder_of-holder.result in
    let same = holder_same c.admit.new.complex.book by c.args.step h _ _ c.holder_of-holder.ensures c.grant_of-grant.ensures in
    let y = c.play_task.new.complex in
    let n = c.play_task.new.member in
    let e = c.play_task.ensures in
    let r = c.play_task.result in
    let rs = c.args.self.now.readers in
    let was = c.item_mut-reader.result.now in
    let new = c.play_task.new.reader in
    let task = c.in-Plays.task in
    let there : slice_get rs (task_place (by.0 - 1) task) ≡ Some was = subst (λ (k : ℕ). slice_get rs k ≡ Some was) c.reader_of-place.ensures c.item_mut-reader.ensures.value in
    let read = reads_line P (parts_of x) by rs c.requires.readers w.known_so.0.member w.known_so.0.up x.base task w.known_so.1 was there in
    let one = plays_done turn h same y n e.id e.frame task w.known_so.1 w.adm was new r e.played e.next read in
    record {
      done = done_at x y c.args.self.now.members n c.args.step by c.args.asked.now r i c.saturating_sub-at.ensures one;
      heard = subst (λ (k : ℕ). IfRuns r (AreReaders P (parts_of y) (set rs k new))) (sym c.reader_of-place.ensures)
          (heard_task w one rs c.requires.readers task refl w.known_so.0.member w.known_so.1 was new there e.played.reader
          (λ t ok. reads_on turn h same y n e.id e.frame task w.known_so.1 w.adm was new r e.played e.next read t c.law_of_streams.ensures.pieces ok));
    }

-- IT RESETS A STOPPED MEMBER

pub reset_line-requires : goal.reset_line-requires
reset_line-requires g c =
    let w = arm g (goal.at.reset_line-requires g c).In-Ok (Resets c.in-Resets.of) (ap admission_of c.in-Resets.is) in
    let turn = has_turn w w.known_so.0 w.known_so.2 refl c.saturating_sub-at.result c.saturating_sub-at.ensures c.item_mut-member.result.now c.item_mut-member.ensures.value in
    let same = holder_same c.admit.new.complex.book c.args.by c.args.step c.holder_of-holder.result _ _ c.holder_of-holder.ensures c.grant_of-grant.ensures in
    record {
      may = may_reset turn c.holder_of-holder.result same c.in-Resets.of
          (few_of c.args.self.now.complex.base.config c.in-Resets.of w.known_so.1.member w.is.config) (w.known_so.1.givable w.known_so.0.member);
    }

pub returns-in-Resets : goal.returns-in-Resets
returns-in-Resets g c =
    let w = arm g (goal.at.returns-in-Resets g c).In-Ok (Resets c.in-Resets.of) (ap admission_of c.in-Resets.is) in
    let turn = has_turn w w.known_so.0 w.known_so.2 refl c.saturating_sub-at.result c.saturating_sub-at.ensures c.item_mut-member.result.now c.item_mut-member.ensures.value in
    let same = holder_same c.admit.new.complex.book c.args.by c.args.step c.holder_of-holder.result _ _ c.holder_of-holder.ensures c.grant_of-grant.ensures in
    let e = c.reset_line.ensures in
    let done = done_at _ _ c.args.self.now.members _ _ _ _ _ _ c.saturating_sub-at.ensures
    (resets_done turn c.holder_of-holder.result same c.reset_line.new.complex c.reset_line.new.member e.id e.frame c.in-Resets.of w.adm c.reset_line.result e.reset e.next) in
    record { done = done; heard = still_done w done c.args.self.now.readers c.requires.readers (λ k same. absurd (cc)) }

-- IT REPLACES A COPY

pub replace_line-requires : goal.replace_line-requires
replace_line-requires g c =
    let w = arm g (goal.at.replace_line-requires g c).In-Ok (Replaces c.in-Replaces.dev) (ap admission_of c.in-Replaces.is) in
    let m = c.item_mut-member.result.now in
    let turn = has_turn w w.known_so.0 w.known_so.2 refl c.saturating_sub-at.result c.saturating_sub-at.ensures m c.item_mut-member.ensures.value in
    let h = c.holder_of-holder in
    let mid = c.admit.new.complex in
    record {
      may = may_replace turn h.result (holder_same mid.book c.args.by c.args.step h.result _ _ h.ensures c.grant_of-grant.ensures) w.known_so.1;
      kept = λ told. subst (λ (n : ℕ). AreKeptFrom m.id n (mid.journal.batches ++ in_flight mid.current) (g.P.Plant.view mid.plant).now) (sym (ap (λ (k : Holder). k.step) h.ensures)) (own_kept w m turn.own);
    }

pub returns-in-Replaces : goal.returns-in-Replaces
returns-in-Replaces g c =
    let w = arm g (goal.at.returns-in-Replaces g c).In-Ok (Replaces c.in-Replaces.dev) (ap admission_of c.in-Replaces.is) in
    let turn = has_turn w w.known_so.0 w.known_so.2 refl c.saturating_sub-at.result c.saturating_sub-at.ensures c.item_mut-member.result.now c.item_mut-member.ensures.value in
    let same = holder_same c.admit.new.complex.book c.args.by c.args.step c.holder_of-holder.result _ _ c.holder_of-holder.ensures c.grant_of-grant.ensures in
    let e = c.replace_line.ensures in
    let done = done_at _ _ c.args.self.now.members _ _ _ _ _ _ c.saturating_sub-at.ensures
    (replaces_done turn c.holder_of-holder.result same w.known_so.1 c.replace_line.new.complex c.replace_line.new.member e.id
    c.replace_line.result e.frame e.replaces) in
    record { done = done; heard = still_done w done c.args.self.now.readers c.requires.readers (λ k same. absurd (cc)) }

-- IT TAKES THE LOCK OVER

pub take_line-requires : goal.take_line-requires
take_line-requires g c =
    let w = arm g (goal.at.take_line-requires g c).In-Ok (TakesOver c.in-TakesOver.of) (ap admission_of c.in-TakesOver.is) in
    record { may = may_take_over w (in_place w w.known_so.0 c.saturating_sub-at.result c.saturating_sub-at.ensures c.item_mut-member.result.now c.item_mut-member.ensures.value) }

pub returns-in-TakesOver : goal.returns-in-TakesOver
returns-in-TakesOver g c =
    let w = arm g (goal.at.returns-in-TakesOver g c).In-Ok (TakesOver c.in-TakesOver.of) (ap admission_of c.in-TakesOver.is) in
    let s = in_place w w.known_so.0 c.saturating_sub-at.result c.saturating_sub-at.ensures c.item_mut-member.result.now c.item_mut-member.ensures.value in
    let e = c.take_line.ensures in
    let done = takes_over w s c.take_line.new.complex c.take_line.new.member e.id e.frame c.take_line.result e.taken e.next in
    record { done = done; heard = still_done w done c.args.self.now.readers c.requires.readers (λ k same. absurd (cc)) }

-- IT KEEPS THE LOCK

pub lock_line-requires : goal.lock_line-requires
lock_line-requires g c =
    let w = arm g (goal.at.lock_line-requires g c).In-Ok Locks (ap admission_of c.in-Locks.is) in
    let m = c.item_mut-member.result.now in
    let turn = has_turn w w.known_so.0 w.known_so.1 refl c.saturating_sub-at.result c.saturating_sub-at.ensures m c.item_mut-member.ensures.value in
    record { may = may_seat turn; kept = λ told. own_kept w m turn.own }

pub returns-in-Locks : goal.returns-in-Locks
returns-in-Locks g c =
    let w = arm g (goal.at.returns-in-Locks g c).In-Ok Locks (ap admission_of c.in-Locks.is) in
    let turn = has_turn w w.known_so.0 w.known_so.1 refl c.saturating_sub-at.result c.saturating_sub-at.ensures c.item_mut-member.result.now c.item_mut-member.ensures.value in
    let e = c.lock_line.ensures in
    let done = done_at _ _ c.args.self.now.members _ _ _ _ _ _ c.saturating_sub-at.ensures
    (seats_done turn c.lock_line.new.complex c.lock_line.new.member e.id c.lock_line.result e.frame e.locks) in
    record { done = done; heard = still_done w done c.args.self.now.readers c.requires.readers (λ k same. absurd (cc)) }

pub unreachable-requires : goal.unreachable-requires
unreachable-requires g c = (arm g (goal.at.unreachable-requires g c).In-Ok Unplayed (ap admission_of c.in-Unplayed.is)).known_so
