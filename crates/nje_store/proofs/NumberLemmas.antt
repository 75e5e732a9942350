-- The numbers of a line come once, one after another.
use Rattle.std.proofs.Common.{◌≡◌, ◌⊎◌, inl, inr, ℕ, zero, suc, ◌+◌, ◌-◌, ◌≤◌, ◌<◌, ◌==◌, nat_le, nat_lt, true, false, if◌then◌else◌, List, [], ◌∷◌, ◌++◌, Option, Some, None, refl, sym, ap, subst, ◌∙◌, eq-eqb, arith}
use Rattle.std.specs.Prelude.{slice_get}
use Rattle.std.specs.Option.{option_map_or}
use Rattle.std.proofs.lemmas.Bool.{eqb-true}
use Rattle.std.proofs.lemmas.Bool.Decides.{nat_tests}
use Rattle.mas_types.specs.declared.commands.Command.{Command}
use Rattle.mas_types.specs.declared.commands.Command.TheVariants as command
use Rattle.mas_types.specs.declared.commands.Refusal.{Refusal}
use Rattle.mas_types.specs.declared.commands.Refusal.TheVariants as refusal
use Rattle.mas_types.specs.declared.commands.Reply.{Reply}
use Rattle.mas_types.specs.declared.commands.Reply.TheVariants as reply
use Rattle.mas_types.specs.declared.ids.JobNo.{JobNo}
use Rattle.mas_types.specs.declared.ids.MemberId.{MemberId}
use Rattle.mas_types.specs.declared.jobs.Phase.TheVariants as phase
use Rattle.mas_types.specs.declared.journals.Entry.{Entry}
use Rattle.mas_types.specs.declared.queues.LineCount.{LineCount}
use Rattle.mas_types.specs.declared.queues.Queue.{Queue}
use Rattle.mas_types.specs.Commands.Input.{drop_row, entered, not_entered}
use Rattle.mas_types.specs.Commands.Operator.{cancel_row, is_busy}
use Rattle.mas_types.specs.Commands.Wire.{again, either, gap, got_on, got_row, load_row, sent_on, sent_row}
use Rattle.mas_types.specs.Ids.{no_number}
use Rattle.mas_types.specs.Lists.{change_at, change_first, first_some}
use Rattle.mas_types.specs.Queue.{change_wire, current_on, is_current_on, job_at, number_of, wire_at}
use Rattle.mas_types.specs.Row.{none_such, settled}
use Rattle.mas_types.specs.Selection.{for_wire}
use Rattle.mas_types.specs.Run.{run}
use Rattle.mas_types.specs.Step.{row_of, step}
use Rattle.queue_laws.proofs.Done.{none_first, where_not}
use Rattle.queue_laws.proofs.Finds.{test_cases}
use Rattle.nje_store.specs.Numbers.{CountUp, NumbersAreGotOnce, NumbersAreSentOnce, got_with, if_on, numbers_after, numbers_in, sent_with}

-- A LINE OF A QUEUE THAT IS CHANGED

change_here : (k : ℕ) (f : LineCount → LineCount) (counts : List LineCount) (count : LineCount) → slice_get counts k ≡ Some count → slice_get (change_at k f counts) k ≡ Some (f count)
change_here k f [] count is = absurd (cc)
change_here zero f (c ∷ counts) count is = let same : c ≡ count = cc in ap (λ (x : LineCount). Some (f x)) same
change_here (suc k) f (c ∷ counts) count is = change_here k f counts count is

change_apart : (j k : ℕ) (f : LineCount → LineCount) (counts : List LineCount) → (j == k) ≡ false → slice_get (change_at j f counts) k ≡ slice_get counts k
change_apart j k f [] apart = refl
change_apart zero zero f (c ∷ counts) apart = absurd (cc)
change_apart zero (suc k) f (c ∷ counts) apart = refl
change_apart (suc j) zero f (c ∷ counts) apart = refl
change_apart (suc j) (suc k) f (c ∷ counts) apart = let less : (j == k) ≡ false = grind (arith, nat_tests) in change_apart j k f counts less

wire_here : (Q : Queue) (l : ℕ) (f : LineCount → LineCount) (count : LineCount) → wire_at Q l ≡ Some count → wire_at (change_wire l f Q) l ≡ Some (f count)
wire_here Q l f count is =
    test_cases (l == 0) (wire_at (change_wire l f Q) l ≡ Some (f count))
    (λ e. let w : None ≡ Some count = rw e at is in absurd (cc))
    (λ e. let w : slice_get Q.lines (l - 1) ≡ Some count = rw e at is in rw e (change_here (l - 1) f Q.lines count w))

apart_before : (line l : ℕ) → (line == l) ≡ false → (line == 0) ≡ false → (l == 0) ≡ false → ((line - 1) == (l - 1)) ≡ false
apart_before line l apart some there = grind (arith, nat_tests)

wire_apart : (Q : Queue) (line l : ℕ) (f : LineCount → LineCount) (count : LineCount) → (line == l) ≡ false → wire_at Q l ≡ Some count → wire_at (change_wire line f Q) l ≡ Some count
wire_apart Q line l f count apart is =
    test_cases (l == 0) (wire_at (change_wire line f Q) l ≡ Some count)
    (λ e. let w : None ≡ Some count = rw e at is in absurd (cc))
    (λ e. let w : slice_get Q.lines (l - 1) ≡ Some count = rw e at is in
    test_cases (line == 0) (wire_at (change_wire line f Q) l ≡ Some count)
    (λ d. rw (e, d) w)
    (λ d. rw (e, d) (change_apart (line - 1) (l - 1) f Q.lines (apart_before line l apart d e) ∙ w)))

-- A STEP

-- no number, and the count stays; or the next one, and the count is it
abbrev Counts : ℕ → ℕ → List ℕ → Type 0
Counts before after numbers = ((numbers ≡ []) × (after ≡ before)) ⊎ ((numbers ≡ suc before ∷ []) × (after ≡ suc before))

record LineStep (l : ℕ) (c : Command) (done : Queue × Reply) (count : LineCount) : Type 0 where
  now_is : LineCount
  there : wire_at done.0 l ≡ Some now_is
  got : Counts count.got now_is.got (got_with l c done.1)
  sent : Counts count.sent now_is.sent (sent_with l c done.1)

on_got : (Q : Queue) (l : ℕ) (count : LineCount) → wire_at Q l ≡ Some count → got_on Q l ≡ count.got
on_got Q l count there = ap (λ (o : Option LineCount). option_map_or (λ (c : LineCount). c.got) o 0) there

on_sent : (Q : Queue) (l : ℕ) (count : LineCount) → wire_at Q l ≡ Some count → sent_on Q l ≡ count.sent
on_sent Q l count there = ap (λ (o : Option LineCount). option_map_or (λ (c : LineCount). c.sent) o 0) there

-- a number that isn't refused is the next
next_number : (kept number : ℕ) (more : List (Option Refusal)) → first_some (again kept number ∷ gap kept number ∷ more) ≡ None → number ≡ suc kept
next_number kept number more none =
    let first = none_first (again kept number) (gap kept number ∷ more) none in
    let second = none_first (gap kept number) more first.1 in
    let above : nat_le number kept ≡ false = where_not (nat_le number kept) (refusal.Again number) first.0 in
    let below : nat_lt (kept + 1) number ≡ false = where_not (nat_lt (kept + 1) number) (refusal.Gap number kept) second.0 in
    let gt : kept < number = grind (arith, nat_tests) in
    let le : number ≤ kept + 1 = grind (arith, nat_tests) in
    omega (arith, gt, le)

if_here : (l number : ℕ) → if_on l l number ≡ number ∷ []
if_here l number = let e : (l == l) ≡ true = eq-eqb l l refl in rw e refl

if_apart : (l line number : ℕ) → (line == l) ≡ false → if_on l line number ≡ []
if_apart l line number apart = rw apart refl

other_settled : (Q effect : Queue) (answer : Reply) (c : Command) (l : ℕ) (count : LineCount) → wire_at Q l ≡ Some count → ((r : Reply) → (got_with l c r ≡ []) × (sent_with l c r ≡ []))
    → effect.lines ≡ Q.lines → (o : Option Refusal) → LineStep l c (settled Q effect answer o) count
other_settled Q effect answer c l count there none same (Some why) =
    let is = none (reply.No why) in record { now_is = count; there = there; got = inl (is.0, refl); sent = inl (is.1, refl) }
other_settled Q effect answer c l count there none same None =
    let is = none answer in
    record {
      now_is = count;
      there = ap (λ (ls : List LineCount). if l == 0 then None else slice_get ls (l - 1)) same ∙ there;
      got = inl (is.0, refl);
      sent = inl (is.1, refl);
    }

-- a command that has no line, and leaves the counts
other_step : (Q : Queue) (m : MemberId) (c : Command) (l : ℕ) (count : LineCount) → wire_at Q l ≡ Some count → ((r : Reply) → (got_with l c r ≡ []) × (sent_with l c r ≡ []))
    → (row_of Q m c).effect.lines ≡ Q.lines → LineStep l c (step Q m c) count
other_step Q m c l count there none same = other_settled Q (row_of Q m c).effect (row_of Q m c).answer c l count there none same (first_some (row_of Q m c).refusals)

-- a command that changes the counts of a line
module _ (l : ℕ) (count : LineCount) where
  changed : (c : Command) (R : Queue) (r : Reply) (line : ℕ) (f : LineCount → LineCount) → wire_at R l ≡ Some count
      → (line ≡ l → Counts count.got (f count).got (got_with l c r) × Counts count.sent (f count).sent (sent_with l c r))
      → ((line == l) ≡ false → (got_with l c r ≡ []) × (sent_with l c r ≡ []))
      → LineStep l c (change_wire line f R, r) count
  changed c R r line f there here apart =
      test_cases (line == l) (LineStep l c (change_wire line f R, r) count)
      (λ e. let same : line ≡ l = eqb-true line l e in
      let facts = here same in
      record {
        now_is = f count;
        there = ap (λ (k : ℕ). wire_at (change_wire k f R) l) same ∙ wire_here R l f count there;
        got = facts.0;
        sent = facts.1;
      })
      (λ e. let none = apart e in
      record { now_is = count; there = wire_apart R line l f count e there; got = inl (none.0, refl); sent = inl (none.1, refl) })

  module _ (Q : Queue) (m : MemberId) (there : wire_at Q l ≡ Some count) where
    stays : (c : Command) (why : Refusal) → ((r : Reply) → r ≡ reply.No why → (got_with l c r ≡ []) × (sent_with l c r ≡ [])) → LineStep l c (Q, reply.No why) count
    stays c why none = let is = none (reply.No why) refl in record { now_is = count; there = there; got = inl (is.0, refl); sent = inl (is.1, refl) }

    load_step : (line : ℕ) (o : Option Refusal) → LineStep l (command.Load line) (settled Q (load_row Q line).effect (load_row Q line).answer o) count
    load_step line (Some why) = stays (command.Load line) why (λ r is. (refl, refl))
    load_step line None =
        changed (command.Load line) Q (load_row Q line).answer line
        (λ (c : LineCount). record c { current = number_of (either (current_on Q line) (for_wire Q line)) }) there
        (λ same. (inl (refl, refl), inl (refl, refl))) (λ apart. (refl, refl))

    sent_step : (line number : ℕ) (o : Option Refusal) → first_some (sent_row Q line number).refusals ≡ o
        → LineStep l (command.Sent line number) (settled Q (sent_row Q line number).effect (sent_row Q line number).answer o) count
    sent_step line number (Some why) is = stays (command.Sent line number) why (λ r e. (refl, ap (sent_with l (command.Sent line number)) e))
    sent_step line number None is =
        let next : number ≡ suc (sent_on Q line) = next_number (sent_on Q line) number (none_such refusal.Nothing (current_on Q line) ∷ []) is in
        changed (command.Sent line number) (record Q { jobs = change_first (is_current_on Q line) (λ j. record j { phase = phase.Purge }) Q.jobs }) (reply.Count number) line
        (λ (c : LineCount). record c { sent = number; current = no_number }) there
        (λ same.
        let counted : number ≡ suc count.sent = next ∙ ap (λ (k : ℕ). suc (sent_on Q k)) same ∙ ap suc (on_sent Q l count there) in (
          inl (refl, refl),
          inr (ap (λ (k : ℕ). if_on l k number) same ∙ if_here l number ∙ ap (λ (k : ℕ). k ∷ []) counted, counted),
        ))
        (λ apart. (refl, if_apart l line number apart))

    got_step : (line number : ℕ) (n : JobNo) (text : List (List ℕ)) (o : Option Refusal) → first_some (got_row Q m line number n text).refusals ≡ o
        → LineStep l (command.Got line number n text) (settled Q (got_row Q m line number n text).effect (got_row Q m line number n text).answer o) count
    got_step line number n text (Some why) is = stays (command.Got line number n text) why (λ r e. (ap (got_with l (command.Got line number n text)) e, refl))
    got_step line number n text None is =
        let next : number ≡ suc (got_on Q line) = next_number (got_on Q line) number (not_entered Q m n text) is in
        changed (command.Got line number n text) (entered m n text Q) (reply.Job n) line
        (λ (c : LineCount). record c { got = number }) there
        (λ same.
        let counted : number ≡ suc count.got = next ∙ ap (λ (k : ℕ). suc (got_on Q k)) same ∙ ap suc (on_got Q l count there) in (
          inr (ap (λ (k : ℕ). if_on l k number) same ∙ if_here l number ∙ ap (λ (k : ℕ). k ∷ []) counted, counted),
          inl (refl, refl),
        ))
        (λ apart. (if_apart l line number apart, refl))

-- ALL COMMANDS

lines_of_drop : (Q : Queue) (m : MemberId) (job : JobNo) → (drop_row Q m job).effect.lines ≡ Q.lines
lines_of_drop Q m job = test_cases (job.0 == 0) ((drop_row Q m job).effect.lines ≡ Q.lines) (λ e. rw e refl) (λ e. rw e refl)

lines_of_cancel : (Q : Queue) (m : MemberId) (job : JobNo) → (cancel_row Q m job).effect.lines ≡ Q.lines
lines_of_cancel Q m job = test_cases (is_busy (job_at Q job)) ((cancel_row Q m job).effect.lines ≡ Q.lines) (λ e. rw e refl) (λ e. rw e refl)

line_step : (Q : Queue) (m : MemberId) (c : Command) (l : ℕ) (count : LineCount) → wire_at Q l ≡ Some count → LineStep l c (step Q m c) count
line_step Q m (command.Load line) l count there = load_step l count Q m there line (first_some (load_row Q line).refusals)
line_step Q m (command.Sent line number) l count there = sent_step l count Q m there line number (first_some (sent_row Q line number).refusals) refl
line_step Q m (command.Got line number n text) l count there = got_step l count Q m there line number n text (first_some (got_row Q m line number n text).refusals) refl
line_step Q m (command.Begin fields) l count there = other_step Q m (command.Begin fields) l count there (λ r. (refl, refl)) (refl)
line_step Q m (command.Take want) l count there = other_step Q m (command.Take want) l count there (λ r. (refl, refl)) (refl)
line_step Q m (command.Drop job) l count there = other_step Q m (command.Drop job) l count there (λ r. (refl, refl)) (lines_of_drop Q m job)
line_step Q m (command.Enter job text) l count there = other_step Q m (command.Enter job text) l count there (λ r. (refl, refl)) (refl)
line_step Q m command.TakeConvert l count there = other_step Q m command.TakeConvert l count there (λ r. (refl, refl)) (refl)
line_step Q m (command.Converted job) l count there = other_step Q m (command.Converted job) l count there (λ r. (refl, refl)) (refl)
line_step Q m command.TakeExec l count there = other_step Q m command.TakeExec l count there (λ r. (refl, refl)) (refl)
line_step Q m (command.Ended job specs) l count there = other_step Q m (command.Ended job specs) l count there (λ r. (refl, refl)) (refl)
line_step Q m command.Gather l count there = other_step Q m command.Gather l count there (λ r. (refl, refl)) (refl)
line_step Q m command.Pick l count there = other_step Q m command.Pick l count there (λ r. (refl, refl)) (refl)
line_step Q m (command.Mark job index at) l count there = other_step Q m (command.Mark job index at) l count there (λ r. (refl, refl)) (refl)
line_step Q m (command.Done job index) l count there = other_step Q m (command.Done job index) l count there (λ r. (refl, refl)) (refl)
line_step Q m command.Purge l count there = other_step Q m command.Purge l count there (λ r. (refl, refl)) (refl)
line_step Q m (command.Hold job) l count there = other_step Q m (command.Hold job) l count there (λ r. (refl, refl)) (refl)
line_step Q m (command.Release job) l count there = other_step Q m (command.Release job) l count there (λ r. (refl, refl)) (refl)
line_step Q m (command.Cancel job) l count there = other_step Q m (command.Cancel job) l count there (λ r. (refl, refl)) (lines_of_cancel Q m job)
line_step Q m (command.SetPrio job prio) l count there = other_step Q m (command.SetPrio job prio) l count there (λ r. (refl, refl)) (refl)
line_step Q m (command.SetClass job class) l count there = other_step Q m (command.SetClass job class) l count there (λ r. (refl, refl)) (refl)
line_step Q m (command.Out job) l count there = other_step Q m (command.Out job) l count there (λ r. (refl, refl)) (refl)
line_step Q m (command.CancelOut job index) l count there = other_step Q m (command.CancelOut job index) l count there (λ r. (refl, refl)) (refl)
line_step Q m (command.SetOut job index class) l count there = other_step Q m (command.SetOut job index class) l count there (λ r. (refl, refl)) (refl)
line_step Q m (command.Show what) l count there = other_step Q m (command.Show what) l count there (λ r. (refl, refl)) (refl)
line_step Q m (command.SetInit classes) l count there = other_step Q m (command.SetInit classes) l count there (λ r. (refl, refl)) (refl)
line_step Q m (command.SetPrt classes forms lines) l count there = other_step Q m (command.SetPrt classes forms lines) l count there (λ r. (refl, refl)) (refl)
line_step Q m (command.Back lines) l count there = other_step Q m (command.Back lines) l count there (λ r. (refl, refl)) (refl)
line_step Q m (command.Forward lines) l count there = other_step Q m (command.Forward lines) l count there (λ r. (refl, refl)) (refl)
line_step Q m (command.Reset of_member) l count there = other_step Q m (command.Reset of_member) l count there (λ r. (refl, refl)) (refl)
line_step Q m command.Restart l count there = other_step Q m command.Restart l count there (λ r. (refl, refl)) (refl)

-- HISTORIES

module _ (l : ℕ) where
  counts_then : (before middle after : ℕ) (numbers more : List ℕ) → Counts before middle numbers → CountUp middle after more → CountUp before after (numbers ++ more)
  counts_then before middle after numbers more (inl none) up =
      let same : middle ≡ before = none.1 in
      let count = up.now_is in
      record {
        many = up.many;
        are = ap (λ (ns : List ℕ). ns ++ more) none.0 ∙ up.are ∙ ap (λ (k : ℕ). numbers_after k up.many) same;
        now_is = omega (arith, count, same);
      }
  counts_then before middle after numbers more (inr one) up =
      let same : middle ≡ suc before = one.1 in
      let count = up.now_is in
      record {
        many = suc up.many;
        are = ap (λ (ns : List ℕ). ns ++ more) one.0 ∙ ap (λ (ns : List ℕ). suc before ∷ ns) (up.are ∙ ap (λ (k : ℕ). numbers_after k up.many) same);
        now_is = omega (arith, count, same);
      }

  none_more : (count : ℕ) → CountUp count count []
  none_more count = record { many = 0; are = refl; now_is = omega arith }

  got_once : (es : List Entry) (Q : Queue) (count : LineCount) → wire_at Q l ≡ Some count → CountUp count.got (got_on (run Q es) l) (numbers_in (got_with l) Q es)
  got_once [] Q count there = subst (λ (k : ℕ). CountUp count.got k []) (sym (on_got Q l count there)) (none_more count.got)
  got_once (e ∷ es) Q count there =
      let s = line_step Q e.by e.command l count there in
      let R = (step Q e.by e.command).0 in
      counts_then count.got s.now_is.got (got_on (run R es) l) (got_with l e.command (step Q e.by e.command).1) (numbers_in (got_with l) R es) s.got (got_once es R s.now_is s.there)

  sent_once : (es : List Entry) (Q : Queue) (count : LineCount) → wire_at Q l ≡ Some count → CountUp count.sent (sent_on (run Q es) l) (numbers_in (sent_with l) Q es)
  sent_once [] Q count there = subst (λ (k : ℕ). CountUp count.sent k []) (sym (on_sent Q l count there)) (none_more count.sent)
  sent_once (e ∷ es) Q count there =
      let s = line_step Q e.by e.command l count there in
      let R = (step Q e.by e.command).0 in
      counts_then count.sent s.now_is.sent (sent_on (run R es) l) (sent_with l e.command (step Q e.by e.command).1) (numbers_in (sent_with l) R es) s.sent (sent_once es R s.now_is s.there)

pub numbers_are_got_once : NumbersAreGotOnce
numbers_are_got_once l Q es line =
    subst (λ (k : ℕ). CountUp k (got_on (run Q es) l) (numbers_in (got_with l) Q es)) (sym (on_got Q l line.0 line.1)) (got_once l es Q line.0 line.1)

pub numbers_are_sent_once : NumbersAreSentOnce
numbers_are_sent_once l Q es line =
    subst (λ (k : ℕ). CountUp k (sent_on (run Q es) l) (numbers_in (sent_with l) Q es)) (sym (on_sent Q l line.0 line.1)) (sent_once l es Q line.0 line.1)
