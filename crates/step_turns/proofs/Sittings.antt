-- The laws of a sitting.
use Rattle.std.proofs.Common.{◌≡◌, ◌≢◌, ◌⊎◌, inl, inr, ℕ, ◌+◌, ◌-◌, ◌*◌, ◌≤◌, nat_le, Bool, true, false, if◌then◌else◌, [], length, refl, ap, ◌∙◌, All, arith}
use Rattle.std.proofs.lemmas.Bool.Decides.{nat_tests}
use Rattle.mas_types.specs.declared.queues.Queue.{Queue}
use Rattle.step_turns.specs.Batches.{AreWholeParts, cut}
use Rattle.step_turns.specs.Courses.{sittings_most}
use Rattle.step_turns.specs.Entries.{all_entries, commands_in, given_in}
use Rattle.step_turns.specs.Laws.{BatchesAreWithinLimits, EntriesAreGiven, HoldsRightly, IsBatch, LinesAreSaidAtTheEnd, LockIsHeldRightly, NoUnitAfterTheLast, NoUnitIsSplit, PlaysUnits, StepsEnd, on_line, units_done, units_left}
use Rattle.step_turns.specs.Sittings.{released, sit, sitting_of}
use Rattle.step_turns.specs.Serving.{exchange_end, taken_most}
use Rattle.step_turns.specs.States.{Acknowledge, Aside, Away, ByLock, Deck, Exchange, ForStep, Found, Fresh, Give, Grant, Holder, Inner, Keep, Line, Outer, PrintLines, Progress, ReadText, Rested, SpoolArrival, SpoolDeck, SpoolOutputs, State, Task, Told, Work}
use Rattle.step_turns.specs.Turns.{Turn, leaves, turn}
use Rattle.step_turns.proofs.Cutting.{cut_entries, cut_limits, cut_whole}
use Rattle.step_turns.proofs.Facts.{Sat, sat, sat_served, small_some}
use Rattle.step_turns.proofs.Given.{given_again}
use Rattle.step_turns.proofs.Served.{served_acknowledged, served_exchange, served_stored, served_task}
use Rattle.step_turns.proofs.Shapes.{begins}

-- STATES

-- what holds of a state that is told, and of every other one, holds of all
pub by_state : (P : State → Type 0) → P Told → ((s : State) → s ≢ Told → P s) → (s : State) → P s
by_state P at_told else_so (Fresh task) = else_so (Fresh task) (λ e. absurd (cc))
by_state P at_told else_so (Away aside) = else_so (Away aside) (λ e. absurd (cc))
by_state P at_told else_so (Rested p) = else_so (Rested p) (λ e. absurd (cc))
by_state P at_told else_so Told = at_told

module _ (Q : Queue) (h : Holder) (found : Found) where
  abbrev SatAt : State → Type 0
  SatAt s = Sat h (sittings_most s - 1) Q (on_line s) (units_left s) (units_done s) (turn h Q s found)

  sat_off : (s : State) → on_line s ≡ false → s ≢ Told → Sat h (sittings_most s - 1) Q false (units_left s) (units_done s) (turn h Q s found)
  sat_off s off open_now = sat h (sittings_most s - 1) Q (units_left s) (units_done s) (turn h Q s found) (begins h Q s found off open_now)

  sat_task : (task : Task) → SatAt (Fresh task)
  sat_task (Give c) = sat_off (Fresh (Give c)) refl (λ e. absurd (cc))
  sat_task (Deck fields text) = sat_off (Fresh (Deck fields text)) refl (λ e. absurd (cc))
  sat_task (Work n) = sat_off (Fresh (Work n)) refl (λ e. absurd (cc))
  sat_task (Line l) = sat_served h (2 * taken_most + 1) (sittings_most (Fresh (Line l)) - 1) Q (units_left (Fresh (Line l))) (turn h Q (Fresh (Line l)) found) (omega arith) (served_task h Q l)

  sat_aside : (a : Aside) → SatAt (Away a)
  sat_aside (SpoolDeck n text) = sat_off (Away (SpoolDeck n text)) refl (λ e. absurd (cc))
  sat_aside (ReadText runs n fields p) = sat_off (Away (ReadText runs n fields p)) refl (λ e. absurd (cc))
  sat_aside (SpoolOutputs n specs p) = sat_off (Away (SpoolOutputs n specs p)) refl (λ e. absurd (cc))
  sat_aside (PrintLines n i last p) = sat_off (Away (PrintLines n i last p)) refl (λ e. absurd (cc))
  sat_aside (Exchange l offer) =
      sat_served h (2 * taken_most) (sittings_most (Away (Exchange l offer)) - 1) Q (units_left (Away (Exchange l offer))) (turn h Q (Away (Exchange l offer)) found) (omega arith)
      (served_exchange h Q (exchange_end offer l found) l found)
  sat_aside (SpoolArrival number n text s) =
      sat_served h (2 * length s.frames + 1) (sittings_most (Away (SpoolArrival number n text s)) - 1) Q (units_left (Away (SpoolArrival number n text s))) (turn h Q (Away (SpoolArrival number n text s)) found) (omega arith)
      (served_stored h Q number n s found.lost text)
  sat_aside (Acknowledge number s) =
      sat_served h (2 * length s.frames) (sittings_most (Away (Acknowledge number s)) - 1) Q (units_left (Away (Acknowledge number s))) (turn h Q (Away (Acknowledge number s)) found) (omega arith)
      (served_acknowledged h Q number found.wire s)

pub sat_at : (Q : Queue) (h : Holder) (s : State) (found : Found) → s ≢ Told → SatAt Q h found s
sat_at Q h (Fresh task) found open_now = sat_task Q h found task
sat_at Q h (Away aside) found open_now = sat_aside Q h found aside
sat_at Q h (Rested p) found open_now = sat_off Q h found (Rested p) refl open_now
sat_at Q h Told found open_now = absurd (open_now refl)

-- THE LOCK

module _ (hold given : ℕ) where
  inner_for_step : (g : Grant) (s : State) → g ≡ ForStep → s ≢ Told → released g hold given s ≡ Inner
  inner_for_step ForStep (Fresh task) e ne = refl
  inner_for_step ForStep (Away aside) e ne = refl
  inner_for_step ForStep (Rested p) e ne = refl
  inner_for_step ForStep Told e ne = absurd (ne refl)
  inner_for_step ByLock s e ne = absurd (cc)

  outer_for_step : (g : Grant) (s : State) → g ≡ ForStep → s ≡ Told → released g hold given s ≡ Outer
  outer_for_step ForStep s e told = rw told refl
  outer_for_step ByLock s e told = absurd (cc)

  kept_by_lock : (g : Grant) (s : State) → g ≡ ByLock → s ≢ Told → released g hold given s ≡ Keep
  kept_by_lock ForStep s e ne = absurd (cc)
  kept_by_lock ByLock (Fresh task) e ne = refl
  kept_by_lock ByLock (Away aside) e ne = refl
  kept_by_lock ByLock (Rested p) e ne = refl
  kept_by_lock ByLock Told e ne = absurd (ne refl)

  at_end : (spent : Bool) → (if spent then Outer else Keep) ≢ Inner
  at_end true e = absurd (cc)
  at_end false e = absurd (cc)

  never_inner_by_lock : (g : Grant) (s : State) → g ≡ ByLock → released g hold given s ≢ Inner
  never_inner_by_lock ForStep s e is = absurd (cc)
  never_inner_by_lock ByLock (Fresh task) e is = absurd (cc)
  never_inner_by_lock ByLock (Away aside) e is = absurd (cc)
  never_inner_by_lock ByLock (Rested p) e is = absurd (cc)
  never_inner_by_lock ByLock Told e is = at_end (nat_le hold given) is

  spent_by : (spent : Bool) → (if spent then Outer else Keep) ≡ Outer → spent ≡ true
  spent_by true e = refl
  spent_by false e = absurd (cc)

  spent_by_lock : (g : Grant) (s : State) → g ≡ ByLock → released g hold given s ≡ Outer → (s ≡ Told) × (hold ≤ given)
  spent_by_lock ForStep s e is = absurd (cc)
  spent_by_lock ByLock (Fresh task) e is = absurd (cc)
  spent_by_lock ByLock (Away aside) e is = absurd (cc)
  spent_by_lock ByLock (Rested p) e is = absurd (cc)
  spent_by_lock ByLock Told e is = let spent : nat_le hold given ≡ true = spent_by (nat_le hold given) is in (refl, grind (arith, nat_tests))

  in_aside : (g : Grant) (s : State) (a : Aside) → s ≡ Away a → (released g hold given s ≡ Inner) ⊎ (g ≡ ByLock)
  in_aside ForStep s a is = inl (rw is refl)
  in_aside ByLock s a is = inr refl

holds_by : (h : Holder) (t : Turn) → ((p : Progress) → t.next ≡ Rested p → (h.grant ≡ ForStep) × (h.hold ≤ length (all_entries t.parts))) → HoldsRightly h (sitting_of h t)
holds_by h t rest =
    let given = length (all_entries t.parts) in
    let same : length (all_entries (cut [] t.parts)) ≡ given = ap length (cut_entries [] t.parts) in
    record {
      for_step = λ e. record { inner = λ ne. inner_for_step h.hold given h.grant t.next e ne; outer = λ told. outer_for_step h.hold given h.grant t.next e told };
      by_lock = λ e. record {
        within = λ ne. kept_by_lock h.hold given h.grant t.next e ne;
        never_inner = λ is. never_inner_by_lock h.hold given h.grant t.next e is;
        spent = λ is. let both = spent_by_lock h.hold given h.grant t.next e is in let le = both.1 in (both.0, omega (arith, same, le));
        no_rest = λ p is. let other : h.grant ≡ ForStep = (rest p is).0 in absurd (cc);
      };
      aside = λ a is. in_aside h.hold given h.grant t.next a is;
      rest = λ p is. let le = (rest p is).1 in omega (arith, same, le);
    }

pub lock_is_held_rightly : LockIsHeldRightly
lock_is_held_rightly Q h s found =
    by_state (λ s. HoldsRightly h (sit Q h s found))
    (holds_by h (leaves Told) (λ p e. absurd (cc)))
    (λ s ne. holds_by h (turn h Q s found) (sat_at Q h s found ne).rest)
    s

-- BATCHES

pub batches_are_within_limits : BatchesAreWithinLimits
batches_are_within_limits Q h s found =
    by_state (λ s. All IsBatch (sit Q h s found).batches)
    (cut_limits [] tt)
    (λ s ne. cut_limits (turn h Q s found).parts (sat_at Q h s found ne).small)
    s

pub no_unit_is_split : NoUnitIsSplit
no_unit_is_split Q h s found =
    by_state (λ s. AreWholeParts (turn h Q s found).parts (sit Q h s found).batches)
    (cut_whole [] tt)
    (λ s ne. cut_whole (turn h Q s found).parts (small_some (turn h Q s found).parts (sat_at Q h s found ne).small))
    s

pub entries_are_given : EntriesAreGiven
entries_are_given Q h s found =
    by_state (λ s. given_in Q h.by h.step (commands_in (all_entries (sit Q h s found).batches)) ≡ all_entries (sit Q h s found).batches)
    refl
    (λ s ne. let r = sat_at Q h s found ne in given_again h.by h.step Q r.commands (all_entries (sit Q h s found).batches) (cut_entries [] (turn h Q s found).parts ∙ r.gave))
    s

-- UNITS AND THE END

pub no_unit_after_the_last : NoUnitAfterTheLast
no_unit_after_the_last Q h s found =
    by_state (λ s. PlaysUnits s (turn h Q s found).parts (sit Q h s found).next)
    (record { few = omega arith; same = λ ne. absurd (ne refl); grows = λ ne. absurd (ne refl) })
    (λ s ne. let r = sat_at Q h s found ne in record { few = r.few; same = r.same; grows = r.grows })
    s

pub lines_are_said_at_the_end : LinesAreSaidAtTheEnd
lines_are_said_at_the_end Q h s found =
    by_state (λ s. (s ≢ Told → (sit Q h s found).next ≡ Told → 1 ≤ length (sit Q h s found).lines) × ((sit Q h s found).next ≢ Told → (sit Q h s found).lines ≡ []))
    (λ ne. absurd (ne refl), λ ne. refl)
    (λ s ne. let r = sat_at Q h s found ne in (λ _. r.said, r.silent))
    s

some_of_task : (task : Task) → 1 ≤ sittings_most (Fresh task)
some_of_task (Give c) = omega arith
some_of_task (Deck fields text) = omega arith
some_of_task (Work n) = omega arith
some_of_task (Line l) = omega arith

some_of_aside : (a : Aside) → 1 ≤ sittings_most (Away a)
some_of_aside (SpoolDeck n text) = omega arith
some_of_aside (ReadText runs n fields p) = omega arith
some_of_aside (SpoolOutputs n specs p) = omega arith
some_of_aside (PrintLines n i last p) = omega arith
some_of_aside (Exchange l offer) = omega arith
some_of_aside (SpoolArrival number n text s) = omega arith
some_of_aside (Acknowledge number s) = omega arith

pub some_may_follow : (s : State) → s ≢ Told → 1 ≤ sittings_most s
some_may_follow (Fresh task) ne = some_of_task task
some_may_follow (Away aside) ne = some_of_aside aside
some_may_follow (Rested p) ne = omega arith
some_may_follow Told ne = absurd (ne refl)

pub steps_end : StepsEnd
steps_end Q h s found ne = let r = sat_at Q h s found ne in let le = r.within in let some = some_may_follow s ne in omega (arith, le, some)
