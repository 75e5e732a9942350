-- So many sittings as a step may have are enough.
use Rattle.std.proofs.Common.{◌≡◌, ℕ, zero, suc, ◌+◌, ◌≤◌, [], ◌++◌, refl, sym, ap, ◌∙◌, arith}
use Rattle.mas_types.specs.declared.queues.Queue.{Queue}
use Rattle.mas_types.specs.Run.{run}
use Rattle.step_turns.specs.Courses.{Course, Finds, course_of, holder_then, sittings, sittings_most, task_most}
use Rattle.step_turns.specs.Entries.{all_entries}
use Rattle.step_turns.specs.Laws.{CoursesEnd}
use Rattle.step_turns.specs.Sittings.{Sitting, sit}
use Rattle.step_turns.specs.States.{Fresh, Holder, State, Told}
use Rattle.step_turns.proofs.Sittings.{by_state, some_may_follow, steps_end}

module _ (finds : Finds) where
  abbrev none : Course
  none = record { batches = []; lines = [] }

  -- after a step's end nothing is given
  pub told_gives_none : (k : ℕ) (Q : Queue) (h : Holder) → course_of (sittings k finds Q h Told) ≡ none
  told_gives_none zero Q h = refl
  told_gives_none (suc k) Q h = told_gives_none k Q (holder_then Q h [])

  -- the first sitting, and those after it
  abbrev after : Sitting → Course → Course
  after t rest = record { batches = t.batches ++ rest.batches; lines = t.lines ++ rest.lines }

  abbrev Alike : ℕ → ℕ → Queue → Holder → State → Type 0
  Alike k n Q h s = course_of (sittings k finds Q h s) ≡ course_of (sittings n finds Q h s)

  pub enough : (k n : ℕ) (Q : Queue) (h : Holder) (s : State) → sittings_most s ≤ k → sittings_most s ≤ n → Alike k n Q h s
  enough zero n Q h s less more =
      by_state (λ s. sittings_most s ≤ 0 → Alike 0 n Q h s) (λ le. sym (told_gives_none n Q h)) (λ s ne le. let some = some_may_follow s ne in absurd (omega (arith, some, le))) s less
  enough (suc k) zero Q h s less more =
      by_state (λ s. sittings_most s ≤ 0 → Alike (suc k) 0 Q h s) (λ le. told_gives_none (suc k) Q h) (λ s ne le. let some = some_may_follow s ne in absurd (omega (arith, some, le))) s more
  enough (suc k) (suc n) Q h s less more =
      by_state (λ s. sittings_most s ≤ suc k → sittings_most s ≤ suc n → Alike (suc k) (suc n) Q h s)
      (λ le le'. told_gives_none (suc k) Q h ∙ sym (told_gives_none (suc n) Q h))
      (λ s ne le le'.
      let t = sit Q h s (finds Q s) in
      let es = all_entries t.batches in
      let fewer = steps_end Q h s (finds Q s) ne in
      ap (after t) (enough k n (run Q es) (holder_then Q h es) t.next (omega (arith, fewer, le)) (omega (arith, fewer, le'))))
      s less more

pub courses_end : CoursesEnd
courses_end finds Q h task more = enough finds (task_most task + more) (task_most task) Q h (Fresh task) (omega arith) (omega arith)
