-- What a course gives, sitting by sitting.
use Rattle.std.proofs.Common.{◌≡◌, ◌≢◌, ℕ, suc, ◌+◌, nat_le, Bool, true, false, if◌then◌else◌, List, [], ◌∷◌, ◌++◌, length, append-nil, refl, ap, ◌∙◌}
use Rattle.mas_types.specs.declared.answers.Closing.{Closing}
use Rattle.mas_types.specs.declared.commands.Reply.{Reply}
use Rattle.mas_types.specs.declared.commands.Reply.TheVariants as reply
use Rattle.mas_types.specs.declared.ids.MemberId.{MemberId}
use Rattle.mas_types.specs.declared.journals.Entry.{Entry}
use Rattle.mas_types.specs.declared.queues.Config.{Config}
use Rattle.mas_types.specs.declared.queues.Queue.{Queue}
use Rattle.mas_types.specs.Closings.{closing_line}
use Rattle.mas_types.specs.Run.{run}
use Rattle.queue_laws.proofs.Finds.{test_cases}
use Rattle.queue_laws.proofs.RunLaws.{runs_keep_configuration}
use Rattle.job_outcome.specs.declared.units.UnitEnd.{UnitEnd}
use Rattle.job_outcome.specs.declared.units.UnitEnd.TheVariants as ends
use Rattle.job_outcome.specs.Next.{end_by}
use Rattle.member_work.specs.Units.{UnitPlay}
use Rattle.member_work.specs.Work.{Round, batches_in, closing_behind, closing_by, is_due, parts_of, round_play, rounds_by, written}
use Rattle.step_turns.specs.Batches.{batch_of, cut, is_full}
use Rattle.step_turns.specs.Courses.{Course, Finds, course_of, hold_then, holder_then, sittings}
use Rattle.step_turns.specs.Entries.{all_entries}
use Rattle.step_turns.specs.declared.states.Grant.{Grant}
use Rattle.step_turns.specs.declared.states.Holder.{Holder}
use Rattle.step_turns.specs.declared.states.State.{State}
use Rattle.step_turns.specs.declared.states.Grant.TheVariants.{ForStep}
use Rattle.step_turns.specs.declared.states.State.TheVariants.{Told}
use Rattle.step_turns.specs.Turns.{Turn, after_part, closes_as, turn}
use Rattle.step_turns.proofs.Cutting.{cut_entries}
use Rattle.step_turns.proofs.Endings.{told_gives_none}
use Rattle.step_turns.proofs.Given.{run_append}

-- a batch, where there is something to write, before those of a course
abbrev pub written_first : List Entry → Course → Course
written_first es c = record { batches = batch_of es ++ c.batches; lines = c.lines }

-- BATCHES OF WHAT IS WRITTEN

-- batches of which the first part is perhaps empty
pub batches_first : (es : List Entry) (ess : List (List Entry)) → batches_in (es ∷ ess) ≡ batch_of es ++ batches_in ess
batches_first [] ess = refl
batches_first (e ∷ es) ess = refl

-- a full batch has entries
pub full_batch : (es : List Entry) → is_full es ≡ true → es ∷ [] ≡ batch_of es
full_batch [] full = absurd (cc)
full_batch (e ∷ es) full = refl

pub cut_last : (so_far es : List Entry) → cut so_far (es ∷ []) ≡ batch_of (so_far ++ es)
cut_last so_far es =
    test_cases (is_full (so_far ++ es)) (cut so_far (es ∷ []) ≡ batch_of (so_far ++ es))
    (λ e. rw e (full_batch (so_far ++ es) e))
    (λ e. rw e refl)

-- WHAT WORK WRITES

module _ (by : MemberId) (at hold : ℕ) where
  -- the parts of a unit that ended so, and those of the units after it
  abbrev parts_by : UnitEnd → List (List Entry) → List (List (List Entry)) → List (List (List Entry))
  parts_by ends.Done parts more = parts ∷ more
  parts_by ends.Idle parts more = []
  parts_by (ends.Refused end) parts more = parts ∷ []

  -- After so much that isn't written, so many commands, and so many units: what a unit and those after it give.
  abbrev pub works_by : ℕ → List Entry → ℕ → UnitPlay → List Round → Course
  works_by given so_far done play rs = record {
    batches = batches_in (written hold given so_far (parts_by play.ends play.parts (parts_of by at rs)));
    lines = closing_line by at (closing_by play.ends done (closing_behind by at (done + 1) rs)) ∷ [];
  }

  abbrev pub works : ℕ → List Entry → ℕ → List Round → Course
  works given so_far done rs = record {
    batches = batches_in (written hold given so_far (parts_of by at rs));
    lines = closing_line by at (closing_behind by at done rs) ∷ [];
  }

  parts_first : (end : UnitEnd) (r : Round) (rs : List Round) → parts_of by at (rounds_by end r rs) ≡ parts_by end (round_play by at r).parts (parts_of by at rs)
  parts_first ends.Done r rs = refl
  parts_first ends.Idle r rs = refl
  parts_first (ends.Refused end) r rs = refl

  closing_first : (end : UnitEnd) (r : Round) (rs : List Round) (k : ℕ) → (round_play by at r).ends ≡ end → closing_behind by at k (rounds_by end r rs) ≡ closing_by end k (closing_behind by at (k + 1) rs)
  closing_first ends.Done r rs k e = ap (λ (w : UnitEnd). closing_by w k (closing_behind by at (k + 1) rs)) e
  closing_first ends.Idle r rs k e = refl
  closing_first (ends.Refused end) r rs k e = ap (λ (w : UnitEnd). closing_by w k (closing_behind by at (k + 1) [])) e

  pub works_first : (given : ℕ) (so_far : List Entry) (done : ℕ) (r : Round) (rs : List Round) → works given so_far done (rounds_by (round_play by at r).ends r rs) ≡ works_by given so_far done (round_play by at r) rs
  works_first given so_far done r rs =
      let parts = parts_first (round_play by at r).ends r rs in
      let end = closing_first (round_play by at r).ends r rs done refl in
      ap (λ (ps : List (List (List Entry))). record { batches = batches_in (written hold given so_far ps); lines = closing_line by at (closing_behind by at done (rounds_by (round_play by at r).ends r rs)) ∷ [] }) parts
      ∙ ap (λ (c : Closing). record { batches = batches_in (written hold given so_far (parts_by (round_play by at r).ends (round_play by at r).parts (parts_of by at rs))); lines = closing_line by at c ∷ [] }) end

  -- a first part of a unit is written before the acts after it
  pub works_part : (given : ℕ) (so_far : List Entry) (done : ℕ) (es q : List Entry) (qs : List (List Entry)) (e : UnitEnd) (rs : List Round) → e ≢ ends.Idle
      → works_by given so_far done (record { parts = es ∷ q ∷ qs; ends = e }) rs ≡ written_first (so_far ++ es) (works_by 0 [] done (record { parts = q ∷ qs; ends = e }) rs)
  works_part given so_far done es q qs ends.Done rs ne = ap (λ (bs : List (List Entry)). record { batches = bs; lines = closing_line by at (closing_behind by at (done + 1) rs) ∷ [] }) (batches_first (so_far ++ es) (written hold 0 [] ((q ∷ qs) ∷ parts_of by at rs)))
  works_part given so_far done es q qs ends.Idle rs ne = absurd (ne refl)
  works_part given so_far done es q qs (ends.Refused end) rs ne = ap (λ (bs : List (List Entry)). record { batches = bs; lines = closing_line by at end ∷ [] }) (batches_first (so_far ++ es) (written hold 0 [] ((q ∷ qs) ∷ [])))

  -- where nothing comes after a last part, it is written once
  written_last : (due : Bool) (es : List Entry) → batches_in ((if due then es ∷ [] else []) ++ (if due then [] else es) ∷ []) ≡ batch_of es ++ []
  written_last true es = batches_first es ([] ∷ [])
  written_last false es = batches_first es []

  pub works_last : (given : ℕ) (so_far es : List Entry) → batches_in (written hold given so_far ((es ∷ []) ∷ [])) ≡ batch_of (so_far ++ es) ++ []
  works_last given so_far es = written_last (is_due hold (given + length es) (so_far ++ es)) (so_far ++ es)

  -- A last part of a unit that is done, where more follow: the hold is spent, or the batch is full, or neither.
  module _ (given : ℕ) (so_far : List Entry) (done : ℕ) (es : List Entry) (rs : List Round) where
    abbrev this : UnitPlay
    this = record { parts = es ∷ []; ends = ends.Done }

    abbrev more_lines : List (List ℕ)
    more_lines = closing_line by at (closing_behind by at (done + 1) rs) ∷ []

    pub works_spent : nat_le hold (given + length es) ≡ true → works_by given so_far done this rs ≡ written_first (so_far ++ es) (works 0 [] (done + 1) rs)
    works_spent e = rw e (ap (λ (bs : List (List Entry)). record { batches = bs; lines = more_lines }) (batches_first (so_far ++ es) (written hold 0 [] (parts_of by at rs))))

    pub works_full : nat_le hold (given + length es) ≡ false → is_full (so_far ++ es) ≡ true → works_by given so_far done this rs ≡ written_first (so_far ++ es) (works (given + length es) [] (done + 1) rs)
    works_full e f = rw (e, f) (ap (λ (bs : List (List Entry)). record { batches = bs; lines = more_lines }) (batches_first (so_far ++ es) (written hold (given + length es) [] (parts_of by at rs))))

    pub works_on : nat_le hold (given + length es) ≡ false → is_full (so_far ++ es) ≡ false → works_by given so_far done this rs ≡ works (given + length es) (so_far ++ es) (done + 1) rs
    works_on e f = rw (e, f) refl

-- a unit of commands is done or refused
pub not_idle : (r : Reply) → end_by r ≢ ends.Idle
not_idle reply.Plain e = absurd (cc)
not_idle (reply.Job n) e = absurd (cc)
not_idle (reply.Output n i) e = absurd (cc)
not_idle (reply.Count n) e = absurd (cc)
not_idle (reply.Shown lines) e = absurd (cc)
not_idle (reply.No why) e = absurd (cc)

-- COURSES OF TURNS

module _ (finds : Finds) (h : Holder) where
  -- what a step gives from a state on
  abbrev pub later : ℕ → Queue → State → Course
  later n Q s = course_of (sittings n finds Q h s)

  -- a sitting under way, after so much that isn't written, and those after it
  abbrev pub finishes : ℕ → Queue → List Entry → Turn → Course
  finishes n Q so_far t = record {
    batches = cut so_far t.parts ++ (later n (run Q (all_entries t.parts)) t.next).batches;
    lines = t.lines ++ (later n (run Q (all_entries t.parts)) t.next).lines;
  }

  -- the configuration stays
  pub keeps_hold : (Q : Queue) (es : List Entry) → Q.config.hold ≡ h.hold → (run Q es).config.hold ≡ h.hold
  keeps_hold Q es whole = ap (λ (c : Config). c.hold) (runs_keep_configuration Q es).config ∙ whole

  module _ (for_step : h.grant ≡ ForStep) where
    same_holder : (Q : Queue) (es : List Entry) → Q.config.hold ≡ h.hold → holder_then Q h es ≡ h
    same_holder Q es whole = ap (λ (g : Grant). record h { hold = hold_then g Q.config.hold h.hold (length es) }) for_step ∙ ap (λ (hold : ℕ). record h { hold = hold }) whole

    -- one sitting, and the rest
    pub one_sitting : (n : ℕ) (Q : Queue) (s : State) → Q.config.hold ≡ h.hold → later (suc n) Q s ≡ finishes n Q [] (turn h Q s (finds Q s))
    one_sitting n Q s whole =
        let t = turn h Q s (finds Q s) in
        let es = all_entries (cut [] t.parts) in
        let rest : (k : Holder) (fs : List Entry) → Course = λ k fs. (let c = course_of (sittings n finds (run Q fs) k t.next) in record { batches = cut [] t.parts ++ c.batches; lines = t.lines ++ c.lines }) in
        ap (λ (k : Holder). rest k es) (same_holder Q es whole) ∙ ap (rest h) (cut_entries [] t.parts)

    -- a part of a sitting, and what comes after it
    pub finishes_part : (n : ℕ) (Q : Queue) (so_far es : List Entry) (t : Turn)
        → finishes n Q so_far (after_part es t) ≡ (if is_full (so_far ++ es) then written_first (so_far ++ es) (finishes n (run Q es) [] t) else finishes n (run Q es) (so_far ++ es) t)
    finishes_part n Q so_far es t =
        let after : (Q' : Queue) (bs : List (List Entry)) → Course = λ Q' bs. (let c = later n Q' t.next in record { batches = bs ++ c.batches; lines = t.lines ++ c.lines }) in
        ap (λ (Q' : Queue). after Q' (cut so_far (es ∷ t.parts))) (run_append Q es (all_entries t.parts))
        ∙ test_cases (is_full (so_far ++ es)) (after (run (run Q es) (all_entries t.parts)) (cut so_far (es ∷ t.parts)) ≡ (if is_full (so_far ++ es) then written_first (so_far ++ es) (finishes n (run Q es) [] t) else finishes n (run Q es) (so_far ++ es) t))
        (λ e. rw e (ap (λ (first : List (List Entry)). record { batches = first ++ (finishes n (run Q es) [] t).batches; lines = (finishes n (run Q es) [] t).lines }) (full_batch (so_far ++ es) e)))
        (λ e. rw e refl)

    -- what a sitting that ends after a last part finishes with
    pub finishes_last : (n : ℕ) (Q : Queue) (so_far es : List Entry) (s : State) (lines : List (List ℕ))
        → finishes n Q so_far (record { parts = es ∷ []; next = s; lines = lines }) ≡ record { batches = batch_of (so_far ++ es) ++ (later n (run Q es) s).batches; lines = lines ++ (later n (run Q es) s).lines }
    finishes_last n Q so_far es s lines =
        let after : (Q' : Queue) (bs : List (List Entry)) → Course = λ Q' bs. (let c = later n Q' s in record { batches = bs ++ c.batches; lines = lines ++ c.lines }) in
        ap (after (run Q (es ++ []))) (cut_last so_far es) ∙ ap (λ (fs : List Entry). after (run Q fs) (batch_of (so_far ++ es))) (append-nil es)

    pub finishes_closed : (n : ℕ) (Q : Queue) (so_far : List Entry) (end : Closing) → finishes n Q so_far (closes_as h end) ≡ record { batches = batch_of so_far ++ []; lines = closing_line h.by h.step end ∷ [] }
    finishes_closed n Q so_far end = ap (λ (c : Course). record { batches = batch_of so_far ++ c.batches; lines = closing_line h.by h.step end ∷ c.lines }) (told_gives_none finds n Q h)

    pub finishes_part_closed : (n : ℕ) (Q : Queue) (so_far es : List Entry) (end : Closing) → finishes n Q so_far (after_part es (closes_as h end)) ≡ record { batches = batch_of (so_far ++ es) ++ []; lines = closing_line h.by h.step end ∷ [] }
    finishes_part_closed n Q so_far es end =
        finishes_last n Q so_far es Told (closing_line h.by h.step end ∷ [])
        ∙ ap (λ (c : Course). record { batches = batch_of (so_far ++ es) ++ c.batches; lines = closing_line h.by h.step end ∷ c.lines }) (told_gives_none finds n (run Q es) h)
