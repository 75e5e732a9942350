-- What a sitting of work may come to on every plant: how many batches, and which lines.
use Rattle.member_giving.proofs.Names.{◌≡◌, ℕ, zero, suc, ◌+◌, ◌*◌, ◌≤◌, Bool, true, false, List, [], ◌∷◌, ◌++◌, length, Option, Some, None, All, inl, inr, ap, refl, arith, IfSome, option_map_or, All-cons, All-nil, Command, JobNo, Job, OutSpec, Output, Entry, Queue, job_at, output_at, run, unit_of, test_cases, UnitEnd, end_by, cut, cut_after, is_full, sittings_most, are_refused, takes, closing_reply, ending, groups_for_end, printed_end, taking, SpoolOutputs, Found, Holder, Progress, State, Away, Rested, Told, Turn, Units, after_part, closes_as, ends_with, gives, goes_on, goes_on_by, groups_taken, is_spent, job_ends, leaves, next_unit, no_more, one_command, prints_output, reads_job, text_read, units_from, MayCloseBy, MayEndBy, MayRefuseBy, SaysAtEnd, WorkLines, IsWithin, MayStopBy, Wrote, after_full, bounds, full_of, unwritten, wrote_of, AreOf, given_of, Reply, last_part}
use Rattle.mas_types.specs.declared.answers.Closing.{Closing}
use Rattle.mas_types.specs.declared.jobs.JobFields.{JobFields}
use Rattle.mas_types.specs.declared.answers.Closing.TheVariants as closing
use Rattle.mas_types.specs.declared.commands.Command.TheVariants as command
use Rattle.mas_types.specs.declared.commands.Reply.TheVariants as reply
use Rattle.mas_types.specs.declared.units.Unit as work
use Rattle.mas_types.specs.declared.units.Unit.TheVariants as unit
use Rattle.job_outcome.specs.declared.outcomes.Outcome.{Outcome}
use Rattle.job_outcome.specs.declared.outcomes.Read.{Read}
use Rattle.job_outcome.specs.Meaning.{listed}
use Rattle.job_outcome.specs.Outcomes.{converted_as, outcome_of}
use Rattle.job_outcome.specs.declared.outcomes.Outcome.TheVariants as outcome
use Rattle.job_outcome.specs.declared.outcomes.Read.TheVariants as read
use Rattle.job_outcome.specs.declared.units.UnitEnd.TheVariants as ends

-- HOW MANY BATCHES

pub unwritten_one : (es : List Entry) → unwritten es ≤ 1
unwritten_one [] = omega arith
unwritten_one (e ∷ es) = omega arith

unwritten_full : (es : List Entry) → is_full es ≡ true → unwritten es ≡ 1
unwritten_full [] full = absurd (cc)
unwritten_full (e ∷ es) full = refl

-- each part gives one batch at most
pub cut_few : (es : List Entry) (parts : List (List Entry)) → length (cut es parts) ≤ unwritten es + length parts
cut_few es [] = omega arith
cut_few es (p ∷ parts) =
    test_cases (is_full (es ++ p)) (length (cut es (p ∷ parts)) ≤ unwritten es + length (p ∷ parts))
    (λ full. let rest = cut_few [] parts in rw full (omega (arith, rest)))
    (λ few. let rest = cut_few (es ++ p) parts in let one = unwritten_one (es ++ p) in rw few (omega (arith, rest, one)))

pub after_few : (es : List Entry) (parts : List (List Entry)) → length (cut_after es (λ more. cut more parts)) ≤ unwritten es + length parts
after_few es parts =
    test_cases (is_full es) (length (cut_after es (λ more. cut more parts)) ≤ unwritten es + length parts)
    (λ full. let rest = cut_few [] parts in let one = unwritten_full es full in rw full (omega (arith, rest, one)))
    (λ few. let rest = cut_few es parts in rw few rest)

-- what is full is written, or it isn't
pub full_few : (es : List Entry) → length (full_of es) + unwritten (after_full es) ≡ unwritten es
full_few es =
    test_cases (is_full es) (length (full_of es) + unwritten (after_full es) ≡ unwritten es)
    (λ full. let one = unwritten_full es full in rw full (omega (arith, one)))
    (λ few. rw few (omega arith))

-- so with what follows then
pub full_le : (es fs : List Entry) (x most : ℕ) → fs ≡ after_full es → x + 1 ≤ most → length (full_of es) + (x + unwritten fs) ≤ most
full_le es fs x most is le =
    let both = full_few es in
    let one = unwritten_one es in
    let same : unwritten fs ≡ unwritten (after_full es) = ap unwritten is in
    omega (arith, both, one, same, le)

-- HOW IT MAY CLOSE

-- as its last command was answered
pub reply_ends : (found : Found) (r : Reply) → MayEndBy found (end_by r)
reply_ends found reply.Plain = tt
reply_ends found _ = tt

-- by what was found

pub stops_by : (runs : Bool) (fields : JobFields) (found : Found) → MayStopBy found (outcome_of runs fields found.read)
stops_by runs fields found = by_read runs found.read refl where
  listed_as : (line : Option (List ℕ)) → MayStopBy found (converted_as fields line)
  listed_as None = tt
  listed_as (Some line) = tt

  by_read : (runs : Bool) (r : Read) → found.read ≡ r → MayStopBy found (outcome_of runs fields r)
  by_read true (read.Lines text) is = tt
  by_read false (read.Lines text) is = listed_as (listed fields text)
  by_read runs (read.Gone group) is = is
  by_read runs (read.Lost volume) is = inr is

pub prints_by : (found : Found) → IfSome (printed_end found.printer found.read) (MayRefuseBy found)
prints_by found = by_read found.printer found.read refl refl where
  by_read : (lost : Bool) (r : Read) → found.printer ≡ lost → found.read ≡ r → IfSome (printed_end lost r) (MayRefuseBy found)
  by_read lost (read.Gone group) printer is = is
  by_read lost (read.Lost volume) printer is = inr is
  by_read true (read.Lines lines) printer is = printer
  by_read false (read.Lines lines) printer is = tt

-- more units may be done
more_closings : (units more : ℕ) (found : Found) (end : Closing) → units ≤ more → MayCloseBy units found end → MayCloseBy more found end
more_closings units more found end le (inl done) = let few = done.1 in inl (done.0, omega (arith, le, few), done.2)
more_closings units more found end le (inr refused) = inr refused

-- THE TURN

module _ (h : Holder) (found : Found) where
  -- what is known of a turn: its parts are of the holder's step, and it comes to so much
  pub record TurnWithin (most units : ℕ) (t : Turn) : Type 0 where
    pub its : All (AreOf h.by h.step) t.parts
    pub few : length t.parts + sittings_most t.next ≤ most
    pub says : SaysAtEnd t.next (WorkLines h units found) t.lines

  closes_within : (most units : ℕ) (end : Closing) → MayCloseBy units found end → TurnWithin most units (closes_as h end)
  closes_within most units end may = record { its = All-nil (AreOf h.by h.step); few = omega arith; says = (end, refl, may) }

  done_within : (most units done : ℕ) → done ≤ units → TurnWithin most units (no_more h done)
  done_within most units done le = closes_within most units (closing.DoneUnits done) (inl (done, le, refl))

  waits_within : (most units : ℕ) (s : State) → sittings_most s ≤ most → SaysAtEnd s (WorkLines h units found) [] → TurnWithin most units (leaves s)
  waits_within most units s few says = record { its = All-nil (AreOf h.by h.step); few = omega (arith, few); says = says }

  part_within : (most units : ℕ) (Q : Queue) (cs : List Command) (t : Turn) → TurnWithin most units t → TurnWithin (most + 1) units (after_part (gives h Q cs) t)
  part_within most units Q cs t w = record { its = All-cons (AreOf h.by h.step) (gives h Q cs) t.parts (given_of h.by h.step cs Q) w.its; few = let few = w.few in omega (arith, few); says = w.says }

  more_within : (most least units : ℕ) (t : Turn) → least ≤ most → TurnWithin least units t → TurnWithin most units t
  more_within most least units t le w = record { its = w.its; few = let few = w.few in omega (arith, few, le); says = w.says }

  abbrev AllWithin : ℕ → Units → Type 0
  AllWithin left more = (most units : ℕ) (Q : Queue) (given done : ℕ) → done + left ≤ units → 3 * left + 1 ≤ most → TurnWithin most units (more Q given done)

  on_within : (left : ℕ) (more : Units) → AllWithin left more → AllWithin left (goes_on h left more)
  on_within zero more all most units Q given done few le = all most units Q given done few le
  on_within (suc left) more all most units Q given done few le =
      test_cases (is_spent h.grant h.hold given) (TurnWithin most units (goes_on h (suc left) more Q given done))
      (λ spent. rw spent (waits_within most units (Rested (record { done = done; left = suc left })) le refl))
      (λ on. rw on (all most units Q given done few le))

  by_within : (e : UnitEnd) → MayEndBy found e → (left : ℕ) (more : Units) → AllWithin left more → (most units : ℕ) (Q : Queue) (given done : ℕ) → done + 1 + left ≤ units → 3 * left + 1 ≤ most → TurnWithin most units (goes_on_by h e left more Q given done)
  by_within ends.Done may left more all most units Q given done few le = on_within left more all most units Q given (done + 1) few le
  by_within ends.Idle may left more all most units Q given done few le = done_within most units done (omega (arith, few))
  by_within (ends.Refused end) may left more all most units Q given done few le = closes_within most units end (inr may)

  last_within : (cs : List Command) (left : ℕ) (more : Units) → AllWithin left more → (most units : ℕ) (Q : Queue) (given done : ℕ) → done + suc left ≤ units → 3 * left + 2 ≤ most → TurnWithin most units (last_part h (gives h Q cs) left more Q given done)
  last_within cs left more all most units Q given done few le =
      let es = gives h Q cs in
      let r = closing_reply es in
      more_within most (3 * left + 1 + 1) units (last_part h es left more Q given done) (omega (arith, le))
      (part_within (3 * left + 1) units Q cs _ (by_within (end_by r) (reply_ends found r) left more all (3 * left + 1) units (run Q es) (given + length es) done (omega (arith, few)) (omega arith)))

  next_within : (u : work.Unit) (left : ℕ) (more : Units) → AllWithin left more → (most units : ℕ) (Q : Queue) (given done : ℕ) → done + suc left ≤ units → 3 * suc left + 1 ≤ most → TurnWithin most units (next_unit h u left more Q given done)
  next_within u left more all most units Q given done few le = by_unit u where
    none : TurnWithin most units (no_more h done)
    none = done_within most units done (omega (arith, few))

    one : (c : Command) → TurnWithin most units (one_command h c left more Q given done)
    one c = last_within (c ∷ []) left more all most units Q given done few (omega (arith, le))

    job : (runs : Bool) (o : Option Job) → TurnWithin most units (option_map_or (reads_job h runs left done) o (no_more h done))
    job runs None = none
    job runs (Some j) = waits_within most units (reads_job h runs left done j).next (omega (arith, le)) refl

    output : (o : Option Output) → TurnWithin most units (option_map_or (prints_output h Q left done) o (no_more h done))
    output None = none
    output (Some o) = waits_within most units (prints_output h Q left done o).next (omega (arith, le)) refl

    by_unit : (u : work.Unit) → TurnWithin most units (next_unit h u left more Q given done)
    by_unit (unit.Print n i) = output (output_at Q n i)
    by_unit (unit.Finish n i) = one (command.Done n i)
    by_unit unit.Pick = one command.Pick
    by_unit unit.Purge = one command.Purge
    by_unit unit.Gather = one command.Gather
    by_unit (unit.Run n) = job true (job_at Q n)
    by_unit (unit.Convert n) = job false (job_at Q n)
    by_unit unit.TakeExec = one command.TakeExec
    by_unit unit.TakeConvert = one command.TakeConvert
    by_unit unit.Idle = none

  -- units one after another
  units_within : (left : ℕ) → AllWithin left (units_from h left)
  units_within zero most units Q given done few le = done_within most units done (omega (arith, few))
  units_within (suc left) most units Q given done few le = next_within (unit_of Q h.by) left (units_from h left) (units_within left) most units Q given done few le

  -- what follows a unit
  pub goes_within : (e : UnitEnd) → MayEndBy found e → (most units left : ℕ) (Q : Queue) (given done : ℕ) → done + 1 + left ≤ units → 3 * left + 1 ≤ most → TurnWithin most units (goes_on_by h e left (units_from h left) Q given done)
  goes_within e may most units left Q given done few le = by_within e may left (units_from h left) (units_within left) most units Q given done few le

  -- what follows once a job's text was read
  module _ (most units : ℕ) (Q : Queue) (n : JobNo) (p : Progress) (few : p.done + 1 + p.left ≤ units) (le : 3 * p.left + 3 ≤ most) where
    ends_within : (cs : List Command) → TurnWithin most units (ends_with h (gives h Q cs) p Q)
    ends_within cs = last_within cs p.left (units_from h p.left) (units_within p.left) most units Q 0 p.done (omega (arith, few)) (omega (arith, le))

    taken_within : (refused : Bool) (needed : ℕ) (specs : List OutSpec) → TurnWithin most units (groups_taken h refused needed Q n specs p)
    taken_within true needed specs = ends_within (taking Q h.by needed)
    taken_within false needed specs =
        more_within most (3 * p.left + 2 + 1) units (groups_taken h false needed Q n specs p) (omega (arith, le))
        (part_within (3 * p.left + 2) units Q (takes needed Q h.by needed) _ (waits_within (3 * p.left + 2) units (Away (SpoolOutputs n specs p)) (omega arith) refl))

    job_within : (needed : ℕ) (specs : List OutSpec) → TurnWithin most units (job_ends h needed Q n specs p)
    job_within zero specs = ends_within (ending Q h.by n specs)
    job_within (suc needed) specs = taken_within (are_refused (suc needed) Q h.by (suc needed)) (suc needed) specs

    pub text_within : (o : Outcome) → MayStopBy found o → TurnWithin most units (text_read h o Q n p)
    text_within outcome.Convert may = ends_within (command.Converted n ∷ [])
    text_within (outcome.End specs) may = job_within (groups_for_end Q n specs) specs
    text_within (outcome.Stop end) may = closes_within most units end (inr may)

-- WHAT IT WRITES

module _ (h : Holder) (found : Found) (units : ℕ) where
  abbrev Within : ℕ → Wrote → Type 0
  Within most w = IsWithin h (bounds most units found) w

  -- these batches, so many more than the turn has parts
  pub wrote_within : (most more : ℕ) (ess : List (List Entry)) (t : Turn) (least : ℕ) → length ess ≤ more + length t.parts → least + more ≤ most → TurnWithin h found least units t → Within most (record { batches = ess; next = t.next; lines = t.lines })
  wrote_within most more ess t least all le w = record { few = let few = w.few in omega (arith, few, all, le); says = w.says }

  pub leave_within : (es : List Entry) (s : State) → (s ≡ Told → ⊥) → (most : ℕ) → sittings_most s + unwritten es ≤ most → Within most (wrote_of es (leaves s))
  leave_within es s goes most le = record { few = omega (arith, le); says = silent s goes } where
    silent : (s : State) → (s ≡ Told → ⊥) → SaysAtEnd s (WorkLines h units found) []
    silent Told goes = absurd (goes refl)
    silent _ goes = refl

-- bounds that leave more
pub more_wrote : (h : Holder) (found : Found) (most least units fewer : ℕ) (w : Wrote) → least ≤ most → fewer ≤ units → IsWithin h (bounds least fewer found) w → IsWithin h (bounds most units found) w
more_wrote h found most least units fewer w le less b = record { few = let few = b.few in omega (arith, few, le); says = more w.next b.says } where
  more : (s : State) → SaysAtEnd s (WorkLines h fewer found) w.lines → SaysAtEnd s (WorkLines h units found) w.lines
  more Told said = (said.0, said.1, more_closings fewer units found said.0 less said.2)
  more _ said = said
