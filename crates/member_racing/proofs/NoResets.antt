-- A sitting of a deck, of work, or after acts of one gives no reset.
use Rattle.std.proofs.Common.{◌≡◌, ◌∙◌, ℕ, zero, suc, ◌+◌, Bool, true, false, if◌then◌else◌, List, [], ◌∷◌, ◌++◌, length, Option, None, Some, All, refl, sym}
use Rattle.std.proofs.lemmas.List.Elements.{All-append, All-cons, All-head, All-nil, All-tail}
use Rattle.std.specs.Option.{option_map_or}
use Rattle.mas_types.specs.declared.commands.Command.{Command}
use Rattle.mas_types.specs.declared.commands.Command.TheVariants as command
use Rattle.mas_types.specs.declared.commands.Reply.{Reply}
use Rattle.mas_types.specs.declared.commands.Reply.TheVariants as reply
use Rattle.mas_types.specs.declared.ids.JobNo.{JobNo}
use Rattle.mas_types.specs.declared.ids.MemberId.{MemberId}
use Rattle.mas_types.specs.declared.ids.OutNo.{OutNo}
use Rattle.mas_types.specs.declared.answers.Closing.{Closing}
use Rattle.mas_types.specs.declared.answers.Closing.TheVariants as closing
use Rattle.mas_types.specs.declared.jobs.Job.{Job}
use Rattle.mas_types.specs.declared.jobs.JobFields.{JobFields}
use Rattle.mas_types.specs.declared.jobs.Output.{Output}
use Rattle.mas_types.specs.declared.jobs.OutSpec.{OutSpec}
use Rattle.mas_types.specs.declared.journals.Entry.{Entry}
use Rattle.mas_types.specs.declared.queues.Queue.{Queue}
use Rattle.mas_types.specs.declared.units.Unit as units
use Rattle.mas_types.specs.declared.units.Unit.TheVariants as unit
use Rattle.mas_types.specs.Owners.{groups_needed}
use Rattle.mas_types.specs.Queue.{job_at, output_at}
use Rattle.mas_types.specs.Run.{run}
use Rattle.mas_types.specs.Step.{step}
use Rattle.mas_types.specs.Units.{unit_of}
use Rattle.lock_cycle.specs.Books.{Book}
use Rattle.queue_laws.specs.Laws.{is_refusal, resets}
use Rattle.queue_laws.proofs.Finds.{test_cases}
use Rattle.gate_turns.specs.Actors.{ResetsStopped}
use Rattle.job_outcome.specs.declared.outcomes.Outcome.{Outcome}
use Rattle.job_outcome.specs.declared.outcomes.Outcome.TheVariants as outcome
use Rattle.job_outcome.specs.declared.units.UnitEnd.{UnitEnd}
use Rattle.job_outcome.specs.declared.units.UnitEnd.TheVariants as ends
use Rattle.job_outcome.specs.Next.{end_by}
use Rattle.job_outcome.specs.Outcomes.{outcome_of}
use Rattle.step_turns.specs.Batches.{batch_of, cut, is_full}
use Rattle.step_turns.specs.Decks.{after_begin, are_refused, finishing, job_opened, left_after, opening, takes}
use Rattle.step_turns.specs.Entries.{closing_reply, given_in, reply_to}
use Rattle.step_turns.specs.JobEnds.{drop_groups, ending, groups_for_end, printed_end, taking}
use Rattle.step_turns.specs.Laws.{on_line}
use Rattle.step_turns.specs.Sittings.{sit}
use Rattle.step_turns.specs.declared.states.Aside.TheVariants.{Acknowledge, Exchange, PrintLines, ReadText, SpoolArrival, SpoolDeck, SpoolOutputs}
use Rattle.step_turns.specs.declared.states.Found.{Found}
use Rattle.step_turns.specs.declared.states.Holder.{Holder}
use Rattle.step_turns.specs.declared.states.Progress.{Progress}
use Rattle.step_turns.specs.declared.states.State.{State}
use Rattle.step_turns.specs.declared.states.State.TheVariants.{Away, Fresh, Rested, Told}
use Rattle.step_turns.specs.declared.states.Task.TheVariants.{Deck, Give, Line, Work}
use Rattle.step_turns.specs.Turns.{Turn, Units, after_part, closes_as, deck_opens, goes_on, goes_on_by, groups_taken, is_spent, job_ends, lines_printed, next_unit, one_command, outputs_stand, prints_output, reads_job, text_read, turn, units_from}

-- it resets no member
abbrev pub IsNoReset : Command → Type 0
IsNoReset c = (m : MemberId) → resets m c ≡ false

abbrev pub AreNoResets : List Entry → Type 0
AreNoResets es = All (λ (e : Entry). IsNoReset e.command) es

pub only_stopped : (b : Book) (c : Command) → IsNoReset c → ResetsStopped b c
only_stopped b c spared m is = absurd (let bad : true ≡ false = sym is ∙ spared m in cc)

-- COMMANDS

each_given : (by : MemberId) (at : ℕ) (cs : List Command) (Q : Queue) → All IsNoReset cs → AreNoResets (given_in Q by at cs)
each_given by at [] Q none = All-nil (λ (e : Entry). IsNoReset e.command)
each_given by at (c ∷ cs) Q none =
    All-cons (λ (e : Entry). IsNoReset e.command) (record { by = by; step = at; command = c; reply = reply_to Q by c }) (given_in (step Q by c).0 by at cs) (All-head IsNoReset c cs none)
    (each_given by at cs (step Q by c).0 (All-tail IsNoReset c cs none))

one_given : (c : Command) → IsNoReset c → All IsNoReset (c ∷ [])
one_given c spared = All-cons IsNoReset c [] spared (All-nil IsNoReset)

-- what is taken after a first Take
more_none : (o : Option ℕ) (rest : ℕ → List Command) → ((left : ℕ) → All IsNoReset (rest left)) → All IsNoReset (option_map_or rest o [])
more_none None rest each = All-nil IsNoReset
more_none (Some left) rest each = each left

pub takes_none : (times : ℕ) (Q : Queue) (by : MemberId) (missing : ℕ) → All IsNoReset (takes times Q by missing)
takes_none zero Q by missing = All-nil IsNoReset
takes_none (suc times) Q by zero = All-nil IsNoReset
takes_none (suc times) Q by (suc missing) =
    let c = command.Take (suc missing) in
    All-cons IsNoReset c (option_map_or (λ left. takes times (step Q by c).0 by left) (left_after (suc missing) (step Q by c).1) []) (λ m. refl)
    (more_none (left_after (suc missing) (step Q by c).1) (λ left. takes times (step Q by c).0 by left) (λ left. takes_none times (step Q by c).0 by left))

-- a command more, or none
either_none : (b : Bool) (c : Command) → IsNoReset c → All IsNoReset (if b then c ∷ [] else [])
either_none true c spared = one_given c spared
either_none false c spared = All-nil IsNoReset

taking_none : (Q : Queue) (by : MemberId) (needed : ℕ) → All IsNoReset (taking Q by needed)
taking_none Q by needed = All-append IsNoReset (takes needed Q by needed) (if are_refused needed Q by needed then drop_groups ∷ [] else []) (takes_none needed Q by needed) (either_none (are_refused needed Q by needed) drop_groups (λ m. refl))

ending_none : (Q : Queue) (by : MemberId) (n : JobNo) (specs : List OutSpec) → All IsNoReset (ending Q by n specs)
ending_none Q by n specs =
    let c = command.Ended n specs in
    All-cons IsNoReset c (if is_refusal (reply_to Q by c) then drop_groups ∷ [] else []) (λ m. refl) (either_none (is_refusal (reply_to Q by c)) drop_groups (λ m. refl))

begun_none : (Q : Queue) (by : MemberId) (groups : ℕ) (r : Reply) → All IsNoReset (after_begin Q by groups r)
begun_none Q by groups (reply.Job n) =
    All-append IsNoReset (takes groups Q by groups) (if are_refused groups Q by groups then command.Drop n ∷ [] else []) (takes_none groups Q by groups) (either_none (are_refused groups Q by groups) (command.Drop n) (λ m. refl))
begun_none Q by groups reply.Plain = All-nil IsNoReset
begun_none Q by groups (reply.Output n i) = All-nil IsNoReset
begun_none Q by groups (reply.Count n) = All-nil IsNoReset
begun_none Q by groups (reply.Shown lines) = All-nil IsNoReset
begun_none Q by groups (reply.No why) = All-nil IsNoReset

opening_none : (Q : Queue) (by : MemberId) (fields : JobFields) (groups : ℕ) → All IsNoReset (opening Q by fields groups)
opening_none Q by fields groups =
    let c = command.Begin fields in
    All-cons IsNoReset c (after_begin (step Q by c).0 by groups (step Q by c).1) (λ m. refl) (begun_none (step Q by c).0 by groups (step Q by c).1)

finishing_none : (lost : Option ℕ) (n : JobNo) (text : List (List ℕ)) → IsNoReset (finishing lost n text)
finishing_none None n text = λ m. refl
finishing_none (Some volume) n text = λ m. refl

-- PARTS OF A TURN

module _ (h : Holder) where
  abbrev Parts : Turn → Type 0
  Parts t = All AreNoResets t.parts

  none_parts : All AreNoResets []
  none_parts = All-nil AreNoResets

  given : (Q : Queue) (cs : List Command) → All IsNoReset cs → AreNoResets (given_in Q h.by h.step cs)
  given Q cs none = each_given h.by h.step cs Q none

  part : (es : List Entry) (t : Turn) → AreNoResets es → Parts t → Parts (after_part es t)
  part es t spared rest = All-cons AreNoResets es t.parts spared rest

  abbrev All_units : Units → Type 0
  All_units more = (Q : Queue) (given done : ℕ) → Parts (more Q given done)

  goes_on_none : (left : ℕ) (more : Units) → All_units more → All_units (goes_on h left more)
  goes_on_none zero more spared Q given done = spared Q given done
  goes_on_none (suc left) more spared Q given done =
      test_cases (is_spent h.grant h.hold given) (Parts (goes_on h (suc left) more Q given done))
      (λ spent. rw spent none_parts)
      (λ on. rw on (spared Q given done))

  goes_by_none : (e : UnitEnd) (left : ℕ) (more : Units) → All_units more → All_units (goes_on_by h e left more)
  goes_by_none ends.Done left more spared Q given done = goes_on_none left more spared Q given (done + 1)
  goes_by_none ends.Idle left more spared Q given done = none_parts
  goes_by_none (ends.Refused end) left more spared Q given done = none_parts

  one_none : (c : Command) → IsNoReset c → (left : ℕ) (more : Units) → All_units more → All_units (one_command h c left more)
  one_none c is left more spared Q count done =
      let es = given_in Q h.by h.step (c ∷ []) in
      part es (goes_on_by h (end_by (closing_reply es)) left more (run Q es) (count + length es) done) (given Q (c ∷ []) (one_given c is)) (goes_by_none (end_by (closing_reply es)) left more spared (run Q es) (count + length es) done)

  read_none : (runs : Bool) (left done : ℕ) (o : Option Job) → Parts (option_map_or (reads_job h runs left done) o (closes_as h (closing.DoneUnits done)))
  read_none runs left done None = none_parts
  read_none runs left done (Some j) = none_parts

  print_none : (Q : Queue) (left done : ℕ) (o : Option Output) → Parts (option_map_or (prints_output h Q left done) o (closes_as h (closing.DoneUnits done)))
  print_none Q left done None = none_parts
  print_none Q left done (Some o) = none_parts

  next_none : (u : units.Unit) (left : ℕ) (more : Units) → All_units more → All_units (next_unit h u left more)
  next_none (unit.Print n i) left more spared Q given done = print_none Q left done (output_at Q n i)
  next_none (unit.Finish n i) left more spared Q given done = one_none (command.Done n i) (λ m. refl) left more spared Q given done
  next_none unit.Pick left more spared Q given done = one_none command.Pick (λ m. refl) left more spared Q given done
  next_none unit.Purge left more spared Q given done = one_none command.Purge (λ m. refl) left more spared Q given done
  next_none unit.Gather left more spared Q given done = one_none command.Gather (λ m. refl) left more spared Q given done
  next_none (unit.Run n) left more spared Q given done = read_none true left done (job_at Q n)
  next_none (unit.Convert n) left more spared Q given done = read_none false left done (job_at Q n)
  next_none unit.TakeExec left more spared Q given done = one_none command.TakeExec (λ m. refl) left more spared Q given done
  next_none unit.TakeConvert left more spared Q given done = one_none command.TakeConvert (λ m. refl) left more spared Q given done
  next_none unit.Idle left more spared Q given done = none_parts

  units_none : (left : ℕ) (Q : Queue) (given done : ℕ) → Parts (units_from h left Q given done)
  units_none zero Q given done = none_parts
  units_none (suc left) Q given done = next_none (unit_of Q h.by) left (units_from h left) (units_none left) Q given done

  last_none : (Q : Queue) (cs : List Command) (e : UnitEnd) (left count done : ℕ) → All IsNoReset cs → Parts (after_part (given_in Q h.by h.step cs) (goes_on_by h e left (units_from h left) (run Q (given_in Q h.by h.step cs)) count done))
  last_none Q cs e left count done none =
      let es = given_in Q h.by h.step cs in
      part es (goes_on_by h e left (units_from h left) (run Q es) count done) (given Q cs none) (goes_by_none e left (units_from h left) (units_none left) (run Q es) count done)

  stand_none : (lost : Option ℕ) (Q : Queue) (n : JobNo) (specs : List OutSpec) (p : Progress) → Parts (outputs_stand h lost Q n specs p)
  stand_none None Q n specs p = let es = given_in Q h.by h.step (ending Q h.by n specs) in last_none Q (ending Q h.by n specs) (end_by (closing_reply es)) p.left (0 + length es) p.done (ending_none Q h.by n specs)
  stand_none (Some volume) Q n specs p = part (given_in Q h.by h.step (drop_groups ∷ [])) (closes_as h (closing.SpoolLost volume)) (given Q (drop_groups ∷ []) (one_given drop_groups (λ m. refl))) none_parts

  taken_none : (refused : Bool) (needed : ℕ) (Q : Queue) (n : JobNo) (specs : List OutSpec) (p : Progress) → Parts (groups_taken h refused needed Q n specs p)
  taken_none true needed Q n specs p = let es = given_in Q h.by h.step (taking Q h.by needed) in last_none Q (taking Q h.by needed) (end_by (closing_reply es)) p.left (0 + length es) p.done (taking_none Q h.by needed)
  taken_none false needed Q n specs p = All-cons AreNoResets (given_in Q h.by h.step (takes needed Q h.by needed)) [] (given Q (takes needed Q h.by needed) (takes_none needed Q h.by needed)) none_parts

  end_none : (needed : ℕ) (Q : Queue) (n : JobNo) (specs : List OutSpec) (p : Progress) → Parts (job_ends h needed Q n specs p)
  end_none zero Q n specs p = stand_none None Q n specs p
  end_none (suc needed) Q n specs p = taken_none (are_refused (suc needed) Q h.by (suc needed)) (suc needed) Q n specs p

  text_none : (o : Outcome) (Q : Queue) (n : JobNo) (p : Progress) → Parts (text_read h o Q n p)
  text_none outcome.Convert Q n p =
      let es = given_in Q h.by h.step (command.Converted n ∷ []) in
      last_none Q (command.Converted n ∷ []) (end_by (closing_reply es)) p.left (0 + length es) p.done (one_given (command.Converted n) (λ m. refl))
  text_none (outcome.End specs) Q n p = end_none (groups_for_end Q n specs) Q n specs p
  text_none (outcome.Stop end) Q n p = none_parts

  lines_none : (o : Option Closing) (Q : Queue) (n : JobNo) (i : OutNo) (last : ℕ) (p : Progress) → Parts (lines_printed h o Q n i last p)
  lines_none None Q n i last p =
      let es = given_in Q h.by h.step (command.Mark n i last ∷ []) in
      last_none Q (command.Mark n i last ∷ []) (end_by (closing_reply es)) p.left (0 + length es) p.done (one_given (command.Mark n i last) (λ m. refl))
  lines_none (Some end) Q n i last p = none_parts

  opens_none : (o : Option JobNo) (es : List Entry) (text : List (List ℕ)) → AreNoResets es → Parts (deck_opens h o es text)
  opens_none None es text spared = All-cons AreNoResets es [] spared none_parts
  opens_none (Some n) es text spared = All-cons AreNoResets es [] spared none_parts

  turn_none : (Q : Queue) (s : State) (found : Found) → on_line s ≡ false → ((c : Command) → s ≡ Fresh (Give c) → IsNoReset c) → Parts (turn h Q s found)
  turn_none Q (Fresh (Give c)) found off spared = All-cons AreNoResets (given_in Q h.by h.step (c ∷ [])) [] (given Q (c ∷ []) (one_given c (spared c refl))) none_parts
  turn_none Q (Fresh (Deck fields text)) found off spared =
      let groups = groups_needed text in
      opens_none (job_opened Q h.by fields groups) (given_in Q h.by h.step (opening Q h.by fields groups)) text (given Q (opening Q h.by fields groups) (opening_none Q h.by fields groups))
  turn_none Q (Fresh (Work n)) found off spared = units_none n Q 0 0
  turn_none Q (Fresh (Line l)) found off spared = absurd (cc)
  turn_none Q (Away (SpoolDeck n text)) found off spared =
      All-cons AreNoResets (given_in Q h.by h.step (finishing found.lost n text ∷ [])) [] (given Q (finishing found.lost n text ∷ []) (one_given (finishing found.lost n text) (finishing_none found.lost n text))) none_parts
  turn_none Q (Away (ReadText runs n fields p)) found off spared = text_none (outcome_of runs fields found.read) Q n p
  turn_none Q (Away (SpoolOutputs n specs p)) found off spared = stand_none found.lost Q n specs p
  turn_none Q (Away (PrintLines n i last p)) found off spared = lines_none (printed_end found.printer found.read) Q n i last p
  turn_none Q (Away (Exchange l offer)) found off spared = absurd (cc)
  turn_none Q (Away (SpoolArrival number n text s)) found off spared = absurd (cc)
  turn_none Q (Away (Acknowledge number s)) found off spared = absurd (cc)
  turn_none Q (Rested p) found off spared = units_none p.left Q 0 p.done
  turn_none Q Told found off spared = none_parts

-- THE BATCHES

batch_none : (es : List Entry) → AreNoResets es → All AreNoResets (batch_of es)
batch_none [] spared = All-nil AreNoResets
batch_none (e ∷ es) spared = All-cons AreNoResets (e ∷ es) [] spared (All-nil AreNoResets)

after_none : (full : Bool) (es : List Entry) (more : List Entry → List (List Entry)) → AreNoResets es → ((fs : List Entry) → AreNoResets fs → All AreNoResets (more fs)) → All AreNoResets (if full then es ∷ more [] else more es)
after_none true es more spared rest = All-cons AreNoResets es (more []) spared (rest [] (All-nil (λ (e : Entry). IsNoReset e.command)))
after_none false es more spared rest = rest es spared

cut_none : (so_far : List Entry) (parts : List (List Entry)) → AreNoResets so_far → All AreNoResets parts → All AreNoResets (cut so_far parts)
cut_none so_far [] spared all = batch_none so_far spared
cut_none so_far (es ∷ parts) spared all =
    after_none (is_full (so_far ++ es)) (so_far ++ es) (λ unwritten. cut unwritten parts)
    (All-append (λ (e : Entry). IsNoReset e.command) so_far es spared (All-head AreNoResets es parts all))
    (λ fs none. cut_none fs parts none (All-tail AreNoResets es parts all))

pub sits_no_resets : (h : Holder) (Q : Queue) (s : State) (found : Found) → on_line s ≡ false → ((c : Command) → s ≡ Fresh (Give c) → IsNoReset c) → All AreNoResets (sit Q h s found).batches
sits_no_resets h Q s found off spared = cut_none [] (turn h Q s found).parts (All-nil (λ (e : Entry). IsNoReset e.command)) (turn_none h Q s found off spared)
