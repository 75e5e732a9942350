-- How a sitting goes that serves a line: the frames that it handles one after another, and where that leaves its step.
use Rattle.std.proofs.Common.{◌≡◌, ◌≢◌, ℕ, zero, suc, ◌+◌, ◌*◌, ◌≤◌, Bool, true, false, List, [], ◌∷◌, ◌++◌, length, take, Option, Some, None, Result, Ok, Err, refl, ap, ◌∙◌, arith}
use Rattle.std.proofs.lemmas.List.{length-append}
use Rattle.mas_types.specs.declared.answers.Closing.{Closing}
use Rattle.mas_types.specs.declared.answers.Closing.TheVariants as closing
use Rattle.mas_types.specs.declared.commands.Command.{Command}
use Rattle.mas_types.specs.declared.commands.Command.TheVariants as command
use Rattle.mas_types.specs.declared.commands.Reply.{Reply}
use Rattle.mas_types.specs.declared.ids.JobNo.{JobNo}
use Rattle.mas_types.specs.declared.jobs.JobFields.{JobFields}
use Rattle.mas_types.specs.declared.journals.Entry.{Entry}
use Rattle.mas_types.specs.declared.queues.Queue.{Queue}
use Rattle.mas_types.specs.Closings.{closing_line, details_of, reply_lines}
use Rattle.mas_types.specs.Commands.Wire.{got_on}
use Rattle.mas_types.specs.Owners.{groups_needed}
use Rattle.mas_types.specs.Run.{run}
use Rattle.queue_laws.specs.Laws.{is_refusal}
use Rattle.card_reader.specs.declared.decks.Refused.{Refused}
use Rattle.card_reader.specs.Decks.{read_as, text_of}
use Rattle.nje_frames.specs.declared.frames.Frame.{Frame}
use Rattle.nje_frames.specs.declared.frames.Frame.TheVariants as frame
use Rattle.nje_store.specs.declared.custody.Custody.{Custody}
use Rattle.nje_store.specs.declared.custody.Custody.TheVariants as custody
use Rattle.nje_store.specs.Custody.{custody_of}
use Rattle.step_turns.specs.Courses.{sittings_most}
use Rattle.step_turns.specs.Decks.{job_opened, opening}
use Rattle.step_turns.specs.Entries.{all_entries, closing_reply, given_in, reply_to}
use Rattle.step_turns.specs.Laws.{units_done, units_left}
use Rattle.step_turns.specs.Serving.{Arrival, Serves, acknowledged, arrived, begins, comes, counts_got, counts_sent, exchanged, frame_for, heard, kept, line_begins, offered, opens, reads, serves, serves_first, stored, taken_most, with_frames}
use Rattle.step_turns.specs.States.{Acknowledge, Aside, Away, Exchange, Found, Holder, Progress, Rested, Service, SpoolArrival, Told}
use Rattle.step_turns.specs.TurnParts.{Turn, after_part, leaves, says}
use Rattle.step_turns.proofs.Cutting.{AreOnes, AreSmall}
use Rattle.step_turns.proofs.Given.{given_append, given_length}
use Rattle.step_turns.proofs.Takes.{few_opening, some_opening}

-- the parts of a sitting in which so many commands were given before: after others, each has one entry
abbrev pub AreSized : ℕ → List (List Entry) → Type 0
AreSized zero parts = AreSmall parts
AreSized (suc given) parts = AreOnes parts

-- A turn on a line, in a sitting in which so many commands were given before: the state that it leaves may have so many
-- sittings at most, and its parts and the units that are left are so many at most.
pub record Served (h : Holder) (Q : Queue) (most units given : ℕ) (t : Turn) : Type 0 where
  pub said : t.next ≡ Told → 1 ≤ length t.lines
  pub silent : t.next ≢ Told → t.lines ≡ []
  pub within : sittings_most t.next ≤ most
  pub few : length t.parts + units_left t.next ≤ units
  pub none_done : units_done t.next ≡ 0
  pub unrested : (p : Progress) → t.next ≢ Rested p
  pub commands : List Command
  pub gave : all_entries t.parts ≡ given_in Q h.by h.step commands
  pub sized : AreSized given t.parts

sized_none : (given : ℕ) → AreSized given []
sized_none zero = tt
sized_none (suc given) = tt

module _ (h : Holder) (most : ℕ) where
  -- the step closes with these lines
  served_says : (Q : Queue) (units given : ℕ) (lines : List (List ℕ)) → 1 ≤ length lines → Served h Q most units given (says lines)
  served_says Q units given lines some = record {
    said = λ _. some;
    silent = λ ne. absurd (ne refl);
    within = omega arith;
    few = omega arith;
    none_done = refl;
    unrested = λ p e. absurd (cc);
    commands = [];
    gave = refl;
    sized = sized_none given;
  }

  -- it waits for acts
  served_waits : (Q : Queue) (units given : ℕ) (a : Aside) → sittings_most (Away a) ≤ most → units_left (Away a) ≤ units → units_done (Away a) ≡ 0 → Served h Q most units given (leaves (Away a))
  served_waits Q units given a within left done = record {
    said = λ e. absurd (cc);
    silent = λ _. refl;
    within = within;
    few = omega (arith, left);
    none_done = done;
    unrested = λ p e. absurd (cc);
    commands = [];
    gave = refl;
    sized = sized_none given;
  }

  -- a part comes before all others
  served_part : (Q : Queue) (units given : ℕ) (cs : List Command) (t : Turn) → 1 ≤ length cs → length cs ≤ 4
      → ((suc given ≤ 1) → AreSmall (given_in Q h.by h.step cs ∷ t.parts)) → ((g : ℕ) → given ≡ suc g → AreOnes (given_in Q h.by h.step cs ∷ t.parts))
      → (u : ℕ) → Served h (run Q (given_in Q h.by h.step cs)) most units u t → Served h Q most (suc units) given (after_part (given_in Q h.by h.step cs) t)
  served_part Q units given cs t some few_cs first later u r = record {
    said = r.said;
    silent = r.silent;
    within = r.within;
    few = let few = r.few in omega (arith, few);
    none_done = r.none_done;
    unrested = r.unrested;
    commands = cs ++ r.commands;
    gave = ap (λ (fs : List Entry). given_in Q h.by h.step cs ++ fs) r.gave ∙ given_append h.by h.step Q cs r.commands;
    sized = sized_by given first later;
  } where
    sized_by : (g : ℕ) → ((suc g ≤ 1) → AreSmall (given_in Q h.by h.step cs ∷ t.parts)) → ((k : ℕ) → g ≡ suc k → AreOnes (given_in Q h.by h.step cs ∷ t.parts)) → AreSized g (given_in Q h.by h.step cs ∷ t.parts)
    sized_by zero one ones = one (omega arith)
    sized_by (suc g) one ones = ones g refl

  -- more units may be played
  served_wider : (Q : Queue) (units more given : ℕ) (t : Turn) → units ≤ more → Served h Q most units given t → Served h Q most more given t
  served_wider Q units more given t le r = record {
    said = r.said;
    silent = r.silent;
    within = r.within;
    few = let few = r.few in omega (arith, few, le);
    none_done = r.none_done;
    unrested = r.unrested;
    commands = r.commands;
    gave = r.gave;
    sized = r.sized;
  }

  some_reply : (r : Reply) → 1 ≤ length (reply_lines h.by h.step r)
  some_reply r = let both = length-append (details_of h.by h.step r) (closing_line h.by h.step (closing.Reply r) ∷ []) in omega (arith, both)

  small_one : (es : List Entry) → 1 ≤ length es → length es ≤ 4 → AreSmall (es ∷ [])
  small_one es some few = (some, omega (arith, few), tt)

  -- a first part of these commands alone
  served_first : (Q : Queue) (units : ℕ) (cs : List Command) (t : Turn) → 1 ≤ length cs → length cs ≤ 4 → t.parts ≡ []
      → Served h (run Q (given_in Q h.by h.step cs)) most units 0 t → Served h Q most (suc units) 0 (after_part (given_in Q h.by h.step cs) t)
  served_first Q units cs t some few none r =
      let es = given_in Q h.by h.step cs in
      let many : length es ≡ length cs = given_length h.by h.step Q cs in
      served_part Q units 0 cs t some few
      (λ _. rw none (small_one es (omega (arith, many, some)) (omega (arith, many, few))))
      (λ g e. absurd (omega (arith, e)))
      0 r

  -- A JOB THAT CAME, where so many frames follow it

  module _ (a : Arrival) (s : Service) (Q : Queue) (enough : 2 * length s.frames + 2 ≤ most) where
    served_opens : (job : Option JobNo) (cs : List Command) → 1 ≤ length cs → length cs ≤ 4 → Served h Q most (2 * length s.frames + 2) 0 (opens h.by h.step job (given_in Q h.by h.step cs) a s)
    served_opens (Some n) cs some few =
        let t = leaves (Away (SpoolArrival a.number n (text_of a.text) s)) in
        served_wider Q (suc (2 * length s.frames + 1)) (2 * length s.frames + 2) 0 (after_part (given_in Q h.by h.step cs) t) (omega arith)
        (served_first Q (2 * length s.frames + 1) cs t some few refl
        (served_waits (run Q (given_in Q h.by h.step cs)) (2 * length s.frames + 1) 0 (SpoolArrival a.number n (text_of a.text) s) (omega (arith, enough)) (omega arith) refl))
    served_opens None cs some few =
        let lines = reply_lines h.by h.step (closing_reply (given_in Q h.by h.step cs)) in
        served_wider Q (suc (2 * length s.frames + 1)) (2 * length s.frames + 2) 0 (after_part (given_in Q h.by h.step cs) (says lines)) (omega arith)
        (served_first Q (2 * length s.frames + 1) cs (says lines) some few refl
        (served_says (run Q (given_in Q h.by h.step cs)) (2 * length s.frames + 1) 0 lines (some_reply (closing_reply (given_in Q h.by h.step cs)))))

    served_reads : (r : Result JobFields Refused) → Served h Q most (2 * length s.frames + 2) 0 (reads h.by h.step r a s Q)
    served_reads (Err bad) = served_says Q (2 * length s.frames + 2) 0 (closing_line h.by h.step (closing.BadCard bad.card bad.cause) ∷ []) (omega arith)
    served_reads (Ok fields) =
        let groups = groups_needed (text_of a.text) in
        served_opens (job_opened Q h.by (arrived a fields) groups) (opening Q h.by (arrived a fields) groups)
        (some_opening Q h.by (arrived a fields) groups) (few_opening Q h.by (arrived a fields) groups)

    served_begins : (given : ℕ) → (1 ≤ given → 2 * length s.frames + 3 ≤ most) → Served h Q most (2 * length s.frames + 2) given (begins h.by h.step given a s Q)
    served_begins zero paused = served_reads (read_as Q.config.node a.text)
    served_begins (suc given) paused =
        let room = paused (omega arith) in
        served_waits Q (2 * length s.frames + 2) (suc given) (Acknowledge None (with_frames (frame_for a ∷ s.frames) s)) (omega (arith, room)) (omega arith) refl

  served_comes : (c : Custody) (a : Arrival) (more : Serves) (s : Service) (Q : Queue) (given : ℕ) → 2 * length s.frames + 2 ≤ most → (1 ≤ given → 2 * length s.frames + 3 ≤ most)
      → Served h Q most (2 * length s.frames) given (more s Q given) → Served h Q most (2 * length s.frames + 2) given (comes h.by h.step c a more s Q given)
  served_comes custody.Next a more s Q given enough paused rest = served_begins a s Q enough given paused
  served_comes (custody.Again k) a more s Q given enough paused rest = served_waits Q (2 * length s.frames + 2) given (Acknowledge (Some k) s) (omega (arith, enough)) (omega arith) refl
  served_comes (custody.Gap k count) a more s Q given enough paused rest = served_wider Q (2 * length s.frames) (2 * length s.frames + 2) given (more s Q given) (omega arith) rest

  -- FRAMES

  served : (fs : List Frame) (s : Service) (Q : Queue) (given : ℕ) → 2 * length fs ≤ most → (1 ≤ given → 2 * length fs + 1 ≤ most) → Served h Q most (2 * length fs) given (serves h.by h.step fs s Q given)
  served [] s Q given enough paused = served_says Q 0 given (closing_line h.by h.step (closing.Line s.sent s.got) ∷ []) (omega arith)
  served (frame.Ack number ∷ fs) s Q given enough paused =
      let c = command.Sent s.line number in
      let es = given_in Q h.by h.step (c ∷ []) in
      let t = serves h.by h.step fs (counts_sent (reply_to Q h.by c) (with_frames fs s)) (run Q es) (suc given) in
      let r : Served h (run Q es) most (2 * length fs) (suc given) t = served fs (counts_sent (reply_to Q h.by c) (with_frames fs s)) (run Q es) (suc given) (omega (arith, enough)) (λ _. omega (arith, enough)) in
      served_wider Q (suc (2 * length fs)) (2 * suc (length fs)) given (after_part es t) (omega arith)
      (served_part Q (2 * length fs) given (c ∷ []) t (omega arith) (omega arith) (λ _. (omega arith, omega arith, r.sized)) (λ g e. (refl, r.sized)) (suc given) r)
  served (frame.Job number origin node text ∷ fs) s Q given enough paused =
      let a : Arrival = record { number = number; origin = origin; node = node; text = text } in
      let c = custody_of (got_on Q s.line) number in
      served_wider Q (2 * length fs + 2) (2 * suc (length fs)) given (comes h.by h.step c a (serves h.by h.step fs) (with_frames fs s) Q given) (omega arith)
      (served_comes c a (serves h.by h.step fs) (with_frames fs s) Q given (omega (arith, enough)) (λ some. let room = paused some in omega (arith, room))
      (served fs (with_frames fs s) Q given (omega (arith, enough)) (λ some. omega (arith, enough))))

-- FROM EACH STATE OF A LINE

pub take_few : {A : Type 0} (n : ℕ) (xs : List A) → length (take n xs) ≤ n
take_few zero [] = omega arith
take_few (suc n) [] = omega arith
take_few zero (x ∷ xs) = omega arith
take_few (suc n) (x ∷ xs) = let few = take_few n xs in omega (arith, few)

module _ (h : Holder) (Q : Queue) where
  pub served_task : (l : ℕ) → Served h Q (2 * taken_most + 1) (2 * taken_most + 1) 0 (line_begins h.by h.step Q l)
  served_task l =
      let most = 2 * taken_most + 1 in
      let c = command.Load l in
      let a = Exchange l (offered (run Q (given_in Q h.by h.step (c ∷ []))) l (reply_to Q h.by c)) in
      served_first h most Q (2 * taken_most) (c ∷ []) (leaves (Away a)) (omega arith) (omega arith) refl
      (served_waits h most (run Q (given_in Q h.by h.step (c ∷ []))) (2 * taken_most) 0 a (omega arith) (omega arith) refl)

  pub served_exchange : (end : Option Closing) (l : ℕ) (found : Found) → Served h Q (2 * taken_most) (2 * taken_most) 0 (exchanged h.by h.step end l (heard found) Q)
  served_exchange (Some end) l found = served_says h (2 * taken_most) Q (2 * taken_most) 0 (closing_line h.by h.step end ∷ []) (omega arith)
  served_exchange None l found =
      let few : length (heard found) ≤ taken_most = take_few taken_most found.frames in
      served_wider h (2 * taken_most) Q (2 * length (heard found)) (2 * taken_most) 0 (serves h.by h.step (heard found) (serves_first l) Q 0) (omega (arith, few))
      (served h (2 * taken_most) (heard found) (serves_first l) Q 0 (omega (arith, few)) (λ some. absurd (omega (arith, some))))

  module _ (number : ℕ) (n : JobNo) (s : Service) where
    abbrev most : ℕ
    most = 2 * length s.frames + 1

    wider : (cs : List Command) (t : Turn) → Served h Q most (suc (2 * length s.frames)) 0 (after_part (given_in Q h.by h.step cs) t) → Served h Q most most 0 (after_part (given_in Q h.by h.step cs) t)
    wider cs t r = served_wider h most Q (suc (2 * length s.frames)) most 0 (after_part (given_in Q h.by h.step cs) t) (omega arith) r

    served_kept : (refused : Bool) (c : Command) → Served h Q most most 0 (kept h.by h.step refused c number n s Q)
    served_kept true c =
        let lines = reply_lines h.by h.step (reply_to Q h.by c) in
        wider (c ∷ command.Drop n ∷ []) (says lines)
        (served_first h most Q (2 * length s.frames) (c ∷ command.Drop n ∷ []) (says lines) (omega arith) (omega arith) refl
        (served_says h most (run Q (given_in Q h.by h.step (c ∷ command.Drop n ∷ []))) (2 * length s.frames) 0 lines (some_reply h most (reply_to Q h.by c))))
    served_kept false c =
        let a = Acknowledge (Some number) (counts_got s) in
        wider (c ∷ []) (leaves (Away a))
        (served_first h most Q (2 * length s.frames) (c ∷ []) (leaves (Away a)) (omega arith) (omega arith) refl
        (served_waits h most (run Q (given_in Q h.by h.step (c ∷ []))) (2 * length s.frames) 0 a (omega arith) (omega arith) refl))

    pub served_stored : (lost : Option ℕ) (text : List (List ℕ)) → Served h Q most most 0 (stored h.by h.step lost number n text s Q)
    served_stored None text = served_kept (is_refusal (reply_to Q h.by (command.Got s.line number n text))) (command.Got s.line number n text)
    served_stored (Some volume) text =
        let lines = closing_line h.by h.step (closing.SpoolLost volume) ∷ [] in
        wider (command.Drop n ∷ []) (says lines)
        (served_first h most Q (2 * length s.frames) (command.Drop n ∷ []) (says lines) (omega arith) (omega arith) refl
        (served_says h most (run Q (given_in Q h.by h.step (command.Drop n ∷ []))) (2 * length s.frames) 0 lines (omega arith)))

  pub served_acknowledged : (number : Option ℕ) (lost : Bool) (s : Service) → Served h Q (2 * length s.frames) (2 * length s.frames) 0 (acknowledged h.by h.step number lost s Q)
  served_acknowledged None lost s = served h (2 * length s.frames) s.frames s Q 0 (omega arith) (λ some. absurd (omega (arith, some)))
  served_acknowledged (Some k) true s = served_says h (2 * length s.frames) Q (2 * length s.frames) 0 (closing_line h.by h.step (closing.LineLost s.line) ∷ []) (omega arith)
  served_acknowledged (Some k) false s = served h (2 * length s.frames) s.frames s Q 0 (omega arith) (λ some. absurd (omega (arith, some)))
