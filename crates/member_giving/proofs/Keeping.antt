-- Calls within a sitting that keep batches, one after another, and then others or lines.
use Rattle.member_giving.proofs.Names.{◌≡◌, ℕ, ◌+◌, ◌≤◌, List, [], ◌∷◌, ◌++◌, length, Result, Ok, Err, inl, inr, append_assoc, append-nil, refl, sym, ◌∙◌, ap, arith, MemberId, Batch, Entry, Line, NodeNo, BothLost, Halted, ConsoleFault, NoMemory, begun, HasAll, CopyCauses, IsOnCopies, KeepLeaves, IsSettle, HaveSaid, StepCauses, console_now, Outside, IsClosing, IsKeeping, LeavesFirst, MayFly, WorkLeaves, closed, AreAll, pair_at, Course, pair_seen, course_none, course_then, fated, stopped_in}
use Rattle.mas_types.specs.declared.journals.Fate.TheVariants.{Kept}
use Rattle.member_node.proofs.SpareLemmas.{spares_none, spares_then}
use Rattle.member_steps.proofs.KeepLemmas.{causes_then, copy_causes}
use Rattle.member_steps.proofs.SayLemmas.{console_course, none_said, said_none, said_on, say_causes}
use Rattle.member_steps.specs.Saying.{HasSaid, said_nothing}
use Rattle.member_decks.proofs.BatchLemmas.{flying_batch, kept_batch}
use Rattle.member_asides.proofs.Staying.{settle_copies}
use Rattle.member_giving.proofs.Leaving.{StartsAs, first_all, work_none, work_starts, work_then}

-- the console doesn't fail
abbrev Silent : NodeNo → Type 0
Silent e = ◌≡◌ {A = Result (Unit {0}) NodeNo} (Err e) (Err ConsoleFault) → ⊥

-- a call on the copies says nothing
never_console : (by : ℕ) (e : NodeNo) (o n : Outside) → CopyCauses {T = Unit {0}} (Err e) by (pair_seen o) (pair_seen n) → Silent e
never_console by ConsoleFault o n cause is = absurd cause
never_console by _ o n cause is = absurd (cc)

-- all of no lines
all_said : {A : Type 0} (was now : List Line) → now ≡ was → HasSaid {T = Unit {0}} A [] was now (Ok tt)
all_said was now same = record { said = said_nothing; is = same ∙ sym (append-nil was); by_answer = refl; once_kept = inl refl }

module _ (told : Type 0) (by : MemberId) where
  -- nothing was said
  pub quiet : (o n : Outside) (ess : List (List Entry)) → IsKeeping told by ess o n (Ok tt) → told → console_now n.view ≡ console_now o.view
  quiet o n ess k t = none_said _ (console_now o.view) (console_now n.view) (Ok tt) (k.closes.console t)

  -- ONE CALL AFTER ANOTHER

  -- batches are kept, and then others before the lines are said
  pub closes_then : (r : Result (Unit {0}) NodeNo) (ess more : List (List Entry)) (lines : List (List ℕ)) (o m n : Outside) → IsKeeping told by ess o m (Ok tt) → IsClosing told by (closed more lines) m n r → IsClosing told by (closed (ess ++ more) lines) o n r
  closes_then r ess more lines o m n kept two =
      let one = kept.closes in
      let first = one.course.goes.later in
      let then = two.course.goes.later in
      let joined : (rest : List Batch) → n.batches ≡ m.batches ++ rest → n.batches ≡ o.batches ++ (one.rest ++ rest) = λ rest is. is ∙ ap (λ (l : List Batch). l ++ rest) one.batches_are ∙ append_assoc o.batches one.rest rest in
      record {
        course = course_then o.first m.first n.first o.second m.second n.second o.view m.view n.view one.course two.course;
        loses = λ t d. two.loses t d ∙ one.loses t d;
        cause = causes_then r by.0 o.first m.first n.first o.second m.second n.second o.view m.view n.view one.cause one.course.goes two.cause;
        spares = spares_then by.0 (stopped_in r) o.view m.view n.view one.spares two.spares;
        rest = one.rest ++ two.rest;
        batches_are = joined two.rest two.batches_are;
        journal = work_then by r o.view.now m.view.now n.view.now ess one.rest more two.rest first then one.journal two.journal;
        console = λ t. said_on (HasAll by m.view.now n.view.now more m.batches n.batches) (HasAll by o.view.now n.view.now (ess ++ more) o.batches n.batches) lines (console_now o.view) (console_now m.view) (console_now n.view) r (quiet o m ess kept t)
            (λ has. (one.rest ++ has.0, joined has.0 has.1, work_then by (Ok tt) o.view.now m.view.now n.view.now ess one.rest more has.0 first then one.journal has.2)) (two.console t);
      }

  pub keeping_then : (r : Result (Unit {0}) NodeNo) (ess more : List (List Entry)) (o m n : Outside) → IsKeeping told by ess o m (Ok tt) → IsKeeping told by more m n r → IsKeeping told by (ess ++ more) o n r
  keeping_then r ess more o m n one two = record { closes = closes_then r ess more [] o m n one two.closes; silent = two.silent }

  -- an error in the middle of batches with which others start, before a line is said
  pub closes_error : (e : NodeNo) (xs ess : List (List Entry)) (lines : List (List ℕ)) (o n : Outside) → StartsAs xs ess → IsKeeping told by xs o n (Err e) → IsClosing told by (closed ess lines) o n (Err e)
  closes_error e xs ess lines o n starts kept =
      let k = kept.closes in
      record {
        course = k.course;
        loses = k.loses;
        cause = k.cause;
        spares = k.spares;
        rest = k.rest;
        batches_are = k.batches_are;
        journal = work_starts by n.view.now e o.view.now xs ess k.rest (λ is. kept.silent (ap Err is)) starts k.journal;
        console = λ t. said_none _ lines (console_now o.view) (console_now n.view) e (λ is. kept.silent (ap Err is)) (none_said _ (console_now o.view) (console_now n.view) (Err e) (k.console t));
      }

  pub keeping_starts : (e : NodeNo) (xs ess : List (List Entry)) (o n : Outside) → StartsAs xs ess → IsKeeping told by xs o n (Err e) → IsKeeping told by ess o n (Err e)
  keeping_starts e xs ess o n starts k = record { closes = closes_error e xs ess [] o n starts k; silent = k.silent }

  -- out of memory after batches that are kept
  pub keeping_wanted : (ess : List (List Entry)) (o n : Outside) → IsKeeping told by ess o n (Ok tt) → IsKeeping told by ess o n (Err NoMemory)
  keeping_wanted ess o n kept =
      let k = kept.closes in
      record {
        closes = record { course = k.course; loses = k.loses; cause = k.cause; spares = k.spares; rest = k.rest; batches_are = k.batches_are; journal = first_all by NoMemory o.view.now n.view.now ess k.rest k.journal; console = λ t. said_none _ [] (console_now o.view) (console_now n.view) NoMemory (λ is. absurd (cc)) (quiet o n ess kept t) };
        silent = λ is. absurd (cc);
      }

  -- SINGLE CALLS

  -- nothing is done
  pub keeping_none : (o : Outside) → IsKeeping told by [] o o (Ok tt)
  keeping_none o = record {
    closes = record { course = course_none o.first o.second o.view; loses = λ t d. refl; cause = inr (refl, refl); spares = spares_none by.0 o.view; rest = []; batches_are = sym (append-nil o.batches); journal = tt; console = λ t. all_said (console_now o.view) (console_now o.view) refl };
    silent = λ is. absurd (cc);
  }

  module _ (o n : Outside) where
    abbrev OnCopies : Result (Unit {0}) NodeNo → Type 0
    OnCopies r = IsOnCopies {T = Unit {0}} told by.0 (pair_seen o) (pair_seen n) r

    -- acts on the copies
    held_ok : (ess : List (List Entry)) (rest : List Batch) → n.batches ≡ o.batches ++ rest → AreAll by o.view.now n.view.now ess rest → OnCopies (Ok tt) → IsKeeping told by ess o n (Ok tt)
    held_ok ess rest are all acts = record {
      closes = record { course = acts.course; loses = acts.loses; cause = acts.cause; spares = acts.spares; rest = rest; batches_are = are; journal = all; console = λ t. all_said (console_now o.view) (console_now n.view) (acts.apart t).console };
      silent = λ is. absurd (cc);
    }

    held_not : (e : NodeNo) (ess : List (List Entry)) (rest : List Batch) → n.batches ≡ o.batches ++ rest → WorkLeaves (Err e) by o.view.now n.view.now ess rest → OnCopies (Err e) → IsKeeping told by ess o n (Err e)
    held_not e ess rest are leaves acts =
        let silent = never_console by.0 e o n acts.cause in
        record {
          closes = record {
            course = acts.course;
            loses = acts.loses;
            cause = copy_causes (Err e) by.0 (pair_seen o) (pair_seen n) acts.cause;
            spares = acts.spares;
            rest = rest;
            batches_are = are;
            journal = leaves;
            console = λ t. said_none _ [] (console_now o.view) (console_now n.view) e (λ is. silent (ap Err is)) (acts.apart t).console;
          };
          silent = silent;
        }

    -- nothing was begun
    none_begun : (e : NodeNo) (ess : List (List Entry)) → n.batches ≡ o.batches → OnCopies (Err e) → IsKeeping told by ess o n (Err e)
    none_begun e ess same acts = held_not e ess [] (same ∙ sym (append-nil o.batches)) (work_none by e o.view.now n.view.now ess (λ is. never_console by.0 e o n acts.cause (ap Err is))) acts

    -- a batch
    module _ (es : List Entry) (some : 1 ≤ length es) where
      abbrev Leaves : Result (Unit {0}) NodeNo → Type 0
      Leaves r = KeepLeaves {T = Unit {0}} r o.batches n.batches (begun o.view.now by es) n.view.now

      pub kept_ok : OnCopies (Ok tt) → Leaves (Ok tt) → IsKeeping told by (es ∷ []) o n (Ok tt)
      kept_ok acts k = held_ok (es ∷ []) (fated Kept k.0 (begun o.view.now by es) ∷ []) k.3 (kept_batch by o.view.now o.view.now k.0 n.view.now es (omega arith) k.1 k.2, tt) acts

      in_flight : (e : NodeNo) → MayFly e → o.view.now ≤ n.view.now → LeavesFirst e by o.view.now n.view.now (es ∷ []) (begun o.view.now by es ∷ [])
      in_flight e may later = inr (refl, inr (may, es, (some, ([], sym (append-nil es))), flying_batch by o.view.now o.view.now 0 n.view.now es (omega arith) later))

      pub kept_not : (e : NodeNo) → OnCopies (Err e) → Leaves (Err e) → IsKeeping told by (es ∷ []) o n (Err e)
      kept_not NoMemory acts same = none_begun NoMemory (es ∷ []) same acts
      kept_not ConsoleFault acts never = absurd never
      kept_not BothLost acts flies = held_not BothLost (es ∷ []) (begun o.view.now by es ∷ []) flies (in_flight BothLost tt acts.course.goes.later) acts
      kept_not Halted acts flies = held_not Halted (es ∷ []) (begun o.view.now by es ∷ []) flies (in_flight Halted tt acts.course.goes.later) acts

    -- room is made
    pub settled : n.batches ≡ o.batches → (r : Result (Unit {0}) NodeNo) → IsSettle told by.0 (pair_seen o) (pair_seen n) r → IsKeeping told by [] o n r
    settled same (Ok done) s = held_ok [] [] (same ∙ sym (append-nil o.batches)) tt (settle_copies told by.0 (pair_seen o) (pair_seen n) (Ok done) s)
    settled same (Err e) s = none_begun e [] same (settle_copies told by.0 (pair_seen o) (pair_seen n) (Err e) s)

  -- AND THEN LINES

  -- nothing is unwritten, and the lines are said
  pub closing_said : (lines : List (List ℕ)) (o n : Outside) → n.batches ≡ o.batches → n.first ≡ o.first → n.second ≡ o.second → (r : Result (Unit {0}) NodeNo) → HaveSaid told by.0 lines o.view n.view r → IsClosing told by (closed [] lines) o n r
  closing_said lines o n same first second r said = record {
    course = on_course;
    loses = λ t d. said.acts.loses d;
    cause = caused;
    spares = said.spares;
    rest = [];
    batches_are = same ∙ sym (append-nil o.batches);
    journal = leaves r;
    console = λ t. said_on (Unit {0}) _ lines (console_now o.view) (console_now o.view) (console_now n.view) r refl (λ u. ([], same ∙ sym (append-nil o.batches), tt)) (said.console t);
  } where
    on_course : Course (pair_at o.first o.second o.view) (pair_at n.first n.second n.view)
    on_course = rw (first, second) (console_course told o.first o.second o.view n.view said.acts)

    caused : StepCauses r by.0 (pair_at o.first o.second o.view) (pair_at n.first n.second n.view)
    caused = rw (first, second) (say_causes r by.0 (pair_seen o) n.view said.cause)

    leaves : (r : Result (Unit {0}) NodeNo) → WorkLeaves r by o.view.now n.view.now [] []
    leaves (Ok done) = tt
    leaves (Err ConsoleFault) = tt
    leaves (Err _) = tt
