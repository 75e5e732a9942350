-- What a race makes of the value with which it began.
use Rattle.std.proofs.Common.{◌≡◌, ◌∙◌, ℕ, ◌+◌, ◌-◌, ◌<◌, ◌≤◌, Bool, true, false, inl, inr, List, [], ◌∷◌, ◌++◌, length, take, replicate, if◌then◌else◌, Option, Some, None, Result, Ok, Err, slice_get, refl, sym, ap, subst, arith}
use Rattle.std.proofs.lemmas.Bool.{not-true as dead}
use Rattle.std.proofs.lemmas.List.{get_or-replicate, take-append-le, take_all}
use Rattle.std.proofs.lemmas.List.Elements.{All-cons, All-nil, All-same, All-tail, All-take, All-weaker}
use Rattle.std.specs.Coded.{Coded-set, le_prop}
use Rattle.std.specs.Prelude.{All}
use Rattle.std.specs.Result.{is_err}
use Rattle.duplex_pair.specs.Halves.{SomeAlive}
use Rattle.lock_cycle.specs.Books.{is_stopped}
use Rattle.mas_complex.specs.declared.renewals.Renewals.{Renewals}
use Rattle.mas_complex.specs.Renewals.{is_open, no_renewals}
use Rattle.run_opening.specs.Lines.{HasStopped}
use Rattle.mas_types.specs.contracts.ids.MemberId.{the_row as member_row}
use Rattle.mas_types.specs.declared.journals.Batch.{Batch}
use Rattle.mas_types.specs.Ids.{is_somebody}
use Rattle.mas_types.specs.Journal.{is_kept}
use Rattle.mas_types.specs.declared.answers.Status.{Status}
use Rattle.mas_types.specs.declared.answers.Status.TheVariants as status
use Rattle.mas_types.specs.declared.ids.Dev.TheVariants.{Ckpt1, Ckpt2}
use Rattle.mas_types.specs.declared.ids.MemberId.{MemberId}
use Rattle.mas_types.specs.declared.journals.Entry.{Entry}
use Rattle.mas_types.specs.declared.queues.Queue.{Queue}
use Rattle.mas_types.specs.Ids.{nobody}
use Rattle.mas_types.specs.Limits.{members_most}
use Rattle.script_lang.specs.declared.types.Step.{Step}
use Rattle.spool_plant.specs.declared.plant.Part.TheVariants.{Console}
use Rattle.spool_plant.specs.declared.plant.Plant.{Ghosts as PlantGhosts}
use Rattle.spool_plant.specs.View.{View as Shown}
use Rattle.ckpt_copy.specs.declared.copying.Copying.{Ghosts as CopyGhosts}
use Rattle.ckpt_form.specs.declared.steady.Steady.{Ghosts as SteadyGhosts}
use Rattle.mas_complex.specs.declared.complex.Complex.{Complex}
use Rattle.mas_complex.specs.Journals.{in_flight, kept_all}
use Rattle.mas_complex.specs.Parts.{parts_of, shown_of}
use Rattle.gate_facts.specs.declared.facts.Facts.{Facts}
use Rattle.gate_facts.specs.Values.{begun_of, lines_of as said_of, marked_at, number_at}
use Rattle.gate_turns.specs.Shared.{begun_by, facts_of, said_since}
use Rattle.gate_turns.specs.Words.{lines_by}
use Rattle.member_gate.specs.declared.view.View.{View}
use Rattle.member_gate.specs.declared.view.Sight.{Sight}
use Rattle.member_gate.specs.Views.{Finds, ending, giving, opened, opener, sees, sight}
use Rattle.member_gate.specs.Passes.{view}
use Rattle.member_gate.specs.declared.pass.Pass.{Pass}
use Rattle.gate_facts.specs.Memory.{seats}
use Rattle.member_node.specs.declared.member.Member.{Member}
use Rattle.member_sittings.specs.Sat.{journal_of}
use Rattle.mas_race.specs.Beginnings.{Began, IsFrom, began_with}
use Rattle.mas_race.specs.Passings.{RestsAs}
use Rattle.member_racing.proofs.Later.{begun_at, lines_at}
use Rattle.race_turns.specs.Races.{HasRaced}
use Rattle.run_opening.specs.Statuses.{IsCausedFrom, is_of_play, status_of}
use Rattle.mas_types.specs.Statuses.{status_code}
use Rattle.member_node.specs.declared.member.NodeNo.{NodeNo}
use Rattle.member_node.specs.declared.member.NodeNo.TheVariants as no_node
use Rattle.race_ends.specs.Before.{IsOne}
use Rattle.race_run.specs.Racing.{console_mark}
use Rattle.race_run.specs.Races.{HaveRaced, IsGone, MemberHasRaced, is_less, seen_in}
use Rattle.race_run.specs.Rounds.{IsRoot, KnowsAs, MayAllRace, RacedOn}
use Rattle.race_run.specs.Values.{CanBegin, HaveAllRaced, MayAllBegin, begun_at as begun_with, ended_at}
use Rattle.race_run.proofs.AllLemmas.{IsDone, done_at}
use Rattle.race_run.proofs.CauseLemmas.{both_marked, faults_marked, was_lost}
use Rattle.race_run.proofs.JournalLemmas.{all_handed, begun_is, kept_is}
use Rattle.race_run.proofs.RoundLemmas.{AllKnow, AreFrom, all_know, answers_of, least_answer, many_answers, root_known, root_still}

-- the parts of a list of which all is known
all_first : {A : Type 0} (P : A → Type 0) (xs ys : List A) → All P (xs ++ ys) → All P xs
all_first P xs ys all = All-same P xs (take (length xs) (xs ++ ys)) (sym (take-append-le (length xs) xs ys (omega arith) ∙ take_all (length xs) xs (omega arith))) (All-take P (length xs) (xs ++ ys) all)

all_second : {A : Type 0} (P : A → Type 0) (xs ys : List A) → All P (xs ++ ys) → All P ys
all_second P [] ys all = all
all_second P (x ∷ xs) ys all = all_second P xs ys (All-tail P x (xs ++ ys) all)

in_flight_all : {P : Batch → Type 0} (current : Option Batch) → ((b : Batch) → current ≡ Some b → P b) → All P (in_flight current)
in_flight_all {P} None each = All-nil P
in_flight_all {P} (Some b) each = All-cons P b [] (each b refl) (All-nil P)

-- THE STATUS is one with which a run that has begun ends

of_play : (r : Result (Unit {0}) NodeNo) → is_of_play (status_of r) ≡ true
of_play (Ok done) = refl
of_play (Err no_node.BothLost) = refl
of_play (Err no_node.ConsoleFault) = refl
of_play (Err no_node.Halted) = refl
of_play (Err no_node.NoMemory) = refl

either_of_play : (b : Bool) (one other : Status) → is_of_play one ≡ true → is_of_play other ≡ true → is_of_play (if b then other else one) ≡ true
either_of_play true one other is1 is2 = is2
either_of_play false one other is1 is2 = is1

all_of_play : (tells : Type 0) (entry : Shown) (steps : List Step) (root : View) (ms : List Member) (end : View) (answer : Status)
    → RacedOn tells entry steps root ms end answer → is_of_play answer ≡ true
all_of_play tells entry steps root [] end answer raced = ap is_of_play raced.1
all_of_play tells entry steps root (m ∷ ms) end answer (mid, v, one, rest, more, raced, joins, least_is) =
    ap is_of_play least_is ∙ either_of_play (is_less (status_code (status_of one)) (status_code rest)) (status_of one) rest (of_play one)
    (all_of_play tells entry steps (giving m.id.0 root) ms mid rest more)

-- THE ROOT PASS of a gate that is new

all_cared : (m : ℕ) → m < seats → marked_at (replicate seats true) m ≡ true
all_cared m few = get_or-replicate seats m true false few

new_sight : (told : Bool) (f : Bool → Facts) → sight (ending (opened (opener f))) told ≡ sees 0 (f told)
new_sight true f = refl
new_sight false f = refl

pub root_opens : (f : Bool → Facts) (v : View) → v ≡ ending (opened (opener f)) → IsRoot f 1 v
root_opens f v is = subst (λ (w : View). IsRoot f 1 w) (sym is) (record {
  free = refl;
  root = refl;
  member = refl;
  fresh = λ m le. refl;
  operator = refl;
  cares = λ m le few. all_cared m few;
  last = λ told. ap (λ (s : Sight). s.last) (new_sight told f);
  unheard = λ told. ap (λ (s : Sight). s.heard) (new_sight told f);
})

module _ {P C : Type 0} {plants : PlantGhosts P} {steadies : SteadyGhosts C} {copies : CopyGhosts C} where
  from_one : (x : Complex P C plants steadies copies) (steps : List Step) (at : ℕ) (ms : List Member) → MayAllBegin x steps at ms → AreFrom at ms
  from_one x steps at [] may = tt
  from_one x steps at (m ∷ ms) may = (may.0, from_one x steps (at + 1) ms may.3)

  -- THE MEMBERS MAY RACE with a gate that has the value
  pub may_all : {V : Type 0} (p : Pass V) (value : V → Complex P C plants steadies copies) (o : Began) (count : ℕ) (x : Complex P C plants steadies copies) (ms : List Member) (steps : List Step)
      → began_with x ≡ o → CanBegin x ms steps → count ≡ length ms → view p ≡ ending (opened (opener (λ told. facts_of told (shown_of x))))
      → MayAllRace p value o count ms steps
  may_all p value o count x ms steps began can many pass = record {
    start = x;
    at = 1;
    some = omega arith;
    many = omega (arith, many);
    few = (let few = can.few in omega (arith, many, few));
    rests = record { between = can.between; from = subst (λ (b : Began). IsFrom b x) began can.from };
    opens = can.opens;
    new = can.new;
    is_root = root_opens (λ told. facts_of told (shown_of x)) (view p) pass;
    each = can.each;
  }

  -- A COPY IS LEFT, if not both are lost
  module _ (x y : Complex P C plants steadies copies) (unrenewed : x.renewals ≡ no_renewals) (from : IsFrom (began_with x) y) where
    abbrev old : Shown
    old = plants.view x.plant

    abbrev then_view : Shown
    then_view = plants.view y.plant

    gone_first : y.pair.first.alive ≡ false → IsGone Ckpt1 old then_view
    gone_first is = by_alive x.pair.first.alive refl where
      by_alive : (up : Bool) → x.pair.first.alive ≡ up → IsGone Ckpt1 old then_view
      by_alive true was = inr (was_lost Ckpt1 old then_view (from.lost1 was is))
      by_alive false was = inl (x.lost Ckpt1 tt was (ap (λ (r : Renewals). is_open r.first) unrenewed))

    gone_second : y.pair.second.alive ≡ false → IsGone Ckpt2 old then_view
    gone_second is = by_alive x.pair.second.alive refl where
      by_alive : (up : Bool) → x.pair.second.alive ≡ up → IsGone Ckpt2 old then_view
      by_alive true was = inr (was_lost Ckpt2 old then_view (from.lost2 was is))
      by_alive false was = inl (x.lost Ckpt2 tt was (ap (λ (r : Renewals). is_open r.second) unrenewed))

    some_left : (IsGone Ckpt1 old then_view → IsGone Ckpt2 old then_view → ⊥) → SomeAlive y.pair.first.alive y.pair.second.alive
    some_left not_both = by_alive y.pair.first.alive y.pair.second.alive refl refl where
      by_alive : (one two : Bool) → y.pair.first.alive ≡ one → y.pair.second.alive ≡ two → SomeAlive one two
      by_alive true two is1 is2 = refl
      by_alive false true is1 is2 = refl
      by_alive false false is1 is2 = absurd (not_both (gone_first is1) (gone_second is2))

  -- without memory for a gate nothing was done
  pub not_raced : (x : Complex P C plants steadies copies) (ms : List Member) (steps : List Step) → CanBegin x ms steps → HaveAllRaced x x steps status.NoMemory
  not_raced x ms steps can = record {
    base = refl;
    since = refl;
    between = can.between;
    from = can.from;
    cause = record { failed1 = λ is up. absurd (cc); failed2 = λ is up. absurd (cc); console = λ is. absurd (cc) };
    kind = refl;
    lost = λ is. absurd (cc);
    some = some_left x x can.from.renewals can.from;
    raced = λ t. inr (record { why = inl refl; batches = refl });
  }

  module _ (x y : Complex P C plants steadies copies) (ms : List Member) (steps : List Step) (root end : View) (answer : Status) (can : CanBegin x ms steps)
      (raced : RacedOn plants.tells (plants.view x.plant) steps root ms end answer)
      (is_root : IsRoot (λ told. facts_of told (shown_of x)) 1 root)
      (finds : Finds plants.tells end (λ told. facts_of told (shown_of y))) (rests : RestsAs (began_with x) y) where
    abbrev entry : Shown
    entry = plants.view x.plant

    from : AreFrom 1 ms
    from = from_one x steps 1 ms can.each

    base_is : y.base ≡ x.base
    base_is = finds.bare.0.base ∙ (root_still plants.tells entry steps false root ms end answer raced).base ∙ ap (λ (f : Facts). f.base) (is_root.last false)

    since_is : y.since ≡ x.since
    since_is = finds.bare.0.marks.since ∙ (root_still plants.tells entry steps false root ms end answer raced).since ∙ ap (λ (f : Facts). f.marks.since) (is_root.last false)

    member_of : (m : MemberId) → IsOne x.base.config.members m → m.0 ≤ members_most
    member_of m one = let many = can.many in let few = can.few in let le = one.1 in omega (arith, many, few, le)

    module _ (t : plants.tells) where
      abbrev is : Facts
      is = facts_of true (shown_of y)

      abbrev start : Facts
      start = facts_of true (shown_of x)

      known : AllKnow plants.tells entry steps true end is.kept root ms end answer raced
      known = all_know plants.tells entry steps true is.kept 1 root ms end answer raced from (finds.told t).2

      abbrev answers : List Status
      answers = answers_of plants.tells entry steps root ms end answer raced

      done : (m : MemberId) → IsOne x.base.config.members m
          → IsDone plants.tells t entry steps start is end (can.new t) (finds.told t).0 (slice_get answers (m.0 - 1)) m
      done m one =
          let many = can.many in
          let some = one.0 in
          let le = one.1 in
          done_at plants.tells t entry steps start is end (can.new t) (finds.told t).0 (m.0 - 1) 1 root ms end answer raced (omega arith)
          (is_root.last true) from known (omega (arith, many, some, le)) m (omega (arith, some))

      one_member : (m : MemberId) → IsOne x.base.config.members m → MemberHasRaced (begun_with x steps) (ended_at y answer) m
      one_member m one =
          let d = done m one in
          let some : 1 ≤ m.0 = one.0 in
          record {
            answer = d.ended;
            all = d.of.all;
            raced = subst (λ (n : ℕ). HasRaced x.base (kept_all (journal_of (parts_of y))) m (seen_in x.base entry m) n steps (is_err d.ended) d.of.all) (ap length (sym (kept_is x)))
                (subst (λ (h : List Entry). HasRaced x.base h m (seen_in x.base entry m) (length (kept_all x.journal.batches)) steps (is_err d.ended) d.of.all) (sym (kept_is y)) d.of.raced);
            begun = sym (begun_is y m) ∙ sym (begun_at m some (member_of m one) true (shown_of y)) ∙ d.of.begun;
            said = ap (λ (q : Queue). lines_by q.config.members m.0 (said_since x.since (plants.view y.plant))) (sym base_is)
                ∙ ap (λ (n : ℕ). lines_by y.base.config.members m.0 (said_since n (plants.view y.plant))) (sym since_is)
                ∙ sym (lines_at m some (member_of m one) true (shown_of y)) ∙ d.of.said;
          }

      operator_known : KnowsAs end root true 0
      operator_known = root_known plants.tells entry steps true 1 root ms end answer raced (omega arith) from is_root.operator

      silent : lines_by x.base.config.members 0 (said_since x.since (plants.view y.plant)) ≡ lines_by x.base.config.members 0 (said_since x.since entry)
      silent =
          ap (λ (q : Queue). lines_by q.config.members 0 (said_since x.since (plants.view y.plant))) (sym base_is)
          ∙ ap (λ (n : ℕ). lines_by y.base.config.members 0 (said_since n (plants.view y.plant))) (sym since_is)
          ∙ (finds.told t).0.lines 0 operator_known.cares ∙ operator_known.lines ∙ ap (λ (f : Facts). said_of f 0) (is_root.last true)

      operator : begun_by nobody (journal_of (parts_of y)) ≡ begun_by nobody (journal_of (parts_of x))
      operator =
          sym (begun_is y nobody) ∙ (finds.told t).0.begun 0 operator_known.cares ∙ operator_known.begun
          ∙ ap (λ (f : Facts). begun_of f 0) (is_root.last true) ∙ begun_is x nobody

    -- IT ENDED WITH CAUSE

    lost_first : answer ≡ status.BothLost → y.pair.first.alive ≡ false
    lost_first is = dead y.pair.first.alive (finds.bare.0.marks.lost 0 (both_marked plants.tells entry steps root ms end answer raced is).0)

    lost_second : answer ≡ status.BothLost → y.pair.second.alive ≡ false
    lost_second is = dead y.pair.second.alive (finds.bare.0.marks.lost 1 (both_marked plants.tells entry steps root ms end answer raced is).1)

    caused : IsCausedFrom x.pair.first.alive x.pair.second.alive answer entry (plants.view y.plant)
    caused = record {
      failed1 = λ is up. was_lost Ckpt1 entry (plants.view y.plant) (rests.from.lost1 up (lost_first is));
      failed2 = λ is up. was_lost Ckpt2 entry (plants.view y.plant) (rests.from.lost2 up (lost_second is));
      console = λ is.
          let rose = faults_marked plants.tells entry steps root ms end answer raced is in
          let le : number_at (sight end false).last.marks.faults console_mark ≤ (plants.view y.plant).faults Console = finds.bare.0.marks.faults console_mark in
          omega (arith, rose, le);
    }

    left : (IsGone Ckpt1 entry (plants.view y.plant) → IsGone Ckpt2 entry (plants.view y.plant) → ⊥) → SomeAlive y.pair.first.alive y.pair.second.alive
    left = some_left x y can.from.renewals rests.from

    -- WHAT WASN'T KEPT is of stopped members

    own_entries : (b : Batch) → IsProp (All (λ (e : Entry). e.by ≡ b.by) b.entries)
    own_entries b p q i k d lt = Coded-set member_row.coded _ _ (p k d lt) (q k d lt) i

    flies_own : All (λ (b : Batch). All (λ (e : Entry). e.by ≡ b.by) b.entries) (journal_of (parts_of y))
    flies_own =
        let both = rests.between.own in
        all_handed y (λ b. All (λ (e : Entry). e.by ≡ b.by) b.entries) own_entries
        (all_first (λ b. All (λ (e : Entry). e.by ≡ b.by) b.entries) y.journal.batches (in_flight y.current) both)
        (all_second (λ b. All (λ (e : Entry). e.by ≡ b.by) b.entries) y.journal.batches (in_flight y.current) both)

    abbrev IsFated : Batch → Type 0
    IsFated b = is_somebody b.by ≡ true → is_kept b.fate ≡ false → 0 < length b.entries → HasStopped b.by entry (plants.view y.plant)

    fated_prop : (b : Batch) → IsProp (IsFated b)
    fated_prop b p q i one kept some = le_prop (p one kept some) (q one kept some) i

    fated_all : (IsGone Ckpt1 entry (plants.view y.plant) → IsGone Ckpt2 entry (plants.view y.plant) → ⊥)
        → All IsFated (journal_of (parts_of y))
    fated_all not_both =
        all_handed y IsFated fated_prop
        (All-weaker (λ (b : Batch). is_kept b.fate ≡ false → 0 < length b.entries → is_stopped y.book b.by ≡ true) IsFated
        (λ b was one kept some. rests.from.stopped b.by one (was kept some)) y.journal.batches rests.between.fated)
        (in_flight_all {P = IsFated} y.current (λ b flies one kept some. rests.from.stopped b.by one (rests.between.flying (left not_both) b flies).1))

    pub have_raced : plants.tells → HaveRaced (begun_with x steps) (ended_at y answer)
    unfolding one_member done
    have_raced t = record {
      each = one_member t;
      silent = silent t;
      operator = operator t;
      own = flies_own;
      fated = fated_all;
      answers = answers t;
      many = many_answers plants.tells entry steps root ms end answer raced ∙ can.many;
      answers_are = λ m one. (done t m one).status;
      status_is = least_answer plants.tells entry steps root ms end answer raced;
    }

    pub all_raced : HaveAllRaced x y steps answer
    all_raced = record {
      base = base_is;
      since = since_is;
      between = rests.between;
      from = rests.from;
      cause = caused;
      kind = all_of_play plants.tells entry steps root ms end answer raced;
      lost = λ is. (lost_first is, lost_second is);
      some = left;
      raced = λ t. inl (have_raced t);
    }
