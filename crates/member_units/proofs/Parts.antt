-- A part of a sitting, and what follows it.
use Rattle.member_units.proofs.Names.{[], ◌≡◌, ℕ, ◌+◌, ◌*◌, ◌≤◌, ◌<◌, IsLow, too_high, List, length, None, Option, Some, Result, Ok, Err, ◌∙◌, refl, sym, subst, ap, arith, Entry, MemberId, Queue, Run, NodeNo, Found, Away, IsUnderWay, MayEndBy, HasGiven, Plays, unwritten, wrote_after, wrote_of, Follow, MayLeave, Outside, place_of, queue_here, run_of, goes_on_by, leaves, units_from, SittingEnd, played_as, Rested, false, rests, suc, HasRoom, All-nil, Member, Complex, PlantGhosts, SteadyGhosts, CopyGhosts, JobNo, not_refused, taken_end, SpoolOutputs, Bounds, IsWithin, to_play, unit_part, Place, TurnWithin, goes_within, wrote_within, Aside, Holder, Progress, option_map_or, cut_end, played_part, played_part_error, IsNext, IsRoomy, IsUpTo, MayFollow, above, action_turn, ahead, entries_of, most_of, most_then, rest_turn, wait_after, AreSpooled, groups_for_end, held_by, job_at, kept_all, outputs_at_end, queue_kept, runs_keep_configuration, spools_at, take, Config, AreOutputs, true, zero, Command, bounds, outputs_stand, plays_more, Bool, append-nil, ◌++◌, ◌∷◌, if◌then◌else◌, closing_reply, given_in, queue_is, under_way_taken, cut, cut_few}
use Rattle.mas_types.specs.Owners.{member_count}
use Rattle.mas_types.specs.Run.{run}
use Rattle.mas_types.specs.declared.jobs.OutSpec.{OutSpec}
use Rattle.queue_laws.proofs.Finds.{test_cases}
use Rattle.step_turns.specs.Decks.{are_refused, takes}
use Rattle.member_giving.specs.Parts.{IsBare, IsTaken, MayGive, MayLose, commands_most, commands_of, ends_of}
use Rattle.member_giving.proofs.Given.{ends_may}
use Rattle.step_turns.specs.Turns.{Turn, after_part, job_ends, waits_for, goes_on, groups_taken}
use Rattle.job_outcome.specs.declared.units.UnitEnd.{UnitEnd}
use Rattle.job_outcome.specs.declared.units.UnitEnd.TheVariants as ends
use Rattle.member_decks.specs.Steps.{AreOf}
use Rattle.member_units.specs.declared.actions.Action.{Action}
use Rattle.member_units.specs.declared.actions.Action.TheVariants as action
use Rattle.member_giving.specs.declared.parts.Part.{Part}
use Rattle.member_giving.specs.declared.parts.Part.TheVariants as part
use Rattle.step_turns.specs.JobEnds.{drop_groups, taking}
use Rattle.job_outcome.specs.Next.{end_by}

pub most_above : (a : Action) → most_of a ≤ above a
most_above (action.Close end) = omega arith
most_above _ = omega arith

pub above_most : (a : Action) → above a ≤ most_of a + 1
above_most (action.Close end) = omega arith
above_most _ = omega arith

-- what follows comes to so much
pub rest_within : (h : Holder) (found : Found) (units : ℕ) (e : UnitEnd) → MayEndBy found e → (later : Option Aside) (at : Progress) (Q : Queue) (given : ℕ) → at.done + 1 + at.left ≤ units → TurnWithin h found (most_then later at) units (rest_turn h e later at Q given)
rest_within h found units e may None at Q given few = goes_within h found e may (3 * at.left + 1) units at.left Q given at.done few (omega arith)
rest_within h found units ends.Done may (Some a) at Q given few = record { its = All-nil (AreOf h.by h.step); few = omega arith; says = refl }
rest_within h found units another may (Some a) at Q given few = let w = goes_within h found another may (3 * at.left + 1) units at.left Q given at.done few (omega arith) in record { its = w.its; few = omega arith; says = w.says }

module _ (told : Type 0) (h : Holder) (b : Bounds) (p : Part) (later : Option Aside) (at : Progress) (old mid : Place) (given : ℕ) where
  abbrev Gives : Result UnitEnd NodeNo → Type 0
  Gives r = HasGiven told h (unit_part (commands_of h.by old.queue p) (ends_of h.by h.step old.queue p)) old mid r

  abbrev rest : UnitEnd → List Entry → Turn
  rest e es = rest_turn h e later at (run old.queue es) (given + length es)

  -- out of memory for the part, or a batch couldn't be kept then
  pub part_error : AreOf h.by h.step old.batch → MayLose b.found p → at.done + 1 + at.left ≤ b.units → most_then later at + 1 + unwritten old.batch ≤ b.most → (why : NodeNo) → Gives (Err why)
      → Plays told b (to_play h given (wrote_of old.batch (action_turn h old.queue given (action.Give p later at)))) old mid.outside (Err why)
  part_error of may few le why g =
      let e = ends_of h.by h.step old.queue p in
      let w : (es : List Entry) → TurnWithin h b.found (most_then later at) b.units (rest e es) = λ es. rest_within h b.found b.units e (ends_may b.found h.by h.step old.queue p may) later at (run old.queue es) (given + length es) few in
      played_part_error told h (IsWithin h b) given (commands_of h.by old.queue p) e old mid (rest e) of (λ es. (w es).its) (λ es. (let all = cut_few old.batch (es ∷ (rest e es).parts) in wrote_within h b.found b.units b.most (unwritten old.batch + 1) (cut old.batch (es ∷ (rest e es).parts)) (rest e es) (most_then later at) (omega (arith, all)) (omega (arith, le)) (w es))) why g

  module _ (end : UnitEnd) (given' : ℕ) (new : Outside) (r : Result SittingEnd NodeNo) (g : Gives (Ok end)) (more : given' ≡ given + length g.es) where
    abbrev Goes : Type 0
    Goes = Plays told b (to_play h given (wrote_of old.batch (action_turn h old.queue given (action.Give p later at)))) old new r

    abbrev by_answer : Option Aside → Turn
    by_answer o = option_map_or (waits_for h) o (goes_on_by h end at.left (units_from h at.left) mid.queue given' at.done)

    -- it was given, and the rest follows
    part_then : Plays told b (to_play h given' (wrote_after mid.batch (rest_turn h end later at mid.queue given'))) mid new r → Goes
    part_then q = played_part told h (IsWithin h b) given (commands_of h.by old.queue p) (ends_of h.by h.step old.queue p) old mid (rest_turn h end later at mid.queue given') (rest (ends_of h.by h.step old.queue p) (entries_of h old.queue p)) end given' new r g more
        (λ t.
        ap (λ (Q : Queue). rest_turn h end later at Q given') g.queue
        ∙ ap (λ (n : ℕ). rest_turn h end later at (run old.queue g.es) n) more
        ∙ ap (λ (x : UnitEnd). rest x g.es) (g.ends t)
        ∙ ap (λ (es : List Entry). rest (ends_of h.by h.step old.queue p) es) (g.is t)) q

    -- further units follow
    pub part_goes : wait_after end later ≡ None → Plays told b (to_play h given' (wrote_after mid.batch (by_answer None))) mid new r → Goes
    part_goes none q = part_then (played_as told h (IsWithin h b) given' (wrote_after mid.batch (by_answer None)) (wrote_after mid.batch (by_answer (wait_after end later))) mid new r (λ t. ap (λ (o : Option Aside). wrote_after mid.batch (by_answer o)) (sym none)) q)

    -- the step waits
    pub part_waits : (a : Aside) → wait_after end later ≡ Some a → Plays told b (to_play h given' (wrote_of mid.batch (leaves (Away a)))) mid new r → Goes
    part_waits a some q = part_then (played_as told h (IsWithin h b) given' (wrote_of mid.batch (leaves (Away a))) (wrote_after mid.batch (by_answer (wait_after end later))) mid new r
        (λ t. ap (λ (bs : List (List Entry)). record { batches = bs; next = Away a; lines = [] }) (sym (cut_end mid.batch)) ∙ ap (λ (o : Option Aside). wrote_after mid.batch (by_answer o)) (sym some)) q)

-- the acts that it waits for come after a part that is done
pub waited : (e : UnitEnd) (o : Option Aside) (a : Aside) → wait_after e o ≡ Some a → (e ≡ ends.Done) × (o ≡ Some a)
waited e None a is = absurd (cc)
waited ends.Done (Some b) a is = (refl, is)
waited _ (Some b) a is = absurd (cc)

pub wait_done : (o : Option Aside) → o ≡ wait_after ends.Done o
wait_done None = refl
wait_done (Some a) = refl

pub wait_not : (e : UnitEnd) (o : Option Aside) → (e ≡ ends.Done → ⊥) → None ≡ wait_after e o
wait_not e None not = refl
wait_not ends.Done (Some a) not = absurd (not refl)
wait_not _ (Some a) not = refl

pub not_some : (o : Option Aside) → ((a : Aside) → o ≡ Some a → ⊥) → o ≡ None
not_some None not = refl
not_some (Some a) not = absurd (not a refl)

pub up_to : {f g k : Follow} → IsUpTo f g → IsUpTo g k → IsUpTo f k
up_to a b =
    record { most = omega (arith, a.most, b.most); units = omega (arith, a.units, b.units); level = omega (arith, a.level, b.level) }

module _ {P C : Type 0} {plants : PlantGhosts P} {steadies : SteadyGhosts C} {copies : CopyGhosts C} where
  -- a part leaves room
  module _ (x y : Complex P C plants steadies copies) (m n : Member) (high : n.checkpoint.level ≡ m.checkpoint.level) (same : y.level ≡ x.level) (k : ℕ) (few : k ≤ 20000) (roomy : IsRoomy x m k) where
    bare_uses : IsBare x m → n.checkpoint.tables.order ≤ m.checkpoint.tables.order + 32 * 3 → HasRoom y n k
    bare_uses bare order = let low = bare.low.order in let level = bare.low.high in record { order = omega (arith, order, low, few); high = omega (arith, high, level, few); level = omega (arith, same, roomy.room.level) }

    pub part_uses : (p : Part) → MayGive x m p → n.checkpoint.tables.order ≤ m.checkpoint.tables.order + 32 * commands_most p → HasRoom y n k
    part_uses (part.One c) may order = record { order = omega (arith, order, roomy.order); high = omega (arith, high, roomy.room.high); level = omega (arith, same, roomy.room.level) }
    part_uses (part.Lost volume) may order = bare_uses may order
    part_uses _ may order = bare_uses may.0 order

  -- what may follow a part leaves as many sittings as its units
  pub least_then : (x : Complex P C plants steadies copies) (m : Member) (p : Part) (later : Option Aside) (at : Progress) → MayFollow x m p later at → 3 * at.left + 1 ≤ most_then later at
  least_then x m p None at may = omega arith
  least_then x m (part.Groups needed) (Some a) at may = rw may.is (omega arith)
  least_then x m _ (Some a) at may = absurd may

  -- the job is under way still once all groups are taken
  pub still_under_way : (x y : Complex P C plants steadies copies) (m n : Member) (h : Holder) (job : JobNo) (needed : ℕ) → 1 ≤ needed → plants.tells → (end : UnitEnd) → end ≡ ends.Done
      → HasGiven plants.tells h (unit_part (taking (queue_here x m) h.by needed) (taken_end (queue_here x m) h.by h.step needed)) (place_of x m) (place_of y n) (Ok end) → (at : MemberId) → IsUnderWay (queue_here x m) at job → IsUnderWay (queue_here y n) at job
  still_under_way x y m n h job needed some t end done g at job_is =
      let Q : Queue = queue_here x m in
      let taken = queue_is Q h.by h.step needed some (sym (g.ends t) ∙ done) g.es (g.is t) in
      under_way_taken Q (queue_here y n) h.by at needed job (g.queue ∙ taken) job_is

  -- the step is ready to wait
  pub ready_then : (x y : Complex P C plants steadies copies) (m n : Member) (h : Holder) (p : Part) (a : Aside) (at : Progress) (f : Follow) → MayGive x m p → MayFollow x m p (Some a) at → run_of y n ≡ run_of x m → IsTaken n p
      → (end : UnitEnd) → end ≡ ends.Done → HasGiven plants.tells h (unit_part (commands_of h.by (queue_here x m) p) (ends_of h.by h.step (queue_here x m) p)) (place_of x m) (place_of y n) (Ok end) → y.level ≡ x.level → IsUpTo (ahead x.level (action.Give p (Some a) at)) f → MayLeave y n f (Away a)
  ready_then x y m n h (part.Groups needed) a at f gives may run taken end done g same upto =
      let id : n.id ≡ m.id = ap (λ (r : Run). r.id) run in
      let b = rw may.is at upto in
      rw may.is (record {
        ready = record {
          outputs = may.outputs;
          some = subst (λ (k : ℕ). 1 ≤ k) may.all gives.1;
          enough = subst (λ (k : ℕ). k ≤ member_count n.id n.checkpoint.tables.owners) may.all taken;
          job = λ told. still_under_way x y m n h may.job needed gives.1 told end done g n.id (subst (λ (i : MemberId). IsUnderWay (queue_here x m) i may.job) (sym id) (may.under_way told));
        };
        fewer = record { falls = omega (arith, b.most); few = omega (arith, b.units) };
        reached = omega (arith, b.level, same);
      })
  ready_then x y m n h _ a at f gives may run taken end done g same upto = absurd may

  -- a job ends whose outputs stand in the lowest groups of the member
  pub ended_may : (x : Complex P C plants steadies copies) (m : Member) (n : JobNo) (specs : List OutSpec) → IsBare x m → AreOutputs specs → (plants.tells → IsUnderWay (queue_kept x) m.id n)
      → (plants.tells → AreSpooled (spools_at (plants.view x.plant) (plants.view x.plant).now) (queue_kept x).config.groups (outputs_at_end (job_at (queue_kept x) n) specs) (take (groups_for_end (queue_kept x) n specs) (held_by m.id (queue_kept x).owners))) → MayGive x m (part.Ended n specs)
  ended_may x m n specs bare outputs under_way spooled = (bare, outputs, under_way, λ told. subst (λ (k : Config). AreSpooled (spools_at (plants.view x.plant) (plants.view x.plant).now) k.groups (outputs_at_end (job_at (queue_kept x) n) specs) (take (groups_for_end (queue_kept x) n specs) (held_by m.id (queue_kept x).owners))) (runs_keep_configuration x.base (kept_all x.journal.batches)).config (spooled told))

-- THE GROUPS OF A JOB'S OUTPUTS are taken, or the unit is refused

module _ (h : Holder) (Q : Queue) (n : JobNo) (specs : List OutSpec) (p : Progress) where
  pub ends_none : (needed : ℕ) → needed ≡ 0 → job_ends h needed Q n specs p ≡ outputs_stand h None Q n specs p
  ends_none zero none = refl
  ends_none (suc needed) none = absurd (omega (arith, none))

  ends_some : (needed : ℕ) → 1 ≤ needed → job_ends h needed Q n specs p ≡ groups_taken h (are_refused needed Q h.by needed) needed Q n specs p
  ends_some zero some = absurd (omega (arith, some))
  ends_some (suc needed) some = refl

  module _ (needed : ℕ) (some : 1 ≤ needed) where
    abbrev its : List Entry
    its = given_in Q h.by h.step (taking Q h.by needed)

    abbrev as_taken : Turn
    as_taken = after_part its (goes_on_by h (taken_end Q h.by h.step needed) p.left (units_from h p.left) (run Q its) (0 + length its) p.done)

    -- one Take was refused
    pub ends_refused : are_refused needed Q h.by needed ≡ true → as_taken ≡ job_ends h needed Q n specs p
    ends_refused refused =
        ap (λ (b : Bool). after_part its (goes_on_by h (if b then end_by (closing_reply its) else ends.Done) p.left (units_from h p.left) (run Q its) (0 + length its) p.done)) refused
        ∙ ap (λ (b : Bool). groups_taken h b needed Q n specs p) (sym refused)
        ∙ sym (ends_some needed some)

    -- no Take was refused
    pub ends_taken : are_refused needed Q h.by needed ≡ false → after_part its (leaves (Away (SpoolOutputs n specs p))) ≡ job_ends h needed Q n specs p
    ends_taken all =
        ap (λ (b : Bool). after_part (given_in Q h.by h.step (takes needed Q h.by needed ++ (if b then drop_groups ∷ [] else []))) (leaves (Away (SpoolOutputs n specs p)))) all
        ∙ ap (λ (cs : List Command). after_part (given_in Q h.by h.step cs) (leaves (Away (SpoolOutputs n specs p)))) (append-nil (takes needed Q h.by needed))
        ∙ ap (λ (b : Bool). groups_taken h b needed Q n specs p) (sym all)
        ∙ sym (ends_some needed some)

pub takes_turn : (h : Holder) (Q : Queue) (n : JobNo) (specs : List OutSpec) (at : Progress) (needed : ℕ) → 1 ≤ needed → action_turn h Q 0 (action.Give (part.Groups needed) (Some (SpoolOutputs n specs at)) at) ≡ job_ends h needed Q n specs at
takes_turn h Q n specs at needed some = test_cases (are_refused needed Q h.by needed) (action_turn h Q 0 (action.Give (part.Groups needed) (Some (SpoolOutputs n specs at)) at) ≡ job_ends h needed Q n specs at)
    (λ refused. ap (after_part es) (not_done (taken_end Q h.by h.step needed) (λ done. let all = not_refused Q h.by h.step needed some done in absurd (cc))) ∙ ends_refused h Q n specs at needed some refused)
    (λ all. ap (λ (e : UnitEnd). after_part es (rest_turn h e (Some a) at (run Q es) (0 + length es))) (ap (λ (b : Bool). if b then end_by (closing_reply (given_in Q h.by h.step (taking Q h.by needed))) else ends.Done) all) ∙ ends_taken h Q n specs at needed some all)
  where
    a : Aside
    a = SpoolOutputs n specs at

    es : List Entry
    es = entries_of h Q (part.Groups needed)

    not_done : (e : UnitEnd) → (e ≡ ends.Done → ⊥) → rest_turn h e (Some a) at (run Q es) (0 + length es) ≡ goes_on_by h e at.left (units_from h at.left) (run Q es) (0 + length es) at.done
    not_done ends.Done not = absurd (not refl)
    not_done ends.Idle not = refl
    not_done (ends.Refused end) not = refl

module _ {P C : Type 0} {plants : PlantGhosts P} {steadies : SteadyGhosts C} {copies : CopyGhosts C} where
  -- nothing is given before the sitting ends
  pub first_ends : (x : Complex P C plants steadies copies) (m : Member) (h : Holder) (b : Bounds) (t whole : Turn) (least fewer : ℕ) (new : Outside) (r : Result SittingEnd NodeNo) → m.batch ≡ [] → (plants.tells → t ≡ whole) → least ≤ b.most + unwritten m.batch → fewer ≤ b.units
      → Plays plants.tells (bounds least fewer b.found) (to_play h 0 (wrote_of m.batch t)) (place_of x m) new r → Plays plants.tells b (to_play h 0 (wrote_of [] whole)) (place_of x m) new r
  first_ends x m h b t whole least fewer new r nothing same le less p =
      let none = ap unwritten nothing in
      played_as plants.tells h (IsWithin h b) 0 (wrote_of m.batch t) (wrote_of [] whole) (place_of x m) new r (λ told. ap (λ (es : List Entry). wrote_of es t) nothing ∙ ap (wrote_of []) (same told))
      (plays_more plants.tells h b 0 least fewer _ (place_of x m) new r (omega (arith, none, le)) less p)

  pub next_up : (x : Complex P C plants steadies copies) (m : Member) (f : Follow) (a : Action) → IsNext x m f a → IsUpTo (ahead x.level a) f
  next_up x m f a next =
      record { most = omega (arith, above_most a, next.most); units = next.units; level = next.left }

  pub roomy_low : (x : Complex P C plants steadies copies) (m : Member) → IsLow x m → (k : ℕ) → k ≤ 20000 → x.level + k < too_high → IsRoomy x m k
  roomy_low x m low k few level = let order = low.order in let high = low.high in record { room = record { order = omega (arith, order, few); high = omega (arith, high, few); level = level }; order = omega (arith, order, few) }

-- after a unit the next one follows, or the hold is spent
pub goes_next : (h : Holder) (left : ℕ) (Q : Queue) (given done : ℕ) → rests h left given ≡ false → goes_on h left (units_from h left) Q given done ≡ units_from h left Q given done
goes_next h zero Q given done not = refl
goes_next h (suc left) Q given done not = rw not refl

pub goes_rest : (h : Holder) (left : ℕ) (Q : Queue) (given done : ℕ) → rests h left given ≡ true → goes_on h left (units_from h left) Q given done ≡ leaves (Rested (record { done = done; left = left }))
goes_rest h zero Q given done spent = absurd (cc)
goes_rest h (suc left) Q given done spent = rw spent refl
