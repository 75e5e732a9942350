-- How the sittings of commands, decks and work leave a step.
use Rattle.std.proofs.Common.{◌≡◌, ℕ, ◌+◌, ◌*◌, ◌≤◌, ◌<◌, true, false, List, length, Result, Ok, Err, IfOk, refl, sym, ap, ◌∙◌, subst, arith}
use Rattle.mas_types.specs.declared.ids.JobNo.{JobNo}
use Rattle.mas_types.specs.declared.ids.MemberId.{MemberId}
use Rattle.mas_types.specs.declared.queues.Queue.{Queue}
use Rattle.spool_plant.specs.View.{View}
use Rattle.spool_plant.specs.declared.plant.Plant.{Ghosts as PlantGhosts}
use Rattle.ckpt_copy.specs.declared.copying.Copying.{Ghosts as CopyGhosts}
use Rattle.ckpt_form.specs.declared.steady.Steady.{Ghosts as SteadyGhosts}
use Rattle.mas_complex.specs.declared.complex.Complex.{Complex}
use Rattle.mas_complex.specs.Parts.{Parts, parts_of}
use Rattle.member_node.specs.declared.member.Member.{Member}
use Rattle.member_node.specs.declared.member.NodeNo.{NodeNo}
use Rattle.step_turns.specs.Courses.{sittings_most}
use Rattle.step_turns.specs.Laws.{aside_on_line, units_done, units_left}
use Rattle.step_turns.specs.Serving.{taken_most}
use Rattle.step_turns.specs.Sittings.{Sitting}
use Rattle.step_turns.specs.States.{nothing_found}
use Rattle.step_turns.specs.declared.states.Aside.{Aside}
use Rattle.step_turns.specs.declared.states.Found.{Found}
use Rattle.step_turns.specs.declared.states.Holder.{Holder}
use Rattle.step_turns.specs.declared.states.Progress.{Progress}
use Rattle.step_turns.specs.declared.states.Task.{Task}
use Rattle.step_turns.specs.declared.states.Aside.TheVariants.{Acknowledge, Exchange, PrintLines, ReadText, SpoolArrival, SpoolDeck, SpoolOutputs}
use Rattle.step_turns.specs.declared.states.State.{State}
use Rattle.step_turns.specs.declared.states.State.TheVariants.{Away, Fresh, Rested, Told}
use Rattle.member_sittings.specs.declared.ends.SittingEnd.{SittingEnd}
use Rattle.member_sittings.specs.Asides.{WaitsRightly}
use Rattle.member_sittings.specs.Sat.{IsSatOn, Sat, Start, begins as rests, resumes}
use Rattle.member_sittings.specs.Shapes.{Says}
use Rattle.member_sittings.specs.Whole.{IsLeftIn, queue_of}
use Rattle.member_frames.specs.Ready.{HasFewer, IsReady, IsToResume}
use Rattle.member_units.specs.Works.{LeavesIn, follow}
use Rattle.member_frames.specs.Waits.{MayResumeLine, WaitsOnLine}
use Rattle.member_hand.specs.Sits.{ComesTo, GoesOn, IsDeckTask, IsFoundRight, IsLineTask, IsServing, IsWork, LeavesStep, WaitsWell, begins}
use Rattle.member_hand.proofs.StepKinds.{IsExchange}

-- facts of an answer that is no error, together
pub both : {A : Type 0} (r : Result A NodeNo) (P Q R : A → Type 0) → ((e : A) → P e → Q e → R e) → IfOk r P → IfOk r Q → IfOk r R
both (Ok e) P Q R f p q = f e p q
both (Err why) P Q R f p q = p

-- where a step begins, or goes on
pub start_fresh : (h : Holder) (u : State) (found : Found) (task : Task) → u ≡ Fresh task → found ≡ nothing_found → record { holder = h; state = u; found = found } ≡ begins h task
start_fresh h u found task is none = ap (λ (w : State). record { holder = h; state = w; found = found }) is ∙ ap (λ (f : Found). record { holder = h; state = Fresh task; found = f }) none

pub start_in : (h : Holder) (found : Found) (u : State) (a : Aside) → u ≡ Away a → record { holder = h; state = u; found = found } ≡ resumes h a found
start_in h found u a is = ap (λ (w : State). record { holder = h; state = w; found = found }) is

pub start_rested : (h : Holder) (u : State) (found : Found) (p : Progress) → u ≡ Rested p → found ≡ nothing_found → record { holder = h; state = u; found = found } ≡ rests h (Rested p)
start_rested h u found p is none = ap (λ (w : State). record { holder = h; state = w; found = found }) is ∙ ap (λ (f : Found). record { holder = h; state = Rested p; found = f }) none

pub record WaitsAndGoes (told : Type 0) (Q : Queue) (n : Member) (s next : State) (was is : ℕ) : Type 0 where
  pub waits : WaitsWell told Q n next
  pub goes : GoesOn s next was is

module _ {P C : Type 0} (plants : PlantGhosts P) (copies : CopyGhosts C) (x y : Parts P C) (m n : Member) (s : Start) where
  -- the step is told
  pub told_leaves : (e : SittingEnd) → 1 ≤ sittings_most s.state → IsSatOn plants copies x y m n s.holder.step e → e.next ≡ Told → LeavesStep plants copies x y n s e
  told_leaves e some on told =
      let reached = on.grown.reached in
      record {
        sits = on.sits;
        waits = subst (λ (u : State). WaitsWell plants.tells (queue_of y) n u) (sym told) tt;
        goes = subst (λ (u : State). GoesOn s.state u x.level y.level) (sym told) (record { falls = omega (arith, some); few = omega arith; level = omega (arith, reached); comes = tt });
      }

  abbrev Now : State → Type 0
  Now next = WaitsAndGoes plants.tells (queue_of y) n s.state next x.level y.level

  -- or it waits for its deck's text to be spooled
  deck_goes : (next : State) → IsDeckTask s.state → sittings_most s.state ≡ 2 → units_done s.state + units_left s.state ≡ 1 → units_left s.state ≡ 1 → y.level ≤ x.level + 1 → WaitsRightly n next → Now next
  deck_goes (Away (SpoolDeck job text)) deck two few one reached w =
      record { waits = w; goes = record { falls = omega (arith, two); few = omega (arith, few); level = omega (arith, reached, one); comes = deck } }
  deck_goes Told deck two few one reached w =
      record { waits = tt; goes = record { falls = omega (arith, two); few = omega (arith, few); level = omega (arith, reached, one); comes = tt } }
  deck_goes (Away (ReadText runs job fields p)) deck two few one reached w = absurd w
  deck_goes (Away (SpoolOutputs job specs p)) deck two few one reached w = absurd w
  deck_goes (Away (PrintLines job output last p)) deck two few one reached w = absurd w
  deck_goes (Away (Exchange l offer)) deck two few one reached w = absurd w
  deck_goes (Away (SpoolArrival number job cards service)) deck two few one reached w = absurd w
  deck_goes (Away (Acknowledge number service)) deck two few one reached w = absurd w
  deck_goes (Fresh task) deck two few one reached w = absurd w
  deck_goes (Rested p) deck two few one reached w = absurd w

  pub deck_leaves : (e : SittingEnd) → IsDeckTask s.state → sittings_most s.state ≡ 2 → units_done s.state + units_left s.state ≡ 1 → units_left s.state ≡ 1
      → IsSatOn plants copies x y m n s.holder.step e → WaitsRightly n e.next → LeavesStep plants copies x y n s e
  deck_leaves e deck two few one on w =
      let g = deck_goes e.next deck two few one on.grown.reached w in record { sits = on.sits; waits = g.waits; goes = g.goes }

  -- WORK

  ready_waits : (next : State) → IsReady plants.tells (queue_of y) n.checkpoint.tables n.id next → WaitsWell plants.tells (queue_of y) n next
  ready_waits (Away (SpoolDeck job text)) r = absurd r
  ready_waits (Away (ReadText runs job fields p)) r = r
  ready_waits (Away (SpoolOutputs job specs p)) r = r
  ready_waits (Away (PrintLines job output last p)) r = r
  ready_waits (Away (Exchange l offer)) r = absurd r
  ready_waits (Away (SpoolArrival number job cards service)) r = absurd r
  ready_waits (Away (Acknowledge number service)) r = absurd r
  ready_waits (Fresh task) r = r
  ready_waits (Rested p) r = r
  ready_waits Told r = r

  work_comes : (next : State) → IsWork s.state → IsReady plants.tells (queue_of y) n.checkpoint.tables n.id next → ComesTo s.state next
  work_comes (Away (SpoolDeck job text)) work r = absurd r
  work_comes (Away (ReadText runs job fields p)) work r = work
  work_comes (Away (SpoolOutputs job specs p)) work r = work
  work_comes (Away (PrintLines job output last p)) work r = work
  work_comes (Away (Exchange l offer)) work r = absurd r
  work_comes (Away (SpoolArrival number job cards service)) work r = absurd r
  work_comes (Away (Acknowledge number service)) work r = absurd r
  work_comes (Fresh task) work r = absurd r
  work_comes (Rested p) work r = work
  work_comes Told work r = tt

  pub work_leaves : (e : SittingEnd) → IsWork s.state → IsLeftIn plants copies e.next y n s.holder.step → IsReady plants.tells (queue_of y) n.checkpoint.tables n.id e.next
      → HasFewer (sittings_most s.state) (units_done s.state + units_left s.state) e.next → y.level + units_left e.next ≤ x.level + units_left s.state + 1
      → LeavesStep plants copies x y n s e
  work_leaves e work sits ready fewer level =
      record { sits = sits; waits = ready_waits e.next ready; goes = record { falls = fewer.falls; few = fewer.few; level = level; comes = work_comes e.next work ready } }

  pub work_all : (r : Result SittingEnd NodeNo) → IsWork s.state → IfOk r (LeavesIn plants copies y n s.holder.step (follow (sittings_most s.state) (units_done s.state + units_left s.state) (x.level + units_left s.state + 1))) → IfOk r (λ e. LeavesStep plants copies x y n s e)
  work_all (Ok e) work l = work_leaves e work l.again l.ready l.fewer l.reached
  work_all (Err why) work l = tt

-- A LINE

-- as many units are left in such a state as sittings, or fewer
line_units : (told : Type 0) (n : Member) (next : State) → WaitsOnLine told n next → units_left next ≤ sittings_most next
line_units told n (Away (Exchange l offer)) w = omega arith
line_units told n (Away (SpoolArrival number job cards service)) w = omega arith
line_units told n (Away (Acknowledge number service)) w = omega arith
line_units told n Told w = omega arith
line_units told n (Away (SpoolDeck job text)) w = absurd w
line_units told n (Away (ReadText runs job fields p)) w = absurd w
line_units told n (Away (SpoolOutputs job specs p)) w = absurd w
line_units told n (Away (PrintLines job output last p)) w = absurd w
line_units told n (Fresh task) w = absurd w
line_units told n (Rested p) w = absurd w

module _ {P C : Type 0} (plants : PlantGhosts P) (copies : CopyGhosts C) (x y : Parts P C) (m n : Member) (s : Start) (serving : IsServing s.state) (none_done : units_done s.state ≡ 0) (units : units_left s.state + 1 ≡ sittings_most s.state) where
  -- it waits on its line, for the exchange only where it has just begun, or it is told
  line_goes : (next : State) → (IsExchange next → IsLineTask s.state) → sittings_most next < sittings_most s.state → y.level + units_left next ≤ x.level + units_left s.state + 1 → WaitsOnLine plants.tells n next
      → WaitsAndGoes plants.tells (queue_of y) n s.state next x.level y.level
  line_goes (Away (Exchange l offer)) task falls level w = record { waits = w; goes = record { falls = falls; few = omega (arith, falls, none_done, units); level = level; comes = task tt } }
  line_goes (Away (SpoolArrival number job cards service)) task falls level w = record { waits = w; goes = record { falls = falls; few = omega (arith, falls, none_done, units); level = level; comes = serving } }
  line_goes (Away (Acknowledge number service)) task falls level w = record { waits = w; goes = record { falls = falls; few = omega (arith, falls, none_done, units); level = level; comes = serving } }
  line_goes Told task falls level w = record { waits = tt; goes = record { falls = falls; few = omega arith; level = level; comes = tt } }
  line_goes (Away (SpoolDeck job text)) task falls level w = absurd w
  line_goes (Away (ReadText runs job fields p)) task falls level w = absurd w
  line_goes (Away (SpoolOutputs job specs p)) task falls level w = absurd w
  line_goes (Away (PrintLines job output last p)) task falls level w = absurd w
  line_goes (Fresh task) begun falls level w = absurd w
  line_goes (Rested p) task falls level w = absurd w

  -- after its first sitting, which has one batch
  load_one : (e : SittingEnd) → IsLineTask s.state → ((t : Sitting) → Says s.holder s.state s.found t → length t.batches ≡ 1) → Sat plants s x y (Ok e) → IsSatOn plants copies x y m n s.holder.step e → WaitsOnLine plants.tells n e.next → LeavesStep plants copies x y n s e
  load_one e task one sat on w =
      let few = sat.shaped.few in
      let single = one sat.sitting sat.shaped.says in
      let next : sittings_most e.next ≡ sittings_most sat.sitting.next = ap sittings_most sat.sat.ends.next in
      let falls : sittings_most e.next < sittings_most s.state = omega (arith, few, single, next) in
      let reached = on.grown.reached in
      let left = line_units plants.tells n e.next w in
      let g = line_goes e.next (λ is. task) falls (omega (arith, reached, left, falls, units)) w in
      record { sits = on.sits; waits = g.waits; goes = g.goes }

  pub load_all : (r : Result SittingEnd NodeNo) → IsLineTask s.state → ((t : Sitting) → Says s.holder s.state s.found t → length t.batches ≡ 1) → Sat plants s x y r → IfOk r (λ e. IsSatOn plants copies x y m n s.holder.step e)
      → IfOk r (λ e. WaitsOnLine plants.tells n e.next) → IfOk r (λ e. LeavesStep plants copies x y n s e)
  load_all (Ok e) task one sat on w = load_one e task one sat on w
  load_all (Err why) task one sat on w = tt

  -- after acts
  pub serve_all : (r : Result SittingEnd NodeNo) → sittings_most s.state ≤ 2 * taken_most + 1 → IfOk r (λ e. IsLeftIn plants copies e.next y n s.holder.step) → IfOk r (λ e. WaitsOnLine plants.tells n e.next)
      → IfOk r (λ e. HasFewer (sittings_most s.state) (units_done s.state + units_left s.state) e.next) → IfOk r (λ e. y.level + units_left e.next ≤ x.level + units_left s.state + 1) → IfOk r (λ e. LeavesStep plants copies x y n s e)
  serve_all (Ok e) most sits w fewer level =
      let g = line_goes e.next (λ is. absurd (no_other e.next is most fewer.falls)) fewer.falls level w in
      record { sits = sits; waits = g.waits; goes = g.goes } where
        no_other : (next : State) → IsExchange next → sittings_most s.state ≤ 2 * taken_most + 1 → sittings_most next < sittings_most s.state → ⊥
        no_other (Away (Exchange l offer)) is most falls = absurd (omega (arith, most, falls))
        no_other (Away (SpoolArrival number job cards service)) is most falls = absurd is
        no_other (Away (Acknowledge number service)) is most falls = absurd is
        no_other (Away (SpoolDeck job text)) is most falls = absurd is
        no_other (Away (ReadText runs job fields p)) is most falls = absurd is
        no_other (Away (SpoolOutputs job specs p)) is most falls = absurd is
        no_other (Away (PrintLines job output last p)) is most falls = absurd is
        no_other (Fresh task) is most falls = absurd is
        no_other (Rested p) is most falls = absurd is
        no_other Told is most falls = absurd is
  serve_all (Err why) most sits w fewer level = tt

-- a step that waits for acts on its line, with no more frames than may come
module _ {P C : Type 0} {plants : PlantGhosts P} {steadies : SteadyGhosts C} {copies : CopyGhosts C} (x : Complex P C plants steadies copies) (m : Member) where
  pub line_right : (a : Aside) (found : Found) → aside_on_line a ≡ true → IsFoundRight plants copies (parts_of x) m.id (Away a) found → MayResumeLine plants.tells x m a found
  line_right (Exchange l offer) found on right = right
  line_right (SpoolArrival number job cards service) found on right = right
  line_right (Acknowledge number service) found on right = right
  line_right (SpoolDeck job text) found on right = absurd (cc)
  line_right (ReadText runs job fields p) found on right = absurd (cc)
  line_right (SpoolOutputs job specs p) found on right = absurd (cc)
  line_right (PrintLines job output last p) found on right = absurd (cc)

pub record IsLineStep (s : State) : Type 0 where
  pub serving : IsServing s
  pub none_done : units_done s ≡ 0
  pub units : units_left s + 1 ≡ sittings_most s
  pub most : sittings_most s ≤ 2 * taken_most + 1

pub line_step : {P C : Type 0} (plants : PlantGhosts P) (copies : CopyGhosts C) (x : Parts P C) (by : MemberId) (a : Aside) (found : Found) → aside_on_line a ≡ true → IsFoundRight plants copies x by (Away a) found → IsLineStep (Away a)
line_step plants copies x by (Exchange l offer) found on right = record { serving = tt; none_done = refl; units = omega arith; most = omega arith }
line_step plants copies x by (SpoolArrival number job cards service) found on right =
    let few = right.1 in record { serving = tt; none_done = refl; units = omega arith; most = omega (arith, few) }
line_step plants copies x by (Acknowledge number service) found on right =
    let few = right.0.few in record { serving = tt; none_done = refl; units = omega arith; most = omega (arith, few) }
line_step plants copies x by (SpoolDeck job text) found on right = absurd (cc)
line_step plants copies x by (ReadText runs job fields p) found on right = absurd (cc)
line_step plants copies x by (SpoolOutputs job specs p) found on right = absurd (cc)
line_step plants copies x by (PrintLines job output last p) found on right = absurd (cc)

-- WHAT WORK GOES ON WITH is right by what was found
module _ {P C : Type 0} (plants : PlantGhosts P) (copies : CopyGhosts C) (x : Parts P C) (by : MemberId) where
  abbrev v : Parts P C → View
  v x = plants.view x.plant

  pub resume_right : (a : Aside) (found : Found) → ((job : JobNo) (text : List (List ℕ)) → a ≡ SpoolDeck job text → ⊥) → aside_on_line a ≡ false → IsFoundRight plants copies x by (Away a) found
      → IsToResume plants x by a found
  resume_right (SpoolDeck job text) found not off right = absurd (not job text refl)
  resume_right (ReadText runs job fields p) found not off right = right
  resume_right (SpoolOutputs job specs p) found not off right = right
  resume_right (PrintLines job output last p) found not off right = right
  resume_right (Exchange l offer) found not off right = absurd (cc)
  resume_right (SpoolArrival number job cards service) found not off right = absurd (cc)
  resume_right (Acknowledge number service) found not off right = absurd (cc)

  -- so they are acts for which work waits
  pub resume_works : (a : Aside) (found : Found) → IsToResume plants x by a found → IsWork (Away a)
  resume_works (SpoolDeck job text) found may = absurd may
  resume_works (ReadText runs job fields p) found may = tt
  resume_works (SpoolOutputs job specs p) found may = tt
  resume_works (PrintLines job output last p) found may = tt
  resume_works (Exchange l offer) found may = absurd may
  resume_works (SpoolArrival number job cards service) found may = absurd may
  resume_works (Acknowledge number service) found may = absurd may
