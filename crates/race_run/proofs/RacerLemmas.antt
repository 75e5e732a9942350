-- A member's pass takes turns for its lines.
use Rattle.std.proofs.Common.{◌≡◌, ◌∙◌, not, ℕ, ◌<◌, Bool, true, false, List, if◌then◌else◌, Option, Some, None, Result, is_some, refl, sym, ap, subst, arith}
use Rattle.std.proofs.lemmas.Bool.{ne_eqb}
use Rattle.mas_types.specs.declared.ids.MemberId.{MemberId}
use Rattle.mas_types.specs.Ids.{is_somebody}
use Rattle.spool_plant.specs.View.{View as Shown}
use Rattle.spool_plant.specs.declared.plant.Plant.{Ghosts as PlantGhosts}
use Rattle.ckpt_copy.specs.declared.copying.Copying.{Ghosts as CopyGhosts}
use Rattle.ckpt_form.specs.declared.steady.Steady.{Ghosts as SteadyGhosts}
use Rattle.script_lang.specs.declared.types.Step.{Step}
use Rattle.mas_complex.specs.declared.complex.Complex.{Complex}
use Rattle.mas_complex.specs.Parts.{parts_of, shown_of}
use Rattle.gate_turns.specs.Shared.{facts_of}
use Rattle.gate_facts.specs.Memory.{Knows, Memory}
use Rattle.gate_facts.specs.Values.{marked_at}
use Rattle.gate_facts.specs.Ways.{EachWay}
use Rattle.member_gate.specs.Marking.{single}
use Rattle.member_gate.specs.Passes.{view}
use Rattle.member_gate.specs.Views.{memory_by, memory_in, sees}
use Rattle.member_gate.specs.declared.pass.Pass.{Pass}
use Rattle.member_gate.specs.declared.view.View.{View}
use Rattle.member_gate.proofs.Places.{single_here}
use Rattle.member_node.specs.declared.member.Member.{Member}
use Rattle.member_node.specs.declared.member.NodeNo.{NodeNo}
use Rattle.mas_race.specs.Beginnings.{Began}
use Rattle.mas_race.specs.Passings.{PassPlace, RestsAs, found_after, found_by}
use Rattle.member_racing.proofs.Waiting.{waits_next}
use Rattle.race_run.specs.Races.{seen_in}
use Rattle.race_run.specs.Racers.{MayRaceWithin, RacedWith}
use Rattle.race_run.specs.Racing.{AreRaced, IsCausedIn, MayRace}
use Rattle.race_run.proofs.FromLemmas.{comes_then}

-- one whose turn isn't there hasn't it
pub has_none : {A : Type 0} (has : Bool) (value : Option A) → (has ≡ true → is_some value ≡ true)
    → (if has then value else None) ≡ None → has ≡ false
has_none false value out held = refl
has_none true (Some x) out held = absurd (cc)
has_none true None out held = absurd (let is = out refl in cc)

pub some_number : (m : MemberId) → 0 < m.0 → is_somebody m ≡ true
some_number m some = ap not (ne_eqb m.0 0 (λ is. omega (arith, some, is)))

module _ {P C : Type 0} {plants : PlantGhosts P} {steadies : SteadyGhosts C} {copies : CopyGhosts C} where
  -- what is known of a value after another
  abbrev pub KnowsBy : ℕ → List Bool → Complex P C plants steadies copies → Complex P C plants steadies copies → Type 0
  KnowsBy m cares x y = EachWay plants.tells (λ told. Knows m (memory_by cares (sees m (facts_of told (shown_of x)))) (facts_of told (shown_of y)))

  -- it may take turns for the lines of its member
  pub racer_may : {V : Type 0} (p : Pass V) (value : V → Complex P C plants steadies copies) (o : Began) (m : Member) (steps : List Step)
      → MayRaceWithin p value o m steps
      → (finds : Complex P C plants steadies copies → Type 0) (place : PassPlace) (bound : Option ℕ) (memory : Bool → Memory)
      → ((x : Complex P C plants steadies copies) → finds x → found_by o (view p) x)
      → place.member ≡ (view p).member → place.cares ≡ (view p).cares → bound ≡ Some (view p).member
      → ((told : Bool) → memory told ≡ memory_in (view p) told)
      → MayRace finds (found_after o place) (RestsAs o) bound (λ told. (memory told).cares) o.view (memory false).base m 1
  racer_may p value o m steps may finds place bound memory found here cares is_bound known =
      let own : (told : Bool) → (memory told).cares ≡ single m.id.0 = λ told. ap (λ (y : Memory). y.cares) (known told) ∙ may.cares in
      record {
        is_bound = is_bound ∙ ap (λ (k : ℕ). let b : Option ℕ = Some k in b) may.member;
        cared = λ told. ap (λ (l : List Bool). marked_at l m.id.0) (own told) ∙ single_here m.id.0;
        somebody = may.somebody;
        first = λ x f is. may.first x (found x f);
        next = λ x y n number what s is rests follows waits.
            waits_next o x y n number what s place.cares
            (ap (λ (l : List Bool). marked_at l n.id.0) (cares ∙ may.cares) ∙ ap (λ (k : MemberId). marked_at (single m.id.0) k.0) is ∙ single_here m.id.0)
            rests follows.rest
            (subst (λ (k : ℕ). KnowsBy k place.cares x y) (here ∙ may.member ∙ ap (λ (k : MemberId). k.0) (sym is)) follows.knows)
            waits;
        between = λ x rests. rests.between;
        since = λ x rests. rests.from.goes;
        keeps = λ x y r rests between costs adds.
            record { between = between; from = comes_then plants o m.id (parts_of x) (parts_of y) r (some_number m.id may.somebody) rests.from costs adds };
      }

-- what it knows after them, if it remembers this before and after
pub raced_by : (tells : Type 0) (entry : Shown) (v w : View) (m : MemberId) (steps : List Step) (answer : Result (Unit {0}) NodeNo)
    (was is : Bool → Memory) → ((told : Bool) → was told ≡ memory_in v told) → ((told : Bool) → is told ≡ memory_in w told)
    → w.has ≡ false → w.member ≡ v.member → w.cares ≡ v.cares
    → EachWay tells (λ told. (is told).base ≡ (was told).base)
    → IsCausedIn entry (is false) answer
    → (tells → AreRaced (was true).base m (seen_in (was true).base entry m) 1 steps (was true) (is true) answer)
    → RacedWith tells entry v w m steps answer
raced_by tells entry v w m steps answer was is was_is is_is has member cares base caused raced = record {
  free = has;
  member = member;
  cares = cares;
  base = record {
    bare = sym (ap (λ (y : Memory). y.base) (is_is false)) ∙ base.bare ∙ ap (λ (y : Memory). y.base) (was_is false);
    told = λ t. sym (ap (λ (y : Memory). y.base) (is_is true)) ∙ base.told t ∙ ap (λ (y : Memory). y.base) (was_is true);
  };
  caused = subst (λ (z : Memory). IsCausedIn entry z answer) (is_is false) caused;
  raced = λ t. subst (λ (z : Memory). AreRaced (memory_in v true).base m (seen_in (memory_in v true).base entry m) 1 steps (memory_in v true) z answer) (is_is true)
      (subst (λ (z : Memory). AreRaced z.base m (seen_in z.base entry m) 1 steps z (is true) answer) (was_is true) (raced t));
}

-- and by other names of the passes
pub raced_pass : {V : Type 0} (tells : Type 0) (entry : Shown) (m : MemberId) (steps : List Step) (answer : Result (Unit {0}) NodeNo) (a b c d : Pass V) → b ≡ a → d ≡ c
    → RacedWith tells entry (view b) (view c) m steps answer → RacedWith tells entry (view a) (view d) m steps answer
raced_pass {V} tells entry m steps answer a b c d first last raced =
    subst (λ (q : Pass V). RacedWith tells entry (view a) (view q) m steps answer) (sym last)
    (subst (λ (p : Pass V). RacedWith tells entry (view p) (view c) m steps answer) first raced)
