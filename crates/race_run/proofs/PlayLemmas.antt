-- A turn of a line, as its member plays it.
use Rattle.std.proofs.Common.{◌≡◌, ◌≢◌, ◌∙◌, not, ℕ, ◌<◌, Bool, true, false, List, ◌∷◌, Option, Some, Result, Ok, Err, refl, sym, ap, subst, arith}
use Rattle.std.specs.Prelude.{IfSome}
use Rattle.mas_types.specs.declared.ids.MemberId.{MemberId}
use Rattle.mas_types.specs.declared.queues.Queue.{Queue}
use Rattle.script_lang.specs.declared.types.Ask.{Ask}
use Rattle.spool_plant.specs.Acts.{Goes, Rose}
use Rattle.spool_plant.specs.declared.plant.Part.TheVariants.{Console}
use Rattle.spool_plant.specs.View.{View}
use Rattle.spool_plant.specs.declared.plant.Plant.{Ghosts as PlantGhosts}
use Rattle.ckpt_copy.specs.declared.copying.Copying.{Ghosts as CopyGhosts}
use Rattle.ckpt_form.specs.declared.steady.Steady.{Ghosts as SteadyGhosts}
use Rattle.mas_complex.specs.declared.complex.Complex.{Complex}
use Rattle.mas_complex.specs.Parts.{shown_of}
use Rattle.gate_facts.specs.Memory.{IsLeft, Knows, Memory}
use Rattle.gate_facts.specs.Values.{marked_at, number_at}
use Rattle.gate_facts.specs.declared.marks.Marks.{Marks}
use Rattle.gate_facts.specs.Ways.{EachWay}
use Rattle.gate_turns.specs.Shared.{facts_of}
use Rattle.gate_turns.specs.Turning.{Serves}
use Rattle.gate_turns.proofs.Showing.{of_held}
use Rattle.member_node.specs.declared.member.Member.{Member}
use Rattle.member_node.specs.declared.member.NodeNo.{NodeNo}
use Rattle.member_node.specs.declared.member.NodeNo.TheVariants as no_node
use Rattle.member_racing.specs.Chains.{MayLeave}
use Rattle.race_turns.specs.Turns.{Closed}
use Rattle.race_turns.specs.Races.{Asked, Standing}
use Rattle.mas_race.specs.Between.{BetweenTurns}
use Rattle.member_racing.specs.Backs.{MayGoBack}
use Rattle.member_racing.specs.Stages.{stage_of}
use Rattle.member_racing.specs.Turned.{AddsOwn, Costs, TakesTurn}
use Rattle.member_racing.specs.Turning.{raced_at}
use Rattle.member_racing.specs.declared.stages.Stage.{Stage as Stands}
use Rattle.member_racing.specs.declared.stages.Stage.TheVariants as line
use Rattle.race_run.specs.Races.{seen_in}
use Rattle.race_run.specs.Racing.{GoesOn, HasClosed, HasEnded, IsCausedIn, MayRace, asked_at, console_mark}
use Rattle.race_run.proofs.LineLemmas.{turn_closes, turn_ends, turn_goes_on}

-- only a line that has closed stands so
pub not_closed : (s : Stands) → s ≢ line.Closed → stage_of s ≡ Closed → ⊥
not_closed line.Opens other is = absurd (cc)
not_closed (line.Sits at) other is = absurd (cc)
not_closed (line.Acts at) other is = absurd (cc)
not_closed line.Closed other is = other refl

-- one who serves a member alone
pub serves_it : (bound : Option ℕ) (m : ℕ) → bound ≡ Some m → Serves bound m
serves_it bound m is = subst (λ (b : Option ℕ). Serves b m) (sym is) refl

module _ {P C : Type 0} {plants : PlantGhosts P} {steadies : SteadyGhosts C} {copies : CopyGhosts C} where
  -- WHAT IT MAY HAND BACK
  module _ (finds rests : Complex P C plants steadies copies → Type 0)
      (follows : Complex P C plants steadies copies → Complex P C plants steadies copies → Type 0) (bound : Option ℕ)
      (cares : Bool → List Bool) (entry : View) (base : Queue) (m : Member) (at : ℕ)
      (may : MayRace finds follows rests bound cares entry base m at) (k : MemberId)
      (x y : Complex P C plants steadies copies) (r : Result Stands NodeNo) (same : k ≡ m.id) (rest : rests x)
      (between : BetweenTurns y) (costs : Costs k x y r) (adds : AddsOwn k x y) where
    pub rests_so : rests y
    rests_so = may.keeps x y r rest between (subst (λ (i : MemberId). Costs i x y r) same costs) (subst (λ (i : MemberId). AddsOwn i x y) same adds)

    pub leaves_so : MayGoBack k x y → MayLeave rests bound cares x y
    leaves_so back =
        let back_by : MayGoBack m.id x y = subst (λ (i : MemberId). MayGoBack i x y) same back in
        subst (λ (b : Option ℕ). MayLeave rests b cares x y) (sym may.is_bound) (record {
          rest = rests_so;
          theirs = record { bare = (back_by (cares false) (may.cared false)).bare; told = λ t. (back_by (cares true) (may.cared true)).told t };
        })

  -- what is known of the value that it found, and of the one that it left
  pub known_it : (bound : Option ℕ) (m : ℕ) (y : Bool → Memory) (held : Option (Complex P C plants steadies copies)) (x : Complex P C plants steadies copies)
      → bound ≡ Some m → held ≡ Some x
      → IfSome held (λ z. EachWay plants.tells (λ b. (k : ℕ) → Serves bound k → Knows k (y b) (facts_of b (shown_of z))))
      → EachWay plants.tells (λ b. Knows m (y b) (facts_of b (shown_of x)))
  known_it bound m y held x is has known =
      let here = of_held held x (λ z. EachWay plants.tells (λ b. (k : ℕ) → Serves bound k → Knows k (y b) (facts_of b (shown_of z)))) has known in
      record { bare = here.bare m (serves_it bound m is); told = λ t. here.told t m (serves_it bound m is) }

  pub left_it : (bound : Option ℕ) (m : ℕ) (y : Bool → Memory) (held : Option (Complex P C plants steadies copies)) (x : Complex P C plants steadies copies)
      → bound ≡ Some m → held ≡ Some x
      → IfSome held (λ z. EachWay plants.tells (λ b. (k : ℕ) → Serves bound k → IsLeft k (y b) (facts_of b (shown_of z))))
      → EachWay plants.tells (λ b. IsLeft m (y b) (facts_of b (shown_of x)))
  left_it bound m y held x is has left =
      let here = of_held held x (λ z. EachWay plants.tells (λ b. (k : ℕ) → Serves bound k → IsLeft k (y b) (facts_of b (shown_of z)))) has left in
      record { bare = here.bare m (serves_it bound m is); told = λ t. here.told t m (serves_it bound m is) }

  -- WHY THE RUN ENDED
  pub caused_by : (entry : View) (k : MemberId) (m : ℕ) (x y : Complex P C plants steadies copies) (y1 : Memory) (e : NodeNo)
      → IsLeft m y1 (facts_of false (shown_of y)) → Goes entry (plants.view x.plant) → Costs k x y (Err e)
      → IsCausedIn entry y1 (Err e)
  caused_by entry k m x y y1 no_node.BothLost left since costs =
      let both = costs.both refl in (
        ap (λ (z : Marks). marked_at z.lost 0) left.marks ∙ ap not both.0,
        ap (λ (z : Marks). marked_at z.lost 1) left.marks ∙ ap not both.1,
      )
  caused_by entry k m x y y1 no_node.ConsoleFault left since costs =
      let rose = costs.failed refl in
      let before = since.faults Console in
      subst (λ (n : ℕ). Rose (entry.faults Console) n) (sym (ap (λ (z : Marks). number_at z.faults console_mark) left.marks)) (omega (arith, rose, before))
  caused_by entry k m x y y1 no_node.Halted left since costs = tt
  caused_by entry k m x y y1 no_node.NoMemory left since costs = tt

  -- WHAT IT DID

  module _ (entry : View) (base : Queue) (by k : MemberId) (number : ℕ) (what : Ask) (stands : Stands)
      (x y : Complex P C plants steadies copies) (y0 y1 : Memory) where
    -- The member played a turn of its line: it found one value and left the other, of which its pass knew this and
    -- remembers that.
    pub record IsPlayed (result : Result Stands NodeNo) : Type 0 where
      pub same : k ≡ by
      pub turn : TakesTurn (raced_at k number what stands) x y result
      pub base_is : x.base ≡ base
      pub some : 0 < by.0
      pub cared : (marked_at y0.cares by.0 ≡ true) × (marked_at y1.cares by.0 ≡ true)
      pub knows : Knows by.0 y0 (facts_of true (shown_of x))
      pub left : IsLeft by.0 y1 (facts_of true (shown_of y))
      pub since : Goes entry (plants.view x.plant)
      pub costs : Costs k x y result

    module _ (result : Result Stands NodeNo) (p : IsPlayed result) where
      turn_by : TakesTurn (raced_at by number what stands) x y result
      turn_by = subst (λ (i : MemberId). TakesTurn (raced_at i number what stands) x y result) p.same p.turn

      costs_by : Costs by x y result
      costs_by = subst (λ (i : MemberId). Costs i x y result) p.same p.costs

      module _ (at : Standing) (lines : List Asked) (was : Memory) (first : at.lines ≡ asked_at number what ∷ lines)
          (g : GoesOn base by (seen_in base entry by) (stage_of stands) at was y0) where
        here : GoesOn x.base by (seen_in x.base entry by) (stage_of stands) at was y0
        here = subst (λ (b : Queue). GoesOn b by (seen_in b entry by) (stage_of stands) at was y0) (sym p.base_is) g

        pub played_on : (done : Stands) → result ≡ Ok done → done ≢ line.Closed
            → GoesOn base by (seen_in base entry by) (stage_of done) at was y1
        played_on done ok other = subst (λ (b : Queue). GoesOn b by (seen_in b entry by) (stage_of done) at was y1) p.base_is
            (turn_goes_on entry by number what stands x y result turn_by was y0 y1 p.some p.cared.0 p.cared.1 p.knows p.left p.since costs_by at lines first here
            done ok (not_closed done other))

        pub played_close : (done : Stands) → result ≡ Ok done → done ≡ line.Closed
            → HasClosed base by (seen_in base entry by) at lines was y1
        played_close done ok closed = subst (λ (b : Queue). HasClosed b by (seen_in b entry by) at lines was y1) p.base_is
            (turn_closes entry by number what stands x y result turn_by was y0 y1 p.some p.cared.0 p.cared.1 p.knows p.left p.since costs_by at lines first here
            done ok (ap stage_of closed))

        pub played_end : (e : NodeNo) → result ≡ Err e → HasEnded base by (seen_in base entry by) true at was y1
        played_end e err = subst (λ (b : Queue). HasEnded b by (seen_in b entry by) true at was y1) p.base_is
            (turn_ends entry by number what stands x y result turn_by was y0 y1 p.some p.cared.0 p.cared.1 p.knows p.left p.since costs_by at lines first here e err)
