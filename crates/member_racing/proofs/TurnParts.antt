-- A turn that was tried and ended, as a whole: what it adds, whose calls of the book it made, and what it costs.
use Rattle.std.proofs.Common.{◌≡◌, ◌∙◌, ◌⊎◌, inl, inr, ⊎_elim, ◌==◌, ℕ, Bool, true, false, Result, Err, ap, refl, subst, sym}
use Rattle.std.proofs.lemmas.Bool.{eqb-false as apart_is, eqb-true}
use Rattle.mas_types.specs.declared.ids.MemberId.{MemberId}
use Rattle.mas_types.specs.Ids.{is_somebody}
use Rattle.lock_cycle.specs.Books.{IsMember, is_stopped}
use Rattle.script_lang.specs.declared.types.Ask.{Ask}
use Rattle.spool_plant.specs.declared.plant.Plant.{Ghosts as PlantGhosts}
use Rattle.spool_plant.specs.Acts.{Rose}
use Rattle.spool_plant.specs.View.{View}
use Rattle.ckpt_copy.specs.declared.copying.Copying.{Ghosts as CopyGhosts}
use Rattle.ckpt_form.specs.declared.steady.Steady.{Ghosts as SteadyGhosts}
use Rattle.step_turns.specs.Laws.{on_line}
use Rattle.step_turns.specs.declared.states.Holder.{Holder}
use Rattle.mas_complex.specs.declared.complex.Complex.{Complex}
use Rattle.mas_complex.specs.Parts.{Parts, parts_of}
use Rattle.mas_race.specs.Between.{BetweenTurns}
use Rattle.member_node.specs.declared.member.Member.{Member}
use Rattle.member_node.specs.declared.member.NodeNo.{NodeNo}
use Rattle.member_node.specs.declared.member.NodeNo.TheVariants as no_node
use Rattle.member_resets.specs.Plays.{played_in}
use Rattle.member_resets.specs.Stand.{Stand}
use Rattle.member_racing.specs.Opened.{Tries, done_of}
use Rattle.member_racing.specs.Stages.{Raced}
use Rattle.member_racing.specs.Turned.{Costs}
use Rattle.member_racing.specs.Turning.{EndsTurn, MayEnd, raced_at}
use Rattle.member_racing.specs.Waits.{MaySitNext, Waits, WaitsAt, is_begun}
use Rattle.member_racing.specs.declared.stages.Stage.{Stage as Stands}
use Rattle.member_racing.specs.declared.stages.Stage.TheVariants as line
use Rattle.member_racing.proofs.Adding.{AddsOf, Mine, adds_as, end_base, end_journal}
use Rattle.member_racing.proofs.AddingTurn.{tries_adds}
use Rattle.member_racing.proofs.Books.{OnlyBy}
use Rattle.member_racing.proofs.BooksEnd.{turn_only, turn_stops}
use Rattle.member_racing.proofs.BooksTurn.{inside_only, tries_only}
use Rattle.member_racing.proofs.CostTurn.{EndedActs, acts_ended, cost_of}
use Rattle.member_racing.proofs.Costing.{TurnActs, tries_acts}
use Rattle.member_racing.proofs.Given.{next_kept}
use Rattle.member_racing.proofs.OwnEntries.{MayFly}
use Rattle.member_racing.proofs.Members.{few_of, inside_of, some_of, somebody_of}

by_test : {A : Type 0} (b : Bool) → (b ≡ true → A) → (b ≡ false → A) → A
by_test true f g = f refl
by_test false f g = g refl

module _ {P C : Type 0} {plants : PlantGhosts P} {steadies : SteadyGhosts C} {copies : CopyGhosts C} (x mid : Complex P C plants steadies copies) (m n : Member) (at : ℕ) (what : Ask) (s : Stands) (tried : Result Stands NodeNo) (rest : BetweenTurns x) (waits : Waits x m at what s)
    (tries : Tries (raced_at m.id at what s) x mid m n tried) where
  abbrev r : Raced
  r = raced_at m.id at what s

  abbrev v : Complex P C plants steadies copies → View
  v c = plants.view c.plant

  its : (stand : Stand) → s ≡ line.Sits stand → (stand.holder.by ≡ m.id) × (stand.holder.step ≡ at) × (on_line stand.state ≡ false) × (is_begun stand.state ≡ true)
  its stand is =
      let at_it : MaySitNext plants copies (parts_of x) m at stand = subst (λ (q : Stands). WaitsAt plants copies (parts_of x) m at q) is waits.stands in
      (ap (λ (h : Holder). h.by) at_it.goes.holder, ap (λ (h : Holder). h.step) at_it.goes.holder, at_it.goes.off, at_it.goes.begun)

  pub its_by : (stand : Stand) → s ≡ line.Sits stand → stand.holder.by ≡ m.id
  its_by stand is = (its stand is).0

  pub inside : IsMember x.book m.id
  inside = inside_of x.base.config m.id waits.member x.book rest.members

  pub adds_tried : AddsOf (Mine plants copies x.book m.id at (MayFly tried)) (parts_of x) (parts_of mid)
  adds_tried = tries_adds r x rest (parts_of mid) m n tried refl waits.member waits.asked its tries

  pub only_tried : OnlyBy m.id x.book mid.book
  only_tried = tries_only plants copies r (parts_of x) (parts_of mid) m n tried refl inside its_by tries

  pub acts_tried : TurnActs plants m.id (parts_of x) (parts_of mid) (done_of tried)
  acts_tried = tries_acts plants copies r (some_of x.base.config m.id waits.member) (parts_of x) (parts_of mid) m n tried refl waits.asked its_by tries

  -- IT MAY BE ENDED
  pub may_end : MayEnd m.id at mid tried
  may_end = record {
    member = inside_only m.id x.book mid.book only_tried inside;
    few = few_of x.base.config m.id waits.member waits.config;
    step = waits.few;
    kept = λ halted t. next_kept x.book m.id at (MayFly tried) x mid adds_tried m.id (v mid).now rest.own waits.given;
  }

  -- ONCE IT WAS ENDED

  module _ (y : Complex P C plants steadies copies) (result : Result Stands NodeNo) (ends : EndsTurn m.id at mid y tried result) where
    pub adds_end : AddsOf (Mine plants copies x.book m.id at (MayFly tried)) (parts_of x) (parts_of y)
    adds_end = adds_as _ (parts_of x) (parts_of mid) (parts_of y) (end_journal m.id at mid y tried result ends) adds_tried

    pub only_end : OnlyBy m.id x.book y.book
    only_end = turn_only r x mid y m n tried result refl its_by tries ends inside

    pub stops_end : is_stopped y.book m.id ≡ true → (is_stopped x.book m.id ≡ true) ⊎ (tried ≡ Err no_node.Halted)
    stops_end = turn_stops r x mid y m n tried result refl its_by tries ends (somebody_of x.base.config m.id waits.member)

    pub acts_end : EndedActs plants m.id (parts_of x) (parts_of y) result
    acts_end = acts_ended m.id at (parts_of x) mid y tried result ends acts_tried

    -- a member that was halted has been stopped
    pub rose_halted : tried ≡ Err no_node.Halted → Rose ((v x).stops m.id.0) ((v y).stops m.id.0)
    rose_halted is =
        let a : TurnActs plants m.id (parts_of x) (parts_of mid) (Err no_node.Halted) = subst (λ (t : Result Stands NodeNo). TurnActs plants m.id (parts_of x) (parts_of mid) (done_of t)) is acts_tried in
        let e : EndsTurn m.id at mid y (Err no_node.Halted) result = subst (λ (t : Result Stands NodeNo). EndsTurn m.id at mid y t result) is ends in
        subst (λ (k : ℕ). Rose ((v x).stops m.id.0) k) (sym (e.says.spares.stops m.id.0 (inr refl) ∙ ap (λ (q : Parts P C). (plants.view q.plant).stops m.id.0) e.stopped)) a.cause.1

    pub stopped_end : (k : MemberId) → is_somebody k ≡ true → is_stopped y.book k ≡ true → (is_stopped x.book k ≡ true) ⊎ Rose ((v x).stops k.0) ((v y).stops k.0)
    stopped_end k some down = by_test (k.0 == m.id.0)
        (λ same.
        let one : m.id ≡ k = ap (λ (j : ℕ). let i : MemberId = record { 0 = j } in i) (sym (eqb-true k.0 m.id.0 same)) in
        subst (λ (i : MemberId). is_stopped y.book i ≡ true → (is_stopped x.book i ≡ true) ⊎ Rose ((v x).stops i.0) ((v y).stops i.0)) one
        (λ its_down. ⊎_elim (λ was. inl was) (λ halted. inr (rose_halted halted)) (stops_end its_down)) down)
        (λ other. inl (sym (only_end.others k some (apart_is k.0 m.id.0 other)) ∙ down))

    -- WHAT IT COSTS, where copies were replaced as before
    pub costs_end : parts_of mid ≡ played_in (parts_of mid) (parts_of x) → Costs m.id x y result
    costs_end frame =
        cost_of m.id at (parts_of x) mid y result acts_end ((end_base m.id at mid y tried result ends).renewals ∙ ap (λ (q : Parts P C). q.renewals) frame) stopped_end
