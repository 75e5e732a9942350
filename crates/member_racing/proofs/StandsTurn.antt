-- What a line waits for at its member, after each kind of turn.
use Rattle.std.proofs.Common.{◌≡◌, ◌≢◌, ◌∙◌, ⊎_elim, ◌≤◌, ℕ, true, false, All, Option, Some, None, IfOk, Result, Ok, Err, ap, refl, subst, sym}
use Rattle.mas_types.specs.declared.ids.MemberId.{MemberId}
use Rattle.mas_types.specs.Ids.{is_somebody}
use Rattle.mas_types.specs.Limits.{members_most}
use Rattle.mas_types.specs.Sound.{IsSound}
use Rattle.lock_cycle.specs.Books.{IsMember, is_holder, is_stopped}
use Rattle.spool_plant.specs.View.{disk_now}
use Rattle.spool_plant.specs.declared.plant.Plant.{Ghosts as PlantGhosts}
use Rattle.ckpt_copy.specs.declared.copying.Copying.{Ghosts as CopyGhosts}
use Rattle.ckpt_form.specs.declared.steady.Steady.{Ghosts as SteadyGhosts}
use Rattle.duplex_pair.specs.Halves.{SomeAlive}
use Rattle.mas_complex.specs.declared.complex.Complex.{Complex}
use Rattle.mas_complex.specs.Paper.{counts_of}
use Rattle.mas_complex.specs.Parts.{Parts, parts_of}
use Rattle.gate_turns.specs.Desks.{groups_from}
use Rattle.mas_race.specs.Between.{BetweenTurns, is_held}
use Rattle.race_turns.specs.Turns.{left_holder, racer}
use Rattle.run_turns.specs.Admissions.{Admission, Denied, Frees, Locks, Plays, Refused, Replaces, Resets, TakesOver, Unplayed, admitted}
use Rattle.script_lang.specs.declared.types.Ask.{Ask}
use Rattle.step_turns.specs.declared.states.Holder.{Holder}
use Rattle.step_turns.specs.declared.states.State.TheVariants.{Fresh}
use Rattle.step_turns.specs.Laws.{on_line}
use Rattle.member_resets.specs.Locks.{MayHold}
use Rattle.member_resets.specs.Plays.{played_in}
use Rattle.member_resets.specs.Sits.{AreFewUnits}
use Rattle.member_resets.specs.Stand.{Stand}
use Rattle.member_node.specs.declared.member.Member.{Member}
use Rattle.member_node.specs.declared.member.NodeNo.{NodeNo}
use Rattle.member_node.specs.declared.member.NodeNo.TheVariants as no_node
use Rattle.member_sittings.specs.Sat.{Start, begins}
use Rattle.member_sittings.specs.Whole.{queue_of}
use Rattle.member_racing.specs.Asked.{IsKnown}
use Rattle.member_racing.specs.Kinds.{ActsBy, ResetsTaken, SitsBy, SitsOut, TakesBy}
use Rattle.member_racing.specs.Opened.{GoesAs, KeepsActing, OpensAs, TakesUp, Tries, UnlessLeft, done_of, tried as try_of}
use Rattle.member_racing.specs.Stages.{Raced, stood_of}
use Rattle.member_racing.specs.Turning.{EndsTurn, closed_by, raced_at}
use Rattle.member_racing.specs.Waits.{MayActNext, MaySitNext, Waits, WaitsAt}
use Rattle.member_racing.specs.declared.stages.Stage.{Stage as Stands}
use Rattle.member_racing.specs.declared.stages.Stage.TheVariants as line
use Rattle.member_racing.proofs.ActsSit.{acts_sit}
use Rattle.member_racing.proofs.BooksStill.{tries_still}
use Rattle.member_racing.proofs.BooksTurn.{inside_only}
use Rattle.member_racing.proofs.GroupsStill.{Kept}
use Rattle.member_racing.proofs.GroupsTurn.{takes_same}
use Rattle.member_racing.proofs.Members.{few_of, inside_of, some_of, somebody_of}
use Rattle.member_racing.proofs.OpeningLemmas.{few_task, free_now, got_may, hold_free, not_holder}
use Rattle.member_racing.proofs.OthersGave.{OthersGave}
use Rattle.member_racing.proofs.StandLemmas.{stands_next}
use Rattle.member_racing.proofs.StandsOn.{acts_as, acts_still, sits_as, sits_still}
use Rattle.member_racing.proofs.TakenOver.{counts_took, groups_same, others_took}
use Rattle.member_racing.proofs.TurnParts.{its_by, only_tried}

-- ANSWERS

ok_stands : (p q : Stands) (r : Result Stands NodeNo) → r ≡ Ok p → r ≡ Ok q → p ≡ q
ok_stands p q r one two = let same : Ok p ≡ r = sym one in let both : Ok p ≡ Ok q = same ∙ two in cc

no_err : (e : NodeNo) (q : Stands) (r : Result Stands NodeNo) → r ≡ Err e → r ≡ Ok q → ⊥
no_err e q r one two = absurd (let both : Err e ≡ Ok q = sym one ∙ two in cc)

ok_as : (r : Result Stands NodeNo) (A : Stands → Type 0) → IfOk r A → (q : Stands) → r ≡ Ok q → A q
ok_as (Ok p) A a q is = subst A (ok_stands p q (Ok p) refl is) a
ok_as (Err e) A a q is = absurd (no_err e q (Err e) refl is)

said_closed : (said : Result (Unit {0}) NodeNo) (q : Stands) → closed_by said ≡ Ok q → q ≡ line.Closed
said_closed (Ok done) q is = let same : line.Closed ≡ q = cc in sym same
said_closed (Err e) q is = absurd (cc)

not_halted : (q : Stands) → done_of (Ok q) ≢ Err no_node.Halted
not_halted q e = absurd (cc)

module _ {P C : Type 0} {plants : PlantGhosts P} {steadies : SteadyGhosts C} {copies : CopyGhosts C} (x mid : Complex P C plants steadies copies) (m n : Member) (at : ℕ) (what : Ask) (s : Stands) (tried : Result Stands NodeNo) (rest : BetweenTurns x) (waits : Waits x m at what s)
    (tries : Tries (raced_at m.id at what s) x mid m n tried) (frame : parts_of mid ≡ played_in (parts_of mid) (parts_of x)) (id : n.id ≡ m.id) (acting : IfOk tried (λ q. KeepsActing s q m n)) where
  abbrev by : MemberId
  by = m.id

  abbrev r : Raced
  r = raced_at by at what s

  abbrev p : Parts P C
  p = parts_of x

  abbrev k : Parts P C
  k = parts_of mid

  some : 1 ≤ by.0
  some = some_of x.base.config by waits.member

  few : by.0 ≤ members_most
  few = few_of x.base.config by waits.member waits.config

  somebody : is_somebody by ≡ true
  somebody = somebody_of x.base.config by waits.member

  here : IsMember x.book by
  here = inside_of x.base.config by waits.member x.book rest.members

  base : mid.base ≡ x.base
  base = ap (λ (q : Parts P C). q.base) frame

  abbrev Waiting : Stands → Type 0
  Waiting q = WaitsAt plants copies k n at q

  moved : (q t : Stands) → q ≡ t → Waiting t → Waiting q
  moved q t same w = subst Waiting (sym same) w

  still : (q : Stands) → tried ≡ Ok q → is_stopped mid.book by ≡ is_stopped x.book by
  still q is = tries_still plants copies r p k m n tried refl (its_by x mid m n at what s tried rest waits tries) tries (subst (λ (t : Result Stands NodeNo). done_of t ≢ Err no_node.Halted) (sym is) (not_halted q))

  -- THE LOCK WAS TAKEN OVER in the middle

  module _ (q : Stands) (is : tried ≡ Ok q) (alive : SomeAlive x.pair.first.alive x.pair.second.alive) (of : MemberId) (left : left_holder x.book ≡ Some of) (u : TakesUp plants copies (stood_of r) of p k tried) (up : is_stopped x.book by ≡ false) where
    took : ResetsTaken plants copies by at of p k
    took = subst (λ (t : Result Stands NodeNo). TakesBy plants copies by at of p k (done_of t)) is u.takes

    gave : plants.tells → ∥ OthersGave by (queue_of p) (queue_of k) ∥₁
    gave = others_took x rest alive by of somebody up left at k took base waits.sound

    counts : counts_of k.printed by ≡ counts_of p.printed by
    counts = counts_took x rest alive by of somebody up left at k took

    spared : plants.tells → All (Kept x.base.config.groups (disk_now (plants.view x.plant)) (disk_now (plants.view mid.plant))) (groups_from by 0 (queue_of p).owners)
    spared t = groups_same x.base.config.groups (plants.view x.plant) (plants.view mid.plant) (takes_same plants copies by at of p k (Ok tt) took t) (groups_from by 0 (queue_of p).owners)

    up_mid : is_stopped mid.book by ≡ false
    up_mid = still q is ∙ up

    there : IsMember mid.book by
    there = inside_only by x.book mid.book (only_tried x mid m n at what s tried rest waits tries) here

    sits_took : (stand : Stand) → MaySitNext plants copies p m at stand → MaySitNext plants copies k n at stand
    sits_took stand w = sits_as plants copies k m n id at stand (sits_still plants copies p k m at somebody base up_mid gave counts spared there took.quiet.roomy stand w)

    acts_took : n.checkpoint ≡ m.checkpoint → (stand : Stand) → MayActNext plants copies p m at stand → MayActNext plants copies k n at stand
    acts_took same stand w = acts_as plants copies k m n id same at stand (acts_still plants copies p k m at somebody base up_mid gave counts spared there took.quiet.roomy stand w)

  -- by who holds the lock
  unless : {X : Type 0} (z : Parts P C) (A : Type 0) (l : Option MemberId) → UnlessLeft plants copies l (stood_of r) z k tried A → (l ≡ None → A → X) → ((of : MemberId) → l ≡ Some of → TakesUp plants copies (stood_of r) of z k tried → X) → X
  unless z A None u f g = f refl u
  unless z A (Some of) u f g = g of refl u

  -- IT SAT

  sat_by : (start : Start) (z : Parts P C) → MayHold z.book start.holder.by → z.base ≡ x.base → on_line start.state ≡ false → AreFewUnits start.state → start.holder ≡ racer z.base.config n.id at → (q : Stands) → tried ≡ Ok q → SitsBy plants copies start z k n tried → Waiting q
  sat_by start z hold same off low holder q is o =
      let out : SitsOut plants copies start z k n q = subst (λ (t : Result Stands NodeNo). SitsBy plants copies start z k n t) is o in
      stands_next plants copies start z k n at q out hold (λ t. subst IsSound (sym same) (waits.sound t)) off low holder

  -- BY WHERE IT STOOD

  module _ (q : Stands) (is : tried ≡ Ok q) (alive : SomeAlive x.pair.first.alive x.pair.second.alive) (unheld : is_held x.book ≡ false) where
    closed : IfOk tried (λ next. next ≡ line.Closed) → Waiting q
    closed comes = moved q line.Closed (ok_as tried (λ next. next ≡ line.Closed) comes q is) tt

    opens : s ≡ line.Opens → (a : Admission) → IsKnown x.base x.book by a → OpensAs plants copies r p k m n tried a → Waiting q
    opens at_first (Refused sayer end) known o = closed o.next
    opens at_first (Denied why) known o = unless (try_of by p) _ (left_holder x.book) o
        (λ none w. moved q line.Opens (ok_stands q s tried is w.answer ∙ at_first) tt)
        (λ of left u. moved q line.Opens (ok_as tried (λ next. next ≡ s) u.next q is ∙ at_first) tt)
    opens at_first (Plays task) known o =
        let up = known.0.up in
        let other : is_holder x.book by ≡ false = not_holder x.book by unheld some up in
        sat_by (begins (racer x.base.config by at) (Fresh task)) (try_of by p) (got_may x.book by up other known.1 here some few) refl known.3 (few_task x.base by task known.2 known.3)
        (ap (λ (i : MemberId). racer x.base.config i at) (sym id)) q is o
    opens at_first (Resets of) known o = closed o.0
    opens at_first (TakesOver of) known o = closed o.0
    opens at_first (Replaces dev) known o = absurd o
    opens at_first Locks known o = absurd o
    opens at_first Frees known o = absurd o
    opens at_first Unplayed known o = absurd o

    goes : (t : Stands) → s ≡ t → GoesAs plants copies r p k m n tried t → Waiting q
    goes line.Opens same o = opens same (admitted x.base.config x.book by what) (waits.asked.known x.book) o
    goes (line.Sits stand) same o =
        let w : MaySitNext plants copies p m at stand = subst (λ (t : Stands). WaitsAt plants copies p m at t) same waits.stands in
        unless p _ (left_holder x.book) o
        (λ none sits.
        sat_by (record { holder = stand.holder; state = stand.state; found = stand.found }) p
        (subst (λ (i : MemberId). MayHold x.book i) (ap (λ (h : Holder). h.by) (sym w.goes.holder)) (hold_free x.book by here some few w.goes.up (free_now x.book unheld none))) refl w.goes.off w.goes.few
        (w.goes.holder ∙ ap (λ (i : MemberId). racer x.base.config i at) (sym id)) q is sits)
        (λ of left u. moved q (line.Sits stand) (ok_as tried (λ next. next ≡ s) u.next q is ∙ same) (sits_took q is alive of left u w.goes.up stand w))
    goes (line.Acts stand) same o =
        let w : MayActNext plants copies p m at stand = subst (λ (t : Stands). WaitsAt plants copies p m at t) same waits.stands in
        unless p _ (left_holder x.book) o
        (λ none acts.
        let a : ActsBy plants copies p k m stand (Ok q) = subst (λ (t : Result Stands NodeNo). ActsBy plants copies p k m stand t) is acts.0 in
        let sits : MaySitNext plants copies k m at a.0 = subst (λ (d : Stand). MaySitNext plants copies k m at d) (sym a.3) (acts_sit plants copies p k m at somebody rest.roomy stand a.1 a.0.found w a.4) in
        moved q (line.Sits a.0) a.2 (subst (λ (j : Member). MaySitNext plants copies k j at a.0) (sym acts.1) sits))
        (λ of left u.
        let there : q ≡ line.Acts stand = ok_as tried (λ next. next ≡ s) u.next q is ∙ same in
        let kept : KeepsActing (line.Acts stand) (line.Acts stand) m n = subst (λ (t : Stands). KeepsActing (line.Acts stand) t m n) there (subst (λ (t : Stands). KeepsActing t q m n) same (ok_as tried (λ t. KeepsActing s t m n) acting q is)) in
        moved q (line.Acts stand) there (acts_took q is alive of left u w.goes.up kept stand w))
    goes line.Closed same o = moved q line.Closed (ok_stands q s tried is o.answer ∙ same) tt

  -- as it was tried
  stands_mid : (q : Stands) → tried ≡ Ok q → Waiting q
  stands_mid q is = ⊎_elim
      (λ idle. absurd (⊎_elim (λ a. no_err no_node.BothLost q tried a.0 is) (λ a. no_err no_node.NoMemory q tried a.0 is) idle.answer))
      (λ g. goes q is g.0 g.1 s refl g.2) tries

  -- ONCE IT WAS ENDED

  module _ (y : Complex P C plants steadies copies) (result : Result Stands NodeNo) (ends : EndsTurn by at mid y tried result) where
    by_tried : (t : Result Stands NodeNo) → tried ≡ t → EndsTurn by at mid y t result → (q : Stands) → result ≡ Ok q → WaitsAt plants copies (parts_of y) n at q
    by_tried (Ok t) same e q is =
        let one : tried ≡ Ok q = same ∙ ap (λ (d : Stands). let a : Result Stands NodeNo = Ok d in a) (ok_stands t q result e.1 is) in
        subst (λ (z : Parts P C). WaitsAt plants copies z n at q) (sym e.0) (stands_mid q one)
    by_tried (Err no_node.BothLost) same e q is = absurd (no_err no_node.BothLost q result e.1 is)
    by_tried (Err no_node.NoMemory) same e q is = absurd (no_err no_node.NoMemory q result e.1 is)
    by_tried (Err no_node.ConsoleFault) same e q is = absurd (no_err no_node.ConsoleFault q result e.1 is)
    by_tried (Err no_node.Halted) same e q is = subst (λ (d : Stands). WaitsAt plants copies (parts_of y) n at d) (sym (said_closed e.said q (sym e.answer ∙ is))) tt

    pub stands : (q : Stands) → result ≡ Ok q → WaitsAt plants copies (parts_of y) n at q
    stands q is = by_tried tried refl ends q is
