-- What a turn that was tried adds to the journal, by where its line stood.
use Rattle.std.proofs.Common.{◌≡◌, ◌∙◌, ◌&&◌, ⊎_elim, ℕ, Bool, true, false, Option, Some, None, Result, Ok, Err, ap, refl, subst}
use Rattle.mas_types.specs.declared.ids.MemberId.{MemberId}
use Rattle.mas_types.specs.declared.journals.Batch.{Batch}
use Rattle.mas_types.specs.Ids.{is_somebody, nobody}
use Rattle.mas_types.specs.Queue.{is_member}
use Rattle.lock_cycle.specs.Books.{after_try, is_stopped, try_refusal}
use Rattle.spool_plant.specs.declared.plant.Plant.{Ghosts as PlantGhosts}
use Rattle.ckpt_copy.specs.declared.copying.Copying.{Ghosts as CopyGhosts}
use Rattle.ckpt_form.specs.declared.steady.Steady.{Ghosts as SteadyGhosts}
use Rattle.duplex_pair.specs.Halves.{SomeAlive}
use Rattle.mas_complex.specs.declared.complex.Complex.{Complex}
use Rattle.mas_complex.specs.Parts.{Parts, parts_of}
use Rattle.mas_race.specs.Between.{BetweenTurns, is_held}
use Rattle.gate_turns.specs.Seats.{shows_stopped}
use Rattle.race_turns.specs.Turns.{left_holder, racer}
use Rattle.step_turns.specs.States.{nothing_found}
use Rattle.step_turns.specs.Laws.{on_line}
use Rattle.run_turns.specs.Admissions.{Admission, Denied, Frees, Locks, Plays, Refused, Replaces, Resets, TakesOver, Unplayed, admitted}
use Rattle.member_resets.specs.Stand.{Stand}
use Rattle.member_node.specs.declared.member.Member.{Member}
use Rattle.member_node.specs.declared.member.NodeNo.{NodeNo}
use Rattle.member_racing.specs.Asked.{IsAsked, IsKnown}
use Rattle.member_racing.specs.Kinds.{SitsBy}
use Rattle.member_racing.specs.Opened.{GoesAs, OpensAs, TriesBy, UnlessLeft, WaitsOn, done_of}
use Rattle.member_racing.specs.Stages.{Raced, stood_of}
use Rattle.member_racing.specs.declared.stages.Stage.{Stage as Stands}
use Rattle.member_racing.specs.declared.stages.Stage.TheVariants as line
use Rattle.member_racing.specs.Waits.{is_begun}
use Rattle.member_racing.proofs.Adding.{AddsOf, Mine, acts_adds, adds_from, adds_none, adds_weaker, closes_adds, resets_adds, said_journal, sits_adds, takes_adds}
use Rattle.member_racing.proofs.Asking.{begun_quietly, played_quietly}
use Rattle.member_racing.proofs.Members.{some_of, somebody_of}
use Rattle.member_racing.proofs.OpeningLemmas.{free_now, not_holder}
use Rattle.member_resets.proofs.BookLemmas.{got_free}
use Rattle.member_racing.proofs.OwnEntries.{MayFly, own_fly}
use Rattle.member_racing.proofs.Turns.{left_is, nobody_is}
use Rattle.member_sittings.specs.Sat.{journal_of}

may_done : (q : Result Stands NodeNo) → MayFly (done_of q) → MayFly q
may_done (Ok s) f = f
may_done (Err e) f = f

module _ {P C : Type 0} {plants : PlantGhosts P} {steadies : SteadyGhosts C} {copies : CopyGhosts C} (r : Raced) (x : Complex P C plants steadies copies) (rest : BetweenTurns x) (some : SomeAlive x.pair.first.alive x.pair.second.alive) (unheld : is_held x.book ≡ false) (y : Parts P C) (m n : Member)
    (result : Result Stands NodeNo) (mine : m.id ≡ r.by) (member : is_member x.base.config r.by ≡ true) where
  abbrev p : Parts P C
  p = parts_of x

  abbrev Own : Batch → Type 0
  Own = Mine plants copies x.book r.by r.number (MayFly result)

  none_at : x.book.holder ≡ nobody → x.current ≡ None
  none_at free = (rest.free some free).none

  unplaced_at : x.book.holder ≡ nobody → x.placed ≡ false
  unplaced_at free = rest.unplaced some (none_at free)

  -- a stopped member as facts show it
  down_at : (of : MemberId) → is_somebody of ≡ true → is_stopped x.book of ≡ true → shows_stopped x.book of ≡ true
  down_at of somebody down = ap (λ (t : Bool). t && is_stopped x.book of) somebody ∙ down

  by_done : AddsOf (Mine plants copies x.book r.by r.number (MayFly (done_of result))) p y → AddsOf Own p y
  by_done a = adds_weaker _ Own (own_fly plants.tells x.book r.by r.number (MayFly (done_of result)) (MayFly result) (may_done result)) p y a

  -- a line that waits on, or takes the lock of a stopped member over
  waits_adds : (o : Option MemberId) → left_holder x.book ≡ o → (z : Parts P C) → journal_of z ≡ journal_of p → (A : Type 0) → (A → AddsOf Own p y) → UnlessLeft plants copies o (stood_of r) z y result A → AddsOf Own p y
  waits_adds None is z same A f u = f u
  waits_adds (Some of) is z same A f u =
      let l = left_is x.book of is in
      adds_from Own p z y same (takes_adds plants copies x.book r.by r.number of (down_at of l.somebody l.stopped) (MayFly result) z y (done_of result) (may_done result) u.takes)

  still_adds : (z : Parts P C) → journal_of z ≡ journal_of p → WaitsOn plants copies (stood_of r) z y result → AddsOf Own p y
  still_adds z same w = adds_none Own p y (ap (λ (q : Parts P C). journal_of q) w.frame ∙ same)

  -- nobody held the lock that a try got
  free_try : is_member x.base.config r.by ≡ true → is_stopped x.book r.by ≡ false → try_refusal x.book r.by false ≡ None → x.book.holder ≡ nobody
  free_try member up got =
      nobody_is x.book.holder (got_free x.book r.by up (not_holder x.book r.by unheld (some_of x.base.config r.by member) up) got)

  opens_adds : (a : Admission) → IsKnown x.base x.book r.by a → OpensAs plants copies r p y m n result a → AddsOf Own p y
  opens_adds (Refused sayer end) known o = adds_none Own p y (said_journal p y r.by (done_of result) o.frame)
  opens_adds (Denied why) known o =
      let z : Parts P C = record p { book = after_try x.book r.by false } in
      waits_adds (left_holder x.book) refl z refl (WaitsOn plants copies (stood_of r) z y result) (still_adds z refl) o
  opens_adds (Plays task) known o =
      let z : Parts P C = record p { book = after_try x.book r.by false } in
      let free = free_try known.0.member known.0.up known.1 in
      adds_from Own p z y refl (sits_adds plants copies x.book _ z y n result (none_at free) (unplaced_at free) (played_quietly x.book (racer x.base.config r.by r.number) nothing_found x.base r.by task (some_of x.base.config r.by member) known.2 known.3 known.4) o)
  opens_adds (Resets of) known o =
      let z : Parts P C = record p { book = after_try x.book r.by false } in
      let free = free_try known.0.member known.0.up known.1 in
      let down = down_at of (somebody_of x.base.config of known.2.member) known.2.down in
      by_done (adds_from _ p z y refl (resets_adds plants copies x.book _ of z y _ (done_of result) down (none_at free) (unplaced_at free) o.1))
  opens_adds (TakesOver of) known o =
      by_done (closes_adds plants copies x.book r.by r.number of p y _ (done_of result) (down_at of (somebody_of x.base.config of known.2.member) known.2.down) o.1)
  opens_adds (Replaces dev) known o = absurd o
  opens_adds Locks known o = absurd o
  opens_adds Frees known o = absurd o
  opens_adds Unplayed known o = absurd o

  goes_adds : IsAsked x.base r.by r.what → (s : Stands) → ((at : Stand) → s ≡ line.Sits at → (at.holder.by ≡ r.by) × (at.holder.step ≡ r.number) × (on_line at.state ≡ false) × (is_begun at.state ≡ true)) → GoesAs plants copies r p y m n result s → AddsOf Own p y
  goes_adds asked line.Opens its o = opens_adds (admitted x.base.config x.book r.by r.what) (asked.known x.book) o
  goes_adds asked (line.Sits at) its o =
      by_left (left_holder x.book) refl o
    where
      by_left : (l : Option MemberId) → left_holder x.book ≡ l → UnlessLeft plants copies l (stood_of r) p y result (SitsBy plants copies (record { holder = at.holder; state = at.state; found = at.found }) p y n result) → AddsOf Own p y
      by_left None is u =
          let free = free_now x.book unheld is in
          let its_so = its at refl in
          subst (λ (k : MemberId). AddsOf (Mine plants copies x.book k r.number (MayFly result)) p y) its_so.0
          (subst (λ (j : ℕ). AddsOf (Mine plants copies x.book at.holder.by j (MayFly result)) p y) its_so.1
          (sits_adds plants copies x.book _ p y n result (none_at free) (unplaced_at free) (begun_quietly x.book _ _ at.state its_so.2 its_so.3) u))
      by_left (Some of) is u =
          let l = left_is x.book of is in
          takes_adds plants copies x.book r.by r.number of (down_at of l.somebody l.stopped) (MayFly result) p y (done_of result) (may_done result) u.takes
  goes_adds asked (line.Acts at) its o =
      waits_adds (left_holder x.book) refl p refl _ (λ u. acts_adds plants copies x.book Own p y m at result u.0) o
  goes_adds asked line.Closed its o = still_adds p refl o

-- whatever it did
pub tries_adds : {P C : Type 0} {plants : PlantGhosts P} {steadies : SteadyGhosts C} {copies : CopyGhosts C} (r : Raced) (x : Complex P C plants steadies copies) (rest : BetweenTurns x) (y : Parts P C) (m n : Member) (result : Result Stands NodeNo) → m.id ≡ r.by → is_member x.base.config r.by ≡ true
    → IsAsked x.base r.by r.what → ((at : Stand) → r.stands ≡ line.Sits at → (at.holder.by ≡ r.by) × (at.holder.step ≡ r.number) × (on_line at.state ≡ false) × (is_begun at.state ≡ true)) → TriesBy plants copies r (parts_of x) y m n result
    → AddsOf (Mine plants copies x.book r.by r.number (MayFly result)) (parts_of x) y
tries_adds r x rest y m n result mine member asked its t = ⊎_elim
    (λ idle. adds_none _ (parts_of x) y (ap (λ (q : Parts _ _). journal_of q) idle.frame))
    (λ goes. goes_adds r x rest goes.0 goes.1 y m n result mine member asked r.stands its goes.2) t
