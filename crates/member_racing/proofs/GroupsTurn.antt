-- What a turn does to the volumes: nothing, unless its line goes on with acts aside; these leave each group that
-- isn't the member's.
use Rattle.std.proofs.Common.{◌≡◌, ◌≢◌, ◌∙◌, ◌⊎◌, inl, inr, ⊎_elim, ℕ, false, zero, suc, ◌≤◌, List, [], ◌∷◌, take, All, Option, Some, None, Result, Ok, Err, ap, refl, subst, sym, arith}
use Rattle.std.proofs.lemmas.List.Elements.{All-cons, All-head, All-nil, All-tail, All-weaker}
use Rattle.mas_types.specs.declared.ids.Dev.TheVariants.{Spool}
use Rattle.mas_types.specs.declared.ids.GroupNo.{GroupNo}
use Rattle.mas_types.specs.declared.ids.MemberId.{MemberId}
use Rattle.mas_types.specs.declared.answers.Closing.{Closing}
use Rattle.mas_types.specs.declared.queues.Queue.{Queue}
use Rattle.mas_types.specs.declared.journals.Fate.{Fate}
use Rattle.lock_cycle.specs.Books.{after_try}
use Rattle.spool_plant.specs.declared.plant.Plant.{Ghosts as PlantGhosts}
use Rattle.spool_plant.specs.View.{Disk, View, disk_now}
use Rattle.ckpt_copy.specs.declared.copying.Copying.{Ghosts as CopyGhosts}
use Rattle.mas_complex.specs.Parts.{Parts}
use Rattle.mas_complex.specs.Spool.{IsHeldBy}
use Rattle.mas_complex.specs.Texts.{spools_at}
use Rattle.run_turns.specs.Admissions.{Admission, Denied, Frees, Locks, Plays, Refused, Replaces, Resets, TakesOver, Unplayed, admitted}
use Rattle.run_turns.specs.Scenes.{Scene, scene_of}
use Rattle.race_turns.specs.Turns.{left_holder}
use Rattle.step_turns.specs.Laws.{on_line}
use Rattle.step_turns.specs.Sittings.{Sitting}
use Rattle.step_turns.specs.declared.states.Found.{Found}
use Rattle.step_turns.specs.declared.states.Holder.{Holder}
use Rattle.step_turns.specs.declared.states.State.{State}
use Rattle.step_turns.specs.declared.states.Aside.TheVariants.{Acknowledge, Exchange, PrintLines, ReadText, SpoolArrival, SpoolDeck, SpoolOutputs}
use Rattle.step_turns.specs.declared.states.State.TheVariants.{Away, Fresh, Rested, Told}
use Rattle.member_node.specs.declared.member.Member.{Member}
use Rattle.member_node.specs.declared.member.NodeNo.{NodeNo}
use Rattle.member_node.specs.Calls.{IsOnlyOn}
use Rattle.member_decks.specs.Spooling.{AreQuiet, GroupsKept, IsGroupKept, IsQuiet}
use Rattle.member_decks.proofs.PageLemmas.{kept_quiet, quiet_none}
use Rattle.member_sittings.specs.declared.ends.SittingEnd.{SittingEnd}
use Rattle.member_sittings.specs.Sat.{IsSat, Start}
use Rattle.member_sittings.specs.Whole.{queue_of}
use Rattle.member_resets.specs.Asides.{ActsAfter, MayActAfter}
use Rattle.member_resets.specs.Stand.{Stand}
use Rattle.member_lines.specs.Closes.{HasClosed}
use Rattle.member_racing.specs.Kinds.{ActsBy, HasSat, HasSeat, SeatsAndResets, SitsBy, TakesBy}
use Rattle.member_racing.specs.Opened.{ClosesRefused, GoesAs, OpensAs, TriesBy, UnlessLeft, WaitsOn, done_of}
use Rattle.member_racing.specs.Stages.{Raced, stood_of}
use Rattle.member_racing.specs.declared.stages.Stage.{Stage as Stands}
use Rattle.member_racing.specs.declared.stages.Stage.TheVariants as line
use Rattle.member_resets.specs.Resetting.{HasResetBy, IsTaken, IsUntaken, TakesAndResets, TakesBy as ClosesTaken}

module _ {P C : Type 0} (plants : PlantGhosts P) (copies : CopyGhosts C) where
  abbrev v : Parts P C → View
  v x = plants.view x.plant

  -- where content is told each volume is as it was
  abbrev pub VolumesSame : Parts P C → Parts P C → Type 0
  VolumesSame x y = plants.tells → (n : ℕ) → disk_now (v y) (Spool n) ≡ disk_now (v x) (Spool n)

  only_same : (x y : Parts P C) → (v x).now ≤ (v y).now → (plants.tells → IsOnlyOn (v x) (v y)) → VolumesSame x y
  only_same x y later only t n = only t (v y).now later (omega arith) (Spool n) (λ e. absurd (cc)) (λ e. absurd (cc))

  same_none : (x y : Parts P C) → y ≡ x → VolumesSame x y
  same_none x y same t n = ap (λ (q : Parts P C). disk_now (v q) (Spool n)) same

  pub same_then : (x y z : Parts P C) → VolumesSame x y → VolumesSame y z → VolumesSame x z
  same_then x y z one two t n = two t n ∙ one t n

  same_as : (x y z : Parts P C) → z.plant ≡ y.plant → VolumesSame x y → VolumesSame x z
  same_as x y z same a t n = ap (λ (q : P). disk_now (plants.view q) (Spool n)) same ∙ a t n

  -- A SITTING, or a reset

  seat_same : (by : MemberId) (x seat : Parts P C) (r : Result (Unit {0}) NodeNo) → HasSeat plants copies by x seat r → VolumesSame x seat
  seat_same by x seat r took = only_same x seat took.acts.on.course.goes.later (λ t. (took.acts.on.apart t).others)

  sat_same : (by : MemberId) (x y : Parts P C) (t : Sitting) (r : Result SittingEnd NodeNo) → IsSat plants by t x y r → VolumesSame x y
  sat_same by x y t r sat = only_same x y sat.acts.course.goes.later sat.acts.others

  seated_same : (s : Start) (x y : Parts P C) (r : Result SittingEnd NodeNo) → HasSat plants copies s x y r → VolumesSame x y
  seated_same s x y r o = same_then x o.seat y (seat_same s.holder.by x o.seat (Ok tt) o.took) (sat_same s.holder.by o.seat y o.sat.sitting r o.sat.sat)

  sits_same : (s : Start) (x y : Parts P C) (n : Member) (r : Result Stands NodeNo) → SitsBy plants copies s x y n r → VolumesSame x y
  sits_same s x y n (Ok next) o =
      let t = o.turn in
      same_as x o.there y (ap (λ (q : Parts P C). q.plant) o.frame)
      (same_then x t.seat o.there (seat_same s.holder.by x t.seat (Ok tt) (record { frame = t.locked; acts = t.took })) (sat_same s.holder.by t.seat o.there t.sat.sitting (Ok o.end) t.sat.sat))
  sits_same s x y n (Err e) o = ⊎_elim (λ took. seat_same s.holder.by x y (Err e) took) (λ sat. seated_same s x y (Err e) sat) o

  gave_same : (h : Holder) (of : MemberId) (x y : Parts P C) (r : Result SittingEnd NodeNo) → SeatsAndResets plants copies h of x y r → VolumesSame x y
  gave_same h of x y r g = same_then x g.seat y (seat_same h.by x g.seat (Ok tt) g.took) (sat_same h.by g.seat y g.gave.sitting r g.gave.sat.sat)

  resets_same : (h : Holder) (of : MemberId) (x y : Parts P C) (pages : ℕ) (r : Result (Unit {0}) NodeNo) → HasResetBy plants copies h of x y pages r → VolumesSame x y
  resets_same h of x y pages r o = only_same x y o.acts.course.goes.later o.others

  -- A TAKEOVER

  taken_same : (by of : MemberId) (x mid : Parts P C) (found : Fate) → IsTaken plants copies by of x mid found → VolumesSame x mid
  taken_same by of x mid found t told n = (t.apart told).volumes (v mid).now t.counts.goes.later (omega arith) (Spool n) (λ e. absurd (cc)) (λ e. absurd (cc))

  untaken_same : (by of : MemberId) (x y : Parts P C) (e : NodeNo) → IsUntaken plants copies by of x y e → VolumesSame x y
  untaken_same by of x y e u told n = (u.apart told).volumes (v y).now u.counts.goes.later (omega arith) (Spool n) (λ e. absurd (cc)) (λ e. absurd (cc))

  pub takes_same : (by : MemberId) (at : ℕ) (of : MemberId) (x y : Parts P C) (r : Result (Unit {0}) NodeNo) → TakesBy plants copies by at of x y r → VolumesSame x y
  takes_same by at of x y (Ok done) o = same_as x o.there y (ap (λ (q : Parts P C). q.plant) o.frame) (same_then x o.mid o.there (taken_same by of x o.mid o.found o.taken_over) (gave_same _ of o.mid o.there (Ok o.end) o.reset))
  takes_same by at of x y (Err e) o = ⊎_elim
      (λ u. untaken_same by of x y e u)
      (λ b. same_then x b.mid y (taken_same by of x b.mid b.found b.taken_over) (⊎_elim (λ took. seat_same by b.mid y (Err e) took) (λ reset. gave_same _ of b.mid y (Err e) reset) b.why)) o

  then_same : (by : MemberId) (at : ℕ) (of : MemberId) (x y : Parts P C) (pages : ℕ) (r : Result (Unit {0}) NodeNo) → TakesAndResets plants copies by at of x y pages r → VolumesSame x y
  then_same by at of x y pages r t = same_then x t.mid y (taken_same by of x t.mid t.found t.taken) (resets_same _ of t.mid y pages r t.reset)

  closes_same : (by : MemberId) (at : ℕ) (of : MemberId) (x y : Parts P C) (pages : ℕ) (r : Result (Unit {0}) NodeNo) → ClosesTaken plants copies by at of x y pages r → VolumesSame x y
  closes_same by at of x y pages (Ok done) t = then_same by at of x y pages (Ok done) t
  closes_same by at of x y pages (Err e) t = ⊎_elim (λ u. untaken_same by of x y e u) (λ k. then_same by at of x y pages (Err e) k) t

  -- A TURN, before it was ended

  module _ (r : Raced) (x y : Parts P C) (m n : Member) (result : Result Stands NodeNo) (mine : m.id ≡ r.by) where
    -- its line goes on with acts aside, or no volume changes
    pub record ActsAside (s : Stand) : Type 0 where
      pub at : r.stands ≡ line.Acts s
      pub acts : ActsBy plants copies x y m s result

    refused_same : (sayer : MemberId) (end : Closing) → ClosesRefused plants copies r sayer end x y result → VolumesSame x y
    refused_same sayer end o =
        let S : Scene = record (scene_of x.base) { book = x.book } in
        let closed : HasClosed plants S r.by r.number (Refused sayer end) sayer x y (done_of result) = o.closed S (record { book = refl; flight = λ locked. refl }) in
        λ t n. closed.acts.disks t (Spool n)

    unless_same : (l : Option MemberId) (z : Parts P C) (A B : Type 0) → (A → VolumesSame z y ⊎ B) → UnlessLeft plants copies l (stood_of r) z y result A → VolumesSame z y ⊎ B
    unless_same None z A B f u = f u
    unless_same (Some of) z A B f u = inl (takes_same r.by r.number of z y (done_of result) u.takes)

    still_same : (z : Parts P C) → WaitsOn plants copies (stood_of r) z y result → VolumesSame z y
    still_same z w = same_none z y w.frame

    one_of : {A B : Type 0} → A ⊎ B → (B → A) → A
    one_of (inl a) f = a
    one_of (inr b) f = f b

    opens_same : (a : Admission) → OpensAs plants copies r x y m n result a → VolumesSame x y
    opens_same (Refused sayer end) o = refused_same sayer end o
    opens_same (Denied why) o =
        let z : Parts P C = record x { book = after_try x.book r.by false } in
        one_of (unless_same (left_holder x.book) z (WaitsOn plants copies (stood_of r) z y result) ⊥ (λ w. inl (still_same z w)) o) (λ none. absurd none)
    opens_same (Plays task) o =
        let z : Parts P C = record x { book = after_try x.book r.by false } in
        sits_same _ z y n result o
    opens_same (Resets of) o =
        let z : Parts P C = record x { book = after_try x.book r.by false } in
        resets_same _ of z y _ (done_of result) o.1
    opens_same (TakesOver of) o = closes_same r.by r.number of x y _ (done_of result) o.1
    opens_same (Replaces dev) o = absurd o
    opens_same Locks o = absurd o
    opens_same Frees o = absurd o
    opens_same Unplayed o = absurd o

    goes_same : (s : Stands) → r.stands ≡ s → GoesAs plants copies r x y m n result s → VolumesSame x y ⊎ ((s : Stand) × ActsAside s)
    goes_same line.Opens is o = inl (opens_same (admitted x.base.config x.book r.by r.what) o)
    goes_same (line.Sits at) is o = unless_same (left_holder x.book) x _ _ (λ u. inl (sits_same _ x y n result u)) o
    goes_same (line.Acts at) is o = unless_same (left_holder x.book) x _ _ (λ u. inr (at, record { at = is; acts = u.0 })) o
    goes_same line.Closed is o = inl (still_same x o)

    pub tries_same : TriesBy plants copies r x y m n result → VolumesSame x y ⊎ ((s : Stand) × ActsAside s)
    tries_same t = ⊎_elim (λ idle. inl (same_none x y idle.frame)) (λ goes. goes_same r.stands refl goes.2) t

-- ACTS ASIDE leave the groups of others

module _ (per : ℕ) (old new : View) where
  -- groups that aren't the member's
  abbrev pub OthersKept : MemberId → Queue → Type 0
  OthersKept by Q = (g : GroupNo) → (IsHeldBy by g Q → ⊥) → IsGroupKept per g (spools_at old old.now) (spools_at new new.now)

  apart_from : (by : MemberId) (Q : Queue) (h : GroupNo) → (IsHeldBy by h Q → ⊥) → (gs : List GroupNo) → All (λ g. IsHeldBy by g Q) gs → All (λ g. h.0 ≢ g.0) gs
  apart_from by Q h not gs held = All-weaker (λ (g : GroupNo). IsHeldBy by g Q) (λ (g : GroupNo). h.0 ≢ g.0) (λ g mine same. not (subst (λ (k : ℕ). IsHeldBy by (record { 0 = k }) Q) (sym same) mine)) gs held

  all_taken : {A : Type 0} (R : A → Type 0) (k : ℕ) (xs : List A) → All R xs → All R (take k xs)
  all_taken R zero xs all = All-nil R
  all_taken R (suc k) [] all = All-nil R
  all_taken R (suc k) (x ∷ xs) all = All-cons R x (take k xs) (All-head R x xs all) (all_taken R k xs (All-tail R x xs all))

  -- where only some of the member's groups were written
  written_kept : (by : MemberId) (Q : Queue) (k : ℕ) (gs : List GroupNo) → All (λ g. IsHeldBy by g Q) gs → GroupsKept per (take k gs) (spools_at old old.now) (spools_at new new.now) → OthersKept by Q
  written_kept by Q k gs held spares h not = spares h (apart_from by Q h not (take k gs) (all_taken (λ (g : GroupNo). IsHeldBy by g Q) k gs held))

  pub quiet_kept : (by : MemberId) (Q : Queue) → AreQuiet (spools_at old old.now) (spools_at new new.now) → OthersKept by Q
  quiet_kept by Q quiet h not = kept_quiet per [] (spools_at old old.now) (spools_at new new.now) quiet h (All-nil (λ (g : GroupNo). h.0 ≢ g.0))

  pub same_kept : (by : MemberId) (Q : Queue) → ((n : ℕ) → disk_now new (Spool n) ≡ disk_now old (Spool n)) → OthersKept by Q
  same_kept by Q same = quiet_kept by Q (λ n. subst (λ (d : Disk). IsQuiet (disk_now old (Spool n)) d) (sym (same n)) (quiet_none (spools_at old old.now) n))

module _ {P C : Type 0} (plants : PlantGhosts P) (copies : CopyGhosts C) where
  abbrev view : Parts P C → View
  view x = plants.view x.plant

  abbrev Others : Parts P C → Parts P C → MemberId → Type 0
  Others x y by = OthersKept x.base.config.groups (view x) (view y) by (queue_of x)

  aside_kept : (x y : Parts P C) (m : Member) (s : State) (was is : Option (List ℕ)) (r : Result Found NodeNo) → on_line s ≡ false → MayActAfter plants (record x { current = None }) m s → ActsAfter plants x y m s was is r → plants.tells → Others x y m.id
  aside_kept x y m (Away (SpoolDeck n text)) was is r off may a t = written_kept x.base.config.groups (view x) (view y) m.id (queue_of x) _ _ (may.held t) (a.1.spares t)
  aside_kept x y m (Away (ReadText runs n fields p)) was is r off may a t = quiet_kept x.base.config.groups (view x) (view y) m.id (queue_of x) (a.1.reads t)
  aside_kept x y m (Away (SpoolOutputs n specs p)) was is r off may a t = written_kept x.base.config.groups (view x) (view y) m.id (queue_of x) _ _ (may.held t) (a.1.spares t)
  aside_kept x y m (Away (PrintLines n i last p)) was is r off may a t = quiet_kept x.base.config.groups (view x) (view y) m.id (queue_of x) (a.1.reads t)
  aside_kept x y m (Away (Exchange l offer)) was is r off may a t = absurd (cc)
  aside_kept x y m (Away (SpoolArrival number n text s)) was is r off may a t = absurd (cc)
  aside_kept x y m (Away (Acknowledge number s)) was is r off may a t = absurd (cc)
  aside_kept x y m (Fresh task) was is r off may a t = same_kept x.base.config.groups (view x) (view y) m.id (queue_of x) (λ n. ap (λ (q : Parts P C). disk_now (view q) (Spool n)) a.0)
  aside_kept x y m (Rested p) was is r off may a t = same_kept x.base.config.groups (view x) (view y) m.id (queue_of x) (λ n. ap (λ (q : Parts P C). disk_now (view q) (Spool n)) a.0)
  aside_kept x y m Told was is r off may a t = same_kept x.base.config.groups (view x) (view y) m.id (queue_of x) (λ n. ap (λ (q : Parts P C). disk_now (view q) (Spool n)) a.0)

  pub acts_kept : (x y : Parts P C) (m : Member) (s : Stand) (r : Result Stands NodeNo) → on_line s.state ≡ false → MayActAfter plants (record x { current = None }) m s.state → ActsBy plants copies x y m s r → plants.tells → Others x y m.id
  acts_kept x y m s (Ok next) off may o t = let at = o.0 in let is = o.1 in aside_kept x y m s.state (Some []) is (Ok at.found) off may o.4 t
  acts_kept x y m s (Err e) off may o t = aside_kept x y m s.state (Some []) o.0 (Err e) off may o.1 t

  -- A TURN, before it was ended, and after that
  pub tries_kept : (r : Raced) (x y : Parts P C) (m n : Member) (result : Result Stands NodeNo) → m.id ≡ r.by → ((s : Stand) → r.stands ≡ line.Acts s → (on_line s.state ≡ false) × MayActAfter plants (record x { current = None }) m s.state)
      → TriesBy plants copies r x y m n result → plants.tells → Others x y m.id
  tries_kept r x y m n result mine its tries t = ⊎_elim
      (λ same. same_kept x.base.config.groups (view x) (view y) m.id (queue_of x) (same t))
      (λ acts. let at = its acts.0 acts.1.at in acts_kept x y m acts.0 result at.0 at.1 acts.1.acts t)
      (tries_same plants copies r x y m n result mine tries)

  pub then_kept : (x mid y : Parts P C) (by : MemberId) → ((n : ℕ) → disk_now (view y) (Spool n) ≡ disk_now (view mid) (Spool n)) → Others x mid by → Others x y by
  then_kept x mid y by same kept g not =
      let one = kept g not in
      let two = same_kept x.base.config.groups (view mid) (view y) by (queue_of x) same g not in
      record { page = two.page ∙ one.page; synced = λ was. two.synced (one.synced was) }
