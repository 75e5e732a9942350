-- A run, from what its lines leave.
use Rattle.mas_run.proofs.Names.{WerePlayed, Known, PlayedLines, ◌≡◌, ℕ, suc, ◌+◌, List, [], ◌∷◌, drop, length, Result, Ok, Err, refl, sym, ◌∙◌, ap, subst, arith, ◌≢◌, ◌⊎◌, inl, inr, ⊎_elim, ◌≤◌, Bool, true, false, ◌++◌, Option, append-nil, Step, PlantGhosts, Ghosts as CopyGhosts, parts_of, NodeNo, journal_of, Scene, scene_of, line_with, outcomes_with, here_at, there_at, Passed, There, Here, LeaveVolumes, ArePassed, IsShown, Shows, IsLeft, left, Ckpt1, Ckpt2, Spool, Dev, Journal, Queue, Status, View, World, disk_now, Disk as DiskPart, Rose, form_reads, NoMore, goes_none, sides_none, IsBothLost, Renewals, is_open, no_renewals, Renewal, Headline, SteadyGhosts, Complex, Member, Script, IsAway, OneIsGood, HasLost, HasLostSince, IsRun, HavePassed, IsPlay, HasSteps, LinesBegun, LinesEnded, NonePassed, RunResult, begun_after, ended_with, run_result, ReplacesNone, starts, stops, AreVolumesKept, AreVolumesKeptUntil, kept_past, kept_then, Batch, kept_all, AreSettled, meaning_run as run, IsCausedFrom, status_of, drop-append_seam, LeavesSome, Proceeds, StaysLost, none_out, right_lines, StandsIn, AreHistory, CopiesKept, IsOpenForLines, settle_still, by_test, LineIsPlayed, arms_after, scene_with, sights_of, outcomes_of, Outcome, ConsoleFault, BothLost}
use Rattle.mas_run.proofs.CopiesLemmas.{leaves_none, leaves_then}
use Rattle.mas_run.proofs.PassedLemmas.{last_line, more_lines, passed_goes, came, passed_ended, passed_failed}
use Rattle.run_turns.specs.Runs.{history}
use Rattle.run_opening.specs.Openings.{at_end, HasNoLines, IsOpenRun}
use Rattle.run_opening.proofs.ResetLemmas.{some_left as some_alive}
use Rattle.run_opening.proofs.OpeningLemmas.{safe_of}
use Rattle.mas_run.specs.Papers.{ArePapersKeptUntil}
use Rattle.mas_types.specs.declared.answers.Status.TheVariants as status

-- LINES ONE AFTER ANOTHER, from a value on

module _ {P C : Type 0} {plants : PlantGhosts P} {steadies : SteadyGhosts C} {copies : CopyGhosts C} (lines : List Step) (x : Complex P C plants steadies copies) where
  abbrev here : ℕ → Scene → Complex P C plants steadies copies → Here
  here at S y = here_at plants copies at S (parts_of y)

  -- so many lines were played: what is played after them, at the scene that the value shows now, is played after the
  -- first scene
  pub record OnTheWay (told : Type 0) (k : ℕ) (y : Complex P C plants steadies copies) (S : Scene) : Type 0 where
    pub scene : Scene
    pub shown : IsShown plants copies told scene (parts_of y)
    pub then_all : (more : List Step) → drop k lines ≡ more → (many : ℕ) (end : There) → Passed told (here (k + 1) scene y) more many end → Passed told (here 1 S x) lines (k + many) end

  pub record AreOnTheWay (k : ℕ) (y : Complex P C plants steadies copies) : Type 0 where
    pub base : y.base ≡ x.base
    pub since : y.since ≡ x.since
    pub kept : CopiesKept {T = Unit {0}} x y (Ok tt)
    pub way : (all : Bool) → (Known all → plants.tells) → (S : Scene) → IsShown plants copies (Known all) S (parts_of x) → OnTheWay (Known all) k y S

  pub way_none : AreOnTheWay 0 x
  way_none = record {
    base = refl;
    since = refl;
    kept = leaves_none plants (parts_of x);
    way = λ all tells S shown. record {
      scene = S;
      shown = shown;
      then_all = λ more all_lines many end p. let e : many ≡ 0 + many = omega arith in subst (λ (n : ℕ). Passed (Known all) (here 1 S x) lines n end) e (rw all_lines p);
    };
  }

  module _ {k : ℕ} {y : Complex P C plants steadies copies} (w : AreOnTheWay k y) where
    module _ {z : Complex P C plants steadies copies} {ms : List Member} {line : Step} (is : drop k lines ≡ line ∷ drop (k + 1) lines) where
      pub way_more : LineIsPlayed y z ms (k + 1) line (Ok tt) → AreOnTheWay (k + 1) z
      way_more played = record {
        base = played.base ∙ w.base;
        since = played.since ∙ w.since;
        kept = leaves_then plants {T = Unit {0}} (parts_of x) (parts_of y) (parts_of z) (Ok tt) w.kept played.kept;
        way = λ all tells S shown.
            let o = w.way all tells S shown in
            let p = played.line all tells o.scene o.shown in
            let next = (line_with o.scene (k + 1) p.given line).next in
            record {
              scene = next;
              shown = p.shows;
              then_all = λ more rest many end after.
                  let e : k + suc many ≡ k + 1 + many = omega arith in
                  subst (λ (n : ℕ). Passed (Known all) (here 1 S x) lines n end) e (o.then_all (line ∷ more) (is ∙ ap (λ (ls : List Step). line ∷ ls) rest) (suc many) end
                  (more_lines (Known all) (here (k + 1) o.scene y) p.given line (there_at plants copies (parts_of z) (Ok tt)) p.next more many end refl
                  (subst (λ (n : ℕ). Passed (Known all) (record (here (k + 1 + 1) next z) { since = n }) more many end) played.since after)));
            };
      }

      pub way_ends : (e : NodeNo) → LineIsPlayed y z ms (k + 1) line (Err e) → PlayedLines 1 lines x z (Err e)
      way_ends e played = record {
        base = played.base ∙ w.base;
        since = played.since ∙ w.since;
        many = k + 1;
        lines = λ all tells S shown.
            let o = w.way all tells S shown in
            let p = played.line all tells o.scene o.shown in
            let end = there_at plants copies (parts_of z) (Err e) in
            o.then_all (line ∷ drop (k + 1) lines) is 1 end (last_line (Known all) (here (k + 1) o.scene y) p.given line end p.next (drop (k + 1) lines) e refl);
        kept = leaves_then plants {T = Unit {0}} (parts_of x) (parts_of y) (parts_of z) (Err e) w.kept played.kept;
      }

    pub way_done : drop k lines ≡ [] → PlayedLines 1 lines x y (Ok tt)
    way_done is = record {
      base = w.base;
      since = w.since;
      many = k + 0;
      lines = λ all tells S shown. (w.way all tells S shown).then_all [] is 0 (there_at plants copies (parts_of y) (Ok tt)) (record { given = []; are = (refl, refl, refl, refl, refl) });
      kept = w.kept;
    }

-- WHAT THEY CAME TO, after an opening that is settled

module _ (told : Type 0) (b : LinesBegun) (now : ℕ) (settled : AreSettled b.front now) (many : ℕ) (end : There) where
  abbrev after : LinesEnded
  after = record { many = many; batches = drop (length b.front) end.batches; renewals = end.renewals; view = end.view; answer = status_of end.answer }

  have_passed : Passed told (starts b) b.steps many end → (end.batches ≡ b.front ++ after.batches) × HavePassed told b after
  have_passed p =
      let c = came told (starts b) p.given b.steps many end p.are in
      let h = c.history b.front [] (λ f at. settle_still f at b.front now settled) (sym (append-nil b.front)) [] refl in
      let same : h.0 ≡ after.batches = sym (drop-append_seam b.front h.0) ∙ ap (λ (bs : List Batch). drop (length b.front) bs) (sym h.1) in
      let whole : end.batches ≡ b.front ++ after.batches = h.1 ∙ ap (λ (bs : List Batch). b.front ++ bs) same in
      let passed = subst (λ (bs : List Batch). ArePassed told (starts b) p.given b.steps many (record end { batches = bs })) whole p.are in
      let did : List Outcome = outcomes_with (scene_of b.from) 1 p.given b.steps in
      let are : told → did ≡ outcomes_of b.from (sights_of p.given) b.steps = λ t. (right_lines (scene_of b.from) 1 p.given b.steps (c.right t)).0 in
      let arms : (m : ℕ) → end.view.arms m ≡ arms_after m (scene_with (scene_of b.from) 1 p.given b.steps).armed (b.view.arms m) = λ m. c.arms m (b.view.arms m) refl in
      let history = subst (λ (bs : List Batch). AreHistory (history did) bs) same h.2 in
      let have : HavePassed told b after = search (passed, are, arms, history, passed_ended told (starts b) p.given b.steps many end p.are, c.said, c.paper, c.gave, c.loses, c.loses_copies, c.volumes, c.stays, c.keeps Ckpt1 tt, c.keeps Ckpt2 tt, c) in
      (whole, have)

-- THE COPIES, once they ended

is_failed : (r : Result (Unit {0}) NodeNo) → status_of r ≡ status.ConsoleFault → r ≡ Err ConsoleFault
is_failed (Err ConsoleFault) is = refl
is_failed _ is = absurd (cc)

-- a copy that counts as lost
away_by : (alive : Bool) (d : Dev) (rs : List Renewal) (w : View) → (alive ≡ false → is_open rs ≡ false → w.lost (DiskPart d) ≡ true) → alive ≡ false → IsAway d rs w
away_by alive d rs w lost dead = by_test (is_open rs) inr (λ is. inl (lost dead is))

module _ {P C : Type 0} {plants : PlantGhosts P} {steadies : SteadyGhosts C} {copies : CopyGhosts C} (x y : Complex P C plants steadies copies) (ms : List Member) (o : IsOpenForLines x ms)
    (steps : List Step) (r : Result (Unit {0}) NodeNo) (played : PlayedLines 1 steps x y r) where
  abbrev old : View
  old = plants.view x.plant

  abbrev new : View
  new = plants.view y.plant

  abbrev front : List Batch
  front = x.journal.batches

  abbrev scene : Scene
  scene = scene_of (run x.base (kept_all front))

  left_by : (k : Result (Unit {0}) NodeNo) → LeavesSome plants (parts_of x) (parts_of y) k
      → (status_of k ≡ status.BothLost → IsBothLost y.pair.first.alive y.pair.second.alive) × (status_of k ≢ status.BothLost → (IsLeft x.pair.first.alive y.pair.first.alive x.pair.second.alive y.pair.second.alive ⊎ HasLost old new))
  left_by (Err BothLost) is = (λ both. is, λ other. absurd (other refl))
  left_by _ is = (λ both. absurd (cc), λ other. is)

  both_lost : status_of r ≡ status.BothLost → IsBothLost y.pair.first.alive y.pair.second.alive
  both_lost = (left_by r played.kept.devices.left).0

  -- a scene that the value shows is shown by it as well where content isn't known
  shows_all : (all : Bool) → Shows (Known all) scene x
  shows_all all = record { queue = o.shows.queue; book = o.shows.book; flight = o.shows.flight; counts = λ t. o.shows.counts tt }

  -- why the run ended, where both copies were lost or the console failed
  pub caused_by_lines : IsCausedFrom x.pair.first.alive x.pair.second.alive (status_of r) old new
  caused_by_lines = record {
    failed1 = λ is was. (played.kept.devices.copies Ckpt1 tt).failed was (both_lost is).0;
    failed2 = λ is was. (played.kept.devices.copies Ckpt2 tt).failed was (both_lost is).1;
    console = λ is.
        let p = played.lines false (λ t. absurd t) scene (shows_all false) in
        passed_failed ⊥ (here_at plants copies 1 scene (parts_of x)) p.given steps played.many (there_at plants copies (parts_of y) r) p.are (is_failed r is);
  }

  -- a good copy is left, unless both count as lost
  good_after : status_of r ≢ status.BothLost → OneIsGood y.renewals new ⊎ HasLost old new
  good_after other = ⊎_elim
      (λ is. inl (left y.pair.first.alive y.pair.second.alive (some_alive x.pair.first.alive y.pair.first.alive x.pair.second.alive y.pair.second.alive o.some is)
      (λ is. ((played.kept.devices.copies Ckpt1 tt).there is o.there1, played.kept.whole Ckpt1 tt is (λ was. ap (λ (rs : Renewals). is_open rs.first) o.unrenewed)))
      (λ is. ((played.kept.devices.copies Ckpt2 tt).there is o.there2, played.kept.whole Ckpt2 tt is (λ was. ap (λ (rs : Renewals). is_open rs.second) o.unrenewed)))))
      inr ((left_by r played.kept.devices.left).1 other)

  -- WHAT WAS PLAYED, whose journal has the batches of the value

  abbrev b : LinesBegun
  b = record { steps = steps; from = run x.base (kept_all front); since = x.since; front = front; view = old }

  abbrev final : There
  final = there_at plants copies (parts_of y) r

  lines_passed : copies.reads ≡ form_reads → (all : Bool) → (Known all → plants.tells) → (final.batches ≡ front ++ drop (length front) final.batches) × HavePassed (Known all) b (after (Known all) b old.now o.settled played.many final)
  lines_passed reads all tells =
      let none : journal_of (parts_of x) ≡ front = none_out front front x.placed x.current refl (subst (λ (c : Option Batch). StandsIn front x.placed x.book c) o.shows.flight o.between.stands) o.shows.flight in
      have_passed (Known all) b old.now o.settled played.many final (subst (λ (h : Here). Passed (Known all) h steps played.many final)
      (ap (λ (f : List ℕ → Option (List ℕ)). record (here_at plants copies 1 scene (parts_of x)) { reads = f }) reads ∙ ap (λ (bs : List Batch). record (starts b) { batches = bs; renewals = x.renewals }) none ∙ ap (λ (rs : Renewals). record (starts b) { renewals = rs }) o.unrenewed)
      (played.lines all tells scene (shows_all all)))

  pub play_of_lines : copies.reads ≡ form_reads → (J : Journal) → J.batches ≡ journal_of (parts_of y) → (plants.tells → ∥ Headline form_reads x.base x.since J y.renewals new ∥₁)
      → IsPlay plants.tells steps front old (run_result (status_of r) x.base J x.since new)
  play_of_lines reads J journal head =
      let bare = lines_passed reads false (λ t. absurd t) in
      record {
        many = played.many;
        rest = drop (length front) (journal_of (parts_of y));
        renewals = y.renewals;
        batches = journal ∙ bare.0;
        played = record {
          entered = goes_none old;
          lost_before = λ d. refl;
          unsaid = λ t. refl;
          dry = λ t. sides_none (old.world old.now);
          bare = inr bare.1;
          told = λ t. inr (lines_passed reads true (λ k. t)).1;
          good = good_after;
        };
        safe = safe_of plants.tells x.base J y.renewals x.since new o.between.sound head;
        away = λ is. (away_by y.pair.first.alive Ckpt1 y.renewals.first new (y.lost Ckpt1 tt) (both_lost is).0, away_by y.pair.second.alive Ckpt2 y.renewals.second new (y.lost Ckpt2 tt) (both_lost is).1);
      }

-- A RUN from where its lines begin

module _ {P C : Type 0} {plants : PlantGhosts P} {steadies : SteadyGhosts C} {copies : CopyGhosts C} (cold : Bool) (script : Script) (old : View) (x : Complex P C plants steadies copies) (ms : List Member)
    (o : IsOpenRun cold plants.tells script old x ms) (answer : Status) (journal : Journal) (new : View) (goes : Proceeds (at_end x) new)
    (p : IsPlay plants.tells script.steps x.journal.batches (at_end x) (run_result answer x.base journal x.since new)) where
  abbrev end : RunResult
  end = run_result answer x.base journal x.since new

  -- a device that is lost stays lost in lines of which none replaces it
  stay_lost : (d : Dev) → ReplacesNone d script.steps → StaysLost d (at_end x) new
  stay_lost d none is = ⊎_elim (λ (n : NonePassed (begun_after script.steps x.journal.batches (at_end x) end) (ended_with p.many p.rest p.renewals end)). ap (λ (v : View). v.lost (DiskPart d)) n.still ∙ is) (λ (h : HavePassed ⊥ (begun_after script.steps x.journal.batches (at_end x) end) (ended_with p.many p.rest p.renewals end)). h.stays d none is) p.played.bare

  -- printers' lines that were kept up to a moment are kept up to it as seen later too
  steps_of_lines : HasSteps cold plants.tells script.steps o.first old end
  steps_of_lines = let good : answer ≢ status.BothLost → OneIsGood p.renewals new ⊎ HasLostSince o.first new = λ ne. ⊎_elim inl (λ lost. inr (⊎_elim
      (λ one. inl (subst (λ (n : ℕ). Rose n (new.loses Ckpt1)) (o.opened.lost_before Ckpt1) one))
      (λ two. inr (subst (λ (n : ℕ). Rose n (new.loses Ckpt2)) (o.opened.lost_before Ckpt2) two)) lost)) (p.played.good ne) in
      let papers_past : (until : ℕ) (v0 v1 v2 : View) → until ≤ v1.now → Proceeds v1 v2 → ArePapersKeptUntil until v0 v1 → ArePapersKeptUntil until v0 v2 = λ until v0 v1 v2 le goes kept t from to m. ap (λ (w : World). w.paper m) (goes.past t (omega arith)) ∙ kept t from to m in
      let played : WerePlayed plants.tells (begun_after script.steps x.journal.batches (at_end x) end) (ended_with p.many p.rest p.renewals end) o.first old = assumption (good, o.opened, p.played) in
      let began : (x.since ≤ (at_end x).now) × ((at_end x).now ≤ new.now) × ((at_end x).now ≡ (at_end x).now) = (o.opened.began, goes.later, refl) in
      let before : plants.tells → AreVolumesKeptUntil (at_end x).now old new = λ t. kept_past (at_end x).now old (at_end x) new (omega arith) goes (o.opened.volumes t) in
      let dry : plants.tells → ArePapersKeptUntil (at_end x).now old new = λ t. papers_past (at_end x).now old (at_end x) new (omega arith) goes (o.opened.papers t) in
      let stays : (d : Dev) → ReplacesNone d script.steps → StaysLost d old new = λ d none is. stay_lost d none (o.opened.entered.lost (DiskPart d) is) in
      search (played, began, o.opened.opened answer p.rest p.many, before, dry, stays, p.away, p)

  pub run_of_lines : IsRun cold plants.tells script old end
  run_of_lines =
      record { first = o.first; lost = o.lost new; lost_on = λ d none. o.lost_on new d (stay_lost d none); begun = o.begun new goes; steps = steps_of_lines }

-- a warm run that couldn't be reset plays no line
pub run_of_none : (cold : Bool) (tells : Type 0) (script : Script) (answer : Status) (base : Queue) (journal : Journal) (since : ℕ) (old new : View) → HasNoLines cold tells script answer base journal since old new
    → IsRun cold tells script old (run_result answer base journal since new)
run_of_none cold tells script answer base journal since old new n =
    let end = run_result answer base journal since new in
    let b = begun_after script.steps journal.batches new end in
    let e = ended_with 0 [] no_renewals end in
    let none : NonePassed b e = record { why = n.why; none = refl; empty = refl; unrenewed = refl; still = refl } in
    let bare : NonePassed b e ⊎ HavePassed ⊥ b e = inl none in
    let told : tells → NonePassed b e ⊎ HavePassed (Unit {0}) b e = λ t. inl none in
    let good : answer ≢ status.BothLost → OneIsGood no_renewals new ⊎ HasLostSince n.first new = λ ne. inl (n.good ne) in
    let played : WerePlayed tells b e n.first old = assumption (bare, told, good, n) in
    let began : (since ≤ new.now) × (new.now ≤ new.now) × (new.now ≡ new.now) = (n.began, omega arith, refl) in
    let stays : (d : Dev) → ReplacesNone d script.steps → StaysLost d old new = λ d replaced. n.entered.lost (DiskPart d) in
    let steps : HasSteps cold tells script.steps n.first old end = search (played, began, sym (append-nil journal.batches), stays, n.volumes, n.papers, n.away, n) in
    record { first = n.first; lost = n.lost; lost_on = λ d replaced. n.lost_on d; begun = n.begun; steps = steps }

-- A SCRIPT WITHOUT LINES leaves the volumes as they are

pub stepless_run : (cold : Bool) (tells : Type 0) (script : Script) (old : View) (end : RunResult) → script.steps ≡ [] → IsRun cold tells script old end → tells → AreVolumesKept old end.view
stepless_run cold tells script old end none r t =
    let s = r.steps in
    let new = end.view in
    let b : LinesBegun = begun_after script.steps s.opening s.entry end in
    let e : LinesEnded = ended_with s.many s.rest s.renewals end in
    ⊎_elim
    (λ (p : NonePassed b e). subst (λ (n : ℕ). AreVolumesKeptUntil n old new) (sym s.began.2 ∙ ap (λ (v : View). v.now) (sym p.still)) (s.before t))
    (λ (p : HavePassed (Unit {0}) b e).
    let goes = passed_goes (Unit {0}) (starts b) p.given b.steps e.many (stops b e p.result) p.passed in
    let first : AreVolumesKept old s.entry = λ at from le n. subst (λ (w : World). NoMore (disk_now old (Spool n)) (w.disk (Spool n))) (goes.past at le) (s.before t at from (omega (arith, le, s.began.2)) n) in
    kept_then new.now old s.entry new s.played.entered.later goes first
    (p.volumes tt (subst (λ (steps : List Step). LeaveVolumes (scene_of b.from) 1 p.given steps) (sym none) tt)))
    (s.played.told t)
