-- A run that begins with the queue that is found: what it began with, whatever its plant shows later, and its lines or its
-- end without lines.
use Rattle.std.proofs.Common.{◌≡◌, ◌≢◌, ◌⊎◌, inl, inr, ⊎_elim, ℕ, ◌≤◌, ◌<◌, Bool, true, false, List, [], ◌∷◌, length, Ok, refl, sym, ◌∙◌, ap, subst, arith}
use Rattle.std.proofs.Math.Logic.{∥∥₁_map}
use Rattle.mas_types.specs.declared.answers.Status.{Status}
use Rattle.mas_types.specs.declared.answers.Status.TheVariants as status
use Rattle.mas_types.specs.declared.ids.Dev.TheVariants.{Ckpt1, Ckpt2}
use Rattle.mas_types.specs.declared.ids.Dev.{Dev}
use Rattle.mas_types.specs.declared.ids.Page.{Page}
use Rattle.mas_types.specs.declared.journals.Batch.{Batch}
use Rattle.mas_types.specs.declared.journals.Fate.TheVariants.{Kept}
use Rattle.mas_types.specs.declared.journals.Journal.{Journal}
use Rattle.mas_types.specs.declared.queues.Config.{Config}
use Rattle.mas_types.specs.declared.queues.Queue.{Queue}
use Rattle.mas_types.specs.Sound.{IsSound}
use Rattle.script_lang.specs.declared.types.Script.{Script}
use Rattle.spool_plant.specs.Acts.{Goes}
use Rattle.spool_plant.specs.View.{View, World, disk_now}
use Rattle.spool_plant.specs.declared.plant.Part.TheVariants.{Disk as DiskPart}
use Rattle.spool_plant.specs.declared.plant.Plant.{Ghosts as PlantGhosts}
use Rattle.ckpt_copy.specs.declared.copying.Copying.{Ghosts as CopyGhosts}
use Rattle.ckpt_copy.specs.Meanwhile.{SameSides}
use Rattle.ckpt_copy.specs.Moments.{goes_on}
use Rattle.ckpt_copy.specs.Pages.{bytes_of}
use Rattle.ckpt_form.specs.declared.steady.Steady.{Ghosts as SteadyGhosts}
use Rattle.ckpt_form.specs.Form.{form_reads, form_needs, form_room}
use Rattle.ckpt_tables.specs.declared.tables.Tables.{Tables}
use Rattle.ckpt_tables.specs.Shape.{page_count}
use Rattle.queue_telling.specs.Telling.{Tell}
use Rattle.spool_volumes.specs.Volumes.{AreRoomy, IsSteady}
use Rattle.mas_complex.specs.declared.complex.Complex.{Complex}
use Rattle.mas_complex.specs.Headline.{LeavesQueue}
use Rattle.mas_complex.specs.Journals.{fated}
use Rattle.mas_complex.specs.Paper.{SamePapers}
use Rattle.mas_complex.specs.Texts.{HasTexts, lost_now, spools_at}
use Rattle.warm_start.specs.Spooled.{AreGiven}
use Rattle.warm_start.specs.Starting.{HasStarted, IsHeld, mark_of}
use Rattle.warm_start.proofs.Begun.{found_later, unfit_later}
use Rattle.warm_start.proofs.Prepared.{given_before}
use Rattle.warm_start.proofs.Spooling.{steady_first}
use Rattle.member_node.specs.declared.member.Member.{Member}
use Rattle.member_node.specs.Calls.{Apart, Grows, console_now}
use Rattle.member_node.proofs.CourseLemmas.{left}
use Rattle.run_opening.specs.Lines.{Proceeds}
use Rattle.run_opening.specs.Openings.{at_end, EndsFirst, HasBegunWith, HasNoLines, HasOpened, IsOpenRun, IsResetRun, IsUnreset}
use Rattle.run_opening.specs.Resets.{restart_at}
use Rattle.run_opening.specs.Runs.{has_begun, as_found, AreSidesKept, Begins, IsOpened}
use Rattle.run_opening.specs.Statuses.{is_of_text}
use Rattle.run_opening.specs.Volumes.{AreVolumesKept}
use Rattle.run_opening.proofs.OpeningLemmas.{caused_through, ever_on, grows_through, lost_ever, reads_there, unarmed, unarmed_view}
use Rattle.run_opening.proofs.PaperLemmas.{papers_of, papers_on, sides_apart, sides_on}
use Rattle.run_opening.proofs.ProceedLemmas.{proceeds_of, proceeds_on}
use Rattle.run_opening.proofs.RefusalLemmas.{warm_free}
use Rattle.run_opening.proofs.RoomLemmas.{roomy_on}
use Rattle.run_opening.proofs.VolumeLemmas.{kept_on, kept_then}
use Rattle.run_opening.proofs.WarmLemmas.{found_begun, gone_on, held_until, no, start_causes, starts_first, texts_later}

-- both copies were lost, or it was out of memory

abbrev IsShort : Status → Type 0
IsShort answer = (answer ≡ status.NoMemory) ⊎ (answer ≡ status.BothLost)

short_source : (answer : Status) → IsShort answer → answer ≡ status.SourceFault → ⊥
short_source answer why e = ⊎_elim (λ one. absurd (let same : status.NoMemory ≡ status.SourceFault = sym one ∙ e in cc)) (λ two. absurd (let same : status.BothLost ≡ status.SourceFault = sym two ∙ e in cc)) why

short_done : (answer : Status) → IsShort answer → answer ≡ status.Done → ⊥
short_done answer why e = ⊎_elim (λ one. absurd (let same : status.NoMemory ≡ status.Done = sym one ∙ e in cc)) (λ two. absurd (let same : status.BothLost ≡ status.Done = sym two ∙ e in cc)) why

short_text : (answer : Status) → IsShort answer → is_of_text answer ≡ false
short_text answer why = ⊎_elim (λ one. ap is_of_text one) (λ two. ap is_of_text two) why

short_begins : (answer : Status) (base : Queue) → IsShort answer → Begins answer base
short_begins answer base why = ⊎_elim (λ one. subst (λ (a : Status). Begins a base) (sym one) tt) (λ two. subst (λ (a : Status). Begins a base) (sym two) tt) why

-- WHAT A START FOUND

module _ {C : Type 0} (count : C → ℕ) (tells : Type 0) (script : Script) (found : Queue) (t : Tables) (pages : List Page) (levels : List ℕ) (at : ℕ) (copy1 : C) (alive1 : Bool) (copy2 : C) (alive2 : Bool) (v0 v1 : View)
    (s : HasStarted count form_room form_needs form_reads tells found t pages levels at copy1 alive1 copy2 alive2 v0 v1)
    (fresh : tells → ∥ ((later : View) → Goes v1 later → LeavesQueue form_reads found v1.now later) ∥₁)
    (there1 : tells → alive1 ≡ true → (disk_now v1 Ckpt1).lost ≡ false) (there2 : tells → alive2 ≡ true → (disk_now v1 Ckpt2).lost ≡ false)
    (base : Queue) (base0 : base ≡ found) (since : ℕ) (here : since ≡ v1.now) where
  told : Tell t base
  told = subst (Tell t) (sym base0) s.tells_base

  pub has_members : has_begun base ≡ true
  has_members = found_begun pages t base s.usable told

  quiet : tells → console_now v1 ≡ console_now v0
  quiet y = (s.held y).console v1.now s.starts.goes.later (omega arith)

  sides : tells → AreSidesKept v0 v1
  sides y = (s.held y).sides v1.now s.starts.goes.later (omega arith)

  pub large : (form_needs (page_count base.config) ≤ v0.size Ckpt1) × (form_needs (page_count base.config) ≤ v0.size Ckpt2)
  large =
      let many : form_needs (length pages) ≡ form_needs (page_count base.config) = ap form_needs s.usable.0.spell.count ∙ ap (λ (k : Config). form_needs (page_count k)) (sym told.config) in
      (subst (λ (n : ℕ). n ≤ v0.size Ckpt1) many s.large1, subst (λ (n : ℕ). n ≤ v0.size Ckpt2) many s.large2)

  pub room_later : (v2 : View) → Proceeds v1 v2 → AreRoomy v2 base.config
  room_later v2 goes = subst (AreRoomy v2) (sym told.config) (roomy_on v1 v2 t.config goes s.roomy)

  -- what it began with
  pub begun_found : (v2 : View) → Proceeds v1 v2 → HasBegunWith false tells script base since v1.loses (lost_ever v1 v2) v0 v2
  begun_found v2 goes =
      let gone1 = gone_on Ckpt1 v0 v1 v2 (mark_of v1) (omega arith) goes in
      let gone2 = gone_on Ckpt2 v0 v1 v2 (mark_of v1) (omega arith) goes in
      record {
        before = starts_first alive1 alive2 v0 v1 s.starts;
        queue = record {
          pages = pages;
          tables = t;
          are = s.usable;
          sized = s.sized;
          told = told;
          texts = λ y. rw here (subst (λ (Q : Queue). HasTexts (lost_now v2) (spools_at v2 v1.now) Q.config.groups Q) (sym base0)
              (subst (λ (k : Config). HasTexts (lost_now v2) (spools_at v2 v1.now) k.groups found) (sym s.tells_base.config) (texts_later v1 v2 t.config.groups found goes (s.texts y))));
          given = λ y steady.
              let first : IsSteady v0 v1 = steady_first v0 v1 (unarmed_view v1 v2) s.starts.goes (unarmed v1 v2 goes) steady in
              let was : AreGiven v0 t.config.groups found = given_before t.config.groups found (IsHeld form_reads (disk_now v0 Ckpt1) (bytes_of pages)) (IsHeld form_reads (disk_now v0 Ckpt2) (bytes_of pages)) v0 v1 (s.held y) first (s.given y first) in
              subst (λ (Q : Queue). AreGiven v0 Q.config.groups Q) (sym base0) (subst (λ (k : Config). AreGiven v0 k.groups found) (sym s.tells_base.config) was);
          found = λ y. rw here (found_later form_reads v0 v1 (as_found (lost_ever v1 v2) v2) (mark_of v1) (mark_of v1) (bytes_of pages) gone1 gone2 (s.found y));
          one = s.one;
          kept1 = λ y. rw here (⊎_elim inl (λ z. inr (unfit_later form_reads Ckpt1 v0 v1 (as_found (lost_ever v1 v2) v2) (mark_of v1) (mark_of v1) (form_room (disk_now v0 Ckpt1).bytes) pages gone1 z)) (s.kept1 y));
          kept2 = λ y. rw here (⊎_elim inl (λ z. inr (unfit_later form_reads Ckpt2 v0 v1 (as_found (lost_ever v1 v2) v2) (mark_of v1) (mark_of v1) (form_room (disk_now v0 Ckpt2).bytes) pages gone2 z)) (s.kept2 y));
          held = λ y. rw here (let h = held_until v0 v1 v2 (bytes_of pages) goes (s.held y) in record { first = h.first; second = h.second });
          there = λ y. rw here (left alive1 alive2 s.some
              (λ is. reads_there Ckpt1 (bytes_of pages) v1 v2 goes (there1 y is) (s.reads1 y is))
              (λ is. reads_there Ckpt2 (bytes_of pages) v1 v2 goes (there2 y is) (s.reads2 y is)));
        };
        sound = subst IsSound (sym base0) s.base_sound;
        moment = (omega (arith, here, s.starts.goes.later), omega (arith, here, goes.later));
        fresh = λ y. rw (base0, here) (∥∥₁_map (fresh y) (λ k. k (unarmed_view v1 v2) (unarmed v1 v2 goes)));
        formatted = λ cold. absurd (cc);
        quiet = λ y. ap (λ (n : ℕ). (v2.world n).console) here ∙ ap (λ (u : World). u.console) (goes.past v1.now (omega arith)) ∙ quiet y;
        dry = λ y. rw here (subst (λ (u : World). SameSides (v0.world v0.now) u) (sym (goes.past v1.now (omega arith))) (sides y));
      }

  -- Restart, or nothing, was given then
  module _ (v2 : View) (goes : Goes v1 v2) (loses : (d : Dev) → v2.loses d ≡ v1.loses d) (apart : tells → Apart v1 v2) where
    quiet_on : tells → console_now v2 ≡ console_now v0
    quiet_on y = (apart y).console ∙ quiet y

    papers_then_on : tells → SamePapers v0 v2
    papers_then_on y = papers_on v0 v1 v2 s.starts.goes.later goes (papers_of v0 v1 (s.held y).sides) (apart y).papers

    sides_then : tells → AreSidesKept v0 v2
    sides_then y = sides_on (v0.world v0.now) (v1.world v1.now) (v2.world v2.now) (sides y) (sides_apart v1 v2 goes.later (apart y))

    kept_volumes : tells → AreVolumesKept v0 v2
    kept_volumes y = kept_then v2.now v0 v1 v2 s.starts.goes.later (proceeds_of v1 v2 goes) (s.held y).volumes (kept_on v1 v2 (apart y).others)

    began : since ≤ v2.now
    began = omega (arith, here, goes.later)

    pub opened_found : (opening : List Batch) → ((answer : Status) (rest : List Batch) (many : ℕ) → IsOpened false answer since v2.now opening many rest) → HasOpened false tells since v1.loses opening v0 v2
    opened_found opening opened = record {
      began = began;
      entered = goes_on v0 v1 v2 s.starts.goes goes;
      lost_before = loses;
      opened = opened;
      unsaid = quiet_on;
      papers = papers_then_on;
      dry = sides_then;
      volumes = kept_volumes;
    }

-- OVER THE SHARED VALUE

module _ {P C : Type 0} {plants : PlantGhosts P} {steadies : SteadyGhosts C} {copies : CopyGhosts C} (script : Script) (x : Complex P C plants steadies copies) (t : Tables) (pages : List Page) (levels : List ℕ) (v0 : View)
    (count : C → ℕ) (s : HasStarted count form_room form_needs form_reads plants.tells x.base t pages levels x.level x.pair.first.copy x.pair.first.alive x.pair.second.copy x.pair.second.alive v0 (at_end x))
    (fresh : plants.tells → ∥ ((later : View) → Goes (at_end x) later → LeavesQueue form_reads x.base (at_end x).now later) ∥₁)
    (there1 : plants.tells → x.pair.first.alive ≡ true → (disk_now (at_end x) Ckpt1).lost ≡ false) (there2 : plants.tells → x.pair.second.alive ≡ true → (disk_now (at_end x) Ckpt2).lost ≡ false)
    (since : x.since ≡ (at_end x).now) where
  abbrev v1 : View
  v1 = at_end x

  -- a run whose first batch is Restart is open
  pub found_open : (y : Complex P C plants steadies copies) (members : List Member) → IsResetRun x y members → IsOpenRun false plants.tells script v0 y members
  found_open y members r =
      let v2 = at_end y in
      let here : y.since ≡ v1.now = r.since ∙ since in
      let goes : Goes v1 v2 = r.reset.course.goes in
      let on : Proceeds v1 v2 = proceeds_of v1 v2 goes in
      let k = r.reset.ends.0 in
      record {
        first = v1.loses;
        lost = λ new. lost_ever v1 new;
        lost_on = λ new d stays. ever_on v1 new d (λ is. stays (goes.lost (DiskPart d) is));
        begun = λ new later. begun_found count plants.tells script x.base t pages levels x.level x.pair.first.copy x.pair.first.alive x.pair.second.copy x.pair.second.alive v0 v1 s fresh there1 there2 y.base r.base y.since here new
            (proceeds_on v1 v2 new on later);
        opened = opened_found count plants.tells script x.base t pages levels x.level x.pair.first.copy x.pair.first.alive x.pair.second.copy x.pair.second.alive v0 v1 s fresh there1 there2 y.base r.base y.since here v2 goes r.reset.loses
            r.reset.apart y.journal.batches
            (λ answer rest many. inl (fated Kept k.1 (restart_at k.0), k.5, record { by = refl; entries = refl; began = omega (arith, here, k.2) }, refl, k.3, k.4));
        has = has_members count plants.tells script x.base t pages levels x.level x.pair.first.copy x.pair.first.alive x.pair.second.copy x.pair.second.alive v0 v1 s fresh there1 there2 y.base r.base y.since here;
        between = r.between;
        fresh = r.fresh;
        noted = r.noted;
        shows = r.shows;
        settled = r.settled;
        unrenewed = r.unrenewed;
        some = r.some;
        there1 = r.there1;
        there2 = r.there2;
        goes = proceeds_on v0 v1 v2 (proceeds_of v0 v1 s.starts.goes) on;
        causes = λ answer new later grow caused.
            start_causes x.pair.first.alive x.pair.second.alive answer v0 v1 new s.starts (proceeds_on v1 v2 new on later) (λ d. grows_through v1 v2 new d (r.reset.loses d) (grow d))
            (caused_through x.pair.first.alive y.pair.first.alive x.pair.second.alive y.pair.second.alive answer v1 v2 new r.reset.course later grow caused);
        room = large count plants.tells script x.base t pages levels x.level x.pair.first.copy x.pair.first.alive x.pair.second.copy x.pair.second.alive v0 v1 s fresh there1 there2 y.base r.base y.since here;
        roomy = room_later count plants.tells script x.base t pages levels x.level x.pair.first.copy x.pair.first.alive x.pair.second.copy x.pair.second.alive v0 v1 s fresh there1 there2 y.base r.base y.since here v2 on;
        answers = λ answer begins text. warm_free answer text;
      }

  -- a run that ended at Restart
  pub found_ends : (same : Type 0) (answer : Status) (base : Queue) (J : Journal) (at : ℕ) (new : View) → IsUnreset x answer base J at new → EndsFirst false plants.tells same script answer base J at v0 new
  found_ends same answer base J at new u =
      let here : at ≡ v1.now = u.since_is ∙ since in
      let on : Proceeds v1 new = proceeds_of v1 new u.goes in
      let begun : has_begun base ≡ true = has_members count plants.tells script x.base t pages levels x.level x.pair.first.copy x.pair.first.alive x.pair.second.copy x.pair.second.alive v0 v1 s fresh there1 there2 base u.base_is at here in
      record {
        refused = warm_free answer (short_text answer u.why);
        device = λ cold dev size is. absurd (cc);
        no_source = short_source answer u.why;
        no_text = short_text answer u.why;
        not_done = short_done answer u.why;
        formatted = λ cold first second is. absurd (cc);
        unstarted = λ warm none. absurd (no base begun none);
        cause = start_causes x.pair.first.alive x.pair.second.alive answer v0 v1 new s.starts on (λ d. inl (u.loses d)) u.cause;
        begun = short_begins answer base u.why;
        unbegun = λ none. absurd (no base begun none);
        untouched = λ none. absurd (no base begun none);
        unsaid = λ y none. absurd (no base begun none);
        unprinted = λ y none. absurd (no base begun none);
        goes = proceeds_on v0 v1 new (proceeds_of v0 v1 s.starts.goes) on;
        arms = λ none. absurd (no base begun none);
        loses = λ none. absurd (no base begun none);
        lost = λ none. absurd (no base begun none);
        volumes = λ y none. absurd (no base begun none);
        room = λ has. large count plants.tells script x.base t pages levels x.level x.pair.first.copy x.pair.first.alive x.pair.second.copy x.pair.second.alive v0 v1 s fresh there1 there2 base u.base_is at here;
        roomy = λ has. room_later count plants.tells script x.base t pages levels x.level x.pair.first.copy x.pair.first.alive x.pair.second.copy x.pair.second.alive v0 v1 s fresh there1 there2 base u.base_is at here new on;
        none = λ has.
            record {
              why = u.why;
              first = v1.loses;
              lost = lost_ever v1 new;
              lost_on = λ d. ever_on v1 new d (u.goes.lost (DiskPart d));
              begun = begun_found count plants.tells script x.base t pages levels x.level x.pair.first.copy x.pair.first.alive x.pair.second.copy x.pair.second.alive v0 v1 s fresh there1 there2 base u.base_is at here new on;
              opened = u.opened;
              began = omega (arith, here, u.goes.later);
              entered = goes_on v0 v1 new s.starts.goes u.goes;
              lost_before = u.loses;
              unsaid = λ y. (u.apart y).console ∙ (s.held y).console v1.now s.starts.goes.later (omega arith);
              papers = λ y. papers_on v0 v1 new s.starts.goes.later u.goes (papers_of v0 v1 (s.held y).sides) (u.apart y).papers;
              dry = λ y. sides_on (v0.world v0.now) (v1.world v1.now) (new.world new.now) ((s.held y).sides v1.now s.starts.goes.later (omega arith)) (sides_apart v1 new u.goes.later (u.apart y));
              volumes = λ y. kept_then new.now v0 v1 new s.starts.goes.later on (s.held y).volumes (kept_on v1 new (u.apart y).others);
              safe = u.safe;
              away = u.away;
              good = u.good;
            };
      }
