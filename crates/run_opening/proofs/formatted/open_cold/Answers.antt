use Rattle.std.proofs.Common.{None, ◌≡◌, ◌∙◌, ℕ, ◌*◌, ◌≤◌, true, false, List, Option, Err, length, refl, sym, ap, subst, arith}
use Rattle.std.proofs.Math.Logic.{∥∥₁_map}
use Rattle.mas_types.specs.declared.ids.Dev.TheVariants.{Ckpt1, Ckpt2}
use Rattle.mas_types.specs.declared.answers.Status.{Status}
use Rattle.mas_types.specs.declared.ids.Dev.{Dev}
use Rattle.mas_types.specs.declared.ids.Page.{Page}
use Rattle.mas_types.specs.declared.queues.Config.{Config}
use Rattle.mas_types.specs.declared.queues.Queue.{Queue}
use Rattle.mas_types.specs.Fit.{IsConfig}
use Rattle.mas_types.specs.Limits.{wires_most}
use Rattle.mas_types.specs.Starts.{empty_queue}
use Rattle.ckpt_places.specs.declared.places.Place.TheVariants.{Before}
use Rattle.duplex_pair.specs.Halves.{SomeAlive, pick}
use Rattle.mas_complex.specs.Crash.{CopyAt, copy_of, setting}
use Rattle.mas_complex.proofs.Basics.{each}
use Rattle.mas_complex.proofs.Fates.{rested_copy}
use Rattle.spool_plant.specs.declared.plant.Part.TheVariants.{Disk as DiskPart}
use Rattle.mas_complex.specs.Past.{noted_by}
use Rattle.spool_plant.specs.View.{View, World, disk_now}
use Rattle.spool_volumes.specs.Volumes.{AreRoomy}
use Rattle.ckpt_form.specs.Form.{form_count, form_needs, form_holds, form_reads, form_rests, form_rests_now, form_rests_reads}
use Rattle.ckpt_copy.specs.Meanwhile.{SameSides}
use Rattle.ckpt_copy.specs.Moments.{goes_none}
use Rattle.ckpt_copy.specs.Pages.{bytes_of}
use Rattle.duplex_pair.specs.Both.{PairActed}
use Rattle.mas_types.specs.declared.journals.Batch.{Batch}
use Rattle.mas_complex.specs.Journals.{AreSettled, kept_all}
use Rattle.mas_complex.specs.Locking.{book_of}
use Rattle.mas_complex.specs.Meaning.{StandFor, run}
use Rattle.mas_complex.specs.Parts.{parts_of}
use Rattle.member_node.specs.Calls.{Grows, console_now}
use Rattle.queue_telling.specs.Telling.{Tell}
use Rattle.mas_complex.specs.Texts.{lost_now, spools_at}
use Rattle.member_node.proofs.CourseLemmas.{left}
use Rattle.member_node.proofs.DrawnLemmas.{drawn_stand, drawn_level}
use Rattle.member_steps.proofs.ReadLemmas.{told_sound}
use Rattle.member_node.specs.Copies.{RestsAt}
use Rattle.ckpt_tables.specs.declared.tables.Tables.{Tables}
use Rattle.ckpt_pages.specs.Checkpoints.{IsCheckpoint}
use Rattle.run_opening.specs.Fresh.{AreFresh}
use Rattle.run_opening.specs.Lines.{Proceeds, StaysLost}
use Rattle.run_opening.specs.Openings.{HasOpened}
use Rattle.run_opening.specs.Refusals.{Answers}
use Rattle.run_opening.specs.Shows.{QuietFor}
use Rattle.run_opening.specs.Statuses.{IsCausedFrom}
use Rattle.run_opening.proofs.BetweenLemmas.{lines_between, lines_shown, members_booked, none_earlier, opened_first, opened_second, untold_since}
use Rattle.run_opening.proofs.EndLemmas.{begins_free, short_ends, small_ends, unformed_ends}
use Rattle.run_opening.proofs.NotedLemmas.{nobody_noted_by}
use Rattle.run_opening.proofs.ReaderLemmas.{readers_new}
use Rattle.run_opening.proofs.ProceedLemmas.{proceeds_of}
use Rattle.run_opening.proofs.OpeningLemmas.{begun_empty, caused_since, empty_texts, ever_on, formed_images, lost_ever, low_empty, orders_empty, reads_there, sound_base, sound_empty, told_empty, unarmed, unarmed_view}
use Rattle.run_opening.proofs.RoomLemmas.{roomy_on}
use Rattle.run_opening.proofs.VolumeLemmas.{kept_on}
use Rattle.std.proofs.lemmas.List.Elements.{All-weaker}
use Rattle.ckpt_tables.specs.Shape.{IsRoute, page_count}
use Rattle.script_laws.specs.Limits.{IsRoute as IsScriptRoute}
use Rattle.run_opening.proofs.PaperLemmas.{papers_of}
use Rattle.run_opening.proofs.formatted.open_cold.Goals as goal

pub make-complex-requires-clause-begins : goal.make-complex-requires-clause-begins
make-complex-requires-clause-begins g c told =
    let v = g.P.Plant.view c.form.new.plant in
    let k = c.in-Ok.field-0.checkpoint in
    let n = c.form.new.self in
    let f = c.in-Ok-form.ensures in
    let config = c.args.script.now.config in
    let routes = c.args.script.now.routes in
    let told_base : Tell k.tables c.in-Ok.field-0.base = told_empty config routes k.tables c.in-Ok.ensures.tables c.in-Ok.field-0.base c.in-Ok.ensures.base (c.law_of_told_queues.ensures.empty config routes) in
    let stand : StandFor c.in-Ok.field-0.base (bytes_of k.pages) = drawn_stand k.tables k.level k.levels k.pages c.in-Ok.field-0.base c.in-Ok.ensures.drawn (orders_empty config routes k.tables c.in-Ok.ensures.tables) told_base in
    let base = c.in-Ok.field-0.base in
    let copies = λ (d : Dev). copy_of form_rests form_holds (pick d n.first n.second) Before in
    let first = rested_copy (setting form_reads base v.now) Ckpt1 (copies Ckpt1) v (bytes_of k.pages) refl refl
    (λ is. rw c.as_slice.ensures at (f.formed1 told is)) (λ not lt. f.gone1 told c.new-pair.ensures.alive.0 not lt) in
    let second = rested_copy (setting form_reads base v.now) Ckpt2 (copies Ckpt2) v (bytes_of k.pages) refl refl
    (λ is. rw c.as_slice.ensures at (f.formed2 told is)) (λ not lt. f.gone2 told c.new-pair.ensures.alive.1 not lt) in
    ∣ record { pages = bytes_of k.pages; stands = record { at_level = drawn_level k.tables k.level k.levels k.pages c.in-Ok.ensures.drawn; queue = stand }; texts = empty_texts c.args.script.now.config c.args.script.now.routes (lost_now v) (spools_at v v.now) c.in-Ok.field-0.base c.in-Ok.ensures.base; at = each (λ d. CopyAt (setting form_reads base v.now) (bytes_of k.pages) None d (copies d) v) first second } ∣₁

pub start-requires-clause-routes : goal.start-requires-clause-routes
start-requires-clause-routes g c = All-weaker IsScriptRoute IsRoute (λ r is. record { name = is.name; line = is.line }) c.args.script.now.routes c.requires.fits.routes

-- A DEVICE WAS TOO SMALL, or there was no memory, or both copies were lost in the formatting

pub returns-in-Err-clause-ended : goal.returns-in-Err-clause-ended
returns-in-Err-clause-ended g c =
    let P = g.P.Plant in
    let e = c.unbegun.ensures in
    let i = c.in-Err.ensures in
    rw (e.status, e.plant) (small_ends P.tells (c.args.plant ≡ c.args.plant) c.args.script.now c.unbegun.result.base c.unbegun.result.journal c.unbegun.result.since (P.view c.args.plant) refl e.unbegun c.in-Err.status i.small i.refused)

pub returns-in_default-start-clause-ended : goal.returns-in_default-start-clause-ended
returns-in_default-start-clause-ended g c =
    let P = g.P.Plant in
    let e = c.unbegun-in_default-start.ensures in
    let u = c.unbegun-in_default-start.result in
    rw (e.status, e.plant) (short_ends P.tells (c.args.plant ≡ c.args.plant) c.args.script.now u.base u.journal u.since (P.view c.args.plant) refl e.unbegun)

pub returns-in_default-form-clause-ended : goal.returns-in_default-form-clause-ended
returns-in_default-form-clause-ended g c =
    let P = g.P.Plant in
    let v0 = P.view c.args.plant in
    let v1 = P.view c.form.new.plant in
    let n = c.form.new.self in
    let f = c.in_default-form.ensures in
    let e = c.unbegun-in_default-form.ensures in
    let u = c.unbegun-in_default-form.result in
    rw (e.status, e.plant)
    (unformed_ends P.tells _ (Unit {0}) c.args.script.now u.base u.journal u.since v0 v1 n.first.alive n.second.alive c.in_default-form.field-0 e.unbegun c.in_default.ensures.none
    (rw (c.new-pair.ensures.alive.0, c.new-pair.ensures.alive.1) at f.acted) (λ is. f.both (ap Err is))
    (λ t. (f.during t).console v1.now f.acted.goes.later (omega arith)) (λ t. (f.during t).sides v1.now f.acted.goes.later (omega arith)) (λ t. kept_on v0 v1 (f.during t).others))

-- A RUN THAT IS OPEN

pub returns-clause-config : goal.returns-clause-config
returns-clause-config g c = ap (λ (q : Queue). q.config) (c.make-complex.ensures.base ∙ c.in-Ok.ensures.base)

-- nothing was taken since
pub returns-clause-readers : goal.returns-clause-readers
returns-clause-readers g c =
    let P = g.P.Plant in
    let y = c.make-complex.result in
    let m = c.make-complex.ensures in
    let i = c.in-Ok.ensures in
    let v = P.view y.plant in
    let config : c.args.script.now.config ≡ y.base.config = sym (ap (λ (q : Queue). q.config) (m.base ∙ i.base)) in
    let since : v.now ≡ y.since = sym (m.since ∙ ap (λ p. (P.view p).now) (sym m.plant)) in
    let book : y.book ≡ book_of y.base.config = m.book ∙ ap (λ (q : Queue). book_of q.config) (sym m.base) in
    readers_new P (parts_of y) c.in-Ok.field-0.readers (members_booked (parts_of y) book (subst IsConfig config c.requires.fits.config)) (i.many ∙ ap (λ (k : Config). wires_most * k.members) config) i.new
    (λ t line by. ap (λ (n : ℕ). (v.world n).taken line by) since)

pub returns-clause-open : goal.returns-clause-open
returns-clause-open g c =
    let P = g.P.Plant in
    let k = c.in-Ok.field-0.checkpoint in
    let i = c.in-Ok.ensures in
    let f = c.in-Ok-form.ensures in
    let n = c.form.new.self in
    let v = P.view c.form.new.plant in
    let y = c.make-complex.result in
    let m = c.make-complex.ensures in
    let config = c.args.script.now.config in
    let routes = c.args.script.now.routes in
    let whole : y.base ≡ c.in-Ok.field-0.base = m.base in
    let base : y.base.config ≡ config = ap (λ (q : Queue). q.config) (whole ∙ i.base) in
    let own : y.base.config ≡ k.tables.config = base ∙ sym (ap (λ (t : Tables). t.config) i.tables) in
    let many : page_count y.base.config ≡ length k.pages = ap page_count own ∙ sym i.drawn.spelled.count in
    let low = λ (told : P.tells). low_empty config routes k.tables i.tables (length y.journal.batches) i.drawn.spelling.shape in
    let rests1 : RestsAt P.tells y.pair.first.alive y.first (form_count y.pair.first.copy) k.pages (form_reads (disk_now (P.view y.plant) Ckpt1).bytes) = record {
      before = m.places.0;
      as_many = λ is.
          let alive : n.first.alive ≡ true = sym (ap (λ p. p.first.alive) m.pair) ∙ is in
          ap length (sym c.as_slice.ensures) ∙ sym (ap (λ p. form_count p.first.copy) m.pair ∙ f.count1 alive);
      reads = λ told is.
          let alive : n.first.alive ≡ true = sym (ap (λ p. p.first.alive) m.pair) ∙ is in
          ap (λ p. form_reads (disk_now (P.view p) Ckpt1).bytes) m.plant
          ∙ form_rests_now n.first.copy (bytes_of k.pages) (disk_now v Ckpt1) (rw c.as_slice.ensures at (f.formed1 told alive));
    } in
    let rests2 : RestsAt P.tells y.pair.second.alive y.second (form_count y.pair.second.copy) k.pages (form_reads (disk_now (P.view y.plant) Ckpt2).bytes) = record {
      before = m.places.1;
      as_many = λ is.
          let alive : n.second.alive ≡ true = sym (ap (λ p. p.second.alive) m.pair) ∙ is in
          ap length (sym c.as_slice.ensures) ∙ sym (ap (λ p. form_count p.second.copy) m.pair ∙ f.count2 alive);
      reads = λ told is.
          let alive : n.second.alive ≡ true = sym (ap (λ p. p.second.alive) m.pair) ∙ is in
          ap (λ p. form_reads (disk_now (P.view p) Ckpt2).bytes) m.plant
          ∙ form_rests_now n.second.copy (bytes_of k.pages) (disk_now v Ckpt2) (rw c.as_slice.ensures at (f.formed2 told alive));
    } in
    let told_base : Tell k.tables c.in-Ok.field-0.base = told_empty config routes k.tables i.tables c.in-Ok.field-0.base i.base (c.law_of_told_queues.ensures.empty config routes) in
    let since : y.since ≡ (P.view y.plant).now = m.since ∙ ap (λ p. (P.view p).now) (sym m.plant) in
    let settled : AreSettled y.journal.batches (P.view y.plant).now = subst (λ (bs : List Batch). AreSettled bs (P.view y.plant).now) (sym m.journal) tt in
    let quiet : QuietFor y (page_count y.base.config) = record {
      none = m.current;
      unplaced = m.placed;
      unreserved = m.reserved;
      first = opened_first y k (page_count y.base.config) i.drawn own many low rests1;
      second = opened_second y k (page_count y.base.config) i.drawn own many low rests2;
      sound = λ told. told_sound k.tables (run y.base (kept_all y.journal.batches)) (sound_empty config routes k.tables i.tables c.requires.fits.config c.requires.fits.few (c.law_of_told_queues.ensures.empty config routes))
          (subst (λ (bs : List Batch). Tell k.tables (run y.base (kept_all bs))) (sym m.journal) (subst (Tell k.tables) (sym whole) told_base));
      kept = settled;
      begun = omega (arith, since);
      roomy = λ told. rw (m.plant, m.base, i.base) (roomy_on (P.view c.args.plant) v config (proceeds_of (P.view c.args.plant) v f.acted.goes) c.in_default.ensures.roomy);
    } in
    let v0 = P.view c.args.plant in
    let all : y.base ≡ empty_queue config routes = whole ∙ i.base in
    let now : y.since ≡ v.now = m.since in
    let same : P.view y.plant ≡ v = ap P.view m.plant in
    let told_quiet : P.tells → console_now v ≡ console_now v0 = λ t. (f.during t).console v.now f.acted.goes.later (omega arith) in
    let formed : PairActed 0 true n.first.alive true n.second.alive false v0 v = rw (c.new-pair.ensures.alive.0, c.new-pair.ensures.alive.1) at f.acted in
    let opened : HasOpened true P.tells y.since v.loses y.journal.batches v0 v = record {
      began = omega (arith, now);
      entered = f.acted.goes;
      lost_before = λ d. refl;
      opened = λ answer rest many. (m.journal, sym now);
      unsaid = told_quiet;
      papers = λ t. papers_of v0 v (f.during t).sides;
      dry = λ t. (f.during t).sides v.now f.acted.goes.later (omega arith);
      volumes = λ t. kept_on v0 v (f.during t).others;
    } in
    record {
      first = v.loses;
      lost = λ new. lost_ever v new;
      lost_on = λ new d stays. ever_on v new d (subst (λ (w : View). StaysLost d w new) same stays);
      begun = λ new later.
          let goes : Proceeds v new = subst (λ (w : View). Proceeds w new) same later in
          record {
            before = f.acted.loses;
            queue = all;
            sound = sound_base config routes y.base all c.requires.fits.config c.requires.fits.few;
            moment = (omega (arith, now, f.acted.goes.later), omega (arith, now, goes.later));
            fresh = λ t. rw (whole, now) (∥∥₁_map (m.fresh t) (λ u. u (unarmed_view v new) (unarmed v new goes)));
            formatted = λ cold t. rw now (record {
              pages = k.pages;
              sized = i.drawn.sized;
              spell = subst (λ (u : Tables). IsCheckpoint k.pages u) i.tables (record { level = k.level; levels = k.levels; fit = i.drawn.spelling; ages = i.drawn.leveled; spell = i.drawn.spelled });
              at_level = drawn_level k.tables k.level k.levels k.pages i.drawn ∙ i.level;
              next_order = refl;
              first = formed_images Ckpt1 (form_rests n.first.copy) (bytes_of k.pages) n.first.alive v new goes
                  (λ d. form_rests_reads n.first.copy (bytes_of k.pages) d) (λ is. rw c.as_slice.ensures at (f.formed1 t is)) (λ not lt. f.gone1 t c.new-pair.ensures.alive.0 not lt);
              second = formed_images Ckpt2 (form_rests n.second.copy) (bytes_of k.pages) n.second.alive v new goes
                  (λ d. form_rests_reads n.second.copy (bytes_of k.pages) d) (λ is. rw c.as_slice.ensures at (f.formed2 t is)) (λ not lt. f.gone2 t c.new-pair.ensures.alive.1 not lt);
              there = left n.first.alive n.second.alive f.ok
                  (λ is. reads_there Ckpt1 (bytes_of k.pages) v new goes (g.met.P.Plant.there c.form.new.plant t Ckpt1 (f.there1 is)) (form_rests_now n.first.copy (bytes_of k.pages) (disk_now v Ckpt1) (rw c.as_slice.ensures at (f.formed1 t is))))
                  (λ is. reads_there Ckpt2 (bytes_of k.pages) v new goes (g.met.P.Plant.there c.form.new.plant t Ckpt2 (f.there2 is)) (form_rests_now n.second.copy (bytes_of k.pages) (disk_now v Ckpt2) (rw c.as_slice.ensures at (f.formed2 t is))));
            });
            quiet = λ t. ap (λ (j : ℕ). (new.world j).console) now ∙ ap (λ (u : World). u.console) (goes.past v.now (omega arith)) ∙ told_quiet t;
            dry = λ t. rw now (subst (λ (u : World). SameSides (v0.world v0.now) u) (sym (goes.past v.now (omega arith))) ((f.during t).sides v.now f.acted.goes.later (omega arith)));
          };
      opened = subst (λ (w : View). HasOpened true P.tells y.since v.loses y.journal.batches v0 w) (sym same) opened;
      has = begun_empty config routes y.base all c.requires.fits.config;
      between = lines_between y (m.book ∙ ap (λ (q : Queue). book_of q.config) (sym whole)) c.in-Ok.field-0.members (subst IsConfig (sym base) c.requires.fits.config) (sound_base config routes y.base (whole ∙ i.base) c.requires.fits.config c.requires.fits.few)
          (subst (λ (n : Config). AreFresh n c.in-Ok.field-0.members) (sym base) i.members) quiet (untold_since y (P.view y.plant) since (goes_none (P.view y.plant)) (λ told. refl))
          (none_earlier y.journal.batches y.current m.journal m.current) settled (
            subst (λ (n : Config). form_needs (page_count n) ≤ (P.view y.plant).size Ckpt1) (sym base)
                (subst (λ (n : ℕ). form_needs (page_count config) ≤ n) (sym (ap (λ p. (P.view p).size Ckpt1) m.plant ∙ f.acted.goes.size Ckpt1)) c.in_default.ensures.large.0),
            subst (λ (n : Config). form_needs (page_count n) ≤ (P.view y.plant).size Ckpt2) (sym base)
                (subst (λ (n : ℕ). form_needs (page_count config) ≤ n) (sym (ap (λ p. (P.view p).size Ckpt2) m.plant ∙ f.acted.goes.size Ckpt2)) c.in_default.ensures.large.1),
          );
      fresh = subst (λ (n : Config). AreFresh n c.in-Ok.field-0.members) (sym base) i.members;
      noted = λ by some. ap (λ (had : List (List Page)). noted_by had by) m.had ∙ nobody_noted_by by;
      shows = lines_shown y (m.book ∙ ap (λ (q : Queue). book_of q.config) (sym whole)) (subst IsConfig (sym base) c.requires.fits.config) m.current m.printed;
      settled = settled;
      unrenewed = m.renewals;
      some = subst (λ p. SomeAlive p.first.alive p.second.alive) (sym m.pair) f.ok;
      there1 = λ is. subst (λ (w : View). w.lost (DiskPart Ckpt1) ≡ false) (sym same) (f.there1 (sym (ap (λ p. p.first.alive) m.pair) ∙ is));
      there2 = λ is. subst (λ (w : View). w.lost (DiskPart Ckpt2) ≡ false) (sym same) (f.there2 (sym (ap (λ p. p.second.alive) m.pair) ∙ is));
      goes = subst (λ (w : View). Proceeds v0 w) (sym same) (proceeds_of v0 v f.acted.goes);
      causes = λ answer new later grow caused.
          let goes : Proceeds v new = subst (λ (w : View). Proceeds w new) same later in
          let grows : (d : Dev) → Grows (v.loses d) (new.loses d) = λ d. subst (λ (w : View). Grows (w.loses d) (new.loses d)) same (grow d) in
          let from : IsCausedFrom n.first.alive n.second.alive answer v new =
          subst (λ p. IsCausedFrom p.first.alive p.second.alive answer v new) m.pair (subst (λ (w : View). IsCausedFrom y.pair.first.alive y.pair.second.alive answer w new) same caused) in
          caused_since 0 n.first.alive n.second.alive false answer v0 v new formed goes grows from;
      room = subst (λ (q : Config). (form_needs (page_count q) ≤ v0.size Ckpt1) × (form_needs (page_count q) ≤ v0.size Ckpt2)) (sym base) c.in_default.ensures.large;
      roomy = subst (λ (w : View). AreRoomy w y.base.config) (sym same) (subst (λ (q : Config). AreRoomy v q) (sym base) (roomy_on v0 v config (proceeds_of v0 v f.acted.goes) c.in_default.ensures.roomy));
      answers = λ answer begins text. subst (λ (o : Option Status). Answers true o answer) (sym c.in_default.ensures.none) (begins_free answer y.base (begun_empty config routes y.base all c.requires.fits.config) begins text);
    }
