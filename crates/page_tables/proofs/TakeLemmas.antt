-- Tables that take one page after another.
use Rattle.std.proofs.Common.{◌≡◌, ◌≢◌, ◌⊎◌, ⊎_elim, inl, inr, ℕ, Bool, true, false, zero, suc, ◌+◌, ◌-◌, ◌*◌, ◌≤◌, ◌<◌, ◌^◌, List, [], length, map, Option, None, Some, refl, sym, ap, subst, ◌∙◌, All, add-one, arith}
use Rattle.std.specs.Prelude.{◌==◌}
use Rattle.std.proofs.lemmas.Bool.{cases_lt}
use Rattle.std.proofs.lemmas.Bool.Decides.{nat_tests}
use Rattle.std.proofs.lemmas.List.Elements.{All-get_or, All-same, All-weaker}
use Rattle.mas_types.specs.declared.ids.Page.{Page}
use Rattle.mas_types.specs.declared.queues.Owner.{Owner}
use Rattle.mas_types.specs.declared.queues.Config.{Config}
use Rattle.lay_bytes.specs.declared.records.JobRec.{JobRec}
use Rattle.lay_bytes.specs.declared.records.OutRec.{OutRec}
use Rattle.lay_bytes.specs.Slots.{job_slot, output_slot, owner_entry, IsJobRec, IsOutRec, IsOwner, IfUsed}
use Rattle.ckpt_tables.specs.declared.tables.Tables.{Tables}
use Rattle.ckpt_tables.specs.Pages.{Spell, filled, filled_to, page_in, page_of, part}
use Rattle.ckpt_tables.specs.Shape.{AreLevels, HasSpelling, page_count, first_output_page, first_group_page}
use Rattle.ckpt_pages.specs.Fields.{header_in}
use Rattle.ckpt_pages.specs.Checkpoints.{IsCheckpoint, SpellSome}
use Rattle.ckpt_pages.specs.Reading.{AreEntries}
use Rattle.ckpt_pages.specs.Slots.{made}
use Rattle.ckpt_pages.proofs.CheckpointLemmas.{job_page, made_header, made_levels, output_page, owner_page}
use Rattle.ckpt_pages.proofs.RunLemmas.{page_at}
use Rattle.page_marks.specs.Marks.{is_marked}
use Rattle.page_marks.proofs.MarkLemmas.{alike_by, by_bool}
use Rattle.page_tables.specs.Kinds.{IsJobUnder, IsOutputUnder, job_fit, output_fit}
use Rattle.page_tables.specs.Bringing.{AreOlder, AreOrdersBelow, AreReadable, CanBringUp, IsNewer, IsPutAt, IsReadable, IsUpBefore, Takes, groups_on, head_pieces, order_in, with_header}
use Rattle.page_tables.proofs.PartLemmas.{all_put, part_put, part_stays, put_length}

-- A PAGE IS TAKEN

job_below : (order : ℕ) (job : Option JobRec) → IfUsed (IsJobUnder order) job → IfUsed (λ j. j.order < order) job
job_below order None h = tt
job_below order (Some j) h = h.below

output_below : (order : ℕ) (output : Option OutRec) → IfUsed (IsOutputUnder order) output → IfUsed (λ o. o.order < order) output
output_below order None h = tt
output_below order (Some o) h = h.below

-- the bytes of a whole page
whole : {X : Type 0} (slot : X → List ℕ) (Fits : X → Type 0) (count : ℕ) (page : List ℕ) (items : List X) → length page ≡ 4096 → AreEntries slot Fits count page items → filled (map slot items) ≡ page
whole slot Fits count page items size are = sym (are.is ∙ ap (λ (k : ℕ). filled_to k (map slot items)) size)

module _ (t : Tables) (p : ℕ) (page : List ℕ) (s : HasSpelling t) (size : length page ≡ 4096) where
  pub takes_jobs : (from : 3 ≤ p) (to : p < first_output_page t.config) (new : List (Option JobRec)) → IsPutAt job_slot (IfUsed (IsJobUnder t.order)) (16 * (p - 3)) 16 page t.jobs new → Takes p page t (record t { jobs = new })
  takes_jobs from to new put =
      let room : 16 * (p - 3) + 16 ≤ length t.jobs = omega (arith, from, to, s.shape.jobs) in
      record {
        config = refl;
        order = refl;
        fit = record {
          shape = record {
            config = s.shape.config;
            jobs = ap length put.is ∙ put_length t.jobs put.part (16 * (p - 3)) 16 room put.reads.len ∙ s.shape.jobs;
            outputs = s.shape.outputs;
            owners = s.shape.owners;
            members = s.shape.members;
            settings = s.shape.settings;
            routes = s.shape.routes;
            lines = s.shape.lines;
            last = s.shape.last;
          };
          order = s.order;
          jobs = All-same (IfUsed IsJobRec) new _ put.is
              (all_put t.jobs put.part (IfUsed IsJobRec) (16 * (p - 3)) 16 s.jobs (All-weaker (IfUsed (IsJobUnder t.order)) (IfUsed IsJobRec) (job_fit t.order) put.part put.reads.fit));
          outputs = s.outputs;
          owners = s.owners;
          routes = s.routes;
          lines = s.lines;
        };
        is = λ levels.
            job_page (record t { jobs = new }) levels p from to ∙ ap (λ (xs : List (Option JobRec)). filled (map job_slot (part 16 (p - 3) xs))) put.is
            ∙ ap (λ (xs : List (Option JobRec)). filled (map job_slot xs)) (part_put t.jobs put.part 16 (p - 3) 16 room put.reads.len (omega arith) (inl refl))
            ∙ whole job_slot (IfUsed (IsJobUnder t.order)) 16 page put.part size put.reads;
        others = λ q other. alike_by t (record t { jobs = new }) refl q (λ e. (refl, refl)) (λ e. refl) (λ e. (refl, refl))
            (λ from' to'. ap (part 16 (q - 3)) put.is ∙ part_stays t.jobs put.part 16 (p - 3) (q - 3) 16 room put.reads.len (omega arith) (λ e. other (omega (arith, e, from, from'))))
            (λ from' to'. refl) (λ from'. refl);
        below = λ b. record {
          jobs = All-same (IfUsed (λ j. j.order < t.order)) new _ put.is
              (all_put t.jobs put.part (IfUsed (λ j. j.order < t.order)) (16 * (p - 3)) 16 b.jobs (All-weaker (IfUsed (IsJobUnder t.order)) (IfUsed (λ j. j.order < t.order)) (job_below t.order) put.part put.reads.fit));
          outputs = b.outputs;
        };
      }

  pub takes_outputs : (from : first_output_page t.config ≤ p) (to : p < first_group_page t.config) (new : List (Option OutRec)) → IsPutAt output_slot (IfUsed (IsOutputUnder t.order)) (32 * (p - first_output_page t.config)) 32 page t.outputs new → Takes p page t (record t { outputs = new })
  takes_outputs from to new put =
      let room : 32 * (p - first_output_page t.config) + 32 ≤ length t.outputs = omega (arith, from, to, s.shape.outputs) in
      record {
        config = refl;
        order = refl;
        fit = record {
          shape = record {
            config = s.shape.config;
            jobs = s.shape.jobs;
            outputs = ap length put.is ∙ put_length t.outputs put.part (32 * (p - first_output_page t.config)) 32 room put.reads.len ∙ s.shape.outputs;
            owners = s.shape.owners;
            members = s.shape.members;
            settings = s.shape.settings;
            routes = s.shape.routes;
            lines = s.shape.lines;
            last = s.shape.last;
          };
          order = s.order;
          jobs = s.jobs;
          outputs = All-same (IfUsed IsOutRec) new _ put.is
              (all_put t.outputs put.part (IfUsed IsOutRec) (32 * (p - first_output_page t.config)) 32 s.outputs (All-weaker (IfUsed (IsOutputUnder t.order)) (IfUsed IsOutRec) (output_fit t.order) put.part put.reads.fit));
          owners = s.owners;
          routes = s.routes;
          lines = s.lines;
        };
        is = λ levels.
            output_page (record t { outputs = new }) levels p from to ∙ ap (λ (xs : List (Option OutRec)). filled (map output_slot (part 32 (p - first_output_page t.config) xs))) put.is
            ∙ ap (λ (xs : List (Option OutRec)). filled (map output_slot xs)) (part_put t.outputs put.part 32 (p - first_output_page t.config) 32 room put.reads.len (omega arith) (inl refl))
            ∙ whole output_slot (IfUsed (IsOutputUnder t.order)) 32 page put.part size put.reads;
        others = λ q other. alike_by t (record t { outputs = new }) refl q (λ e. (refl, refl)) (λ e. refl) (λ e. (refl, refl)) (λ from' to'. refl)
            (λ from' to'. ap (part 32 (q - first_output_page t.config)) put.is
            ∙ part_stays t.outputs put.part 32 (p - first_output_page t.config) (q - first_output_page t.config) 32 room put.reads.len (omega arith) (λ e. other (omega (arith, e, from, from'))))
            (λ from'. refl);
        below = λ b. record {
          jobs = b.jobs;
          outputs = All-same (IfUsed (λ o. o.order < t.order)) new _ put.is
              (all_put t.outputs put.part (IfUsed (λ o. o.order < t.order)) (32 * (p - first_output_page t.config)) 32 b.outputs (All-weaker (IfUsed (IsOutputUnder t.order)) (IfUsed (λ o. o.order < t.order)) (output_below t.order) put.part put.reads.fit));
        };
      }

  pub takes_owners : (from : first_group_page t.config ≤ p) (to : p < page_count t.config) (new : List Owner) → IsPutAt owner_entry IsOwner (512 * (p - first_group_page t.config)) (groups_on t.config p) page t.owners new → Takes p page t (record t { owners = new })
  takes_owners from to new put =
      let room : 512 * (p - first_group_page t.config) + groups_on t.config p ≤ length t.owners = omega (arith, from, to, s.shape.owners) in
      let few : groups_on t.config p ≤ 512 = omega arith in
      let last : (groups_on t.config p ≡ 512) ⊎ (length t.owners ≡ 512 * (p - first_group_page t.config) + groups_on t.config p) = ⊎_elim
      (λ lt. inr (omega (arith, lt, from, to, s.shape.owners)))
      (λ ge. inl (omega (arith, ge)))
      (cases_lt (groups_on t.config p) 512) in
      record {
        config = refl;
        order = refl;
        fit = record {
          shape = record {
            config = s.shape.config;
            jobs = s.shape.jobs;
            outputs = s.shape.outputs;
            owners = ap length put.is ∙ put_length t.owners put.part (512 * (p - first_group_page t.config)) (groups_on t.config p) room put.reads.len ∙ s.shape.owners;
            members = s.shape.members;
            settings = s.shape.settings;
            routes = s.shape.routes;
            lines = s.shape.lines;
            last = s.shape.last;
          };
          order = s.order;
          jobs = s.jobs;
          outputs = s.outputs;
          owners = All-same IsOwner new _ put.is (all_put t.owners put.part IsOwner (512 * (p - first_group_page t.config)) (groups_on t.config p) s.owners put.reads.fit);
          routes = s.routes;
          lines = s.lines;
        };
        is = λ levels.
            owner_page (record t { owners = new }) levels p from ∙ ap (λ (xs : List Owner). filled (map owner_entry (part 512 (p - first_group_page t.config) xs))) put.is
            ∙ ap (λ (xs : List Owner). filled (map owner_entry xs)) (part_put t.owners put.part 512 (p - first_group_page t.config) (groups_on t.config p) room put.reads.len few last)
            ∙ whole owner_entry IsOwner (groups_on t.config p) page put.part size put.reads;
        others = λ q other. alike_by t (record t { owners = new }) refl q (λ e. (refl, refl)) (λ e. refl) (λ e. (refl, refl)) (λ from' to'. refl) (λ from' to'. refl)
            (λ from'. ap (part 512 (q - first_group_page t.config)) put.is
            ∙ part_stays t.owners put.part 512 (p - first_group_page t.config) (q - first_group_page t.config) (groups_on t.config p) room put.reads.len few (λ e. other (omega (arith, e, from, from'))));
        below = λ b. record { jobs = b.jobs; outputs = b.outputs };
      }

-- what can be read can be taken
take_one : (u : Tables) (p : ℕ) (page : List ℕ) → HasSpelling u → length page ≡ 4096 → p < page_count u.config → IsReadable u.config u.order page p → (v : Tables) × Takes p page u v
take_one u p page s size within read = ⊎_elim {C = (v : Tables) × Takes p page u v}
    (λ job. let some = read.jobs job in
    (record u { jobs = _ }, takes_jobs u p page s size read.behind job _ (record { part = some.0; reads = some.1; is = refl })))
    (λ other. ⊎_elim {C = (v : Tables) × Takes p page u v}
    (λ output. let some = read.outputs other output in
    (record u { outputs = _ }, takes_outputs u p page s size other output _ (record { part = some.0; reads = some.1; is = refl })))
    (λ group. let some = read.owners group in
    (record u { owners = _ }, takes_owners u p page s size group within _ (record { part = some.0; reads = some.1; is = refl })))
    (cases_lt p (first_group_page u.config)))
    (cases_lt p (first_output_page u.config))

-- a page from 1 on is spelled alike whatever the levels are
any_levels : (t : Tables) (a b : List ℕ) (p : ℕ) → 1 ≤ p → page_of t a p ≡ page_of t b p
any_levels t a b p some = rw (later p some) refl
  where
    later : (p : ℕ) → 1 ≤ p → (p == 0) ≡ false
    later p some = grind (arith, nat_tests)

-- pages without a mark are those of the tables, where they are those that these spell
pub older_than : (t : Tables) (levels : List ℕ) (own pages : List Page) (marks : List Bool) → Spell t levels own → length pages ≡ length own
    → ((p : ℕ) → 1 ≤ p → p < length pages → is_marked marks p ≡ false → page_in pages p ≡ page_in own p) → AreOlder t pages marks
older_than t levels own pages marks spell many same p some within off ls =
    same p some within off ∙ spell.each p (omega (arith, within, many)) ∙ any_levels t levels ls p some

-- what can be read of the pages, as the program has them
pub reads_here : (c : Config) (pages : List Page) (n o : ℕ) (first here : List ℕ) → page_in pages 0 ≡ first → o ≡ order_in first → page_in pages n ≡ here
    → IsReadable c (order_in (page_in pages 0)) (page_in pages n) n → IsReadable c o here n
reads_here c pages n o first here is order at read =
    subst (λ (bytes : List ℕ). IsReadable c o bytes n) at (subst (λ (k : ℕ). IsReadable c k (page_in pages n) n) (ap order_in is ∙ sym order) read)

pub reads_there : (c : Config) (pages : List Page) (n o : ℕ) (first here : List ℕ) → page_in pages 0 ≡ first → o ≡ order_in first → page_in pages n ≡ here
    → IsReadable c o here n → IsReadable c (order_in (page_in pages 0)) (page_in pages n) n
reads_there c pages n o first here is order at read =
    subst (λ (k : ℕ). IsReadable c k (page_in pages n) n) (order ∙ ap order_in (sym is)) (subst (λ (bytes : List ℕ). IsReadable c o bytes n) (sym at) read)

-- a page more
pub reads_more : (c : Config) (o : ℕ) (pages : List Page) (marks : List Bool) (n : ℕ) → ((p : ℕ) → p < n → IsNewer marks pages p → IsReadable c o (page_in pages p) p)
    → (is_marked marks n ≡ true → IsReadable c o (page_in pages n) n) → (p : ℕ) → p < n + 1 → IsNewer marks pages p → IsReadable c o (page_in pages p) p
reads_more c o pages marks n before here p lt newer = ⊎_elim
    (λ sooner. before p sooner newer)
    (λ ge. let e : n ≡ p = omega (arith, lt, ge) in
    subst (λ (q : ℕ). IsReadable c o (page_in pages q) q) e (here (subst (λ (q : ℕ). is_marked marks q ≡ true) (sym e) newer.newer)))
    (cases_lt p n)

-- PAGES ARE TAKEN ONE AFTER ANOTHER

module _ (t : Tables) (pages : List Page) (marks : List Bool) where
  pub up_none : HasSpelling t → AreOlder t pages marks → IsUpBefore t pages marks 1 t
  up_none s older = record {
    config = refl;
    order = refl;
    fit = s;
    header = λ levels. refl;
    done = λ p some within up levels. older p some within (⊎_elim (λ lt. absurd (omega (arith, lt, some))) (λ le. le) up) levels;
    below = λ b. b;
  }

  pub up_taken : (n : ℕ) (u v : Tables) → 1 ≤ n → Takes n (page_in pages n) u v → IsUpBefore t pages marks n u → IsUpBefore t pages marks (n + 1) v
  up_taken n u v first k h = record {
    config = k.config ∙ h.config;
    order = k.order ∙ h.order;
    fit = k.fit;
    header = λ levels. k.others 0 (λ e. omega (arith, e, first)) levels ∙ h.header levels;
    done = λ p some within up levels. by_bool (p == n)
        (λ is. let e : p ≡ n = grind (arith, nat_tests, is) in ap (page_in pages) e ∙ sym (k.is levels) ∙ ap (page_of v levels) (sym e))
        (λ is. let other : p ≢ n = grind (arith, nat_tests, is) in
        h.done p some within (⊎_elim (λ lt. inl (omega (arith, lt, other))) (λ le. inr le) up) levels ∙ sym (k.others p other levels));
    below = λ b. k.below (h.below b);
  }

  pub up_older : (n : ℕ) (u : Tables) → is_marked marks n ≡ false → IsUpBefore t pages marks n u → IsUpBefore t pages marks (n + 1) u
  up_older n u old h = record {
    config = h.config;
    order = h.order;
    fit = h.fit;
    header = h.header;
    done = λ p some within up levels. h.done p some within (⊎_elim (λ lt. sooner p lt) (λ le. inr le) up) levels;
    below = h.below;
  }
    where
      sooner : (p : ℕ) → p < n + 1 → (p < n) ⊎ (is_marked marks p ≡ false)
      sooner p lt = ⊎_elim (λ before. inl before) (λ ge. let e : n ≡ p = omega (arith, lt, ge) in inr (subst (λ (q : ℕ). is_marked marks q ≡ false) e old)) (cases_lt p n)

  -- what can be read of the configuration and below the order of the first tables can be read of those that they became
  pub still_readable : (n : ℕ) (u : Tables) (p : ℕ) (page : List ℕ) → IsUpBefore t pages marks n u → IsReadable t.config t.order page p → IsReadable u.config u.order page p
  still_readable n u p page h read =
      subst (λ (c : Config). IsReadable c u.order page p) (sym h.config) (subst (λ (o : ℕ). IsReadable t.config o page p) (sym h.order) read)

  module _ (s : HasSpelling t) (older : AreOlder t pages marks) (count : length pages ≡ page_count t.config) (read : AreReadable t.config t.order pages marks) (sized : All (λ page. length page.0 ≡ 4096) pages) where
    pub size_of : (p : ℕ) → p < length pages → length (page_in pages p) ≡ 4096
    size_of p lt = let d : Page = record { 0 = [] } in ap length (page_at pages p (record { 0 = [] }) lt) ∙ All-get_or (λ page. length page.0 ≡ 4096) pages p (record { 0 = [] }) lt sized

    up_to : (m : ℕ) → suc m ≤ length pages → (u : Tables) × IsUpBefore t pages marks (suc m) u
    up_to zero le = (t, up_none s older)
    up_to (suc m) le =
        let before = up_to m (omega (arith, le)) in
        let u : Tables = before.0 in
        let within : suc m < length pages = omega (arith, le) in
        by_bool {A = (v : Tables) × IsUpBefore t pages marks (suc (suc m)) v} (is_marked marks (suc m))
        (λ newer.
        let may = still_readable (suc m) before.0 (suc m) (page_in pages (suc m)) before.1 (read (suc m) (record { some = omega arith; within = within; newer = newer })) in
        let more = take_one before.0 (suc m) (page_in pages (suc m)) before.1.fit (size_of (suc m) within) (omega (arith, within, count, ap page_count before.1.config)) may in
        (more.0, subst (λ (k : ℕ). IsUpBefore t pages marks k more.0) (add-one (suc m)) (up_taken (suc m) before.0 more.0 (omega arith) more.1 before.1)))
        (λ old. (before.0, subst (λ (k : ℕ). IsUpBefore t pages marks k before.0) (add-one (suc m)) (up_older (suc m) before.0 old before.1)))

    pub all_up : 1 ≤ length pages → (u : Tables) × IsUpBefore t pages marks (length pages) u
    all_up some =
        let e : suc (length pages - 1) ≡ length pages = omega (arith, some) in
        let all = up_to (length pages - 1) (omega (arith, some)) in
        (all.0, subst (λ (k : ℕ). IsUpBefore t pages marks k all.0) e all.1)

-- FROM PAGE 0 TO ALL PAGES

module _ (t : Tables) (pages : List Page) (marks : List Bool) (s : HasSpelling t) (can : CanBringUp t pages marks) where
  pub header_fits : HasSpelling (with_header (page_in pages 0) t)
  header_fits = record {
    shape = record {
      config = s.shape.config;
      jobs = s.shape.jobs;
      outputs = s.shape.outputs;
      owners = s.shape.owners;
      members = s.shape.members;
      settings = s.shape.settings;
      routes = s.shape.routes;
      lines = s.shape.lines;
      last = can.header.is.numbers.last;
    };
    order = let most : (header_in (head_pieces pages)).order ≤ 9223372036854775807 = can.header.is.numbers.order in below (order_in (page_in pages 0)) most;
    jobs = s.jobs;
    outputs = s.outputs;
    owners = s.owners;
    routes = s.routes;
    lines = s.lines;
  }
    where
      below : (n : ℕ) → n ≤ 9223372036854775807 → n < 2 ^ 63
      below n le = omega (arith, le)

  pub header_older : AreOlder t pages marks → AreOlder (with_header (page_in pages 0) t) pages marks
  header_older older p some within le levels =
      older p some within le levels ∙ sym (alike_by t (with_header (page_in pages 0) t) refl p (λ e. absurd (omega (arith, e, some))) (λ e. refl) (λ e. (refl, refl)) (λ from to. refl) (λ from to. refl) (λ from. refl) levels)

  pub header_below : AreOrdersBelow t.order t → AreOrdersBelow (order_in (page_in pages 0)) (with_header (page_in pages 0) t)
  header_below b = record {
    jobs = All-weaker (IfUsed (λ j. j.order < t.order)) (IfUsed (λ j. j.order < order_in (page_in pages 0))) job_more t.jobs b.jobs;
    outputs = All-weaker (IfUsed (λ o. o.order < t.order)) (IfUsed (λ o. o.order < order_in (page_in pages 0))) output_more t.outputs b.outputs;
  }
    where
      job_more : (x : Option JobRec) → IfUsed (λ j. j.order < t.order) x → IfUsed (λ j. j.order < order_in (page_in pages 0)) x
      job_more None h = tt
      job_more (Some j) h = omega (arith, h, can.order)

      output_more : (x : Option OutRec) → IfUsed (λ o. o.order < t.order) x → IfUsed (λ o. o.order < order_in (page_in pages 0)) x
      output_more None h = tt
      output_more (Some o) h = omega (arith, h, can.order)

  pub up_checkpoint : (u : Tables) → IsUpBefore (with_header (page_in pages 0) t) pages marks (length pages) u → IsCheckpoint pages u
  up_checkpoint u up = record {
    level = (header_in (head_pieces pages)).level;
    levels = can.header.is.levels;
    fit = up.fit;
    ages = record { count = ages.count ∙ ap page_count (can.header.config ∙ sym up.config); first = ages.first; each = ages.each; most = ages.most };
    spell = record { count = can.count ∙ ap page_count (sym up.config); each = each };
  }
    where
      ages : AreLevels (made (header_in (head_pieces pages)) t.config.node t.members t.lines t.routes t.jobs t.outputs t.owners) (header_in (head_pieces pages)).level can.header.is.levels
      ages = made_levels (header_in (head_pieces pages)) t.config.node t.members t.lines t.routes t.jobs t.outputs t.owners pages can.header.is

      first : page_in pages 0 ≡ page_of u can.header.is.levels 0
      first =
          made_header (header_in (head_pieces pages)) t.config.node t.members t.lines t.routes t.jobs t.outputs t.owners pages can.header.is
          ∙ sym (alike_by (made (header_in (head_pieces pages)) t.config.node t.members t.lines t.routes t.jobs t.outputs t.owners) (with_header (page_in pages 0) t) (sym can.header.config) 0 (λ e. (refl, refl)) (λ e. refl) (λ e. (refl, refl))
          (λ from to. refl) (λ from to. refl) (λ from. refl) can.header.is.levels)
          ∙ sym (up.header can.header.is.levels)

      each : (p : ℕ) → p < length pages → page_in pages p ≡ page_of u can.header.is.levels p
      each zero lt = first
      each (suc p) lt = up.done (suc p) (omega arith) lt (inl lt) can.header.is.levels

  -- pages that tables can be brought up to spell tables
  pub spelled_if : AreOlder t pages marks → All (λ page. length page.0 ≡ 4096) pages → SpellSome pages
  spelled_if older sized =
      let all = all_up (with_header (page_in pages 0) t) pages marks header_fits (header_older older) can.count can.each sized (omega (arith, can.count)) in
      (all.0, up_checkpoint all.0 all.1)
