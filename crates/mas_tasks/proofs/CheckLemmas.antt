-- A check: a look at both copies, reads of the volumes, and then a line on the console.
use Rattle.std.proofs.Common.{◌≡◌, ◌≢◌, ◌⊎◌, inl, inr, ⊎_elim, ℕ, ◌+◌, ◌<◌, ◌≤◌, Bool, true, false, List, [], ◌∷◌, ◌++◌, length, map, take, append-nil, Option, Some, None, Result, Ok, Err, refl, sym, ◌∙◌, ap, subst, arith}
use Rattle.mas_types.specs.declared.ids.Dev.{Dev}
use Rattle.mas_types.specs.declared.ids.Dev.TheVariants.{Ckpt1, Ckpt2, Spool}
use Rattle.mas_types.specs.declared.ids.Page.{Page}
use Rattle.mas_types.specs.declared.answers.FaultKind.TheVariants as kind
use Rattle.mas_types.specs.declared.answers.Status.{Status}
use Rattle.mas_types.specs.declared.answers.Status.TheVariants as status
use Rattle.mas_types.specs.declared.answers.Verdict.{Verdict}
use Rattle.mas_types.specs.declared.answers.Verdict.TheVariants.{Sound, Fault}
use Rattle.mas_types.specs.declared.queues.Owner.{Owner}
use Rattle.spool_plant.specs.declared.plant.Part.TheVariants.{Disk as DiskPart, Console}
use Rattle.spool_plant.specs.View.{View, World, Disk, Line, Stretch, Avoids, disk_at, disk_now}
use Rattle.spool_plant.specs.Acts.{Goes}
use Rattle.spool_volumes.specs.Volumes.{volume_of}
use Rattle.ckpt_form.specs.Form.{form_reads}
use Rattle.ckpt_copy.specs.Changes.{NoMore}
use Rattle.ckpt_copy.specs.Moments.{either_way, goes_on}
use Rattle.mas_check.specs.declared.checking.CheckNo.{CheckNo}
use Rattle.mas_check.specs.declared.checking.CheckNo.TheVariants.{SpoolLost, NoMemory}
use Rattle.mas_check.specs.Checks.{answer_of, IsCheck, IsAnswer}
use Rattle.mas_check.specs.Groups.{wrong_group}
use Rattle.mas_check.specs.Volumes.{group_at, groups_from, lost_from}
use Rattle.mas_check.specs.Worlds.{IsSameDisk, HasFailed as IsFailed, OnlyReads}
use Rattle.ckpt_pages.specs.Sound.{fault_of}
use Rattle.mas_complex.specs.Headline.{whole}
use Rattle.member_node.specs.Calls.{console_now}
use Rattle.run_opening.specs.Statuses.{IsCaused, LeavesLost}
use Rattle.run_opening.specs.Unstarted.{status_of_start}
use Rattle.run_opening.specs.Volumes.{AreVolumesKept}
use Rattle.start_choice.specs.declared.choosing.StartNo.{StartNo}
use Rattle.start_choice.specs.declared.choosing.StartNo.TheVariants as no_start
use Rattle.warm_start.specs.Inspecting.{Looks, HasFailed, HasLooked, SeesNone, SomeThere}
use Rattle.warm_start.specs.Starting.{HasGone, mark_of, IsSeen}
use Rattle.warm_start.proofs.Begun.{gone_on_to}
use Rattle.mas_tasks.specs.Saying.{Adds, Says as AreSaid}
use Rattle.mas_tasks.specs.Checks.{KeepsDevices, AreLinesOf, SaysLine, HasChecked, ChecksNone, IsChecked, IsCheckRun}
use Rattle.mas_check.proofs.WorldLemmas.{reads_none}
use Rattle.mas_tasks.proofs.ReportLemmas.{looks_none, start_not_words}

-- THE DEVICES

-- a fact of the world at each moment of two calls, one after the other
each_moment : (P : World → Type 0) (v0 v1 v2 : View) → Goes v0 v1 → Goes v1 v2 → ((t : ℕ) → v0.now ≤ t → t ≤ v1.now → P (v1.world t)) → ((t : ℕ) → v1.now ≤ t → t ≤ v2.now → P (v2.world t))
    → (t : ℕ) → v0.now ≤ t → t ≤ v2.now → P (v2.world t)
each_moment P v0 v1 v2 first second one two t le ge = ⊎_elim
    (λ early. subst P (sym (second.past t early)) (one t le early))
    (λ late. two t (omega arith) ge)
    (either_way t v1.now)

more_on : (a b c : Disk) → NoMore a b → IsSameDisk b c → NoMore a c
more_on a b c x y = record {
  bytes = y.bytes ∙ x.bytes;
  unsynced = λ s avoids. subst (λ (u : List Stretch). Avoids u s) (sym y.unsynced) (x.unsynced s avoids);
  there = λ is. x.there (y.there is);
}

no_more_of : (a b : Disk) → IsSameDisk a b → NoMore a b
no_more_of a b y = record {
  bytes = y.bytes;
  unsynced = λ s avoids. subst (λ (u : List Stretch). Avoids u s) (sym y.unsynced) avoids;
  there = y.there;
}

same_disk : (a b : Disk) → b ≡ a → IsSameDisk a b
same_disk a b e = record { bytes = ap (λ (d : Disk). d.bytes) e; unsynced = ap (λ (d : Disk). d.unsynced) e; there = λ is. ap (λ (d : Disk). d.lost) (sym e) ∙ is }

disk_not_console : (d : Dev) → DiskPart d ≢ Console
disk_not_console d e = absurd (cc)

module _ (tells : Type 0) (v0 v1 v2 : View) (looks : Looks tells v0 v1) (looked : OnlyReads tells v1 v2) where
  rose_later : (d : Dev) → HasFailed d v0 v1 → HasFailed d v0 v2
  rose_later d f = (looked.goes.lost (DiskPart d) f.0, omega (arith, f.1, looked.goes.faults (DiskPart d)))

  rose_then : (n : ℕ) → IsFailed n v1 v2 → HasFailed (Spool n) v0 v2
  rose_then n f = (f.0, omega (arith, f.1, looks.goes.faults (DiskPart (Spool n))))

  copy_lost : (d : Dev) → ((n : ℕ) → DiskPart d ≢ DiskPart (Spool n)) → (v1.lost (DiskPart d) ≡ v0.lost (DiskPart d)) ⊎ HasFailed d v0 v1 → (v2.lost (DiskPart d) ≡ v0.lost (DiskPart d)) ⊎ HasFailed d v0 v2
  copy_lost d ne before = ⊎_elim (λ same. inl (looked.else_lost (DiskPart d) ne ∙ same)) (λ failed. inr (rose_later d failed)) before

  device_lost : (d : Dev) → (v2.lost (DiskPart d) ≡ v0.lost (DiskPart d)) ⊎ HasFailed d v0 v2
  device_lost Ckpt1 = copy_lost Ckpt1 (λ n e. absurd (cc)) looks.lost1
  device_lost Ckpt2 = copy_lost Ckpt2 (λ n e. absurd (cc)) looks.lost2
  device_lost (Spool n) = ⊎_elim
      (λ same. inl (same ∙ looks.else_lost (DiskPart (Spool n)) (λ e. absurd (cc)) (λ e. absurd (cc))))
      (λ failed. inr (rose_then n failed))
      (looked.lost n)

  pub looked_on : KeepsDevices tells v0 v2
  looked_on = record {
    goes = goes_on v0 v1 v2 looks.goes looked.goes;
    first = λ told. each_moment (λ (w : World). NoMore (disk_now v0 Ckpt1) (w.disk Ckpt1)) v0 v1 v2 looks.goes looked.goes (looks.during told).first
        (λ t le ge. more_on (disk_now v0 Ckpt1) (disk_now v1 Ckpt1) (disk_at v2 t Ckpt1) ((looks.during told).first v1.now looks.goes.later (omega arith)) ((looked.worlds told t le ge).disks Ckpt1));
    second = λ told. each_moment (λ (w : World). NoMore (disk_now v0 Ckpt2) (w.disk Ckpt2)) v0 v1 v2 looks.goes looked.goes (looks.during told).second
        (λ t le ge. more_on (disk_now v0 Ckpt2) (disk_now v1 Ckpt2) (disk_at v2 t Ckpt2) ((looks.during told).second v1.now looks.goes.later (omega arith)) ((looked.worlds told t le ge).disks Ckpt2));
    volumes = λ told t le ge n. each_moment (λ (w : World). IsSameDisk (disk_now v0 (Spool n)) (w.disk (Spool n))) v0 v1 v2 looks.goes looked.goes
        (λ s from to. same_disk (disk_now v0 (Spool n)) (disk_at v1 s (Spool n)) ((looks.during told).others s from to (Spool n) (λ e. absurd (cc)) (λ e. absurd (cc))))
        (λ s from to. subst (λ (d : Disk). IsSameDisk d (disk_at v2 s (Spool n))) ((looks.during told).others v1.now looks.goes.later (omega arith) (Spool n) (λ e. absurd (cc)) (λ e. absurd (cc))) ((looked.worlds told s from to).disks (Spool n)))
        t le ge;
    papers = λ told t le ge m. each_moment (λ (w : World). w.paper m ≡ (v0.world v0.now).paper m) v0 v1 v2 looks.goes looked.goes
        (λ s from to. ((looks.during told).sides s from to).paper m)
        (λ s from to. (looked.worlds told s from to).paper m ∙ ((looks.during told).sides v1.now looks.goes.later (omega arith)).paper m)
        t le ge;
    loses = λ d. looked.loses d ∙ looks.loses d;
    stops = λ m. looked.stops m ∙ looks.stops m;
    lost = device_lost;
    else_lost = λ p ne console. looked.else_lost p (λ n. ne (Spool n)) ∙ looks.else_lost p (ne Ckpt1) (ne Ckpt2);
  }

  pub looked_console : tells → console_now v2 ≡ console_now v0
  looked_console told = (looked.worlds told v2.now looked.goes.later (omega arith)).console ∙ (looks.during told).console v1.now looks.goes.later (omega arith)

module _ (tells : Type 0) (lines : List (List ℕ)) (v0 v2 v3 : View) (goes : Goes v0 v2) (keeps : KeepsDevices tells v0 v2) (adds : Adds tells lines v2 v3) where
  lost_on : (d : Dev) → (v3.lost (DiskPart d) ≡ v0.lost (DiskPart d)) ⊎ HasFailed d v0 v3
  lost_on d = ⊎_elim
      (λ same. inl (adds.lost (DiskPart d) (disk_not_console d) ∙ same))
      (λ f. inr (adds.goes.lost (DiskPart d) f.0, omega (arith, f.1, adds.goes.faults (DiskPart d))))
      (keeps.lost d)

  on_disk : (P : Disk → Type 0) (d : Dev) → tells → ((t : ℕ) → v0.now ≤ t → t ≤ v2.now → P (disk_at v2 t d)) → (t : ℕ) → v0.now ≤ t → t ≤ v3.now → P (disk_at v3 t d)
  on_disk P d told before = each_moment (λ (w : World). P (w.disk d)) v0 v2 v3 goes adds.goes before
      (λ t le ge. subst P (sym (adds.disks told t le ge d)) (before v2.now goes.later (omega arith)))

  pub said_on : KeepsDevices tells v0 v3
  said_on = record {
    goes = goes_on v0 v2 v3 goes adds.goes;
    first = λ told. on_disk (NoMore (disk_now v0 Ckpt1)) Ckpt1 told (keeps.first told);
    second = λ told. on_disk (NoMore (disk_now v0 Ckpt2)) Ckpt2 told (keeps.second told);
    volumes = λ told t le ge n. on_disk (IsSameDisk (disk_now v0 (Spool n))) (Spool n) told (λ s from to. keeps.volumes told s from to n) t le ge;
    papers = λ told t le ge m. each_moment (λ (w : World). w.paper m ≡ (v0.world v0.now).paper m) v0 v2 v3 goes adds.goes (λ s from to. keeps.papers told s from to m)
        (λ s from to. adds.papers told s from to m ∙ keeps.papers told v2.now goes.later (omega arith) m) t le ge;
    loses = λ d. adds.loses d ∙ keeps.loses d;
    stops = λ m. adds.stops m ∙ keeps.stops m;
    lost = lost_on;
    else_lost = λ p ne console. adds.lost p console ∙ keeps.else_lost p ne console;
  }

pub volumes_kept : (tells : Type 0) (old new : View) → KeepsDevices tells old new → tells → AreVolumesKept old new
volumes_kept tells old new keeps told = λ t le ge n. no_more_of (disk_now old (Spool n)) (disk_at new t (Spool n)) (keeps.volumes told t le ge n)

-- THE PAGES

seen_later : (dev : Dev) (v0 v1 v2 : View) (seen : Option (List ℕ)) → (HasGone dev v0 v1 (mark_of v1) → HasGone dev v0 v2 (mark_of v2)) → IsSeen form_reads dev v0 v1 (mark_of v1) seen → IsSeen form_reads dev v0 v2 (mark_of v2) seen
seen_later dev v0 v1 v2 None gone is = ⊎_elim (λ x. inl (gone x)) (λ none. inr none) is
seen_later dev v0 v1 v2 (Some bytes) gone is = is

lost_stays : (a b : Bool) → (b ≡ false → a ≡ false) → a ≡ true → b ≡ true
lost_stays a true back e = refl
lost_stays true false back e = absurd (let w = back refl in cc)
lost_stays false false back e = absurd (cc)

-- a copy that had gone has gone after reads of the volumes
pub gone_read : (tells : Type 0) (v0 v1 v2 : View) → OnlyReads tells v1 v2 → (d : Dev) → tells → HasGone d v0 v1 (mark_of v1) → HasGone d v0 v2 (mark_of v2)
gone_read tells v0 v1 v2 looked d told x =
    gone_on_to d v0 v1 v2 looked.goes (looked.loses d)
    (λ lt. lost_stays (disk_now v1 d).lost (disk_now v2 d).lost ((looked.worlds told v2.now looked.goes.later (omega arith)).disks d).there (x.gone (omega (arith, looked.goes.later, lt)))) x

-- a copy that had gone has gone after a line on the console
pub gone_said : (tells : Type 0) (lines : List (List ℕ)) (v0 v2 v3 : View) → Adds tells lines v2 v3 → (d : Dev) → tells → HasGone d v0 v2 (mark_of v2) → HasGone d v0 v3 (mark_of v3)
gone_said tells lines v0 v2 v3 adds d told x =
    gone_on_to d v0 v2 v3 adds.goes (adds.loses d)
    (λ lt. ap (λ (disk : Disk). disk.lost) (adds.disks told v3.now adds.goes.later (omega arith) d) ∙ x.gone (omega (arith, adds.goes.later, lt))) x

there_later : (v1 v2 : View) → ((d : Dev) → ((n : ℕ) → DiskPart d ≢ DiskPart (Spool n)) → v2.lost (DiskPart d) ≡ v1.lost (DiskPart d)) → SomeThere v1 → SomeThere v2
there_later v1 v2 same some = ⊎_elim
    (λ one. inl (same Ckpt1 (λ n e. absurd (cc)) ∙ one))
    (λ two. inr (same Ckpt2 (λ n e. absurd (cc)) ∙ two))
    some

pub looked_later : (tells : Type 0) (v0 v1 v2 : View) (pages : List Page) → ((d : Dev) → tells → HasGone d v0 v1 (mark_of v1) → HasGone d v0 v2 (mark_of v2)) → ((d : Dev) → ((n : ℕ) → DiskPart d ≢ DiskPart (Spool n)) → v2.lost (DiskPart d) ≡ v1.lost (DiskPart d))
    → HasLooked form_reads tells v0 v1 pages → HasLooked form_reads tells v0 v2 pages
looked_later tells v0 v1 v2 pages gone same l = record {
  sized = l.sized;
  found = λ told.
      let f = l.found told in
      record { one = f.one; two = f.two; seen1 = seen_later Ckpt1 v0 v1 v2 f.one (gone Ckpt1 told) f.seen1; seen2 = seen_later Ckpt2 v0 v1 v2 f.two (gone Ckpt2 told) f.seen2; is = f.is };
  there = there_later v1 v2 same l.there;
}

-- THE ANSWER

groups_alike : (old new : View) (per at : ℕ) (owners : List Owner) → ((n : ℕ) → new.size (Spool n) ≡ old.size (Spool n)) → ((n : ℕ) → (disk_now new (Spool n)).bytes ≡ (disk_now old (Spool n)).bytes)
    → groups_from new per at owners ≡ groups_from old per at owners
groups_alike old new per at [] sizes bytes = refl
groups_alike old new per at (o ∷ owners) sizes bytes =
    rw (sizes (volume_of per (group_at at)), bytes (volume_of per (group_at at)), groups_alike old new per (at + 1) owners sizes bytes) refl

lost_alike : (old new : View) (per at : ℕ) (owners : List Owner) → ((n : ℕ) → new.lost (DiskPart (Spool n)) ≡ old.lost (DiskPart (Spool n))) → lost_from new per at owners ≡ lost_from old per at owners
lost_alike old new per at [] same = refl
lost_alike old new per at (o ∷ owners) same = rw (same (volume_of per (group_at at)), lost_alike old new per (at + 1) owners same) refl

module _ (tells : Type 0) (pages : List Page) (v0 v1 v2 v3 : View) (sizes : (n : ℕ) → v1.size (Spool n) ≡ v0.size (Spool n)) (bytes : tells → (n : ℕ) → (disk_now v1 (Spool n)).bytes ≡ (disk_now v0 (Spool n)).bytes)
    (same : (n : ℕ) → v3.lost (DiskPart (Spool n)) ≡ v2.lost (DiskPart (Spool n))) where
  check_later : (answer : Result Verdict CheckNo) → IsCheck tells pages v1 v2 answer → IsCheck tells pages v0 v3 answer
  check_later answer c =
      let t = c.tables in
      record {
        tables = t;
        spelled = c.spelled;
        checked = record {
          text = c.checked.text;
          told = λ told. c.checked.told told ∙ (λ d. wrong_group t (groups_alike v0 v1 t.config.groups 0 t.owners sizes (bytes told) d));
          is = c.checked.is ∙ ap (λ (l : Option ℕ). answer_of (fault_of t) l c.checked.text) (sym (lost_alike v2 v3 t.config.groups 0 t.owners same));
        };
      }

  pub answer_later : (answer : Result Verdict CheckNo) → IsAnswer tells pages v1 v2 answer → IsAnswer tells pages v0 v3 answer
  answer_later (Ok Sound) is = check_later (Ok Sound) is
  answer_later (Ok (Fault kind.Page place)) is = is
  answer_later (Ok (Fault kind.Number place)) is = check_later (Ok (Fault kind.Number place)) is
  answer_later (Ok (Fault kind.Owner place)) is = check_later (Ok (Fault kind.Owner place)) is
  answer_later (Ok (Fault kind.Place place)) is = check_later (Ok (Fault kind.Place place)) is
  answer_later (Ok (Fault kind.Text place)) is = check_later (Ok (Fault kind.Text place)) is
  answer_later (Err (SpoolLost volume)) is = check_later (Err (SpoolLost volume)) is
  answer_later (Err NoMemory) is = tt

-- THE RUN

module _ (tells : Type 0) (v0 v1 : View) (looks : Looks tells v0 v1) where
  -- a check that finds no pages
  pub no_pages : (why : StartNo) → SeesNone form_reads tells v0 v1 why → IsCheckRun tells (status_of_start why) v0 v1
  no_pages why none = record { devices = looked_on tells v0 v1 v1 looks (reads_none tells v1); checked = by_cause why none } where
    unsaid : tells → console_now v1 ≡ console_now v0
    unsaid told = looked_console tells v0 v1 v1 looks (reads_none tells v1) told

    by_cause : (why : StartNo) → SeesNone form_reads tells v0 v1 why → IsChecked tells (status_of_start why) v0 v1
    by_cause (no_start.NotFormatted first second) none = record { why = no_start.NotFormatted first second; is = refl; cause = none; unsaid = unsaid }
    by_cause no_start.BothLost none = record { why = no_start.BothLost; is = refl; cause = none; unsaid = unsaid }
    by_cause (no_start.DeviceSize dev size) none = absurd none
    by_cause no_start.NoMemory none = record { why = no_start.NoMemory; is = refl; cause = tt; unsaid = unsaid }

  module _ (v2 : View) (looked : OnlyReads tells v1 v2) where
    -- a check that runs out of memory for its answer
    pub no_answer : IsCheckRun tells status.NoMemory v0 v2
    no_answer = record {
      devices = looked_on tells v0 v1 v2 looks looked;
      checked = record { why = no_start.NoMemory; is = refl; cause = tt; unsaid = looked_console tells v0 v1 v2 looks looked };
    }

    module _ (pages : List Page) (found : HasLooked form_reads tells v0 v1 pages) (verdict : Result Verdict CheckNo) (is : IsAnswer tells pages v1 v2 verdict) (lines : List (List ℕ)) (of : AreLinesOf verdict lines) (v3 : View) where
      -- what was answered is said
      module _ (some : List (List ℕ)) (adds : Adds tells some v2 v3) where
        devices : KeepsDevices tells v0 v3
        devices = said_on tells some v0 v2 v3 (goes_on v0 v1 v2 looks.goes looked.goes) (looked_on tells v0 v1 v2 looks looked) adds

        checked : (answer : Status) → SaysLine tells answer of.line v0 v3 → HasChecked tells answer v0 v3
        checked answer said = record {
          pages = pages;
          looked = looked_later tells v0 v1 v3 pages (λ d told x. gone_said tells some v0 v2 v3 adds d told (gone_read tells v0 v1 v2 looked d told x)) (λ d ne. adds.lost (DiskPart d) (disk_not_console d) ∙ looked.else_lost (DiskPart d) ne) found;
          verdict = verdict;
          checked = answer_later tells pages v0 v1 v2 v3 (λ n. looks.goes.size (Spool n))
              (λ told n. ap (λ (d : Disk). d.bytes) ((looks.during told).others v1.now looks.goes.later (omega arith) (Spool n) (λ e. absurd (cc)) (λ e. absurd (cc))))
              (λ n. adds.lost (DiskPart (Spool n)) (disk_not_console (Spool n))) verdict is;
          line = of.line;
          of = of.of;
          said = said;
        }

        on_console : tells → console_now v3 ≡ console_now v0 ++ map whole some
        on_console told = adds.console told ∙ ap (λ (c : List Line). c ++ map whole some) (looked_console tells v0 v1 v2 looks looked told)

      none_said : (n : ℕ) → n < length lines → take n lines ≡ []
      none_said n few =
          let one : length lines ≡ 1 = ap length of.is in
          let zero : n ≡ 0 = omega (arith, one, few) in
          ap (λ (m : ℕ). take m lines) zero ∙ ap (λ (l : List (List ℕ)). take 0 l) of.is

      pub said_check : (answer : Status) → AreSaid tells lines v2 v3 answer → IsCheckRun tells answer v0 v3
      said_check status.Done said = record {
        devices = devices lines said;
        checked = checked lines said status.Done (λ told. on_console lines said told ∙ ap (λ (l : List (List ℕ)). console_now v0 ++ map whole l) of.is);
      }
      said_check status.ConsoleFault said = record {
        devices = devices (take said.said lines) said.adds;
        checked = checked (take said.said lines) said.adds status.ConsoleFault (
          λ told. on_console (take said.said lines) said.adds told ∙ ap (λ (l : List (List ℕ)). console_now v0 ++ map whole l) (none_said said.said said.few) ∙ append-nil (console_now v0),
          omega (arith, looks.goes.faults Console, looked.goes.faults Console, said.failed),
        );
      }
      said_check status.Words said = absurd said
      said_check (status.BadLine line cause) said = absurd said
      said_check status.TooLong said = absurd said
      said_check status.SourceFault said = absurd said
      said_check (status.NotFormatted first second) said = absurd said
      said_check status.BothLost said = absurd said
      said_check (status.DeviceSize dev size) said = absurd said
      said_check status.NoMemory said = absurd said

-- a check that runs out of memory for its words
pub not_checked : (tells : Type 0) (v : View) → IsCheckRun tells status.NoMemory v v
not_checked tells v = no_answer tells v v (looks_none tells v) v (reads_none tells v)

-- WHAT FOLLOWS FROM IT

both_failed : (tells : Type 0) (old new : View) (why : StartNo) → status.BothLost ≡ status_of_start why → SeesNone form_reads tells old new why → HasFailed Ckpt1 old new × HasFailed Ckpt2 old new
both_failed tells old new (no_start.NotFormatted first second) is none = absurd (cc)
both_failed tells old new no_start.BothLost is none = none
both_failed tells old new (no_start.DeviceSize dev size) is none = absurd none
both_failed tells old new no_start.NoMemory is none = absurd (cc)

pub check_caused : (tells : Type 0) (answer : Status) (old new : View) → IsCheckRun tells answer old new → IsCaused answer old new
check_caused tells status.Done old new run = record { failed1 = λ e. absurd (cc); failed2 = λ e. absurd (cc); console = λ e. absurd (cc) }
check_caused tells status.ConsoleFault old new run = record { failed1 = λ e. absurd (cc); failed2 = λ e. absurd (cc); console = λ e. run.checked.said.1 }
check_caused tells status.BothLost old new run =
    let both = both_failed tells old new run.checked.why run.checked.is run.checked.cause in
    record { failed1 = λ e. inl both.0.1; failed2 = λ e. inl both.1.1; console = λ e. absurd (cc) }
check_caused tells status.Words old new run = record { failed1 = λ e. absurd (cc); failed2 = λ e. absurd (cc); console = λ e. absurd (cc) }
check_caused tells (status.BadLine line cause) old new run = record { failed1 = λ e. absurd (cc); failed2 = λ e. absurd (cc); console = λ e. absurd (cc) }
check_caused tells status.TooLong old new run = record { failed1 = λ e. absurd (cc); failed2 = λ e. absurd (cc); console = λ e. absurd (cc) }
check_caused tells status.SourceFault old new run = record { failed1 = λ e. absurd (cc); failed2 = λ e. absurd (cc); console = λ e. absurd (cc) }
check_caused tells (status.NotFormatted first second) old new run = record { failed1 = λ e. absurd (cc); failed2 = λ e. absurd (cc); console = λ e. absurd (cc) }
check_caused tells (status.DeviceSize dev size) old new run = record { failed1 = λ e. absurd (cc); failed2 = λ e. absurd (cc); console = λ e. absurd (cc) }
check_caused tells status.NoMemory old new run = record { failed1 = λ e. absurd (cc); failed2 = λ e. absurd (cc); console = λ e. absurd (cc) }

pub check_lost : (tells : Type 0) (answer : Status) (old new : View) → IsCheckRun tells answer old new → LeavesLost answer old new
check_lost tells answer old new run = record {
  stays = run.devices.goes.lost;
  both = λ e.
      let none : ChecksNone tells status.BothLost old new = subst (λ (a : Status). IsChecked tells a old new) e run.checked in
      let gone = both_failed tells old new none.why none.is none.cause in
      (gone.0.0, gone.1.0);
}

pub check_not_words : (tells : Type 0) (answer : Status) (old new : View) → IsCheckRun tells answer old new → answer ≡ status.Words → ⊥
check_not_words tells answer old new run e =
    let none : ChecksNone tells status.Words old new = subst (λ (a : Status). IsChecked tells a old new) e run.checked in
    start_not_words none.why (sym none.is)
