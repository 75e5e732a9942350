-- A report: a look at both copies, and then lines on the console.
use Rattle.std.proofs.Common.{◌≡◌, ◌≢◌, ◌⊎◌, inl, inr, ⊎_elim, ℕ, ◌*◌, ◌≤◌, Bool, true, false, List, [], ◌++◌, map, take, nat_lt, refl, sym, ◌∙◌, ap, subst, arith}
use Rattle.std.proofs.lemmas.Bool.Decides.{nat_tests}
use Rattle.mas_types.specs.declared.ids.Dev.{Dev}
use Rattle.mas_types.specs.declared.ids.Dev.TheVariants.{Ckpt1, Ckpt2, Spool}
use Rattle.mas_types.specs.declared.journals.Journal.{Journal}
use Rattle.mas_types.specs.declared.queues.Queue.{Queue}
use Rattle.mas_types.specs.declared.answers.Status.{Status}
use Rattle.mas_types.specs.declared.answers.Status.TheVariants as status
use Rattle.spool_plant.specs.declared.plant.Part.TheVariants.{Disk as DiskPart, Console}
use Rattle.mas_types.specs.Limits.{page_bytes}
use Rattle.mas_types.specs.Starts.{no_queue}
use Rattle.mas_complex.specs.Headline.{whole}
use Rattle.mas_complex.specs.Paper.{SamePapers}
use Rattle.spool_plant.specs.View.{View, World, Disk, Line, disk_at, disk_now}
use Rattle.spool_plant.specs.Acts.{Goes}
use Rattle.ckpt_form.specs.Form.{form_reads, form_needs}
use Rattle.ckpt_copy.specs.Changes.{NoMore}
use Rattle.ckpt_copy.specs.Meanwhile.{SameSides}
use Rattle.ckpt_copy.specs.Moments.{either_way, goes_on, goes_none, sides_none}
use Rattle.ckpt_copy.specs.Pages.{bytes_of}
use Rattle.start_choice.specs.declared.choosing.StartNo.{StartNo}
use Rattle.start_choice.specs.declared.choosing.StartNo.TheVariants as no_start
use Rattle.warm_start.specs.Inspecting.{Looks, HasFailed, HasFound, FindsNone, SomeThere}
use Rattle.warm_start.specs.Starting.{HasGone, mark_of}
use Rattle.warm_start.proofs.Begun.{found_later, gone_on_to}
use Rattle.queue_report.specs.Reports.{report_lines}
use Rattle.member_node.specs.Calls.{IsOnlyOn, console_now}
use Rattle.run_opening.specs.Runs.{has_begun, Begins}
use Rattle.run_opening.specs.Statuses.{IsCaused, LeavesLost}
use Rattle.run_opening.specs.Unstarted.{status_of_start}
use Rattle.mas_tasks.specs.Reports.{ChangesNoDevice, SaysQueue, IsReport}
use Rattle.mas_tasks.specs.Saying.{Adds, Says as AreSaid}
use Rattle.mas_tasks.specs.ScriptRuns.{RunEnd}
use Rattle.mas_tasks.proofs.SayLemmas.{adds_none}

disk_not_console : (d : Dev) → DiskPart d ≢ Console
disk_not_console d e = absurd (cc)

-- what says nothing of the console holds on while lines are said
on_device : (P : Disk → Type 0) (tells : Type 0) (lines : List (List ℕ)) (v0 v1 v2 : View) (d : Dev) → tells → Goes v0 v1 → Adds tells lines v1 v2 → ((t : ℕ) → v0.now ≤ t → t ≤ v1.now → P (disk_at v1 t d))
    → (t : ℕ) → v0.now ≤ t → t ≤ v2.now → P (disk_at v2 t d)
on_device P tells lines v0 v1 v2 d told goes adds before t from le = ⊎_elim
    (λ early. subst (λ (w : World). P (w.disk d)) (sym (adds.goes.past t early)) (before t from early))
    (λ late. subst P (sym (adds.disks told t (omega arith) le d)) (before v1.now goes.later (omega arith)))
    (either_way t v1.now)

-- nothing is printed in looks, nor while lines are said
papers_on : (tells : Type 0) (lines : List (List ℕ)) (v0 v1 v2 : View) → tells → Looks tells v0 v1 → Adds tells lines v1 v2 → SamePapers v0 v2
papers_on tells lines v0 v1 v2 told looks adds t from le m = ⊎_elim
    (λ early. ap (λ (w : World). w.paper m) (adds.goes.past t early) ∙ ((looks.during told).sides t from early).paper m)
    (λ late. adds.papers told t (omega arith) le m ∙ ((looks.during told).sides v1.now looks.goes.later (omega arith)).paper m)
    (either_way t v1.now)

lost_on : (tells : Type 0) (lines : List (List ℕ)) (v0 v1 v2 : View) (d : Dev) → Adds tells lines v1 v2 → (v1.lost (DiskPart d) ≡ v0.lost (DiskPart d)) ⊎ HasFailed d v0 v1
    → (v2.lost (DiskPart d) ≡ v0.lost (DiskPart d)) ⊎ HasFailed d v0 v2
lost_on tells lines v0 v1 v2 d adds before = ⊎_elim
    (λ same. inl (adds.lost (DiskPart d) (disk_not_console d) ∙ same))
    (λ failed. inr (adds.lost (DiskPart d) (disk_not_console d) ∙ failed.0, omega (arith, failed.1, adds.goes.faults (DiskPart d))))
    before

pub no_device : (tells : Type 0) (lines : List (List ℕ)) (v0 v1 v2 : View) → Looks tells v0 v1 → Adds tells lines v1 v2 → ChangesNoDevice tells v0 v2
no_device tells lines v0 v1 v2 looks adds = record {
  goes = goes_on v0 v1 v2 looks.goes adds.goes;
  first = λ told. on_device (NoMore (disk_now v0 Ckpt1)) tells lines v0 v1 v2 Ckpt1 told looks.goes adds (looks.during told).first;
  second = λ told. on_device (NoMore (disk_now v0 Ckpt2)) tells lines v0 v1 v2 Ckpt2 told looks.goes adds (looks.during told).second;
  papers = λ told. papers_on tells lines v0 v1 v2 told looks adds;
  others = λ told t from le d one two. on_device (λ (disk : Disk). disk ≡ disk_now v0 d) tells lines v0 v1 v2 d told looks.goes adds (λ s at to. (looks.during told).others s at to d one two) t from le;
  loses = λ d. adds.loses d ∙ looks.loses d;
  stops = λ m. adds.stops m ∙ looks.stops m;
  lost1 = lost_on tells lines v0 v1 v2 Ckpt1 adds looks.lost1;
  lost2 = lost_on tells lines v0 v1 v2 Ckpt2 adds looks.lost2;
  else_lost = λ p one two not. adds.lost p not ∙ looks.else_lost p one two;
}

pub same_console : (tells : Type 0) (v0 v1 : View) → Looks tells v0 v1 → tells → console_now v1 ≡ console_now v0
same_console tells v0 v1 looks told = (looks.during told).console v1.now looks.goes.later (omega arith)

there_on : (tells : Type 0) (lines : List (List ℕ)) (v1 v2 : View) → Adds tells lines v1 v2 → SomeThere v1 → SomeThere v2
there_on tells lines v1 v2 adds some = ⊎_elim
    (λ one. inl (adds.lost (DiskPart Ckpt1) (disk_not_console Ckpt1) ∙ one))
    (λ two. inr (adds.lost (DiskPart Ckpt2) (disk_not_console Ckpt2) ∙ two))
    some

found_on : (tells : Type 0) (lines : List (List ℕ)) (v0 v1 v2 : View) (Q : Queue) → Adds tells lines v1 v2 → HasFound form_reads tells form_needs v0 v1 Q → HasFound form_reads tells form_needs v0 v2 Q
found_on tells lines v0 v1 v2 Q adds f = record {
  pages = f.pages;
  tables = f.tables;
  usable = f.usable;
  sized = f.sized;
  is = f.is;
  tell = f.tell;
  found = λ told. found_later form_reads v0 v1 v2 (mark_of v1) (mark_of v2) (bytes_of f.pages) (gone Ckpt1 told) (gone Ckpt2 told) (f.found told);
  there = there_on tells lines v1 v2 adds f.there;
  large1 = omega (arith, adds.goes.size Ckpt1, f.large1);
  large2 = omega (arith, adds.goes.size Ckpt2, f.large2);
  roomy = λ n some few there. subst (λ (size : ℕ). page_bytes * f.tables.config.groups ≤ size) (sym (adds.goes.size (Spool n))) (f.roomy n some few (sym (adds.lost (DiskPart (Spool n)) (disk_not_console (Spool n))) ∙ there));
} where
  gone : (d : Dev) → tells → HasGone d v0 v1 (mark_of v1) → HasGone d v0 v2 (mark_of v2)
  gone d told x = gone_on_to d v0 v1 v2 adds.goes (adds.loses d) (λ lt. ap (λ (disk : Disk). disk.lost) (adds.disks told v2.now adds.goes.later (omega arith) d) ∙ x.gone (omega (arith, adds.goes.later, lt))) x

-- the queue that is found has members
pub found_begun : (tells : Type 0) (v0 v1 : View) (Q : Queue) → HasFound form_reads tells form_needs v0 v1 Q → has_begun Q ≡ true
found_begun tells v0 v1 Q f = ap has_begun f.is ∙ some f.tables.config.members f.usable.0.fit.shape.config.members.0 where
  some : (n : ℕ) → 1 ≤ n → nat_lt 0 n ≡ true
  some n le = grind (arith, nat_tests)

no : (b : Bool) → b ≡ true → b ≡ false → ⊥
no b p q = cc

-- WHAT WAS FOUND IS SAID

-- the lines that were said
some_said : (tells : Type 0) (lines : List (List ℕ)) (v1 v2 : View) (answer : Status) → AreSaid tells lines v1 v2 answer → (some : List (List ℕ)) × Adds tells some v1 v2
some_said tells lines v1 v2 status.Done said = (lines, said)
some_said tells lines v1 v2 status.ConsoleFault said = (take said.said lines, said.adds)
some_said tells lines v1 v2 status.Words said = absurd said
some_said tells lines v1 v2 (status.BadLine line cause) said = absurd said
some_said tells lines v1 v2 status.TooLong said = absurd said
some_said tells lines v1 v2 status.SourceFault said = absurd said
some_said tells lines v1 v2 (status.NotFormatted first second) said = absurd said
some_said tells lines v1 v2 status.BothLost said = absurd said
some_said tells lines v1 v2 (status.DeviceSize dev size) said = absurd said
some_said tells lines v1 v2 status.NoMemory said = absurd said

module _ (tells : Type 0) (v0 v1 v2 : View) (Q : Queue) (looks : Looks tells v0 v1) where
  on_console : (lines : List (List ℕ)) → Adds tells lines v1 v2 → tells → console_now v2 ≡ console_now v0 ++ map whole lines
  on_console lines adds told = adds.console told ∙ ap (λ (l : List Line). l ++ map whole lines) (same_console tells v0 v1 looks told)

  says_queue : (answer : Status) → AreSaid tells (report_lines Q) v1 v2 answer → SaysQueue tells answer Q v0 v2
  says_queue status.Done said = on_console (report_lines Q) said
  says_queue status.ConsoleFault said = record {
    said = said.said;
    few = said.few;
    console = on_console (take said.said (report_lines Q)) said.adds;
    failed = omega (arith, looks.goes.faults Console, said.failed);
  }
  says_queue status.Words said = absurd said
  says_queue (status.BadLine line cause) said = absurd said
  says_queue status.TooLong said = absurd said
  says_queue status.SourceFault said = absurd said
  says_queue (status.NotFormatted first second) said = absurd said
  says_queue status.BothLost said = absurd said
  says_queue (status.DeviceSize dev size) said = absurd said
  says_queue status.NoMemory said = absurd said

  pub said_goes : (answer : Status) → AreSaid tells (report_lines Q) v1 v2 answer → Goes v0 v2
  said_goes answer said = goes_on v0 v1 v2 looks.goes (some_said tells (report_lines Q) v1 v2 answer said).1.goes

  pub said_elsewhere : (answer : Status) → AreSaid tells (report_lines Q) v1 v2 answer → tells → IsOnlyOn v0 v2
  said_elsewhere answer said told = let s = some_said tells (report_lines Q) v1 v2 answer said in (no_device tells s.0 v0 v1 v2 looks s.1).others told

  pub said_caused : (answer : Status) → AreSaid tells (report_lines Q) v1 v2 answer → IsCaused answer v0 v2
  said_caused status.Done said = record { failed1 = λ e. absurd (cc); failed2 = λ e. absurd (cc); console = λ e. absurd (cc) }
  said_caused status.ConsoleFault said = record { failed1 = λ e. absurd (cc); failed2 = λ e. absurd (cc); console = λ e. omega (arith, looks.goes.faults Console, said.failed) }
  said_caused status.Words said = absurd said
  said_caused (status.BadLine line cause) said = absurd said
  said_caused status.TooLong said = absurd said
  said_caused status.SourceFault said = absurd said
  said_caused (status.NotFormatted first second) said = absurd said
  said_caused status.BothLost said = absurd said
  said_caused (status.DeviceSize dev size) said = absurd said
  said_caused status.NoMemory said = absurd said

  module _ (found : HasFound form_reads tells form_needs v0 v1 Q) where
    pub said_begins : (answer : Status) → AreSaid tells (report_lines Q) v1 v2 answer → Begins answer Q
    said_begins status.Done said = found_begun tells v0 v1 Q found
    said_begins status.ConsoleFault said = found_begun tells v0 v1 Q found
    said_begins status.Words said = absurd said
    said_begins (status.BadLine line cause) said = absurd said
    said_begins status.TooLong said = absurd said
    said_begins status.SourceFault said = absurd said
    said_begins (status.NotFormatted first second) said = absurd said
    said_begins status.BothLost said = absurd said
    said_begins (status.DeviceSize dev size) said = absurd said
    said_begins status.NoMemory said = absurd said

    -- the report, which said these lines
    abbrev pub reported_end : Type 0 → Status → Journal → ℕ → RunEnd
    reported_end same answer journal since = record { tells = tells; same = same; answer = answer; base = Q; journal = journal; since = since; old = v0; new = v2 }

    pub said_report : (same : Type 0) (answer : Status) (journal : Journal) (since : ℕ) → AreSaid tells (report_lines Q) v1 v2 answer → journal.batches ≡ [] → since ≡ v0.now → IsReport (reported_end same answer journal since)
    said_report same answer journal since said batches moment = let s = some_said tells (report_lines Q) v1 v2 answer said in record {
      devices = no_device tells s.0 v0 v1 v2 looks s.1;
      reported = λ begun. record { found = found_on tells s.0 v0 v1 v2 Q s.1 found; batches = batches; moment = moment; said = says_queue answer said };
      unfound = λ none. absurd (no (has_begun Q) (found_begun tells v0 v1 Q found) none);
    }

pub said_not_words : (tells : Type 0) (lines : List (List ℕ)) (v1 v2 : View) (answer : Status) → AreSaid tells lines v1 v2 answer → answer ≢ status.Words
said_not_words tells lines v1 v2 answer said e = subst (λ (a : Status). AreSaid tells lines v1 v2 a) e said

-- NOTHING IS SAID

pub start_not_words : (why : StartNo) → status_of_start why ≢ status.Words
start_not_words (no_start.NotFormatted first second) e = absurd (cc)
start_not_words no_start.BothLost e = absurd (cc)
start_not_words (no_start.DeviceSize dev size) e = absurd (cc)
start_not_words no_start.NoMemory e = absurd (cc)

pub none_report : (r : RunEnd) (v : View) (why : StartNo) → r.new ≡ v → Looks r.tells r.old v → has_begun r.base ≡ false → r.answer ≡ status_of_start why → FindsNone form_reads r.tells form_needs r.old v why → IsReport r
none_report r v why view looks not is cause = record {
  devices = subst (ChangesNoDevice r.tells r.old) (sym view) (no_device r.tells [] r.old v v looks (adds_none r.tells v));
  reported = λ begun. absurd (no (has_begun r.base) begun not);
  unfound = λ none. record { why = why; is = is; cause = subst (λ (n : View). FindsNone form_reads r.tells form_needs r.old n why) (sym view) cause };
}

pub none_caused : (tells : Type 0) (why : StartNo) (v0 v1 : View) → FindsNone form_reads tells form_needs v0 v1 why → IsCaused (status_of_start why) v0 v1
none_caused tells (no_start.NotFormatted first second) v0 v1 none = record { failed1 = λ e. absurd (cc); failed2 = λ e. absurd (cc); console = λ e. absurd (cc) }
none_caused tells no_start.BothLost v0 v1 none = record { failed1 = λ e. inl none.0.1; failed2 = λ e. inl none.1.1; console = λ e. absurd (cc) }
none_caused tells (no_start.DeviceSize dev size) v0 v1 none = record { failed1 = λ e. absurd (cc); failed2 = λ e. absurd (cc); console = λ e. absurd (cc) }
none_caused tells no_start.NoMemory v0 v1 none = record { failed1 = λ e. absurd (cc); failed2 = λ e. absurd (cc); console = λ e. absurd (cc) }

both_gone : (tells : Type 0) (why : StartNo) (v0 v1 : View) → status.BothLost ≡ status_of_start why → FindsNone form_reads tells form_needs v0 v1 why
    → (v1.lost (DiskPart Ckpt1) ≡ true) × (v1.lost (DiskPart Ckpt2) ≡ true)
both_gone tells (no_start.NotFormatted first second) v0 v1 is none = absurd (cc)
both_gone tells no_start.BothLost v0 v1 is none = (none.0.0, none.1.0)
both_gone tells (no_start.DeviceSize dev size) v0 v1 is none = absurd (cc)
both_gone tells no_start.NoMemory v0 v1 is none = absurd (cc)

-- a report that found no queue
pub report_lost : (r : RunEnd) → IsReport r → Goes r.old r.new → has_begun r.base ≡ false → LeavesLost r.answer r.old r.new
report_lost r report goes none = record {
  stays = goes.lost;
  both = λ e. let un = report.unfound none in both_gone r.tells un.why r.old r.new (sym e ∙ un.is) un.cause;
}

pub none_begins : (why : StartNo) (base : Queue) → base ≡ no_queue → Begins (status_of_start why) base
none_begins (no_start.NotFormatted first second) base is = ap has_begun is
none_begins no_start.BothLost base is = tt
none_begins (no_start.DeviceSize dev size) base is = ap has_begun is
none_begins no_start.NoMemory base is = tt

pub none_elsewhere : (tells : Type 0) (v0 v1 : View) → Looks tells v0 v1 → tells → IsOnlyOn v0 v1
none_elsewhere tells v0 v1 looks told = (no_device tells [] v0 v1 v1 looks (adds_none tells v1)).others told

-- no call was made
no_more : (disk : Disk) → NoMore disk disk
no_more disk = record { bytes = refl; unsynced = λ s avoids. avoids; there = λ is. is }

at_now : (v : View) (t : ℕ) → v.now ≤ t → t ≤ v.now → t ≡ v.now
at_now v t from le = omega arith

pub looks_none : (tells : Type 0) (v : View) → Looks tells v v
looks_none tells v = record {
  goes = goes_none v;
  during = λ told. record {
    goes = goes_none v;
    first = λ t from le. subst (λ (n : ℕ). NoMore (disk_now v Ckpt1) (disk_at v n Ckpt1)) (sym (at_now v t from le)) (no_more (disk_now v Ckpt1));
    second = λ t from le. subst (λ (n : ℕ). NoMore (disk_now v Ckpt2) (disk_at v n Ckpt2)) (sym (at_now v t from le)) (no_more (disk_now v Ckpt2));
    others = λ t from le d one two. ap (λ (n : ℕ). disk_at v n d) (at_now v t from le);
    console = λ t from le. ap (λ (n : ℕ). (v.world n).console) (at_now v t from le);
    sides = λ t from le. subst (λ (n : ℕ). SameSides (v.world v.now) (v.world n)) (sym (at_now v t from le)) (sides_none (v.world v.now));
    waiting = λ w. refl;
  };
  loses = λ d. refl;
  stops = λ m. refl;
  lost1 = inl refl;
  lost2 = inl refl;
  else_lost = λ p one two. refl;
}

-- a report that runs out of memory
pub not_reported : (r : RunEnd) → r.answer ≡ status.NoMemory → r.base ≡ no_queue → r.new ≡ r.old → IsReport r
not_reported r memory none view = none_report r r.old no_start.NoMemory view (looks_none r.tells r.old) (ap has_begun none) memory tt
