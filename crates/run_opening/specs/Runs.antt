-- What a run began with, and what it leaves at each moment.
use Rattle.std.specs.Prelude.{◌≡◌, ◌⊎◌, ℕ, ◌≤◌, ◌<◌, nat_lt, Bool, true, false, List, [], ◌∷◌, length, Some}
use Rattle.mas_types.specs.declared.ids.Dev.{Dev}
use Rattle.mas_types.specs.declared.ids.Dev.TheVariants.{Ckpt1, Ckpt2, Spool}
use Rattle.mas_types.specs.declared.journals.Batch.{Batch}
use Rattle.mas_types.specs.declared.journals.Journal.{Journal}
use Rattle.mas_types.specs.declared.journals.Fate.TheVariants.{Kept, Flying}
use Rattle.mas_types.specs.declared.answers.Status.{Status}
use Rattle.mas_types.specs.declared.queues.Config.{Config}
use Rattle.mas_types.specs.declared.queues.Queue.{Queue}
use Rattle.mas_types.specs.declared.queues.Route.{Route}
use Rattle.mas_types.specs.Starts.{empty_queue, no_queue}
use Rattle.script_lang.specs.declared.types.Script.{Script}
use Rattle.spool_plant.specs.declared.plant.Part.{Part}
use Rattle.spool_plant.specs.declared.plant.Part.TheVariants.{Disk}
use Rattle.spool_plant.specs.View.{View, disk_at, disk_now, Throughout}
use Rattle.spool_plant.specs.Acts.{top, next}
use Rattle.ckpt_form.specs.Form.{form_reads, form_room}
use Rattle.ckpt_copy.specs.Meanwhile.{SameSides}
use Rattle.ckpt_copy.specs.Pages.{bytes_of, level}
use Rattle.ckpt_copy.specs.Reading.{AllRead}
use Rattle.ckpt_tables.specs.declared.tables.Tables.{Tables}
use Rattle.ckpt_pages.specs.Checkpoints.{IsCheckpoint}
use Rattle.ckpt_pages.specs.Starts.{empty_tables}
use Rattle.mas_types.specs.declared.ids.Page.{Page}
use Rattle.mas_types.specs.Ids.{nobody}
use Rattle.mas_complex.specs.Journals.{journal_most}
use Rattle.mas_complex.specs.Texts.{HasTexts, lost_now, spools_at}
use Rattle.queue_telling.specs.Telling.{Tell}
use Rattle.spool_volumes.specs.Volumes.{IsSteady}
use Rattle.warm_start.specs.Spooled.{AreGiven}
use Rattle.start_choice.specs.Usable.{AreOf, HaveSize}
use Rattle.run_opening.specs.Resets.{restart_entries}
use Rattle.warm_start.specs.Starting.{Mark, IsFound, IsUnfit, IsHeld}
use Rattle.mas_complex.specs.Paper.{PaperKept}
use Rattle.mas_complex.specs.declared.renewals.Renewal.{Renewal}
use Rattle.mas_complex.specs.declared.renewals.Renewals.{Renewals}
use Rattle.mas_complex.specs.Renewals.{is_open}
use Rattle.mas_complex.specs.Headline.{IsCrashSafe, AreAlwaysAlike, AreLevelsLow, AreTextsLeft, AreToldKept}
use Rattle.mas_types.specs.declared.answers.Status.TheVariants as status

-- a run has begun where its first queue has members
abbrev pub has_begun : Queue → Bool
has_begun base = nat_lt 0 base.config.members

-- with Done and ConsoleFault a run has begun, with BothLost and NoMemory it may have, with every other status not
abbrev pub Begins : Status → Queue → Type 0
Begins status.Done base = has_begun base ≡ true
Begins status.ConsoleFault base = has_begun base ≡ true
Begins status.BothLost base = Unit {0}
Begins status.NoMemory base = Unit {0}
Begins _ base = has_begun base ≡ false

-- a run that has not: it has no queue, no journal, and is at its first moment
pub record IsUnbegun (base : Queue) (journal : Journal) (since now : ℕ) : Type 0 where
  pub queue : base ≡ no_queue
  pub batches : journal.batches ≡ []
  pub moment : since ≡ now

-- nothing was printed, nor taken or given on a wire
abbrev pub AreSidesKept : View → View → Type 0
AreSidesKept old new = SameSides (old.world old.now) (new.world new.now)

-- THE COPIES

-- A copy counts as lost: its device is lost, or another was to take its place, and that hasn't ended.
abbrev pub IsAway : Dev → List Renewal → View → Type 0
IsAway d rs v = (v.lost (Disk d) ≡ true) ⊎ (is_open rs ≡ true)

abbrev pub AreAway : Renewals → View → Type 0
AreAway rs v = IsAway Ckpt1 rs.first v × IsAway Ckpt2 rs.second v

-- a copy is good: its device isn't lost, and it isn't being replaced
abbrev pub IsGoodNow : Dev → List Renewal → View → Type 0
IsGoodNow d rs v = (v.lost (Disk d) ≡ false) × (is_open rs ≡ false)

abbrev pub OneIsGood : Renewals → View → Type 0
OneIsGood rs v = IsGoodNow Ckpt1 rs.first v ⊎ IsGoodNow Ckpt2 rs.second v

-- A plant as it shows all at a run's end, but that devices of copies are lost that were lost at its first moment: a
-- line may have put others in their place.
abbrev pub lost_from : (Dev → Bool) → Part → Bool → Bool
lost_from lost (Disk Ckpt1) is = lost Ckpt1
lost_from lost (Disk Ckpt2) is = lost Ckpt2
lost_from lost _ is = is

abbrev pub as_found : (Dev → Bool) → View → View
as_found lost v = record v { lost = λ p. lost_from lost p (v.lost p) }

-- HOW A RUN BEGINS

-- the batch of Restart, which the operator gives before the first step
pub record IsRestart (since : ℕ) (b : Batch) : Type 0 where
  pub by : b.by ≡ nobody
  pub entries : b.entries ≡ restart_entries
  pub began : since ≤ b.first

-- A warm run begins with Restart, which is kept before its steps begin. Or both copies were lost in it, and it is in
-- flight to the end; or there was no memory for it, or both copies were lost while room was made for it: then no step
-- is played.
abbrev pub IsReset : Status → ℕ → ℕ → List Batch → ℕ → List Batch → Type 0
IsReset answer since at opening kept rest =
    ((b : Batch) × (opening ≡ b ∷ []) × IsRestart since b × (b.fate ≡ Kept) × (b.first ≤ b.last) × (b.last ≤ at))
    ⊎ ((b : Batch) × (opening ≡ b ∷ []) × IsRestart since b × (b.fate ≡ Flying) × (b.last ≡ top)
    × (answer ≡ status.BothLost) × (kept ≡ 0) × (rest ≡ []))
    ⊎ ((opening ≡ []) × ((answer ≡ status.NoMemory) ⊎ (answer ≡ status.BothLost)) × (kept ≡ 0) × (rest ≡ []))

-- what stands in the journal before the steps: nothing in a cold run
abbrev pub IsOpened : Bool → Status → ℕ → ℕ → List Batch → ℕ → List Batch → Type 0
IsOpened true answer since at opening kept rest = (opening ≡ []) × (at ≡ since)
IsOpened false answer since at opening kept rest = IsReset answer since at opening kept rest

-- up to a warm run's first moment an image of a copy is one of the entry, or reads as the copy did or as the pages
-- found
pub record IsHeldUntil (since : ℕ) (found : List ℕ) (old new : View) : Type 0 where
  pub first : Throughout old.now since (λ t. IsHeld form_reads (disk_now old Ckpt1) found (disk_at new t Ckpt1))
  pub second : Throughout old.now since (λ t. IsHeld form_reads (disk_now old Ckpt2) found (disk_at new t Ckpt2))

-- at a moment a copy isn't lost, and its bytes read as these pages
abbrev pub ReadsThere : Dev → List ℕ → ℕ → View → Type 0
ReadsThere dev found at v = ((disk_at v at dev).lost ≡ false) × (form_reads (disk_at v at dev).bytes ≡ Some found)

abbrev pub OneReadsThere : List ℕ → ℕ → View → Type 0
OneReadsThere found at v = ReadsThere Ckpt1 found at v ⊎ ReadsThere Ckpt2 found at v

-- the first moment of a run, and how often a call had lost each device then
abbrev pub begins_at : ℕ → (Dev → ℕ) → Mark
begins_at since first = record { at = since; loses = first }

-- The queue of the pages that a warm run finds: their tables tell it, and its texts stood on the spool volumes at the
-- run's first moment, all of them synced, except those with a group on a volume that is lost. Where no volume is lost
-- in the run, each text is what the volumes gave at the entry: one with a group on a lost volume is gone, and names the
-- first such group. A copy had been lost by a call before the steps only where it may not stay beside these pages, and
-- not both had. Up to the first moment a crash leaves of a copy what was there, or these pages. At the
-- first moment a copy is there with them.
pub record IsFoundQueue (tells : Type 0) (old new : View) (since : ℕ) (first : Dev → ℕ) (base : Queue) : Type 0 where
  pub pages : List Page
  pub tables : Tables
  pub are : AreOf pages tables
  pub sized : HaveSize pages
  pub told : Tell tables base
  pub texts : tells → HasTexts (lost_now new) (spools_at new since) base.config.groups base
  pub given : tells → IsSteady old new → AreGiven old base.config.groups base
  pub found : tells → IsFound form_reads old new (begins_at since first) (bytes_of pages)
  pub one : (first Ckpt1 ≡ old.loses Ckpt1) ⊎ (first Ckpt2 ≡ old.loses Ckpt2)
  pub kept1 : tells → (first Ckpt1 ≡ old.loses Ckpt1)
      ⊎ IsUnfit form_reads Ckpt1 old new (begins_at since first) (form_room (disk_now old Ckpt1).bytes) pages
  pub kept2 : tells → (first Ckpt2 ≡ old.loses Ckpt2)
      ⊎ IsUnfit form_reads Ckpt2 old new (begins_at since first) (form_room (disk_now old Ckpt2).bytes) pages
  pub held : tells → IsHeldUntil since (bytes_of pages) old new
  pub there : tells → OneReadsThere (bytes_of pages) since new

-- a cold run begins with the empty queue of the script's configuration and routes, a warm one with the queue found
abbrev pub HasBase : Bool → Type 0 → Script → View → View → ℕ → (Dev → ℕ) → Queue → Type 0
HasBase true tells script old new since first base = base ≡ empty_queue script.config script.routes
HasBase false tells script old new since first base = IsFoundQueue tells old new since first base

-- At a cold run's first moment whatever a crash leaves of a copy reads as pages of level 1, which spell the empty
-- tables of its configuration and routes, so that their next order is 0, and a copy is there with them. At the greatest
-- moment, at which the world stays while acts fail, no more is said.
pub record IsFormatted (config : Config) (routes : List Route) (since : ℕ) (v : View) : Type 0 where
  pub pages : List Page
  pub sized : HaveSize pages
  pub spell : IsCheckpoint pages (empty_tables config routes)
  pub at_level : level (bytes_of pages) ≡ 1
  pub next_order : (empty_tables config routes).order ≡ 0
  pub first : since < top → AllRead form_reads (bytes_of pages) (disk_at v since Ckpt1)
  pub second : since < top → AllRead form_reads (bytes_of pages) (disk_at v since Ckpt2)
  pub there : OneReadsThere (bytes_of pages) since v

-- how often a call lost a device before the steps: a warm start may lose a copy once, and no volume
abbrev pub LosesFirst : Bool → Dev → ℕ → ℕ → Type 0
LosesFirst true dev was is = is ≡ was
LosesFirst false Ckpt1 was is = (is ≡ was) ⊎ (is ≡ next was)
LosesFirst false Ckpt2 was is = (is ≡ was) ⊎ (is ≡ next was)
LosesFirst false (Spool n) was is = is ≡ was

-- THE LINES of a run: with what they began, the first of them at a queue, on a plant that showed this, in a run whose
-- first moment is this; and how they ended: so many were played, the run's own journal, after its opening, has these
-- batches, copies were replaced at these moments, and this is its status

-- What holds at each moment from a run's first on, where copies were replaced at these moments: a crash leaves the
-- queue after what was kept where a copy is good; both copies read the same pages or those on either side of the batch
-- in flight, but for one that is being replaced; each text is left, and what is told is kept; the lines that each kept
-- Mark answered stand on paper, and each line that a printer has more is the next one of the output that is busy at its
-- member, and whole unless an act of the member was halted. The levels on the copies rise by one for each batch that is
-- kept, of which there are at most 2^40.
pub record IsSafe (tells : Type 0) (base : Queue) (journal : Journal) (rs : Renewals) (since : ℕ) (new : View) : Type 0
  where
    pub crash : tells → ∥ IsCrashSafe form_reads base journal rs since new ∥₁
    pub alike : tells → ∥ AreAlwaysAlike form_reads base journal rs since new ∥₁
    pub texts : tells → ∥ AreTextsLeft base since journal new ∥₁
    pub told : tells → AreToldKept journal since new
    pub paper : tells → ∥ PaperKept base since journal.batches new ∥₁
    pub levels : tells → ∥ AreLevelsLow form_reads since journal rs new ∥₁
    pub few : tells → length journal.batches ≤ journal_most
