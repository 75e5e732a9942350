-- Acts of a step of work that want no lock: which may be done, and what they show.
use Rattle.std.specs.Prelude.{◌≡◌, ◌⊎◌, ℕ, ◌+◌, ◌≤◌, Bool, true, List, is_some, take, All, None, Some, Result, Ok, Err, IfOk}
use Rattle.mas_types.specs.declared.ids.GroupNo.{GroupNo}
use Rattle.mas_types.specs.declared.ids.JobNo.{JobNo}
use Rattle.mas_types.specs.declared.ids.MemberId.{MemberId}
use Rattle.mas_types.specs.declared.ids.OutNo.{OutNo}
use Rattle.mas_types.specs.declared.jobs.Job.{Job}
use Rattle.mas_types.specs.declared.jobs.Output.{Output}
use Rattle.mas_types.specs.declared.jobs.OutSpec.{OutSpec}
use Rattle.mas_types.specs.declared.jobs.Text.{Text}
use Rattle.mas_types.specs.declared.queues.Owner.{Owner}
use Rattle.mas_types.specs.declared.queues.Queue.{Queue}
use Rattle.mas_types.specs.declared.queues.Thing.TheVariants.{Deck, Output as OutputThing}
use Rattle.mas_types.specs.Commands.Life.{groups_of_outputs}
use Rattle.mas_types.specs.Limits.{members_most}
use Rattle.mas_types.specs.Owners.{member_count}
use Rattle.mas_types.specs.Queue.{job_at, output_at, printing_at}
use Rattle.mas_types.specs.Sound.{IsSound}
use Rattle.ckpt_copy.specs.declared.copying.Copying.{Ghosts as CopyGhosts}
use Rattle.ckpt_tables.specs.Shape.{HasSpelling}
use Rattle.ckpt_tables.specs.declared.tables.Tables.{Tables}
use Rattle.queue_telling.specs.Telling.{Tell, TellSound}
use Rattle.lock_cycle.specs.Books.{IsMember, after_stop}
use Rattle.paper_laws.specs.Next.{limit_of}
use Rattle.spool_plant.specs.Acts.{SameWires}
use Rattle.spool_plant.specs.View.{View}
use Rattle.spool_plant.specs.declared.plant.Plant.{Ghosts as PlantGhosts}
use Rattle.spool_volumes.specs.Volumes.{AreRoomy}
use Rattle.track_groups.specs.Groups.{held_by}
use Rattle.track_groups.specs.Places.{groups_of}
use Rattle.job_exec.specs.Running.{AreOutputs}
use Rattle.job_outcome.specs.declared.outcomes.Read.{Read}
use Rattle.job_outcome.specs.Outcomes.{IsReadable}
use Rattle.nje_frames.specs.declared.frames.Frame.{Frame}
use Rattle.mas_complex.specs.declared.complex.Complex.{Complex}
pub use Rattle.ckpt_form.specs.declared.steady.Steady.{Ghosts as SteadyGhosts}
use Rattle.mas_complex.specs.Locking.{IsUp, reserved_after_stop}
use Rattle.mas_complex.specs.Paper.{counts_of}
use Rattle.mas_complex.specs.Parts.{Parts, parts_of}
use Rattle.mas_complex.specs.Spool.{IsHeldBy}
use Rattle.member_sittings.specs.Member.{Member}
use Rattle.member_sittings.specs.NodeNo.{NodeNo}
use Rattle.member_sittings.specs.NodeNo.TheVariants.{BothLost, Halted, ConsoleFault, NoMemory}
use Rattle.member_sittings.specs.Spooling.{OnVolumes}
use Rattle.member_sittings.specs.Steps.{SpoolStops}
use Rattle.member_work.specs.Inked.{HasInked, OtherCountsStay, lines_read}
use Rattle.member_work.specs.Looks.{as_it_is}
use Rattle.member_work.specs.Printing.{IsBeside}
use Rattle.member_work.specs.Reading.{IsFailedRead, OnlyReads}
use Rattle.member_work.specs.Rounds.{HasPrinterFailed, IsReadAs, names_read}
use Rattle.member_work.specs.Spooled.{AreSpooled}
use Rattle.step_turns.specs.JobEnds.{printed_end}
use Rattle.step_turns.specs.States.{nothing_found}
use Rattle.step_turns.specs.declared.states.Found.{Found}
use Rattle.member_sittings.specs.Asides.{HasPlaced}
pub use Rattle.member_sittings.specs.Asides.{deck_found, finds_of, found_as}
use Rattle.member_sittings.specs.Whole.{queue_of}
use Rattle.member_asides.specs.Ready.{IsOutputReady}

-- WHAT A MEMBER FOUND

-- at a line to another node: this text, whether the line was found lost, and these frames
abbrev pub wire_found : Read → Bool → List Frame → Found
wire_found read lost frames = record nothing_found { read = read; wire = lost; frames = frames }

-- what a member found that read a text
abbrev pub read_found : Read → Found
read_found read = record nothing_found { read = read }

-- what one found that read a text and printed its lines, unless its printer was lost
abbrev pub printed_found : Read → Bool → Found
printed_found read lost = record nothing_found { read = read; printer = lost }

-- WHAT THE MEMBER'S TABLES SAY OF A QUEUE, though others may have changed it since

-- A job has its text and its groups still, as the tables tell. Others may have held or cancelled it, or changed its
-- class.
pub record IsJobStill (t : Tables) (n : JobNo) (Q : Queue) : Type 0 where
  pub was : Queue
  pub told : Tell t was
  pub text : (has : Job) → job_at Q n ≡ Some has → (had : Job) × (job_at was n ≡ Some had) × (has.text ≡ had.text)
  pub groups : groups_of (Deck n) Q.owners ≡ groups_of (Deck n) was.owners

-- an output has its mark, its text and its copies still
pub record HasStayed (had has : Output) : Type 0 where
  pub mark : has.mark ≡ had.mark
  pub text : has.text ≡ had.text
  pub copies : has.copies ≡ had.copies

-- An output has these and its groups still, as the tables tell, and is busy at the member if it was. So is the limit of
-- the member's printer.
pub record IsOutputStill (t : Tables) (by : MemberId) (n : JobNo) (i : OutNo) (Q : Queue) : Type 0 where
  pub was : Queue
  pub told : Tell t was
  pub output : (has : Output) → output_at Q n i ≡ Some has → (had : Output) × (output_at was n i ≡ Some had)
      × HasStayed had has
  pub busy : (had : Output) → output_at was n i ≡ Some had → printing_at was by ≡ Some had
      → (has : Output) × (output_at Q n i ≡ Some has) × (printing_at Q by ≡ Some has) × HasStayed had has
  pub groups : groups_of (OutputThing n i) Q.owners ≡ groups_of (OutputThing n i) was.owners
  pub limit : limit_of Q by ≡ limit_of was by

-- the lowest groups of a member, as many as outputs need
abbrev pub lowest_for : MemberId → List Owner → List OutSpec → List GroupNo
lowest_for by owners specs = take (groups_of_outputs specs) (held_by by owners)

-- how a text was read, or as it is, where the acts ended before that was told
abbrev pub read_by : Result Found NodeNo → Text → Read
read_by (Ok found) text = found.read
read_by (Err why) text = as_it_is text

-- whether the printer was found lost
abbrev pub printer_by : Result Found NodeNo → Result Bool NodeNo
printer_by (Ok found) = Ok found.printer
printer_by (Err why) = Err why

-- the lines of an output up to this one, except so many that the member has printed, by how its text was read
abbrev pub lines_next : ℕ → ℕ → Output → Read → List (List ℕ)
lines_next count last o read = lines_read o.job o.index (o.mark + count) last read

-- the lines of the output with this key, up to this one
pub record LinesTo : Type 0 where
  pub job : JobNo
  pub output : OutNo
  pub last : ℕ

abbrev pub lines_to : JobNo → OutNo → ℕ → LinesTo
lines_to n i last = record { job = n; output = i; last = last }

-- WHAT ACTS WITHOUT THE LOCK LEAVE ALONE

module _ {P C : Type 0} where
  -- only the plant differs, and how many lines the members have printed
  abbrev pub printed_in : Parts P C → Parts P C → Parts P C
  printed_in is was = record was { plant = is.plant; printed = is.printed }

  -- a member that was stopped is stopped in the book, and what it has reserved is given up
  abbrev pub stopped_at : MemberId → Parts P C → Parts P C
  stopped_at by x = record x { book = after_stop x.book by; reserved = reserved_after_stop by x.reserved }

  -- One that was stopped at its printer is stopped so already. Where it was stopped at a volume all is as it was.
  abbrev pub HasOnlyPrinted : {T : Type 0} → Result T NodeNo → MemberId → Parts P C → Parts P C → Type 0
  HasOnlyPrinted (Ok done) by x y = y ≡ printed_in y x
  HasOnlyPrinted (Err Halted) by x y = (y ≡ printed_in y x) ⊎ (y ≡ printed_in y (stopped_at by x))
  HasOnlyPrinted (Err NoMemory) by x y = y ≡ printed_in y x
  HasOnlyPrinted (Err BothLost) by x y = y ≡ printed_in y x
  HasOnlyPrinted (Err ConsoleFault) by x y = y ≡ printed_in y x

module _ {P C : Type 0} (plants : PlantGhosts P) where
  abbrev v : Parts P C → View
  v x = plants.view x.plant

  -- a member that isn't stopped may act, whoever holds the lock
  pub record MayAside (x : Parts P C) (m : Member) : Type 0 where
    pub up : IsUp x.book m.id
    pub sound : plants.tells → IsSound x.base
    pub spelling : HasSpelling m.checkpoint.tables
    pub config : x.base.config ≡ m.checkpoint.tables.config
    pub some : 1 ≤ x.base.config.groups

  -- READING A JOB'S TEXT

  pub record MayRead (x : Parts P C) (m : Member) (n : JobNo) : Type 0 where
    pub may : MayAside x m
    pub sound : plants.tells → TellSound m.checkpoint.tables
    pub there : (Q : Queue) → Tell m.checkpoint.tables Q → is_some (job_at Q n) ≡ true
    pub still : plants.tells → IsJobStill m.checkpoint.tables n (queue_of x)

  -- How it was read: where content is told it is as the queue has it, unless a volume of its groups was found lost.
  pub record FindsText (x y : Parts P C) (m : Member) (n : JobNo) (found : Found) : Type 0 where
    pub only : found ≡ read_found found.read
    pub fits : IsReadable found.read
    pub failed : IsFailedRead x.base.config.groups (groups_of (Deck n) m.checkpoint.tables.owners) found.read (v x)
        (v y)
    pub read : plants.tells → AreRoomy (v x) x.base.config → (j : Job) → job_at (queue_of x) n ≡ Some j
        → IsReadAs plants.tells x.base.config.groups (j.text, groups_of (Deck n) (queue_of x).owners) (Some found.read)
        (v x) (v y)

  -- Reading, by its answer: no volume is written, and each stays as it is that isn't found lost. Halted comes only
  -- where the member was stopped.
  pub record HasRead (x y : Parts P C) (m : Member) (n : JobNo) (result : Result Found NodeNo) : Type 0 where
    pub frame : y ≡ record x { plant = y.plant }
    pub acts : OnVolumes plants.tells m.id.0 (v x) (v y)
    pub reads : OnlyReads plants.tells (v x) (v y)
    pub cause : SpoolStops (λ found. names_read found.read) result m.id.0 (v x) (v y)
    pub finds : IfOk result (FindsText x y m n)

  -- WRITING THE OUTPUTS OF A JOB

  pub record MayWrite (x : Parts P C) (m : Member) (specs : List OutSpec) : Type 0 where
    pub may : MayAside x m
    pub none : x.current ≡ None
    pub outputs : AreOutputs specs
    pub enough : groups_of_outputs specs ≤ member_count m.id m.checkpoint.tables.owners
    pub held : plants.tells → All (λ g. IsHeldBy m.id g (queue_of x)) (held_by m.id m.checkpoint.tables.owners)

  -- the texts of a job's outputs were written into the lowest groups of the member
  abbrev pub HasWritten : Parts P C → Parts P C → Member → List OutSpec → Result Found NodeNo → Type 0
  HasWritten x y m specs result = HasPlaced plants x y m.id (lowest_for m.id m.checkpoint.tables.owners specs)
      (λ disks per. AreSpooled disks per specs (lowest_for m.id m.checkpoint.tables.owners specs)) result

  -- PRINTING THE NEXT LINES OF AN OUTPUT

  pub record MayPrintNext (x : Parts P C) (m : Member) (l : LinesTo) : Type 0 where
    pub may : MayAside x m
    pub few : m.id.0 ≤ members_most
    pub some : 1 ≤ m.id.0
    pub seated : IsMember x.book m.id
    pub none : x.current ≡ None
    pub sound : plants.tells → TellSound m.checkpoint.tables
    pub output : IsOutputReady m.checkpoint.tables m.id l.job l.output l.last
    pub still : plants.tells → IsOutputStill m.checkpoint.tables m.id l.job l.output (queue_of x)
    pub roomy : plants.tells → AreRoomy (v x) x.base.config

  -- How the text was read, and whether the printer was found lost; where the unit isn't refused for it, the lines stand
  -- on paper.
  pub record FindsLines (x y : Parts P C) (m : Member) (l : LinesTo) (found : Found) : Type 0 where
    pub only : found ≡ printed_found found.read found.printer
    pub fits : IsReadable found.read
    pub failed : IsFailedRead x.base.config.groups
        (groups_of (OutputThing l.job l.output) m.checkpoint.tables.owners) found.read (v x) (v y)
    pub read : plants.tells → AreRoomy (v x) x.base.config → (o : Output)
        → output_at (queue_of x) l.job l.output ≡ Some o
        → IsReadAs plants.tells x.base.config.groups
        (o.text, groups_of (OutputThing l.job l.output) (queue_of x).owners) (Some found.read) (v x) (v y)
    pub printer : found.printer ≡ true → HasPrinterFailed m.id (v x) (v y)
    pub counted : printed_end found.printer found.read ≡ None → plants.tells → (o : Output)
        → output_at (queue_of x) l.job l.output ≡ Some o
        → l.last ≤ o.mark + counts_of y.printed m.id

  -- Printing, by its answer: no volume is written, and nothing moves on a line to another node. Of the lines that come
  -- next those stand on the member's printer that the answer says, no other printer has any more, and no other member's
  -- count differs. Halted comes only where the member was stopped.
  pub record HasPrintedNext (x y : Parts P C) (m : Member) (l : LinesTo) (result : Result Found NodeNo) : Type 0
    where
      pub frame : HasOnlyPrinted result m.id x y
      pub acts : IsBeside plants.tells (v x) (v y)
      pub reads : OnlyReads plants.tells (v x) (v y)
      pub inks : plants.tells → (o : Output) → output_at (queue_of x) l.job l.output ≡ Some o
          → HasInked plants m.id (lines_next (counts_of x.printed m.id) l.last o (read_by result o.text)) x y
          (printer_by result)
      pub counts : OtherCountsStay m.id x.printed y.printed
      pub wires : plants.tells → SameWires (v x) (v y)
      pub cause : SpoolStops (λ found. names_read found.read) result m.id.0 (v x) (v y)
      pub finds : IfOk result (FindsLines x y m l)

-- OVER THE SHARED VALUE

module _ {P C : Type 0} {plants : PlantGhosts P} {steadies : SteadyGhosts C} {copies : CopyGhosts C} where
  abbrev pub MayReadText : Complex P C plants steadies copies → Member → JobNo → Type 0
  MayReadText x m n = MayRead plants (parts_of x) m n

  abbrev pub ReadsText : Complex P C plants steadies copies → Complex P C plants steadies copies → Member → JobNo
      → Result Found NodeNo → Type 0
  ReadsText x y m n result = HasRead plants (parts_of x) (parts_of y) m n result

  abbrev pub MayWriteOutputs : Complex P C plants steadies copies → Member → List OutSpec → Type 0
  MayWriteOutputs x m specs = MayWrite plants (parts_of x) m specs

  abbrev pub WritesOutputs : Complex P C plants steadies copies → Complex P C plants steadies copies → Member
      → List OutSpec → Result Found NodeNo → Type 0
  WritesOutputs x y m specs result = HasWritten plants (parts_of x) (parts_of y) m specs result

  abbrev pub MayPrintLines : Complex P C plants steadies copies → Member → LinesTo → Type 0
  MayPrintLines x m l = MayPrintNext plants (parts_of x) m l

  abbrev pub PrintsLines : Complex P C plants steadies copies → Complex P C plants steadies copies → Member → LinesTo
      → Result Found NodeNo → Type 0
  PrintsLines x y m l result = HasPrintedNext plants (parts_of x) (parts_of y) m l result
