-- What a shared value tells of itself.
use Rattle.std.specs.Prelude.{ℕ, Bool, if◌then◌else◌, List, [], ◌∷◌, ◌++◌, length, map, filter, drop}
use Rattle.mas_types.specs.declared.ids.MemberId.{MemberId}
use Rattle.mas_types.specs.declared.ids.Page.{Page}
use Rattle.mas_types.specs.declared.journals.Batch.{Batch}
use Rattle.mas_types.specs.declared.journals.Entry.{Entry}
use Rattle.mas_types.specs.Ids.{same_member}
use Rattle.spool_plant.specs.View.{View, disk_now}
use Rattle.gate_facts.specs.declared.facts.Facts.{Facts}
use Rattle.gate_facts.specs.declared.desks.Desk.{Desk}
use Rattle.gate_facts.specs.declared.desks.Hold.{Hold}
use Rattle.gate_facts.specs.declared.desks.Group.{Group}
use Rattle.gate_facts.specs.declared.marks.Marks.{Marks}
use Rattle.mas_complex.specs.Journals.{kept_all, in_flight, coming}
use Rattle.mas_complex.specs.Meaning.{run}
use Rattle.mas_complex.specs.Paper.{counts_of}
use Rattle.gate_turns.specs.Seats.{all_seats, has_lock, shows_stopped}
use Rattle.mas_complex.specs.Parts.{Shown}
use Rattle.mas_complex.specs.Past.{noted_by}
use Rattle.gate_turns.specs.Words.{lines_by}
use Rattle.gate_turns.specs.Told.{told_by}
use Rattle.gate_turns.specs.Desks.{kept_pages, no_hold, whole_hold, groups_on}
use Rattle.gate_turns.specs.Marked.{devices, parts, lost_copies}

-- the entries of a member's batches
abbrev pub begun_by : MemberId → List Batch → List Entry
begun_by m [] = []
begun_by m (b ∷ bs) = (if same_member b.by m then b.entries else []) ++ begun_by m bs

-- what stands whole on the console after what stood there at a moment
abbrev pub said_since : ℕ → View → List (List ℕ)
said_since since v = map (λ l. l.text)
    (filter (λ l. l.whole) (drop (length (v.world since).console) (v.world v.now).console))

abbrev pub marks_of : Shown → Marks
marks_of x = record {
  since = x.since;
  faults = map x.view.faults parts;
  loses = map x.view.loses devices;
  arms = map (λ m. x.view.arms m.0) all_seats;
  stops = map (λ m. x.view.stops m.0) all_seats;
  lost = lost_copies x.first_alive x.second_alive;
}

module _ (told : Bool) where
  -- what is told of the lines since the value began, if content is
  abbrev pub said_of : Shown → List (List ℕ)
  said_of x = if told then said_since x.since x.view else []

  -- the pages that the good copies read without a batch in flight
  abbrev pub pages_had : Shown → List Page
  pages_had x = if told then kept_pages x.reads x.level x.first_alive x.second_alive (disk_now x.view) else []

  abbrev pub hold_of : Shown → MemberId → Hold
  hold_of x m = if has_lock x.book m then whole_hold (pages_had x) (coming x.current x.reserved) x.first x.second else
      no_hold

  abbrev pub groups_of : Shown → MemberId → List Group
  groups_of x m = if told then groups_on (disk_now x.view) x.base.config.groups m
      (run x.base (kept_all x.batches)).owners else []

  abbrev pub desk_in : Shown → MemberId → Desk
  desk_in x m = record {
    hold = hold_of x m;
    printed = counts_of x.printed m;
    told = told_by m
        (lines_by x.base.config.members m.0 (said_of x));
    groups = groups_of x m;
    noted = if told then noted_by x.had m.0 else [];
  }

  -- what the value tells: its content only where this is asked for, as a plant that doesn't tell its content says
  -- nothing of it
  abbrev pub facts_of : Shown → Facts
  facts_of x = record {
    base = x.base;
    kept = kept_all x.batches;
    begun = map (λ m. begun_by m (x.batches ++ in_flight x.current)) all_seats;
    stopped = map (shows_stopped x.book) all_seats;
    desks = map (desk_in x) all_seats;
    lines = map (λ m. lines_by x.base.config.members m.0 (said_of x)) all_seats;
    marks = marks_of x;
  }
