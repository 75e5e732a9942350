-- Reading the groups of a text.
use Rattle.member_acts.proofs.Names.{Ghosts as PlantGhosts, ◌≡◌, ℕ, ◌+◌, ◌≤◌, Bool, true, false, List, [], ◌∷◌, length, Option, Some, None, All, Ok, Result, nat_le, ◌++◌, unwrap_or, refl, sym, ap, subst, ◌∙◌, append_assoc, arith, Err, append-nil, Spool, Text, page_bytes, line_bytes, line_count, Disk as DiskPart, page_of, volume_of, AreRoomy, start_of, IsGroupOf, ReadsGroup, device_of, is_within, page_part, page_start, bytes_on, lost_now, spools_at, IsThereUnless, Spools, AreQuiet, SpoolStops, as_it_is, IsReadOf, HasFailed, option_or, nat_tests, All-nil, All-cons, All-append, All-weaker, GroupNo, Whole, Gone, Act, Done, Failed, View, disk_now, slice, Acts, Goes, ReadBy, NodeNo, none_lost, SparesBut, sparing_done, sparing_then, acts_on, lies_alone, quiet_on, still_roomy, there_by, Read, both_second, is_text_line, IsFailedRead, All-head, MemberId, Parts, act_on}
use Rattle.member_acts.specs.Reads.{HasReadOn, so_far, AreRecords, AddsGroup}
use Rattle.mas_types.specs.declared.ids.Page.{Page}
use Rattle.mas_types.specs.Records.{HoldsNoRecords, is_record, records_in}
use Rattle.spool_text.specs.Laws.{ReadsWhatIsHeld}
use Rattle.spool_text.specs.Reading.{AddsRecords}
use Rattle.spool_volumes.specs.Texts.{Held, all_records, first_gone, gone_or, held, records_on, text_of, text_unless}
use Rattle.member_decks.proofs.PageLemmas.{within}
use Rattle.mas_complex.proofs.Spooled.{each_quiet, read_quiet}
use Rattle.queue_laws.proofs.SoundEnter.{All-none}
use Rattle.member_node.specs.declared.member.NodeNo.TheVariants as no
use Rattle.job_outcome.specs.declared.outcomes.Read.TheVariants as read

-- ONE PAGE

-- the page of a group was read, so its volume wasn't lost; where content is told it is the one that stands there
pub record IsPageOf {P C : Type 0} (plants : PlantGhosts P) (x : Parts P C) (g : GroupNo) (bytes : List ℕ) : Type 0 where
  pub there : (plants.view x.plant).lost (DiskPart (device_of x.base.config.groups g)) ≡ false
  pub page : plants.tells → AreRoomy (plants.view x.plant) x.base.config → page_of (bytes_on (spools_at (plants.view x.plant) (plants.view x.plant).now)) x.base.config.groups g ≡ Some bytes

quiet_group : (per : ℕ) (g : GroupNo) (v w : View) (page : Page) (r : Act) → ReadsGroup per g v w page r → AreQuiet (spools_at v v.now) (spools_at w w.now)
quiet_group per g v w page r reads n =
    let quiet = each_quiet (volume_of per g) v w (read_quiet (page_start (is_within v per g) (start_of per g)) (page_part (is_within v per g) page.0) (disk_now v (device_of per g)) (disk_now w (device_of per g)) r reads.disk) reads.only n in
    record { bytes = quiet.bytes; synced = quiet.unsynced }

-- a group is read alone, whatever comes of it
pub group_read : {P C : Type 0} (plants : PlantGhosts P) (x y : Parts P C) (by : MemberId) (g : GroupNo) (page : Page) (r : Act) → y ≡ record x { plant = y.plant } → Acts by.0 (DiskPart (device_of x.base.config.groups g)) (plants.view x.plant) (plants.view y.plant) r
    → (plants.tells → ReadsGroup x.base.config.groups g (plants.view x.plant) (plants.view y.plant) page r) → HasReadOn plants x y by
group_read plants x y by g page r frame acts reads = record {
  frame = frame;
  acts = act_on plants.tells by.0 (volume_of x.base.config.groups g) (plants.view x.plant) (plants.view y.plant) r acts (λ t. (reads t).only);
  reads = λ t. quiet_group x.base.config.groups g (plants.view x.plant) (plants.view y.plant) page r (reads t);
}

-- it was read: its volume wasn't lost, and where content is told its page is the one that stands there
pub record IsGroupRead {P C : Type 0} (plants : PlantGhosts P) (x y : Parts P C) (by : MemberId) (g : GroupNo) (bytes : List ℕ) : Type 0 where
  pub on : HasReadOn plants x y by
  pub spares : SparesBut by.0 false none_lost (plants.view x.plant) (plants.view y.plant)
  pub page : IsPageOf plants x g bytes

pub group_done : {P C : Type 0} (plants : PlantGhosts P) (x y : Parts P C) (by : MemberId) (g : GroupNo) (page : Page) → length page.0 ≡ page_bytes → All (IsGroupOf x.base.config) (g ∷ []) → y ≡ record x { plant = y.plant } → Acts by.0 (DiskPart (device_of x.base.config.groups g)) (plants.view x.plant) (plants.view y.plant) Done
    → (plants.tells → ReadsGroup x.base.config.groups g (plants.view x.plant) (plants.view y.plant) page Done) → IsGroupRead plants x y by g page.0
group_done plants x y by g page long is frame acts reads =
    let v = plants.view x.plant in
    let w = plants.view y.plant in
    let config = x.base.config in
    let dev = device_of config.groups g in
    let alive = there_by (v.lost (DiskPart dev)) (λ lost. acts.stays_lost lost refl) in
    record {
      on = group_read plants x y by g page Done frame acts reads;
      spares = sparing_done by.0 (DiskPart dev) v w acts;
      page = record {
        there = alive;
        page = λ t roomy.
            let read : ReadBy (start_of config.groups g) page.0 (disk_now v dev) (disk_now w dev) Done = subst (λ (b : Bool). ReadBy (page_start b (start_of config.groups g)) (page_part b page.0) (disk_now v dev) (disk_now w dev) Done) (within v config g (All-head (IsGroupOf config) g [] is) roomy alive) (reads t).disk in
            ap Some (sym (subst (λ (n : ℕ). page.0 ≡ slice (start_of config.groups g) n (disk_now v dev).bytes) long read.1));
      };
    }

pub failed_read : (by per volume : ℕ) (g : GroupNo) (v w : View) → volume ≡ volume_of per g → Acts by (DiskPart (device_of per g)) v w Failed → HasFailed per (g ∷ []) volume v w
failed_read by per volume g v w is acts = subst (λ (n : ℕ). HasFailed per (g ∷ []) n v w) (sym is) (record { there = lies_alone per g; lost = acts.is_lost refl; rose = acts.failed refl })

-- A TEXT'S LINES

record_short : (line : List ℕ) → is_record line ≡ true → length line ≤ line_bytes
record_short line is = grind (arith, nat_tests)

pub records_fit : (lines : List (List ℕ)) → All (λ line. is_record line ≡ true) lines → AreRecords lines
records_fit lines each = record {
  short = All-weaker (λ line. is_record line ≡ true) (λ line. length line ≤ line_bytes) record_short lines each;
  text = All-weaker (λ line. is_record line ≡ true) (λ line. is_text_line line ≡ true) (λ line is. both_second (nat_le (length line) line_bytes) (is_text_line line) is) lines each;
}

pub none_fit : AreRecords []
none_fit = record { short = All-nil (λ line. length line ≤ line_bytes); text = All-nil (λ line. is_text_line line ≡ true) }

both_fit : (before lines : List (List ℕ)) → AreRecords before → AreRecords lines → AreRecords (before ++ lines)
both_fit before lines one two = record {
  short = All-append (λ line. length line ≤ line_bytes) before lines one.short two.short;
  text = All-append (λ line. is_text_line line ≡ true) before lines one.text two.text;
}

no_records : ReadsWhatIsHeld → (page : List ℕ) → HoldsNoRecords page → records_in page ≡ None
no_records law page none = by_records (records_in page) refl where
  by_records : (r : Option (List (List ℕ))) → records_in page ≡ r → records_in page ≡ None
  by_records None is = is
  by_records (Some lines) is = absurd (none lines ((law page lines).0 is))

module _ {P C : Type 0} (plants : PlantGhosts P) (x : Parts P C) (g : GroupNo) (page : List ℕ) (was is : List (List ℕ)) (law : ReadsWhatIsHeld) (read : IsPageOf plants x g page) where
  abbrev pub Added : Option GroupNo → Option GroupNo → Type 0
  Added gone is_gone = AddsGroup plants.tells x.base.config g (plants.view x.plant) (so_far was gone) (so_far is is_gone)

  -- the lines of a group that was read are added
  pub adds_lines : (gone : Option GroupNo) → AddsRecords page was is → Added gone gone
  adds_lines gone adds = record {
    records = Some adds.lines;
    added = adds.is;
    fits = records_fit adds.lines adds.holds.each;
    gone_is = or_none gone;
    there = read.there;
    are_held = λ t roomy. ap held (read.page t roomy) ∙ (law page adds.lines).1 adds.holds;
  } where
    or_none : (o : Option GroupNo) → o ≡ option_or o None
    or_none None = refl
    or_none (Some h) = refl

  -- a group that holds no records adds none, and the text is gone with it
  pub adds_none : (gone is_gone : Option GroupNo) → HoldsNoRecords page → is ≡ was → is_gone ≡ option_or gone (Some g) → Added gone is_gone
  adds_none gone is_gone none same gone_is = record {
    records = None;
    added = same ∙ sym (append-nil was);
    fits = none_fit;
    gone_is = gone_is;
    there = read.there;
    are_held = λ t roomy. ap held (read.page t roomy) ∙ no_records law page none;
  }

-- GROUP BY GROUP

all_push : (r : Held) (gs : List GroupNo) (g : GroupNo) → all_records r (gs ++ g ∷ []) ≡ all_records r gs ++ unwrap_or (r g) []
all_push r [] g = append-nil (unwrap_or (r g) [])
all_push r (h ∷ gs) g = ap (λ (l : List (List ℕ)). unwrap_or (r h) [] ++ l) (all_push r gs g) ∙ sym (append_assoc (unwrap_or (r h) []) (all_records r gs) (unwrap_or (r g) []))

gone_push : (r : Held) (gs : List GroupNo) (g : GroupNo) → first_gone r (gs ++ g ∷ []) ≡ option_or (first_gone r gs) (gone_or g (r g) None)
gone_push r [] g = refl
gone_push r (h ∷ gs) g = behind (r h) (first_gone r (gs ++ g ∷ [])) (first_gone r gs) (gone_push r gs g) where
  behind : (records : Option (List (List ℕ))) (all before : Option GroupNo) → all ≡ option_or before (gone_or g (r g) None) → gone_or h records all ≡ option_or (gone_or h records before) (gone_or g (r g) None)
  behind None all before e = refl
  behind (Some lines) all before e = e

same_records : (per : ℕ) (g : GroupNo) (old new : Spools) → AreQuiet old new → records_on (bytes_on new) per g ≡ records_on (bytes_on old) per g
same_records per g old new quiet = ap (λ (bytes : List ℕ). held (Some (slice (start_of per g) page_bytes bytes))) (quiet (volume_of per g)).bytes

there_before : (v : ℕ) (old mid : View) → Goes old mid → mid.lost (DiskPart (Spool v)) ≡ false → old.lost (DiskPart (Spool v)) ≡ false
there_before v old mid goes e = there_by (old.lost (DiskPart (Spool v))) (λ lost. absurd (let gone = goes.lost (DiskPart (Spool v)) lost in cc))

-- a text as it is was read, without a failure
pub record IsReadWell (per : ℕ) (groups : List GroupNo) (old new : View) (text : Text) : Type 0 where
  pub is : IsReadOf per text groups (as_it_is text) old new
  pub failed : IsFailedRead per groups (as_it_is text) old new

pub read_well : (per : ℕ) (groups : List GroupNo) (old new : View) (text : Text) → IsReadWell per groups old new text
read_well per groups old new (Whole lines) = record { is = refl; failed = tt }
read_well per groups old new (Gone group count) = record { is = refl; failed = tt }

module _ {P C : Type 0} (plants : PlantGhosts P) (by : MemberId) (x : Parts P C) where
  abbrev seen : Parts P C → View
  seen y = plants.view y.plant

  -- the records that stand in a group
  abbrev pub records_at : Held
  records_at = records_on (bytes_on (spools_at (plants.view x.plant) (plants.view x.plant).now)) x.base.config.groups

  -- the groups so far were read: none of them lies on a lost volume, and where content is told these are their records
  pub record HaveRead (groups : List GroupNo) (lines : List (List ℕ)) (gone : Option GroupNo) (y : Parts P C) : Type 0 where
    pub on : HasReadOn plants x y by
    pub spares : SparesBut by.0 false none_lost (plants.view x.plant) (plants.view y.plant)
    pub fits : AreRecords lines
    pub there : All (λ g. lost_now (plants.view x.plant) (volume_of x.base.config.groups g) ≡ false) groups
    pub lines_are : plants.tells → AreRoomy (plants.view x.plant) x.base.config → lines ≡ all_records records_at groups
    pub gone_is : plants.tells → AreRoomy (plants.view x.plant) x.base.config → gone ≡ first_gone records_at groups

  pub reads_then : (y z : Parts P C) → HasReadOn plants x y by → HasReadOn plants y z by → HasReadOn plants x z by
  reads_then y z one two = record {
    frame = two.frame ∙ ap (λ (p : Parts P C). record p { plant = z.plant }) one.frame;
    acts = acts_on plants.tells by.0 (seen x) (seen y) (seen z) one.acts two.acts;
    reads = λ t. quiet_on (spools_at (seen x) (seen x).now) (spools_at (seen y) (seen y).now) (spools_at (seen z) (seen z).now) (one.reads t) (two.reads t);
  }

  pub read_more : (y z : Parts P C) (groups : List GroupNo) (g : GroupNo) (before lines : List (List ℕ)) (gone is_gone : Option GroupNo) → HaveRead groups before gone y → HasReadOn plants y z by → SparesBut by.0 false none_lost (seen y) (seen z)
      → AddsGroup plants.tells x.base.config g (seen y) (so_far before gone) (so_far lines is_gone) → HaveRead (groups ++ g ∷ []) lines is_gone z
  read_more y z groups g before lines gone is_gone have on spares adds =
      let Alive = λ (h : GroupNo). lost_now (seen x) (volume_of x.base.config.groups h) ≡ false in
      let here : plants.tells → AreRoomy (seen x) x.base.config → records_at g ≡ adds.records
      = λ t roomy. sym (same_records x.base.config.groups g (spools_at (seen x) (seen x).now) (spools_at (seen y) (seen y).now) (have.on.reads t)) ∙ adds.are_held t (still_roomy x.base.config (seen x) (seen y) have.on.acts.goes roomy) in
      record {
        on = reads_then y z have.on on;
        spares = sparing_then by.0 false none_lost (seen x) (seen y) (seen z) have.spares spares;
        fits = subst AreRecords (sym adds.added) (both_fit before (unwrap_or adds.records []) have.fits adds.fits);
        there = All-append Alive groups (g ∷ []) have.there (All-cons Alive g [] (there_before (volume_of x.base.config.groups g) (seen x) (seen y) have.on.acts.goes adds.there) (All-nil Alive));
        lines_are = λ t roomy. rw (all_push records_at groups g, here t roomy, sym (have.lines_are t roomy)) adds.added;
        gone_is = λ t roomy. rw (gone_push records_at groups g, here t roomy, sym (have.gone_is t roomy)) adds.gone_is;
      }

  -- what was read is the text as it stands there
  pub read_whole : (y : Parts P C) (groups : List GroupNo) (lines : List (List ℕ)) (gone : Option GroupNo) (count : ℕ) (o : Read) → HaveRead groups lines gone y → o ≡ as_it_is (text_unless count groups lines gone)
      → (text : Text) → line_count text ≡ count → plants.tells → AreRoomy (seen x) x.base.config → IsThereUnless (lost_now (seen x)) (spools_at (seen x) (seen x).now) x.base.config.groups text groups → IsReadOf x.base.config.groups text groups o (seen x) (seen y)
  read_whole y groups lines gone count o have is text counted t roomy stands =
      let there = stands (All-none (λ (g : GroupNo). lost_now (seen x) (volume_of x.base.config.groups g)) groups have.there) in
      let whole = is ∙ ap as_it_is (ap (λ (l : List (List ℕ)). text_unless count groups l gone) (have.lines_are t roomy) ∙ ap (λ (g : Option GroupNo). text_unless count groups (all_records records_at groups) g) (have.gone_is t roomy)
      ∙ ap (λ (k : ℕ). text_of records_at k groups) (sym counted) ∙ there.is) in
      subst (λ (r : Read). IsReadOf x.base.config.groups text groups r (seen x) (seen y)) (sym whole) (read_well x.base.config.groups groups (seen x) (seen y) text).is

-- a stop after other acts
pub stops_later : {T : Type 0} (names : T → ℕ → Bool) (by : ℕ) (old mid new : View) (r : Result T NodeNo) → Goes old mid → SparesBut by false none_lost old mid → SpoolStops names r by mid new → SpoolStops names r by old new
stops_later names by old mid new (Ok done) goes spares stops = sparing_then by false (names done) old mid new spares stops
stops_later names by old mid new (Err no.NoMemory) goes spares stops = sparing_then by false none_lost old mid new spares stops
stops_later names by old mid new (Err no.Halted) goes spares stops = (sparing_then by true none_lost old mid new spares stops.0, omega (arith, stops.1, goes.stops by))
stops_later names by old mid new (Err _) goes spares stops = stops
