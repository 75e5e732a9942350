-- The acts of a plant in memory.
use Rattle.std.specs.Prelude.{Result, Ok, Err, IfErr}
use Rattle.mas_types.specs.declared.ids.NoMemory.{NoMemory}
use Rattle.std.proofs.Common.{◌≡◌, ◌≢◌, ◌⊎◌, inl, inr, min, refl, drop, ℕ, ◌+◌, ◌*◌, ◌≤◌, ◌<◌, ◌==◌, nat_le, Bool, true, false, if◌then◌else◌, List, [], ◌∷◌, ◌++◌, length, take, slice_index, subst, sym, ◌∙◌, ap, arith}
use Rattle.std.proofs.lemmas.List.{length-take}
use Rattle.mas_types.specs.declared.ids.Dev.{Dev}
use Rattle.spool_disk.specs.declared.memory.MemPlant.{MemPlant}
use Rattle.spool_plant.specs.declared.plant.Part.{Part}
use Rattle.spool_plant.specs.declared.plant.Part.TheVariants.{Disk as DiskPart}
use Rattle.spool_plant.specs.declared.plant.Act.TheVariants.{Done, Failed, Halted}
use Rattle.spool_plant.specs.declared.plant.Took.TheVariants.{Bytes as TookBytes, Halted as TookHalted}
use Rattle.spool_plant.specs.View.{disk_now, given_now, slice}
use Rattle.spool_plant.specs.Acts.{Acts, Renews, RenewsThere, Loses, LosesThere, Writes, Syncs, Reads, Says, Prints, GivesOn, Takes, top}
use Rattle.spool_disk.specs.Places.{slot_of, place_of}
use Rattle.spool_disk.specs.Health.{health_at}
use Rattle.spool_disk.specs.Kept.{fresh, size_at}
use Rattle.spool_disk.specs.Deeds.{Deed, Idle, Wrote, Synced, Said, Passed, Fetched, overwrite, after}
use Rattle.spool_disk.specs.Entries.{deeds_of}
use Rattle.spool_disk.specs.State.{Halts, State, halted, lines_in, moved_in, view_of, recorded, failed, lost, renewed}
use Rattle.spool_disk.specs.Courses.{left_of, deed_left}
use Rattle.spool_disk.specs.Failing.{FailsAlone}
use Rattle.spool_disk.specs.MemView.{state_of, mem_view}
use Rattle.spool_disk.proofs.Entering.{length-deeds}
use Rattle.spool_disk.proofs.Acting.{Keeps, acts_done, acts_halted, renewed_acts}
use Rattle.spool_disk.proofs.Contents.{renewed_there, wrote, write_done, write_halted, sync_done, sync_halted, read_done, read_halted, says_of, prints_of, said_done, said_halted, line_halted, take_halted, passed_disks, passed_lines, passed_there, passed_else, passed_other_side}
use Rattle.spool_disk.proofs.Effects.{IsLineOf, idle_is_line, said_is_line}
use Rattle.spool_disk.proofs.Faults.{acts_failed, fails_alone, loses, loses_there}

-- the record is in step with the moment where it has room
pub in_full : (m : MemPlant) → m.moment < m.kept.acts → length (state_of m).deeds ≡ (state_of m).now
in_full m below = length-deeds m.kept.log.items m.kept.arena.items ∙ m.in_step.1 (omega (arith, m.in_step.0, below))

pub halted_state : (s s1 s2 : State) (e : Deed) (by : ℕ) → s1 ≡ recorded s e s.stops → s2 ≡ record s1 { stops = halted s1.stops by s1.now } → s2 ≡ recorded s e (halted s.stops by (s.now + 1))
halted_state s s1 s2 e by first then_stop = then_stop ∙ ap (λ (x : State). record x { stops = halted x.stops by x.now }) first

module _ (m m' : MemPlant) (e : Deed) (below : m.moment < m.kept.acts) (below_top : m.moment < top) where
  module _ (is : state_of m' ≡ recorded (state_of m) e (state_of m).stops) where
    pub done_acts : Keeps e → (by : ℕ) (part : Part) → (mem_view m).lost part ≡ false → Acts by part (mem_view m) (mem_view m') Done
    done_acts keeps by part whole = subst (λ (x : State). Acts by part (mem_view m) (view_of x) Done) (sym is) (acts_done (state_of m) (in_full m below) m.lost_by_now by part e (state_of m).waiting keeps below_top whole)

pub done_write : (m m' : MemPlant) (dev : Dev) (at slot : ℕ) (bytes : List ℕ) → m.moment < m.kept.acts → slot ≡ slot_of dev → at + length bytes ≤ size_at m.kept.base (slot_of dev)
    → state_of m' ≡ recorded (state_of m) (Wrote slot at (length bytes) bytes) (state_of m).stops → Writes dev at bytes (mem_view m) (mem_view m') Done
done_write m m' dev at slot bytes below there fits is =
    subst (λ (x : State). Writes dev at bytes (mem_view m) (view_of x) Done) (sym (is ∙ ap (λ (n : ℕ). recorded (state_of m) (Wrote n at (length bytes) bytes) (state_of m).stops) there))
    (write_done (state_of m) (state_of m).stops (in_full m below) m.lost_by_now dev at bytes fits)

pub done_sync : (m m' : MemPlant) (dev : Dev) (slot : ℕ) → m.moment < m.kept.acts → slot ≡ slot_of dev → state_of m' ≡ recorded (state_of m) (Synced slot) (state_of m).stops → Syncs dev (mem_view m) (mem_view m') Done
done_sync m m' dev slot below there is =
    subst (λ (x : State). Syncs dev (mem_view m) (view_of x) Done) (sym (is ∙ ap (λ (n : ℕ). recorded (state_of m) (Synced n) (state_of m).stops) there))
    (sync_done (state_of m) (state_of m).stops (in_full m below) m.lost_by_now dev)

pub done_read : (m m' : MemPlant) (dev : Dev) (at slot : ℕ) (into : List ℕ) → m.moment < m.kept.acts → slot ≡ slot_of dev
    → into ≡ slice at (length into) (after slot (fresh m.kept.base slot) (deeds_of m.kept.log.items m.kept.arena.items)).bytes
    → state_of m' ≡ recorded (state_of m) (Fetched slot) (state_of m).stops → Reads dev at (mem_view m) (mem_view m') into Done
done_read m m' dev at slot into below there read is =
    subst (λ (x : State). Reads dev at (mem_view m) (view_of x) into Done) (sym is)
    (read_done (state_of m) (state_of m).stops (in_full m below) m.lost_by_now dev at slot into
    (subst (λ (n : ℕ). into ≡ slice at (length into) (after n (fresh m.kept.base n) (deeds_of m.kept.log.items m.kept.arena.items)).bytes) there read))

module _ (m m' : MemPlant) (place : ℕ) (line : List ℕ) (below : m.moment < m.kept.acts) (is : state_of m' ≡ recorded (state_of m) (Said place line true) (state_of m).stops) where
  pub done_say : place ≡ 1 → Says line (mem_view m) (mem_view m') Done
  done_say at =
      subst (λ (x : State). Says line (mem_view m) (view_of x) Done) (sym is)
      (says_of (state_of m) (state_of m).stops (in_full m below) m.lost_by_now place (Said place line true) (said_is_line place line true) line Done at
      (said_done (state_of m) (state_of m).stops (in_full m below) m.lost_by_now place line))

  pub done_print : (member : ℕ) → place ≡ 4 * member + 2 → Prints member line (mem_view m) (mem_view m') Done
  done_print member at =
      subst (λ (x : State). Prints member line (mem_view m) (view_of x) Done) (sym is)
      (prints_of (state_of m) (state_of m).stops (in_full m below) m.lost_by_now place (Said place line true) (said_is_line place line true) member line Done at
      (said_done (state_of m) (state_of m).stops (in_full m below) m.lost_by_now place line))

-- an act that halts: it is recorded, and then the stop is counted
module _ (m m1 m2 : MemPlant) (e : Deed) (by : ℕ) (below : m.moment < m.kept.acts) (first : state_of m1 ≡ recorded (state_of m) e (state_of m).stops)
    (next_is : state_of m2 ≡ record (state_of m1) { stops = halted (state_of m1).stops by (state_of m1).now }) where
  both : state_of m2 ≡ recorded (state_of m) e (halted (state_of m).stops by (m.moment + 1))
  both = halted_state (state_of m) (state_of m1) (state_of m2) e by first next_is

  same_stops : (state_of m1).stops ≡ (state_of m).stops
  same_stops = ap (λ (x : State). x.stops) first

  pub halted_acts : Keeps e → (part : Part) → m.moment < top → slice_index (state_of m1).stops.counts by ≤ top → by < length (state_of m1).stops.counts → 0 < by → Acts by part (mem_view m) (mem_view m2) Halted
  halted_acts keeps part below_top fits there member =
      subst (λ (x : State). Acts by part (mem_view m) (view_of x) Halted) (sym both)
      (acts_halted (state_of m) (in_full m below) m.lost_by_now by part e keeps below_top (subst (λ (h : Halts). slice_index h.counts by ≤ top) same_stops fits) member (subst (λ (h : Halts). by < length h.counts) same_stops there))

module _ (m m1 m2 : MemPlant) (by : ℕ) (below : m.moment < m.kept.acts) (first : state_of m1 ≡ recorded (state_of m) Idle (state_of m).stops)
    (next_is : state_of m2 ≡ record (state_of m1) { stops = halted (state_of m1).stops by (state_of m1).now }) where
  pub halted_sync : (dev : Dev) → Syncs dev (mem_view m) (mem_view m2) Halted
  halted_sync dev =
      subst (λ (x : State). Syncs dev (mem_view m) (view_of x) Halted) (sym (both m m1 m2 Idle by below first next_is))
      (sync_halted (state_of m) (halted (state_of m).stops by (m.moment + 1)) (in_full m below) m.lost_by_now dev)

  pub halted_read : (dev : Dev) (at : ℕ) (into : List ℕ) → Reads dev at (mem_view m) (mem_view m2) into Halted
  halted_read dev at into =
      subst (λ (x : State). Reads dev at (mem_view m) (view_of x) into Halted) (sym (both m m1 m2 Idle by below first next_is))
      (read_halted (state_of m) (halted (state_of m).stops by (m.moment + 1)) (in_full m below) m.lost_by_now dev at into)

module _ (m m1 m2 : MemPlant) (by : ℕ) (below : m.moment < m.kept.acts) (dev : Dev) (at slot keep : ℕ) (bytes some : List ℕ) (there : slot ≡ slot_of dev) (fits : at + length bytes ≤ size_at m.kept.base (slot_of dev)) (is_some : some ≡ take keep bytes)
    (first : state_of m1 ≡ recorded (state_of m) (Wrote slot at (length bytes) some) (state_of m).stops)
    (next_is : state_of m2 ≡ record (state_of m1) { stops = halted (state_of m1).stops by (state_of m1).now }) where
  both_write : state_of m2 ≡ recorded (state_of m) (Wrote (slot_of dev) at (length bytes) (take keep bytes)) (halted (state_of m).stops by (m.moment + 1))
  both_write =
      both m m1 m2 (Wrote slot at (length bytes) some) by below first next_is
      ∙ ap (λ (n : ℕ). recorded (state_of m) (Wrote n at (length bytes) some) (halted (state_of m).stops by (m.moment + 1))) there
      ∙ ap (λ (l : List ℕ). recorded (state_of m) (Wrote (slot_of dev) at (length bytes) l) (halted (state_of m).stops by (m.moment + 1))) is_some

  pub halted_write : Writes dev at bytes (mem_view m) (mem_view m2) Halted
  halted_write =
      subst (λ (x : State). Writes dev at bytes (mem_view m) (view_of x) Halted) (sym both_write)
      (write_halted (state_of m) (halted (state_of m).stops by (m.moment + 1)) (in_full m below) m.lost_by_now dev at bytes (take keep bytes) (omega (arith, length-take keep bytes)) fits)

  pub halted_bytes : (disk_now (mem_view m2) dev).bytes ≡ overwrite at (take keep bytes) (disk_now (mem_view m) dev).bytes
  halted_bytes =
      subst (λ (x : State). (disk_now (view_of x) dev).bytes ≡ overwrite at (take keep bytes) (disk_now (mem_view m) dev).bytes) (sym both_write)
      (wrote (state_of m) (halted (state_of m).stops by (m.moment + 1)) (in_full m below) m.lost_by_now dev at (length bytes) (take keep bytes))

module _ (m m1 m2 : MemPlant) (by : ℕ) (below : m.moment < m.kept.acts) (place keep : ℕ) (line : List ℕ)
    (first : state_of m1 ≡ recorded (state_of m) (deed_left place keep line) (state_of m).stops)
    (next_is : state_of m2 ≡ record (state_of m1) { stops = halted (state_of m1).stops by (state_of m1).now }) where
  abbrev stopped : Halts
  stopped = halted (state_of m).stops by (m.moment + 1)

  now_is : state_of m2 ≡ recorded (state_of m) (deed_left place keep line) stopped
  now_is = both m m1 m2 (deed_left place keep line) by below first next_is

  left_is_line : IsLineOf place (deed_left place keep line)
  left_is_line = by_test (nat_le (length line) keep) (keep == 0) where
    by_test : (b c : Bool) → IsLineOf place (if b then Said place line true else (if c then Idle else Said place (take keep line) false))
    by_test true c = said_is_line place line true
    by_test false true = idle_is_line place
    by_test false false = said_is_line place (take keep line) false

  pub left_keeps : Keeps (deed_left place keep line)
  left_keeps = by_test (nat_le (length line) keep) (keep == 0) where
    by_test : (b c : Bool) → Keeps (if b then Said place line true else (if c then Idle else Said place (take keep line) false))
    by_test true c = λ p x. refl
    by_test false true = λ p x. refl
    by_test false false = λ p x. refl

  pub halted_say : place ≡ 1 → Says line (mem_view m) (mem_view m2) Halted
  halted_say at =
      subst (λ (x : State). Says line (mem_view m) (view_of x) Halted) (sym now_is)
      (says_of (state_of m) stopped (in_full m below) m.lost_by_now place (deed_left place keep line) left_is_line line Halted at
      (said_halted (state_of m) stopped (in_full m below) m.lost_by_now place keep line))

  pub halted_print : (member : ℕ) → place ≡ 4 * member + 2 → Prints member line (mem_view m) (mem_view m2) Halted
  halted_print member at =
      subst (λ (x : State). Prints member line (mem_view m) (view_of x) Halted) (sym now_is)
      (prints_of (state_of m) stopped (in_full m below) m.lost_by_now place (deed_left place keep line) left_is_line member line Halted at
      (said_halted (state_of m) stopped (in_full m below) m.lost_by_now place keep line))

  -- what the line leaves on its place
  pub halted_line : (p : ℕ) → place ≡ p → lines_in (state_of m2) m2.moment p ≡ lines_in (state_of m) m.moment p ++ left_of keep line
  halted_line p at =
      subst (λ (q : ℕ). lines_in (state_of m2) m2.moment q ≡ lines_in (state_of m) m.moment q ++ left_of keep line) at
      (subst (λ (x : State). lines_in x x.now place ≡ lines_in (state_of m) m.moment place ++ left_of keep line) (sym now_is)
      (line_halted (state_of m) stopped (in_full m below) m.lost_by_now place keep line))

-- nothing came where nothing waited, or there was no room
pub none_left : (n : ℕ) (waits into after : List ℕ) → n ≡ min (length waits) (length into) → length after ≡ length into → n ≡ 0 → (waits ≡ []) ⊎ (after ≡ [])
none_left n [] into after is long none = inl refl
none_left n (w ∷ waits) into [] is long none = inr refl
none_left n (w ∷ waits) into (x ∷ after) is long none = absurd (omega (arith, is, long, none))

-- a fact of an error that doesn't speak of it
pub if_err : {P : Type 0} (r : Result (Unit {0}) NoMemory) → P → IfErr r (λ e. P)
if_err (Ok u) p = tt
if_err (Err e) p = p

-- bytes on a wire
module _ (m m' : MemPlant) (wire member : ℕ) (bytes : List ℕ) (below : m.moment < m.kept.acts) where
  pub done_give : state_of m' ≡ recorded (state_of m) (Passed true wire member bytes) (state_of m).stops → GivesOn wire member bytes (mem_view m) (mem_view m') Done
  done_give is =
      let s = state_of m in
      let full = in_full m below in
      subst (λ (x : State). GivesOn wire member bytes (mem_view m) (view_of x) Done) (sym is)
      (record {
        given = passed_there s s.stops s.waiting true wire member bytes full m.lost_by_now;
        others = passed_else s s.stops s.waiting true wire member bytes full m.lost_by_now;
        taken = λ w k. passed_other_side s s.stops s.waiting true wire member bytes full m.lost_by_now false w k refl;
        waiting = λ w. refl;
        disks = passed_disks s s.stops s.waiting true wire member bytes full m.lost_by_now;
        console = passed_lines s s.stops s.waiting true wire member bytes full m.lost_by_now 1;
        paper = λ k. passed_lines s s.stops s.waiting true wire member bytes full m.lost_by_now (4 * k + 2);
      })

  -- bytes that waited
  module _ (waiting : ℕ → List ℕ) (is : state_of m' ≡ record (recorded (state_of m) (Passed false wire member bytes) (state_of m).stops) { waiting = waiting }) where
    pub take_acts : (by : ℕ) (part : Part) → m.moment < top → (mem_view m).lost part ≡ false → Acts by part (mem_view m) (mem_view m') Done
    take_acts by part below_top whole =
        subst (λ (x : State). Acts by part (mem_view m) (view_of x) Done) (sym is)
        (acts_done (state_of m) (in_full m below) m.lost_by_now by part (Passed false wire member bytes) waiting (λ place x. refl) below_top whole)

    pub done_take : (n : ℕ) (into : List ℕ) → n ≤ length ((state_of m).waiting wire) → take n into ≡ take n ((state_of m).waiting wire) → bytes ≡ take n ((state_of m).waiting wire) → waiting wire ≡ drop n ((state_of m).waiting wire)
        → ((w : ℕ) → w ≢ wire → waiting w ≡ (state_of m).waiting w) → (n ≡ 0 → ((state_of m).waiting wire ≡ []) ⊎ (into ≡ [])) → Takes wire member (mem_view m) (mem_view m') into (TookBytes n)
    done_take n into few came first rest others none =
        let s = state_of m in
        let full = in_full m below in
        subst (λ (x : State). Takes wire member (mem_view m) (view_of x) into (TookBytes n)) (sym is)
        (record {
          took = (
            few,
            came,
            rest,
            passed_there s s.stops waiting false wire member bytes full m.lost_by_now ∙ ap (λ (l : List ℕ). moved_in s s.now false wire member ++ l) first,
            none,
          );
          others = passed_else s s.stops waiting false wire member bytes full m.lost_by_now;
          waiting = others;
          given = λ w k. passed_other_side s s.stops waiting false wire member bytes full m.lost_by_now true w k refl;
          disks = passed_disks s s.stops waiting false wire member bytes full m.lost_by_now;
          console = passed_lines s s.stops waiting false wire member bytes full m.lost_by_now 1;
          paper = λ k. passed_lines s s.stops waiting false wire member bytes full m.lost_by_now (4 * k + 2);
        })

module _ (m m1 m2 : MemPlant) (wire by keep : ℕ) (bytes some : List ℕ) (below : m.moment < m.kept.acts) (is_some : some ≡ take keep bytes)
    (first : state_of m1 ≡ recorded (state_of m) (Passed true wire by some) (state_of m).stops)
    (next_is : state_of m2 ≡ record (state_of m1) { stops = halted (state_of m1).stops by (state_of m1).now }) where
  both_give : state_of m2 ≡ recorded (state_of m) (Passed true wire by (take keep bytes)) (halted (state_of m).stops by (m.moment + 1))
  both_give = both m m1 m2 (Passed true wire by some) by below first next_is ∙ ap (λ (l : List ℕ). recorded (state_of m) (Passed true wire by l) (halted (state_of m).stops by (m.moment + 1))) is_some

  pub halted_bytes_given : given_now (mem_view m2) wire by ≡ given_now (mem_view m) wire by ++ take keep bytes
  halted_bytes_given =
      subst (λ (x : State). given_now (view_of x) wire by ≡ given_now (mem_view m) wire by ++ take keep bytes) (sym both_give)
      (passed_there (state_of m) (halted (state_of m).stops by (m.moment + 1)) (state_of m).waiting true wire by (take keep bytes) (in_full m below) m.lost_by_now)

  pub halted_give : GivesOn wire by bytes (mem_view m) (mem_view m2) Halted
  halted_give =
      let s = state_of m in
      let full = in_full m below in
      let stops = halted s.stops by (m.moment + 1) in
      let part = take keep bytes in
      subst (λ (x : State). GivesOn wire by bytes (mem_view m) (view_of x) Halted) (sym both_give)
      (record {
        given = (keep, passed_there s stops s.waiting true wire by part full m.lost_by_now);
        others = passed_else s stops s.waiting true wire by part full m.lost_by_now;
        taken = λ w k. passed_other_side s stops s.waiting true wire by part full m.lost_by_now false w k refl;
        waiting = λ w. refl;
        disks = passed_disks s stops s.waiting true wire by part full m.lost_by_now;
        console = passed_lines s stops s.waiting true wire by part full m.lost_by_now 1;
        paper = λ k. passed_lines s stops s.waiting true wire by part full m.lost_by_now (4 * k + 2);
      })

module _ (m m1 m2 : MemPlant) (by : ℕ) (below : m.moment < m.kept.acts) (first : state_of m1 ≡ recorded (state_of m) Idle (state_of m).stops)
    (next_is : state_of m2 ≡ record (state_of m1) { stops = halted (state_of m1).stops by (state_of m1).now }) where
  pub halted_take : (wire member : ℕ) (into : List ℕ) → Takes wire member (mem_view m) (mem_view m2) into TookHalted
  halted_take wire member into =
      subst (λ (x : State). Takes wire member (mem_view m) (view_of x) into TookHalted) (sym (both m m1 m2 Idle by below first next_is))
      (take_halted (state_of m) (halted (state_of m).stops by (m.moment + 1)) (in_full m below) m.lost_by_now wire member into)

-- a fault, and a device that is lost
module _ (m m' : MemPlant) (small : m.moment ≤ top) where
  short : length (state_of m).deeds ≤ m.moment
  short = omega (arith, m.in_step.0, length-deeds m.kept.log.items m.kept.arena.items)

  pub failed_acts : (by : ℕ) (part : Part) → place_of part < 1032 → (health_at m.counts.parts.items (place_of part)).faults ≤ top → state_of m' ≡ failed m.kept.acts (state_of m) part → Acts by part (mem_view m) (mem_view m') Failed
  failed_acts by part few fits is =
      subst (λ (x : State). Acts by part (mem_view m) (view_of x) Failed) (sym is)
      (acts_failed m.kept.acts (state_of m) part small short m.lost_by_now (omega (arith, few, m.counts.parts_len)) by fits)

  pub failed_alone : (part : Part) → place_of part < 1032 → state_of m' ≡ failed m.kept.acts (state_of m) part → FailsAlone part (mem_view m) (mem_view m')
  failed_alone part few is =
      subst (λ (x : State). FailsAlone part (mem_view m) (view_of x)) (sym is)
      (fails_alone m.kept.acts (state_of m) part small short m.lost_by_now (omega (arith, few, m.counts.parts_len)))

  pub lost_acts : (dev : Dev) → slot_of dev < 258 → slice_index m.counts.loses.items (slot_of dev) ≤ top → state_of m' ≡ lost m.kept.acts (state_of m) dev → Loses (DiskPart dev) (mem_view m) (mem_view m')
  lost_acts dev few fits is =
      subst (λ (x : State). Loses (DiskPart dev) (mem_view m) (view_of x)) (sym is)
      (loses m.kept.acts (state_of m) dev small short m.lost_by_now (omega (arith, few, m.counts.parts_len)) (omega (arith, few, m.counts.loses_len)) fits)

  pub lost_there : (dev : Dev) → slot_of dev < 258 → state_of m' ≡ lost m.kept.acts (state_of m) dev → LosesThere dev (mem_view m) (mem_view m')
  lost_there dev few is =
      subst (λ (x : State). LosesThere dev (mem_view m) (view_of x)) (sym is)
      (loses_there m.kept.acts (state_of m) dev small short m.lost_by_now (omega (arith, few, m.counts.parts_len)))

-- a renewal puts another device in a device's place
module _ (m m' : MemPlant) (dev : Dev) (below : m.moment < m.kept.acts) (few : slot_of dev < 258) (is : state_of m' ≡ renewed (state_of m) dev) where
  pub done_renewal : m.moment < top → Renews dev (mem_view m) (mem_view m') Done
  done_renewal below_top =
      subst (λ (x : State). Renews dev (mem_view m) (view_of x) Done) (sym is)
      (renewed_acts (state_of m) (in_full m below) m.lost_by_now dev few (omega (arith, few, m.counts.parts_len)) below_top)

  pub done_renewal_there : RenewsThere dev (mem_view m) (mem_view m') Done
  done_renewal_there =
      subst (λ (x : State). RenewsThere dev (mem_view m) (view_of x) Done) (sym is)
      (renewed_there (state_of m) (in_full m below) m.lost_by_now dev few (omega (arith, few, m.counts.parts_len)))
