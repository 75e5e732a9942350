-- What a member that holds the lock does before its first command, and what it knows of the copies then.
use Rattle.std.proofs.Common.{◌≡◌, ℕ, ◌+◌, ◌≤◌, ◌<◌, Bool, true, false, List, [], ◌∷◌, length, drop, Option, None, Result, Err, refl, sym, ◌∙◌, ap, subst}
use Rattle.std.proofs.lemmas.List.{length-append}
use Rattle.mas_types.specs.declared.ids.Dev.{Dev}
use Rattle.mas_types.specs.declared.ids.Page.{Page}
use Rattle.mas_types.specs.declared.journals.Batch.{Batch}
use Rattle.mas_types.specs.declared.journals.Entry.{Entry}
use Rattle.mas_types.specs.declared.journals.Fate.TheVariants.{Kept}
use Rattle.mas_types.specs.declared.queues.Config.{Config}
use Rattle.mas_types.specs.declared.queues.Queue.{Queue}
use Rattle.queue_laws.proofs.RunLaws.{runs_keep_configuration}
use Rattle.spool_plant.specs.View.{View, Line}
use Rattle.spool_plant.specs.Acts.{Goes}
use Rattle.ckpt_tables.specs.declared.tables.Tables.{Tables}
use Rattle.ckpt_pages.specs.Checkpoints.{IsCheckpoint}
use Rattle.ckpt_tables.specs.Shape.{page_count}
use Rattle.ckpt_pages.proofs.DecodingLemmas.{one_value}
use Rattle.queue_telling.specs.Orders.{HaveOrders}
use Rattle.queue_telling.specs.Telling.{Tell, TellSound}
use Rattle.member_node.proofs.OrderLemmas.{orders_are}
use Rattle.member_node.proofs.ToldLemmas.{tell_alike}
use Rattle.duplex_pair.specs.Halves.{SomeAlive}
use Rattle.ckpt_places.specs.declared.places.Place.{Place}
use Rattle.mas_complex.specs.Crash.{EachTells, IsUntold, setting}
use Rattle.mas_complex.specs.Journals.{end_of, fated, has_step, kept_all}
use Rattle.mas_complex.specs.Meaning.{Closes, run}
use Rattle.mas_complex.specs.CallCounts.{pair_at}
use Rattle.mas_complex.specs.Parts.{Parts}
use Rattle.member_node.specs.declared.checkpoint.Checkpoint.{Checkpoint}
use Rattle.member_node.specs.declared.member.NodeNo.{NodeNo}
use Rattle.member_node.specs.declared.member.NodeNo.TheVariants.{BothLost, Halted, ConsoleFault, NoMemory}
use Rattle.member_node.specs.Calls.{Apart, Course, console_now}
use Rattle.member_node.specs.Copies.{RestsAt}
use Rattle.member_node.specs.Drawn.{AreDrawn}
use Rattle.member_node.specs.Reads.{AreLow, HasRead, IsCalm, IsSettle, IsUpTo, ReadCauses, ReadInCauses, ReadsLow, too_high}
use Rattle.member_node.specs.Spares.{Spares, stopped_in}
use Rattle.member_node.specs.Writes.{HasKept}
use Rattle.member_node.proofs.CourseLemmas.{apart_then, course_then, rose_later}
use Rattle.member_node.proofs.DrawnLemmas.{drawn_level}
use Rattle.member_node.proofs.ReadLemmas.{low_again, same_pages}
use Rattle.member_node.proofs.SpareLemmas.{spares_then}
use Rattle.member_node.proofs.WriteLemmas.{none_out}
use Rattle.member_steps.specs.Steps.{IsAtLock, IsBetween, IsToldSound}
use Rattle.member_steps.proofs.Codes.{tell_is}

-- BEFORE THE FIRST COMMAND

-- reads and a settle: nothing but the copies changed, and where content is told none was lost by a call
pub record HasBegun (told : Type 0) (by : ℕ) (stopped was1 is1 was2 is2 : Bool) (old new : View) : Type 0 where
  pub course : Course (pair_at was1 was2 old) (pair_at is1 is2 new)
  pub spares : Spares by stopped old new
  pub loses : told → (d : Dev) → new.loses d ≡ old.loses d
  pub apart : told → Apart old new

pub begun_read : (told : Type 0) (by : ℕ) (stopped was1 is1 was2 is2 : Bool) (old new : View) → HasRead told (pair_at was1 was2 old) (pair_at is1 is2 new) → Spares by stopped old new → HasBegun told by stopped was1 is1 was2 is2 old new
begun_read told by stopped was1 is1 was2 is2 old new read spares = record { course = read.course; spares = spares; loses = read.loses; apart = read.apart }

pub begun_settle : {T : Type 0} (told : Type 0) (by : ℕ) (was1 mid1 is1 was2 mid2 is2 : Bool) (v0 v1 v2 : View) (r : Result T NodeNo) → HasRead told (pair_at was1 was2 v0) (pair_at mid1 mid2 v1) → Spares by false v0 v1 → IsSettle told by (pair_at mid1 mid2 v1) (pair_at is1 is2 v2) r → HasBegun told by (stopped_in r) was1 is1 was2 is2 v0 v2
begun_settle told by was1 mid1 is1 was2 mid2 is2 v0 v1 v2 r read spares settle = record {
  course = course_then was1 mid1 is1 was2 mid2 is2 v0 v1 v2 read.course settle.course;
  spares = spares_then by (stopped_in r) v0 v1 v2 spares settle.spares;
  loses = λ t d. settle.loses d ∙ read.loses t d;
  apart = λ t. apart_then v0 v1 v2 read.course.goes.later settle.course.goes (read.apart t) (settle.apart t);
}

-- the cause of the settle's answer is one of both
pub cause_settle : (by : ℕ) (is1 is2 : Bool) (v0 v1 v2 : View) (e : NodeNo) → Goes v0 v1 → ReadCauses {T = Unit {0}} (Err e) by is1 is2 v1 v2 → ReadInCauses {T = Unit {0}} (Err e) by is1 is2 v0 v2
cause_settle by is1 is2 v0 v1 v2 BothLost goes cause = cause
cause_settle by is1 is2 v0 v1 v2 Halted goes cause = (cause.0, rose_later (v0.stops by) (v1.stops by) (v2.stops by) (goes.stops by) cause.1)
cause_settle by is1 is2 v0 v1 v2 ConsoleFault goes cause = absurd cause
cause_settle by is1 is2 v0 v1 v2 NoMemory goes cause = absurd cause

-- AND ONE THAT GOES ON

-- a step is untold later, where nothing was said
pub untold_later : (reads : List ℕ → Option (List ℕ)) (base : Queue) (since : ℕ) (v w : View) (es : List Entry) → since ≤ v.now → Goes v w → console_now w ≡ console_now v → IsUntold (setting reads base since) v es → IsUntold (setting reads base since) w es
untold_later reads base since v w es le goes same untold =
    let said : drop (length (w.world since).console) (console_now w) ≡ drop (length (v.world since).console) (console_now v) =
    ap (λ (l : List Line). drop (length (w.world since).console) l) same ∙ ap (λ x. drop (length x.console) (console_now v)) (goes.past since le) in
    subst (λ (l : List Line). EachTells Closes l (λ m s. has_step m s es ≡ false)) (sym said) untold

-- WHAT THE TABLES TELL

-- tables that tell a queue and a sound one: each that tell the queue do
pub told_sound : (t : Tables) (Q : Queue) → TellSound t → Tell t Q → IsToldSound Q
told_sound t Q s told u here = record { queue = s.queue; told = tell_alike t Q s.queue told s.told u here; sound = s.sound }

-- WHAT THE COPIES READ

-- what a copy reads is low later
pub low_later : (told : Type 0) (was is : Bool) (config : Config) (batches : ℕ) (read read' : Option (List ℕ)) → (is ≡ true → was ≡ true) → (told → read' ≡ read) → ReadsLow told was config batches read → ReadsLow told is config batches read'
low_later told was is config batches read read' alives same low t on pages u sized reads = low t (alives on) pages u sized (sym (same t) ∙ reads)

either : {A : Type 0} (x y : Bool) → SomeAlive x y → (x ≡ true → A) → (y ≡ true → A) → A
either true y some f g = f refl
either false true some f g = g refl
either false false some f g = absurd (cc)

-- the tables of a member are low if each copy reads its pages, and those are low
pub low_read : (told : Type 0) (one two : Bool) (place1 place2 : Place) (count1 count2 : ℕ) (config : Config) (batches : ℕ) (k : Checkpoint) (read1 read2 : Option (List ℕ)) → SomeAlive one two → AreDrawn k.tables k.level k.levels k.pages
    → RestsAt told one place1 count1 k.pages read1 → RestsAt told two place2 count2 k.pages read2 → ReadsLow told one config batches read1 → ReadsLow told two config batches read2 → told → AreLow config batches k.tables
low_read told one two place1 place2 count1 count2 config batches k read1 read2 some drawn rests1 rests2 low1 low2 t =
    let own : IsCheckpoint k.pages k.tables = record { level = k.level; levels = k.levels; fit = drawn.spelling; ages = drawn.leveled; spell = drawn.spelled } in
    either one two some (λ on. low1 t on k.pages k.tables drawn.sized (rests1.reads t on) own) (λ on. low2 t on k.pages k.tables drawn.sized (rests2.reads t on) own)

-- what a copy reads after the command's write is low
pub low_written : (told : Type 0) (alive : Bool) (place : Place) (count : ℕ) (config : Config) (batches : ℕ) (k : Checkpoint) (read : Option (List ℕ)) → AreDrawn k.tables k.level k.levels k.pages → (told → AreLow config batches k.tables)
    → RestsAt told alive place count k.pages read → ReadsLow told alive config batches read
low_written told alive place count config batches k read drawn low rests t = low_again one_value same_pages told alive place count config batches k read drawn (low t) rests t

-- AT THE LOCK AGAIN, after a step

pub at_lock : {P C : Type 0} (tells : Type 0) (x : Parts P C) (batch : List Entry) (k : Checkpoint) (room : List Page) → IsBetween tells x batch k → length room ≡ length k.pages → IsAtLock x.current x.placed batch k room
at_lock tells x batch k room between many = assumption (between, many)

pub calm_rest : (tells : Type 0) (alive : Bool) (place : Place) (count : ℕ) (pages : List Page) (read : Option (List ℕ)) (n : ℕ) → n ≡ length pages → RestsAt tells alive place count pages read → IsCalm alive place count n
calm_rest tells alive place count pages read n many rests = record { before = rests.before; as_many = λ on. many ∙ rests.as_many on }

-- the journal has one batch more
pub one_batch : (front batches : List Batch) (placed : Bool) (current : Option Batch) (b : Batch) (now : ℕ) → placed ≡ false → current ≡ None → HasKept front (end_of placed current batches) b now → length batches ≡ length front + 1
one_batch front batches placed current b now unplaced none kept =
    ap (λ (bs : List Batch). length bs) (sym (none_out batches batches placed current refl unplaced none) ∙ kept.3) ∙ length-append front (fated Kept kept.0 b ∷ [])

-- IN THE STEP

-- a member that is at the lock, and has read
pub between_read : {P C : Type 0} (tells : Type 0) (x : Parts P C) (batch : List Entry) (k : Checkpoint) (config : Config) → x.current ≡ None → x.placed ≡ false → batch ≡ [] → IsUpTo config k.pages k
    → (tells → ∥ Tell k.tables (run x.base (kept_all x.batches)) ∥₁) → (tells → ∥ HaveOrders k.tables ∥₁) → (tells → x.level ≡ k.level) → (tells → IsToldSound (run x.base (kept_all x.batches))) → IsBetween tells x batch k
between_read tells x batch k config none unplaced nothing up told ordered at sound =
    let queue : tells → Tell k.tables (run x.base (kept_all x.batches)) = λ t. tell_is k.tables (run x.base (kept_all x.batches)) (told t) in
    let orders : tells → HaveOrders k.tables = λ t. orders_are k.tables (ordered t) in
    let whole : tells → TellSound k.tables = λ t. sound t k.tables (queue t) in
    assumption (none, unplaced, nothing, up.drawn, up.may.fit, at, queue, orders, whole)

-- a member's pages are as many as the configuration of a run has
pub pages_of_run : (base : Queue) (es : List Entry) (k : Checkpoint) (room : List Page) → base.config ≡ k.tables.config → AreDrawn k.tables k.level k.levels k.pages → length room ≡ length k.pages → page_count (run base es).config ≡ length room
pages_of_run base es k room same drawn many = ap page_count ((runs_keep_configuration base es).config ∙ same) ∙ sym drawn.spelled.count ∙ sym many

pub level_low : (config : Config) (k : Checkpoint) → IsUpTo config k.pages k → k.level < too_high
level_low config k up = subst (λ (l : ℕ). l < too_high) (drawn_level k.tables k.level k.levels k.pages up.drawn) up.may.low_level

-- a member between commands, by other names
pub between_by : {P C : Type 0} (told : Type 0) (x y : Parts P C) (batch : List Entry) (k : Checkpoint) → y.base ≡ x.base → y.batches ≡ x.batches → y.current ≡ x.current → y.placed ≡ x.placed → y.level ≡ x.level → IsBetween told x batch k → IsBetween told y batch k
between_by told x y batch k one two three four five b =
    let none : y.current ≡ None = three ∙ b.none in
    let unplaced : y.placed ≡ false = four ∙ b.unplaced in
    let level : told → y.level ≡ k.level = λ t. five ∙ b.same_level t in
    let queue : told → Tell k.tables (run y.base (kept_all y.batches)) = λ t. subst (Tell k.tables) (sym (ap (λ (q : Queue). run q (kept_all y.batches)) one ∙ ap (λ (bs : List Batch). run x.base (kept_all bs)) two)) (b.queue t) in
    assumption (b, none, unplaced, level, queue)
