-- What a crash leaves of the two copies, and what the console tells.
use Rattle.mas_complex.specs.Names.{Dev, Disk as DiskPart, View, ViewDisk as Disk, Line, IsImage, LeavesOnly, IsCkpt, disk_at, disk_now, slice, top, level, Batch, Entry, Place, Before, Put, Opened, Unsure, MemberId, Queue, best, Page, page_count}
use Rattle.std.specs.Prelude.{◌≡◌, ◌⊎◌, ℕ, ◌+◌, ◌*◌, ◌^◌, ◌≤◌, ◌<◌, ◌==◌, ◌&&◌, ◌||◌, not, Bool, true, false, List, [], ◌∷◌, ◌++◌, length, drop, Option, Some, None, IfSome, Contains}
use Rattle.std.specs.Int.{from_be_bytes, w64}
use Rattle.duplex_pair.specs.declared.half.Half.{Half}
use Rattle.mas_complex.specs.declared.renewals.Renewals.{Renewals}
use Rattle.mas_complex.specs.Renewals.{is_renewed_at, is_open, of_device, no_renewals, AreRenewedBy}
use Rattle.mas_complex.specs.Meaning.{StandFor, run, Closes}
use Rattle.mas_complex.specs.Texts.{spools_at, lost_now, HasTexts}
use Rattle.mas_complex.specs.Past.{AreLater, nobody_noted}
use Rattle.mas_complex.specs.Journals.{kept, flying, kept_all, in_flight, entries_in, batches_kept, StepIsKept, has_step, AreSettled, IsBegun}

-- what pages, entries and lines mean, where the value began, when a copy was replaced, and what members noted
pub record Setting : Type 1 where
  pub reads : List ℕ → Option (List ℕ)
  pub stand : Queue → List ℕ → Type 0
  pub run : Queue → List Entry → Queue
  pub closes : List ℕ → MemberId → ℕ → Type 0
  pub base : Queue
  pub since : ℕ
  pub renewals : Renewals
  pub had : List (List Page)

-- a device, lost where this is true
abbrev pub lost_if : Bool → Disk → Disk
lost_if false disk = disk
lost_if true disk = record disk { lost = true }

-- A device as a crash at a moment finds it. At the greatest moment the world stays while acts still fail, so there a
-- device is lost too where the plant now says so.
abbrev pub left_at : View → ℕ → Dev → Disk
left_at v t dev = lost_if ((t == top) && v.lost (DiskPart dev)) (disk_at v t dev)

-- a copy is good at a moment where its device isn't lost then and it isn't being replaced
abbrev pub is_good : Bool → Disk → Bool
is_good renewed disk = not disk.lost && not renewed

abbrev pub good_at : Renewals → View → ℕ → Dev → Bool
good_at rs v t dev = is_good (is_renewed_at (of_device dev rs) t) (left_at v t dev)

-- one of two copies is good
abbrev pub SomeGood : Bool → Bool → Disk → Disk → Type 0
SomeGood renewed1 renewed2 one two = (is_good renewed1 one || is_good renewed2 two) ≡ true

-- what a crash leaves of a device: an image, or nothing of a lost one
abbrev pub IsLeft : Disk → Option (List ℕ) → Type 0
IsLeft disk None = disk.lost ≡ true
IsLeft disk (Some image) = IsImage disk image

abbrev pub SomeLeft : Option (List ℕ) → Option (List ℕ) → Type 0
SomeLeft None None = ⊥
SomeLeft None (Some two) = Unit {0}
SomeLeft (Some one) two = Unit {0}

abbrev pub read_left : (List ℕ → Option (List ℕ)) → Option (List ℕ) → Option (List ℕ)
read_left reads None = None
read_left reads (Some image) = reads image

-- the pages that a start finds
abbrev pub found : Setting → Option (List ℕ) → Option (List ℕ) → Option (List ℕ)
found S one two = best (read_left S.reads one) (read_left S.reads two)

-- pages are found, which stand for the queue after these entries
abbrev pub IsFound : Setting → List Entry → Option (List ℕ) → Type 0
IsFound S entries None = ⊥
IsFound S entries (Some pages) = S.stand (S.run S.base entries) pages

-- the queue after the kept batches of a moment, with the batch in flight or without it
abbrev pub IsAfter : Setting → List Batch → ℕ → Option (List ℕ) → Type 0
IsAfter S J t pages = IsFound S (kept J t) pages ⊎ IsFound S (kept J t ++ flying J t) pages

-- the pages that an image reads as are the kept ones or those in flight
abbrev pub IsOneOf : List ℕ → Option (List ℕ) → Option (List ℕ) → Type 0
IsOneOf was coming None = ⊥
IsOneOf was coming (Some pages) = (pages ≡ was) ⊎ (coming ≡ Some pages)

-- each image of a device reads as the kept pages or as those in flight
abbrev pub ReadsOne : Setting → List ℕ → Option (List ℕ) → Disk → Type 0
ReadsOne S was coming disk = LeavesOnly disk (λ image. IsOneOf was coming (S.reads image))

-- an image of a copy that isn't good reads as none, or as pages that were kept by now
abbrev pub IsStale : List ℕ → Option (List ℕ) → Type 0
IsStale was None = Unit {0}
IsStale was (Some pages) = (pages ≡ was) ⊎ (level pages < level was)

abbrev pub ReadsStale : Setting → List ℕ → Disk → Type 0
ReadsStale S was disk = LeavesOnly disk (λ image. IsStale was (S.reads image))

-- what an image of a copy reads as, whether or not it is being replaced
abbrev pub IsReadBy : Bool → List ℕ → Option (List ℕ) → Option (List ℕ) → Type 0
IsReadBy false was coming pages = IsOneOf was coming pages
IsReadBy true was coming pages = IsStale was pages

abbrev pub ReadsBy : Setting → Bool → List ℕ → Option (List ℕ) → Disk → Type 0
ReadsBy S renewed was coming disk = LeavesOnly disk (λ image. IsReadBy renewed was coming (S.reads image))

-- pages of this level that stand for the queue after these entries
abbrev pub Stands : Setting → ℕ → List Entry → List ℕ → Type 0
Stands S l entries pages = record { at_level : level pages ≡ l; queue : S.stand (S.run S.base entries) pages }

-- the pages in flight, if there are any, have the next level and stand for the queue with the batch
abbrev pub IsNext : Setting → ℕ → List Entry → List Entry → Option (List ℕ) → Type 0
IsNext S reached K F coming = IfSome coming (Stands S (reached + 1) (K ++ F))

-- the next order, which stands in the first page
unfoldable pub next_order : List ℕ → ℕ
next_order pages = from_be_bytes w64 (slice 40 8 pages)

-- the next order of a run that begins is at most this
abbrev pub order_first : ℕ
order_first = 2 ^ 62

-- a batch raises the next order by at most so much
abbrev pub orders_most : ℕ
orders_most = 2 ^ 19

abbrev pub RaisesOrders : List ℕ → List ℕ → Type 0
RaisesOrders was pages = next_order pages ≤ next_order was + orders_most

-- pages at or above a level, at which the next order was this one: each level more has raised it by so much at most
abbrev pub IsNear : ℕ → ℕ → List ℕ → Type 0
IsNear l order pages = next_order pages + orders_most * l ≤ order + orders_most * level pages

-- an image of a device that reads as pages reads as ones of this level, with this next order
abbrev pub ReadsAtLevel : (List ℕ → Option (List ℕ)) → ℕ → ℕ → Disk → Type 0
ReadsAtLevel reads l order disk = LeavesOnly disk
    (λ image. (pages : List ℕ) → reads image ≡ Some pages → (level pages ≡ l) × (next_order pages ≡ order))

-- or as ones of at most a greatest level, near to these
abbrev pub ReadsUpTo : (List ℕ → Option (List ℕ)) → ℕ → ℕ → ℕ → Disk → Type 0
ReadsUpTo reads l order most disk = LeavesOnly disk
    (λ image. (pages : List ℕ) → reads image ≡ Some pages → (level pages ≤ most) × IsNear l order pages)

-- The pages of the kept entries, of the level reached, and those of the entries in flight, if there are any. Both are
-- near to the first level and order.
pub record Versions (S : Setting) (reached : ℕ) (K F : List Entry) (l order : ℕ) : Type 0 where
  pub was : List ℕ
  pub coming : Option (List ℕ)
  pub stands : Stands S reached K was
  pub comes : IsNext S reached K F coming
  pub none : F ≡ [] → coming ≡ None
  pub near : IsNear l order was
  pub comes_near : IfSome coming (IsNear l order)

-- the level and next order from which pages have risen, and the greatest level that they have reached
pub record Span : Type 0 where
  pub from_level : ℕ
  pub from_order : ℕ
  pub most : ℕ

abbrev pub span_of : ℕ → ℕ → ℕ → Span
span_of l order most = record { from_level = l; from_order = order; most = most }

-- The devices of the copies agree at a moment: there are pages of the kept entries, and maybe ones in flight, and each
-- image of each device reads as one of these. With no entry in flight each reads as the kept pages. A copy that is
-- being replaced reads as none, or as pages that were kept by then. Their level is at most so high.
pub record Alike (S : Setting) (span : Span) (K F : List Entry) (t : ℕ) (disks : Dev → Disk) : Type 0 where
  pub reached : ℕ
  pub low : reached ≤ span.most
  pub pages : Versions S reached K F span.from_level span.from_order
  pub reads : (d : Dev) → IsCkpt d
      → ReadsBy S (is_renewed_at (of_device d S.renewals) t) pages.was pages.coming (disks d)

-- the whole lines tell only steps of which P holds
abbrev pub EachTells : (List ℕ → MemberId → ℕ → Type 0) → List Line → (MemberId → ℕ → Type 0) → Type 0
EachTells closes [] P = Unit {0}
EachTells closes (line ∷ lines) P = (line.whole ≡ true → (m : MemberId) (s : ℕ) → closes line.text m s → P m s)
    × EachTells closes lines P

-- the lines said since the value began
abbrev pub said : Setting → View → ℕ → List Line
said S v t = drop (length (v.world S.since).console) (v.world t).console

-- a whole line with this text
abbrev pub whole : List ℕ → Line
whole text = record { text = text; whole = true }

-- P holds of each step that one of the whole lines tells
abbrev pub TellOnly : (List ℕ → MemberId → ℕ → Type 0) → List Line → (MemberId → ℕ → Type 0) → Type 0
TellOnly closes lines P =
    (text : List ℕ) → Contains lines (whole text) → (m : MemberId) (s : ℕ) → closes text m s → P m s

-- each step told at a moment was kept by then
abbrev pub ToldAt : Setting → List Batch → View → ℕ → Type 0
ToldAt S J v t = TellOnly S.closes (said S v t) (StepIsKept J t)

-- what is said stays
pub record Begins (old new : List Line) : Type 0 where
  pub more : List Line
  pub is : new ≡ old ++ more

-- no line tells a step that has an entry among these
abbrev pub IsUntold : Setting → View → List Entry → Type 0
IsUntold S v entries = EachTells S.closes (said S v v.now) (λ m s. has_step m s entries ≡ false)

-- there are pages in flight, and P holds of them
abbrev pub OnComing : Option (List ℕ) → (List ℕ → Type 0) → Type 0
OnComing None P = ⊥
OnComing (Some pages) P = P pages

-- one of the two copies: when it rests with pages, and when it holds others behind its gate; whether it counts as
-- alive, and how far the batch in flight has come on it
pub record Copy : Type 1 where
  pub rests : List ℕ → Disk → Type 0
  pub holds : List ℕ → List ℕ → Disk → Type 0
  pub alive : Bool
  pub place : Place

abbrev pub copy_of : {C : Type 0} → (C → List ℕ → Disk → Type 0) → (C → List ℕ → List ℕ → Disk → Type 0) → Half C
    → Place → Copy
copy_of rests holds half place =
    record { rests = rests half.copy; holds = holds half.copy; alive = half.alive; place = place }

-- an alive copy at its place
abbrev pub IsAt : Setting → Copy → List ℕ → Option (List ℕ) → Place → Disk → Type 0
IsAt S c was coming Before disk = c.rests was disk
IsAt S c was coming Put disk = OnComing coming (λ pages. c.holds was pages disk)
IsAt S c was coming Opened disk = OnComing coming (λ pages. c.rests pages disk)
IsAt S c was coming Unsure disk = ReadsOne S was coming disk

-- the device of a copy that counts as lost is lost, or its replacement was begun and not ended
abbrev pub IsAway : Setting → List ℕ → Bool → ℕ → Disk → Type 0
IsAway S was false now disk = now < top → disk.lost ≡ true
IsAway S was true now disk = ReadsStale S was disk

-- a replacement of the copy on a device is open
abbrev pub is_away : Setting → Dev → Bool
is_away S dev = is_open (of_device dev S.renewals)

-- the copy on a device, alive or lost
pub record CopyAt (S : Setting) (was : List ℕ) (coming : Option (List ℕ)) (dev : Dev) (c : Copy) (v : View) : Type 0
  where
    pub at : c.alive ≡ true → IsAt S c was coming c.place (disk_now v dev)
    pub formed : c.alive ≡ true → is_away S dev ≡ false
    pub gone : c.alive ≡ false → IsAway S was (is_away S dev) v.now (disk_now v dev)

abbrev pub setting_with : (List ℕ → Option (List ℕ)) → Queue → ℕ → Renewals → List (List Page) → Setting
setting_with reads base since renewals had = record {
  reads = reads;
  stand = StandFor;
  run = run;
  closes = Closes;
  base = base;
  since = since;
  renewals = renewals;
  had = had;
}

-- before any copy was replaced, and any pages were noted
abbrev pub setting : (List ℕ → Option (List ℕ)) → Queue → ℕ → Setting
setting reads base since = setting_with reads base since no_renewals nobody_noted

-- the entries, with those in flight or without them
abbrev pub with_flying : Bool → List Entry → List Entry → List Entry
with_flying false K F = K
with_flying true K F = K ++ F

-- The texts that stand on the spool volumes at a moment: those of the queue after the kept entries, and those of the
-- queue with the entries in flight, except texts with a group on a volume that is lost now.
abbrev pub TextsAt : Setting → List Entry → List Entry → View → ℕ → Type 0
TextsAt S K F v t = (coming : Bool) → HasTexts (lost_now v) (spools_at v t) S.base.config.groups
    (S.run S.base (with_flying coming K F))

-- a volume that the world shows as lost is lost now
abbrev pub AreSunk : View → ℕ → Type 0
AreSunk v t = (n : ℕ) → (spools_at v t n).lost ≡ true → lost_now v n ≡ true

-- the texts stand, and what the world shows as lost is lost
abbrev pub TextsStand : Setting → List Entry → List Entry → View → ℕ → Type 0
TextsStand S K F v t = TextsAt S K F v t × AreSunk v t

-- a past moment, at which these entries were kept and those in flight
pub record Moment (S : Setting) (span : Span) (K F : List Entry) (v : View) (t : ℕ) : Type 0 where
  pub alike : t < top → Alike S span K F t (disk_at v t)
  pub stood : TextsStand S K F v t

-- the pages of the kept entries, and those in flight, if there are any, are later than those that members noted
abbrev pub AreNotedBefore : Setting → List ℕ → Option (List ℕ) → Type 0
AreNotedBefore S was coming = AreLater (page_count S.base.config) S.had was
    × IfSome coming (AreLater (page_count S.base.config) S.had)

-- What the shared value keeps of its past, and of its present: the pages of the kept entries, and those in flight, are
-- the same for both copies. At first these read at this level and next order, and the level reached is at most as many
-- more as batches are kept.
pub record Keeps (S : Setting) (js : List Batch) (current : Option Batch) (reached : ℕ) (copies : Dev → Copy)
    (v : View) : Type 0 where
  pub started : S.since ≤ v.now
  pub settled : AreSettled js v.now
  pub begun : IsBegun current v.now
  pub renewed : (d : Dev) → IsCkpt d → AreRenewedBy (of_device d S.renewals) v.now
  pub first_level : ℕ
  pub first_order : ℕ
  pub past : (t : ℕ) → S.since ≤ t → t < v.now → Moment S (span_of first_level first_order reached)
      (kept (js ++ in_flight current) t) (flying (js ++ in_flight current) t) v t
  pub told : (t : ℕ) → S.since ≤ t → t ≤ v.now → ToldAt S (js ++ in_flight current) v t
  pub grows : (t : ℕ) → S.since ≤ t → t ≤ v.now → Begins (v.world t).console (v.world v.now).console
  pub stood : TextsStand S (kept_all js) (entries_in current) v v.now
  pub first : S.since < top → (d : Dev) → IsCkpt d → ReadsAtLevel S.reads first_level first_order
      (disk_at v S.since d)
  pub risen : reached ≤ first_level + batches_kept js
  pub pages : Versions S reached (kept_all js) (entries_in current) first_level first_order
  pub at : (d : Dev) → IsCkpt d → CopyAt S pages.was pages.coming d (copies d) v
  pub later : (d : Dev) → IsCkpt d → (copies d).alive ≡ true → AreNotedBefore S pages.was pages.coming

-- Both copies, before any batch, as a shared value begins with them: there are pages of this level that stand for its
-- base, and each copy that counts as alive is at rest with these. The texts of the base stand on the spool volumes.
pub record BeginsWith (S : Setting) (l : ℕ) (copies : Dev → Copy) (v : View) : Type 0 where
  pub pages : List ℕ
  pub stands : Stands S l [] pages
  pub texts : HasTexts (lost_now v) (spools_at v v.now) S.base.config.groups (S.run S.base [])
  pub at : (d : Dev) → IsCkpt d → CopyAt S pages None d (copies d) v
