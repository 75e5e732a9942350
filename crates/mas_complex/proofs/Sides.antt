-- What one call does to one copy.
use Rattle.mas_complex.proofs.Names.{◌≡◌, ℕ, ◌+◌, ◌≤◌, ◌<◌, Bool, true, false, List, length, Option, Some, None, IfSome, Result, Ok, Err, OnOk, IsErrOf, refl, subst, sym, ◌∙◌, ap, arith, append-nil, Dev, View, ViewDisk as Disk, Avoids, disk_now, top, Touched, Meanwhile, meanwhile_weaker, PairNo, BothLost, Halted, SameOrLost, Batch, Entry, Place, Before, Put, Opened, Unsure, is_away, Setting, Copy, CopyAt, ReadsOne, ReadsBy, OnComing, IsAt, IsPlaceAfter, HasNoOther, Ckpt1, Ckpt2, Spool, NoMore, IsCkpt, ◌++◌, IfOk, OnErr, le_refl, Throughout, disk_at, Half, Look, Lost, Unread, Pages, LookNo, WasSeen, kept_all, entries_in, in_flight, Keeps, Versions, ◌||◌, no_more_image, IsGone, ◌⊎◌, ◌∷◌, Page, Disk as DiskPart, bytes_of, level, IsAtLevel, IsPlaceSeen, Stands, IsNext, IsOneOf, inl, inr, ◌*◌, nat_lt, All, IsSome, length-append, All-head, All-tail, Queue, page_bytes, page_count, StandFor, run, IfPages, IsGreater, IsOneSeen, Looked, Sought, AreNotedBefore, [], true≢false, ⊎_elim, IsUsed, test_cases, IsAway, IsImage}
use Rattle.mas_complex.proofs.Basics.{no, some_is, Passes, some_of, before_opened, stays_true, of_if}
use Rattle.mas_complex.proofs.Present.{Reads, not_renewed, away_reads, copy_reads, away_moved, side_reads, coming_of, of_one, sent}
use Rattle.mas_complex.proofs.Moves.{Adds, acts_keep}
use Rattle.mas_complex.proofs.Spooled.{stays_same}
use Rattle.mas_complex.proofs.Pasts.{image_now}
use Rattle.mas_complex.specs.Kept.{OnlyOnCopies}
use Rattle.queue_laws.proofs.RunLaws.{runs_keep_configuration}

-- the next level is the higher one
pub is_higher : (l m reached : ℕ) → l ≡ reached → m ≡ reached + 1 → l < m
is_higher l m reached e f = omega (arith, e, f)

-- A COPY WHERE IT STANDS

module _ (S : Setting) (was : List ℕ) (coming : Option (List ℕ)) (c : Copy) where
  pub at_place : (p q : Place) (d : Disk) → p ≡ q → IsAt S c was coming p d → IsAt S c was coming q d
  at_place p q d e side = subst (λ (x : Place). IsAt S c was coming x d) e side

  module _ (dev : Dev) (v : View) (copy : CopyAt S was coming dev c v) where
    abbrev disk : Disk
    disk = disk_now v dev

    -- a copy at which the batch hasn't come rests with the kept pages
    pub rests_before : (c.alive ≡ true → c.place ≡ Before) → c.alive ≡ true → c.rests was disk
    rests_before before is = at_place c.place Before disk (before is) (copy.at is)

    -- pages wait behind its gate
    pub held_at : c.alive ≡ true → c.place ≡ Put → (coming ≡ Some (sent coming)) × c.holds was (sent coming) disk
    held_at is put = coming_of coming (λ p. c.holds was p disk) (at_place c.place Put disk put (copy.at is))

    -- a copy that has no other pages of the batch in flight than these is before it, or these are in flight
    pub no_other : (behind : List ℕ → List ℕ) → ((was next : List ℕ) (d : Disk) → c.holds was next d → behind d.bytes ≡ next) → ((was : List ℕ) (d : Disk) → c.rests was d → S.reads d.bytes ≡ Some was)
        → (pages : List ℕ) → c.alive ≡ true → HasNoOther c.place (behind disk.bytes) (S.reads disk.bytes) pages → (c.place ≡ Before) ⊎ (coming ≡ Some pages)
    no_other behind shown rests_now pages is same = by_place c.place coming same (copy.at is) where
      by_place : (p : Place) (n : Option (List ℕ)) → HasNoOther p (behind disk.bytes) (S.reads disk.bytes) pages → IsAt S c was n p disk → (p ≡ Before) ⊎ (n ≡ Some pages)
      by_place Before n e here = inl refl
      by_place Put (Some p) e here = inr (ap Some (sym (shown was p disk here) ∙ e))
      by_place Opened (Some p) e here = inr (sym (rests_now p disk here) ∙ e)
      by_place Unsure n e here = absurd e
      by_place _ None e here = absurd here

    -- with these in flight, where it is before the batch or has them
    pub with_coming : (pages : List ℕ) → (c.alive ≡ true → (c.place ≡ Before) ⊎ (coming ≡ Some pages)) → CopyAt S was (Some pages) dev c v
    with_coming pages or = record {
      at = λ is. ⊎_elim (λ before. subst (λ (x : Place). IsAt S c was (Some pages) x disk) (sym before) (rests_before (λ _. before) is)) (λ e. subst (λ (n : Option (List ℕ)). IsAt S c was n c.place disk) e (copy.at is)) (or is);
      formed = copy.formed;
      gone = copy.gone;
    }

-- A CALL: the copy on a device during it, and after it

-- a device that stays as it is
pub same_more : (d e : Disk) → e ≡ d → NoMore d e
same_more d e same = record { bytes = ap (λ x. x.bytes) same; unsynced = λ s. subst (λ (x : Disk). Avoids x.unsynced s) (sym same); there = λ there. ap (λ x. x.lost) (sym same) ∙ there }

-- or is lost now
pub lost_more : (d e : Disk) → SameOrLost d e → NoMore d e
lost_more d e so = record { bytes = so.bytes; unsynced = λ s. subst (λ u. Avoids u s) (sym so.unsynced); there = so.there }

-- no more images are left of it, so each reads as it did
pub less_reads : (S : Setting) (was : List ℕ) (coming : Option (List ℕ)) (c : Copy) (d e : Disk) → Reads S.reads c → NoMore d e → IsAt S c was coming c.place d → ReadsOne S was coming e
less_reads S was coming c d e laws more at image im = side_reads S was c laws coming c.place d at image (no_more_image d e image more im)

-- what is said of a copy that was touched where it counted as alive
pub touched_by : (P : Disk → Type 0) (alive : Bool) (was d : Disk) → Touched alive P was d → (alive ≡ true → P d) × (alive ≡ false → NoMore was d)
touched_by P true was d here = ((λ _. here), λ dead. absurd (cc))
touched_by P false was d same = ((λ is. absurd (cc)), λ _. same_more was d same)

module _ (S : Setting) (was : List ℕ) (coming : Option (List ℕ)) (dev : Dev) (c' : Copy) (old new : View) where
  pub record Went : Type 0 where
    pub during : Throughout old.now new.now (λ t. old.now < top → ReadsBy S (is_away S dev) was coming (disk_at new t dev))
    pub after : CopyAt S was coming dev c' new

  module _ (before : Option (List ℕ)) (c : Copy) (copy : CopyAt S was before dev c old) (le : old.now ≤ new.now) (stays : c'.alive ≡ true → c.alive ≡ true) where
    -- one that counted as lost stays so
    pub idle : c.alive ≡ false → Throughout old.now new.now (λ t. NoMore (disk_now old dev) (disk_at new t dev)) → Went
    idle dead less = record {
      during = λ t from le lt image is. away_reads S was (is_away S dev) coming old.now (disk_now old dev) lt (copy.gone dead) image (no_more_image (disk_now old dev) (disk_at new t dev) image (less t from le) is);
      after = let last = less new.now le (le_refl new.now) in record {
        at = λ now. absurd (no c.alive (stays now) dead);
        formed = λ now. absurd (no c.alive (stays now) dead);
        gone = λ _. away_moved S was (is_away S dev) old.now new.now (disk_now old dev) (disk_now new dev) le (stays_true (disk_now new dev).lost (disk_now old dev).lost last.there) (λ image is. no_more_image (disk_now old dev) (disk_now new dev) image last is) (copy.gone dead);
      };
    }

    -- and one that counted as alive goes by what each image reads as
    pub went : (P : Disk → Type 0) → (c.alive ≡ true → (d : Disk) → P d → ReadsOne S was coming d) → Throughout old.now new.now (λ t. (c.alive ≡ true → P (disk_at new t dev)) × (c.alive ≡ false → NoMore (disk_now old dev) (disk_at new t dev)))
        → IsGone dev c.alive c'.alive new → (c.alive ≡ true → ReadsOne S was coming (disk_now new dev) → P (disk_now new dev) → c'.alive ≡ true → IsAt S c' was coming c'.place (disk_now new dev)) → Went
    went P reads m gone at = test_cases c.alive Went (λ is. let here : Throughout old.now new.now (λ t. P (disk_at new t dev)) = λ t from le. (m t from le).0 is in record {
      during = λ t from le lt. not_renewed S was (is_away S dev) coming (disk_at new t dev) (copy.formed is) (reads is (disk_at new t dev) (here t from le));
      after = let last = here new.now le (le_refl new.now) in
          record { at = at is (reads is (disk_now new dev) last) last; formed = λ _. copy.formed is; gone = λ dead. subst (λ (b : Bool). IsAway S was b new.now (disk_now new dev)) (sym (copy.formed is)) (gone is dead) };
    }) (λ dead. idle dead (λ t from le. (m t from le).1 dead))

    -- by what it is touched with, and where it stands after the answer
    pub touches : {T : Type 0} (done : Result T PairNo) (ok : Place) (P : Disk → Type 0) → (c.alive ≡ true → (d : Disk) → P d → ReadsOne S was coming d) → Throughout old.now new.now (λ t. Touched c.alive P (disk_now old dev) (disk_at new t dev)) → IsGone dev c.alive c'.alive new
        → (IsErrOf done BothLost → c'.alive ≡ false) → IsPlaceAfter done ok c'.place → OnOk done (c'.alive ≡ true → IsAt S c' was coming ok (disk_now new dev)) → Went
    touches done ok P reads m gone both after held = went P reads (λ t from le. touched_by P c.alive (disk_now old dev) (disk_at new t dev) (m t from le)) gone (λ is reads here now. by_done done both after held reads now) where
      by_done : {T : Type 0} (r : Result T PairNo) → (IsErrOf r BothLost → c'.alive ≡ false) → IsPlaceAfter r ok c'.place → OnOk r (c'.alive ≡ true → IsAt S c' was coming ok (disk_now new dev)) → ReadsOne S was coming (disk_now new dev) → c'.alive ≡ true → IsAt S c' was coming c'.place (disk_now new dev)
      by_done (Ok x) both after held reads now = at_place S was coming c' ok c'.place (disk_now new dev) (sym after) (held now)
      by_done (Err BothLost) both after held reads now = absurd (no c'.alive now (both refl))
      by_done (Err Halted) both after held reads now = at_place S was coming c' Unsure c'.place (disk_now new dev) (sym after) reads

  -- one that leaves no more images than before
  module _ (c : Copy) (copy : CopyAt S was coming dev c old) (le : old.now ≤ new.now) (stays : c'.alive ≡ true → c.alive ≡ true) (laws : Reads S.reads c) (m : Throughout old.now new.now (λ t. NoMore (disk_now old dev) (disk_at new t dev))) where
    pub quiet : IsGone dev c.alive c'.alive new → (c.alive ≡ true → ReadsOne S was coming (disk_now new dev) → c'.alive ≡ true → IsAt S c' was coming c'.place (disk_now new dev)) → Went
    quiet gone at = went coming c copy le stays (NoMore (disk_now old dev)) (λ is d more. less_reads S was coming c (disk_now old dev) d laws more (copy.at is)) (λ t from le. ((λ _. m t from le), λ _. m t from le)) gone (λ is reads more now. at is reads now)

-- a copy whose device stays as it is stays at its place
pub moved : (S : Setting) (was : List ℕ) (coming : Option (List ℕ)) (dev : Dev) (c : Copy) (old new : View) → old.now ≤ new.now → disk_now new dev ≡ disk_now old dev → CopyAt S was coming dev c old → CopyAt S was coming dev c new
moved S was coming dev c old new le same copy = record {
  at = λ is. subst (λ (x : Disk). IsAt S c was coming c.place x) (sym same) (copy.at is);
  formed = copy.formed;
  gone = λ is. away_moved S was (is_away S dev) old.now new.now (disk_now old dev) (disk_now new dev) le (λ lost. ap (λ (x : Disk). x.lost) same ∙ lost) (λ image im. subst (λ (x : Disk). IsImage x image) same im) (copy.gone is);
}

pub untouched : (S : Setting) (was : List ℕ) (coming : Option (List ℕ)) (dev : Dev) (c : Copy) (old new : View) → Reads S.reads c → CopyAt S was coming dev c old → old.now ≤ new.now → Throughout old.now new.now (λ t. disk_at new t dev ≡ disk_now old dev) → Went S was coming dev c old new
untouched S was coming dev c old new laws copy le same = record {
  during = λ t from ge lt. subst (λ (x : Disk). ReadsBy S (is_away S dev) was coming x) (sym (same t from ge)) (copy_reads S was c laws coming dev old copy lt);
  after = moved S was coming dev c old new le (same new.now le (le_refl new.now)) copy;
}

-- WHAT THE CALL LEAVES OF BOTH, where it leaves the volumes and the console

pub record Calm (old new : View) : Type 0 where
  pub volumes : OnlyOnCopies old new
  pub console : Throughout old.now new.now (λ t. (new.world t).console ≡ (old.world old.now).console)

pub calm : (S : Setting) (J : List Batch) (old new : View) → ((t : ℕ) → old.now ≤ t → t ≤ new.now → (new.world t).console ≡ (old.world old.now).console) → old.now ≤ new.now → Adds S J old new
calm S J old new same le = record {
  same = λ t lt ge. same t (omega arith) ge ∙ sym (same new.now le (omega arith));
  more = [];
  is = same new.now le (omega arith) ∙ sym (append-nil (old.world old.now).console);
  tells = λ text there. absurd (omega (arith, there.1));
}

pub copies_went : (S : Setting) (js : List Batch) (c : Option Batch) (reached : ℕ) (copies copies' : Dev → Copy) (old new : View) (keeps : Keeps S js c reached copies old) (p : Versions S reached (kept_all js) (entries_in c) keeps.first_level keeps.first_order) → Passes old new → Calm old new
    → ((d : Dev) → IsCkpt d → Went S p.was p.coming d (copies' d) old new) → ((d : Dev) → IsCkpt d → (copies' d).alive ≡ true → AreNotedBefore S p.was p.coming) → Keeps S js c reached copies' new
copies_went S js c reached copies copies' old new keeps p passes leaves went later =
    acts_keep S js c reached copies copies' old new keeps passes p (λ d ckpt t lt le below. (went d ckpt).during t lt (omega (arith, le)) (omega (arith, lt, below)))
    (calm S (js ++ in_flight c) old new leaves.console passes.later) (stays_same S (kept_all js) (entries_in c) old new (λ t lt le n. leaves.volumes t (omega (arith, lt)) le (Spool n) (λ e. absurd (cc)) (λ e. absurd (cc))))
    (λ d ckpt. (went d ckpt).after) later

-- a device that a call lost leaves no more images
pub lost_while : (old new : View) (dev : Dev) → Meanwhile dev (SameOrLost (disk_now old dev)) old new → Meanwhile dev (NoMore (disk_now old dev)) old new
lost_while old new dev m = meanwhile_weaker dev (SameOrLost (disk_now old dev)) (NoMore (disk_now old dev)) old new m (λ d so. lost_more (disk_now old dev) d so)

-- a copy that was looked at passes the test, where it did before
pub seen_fits : {C : Type 0} (count room : C → ℕ) (room_most : ℕ) (ready : C → View → Type 0) (reads : List ℕ → Option (List ℕ)) (rests : C → List ℕ → Disk → Type 0) (tells : Type 0) (dev : Dev) (new : View) (h k : Half C)
    → (done : Result Look LookNo) → IfOk done (λ look. WasSeen count room room_most ready reads rests tells dev new h.copy k.copy k.alive look) → OnErr done (k ≡ h) → k.alive ≡ true
    → (fits : C → Bool) → ((x : C) → ready x new → fits x ≡ true) → fits h.copy ≡ true → fits k.copy ≡ true
seen_fits count room room_most ready reads rests tells dev new h k (Ok Lost) seen err now fits made stays = absurd (no k.alive now seen.is_dead)
seen_fits {C = C} count room room_most ready reads rests tells dev new h k (Ok Unread) seen err now fits made stays = subst (λ (x : C). fits x ≡ true) (sym seen.copy) stays
seen_fits count room room_most ready reads rests tells dev new h k (Ok (Pages pages)) seen err now fits made stays = made k.copy seen.is_ready
seen_fits {C = C} count room room_most ready reads rests tells dev new h k (Err x) seen err now fits made stays = subst (λ (y : Half C). fits y.copy ≡ true) (sym err) stays

-- A copy before any batch reads the kept pages.
module _ (S : Setting) (kept : List ℕ) (coming : Option (List ℕ)) (dev : Dev) (c : Copy) (old : View) (pages : List ℕ) (copy : CopyAt S kept coming dev c old) (before : c.alive ≡ true → c.place ≡ Before)
    (rests_now : (was : List ℕ) (d : Disk) → c.rests was d → S.reads d.bytes ≡ Some was) (reads : c.alive ≡ true → S.reads (disk_now old dev).bytes ≡ Some pages) where
  pub kept_read : c.alive ≡ true → kept ≡ pages
  kept_read is = some_is kept pages (sym (rests_now kept (disk_now old dev) (rests_before S kept coming c dev old copy before is)) ∙ reads is)

-- a copy of which nothing but a page was read stands where it stood
pub more_at : (S : Setting) (was : List ℕ) (coming : Option (List ℕ)) (c : Copy) (d e : Disk) → ((pages : List ℕ) (d e : Disk) → NoMore d e → c.rests pages d → c.rests pages e) → ((was next : List ℕ) (d e : Disk) → NoMore d e → c.holds was next d → c.holds was next e)
    → NoMore d e → (p : Place) → IsAt S c was coming p d → IsAt S c was coming p e
more_at S was coming c d e rests holds more Before s = rests was d e more s
more_at S was coming c d e rests holds more Unsure s = λ image is. s image (no_more_image d e image more is)
more_at S was (Some p) c d e rests holds more Put s = holds was p d e more s
more_at S was (Some p) c d e rests holds more Opened s = rests p d e more s
more_at S was None c d e rests holds more _ s = absurd s

pub stands_of : (S : Setting) (js : List Batch) (c : Option Batch) (reached : ℕ) (copies : Dev → Copy) (v : View) → Keeps S js c reached copies v → (pages : List ℕ) → ((copies Ckpt1).alive || (copies Ckpt2).alive) ≡ true
    → ((d : Dev) → IsCkpt d → (copies d).alive ≡ true → (copies d).place ≡ Before) → ((d : Dev) (was : List ℕ) (x : Disk) → (copies d).rests was x → S.reads x.bytes ≡ Some was)
    → ((d : Dev) → IsCkpt d → (copies d).alive ≡ true → S.reads (disk_now v d).bytes ≡ Some pages) → S.stand (S.run S.base (kept_all js)) pages
stands_of S js c reached copies v keeps pages some before now reads =
    subst (λ (l : List ℕ). S.stand (S.run S.base (kept_all js)) l) (some_of (λ d. (copies d).alive) some
    (λ d ckpt is. kept_read S keeps.pages.was keeps.pages.coming d (copies d) v pages (keeps.at d ckpt) (before d ckpt) (now d) (reads d ckpt) is)) keeps.pages.stands.queue

-- What a look at a copy tells.

module _ (S : Setting) (was : List ℕ) (coming : Option (List ℕ)) where
  module _ (c : Copy) (d : Disk) (laws : Reads S.reads c) (reads : ReadsOne S was coming d) (done : Result Look LookNo) (seen : (pages : List Page) → done ≡ Ok (Pages pages) → (d.lost ≡ false) × c.rests (bytes_of pages) d)
      (reached : ℕ) (K F : List Entry) (stands : Stands S reached K was) (comes : IsNext S reached K F coming) (found : IsPlaceSeen done reached c.place) where
    -- pages seen are the kept ones, or those in flight, which have the next level
    by_level : (pages : List Page) → done ≡ Ok (Pages pages) → ((c.place ≡ Before) × (bytes_of pages ≡ was)) ⊎ ((c.place ≡ Opened) × (coming ≡ Some (bytes_of pages)))
    by_level pages is =
        let image = image_now d (seen pages is).0 in
        let one = subst (λ (q : Option (List ℕ)). IsOneOf was coming q) (laws.rest (bytes_of pages) d (seen pages is).1 d.bytes image) (reads d.bytes image) in
        let f : IsAtLevel (level (bytes_of pages)) reached c.place = subst (λ (x : Result Look LookNo). IsPlaceSeen x reached c.place) is found in
        ⊎_elim
        (λ b. inl (b.0, ⊎_elim (λ e. e) (λ e. let n : Stands S (reached + 1) (K ++ F) (bytes_of pages) = subst (λ (n : Option (List ℕ)). IsNext S reached K F n) e comes in absurd (omega (arith, b.1, n.at_level))) one))
        (λ o. inr (o.0, ⊎_elim (λ e. absurd (o.1 (ap level e ∙ stands.at_level))) (λ e. e) one))
        f

    pub look_at : IsAt S c was coming c.place d
    look_at = by_done done refl found where
      by_done : (r : Result Look LookNo) → done ≡ r → IsPlaceSeen r reached c.place → IsAt S c was coming c.place d
      by_done (Ok (Pages pages)) is f = ⊎_elim
          (λ b. at_place S was coming c Before c.place d (sym b.0) (subst (λ (l : List ℕ). c.rests l d) b.1 (seen pages is).1))
          (λ o. at_place S was coming c Opened c.place d (sym o.0) (subst (λ (n : Option (List ℕ)). OnComing n (λ p. c.rests p d)) (sym o.1) (seen pages is).1))
          (by_level pages is)
      by_done _ is f = at_place S was coming c Unsure c.place d (sym f) reads

    pub look_next : (pages : List Page) → done ≡ Ok (Pages pages) → c.place ≡ Opened → coming ≡ Some (bytes_of pages)
    look_next pages is opened = ⊎_elim (λ b. absurd (before_opened c.place b.0 opened)) (λ o. o.1) (by_level pages is)

-- pages in flight have the next level and stand for the queue with the batch, which has an entry
pub look_stands : (S : Setting) (js : List Batch) (c : Option Batch) (reached : ℕ) (copies : Dev → Copy) (v : View) → (keeps : Keeps S js c reached copies v) → (pages : List ℕ) → keeps.pages.coming ≡ Some pages
    → Stands S (reached + 1) (kept_all js ++ entries_in c) pages × (1 ≤ length (entries_in c))
look_stands S js c reached copies v keeps pages same =
    (subst (λ (n : Option (List ℕ)). IsNext S reached (kept_all js) (entries_in c) n) same keeps.pages.comes, some (entries_in c) (λ e. let none : None ≡ Some pages = sym (keeps.pages.none e) ∙ same in absurd (cc none))) where
      some : (es : List Entry) → (es ≡ [] → ⊥) → 1 ≤ length es
      some [] not = absurd (not refl)
      some (e ∷ es) not = omega arith

-- What a look at a copy gave, once its pages were counted: over a plant that tells, they are always as many as the
-- configuration has.

abbrev IsSized : Page → Type 0
IsSized page = length page.0 ≡ page_bytes

module _ {C : Type 0} (count room : C → ℕ) (room_most : ℕ) (ready : C → View → Type 0) (reads : List ℕ → Option (List ℕ)) (rests : C → List ℕ → Disk → Type 0) (tells : Type 0) (dev : Dev) (v : View) (was is : C) (alive : Bool) (many : ℕ) where
  abbrev Seen : Look → Type 0
  Seen look = WasSeen count room room_most ready reads rests tells dev v was is alive look

  -- a copy that isn't used counts as alive, and its device isn't lost
  pub unused_there : (look : Look) → IsUsed many look Unread → Seen look → (alive ≡ true) × (v.lost (DiskPart dev) ≡ false)
  unused_there Lost used seen = ⊎_elim (λ e. absurd (cc e)) (λ e. absurd (cc e.1)) used
  unused_there _ used seen = (seen.is_alive, seen.there)

  -- where content is told it reads as none, or as another number of pages, which the kept pages and those in flight don't
  pub never_unused : ((pages : List ℕ) (d : Disk) → rests is pages d → reads d.bytes ≡ Some pages) → tells → (look : Look) → IsUsed many look Unread → IfPages look (All IsSized) → Seen look → (kept : List ℕ) (coming : Option (List ℕ)) → IsOneOf kept coming (reads (disk_now v dev).bytes)
      → ((pages : List Page) → All IsSized pages → IsOneOf kept coming (Some (bytes_of pages)) → length pages ≡ many) → ⊥
  never_unused now told look (inl e) sized seen kept coming one so = subst (IsOneOf kept coming) ((subst Seen e seen).none told).now one
  never_unused now told look (inr other) sized seen kept coming one so = other.2 (so other.0 (subst (λ l. IfPages l (All IsSized)) other.1 sized) (subst (IsOneOf kept coming) (now (bytes_of other.0) (disk_now v dev) ((subst Seen other.1 seen).found told)) one))

-- HOW MANY PAGES STAND FOR A QUEUE

bytes_many : (pages : List Page) → All IsSized pages → length (bytes_of pages) ≡ page_bytes * length pages
bytes_many [] sized = refl
bytes_many (page ∷ pages) sized =
    let here : length page.0 ≡ page_bytes = All-head IsSized page pages sized in
    let rest : length (bytes_of pages) ≡ page_bytes * length pages = bytes_many pages (All-tail IsSized page pages sized) in
    length-append page.0 (bytes_of pages) ∙ omega (arith, here, rest)

stand_many : (base : Queue) (es : List Entry) (pages : List Page) → All IsSized pages → StandFor (run base es) (bytes_of pages) → length pages ≡ page_count base.config
stand_many base es pages sized stand =
    let one = bytes_many pages sized in
    let two = bytes_many stand.pages stand.sized in
    let same : length (bytes_of stand.pages) ≡ length (bytes_of pages) = ap length stand.joined in
    let as_many : length pages ≡ length stand.pages = omega (arith, one, two, same) in
    as_many ∙ stand.tell.spell.count ∙ ap page_count (sym stand.tell.tell.config ∙ (runs_keep_configuration base es).config)

-- the kept pages and those in flight are as many as the configuration has
pub one_many : (base : Queue) (K F : List Entry) (was : List ℕ) (coming : Option (List ℕ)) (Q : List ℕ → Type 0) → StandFor (run base K) was → IfSome coming Q → ((l : List ℕ) → Q l → StandFor (run base (K ++ F)) l)
    → (pages : List Page) → All IsSized pages → IsOneOf was coming (Some (bytes_of pages)) → length pages ≡ page_count base.config
one_many base K F was coming Q stands comes so pages sized one = of_one (λ l. bytes_of pages ≡ l → length pages ≡ page_count base.config) Q was coming (bytes_of pages)
    (λ e. stand_many base K pages sized (subst (λ l. StandFor (run base K) l) (sym e) stands)) comes (λ l q e. stand_many base (K ++ F) pages sized (subst (λ l. StandFor (run base (K ++ F)) l) (sym e) (so l q))) one refl

-- WHAT TWO LOOKS GAVE

pub seen_alive : (tells : Type 0) (it : Sought) (copy : Looked) (pages : Option (List Page)) → IsOneSeen tells it copy pages → IsSome pages → copy.alive ≡ true
seen_alive tells it copy None seen some = absurd (true≢false (sym some))
seen_alive tells it copy (Some pages) seen some = seen.is_alive

-- the pages found are some that were seen
pub found_many : (many : ℕ) (one two : Option (List Page)) (found : List Page) → IfSome one (λ pages. length pages ≡ many) → IfSome two (λ pages. length pages ≡ many) → IsGreater one two found → length found ≡ many
found_many many None None found a b is = absurd is
found_many many (Some one) None found a b is = ap length is ∙ a
found_many many None (Some two) found a b is = ap length is ∙ b
found_many many (Some one) (Some two) found a b is = ap length is ∙ of_if (λ (l : List Page). length l ≡ many) (nat_lt (level (bytes_of one)) (level (bytes_of two))) two one (λ _. b) (λ _. a)
