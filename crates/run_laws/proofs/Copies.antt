-- The pages that a start finds on copies that a crash left.
use Rattle.std.proofs.Common.{◌≡◌, ◌⊎◌, inl, inr, ⊎_elim, ℕ, ◌+◌, ◌≤◌, ◌<◌, ◌==◌, ◌&&◌, ◌++◌, Bool, true, false, List, Option, Some, None, refl, sym, ◌∙◌, ap, subst, arith}
use Rattle.std.proofs.lemmas.Option.{same_Some as some_is}
use Rattle.std.specs.Prelude.{IfSome}
use Rattle.std.proofs.lemmas.Bool.{eqb-true}
use Rattle.mas_types.specs.declared.ids.Dev.{Dev}
use Rattle.mas_types.specs.declared.ids.Dev.TheVariants.{Ckpt1, Ckpt2}
use Rattle.mas_types.specs.declared.ids.Page.{Page}
use Rattle.mas_types.specs.declared.journals.Journal.{Journal}
use Rattle.mas_types.specs.declared.queues.Queue.{Queue}
use Rattle.mas_types.specs.Journal.{kept_at, flying_at}
use Rattle.spool_plant.specs.declared.plant.Part.TheVariants.{Disk as DiskPart}
use Rattle.spool_plant.specs.Acts.{Rose, top}
use Rattle.spool_plant.specs.View.{View, Disk, IsImage, LeavesOnly, disk_at, disk_now}
use Rattle.ckpt_copy.specs.Pages.{bytes_of, level}
use Rattle.ckpt_tables.specs.declared.tables.Tables.{Tables}
use Rattle.ckpt_pages.specs.Checkpoints.{IsCheckpoint, SpellsOneAtMost}
use Rattle.ckpt_pages.proofs.SlotLists.{test_cases}
use Rattle.spool_volumes.specs.Volumes.{bytes_unless}
use Rattle.queue_telling.specs.Telling.{Tell}
use Rattle.mas_complex.specs.Crash.{left_at, lost_if, IsLeft, IsOneOf, IsReadBy, IsStale}
use Rattle.mas_complex.specs.declared.renewals.Renewals.{Renewals}
use Rattle.mas_complex.specs.Renewals.{is_renewed_at, of_device}
use Rattle.mas_complex.specs.Headline.{AreAlike}
use Rattle.mas_complex.specs.Meaning.{StandFor, run}
use Rattle.start_choice.specs.Usable.{AreOf, AreUsable, HaveSize}
use Rattle.warm_start.specs.Starting.{Mark, IsSeen, IsFound}
use Rattle.warm_start.proofs.Seeing.{same_pages}
use Rattle.run_laws.specs.Left.{shown_of, IsLeftBy, CrashesLeave}

-- WHAT IS LEFT

shown_there : (lost : Bool) (bytes : List ℕ) → lost ≡ false → bytes_unless lost bytes ≡ Some bytes
shown_there true bytes is = absurd (cc)
shown_there false bytes is = refl

-- the bytes of a device that isn't lost are an image of what was left
pub image_of : (t : ℕ) (last old : View) (dev : Dev) → IsLeftBy t last old → old.lost (DiskPart dev) ≡ false → IsImage (left_at last t dev) (disk_now old dev).bytes
image_of t last old dev left there = subst (IsLeft (left_at last t dev)) (shown_there (old.lost (DiskPart dev)) (disk_now old dev).bytes there) (left dev)

below_top : (t : ℕ) (lost : Bool) (disk : Disk) → t < top → lost_if ((t == top) && lost) disk ≡ disk
below_top t lost disk lt = by_moment (t == top) refl where
  by_moment : (b : Bool) → (t == top) ≡ b → lost_if (b && lost) disk ≡ disk
  by_moment true e = absurd (omega (arith, lt, eqb-true t top e))
  by_moment false e = refl

shown_image : (lost : Bool) (bytes : List ℕ) (disk : Disk) → lost ≡ disk.lost → (disk.lost ≡ false → IsImage disk bytes) → IsLeft disk (bytes_unless lost bytes)
shown_image true bytes disk same image = sym same
shown_image false bytes disk same image = image (sym same)

pub crashes_leave : CrashesLeave
crashes_leave choice t old new lt crashed dev =
    subst (λ (d : Disk). IsLeft d (shown_of new dev)) (sym (below_top t (old.lost (DiskPart dev)) (disk_at old t dev) lt))
    (shown_image (new.lost (DiskPart dev)) (disk_now new dev).bytes (disk_at old t dev) (crashed.lost dev) (crashed.image dev))

-- WHAT IS FOUND

module _ (reads : List ℕ → Option (List ℕ)) (was : List ℕ) (coming : Option (List ℕ)) (found : List ℕ) where
  one_of : (r : Option (List ℕ)) → IsOneOf was coming r → r ≡ Some found → (found ≡ was) ⊎ (coming ≡ Some found)
  one_of None one is = absurd (cc)
  one_of (Some pages) one is =
      let same : pages ≡ found = some_is pages found is in
      ⊎_elim (λ e. inl (sym same ∙ e)) (λ e. inr (e ∙ ap Some same)) one

  seen_one : (dev : Dev) (t : ℕ) (last old new : View) (mark : Mark) → IsLeftBy t last old → LeavesOnly (left_at last t dev) (λ image. IsOneOf was coming (reads image))
      → (seen : Option (List ℕ)) → IsSeen reads dev old new mark seen → seen ≡ Some found → (found ≡ was) ⊎ (coming ≡ Some found)
  seen_one dev t last old new mark left each None seen is = absurd (cc)
  seen_one dev t last old new mark left each (Some bytes) seen is =
      one_of (reads (disk_now old dev).bytes) (each (disk_now old dev).bytes (image_of t last old dev left seen.0)) (seen.1 ∙ is)

-- what is alike where a copy isn't being replaced, and where it is
module _ (was : List ℕ) (coming : Option (List ℕ)) where
  pub good_one : (reads : List ℕ → Option (List ℕ)) (disk : Disk) (renewed : Bool) → renewed ≡ false → LeavesOnly disk (λ image. IsReadBy renewed was coming (reads image)) → LeavesOnly disk (λ image. IsOneOf was coming (reads image))
  good_one reads disk renewed good each image is = subst (λ (r : Bool). IsReadBy r was coming (reads image)) good (each image is)

  stale_one : (reads : List ℕ → Option (List ℕ)) (disk : Disk) (renewed : Bool) → renewed ≡ true → LeavesOnly disk (λ image. IsReadBy renewed was coming (reads image)) → LeavesOnly disk (λ image. IsStale was (reads image))
  stale_one reads disk renewed stale each image is = subst (λ (r : Bool). IsReadBy r was coming (reads image)) stale (each image is)

none_of : (reads : List ℕ → Option (List ℕ)) (dev : Dev) (old new : View) (mark : Mark) (found : List ℕ) (seen : Option (List ℕ)) → IsSeen reads dev old new mark seen → seen ≡ Some found
    → (old.lost (DiskPart dev) ≡ false) × (reads (disk_now old dev).bytes ≡ Some found)
none_of reads dev old new mark found None seen is = absurd (cc)
none_of reads dev old new mark found (Some bytes) seen is = (seen.0, seen.1 ∙ is)

-- The pages found are the kept ones or those in flight: a copy that was being replaced has older ones only beside a
-- good one, whose pages are of a greater level then
module _ (reads : List ℕ → Option (List ℕ)) (base : Queue) (J : Journal) (rs : Renewals) (t : ℕ) (last old : View) (found : List ℕ) (alike : AreAlike reads base J rs t last) where
  pub stand_by : (found ≡ alike.was) ⊎ (alike.coming ≡ Some found) → StandFor (run base (kept_at J t)) found ⊎ StandFor (run base (kept_at J t ++ flying_at J t)) found
  stand_by which =
      ⊎_elim
      (λ e. inl (subst (StandFor (run base (kept_at J t))) (sym e) alike.stands))
      (λ e.
      let next : (level found ≡ level alike.was + 1) × StandFor (run base (kept_at J t ++ flying_at J t)) found
      = subst (λ (o : Option (List ℕ)). IfSome o (λ pages. (level pages ≡ level alike.was + 1) × StandFor (run base (kept_at J t ++ flying_at J t)) pages)) {y = Some found} e alike.comes in
      inr next.1)
      which

  at_least : (bytes : List ℕ) → (bytes ≡ alike.was) ⊎ (alike.coming ≡ Some bytes) → level alike.was ≤ level bytes
  at_least bytes which =
      ⊎_elim
      (λ e. let same : level bytes ≡ level alike.was = ap level e in omega (arith, same))
      (λ e.
      let next : (level bytes ≡ level alike.was + 1) × StandFor (run base (kept_at J t ++ flying_at J t)) bytes
      = subst (λ (o : Option (List ℕ)). IfSome o (λ pages. (level pages ≡ level alike.was + 1) × StandFor (run base (kept_at J t ++ flying_at J t)) pages)) {y = Some bytes} e alike.comes in
      let more = next.0 in
      omega (arith, more))
      which

  -- the copy on a device was good, no act on it failed, and its pages can be used
  pub record IsBeside (dev : Dev) (new : View) : Type 0 where
    pub good : is_renewed_at (of_device dev rs) t ≡ false
    pub there : old.lost (DiskPart dev) ≡ false
    pub failed : Rose (old.faults (DiskPart dev)) (new.faults (DiskPart dev)) → ⊥
    pub usable : (bytes : List ℕ) → reads (disk_now old dev).bytes ≡ Some bytes → (bytes ≡ alike.was) ⊎ (alike.coming ≡ Some bytes) → AreUsable bytes

  -- so a start that saw it found no older pages beside it
  not_older : (dev : Dev) (new : View) (mark : Mark) → IsLeftBy t last old → LeavesOnly (left_at last t dev) (λ image. IsReadBy (is_renewed_at (of_device dev rs) t) alike.was alike.coming (reads image)) → IsBeside dev new
      → (seen : Option (List ℕ)) → IsSeen reads dev old new mark seen → ((bytes : List ℕ) → seen ≡ Some bytes → AreUsable bytes → level bytes ≤ level found) → level found < level alike.was → ⊥
  not_older dev new mark left each beside seen is most older =
      by_seen seen is most
    where
      read : IsOneOf alike.was alike.coming (reads (disk_now old dev).bytes)
      read = good_one alike.was alike.coming reads (left_at last t dev) (is_renewed_at (of_device dev rs) t) beside.good each (disk_now old dev).bytes (image_of t last old dev left beside.there)

      by_seen : (s : Option (List ℕ)) → IsSeen reads dev old new mark s → ((bytes : List ℕ) → s ≡ Some bytes → AreUsable bytes → level bytes ≤ level found) → ⊥
      by_seen None was le = ⊎_elim (λ gone. beside.failed gone.failed) (λ none. subst (IsOneOf alike.was alike.coming) none read) was
      by_seen (Some bytes) was le =
          let one = one_of reads alike.was alike.coming bytes (reads (disk_now old dev).bytes) read was.1 in
          let least = at_least bytes one in
          let few = le bytes refl (beside.usable bytes was.1 one) in
          absurd (omega (arith, older, least, few))

  -- the pages found on a copy, beside another one
  seen_by : (dev other : Dev) (new : View) (mark : Mark) → IsLeftBy t last old
      → LeavesOnly (left_at last t dev) (λ image. IsReadBy (is_renewed_at (of_device dev rs) t) alike.was alike.coming (reads image))
      → LeavesOnly (left_at last t other) (λ image. IsReadBy (is_renewed_at (of_device other rs) t) alike.was alike.coming (reads image))
      → (is_renewed_at (of_device dev rs) t ≡ true → old.lost (DiskPart dev) ≡ false → IsBeside other new)
      → (seen1 seen2 : Option (List ℕ)) → IsSeen reads dev old new mark seen1 → IsSeen reads other old new mark seen2 → seen1 ≡ Some found → ((bytes : List ℕ) → seen2 ≡ Some bytes → AreUsable bytes → level bytes ≤ level found)
      → (found ≡ alike.was) ⊎ (alike.coming ≡ Some found)
  seen_by dev other new mark left each also beside seen1 seen2 is1 is2 are most =
      test_cases (is_renewed_at (of_device dev rs) t) ((found ≡ alike.was) ⊎ (alike.coming ≡ Some found))
      (λ stale.
      let so = none_of reads dev old new mark found seen1 is1 are in
      let read : IsStale alike.was (Some found) = subst (IsStale alike.was) so.1 (stale_one alike.was alike.coming reads (left_at last t dev) (is_renewed_at (of_device dev rs) t) stale each (disk_now old dev).bytes (image_of t last old dev left so.0)) in
      ⊎_elim (λ same. inl same) (λ older. absurd (not_older other new mark left also (beside stale so.0) seen2 is2 most older)) read)
      (λ good. seen_one reads alike.was alike.coming found dev t last old new mark left (good_one alike.was alike.coming reads (left_at last t dev) (is_renewed_at (of_device dev rs) t) good each) seen1 is1 are)

  pub stands : (new : View) (mark : Mark) → IsLeftBy t last old
      → (is_renewed_at rs.first t ≡ true → old.lost (DiskPart Ckpt1) ≡ false → IsBeside Ckpt2 new) → (is_renewed_at rs.second t ≡ true → old.lost (DiskPart Ckpt2) ≡ false → IsBeside Ckpt1 new)
      → IsFound reads old new mark found → StandFor (run base (kept_at J t)) found ⊎ StandFor (run base (kept_at J t ++ flying_at J t)) found
  stands new mark left beside1 beside2 is =
      stand_by (⊎_elim
      (λ b. seen_by Ckpt1 Ckpt2 new mark left alike.first alike.second beside1 is.one is.two is.seen1 is.seen2 b.0 b.1)
      (λ b. seen_by Ckpt2 Ckpt1 new mark left alike.second alike.first beside2 is.two is.one is.seen2 is.seen1 b.0 (λ bytes e usable. let lt = b.1 bytes e usable in omega (arith, lt)))
      is.best)

-- the tables that pages spell tell the queue for which they stand
pub told_by : SpellsOneAtMost → (Q : Queue) (pages : List Page) (t : Tables) → AreOf pages t → HaveSize pages → StandFor Q (bytes_of pages) → Tell t Q
told_by one Q pages t are sized stand =
    let x = stand.tell in
    let same : stand.pages ≡ pages = same_pages stand.pages pages stand.sized sized stand.joined in
    let theirs : IsCheckpoint stand.pages x.tables = record { level = stand.level; levels = x.levels; fit = x.fit; ages = x.ages; spell = x.spell } in
    let spelled : IsCheckpoint pages x.tables = subst (λ (ps : List Page). IsCheckpoint ps x.tables) same theirs in
    subst (λ (u : Tables). Tell u Q) (one pages x.tables t spelled are.0) x.tell
