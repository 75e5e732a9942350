-- The home pages are written, and the slots are closed.
use Rattle.std.proofs.Common.{◌≡◌, inl, inr, ⊎_elim, ℕ, ◌+◌, ◌*◌, ◌<◌, Bool, List, [], slice_index, sym, ◌∙◌, ap, subst, arith}
use Rattle.mas_types.specs.Limits.{page_bytes}
use Rattle.mas_types.specs.declared.ids.Dev.{Dev}
use Rattle.spool_plant.specs.View.{View, Disk, Apart, Avoids, disk_now}
use Rattle.ckpt_copy.specs.Changes.{Spreads, NoMore}
use Rattle.ckpt_copy.specs.Meanwhile.{Meanwhile}
use Rattle.ckpt_copy.specs.Moments.{either_way, meanwhile_then, meanwhile_weaker, meanwhile_end}
use Rattle.ckpt_copy.specs.Pages.{page_in}
use Rattle.ckpt_copy.specs.Reading.{AllRead}
use Rattle.ckpt_copy.specs.Slices.{stretch}
use Rattle.ckpt_copy.proofs.Calm.{calm_first}
use Rattle.change_log.specs.Logs.{reads, slots, home_block, place, block}
use Rattle.change_log.specs.LogStates.{AreHome}
use Rattle.change_log.specs.LogRests.{Rests, Closing, AreWritten}
use Rattle.change_log.specs.LogStaying.{rests_all, log_rests_stays}
use Rattle.change_log.specs.Placing.{place_past}
use Rattle.change_log.proofs.Filling.{stands_spreads}

-- a home page is written that isn't where its page stands: each page stays where it is
module _ (n i : ℕ) (inside : i < n) (places : List ℕ) (moved : slice_index places i ≡ 1 + i → ⊥) where
  places_apart : (lists : ℕ → List ℕ) → ((p : ℕ) → p < n → slice_index places p ≡ place n p lists slots) → (p : ℕ) → p < n
      → Apart (stretch (page_bytes * (1 + i)) page_bytes) (stretch (page_bytes * place n p lists slots) page_bytes)
  places_apart lists stand p lt = ⊎_elim
      (λ home. ⊎_elim
      (λ le. ⊎_elim (λ ge. absurd (let same : i ≡ p = omega (arith, le, ge) in moved (stand i inside ∙ ap (λ (q : ℕ). place n q lists slots) same ∙ home ∙ ap (λ (q : ℕ). 1 + q) (sym same))))
      (λ less. inl (omega (arith, home, less))) (either_way p i))
      (λ less. inr (omega (arith, home, less)))
      (either_way i p))
      (λ past. inl (omega (arith, past, inside)))
      (place_past n p lists slots)

  pub rests_home : (gates : List Bool) (pages : List ℕ) (old new : Disk) → Spreads (page_bytes * (1 + i)) page_bytes old new → Rests n gates places pages old → Rests n gates places pages new
  rests_home gates pages old new spreads rests = record {
    lists = rests.lists;
    open_as = rests.open_as;
    stand_as = rests.stand_as;
    stands = stands_spreads n rests.lists pages old new (page_bytes * (1 + i)) page_bytes rests.stands spreads (omega arith)
        (λ s lt any. inl (omega (arith, inside))) (places_apart rests.lists rests.stand_as);
  }

pub homes_on : (dev : Dev) (n i : ℕ) (gates : List Bool) (places pages : List ℕ) (at len : ℕ) (old mid new : View) → i < n → (slice_index places i ≡ 1 + i → ⊥) → at ≡ page_bytes * (1 + i) → len ≡ page_bytes
    → Meanwhile dev (Rests n gates places pages) old mid → Meanwhile dev (Spreads at len (disk_now mid dev)) mid new → Meanwhile dev (Rests n gates places pages) old new
homes_on dev n i gates places pages at len old mid new inside moved place size so write =
    meanwhile_then dev (Rests n gates places pages) old mid new so
    (meanwhile_weaker dev (Spreads at len (disk_now mid dev)) (Rests n gates places pages) mid new write
    (λ d spreads. rests_home n i inside places moved gates pages (disk_now mid dev) d
    (subst (λ (m : ℕ). Spreads m page_bytes (disk_now mid dev) d) place (subst (λ (k : ℕ). Spreads at k (disk_now mid dev) d) size spreads))
    (meanwhile_end dev (Rests n gates places pages) old mid so)))

-- a page that stands at home
pub home_already : (n i : ℕ) (gates : List Bool) (places pages : List ℕ) (disk : Disk) → i < n → slice_index places i ≡ 1 + i → Rests n gates places pages disk → block (1 + i) disk.bytes ≡ page_in i pages
home_already n i gates places pages disk inside home rests =
    ap (λ (b : ℕ). block b disk.bytes) (sym home ∙ rests.stand_as i inside) ∙ (rests.stands.here i inside).there

-- where page i and the pages before it are written at home, the first i + 1 are
pub homes_more : (i : ℕ) (pages bytes : List ℕ) → block (1 + i) bytes ≡ page_in i pages → AreWritten i pages bytes → AreWritten (i + 1) pages bytes
homes_more i pages bytes here before p lt = ⊎_elim
    (λ le. let e : i ≡ p = omega (arith, le, lt) in subst (λ (q : ℕ). block (1 + q) bytes ≡ page_in q pages) e here) (λ less. before p less) (either_way i p)

-- the home pages are written
pub homes_read : (dev : Dev) (n : ℕ) (gates : List Bool) (places pages : List ℕ) (old homes : View) → Meanwhile dev (Rests n gates places pages) old homes → Meanwhile dev (AllRead reads pages) old homes
homes_read dev n gates places pages old homes so = meanwhile_weaker dev (Rests n gates places pages) (AllRead reads pages) old homes so (rests_all n gates places pages)

-- the home pages are written, and then synced
module _ (dev : Dev) (n : ℕ) (gates : List Bool) (places pages : List ℕ) (old homes synced : View)
    (so : Meanwhile dev (Rests n gates places pages) old homes) (sync : Meanwhile dev (Spreads 0 0 (disk_now homes dev)) homes synced) where
  rests_homes : Meanwhile dev (Rests n gates places pages) homes synced
  rests_homes =
      meanwhile_weaker dev (NoMore (disk_now homes dev)) (Rests n gates places pages) homes synced (calm_first dev homes synced sync)
      (λ d stays. log_rests_stays (disk_now homes dev) d stays n gates places pages (meanwhile_end dev (Rests n gates places pages) old homes so))

  pub rests_synced : Rests n gates places pages (disk_now synced dev)
  rests_synced = meanwhile_end dev (Rests n gates places pages) homes synced rests_homes

  pub synced_read : Meanwhile dev (AllRead reads pages) old synced
  synced_read =
      meanwhile_then dev (AllRead reads pages) old homes synced (homes_read dev n gates places pages old homes so)
      (meanwhile_weaker dev (Rests n gates places pages) (AllRead reads pages) homes synced rests_homes (rests_all n gates places pages))

  pub home_synced : AreWritten n pages (disk_now homes dev).bytes → (disk_now synced dev).unsynced ≡ [] → (disk_now synced dev).bytes ≡ (disk_now homes dev).bytes
      → AreHome n pages (disk_now synced dev)
  home_synced written clean same p lt = record {
    there = ap (λ (l : List ℕ). block (home_block p) l) same ∙ written p lt;
    sure = subst (λ u. Avoids u (stretch (page_bytes * home_block p) page_bytes)) (sym clean) tt;
  }

-- the copy before the first slot is closed
pub closing_first : (n : ℕ) (gates : List Bool) (places pages : List ℕ) (disk : Disk) → Rests n gates places pages disk → AreHome n pages disk → Closing n gates 0 pages disk
closing_first n gates places pages disk rests home = record {
  lists = rests.lists;
  below = λ j lt. absurd (omega (arith, lt));
  open_as = λ j le. rests.open_as j;
  stands = rests.stands;
  home = home;
}
