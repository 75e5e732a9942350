-- A start that found its pages.
use Rattle.std.proofs.Common.{◌≡◌, ◌⊎◌, inl, inr, ⊎_elim, ℕ, ◌<◌, ◌≤◌, ◌&&◌, not, Bool, true, false, List, Option, Some, None, refl, ◌∙◌, ap, arith}
use Rattle.mas_types.specs.declared.ids.Dev.{Dev}
use Rattle.mas_types.specs.declared.ids.Dev.TheVariants.{Ckpt1, Ckpt2, Spool}
use Rattle.mas_types.specs.declared.ids.Page.{Page}
use Rattle.mas_types.specs.declared.queues.Queue.{Queue}
use Rattle.spool_plant.specs.declared.plant.Part.TheVariants.{Disk as DiskPart}
use Rattle.spool_plant.specs.View.{View, World, disk_now}
use Rattle.spool_plant.specs.Acts.{Goes, top}
use Rattle.ckpt_copy.specs.Pages.{bytes_of}
use Rattle.ckpt_tables.specs.declared.tables.Tables.{Tables}
use Rattle.ckpt_pages.specs.Checkpoints.{IsCheckpoint}
use Rattle.duplex_pair.specs.declared.errors.PairNo.{PairNo}
use Rattle.duplex_pair.specs.declared.errors.PairNo.TheVariants.{BothLost, Halted}
use Rattle.duplex_pair.specs.Halves.{IsBothLost, IsGone}
use Rattle.ckpt_pages.specs.Sound.{AreSound}
use Rattle.queue_telling.specs.Telling.{Tell}
use Rattle.queue_tables.proofs.OrderLemmas.{sound_orders}
use Rattle.mas_complex.specs.Meaning.{StandFor}
use Rattle.start_choice.specs.declared.choosing.Start.{Start}
use Rattle.start_choice.specs.Choosing.{are_beside, goes}
use Rattle.warm_start.specs.Starting.{Mark, mark_of, HasGone, IsSeen, IsFound, IsUnfit, IsOneCalled}
use Rattle.start_choice.specs.Usable.{HaveSize}

-- the pages stand for a queue that their tables tell, which have no fault
pub stand_of : (base : Queue) (pages : List Page) (t : Tables) → HaveSize pages → IsCheckpoint pages t → AreSound t → Tell t base → StandFor base (bytes_of pages)
stand_of base pages t sized is sound told = record {
  pages = pages;
  level = is.level;
  sized = sized;
  joined = refl;
  tell = record { tables = t; levels = is.levels; fit = is.fit; ages = is.ages; spell = is.spell; orders = sound_orders t sound; tell = told };
}

-- what was seen still was, where a copy that had gone has gone
seen_later : (reads : List ℕ → Option (List ℕ)) (dev : Dev) (old mid new : View) (mark mark' : Mark) → (HasGone dev old mid mark → HasGone dev old new mark') → (seen : Option (List ℕ)) → IsSeen reads dev old mid mark seen → IsSeen reads dev old new mark' seen
seen_later reads dev old mid new mark mark' gone None seen = ⊎_elim (λ x. inl (gone x)) inr seen
seen_later reads dev old mid new mark mark' gone (Some bytes) seen = seen

-- what was found still is
pub found_later : (reads : List ℕ → Option (List ℕ)) (old mid new : View) (mark mark' : Mark) (found : List ℕ) → (HasGone Ckpt1 old mid mark → HasGone Ckpt1 old new mark') → (HasGone Ckpt2 old mid mark → HasGone Ckpt2 old new mark')
    → IsFound reads old mid mark found → IsFound reads old new mark' found
found_later reads old mid new mark mark' found gone1 gone2 x = record {
  one = x.one;
  two = x.two;
  seen1 = seen_later reads Ckpt1 old mid new mark mark' gone1 x.one x.seen1;
  seen2 = seen_later reads Ckpt2 old mid new mark mark' gone2 x.two x.seen2;
  usable = x.usable;
  best = x.best;
}

-- what may not stay still may not
pub unfit_later : (reads : List ℕ → Option (List ℕ)) (dev : Dev) (old mid new : View) (mark mark' : Mark) (room : ℕ) (found : List Page) → (HasGone dev old mid mark → HasGone dev old new mark') → IsUnfit reads dev old mid mark room found → IsUnfit reads dev old new mark' room found
unfit_later reads dev old mid new mark mark' room found gone x = record { seen = x.seen; is = seen_later reads dev old mid new mark mark' gone x.seen x.is; unfit = x.unfit }

-- a copy had gone when a start ended, and so it had at any later time
pub gone_later : (dev : Dev) (old mid new : View) (mark : Mark) → mark.at ≤ mid.now → Goes mid new → HasGone dev old mid mark → HasGone dev old new mark
gone_later dev old mid new mark before goes x = record {
  failed = omega (arith, x.failed, goes.faults (DiskPart dev));
  is_lost = goes.lost (DiskPart dev) x.is_lost;
  uncalled = x.uncalled;
  gone = λ lt. ap (λ (w : World). (w.disk dev).lost) (goes.past mark.at before) ∙ x.gone lt;
}

-- a copy that had gone has gone at the end of a later call in which no call lost it
pub gone_on_to : (dev : Dev) (old mid new : View) → Goes mid new → new.loses dev ≡ mid.loses dev → (new.now < top → (disk_now new dev).lost ≡ true) → HasGone dev old mid (mark_of mid) → HasGone dev old new (mark_of new)
gone_on_to dev old mid new goes same gone x = record {
  failed = omega (arith, x.failed, goes.faults (DiskPart dev));
  is_lost = goes.lost (DiskPart dev) x.is_lost;
  uncalled = same ∙ x.uncalled;
  gone = gone;
}

-- a copy that counted as lost isn't lost by a call in a start
pub gone_brought : (dev : Dev) (old mid new : View) (a a' : Bool) → Goes mid new → (a ≡ true → mid.lost (DiskPart dev) ≡ false) → (a' ≡ true → new.lost (DiskPart dev) ≡ false) → (a ≡ false → new.loses dev ≡ mid.loses dev) → IsGone dev true a' new
    → HasGone dev old mid (mark_of mid) → HasGone dev old new (mark_of new)
gone_brought dev old mid new a a' goes there there' same gone x = gone_on_to dev old mid new goes (same (dead a there x.is_lost)) (gone refl (dead a' there' (goes.lost (DiskPart dev) x.is_lost))) x where
  dead : {l : Bool} (b : Bool) → (b ≡ true → l ≡ false) → l ≡ true → b ≡ false
  dead true f e = let g = f refl in absurd (cc)
  dead false f e = refl

-- a copy that doesn't go isn't lost by a call, and one that goes may not stay
pub kept : (reads : List ℕ → Option (List ℕ)) (room : ℕ) (dev : Dev) (old mid new : View) (found : List Page) (to_go : Bool) → (HasGone dev old mid (mark_of mid) → HasGone dev old new (mark_of new)) → mid.loses dev ≡ old.loses dev → (to_go ≡ false → new.loses dev ≡ mid.loses dev)
    → (to_go ≡ true → IsUnfit reads dev old mid (mark_of mid) room found) → (new.loses dev ≡ old.loses dev) ⊎ IsUnfit reads dev old new (mark_of new) room found
kept reads room dev old mid new found true gone looked stays unfit = inr (unfit_later reads dev old mid new (mark_of mid) (mark_of new) room found gone (unfit refl))
kept reads room dev old mid new found false gone looked stays unfit = inl (stays refl ∙ looked)

-- one of the copies stays, and it isn't lost by a call
pub one_called : (old mid new : View) (start : Start) → ((d : Dev) → mid.loses d ≡ old.loses d) → (goes Ckpt1 start ≡ false → new.loses Ckpt1 ≡ mid.loses Ckpt1) → (goes Ckpt2 start ≡ false → new.loses Ckpt2 ≡ mid.loses Ckpt2) → IsOneCalled old new
one_called old mid new start looked kept1 kept2 = by_dev start.dev refl where
  by_dev : (d : Dev) → start.dev ≡ d → IsOneCalled old new
  by_dev Ckpt1 e = inl (kept1 (ap (λ (d : Dev). are_beside Ckpt1 d && not start.stays) e) ∙ looked Ckpt1)
  by_dev Ckpt2 e = inr (kept2 (ap (λ (d : Dev). are_beside Ckpt2 d && not start.stays) e) ∙ looked Ckpt2)
  by_dev (Spool n) e = inl (kept1 (ap (λ (d : Dev). are_beside Ckpt1 d && not start.stays) e) ∙ looked Ckpt1)

-- where the operator's call isn't done both copies were lost, since nobody is stopped: what follows from that holds
pub by_loss : (F : Type 0) (why : PairNo) → (why ≡ BothLost → F) → (why ≡ Halted → ⊥) → F
by_loss F BothLost lost halts = lost refl
by_loss F Halted lost halts = absurd (halts refl)

pub lost_both : (no : PairNo) (a b : Bool) → (no ≡ BothLost → IsBothLost a b) → (no ≡ Halted → ⊥) → IsBothLost a b
lost_both BothLost a b both halts = both refl
lost_both Halted a b both halts = absurd (halts refl)
