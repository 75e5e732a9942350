-- What stands of the copies once those that are left were brought to the pages found.
use Rattle.std.proofs.Common.{◌≡◌, ◌⊎◌, ℕ, Bool, true, false, List, Option}
use Rattle.mas_types.specs.declared.ids.Dev.{Dev}
use Rattle.mas_types.specs.declared.ids.Dev.TheVariants.{Ckpt1, Ckpt2}
use Rattle.mas_types.specs.declared.ids.Page.{Page}
use Rattle.spool_plant.specs.View.{View, Disk, disk_now}
use Rattle.spool_plant.specs.Acts.{Goes}
use Rattle.ckpt_copy.specs.Pages.{bytes_of}
use Rattle.duplex_pair.specs.Halves.{IsGone}
use Rattle.start_choice.specs.declared.choosing.Start.{Start}
use Rattle.start_choice.specs.Choosing.{goes}
use Rattle.warm_start.specs.Starting.{Chosen, HasGone, IsFound, IsUnfit, Starts, mark_of}
use Rattle.warm_start.proofs.Begun.{found_later, gone_brought, kept}

pub record Brought (reads : List ℕ → Option (List ℕ)) (room_in : List ℕ → ℕ) (old new : View) (pages : List Page) : Type 0 where
  pub found : IsFound reads old new (mark_of new) (bytes_of pages)
  pub kept1 : (new.loses Ckpt1 ≡ old.loses Ckpt1) ⊎ IsUnfit reads Ckpt1 old new (mark_of new) (room_in (disk_now old Ckpt1).bytes) pages
  pub kept2 : (new.loses Ckpt2 ≡ old.loses Ckpt2) ⊎ IsUnfit reads Ckpt2 old new (mark_of new) (room_in (disk_now old Ckpt2).bytes) pages

module _ {C : Type 0} (count room : C → ℕ) (room_most : ℕ) (room_in : List ℕ → ℕ) (ready : C → View → Type 0) (reads : List ℕ → Option (List ℕ)) (rests : C → List ℕ → Disk → Type 0) (tells : Type 0)
    (old mid new : View) (first second : C) (a a' b b' : Bool) (at1 at2 : ℕ) (start : Start) where
  pub brought : Chosen count room room_most room_in ready reads rests tells old mid first second a b at1 at2 start → Starts a b old mid → Starts a' b' old new → Goes mid new → ((d : Dev) → mid.loses d ≡ old.loses d)
      → (a ≡ false → new.loses Ckpt1 ≡ mid.loses Ckpt1) → (b ≡ false → new.loses Ckpt2 ≡ mid.loses Ckpt2)
      → (goes Ckpt1 start ≡ false → new.loses Ckpt1 ≡ mid.loses Ckpt1) → (goes Ckpt2 start ≡ false → new.loses Ckpt2 ≡ mid.loses Ckpt2)
      → tells → IsGone Ckpt1 true a' new → IsGone Ckpt2 true b' new → Brought reads room_in old new start.found.pages
  brought chosen was starts later looked dead1 dead2 stays1 stays2 told out1 out2 = record {
    found = found_later reads old mid new (mark_of mid) (mark_of new) (bytes_of start.found.pages) gone1 gone2 (chosen.found told);
    kept1 = kept reads (room_in (disk_now old Ckpt1).bytes) Ckpt1 old mid new start.found.pages (goes Ckpt1 start) gone1 (looked Ckpt1) stays1 (chosen.unfit1 told);
    kept2 = kept reads (room_in (disk_now old Ckpt2).bytes) Ckpt2 old mid new start.found.pages (goes Ckpt2 start) gone2 (looked Ckpt2) stays2 (chosen.unfit2 told);
  } where
    gone1 : HasGone Ckpt1 old mid (mark_of mid) → HasGone Ckpt1 old new (mark_of new)
    gone1 = gone_brought Ckpt1 old mid new a a' later was.there1 starts.there1 dead1 out1

    gone2 : HasGone Ckpt2 old mid (mark_of mid) → HasGone Ckpt2 old new (mark_of new)
    gone2 = gone_brought Ckpt2 old mid new b b' later was.there2 starts.there2 dead2 out2
