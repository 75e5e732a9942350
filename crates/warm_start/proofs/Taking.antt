-- What a takeover leaves, by what the shared value's own calls leave.
use Rattle.std.proofs.Common.{◌≡◌, ◌∙◌, ℕ, true, List, Option, Some, refl, sym, subst}
use Rattle.std.specs.Coded.{Coded-set, coded_list, coded_option, coded_ℕ}
use Rattle.std.proofs.Math.Logic.{∥∥₁_elim}
use Rattle.mas_types.specs.declared.ids.Dev.{Dev}
use Rattle.mas_types.specs.declared.ids.Page.{Page}
use Rattle.mas_types.specs.declared.queues.Queue.{Queue}
use Rattle.lock_cycle.specs.Books.{Book}
use Rattle.spool_plant.specs.declared.plant.Plant.{Ghosts as PlantGhosts}
use Rattle.spool_plant.specs.View.{Disk, View, disk_now}
use Rattle.ckpt_copy.specs.declared.copying.Copying.{Ghosts as CopyGhosts}
use Rattle.ckpt_copy.specs.Reading.{AllRead}
use Rattle.ckpt_places.specs.declared.places.Place.TheVariants.{Before}
use Rattle.duplex_pair.specs.Halves.{IsCkpt}
use Rattle.mas_complex.specs.Crash.{Copy}
use Rattle.mas_complex.specs.Kept.{HaveKept}
use Rattle.mas_complex.specs.Parts.{Parts}
use Rattle.warm_start.specs.Takeover.{HasFound}

-- THE COPIES

-- A device's own bytes are an image of it, if it has one: so where each image reads alike, each reads as the bytes do.
same_images : (reads : List ℕ → Option (List ℕ)) (was pages : List ℕ) (disk : Disk) → AllRead reads was disk → reads disk.bytes ≡ Some pages → AllRead reads pages disk
same_images reads was pages disk all now image is =
    all image is ∙ (sym (all disk.bytes (record { there = is.there; size = refl; synced = λ s avoids. refl })) ∙ now)

-- a copy at rest reads in each image what it reads now
pub at_images : (reads : List ℕ → Option (List ℕ)) (Q : Queue) (reached : ℕ) (copies : Dev → Copy) (v : View) → ∥ HaveKept Q reached copies v ∥₁ → (pages : List ℕ) (d : Dev) → IsCkpt d → ((was : List ℕ) → (copies d).rests was (disk_now v d) → AllRead reads was (disk_now v d))
    → (copies d).alive ≡ true → (copies d).place ≡ Before → reads (disk_now v d).bytes ≡ Some pages → AllRead reads pages (disk_now v d)
at_images reads Q reached copies v kept pages d ckpt rest alive before now image is =
    ∥∥₁_elim kept (Coded-set (coded_option (coded_list coded_ℕ)) _ _)
    (λ k. same_images reads k.was pages (disk_now v d) (rest k.was (k.at d ckpt alive before)) now image is)

-- WHAT WAS FOUND, once the lock was seized, was so before
module _ {P C : Type 0} (plants : PlantGhosts P) (copies : CopyGhosts C) where
  pub found_seized : (x s y : Parts P C) (book : Book) (pages : List Page) → s ≡ record x { book = book } → HasFound plants copies s y pages → HasFound plants copies x y pages
  found_seized x s y book pages is h =
      let w : HasFound plants copies (record x { book = book }) y pages = subst (λ (z : Parts P C). HasFound plants copies z y pages) is h in
      record { some = w.some; many = w.many; near = w.near; low = w.low; first = w.first; second = w.second; stands = w.stands; picked = w.picked; left1 = w.left1; left2 = w.left2 }
