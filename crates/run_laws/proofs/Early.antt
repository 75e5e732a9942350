-- What is found of copies that a warm start held.
use Rattle.std.proofs.Common.{◌≡◌, ◌⊎◌, inl, inr, ⊎_elim, ℕ, ◌==◌, ◌&&◌, Bool, true, false, List, Option, Some, None, refl, sym, ◌∙◌}
use Rattle.std.proofs.lemmas.Option.{same_Some as some_is}
use Rattle.mas_types.specs.declared.ids.Dev.{Dev}
use Rattle.mas_types.specs.declared.ids.Dev.TheVariants.{Ckpt1, Ckpt2}
use Rattle.spool_plant.specs.declared.plant.Part.TheVariants.{Disk as DiskPart}
use Rattle.spool_plant.specs.Acts.{top}
use Rattle.spool_plant.specs.View.{View, Disk, IsImage, disk_at, disk_now}
use Rattle.ckpt_form.specs.Form.{form_reads}
use Rattle.ckpt_copy.specs.Pages.{bytes_of}
use Rattle.mas_complex.specs.Crash.{lost_if}
use Rattle.warm_start.specs.Starting.{IsHeld, IsSeen, Mark}
use Rattle.run_opening.specs.Runs.{begins_at}
use Rattle.run_laws.specs.Left.{IsLeftBy}
use Rattle.run_laws.specs.Early.{FindsWhatWasThere, GivesPages}
use Rattle.run_laws.proofs.Copies.{image_of}

image_there : (b : Bool) (d : Disk) (i : List ℕ) → IsImage (lost_if b d) i → IsImage d i
image_there true d i im = let e : true ≡ false = im.there in absurd (cc)
image_there false d i im = im

-- the pages that are read of a copy that was held
held_one : (dev : Dev) (t : ℕ) (pages found : List ℕ) (first last old new : View) (mark : Mark) → IsHeld form_reads (disk_now first dev) pages (disk_at last t dev) → IsLeftBy t last old
    → (seen : Option (List ℕ)) → IsSeen form_reads dev old new mark seen → seen ≡ Some found → (found ≡ pages) ⊎ GivesPages dev first found
held_one dev t pages found first last old new mark held left None seen is = absurd (cc)
held_one dev t pages found first last old new mark held left (Some bytes) seen is =
    let left_bytes = (disk_now old dev).bytes in
    let read : form_reads left_bytes ≡ Some found = seen.1 ∙ is in
    let image : IsImage (disk_at last t dev) left_bytes = image_there ((t == top) && last.lost (DiskPart dev)) (disk_at last t dev) left_bytes (image_of t last old dev left seen.0) in
    ⊎_elim (λ was. inr (record { image = left_bytes; from = inr was; read = read }))
    (λ reads_so. ⊎_elim
    (λ (as_was : form_reads left_bytes ≡ form_reads (disk_now first dev).bytes). inr (record { image = (disk_now first dev).bytes; from = inl refl; read = sym as_was ∙ read }))
    (λ (as_found : form_reads left_bytes ≡ Some pages). inl (some_is found pages (sym read ∙ as_found)))
    reads_so)
    (held left_bytes image)

pub early : (next_tells : Type 0) → FindsWhatWasThere next_tells
early next_tells told since from t pages lost found first last old new held ge le left next =
    let is = next.found told in
    ⊎_elim
    (λ b. ⊎_elim inl (λ g. inr (inl g)) (held_one Ckpt1 t pages (bytes_of next.pages) first last old new (begins_at from lost) (held.first t ge le) left is.one is.seen1 b.0))
    (λ b. ⊎_elim inl (λ g. inr (inr g)) (held_one Ckpt2 t pages (bytes_of next.pages) first last old new (begins_at from lost) (held.second t ge le) left is.two is.seen2 b.0))
    is.best
