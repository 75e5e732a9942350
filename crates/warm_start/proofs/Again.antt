-- What a look found is found again.
use Rattle.std.proofs.Common.{◌≡◌, ⊎_elim, ℕ, List, Option, Some, None, sym, ◌∙◌, ap, subst, arith}
use Rattle.std.proofs.lemmas.Option.{same_Some as some_is}
use Rattle.mas_types.specs.declared.ids.Dev.{Dev}
use Rattle.mas_types.specs.declared.ids.Dev.TheVariants.{Ckpt1, Ckpt2}
use Rattle.mas_types.specs.declared.ids.Page.{Page}
use Rattle.spool_plant.specs.declared.plant.Part.TheVariants.{Disk as DiskPart}
use Rattle.spool_plant.specs.View.{View, disk_now}
use Rattle.spool_plant.specs.Acts.{Rose}
use Rattle.ckpt_copy.specs.Changes.{NoMore}
use Rattle.ckpt_copy.specs.Pages.{bytes_of}
use Rattle.ckpt_pages.specs.Checkpoints.{IsCheckpoint, SpellsOneAtMost}
use Rattle.start_choice.specs.Usable.{AreUsable}
use Rattle.warm_start.specs.Starting.{IsSeen, IsBest, mark_of}
use Rattle.warm_start.specs.Inspecting.{AreFoundAgain}
use Rattle.warm_start.proofs.Seeing.{same_pages}
use Rattle.warm_start.proofs.Starts.{first_now, second_now}

-- where no act failed, what was seen of a copy is what its bytes read as
seen_is : (reads : List ℕ → Option (List ℕ)) (dev : Dev) (old new : View) → (Rose (old.faults (DiskPart dev)) (new.faults (DiskPart dev)) → ⊥) → (seen : Option (List ℕ)) → IsSeen reads dev old new (mark_of new) seen → seen ≡ reads (disk_now old dev).bytes
seen_is reads dev old new none None seen = ⊎_elim (λ r. absurd (none r.failed)) (λ e. sym e) seen
seen_is reads dev old new none (Some bytes) seen = sym seen.1

-- of what two copies read as one list of pages counts at most
best_one : (one two : Option (List ℕ)) (f g : List ℕ) → AreUsable f → AreUsable g → IsBest one two f → IsBest one two g → g ≡ f
best_one one two f g uf ug bf bg =
    ⊎_elim
    (λ x. ⊎_elim (λ y. some_is g f (sym y.0 ∙ x.0)) (λ y. absurd (omega (arith, x.1 g y.0 ug, y.1 f x.0 uf))) bg)
    (λ x. ⊎_elim (λ y. absurd (omega (arith, x.1 g y.0 ug, y.1 f x.0 uf))) (λ y. some_is g f (sym y.0 ∙ x.0)) bg)
    bf

pub found_again : SpellsOneAtMost → AreFoundAgain
found_again spells reads old mid new pages later t u looked none none' x y sized sized' are are' =
    let bytes1 : reads (disk_now mid Ckpt1).bytes ≡ reads (disk_now old Ckpt1).bytes = ap reads (first_now (NoMore (disk_now old Ckpt1)) (NoMore (disk_now old Ckpt2)) old mid looked).bytes in
    let bytes2 : reads (disk_now mid Ckpt2).bytes ≡ reads (disk_now old Ckpt2).bytes = ap reads (second_now (NoMore (disk_now old Ckpt1)) (NoMore (disk_now old Ckpt2)) old mid looked).bytes in
    let one : y.one ≡ x.one = seen_is reads Ckpt1 mid new none'.0 y.one y.seen1 ∙ bytes1 ∙ sym (seen_is reads Ckpt1 old mid none.0 x.one x.seen1) in
    let two : y.two ≡ x.two = seen_is reads Ckpt2 mid new none'.1 y.two y.seen2 ∙ bytes2 ∙ sym (seen_is reads Ckpt2 old mid none.1 x.two x.seen2) in
    let best : IsBest x.one x.two (bytes_of later) = subst (λ (a : Option (List ℕ)). IsBest a x.two (bytes_of later)) one (subst (λ (b : Option (List ℕ)). IsBest y.one b (bytes_of later)) two y.best) in
    let same : later ≡ pages = same_pages later pages sized' sized (best_one x.one x.two (bytes_of pages) (bytes_of later) x.usable y.usable x.best best) in
    (same, spells pages u t (subst (λ (ps : List Page). IsCheckpoint ps u) same are'.0) are.0)
