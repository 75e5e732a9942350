-- The gate of a slot is opened or closed.
use Rattle.std.proofs.Common.{◌≡◌, inl, inr, ⊎_elim, ℕ, ◌+◌, ◌*◌, ◌≤◌, ◌<◌, ◌==◌, Bool, true, false, List, [], ◌∷◌, length, slice_index_or, if◌then◌else◌, refl, sym, ◌∙◌, ap, subst, arith}
use Rattle.std.proofs.lemmas.Bool.Decides.{nat_tests}
use Rattle.mas_types.specs.Limits.{page_bytes}
use Rattle.mas_types.specs.declared.ids.Dev.{Dev}
use Rattle.spool_plant.specs.View.{View, Disk, Apart, Avoids, disk_now, slice}
use Rattle.ckpt_copy.specs.declared.layout.TheConstants.{GATE_OPEN}
use Rattle.ckpt_copy.specs.Has.{Has}
use Rattle.ckpt_copy.specs.Changes.{Spreads, IsPut}
use Rattle.ckpt_copy.specs.Meanwhile.{Meanwhile}
use Rattle.ckpt_copy.specs.Moments.{either_way, meanwhile_weaker, meanwhile_end}
use Rattle.ckpt_copy.specs.Pages.{page_in}
use Rattle.ckpt_copy.specs.Reading.{AllRead, EachReads}
use Rattle.ckpt_copy.specs.Slices.{stretch, has_spreads}
use Rattle.ckpt_copy.specs.Heads.{is_open}
use Rattle.change_log.specs.Logs.{reads, slots, gate_of, home_block, image_block, place, laid}
use Rattle.change_log.specs.LogStates.{Lists, SlotStands, Logged, Stands, AreHome, Turning, lists_any, with_list}
use Rattle.change_log.specs.LogImages.{ArePlaced, turning_kept, opening_reads, closing_reads, placed_without, turned_shut, turned_open, byte_at}
use Rattle.change_log.specs.LogRests.{Closing}
use Rattle.change_log.specs.Placing.{place_past, place_opened, place_same, laid_within, with_other}

apart_next : (s j : ℕ) → (j == s) ≡ false → s ≤ j → s < j
apart_next s j ne le = grind (arith, nat_tests, ne, le)

gate_apart : (s j : ℕ) → (j == s) ≡ false → Apart (stretch (gate_of s) 1) (stretch (gate_of j) 1)
gate_apart s j ne = ⊎_elim (λ le. let lt = apart_next s j ne le in inl (omega (arith, lt))) (λ lt. inr (omega (arith, lt))) (either_way s j)

-- a page stands after block 0
place_some : (n p : ℕ) (lists : ℕ → List ℕ) (k : ℕ) → 1 ≤ place n p lists k
place_some n p lists k = ⊎_elim (λ e. omega (arith, e)) (λ lt. omega (arith, lt)) (place_past n p lists k)

-- the gate of slot s is written
module _ (n s : ℕ) (old new : Disk) (inside : s < slots) (spreads : Spreads (gate_of s) 1 old new) where
  pub turning_spreads : (numbers : List ℕ) (lists : ℕ → List ℕ) → Turning n s numbers lists old → Turning n s numbers lists new
  turning_spreads numbers lists turning =
      turning_kept old new spreads.differs.size (λ at len. Apart (stretch (gate_of s) 1) (stretch at len)) (λ at len bytes apart has. has_spreads at len (gate_of s) 1 bytes old new has spreads apart)
      n s numbers lists (inr (omega arith)) (λ j lt ne. gate_apart s j ne) (λ j. inl (omega (arith, inside))) turning

  pub block_spreads : (b : ℕ) (bytes : List ℕ) → 1 ≤ b → Has (page_bytes * b) page_bytes bytes old → Has (page_bytes * b) page_bytes bytes new
  block_spreads b bytes some has = has_spreads (page_bytes * b) page_bytes (gate_of s) 1 bytes old new has spreads (inl (omega (arith, inside, some)))

  pub placed_spreads : (lists : ℕ → List ℕ) (pages : List ℕ) → ArePlaced n lists pages old → ArePlaced n lists pages new
  placed_spreads lists pages here p lt = block_spreads (place n p lists slots) (page_in p pages) (place_some n p lists slots) (here p lt)

  pub home_spreads : (pages : List ℕ) → AreHome n pages old → AreHome n pages new
  home_spreads pages home p lt = block_spreads (home_block p) (page_in p pages) (omega arith) (home p lt)

-- an open slot, as its gate is closed
pub turning_from : (n s : ℕ) (numbers : List ℕ) (lists : ℕ → List ℕ) (disk : Disk) → Logged n lists disk → s < slots → lists s ≡ numbers → lists_any numbers ≡ true → Turning n s numbers lists disk
turning_from n s [] lists disk logged inside is any = absurd (cc)
turning_from n s (x ∷ numbers) lists disk logged inside is any =
    let here : Lists n s (x ∷ numbers) disk = subst (λ (l : List ℕ). SlotStands n s l disk) is (logged.slot s inside) in
    record {
      ready = logged.ready;
      head = logged.head;
      others = λ j lt ne. logged.slot j lt;
      bytes = here.bytes;
      has = here.has;
      spelled = here.spelled;
      listed = here.listed;
    }

-- the gate of the lowest open slot is closed, the home pages being those that are read
module _ (dev : Dev) (n s : ℕ) (numbers : List ℕ) (lists : ℕ → List ℕ) (pages : List ℕ) (old new : View) (inside : s < slots) (any : lists_any numbers ≡ true)
    (is : lists s ≡ numbers) (below : (j : ℕ) → j < s → lists j ≡ []) (stands : Stands n lists pages (disk_now old dev)) (home : AreHome n pages (disk_now old dev))
    (so : Meanwhile dev (Spreads (gate_of s) 1 (disk_now old dev)) old new) where
  turning : Turning n s numbers lists (disk_now old dev)
  turning = turning_from n s numbers lists (disk_now old dev) stands.logged inside is any

  pub closing : Meanwhile dev (AllRead reads pages) old new
  closing =
      meanwhile_weaker dev (Spreads (gate_of s) 1 (disk_now old dev)) (AllRead reads pages) old new so
      (λ d spreads. closing_reads n s numbers lists pages d inside any (turning_spreads n s (disk_now old dev) d inside spreads numbers lists turning) is below stands.size
      (placed_spreads n s (disk_now old dev) d inside spreads lists pages stands.here) (home_spreads n s (disk_now old dev) d inside spreads pages home))

  pub closed_home : AreHome n pages (disk_now new dev)
  closed_home = home_spreads n s (disk_now old dev) (disk_now new dev) inside (meanwhile_end dev (Spreads (gate_of s) 1 (disk_now old dev)) old new so) pages home

  pub closed_stands : IsPut (gate_of s) 1 (0 ∷ []) (disk_now new dev) → Stands n (with_list s [] lists) pages (disk_now new dev)
  closed_stands put =
      let spreads = meanwhile_end dev (Spreads (gate_of s) 1 (disk_now old dev)) old new so in
      let turned = turning_spreads n s (disk_now old dev) (disk_now new dev) inside spreads numbers lists turning in
      let here = placed_spreads n s (disk_now old dev) (disk_now new dev) inside spreads lists pages stands.here in
      record {
        logged = turned_shut n s numbers lists (disk_now new dev) inside turned
            (λ at len bytes there. record { there = there; sure = subst (λ u. Avoids u (stretch at len)) (sym put.synced) tt })
            (gate_closed (disk_now new dev) put.there);
        size = stands.size;
        here = placed_without n s numbers lists pages (disk_now new dev) inside any turned is below stands.size here closed_home;
      }
    where
      gate_closed : (d : Disk) → slice (gate_of s) 1 d.bytes ≡ 0 ∷ [] → is_open (gate_of s) d.bytes ≡ false
      gate_closed d there = ap (λ (b : ℕ). b == GATE_OPEN) (byte_at (gate_of s) 0 d.bytes there)

-- the gate of the slot after all open ones is opened before the pages that wait
module _ (dev : Dev) (n s : ℕ) (numbers : List ℕ) (lists : ℕ → List ℕ) (was next : List ℕ) (old new : View) (inside : s < slots) (any : lists_any numbers ≡ true)
    (above : (j : ℕ) → s ≤ j → lists j ≡ []) (turning : Turning n s numbers lists (disk_now old dev))
    (was_size : length was ≡ page_bytes * n) (next_size : length next ≡ page_bytes * n) (here : ArePlaced n lists was (disk_now old dev))
    (there : (p : ℕ) → p < n → Has (page_bytes * laid (image_block n s 0) p numbers (place n p lists slots)) page_bytes (page_in p next) (disk_now old dev))
    (so : Meanwhile dev (Spreads (gate_of s) 1 (disk_now old dev)) old new) where
  next_some : (p : ℕ) → 1 ≤ laid (image_block n s 0) p numbers (place n p lists slots)
  next_some p = let low = place_some n p lists slots in ⊎_elim (λ e. omega (arith, e, low)) (λ w. let lo = w.0 in omega (arith, lo)) (laid_within (image_block n s 0) p numbers (place n p lists slots))

  pub opening : Meanwhile dev (EachReads reads was next) old new
  opening =
      meanwhile_weaker dev (Spreads (gate_of s) 1 (disk_now old dev)) (EachReads reads was next) old new so
      (λ d spreads. opening_reads n s numbers lists was next d inside any (turning_spreads n s (disk_now old dev) d inside spreads numbers lists turning) above was_size next_size
      (placed_spreads n s (disk_now old dev) d inside spreads lists was here)
      (λ p lt. block_spreads n s (disk_now old dev) d inside spreads (laid (image_block n s 0) p numbers (place n p lists slots)) (page_in p next) (next_some p) (there p lt)))

  pub opened_stands : IsPut (gate_of s) 1 (GATE_OPEN ∷ []) (disk_now new dev) → Stands n (with_list s numbers lists) next (disk_now new dev)
  opened_stands put =
      let d = disk_now new dev in
      let spreads = meanwhile_end dev (Spreads (gate_of s) 1 (disk_now old dev)) old new so in
      let turned = turning_spreads n s (disk_now old dev) d inside spreads numbers lists turning in
      record {
        logged = turned_open n s numbers lists d inside turned
            (λ at len bytes is. record { there = is; sure = subst (λ u. Avoids u (stretch at len)) (sym put.synced) tt })
            any (ap (λ (b : ℕ). b == GATE_OPEN) (byte_at (gate_of s) GATE_OPEN d.bytes put.there));
        size = next_size;
        here = λ p lt. subst (λ (b : ℕ). Has (page_bytes * b) page_bytes (page_in p next) d) (sym (place_opened n p s numbers lists slots inside above))
            (block_spreads n s (disk_now old dev) d inside spreads (laid (image_block n s 0) p numbers (place n p lists slots)) (page_in p next) (next_some p) (there p lt));
      }

-- what stands by the lists of some slots stands by equal lists
pub stands_same : (n : ℕ) (f g : ℕ → List ℕ) (pages : List ℕ) (disk : Disk) → ((s : ℕ) → s < slots → f s ≡ g s) → Stands n f pages disk → Stands n g pages disk
stands_same n f g pages disk same stands = record {
  logged = record {
    ready = stands.logged.ready;
    head = stands.logged.head;
    slot = λ s lt. subst (λ (l : List ℕ). SlotStands n s l disk) (same s lt) (stands.logged.slot s lt);
  };
  size = stands.size;
  here = λ p lt. subst (λ (b : ℕ). Has (page_bytes * b) page_bytes (page_in p pages) disk) (place_same n p f g slots same) (stands.here p lt);
}

lists_none : (l : List ℕ) → lists_any l ≡ false → l ≡ []
lists_none [] none = refl
lists_none (x ∷ l) none = absurd (cc)

-- a slot whose gate is closed is passed over
pub closing_past : (n : ℕ) (gates : List Bool) (i : ℕ) (pages : List ℕ) (disk : Disk) → i < slots → slice_index_or gates i false ≡ false → Closing n gates i pages disk → Closing n gates (i + 1) pages disk
closing_past n gates i pages disk inside shut closing = record {
  lists = closing.lists;
  below = λ j lt. ⊎_elim (λ le. let e : i ≡ j = omega (arith, le, lt) in subst (λ (m : ℕ). closing.lists m ≡ []) e (lists_none (closing.lists i) (sym (closing.open_as i (omega arith)) ∙ shut))) (λ less. closing.below j less) (either_way i j);
  open_as = λ j le. closing.open_as j (omega (arith, le));
  stands = closing.stands;
  home = closing.home;
}

-- while a slot whose gate is open is closed
pub closing_during : (dev : Dev) (n : ℕ) (gates : List Bool) (i : ℕ) (pages : List ℕ) (old new : View) → i < slots → slice_index_or gates i false ≡ true
    → Meanwhile dev (Spreads (gate_of i) 1 (disk_now old dev)) old new → Closing n gates i pages (disk_now old dev) → Meanwhile dev (AllRead reads pages) old new
closing_during dev n gates i pages old new inside shut so now =
    closing dev n i (now.lists i) now.lists pages old new inside (sym (now.open_as i (omega arith)) ∙ shut) refl now.below now.stands now.home so

-- a slot whose gate was open is closed
pub closing_on : (dev : Dev) (n : ℕ) (gates : List Bool) (i : ℕ) (pages : List ℕ) (old new : View) → i < slots → slice_index_or gates i false ≡ true
    → Meanwhile dev (Spreads (gate_of i) 1 (disk_now old dev)) old new → IsPut (gate_of i) 1 (0 ∷ []) (disk_now new dev)
    → Closing n gates i pages (disk_now old dev) → Closing n gates (i + 1) pages (disk_now new dev)
closing_on dev n gates i pages old new inside shut so put now = record {
  lists = with_list i [] now.lists;
  below = λ j lt. closed_below j (j == i) refl lt;
  open_as = λ j le. now.open_as j (omega (arith, le)) ∙ ap lists_any (sym (with_other i [] now.lists j (later j le)));
  stands = closed_stands dev n i (now.lists i) now.lists pages old new inside any refl now.below now.stands now.home so put;
  home = closed_home dev n i (now.lists i) now.lists pages old new inside any refl now.below now.stands now.home so;
} where
  any : lists_any (now.lists i) ≡ true
  any = sym (now.open_as i (omega arith)) ∙ shut

  later : (j : ℕ) → i + 1 ≤ j → (j == i) ≡ false
  later j le = grind (arith, nat_tests, le)

  closed_below : (j : ℕ) → (b : Bool) → (j == i) ≡ b → j < i + 1 → with_list i [] now.lists j ≡ []
  closed_below j true is lt = ap (λ (b : Bool). if b then [] else now.lists j) is
  closed_below j false is lt = let less : j < i = grind (arith, nat_tests, is, lt) in with_other i [] now.lists j is ∙ now.below j less

-- once all gates were closed no slot lists a page
pub closing_done : (n : ℕ) (gates : List Bool) (pages : List ℕ) (disk : Disk) → Closing n gates slots pages disk → Stands n (λ s. []) pages disk
closing_done n gates pages disk closing = stands_same n closing.lists (λ s. []) pages disk closing.below closing.stands
