-- A shared value as lemmas take it, and what an act leaves of it that changes neither copy.
use Rattle.mas_complex.proofs.Names.{◌≡◌, ◌≢◌, ◌≤◌, ◌<◌, ◌++◌, ◌∙◌, ℕ, List, [], Some, IsSome, true, false, length, ap, arith, subst, sym, ◌⊎◌, ∥∥₁_elim, ∥∥₁_map, ∥∥₁_map₂, ∥∥₁_prop, All, Flying, IsUntold, Closes, has_step, said, printed_after, setting, IsSound, Dev, Spool, Batch, is_stopped, Disk as DiskPart, PlantGhosts, ViewDisk as Disk, View, disk_at, disk_now, Goes, OnDevice, SamePaper, next, Ghosts as CopyGhosts, NoMore, SteadyGhosts, page_count, Pair, Place, Complex, Copy, Keeps, ReadsBy, Setting, copy_of, setting_with, AreFew, AreSettled, HasPlace, IsBegun, entries_in, entries_most, entries_reserved, in_flight, journal_most, kept_all, Parts, KeepsPaper, SamePapers, HavePasts, sight_of, values_of, is_open, AreReplied, le_refl, Book, Entry, None, Option, inl, inr, parts_of, refl, IsCkpt, pick, Half, is_away, Sight, of_device, Ckpt1, Ckpt2, AreAllowed, past_batches, AreGivenIn, counts_of, HaveReplies, HasTexts, lost_now, spools_at, run, Bool, Before, Acted, other, CopyAt, Elsewhere, Versions, ⊎_elim, is_flying, Dropped, Kept, Unsure, with_last, ◌∷◌, MemberId, Arms, GroupNo, Page, page_bytes, Act, AreItsOwn, volume_of, start_of, IsHeldBy, device_of, is_within, page_start, page_part, with_flying, World as PlantWorld, ReadsGroup, WritesGroup, Renewals, AreLater, AreNotedBefore, IsAt, IsOneOf, Put, Opened, append-nil, AreReady, pages_least, pages_most}
use Rattle.mas_complex.proofs.Books.{Booked, IsOwned, owned_none, settled_without_last}
use Rattle.mas_complex.proofs.Pasts.{image_now}
use Rattle.mas_complex.proofs.Basics.{parts_with, passes_of, volume_beside, beside, of_beside, of_each, no, stays_true, Passes, still_none}
use Rattle.mas_complex.proofs.Batches.{begun_later, settled_later, past_given, past_kept, short_left, few_with_last, few_last, fated_past, settled_push, replied_both, replied_front, replied_rest}
use Rattle.mas_complex.proofs.Moves.{Adds, acts_keep, adds_none, begins_keep, each_tells}
use Rattle.mas_complex.proofs.Papers.{given_append, given_flight, same_papers, begins_on_paper, fated_on_paper, passes_on_paper}
use Rattle.mas_complex.proofs.Pasts.{image_now}
use Rattle.mas_complex.proofs.Present.{Reads, copy_reads, coming_of, of_one, sent}
use Rattle.mas_complex.proofs.Sides.{moved, Went, rests_before, calm, copies_went, held_at, untouched}
use Rattle.mas_complex.proofs.Spooled.{Stays, stays_same, Quiet, texts_quiet, texts_written, each_quiet, read_quiet}
use Rattle.mas_complex.proofs.Counted.{elsewhere_calm, pair_lost}
use borrow.Fn.World
use denote.RattleType
use mir.Syntax
use Rattle.ckpt_copy.specs.contracts.copying.Copying.TheBound as CopyBound
use Rattle.ckpt_form.specs.contracts.steady.Steady.TheBound as SteadyBound
use Rattle.spool_plant.specs.contracts.plant.Plant.TheBound as PlantBound

-- the laws of a plant and of a copy
pub record Laws {P C : Type 0} (plants : PlantGhosts P) (steadies : SteadyGhosts C) (copies : CopyGhosts C) : Type 0 where
  pub there : (p : P) → plants.tells → (d : Dev) → (plants.view p).lost (DiskPart d) ≡ false → (disk_now (plants.view p) d).lost ≡ false
  pub ready_many : (x : C) (v : View) → copies.ready x v → (pages_least ≤ copies.count x) × (copies.count x ≤ pages_most)
  pub fit_ready : (x : C) (v : View) → steadies.fits x v ≡ true → copies.ready x v
  pub ready_fit : (x : C) (v : View) → copies.ready x v → steadies.fits x v ≡ true
  pub reads : (h : Half C) (p : Place) → Reads copies.reads (copy_of copies.rests copies.holds h p)
  pub rests_now : (x : C) (pages : List ℕ) (d : Disk) → copies.rests x pages d → copies.reads d.bytes ≡ Some pages
  pub rests_stays : (x : C) (pages : List ℕ) (d e : Disk) → NoMore d e → copies.rests x pages d → copies.rests x pages e
  pub holds_rests : (x : C) (was next : List ℕ) (d : Disk) → copies.holds x was next d → copies.rests x was d
  pub holds_behind : (x : C) (was next : List ℕ) (d : Disk) → copies.holds x was next d → copies.behind x d.bytes ≡ next
  pub holds_stays : (x : C) (was next : List ℕ) (d e : Disk) → NoMore d e → copies.holds x was next d → copies.holds x was next e

pub laws_of : (w : World.World) {T U : RattleType.RattleType} {plants : PlantGhosts T.Denot} {one : Syntax.Dict} {steadies : SteadyGhosts U.Denot} {two : Syntax.Dict} {copies : CopyGhosts U.Denot} {three : Syntax.Dict}
    → PlantBound.Met w.𝓛 w.𝓜 w.𝓡 w.𝓡.env T plants one → SteadyBound.Met w.𝓛 w.𝓜 w.𝓡 w.𝓡.env U steadies two copies three → CopyBound.Met w.𝓛 w.𝓜 w.𝓡 w.𝓡.env U copies three → Laws plants steadies copies
laws_of w {U = U} {copies = copies} plant steady copy = assumption (plant, steady, copy, reads) where
  reads : (h : Half U.Denot) (p : Place) → Reads copies.reads (copy_of copies.rests copies.holds h p)
  reads h p = record { rest = λ pages d r. copy.rests_reads h.copy pages d r; hold = λ was next d r. copy.holds_reads h.copy was next d r }

-- ALL THAT THE TYPE SAYS of these parts, where the plant shows this

module _ {P C : Type 0} (plants : PlantGhosts P) (steadies : SteadyGhosts C) (copies : CopyGhosts C) (x : Parts P C) (v : View) where
  abbrev half : Dev → Half C
  half d = pick d (record { copy = x.first_copy; alive = x.first_alive; found = x.first_found }) (record { copy = x.second_copy; alive = x.second_alive; found = x.second_found })

  abbrev pub KeepsOf : Type 0
  KeepsOf = Keeps (setting_with copies.reads x.base x.since x.renewals x.had) (past_batches x.placed x.batches) x.current x.level (λ d. copy_of copies.rests copies.holds (half d) (pick d x.first x.second)) v

  abbrev pub ReadyOf : Type 0
  ReadyOf = (d : Dev) → IsCkpt d → (half d).alive ≡ true → steadies.fits (half d).copy v ≡ true

  abbrev pub LostOf : Type 0
  LostOf = (d : Dev) → IsCkpt d → (half d).alive ≡ false → is_open (of_device d x.renewals) ≡ false → v.lost (DiskPart d) ≡ true

  abbrev pub FactsOf : Type 0
  FactsOf =
      record {
        kept : plants.tells → ∥ KeepsOf ∥₁;
        replied : plants.tells → ∥ AreReplied x.base (past_batches x.placed x.batches ++ in_flight x.current) ∥₁;
        paper : plants.tells → IsSound x.base → ∥ KeepsPaper x.base x.since (past_batches x.placed x.batches) x.current (x.printed, x.book) v ∥₁;
        ready : ReadyOf;
        lost : LostOf;
        one : IsSome x.current → IsSome x.reserved → ⊥;
        place_reserved : IsSome x.reserved → x.placed ≡ true;
        place_current : IsSome x.current → x.placed ≡ true;
        place : ∥ HasPlace x.placed x.batches ∥₁;
        settled : AreSettled x.batches v.now;
        begun : IsBegun x.current v.now;
        owned : (batch : Batch) → x.current ≡ Some batch → batch.by ≢ x.book.holder → is_stopped x.book batch.by ≡ true;
        few : length x.batches ≤ journal_most;
        short : length (entries_in x.current) ≤ entries_most;
        short_reserved : length (entries_reserved x.reserved) ≤ entries_most;
        counted : AreFew x.placed x.batches;
      }

module _ {P C : Type 0} {plants : PlantGhosts P} {steadies : SteadyGhosts C} {copies : CopyGhosts C} (s : Complex P C plants steadies copies) where
  abbrev pub view_of : View
  view_of = plants.view s.plant

  abbrev pub setting_of : Setting
  setting_of = setting_with copies.reads s.base s.since s.renewals (values_of s.had)

  -- the batches that have their fates, and the entries that they keep
  abbrev pub past_of : List Batch
  past_of = past_batches s.placed s.journal.batches

  pub kept_past : kept_all past_of ≡ kept_all s.journal.batches
  kept_past = past_kept s.placed s.journal.batches s.place

  -- the half of the pair on a device, how far the batch in flight has come on it, and the copy at this place
  abbrev pub half_of : Dev → Half C
  half_of d = pick d s.pair.first s.pair.second

  abbrev pub place_of : Dev → Place
  place_of d = pick d s.first s.second

  abbrev pub copies_of : Dev → Copy
  copies_of d = copy_of copies.rests copies.holds (half_of d) (place_of d)

  abbrev pub sight_at : Half C → Place → Dev → View → Sight
  sight_at h p d v = sight_of copies.reads copies.behind h p d v

  -- WITH OTHER COPIES, and where its plant shows another world
  module _ (pair : Pair C copies) (first second : Place) (v : View) where
    -- what a crash leaves, and which copies are ready and which lost
    abbrev pub KeepsOn : Type 0
    KeepsOn = KeepsOf plants steadies copies (parts_with s s.plant pair first second) v

    abbrev pub ReadyOn : Type 0
    ReadyOn = ReadyOf plants steadies copies (parts_with s s.plant pair first second) v

    abbrev pub LostOn : Type 0
    LostOn = LostOf plants steadies copies (parts_with s s.plant pair first second) v

    -- all that its type says
    abbrev pub Facts : Type 0
    Facts = FactsOf plants steadies copies (parts_with s s.plant pair first second) v

    -- those that a call leaves, with other counts of printed lines, another book, what is reserved or nothing, and when copies were replaced
    module _ (printed : List ℕ) (is : Book) (left : Option (List Entry)) (rs : Renewals) where
      abbrev changed : Parts P C
      changed = record (parts_with s s.plant pair first second) { printed = printed; book = is; reserved = left; renewals = rs }

      pub facts_with : view_of.now ≤ v.now → (plants.tells → ∥ KeepsOf plants steadies copies changed v ∥₁) → (plants.tells → IsSound s.base → ∥ KeepsPaper s.base s.since past_of s.current (printed, is) v ∥₁)
          → ReadyOn → LostOf plants steadies copies changed v → IsOwned s.current is → (left ≡ None) ⊎ (left ≡ s.reserved) → FactsOf plants steadies copies changed v
      facts_with later kept paper ready lost owned fewer =
          let one : IsSome s.current → IsSome left → ⊥ = λ some has. s.one some (still fewer has) in
          let place_reserved : IsSome left → s.placed ≡ true = λ has. s.place_reserved (still fewer has) in
          let settled : AreSettled s.journal.batches v.now = settled_later s.journal.batches view_of.now v.now s.settled later in
          let begun : IsBegun s.current v.now = begun_later s.current view_of.now v.now s.begun later in
          let short : length (entries_reserved left) ≤ entries_most = short_left s.reserved left fewer s.short_reserved in
          assumption (one, place_reserved, settled, begun, short, kept, paper, ready, lost, owned, s) where
            still : (left ≡ None) ⊎ (left ≡ s.reserved) → IsSome left → IsSome s.reserved
            still (inl e) has = let none : false ≡ true = subst (λ (r : Option (List Entry)). IsSome r) e has in absurd (cc)
            still (inr e) has = subst (λ (r : Option (List Entry)). IsSome r) e has

    pub facts : view_of.now ≤ v.now → (plants.tells → ∥ KeepsOn ∥₁) → (plants.tells → IsSound s.base → ∥ KeepsPaper s.base s.since past_of s.current (s.printed, s.book) v ∥₁) → ReadyOn → LostOn → Facts
    facts later kept paper ready lost = facts_with s.printed s.book s.reserved s.renewals later kept paper ready lost s.owned (inr refl)

  -- what a crash leaves of it where its plant shows this
  abbrev pub KeepsAt : View → Type 0
  KeepsAt v = KeepsOn s.pair s.first s.second v

  abbrev pub Left : View → Type 0
  Left v = Facts s.pair s.first s.second v

  -- each entry is within the limits, and of a member that may give it
  pub given_of : plants.tells → IsSound s.base → ∥ AreGivenIn s.base (s.journal.batches ++ in_flight s.current) ∥₁
  given_of told sound = ∥∥₁_map₂ (s.paper told sound) s.place (λ on has. given_append s.base s.journal.batches (in_flight s.current) (past_given s.base s.placed s.journal.batches has on.given) (given_flight s.base s.current on.coming_given))

  -- the printers after acts that print nothing, with another book
  pub paper_with : (v : View) (is : Book) → Passes view_of v → (plants.tells → SamePapers view_of v) → ((m : MemberId) → is_stopped is m ≡ false → is_stopped s.book m ≡ false) → plants.tells → IsSound s.base
      → ∥ KeepsPaper s.base s.since past_of s.current (s.printed, is) v ∥₁
  paper_with v is goes same up told sound = ∥∥₁_map₂ (s.kept told) (s.paper told sound) (λ k on. passes_on_paper s.base s.since past_of s.current s.printed s.book view_of v k.started k.settled k.begun goes on is up (same told))

  pub paper_after : (v : View) → Goes view_of v → (plants.tells → SamePapers view_of v) → plants.tells → IsSound s.base → ∥ KeepsPaper s.base s.since past_of s.current (s.printed, s.book) v ∥₁
  paper_after v goes same = paper_with v s.book (passes_of view_of v goes) same (λ m up. up)

  -- both copies are ready, as the pair asks it
  pub ready_of : Laws plants steadies copies → AreReady copies.ready s.pair.first.copy s.pair.second.copy s.pair.first.alive s.pair.second.alive view_of
  ready_of laws = record { first = λ is. laws.fit_ready s.pair.first.copy view_of (s.ready Ckpt1 tt is); second = λ is. laws.fit_ready s.pair.second.copy view_of (s.ready Ckpt2 tt is) }

  -- the copy beside one, where it counts as alive, has as many pages as a copy may have
  pub many_beside : Laws plants steadies copies → (dev : Dev) → IsCkpt dev → (other dev s.pair.first s.pair.second).alive ≡ true → (pages_least ≤ copies.count (other dev s.pair.first s.pair.second).copy) × (copies.count (other dev s.pair.first s.pair.second).copy ≤ pages_most)
  many_beside laws dev ckpt is = let h = (other dev s.pair.first s.pair.second).copy in
      laws.ready_many h view_of (laws.fit_ready h view_of (of_beside (λ d k p. k.alive ≡ true → steadies.fits k.copy view_of ≡ true) dev ckpt s.pair.first s.pair.second s.first s.second s.ready is))

  -- what each copy reads that counts as alive is later than what members noted, and so is what waits behind its gate
  pub pasts_of : Laws plants steadies copies → plants.tells → KeepsAt view_of → HavePasts (page_count s.base.config) (values_of s.had) (λ d. sight_at (half_of d) (place_of d) d view_of)
  pasts_of laws told k d ckpt = record {
    reads = λ is sure pages read. later_of (k.later d ckpt is) pages (subst (λ (q : Option (List ℕ)). IsOneOf k.pages.was k.pages.coming q) read (bytes_at (place_of d) sure ((k.at d ckpt).at is)));
    waits = λ is put. let w = held_at setting_of k.pages.was k.pages.coming (copies_of d) d view_of (k.at d ckpt) is put in
        subst (λ (l : List ℕ). AreLater (page_count s.base.config) (values_of s.had) l) (sym (laws.holds_behind (half_of d).copy k.pages.was (sent k.pages.coming) (disk_now view_of d) w.1)) (later_of (k.later d ckpt is) (sent k.pages.coming) (inr w.0));
  } where
    later_of : AreNotedBefore setting_of k.pages.was k.pages.coming → (pages : List ℕ) → IsOneOf k.pages.was k.pages.coming (Some pages) → AreLater (page_count s.base.config) (values_of s.had) pages
    later_of later pages = of_one (AreLater (page_count s.base.config) (values_of s.had)) (AreLater (page_count s.base.config) (values_of s.had)) k.pages.was k.pages.coming pages later.0 later.1 (λ p is. is)

    bytes_at : (p : Place) → (p ≡ Unsure → view_of.lost (DiskPart d) ≡ false) → IsAt setting_of (copies_of d) k.pages.was k.pages.coming p (disk_now view_of d) → IsOneOf k.pages.was k.pages.coming (copies.reads (disk_now view_of d).bytes)
    bytes_at Before sure side = rw (laws.rests_now (half_of d).copy k.pages.was (disk_now view_of d) side) (inl refl)
    bytes_at Put sure side = let w = coming_of k.pages.coming _ side in rw (laws.rests_now (half_of d).copy k.pages.was (disk_now view_of d) (laws.holds_rests (half_of d).copy k.pages.was (sent k.pages.coming) (disk_now view_of d) w.1)) (inl refl)
    bytes_at Opened sure side = let w = coming_of k.pages.coming _ side in rw (laws.rests_now (half_of d).copy (sent k.pages.coming) (disk_now view_of d) w.1) (inr w.0)
    bytes_at Unsure sure side = side (disk_now view_of d).bytes (image_now (disk_now view_of d) (laws.there s.plant told d (sure refl)))

  -- ANOTHER BOOK, and what is reserved or nothing
  pub booked : (is : Book) {after : Book} (left : Option (List Entry)) → is ≡ after → Booked s.current s.book after → (left ≡ None) ⊎ (left ≡ s.reserved) → FactsOf plants steadies copies (record (parts_of s) { book = is; reserved = left }) view_of
  booked is {after} left same book fewer = subst (λ (x : Book). FactsOf plants steadies copies (record (parts_of s) { book = x; reserved = left }) view_of) (sym same)
      (facts_with s.pair s.first s.second view_of s.printed after left s.renewals (le_refl view_of.now) s.kept (paper_with view_of after (record { later = le_refl view_of.now; past = λ t le. refl; stops = λ m. le_refl (view_of.stops m); volumes = λ n lost. lost }) (λ told t from le m. still_none (λ w. w.paper m) view_of t from le) book.up) s.ready s.lost book.owned fewer)

  -- ANOTHER PLACE at the end of the journal, or none, where the batches that have their fates are the same
  pub placed_as : (js : List Batch) (placed : Bool) → past_batches placed js ≡ past_of → (IsSome s.current → placed ≡ true) → (IsSome s.reserved → placed ≡ true) → ∥ HasPlace placed js ∥₁ → AreSettled js view_of.now → length js ≤ journal_most → AreFew placed js
      → FactsOf plants steadies copies (record (parts_of s) { batches = js; placed = placed }) view_of
  placed_as js placed same current reserved place settled few counted =
      let kept : plants.tells → ∥ Keeps setting_of (past_batches placed js) s.current s.level copies_of view_of ∥₁ = subst (λ (l : List Batch). plants.tells → ∥ Keeps setting_of l s.current s.level copies_of view_of ∥₁) (sym same) s.kept in
      let replied : plants.tells → ∥ AreReplied s.base (past_batches placed js ++ in_flight s.current) ∥₁ = subst (λ (l : List Batch). plants.tells → ∥ AreReplied s.base (l ++ in_flight s.current) ∥₁) (sym same) s.replied in
      let paper : plants.tells → IsSound s.base → ∥ KeepsPaper s.base s.since (past_batches placed js) s.current (s.printed, s.book) view_of ∥₁
      = subst (λ (l : List Batch). plants.tells → IsSound s.base → ∥ KeepsPaper s.base s.since l s.current (s.printed, s.book) view_of ∥₁) (sym same) s.paper in
      assumption (kept, replied, paper, current, reserved, place, settled, few, counted, s)

  module _ (v : View) where
    -- what an act leaves that goes elsewhere than to the copies
    pub record Beside : Type 0 where
      pub disks : (d : Dev) → IsCkpt d → disk_now v d ≡ disk_now view_of d
      pub adds : Adds setting_of (past_of ++ in_flight s.current) view_of v
      pub stays : Stays setting_of (kept_all past_of) (entries_in s.current) view_of v

module _ {P C : Type 0} {plants : PlantGhosts P} {steadies : SteadyGhosts C} {copies : CopyGhosts C} (s : Complex P C plants steadies copies) (new : View) (time : new.now ≡ next (plants.view s.plant).now) where
  pub at_end : (t : ℕ) → (view_of s).now < t → t ≤ new.now → t ≡ new.now
  at_end t lt le = omega (arith, time)

  -- an act that leaves each device as it is
  pub beside_devices : ((d : Dev) → disk_now new d ≡ disk_now (view_of s) d) → Adds (setting_of s) (past_of s ++ in_flight s.current) (view_of s) new → Beside s new
  beside_devices disks adds = record {
    disks = λ d ckpt. disks d;
    adds = adds;
    stays = stays_same (setting_of s) (kept_all (past_of s)) (entries_in s.current) (view_of s) new (λ t lt le n. subst (λ (m : ℕ). disk_at new m (Spool n) ≡ disk_now (view_of s) (Spool n)) (sym (at_end t lt le)) (disks (Spool n)));
  }

  -- one that says nothing either
  pub beside_all : ((d : Dev) → disk_now new d ≡ disk_now (view_of s) d) → (new.world new.now).console ≡ ((view_of s).world (view_of s).now).console → Beside s new
  beside_all disks console = beside_devices disks (adds_none (setting_of s) (past_of s ++ in_flight s.current) (view_of s) new time console)

  -- one on a spool volume
  pub beside_copies : (volume : ℕ) → OnDevice (Spool volume) (view_of s) new → Stays (setting_of s) (kept_all (past_of s)) (entries_in s.current) (view_of s) new → Beside s new
  beside_copies volume only stays = record {
    disks = λ d ckpt. only.others d (λ e. volume_beside volume d ckpt (sym e));
    adds = adds_none (setting_of s) (past_of s ++ in_flight s.current) (view_of s) new time only.console;
    stays = stays;
  }

  module _ (laws : Laws plants steadies copies) (goes : Goes (view_of s) new) where
    pub beside_keeps : Beside s new → KeepsAt s (view_of s) → KeepsAt s new
    beside_keeps b k =
        let S = setting_of s in
        acts_keep S (past_of s) s.current s.level (copies_of s) (copies_of s) (view_of s) new k (passes_of (view_of s) new goes) k.pages
        (λ d ckpt t from lt below. let e : (view_of s).now ≡ t = omega (arith, from, lt, time) in
        subst (λ (m : ℕ). ReadsBy S (is_away S d) k.pages.was k.pages.coming (disk_at new m d)) e (subst (λ (w : PlantWorld). ReadsBy S (is_away S d) k.pages.was k.pages.coming (w.disk d)) (sym (goes.past (view_of s).now (omega arith)))
        (copy_reads S k.pages.was (copies_of s d) (laws.reads (half_of s d) (place_of s d)) k.pages.coming d (view_of s) (k.at d ckpt) (omega (arith, from, below)))))
        b.adds b.stays (λ d ckpt. moved S k.pages.was k.pages.coming d (copies_of s d) (view_of s) new goes.later (b.disks d ckpt) (k.at d ckpt)) k.later

    pub left_with : (printed : List ℕ) (is : Book) (left : Option (List Entry)) → (plants.tells → Beside s new) → (plants.tells → IsSound s.base → ∥ KeepsPaper s.base s.since (past_of s) s.current (printed, is) new ∥₁) → IsOwned s.current is → (left ≡ None) ⊎ (left ≡ s.reserved)
        → FactsOf plants steadies copies (record (parts_of s) { printed = printed; book = is; reserved = left }) new
    left_with printed is left beside paper owned fewer = facts_with s s.pair s.first s.second new printed is left s.renewals goes.later
        (λ told. ∥∥₁_map (s.kept told) (λ k. beside_keeps (beside told) k)) paper (λ d ckpt is. steadies.stays_fit (half_of s d).copy (view_of s) new goes (s.ready d ckpt is)) (λ d ckpt dead shut. goes.lost (DiskPart d) (s.lost d ckpt dead shut)) owned fewer

    pub left_by : (plants.tells → Beside s new) → (plants.tells → SamePaper (view_of s) new) → Left s new
    left_by beside paper = left_with s.printed s.book s.reserved beside (paper_after s new goes (λ told. same_papers (view_of s) new goes time (paper told))) s.owned (inr refl)

-- A call on the copy of one device, and what it leaves of a shared value.

-- the value before the call, and the copies, their places and the plant after it
pub record Call {P C : Type 0} (plants : PlantGhosts P) (steadies : SteadyGhosts C) (copies : CopyGhosts C) : Type 0 where
  pub laws : Laws plants steadies copies
  pub was : Complex P C plants steadies copies
  pub dev : Dev
  pub ckpt : IsCkpt dev
  pub pair : Pair C copies
  pub first : Place
  pub second : Place
  pub plant : P
  pub same : other dev pair.first pair.second ≡ other dev was.pair.first was.pair.second
  pub at : other dev first second ≡ other dev was.first was.second

abbrev pub call_of : {P C : Type 0} {plants : PlantGhosts P} {steadies : SteadyGhosts C} {copies : CopyGhosts C} → Laws plants steadies copies → (was : Complex P C plants steadies copies) (dev : Dev) → IsCkpt dev → (pair : Pair C copies) (first second : Place) (plant : P)
    → other dev pair.first pair.second ≡ other dev was.pair.first was.pair.second → other dev first second ≡ other dev was.first was.second → Call plants steadies copies
call_of laws was dev ckpt pair first second plant same at = record { laws = laws; was = was; dev = dev; ckpt = ckpt; pair = pair; first = first; second = second; plant = plant; same = same; at = at }

module _ {P C : Type 0} {plants : PlantGhosts P} {steadies : SteadyGhosts C} {copies : CopyGhosts C} (x : Call plants steadies copies) where
  abbrev S : Setting
  S = setting_of x.was

  abbrev pub old : View
  old = view_of x.was

  abbrev pub new : View
  new = plants.view x.plant

  -- the copy of the device before the call and after it, the other one, and how far the batch had come and has
  abbrev pub here : Half C
  here = pick x.dev x.was.pair.first x.was.pair.second

  abbrev pub there : Half C
  there = pick x.dev x.pair.first x.pair.second

  abbrev pub near_it : Half C
  near_it = other x.dev x.was.pair.first x.was.pair.second

  abbrev pub place_was : Place
  place_was = pick x.dev x.was.first x.was.second

  abbrev pub place_is : Place
  place_is = pick x.dev x.first x.second

  abbrev pub near_place : Place
  near_place = other x.dev x.was.first x.was.second

  abbrev pub near_dev : Dev
  near_dev = other x.dev Ckpt1 Ckpt2

  -- the copy of the device before the call and after it, and the other one
  abbrev pub copy_here : Copy
  copy_here = copy_of copies.rests copies.holds here place_was

  abbrev pub copy_there : Copy
  copy_there = copy_of copies.rests copies.holds there place_is

  abbrev pub copy_near : Copy
  copy_near = copy_of copies.rests copies.holds near_it near_place

  -- what holds of both copies holds of the other one, and what holds of this one after the call and of the other one does of both
  pub of_near : (P : Dev → Half C → Place → Type 0) → ((d : Dev) → IsCkpt d → P d (half_of x.was d) (place_of x.was d)) → P near_dev near_it near_place
  of_near P all = of_beside P x.dev x.ckpt x.was.pair.first x.was.pair.second x.was.first x.was.second all

  pub of_both : (P : Dev → Half C → Place → Type 0) → P x.dev there place_is → P near_dev near_it near_place → (d : Dev) → IsCkpt d → P d (pick d x.pair.first x.pair.second) (pick d x.first x.second)
  of_both P this near = of_each P x.dev x.ckpt x.pair.first x.pair.second x.first x.second this (subst (λ (h : Half C). P near_dev h (other x.dev x.first x.second)) (sym x.same) (subst (λ (p : Place). P near_dev near_it p) (sym x.at) near))

  pub at_near : (k : KeepsAt x.was old) → CopyAt S k.pages.was k.pages.coming near_dev copy_near old
  at_near k = of_near (λ d h p. CopyAt S k.pages.was k.pages.coming d (copy_of copies.rests copies.holds h p) old) k.at

  pub rests_here : (k : KeepsAt x.was old) → (here.alive ≡ true → place_was ≡ Before) → here.alive ≡ true → copies.rests here.copy k.pages.was (disk_now old x.dev)
  rests_here k before = rests_before S k.pages.was k.pages.coming copy_here x.dev old (k.at x.dev x.ckpt) before

  -- what a crash leaves, where the other copy stays as it was
  pub keeps_on : Passes old new → Elsewhere x.dev old new → (k : KeepsAt x.was old) (p : Versions S x.was.level (kept_all (past_of x.was)) (entries_in x.was.current) k.first_level k.first_order) → CopyAt S p.was p.coming near_dev copy_near old → Went S p.was p.coming x.dev copy_there old new
      → ((d : Dev) → IsCkpt d → (pick d x.pair.first x.pair.second).alive ≡ true → AreNotedBefore S p.was p.coming) → KeepsOn x.was x.pair x.first x.second new
  keeps_on passes e k p near went later = copies_went S (past_of x.was) x.was.current x.was.level (copies_of x.was) (λ d. copy_of copies.rests copies.holds (pick d x.pair.first x.pair.second) (pick d x.first x.second)) old new k p passes
      (elsewhere_calm x.dev x.ckpt old new e)
      (of_both (λ d h q. Went S p.was p.coming d (copy_of copies.rests copies.holds h q) old new) went
      (untouched S p.was p.coming near_dev copy_near old new (x.laws.reads near_it near_place) near passes.later (λ t from le. e.others t from le near_dev (beside x.dev x.ckpt)))) later

  pub keeps_same : Passes old new → Elsewhere x.dev old new → (there.alive ≡ true → here.alive ≡ true) → (k : KeepsAt x.was old) → Went S k.pages.was k.pages.coming x.dev copy_there old new → KeepsOn x.was x.pair x.first x.second new
  keeps_same passes e stays k went = keeps_on passes e k k.pages (at_near k) went (λ d ckpt is. k.later d ckpt (of_both (λ d h q. h.alive ≡ true → (half_of x.was d).alive ≡ true) stays (of_near (λ d h q. h.alive ≡ true → (half_of x.was d).alive ≡ true) (λ d ckpt is. is)) d ckpt is))

  pub ready_on : ((d : Dev) → new.size d ≡ old.size d) → (there.alive ≡ true → steadies.fits there.copy new ≡ true) → ReadyOn x.was x.pair x.first x.second new
  ready_on sizes ready = of_both (λ d h p. h.alive ≡ true → steadies.fits h.copy new ≡ true) ready
      (λ is. steadies.sizes_fit near_it.copy old new sizes (of_near (λ d h p. h.alive ≡ true → steadies.fits h.copy old ≡ true) x.was.ready is))

  -- the device of the copy, and the other one, where a copy counts as lost
  abbrev pub IsSunk : View → Dev → Half C → Place → Type 0
  IsSunk v d h p = h.alive ≡ false → is_open (of_device d x.was.renewals) ≡ false → v.lost (DiskPart d) ≡ true

  pub lost_on : (old.lost (DiskPart near_dev) ≡ true → new.lost (DiskPart near_dev) ≡ true) → IsSunk new x.dev there place_is → LostOn x.was x.pair x.first x.second new
  lost_on later lost = of_both (IsSunk new) lost (λ dead shut. later (of_near (IsSunk old) x.was.lost dead shut))

  -- all that the type of the value says, after the call
  pub facts_on : Goes old new → (plants.tells → Elsewhere x.dev old new) → (plants.tells → ∥ KeepsOn x.was x.pair x.first x.second new ∥₁)
      → (there.alive ≡ true → steadies.fits there.copy new ≡ true) → IsSunk new x.dev there place_is → Facts x.was x.pair x.first x.second new
  facts_on goes elsewhere kept ready lost =
      facts x.was x.pair x.first x.second new goes.later kept (paper_after x.was new goes (λ told. (elsewhere told).papers)) (ready_on goes.size ready) (lost_on (goes.lost (DiskPart near_dev)) lost)

  -- a copy that counts as lost after acts
  pub lost_acted : (by : ℕ) (stopped : Bool) → Acted by x.dev here.alive there.alive stopped old new → IsSunk new x.dev there place_is
  lost_acted by stopped acted = pair_lost x.dev here.alive there.alive old new acted.goes acted.is_lost (x.was.lost x.dev x.ckpt)

-- A batch begins, or the one in flight gets its fate: what the type says after that.

-- all that the type says of a value, with the batch in flight, if there is one
pub facts_at : {P C : Type 0} {plants : PlantGhosts P} {steadies : SteadyGhosts C} {copies : CopyGhosts C} (s : Complex P C plants steadies copies) (c : Option Batch) → s.current ≡ c → FactsOf plants steadies copies (record (parts_of s) { current = c }) (view_of s)
facts_at {plants = plants} {steadies = steadies} {copies = copies} s c is = subst (λ (x : Option Batch). FactsOf plants steadies copies (record (parts_of s) { current = x }) (view_of s)) is
    (facts s s.pair s.first s.second (view_of s) (le_refl (view_of s).now) s.kept s.paper s.ready s.lost)

module _ {P C : Type 0} (plants : PlantGhosts P) (steadies : SteadyGhosts C) (copies : CopyGhosts C) (x : Parts P C) (v : View) where
  -- what is asked of the entries of a member's batch that begins after these
  pub record MayStart (K : List Entry) (by : MemberId) (es : List Entry) : Type 0 where
    pub own : All (λ e. e.by ≡ by) es
    pub short : length es ≤ entries_most
    pub replied : plants.tells → ∥ HaveReplies (run x.base K) es ∥₁
    pub allowed : plants.tells → IsSound x.base → ∥ AreAllowed x.base (run x.base K) (counts_of x.printed) es ∥₁
    pub untold : plants.tells → IsUntold (setting copies.reads x.base x.since) v es
    pub texts : plants.tells → ∥ HasTexts (lost_now v) (spools_at v v.now) x.base.config.groups (run x.base (K ++ es)) ∥₁

  abbrev pub past : List Batch
  past = past_batches x.placed x.batches

  pub begins : FactsOf plants steadies copies (record x { current = None }) v → (b : Batch) → x.placed ≡ true → b.fate ≡ Flying → b.first ≡ v.now → x.book.holder ≡ b.by → (es : List Entry) → es ≡ b.entries → MayStart (kept_all x.batches) b.by es
      → (reserved : Option (List Entry)) (printed : List ℕ) → reserved ≡ None → printed ≡ printed_after b.by b.entries x.printed → FactsOf plants steadies copies (record x { current = Some b; reserved = reserved; printed = printed }) v
  begins f b placed flies first holds es same may reserved printed none counts = subst (λ (l : List ℕ). FactsOf plants steadies copies (record x { current = Some b; reserved = reserved; printed = l }) v) (sym counts) (subst (λ (o : Option (List Entry)). FactsOf plants steadies copies (record x { current = Some b; reserved = o; printed = printed_after b.by b.entries x.printed }) v) (sym none) (
      let kept : plants.tells → ∥ KeepsOf plants steadies copies (record x { current = Some b }) v ∥₁ = λ told. ∥∥₁_map₂ (f.kept told) (at.texts told) (λ k has. begins_keep _ past b x.level _ v k flies first (each_tells Closes (λ m s. has_step m s b.entries ≡ false) (said (setting copies.reads x.base x.since) v v.now) (at.untold told)) has) in
      let replied : plants.tells → ∥ AreReplied x.base (past ++ b ∷ []) ∥₁ = λ told. ∥∥₁_map₂ (f.replied told) (at.replied told) (λ are have. replied_both x.base past (b ∷ []) (replied_front x.base past [] are) (have, tt)) in
      let paper : plants.tells → IsSound x.base → ∥ KeepsPaper x.base x.since past (Some b) (printed_after b.by b.entries x.printed, x.book) v ∥₁ = λ told sound.
      ∥∥₁_elim (f.kept told) ∥∥₁_prop (λ k. ∥∥₁_map₂ (f.paper told sound) (at.allowed told sound) (λ on allowed. begins_on_paper x.base x.since past b x.printed x.book v k.started k.settled flies first sound on at.own allowed)) in
      let one : IsSome (Some b) → false ≡ true → ⊥ = λ some has. no false has refl in
      let place_reserved : false ≡ true → x.placed ≡ true = λ has. absurd (no false has refl) in
      let place_current : IsSome (Some b) → x.placed ≡ true = λ some. placed in
      let begun : IsBegun (Some b) v.now = (flies, omega (arith, first)) in
      let short_reserved : length (entries_reserved None) ≤ entries_most = omega arith in
      let owned : IsOwned (Some b) x.book = λ batch is other. let same : batch.by ≡ x.book.holder = cc in absurd (other same) in
      assumption (kept, replied, paper, one, place_reserved, place_current, begun, owned, short_reserved, at, f))) where
        at : MayStart (kept_all past) b.by b.entries
        at = subst (λ (K : List Entry). MayStart K b.by b.entries) (sym (past_kept x.placed x.batches f.place)) (subst (λ (l : List Entry). MayStart (kept_all x.batches) b.by l) same may)

  abbrev pub after_end : List Batch → Option Batch → Place → Place → ℕ → Parts P C
  after_end js current first second level = record x { batches = js; current = current; placed = false; first = first; second = second; level = level }

  pub ends : (b : Batch) → FactsOf plants steadies copies (record x { current = Some b }) v → (c : Batch) → (c.fate ≡ Kept) ⊎ (c.fate ≡ Dropped) → c.first ≡ b.first → c.entries ≡ b.entries → c.last ≡ v.now
      → (js : List Batch) (current : Option Batch) (first second : Place) (level : ℕ) → js ≡ with_last c x.batches → current ≡ None → (plants.tells → ∥ KeepsOf plants steadies copies (after_end (past ++ c ∷ []) None first second level) v ∥₁)
      → FactsOf plants steadies copies (after_end js current first second level) v
  ends b f c either same_first same_entries now js current first second level same none keeps =
      subst (λ (l : List Batch). FactsOf plants steadies copies (after_end l current first second level) v) (is ∙ sym same) (subst (λ (o : Option Batch). FactsOf plants steadies copies (after_end (past ++ c ∷ []) o first second level) v) (sym none) (record {
        kept = keeps;
        replied = λ told. ∥∥₁_map (f.replied told) (λ are. subst (λ (l : List Batch). AreReplied x.base l) (sym (append-nil (past ++ c ∷ []))) (replied_both x.base past (c ∷ []) (replied_front x.base past (b ∷ []) are) (subst (λ (es : List Entry). HaveReplies (run x.base (kept_all past)) es) (sym same_entries) (replied_rest x.base past (b ∷ []) are).0, tt)));
        paper = λ told sound. ∥∥₁_map (f.paper told sound) (λ on. fated_on_paper x.base x.since past b c x.printed x.book v on f.begun.0 same_first same_entries now either);
        ready = f.ready;
        lost = f.lost;
        one = λ some. absurd (no false some refl);
        place_reserved = λ reserved. absurd (f.one refl reserved);
        place_current = λ some. absurd (no false some refl);
        place = ∣ tt ∣₁;
        settled = settled_push past c v.now (subst (λ (z : Bool). AreSettled (past_batches z x.batches) v.now) (sym (f.place_current refl)) (settled_without_last x.batches v.now f.settled)) (⊎_elim (λ e. ap is_flying e) (λ e. ap is_flying e) either) (omega (arith, same_first, f.begun.1, now)) (omega (arith, now));
        begun = tt;
        owned = owned_none x.book;
        few = subst (λ (l : List Batch). length l ≤ journal_most) (sym is) (few_with_last c x.batches f.few);
        short = omega arith;
        short_reserved = f.short_reserved;
        counted = subst (λ (l : List Batch). AreFew false l) (sym is) (few_last c x.placed x.batches (f.place_current refl) f.place (subst (λ (es : List Entry). length es ≤ entries_most) (sym same_entries) f.short) f.counted);
      })) where
        is : past ++ c ∷ [] ≡ with_last c x.batches
        is = fated_past c x.placed x.batches (f.place_current refl) f.place

-- A stop that is armed changes nothing of which a shared value keeps a fact.

pub left_armed : {P C : Type 0} {plants : PlantGhosts P} {steadies : SteadyGhosts C} {copies : CopyGhosts C} (s : Complex P C plants steadies copies) (m : ℕ) (new : View) → Arms m (view_of s) new → Left s new
left_armed {steadies = steadies} s m new armed = subst (λ (v : View). Left s v) (sym armed.same) (facts s s.pair s.first s.second later (le_refl was.now)
    (λ told. ∥∥₁_map (s.kept told) (λ k. acts_keep S (past_of s) s.current s.level (copies_of s) (copies_of s) was later k passes k.pages
    (λ d ckpt t lt le below. absurd (omega (arith, lt, le))) (calm S (past_of s ++ in_flight s.current) was later (still_none (λ w. w.console) was) (le_refl was.now))
    (stays_same S (kept_all (past_of s)) (entries_in s.current) was later (λ t lt le n. absurd (omega (arith, lt, le)))) (λ d ckpt. moved S k.pages.was k.pages.coming d (copies_of s d) was later (le_refl was.now) refl (k.at d ckpt)) k.later))
    (paper_with s later s.book passes (λ told t from le j. still_none (λ w. w.paper j) was t from le) (λ j up. up))
    (λ d ckpt is. steadies.sizes_fit (half_of s d).copy was later (λ d. refl) (s.ready d ckpt is)) s.lost) where
      S : Setting
      S = setting_of s

      was : View
      was = view_of s

      later : View
      later = record was { arms = new.arms }

      passes : Passes was later
      passes = record { later = le_refl was.now; past = λ t le. refl; stops = λ j. le_refl (was.stops j); volumes = λ n lost. lost }

-- Acts on a spool volume: no copy changes, and nothing is said.

module _ {P C : Type 0} {plants : PlantGhosts P} {steadies : SteadyGhosts C} {copies : CopyGhosts C} (s : Complex P C plants steadies copies) (p : P) (time : (plants.view p).now ≡ next (plants.view s.plant).now) (laws : Laws plants steadies copies) (told : plants.tells) where
  abbrev after_act : View
  after_act = plants.view p

  abbrev K : List Entry
  K = kept_all (past_of s)

  -- the entries after which the texts of the queue stand, with those in flight or without them
  abbrev es_of : Bool → List Entry
  es_of coming = with_flying coming K (entries_in s.current)

  abbrev Has : View → (ℕ → Bool) → List Entry → Type 0
  Has v gone es = HasTexts gone (spools_at v v.now) s.base.config.groups (run s.base es)

  stays_after : ((gone : ℕ → Bool) (coming : Bool) → Has (view_of s) gone (es_of coming) → Has after_act gone (es_of coming)) → Stays (setting_of s) K (entries_in s.current) (view_of s) after_act
  stays_after has_after = record {
    texts = λ gone t lt le coming has. subst (λ (m : ℕ). HasTexts gone (spools_at after_act m) s.base.config.groups (run s.base (es_of coming))) (sym (at_end s after_act time t lt le)) (has_after gone coming has);
    sunk = λ t lt le n lost.
        inr (stays_true (after_act.lost (DiskPart (Spool n))) (disk_now after_act (Spool n)).lost (laws.there p told (Spool n)) (subst (λ (m : ℕ). (spools_at after_act m n).lost ≡ true) (at_end s after_act time t lt le) lost));
  }

  -- an act that changes no byte
  pub beside_quiet : (volume : ℕ) → OnDevice (Spool volume) (view_of s) after_act → Quiet (disk_now (view_of s) (Spool volume)) (disk_now after_act (Spool volume)) → Beside s after_act
  beside_quiet volume only here =
      beside_copies s after_act time volume only (stays_after (λ gone coming has. texts_quiet s.base.config.groups (spools_at (view_of s) (view_of s).now) (spools_at after_act after_act.now) gone (run s.base (es_of coming)) (each_quiet volume (view_of s) after_act here only) has))

  -- a write to a group that is the member's in both queues
  pub beside_write : AreItsOwn → (by : MemberId) (group : GroupNo) (bytes : Page) (act : Act) → length bytes.0 ≡ page_bytes → IsHeldBy by group (run s.base (kept_all s.journal.batches)) → IsHeldBy by group (run s.base (kept_all s.journal.batches ++ entries_in s.current))
      → WritesGroup s.base.config.groups group (view_of s) after_act bytes act → Beside s after_act
  beside_write own by group bytes act long one two writes =
      let per = s.base.config.groups in
      beside_copies s after_act time (volume_of per group) writes.only (stays_after (λ gone coming has. texts_written per group (view_of s) after_act bytes act long writes own by gone (run s.base (es_of coming)) (held coming) has)) where
        held : (coming : Bool) → IsHeldBy by group (run s.base (es_of coming))
        held false = subst (λ (es : List Entry). IsHeldBy by group (run s.base es)) (sym (kept_past s)) one
        held true = subst (λ (es : List Entry). IsHeldBy by group (run s.base (es ++ entries_in s.current))) (sym (kept_past s)) two
