-- What a member finds between two turns of a race: the copies at rest, and of its own steps nothing that isn't kept.
use Rattle.std.proofs.Common.{◌≡◌, ◌∙◌, ◌⊎◌, inl, inr, ◌≤◌, ◌<◌, ℕ, ◌+◌, ◌*◌, Bool, true, false, List, [], ◌∷◌, ◌++◌, length, All, Option, Some, None, ap, refl, subst, sym, arith}
use Rattle.std.proofs.lemmas.Option.{same_Some as one_text}
use Rattle.std.proofs.Math.Logic.{∥∥₁_map}
use Rattle.std.proofs.lemmas.List.Elements.{All-append, All-cons, All-head, All-nil, All-tail, All-weaker}
use Rattle.mas_types.specs.declared.ids.MemberId.{MemberId}
use Rattle.mas_types.specs.declared.ids.Page.{Page}
use Rattle.mas_types.specs.declared.journals.Batch.{Batch}
use Rattle.mas_types.specs.declared.journals.Entry.{Entry}
use Rattle.mas_types.specs.declared.journals.Fate.{Fate}
use Rattle.mas_types.specs.declared.journals.Fate.TheVariants.{Dropped, Flying, Kept}
use Rattle.mas_types.specs.declared.queues.Queue.{Queue}
use Rattle.mas_types.specs.Ids.{nobody}
use Rattle.mas_types.specs.Journal.{is_kept}
use Rattle.mas_types.specs.Limits.{page_bytes}
use Rattle.mas_types.specs.Run.{run}
use Rattle.mas_types.specs.Sound.{IsSound}
use Rattle.lock_cycle.specs.Books.{Book, is_stopped}
use Rattle.spool_plant.specs.declared.plant.Plant.{Ghosts as PlantGhosts}
use Rattle.spool_plant.specs.View.{View}
use Rattle.ckpt_copy.specs.declared.copying.Copying.{Ghosts as CopyGhosts}
use Rattle.ckpt_copy.specs.Pages.{bytes_of}
use Rattle.ckpt_pages.specs.Checkpoints.{IsCheckpoint}
use Rattle.ckpt_tables.specs.Shape.{page_count}
use Rattle.ckpt_tables.specs.declared.tables.Tables.{Tables}
use Rattle.duplex_pair.specs.Halves.{SomeAlive}
use Rattle.mas_complex.specs.Crash.{next_order, order_first, orders_most}
use Rattle.mas_complex.specs.Journals.{AreSettled, in_flight, kept_all}
use Rattle.mas_complex.specs.Meaning.{StandFor}
use Rattle.mas_complex.specs.Parts.{Parts}
use Rattle.member_node.specs.Reads.{AreLow}
use Rattle.member_steps.specs.Steps.{AreEarlier, AreKeptFrom, IsKeptBy}
use Rattle.member_steps.proofs.LowCopies.{low_found, sound_told}
use Rattle.member_sittings.specs.Gates.{IsOpen}
use Rattle.member_sittings.specs.Whole.{Half, first_half, queue_of, second_half}
use Rattle.member_resets.specs.Quiet.{IsQuiet}
use Rattle.mas_race.specs.Between.{IsBetweenTurns, IsFree, IsLowHalf}
pub use Rattle.member_resets.proofs.Halting.{all_back, all_front}

-- WHAT A MEMBER THAT ISN'T STOPPED GAVE IS KEPT

kept_is : (f : Fate) → is_kept f ≡ true → f ≡ Kept
kept_is Kept is = refl
kept_is Dropped is = absurd (cc)
kept_is Flying is = absurd (cc)

module _ (b : Book) (m : MemberId) (at now : ℕ) (up : is_stopped b m ≡ false) where
  abbrev Own : Batch → Type 0
  Own c = All (λ e. e.by ≡ c.by) c.entries

  abbrev Fated : Batch → Type 0
  Fated c = is_kept c.fate ≡ false → 0 < length c.entries → is_stopped b c.by ≡ true

  abbrev Holds : Batch → Type 0
  Holds c = IsKeptBy now c ⊎ AreEarlier m at c.entries

  other : (by : MemberId) → is_stopped b by ≡ true → by ≡ m → ⊥
  other by down same = absurd (let bad : true ≡ false = sym down ∙ ap (λ (k : MemberId). is_stopped b k) same ∙ up in cc)

  -- entries of a stopped member are none of this one's
  pub not_mine : (by : MemberId) (es : List Entry) → All (λ e. e.by ≡ by) es → (0 < length es → is_stopped b by ≡ true) → AreEarlier m at es
  not_mine by [] its stops = All-nil (λ (e : Entry). e.by ≡ m → e.step < at)
  not_mine by (e ∷ es) its stops =
      let down : is_stopped b by ≡ true = stops (omega arith) in
      All-weaker (λ (d : Entry). d.by ≡ by) (λ (d : Entry). d.by ≡ m → d.step < at) (λ d is mine. absurd (other by down (sym is ∙ mine))) (e ∷ es) its

  one_holds : (c : Batch) → c.last ≤ now → Own c → Fated c → (k : Bool) → is_kept c.fate ≡ k → Holds c
  one_holds c past own fated true is = inl (kept_is c.fate is, past)
  one_holds c past own fated false is = inr (not_mine c.by c.entries own (fated is))

  pub kept_from : (bs : List Batch) → AreSettled bs now → All Own bs → All Fated bs → AreKeptFrom m at bs now
  kept_from [] settled own fated = All-nil Holds
  kept_from (c ∷ bs) settled own fated =
      All-cons Holds c bs (one_holds c settled.2 (All-head Own c bs own) (All-head Fated c bs fated) (is_kept c.fate) refl)
      (kept_from bs settled.3 (All-tail Own c bs own) (All-tail Fated c bs fated))

-- THE COPIES

-- a copy reads as pages that stand for a queue
pub record StandsRead (Q : Queue) (read : Option (List ℕ)) : Type 0 where
  pub was : List ℕ
  pub stands : StandFor Q was
  pub is : read ≡ Some was

module _ (told : Type 0) (h : Half) (base : Queue) (es : List Entry) (n : ℕ) (sound : told → IsSound (run base es)) (reads : told → h.alive ≡ true → ∥ StandsRead (run base es) h.read ∥₁)
    (is : IsLowHalf told h base.config n) where
  low_tables : told → h.alive ≡ true → (pages : List Page) (t : Tables) → All (λ page. length page.0 ≡ page_bytes) pages → h.read ≡ Some (bytes_of pages) → IsCheckpoint pages t → AreLow base.config n t
  low_tables tells on pages t sized reads_so spelled =
      let k : ℕ = next_order (bytes_of pages) in
      let low = is.low tells on pages t sized reads_so spelled in
      let stands : told → ∥ StandFor (run base es) (bytes_of pages) ∥₁ =
      λ again. ∥∥₁_map (reads again on) (λ s. subst (λ (w : List ℕ). StandFor (run base es) w) (one_text s.was (bytes_of pages) (sym s.is ∙ reads_so)) s.stands) in
      let near : k ≤ order_first + orders_most * k = omega arith in
      let found : AreLow base.config k t = low_found told h.alive base es k (bytes_of pages) h.read sound stands near (λ again up. reads_so) tells on pages t sized reads_so spelled in
      record { same = low.0; fit = found.fit; order = low.1 }

  pub open_half : IsOpen told h base.config n (page_count base.config)
  open_half = record { calm = record { before = is.before; as_many = is.as_many }; low = low_tables }

module _ {P C : Type 0} (plants : PlantGhosts P) (copies : CopyGhosts C) (x : Parts P C) (rest : IsBetweenTurns plants copies x) (some : SomeAlive x.first_alive x.second_alive) where
  abbrev v : Parts P C → View
  v w = plants.view w.plant

  -- where nobody holds, a member may take its seat once it has the lock
  pub quiet_between : x.book.holder ≡ nobody → (plants.tells → IsSound (queue_of x))
      → (plants.tells → x.first_alive ≡ true → ∥ StandsRead (queue_of x) (first_half plants copies x).read ∥₁)
      → (plants.tells → x.second_alive ≡ true → ∥ StandsRead (queue_of x) (second_half plants copies x).read ∥₁)
      → IsQuiet plants copies x (page_count x.base.config)
  quiet_between none sound one two =
      let free : IsFree plants copies x = rest.free some none in
      record {
        none = free.none;
        unplaced = rest.unplaced some free.none;
        unreserved = rest.unreserved some;
        first = open_half plants.tells (first_half plants copies x) x.base (kept_all x.batches) (length x.batches) sound one free.first;
        second = open_half plants.tells (second_half plants copies x) x.base (kept_all x.batches) (length x.batches) sound two free.second;
        sound = λ t. sound_told (queue_of x) (sound t);
        kept = free.kept;
        begun = rest.begun;
        roomy = rest.roomy;
      }

  -- Of a member that isn't stopped nothing was dropped, and nothing is in flight where that is of a stopped member.
  pub steps_kept : (m : MemberId) (at : ℕ) → is_stopped x.book m ≡ false → AreSettled x.batches (v x).now → ((c : Batch) → x.current ≡ Some c → is_stopped x.book c.by ≡ true)
      → AreKeptFrom m at (x.batches ++ in_flight x.current) (v x).now
  steps_kept m at up settled down =
      All-append (Holds x.book m at (v x).now up) x.batches (in_flight x.current)
      (kept_from x.book m at (v x).now up x.batches settled (all_front (Own x.book m at (v x).now up) x.batches (in_flight x.current) rest.own) rest.fated) (by_current x.current refl)
    where
      by_current : (o : Option Batch) → x.current ≡ o → AreKeptFrom m at (in_flight o) (v x).now
      by_current None is = All-nil (Holds x.book m at (v x).now up)
      by_current (Some c) is =
          let own : All (Own x.book m at (v x).now up) (c ∷ []) =
          subst (λ (o : Option Batch). All (Own x.book m at (v x).now up) (in_flight o)) is (all_back (Own x.book m at (v x).now up) x.batches (in_flight x.current) rest.own) in
          All-cons (Holds x.book m at (v x).now up) c [] (inr (not_mine x.book m at (v x).now up c.by c.entries (All-head (Own x.book m at (v x).now up) c [] own) (λ some. down c is))) (All-nil (Holds x.book m at (v x).now up))
