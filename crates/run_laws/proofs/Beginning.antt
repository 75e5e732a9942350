-- The next run begins.
use Rattle.std.proofs.Common.{◌≡◌, ◌⊎◌, inl, inr, ⊎_elim, ℕ, ◌^◌, ◌*◌, ◌≤◌, ◌<◌, ◌++◌, Bool, true, false, List, [], ◌∷◌, length, All, Option, Some, refl, sym, ◌∙◌, ap, subst, arith}
use Rattle.std.specs.List.{filter}
use Rattle.std.proofs.Math.Logic.{∥∥₁_elim}
use Rattle.std.proofs.lemmas.List.Elements.{All-nil, All-append}
use Rattle.mas_types.specs.declared.answers.CopyState.{CopyState}
use Rattle.mas_types.specs.declared.answers.CopyState.TheVariants as state
use Rattle.mas_types.specs.declared.answers.Status.{Status}
use Rattle.mas_types.specs.declared.answers.Status.TheVariants as status
use Rattle.mas_types.specs.declared.ids.Dev.{Dev}
use Rattle.mas_types.specs.declared.ids.Dev.TheVariants.{Ckpt1, Ckpt2, Spool}
use Rattle.mas_types.specs.declared.ids.Page.{Page}
use Rattle.mas_types.specs.declared.journals.Batch.{Batch}
use Rattle.mas_types.specs.declared.journals.Entry.{Entry}
use Rattle.mas_types.specs.declared.journals.Journal.{Journal}
use Rattle.mas_types.specs.declared.queues.Config.{Config}
use Rattle.mas_types.specs.declared.queues.Queue.{Queue}
use Rattle.mas_types.specs.Journal.{entries_of, is_kept_by, is_flying_at, kept_at, flying_at}
use Rattle.mas_types.specs.Limits.{page_bytes}
use Rattle.mas_types.specs.Sound.{IsSound}
use Rattle.queue_laws.specs.Runs.{IsGiven, RunsKeepConfiguration, RunsKeepSound}
use Rattle.script_lang.specs.declared.types.Script.{Script}
use Rattle.spool_plant.specs.declared.plant.Part.TheVariants.{Disk as DiskPart}
use Rattle.spool_plant.specs.Acts.{top}
use Rattle.spool_plant.specs.View.{View, Disk, IsImage, LeavesOnly, disk_now}
use Rattle.ckpt_form.specs.Form.{form_reads, form_needs}
use Rattle.ckpt_copy.specs.Moments.{either_way}
use Rattle.ckpt_copy.specs.Pages.{bytes_of, level}
use Rattle.ckpt_tables.specs.declared.tables.Tables.{Tables}
use Rattle.ckpt_pages.specs.Checkpoints.{IsCheckpoint, SpellsOneAtMost}
use Rattle.ckpt_tables.specs.Shape.{page_count}
use Rattle.ckpt_pages.proofs.SlotLists.{test_cases}
use Rattle.mas_complex.specs.Crash.{left_at, next_order, IsOneOf, IsReadBy}
use Rattle.mas_complex.specs.declared.renewals.Renewals.{Renewals}
use Rattle.mas_complex.specs.Renewals.{is_renewed_at, of_device}
use Rattle.mas_complex.specs.Headline.{AreAlike, AreAlwaysAlike, AreLevelsLow}
use Rattle.mas_complex.specs.Journals.{journal_most}
use Rattle.mas_complex.specs.Meaning.{StandFor, run}
use Rattle.mas_complex.specs.Paper.{AreGivenIn, PaperKept}
use Rattle.mas_complex.proofs.Found.{order_spelled}
use Rattle.start_choice.specs.declared.choosing.StartNo.TheVariants as no_start
use Rattle.warm_start.specs.Starting.{IsSmall, IsState, AreNotLost, OnlyLookedAtAll, mark_of}
use Rattle.start_choice.specs.Usable.{AreOf, AreUsable, HaveSize, MayStart}
use Rattle.run_opening.specs.Lines.{Proceeds, StaysLost}
use Rattle.run_opening.specs.Runs.{has_begun, Begins}
use Rattle.mas_run.specs.Runs.{IsRun, run_result}
use Rattle.run_opening.specs.Statuses.{IsCaused}
use Rattle.run_opening.specs.Unstarted.{IsNotStarted, StartCauses}
use Rattle.run_laws.specs.Left.{IsLeftBy}
use Rattle.queue_tables.proofs.SoundTables.{told_are_sound}
use Rattle.run_laws.specs.Beginning.{AreGoodLeft, AreLarge, AreLow, BothLow, HasEnded, IsGoodLeft, IsHindered, IsLow, IsUnbounded}
use Rattle.run_laws.specs.Joins.{level_of, order_of}
use Rattle.run_laws.proofs.Levels.{HasLevels, HasOrders, first_there, low_levels, low_orders, Begins as StartsSo}
use Rattle.run_laws.proofs.Copies.{IsBeside, good_one, image_of, stand_by, stands, told_by}

-- THE QUEUE THAT IS LEFT

all_given : (base : Queue) (picks : Batch → Bool) (bs : List Batch) → AreGivenIn base bs → All (IsGiven base) (entries_of (filter picks bs))
all_given base picks [] given = All-nil (IsGiven base)
all_given base picks (b ∷ bs) given =
    test_cases (picks b) (All (IsGiven base) (entries_of (filter picks (b ∷ bs))))
    (λ e. rw e (All-append (IsGiven base) b.entries (entries_of (filter picks bs)) given.0 (all_given base picks bs given.1)))
    (λ e. rw e (all_given base picks bs given.1))

level_left : (l since n : ℕ) → (IsUnbounded l since → n < 2 ^ 62) → (l < 2 ^ 61 → since < top → n < 2 ^ 62) → n < 2 ^ 62
level_left l since n low bound =
    ⊎_elim (λ high. low (inl high)) (λ is. ⊎_elim (λ last. low (inr last)) (λ before. bound is before) (either_way top since)) (either_way (2 ^ 61) l)

-- the level of pages is low, and so is their next order, where the run began with low ones
record IsBounded (l order since : ℕ) (bytes : List ℕ) : Type 0 where
  levels : l < 2 ^ 61 → since < top → level bytes < 2 ^ 62
  orders : order < 2 ^ 61 → since < top → next_order bytes < 2 ^ 62

-- and so are those of what a device reads as, whatever a crash leaves of it
pub record AreBounded (l order since : ℕ) (disk : Disk) : Type 0 where
  levels : l < 2 ^ 61 → since < top → HasLevels disk
  orders : order < 2 ^ 61 → since < top → HasOrders disk

bounded_image : (l order since : ℕ) (disk : Disk) → AreBounded l order since disk → (image bytes : List ℕ) → IsImage disk image → form_reads image ≡ Some bytes → IsBounded l order since bytes
bounded_image l order since disk are image bytes is reads = record { levels = λ on before. are.levels on before image is bytes reads; orders = λ on before. are.orders on before image is bytes reads }

-- pages that stand for a queue with the sound parts can be used, where levels and orders are left
usable_of : (l order since : ℕ) (Q : Queue) (bytes : List ℕ) → StandFor Q bytes → IsSound Q → AreLow l order since bytes → IsBounded l order since bytes → AreUsable bytes
usable_of l order since Q bytes s sound low bound =
    let x = s.tell in
    let is : IsCheckpoint s.pages x.tables = record { level = s.level; levels = x.levels; fit = x.fit; ages = x.ages; spell = x.spell } in
    let left : IsLow l order since s.pages x.tables = low s.pages x.tables s.sized s.joined is in
    let may : MayStart s.pages x.tables = record {
      sound = told_are_sound x.tables Q x.tell sound x.orders;
      low_level = level_left l since (level (bytes_of s.pages)) left.low_level (λ on before. subst (λ (bs : List ℕ). level bs < 2 ^ 62) (sym s.joined) (bound.levels on before));
      low_order = level_left order since x.tables.order left.low_order
          (λ on before. subst (λ (n : ℕ). n < 2 ^ 62) (order_spelled x.tables x.levels s.pages x.fit x.spell s.sized) (subst (λ (bs : List ℕ). next_order bs < 2 ^ 62) (sym s.joined) (bound.orders on before)));
    } in
    let of : AreOf s.pages x.tables = (is, may) in
    record { pages = s.pages; sized = s.sized; joined = s.joined; usable = (x.tables, of) }

-- A COPY

-- a device that isn't lost wasn't lost before
was_there : (dev : Dev) (old new : View) → StaysLost dev old new → new.lost (DiskPart dev) ≡ false → old.lost (DiskPart dev) ≡ false
was_there dev old new stays there =
    test_cases (old.lost (DiskPart dev)) (old.lost (DiskPart dev) ≡ false)
    (λ e. let gone : new.lost (DiskPart dev) ≡ true = stays e in absurd (cc))
    (λ e. e)

clash : {A : Type 0} (b : Bool) → b ≡ true → b ≡ false → A
clash b one two = absurd (cc)

abbrev IsGone : CopyState → Type 0
IsGone state.Lost = Unit {0}
IsGone _ = ⊥

not_both_gone : (one two : CopyState) → IsGone one → IsGone two → AreNotLost one two → ⊥
not_both_gone state.Lost state.Lost a b not = not
not_both_gone state.Lost state.Unread a b not = b
not_both_gone state.Lost state.Unsound a b not = b
not_both_gone state.Unread two a b not = a
not_both_gone state.Unsound two a b not = a

-- a copy that is left reads as pages that can be used: so where a start found none on it, it is lost
module _ (was : List ℕ) (coming : Option (List ℕ)) (dev : Dev) (t : ℕ) (last old new : View) (left : IsLeftBy t last old) (each : LeavesOnly (left_at last t dev) (λ image. IsOneOf was coming (form_reads image)))
    (usable : old.lost (DiskPart dev) ≡ false → (bytes : List ℕ) → form_reads (disk_now old dev).bytes ≡ Some bytes → (bytes ≡ was) ⊎ (coming ≡ Some bytes) → AreUsable bytes)
    (stays : StaysLost dev old new) (same : (disk_now new dev).bytes ≡ (disk_now old dev).bytes) where
  read_one : new.lost (DiskPart dev) ≡ false → IsOneOf was coming (form_reads (disk_now new dev).bytes)
  read_one there =
      subst (λ (bs : List ℕ). IsOneOf was coming (form_reads bs)) (sym same) (each (disk_now old dev).bytes (image_of t last old dev left (was_there dev old new stays there)))

  gone : (tells : Type 0) → tells → (alive : Bool) (s : CopyState) → IsState form_reads tells dev new alive s → IsGone s
  gone tells told alive state.Lost is = tt
  gone tells told alive state.Unread is = subst (IsOneOf was coming) (is.none told).now (read_one is.there)
  gone tells told alive state.Unsound is =
      let found = is.2 told in
      let one : IsOneOf was coming (Some found.0) = subst (IsOneOf was coming) found.1 (read_one is.1) in
      found.2 (usable (was_there dev old new stays is.1) found.0 (ap form_reads (sym same) ∙ found.1) one)

-- where its device was lost
gone_lost : (tells : Type 0) (dev : Dev) (old new : View) → StaysLost dev old new → old.lost (DiskPart dev) ≡ true → (alive : Bool) (s : CopyState) → IsState form_reads tells dev new alive s → IsGone s
gone_lost tells dev old new stays lost alive state.Lost is = tt
gone_lost tells dev old new stays lost alive state.Unread is = clash (new.lost (DiskPart dev)) (stays lost) is.there
gone_lost tells dev old new stays lost alive state.Unsound is = clash (new.lost (DiskPart dev)) (stays lost) is.1

-- and then it is lost
lost_then : (tells : Type 0) (dev : Dev) (new : View) (alive : Bool) (s : CopyState) → IsState form_reads tells dev new alive s → IsGone s → new.lost (DiskPart dev) ≡ true
lost_then tells dev new alive state.Lost is none = is.lost
lost_then tells dev new alive state.Unread is none = absurd none
lost_then tells dev new alive state.Unsound is none = absurd none

-- SIZES

enough : (needed size is was : ℕ) → size ≡ is → is ≡ was → needed ≤ was → size < needed → ⊥
enough needed size is was a b c d = omega (arith, a, b, c, d)

never_small : (config : Config) (old new : View) → Proceeds old new → AreLarge config old → (dev : Dev) (size : ℕ) → IsSmall (form_needs (page_count config)) config dev size new → ⊥
never_small config old new goes large Ckpt1 size is = enough (form_needs (page_count config)) size (new.size Ckpt1) (old.size Ckpt1) is.0 (goes.size Ckpt1) large.first is.1
never_small config old new goes large Ckpt2 size is = enough (form_needs (page_count config)) size (new.size Ckpt2) (old.size Ckpt2) is.0 (goes.size Ckpt2) large.second is.1
never_small config old new goes large (Spool n) size is =
    let small = is.1 in
    enough (page_bytes * config.groups) (new.size (Spool n)) (new.size (Spool n)) (old.size (Spool n)) refl (goes.size (Spool n))
    (large.roomy n small.some small.few (was_there (Spool n) old new (goes.lost (DiskPart (Spool n)) refl) small.there)) small.small

-- THE RUN

module _ (spells : SpellsOneAtMost) (configs : RunsKeepConfiguration) (sounds : RunsKeepSound) (l order since : ℕ) (base : Queue) (J : Journal) (rs : Renewals) (t : ℕ) (last old : View)
    (left : IsLeftBy t last old) (sound : IsSound base) (given : AreGivenIn base J.batches)
    (bound1 : is_renewed_at rs.first t ≡ false → AreBounded l order since (left_at last t Ckpt1)) (bound2 : is_renewed_at rs.second t ≡ false → AreBounded l order since (left_at last t Ckpt2))
    (alike : AreAlike form_reads base J rs t last) where
  kept_given : All (IsGiven base) (kept_at J t)
  kept_given = all_given base (is_kept_by t) J.batches given

  kept_sound : IsSound (run base (kept_at J t))
  kept_sound = sounds base (kept_at J t) sound kept_given

  coming_sound : IsSound (run base (kept_at J t ++ flying_at J t))
  coming_sound = sounds base (kept_at J t ++ flying_at J t) sound (All-append (IsGiven base) (kept_at J t) (flying_at J t) kept_given (all_given base (is_flying_at t) J.batches given))

  usable_by : (bytes : List ℕ) → AreLow l order since bytes → IsBounded l order since bytes → (bytes ≡ alike.was) ⊎ (alike.coming ≡ Some bytes) → AreUsable bytes
  usable_by bytes lows bound one =
      ⊎_elim (λ s. usable_of l order since (run base (kept_at J t)) bytes s kept_sound lows bound)
      (λ s. usable_of l order since (run base (kept_at J t ++ flying_at J t)) bytes s coming_sound lows bound)
      (stand_by form_reads base J rs t last old bytes alike one)

  -- a copy that was good, and one beside it
  is_beside : (dev : Dev) (begun : Bool) (new : View) (found : List ℕ) → (is_renewed_at (of_device dev rs) t ≡ false → AreBounded l order since (left_at last t dev)) → IsGoodLeft rs t l order since begun dev old new
      → IsBeside form_reads base J rs t last old found alike dev new
  is_beside dev begun new found bound is = record {
    good = is.good;
    there = is.there;
    failed = is.failed;
    usable = λ bytes reads one.
        usable_by bytes (is.low bytes reads)
        (bounded_image l order since (left_at last t dev) (bound is.good) (disk_now old dev).bytes bytes (image_of t last old dev left is.there) reads) one;
  }

  pub beside1 : (begun : Bool) (new : View) (found : List ℕ) → AreGoodLeft rs t l order since begun old new → is_renewed_at rs.first t ≡ true → old.lost (DiskPart Ckpt1) ≡ false → IsBeside form_reads base J rs t last old found alike Ckpt2 new
  beside1 begun new found are stale there = is_beside Ckpt2 begun new found bound2 (are.first stale there)

  pub beside2 : (begun : Bool) (new : View) (found : List ℕ) → AreGoodLeft rs t l order since begun old new → is_renewed_at rs.second t ≡ true → old.lost (DiskPart Ckpt2) ≡ false → IsBeside form_reads base J rs t last old found alike Ckpt1 new
  beside2 begun new found are stale there = is_beside Ckpt1 begun new found bound1 (are.second stale there)

  -- a run that hasn't begun
  module _ (new : View) (low : BothLow l order since old) (large : AreLarge base.config old) (goes : Proceeds old new) (stays : (d : Dev) → StaysLost d old new) (good : AreGoodLeft rs t l order since false old new)
      (tells : Type 0) (told : tells) where
    -- a copy that was good is lost where a start found none on it
    good_gone : (dev : Dev) → LeavesOnly (left_at last t dev) (λ image. IsReadBy (is_renewed_at (of_device dev rs) t) alike.was alike.coming (form_reads image)) → is_renewed_at (of_device dev rs) t ≡ false
        → AreBounded l order since (left_at last t dev) → (old.lost (DiskPart dev) ≡ false → (bytes : List ℕ) → form_reads (disk_now old dev).bytes ≡ Some bytes → AreLow l order since bytes)
        → (disk_now new dev).bytes ≡ (disk_now old dev).bytes → (alive : Bool) (s : CopyState) → IsState form_reads tells dev new alive s → IsGone s
    good_gone dev each was_good bound lows same alive s is =
        gone alike.was alike.coming dev t last old new left (good_one alike.was alike.coming form_reads (left_at last t dev) (is_renewed_at (of_device dev rs) t) was_good each)
        (λ there bytes e. usable_by bytes (lows there bytes e) (bounded_image l order since (left_at last t dev) bound (disk_now old dev).bytes bytes (image_of t last old dev left there) e)) (stays dev) same tells told alive s is

    -- and so is one beside which a good one stands: else that one is lost
    one_gone : (dev other : Dev) → (is_renewed_at (of_device dev rs) t ≡ false → (alive : Bool) (s : CopyState) → IsState form_reads tells dev new alive s → IsGone s)
        → (is_renewed_at (of_device other rs) t ≡ false → (alive : Bool) (s : CopyState) → IsState form_reads tells other new alive s → IsGone s)
        → (is_renewed_at (of_device dev rs) t ≡ true → old.lost (DiskPart dev) ≡ false → IsGoodLeft rs t l order since false other old new)
        → (alive1 : Bool) (one : CopyState) → IsState form_reads tells dev new alive1 one → (alive2 : Bool) (two : CopyState) → IsState form_reads tells other new alive2 two → IsGone one
    one_gone dev other mine theirs beside alive1 one is1 alive2 two is2 =
        test_cases (is_renewed_at (of_device dev rs) t) (IsGone one)
        (λ stale. test_cases (old.lost (DiskPart dev)) (IsGone one)
        (λ lost. gone_lost tells dev old new (stays dev) lost alive1 one is1)
        (λ there.
        let g = beside stale there in
        clash (new.lost (DiskPart other)) (lost_then tells other new alive2 two is2 (theirs g.good alive2 two is2)) (g.stays refl)))
        (λ was_good. mine was_good alive1 one is1)

    -- a start can't find that no copy can be used
    pub some_found : (disk_now new Ckpt1).bytes ≡ (disk_now old Ckpt1).bytes → (disk_now new Ckpt2).bytes ≡ (disk_now old Ckpt2).bytes → (one two : CopyState) → StartCauses tells (no_start.NotFormatted one two) old new → ⊥
    some_found same1 same2 one two causes =
        let x = causes.cause in
        let first = λ (g : is_renewed_at rs.first t ≡ false). good_gone Ckpt1 alike.first g (bound1 g) low.first same1 in
        let second = λ (g : is_renewed_at rs.second t ≡ false). good_gone Ckpt2 alike.second g (bound2 g) low.second same2 in
        not_both_gone one two
        (one_gone Ckpt1 Ckpt2 first second good.first causes.alive1 one x.0 causes.alive2 two x.1)
        (one_gone Ckpt2 Ckpt1 second first good.second causes.alive2 two x.1 causes.alive1 one x.0)
        x.2

    -- the configuration of pages that were found
    config_of : (pages : List Page) (u : Tables) → AreOf pages u → HaveSize pages → (es : List Entry) → StandFor (run base es) (bytes_of pages) → u.config ≡ base.config
    config_of pages u are sized es s = sym (told_by spells (run base es) pages u are sized s).config ∙ (configs base es).config

    -- no device is too small
    pub none_small : (dev : Dev) (size : ℕ) → StartCauses tells (no_start.DeviceSize dev size) old new → ⊥
    none_small dev size causes =
        let x = causes.cause in
        let pages : List Page = x.0 in
        let u : Tables = x.1 in
        let config : u.config ≡ base.config =
        ⊎_elim (λ s. config_of pages u x.2 x.3 (kept_at J t) s) (λ s. config_of pages u x.2 x.3 (kept_at J t ++ flying_at J t) s)
        (stands form_reads base J rs t last old (bytes_of pages) alike new (mark_of new) left (beside1 false new (bytes_of pages) good) (beside2 false new (bytes_of pages) good) (x.4 told)) in
        let small : IsSmall (form_needs (page_count u.config)) u.config dev size new = subst (λ (n : ℕ). IsSmall (form_needs n) u.config dev size new) x.2.0.spell.count x.5 in
        never_small base.config old new goes large dev size (subst (λ (c : Config). IsSmall (form_needs (page_count c)) c dev size new) config small)

-- no byte of a copy changed in a start that gave nothing
same_bytes : (tells : Type 0) → tells → (old new : View) → (new ≡ old) ⊎ (tells → OnlyLookedAtAll old new) → ((disk_now new Ckpt1).bytes ≡ (disk_now old Ckpt1).bytes) × ((disk_now new Ckpt2).bytes ≡ (disk_now old Ckpt2).bytes)
same_bytes tells told old new looked =
    ⊎_elim (λ e. (ap (λ (v : View). (disk_now v Ckpt1).bytes) e, ap (λ (v : View). (disk_now v Ckpt2).bytes) e))
    (λ f. let w = f told in ((w.first new.now w.goes.later (omega arith)).bytes, (w.second new.now w.goes.later (omega arith)).bytes)) looked

not_lost : (A : Type 0) (one two : CopyState) → (status.NotFormatted one two ≡ status.BothLost) ⊎ A → A
not_lost A one two (inl e) = absurd (cc)
not_lost A one two (inr a) = a

-- levels and orders are as the run leaves them
pub bounds1 : (l order since : ℕ) (J : Journal) (last : View) (rs : Renewals) (levels : AreLevelsLow form_reads since J rs last) (few : length J.batches ≤ journal_most) → StartsSo l order since last → (t : ℕ) → since ≤ t → t ≤ last.now
    → is_renewed_at rs.first t ≡ false → AreBounded l order since (left_at last t Ckpt1)
bounds1 l order since J last rs levels few b t ge le good = record {
  levels = λ low before. (low_levels since J last rs levels few l order b before low t ge le).0 good;
  orders = λ low before. (low_orders since J last rs levels few l order b before low t ge le).0 good;
}

pub bounds2 : (l order since : ℕ) (J : Journal) (last : View) (rs : Renewals) (levels : AreLevelsLow form_reads since J rs last) (few : length J.batches ≤ journal_most) → StartsSo l order since last → (t : ℕ) → since ≤ t → t ≤ last.now
    → is_renewed_at rs.second t ≡ false → AreBounded l order since (left_at last t Ckpt2)
bounds2 l order since J last rs levels few b t ge le good = record {
  levels = λ low before. (low_levels since J last rs levels few l order b before low t ge le).1 good;
  orders = λ low before. (low_orders since J last rs levels few l order b before low t ge le).1 good;
}

-- what a warm run that hasn't begun is hindered by
pub hinders : SpellsOneAtMost → RunsKeepConfiguration → RunsKeepSound → (first_tells next_tells : Type 0) → first_tells → next_tells
    → (cold : Bool) (script : Script) (answer ends : Status) (base found : Queue) (J : Journal) (since t : ℕ) (first last old new : View)
    → (was : IsRun cold first_tells script first (run_result answer base J since last)) → since ≤ t → t ≤ last.now → IsLeftBy t last old
    → AreGoodLeft was.steps.renewals t (level_of was) (order_of was) since false old new
    → BothLow (level_of was) (order_of was) since old → AreLarge base.config old → HasEnded next_tells ends found old new → has_begun found ≡ false → IsHindered ends old new
hinders spells configs sounds first_tells next_tells told also cold script answer ends base found J since t first last old new was ge le left good low large ended e =
    hindered ends ended.begun (ended.unstarted e) (ended.untouched e) ended.cause e
  where
    rs : Renewals
    rs = was.steps.renewals

    l : ℕ
    l = level_of was

    order : ℕ
    order = order_of was

    stays : (d : Dev) → StaysLost d old new
    stays d = (ended.lost e).stays (DiskPart d)

    -- what clashes with copies that agree isn't so
    never : (A : Type 0) → (AreGivenIn base J.batches → AreAlike form_reads base J was.steps.renewals t last → A → ⊥) → A → ⊥
    never A clash a =
        ∥∥₁_elim (was.steps.safe.alike told) (λ x y. absurd x) (λ (alike : AreAlwaysAlike form_reads base J was.steps.renewals since last).
        ∥∥₁_elim (was.steps.safe.paper told) (λ x y. absurd x) (λ (paper : PaperKept base since J.batches last). clash paper.given (alike t ge le) a))

    -- nor where levels and orders are as the run leaves them
    bounded : (A : Type 0) → ((is_renewed_at was.steps.renewals.first t ≡ false → AreBounded (level_of was) (order_of was) since (left_at last t Ckpt1))
        → (is_renewed_at was.steps.renewals.second t ≡ false → AreBounded (level_of was) (order_of was) since (left_at last t Ckpt2)) → A → ⊥) → A → ⊥
    bounded A clash a =
        let b = first_there cold first_tells script first (run_result answer base J since last) was told in
        let few = was.steps.safe.few told in
        ∥∥₁_elim (was.steps.safe.levels told) (λ x y. absurd x) (λ (levels : AreLevelsLow form_reads since J was.steps.renewals last).
        clash (bounds1 (level_of was) (order_of was) since J last was.steps.renewals levels few b t ge le) (bounds2 (level_of was) (order_of was) since J last was.steps.renewals levels few b t ge le) a)

    hindered : (s : Status) → Begins s found → IsNotStarted next_tells s old new → (s ≡ status.BothLost) ⊎ ((new ≡ old) ⊎ (next_tells → OnlyLookedAtAll old new)) → IsCaused s old new → has_begun found ≡ false → IsHindered s old new
    hindered status.Done begun why looked cause none = absurd (cc)
    hindered status.ConsoleFault begun why looked cause none = absurd (cc)
    hindered (status.NotFormatted one two) begun why looked cause none =
        let same = same_bytes next_tells also old new (not_lost ((new ≡ old) ⊎ (next_tells → OnlyLookedAtAll old new)) one two looked) in
        never (StartCauses next_tells (no_start.NotFormatted one two) old new)
        (λ given alike. bounded (StartCauses next_tells (no_start.NotFormatted one two) old new)
        (λ bound1 bound2 causes. some_found spells configs sounds l order since base J rs t last old left was.begun.sound given bound1 bound2 alike new low large ended.goes stays good next_tells also same.0 same.1 one two causes)) why
    hindered (status.DeviceSize dev size) begun why looked cause none =
        never (StartCauses next_tells (no_start.DeviceSize dev size) old new)
        (λ given alike. bounded (StartCauses next_tells (no_start.DeviceSize dev size) old new)
        (λ bound1 bound2 causes. none_small spells configs sounds l order since base J rs t last old left was.begun.sound given bound1 bound2 alike new low large ended.goes stays good next_tells also dev size causes)) why
    hindered status.BothLost begun why looked cause none = (cause.failed1 refl, cause.failed2 refl, why.0.failed)
    hindered status.Words begun why looked cause none = tt
    hindered (status.BadLine line cause) begun why looked caused none = tt
    hindered status.TooLong begun why looked cause none = tt
    hindered status.SourceFault begun why looked cause none = tt
    hindered status.NoMemory begun why looked cause none = tt
