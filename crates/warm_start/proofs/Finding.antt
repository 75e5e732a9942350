-- Which copy counts, and what becomes of the other one.
use Rattle.std.proofs.Common.{◌≡◌, ◌⊎◌, inl, inr, ℕ, ◌+◌, ◌*◌, ◌<◌, ◌≤◌, nat_le, ◌==◌, ◌&&◌, not, if◌then◌else◌, Bool, true, false, List, length, Option, Some, Result, Ok, Err, IfOk, IfErr, refl, sym, ◌∙◌, subst, arith}
use Rattle.std.proofs.lemmas.Option.{same_Some as some_is}
use Rattle.std.proofs.lemmas.Bool.{and_parts, not-false as not_false, not-true as not_true}
use Rattle.std.proofs.lemmas.Bool.Decides.{nat_tests}
use Rattle.mas_types.specs.declared.ids.Dev.{Dev}
use Rattle.mas_types.specs.declared.ids.Dev.TheVariants.{Ckpt1, Ckpt2, Spool}
use Rattle.mas_types.specs.declared.queues.Config.{Config}
use Rattle.mas_types.specs.Limits.{page_bytes}
use Rattle.spool_plant.specs.declared.plant.Part.TheVariants.{Disk as DiskPart}
use Rattle.ckpt_tables.specs.declared.tables.Tables.{Tables}
use Rattle.mas_types.specs.declared.ids.Page.{Page}
use Rattle.mas_types.specs.declared.answers.CopyState.{CopyState}
use Rattle.mas_types.specs.declared.answers.CopyState.TheVariants as state
use Rattle.spool_plant.specs.View.{View, Disk, disk_now}
use Rattle.ckpt_copy.specs.Pages.{bytes_of, level}
use Rattle.duplex_pair.specs.Both.{PairActed}
use Rattle.mas_complex.specs.Fits.{fits, differ_at, first_page}
use Rattle.mas_complex.proofs.Found.{fits_many, fits_same}
use Rattle.start_choice.specs.declared.choosing.Good.{Good as GoodPages}
use Rattle.start_choice.specs.declared.choosing.Judged.{Judged}
use Rattle.start_choice.specs.declared.choosing.Judged.TheVariants.{Good, Bad}
use Rattle.start_choice.specs.declared.choosing.Start.{Start}
use Rattle.start_choice.specs.declared.choosing.StartNo.{StartNo}
use Rattle.start_choice.specs.declared.choosing.StartNo.TheVariants as no_start
use Rattle.start_choice.specs.Usable.{AreOf, HaveSize, AreUsable}
use Rattle.start_choice.specs.Choosing.{IsFew, HasFew, is_lower, started, neither, chosen}
use Rattle.warm_start.specs.Judging.{Has, HasRoomBy}
use Rattle.warm_start.specs.Inspecting.{HasState, FindsNone}
use Rattle.warm_start.specs.Starting.{IsFound, mark_of, Fitting, Chosen, IsCauseOf, IsSmall, IsSmallAt, IsSmallVolumeAt, IsState}
use Rattle.warm_start.proofs.Seeing.{Judges, Seeing, state_of, same_pages}

-- whatever pages were seen, they are those that don't fit
unfit_of : (found own pages : List Page) (room : ℕ) (seen : Option (List ℕ)) → seen ≡ Some (bytes_of own) → HaveSize own → not (fits found own room) ≡ true → seen ≡ Some (bytes_of pages) → HaveSize pages → fits found pages room ≡ false
unfit_of found own pages room seen is sized not_fit e size =
    subst (λ (ps : List Page). fits found ps room ≡ false) (same_pages own pages sized size (some_is (bytes_of own) (bytes_of pages) (sym is ∙ e))) (not_true (fits found own room) not_fit)

-- pages that fit are equal, or lag one level behind
pub fits_either : (found other : List Page) (room : ℕ) → fits found other room ≡ true
    → ((level (bytes_of other) ≡ level (bytes_of found)) × (bytes_of other ≡ bytes_of found)) ⊎ ((level (bytes_of found) ≡ level (bytes_of other) + 1) × (1 ≤ room))
fits_either found other room is = by_level (level (bytes_of other) == level (bytes_of found)) refl where
  by_level : (b : Bool) → (level (bytes_of other) == level (bytes_of found)) ≡ b
      → ((level (bytes_of other) ≡ level (bytes_of found)) × (bytes_of other ≡ bytes_of found)) ⊎ ((level (bytes_of found) ≡ level (bytes_of other) + 1) × (1 ≤ room))
  by_level true e =
      let same : level (bytes_of other) ≡ level (bytes_of found) = grind (arith, nat_tests) in
      inl (same, fits_same found other room same is)
  by_level false e =
      let rest : ((level (bytes_of other) + 1 == level (bytes_of found)) && (nat_le 1 room && differ_at (first_page found) (level (bytes_of found)) 0 found other)) ≡ true = rw e at is in
      let parts = and_parts (level (bytes_of other) + 1 == level (bytes_of found)) (nat_le 1 room && differ_at (first_page found) (level (bytes_of found)) 0 found other) rest in
      let room_parts = and_parts (nat_le 1 room) (differ_at (first_page found) (level (bytes_of found)) 0 found other) parts.1 in
      let one : (level (bytes_of other) + 1 == level (bytes_of found)) ≡ true = parts.0 in
      let enough : nat_le 1 room ≡ true = room_parts.0 in
      inr (grind (arith, nat_tests), grind (arith, nat_tests))

no_error : (b : Bool) (x y : Start) (P : StartNo → Type 0) → IfErr (if b then Ok x else Ok y) P
no_error true x y P = tt
no_error false x y P = tt

few_if : (b : Bool) (one two : GoodPages) (x y : ℕ) → IsFew one → IsFew two → IfOk {E = StartNo} (if b then Ok (started Ckpt2 two one x) else Ok (started Ckpt1 one two y)) (λ start. IsFew start.found)
few_if true one two x y few1 few2 = few2
few_if false one two x y few1 few2 = few1

-- the pages of a choice are few
pub chosen_few : (one two : Judged) (x y : ℕ) → HasFew one → HasFew two → IfOk (chosen one x two y) (λ start. IsFew start.found)
chosen_few (Good one) (Good two) x y few1 few2 = few_if (is_lower one two) one two x y few1 few2
chosen_few (Good one) (Bad why) x y few1 few2 = few1
chosen_few (Bad why) (Good two) x y few1 few2 = few2
chosen_few (Bad first) (Bad second) x y few1 few2 = tt

module _ {C : Type 0} (count room : C → ℕ) (room_most : ℕ) (room_in : List ℕ → ℕ) (ready : C → View → Type 0) (reads : List ℕ → Option (List ℕ)) (rests : C → List ℕ → Disk → Type 0) (tells : Type 0)
    (old v : View) (first second : C) (alive1 alive2 : Bool) (found1 found2 : ℕ) where
  abbrev Has1 : List Page → Type 0
  Has1 pages = Has count room room_most ready rests tells Ckpt1 v first alive1 found1 pages

  abbrev Has2 : List Page → Type 0
  Has2 pages = Has count room room_most ready rests tells Ckpt2 v second alive2 found2 pages

  abbrev Fits1 : List Page → Type 0
  Fits1 pages = Fitting count room room_most ready rests tells Ckpt1 v first alive1 found1 pages

  abbrev Fits2 : List Page → Type 0
  Fits2 pages = Fitting count room room_most ready rests tells Ckpt2 v second alive2 found2 pages

  abbrev J1 : Judged → Type 0
  J1 j = Judges count room room_most ready reads rests tells Ckpt1 v first alive1 found1 j

  abbrev J2 : Judged → Type 0
  J2 j = Judges count room room_most ready reads rests tells Ckpt2 v second alive2 found2 j

  abbrev S1 : Judged → Type 0
  S1 j = Seeing count room room_most ready reads rests tells Ckpt1 old v j

  abbrev S2 : Judged → Type 0
  S2 j = Seeing count room room_most ready reads rests tells Ckpt2 old v j

  abbrev R1 : Judged → Type 0
  R1 j = HasRoomBy room room_in first j (disk_now old Ckpt1).bytes

  abbrev R2 : Judged → Type 0
  R2 j = HasRoomBy room room_in second j (disk_now old Ckpt2).bytes

  abbrev pub Chose : Start → Type 0
  Chose start = Chosen count room room_most room_in ready reads rests tells old v first second alive1 alive2 found1 found2 start

  own1 : (pages : List Page) → Has1 pages → Fits1 pages
  own1 pages has = record { own = pages; has = has; as_many = refl; either = inl (refl, refl) }

  own2 : (pages : List Page) → Has2 pages → Fits2 pages
  own2 pages has = record { own = pages; has = has; as_many = refl; either = inl (refl, refl) }

  beside1 : (pages own : List Page) → Has1 own → fits pages own (room first) ≡ true → Fits1 pages
  beside1 pages own has fit = record { own = own; has = has; as_many = fits_many pages own (room first) fit; either = fits_either pages own (room first) fit }

  beside2 : (pages own : List Page) → Has2 own → fits pages own (room second) ≡ true → Fits2 pages
  beside2 pages own has fit = record { own = own; has = has; as_many = fits_many pages own (room second) fit; either = fits_either pages own (room second) fit }

  are_usable : (good : GoodPages) → HaveSize good.pages → AreOf good.pages good.tables → AreUsable (bytes_of good.pages)
  are_usable good sized are = record { pages = good.pages; sized = sized; joined = refl; usable = (good.tables, are) }

  -- the state of a copy in the words of a look
  has_state : (dev : Dev) (alive : Bool) (why : CopyState) → IsState reads tells dev v alive why → HasState reads tells dev v why
  has_state dev alive state.Lost s = s.lost
  has_state dev alive state.Unread s = (s.there, λ told. (s.none told).now)
  has_state dev alive state.Unsound s = (s.1, s.2)

  module _ (rests_now1 : (pages : List ℕ) (d : Disk) → rests first pages d → reads d.bytes ≡ Some pages) (rests_now2 : (pages : List ℕ) (d : Disk) → rests second pages d → reads d.bytes ≡ Some pages) where
    found_both : (one two : GoodPages) → J1 (Good one) → J2 (Good two) → (tells → S1 (Good one)) → (tells → S2 (Good two)) → (tells → R1 (Good one)) → (tells → R2 (Good two)) → (b : Bool) → is_lower one two ≡ b
        → Chose (if b then started Ckpt2 two one (room first) else started Ckpt1 one two (room second))
    found_both one two j1 j2 s1 s2 r1 r2 true e =
        let lt : level (bytes_of one.pages) < level (bytes_of two.pages) = grind (arith, nat_tests) in record {
          usable = j2.1;
          sized = j2.0.sized;
          found = λ told. let x = s1 told in let y = s2 told in record {
            one = x.seen;
            two = y.seen;
            seen1 = x.is;
            seen2 = y.is;
            usable = are_usable two j2.0.sized j2.1;
            best = inr (y.as_judged, λ bytes is usable. subst (λ (b : List ℕ). level b < level (bytes_of two.pages)) (some_is (bytes_of one.pages) bytes (sym x.as_judged ∙ is)) lt);
          };
          fits1 = λ stays alive. beside1 two.pages one.pages j1.0 (not_false (fits two.pages one.pages (room first)) stays);
          fits2 = λ stays alive. own2 two.pages j2.0;
          unfit1 = λ told to_go. let x = s1 told in record { seen = x.seen; is = x.is; unfit = λ own e sized usable. subst (λ (n : ℕ). fits two.pages own n ≡ false) (r1 told) (unfit_of two.pages one.pages own (room first) x.seen x.as_judged j1.0.sized to_go e sized) };
          unfit2 = λ told to_go. absurd (cc);
          one = inr (refl, j2.0);
        }
    found_both one two j1 j2 s1 s2 r1 r2 false e =
        let le : level (bytes_of two.pages) ≤ level (bytes_of one.pages) = grind (arith, nat_tests) in record {
          usable = j1.1;
          sized = j1.0.sized;
          found = λ told. let x = s1 told in let y = s2 told in record {
            one = x.seen;
            two = y.seen;
            seen1 = x.is;
            seen2 = y.is;
            usable = are_usable one j1.0.sized j1.1;
            best = inl (x.as_judged, λ bytes is usable. subst (λ (b : List ℕ). level b ≤ level (bytes_of one.pages)) (some_is (bytes_of two.pages) bytes (sym y.as_judged ∙ is)) le);
          };
          fits1 = λ stays alive. own1 one.pages j1.0;
          fits2 = λ stays alive. beside2 one.pages two.pages j2.0 (not_false (fits one.pages two.pages (room second)) stays);
          unfit1 = λ told to_go. absurd (cc);
          unfit2 = λ told to_go. let y = s2 told in record { seen = y.seen; is = y.is; unfit = λ own e sized usable. subst (λ (n : ℕ). fits one.pages own n ≡ false) (r2 told) (unfit_of one.pages two.pages own (room second) y.seen y.as_judged j2.0.sized to_go e sized) };
          one = inl (refl, j1.0);
        }

    -- a choice that names a copy
    pub chosen_found : (one two : Judged) → J1 one → J2 two → (tells → S1 one) → (tells → S2 two) → (tells → R1 one) → (tells → R2 two) → IfOk (chosen one (room first) two (room second)) Chose
    chosen_found (Good one) (Good two) j1 j2 s1 s2 r1 r2 = by_level (is_lower one two) (found_both one two j1 j2 s1 s2 r1 r2 (is_lower one two) refl) where
      by_level : (b : Bool) → Chose (if b then started Ckpt2 two one (room first) else started Ckpt1 one two (room second))
          → IfOk {E = StartNo} (if b then Ok (started Ckpt2 two one (room first)) else Ok (started Ckpt1 one two (room second))) Chose
      by_level true is = is
      by_level false is = is
    chosen_found (Good one) (Bad why) j1 j2 s1 s2 r1 r2 = record {
      usable = j1.1;
      sized = j1.0.sized;
      found = λ told. let x = s1 told in let y = s2 told in record {
        one = x.seen;
        two = y.seen;
        seen1 = x.is;
        seen2 = y.is;
        usable = are_usable one j1.0.sized j1.1;
        best = inl (x.as_judged, λ bytes is usable. absurd (y.as_judged bytes is usable));
      };
      fits1 = λ stays alive. own1 one.pages j1.0;
      fits2 = λ stays alive. absurd (cc);
      unfit1 = λ told to_go. absurd (cc);
      unfit2 = λ told to_go. let y = s2 told in record { seen = y.seen; is = y.is; unfit = λ own e sized usable. absurd (y.as_judged (bytes_of own) e (record { pages = own; sized = sized; joined = refl; usable = usable })) };
      one = inl (refl, j1.0);
    }
    chosen_found (Bad why) (Good two) j1 j2 s1 s2 r1 r2 = record {
      usable = j2.1;
      sized = j2.0.sized;
      found = λ told. let x = s1 told in let y = s2 told in record {
        one = x.seen;
        two = y.seen;
        seen1 = x.is;
        seen2 = y.is;
        usable = are_usable two j2.0.sized j2.1;
        best = inr (y.as_judged, λ bytes is usable. absurd (x.as_judged bytes is usable));
      };
      fits1 = λ stays alive. absurd (cc);
      fits2 = λ stays alive. own2 two.pages j2.0;
      unfit1 = λ told to_go. let x = s1 told in record { seen = x.seen; is = x.is; unfit = λ own e sized usable. absurd (x.as_judged (bytes_of own) e (record { pages = own; sized = sized; joined = refl; usable = usable })) };
      unfit2 = λ told to_go. absurd (cc);
      one = inr (refl, j2.0);
    }
    chosen_found (Bad first) (Bad second) j1 j2 s1 s2 r1 r2 = tt

    -- a choice that names no copy
    pub chosen_none : (needs : ℕ → ℕ) (one two : Judged) → J1 one → J2 two → IfErr (chosen one (room first) two (room second)) (IsCauseOf reads tells needs old v alive1 alive2)
    chosen_none needs (Good one) (Good two) j1 j2 = no_error (is_lower one two) (started Ckpt2 two one (room first)) (started Ckpt1 one two (room second)) (IsCauseOf reads tells needs old v alive1 alive2)
    chosen_none needs (Good one) (Bad why) j1 j2 = tt
    chosen_none needs (Bad why) (Good two) j1 j2 = tt
    chosen_none needs (Bad a) (Bad b) j1 j2 = by_states a b (state1 a j1) (state2 b j2) where
      state1 : (why : CopyState) → J1 (Bad why) → IsState reads tells Ckpt1 v alive1 why
      state1 why j = state_of count room room_most ready reads rests tells Ckpt1 v first alive1 found1 rests_now1 why j

      state2 : (why : CopyState) → J2 (Bad why) → IsState reads tells Ckpt2 v alive2 why
      state2 why j = state_of count room room_most ready reads rests tells Ckpt2 v second alive2 found2 rests_now2 why j

      by_states : (x y : CopyState) → IsState reads tells Ckpt1 v alive1 x → IsState reads tells Ckpt2 v alive2 y → IsCauseOf reads tells needs old v alive1 alive2 (neither x y)
      by_states state.Lost state.Lost s t = (s.is_dead, t.is_dead)
      by_states state.Lost state.Unread s t = (s, t, tt)
      by_states state.Lost state.Unsound s t = (s, t, tt)
      by_states state.Unread state.Lost s t = (s, t, tt)
      by_states state.Unread state.Unread s t = (s, t, tt)
      by_states state.Unread state.Unsound s t = (s, t, tt)
      by_states state.Unsound state.Lost s t = (s, t, tt)
      by_states state.Unsound state.Unread s t = (s, t, tt)
      by_states state.Unsound state.Unsound s t = (s, t, tt)

    -- why no queue is found where a choice names no copy
    pub chosen_nothing : (needs : ℕ → ℕ) (one two : Judged) → J1 one → J2 two → PairActed 0 true alive1 true alive2 false old v → IfErr (chosen one (room first) two (room second)) (FindsNone reads tells needs old v)
    chosen_nothing needs (Good one) (Good two) j1 j2 acted = no_error (is_lower one two) (started Ckpt2 two one (room first)) (started Ckpt1 one two (room second)) (FindsNone reads tells needs old v)
    chosen_nothing needs (Good one) (Bad why) j1 j2 acted = tt
    chosen_nothing needs (Bad why) (Good two) j1 j2 acted = tt
    chosen_nothing needs (Bad a) (Bad b) j1 j2 acted = by_states a b (state1 a j1) (state2 b j2) where
      state1 : (why : CopyState) → J1 (Bad why) → IsState reads tells Ckpt1 v alive1 why
      state1 why j = state_of count room room_most ready reads rests tells Ckpt1 v first alive1 found1 rests_now1 why j

      state2 : (why : CopyState) → J2 (Bad why) → IsState reads tells Ckpt2 v alive2 why
      state2 why j = state_of count room room_most ready reads rests tells Ckpt2 v second alive2 found2 rests_now2 why j

      by_states : (x y : CopyState) → IsState reads tells Ckpt1 v alive1 x → IsState reads tells Ckpt2 v alive2 y → FindsNone reads tells needs old v (neither x y)
      by_states state.Lost state.Lost s t = ((s.lost, acted.failed1 refl s.is_dead), (t.lost, acted.failed2 refl t.is_dead))
      by_states state.Lost state.Unread s t = (s.lost, has_state Ckpt2 alive2 state.Unread t, tt)
      by_states state.Lost state.Unsound s t = (s.lost, has_state Ckpt2 alive2 state.Unsound t, tt)
      by_states state.Unread state.Lost s t = (has_state Ckpt1 alive1 state.Unread s, t.lost, tt)
      by_states state.Unread state.Unread s t = (has_state Ckpt1 alive1 state.Unread s, has_state Ckpt2 alive2 state.Unread t, tt)
      by_states state.Unread state.Unsound s t = (has_state Ckpt1 alive1 state.Unread s, has_state Ckpt2 alive2 state.Unsound t, tt)
      by_states state.Unsound state.Lost s t = (has_state Ckpt1 alive1 state.Unsound s, t.lost, tt)
      by_states state.Unsound state.Unread s t = (has_state Ckpt1 alive1 state.Unsound s, has_state Ckpt2 alive2 state.Unread t, tt)
      by_states state.Unsound state.Unsound s t = (has_state Ckpt1 alive1 state.Unsound s, has_state Ckpt2 alive2 state.Unsound t, tt)

-- a device that is too small for the pages found, or for the groups of their configuration
pub small_cause : (reads : List ℕ → Option (List ℕ)) (tells : Type 0) (needs : ℕ → ℕ) (old v : View) (alive1 alive2 : Bool) (pages : List Page) (t : Tables) (needed : ℕ) → needed ≡ needs (length pages) → AreOf pages t → HaveSize pages → (tells → IsFound reads old v (mark_of v) (bytes_of pages))
    → (why : StartNo) → IsSmallAt needed t.config v why → IsCauseOf reads tells needs old v alive1 alive2 why
small_cause reads tells needs old v alive1 alive2 pages t needed is are sized found (no_start.DeviceSize dev size) small = (pages, t, are, sized, found, subst (λ (n : ℕ). IsSmall n t.config dev size v) is small)
small_cause reads tells needs old v alive1 alive2 pages t needed is are sized found (no_start.NotFormatted first second) small = absurd small
small_cause reads tells needs old v alive1 alive2 pages t needed is are sized found no_start.BothLost small = absurd small
small_cause reads tells needs old v alive1 alive2 pages t needed is are sized found no_start.NoMemory small = absurd small

-- a volume that is too small
pub small_volume : (config : Config) (n size needed : ℕ) (v : View) (why : StartNo) → needed ≡ page_bytes * config.groups → 1 ≤ n → n ≤ config.volumes → (why ≡ no_start.DeviceSize (Spool n) size) × (size < needed) × (v.lost (DiskPart (Spool n)) ≡ false) → size ≡ v.size (Spool n)
    → ((m : ℕ) → 1 ≤ m → m < n → v.lost (DiskPart (Spool m)) ≡ false → page_bytes * config.groups ≤ v.size (Spool m)) → IsSmallVolumeAt config v why
small_volume config n size needed v why need some few is at before =
    subst (IsSmallVolumeAt config v) (sym is.0) (at, record { some = some; few = few; there = is.2; small = omega (arith, is.1, at, need); before = before })

-- a volume is too small, after copies that are large enough
pub small_behind : (needed : ℕ) (config : Config) (v : View) (r : Result (Unit {0}) StartNo) → needed ≤ v.size Ckpt1 → needed ≤ v.size Ckpt2 → IfErr r (IsSmallVolumeAt config v) → IfErr r (IsSmallAt needed config v)
small_behind needed config v (Ok done) one two small = tt
small_behind needed config v (Err (no_start.DeviceSize (Spool n) size)) one two small = (small.0, small.1, one, two)
small_behind needed config v (Err (no_start.DeviceSize Ckpt1 size)) one two small = absurd small
small_behind needed config v (Err (no_start.DeviceSize Ckpt2 size)) one two small = absurd small
small_behind needed config v (Err (no_start.NotFormatted first second)) one two small = absurd small
small_behind needed config v (Err no_start.BothLost) one two small = absurd small
small_behind needed config v (Err no_start.NoMemory) one two small = absurd small
