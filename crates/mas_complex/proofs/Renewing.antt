-- A copy is replaced: the moments at which it isn't good for that, and what the shared value keeps through it.
use Rattle.mas_complex.proofs.Names.{AreNotedBefore, AreLater, Page, bytes_of, slice_set, values_of, page_count, no_more_image, ◌≡◌, ◌⊎◌, inl, ℕ, ◌≤◌, ◌<◌, ◌&&◌, ◌||◌, ◌≢◌, nat_le, nat_lt, Bool, true, false, List, ◌∷◌, ◌++◌, map, Option, Some, None, Result, IsErrOf, refl, sym, ◌∙◌, ap, subst, arith, le_refl, is_none, not, nat_tests, Dev, Ckpt1, Ckpt2, Spool, View, ViewDisk as Disk, disk_at, disk_now, top, either_way, IsCkpt, pick, other, Replaces, WhileReplaced, IsOrForms, Elsewhere, Renewal, Renewals, has_ended, is_renewed_at, is_open, of_device, HasEndedBy, AreRenewedBy, or_at, ended_at, ended_on, begun_on, with_device, Before, Setting, IsStale, ReadsStale, ReadsBy, IsAt, IsAway, Copy, CopyAt, Keeps, PlantGhosts, Ghosts as CopyGhosts, SteadyGhosts, Complex, copy_of, is_away, Half, World, and_cases, inr, ⊎_elim, [], true≢false, Place, or_right as or_true, not-false as is_not, rules}
use Rattle.mas_complex.proofs.Moves.{other_keep, with_other}
use Rattle.mas_complex.proofs.Basics.{no, some_is, Passes, still_none, each, of_if}
use Rattle.mas_complex.proofs.Counted.{wires_none, wires_of}
use Rattle.mas_complex.proofs.Pasts.{noted_later}
use Rattle.mas_complex.proofs.Sides.{at_place, kept_read, lost_more, rests_before}
use Rattle.mas_complex.proofs.Values.{Call, Laws, copy_near, copy_there, here, keeps_same, near_dev, near_it, near_place, new, of_both, of_near, old, place_is, there, KeepsAt, KeepsOn, copies_of, half_of, past_of, place_of, setting_of, view_of}
use Rattle.pair_replacing.specs.declared.replacing.ReplaceNo.{ReplaceNo}
use Rattle.pair_replacing.specs.declared.replacing.ReplaceNo.TheVariants.{Failed, Halted}

-- WHEN A COPY IS BEING REPLACED

not_le : (u t : ℕ) → t < u → nat_le u t ≡ false
not_le u t lt = grind (arith, nat_tests)

ended_before : (until : Option ℕ) (u t : ℕ) → t < u → has_ended (or_at u until) t ≡ has_ended until t
ended_before None u t lt = not_le u t lt
ended_before (Some w) u t lt = refl

-- a replacement that ends now counted as began before
pub renewed_before : (rs : List Renewal) (u t : ℕ) → t < u → is_renewed_at (map (ended_at u) rs) t ≡ is_renewed_at rs t
renewed_before [] u t lt = refl
renewed_before (r ∷ rs) u t lt =
    ap (λ (b : Bool). (nat_le r.from t && not b) || is_renewed_at (map (ended_at u) rs) t) (ended_before r.until u t lt)
    ∙ ap (λ (b : Bool). (nat_le r.from t && not (has_ended r.until t)) || b) (renewed_before rs u t lt)

none_left : (until : Option ℕ) (u : ℕ) → is_none (or_at u until) ≡ false
none_left None u = refl
none_left (Some w) u = refl

pub none_open : (rs : List Renewal) (u : ℕ) → is_open (map (ended_at u) rs) ≡ false
none_open [] u = refl
none_open (r ∷ rs) u = ap (λ (b : Bool). b || is_open (map (ended_at u) rs)) (none_left r.until u) ∙ none_open rs u

ended_by : (until : Option ℕ) (u : ℕ) → HasEndedBy until u → HasEndedBy (or_at u until) u
ended_by None u by = le_refl u
ended_by (Some w) u by = by

pub all_ended_by : (rs : List Renewal) (u : ℕ) → AreRenewedBy rs u → AreRenewedBy (map (ended_at u) rs) u
all_ended_by [] u by = tt
all_ended_by (r ∷ rs) u by = (by.0, ended_by r.until u by.1, all_ended_by rs u by.2)

-- a replacement that begins now
abbrev pub beginning : ℕ → Renewal
beginning from = record { from = from; until = None }

pub before_beginning : (rs : List Renewal) (from t : ℕ) → t < from → is_renewed_at (rs ++ beginning from ∷ []) t ≡ is_renewed_at rs t
before_beginning [] from t lt = ap (λ (b : Bool). (b && true) || false) (not_le from t lt)
before_beginning (r ∷ rs) from t lt = ap (λ (b : Bool). (nat_le r.from t && not (has_ended r.until t)) || b) (before_beginning rs from t lt)

pub is_begun : (rs : List Renewal) (from : ℕ) → is_open (rs ++ beginning from ∷ []) ≡ true
is_begun [] from = refl
is_begun (r ∷ rs) from = or_true (is_none r.until) (is_open (rs ++ beginning from ∷ [])) (is_begun rs from)

pub begun_by : (rs : List Renewal) (now : ℕ) → AreRenewedBy rs now → AreRenewedBy (rs ++ beginning now ∷ []) now
begun_by [] now by = (le_refl now, tt, tt)
begun_by (r ∷ rs) now by = (by.0, by.1, begun_by rs now by.2)

-- pages are noted that each copy reads which counts as alive, as before any batch: with none in flight
module _ {P C : Type 0} {plants : PlantGhosts P} {steadies : SteadyGhosts C} {copies : CopyGhosts C} (s : Complex P C plants steadies copies) (laws : Laws plants steadies copies) (k : KeepsAt s (view_of s)) where
  pub noted_keep : (by : ℕ) (pages : List Page) → ((d : Dev) → IsCkpt d → (half_of s d).alive ≡ true → place_of s d ≡ Before) → ((d : Dev) → IsCkpt d → (half_of s d).alive ≡ true → copies.reads (disk_now (view_of s) d).bytes ≡ Some (bytes_of pages))
      → Keeps (with_other (setting_of s) s.renewals (slice_set (values_of s.had) by pages)) (past_of s) s.current s.level (copies_of s) (view_of s)
  noted_keep by pages before reads = other_keep (setting_of s) s.renewals (slice_set (values_of s.had) by pages) (past_of s) s.current s.level (copies_of s) (copies_of s) (view_of s) k
      (record { was = k.pages.was; coming = None; stands = k.pages.stands; comes = tt; none = λ _. refl; near = k.pages.near; comes_near = tt }) k.renewed (λ d ckpt t lt. refl)
      (λ d ckpt. let x = k.at d ckpt in record { at = λ is. subst (λ (p : Place). IsAt (setting_of s) (copies_of s d) k.pages.was None p (disk_now (view_of s) d)) (sym (before d ckpt is)) (rests_before (setting_of s) k.pages.was k.pages.coming (copies_of s d) d (view_of s) x (before d ckpt) is); formed = x.formed; gone = x.gone })
      (λ d ckpt is. let same = kept_read (setting_of s) k.pages.was k.pages.coming d (copies_of s d) (view_of s) (bytes_of pages) (k.at d ckpt) (before d ckpt) (λ was x r. laws.rests_now (half_of s d).copy was x r) (reads d ckpt) is in (
        subst (λ (l : List ℕ). AreLater (page_count s.base.config) (slice_set (values_of s.had) by pages) l) (sym same)
            (noted_later (page_count s.base.config) (values_of s.had) by pages (subst (λ (l : List ℕ). AreLater (page_count s.base.config) (values_of s.had) l) same (k.later d ckpt is).0)),
        tt,
      ))

-- THE CALL

-- while a copy is replaced by one of the kept pages, an image of it reads as none, or as pages that were kept by then
pub stale_forms : (S : Setting) (was pages : List ℕ) → pages ≡ was → (old d : Disk) → ReadsStale S was old → IsOrForms S.reads old pages d → ReadsStale S was d
stale_forms S was pages same old d stale is = ⊎_elim
    (λ so image im. stale image (no_more_image old d image (lost_more old d so) im))
    (λ forms image im. ⊎_elim (λ none. subst (IsStale was) (sym none) tt) (λ some. subst (IsStale was) (sym some) (inl same)) (forms image im))
    is

-- a copy that counts as lost leaves no image, or stale ones
away_stale : (S : Setting) (was : List ℕ) (renewed : Bool) (now : ℕ) (d : Disk) → now < top → IsAway S was renewed now d → ReadsStale S was d
away_stale S was false now d lt away = λ image is. absurd (true≢false (sym (away lt) ∙ is.there))
away_stale S was true now d lt away = away

-- what holds of the renewals of each copy, where those of one become this list
of_lists : (P : Dev → List Renewal → Type 0) (dev : Dev) → IsCkpt dev → (l : List Renewal) (rs : Renewals) → P dev l → ((d : Dev) → IsCkpt d → d ≢ dev → P d (of_device d rs)) → (d : Dev) → IsCkpt d → P d (of_device d (with_device dev l rs))
of_lists P Ckpt1 ckpt l rs here all = each (λ d. P d (of_device d (with_device Ckpt1 l rs))) here (all Ckpt2 tt (λ e. absurd (cc)))
of_lists P Ckpt2 ckpt l rs here all = each (λ d. P d (of_device d (with_device Ckpt2 l rs))) (all Ckpt1 tt (λ e. absurd (cc))) here
of_lists P (Spool n) ckpt l rs here all = absurd ckpt

module _ {P C : Type 0} {plants : PlantGhosts P} {steadies : SteadyGhosts C} {copies : CopyGhosts C} (x : Call plants steadies copies) where
  abbrev s : Complex P C plants steadies copies
  s = x.was

  abbrev S : Setting
  S = setting_of s

  -- the pages that the other copy reads are the kept ones
  pub same_was : (v : View) (keeps : KeepsAt s v) → (near_it x).alive ≡ true → near_place x ≡ Before → (pages : List ℕ) → S.reads (disk_now v (near_dev x)).bytes ≡ Some pages → pages ≡ keeps.pages.was
  same_was v keeps beside before pages reads =
      let there = of_near x (λ d h p. CopyAt S keeps.pages.was keeps.pages.coming d (copy_of copies.rests copies.holds h p) v) keeps.at in
      some_is pages keeps.pages.was (sym reads ∙ x.laws.rests_now (near_it x).copy keeps.pages.was (disk_now v (near_dev x)) (rests_before S keeps.pages.was keeps.pages.coming (copy_near x) (near_dev x) v there (λ _. before) beside))

  -- the moments of the copy on the device change, and with them that copy
  module _ (v : View) (keeps : KeepsAt s v) where
    -- the copy on a device, with these renewals
    abbrev Renewed : Dev → Copy → List Renewal → Type 0
    Renewed d c l = record {
      at : c.alive ≡ true → IsAt S c keeps.pages.was keeps.pages.coming c.place (disk_now v d);
      formed : c.alive ≡ true → is_open l ≡ false;
      gone : c.alive ≡ false → IsAway S keeps.pages.was (is_open l) v.now (disk_now v d);
    }

    renewals_on : (list : List Renewal) → AreRenewedBy list v.now → (copies' : Dev → Copy) → ((t : ℕ) → t < v.now → is_renewed_at list t ≡ is_renewed_at (of_device x.dev S.renewals) t)
        → Renewed x.dev (copies' x.dev) list → ((d : Dev) → IsCkpt d → d ≢ x.dev → Renewed d (copies' d) (of_device d S.renewals)) → ((d : Dev) → IsCkpt d → (copies' d).alive ≡ true → AreNotedBefore S keeps.pages.was keeps.pages.coming)
        → Keeps (with_other S (with_device x.dev list S.renewals) S.had) (past_of s) s.current s.level copies' v
    renewals_on list by copies' before here beside later = other_keep S (with_device x.dev list S.renewals) S.had (past_of s) s.current s.level (copies_of s) copies' v keeps keeps.pages
        (of_lists (λ d l. AreRenewedBy l v.now) x.dev x.ckpt list S.renewals by (λ d ckpt _. keeps.renewed d ckpt))
        (of_lists (λ d l. (t : ℕ) → t < v.now → is_renewed_at l t ≡ is_renewed_at (of_device d S.renewals) t) x.dev x.ckpt list S.renewals before (λ d ckpt _ t lt. refl))
        (λ d ckpt. let y = of_lists (λ d l. Renewed d (copies' d) l) x.dev x.ckpt list S.renewals here beside d ckpt in record { at = y.at; formed = y.formed; gone = y.gone }) later

  -- a replacement begins
  pub begun_keep : (v : View) (keeps : KeepsAt s v) → (half_of s x.dev).alive ≡ false → Keeps (with_other S (begun_on x.dev v.now S.renewals) S.had) (past_of s) s.current s.level (copies_of s) v
  begun_keep v keeps dead = of_if (λ (rs : Renewals). Keeps (with_other S rs S.had) (past_of s) s.current s.level (copies_of s) v) (nat_lt v.now top) (with_device x.dev list S.renewals) S.renewals
      (λ e. renewals_on v keeps list (begun_by (of_device x.dev S.renewals) v.now (keeps.renewed x.dev x.ckpt)) (copies_of s) (λ t before. before_beginning (of_device x.dev S.renewals) v.now t before)
      (record { at = λ is. absurd (no (half_of s x.dev).alive is dead); formed = λ is. absurd (no (half_of s x.dev).alive is dead); gone = λ _. stale (below e) })
      (λ d ckpt _. let y = keeps.at d ckpt in record { at = y.at; formed = y.formed; gone = y.gone }) keeps.later)
      (λ _. keeps) where
        list : List Renewal
        list = of_device x.dev S.renewals ++ beginning v.now ∷ []

        below : nat_lt v.now top ≡ true → v.now < top
        below e = grind (arith, nat_tests)

        stale : v.now < top → IsAway S keeps.pages.was (is_open list) v.now (disk_now v x.dev)
        stale lt = subst (λ (b : Bool). IsAway S keeps.pages.was b v.now (disk_now v x.dev)) (sym (is_begun (of_device x.dev S.renewals) v.now)) (away_stale S keeps.pages.was (is_away S x.dev) v.now (disk_now v x.dev) lt ((keeps.at x.dev x.ckpt).gone dead))

  -- the device is replaced by one with the pages that the other copy reads, and its copy still counts as lost
  module _ (pages : List ℕ) (keeps : KeepsAt s (old x)) (passes : Passes (old x) (new x)) (was_dead : (here x).alive ≡ false) (dead : (there x).alive ≡ false) (began : (old x).now < top → is_away S x.dev ≡ true)
      (beside : (near_it x).alive ≡ true) (before : near_place x ≡ Before) (reads : S.reads (disk_now (old x) (near_dev x)).bytes ≡ Some pages) (m : WhileReplaced x.dev (IsOrForms S.reads (disk_now (old x) x.dev) pages) (old x) (new x)) where
    -- an image of the copy that is being replaced
    stale : is_away S x.dev ≡ true → (d : Disk) → IsOrForms S.reads (disk_now (old x) x.dev) pages d → ReadsStale S keeps.pages.was d
    stale is d forms = stale_forms S keeps.pages.was pages (same_was (old x) keeps beside before pages reads) (disk_now (old x) x.dev) d (subst (λ (b : Bool). IsAway S keeps.pages.was b (old x).now (disk_now (old x) x.dev)) is ((keeps.at x.dev x.ckpt).gone was_dead)) forms

    away : (b : Bool) → is_away S x.dev ≡ b → IsAway S keeps.pages.was b (new x).now (disk_now (new x) x.dev)
    away true e = stale e (disk_now (new x) x.dev) (m.here (new x).now passes.later (le_refl (new x).now))
    away false e = λ lt. ⊎_elim
        (λ le. absurd (omega (arith, le, lt, passes.later)))
        (λ below. absurd (true≢false (sym (began below) ∙ e)))
        (either_way top (old x).now)

    pub replaced_keep : Elsewhere x.dev (old x) (new x) → KeepsOn s x.pair x.first x.second (new x)
    replaced_keep e = keeps_same x passes e (λ is. absurd (no (there x).alive is dead)) keeps (record {
      during = λ t from le lt. let is = began lt in subst (λ (b : Bool). ReadsBy S b keeps.pages.was keeps.pages.coming (disk_at (new x) t x.dev)) (sym is) (stale is (disk_at (new x) t x.dev) (m.here t from le));
      after = record { at = λ is. absurd (no (there x).alive is dead); formed = λ is. absurd (no (there x).alive is dead); gone = λ _. away (is_away S x.dev) refl };
    })

  -- the new copy is good from now on
  pub ended_keep : (v : View) (keeps : KeepsAt s v) → (there x).alive ≡ true → place_is x ≡ Before → copies.rests (there x).copy keeps.pages.was (disk_now v x.dev)
      → (near_it x).alive ≡ true → Keeps (with_other S (ended_on x.dev v.now S.renewals) S.had) (past_of s) s.current s.level (λ d. copy_of copies.rests copies.holds (pick d x.pair.first x.pair.second) (pick d x.first x.second)) v
  ended_keep v keeps is before rest beside =
      let copies' : Dev → Copy = λ d. copy_of copies.rests copies.holds (pick d x.pair.first x.pair.second) (pick d x.first x.second) in
      renewals_on v keeps (map (ended_at v.now) (of_device x.dev S.renewals)) (all_ended_by (of_device x.dev S.renewals) v.now (keeps.renewed x.dev x.ckpt)) copies' (λ t lt. renewed_before (of_device x.dev S.renewals) v.now t lt)
      (record {
        at = λ _. at_place S keeps.pages.was keeps.pages.coming (copy_there x) Before (place_is x) (disk_now v x.dev) (sym before) rest;
        formed = λ _. none_open (of_device x.dev S.renewals) v.now;
        gone = λ dead. absurd (no (there x).alive is dead);
      })
      (of_both x (λ d h p. d ≢ x.dev → Renewed v keeps d (copy_of copies.rests copies.holds h p) (of_device d S.renewals)) (λ ne. absurd (ne refl))
      (λ _. let y = of_near x (λ d h p. CopyAt S keeps.pages.was keeps.pages.coming d (copy_of copies.rests copies.holds h p) v) keeps.at in record { at = y.at; formed = y.formed; gone = y.gone }))
      (λ _ _ _. of_near x (λ d h p. h.alive ≡ true → AreNotedBefore S keeps.pages.was keeps.pages.coming) keeps.later beside)

-- WHICH DEVICES ARE LOST

-- a replacement that begins is open
pub still_closed : (dev d : Dev) → IsCkpt dev → IsCkpt d → (from : ℕ) (rs : Renewals) → is_open (of_device d (begun_on dev from rs)) ≡ false → is_open (of_device d rs) ≡ false
still_closed dev d ckpt is from rs = let list = of_device dev rs ++ beginning from ∷ [] in
    of_if (λ (r : Renewals). is_open (of_device d r) ≡ false → is_open (of_device d rs) ≡ false) (nat_lt from top) (with_device dev list rs) rs
    (λ _. of_lists (λ e l. is_open l ≡ false → is_open (of_device e rs) ≡ false) dev ckpt list rs (λ closed. absurd (true≢false (sym (is_begun (of_device dev rs) from) ∙ closed))) (λ e ckpt _ closed. closed) d is)
    (λ _ closed. closed)

pub begun_open : (dev : Dev) → IsCkpt dev → (from : ℕ) (rs : Renewals) → from < top → is_open (of_device dev (begun_on dev from rs)) ≡ true
begun_open dev ckpt from rs lt = let list = of_device dev rs ++ beginning from ∷ [] in
    of_if (λ (r : Renewals). is_open (of_device dev r) ≡ true) (nat_lt from top) (with_device dev list rs) rs
    (λ _. of_lists (λ d l. d ≡ dev → is_open l ≡ true) dev ckpt list rs (λ _. is_begun (of_device dev rs) from) (λ d _ ne same. absurd (ne same)) dev ckpt refl)
    (λ not. let is_below : nat_lt from top ≡ true = grind (arith, nat_tests) in absurd (true≢false (sym is_below ∙ not)))

-- a device whose replacement isn't open failed at the greatest moment
pub gone_closed : (now : ℕ) (opened gone : Bool) {T : Type 0} (r : Result T ReplaceNo) → now ≤ top → (now < top → opened ≡ true) → IsErrOf r Failed ⊎ IsErrOf r Halted → (IsErrOf r Halted → now ≢ top) → (IsErrOf r Failed → gone ≡ true) → opened ≡ false → gone ≡ true
gone_closed now opened gone r most began acted last lost closed = ⊎_elim
    (λ failed. lost failed)
    (λ halted. absurd (⊎_elim (λ le. last halted (omega (arith, le, most))) (λ below. true≢false (sym (began below) ∙ closed)) (either_way top now)))
    acted

-- what the call leaves of all else
pub replaced_elsewhere : (dev : Dev) (P : Disk → Type 0) (old new : View) → old.now ≤ new.now → WhileReplaced dev P old new → Elsewhere dev old new
replaced_elsewhere dev P old new later m = record { others = m.others; console = m.console; papers = λ t from le. (m.sides t from le).paper; wires = wires_of old new later m.sides m.waiting }

-- before any act
pub elsewhere_none : (dev : Dev) (v : View) → Elsewhere dev v v
elsewhere_none dev v = record {
  others = λ t from le d ne. still_none (λ (w : World). w.disk d) v t from le;
  console = still_none (λ (w : World). w.console) v;
  papers = λ t from le k. still_none (λ (w : World). w.paper k) v t from le;
  wires = wires_none v;
}

pub replaces_none : (by : ℕ) (dev : Dev) (v : View) → Replaces by dev false v v
replaces_none by dev v = search (rules, le_refl, no)
