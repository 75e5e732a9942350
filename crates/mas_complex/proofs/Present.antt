-- The present: what both copies read gives what a start finds.
use Rattle.mas_complex.proofs.Names.{Span, unwrap_or, or_cases, IsReadBy, is_good, read_left, ◌≡◌, ◌⊎◌, inl, inr, ℕ, ◌+◌, ◌≤◌, ◌<◌, ◌==◌, ◌&&◌, ◌||◌, nat_lt, Bool, true, false, List, ◌++◌, Option, Some, None, refl, subst, sym, ◌∙◌, ap, arith, le_refl, not, and_from, eq-eqb, nat_tests, Dev, Disk as DiskPart, View, ViewDisk as Disk, IsImage, disk_now, top, AllRead, EachReads, level, Entry, Place, Before, Put, Opened, Unsure, is_renewed_at, Setting, IsLeft, SomeGood, found, IsFound, Stands, IsOneOf, ReadsOne, ReadsBy, Alike, OnComing, IsAt, IsAway, lost_if, left_at, Ckpt1, Ckpt2, Copy, CopyAt, is_away, ◌∷◌, length, get_or, set, map, take, drop, Result, Ok, Err, OnOk, OnErr, append_assoc, take_more_set, drop-set-lt, is_none, le-leb, Renewal, has_ended, is_open, HasEndedBy, AreRenewedBy, suc, ◌*◌, IfSome, Batch, is_kept, batches_kept, IsNear, RaisesOrders, ReadsAtLevel, ReadsUpTo, next_order, orders_most, Versions, ⊎_elim, [], true≢false, ∥∥₁_elim, test_cases, drop_more, best, eqb-false, ◌≢◌}
use Rattle.mas_complex.proofs.Basics.{of_if}

-- what holds of the kept pages, and of those in flight, holds of those that an image reads as
pub of_one : (P Q : List ℕ → Type 0) (was : List ℕ) (coming : Option (List ℕ)) (pages : List ℕ) → P was → IfSome coming Q → ((p : List ℕ) → Q p → P p) → IsOneOf was coming (Some pages) → P pages
of_one P Q was coming pages kept comes so (inl e) = subst P (sym e) kept
of_one P Q was coming pages kept comes so (inr e) = so pages (subst (λ (n : Option (List ℕ)). IfSome n Q) e comes)

-- the pages in flight, where there are any
abbrev pub sent : Option (List ℕ) → List ℕ
sent coming = unwrap_or coming []

pub coming_of : (coming : Option (List ℕ)) (P : List ℕ → Type 0) → OnComing coming P → (coming ≡ Some (sent coming)) × P (sent coming)
coming_of (Some pages) P here = (refl, here)
coming_of None P here = absurd here

-- what is left of a copy reads as its images do, and of one that isn't good as stale ones
left_reads : (S : Setting) (was : List ℕ) (coming : Option (List ℕ)) (renewed : Bool) (d : Disk) (left : Option (List ℕ)) → ReadsBy S renewed was coming d → IsLeft d left → IsReadBy (not (is_good renewed d)) was coming (read_left S.reads left)
left_reads S was coming renewed d None reads left = subst (λ (l : Bool). IsReadBy (not (not l && not renewed)) was coming None) (sym left) tt
left_reads S was coming false d (Some image) reads left = subst (λ (l : Bool). IsReadBy (not (not l && true)) was coming (S.reads image)) (sym left.there) (reads image left)
left_reads S was coming true d (Some image) reads left = subst (λ (l : Bool). IsReadBy (not (not l && false)) was coming (S.reads image)) (sym left.there) (reads image left)

-- of two images one isn't stale: the pages that a start finds are the kept ones, or those in flight
module _ (was : List ℕ) (coming : Option (List ℕ)) (low : (pages : List ℕ) → IsOneOf was coming (Some pages) → level was ≤ level pages) where
  sure : (stale : Bool) (q : Option (List ℕ)) → stale ≡ false → IsReadBy stale was coming q → IsOneOf was coming q
  sure stale q e is = subst (λ (b : Bool). IsReadBy b was coming q) e is

  -- stale pages of no lower level are the kept ones
  not_lower : (stale : Bool) (pages : List ℕ) → IsReadBy stale was coming (Some pages) → level was ≤ level pages → IsOneOf was coming (Some pages)
  not_lower false pages is le = is
  not_lower true pages is le = ⊎_elim (λ same. inl same) (λ lower. absurd (omega (arith, lower, le))) is

  best_one : (a b : Bool) (one two : Option (List ℕ)) → IsReadBy a was coming one → IsReadBy b was coming two → (a ≡ false) ⊎ (b ≡ false) → IsOneOf was coming (best one two)
  best_one a b None two is also good = ⊎_elim (λ e. absurd (sure a None e is)) (λ e. sure b two e also) good
  best_one a b (Some one) None is also good = ⊎_elim (λ e. sure a (Some one) e is) (λ e. absurd (sure b None e also)) good
  best_one a b (Some one) (Some two) is also good = of_if (IsOneOf was coming) (nat_lt (level one) (level two)) (Some two) (Some one)
      (λ lt. not_lower b two also (⊎_elim (λ e. let h : level one < level two = grind (arith, nat_tests, lt) in omega (arith, h, low one (sure a (Some one) e is))) (λ e. low two (sure b (Some two) e also)) good))
      (λ ge. not_lower a one is (⊎_elim (λ e. low one (sure a (Some one) e is)) (λ e. let h : level two ≤ level one = grind (arith, nat_tests, ge) in omega (arith, h, low two (sure b (Some two) e also))) good))

-- what a start finds of two devices that agree stands for the queue after the kept entries, or with those in flight
pub alike_found : {span : Span} (S : Setting) (K F : List Entry) (t : ℕ) (disks : Dev → Disk) → Alike S span K F t disks → (one two : Option (List ℕ)) → IsLeft (disks Ckpt1) one → IsLeft (disks Ckpt2) two
    → SomeGood (is_renewed_at S.renewals.first t) (is_renewed_at S.renewals.second t) (disks Ckpt1) (disks Ckpt2) → IsFound S K (found S one two) ⊎ IsFound S (K ++ F) (found S one two)
alike_found S K F t disks a one two left right good = stands (found S one two)
    (best_one a.pages.was a.pages.coming (λ pages. of_one (λ p. level a.pages.was ≤ level p) (Stands S (a.reached + 1) (K ++ F)) a.pages.was a.pages.coming pages (le_refl (level a.pages.was)) a.pages.comes (λ p s. omega (arith, a.pages.stands.at_level, s.at_level)))
    _ _ (read_left S.reads one) (read_left S.reads two) (left_reads S a.pages.was a.pages.coming (is_renewed_at S.renewals.first t) (disks Ckpt1) one (a.reads Ckpt1 tt) left) (left_reads S a.pages.was a.pages.coming (is_renewed_at S.renewals.second t) (disks Ckpt2) two (a.reads Ckpt2 tt) right)
    (⊎_elim (λ e. inl (ap not e)) (λ e. inr (ap not e)) (or_cases _ _ good))) where
      stands : (q : Option (List ℕ)) → IsOneOf a.pages.was a.pages.coming q → IsFound S K q ⊎ IsFound S (K ++ F) q
      stands None is = absurd is
      stands (Some pages) is = of_one (λ p. S.stand (S.run S.base K) p ⊎ S.stand (S.run S.base (K ++ F)) p) (Stands S (a.reached + 1) (K ++ F)) a.pages.was a.pages.coming pages (inl a.pages.stands.queue) a.pages.comes (λ p s. inr s.queue) is

-- a copy's laws: what it reads where it rests or holds pages
pub record Reads (reads : List ℕ → Option (List ℕ)) (c : Copy) : Type 0 where
  pub rest : (pages : List ℕ) (d : Disk) → c.rests pages d → AllRead reads pages d
  pub hold : (was next : List ℕ) (d : Disk) → c.holds was next d → AllRead reads was d

-- what a copy at its place reads
module _ (S : Setting) (was : List ℕ) where
  pub all_read : (coming : Option (List ℕ)) (d : Disk) → AllRead S.reads was d → ReadsOne S was coming d
  all_read coming d all image is = subst (λ (q : Option (List ℕ)). IsOneOf was coming q) (sym (all image is)) (inl refl)

  pub each_reads : (coming : Option (List ℕ)) (d : Disk) (pages : List ℕ) → coming ≡ Some pages → EachReads S.reads was pages d → ReadsOne S was coming d
  each_reads coming d pages same each image is = ⊎_elim
      (λ r. subst (λ (q : Option (List ℕ)). IsOneOf was coming q) (sym r) (inl refl))
      (λ r. subst (λ (q : Option (List ℕ)). IsOneOf was coming q) (sym r) (inr same))
      (each image is)

  -- of a lost device anything is said
  pub lost_by : (renewed : Bool) (coming : Option (List ℕ)) (d : Disk) → d.lost ≡ true → ReadsBy S renewed was coming d
  lost_by renewed coming d lost image is = absurd (true≢false (sym lost ∙ is.there))

  -- losing a device takes its images away
  less_reads : (renewed : Bool) (coming : Option (List ℕ)) (b : Bool) (d : Disk) → ReadsBy S renewed was coming d → ReadsBy S renewed was coming (lost_if b d)
  less_reads renewed coming true d reads = lost_by renewed coming (lost_if true d) refl
  less_reads renewed coming false d reads = reads

  -- a copy that isn't being replaced reads so
  pub not_renewed : (renewed : Bool) (coming : Option (List ℕ)) (d : Disk) → renewed ≡ false → ReadsOne S was coming d → ReadsBy S renewed was coming d
  not_renewed renewed coming d e reads = subst (λ (b : Bool). ReadsBy S b was coming d) (sym e) reads

  -- a copy that counts as lost, whose device stays as it is, or leaves no more images
  pub away_moved : (renewed : Bool) (now later : ℕ) (d e : Disk) → now ≤ later → (d.lost ≡ true → e.lost ≡ true) → ((image : List ℕ) → IsImage e image → IsImage d image) → IsAway S was renewed now d → IsAway S was renewed later e
  away_moved false now later d e le lost less away = λ lt. lost (away (omega (arith, le, lt)))
  away_moved true now later d e le lost less away = λ image is. away image (less image is)

  -- a copy that counts as lost
  pub away_reads : (renewed : Bool) (coming : Option (List ℕ)) (now : ℕ) (d : Disk) → now < top → IsAway S was renewed now d → ReadsBy S renewed was coming d
  away_reads false coming now d lt away = lost_by false coming d (away lt)
  away_reads true coming now d lt away = away

  away_left : (renewed : Bool) (coming : Option (List ℕ)) (now : ℕ) (b lost : Bool) (d : Disk) → (b ≡ false → now < top) → (renewed ≡ false → lost ≡ true) → IsAway S was renewed now d → ReadsBy S renewed was coming (lost_if (b && lost) d)
  away_left renewed coming now false lost d below gone away = away_reads renewed coming now d (below refl) away
  away_left false coming now true lost d below gone away = lost_by false coming (lost_if lost d) (ap (λ (c : Bool). (lost_if c d).lost) (gone refl))
  away_left true coming now true lost d below gone away = less_reads true coming lost d away

  module _ (c : Copy) (laws : Reads S.reads c) (coming : Option (List ℕ)) where
    pub side_reads : (place : Place) (d : Disk) → IsAt S c was coming place d → ReadsOne S was coming d
    side_reads Before d side = all_read coming d (laws.rest was d side)
    side_reads Put d side = let w = coming_of coming (λ pages. c.holds was pages d) side in all_read coming d (laws.hold was (sent coming) d w.1)
    side_reads Opened d side = let w = coming_of coming (λ pages. c.rests pages d) side in each_reads coming d (sent coming) w.0 (λ image is. inr (laws.rest (sent coming) d w.1 image is))
    side_reads Unsure d side = side

    module _ (dev : Dev) (v : View) (copy : CopyAt S was coming dev c v) where
      alive_reads : c.alive ≡ true → ReadsBy S (is_away S dev) was coming (disk_now v dev)
      alive_reads is = not_renewed (is_away S dev) coming (disk_now v dev) (copy.formed is) (side_reads c.place (disk_now v dev) (copy.at is))

      pub copy_reads : v.now < top → ReadsBy S (is_away S dev) was coming (disk_now v dev)
      copy_reads lt = test_cases c.alive (ReadsBy S (is_away S dev) was coming (disk_now v dev)) alive_reads (λ dead. away_reads (is_away S dev) coming v.now (disk_now v dev) lt (copy.gone dead))

      -- and as a crash finds it: at the greatest moment a device may be lost too
      pub left_now : (lost : Bool) → v.now ≤ top → (c.alive ≡ false → is_away S dev ≡ false → lost ≡ true) → ReadsBy S (is_away S dev) was coming (lost_if ((v.now == top) && lost) (disk_now v dev))
      left_now lost most gone = test_cases c.alive (ReadsBy S (is_away S dev) was coming (lost_if ((v.now == top) && lost) (disk_now v dev))) (λ is. less_reads (is_away S dev) coming ((v.now == top) && lost) (disk_now v dev) (alive_reads is))
          (λ dead. away_left (is_away S dev) coming v.now (v.now == top) lost (disk_now v dev) (λ e. let below : v.now ≢ top = eqb-false v.now top e in omega (arith, most)) (gone dead) (copy.gone dead))

-- When a copy is being replaced.

-- from now on a renewal that has ended stays so
ended_now : (until : Option ℕ) (now t : ℕ) → HasEndedBy until now → now ≤ t → not (has_ended until t) ≡ is_none until
ended_now None now t by le = refl
ended_now (Some u) now t by le = ap not (le-leb u t (omega (arith, by, le)))

-- from now on a copy is being replaced just where a renewal of it is open
pub renewed_open : (rs : List Renewal) (now t : ℕ) → AreRenewedBy rs now → now ≤ t → is_renewed_at rs t ≡ is_open rs
renewed_open [] now t by le = refl
renewed_open (r ∷ rs) now t by le = simp (le-leb r.from t (omega (arith, by.0, le)), ended_now r.until now t by.1 le, renewed_open rs now t by.2 le)

ended_later : (until : Option ℕ) (now later : ℕ) → now ≤ later → HasEndedBy until now → HasEndedBy until later
ended_later None now later le by = tt
ended_later (Some u) now later le by = omega (arith, by, le)

pub renewed_later : (rs : List Renewal) (now later : ℕ) → now ≤ later → AreRenewedBy rs now → AreRenewedBy rs later
renewed_later [] now later le by = tt
renewed_later (r ∷ rs) now later le by = (omega (arith, by.0, le), ended_later r.until now later le by.1, renewed_later rs now later le by.2)

-- what holds of both lists that a call may leave
pub on_either : {X T E : Type 0} (P : X → Type 0) (is good bad : X) (r : Result T E) → OnOk r (is ≡ good) → OnErr r (is ≡ bad) → P good → P bad → P is
on_either P is good bad (Ok x) ok err one two = subst P (sym ok) one
on_either P is good bad (Err x) ok err one two = subst P (sym err) two

-- what needs no choice of what is kept
pub told_then : {X E T K : Type 0} (A B : Type 0) (r : Result X E) → (T → ∥ K ∥₁) → IsProp B → (T → K → OnOk r (A → B)) → OnOk r (T → A → B)
told_then A B (Ok x) some prop so = λ told now. ∥∥₁_elim (some told) prop (λ k. so told k now)
told_then A B (Err e) some prop so = tt

-- a loop that changes each item of a list: those before i are so already
pub change_here : {A : Type 0} (zs : List A) (i : ℕ) → i < length zs → (f : A → A) (all : List A) (v d : A) → take i zs ++ map f (drop i zs) ≡ all → v ≡ f (get_or zs i d) → take (i + 1) (set zs i v) ++ map f (drop (i + 1) (set zs i v)) ≡ all
change_here zs i inside f all v d so_far is =
    rw (drop-set-lt (i + 1) zs i v (omega arith), take_more_set zs i v inside, append_assoc (take i zs) (v ∷ []) (map f (drop (i + 1) zs)), is) (rw (drop_more zs i d inside) at so_far)

-- How the levels and orders on the copies rise.

-- HOW MANY BATCHES ARE KEPT

pub kept_append : (js ks : List Batch) → batches_kept (js ++ ks) ≡ batches_kept js + batches_kept ks
kept_append [] ks = omega arith
kept_append (b ∷ js) ks = let e = kept_append js ks in omega (arith, e)

-- no more are kept than there are
pub kept_fewer : (js : List Batch) → batches_kept js ≤ length js
kept_fewer [] = omega arith
kept_fewer (b ∷ js) = let le = kept_fewer js in of_if (λ (n : ℕ). n + batches_kept js ≤ suc (length js)) (is_kept b.fate) 1 0 (λ _. omega (arith, le)) (λ _. omega (arith, le))

-- LEVELS AND ORDERS

-- pages a level higher, which raise the orders of near ones, are near
raised_near : (l order a b m n : ℕ) → m + orders_most * l ≤ order + orders_most * a → n ≤ m + orders_most → b ≡ a + 1 → n + orders_most * l ≤ order + orders_most * b
raised_near l order a b m n near raised next = omega (arith, near, raised, next)

pub comes_near : (l order : ℕ) (was pages : List ℕ) → IsNear l order was → RaisesOrders was pages → level pages ≡ level was + 1 → IsNear l order pages
comes_near l order was pages near raised next = raised_near l order (level was) (level pages) (next_order was) (next_order pages) near raised next

pub one_up : {S : Setting} {reached : ℕ} {K F : List Entry} {l order : ℕ} (p : Versions S reached K F l order) (disk : Disk) → ReadsOne S p.was p.coming disk → ReadsUpTo S.reads l order (reached + 1) disk
one_up {S} {reached} {K} {F} {l} {order} p disk reads image is pages e =
    let one : IsOneOf p.was p.coming (Some pages) = subst (λ (q : Option (List ℕ)). IsOneOf p.was p.coming q) e (reads image is) in (
      of_one (λ q. level q ≤ reached + 1) (Stands S (reached + 1) (K ++ F)) p.was p.coming pages (omega (arith, p.stands.at_level)) p.comes (λ q s. omega (arith, s.at_level)) one,
      of_one (IsNear l order) (IsNear l order) p.was p.coming pages p.near p.comes_near (λ q near. near) one,
    )

-- with none in flight they have the level reached
pub at_kept : (S : Setting) (reached : ℕ) (K : List Entry) (was : List ℕ) → Stands S reached K was → (disk : Disk) → ReadsOne S was None disk → ReadsAtLevel S.reads reached (next_order was) disk
at_kept S reached K was stands disk reads image is pages e =
    let same : pages ≡ was = of_one (λ p. p ≡ was) (λ p. p ≡ was) was None pages refl tt (λ p e. e) (subst (λ (q : Option (List ℕ)). IsOneOf was None q) e (reads image is)) in
    (ap level same ∙ stands.at_level, ap next_order same)

-- pages are near to their own level and next order
pub own_near : (reached : ℕ) (was : List ℕ) → level was ≡ reached → IsNear reached (next_order was) was
own_near reached was at_level = subst (λ (n : ℕ). next_order was + orders_most * n ≤ next_order was + orders_most * level was) at_level (le_refl (next_order was + orders_most * level was))

-- with none in flight
abbrev pub only_pages : (S : Setting) (reached : ℕ) (K : List Entry) (was : List ℕ) → Stands S reached K was → Versions S reached K [] reached (next_order was)
only_pages S reached K was stands = record { was = was; coming = None; stands = stands; comes = tt; none = λ _. refl; near = own_near reached was stands.at_level; comes_near = tt }
