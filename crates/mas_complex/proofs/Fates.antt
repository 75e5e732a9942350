-- Copies once the batch in flight has its fate, and lines that are said.
use Rattle.mas_complex.proofs.Names.{span_of, AreLater, Page, page_count, ◌≡◌, inl, inr, ⊎_elim, ℕ, ◌+◌, ◌≤◌, ◌<◌, ◌||◌, Bool, true, false, List, [], ◌∷◌, ◌++◌, if◌then◌else◌, Option, Some, None, IfSome, refl, subst, sym, ◌∙◌, ap, arith, le_refl, append-nil, Ckpt1, Ckpt2, Act, Done, Failed, ActHalted as Halted, View, ViewDisk as Disk, disk_now, Says, Said, next, MemberId, Batch, Entry, Kept, Before, Opened, kept_all, batches_kept, in_flight, StepIsKept, is_kept, is_flying, level, Setting, Stands, IsNext, IsNear, IsAway, IsStale, Copy, Keeps, IsCkpt, Dev, CopyAt, is_away, ◌==◌, ◌&&◌, cond, length, filter, All, All-nil, All-cons, Queue, kept_at, flying_at, entries_of, is_kept_by, is_flying_at, IsSound, Disk as DiskPart, Line, disk_at, top, either_way, ne_eqb, true≢false, IsLeftOf, spools_at, lost_now, kept, flying, has_step, journal_most, run, StandFor, Renewals, is_renewed_at, setting_with, Alike, AreSunk, TextsAt, ReadsAtLevel, Account, entries_in, lost_if, left_at, IsLeft, ReadsBy, ReadsUpTo, PaperKept, Headline, whole, of_device, ◌⊎◌, not, Spool, World, Goes, Renewal, is_open, AreRenewedBy, ReadsOne, BeginsWith, setting, SomeLeft, SomeGood, LeavesQueue, Place, next_order, TextsStand, or_left, or_right, no_renewals, closing_line, and-false}
use Rattle.mas_complex.proofs.Batches.{kept_all_append, account_now}
use Rattle.mas_complex.proofs.Basics.{some_of, each}
use Rattle.mas_complex.proofs.Present.{coming_of, sent, Reads, alike_found, at_kept, copy_reads, kept_append, one_up, only_pages, renewed_open, left_now}
use Rattle.mas_complex.proofs.Moves.{Adds, adds_none, adds_one, fate_keeps, one_of}
use Rattle.mas_complex.proofs.Sides.{at_place, is_higher, rests_before}
use Rattle.mas_complex.proofs.Spooled.{gives_texts}
use Rattle.mas_types.specs.declared.journals.Journal.{Journal}

pub one_kept : (c : Batch) → c.fate ≡ Kept → kept_all (c ∷ []) ≡ c.entries
one_kept c fate = ap (λ f. (if is_kept f then c.entries else []) ++ []) fate ∙ append-nil c.entries

-- a copy that isn't good stays behind the kept pages
away_up : (S : Setting) (was pages : List ℕ) → level was < level pages → (renewed : Bool) (now : ℕ) (d : Disk) → IsAway S was renewed now d → IsAway S pages renewed now d
away_up S was pages higher false now d away = away
away_up S was pages higher true now d away = λ image is. up (S.reads image) (away image is) where
  up : (q : Option (List ℕ)) → IsStale was q → IsStale pages q
  up None stale = tt
  up (Some p) stale = inr (⊎_elim (λ same. subst (λ (l : List ℕ). level l < level pages) (sym same) higher) (λ lower. omega (arith, lower, higher)) stale)

-- a copy that counts as alive and has opened its gate is at rest with the pages in flight
pub opened_at : (S : Setting) (was : List ℕ) (coming : Option (List ℕ)) (dev : Dev) (c : Copy) (v : View) → CopyAt S was coming dev c v → c.alive ≡ true → c.place ≡ Opened → (coming ≡ Some (sent coming)) × c.rests (sent coming) (disk_now v dev)
opened_at S was coming dev c v copy is opened = coming_of coming (λ p. c.rests p (disk_now v dev)) (at_place S was coming c c.place Opened (disk_now v dev) opened (copy.at is))

module _ (S : Setting) (js : List Batch) (b c : Batch) (reached : ℕ) (copies : Dev → Copy) (v : View) (keeps : Keeps S js (Some b) reached copies v)
    (fated : is_flying c.fate ≡ false) (same_first : c.first ≡ b.first) (same_entries : c.entries ≡ b.entries) (last : c.last ≡ v.now) (places : Dev → Place) (at_rest : (d : Dev) → IsCkpt d → (copies d).alive ≡ true → places d ≡ Before) where
  -- the copies, at these places
  abbrev rested : Dev → Copy
  rested d = record (copies d) { place = places d }

  abbrev Later : List ℕ → Type 0
  Later = AreLater (page_count S.base.config) S.had

  -- the kept pages once the batch in flight has its fate, with which each alive copy is at rest: the same, or higher ones
  resting : (reached' : ℕ) (pages : List ℕ) → reached ≤ reached' → reached' ≤ reached + batches_kept (c ∷ []) → Stands S reached' (kept_all (js ++ c ∷ [])) pages → IsNear keeps.first_level keeps.first_order pages → (pages ≡ keeps.pages.was) ⊎ (level keeps.pages.was < level pages)
      → ((d : Dev) → IsCkpt d → (copies d).alive ≡ true → (copies d).rests pages (disk_now v d) × Later pages) → Keeps S (js ++ c ∷ []) None reached' rested v
  resting reached' pages least most stands near up rest = fate_keeps S js b c reached reached' copies rested v least most keeps fated same_first same_entries last
      (record { was = pages; coming = None; stands = stands; comes = tt; none = λ _. refl; near = near; comes_near = tt })
      (λ d ckpt. let x = keeps.at d ckpt in record {
        at = λ is. at_place S pages None (rested d) Before (places d) (disk_now v d) (sym (at_rest d ckpt is)) (rest d ckpt is).0;
        formed = x.formed;
        gone = λ dead. ⊎_elim
            (λ same. subst (λ (l : List ℕ). IsAway S l (is_away S d) v.now (disk_now v d)) (sym same) (x.gone dead))
            (λ higher. away_up S keeps.pages.was pages higher (is_away S d) v.now (disk_now v d) (x.gone dead)) up;
      })
      (λ d ckpt is. ((rest d ckpt is).1, tt))

  -- a copy counts as alive, and each that does has opened its gate: so there are pages in flight
  pub kept_keeps : c.fate ≡ Kept → ((copies Ckpt1).alive || (copies Ckpt2).alive) ≡ true → ((d : Dev) → IsCkpt d → (copies d).alive ≡ true → (copies d).place ≡ Opened) → Keeps S (js ++ c ∷ []) None (reached + 1) rested v
  kept_keeps fate some opened = resting (reached + 1) (sent keeps.pages.coming) (omega arith) (let one : batches_kept (c ∷ []) ≡ 1 = ap (λ f. (if is_kept f then 1 else 0) + 0) fate in omega (arith, one))
      (subst (λ (l : List Entry). Stands S (reached + 1) l (sent keeps.pages.coming)) (sym (kept_all_append js (c ∷ []) ∙ ap (λ (l : List Entry). kept_all js ++ l) (one_kept c fate ∙ same_entries))) comes)
      (subst (λ (n : Option (List ℕ)). IfSome n (IsNear keeps.first_level keeps.first_order)) same keeps.pages.comes_near)
      (inr (is_higher (level keeps.pages.was) (level (sent keeps.pages.coming)) reached keeps.pages.stands.at_level comes.at_level))
      (λ d ckpt is. ((at d ckpt is).1, subst (λ (n : Option (List ℕ)). IfSome n Later) same (keeps.later d ckpt is).1)) where
        at : (d : Dev) → IsCkpt d → (copies d).alive ≡ true → (keeps.pages.coming ≡ Some (sent keeps.pages.coming)) × (copies d).rests (sent keeps.pages.coming) (disk_now v d)
        at d ckpt is = opened_at S keeps.pages.was keeps.pages.coming d (copies d) v (keeps.at d ckpt) is (opened d ckpt is)

        same : keeps.pages.coming ≡ Some (sent keeps.pages.coming)
        same = some_of (λ d. (copies d).alive) some (λ d ckpt is. (at d ckpt is).0)

        comes : Stands S (reached + 1) (kept_all js ++ b.entries) (sent keeps.pages.coming)
        comes = subst (λ (n : Option (List ℕ)). IsNext S reached (kept_all js) b.entries n) same keeps.pages.comes

  -- no page changes: the batch is dropped, or the pages stand for the queue with it too
  pub same_keeps : (kept_all (c ∷ []) ≡ []) ⊎ ((kept_all (c ∷ []) ≡ b.entries) × ((pages : List ℕ) → S.stand (S.run S.base (kept_all js)) pages → S.stand (S.run S.base (kept_all js ++ b.entries)) pages)) → ((d : Dev) → IsCkpt d → (copies d).alive ≡ true → (copies d).place ≡ Before)
      → Keeps S (js ++ c ∷ []) None reached rested v
  same_keeps alike before = resting reached keeps.pages.was (le_refl reached) (omega arith) (record {
    at_level = keeps.pages.stands.at_level;
    queue = subst (λ (l : List Entry). S.stand (S.run S.base l) keeps.pages.was) (sym (kept_all_append js (c ∷ []))) (⊎_elim
        (λ none. subst (λ (l : List Entry). S.stand (S.run S.base (kept_all js ++ l)) keeps.pages.was) (sym none) (subst (λ (l : List Entry). S.stand (S.run S.base l) keeps.pages.was) (sym (append-nil (kept_all js))) keeps.pages.stands.queue))
        (λ kept. subst (λ (l : List Entry). S.stand (S.run S.base (kept_all js ++ l)) keeps.pages.was) (sym kept.0) (kept.1 keeps.pages.was keeps.pages.stands.queue)) alike);
  }) keeps.pages.near (inl refl) (λ d ckpt is. (rests_before S keeps.pages.was keeps.pages.coming (copies d) d v (keeps.at d ckpt) (before d ckpt) is, (keeps.later d ckpt is).0))

-- a line is said
module _ (S : Setting) (J : List Batch) (old new : View) (line : List ℕ) (act : Act) where
  pub adds_line : new.now ≡ next old.now → Says line old new act → ((m : MemberId) (s : ℕ) → S.closes line m s → StepIsKept J old.now m s) → Adds S J old new
  adds_line time says told = by_act act says.console where
    whole_line : (new.world new.now).console ≡ (old.world old.now).console ++ whole line ∷ [] → Adds S J old new
    whole_line e = adds_one S J old new time (whole line ∷ []) e (λ text there m s is. told m s (subst (λ (l : Line). S.closes l.text m s) (sym (one_of (whole line) (whole text) there)) is))

    by_act : (a : Act) → Said line (old.world old.now).console (new.world new.now).console a → Adds S J old new
    by_act Done e = whole_line e
    by_act Failed e = adds_none S J old new time e
    by_act Halted (inl e) = adds_none S J old new time e
    by_act Halted (inr (inl torn)) = adds_one S J old new time (record { text = torn.0; whole = false } ∷ []) torn.1 (λ text there. absurd (true≢false (sym (ap (λ (l : Line). l.whole) (one_of (record { text = torn.0; whole = false }) (whole text) there)))))
    by_act Halted (inr (inr e)) = whole_line e

-- From the invariant of the shared value to its headline.

-- a batch that is chosen, or not, before those that are
one_more : (b : Batch) (bs : List Batch) (l : List Entry) (c : Bool) → l ≡ entries_of bs → (cond c b.entries []) ++ l ≡ entries_of (cond c (b ∷ bs) bs)
one_more b bs l true e = ap (λ (m : List Entry). b.entries ++ m) e
one_more b bs l false e = e

pub kept_is : (bs : List Batch) (t : ℕ) → kept bs t ≡ entries_of (filter (is_kept_by t) bs)
kept_is [] t = refl
kept_is (b ∷ bs) t = one_more b (filter (is_kept_by t) bs) (kept bs t) (is_kept_by t b) (kept_is bs t)

pub flying_is : (bs : List Batch) (t : ℕ) → flying bs t ≡ entries_of (filter (is_flying_at t) bs)
flying_is [] t = refl
flying_is (b ∷ bs) t = one_more b (filter (is_flying_at t) bs) (flying bs t) (is_flying_at t b) (flying_is bs t)

step_is : (bs : List Batch) (t : ℕ) (by : MemberId) (at : ℕ) → StepIsKept bs t by at → All (λ b. has_step by at b.entries ≡ true → (b.fate ≡ Kept) × (b.last ≤ t)) bs
step_is [] t by at kept = All-nil (λ (b : Batch). has_step by at b.entries ≡ true → (b.fate ≡ Kept) × (b.last ≤ t))
step_is (b ∷ bs) t by at kept = All-cons (λ (b : Batch). has_step by at b.entries ≡ true → (b.fate ≡ Kept) × (b.last ≤ t)) b bs kept.0 (step_is bs t by at kept.1)

-- a moment below the greatest is as the world shows it
pub left_below : (v : View) (t : ℕ) (dev : Dev) → t < top → left_at v t dev ≡ disk_at v t dev
left_below v t dev lt = ap (λ (b : Bool). lost_if (b && v.lost (DiskPart dev)) (disk_at v t dev)) (ne_eqb t top (λ e. absurd (omega (arith, e, lt))))

-- an image is left of a volume that isn't lost now
image_left : (disk : Disk) (image : Option (List ℕ)) → (disk.lost ≡ true → ⊥) → IsLeft disk image → IsLeftOf disk false image
image_left disk None there left = there left
image_left disk (Some image) there left = left

module _ (reads : List ℕ → Option (List ℕ)) (base : Queue) (since : ℕ) (rs : Renewals) (had : List (List Page)) (js : List Batch) (c : Option Batch) (reached : ℕ) (copies : Dev → Copy) (v : View) where
  abbrev S : Setting
  S = setting_with reads base since rs had

  abbrev J : Journal
  J = record { batches = js ++ in_flight c }

  next_of : (l : ℕ) (was : List ℕ) (K F : List Entry) (n : Option (List ℕ)) → Stands S l K was → IsNext S l K F n → IfSome n (λ pages. (level pages ≡ level was + 1) × StandFor (run base (K ++ F)) pages)
  next_of l was K F None stands comes = tt
  next_of l was K F (Some pages) stands comes = (omega (arith, stands.at_level, comes.at_level), comes.queue)

  module _ (keeps : Keeps S js c reached copies v) (most : v.now ≤ top) (lost : (d : Dev) → IsCkpt d → (copies d).alive ≡ false → is_away S d ≡ false → v.lost (DiskPart d) ≡ true) (laws : (d : Dev) → Reads reads (copies d)) where
    -- what holds at a moment at which these entries were kept and those in flight, with the devices as a crash finds them
    abbrev AtAny : List Entry → List Entry → ℕ → Type 0
    AtAny K F t = Alike S (span_of keeps.first_level keeps.first_order reached) K F t (left_at v t) × TextsStand S K F v t

    at_now : AtAny (kept_all js) (entries_in c) v.now
    at_now = (
      record {
        reached = reached;
        low = le_refl reached;
        pages = keeps.pages;
        reads = λ d ckpt. subst (λ (b : Bool). ReadsBy S b keeps.pages.was keeps.pages.coming (left_at v v.now d)) (sym (renewed_open (of_device d rs) v.now v.now (keeps.renewed d ckpt) (le_refl v.now)))
            (left_now S keeps.pages.was (copies d) (laws d) keeps.pages.coming d v (keeps.at d ckpt) (v.lost (DiskPart d)) most (lost d ckpt));
      },
      keeps.stood,
    )

    at_past : (t : ℕ) → since ≤ t → t < v.now → AtAny (kept J.batches t) (flying J.batches t) t
    at_past t from lt =
        let m = keeps.past t from lt in
        let same : left_at v t ≡ disk_at v t = λ i d. left_below v t d (omega (arith, most, lt)) i in
        (subst (λ (x : Dev → Disk). Alike S (span_of keeps.first_level keeps.first_order reached) (kept J.batches t) (flying J.batches t) t x) (sym same) (m.alike (omega (arith, most, lt))), m.stood)

    at_any : (t : ℕ) → since ≤ t → t ≤ v.now → AtAny (kept_at J t) (flying_at J t) t
    at_any t from le = subst (λ (es : List Entry × List Entry). AtAny es.0 es.1 t) (λ i. (kept_is J.batches t i, flying_is J.batches t i)) (⊎_elim
        (λ (h : v.now ≤ t). let e : v.now ≡ t = omega (arith, h, le) in subst (λ (m : ℕ). AtAny (kept J.batches m) (flying J.batches m) m) e
        (subst (λ (s : Account). AtAny s.0 s.1 v.now) (sym (account_now js c v.now v.now keeps.settled keeps.begun (le_refl v.now))) at_now))
        (λ (lt : t < v.now). at_past t from lt)
        (either_way v.now t))

    -- the levels that images of a copy that isn't being replaced have at a moment
    up_to : (d : Dev) → IsCkpt d → (t : ℕ) → since ≤ t → t ≤ v.now → is_renewed_at (of_device d rs) t ≡ false → ReadsUpTo reads keeps.first_level keeps.first_order (keeps.first_level + batches_kept J.batches + 1) (left_at v t d)
    up_to d ckpt t from le is image there pages e =
        let a = (at_any t from le).0 in
        let low = one_up a.pages (left_at v t d) (subst (λ (b : Bool). ReadsBy S b a.pages.was a.pages.coming (left_at v t d)) is (a.reads d ckpt)) image there pages e in
        (omega (arith, low.0, a.low, keeps.risen, kept_append js (in_flight c)), low.1)

    pub headline_of : length J.batches ≤ journal_most → (IsSound base → ∥ PaperKept base since J.batches v ∥₁) → Headline reads base since J rs v
    headline_of few paper = record {
      few = few;
      paper = paper;
      crash = λ t from le good one two left right. alike_found S (kept_at J t) (flying_at J t) t (left_at v t) (at_any t from le).0 one two left right good;
      alike = λ t from le. let a = (at_any t from le).0 in record {
        was = a.pages.was;
        coming = a.pages.coming;
        stands = a.pages.stands.queue;
        comes = next_of a.reached a.pages.was (kept_at J t) (flying_at J t) a.pages.coming a.pages.stands a.pages.comes;
        none = a.pages.none;
        first = a.reads Ckpt1 tt;
        second = a.reads Ckpt2 tt;
      };
      levels = record {
        first_level = keeps.first_level;
        first_order = keeps.first_order;
        first1 = λ lt. keeps.first lt Ckpt1 tt;
        first2 = λ lt. keeps.first lt Ckpt2 tt;
        most1 = λ t from le is. up_to Ckpt1 tt t from le is;
        most2 = λ t from le is. up_to Ckpt2 tt t from le is;
      };
      texts = λ t from le volumes left.
          let at = at_any t from le in
          let images = λ (n : ℕ) (there : lost_now v n ≡ false). image_left (spools_at v t n) (volumes n) (λ lost. true≢false (sym (at.1.1 n lost) ∙ there)) (rw (there, and-false (t == top)) at (left n)) in
          (gives_texts (lost_now v) volumes (spools_at v t) base.config.groups images (run base (kept_at J t)) (at.1.0 false), gives_texts (lost_now v) volumes (spools_at v t) base.config.groups images (run base (kept_at J t ++ flying_at J t)) (at.1.0 true));
      told = λ t from le by at end telling there.
          step_is J.batches t by at (keeps.told t from le (closing_line by at end) there by at (record { end = end; telling = telling; is = refl }));
    }

-- How the shared value begins and ends, and a batch that changes no page.

pub none_yet : (d : Dev) → of_device d no_renewals ≡ []
none_yet Ckpt1 = refl
none_yet _ = refl

module _ (S : Setting) (reached : ℕ) (copies : Dev → Copy) (v : View) (laws : (d : Dev) → Reads S.reads (copies d)) where
  pub make_keeps : ((d : Dev) → of_device d S.renewals ≡ []) → S.since ≡ v.now → ((n : ℕ) → (disk_now v (Spool n)).lost ≡ true → lost_now v n ≡ true) → ((is : List ℕ) → AreLater (page_count S.base.config) S.had is) → (begins : BeginsWith S reached copies v) → (copies' : Dev → Copy) → ((d : Dev) → IsCkpt d → CopyAt S begins.pages None d (copies' d) v) → Keeps S [] None reached copies' v
  make_keeps none since sunk later begins copies' at = record {
    started = omega (arith, since);
    settled = tt;
    begun = tt;
    renewed = λ d ckpt. subst (λ (l : List Renewal). AreRenewedBy l v.now) (sym (none d)) tt;
    first_level = reached;
    first_order = next_order begins.pages;
    past = λ t from lt. absurd (omega (arith, since, from, lt));
    told = λ t from le text there m s is. tt;
    grows = λ t from le. let e : v.now ≡ t = omega (arith, since) in
        record { more = []; is = ap (λ (m : ℕ). (v.world m).console) e ∙ sym (append-nil (v.world t).console) };
    stood = (texts, sunk);
    first = λ lt d ckpt. subst (λ (m : ℕ). ReadsAtLevel S.reads reached (next_order begins.pages) (disk_at v m d)) (sym since) (at_kept S reached [] begins.pages begins.stands (disk_now v d)
        (subst (λ (b : Bool). ReadsBy S b begins.pages None (disk_now v d)) (ap is_open (none d)) (copy_reads S begins.pages (copies d) (laws d) None d v (begins.at d ckpt) (omega (arith, since, lt)))));
    risen = omega arith;
    pages = only_pages S reached [] begins.pages begins.stands;
    at = at;
    later = λ d ckpt is. (later begins.pages, tt);
  } where
    texts : TextsAt S [] [] v v.now
    texts false = begins.texts
    texts true = begins.texts

-- a copy at a moment, as a crash finds it after later acts, where none was replaced
pub first_reads : (S : Setting) (was : List ℕ) (coming : Option (List ℕ)) (dev : Dev) (c : Copy) (v later : View) → Reads S.reads c → is_away S dev ≡ false → v.now ≤ top → Goes v later → CopyAt S was coming dev c v → (c.alive ≡ false → v.lost (DiskPart dev) ≡ true) → ReadsOne S was coming (left_at later v.now dev)
first_reads S was coming dev c v later laws known most goes copy lost = subst (λ (b : Bool). ReadsBy S b was coming (left_at later v.now dev)) known (subst (λ (w : World). ReadsBy S (is_away S dev) was coming (lost_if ((v.now == top) && later.lost (DiskPart dev)) (w.disk dev))) (sym (goes.past v.now (le_refl v.now)))
    (left_now S was c laws coming dev v copy (later.lost (DiskPart dev)) most (λ dead known. goes.lost (DiskPart dev) (lost dead))))

-- a copy of which an image is left is good where none was replaced
left_good : (d e : Disk) (one two : Option (List ℕ)) → IsLeft d one → IsLeft e two → SomeLeft one two → SomeGood false false d e
left_good d e (Some one) two left right some = or_left (not d.lost && true) (not e.lost && true) (rw left.there refl)
left_good d e None (Some two) left right some = or_right (not d.lost && true) (not e.lost && true) (rw right.there refl)
left_good d e None None left right some = absurd some

pub leaves_base : (reads : List ℕ → Option (List ℕ)) (base : Queue) (since reached : ℕ) (was : List ℕ) (v later : View) → Stands (setting reads base since) reached [] was → ((d : Dev) → IsCkpt d → ReadsOne (setting reads base since) was None (left_at later v.now d)) → LeavesQueue reads base v.now later
leaves_base reads base since reached was v later stands both x y left right some = ⊎_elim (λ h. h) (λ h. h)
    (alike_found {span = span_of reached (next_order was) reached} (setting reads base since) [] [] v.now (left_at later v.now) (record { reached = reached; low = le_refl reached; pages = only_pages (setting reads base since) reached [] was stands; reads = each (λ d. ReadsBy (setting reads base since) (is_renewed_at (of_device d no_renewals) v.now) was None (left_at later v.now d)) (both Ckpt1 tt) (both Ckpt2 tt) }) x y left right
    (left_good (left_at later v.now Ckpt1) (left_at later v.now Ckpt2) x y left right some))

-- a copy that rests with pages before any batch, or is lost, where none was replaced
pub rested_copy : (S : Setting) (dev : Dev) (c : Copy) (v : View) (pages : List ℕ) → is_away S dev ≡ false → c.place ≡ Before → (c.alive ≡ true → c.rests pages (disk_now v dev)) → (c.alive ≡ false → v.now < top → (disk_now v dev).lost ≡ true) → CopyAt S pages None dev c v
rested_copy S dev c v pages known before rests gone = record {
  at = λ is. at_place S pages None c Before c.place (disk_now v dev) (sym before) (rests is);
  formed = λ _. known;
  gone = λ dead. subst (λ (b : Bool). IsAway S pages b v.now (disk_now v dev)) (sym known) (gone dead);
}

-- one at another place, which say the same of it
pub placed_copy : (S : Setting) (was : List ℕ) (coming : Option (List ℕ)) (dev : Dev) (c : Copy) (q : Place) (v : View) → (c.alive ≡ true → c.place ≡ q) → CopyAt S was coming dev c v → CopyAt S was coming dev (record c { place = q }) v
placed_copy S was coming dev c q v same copy = record { at = λ is. at_place S was coming c c.place q (disk_now v dev) (same is) (copy.at is); formed = copy.formed; gone = copy.gone }
