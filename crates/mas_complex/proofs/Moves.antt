-- How the shared value goes on: over acts, and over a batch that begins or gets its fate.
use Rattle.mas_complex.proofs.Names.{span_of, AreNotedBefore, ◌≡◌, ⊎_elim, ℕ, ◌+◌, ◌≤◌, ◌<◌, Bool, true, false, refl, List, [], ◌∷◌, ◌++◌, length, drop, Option, Some, None, subst, sym, ◌∙◌, ap, arith, append_assoc, zero, suc, append-nil, MemberId, Batch, Flying, is_flying, is_kept, View, World, Line, disk_at, top, kept, flying, kept_all, in_flight, entries_in, batches_kept, StepIsKept, has_step, Setting, Alike, EachTells, next, Contains, Contains-append_left, TellOnly, said, whole, ReadsBy, Copy, CopyAt, Keeps, Moment, Account, account, ReadsAtLevel, TextsAt, spools_at, lost_now, HasTexts, either_way, IsCkpt, Dev, is_away, of_device, Entry, Versions, AreRenewedBy, AreSettled, IsBegun, Page, Renewals, is_renewed_at, ToldAt, length-append, length-drop, drop-append-le, Contains-append_cases, Contains-push_cases}
use Rattle.mas_complex.proofs.Basics.{Passes, of_if}
use Rattle.mas_complex.proofs.Batches.{account_before, begun_later, account_fated, kept_all_append, account_now, account_after, settled_later, settled_push, step_fate, step_later, step_push}
use Rattle.mas_complex.proofs.Present.{kept_append, renewed_later, renewed_open}
use Rattle.mas_complex.proofs.Spooled.{Stays, stood_acts, stood_past}

-- lines behind so many of the first are so of all
pub behind_more : (n : ℕ) (xs ys : List Line) (x : Line) → Contains (drop n xs) x → Contains (drop n (xs ++ ys)) x
behind_more n xs ys x there = subst (λ (l : List Line). Contains l x) (sym (drop-append-le n xs ys (omega (arith, there.1, length-drop n xs)))) (Contains-append_left (drop n xs) ys x there)

-- what a call says on the console: nothing, or one line at its end
pub record Adds (S : Setting) (J : List Batch) (old new : View) : Type 0 where
  pub same : (t : ℕ) → old.now < t → t ≤ new.now → (new.world t).console ≡ (new.world new.now).console
  pub more : List Line
  pub is : (new.world new.now).console ≡ (old.world old.now).console ++ more
  pub tells : TellOnly S.closes more (StepIsKept J old.now)

pub one_of : (a b : Line) → Contains (a ∷ []) b → a ≡ b
one_of a b there = ⊎_elim (λ none. absurd (omega (arith, none.1))) (λ e. e) (Contains-push_cases [] a b there)

-- what each of the lines tells
pub each_tells : (closes : List ℕ → MemberId → ℕ → Type 0) (P : MemberId → ℕ → Type 0) (lines : List Line) → EachTells closes lines P → TellOnly closes lines P
each_tells closes P [] tells text there m s is = absurd (omega (arith, there.1))
each_tells closes P (line ∷ lines) tells text there m s is = ⊎_elim
    (λ here. let e = one_of line (whole text) here in tells.0 (ap (λ (l : Line). l.whole) e) m s (subst (λ (l : Line). closes l.text m s) (sym e) is))
    (λ later. each_tells closes P lines tells.1 text later m s is)
    (Contains-append_cases (line ∷ []) lines (whole text) there)

module _ (S : Setting) (J : List Batch) (old new : View) (time : new.now ≡ next old.now) where
  -- of one act
  pub adds_one : (more : List Line) → (new.world new.now).console ≡ (old.world old.now).console ++ more → TellOnly S.closes more (StepIsKept J old.now) → Adds S J old new
  adds_one more is tells = record { same = λ t lt le. let e : t ≡ new.now = omega (arith, time) in ap (λ (m : ℕ). (new.world m).console) e; more = more; is = is; tells = tells }

  pub adds_none : (new.world new.now).console ≡ (old.world old.now).console → Adds S J old new
  adds_none same = adds_one [] (same ∙ sym (append-nil (old.world old.now).console)) (λ text there. absurd (omega (arith, there.1)))

module _ (S : Setting) (js : List Batch) (c : Option Batch) (reached : ℕ) (copies copies' : Dev → Copy) (old new : View) where
  pub acts_keep : (keeps : Keeps S js c reached copies old) → Passes old new
      → (p : Versions S reached (kept_all js) (entries_in c) keeps.first_level keeps.first_order)
      → ((d : Dev) → IsCkpt d → (t : ℕ) → old.now ≤ t → t < new.now → t < top → ReadsBy S (is_away S d) p.was p.coming (disk_at new t d))
      → Adds S (js ++ in_flight c) old new
      → Stays S (kept_all js) (entries_in c) old new
      → ((d : Dev) → IsCkpt d → CopyAt S p.was p.coming d (copies' d) new)
      → ((d : Dev) → IsCkpt d → (copies' d).alive ≡ true → AreNotedBefore S p.was p.coming)
      → Keeps S js c reached copies' new
  acts_keep keeps goes p reads adds stays at later = record {
    started = omega (arith, keeps.started, goes.later);
    settled = settled_later js old.now new.now keeps.settled goes.later;
    begun = begun_later c old.now new.now keeps.begun goes.later;
    renewed = λ d ckpt. renewed_later (of_device d S.renewals) old.now new.now goes.later (keeps.renewed d ckpt);
    first_level = keeps.first_level;
    first_order = keeps.first_order;
    past = λ t from lt. ⊎_elim
        (λ (h : old.now ≤ t). subst (λ (s : Account). Moment S (span_of keeps.first_level keeps.first_order reached) s.0 s.1 new t) (sym (account_now js c old.now t keeps.settled keeps.begun h)) (record {
          alike = λ below. record {
            reached = reached;
            low = omega arith;
            pages = p;
            reads = λ d ckpt. subst (λ (b : Bool). ReadsBy S b p.was p.coming (disk_at new t d)) (sym (renewed_open (of_device d S.renewals) old.now t (keeps.renewed d ckpt) h)) (reads d ckpt t h lt below);
          };
          stood = stood_acts S old new goes (kept_all js) (entries_in c) stays keeps.stood t h (omega (arith, lt));
        }))
        (λ (h : t < old.now). let m = keeps.past t from h in record {
          alike = λ below. subst (λ (w : World). Alike S (span_of keeps.first_level keeps.first_order reached) (kept J t) (flying J t) t w.disk) (sym (goes.past t (omega (arith, h)))) (m.alike below);
          stood = stood_past S old new goes (kept J t) (flying J t) t (omega (arith, h)) m.stood;
        })
        (either_way old.now t);
    told = λ t from le. ⊎_elim
        (λ (h : t ≤ old.now). subst (λ (l : List Line). TellOnly S.closes l (StepIsKept J t)) (sym (said_past t h)) (keeps.told t from h))
        (λ (h : old.now < t). λ text there m s closes. step_later J old.now t m s (omega arith) (⊎_elim
        (λ was. keeps.told old.now keeps.started (omega arith) text was m s closes)
        (λ more. adds.tells text more m s closes)
        (Contains-append_cases (said S old old.now) adds.more (whole text) (subst (λ (l : List Line). Contains l (whole text)) (said_here t h le) there))))
        (either_way t old.now);
    grows = λ t from le. ⊎_elim
        (λ (h : t ≤ old.now). let b = keeps.grows t from h in record {
          more = b.more ++ adds.more;
          is = adds.is ∙ ap (λ (l : List Line). l ++ adds.more) b.is ∙ (simp append_assoc) ∙ ap (λ (w : World). w.console ++ (b.more ++ adds.more)) (sym (goes.past t h));
        })
        (λ (h : old.now < t). record { more = []; is = sym (adds.same t h le) ∙ sym (append-nil (new.world t).console) })
        (either_way t old.now);
    stood = stood_acts S old new goes (kept_all js) (entries_in c) stays keeps.stood new.now goes.later (omega arith);
    first = λ lt d ckpt. subst (λ (w : World). ReadsAtLevel S.reads keeps.first_level keeps.first_order (w.disk d)) (sym (goes.past S.since keeps.started)) (keeps.first lt d ckpt);
    risen = keeps.risen;
    pages = p;
    at = at;
    later = later;
  } where
    J : List Batch
    J = js ++ in_flight c

    said_past : (t : ℕ) → t ≤ old.now → said S new t ≡ said S old t
    said_past t le = rw (goes.past S.since keeps.started, goes.past t le) refl

    said_here : (t : ℕ) → old.now < t → t ≤ new.now → said S new t ≡ said S old old.now ++ adds.more
    said_here t h le = rw (goes.past S.since keeps.started, adds.same t h le ∙ adds.is)
        (drop-append-le (length (old.world S.since).console) (old.world old.now).console adds.more (let g = keeps.grows S.since (omega arith) keeps.started in omega (arith, ap length g.is, length-append (old.world S.since).console g.more)))

-- THE PRESENT CHANGES: the journal, the renewals, the notes and the copies, where all before now stays the same

module _ (S : Setting) (rs : Renewals) (had : List (List Page)) where
  abbrev pub with_other : Setting
  with_other = record S { renewals = rs; had = had }

  abbrev pages_with : {reached l order : ℕ} {K F : List Entry} → Versions S reached K F l order → Versions with_other reached K F l order
  pages_with p = record { was = p.was; coming = p.coming; stands = p.stands; comes = p.comes; none = p.none; near = p.near; comes_near = p.comes_near }

module _ (S : Setting) (rs : Renewals) (had : List (List Page)) (js js' : List Batch) (c c' : Option Batch) (reached reached' : ℕ) (copies copies' : Dev → Copy) (v : View) (keeps : Keeps S js c reached copies v) where
  pub now_keep : (p : Versions S reached' (kept_all js') (entries_in c') keeps.first_level keeps.first_order) → AreSettled js' v.now → IsBegun c' v.now
      → ((t : ℕ) → t < v.now → account (js' ++ in_flight c') t ≡ account (js ++ in_flight c) t) → reached ≤ reached' → reached' ≤ keeps.first_level + batches_kept js'
      → ((t : ℕ) → S.since ≤ t → t ≤ v.now → ToldAt S (js' ++ in_flight c') v t) → TextsAt S (kept_all js') (entries_in c') v v.now
      → ((d : Dev) → IsCkpt d → AreRenewedBy (of_device d rs) v.now) → ((d : Dev) → IsCkpt d → (t : ℕ) → t < v.now → is_renewed_at (of_device d rs) t ≡ is_renewed_at (of_device d S.renewals) t)
      → ((d : Dev) → IsCkpt d → CopyAt (with_other S rs had) p.was p.coming d (copies' d) v) → ((d : Dev) → IsCkpt d → (copies' d).alive ≡ true → AreNotedBefore (with_other S rs had) p.was p.coming)
      → Keeps (with_other S rs had) js' c' reached' copies' v
  now_keep p settled begun accounts least risen told texts renewed same at later = record {
    started = keeps.started;
    settled = settled;
    begun = begun;
    renewed = renewed;
    first_level = keeps.first_level;
    first_order = keeps.first_order;
    past = λ t from lt. subst (λ (a : Account). Moment (with_other S rs had) (span_of keeps.first_level keeps.first_order reached') a.0 a.1 v t) (sym (accounts t lt)) (let m = keeps.past t from lt in record {
      alike = λ below. let a = m.alike below in record {
        reached = a.reached;
        low = omega (arith, a.low, least);
        pages = pages_with S rs had a.pages;
        reads = λ d ckpt. subst (λ (b : Bool). ReadsBy S b a.pages.was a.pages.coming (disk_at v t d)) (sym (same d ckpt t lt)) (a.reads d ckpt);
      };
      stood = m.stood;
    });
    told = told;
    grows = keeps.grows;
    stood = (texts, keeps.stood.1);
    first = keeps.first;
    risen = risen;
    pages = pages_with S rs had p;
    at = at;
    later = later;
  }

-- with other renewals, other notes and other copies
module _ (S : Setting) (rs : Renewals) (had : List (List Page)) (js : List Batch) (c : Option Batch) (reached : ℕ) (copies copies' : Dev → Copy) (v : View) (keeps : Keeps S js c reached copies v) where
  pub other_keep : (p : Versions S reached (kept_all js) (entries_in c) keeps.first_level keeps.first_order) → ((d : Dev) → IsCkpt d → AreRenewedBy (of_device d rs) v.now)
      → ((d : Dev) → IsCkpt d → (t : ℕ) → t < v.now → is_renewed_at (of_device d rs) t ≡ is_renewed_at (of_device d S.renewals) t)
      → ((d : Dev) → IsCkpt d → CopyAt (with_other S rs had) p.was p.coming d (copies' d) v) → ((d : Dev) → IsCkpt d → (copies' d).alive ≡ true → AreNotedBefore (with_other S rs had) p.was p.coming)
      → Keeps (with_other S rs had) js c reached copies' v
  other_keep p = now_keep S rs had js js c c reached reached copies copies' v keeps p keeps.settled keeps.begun (λ t lt. refl) (omega arith) keeps.risen keeps.told keeps.stood.0

-- other copies, or other places of them, where they stand
pub copies_keep : (S : Setting) (js : List Batch) (c : Option Batch) (reached : ℕ) (copies copies' : Dev → Copy) (v : View) → (keeps : Keeps S js c reached copies v) → ((d : Dev) → IsCkpt d → CopyAt S keeps.pages.was keeps.pages.coming d (copies' d) v)
    → ((d : Dev) → IsCkpt d → (copies' d).alive ≡ true → (copies d).alive ≡ true) → Keeps S js c reached copies' v
copies_keep S js c reached copies copies' v keeps at stays =
    other_keep S S.renewals S.had js c reached copies copies' v keeps keeps.pages keeps.renewed (λ d ckpt t lt. refl) at (λ d ckpt is. keeps.later d ckpt (stays d ckpt is))

-- the journal: a batch begins now, and no line tells an entry of it
module _ (S : Setting) (js : List Batch) (b : Batch) (reached : ℕ) (copies : Dev → Copy) (v : View) where
  pub begins_keep : Keeps S js None reached copies v → b.fate ≡ Flying → b.first ≡ v.now → TellOnly S.closes (said S v v.now) (λ m s. has_step m s b.entries ≡ false)
      → HasTexts (lost_now v) (spools_at v v.now) S.base.config.groups (S.run S.base (kept_all js ++ b.entries)) → Keeps S js (Some b) reached copies v
  begins_keep keeps flies first untold has = now_keep S S.renewals S.had js js None (Some b) reached reached copies copies v keeps (record { was = keeps.pages.was; coming = None; stands = keeps.pages.stands; comes = tt; none = λ _. refl; near = keeps.pages.near; comes_near = tt }) keeps.settled (flies, omega (arith, first))
      (λ t lt. account_after js (b ∷ []) [] t (account_before b t flies (omega (arith, first, lt)))) (omega arith) keeps.risen
      (λ t from le text there m s closes. let g = keeps.grows t from le in
      step_push js b t m s (untold text (subst (λ (l : List Line). Contains (drop (length (v.world S.since).console) l) (whole text)) (sym g.is) (behind_more (length (v.world S.since).console) (v.world t).console g.more (whole text) there)) m s closes)
      (keeps.told t from le text there m s closes))
      texts keeps.renewed (λ d ckpt t lt. refl) (λ d ckpt. subst (λ (n : Option (List ℕ)). CopyAt S keeps.pages.was n d (copies d) v) (keeps.pages.none refl) (keeps.at d ckpt)) (λ d ckpt is. ((keeps.later d ckpt is).0, tt)) where
        texts : TextsAt S (kept_all js) b.entries v v.now
        texts false = keeps.stood.0 false
        texts true = has

-- the journal: the batch in flight gets its fate, and these are the kept pages then
module _ (S : Setting) (js : List Batch) (b c : Batch) (reached reached' : ℕ) (copies copies' : Dev → Copy) (v : View) where
  pub fate_keeps : reached ≤ reached' → reached' ≤ reached + batches_kept (c ∷ []) → (keeps : Keeps S js (Some b) reached copies v) → is_flying c.fate ≡ false → c.first ≡ b.first → c.entries ≡ b.entries → c.last ≡ v.now
      → (p : Versions S reached' (kept_all (js ++ c ∷ [])) [] keeps.first_level keeps.first_order) → ((d : Dev) → IsCkpt d → CopyAt S p.was p.coming d (copies' d) v) → ((d : Dev) → IsCkpt d → (copies' d).alive ≡ true → AreNotedBefore S p.was p.coming) → Keeps S (js ++ c ∷ []) None reached' copies' v
  fate_keeps least most keeps fated same_first same_entries last p = now_keep S S.renewals S.had js (js ++ c ∷ []) (Some b) None reached reached' copies copies' v keeps p
      (settled_push js c v.now keeps.settled fated (omega (arith, same_first, last, keeps.begun.1)) (omega (arith, last))) tt
      (λ t lt. ap (λ (l : List Batch). account l t) (append-nil (js ++ c ∷ [])) ∙ account_after js (c ∷ []) (b ∷ []) t (account_fated b c t keeps.begun.0 same_first same_entries (omega (arith, last, lt))))
      least (omega (arith, keeps.risen, most, kept_append js (c ∷ []))) (λ t from le text there m s closes. step_fate js b c t m s keeps.begun.0 same_entries (keeps.told t from le text there m s closes)) texts keeps.renewed (λ d ckpt t lt. refl) where
        Has : List Entry → Type 0
        Has es = HasTexts (lost_now v) (spools_at v v.now) S.base.config.groups (S.run S.base es)

        here : Has (kept_all (js ++ c ∷ []))
        here = subst Has (sym (kept_all_append js (c ∷ []))) (of_if (λ (es : List Entry). Has (kept_all js ++ (es ++ []))) (is_kept c.fate) c.entries []
            (λ _. subst (λ (l : List Entry). Has (kept_all js ++ l)) (sym (append-nil c.entries ∙ same_entries)) (keeps.stood.0 true)) (λ _. subst Has (sym (append-nil (kept_all js))) (keeps.stood.0 false)))

        texts : TextsAt S (kept_all (js ++ c ∷ [])) [] v v.now
        texts false = here
        texts true = subst Has (sym (append-nil (kept_all (js ++ c ∷ [])))) here
