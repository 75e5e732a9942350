-- The lock of a stopped member taken over, as the takeover says it: what was found, with both copies before any batch, or nothing.
use Rattle.std.proofs.Common.{◌≡◌, ◌≢◌, ◌⊎◌, inl, inr, ⊎_elim, ℕ, ◌+◌, ◌≤◌, ◌<◌, ◌==◌, nat_lt, Bool, true, false, not, ◌||◌, if◌then◌else◌, List, [], ◌∷◌, ◌++◌, length, Option, Some, None, Result, Ok, Err, refl, sym, ◌∙◌, ap, subst, arith}
use Rattle.std.proofs.lemmas.Bool.Decides.{nat_tests}
use Rattle.mas_types.specs.declared.ids.Dev.TheVariants.{Ckpt1, Ckpt2}
use Rattle.mas_types.specs.declared.ids.MemberId.{MemberId}
use Rattle.mas_types.specs.declared.ids.Page.{Page}
use Rattle.mas_types.specs.declared.journals.Batch.{Batch}
use Rattle.mas_types.specs.declared.journals.Fate.{Fate}
use Rattle.mas_types.specs.declared.journals.Fate.TheVariants.{Dropped, Flying, Kept}
use Rattle.mas_types.specs.declared.queues.Queue.{Queue}
use Rattle.mas_types.specs.Journal.{is_flying}
use Rattle.mas_types.specs.Sound.{IsSound}
use Rattle.lock_cycle.specs.declared.answers.SeizeNo.{SeizeNo}
use Rattle.lock_cycle.specs.declared.answers.SeizeNo.TheVariants as seized
use Rattle.lock_cycle.specs.Books.{Book, IsMember, after_seize, after_stop, is_holder, is_stopped, seize_refusal}
use Rattle.spool_plant.specs.declared.plant.Plant.{Ghosts as PlantGhosts}
use Rattle.spool_plant.specs.View.{View, disk_now}
use Rattle.spool_plant.specs.Acts.{Rose}
use Rattle.spool_volumes.specs.Volumes.{AreRoomy}
use Rattle.ckpt_copy.specs.declared.copying.Copying.{Ghosts as CopyGhosts}
use Rattle.ckpt_copy.specs.Pages.{bytes_of, level}
use Rattle.ckpt_tables.specs.Shape.{page_count}
use Rattle.duplex_pair.specs.Halves.{IsBothLost, SomeAlive}
use Rattle.mas_complex.proofs.Batches.{with_last-append, unplaced_settled}
use Rattle.mas_complex.specs.Journals.{AreSettled, end_of, fated, kept_all, with_last}
use Rattle.mas_complex.specs.Locking.{IsOfOther}
use Rattle.mas_complex.specs.Parts.{Parts, ended_at}
use Rattle.mas_complex.specs.Seen.{IsGreater, ReadsSeen}
use Rattle.warm_start.specs.declared.takeovers.TakeNo.{TakeNo}
use Rattle.warm_start.specs.declared.takeovers.TakeNo.TheVariants as take_no
use Rattle.warm_start.specs.Takeover.{HasActed, HasFailed1, HasFailed2, HasFound, IsRefusedBy, TakesBy, fate_of, placed_then, taken_in}
use Rattle.warm_start.proofs.Spooling.{roomy_later}
use Rattle.member_node.specs.declared.member.NodeNo.TheVariants as no_node
use Rattle.member_hand.specs.Quiet.{IsQuiet}
use Rattle.member_sittings.specs.Gates.{IsOpen}
use Rattle.member_sittings.specs.Sat.{journal_of}
use Rattle.member_sittings.specs.Whole.{first_half, queue_of, second_half}
use Rattle.member_resets.specs.Settling.{settle, settled_at, with_found}
use Rattle.member_resets.specs.WhyLost.{IsWhyLost}
use Rattle.member_resets.specs.Resetting.{IsTaken, IsUnfound, IsUntaken, node_no, rested_in}
use Rattle.member_hand.specs.Standing.{StandsIn}
use Rattle.member_resets.proofs.BookLemmas.{Since, inside_since, seized_since, stands_later, stopped_since, then_since}
use Rattle.member_resets.proofs.SettleLemmas.{settle_both, settle_still}
use Rattle.member_steps.proofs.LowCopies.{low_found, sound_told}

-- A BATCH IN FLIGHT is of a stopped member

pub others_stand : (batches : List Batch) (placed : Bool) (b : Book) (by : MemberId) (c : Option Batch) → StandsIn batches placed b c → is_stopped b by ≡ false → IsOfOther c by
others_stand batches placed b by None stands up = tt
others_stand batches placed b by (Some c) stands up = λ same. absurd (let both : true ≡ false = sym stands.2 ∙ ap (λ (m : MemberId). is_stopped b m) same ∙ up in cc)

-- THE FATE THAT IS FOUND

not_flying : (same : Bool) → (if same then Dropped else Kept) ≢ Flying
not_flying true e = absurd (cc)
not_flying false e = absurd (cc)

with_fate : (f : Fate) → f ≢ Flying → (now : ℕ) (c : Batch) → with_found f now c ≡ fated f now c
with_fate Kept other now c = refl
with_fate Dropped other now c = refl
with_fate Flying other now c = absurd (other refl)

fate_settles : (f : Fate) → f ≢ Flying → (now : ℕ) (c : Batch) → c.fate ≡ Flying → settled_at f now c ≡ fated f now c
fate_settles f other now c flies = ap (λ (g : Fate). if is_flying g then with_found f now c else c) flies ∙ with_fate f other now c

placed_none : (batches : List Batch) (placed : Bool) (b : Book) (c : Option Batch) → StandsIn batches placed b c → placed_then c placed ≡ false
placed_none batches placed b None stands = stands
placed_none batches placed b (Some c) stands = refl

-- a batch in flight has its fate in the journal, and no other batch of it is in flight
fate_journal : (f : Fate) → f ≢ Flying → (now was : ℕ) (batches : List Batch) (placed : Bool) (b : Book) (c : Option Batch) → StandsIn batches placed b c → AreSettled batches was
    → end_of (placed_then c placed) None (ended_at f now c batches) ≡ settle f now (end_of placed c batches)
fate_journal f other now was batches placed b None stands are =
    ap (λ (p : Bool). end_of p None batches) stands ∙ sym (settle_still f now batches was are) ∙ ap (λ (p : Bool). settle f now (end_of p None batches)) (sym stands)
fate_journal f other now was batches placed b (Some c) stands are =
    let e = stands.0 in
    let before : AreSettled e.before was = unplaced_settled e.before e.place was (subst (λ (bs : List Batch). AreSettled bs was) e.is are) in
    ap (λ (bs : List Batch). with_last (fated f now c) bs) e.is ∙ with_last-append (fated f now c) e.before e.place
    ∙ ap (λ (d : Batch). e.before ++ d ∷ []) (sym (fate_settles f other now c stands.1))
    ∙ ap (λ (bs : List Batch). bs ++ settled_at f now c ∷ []) (sym (settle_still f now e.before was before))
    ∙ sym (settle_both f now e.before (c ∷ []))
    ∙ ap (λ (bs : List Batch). settle f now bs) (sym (ap (λ (bs : List Batch). with_last c bs) e.is ∙ with_last-append c e.before e.place))

-- A TAKEOVER leaves the base, the first moment and the moments at which a copy was replaced

pub taken_base : {P C : Type 0} (r : Result (List Page) TakeNo) (now : ℕ) (by of : MemberId) (is was : Parts P C) → (taken_in r now by of is was).base ≡ was.base
taken_base (Ok pages) now by of is was = refl
taken_base (Err take_no.StillUp) now by of is was = refl
taken_base (Err take_no.NotHolder) now by of is was = refl
taken_base (Err take_no.BothLost) now by of is was = refl
taken_base (Err take_no.Halted) now by of is was = refl
taken_base (Err take_no.NoMemory) now by of is was = refl

pub taken_since : {P C : Type 0} (r : Result (List Page) TakeNo) (now : ℕ) (by of : MemberId) (is was : Parts P C) → (taken_in r now by of is was).since ≡ was.since
taken_since (Ok pages) now by of is was = refl
taken_since (Err take_no.StillUp) now by of is was = refl
taken_since (Err take_no.NotHolder) now by of is was = refl
taken_since (Err take_no.BothLost) now by of is was = refl
taken_since (Err take_no.Halted) now by of is was = refl
taken_since (Err take_no.NoMemory) now by of is was = refl

pub taken_renewals : {P C : Type 0} (r : Result (List Page) TakeNo) (now : ℕ) (by of : MemberId) (is was : Parts P C) → (taken_in r now by of is was).renewals ≡ was.renewals
taken_renewals (Ok pages) now by of is was = refl
taken_renewals (Err take_no.StillUp) now by of is was = refl
taken_renewals (Err take_no.NotHolder) now by of is was = refl
taken_renewals (Err take_no.BothLost) now by of is was = refl
taken_renewals (Err take_no.Halted) now by of is was = refl
taken_renewals (Err take_no.NoMemory) now by of is was = refl

-- of who is stopped and holds the lock it is never refused
pub none_refused : (b : Book) (of : MemberId) → is_stopped b of ≡ true → is_holder b of ≡ true → seize_refusal b of ≡ None
none_refused b of stopped holds =
    ap (λ (s : Bool). if not s then Some seized.StillUp else if is_holder b of then None else Some (seized.NotHolder b.holder)) stopped
    ∙ ap (λ (h : Bool). if h then None else Some (seized.NotHolder b.holder)) holds

pub unfound : (b : Book) (of : MemberId) → is_stopped b of ≡ true → is_holder b of ≡ true → (e : TakeNo) → IsRefusedBy {T = List Page} (seize_refusal b of) (Err e) → IsUnfound e
unfound b of stopped holds e refused = by_error e (subst (λ (o : Option SeizeNo). IsRefusedBy {T = List Page} o (Err e)) (none_refused b of stopped holds) refused) where
  by_error : (e : TakeNo) → IsRefusedBy {T = List Page} None (Err e) → IsUnfound e
  by_error take_no.StillUp never = never
  by_error take_no.NotHolder never = never
  by_error take_no.BothLost is = tt
  by_error take_no.Halted is = tt
  by_error take_no.NoMemory is = tt

-- WHY A COPY WAS LOST: the pages found are of no smaller level than those that it read as

found_one : (a : List Page) (two : Option (List Page)) (found : List Page) → IsGreater (Some a) two found → level (bytes_of a) ≤ level (bytes_of found)
found_one a None found is = let same : level (bytes_of found) ≡ level (bytes_of a) = ap (λ (p : List Page). level (bytes_of p)) is in omega (arith, same)
found_one a (Some b) found is = subst (λ (p : List Page). level (bytes_of a) ≤ level (bytes_of p)) (sym is) (by_less (nat_lt (level (bytes_of a)) (level (bytes_of b))) refl) where
  by_less : (t : Bool) → nat_lt (level (bytes_of a)) (level (bytes_of b)) ≡ t → level (bytes_of a) ≤ level (bytes_of (if t then b else a))
  by_less true e = let lt : level (bytes_of a) < level (bytes_of b) = grind (arith, nat_tests, e) in omega (arith, lt)
  by_less false e = omega arith

found_two : (one : Option (List Page)) (b : List Page) (found : List Page) → IsGreater one (Some b) found → level (bytes_of b) ≤ level (bytes_of found)
found_two None b found is = let same : level (bytes_of found) ≡ level (bytes_of b) = ap (λ (p : List Page). level (bytes_of p)) is in omega (arith, same)
found_two (Some a) b found is = subst (λ (p : List Page). level (bytes_of b) ≤ level (bytes_of p)) (sym is) (by_less (nat_lt (level (bytes_of a)) (level (bytes_of b))) refl) where
  by_less : (t : Bool) → nat_lt (level (bytes_of a)) (level (bytes_of b)) ≡ t → level (bytes_of b) ≤ level (bytes_of (if t then b else a))
  by_less true e = omega arith
  by_less false e = let le : level (bytes_of b) ≤ level (bytes_of a) = grind (arith, nat_tests, e) in omega (arith, le)

same_read : (reads : List ℕ → Option (List ℕ)) (bytes own seen : List ℕ) → reads bytes ≡ Some own → reads bytes ≡ Some seen → seen ≡ own
same_read reads bytes own seen one two = let e : Some seen ≡ Some own = sym two ∙ one in cc

-- a copy that gave pages gave those that its bytes read as, and one that gave none failed
least_of : (reads : List ℕ → Option (List ℕ)) (bytes own found : List ℕ) (failed : Type 0) (pages : Option (List Page)) → reads bytes ≡ Some own → ReadsSeen reads bytes pages → (pages ≡ None → failed)
    → ((a : List Page) → pages ≡ Some a → level (bytes_of a) ≤ level found) → failed ⊎ (level own ≤ level found)
least_of reads bytes own found failed None is seen none least = inl (none refl)
least_of reads bytes own found failed (Some a) is seen none least =
    inr (subst (λ (bs : List ℕ). level bs ≤ level found) (same_read reads bytes own (bytes_of a) is seen) (least a refl))

second_on : (one two : Bool) → SomeAlive one two → one ≡ false → two ≡ true
second_on false two some gone = some
second_on true two some gone = absurd (cc)

first_on : (one two : Bool) → SomeAlive one two → two ≡ false → one ≡ true
first_on true two some gone = refl
first_on false true some gone = absurd (cc)
first_on false false some gone = absurd (cc)

module _ {P C : Type 0} (plants : PlantGhosts P) (copies : CopyGhosts C) (by of : MemberId) (x z : Parts P C) (inside : IsMember x.book by) (stands : StandsIn x.batches x.placed x.book x.current) where
  abbrev v : Parts P C → View
  v w = plants.view w.plant

  -- SOMETHING WAS FOUND, and both copies count as before any batch

  abbrev rested : Parts P C
  rested = rested_in z

  module _ (pages : List Page) (leaves : z ≡ taken_in (Ok pages) (v z).now by of z x) (acts : HasActed plants by x z (Ok pages)) (found : HasFound plants copies x z pages)
      (was : AreSettled x.batches (v x).now) (begun : x.since ≤ (v x).now) (roomy : plants.tells → AreRoomy (v x) x.base.config)
      (sound : plants.tells → IsSound (queue_of z)) (now : AreSettled z.batches (v z).now) where
    abbrev fate : Fate
    fate = fate_of (level (bytes_of pages)) x.level

    same_base : z.base ≡ x.base
    same_base = ap (λ (p : Parts P C). p.base) leaves

    first_open : IsOpen plants.tells (first_half plants copies rested) z.base.config (length z.batches) (page_count x.base.config)
    first_open = record {
      calm = record { before = refl; as_many = λ on. sym found.many ∙ (found.first on).as_many };
      low = low_found plants.tells z.first_alive z.base (kept_all z.batches) (length z.batches) (bytes_of pages) (copies.reads (disk_now (v z) Ckpt1).bytes)
          sound found.stands found.low (λ t on. (found.first on).now t);
    }

    second_open : IsOpen plants.tells (second_half plants copies rested) z.base.config (length z.batches) (page_count x.base.config)
    second_open = record {
      calm = record { before = refl; as_many = λ on. sym found.many ∙ (found.second on).as_many };
      low = low_found plants.tells z.second_alive z.base (kept_all z.batches) (length z.batches) (bytes_of pages) (copies.reads (disk_now (v z) Ckpt2).bytes)
          sound found.stands found.low (λ t on. (found.second on).now t);
    }

    quiet : IsQuiet plants copies rested (page_count x.base.config)
    quiet = record {
      none = ap (λ (p : Parts P C). p.current) leaves;
      unplaced = ap (λ (p : Parts P C). p.placed) leaves ∙ placed_none x.batches x.placed x.book x.current stands;
      unreserved = ap (λ (p : Parts P C). p.reserved) leaves;
      first = first_open;
      second = second_open;
      sound = λ t. sound_told (queue_of z) (sound t);
      kept = now;
      begun = let since : z.since ≡ x.since = ap (λ (p : Parts P C). p.since) leaves in let later = acts.counts.goes.later in omega (arith, since, later, begun);
      roomy = λ t. subst (λ (Q : Queue). AreRoomy (v z) Q.config) (sym same_base) (roomy_later (v x) (v z) x.base.config acts.counts.goes (roomy t));
    }

    why1 : plants.tells → x.first_alive ≡ true → z.first_alive ≡ false → IsWhyLost copies.reads fate Ckpt1 Ckpt2 (v x) (v z)
    why1 t was gone =
        let p = found.picked t in
        let later = acts.counts.goes.later in
        inr
        (⊎_elim inl
        (λ u. ⊎_elim inl
        (λ least. inr (record {
          pages = pages;
          reached = x.level;
          fated = refl;
          near = found.near;
          at = (v z).now;
          moment = (later, omega arith);
          beside = (found.second (second_on z.first_alive z.second_alive found.some gone)).now t;
          room = copies.room_in (disk_now (v x) Ckpt1).bytes;
          unfit = u;
          least = least;
        }))
        (least_of copies.reads (disk_now (v x) Ckpt1).bytes (bytes_of u.other) (bytes_of pages) (HasFailed1 plants x z) p.one u.read p.read1 (λ none. p.none1 none was)
        (λ a is. found_one a p.two pages (subst (λ (o : Option (List Page)). IsGreater o p.two pages) is p.greater))))
        (found.left1 t was gone))

    why2 : plants.tells → x.second_alive ≡ true → z.second_alive ≡ false → IsWhyLost copies.reads fate Ckpt2 Ckpt1 (v x) (v z)
    why2 t was gone =
        let p = found.picked t in
        let later = acts.counts.goes.later in
        inr
        (⊎_elim inl
        (λ u. ⊎_elim inl
        (λ least. inr (record {
          pages = pages;
          reached = x.level;
          fated = refl;
          near = found.near;
          at = (v z).now;
          moment = (later, omega arith);
          beside = (found.first (first_on z.first_alive z.second_alive found.some gone)).now t;
          room = copies.room_in (disk_now (v x) Ckpt2).bytes;
          unfit = u;
          least = least;
        }))
        (least_of copies.reads (disk_now (v x) Ckpt2).bytes (bytes_of u.other) (bytes_of pages) (HasFailed2 plants x z) p.two u.read p.read2 (λ none. p.none2 none was)
        (λ b is. found_two p.one b pages (subst (λ (o : Option (List Page)). IsGreater p.one o pages) is p.greater))))
        (found.left2 t was gone))

    pub is_taken : IsTaken plants copies by of x rested fate
    is_taken = record {
      left1 = why1;
      left2 = why2;
      counts = acts.counts;
      apart = acts.apart;
      fated = not_flying (level (bytes_of pages) == x.level);
      journal = ap (λ (p : Parts P C). journal_of p) leaves
          ∙ fate_journal fate (not_flying (level (bytes_of pages) == x.level)) (v z).now (v x).now x.batches x.placed x.book x.current stands was;
      printed = ap (λ (p : Parts P C). p.printed) leaves;
      had = ap (λ (p : Parts P C). p.had) leaves;
      book = ap (λ (p : Parts P C). p.book) leaves;
      quiet = quiet;
      level = subst (λ (n : ℕ). n ≤ x.level + 1) (sym (ap (λ (p : Parts P C). p.level) leaves)) found.near;
      some = found.some;
    }

  -- NOTHING WAS FOUND

  untaken_lost : IsBothLost z.first_alive z.second_alive → z ≡ taken_in (Err take_no.BothLost) (v z).now by of z x → HasActed plants by x z (Err take_no.BothLost)
      → IsUntaken plants copies by of x z no_node.BothLost
  untaken_lost lost leaves acts = record {
    counts = acts.counts;
    apart = acts.apart;
    cause = lost;
    some = tt;
    journal = ap (λ (p : Parts P C). journal_of p) leaves;
    current = ap (λ (p : Parts P C). p.current) leaves;
    printed = ap (λ (p : Parts P C). p.printed) leaves;
    had = ap (λ (p : Parts P C). p.had) leaves;
    book = ap (λ (p : Parts P C). p.book) leaves;
    stands = tt;
  }

  -- without memory, where a copy counts as alive or none does

  lost_both : (one two : Bool) → (one || two) ≡ false → IsBothLost one two
  lost_both false two none = (refl, none)
  lost_both true two none = absurd (cc)

  untaken_short : (some : Bool) → (z.first_alive || z.second_alive) ≡ some → z ≡ taken_in (Err take_no.NoMemory) (v z).now by of z x → HasActed plants by x z (Err take_no.NoMemory)
      → IsUntaken plants copies by of x z (if some then no_node.NoMemory else no_node.BothLost)
  untaken_short true some leaves acts = record {
    counts = acts.counts;
    apart = acts.apart;
    cause = tt;
    some = some;
    journal = ap (λ (p : Parts P C). journal_of p) leaves;
    current = ap (λ (p : Parts P C). p.current) leaves;
    printed = ap (λ (p : Parts P C). p.printed) leaves;
    had = ap (λ (p : Parts P C). p.had) leaves;
    book = ap (λ (p : Parts P C). p.book) leaves;
    stands = tt;
  }
  untaken_short false none leaves acts = record {
    counts = acts.counts;
    apart = acts.apart;
    cause = lost_both z.first_alive z.second_alive none;
    some = tt;
    journal = ap (λ (p : Parts P C). journal_of p) leaves;
    current = ap (λ (p : Parts P C). p.current) leaves;
    printed = ap (λ (p : Parts P C). p.printed) leaves;
    had = ap (λ (p : Parts P C). p.had) leaves;
    book = ap (λ (p : Parts P C). p.book) leaves;
    stands = tt;
  }

  -- who was stopped before the takeover still is

  abbrev book_then : Book
  book_then = after_stop (after_seize x.book by of) by

  since_then : Since x.book book_then
  since_then =
      let one = seized_since x.book by inside of in
      then_since x.book (after_seize x.book by of) book_then one (stopped_since (after_seize x.book by of) by (inside_since x.book (after_seize x.book by of) by one inside))

  untaken_halted : z ≡ taken_in (Err take_no.Halted) (v z).now by of z x → HasActed plants by x z (Err take_no.Halted) → SomeAlive z.first_alive z.second_alive
      → Rose ((v x).stops by.0) ((v z).stops by.0) → IsUntaken plants copies by of x z no_node.Halted
  untaken_halted leaves acts some rose = record {
    counts = acts.counts;
    apart = acts.apart;
    cause = rose;
    some = some;
    journal = ap (λ (p : Parts P C). journal_of p) leaves;
    current = ap (λ (p : Parts P C). p.current) leaves;
    printed = ap (λ (p : Parts P C). p.printed) leaves;
    had = ap (λ (p : Parts P C). p.had) leaves;
    book = ap (λ (p : Parts P C). p.book) leaves;
    stands = subst (λ (p : Parts P C). StandsIn p.batches p.placed p.book p.current) (sym leaves) (stands_later x.batches x.placed x.book book_then since_then x.current stands);
  }

  pub untaken : (some : Bool) (e : TakeNo) → (z.first_alive || z.second_alive) ≡ some → IsUnfound e → z ≡ taken_in (Err e) (v z).now by of z x → HasActed plants by x z (Err e)
      → TakesBy plants copies by x z (Err e) → IsUntaken plants copies by of x z (node_no some e)
  untaken some take_no.StillUp is un leaves acts tells = absurd un
  untaken some take_no.NotHolder is un leaves acts tells = absurd un
  untaken some take_no.BothLost is un leaves acts tells = untaken_lost tells.both leaves acts
  untaken some take_no.Halted is un leaves acts tells = untaken_halted leaves acts tells.0 tells.1
  untaken some take_no.NoMemory is un leaves acts tells = untaken_short some is leaves acts
