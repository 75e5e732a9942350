-- What a turn leaves is a value between two turns.
use Rattle.std.proofs.Common.{◌≡◌, ◌≢◌, ◌∙◌, ⊎_elim, ◌||◌, ◌&&◌, if◌then◌else◌, ◌<◌, ◌≤◌, ℕ, Bool, true, false, List, [], ◌∷◌, ◌++◌, length, All, Option, Some, None, Result, Ok, Err, ap, refl, subst, sym, arith}
use Rattle.std.proofs.lemmas.List.Elements.{All-append, All-cons, All-head, All-nil, All-tail, All-weaker}
use Rattle.mas_types.specs.declared.ids.Dev.TheVariants.{Ckpt1, Ckpt2}
use Rattle.mas_types.specs.declared.ids.MemberId.{MemberId}
use Rattle.mas_types.specs.declared.journals.Batch.{Batch}
use Rattle.mas_types.specs.declared.journals.Entry.{Entry}
use Rattle.mas_types.specs.declared.journals.Fate.{Fate}
use Rattle.mas_types.specs.declared.journals.Fate.TheVariants.{Dropped, Flying, Kept}
use Rattle.mas_types.specs.declared.queues.Config.{Config}
use Rattle.mas_types.specs.declared.queues.Queue.{Queue}
use Rattle.mas_types.specs.Ids.{is_somebody, nobody}
use Rattle.mas_types.specs.Journal.{is_flying, is_kept}
use Rattle.lock_cycle.specs.Books.{Book, IsMember, is_stopped}
use Rattle.script_lang.specs.declared.types.Ask.{Ask}
use Rattle.spool_plant.specs.View.{View, disk_now}
use Rattle.spool_plant.specs.declared.plant.Plant.{Ghosts as PlantGhosts}
use Rattle.spool_volumes.specs.Volumes.{AreRoomy}
use Rattle.ckpt_copy.specs.declared.copying.Copying.{Ghosts as CopyGhosts}
use Rattle.ckpt_form.specs.declared.steady.Steady.{Ghosts as SteadyGhosts}
use Rattle.ckpt_tables.specs.Shape.{page_count}
use Rattle.duplex_pair.specs.Halves.{IsBothLost, SomeAlive}
use Rattle.gate_turns.specs.Actors.{ResetsStopped}
use Rattle.gate_turns.specs.Seats.{shows_stopped}
use Rattle.mas_complex.specs.declared.complex.Complex.{Complex}
use Rattle.mas_complex.specs.Journals.{AreSettled, IsPlace, in_flight}
use Rattle.mas_complex.specs.Locking.{IsOperatorAway, reserved_after_stop}
use Rattle.mas_complex.specs.Parts.{Parts, batches_left, parts_of, placed_left, unreserved_in}
use Rattle.mas_race.specs.Between.{BetweenTurns, IsBetweenTurns, IsLowHalf, is_held}
use Rattle.member_node.specs.declared.member.Member.{Member}
use Rattle.member_node.specs.declared.member.NodeNo.{NodeNo}
use Rattle.member_node.specs.declared.member.NodeNo.TheVariants as no_node
use Rattle.member_decks.proofs.PageLemmas.{still_roomy}
use Rattle.member_asides.specs.Asides.{stopped_at}
use Rattle.member_sittings.specs.Sat.{journal_of}
use Rattle.member_sittings.specs.Whole.{Half, first_half, second_half}
use Rattle.member_resets.specs.Plays.{played_in}
use Rattle.member_resets.specs.Quiet.{IsQuiet}
use Rattle.member_resets.proofs.Acting.{asided}
use Rattle.member_resets.specs.Settling.{settle, settled_at, with_found}
use Rattle.member_racing.specs.Opened.{IsIdleTurn, Tries, done_of}
use Rattle.member_racing.specs.Turning.{EndsTurn, raced_at}
use Rattle.member_racing.specs.Waits.{Waits}
use Rattle.member_racing.specs.declared.stages.Stage.{Stage as Stands}
use Rattle.member_racing.proofs.Adding.{AddsOf, Mine, end_base}
use Rattle.member_racing.proofs.Books.{OnlyBy}
use Rattle.member_resets.proofs.BookLemmas.{stopped_now}
use Rattle.member_racing.proofs.CostTurn.{EndedActs}
use Rattle.member_racing.proofs.Costing.{TurnActs}
use Rattle.member_racing.proofs.Given.{own_after}
use Rattle.member_racing.proofs.BooksTurn.{inside_only}
use Rattle.member_racing.proofs.Histories.{its_flight, journal_all}
use Rattle.member_racing.proofs.HowLeft.{HowLeft, IsStill, how_left}
use Rattle.member_racing.proofs.Journaled.{batches_all}
use Rattle.member_racing.proofs.Members.{some_of}
use Rattle.member_racing.proofs.OwnEntries.{HasFate, IsEntry, MayFly}
use Rattle.member_racing.proofs.Resting.{all_back, all_front}
use Rattle.member_racing.proofs.RestLemmas.{low_half, seated_only}
use Rattle.member_racing.proofs.Settled.{settle_all}
use Rattle.member_racing.proofs.TurnParts.{acts_end, acts_tried, adds_end, inside, may_end, only_end}

by_test : {A : Type 0} (b : Bool) → (b ≡ true → A) → (b ≡ false → A) → A
by_test true f g = f refl
by_test false f g = g refl

-- WHAT GOES ON, as far as a copy counts as alive

module _ {P C : Type 0} (plants : PlantGhosts P) (copies : CopyGhosts C) where
  abbrev v : Parts P C → View
  v q = plants.view q.plant

  abbrev Lives : Parts P C → Type 0
  Lives q = SomeAlive q.first_alive q.second_alive

  -- where nobody holds nothing is in flight, and both copies are low
  pub record IsIdle (q : Parts P C) : Type 0 where
    pub none : q.current ≡ None
    pub first : IsLowHalf plants.tells (first_half plants copies q) q.base.config (length q.batches)
    pub second : IsLowHalf plants.tells (second_half plants copies q) q.base.config (length q.batches)

  pub record IsResting (q : Parts P C) : Type 0 where
    pub away : IsOperatorAway q.book q.reserved q.current
    pub unreserved : Lives q → q.reserved ≡ None
    pub unplaced : Lives q → q.current ≡ None → q.placed ≡ false
    pub free : Lives q → q.book.holder ≡ nobody → IsIdle q

  pub resting_of : (x : Parts P C) → IsBetweenTurns plants copies x → IsResting x
  resting_of x rest = record {
    away = rest.away;
    unreserved = rest.unreserved;
    unplaced = rest.unplaced;
    free = λ some free. let f = rest.free some free in record { none = f.none; first = f.first; second = f.second };
  }

  -- a copy that reads the same, where that is told
  low_on : (h k : Half) (config : Config) (batches : ℕ) → k.place ≡ h.place → k.alive ≡ h.alive → k.count ≡ h.count → (plants.tells → k.read ≡ h.read) → IsLowHalf plants.tells h config batches → IsLowHalf plants.tells k config batches
  low_on h k config batches place alive count read low = record {
    before = place ∙ low.before;
    as_many = λ on. low.as_many (sym alive ∙ on) ∙ sym count;
    low = λ t on pages u sized reads spelled. low.low t (sym alive ∙ on) pages u sized (sym (read t) ∙ reads) spelled;
  }

  -- ACTS that leave it
  asided_resting : (x y : Parts P C) → IsStill plants copies x y → IsResting x → IsResting (asided y x)
  asided_resting x y s r = record {
    away = λ free. let a = r.away (sym s.holder ∙ free) in (s.unreserved a.0, a.1);
    unreserved = λ some. s.unreserved (r.unreserved some);
    unplaced = λ some none. r.unplaced some none;
    free = λ some free.
        let i : IsIdle x = r.free some (sym s.holder ∙ free) in
        record {
          none = i.none;
          first = low_on (first_half plants copies x) (first_half plants copies (asided y x)) x.base.config (length x.batches) refl refl refl (λ t. ap (λ d. copies.reads d.bytes) (s.first t)) i.first;
          second = low_on (second_half plants copies x) (second_half plants copies (asided y x)) x.base.config (length x.batches) refl refl refl (λ t. ap (λ d. copies.reads d.bytes) (s.second t)) i.second;
        };
  }

  still_resting : (x y : Parts P C) → IsStill plants copies x y → IsResting x → IsResting y
  still_resting x y s r = subst IsResting (sym s.frame) (asided_resting x y s r)

  -- nothing goes on
  quiet_resting : (base : Queue) (y : Parts P C) → y.base ≡ base → IsQuiet plants copies y (page_count base.config) → IsResting y
  quiet_resting base y same quiet =
      let q : IsQuiet plants copies y (page_count y.base.config) = subst (λ (Q : Queue). IsQuiet plants copies y (page_count Q.config)) (sym same) quiet in
      record {
        away = λ free. (q.unreserved, q.none);
        unreserved = λ some. q.unreserved;
        unplaced = λ some none. q.unplaced;
        free = λ some free. record {
          none = q.none;
          first = low_half plants.tells (first_half plants copies y) y.base.config (length y.batches) q.first;
          second = low_half plants.tells (second_half plants copies y) y.base.config (length y.batches) q.second;
        };
      }

  -- A STOP of the member, and what was reserved given up
  none_left : (by : MemberId) (o : Option (List Entry)) → o ≡ None → reserved_after_stop by o ≡ None
  none_left by o is = ap (reserved_after_stop by) is

  stopped_resting : (by : MemberId) (q : Parts P C) → IsResting q → IsResting (stopped_at by q)
  stopped_resting by q r = record {
    away = λ free. let a = r.away free in (none_left by q.reserved a.0, a.1);
    unreserved = λ some. none_left by q.reserved (r.unreserved some);
    unplaced = λ some none. r.unplaced some none;
    free = λ some free. let i : IsIdle q = r.free some free in record { none = i.none; first = i.first; second = i.second };
  }

  unplaced_left : (placed : Bool) (o : Option Batch) → o ≡ None → placed_left placed o ≡ false
  unplaced_left placed o is = ap (placed_left placed) is

  same_left : (placed : Bool) (o : Option Batch) (bs : List Batch) → o ≡ None → placed ≡ false → batches_left placed o bs ≡ bs
  same_left placed o bs none unplaced = ap (λ (p : Bool). batches_left p o bs) unplaced ∙ ap (λ (c : Option Batch). batches_left false c bs) none

  unreserved_resting : (q : Parts P C) → IsResting q → IsResting (unreserved_in q)
  unreserved_resting q r = record {
    away = λ free. (refl, (r.away free).1);
    unreserved = λ some. refl;
    unplaced = λ some none. unplaced_left q.placed q.current none;
    free = λ some free.
        let i : IsIdle q = r.free some free in
        let same : batches_left q.placed q.current q.batches ≡ q.batches = same_left q.placed q.current q.batches i.none (r.unplaced some i.none) in
        record {
          none = i.none;
          first = subst (λ (bs : List Batch). IsLowHalf plants.tells (first_half plants copies q) q.base.config (length bs)) (sym same) i.first;
          second = subst (λ (bs : List Batch). IsLowHalf plants.tells (second_half plants copies q) q.base.config (length bs)) (sym same) i.second;
        };
  }

  -- A LINE that the operator says
  said_resting : (q : Parts P C) (p : P) → (plants.tells → disk_now (plants.view p) Ckpt1 ≡ disk_now (v q) Ckpt1) → (plants.tells → disk_now (plants.view p) Ckpt2 ≡ disk_now (v q) Ckpt2) → IsResting q → IsResting (record q { plant = p })
  said_resting q p one two r = record {
    away = r.away;
    unreserved = r.unreserved;
    unplaced = r.unplaced;
    free = λ some free.
        let i : IsIdle q = r.free some free in
        record {
          none = i.none;
          first = low_on (first_half plants copies q) (first_half plants copies (record q { plant = p })) q.base.config (length q.batches) refl refl refl (λ t. ap (λ d. copies.reads d.bytes) (one t)) i.first;
          second = low_on (second_half plants copies q) (second_half plants copies (record q { plant = p })) q.base.config (length q.batches) refl refl refl (λ t. ap (λ d. copies.reads d.bytes) (two t)) i.second;
        };
  }

  -- A MEMBER THAT HOLDS after an error, once that turn was ended
  held_resting : (by : MemberId) (q : Parts P C) → by ≢ nobody → q.book.holder ≡ by → (Lives q → q.reserved ≡ None) → (Lives q → q.current ≡ None → q.placed ≡ false) → IsResting q
  held_resting by q somebody holds unreserved unplaced = record {
    away = λ free. absurd (somebody (sym holds ∙ free));
    unreserved = unreserved;
    unplaced = unplaced;
    free = λ some free. absurd (somebody (sym holds ∙ free));
  }

  lost_never : (a b : Bool) → IsBothLost a b → SomeAlive a b → ⊥
  lost_never true b lost some = absurd (let f = lost.0 in cc)
  lost_never false true lost some = absurd (let f = lost.1 in cc)
  lost_never false false lost some = absurd (cc)

-- THE END OF A TURN

module _ {P C : Type 0} {plants : PlantGhosts P} {steadies : SteadyGhosts C} {copies : CopyGhosts C} (by : MemberId) (at : ℕ) (mid y : Complex P C plants steadies copies) where
  abbrev q : Parts P C
  q = parts_of mid

  -- where its member was halted
  said_after : (result : Result Stands NodeNo) (e : EndsTurn by at mid y (Err no_node.Halted) result) → IsResting plants copies (unreserved_in (stopped_at by q)) → IsResting plants copies (parts_of y)
  said_after result e r =
      subst (IsResting plants copies) (sym e.frame)
      (said_resting plants copies (parts_of e.there) y.plant (λ t. e.says.acts.disks t Ckpt1) (λ t. e.says.acts.disks t Ckpt2) (subst (IsResting plants copies) (sym e.stopped) r))

  pub end_resting : (tried result : Result Stands NodeNo) → EndsTurn by at mid y tried result → IsResting plants copies q → IsResting plants copies (parts_of y)
  end_resting (Ok s) result e r = subst (IsResting plants copies) (sym e.0) r
  end_resting (Err no_node.BothLost) result e r = subst (IsResting plants copies) (sym e.0) r
  end_resting (Err no_node.NoMemory) result e r = subst (IsResting plants copies) (sym e.0) (unreserved_resting plants copies q r)
  end_resting (Err no_node.ConsoleFault) result e r = subst (IsResting plants copies) (sym e.0) (unreserved_resting plants copies q r)
  end_resting (Err no_node.Halted) result e r = said_after result e (unreserved_resting plants copies (stopped_at by q) (stopped_resting plants copies by q r))

  -- its member holds the lock
  module _ (somebody : by ≢ nobody) (holds : mid.book.holder ≡ by) where
    given_up : (p : Parts P C) → p.book.holder ≡ by → IsResting plants copies (unreserved_in p)
    given_up p its = held_resting plants copies by (unreserved_in p) somebody its (λ some. refl) (λ some none. unplaced_left plants copies p.placed p.current none)

    pub end_held : (e : NodeNo) (result : Result Stands NodeNo) → EndsTurn by at mid y (Err e) result → (e ≡ no_node.BothLost → IsBothLost q.first_alive q.second_alive) → IsResting plants copies (parts_of y)
    end_held no_node.BothLost result e lost =
        subst (IsResting plants copies) (sym e.0)
        (held_resting plants copies by q somebody holds (λ some. absurd (lost_never plants copies q.first_alive q.second_alive (lost refl) some)) (λ some none. absurd (lost_never plants copies q.first_alive q.second_alive (lost refl) some)))
    end_held no_node.NoMemory result e lost = subst (IsResting plants copies) (sym e.0) (given_up q holds)
    end_held no_node.ConsoleFault result e lost = subst (IsResting plants copies) (sym e.0) (given_up q holds)
    end_held no_node.Halted result e lost = said_after result e (given_up (stopped_at by q) holds)

-- BATCHES: who is stopped goes by what became of them

abbrev pub IsFated : Book → Batch → Type 0
IsFated d t = is_kept t.fate ≡ false → 0 < length t.entries → is_stopped d t.by ≡ true

-- one in flight is of a stopped member, where this holds, and one that was dropped too
pub record IsDown (L : Type 0) (d : Book) (t : Batch) : Type 0 where
  pub flies : L → is_flying t.fate ≡ true → IsMember d t.by × (is_stopped d t.by ≡ true)
  pub fated : is_flying t.fate ≡ false → IsFated d t

no_both : (b : Bool) → b ≡ true → b ≡ false → ⊥
no_both b one two = absurd (cc)

module _ (L : Type 0) (b c : Book) (many : length c.members ≡ length b.members) (stays : (k : MemberId) → is_stopped b k ≡ true → is_stopped c k ≡ true) where
  found_down : (f : Fate) (at : ℕ) (t : Batch) → IsMember c t.by × (is_stopped c t.by ≡ true) → IsDown L c (with_found f at t)
  found_down Kept at t down = record { flies = λ l is. down; fated = λ unlike not some. down.1 }
  found_down Dropped at t down = record { flies = λ l is. down; fated = λ unlike not some. down.1 }
  found_down Flying at t down = record { flies = λ l is. down; fated = λ unlike not some. down.1 }

  settled_down : (f : Fate) (at : ℕ) (t : Batch) → IsDown (Unit {0}) b t → IsDown L c (settled_at f at t)
  settled_down f at t d = by_test (is_flying t.fate)
      (λ flies. subst (IsDown L c) (sym (ap (λ (z : Bool). if z then with_found f at t else t) flies)) (found_down f at t (let was = d.flies tt flies in ((was.0.0, subst (λ (k : ℕ). t.by.0 ≤ k) (sym many) was.0.1), stays t.by was.1))))
      (λ not. subst (IsDown L c) (sym (ap (λ (z : Bool). if z then with_found f at t else t) not)) (record { flies = λ l is. absurd (no_both (is_flying t.fate) is not); fated = λ unlike kept some. stays t.by (d.fated unlike kept some) }))

  pub settle_down : (f : Fate) (at : ℕ) (ts : List Batch) → All (IsDown (Unit {0}) b) ts → All (IsDown L c) (settle f at ts)
  settle_down f at [] all = All-nil (IsDown L c)
  settle_down f at (t ∷ ts) all =
      All-cons (IsDown L c) (settled_at f at t) (settle f at ts) (settled_down f at t (All-head (IsDown (Unit {0}) b) t ts all)) (settle_down f at ts (All-tail (IsDown (Unit {0}) b) t ts all))

-- a member's own batch is kept, or in flight where that may be
fate_down : (L fly : Type 0) (c : Book) (t : Batch) → HasFate fly t.fate → (L → fly → IsMember c t.by × (is_stopped c t.by ≡ true)) → IsDown L c t
fate_down L fly c t has down = ⊎_elim
    (λ kept. record {
      flies = λ l is. absurd (no_both (is_flying t.fate) is (ap is_flying kept));
      fated = λ unlike not some. absurd (no_both (is_kept t.fate) (ap is_kept kept) not);
    })
    (λ flying. record { flies = λ l is. down l flying.1; fated = λ unlike not some. absurd (no_both (is_flying t.fate) (ap is_flying flying.0) unlike) }) has

-- a place has no entries
place_down : (L : Type 0) (c : Book) (t : Batch) → IsPlace t → IsDown L c t
place_down L c t free = record {
  flies = λ l is. absurd (no_both (is_flying t.fate) is (ap is_flying free.dropped));
  fated = λ unlike not some. absurd (let none = ap (λ (es : List Entry). length es) free.empty in omega (arith, some, none));
}

-- batches that have their fates
settled_fated : (L : Type 0) (c : Book) (ts : List Batch) (now : ℕ) → AreSettled ts now → All (IsDown L c) ts → All (IsFated c) ts
settled_fated L c [] now are all = All-nil (IsFated c)
settled_fated L c (t ∷ ts) now are all = All-cons (IsFated c) t ts ((All-head (IsDown L c) t ts all).fated are.0) (settled_fated L c ts now are.3 (All-tail (IsDown L c) t ts all))

fated_down : (c : Book) (ts : List Batch) (now : ℕ) → AreSettled ts now → All (IsFated c) ts → All (IsDown (Unit {0}) c) ts
fated_down c [] now are all = All-nil (IsDown (Unit {0}) c)
fated_down c (t ∷ ts) now are all =
    All-cons (IsDown (Unit {0}) c) t ts (record { flies = λ l is. absurd (no_both (is_flying t.fate) is are.0); fated = λ unlike. All-head (IsFated c) t ts all }) (fated_down c ts now are.3 (All-tail (IsFated c) t ts all))

-- COMMANDS that reset only stopped members

shown_still : (b c : Book) → ((k : MemberId) → is_stopped b k ≡ true → is_stopped c k ≡ true) → (m : MemberId) → shows_stopped b m ≡ true → shows_stopped c m ≡ true
shown_still b c stays m is = by_somebody (is_somebody m) is where
  by_somebody : (t : Bool) → (t && is_stopped b m) ≡ true → (t && is_stopped c m) ≡ true
  by_somebody true down = stays m down
  by_somebody false down = absurd (cc)

abbrev QuietOf : Book → Entry → Type 0
QuietOf b e = is_somebody e.by ≡ true → ResetsStopped b e.command

abbrev AreQuietOf : Book → Batch → Type 0
AreQuietOf b t = All (QuietOf b) t.entries

quiet_still : (b c : Book) → ((k : MemberId) → is_stopped b k ≡ true → is_stopped c k ≡ true) → (t : Batch) → AreQuietOf b t → AreQuietOf c t
quiet_still b c stays t all = All-weaker (QuietOf b) (QuietOf c) (λ e is some m resets. shown_still b c stays m (is some m resets)) t.entries all

-- WHICH COPIES COUNT AS ALIVE
alive_was : (a a' b b' : Bool) → (a' ≡ true → a ≡ true) → (b' ≡ true → b ≡ true) → SomeAlive a' b' → SomeAlive a b
alive_was a true b b' one two some = ap (λ (t : Bool). t || b) (one refl)
alive_was a false b true one two some = ap (λ (t : Bool). a || t) (two refl) ∙ either a where
  either : (t : Bool) → (t || true) ≡ true
  either true = refl
  either false = refl
alive_was a false b false one two some = absurd (cc)

-- what was not reserved or placed needn't be given up
abbrev left_with : {P C : Type 0} → Parts P C → List Batch → Option (List Entry) → Bool → Parts P C
left_with x bs o p = record x { batches = bs; reserved = o; placed = p }

unreserved_same : {P C : Type 0} (x : Parts P C) → x.reserved ≡ None → (x.current ≡ None → x.placed ≡ false) → unreserved_in x ≡ x
unreserved_same x none unplaced = by_current x.current refl where
  by_current : (o : Option Batch) → x.current ≡ o → unreserved_in x ≡ x
  by_current None is =
      ap (λ (o : Option Batch). left_with x (batches_left x.placed o x.batches) None (placed_left x.placed o)) is
      ∙ ap (λ (t : Bool). left_with x (batches_left t None x.batches) None false) (unplaced is)
      ∙ ap (λ (o : Option (List Entry)). left_with x x.batches o false) (sym none) ∙ ap (λ (t : Bool). left_with x x.batches x.reserved t) (sym (unplaced is))
  by_current (Some c) is =
      ap (λ (o : Option Batch). left_with x (batches_left x.placed o x.batches) None (placed_left x.placed o)) is
      ∙ ap (λ (o : Option (List Entry)). left_with x x.batches o x.placed) (sym none)

-- A TURN

module _ {P C : Type 0} {plants : PlantGhosts P} {steadies : SteadyGhosts C} {copies : CopyGhosts C} (x mid : Complex P C plants steadies copies) (m n : Member) (at : ℕ) (what : Ask) (s : Stands) (tried : Result Stands NodeNo) (rest : BetweenTurns x) (waits : Waits x m at what s)
    (tries : Tries (raced_at m.id at what s) x mid m n tried) (own : n.id ≡ m.id) (frame : parts_of mid ≡ played_in (parts_of mid) (parts_of x)) (y : Complex P C plants steadies copies) (result : Result Stands NodeNo) (ends : EndsTurn m.id at mid y tried result) where
  abbrev p : Parts P C
  p = parts_of x

  abbrev w : Parts P C
  w = parts_of y

  only : OnlyBy m.id x.book y.book
  only = only_end x mid m n at what s tried rest waits tries y result ends

  a : AddsOf (Mine plants copies x.book m.id at (MayFly tried)) p w
  a = adds_end x mid m n at what s tried rest waits tries y result ends

  ended : EndedActs plants m.id p w result
  ended = acts_end x mid m n at what s tried rest waits tries y result ends

  base : y.base ≡ x.base
  base = (end_base m.id at mid y tried result ends).base ∙ ap (λ (q : Parts P C). q.base) frame

  since : y.since ≡ x.since
  since = (end_base m.id at mid y tried result ends).since ∙ ap (λ (q : Parts P C). q.since) frame

  somebody : m.id ≢ nobody
  somebody is = absurd (let some = some_of x.base.config m.id waits.member in let zero : m.id.0 ≡ 0 = ap (λ (k : MemberId). k.0) is in omega (arith, some, zero))

  -- NOTHING was done

  idle_same : IsIdleTurn plants copies p (parts_of mid) m n tried → w ≡ p
  idle_same idle = ⊎_elim
      (λ lost. let e : EndsTurn m.id at mid y (Err no_node.BothLost) result = subst (λ (t : Result Stands NodeNo). EndsTurn m.id at mid y t result) lost.0 ends in e.0 ∙ idle.frame)
      (λ out.
      let e : EndsTurn m.id at mid y (Err no_node.NoMemory) result = subst (λ (t : Result Stands NodeNo). EndsTurn m.id at mid y t result) out.0 ends in
      e.0 ∙ ap unreserved_in idle.frame ∙ unreserved_same p (rest.unreserved out.1) (rest.unplaced out.1)) idle.answer

  -- IT WENT SO

  module _ (some : SomeAlive x.pair.first.alive x.pair.second.alive) (unheld : is_held x.book ≡ false) (how : HowLeft plants copies m.id p (parts_of mid) (done_of tried)) where
    -- what goes on
    its_answer : (e : NodeNo) → done_of tried ≡ Err e → tried ≡ Err e
    its_answer e is = by_answer tried is where
      one_error : (j k : NodeNo) → (let d : Result (Unit {0}) NodeNo = Err j in d) ≡ Err k → j ≡ k
      one_error j k same = cc

      by_answer : (t : Result Stands NodeNo) → done_of t ≡ Err e → t ≡ Err e
      by_answer (Ok k) unlike = absurd (cc)
      by_answer (Err k) same = ap (λ (j : NodeNo). let t : Result Stands NodeNo = Err j in t) (one_error k e same)

    both_lost : (e : NodeNo) → tried ≡ Err e → e ≡ no_node.BothLost → IsBothLost mid.pair.first.alive mid.pair.second.alive
    both_lost e is lost =
        (subst (λ (t : Result Stands NodeNo). TurnActs plants m.id p (parts_of mid) (done_of t)) (is ∙ ap (λ (k : NodeNo). let t : Result Stands NodeNo = Err k in t) lost) (acts_tried x mid m n at what s tried rest waits tries)).cause

    resting : IsResting plants copies w
    resting = ⊎_elim
        (λ still. end_resting m.id at mid y tried result ends (still_resting plants copies p (parts_of mid) still (resting_of plants copies p rest)))
        (λ lock. ⊎_elim
        (λ quiet. end_resting m.id at mid y tried result ends (quiet_resting plants copies x.base (parts_of mid) (ap (λ (q : Parts P C). q.base) frame) quiet))
        (λ held.
        let is : tried ≡ Err held.0 = its_answer held.0 held.1 in
        end_held m.id at mid y somebody held.2 held.0 result (subst (λ (t : Result Stands NodeNo). EndsTurn m.id at mid y t result) is ends) (both_lost held.0 is)) lock) how

    -- the batches
    down_now : (c : Batch) → x.current ≡ Some c → IsDown (Unit {0}) x.book c
    down_now c is =
        let down = rest.flying some c is in
        record { flies = λ l flies. down; fated = λ unlike not more. down.1 }

    down_before : All (IsDown (Unit {0}) x.book) (x.journal.batches ++ in_flight x.current)
    down_before =
        All-append (IsDown (Unit {0}) x.book) x.journal.batches (in_flight x.current) (fated_down x.book x.journal.batches (plants.view x.plant).now x.settled rest.fated) (by_current x.current refl)
      where
        by_current : (o : Option Batch) → x.current ≡ o → All (IsDown (Unit {0}) x.book) (in_flight o)
        by_current None is = All-nil (IsDown (Unit {0}) x.book)
        by_current (Some c) is = All-cons (IsDown (Unit {0}) x.book) c [] (down_now c is) (All-nil (IsDown (Unit {0}) x.book))

    abbrev Lively : Type 0
    Lively = SomeAlive y.pair.first.alive y.pair.second.alive

    -- a batch that flies to the end is of a member that was stopped in the turn
    own_down : Lively → MayFly tried → is_stopped y.book m.id ≡ true
    own_down lives fly = by_answer tried refl ends fly where
      inside_mid : IsMember mid.book m.id
      inside_mid = (may_end x mid m n at what s tried rest waits tries).member

      by_answer : (t : Result Stands NodeNo) → tried ≡ t → EndsTurn m.id at mid y t result → MayFly t → is_stopped y.book m.id ≡ true
      by_answer (Ok k) is e never = absurd never
      by_answer (Err no_node.NoMemory) is e never = absurd never
      by_answer (Err no_node.ConsoleFault) is e never = absurd never
      by_answer (Err no_node.BothLost) is e u = absurd (lost_never plants copies y.pair.first.alive y.pair.second.alive (ended.both e.1) lives)
      by_answer (Err no_node.Halted) is e u = ap (λ (b : Book). is_stopped b m.id) (ap (λ (q : Parts P C). q.book) e.frame ∙ ap (λ (q : Parts P C). q.book) e.stopped) ∙ stopped_now mid.book m.id inside_mid

    member_then : IsMember y.book m.id
    member_then = inside_only m.id x.book y.book only (inside x mid m n at what s tried rest waits tries)

    down_after : All (IsDown Lively y.book) (y.journal.batches ++ in_flight y.current)
    down_after =
        batches_all y (IsDown Lively y.book) (place_down Lively y.book)
        (subst (λ (bs : List Batch). All (IsDown Lively y.book) bs) (sym a.journal)
        (All-append (IsDown Lively y.book) (settle a.found a.moment (journal_of p)) a.own (settle_down Lively x.book y.book only.many only.stays a.found a.moment (journal_of p) (journal_all x (IsDown (Unit {0}) x.book) down_before))
        (All-weaker (Mine plants copies x.book m.id at (MayFly tried)) (IsDown Lively y.book)
        (λ b its. fate_down Lively (MayFly tried) y.book b its.2 (λ lives fly. (subst (λ (k : MemberId). IsMember y.book k) (sym its.0) member_then, ap (is_stopped y.book) its.0 ∙ own_down lives fly))) a.own a.theirs)))

    abbrev Of : Batch → Type 0
    Of b = All (λ (e : Entry). e.by ≡ b.by) b.entries

    -- what was reset, where that is told
    quiet_after : plants.tells → All (AreQuietOf y.book) (y.journal.batches ++ in_flight y.current)
    quiet_after t =
        All-weaker (AreQuietOf x.book) (AreQuietOf y.book) (quiet_still x.book y.book only.stays) (y.journal.batches ++ in_flight y.current)
        (batches_all y (AreQuietOf x.book) (λ b free. subst (λ (es : List Entry). All (QuietOf x.book) es) (sym free.empty) (All-nil (QuietOf x.book)))
        (subst (λ (bs : List Batch). All (AreQuietOf x.book) bs) (sym a.journal)
        (All-append (AreQuietOf x.book) (settle a.found a.moment (journal_of p)) a.own (settle_all (λ k es. All (QuietOf x.book) es) a.found a.moment (journal_of p) (journal_all x (AreQuietOf x.book) (rest.resets t)))
        (All-weaker (Mine plants copies x.book m.id at (MayFly tried)) (AreQuietOf x.book)
        (λ b its. All-weaker (IsEntry plants.tells x.book m.id at) (QuietOf x.book) (λ e is some_by. is.2 t) b.entries its.1) a.own a.theirs))))

    rest_after : BetweenTurns y
    rest_after = record {
      away = resting.away;
      members = only.many ∙ rest.members ∙ ap (λ (q : Queue). q.config.members) (sym base);
      seated = seated_only m.id x.book y.book only (inside x mid m n at what s tried rest waits tries).1 rest.seated;
      hold = only.hold ∙ rest.hold ∙ ap (λ (q : Queue). q.config.hold) (sym base);
      begun = let later = ended.passage.goes.later in let was = rest.begun in subst (λ (k : ℕ). k ≤ (plants.view y.plant).now) (sym since) (omega (arith, later, was));
      roomy = λ t. subst (λ (q : Queue). AreRoomy (plants.view y.plant) q.config) (sym base) (still_roomy x.base.config (plants.view x.plant) (plants.view y.plant) ended.passage.goes (rest.roomy t));
      own = own_after x.book m.id at (MayFly tried) x y a rest.own;
      fated = settled_fated Lively y.book y.journal.batches (plants.view y.plant).now y.settled (all_front (IsDown Lively y.book) y.journal.batches (in_flight y.current) down_after);
      resets = quiet_after;
      flying = λ lives c is.
          (All-head (IsDown Lively y.book) c [] (subst (λ (o : Option Batch). All (IsDown Lively y.book) (in_flight o)) is (all_back (IsDown Lively y.book) y.journal.batches (in_flight y.current) down_after))).flies lives
          (ap is_flying (its_flight y c is).1);
      unreserved = resting.unreserved;
      unplaced = resting.unplaced;
      free = λ lives free. let i = resting.free lives free in record { none = i.none; kept = y.settled; first = i.first; second = i.second };
    }

  pub rest_end : BetweenTurns y
  rest_end = ⊎_elim
      (λ idle. subst (IsBetweenTurns plants copies) (sym (idle_same idle)) rest)
      (λ goes. rest_after goes.0 goes.1 (how_left x m n at what s rest waits (parts_of mid) tried own goes.1 goes.2)) tries
