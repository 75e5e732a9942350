-- A member at the lock, at the beginning of a sitting and at its end.
use Rattle.member_giving.proofs.Names.{◌+◌, ◌≡◌, ℕ, List, [], Result, ◌∙◌, ap, refl, sym, subst, arith, All-nil, Ckpt1, Ckpt2, MemberId, Journal, Queue, disk_now, PlantGhosts, Ghosts as CopyGhosts, Complex, SteadyGhosts, values_of, Member, NodeNo, HaveSaid, OnConsole, settled_later, had_as, notes_same, still_roomy, Holder, SparesOthers, HasBounds, HasSeat, IsLow, Sits, Works, outside, Entry, MayBegin, Tell, length, parts_of, queue_kept, meaning_run as run, IsClosing, ◌≤◌, closed, IsGiving, IsRoomy, first_half, second_half, between_done, can_draw, between_by}
use Rattle.mas_types.specs.Sound.{IsSound}
use Rattle.member_node.specs.Reads.{orders_after}
use Rattle.mas_complex.proofs.Batches.{none_begins}
use Rattle.member_steps.proofs.SayLemmas.{rests_as}
use Rattle.member_giving.proofs.Keeping.{closing_said}
use Rattle.member_giving.proofs.Working.{same_out}

module _ {P C : Type 0} {plants : PlantGhosts P} {steadies : SteadyGhosts C} {copies : CopyGhosts C} where
  -- AT THE BEGINNING

  -- a member that sits, where each copy has room for a batch
  pub works_seat : (x : Complex P C plants steadies copies) (m : Member) (h : Holder) → Sits x m h.step → IsRoomy (first_half plants copies (parts_of x)) → IsRoomy (second_half plants copies (parts_of x)) → h.by ≡ m.id → (plants.tells → IsSound x.base) → Works x m h
  works_seat x m h s first second own sound =
      let b = s.seat.between in
      record {
        own = own;
        still = s.seat.still;
        base_sound = sound;
        of = rw b.nothing (All-nil _);
        few = let none = ap length b.nothing in omega (arith, none);
        drawn = λ nothing. b.drawn;
        draws = can_draw m.checkpoint m.checkpoint b.drawn refl refl refl refl b.drawn.spelling;
        fit = b.fit;
        same_level = b.same_level;
        done = λ t. between_done plants.tells (parts_of x) m.batch m.checkpoint b t;
        sound = b.sound;
        low = λ t. let le = (s.seat.low t).order in omega (arith, le);
        texts = λ some. let none = ap length b.nothing in absurd (omega (arith, some, none));
        allowed = λ t. subst (λ (es : List Entry). MayBegin x.base x.journal.batches x.printed es) (sym b.nothing) (none_begins x.base x.journal.batches x.printed);
        untold = s.untold;
        step = s.step;
        first = first;
        second = second;
      }

  pub works_sits : (x : Complex P C plants steadies copies) (m : Member) (h : Holder) → Sits x m h.step → HasBounds x m → h.by ≡ m.id → (plants.tells → IsSound x.base) → Works x m h
  works_sits x m h s b own sound = works_seat x m h s b.first b.second own sound

  pub low_bounds : (x : Complex P C plants steadies copies) (m : Member) → HasBounds x m → IsLow x m
  low_bounds x m b = record { order = b.order; high = b.high }

  -- AT THE END

  module _ (x : Complex P C plants steadies copies) (m : Member) (h : Holder) (w : Works x m h) (nothing : m.batch ≡ []) where
    pub seat_works : HasSeat x m
    seat_works = record {
      still = w.still;
      between = record {
        none = w.still.none;
        unplaced = w.still.unplaced;
        same_level = w.same_level;
        nothing = nothing;
        drawn = w.drawn nothing;
        queue = λ t. subst (λ (es : List Entry). Tell m.checkpoint.tables (run (queue_kept x) es)) nothing (w.done t).queue;
        fit = w.fit;
        orders = λ t. (w.done t).orders;
        sound = w.sound;
      };
      low = λ t. record { same = sym w.still.config; fit = w.fit; order = let le = w.low t in let none = ap length nothing in omega (arith, le, none) };
    }

    pub sits_works : Sits x m h.step
    sits_works = record { seat = seat_works; untold = w.untold; step = w.step }

  -- what a member may keep that gave something
  pub gives_works : (x : Complex P C plants steadies copies) (m : Member) (h : Holder) → Works x m h → 1 ≤ length m.batch → IsGiving plants copies (parts_of x) m h.step
  gives_works x m h w some =
      let low : plants.tells → m.checkpoint.tables.order ≤ orders_after (length x.journal.batches + 1) = λ t. let le = w.low t in let few = w.few in omega (arith, le, few) in
      assumption (w, low, w.texts some)

  -- AFTER A LINE

  module _ (y z : Complex P C plants steadies copies) (n : Member) (h : Holder) (w : Works y n h) (pair : z.pair ≡ y.pair) (journal : z.journal ≡ y.journal) (current : z.current ≡ y.current) (placed : z.placed ≡ y.placed) where
    pub closes_said : (lines : List (List ℕ)) (r : Result (Unit {0}) NodeNo) → HaveSaid plants.tells n.id.0 lines (plants.view y.plant) (plants.view z.plant) r → IsClosing plants.tells h.by (closed [] lines) (outside y) (outside z) r
    closes_said lines r said = closing_said plants.tells h.by lines (outside y) (outside z) (same_out y z journal current placed) (rw pair refl) (rw pair refl) r (rw w.own said)

    pub seat_said : n.batch ≡ [] → z.base ≡ y.base → z.since ≡ y.since → z.book ≡ y.book → z.reserved ≡ y.reserved → z.first ≡ y.first → z.second ≡ y.second → z.level ≡ y.level → values_of z.had ≡ values_of y.had
        → OnConsole plants.tells (plants.view y.plant) (plants.view z.plant) → HasSeat z n
    seat_said nothing base since book reserved first second level had acts = record {
      still = record {
        holds = rw (book, base) w.still.holds;
        none = current ∙ w.still.none;
        unreserved = reserved ∙ w.still.unreserved;
        unplaced = placed ∙ w.still.unplaced;
        here = w.still.here;
        many = w.still.many;
        config = ap (λ (q : Queue). q.config) base ∙ w.still.config;
        first = rw (pair, first) (rests_as plants.tells (first_half plants copies (parts_of y)) n.checkpoint.pages (copies.reads (disk_now (plants.view z.plant) Ckpt1).bytes) (λ told. ap (λ d. copies.reads d.bytes) (acts.disks told Ckpt1)) w.still.first);
        second = rw (pair, second) (rests_as plants.tells (second_half plants copies (parts_of y)) n.checkpoint.pages (copies.reads (disk_now (plants.view z.plant) Ckpt2).bytes) (λ told. ap (λ d. copies.reads d.bytes) (acts.disks told Ckpt2)) w.still.second);
        noted = had_as plants.tells (values_of y.had) (values_of z.had) n n had refl refl refl w.still.noted;
        kept = rw journal (settled_later y.journal.batches (plants.view y.plant).now (plants.view z.plant).now acts.goes.later w.still.kept);
        begun = rw since (let le = w.still.begun in let later = acts.goes.later in omega (arith, le, later));
        roomy = λ told. rw base (still_roomy y.base.config (plants.view y.plant) (plants.view z.plant) acts.goes (w.still.roomy told));
      };
      between = between_by plants.tells (parts_of y) (parts_of z) n.batch n.checkpoint base (ap (λ (j : Journal). j.batches) journal) current placed level
          (seat_works y n h w nothing).between;
      low = λ told. rw (base, journal) ((seat_works y n h w nothing).low told);
    }

  pub said_apart : (y z : Complex P C plants steadies copies) (by : MemberId) → OnConsole plants.tells (plants.view y.plant) (plants.view z.plant) → values_of z.had ≡ values_of y.had → SparesOthers plants.tells by (outside y) (outside z)
  said_apart y z by acts had = record { others = acts.others; papers = acts.papers; wires = acts.wires; notes = notes_same by (values_of y.had) (values_of z.had) had }
