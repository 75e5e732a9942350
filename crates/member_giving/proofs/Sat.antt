-- A whole sitting.
use Rattle.member_giving.proofs.Names.{◌≡◌, ℕ, ◌+◌, List, [], ◌++◌, length, Result, Ok, Err, ◌≤◌, Bool, true, false, if◌then◌else◌, take, Option, Some, None, IfOk, ◌∙◌, ⊎_elim, ap, refl, subst, arith, nat_le, sym, nat_tests, MemberId, Batch, Entry, Queue, JobNo, OutNo, Output, OutSpec, groups_of_outputs, is_cancelled, job_at, output_at, PlantGhosts, Ghosts as CopyGhosts, Complex, Spools, SteadyGhosts, Member, NodeNo, ConsoleFault, NoMemory, console_now, HasAll, WorkLeaves, AreSpooled, cut, sittings_most, all_entries, units_done, units_left, Sitting, released, sitting_of, Aside, PrintLines, ReadText, SpoolOutputs, Found, Holder, State, Away, Turn, turn, SittingEnd, Says, SaysWork, EndsAs, IsWithin, Plays, PlaysAs, Wrote, bounds, wrote_of, Run, outside, place_of, queue_kept, run_of, IsToResume, AreStanding, Tables, Tell, IsMarkRight, may_mark, held_by, LeavesFirst, MayFly, bare, to_play, ◌∷◌, IsStill, parts_of, Parts, pair_of, LeftBy, Lefts, bare, by_all, cause_by, next_left, none_left, part_left, said_by}
use Rattle.mas_types.specs.declared.ids.GroupNo.{GroupNo}
use Rattle.mas_types.specs.declared.queues.Owner.{Owner}
use Rattle.mas_types.specs.Ids.{is_somebody}
use Rattle.mas_types.specs.declared.commands.Command.TheVariants as command
use Rattle.lock_cycle.specs.Books.{Book}
use Rattle.mas_complex.specs.declared.renewals.Renewals.{Renewals}
use Rattle.step_turns.proofs.Cutting.{cut_entries}
use Rattle.member_asides.specs.Left.{IsLastBatch}
use Rattle.member_asides.specs.Sat.{HasSat, IsEndOf, IsSat, sat_in}
use Rattle.member_asides.specs.Tight.{IfNoWork}
use Rattle.member_giving.proofs.Working.{none_flies}
use Rattle.member_asides.specs.Asides.{lowest_for}
use Rattle.std.proofs.lemmas.Bool.{or_right as or_true}

-- what is left in the journal after an error
first_left : (why : NodeNo) (by : MemberId) (from now : ℕ) (ess : List (List Entry)) (bs : List Batch) → LeavesFirst why by from now ess bs → (flies : Bool) × (why ≡ NoMemory → flies ≡ false) × Lefts flies by from now ess bs
first_left why by from now ess [] leaves = (false, λ is. refl, record { reach = record { whole = 0; part = 0; flies = false }; flag = refl; left = none_left by from now ess })
first_left why by from now [] (b ∷ bs) leaves = absurd leaves
first_left why by from now (es ∷ ess) (b ∷ bs) leaves = ⊎_elim
    (λ kept. let l = first_left why by b.last now ess bs kept.1 in (l.0, l.1, next_left l.0 by from now es ess b bs kept.0 l.2))
    (λ last. ⊎_elim
    (λ cut. (false, λ is. refl, ends false cut.0 cut.1.1.0 cut.1.0 cut.1.1.1 (λ e. cut.1.1.2) last.0 cut.2))
    (λ flown. (true, λ is. absurd (subst MayFly is flown.0), ends true flown.1 flown.2.1.0 flown.2.0 flown.2.1.1 (λ e. absurd (cc)) last.0 flown.3))
    last.1)
    leaves
  where
    ends : (flies : Bool) (first rest : List Entry) → 1 ≤ length first → es ≡ first ++ rest → (flies ≡ false → 1 ≤ length rest) → bs ≡ [] → IsLastBatch flies by first from now b → Lefts flies by from now (es ∷ ess) (b ∷ bs)
    ends flies first rest some is more none last = record {
      reach = record { whole = 0; part = length first; flies = flies };
      flag = refl;
      left = rw (none, is) (part_left flies by from now first rest ess b some more last);
    }

-- by the answer: what is left in the journal
left_by : (r : Result SittingEnd NodeNo) (by : MemberId) (from now : ℕ) (ess : List (List Entry)) (more : List Batch) → WorkLeaves (bare r) by from now ess more → LeftBy by from now ess more r
left_by (Ok e) by from now ess more all = by_all by from now ess more (Ok e) all
left_by (Err ConsoleFault) by from now ess more all = by_all by from now ess more (Err ConsoleFault) all
left_by (Err NoMemory) by from now ess more leaves = let l = first_left NoMemory by from now ess more leaves in record { reach = l.2.reach; left = l.2.left; reached = l.2.flag ∙ l.1 refl }
left_by (Err why) by from now ess more leaves = let l = first_left why by from now ess more leaves in record { reach = l.2.reach; left = l.2.left; reached = tt }

-- a whole sitting, by what it writes
abbrev pub sitting_as : Holder → Wrote → Sitting
sitting_as h w = record { batches = w.batches; next = w.next; lines = w.lines; release = released h.grant h.hold (length (all_entries w.batches)) w.next }

pub sits_as : (h : Holder) (t : Turn) (w : Wrote) → w ≡ wrote_of [] t → sitting_as h w ≡ sitting_of h t
sits_as h t w is =
    ap (sitting_as h) is ∙ ap (λ (es : List Entry). record { batches = cut [] t.parts; next = t.next; lines = t.lines; release = released h.grant h.hold (length es) t.next }) (cut_entries [] t.parts)

ends_as : (h : Holder) (w : Wrote) (r : Result SittingEnd NodeNo) → IfOk r (EndsAs h 0 [] w) → IfOk r (IsEndOf (sitting_as h w))
ends_as h w (Ok e) ends =
    let all : e.given ≡ length (all_entries w.batches) = let is = ends.1 in omega (arith, is) in
    record { next = ends.0; given = all; release = ends.2 ∙ ap (λ (n : ℕ). released h.grant h.hold n e.next) all ∙ ap (λ (s : State). released h.grant h.hold (length (all_entries w.batches)) s) ends.0 }
ends_as h w (Err why) ends = tt

-- a sitting after acts that work waited for plays units
pub plays_units : {P C : Type 0} (plants : PlantGhosts P) (x : Parts P C) (by : MemberId) (a : Aside) (found : Found) → IsToResume plants x by a found → (A : Type 0) → IfNoWork (Away a) A
plays_units plants x by (ReadText runs n fields p) found may A = tt
plays_units plants x by (SpoolOutputs n specs p) found may A = tt
plays_units plants x by (PrintLines n i last p) found may A = tt
plays_units plants x by _ found may A = absurd may

-- and closes as work does
pub says_units : {P C : Type 0} (plants : PlantGhosts P) (x : Parts P C) (by : MemberId) (h : Holder) (a : Aside) (found : Found) → IsToResume plants x by a found → (t : Sitting) → SaysWork h (Away a) found t → Says h (Away a) found t
says_units plants x by h (ReadText runs n fields p) found may t says = says
says_units plants x by h (SpoolOutputs n specs p) found may t says = says
says_units plants x by h (PrintLines n i last p) found may t says = says
says_units plants x by h _ found may t says = absurd may

module _ {P C : Type 0} {plants : PlantGhosts P} {steadies : SteadyGhosts C} {copies : CopyGhosts C} where
  pub frame_of : (x y : Complex P C plants steadies copies) (m n : Member) → run_of y n ≡ run_of x m → parts_of y ≡ sat_in (parts_of y) (parts_of x)
  frame_of x y m n same =
      let base : y.base ≡ x.base = ap (λ (r : Run). r.base) same in
      let since : y.since ≡ x.since = ap (λ (r : Run). r.since) same in
      let renewals : y.renewals ≡ x.renewals = ap (λ (r : Run). r.renewals) same in
      let book : y.book ≡ x.book = ap (λ (r : Run). r.book) same in
      ap (λ (b : Book). record (parts_of y) { book = b }) book ∙ ap (λ (q : Queue). record (parts_of y) { book = x.book; base = q }) base ∙ ap (λ (n : ℕ). record (parts_of y) { book = x.book; base = x.base; since = n }) since
      ∙ ap (λ (rs : Renewals). record (parts_of y) { book = x.book; base = x.base; since = x.since; renewals = rs }) renewals

  -- what a sitting played from its beginning on, whatever bounds it
  pub sat_played : (x y : Complex P C plants steadies copies) (m : Member) (h : Holder) (Fits : Wrote → Type 0) (w : Wrote) (r : Result SittingEnd NodeNo) → m.batch ≡ [] → IsStill plants copies (parts_of x) m
      → (p : PlaysAs plants.tells Fits (to_play h 0 w) (place_of x m) (outside y) r) → IsSat plants h.by (sitting_as h p.wrote) (parts_of x) (parts_of y) r
  sat_played x y m h Fits w r nothing still p =
      let c = p.closes in
      let front = none_flies x m still in
      let are = c.batches_are ∙ ap (λ (bs : List Batch). bs ++ c.rest) front in
      let v = plants.view x.plant in
      let u = plants.view y.plant in
      let cause = cause_by r h.by.0 (pair_of x) (pair_of y) c.cause c.spares in
      let left = left_by r h.by v.now u.now p.wrote.batches c.rest c.journal in
      record {
        acts = record { course = c.course; loses = c.loses; others = p.spares.others; papers = p.spares.papers; wires = p.spares.wires; spares = cause.1; cause = cause.0; notes = p.spares.notes };
        reach = left.reach;
        more = c.rest;
        journal = are;
        left = left.left;
        reached = left.reached;
        console = λ t. said_by r (HasAll h.by v.now u.now p.wrote.batches (outside x).batches (outside y).batches) (HasAll h.by v.now u.now p.wrote.batches x.journal.batches (outside y).batches) p.wrote.lines (console_now v) (console_now u)
            (λ has. subst (λ (bs : List Batch). HasAll h.by v.now u.now p.wrote.batches bs (outside y).batches) front has) (c.console t);
        counts = p.counts;
        ends = ends_as h p.wrote r (subst (λ (es : List Entry). IfOk r (EndsAs h 0 es p.wrote)) nothing p.ends);
      }

  pub sat_of : (x y : Complex P C plants steadies copies) (m : Member) (h : Holder) (s : State) (found : Found) (w : Wrote) (r : Result SittingEnd NodeNo) → ((A : Type 0) → IfNoWork s A) → ((t : Sitting) → SaysWork h s found t → Says h s found t) → m.batch ≡ [] → IsStill plants copies (parts_of x) m → (plants.tells → w ≡ wrote_of [] (turn h (queue_kept x) s found))
      → Plays plants.tells (bounds (sittings_most s) (units_done s + units_left s) found) (to_play h 0 w) (place_of x m) (outside y) r → HasSat (record { holder = h; state = s; found = found }) x y r
  sat_of x y m h s found w r units says nothing still is p = record {
    sitting = sitting_as h p.wrote;
    is = λ t. sits_as h (turn h (queue_kept x) s found) p.wrote (p.is t ∙ is t);
    of = p.of;
    shaped = record { few = p.within.few; release = refl; says = says (sitting_as h p.wrote) p.within.says };
    sat = sat_played x y m h (IsWithin h (bounds (sittings_most s) (units_done s + units_left s) found)) w r nothing still p;
    tight = units _;
  }

-- OUTPUTS that were written: a job that was cancelled since has none

by_cancelled : (b : Bool) (disks : Spools) (per : ℕ) (specs : List OutSpec) (groups : List GroupNo) → AreSpooled disks per specs (take (groups_of_outputs specs) groups) → AreSpooled disks per (if b then [] else specs) (take (groups_of_outputs (if b then [] else specs)) groups)
by_cancelled true disks per specs groups spooled = tt
by_cancelled false disks per specs groups spooled = spooled

pub outputs_stand : (t : Tables) (Q : Queue) (by : MemberId) (disks : Spools) (n : JobNo) (specs : List OutSpec) → Tell t Q → AreSpooled disks Q.config.groups specs (lowest_for by t.owners specs) → AreStanding disks Q by n specs
outputs_stand t Q by disks n specs tell spooled =
    by_cancelled (is_cancelled (job_at Q n)) disks Q.config.groups specs (held_by by Q.owners) (subst (λ (os : List Owner). AreSpooled disks Q.config.groups specs (lowest_for by os specs)) (sym tell.owners) spooled)

-- LINES that were printed may be marked

pub lines_resume : (Q : Queue) (by : MemberId) (n : JobNo) (i : OutNo) (last printed : ℕ) → is_somebody by ≡ true → ((o : Output) → output_at Q n i ≡ Some o → last ≤ o.mark + printed) → IsMarkRight Q by printed (command.Mark n i last)
lines_resume Q by n i last printed some counted = (some, by_output (output_at Q n i) refl) where
  by_output : (found : Option Output) → output_at Q n i ≡ found → may_mark by printed last found ≡ true
  by_output None is = refl
  by_output (Some o) is = let le = counted o is in or_true _ (nat_le last (o.mark + printed)) (grind (arith, nat_tests, le))
