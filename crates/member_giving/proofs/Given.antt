-- A member that gave a part of a unit on its tables: all its commands, or, out of memory, the first ones.
use Rattle.member_giving.proofs.Names.{◌≡◌, ◌+◌, ◌≤◌, ℕ, List, [], ◌∷◌, ◌++◌, length, Result, Ok, Err, All, true, false, ◌∙◌, length-append, append_assoc, ap, refl, subst, sym, arith, not, Command, MemberId, Entry, Queue, Reply, Batch, Tell, View, PlantGhosts, Ghosts as CopyGhosts, SteadyGhosts, Complex, kept_all, begun, meaning_run as run, MayBegin, values_of, HasTexts, lost_now, spools_at, Member, NodeNo, Apart, Course, IsSettle, counted_none, counted_up, notes_by, notes_same, LeavesNotes, AreOf, given_of, tells_some, IsOnCopies, KeepLeaves, UnitEnd, IsKeeping, part_begins, batch_of, given_in, closes, closing_reply, entry_of, is_drop, reply_to, Holder, run_append, GivesUp, HasGiven, SparesOthers, Works, outside, place_of, queue_here, queue_kept, append-nil, parts_of, drop_groups, unit_part, pair_at, Found, HasRoom, MayEndBy, dropping_unmarked, end_by, ending, ending_unmarked, inl, more_begins, taking_unmarked, ◌*◌, ◌<◌, Bool, IfOk, are_refused, taking, HasCounted, Keeps, all_entries, HasTextsAfter, HasTextsOf, pair_of, entry_with, batch_some, All-drop, GivesAs, GivesAt, MayEnd, asked, step, front_is, of_strip, or_one, still_commanded, strip, HasKept, to_keep, given_length, one_more, has_groups, ◌^◌, can_still, if◌then◌else◌}
use Rattle.std.proofs.Math.Logic.{∥∥₁_map}
use Rattle.std.proofs.lemmas.List.{drop_at}
use Rattle.queue_laws.proofs.RunLaws.{give_alike}
use Rattle.member_node.specs.Drawn.{AreDrawn}
use Rattle.member_decks.specs.Taking.{LeaveOut, IsPart}
use Rattle.member_decks.proofs.MayLemmas.{IsUnmarked}
use Rattle.mas_types.specs.declared.commands.Reply.TheVariants as reply
use Rattle.member_giving.proofs.Going.{apart_none, apart_then}
use Rattle.member_giving.proofs.Resting.{tells_here}
use Rattle.member_giving.proofs.Working.{kept_here, less_room, none_flies}
use Rattle.member_giving.proofs.Cuts.{none_batch}
use Rattle.member_giving.proofs.Keeping.{keeping_none, keeping_starts, keeping_then, kept_not as batch_not, kept_ok, settled}
use Rattle.member_giving.proofs.Leaving.{StartsAs}
use Rattle.member_giving.proofs.Within.{reply_ends}
use Rattle.job_outcome.specs.declared.units.UnitEnd.TheVariants as ends
use Rattle.mas_types.specs.declared.ids.NoMemory.{NoMemory as OutOfMemory}
use Rattle.mas_types.specs.Owners.{member_count}
use Rattle.step_turns.proofs.Takes.{few_ending, few_taking}
use Rattle.member_node.proofs.TextLemmas.{plain_brings}
use Rattle.member_giving.specs.declared.parts.Part.{Part}
use Rattle.member_giving.specs.declared.parts.Part.TheVariants as part
use Rattle.member_giving.specs.Parts.{IsLonger, IsOwnPart, IsTaken, MayGive, gives_part, MayLose, PartStands, commands_most, ends_of, commands_of}

-- the step may close with the reply to one command that isn't Drop
closes_with : (r : Reply) (e : Entry) → e.reply ≡ r → is_drop e.command ≡ false → closing_reply (e ∷ []) ≡ r
closes_with r e same is = let it_does : closes e ≡ true = ap not is in rw it_does same

pub closing_one : (Q : Queue) (by : MemberId) (at : ℕ) (c : Command) → is_drop c ≡ false → closing_reply (given_in Q by at (c ∷ [])) ≡ reply_to Q by c
closing_one Q by at c other = closes_with (reply_to Q by c) (entry_of Q by at c) refl other

module _ {P C : Type 0} {plants : PlantGhosts P} {steadies : SteadyGhosts C} {copies : CopyGhosts C} where
  abbrev seen : Complex P C plants steadies copies → View
  seen x = plants.view x.plant

  pub spares_of : (x y : Complex P C plants steadies copies) (by own : MemberId) → by ≡ own → (plants.tells → Apart (seen x) (seen y)) → LeavesNotes own x y → SparesOthers plants.tells by (outside x) (outside y)
  spares_of x y by own same apart notes = record { others = λ t. (apart t).others; papers = λ t. (apart t).papers; wires = λ t. (apart t).wires; notes = notes_by own by (values_of x.had) (values_of y.had) (sym same) notes }

  pub spares_then : (x y z : Complex P C plants steadies copies) (by own : MemberId) → by ≡ own → Course (pair_of x) (pair_of y) → (plants.tells → Apart (seen x) (seen y))
      → Course (pair_of y) (pair_of z) → (plants.tells → Apart (seen y) (seen z)) → LeavesNotes own x y → z.had ≡ y.had → SparesOthers plants.tells by (outside x) (outside z)
  spares_then x y z by own same one apart1 two apart2 notes had =
      apart_then plants.tells by (outside x) (outside y) (outside z) one.goes.later two.goes (spares_of x y by own same apart1 notes)
      (spares_of y z by own same apart2 (notes_same own (values_of y.had) (values_of z.had) (ap values_of had)))

  -- nothing is to be kept
  pub kept_none : (x : Complex P C plants steadies copies) (m : Member) (h : Holder) → Works x m h → (ess : List (List Entry)) (left : List Entry) → ess ≡ [] → m.batch ≡ left → HasKept (to_keep h ess left) x m x m (Ok tt)
  kept_none x m h w ess left none same =
      let o = outside x in
      record {
        run = refl;
        keeps = subst (λ (l : List (List Entry)). Keeps {T = Unit {0}} plants.tells h.by l o o (Ok tt)) (sym none) (keeping_none plants.tells h.by o);
        spares = apart_none plants.tells h.by o;
        tables = refl;
        left = same;
        works = w;
        queue = refl;
        uses = λ k room. less_room x m k (k + 1) (omega arith) room;
        reached = omega arith;
        counts = subst (λ (l : List (List Entry)). HasCounted {T = Unit {0}} h.by (all_entries l) x.printed x.printed (Ok tt)) (sym none) (counted_none h.by x.printed x.printed (Ok tt) refl);
      }

  module _ (x y : Complex P C plants steadies copies) (m : Member) (h : Holder) (w : Works x m h) (some : 1 ≤ length m.batch) where
    abbrev OnCopies : Result (Unit {0}) NodeNo → Type 0
    OnCopies r = IsOnCopies {T = Unit {0}} plants.tells m.id.0 (pair_at x.pair.first.alive x.pair.second.alive (seen x)) (pair_at y.pair.first.alive y.pair.second.alive (seen y)) r

    abbrev Leaves : Result (Unit {0}) NodeNo → Type 0
    Leaves r = KeepLeaves {T = Unit {0}} r x.journal.batches (outside y).batches (begun (seen x).now m.id m.batch) (seen y).now

    leaves_out : (r : Result (Unit {0}) NodeNo) → Leaves r → KeepLeaves {T = Unit {0}} r (outside x).batches (outside y).batches (begun (seen x).now m.id m.batch) (seen y).now
    leaves_out r leaves = subst (λ (bs : List Batch). KeepLeaves {T = Unit {0}} r bs (outside y).batches (begun (seen x).now m.id m.batch) (seen y).now) (sym (none_flies x m w.still)) leaves

    -- its batch, by what others see
    batch_kept : (z : Complex P C plants steadies copies) (r : Result (Unit {0}) NodeNo) → IsKeeping plants.tells m.id (m.batch ∷ []) (outside x) (outside z) r → IsKeeping plants.tells h.by (batch_of m.batch) (outside x) (outside z) r
    batch_kept z r k = subst (λ (i : MemberId). IsKeeping plants.tells i (batch_of m.batch) (outside x) (outside z) r) (sym w.own) (subst (λ (ess : List (List Entry)). IsKeeping plants.tells m.id ess (outside x) (outside z) r) (sym (batch_some m.batch some)) k)

    -- it couldn't be kept
    pub kept_not : (e : NodeNo) → OnCopies (Err e) → Leaves (Err e) → IsKeeping plants.tells h.by (batch_of m.batch) (outside x) (outside y) (Err e)
    kept_not e acts leaves = batch_kept y (Err e) (batch_not plants.tells m.id (outside x) (outside y) m.batch some e acts (leaves_out (Err e) leaves))

    -- it was kept, and then room was made for the next one
    pub kept_then : (z : Complex P C plants steadies copies) (n : Member) (r : Result (Unit {0}) NodeNo) → n.id ≡ m.id → OnCopies (Ok tt) → Leaves (Ok tt) → (outside z).batches ≡ (outside y).batches
        → IsSettle plants.tells n.id.0 (pair_of y) (pair_of z) r → IsKeeping plants.tells h.by (batch_of m.batch) (outside x) (outside z) r
    kept_then z n r id acts leaves same settle =
        batch_kept z r (keeping_then plants.tells m.id r (m.batch ∷ []) [] (outside x) (outside y) (outside z) (kept_ok plants.tells m.id (outside x) (outside y) m.batch some acts (leaves_out (Ok tt) leaves))
        (settled plants.tells m.id (outside y) (outside z) same r (subst (λ (i : MemberId). IsSettle plants.tells i.0 (pair_of y) (pair_of z) r) id settle)))

-- HOW MANY COMMANDS

part_few : {T E : Type 0} (r : Result T E) (gave all : List Entry) → IsPart r gave all → length gave ≤ length all
part_few (Ok done) gave all are = let same = ap length are in omega (arith, same)
part_few (Err why) gave all are = let same = ap length are.1 in let long = length-append gave are.0 in omega (arith, same, long)

starts_batch : (es tail : List Entry) → StartsAs (batch_of es) (batch_of (es ++ tail))
starts_batch [] tail = tt
starts_batch (e ∷ es) tail = (omega arith, (tail, refl))

most_commands : (Q : Queue) (by : MemberId) (p : Part) → length (commands_of by Q p) ≤ commands_most p
most_commands Q by (part.Groups needed) = few_taking Q by needed
most_commands Q by (part.Ended n specs) = let few = few_ending Q by n specs in omega (arith, few)
most_commands Q by _ = omega arith

abbrev pub Does : Holder → Part → Member → Member → Result UnitEnd OutOfMemory → Type 0
Does h p m n r = GivesAs (gives_part h.step m.id p) (λ Q. PartStands m.checkpoint.tables Q m.id p) m n r

pub part_longer : (m n : Member) (h : Holder) (p : Part) (end : UnitEnd) → Does h p m n (Ok end) → IsLonger p m.batch n.batch
part_longer m n h (part.One c) end does = one_more h.step c _ m n end does.gives
part_longer m n h _ end does = tt

-- the member has the groups that it took
pub part_taken : (m n : Member) (h : Holder) (p : Part) (end : UnitEnd) → Does h p m n (Ok end) → IsOwnPart m p → end ≡ ends.Done → IsTaken n p
part_taken m n h (part.Groups needed) end does some done =
    let s = tells_some m.checkpoint.tables in
    let g = does.gives s.0 s.1 in
    subst (λ (i : MemberId). needed ≤ member_count i n.checkpoint.tables.owners) (sym does.has.id) (has_groups s.0 m.id h.step needed some (sym (does.end s.0 s.1) ∙ done) g.gave g.gives.part n.checkpoint.tables g.gives.effect)
part_taken m n h _ end does some done = tt

module _ {P C : Type 0} {plants : PlantGhosts P} {steadies : SteadyGhosts C} {copies : CopyGhosts C} (x : Complex P C plants steadies copies) (m n : Member) (h : Holder) (w : Works x m h) (p : Part) (r : Result UnitEnd OutOfMemory) (does : Does h p m n r) where
  abbrev Q : Queue
  Q = queue_here x m

  abbrev v : View
  v = plants.view x.plant

  -- the texts of a queue stand on the volumes
  abbrev Stand : Queue → Type 0
  Stand R = HasTextsOf plants copies (parts_of x) R

  -- those of the member's stand, where those of the kept batches do
  texts_here : (l : List Entry) → (1 ≤ length l → HasTextsAfter plants copies (parts_of x) l) → Stand (queue_kept x) → HasTextsAfter plants copies (parts_of x) l
  texts_here [] some has t = subst (λ (es : List Entry). ∥ HasTexts (lost_now v) (spools_at v v.now) x.base.config.groups (run x.base es) ∥₁) (sym (append-nil (kept_all x.journal.batches))) (has t)
  texts_here (e ∷ l) some has t = some (omega arith) t

  -- what was given, and what the batch has of it
  abbrev gave : List Entry
  gave = strip m.batch n.batch

  gave_of : AreOf h.by h.step gave
  gave_of = subst (λ (i : MemberId). AreOf i h.step gave) (sym w.own) (All-drop (λ (e : Entry). (e.by ≡ m.id) × (e.step ≡ h.step)) (length m.batch) n.batch (does.has.own w.of))

  -- given at a queue that the tables told
  abbrev At : Queue → Type 0
  At R = GivesAt (asked R m.id h.step (commands_of m.id R p)) (PartStands m.checkpoint.tables R m.id p) m n r

  abbrev first : At (tells_some m.checkpoint.tables).0
  first = does.gives (tells_some m.checkpoint.tables).0 (tells_some m.checkpoint.tables).1

  abbrev one : plants.tells → At Q
  one t = does.gives Q (tells_here x m h w t)

  gave_is : (R : Queue) → (its : At R) → gave ≡ its.gave
  gave_is R its = ap (strip m.batch) its.batch ∙ drop_at m.batch its.gave (length m.batch) refl

  batch_is : n.batch ≡ m.batch ++ gave
  batch_is = first.batch ∙ ap (λ (es : List Entry). m.batch ++ es) (sym (gave_is _ first))

  queue_is : queue_here x n ≡ run Q gave
  queue_is = ap (λ (es : List Entry). run x.base (kept_all x.journal.batches ++ es)) batch_is ∙ ap (run x.base) (sym (append_assoc (kept_all x.journal.batches) m.batch gave)) ∙ run_append x.base (kept_all x.journal.batches ++ m.batch) gave

  pub gave_few : length n.batch ≤ length m.batch + commands_most p
  gave_few =
      let R = (tells_some m.checkpoint.tables).0 in
      let few = part_few r first.gave _ first.gives.part in
      let long = given_length m.id h.step R (commands_of m.id R p) in
      let both = ap length first.batch ∙ length-append m.batch first.gave in
      let most = most_commands R m.id p in
      omega (arith, few, long, both, most)

  -- THE MEMBER IS AT WORK STILL

  works_given : length n.batch ≤ 64 → (plants.tells → PartStands m.checkpoint.tables Q m.id p (spools_at v v.now) x.base.config.groups) → Stand (queue_kept x) → (plants.tells → MayBegin x.base x.journal.batches x.printed n.batch) → Works x n h
  works_given few stands kept begins =
      let g = does.has in
      record {
        own = w.own ∙ sym g.id;
        still = still_commanded plants copies (parts_of x) m n (record { id = g.id; room = g.room; here = g.behind ∙ w.still.here; fresh = g.fresh; level = g.level; levels = g.levels; pages = g.pages; config = g.config; spelling = g.spelling; fit = g.fit }) w.still;
        base_sound = w.base_sound;
        of = subst (λ (i : MemberId). AreOf i h.step n.batch) (sym g.id) (g.own w.of);
        few = few;
        drawn = λ none. let long = g.grows in let no = ap length none in let same : n ≡ m = g.still (omega (arith, no, long)) in
            subst (λ (i : Member). AreDrawn i.checkpoint.tables i.checkpoint.level i.checkpoint.levels i.checkpoint.pages) (sym same) (w.drawn (none_batch m.batch (omega (arith, no, long))));
        draws = can_still m.checkpoint n.checkpoint w.draws g.pages g.level g.levels g.config g.spelling;
        fit = g.fit;
        same_level = λ t. w.same_level t ∙ sym g.level;
        done = λ t. g.done (queue_kept x) (w.done t);
        sound = λ t. g.sound (w.sound t);
        low = λ t. let le = w.low t in let more = g.order in omega (arith, le, more);
        texts = λ some t. ∥∥₁_map (texts_here m.batch w.texts kept t)
            (λ has. subst (HasTexts (lost_now v) (spools_at v v.now) x.base.config.groups) (ap (run Q) (sym (gave_is Q (one t))) ∙ sym queue_is) ((one t).gives.texts (lost_now v) (spools_at v v.now) x.base.config.groups (stands t) has));
        allowed = begins;
        untold = rw g.id w.untold;
        step = rw g.id w.step;
        first = w.first;
        second = w.second;
      }

  -- three commands at most, none of them a Mark, where nothing was unwritten
  works_first : m.batch ≡ [] → commands_most p ≤ 3 → All (IsUnmarked x.base m.id) (commands_of m.id Q p) → (plants.tells → PartStands m.checkpoint.tables Q m.id p (spools_at v v.now) x.base.config.groups) → Stand (queue_kept x) → Works x n h
  works_first nothing three unmarked stands kept =
      let few = gave_few in
      let none = ap length nothing in
      works_given (omega (arith, few, three, none)) stands kept (λ t.
      subst (λ (es : List Entry). MayBegin x.base x.journal.batches x.printed es) (sym ((one t).batch ∙ ap (λ (es : List Entry). es ++ (one t).gave) nothing)) (part_begins m.id r Q h.step (commands_of m.id Q p) (one t).gave (one t).gives.part x.base x.journal.batches x.printed unmarked))

  -- WHAT WAS GIVEN, or the first ones of it, which are kept if there is memory for that

  abbrev Gave : Complex P C plants steadies copies → Member → Result UnitEnd NodeNo → Type 0
  Gave y u a = HasGiven plants.tells h (unit_part (commands_of h.by Q p) (ends_of h.by h.step Q p)) (place_of x m) (place_of y u) a

  pub given_done : (end : UnitEnd) → r ≡ Ok end → Gave x n (Ok end)
  given_done end ok = record {
    es = gave;
    is = λ t. gave_is Q (one t) ∙ subst (λ (a : Result UnitEnd OutOfMemory). IsPart a (one t).gave (given_in Q m.id h.step (commands_of m.id Q p))) ok (one t).gives.part ∙ ap (λ (i : MemberId). given_in Q i h.step (commands_of i Q p)) (sym w.own);
    of = gave_of;
    keeps = keeping_none plants.tells h.by (outside x);
    counts = counted_none h.by x.printed x.printed (Ok end) refl;
    left = batch_is;
    queue = queue_is;
    ends = λ t. subst (λ (a : Result UnitEnd OutOfMemory). IfOk a (λ e. (R : Queue) → Tell m.checkpoint.tables R → e ≡ ends_of m.id h.step R p)) ok does.end Q (tells_here x m h w t) ∙ ap (λ (i : MemberId). ends_of i h.step Q p) (sym w.own);
    spares = apart_none plants.tells h.by (outside x);
  }

  pub given_not : (y : Complex P C plants steadies copies) (u : Member) (why : NodeNo) (err : OutOfMemory) → r ≡ Err err → GivesUp plants.tells h.by n.batch (outside x) (outside y) why → Gave y u (Err why)
  given_not y u why err is up =
      let all : List Entry = given_in Q h.by h.step (commands_of h.by Q p) in
      let e1 : Entry = entry_with h.by h.step drop_groups reply.Plain in
      let tail : List Entry = or_one e1 (strip gave all) in
      record {
        es = gave ++ tail;
        is = λ t. front_is gave all e1 (subst (λ (i : MemberId). LeaveOut gave (given_in Q i h.step (commands_of i Q p))) (sym w.own) (subst (λ (es : List Entry). LeaveOut es (given_in Q m.id h.step (commands_of m.id Q p))) (sym (gave_is Q (one t))) (subst (λ (a : Result UnitEnd OutOfMemory). IsPart a (one t).gave (given_in Q m.id h.step (commands_of m.id Q p))) is (one t).gives.part)));
        of = of_strip h.by h.step gave all e1 (refl, refl) gave_of (given_of h.by h.step (commands_of h.by Q p) Q);
        keeps = keeping_starts plants.tells h.by why (batch_of n.batch) (batch_of (m.batch ++ (gave ++ tail))) (outside x) (outside y)
            (subst (λ (es : List Entry). StartsAs (batch_of n.batch) (batch_of es)) (ap (λ (es : List Entry). es ++ tail) batch_is ∙ append_assoc m.batch gave tail) (starts_batch n.batch tail))
            up.keeps;
        counts = counted_up {S = Unit {0}} {T = UnitEnd} h.by [] [] x.printed y.printed (Err why) why up.counts;
        left = tt;
        queue = tt;
        ends = tt;
        spares = up.spares;
      }

module _ {P C : Type 0} {plants : PlantGhosts P} {steadies : SteadyGhosts C} {copies : CopyGhosts C} (x : Complex P C plants steadies copies) (m n : Member) (h : Holder) (w : Works x m h) where
  -- one command, or none of it
  one_works : (c : Command) (r : Result UnitEnd OutOfMemory) → MayGive x m (part.One c) → Does h (part.One c) m n r → HasTextsOf plants copies (parts_of x) (queue_kept x) → Works x n h
  one_works c (Ok end) may does kept =
      let longer = one_more h.step c _ m n end does.gives in
      works_given x m n h w (part.One c) (Ok end) does (omega (arith, longer, may.0)) (λ t. (w.sound t, plain_brings c may.1.plain)) kept
      (λ t. let its = does.gives (queue_here x m) (tells_here x m h w t) in subst (λ (es : List Entry). MayBegin x.base x.journal.batches x.printed es) (sym (its.batch ∙ ap (λ (es : List Entry). m.batch ++ es) its.gives.part)) (more_begins x.base m.id x.journal.batches x.printed m.batch h.step c (reply_to (queue_here x m) m.id c) may.1.may may.1.fit (λ sound. may.2 t) (w.allowed t)))
  one_works c (Err e) may does kept =
      let s = tells_some m.checkpoint.tables in
      let its = does.gives s.0 s.1 in
      let front : LeaveOut its.gave (given_in s.0 m.id h.step (c ∷ [])) = its.gives.part in
      let same : 1 ≡ length (its.gave ++ front.0) = ap length front.1 in
      let long = length-append its.gave front.0 in
      let all = ap length its.batch ∙ length-append m.batch its.gave in
      subst (λ (i : Member). Works x i h) (sym (does.has.still (omega (arith, same, long, all, front.2)))) w

  pub part_works : (p : Part) (r : Result UnitEnd OutOfMemory) → MayGive x m p → Does h p m n r → HasTextsOf plants copies (parts_of x) (queue_kept x) → Works x n h
  part_works (part.One c) r may does kept = one_works c r may does kept
  part_works (part.Groups needed) r may does kept = works_first x m n h w (part.Groups needed) r does may.0.nothing (omega arith) (taking_unmarked x.base m.id w.still.holds.member (queue_here x m) needed) w.sound kept
  part_works (part.Ended job specs) r may does kept =
      works_first x m n h w (part.Ended job specs) r does may.0.nothing (omega arith) (ending_unmarked x.base m.id w.still.holds.member (queue_here x m) job specs may.1)
      (λ t. (w.sound t, subst (λ (R : Queue). MayEnd R m.id job specs (spools_at (plants.view x.plant) (plants.view x.plant).now) x.base.config.groups) (sym (kept_here x m may.0.nothing)) (record { under_way = may.2 t; spooled = may.3 t }))) kept
  part_works (part.Lost volume) r may does kept = works_first x m n h w (part.Lost volume) r does may.nothing (omega arith) (dropping_unmarked x.base m.id w.still.holds.member) w.sound kept

-- WHERE A PART MAY BE GIVEN

module _ {P C : Type 0} {plants : PlantGhosts P} {steadies : SteadyGhosts C} {copies : CopyGhosts C} (x : Complex P C plants steadies copies) (m : Member) (h : Holder) (w : Works x m h) where
  pub part_low : (p : Part) → HasRoom x m 1 → MayGive x m p → m.checkpoint.tables.order + 32 * commands_most p < 2 ^ 63
  part_low (part.One c) room may = let order = room.order in omega (arith, order)
  part_low (part.Lost volume) room may = let order = may.low.order in omega (arith, order)
  part_low _ room may = let order = may.0.low.order in omega (arith, order)

  pub part_own : (p : Part) → MayGive x m p → IsOwnPart m p
  part_own (part.One c) may = (record { fit = may.1.fit; giver = may.1.giver; may = λ s. give_alike x.base s.queue m.id c (s.told.config ∙ sym w.still.config) may.1.may }, may.1.closes)
  part_own (part.Lost volume) may = tt
  part_own _ may = may.1

-- HOW A PART MAY END

pub ends_may : (found : Found) (by : MemberId) (at : ℕ) (Q : Queue) (p : Part) → MayLose found p → MayEndBy found (ends_of by at Q p)
ends_may found by at Q (part.One c) may = reply_ends found (closing_reply (given_in Q by at (c ∷ [])))
ends_may found by at Q (part.Groups needed) may = by_refused (are_refused needed Q by needed) where
  by_refused : (b : Bool) → MayEndBy found (if b then end_by (closing_reply (given_in Q by at (taking Q by needed))) else ends.Done)
  by_refused true = reply_ends found (closing_reply (given_in Q by at (taking Q by needed)))
  by_refused false = tt
ends_may found by at Q (part.Ended n specs) may = reply_ends found (closing_reply (given_in Q by at (ending Q by n specs)))
ends_may found by at Q (part.Lost volume) may = inl may
