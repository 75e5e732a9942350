-- The rest of a sitting, part by part.
use Rattle.member_giving.proofs.Names.{◌≡◌, ℕ, ◌+◌, ◌*◌, ◌≤◌, List, [], ◌∷◌, ◌++◌, length, All, Result, Ok, Err, IfOk, ◌∙◌, append-nil, ap, refl, sym, subst, arith, length-append, All-append, All-cons, Command, MemberId, Entry, UnitEnd, NodeNo, AreOf, HasCounted, counted_on, counted_then, counted_up, notes_none, notes_then, batch_of, cut, cut_after, all_entries, given_in, released, Holder, State, Told, Turn, after_part, goes_on_by, says, units_from, entries_append, SittingEnd, MayEndBy, Bounds, Closes, EndsAs, HasGiven, IsWithin, Keeps, Plays, PlaysAs, PlaysOut, SparesOthers, Wrote, after_full, bounds, full_of, unwritten, wrote_after, wrote_of, Outside, Place, bare, to_play, unit_part, closed, IsClosing, only_none, only_on, papers_none, papers_on, wires_none, wires_then, if_ok as if_answered}
use Rattle.spool_plant.specs.Acts.{Goes}
use Rattle.job_outcome.specs.declared.units.UnitEnd.TheVariants as ends
use Rattle.member_giving.proofs.Cuts.{batch_entries, full_entries, full_first, of_after, of_batch, of_cut, of_full_batches, starts_after, starts_full}
use Rattle.member_giving.proofs.Within.{after_few, goes_within, more_wrote, unwritten_one, wrote_within}
use Rattle.member_giving.proofs.Keeping.{closes_error, closes_then}
use Rattle.member_giving.proofs.Leaving.{StartsAs}

-- no volume is written, nothing printed, nothing moves on a line, and no other member's note differs
pub apart_none : (told : Type 0) (by : MemberId) (o : Outside) → SparesOthers told by o o
apart_none told by o = record { others = λ t. only_none o.view; papers = λ t. papers_none o.view; wires = λ t. wires_none o.view; notes = notes_none by o.had }

pub apart_then : (told : Type 0) (by : MemberId) (o m n : Outside) → o.view.now ≤ m.view.now → Goes m.view n.view → SparesOthers told by o m → SparesOthers told by m n → SparesOthers told by o n
apart_then told by o m n later goes one two = record {
  others = λ t. only_on o.view m.view n.view later goes (one.others t) (two.others t);
  papers = λ t. papers_on o.view m.view n.view later goes (one.papers t) (two.papers t);
  wires = λ t. wires_then o.view m.view n.view (one.wires t) (two.wires t);
  notes = notes_then by o.had m.had n.had one.notes two.notes;
}

-- THE REST OF A SITTING, whatever bounds it

-- what is written after these batches
abbrev pub after_batches : List (List Entry) → Wrote → Wrote
after_batches first w = record { batches = first ++ w.batches; next = w.next; lines = w.lines }

-- the counts, by the entries another way
pub counted_as : {T : Type 0} {by : MemberId} (es fs : List Entry) (was now : List ℕ) → es ≡ fs → (r : Result T NodeNo) → HasCounted by fs was now r → HasCounted by es was now r
counted_as {T} {by} es fs was now same r c = subst (λ (l : List Entry). HasCounted {T = T} by l was now r) (sym same) c

module _ (told : Type 0) (h : Holder) (Fits : Wrote → Type 0) (given : ℕ) where
  -- the rest of a sitting, by what it is to write
  pub played_as : (w w' : Wrote) (old : Place) (new : Outside) (r : Result SittingEnd NodeNo) → (told → w ≡ w') → PlaysAs told Fits (to_play h given w) old new r → PlaysAs told Fits (to_play h given w') old new r
  played_as w w' old new r same p = record { wrote = p.wrote; is = λ t. p.is t ∙ same t; of = p.of; within = p.within; ends = p.ends; closes = p.closes; counts = p.counts; spares = p.spares }

  -- an error, where what was to be kept begins what is to be written
  pub played_error : {S : Type 0} (why : NodeNo) (w w' : Wrote) (xs : List (List Entry)) (old : Place) (new : Outside) → (told → w' ≡ w) → All (AreOf h.by h.step) w'.batches → Fits w' → StartsAs xs w'.batches
      → SparesOthers told h.by old.outside new → Keeps {T = S} told h.by xs old.outside new (Err why) → {gave : List Entry} → HasCounted {T = S} h.by gave old.outside.printed new.printed (Err why) → PlaysAs told Fits (to_play h given w) old new (Err why)
  played_error {S} why w w' xs old new is of within starts spares keeps {gave} counts = record {
    wrote = w';
    is = is;
    of = of;
    within = within;
    ends = tt;
    closes = closes_error told h.by why xs w'.batches w'.lines old.outside new starts keeps;
    counts = counted_up h.by gave (all_entries w'.batches) old.outside.printed new.printed (Err why) why counts;
    spares = spares;
  }

  abbrev EndsIn : State → SittingEnd → Type 0
  EndsIn next e = (e.next ≡ next) × (e.given ≡ given) × (e.release ≡ released h.grant h.hold e.given e.next)

  -- the sitting ends with what isn't written: in a state of its step, or with lines
  abbrev last : Place → State → List (List ℕ) → Wrote
  last old next lines = record { batches = batch_of old.batch; next = next; lines = lines }

  pub played_end : (next : State) (lines : List (List ℕ)) (old : Place) (new : Outside) (r : Result SittingEnd NodeNo) → IfOk r (EndsIn next) → AreOf h.by h.step old.batch → Fits (last old next lines) → SparesOthers told h.by old.outside new → Closes told h.by (last old next lines) old.outside new r → HasCounted h.by (all_entries (batch_of old.batch)) old.outside.printed new.printed r
      → PlaysAs told Fits (to_play h given (last old next lines)) old new r
  played_end next lines old new r ends of within spares closes counts = record {
    wrote = last old next lines;
    is = λ t. refl;
    of = of_batch h.by h.step old.batch of;
    within = within;
    ends = if_answered (EndsIn next) (EndsAs h given old.batch (last old next lines)) r (λ e it. (it.0, ap (λ (n : ℕ). n + length old.batch) it.1 ∙ ap (λ (es : List Entry). given + length es) (sym (batch_entries old.batch)), it.2)) ends;
    closes = closes;
    counts = counts;
    spares = spares;
  }

  -- the step closes
  pub played_close : {S : Type 0} (s : S) (r : Result SittingEnd NodeNo) (lines : List (List ℕ)) (old : Place) (mid new : Outside) → IfOk r (EndsIn Told) → AreOf h.by h.step old.batch → Fits (last old Told lines) → SparesOthers told h.by old.outside new
      → Keeps {T = S} told h.by (batch_of old.batch) old.outside mid (Ok s) → HasCounted {T = S} h.by (all_entries (batch_of old.batch)) old.outside.printed mid.printed (Ok s) → Closes told h.by (wrote_of [] (says lines)) mid new r → new.printed ≡ mid.printed → PlaysAs told Fits (to_play h given (last old Told lines)) old new r
  played_close {S} s r lines old mid new ends of within spares keeps counts closes still =
      played_end Told lines old new r ends of within spares
      (subst (λ (ess : List (List Entry)). IsClosing told h.by (closed ess lines) old.outside new (bare r)) (append-nil (batch_of old.batch)) (closes_then told h.by (bare r) (batch_of old.batch) [] lines old.outside mid new keeps closes))
      (counted_on h.by (all_entries (batch_of old.batch)) old.outside.printed mid.printed new.printed s r still counts)

  -- what fits otherwise fits so
  pub played_fits : (Rest : Wrote → Type 0) (w : Wrote) (old : Place) (new : Outside) (r : Result SittingEnd NodeNo) → ((x : Wrote) → Rest x → Fits x) → PlaysAs told Rest (to_play h given w) old new r → PlaysAs told Fits (to_play h given w) old new r
  played_fits Rest w old new r to p = record { wrote = p.wrote; is = p.is; of = p.of; within = to p.wrote p.within; ends = p.ends; closes = p.closes; counts = p.counts; spares = p.spares }

  pub played_out : (w : Wrote) (old : Place) (new : Outside) (r : Result SittingEnd NodeNo) → Fits w → PlaysOut told (to_play h given w) old new r → PlaysAs told Fits (to_play h given w) old new r
  played_out w old new r fits p = played_fits (λ x. x ≡ w) w old new r (λ x is. subst Fits (sym is) fits) p

  -- a full batch couldn't be kept
  pub played_full_error : {S : Type 0} (why : NodeNo) (t : Turn) (old : Place) (new : Outside) → AreOf h.by h.step old.batch → All (AreOf h.by h.step) t.parts → Fits (wrote_after old.batch t) → SparesOthers told h.by old.outside new
      → Keeps {T = S} told h.by (full_of old.batch) old.outside new (Err why) → {gave : List Entry} → HasCounted {T = S} h.by gave old.outside.printed new.printed (Err why) → PlaysAs told Fits (to_play h given (wrote_after old.batch t)) old new (Err why)
  played_full_error {S} why t old new of its fits spares keeps {gave} counts =
      played_error {S = S} why (wrote_after old.batch t) (wrote_after old.batch t) (full_of old.batch) old new (λ t. refl) (of_after h.by h.step old.batch t.parts of its) fits (starts_full old.batch t.parts) spares keeps {gave = gave} counts

  -- what is full is written, and then the rest
  pub played_full : {S : Type 0} (s : S) (t : Turn) (Rest : Wrote → Type 0) (old mid : Place) (new : Outside) (r : Result SittingEnd NodeNo) → ((x : Wrote) → Rest x → Fits (after_batches (full_of old.batch) x)) → AreOf h.by h.step old.batch → mid.batch ≡ after_full old.batch → SparesOthers told h.by old.outside mid.outside
      → Keeps {T = S} told h.by (full_of old.batch) old.outside mid.outside (Ok s) → HasCounted {T = S} h.by (all_entries (full_of old.batch)) old.outside.printed mid.outside.printed (Ok s) → PlaysAs told Rest (to_play h given (wrote_of mid.batch t)) mid new r → PlaysAs told Fits (to_play h given (wrote_after old.batch t)) old new r
  played_full {S} s t Rest old mid new r fits of left spares keeps counts p = record {
    wrote = after_batches (full_of old.batch) p.wrote;
    is = λ told. joined (p.wrote) (p.is told);
    of = All-append (AreOf h.by h.step) (full_of old.batch) p.wrote.batches (of_full_batches h.by h.step old.batch of) p.of;
    within = fits p.wrote p.within;
    ends = if_answered (EndsAs h given mid.batch p.wrote) (EndsAs h given old.batch (after_batches (full_of old.batch) p.wrote)) r (λ e it. (it.0, long e it.1, it.2)) p.ends;
    closes = closes_then told h.by (bare r) (full_of old.batch) p.wrote.batches p.wrote.lines old.outside mid.outside new keeps p.closes;
    counts = counted_as (all_entries (full_of old.batch ++ p.wrote.batches)) (all_entries (full_of old.batch) ++ all_entries p.wrote.batches) old.outside.printed new.printed (entries_append (full_of old.batch) p.wrote.batches) r
        (counted_then h.by (all_entries (full_of old.batch)) (all_entries p.wrote.batches) old.outside.printed mid.outside.printed new.printed s r counts p.counts);
    spares = apart_then told h.by old.outside mid.outside new keeps.closes.course.goes.later p.closes.course.goes spares p.spares;
  } where
    joined : (w : Wrote) → w ≡ wrote_of mid.batch t → after_batches (full_of old.batch) w ≡ wrote_after old.batch t
    joined w is =
        let batches : full_of old.batch ++ w.batches ≡ cut_after old.batch (λ unwritten. cut unwritten t.parts) =
        ap (λ (x : Wrote). full_of old.batch ++ x.batches) is ∙ ap (λ (es : List Entry). full_of old.batch ++ cut es t.parts) left ∙ sym (full_first old.batch t.parts) in
        ap (λ (x : Wrote). record { batches = full_of old.batch ++ w.batches; next = x.next; lines = x.lines }) is ∙ ap (λ (bs : List (List Entry)). record { batches = bs; next = t.next; lines = t.lines }) batches

    long : (e : SittingEnd) → e.given + length mid.batch ≡ given + length (all_entries p.wrote.batches) → e.given + length old.batch ≡ given + length (all_entries (full_of old.batch ++ p.wrote.batches))
    long e same =
        let all = ap length (full_entries old.batch) in
        let parts = length-append (all_entries (full_of old.batch)) (after_full old.batch) in
        let less = ap length left in
        let both = ap length (entries_append (full_of old.batch) p.wrote.batches) in
        let more = length-append (all_entries (full_of old.batch)) (all_entries p.wrote.batches) in
        omega (arith, same, all, parts, less, both, more)

module _ (told : Type 0) (h : Holder) (Fits : Wrote → Type 0) (given : ℕ) (cs : List Command) (e : UnitEnd) (old mid : Place) where
  -- the entries of a part, as the queue gives them
  abbrev part_given : List Entry
  part_given = given_in old.queue h.by h.step cs

  -- out of memory for the part, or a batch couldn't be kept then: whatever its entries were, this may follow
  pub played_part_error : (rest : List Entry → Turn) → AreOf h.by h.step old.batch → ((es : List Entry) → All (AreOf h.by h.step) (rest es).parts) → ((es : List Entry) → Fits (wrote_of old.batch (after_part es (rest es)))) → (why : NodeNo) → HasGiven told h (unit_part cs e) old mid (Err why)
      → PlaysAs told Fits (to_play h given (wrote_of old.batch (after_part part_given (rest part_given)))) old mid.outside (Err why)
  played_part_error rest of its fits why g =
      let w = wrote_of old.batch (after_part g.es (rest g.es)) in
      played_error told h Fits given {S = UnitEnd} why (wrote_of old.batch (after_part part_given (rest part_given))) w (batch_of (old.batch ++ g.es)) old mid.outside
      (λ t. ap (λ (es : List Entry). wrote_of old.batch (after_part es (rest es))) (g.is t))
      (of_cut h.by h.step old.batch (g.es ∷ (rest g.es).parts) of (All-cons (AreOf h.by h.step) g.es (rest g.es).parts g.of (its g.es)))
      (fits g.es)
      (starts_after (old.batch ++ g.es) (rest g.es).parts)
      g.spares g.keeps g.counts

  -- the part was given, and this turn follows, which is that of the queue where content is told
  pub played_part : (t rest : Turn) (end : UnitEnd) (given' : ℕ) (new : Outside) (r : Result SittingEnd NodeNo) (g : HasGiven told h (unit_part cs e) old mid (Ok end)) → given' ≡ given + length g.es → (told → t ≡ rest) → PlaysAs told Fits (to_play h given' (wrote_after mid.batch t)) mid new r
      → PlaysAs told Fits (to_play h given (wrote_of old.batch (after_part part_given rest))) old new r
  played_part t rest end given' new r g more follows p = record {
    wrote = p.wrote;
    is = λ seen. p.is seen ∙ same seen;
    of = p.of;
    within = p.within;
    ends = if_answered (EndsAs h given' mid.batch p.wrote) (EndsAs h given old.batch p.wrote) r (λ e it. let is = it.1 in let longer = ap length g.left in let both = length-append old.batch g.es in (it.0, omega (arith, is, longer, both, more), it.2)) p.ends;
    closes = closes_then told h.by (bare r) [] p.wrote.batches p.wrote.lines old.outside mid.outside new g.keeps p.closes;
    counts = counted_then h.by [] (all_entries p.wrote.batches) old.outside.printed mid.outside.printed new.printed end r g.counts p.counts;
    spares = apart_then told h.by old.outside mid.outside new g.keeps.closes.course.goes.later p.closes.course.goes g.spares p.spares;
  } where
    same : told → wrote_after mid.batch t ≡ wrote_of old.batch (after_part part_given rest)
    same seen =
        ap (λ (es : List Entry). wrote_after es t) g.left
        ∙ ap (λ (x : Turn). wrote_after (old.batch ++ g.es) x) (follows seen)
        ∙ ap (λ (es : List Entry). wrote_after (old.batch ++ es) rest) (g.is seen)

-- THE REST OF A SITTING OF WORK

module _ (told : Type 0) (h : Holder) (b : Bounds) (given : ℕ) where
  -- as much and more may come
  pub plays_more : (least fewer : ℕ) (w : Wrote) (old : Place) (new : Outside) (r : Result SittingEnd NodeNo) → least ≤ b.most → fewer ≤ b.units → Plays told (bounds least fewer b.found) (to_play h given w) old new r → Plays told b (to_play h given w) old new r
  plays_more least fewer w old new r le less p = record { wrote = p.wrote; is = p.is; of = p.of; within = more_wrote h b.found b.most least b.units fewer p.wrote le less p.within; ends = p.ends; closes = p.closes; counts = p.counts; spares = p.spares }

  -- what is full is written, and then the rest
  pub plays_full : {S : Type 0} (s : S) (t : Turn) (old mid : Place) (new : Outside) (r : Result SittingEnd NodeNo) (least : ℕ) → length (full_of old.batch) + least ≤ b.most → AreOf h.by h.step old.batch → mid.batch ≡ after_full old.batch → SparesOthers told h.by old.outside mid.outside
      → Keeps {T = S} told h.by (full_of old.batch) old.outside mid.outside (Ok s) → HasCounted {T = S} h.by (all_entries (full_of old.batch)) old.outside.printed mid.outside.printed (Ok s) → Plays told (bounds least b.units b.found) (to_play h given (wrote_of mid.batch t)) mid new r → Plays told b (to_play h given (wrote_after old.batch t)) old new r
  plays_full {S} s t old mid new r least le of left spares keeps counts p =
      played_full told h (IsWithin h b) given {S = S} s t (IsWithin h (bounds least b.units b.found)) old mid new r
      (λ w within. record { few = let few = within.few in let both = length-append (full_of old.batch) w.batches in omega (arith, few, both, le); says = within.says })
      of left spares keeps counts p

  -- a full batch couldn't be kept after a unit
  pub full_error : {S : Type 0} (why : NodeNo) (e : UnitEnd) (left done : ℕ) (old : Place) (new : Outside) → MayEndBy b.found e → done + 1 + left ≤ b.units → 3 * left + 2 ≤ b.most → AreOf h.by h.step old.batch → SparesOthers told h.by old.outside new → Keeps {T = S} told h.by (full_of old.batch) old.outside new (Err why) → {gave : List Entry} → HasCounted {T = S} h.by gave old.outside.printed new.printed (Err why)
      → Plays told b (to_play h given (wrote_after old.batch (goes_on_by h e left (units_from h left) old.queue given done))) old new (Err why)
  full_error {S} why e left done old new may few le of spares keeps {gave} counts =
      let t = goes_on_by h e left (units_from h left) old.queue given done in
      let one = unwritten_one old.batch in
      let w = goes_within h b.found e may (3 * left + 1) b.units left old.queue given done few (omega arith) in
      played_full_error told h (IsWithin h b) given {S = S} why t old new of w.its (wrote_within h b.found b.units b.most (unwritten old.batch) (cut_after old.batch (λ es. cut es t.parts)) t (3 * left + 1) (after_few old.batch t.parts) (omega (arith, one, le)) w) spares keeps {gave = gave} counts
