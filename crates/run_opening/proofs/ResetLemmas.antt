-- Restart as the first batch, by how it ended.
use Rattle.std.proofs.Common.{◌≡◌, inl, inr, ⊎_elim, ℕ, ◌+◌, ◌++◌, ◌≤◌, ◌<◌, ◌^◌, ◌&&◌, ◌||◌, Bool, true, false, if◌then◌else◌, List, [], ◌∷◌, length, drop, Option, Result, Ok, Err, OnOk, All, refl, sym, subst, ◌∙◌, ap, arith}
use Rattle.std.specs.Prelude.{slice_set}
use Rattle.std.proofs.lemmas.List.{length-append}
use Rattle.std.proofs.lemmas.List.Elements.{All-nil, All-cons}
use Rattle.mas_types.specs.declared.ids.MemberId.{MemberId}
use Rattle.mas_types.specs.declared.commands.Command.TheVariants.{Restart}
use Rattle.mas_types.specs.declared.commands.Reply.TheVariants.{Plain}
use Rattle.mas_types.specs.declared.journals.Batch.{Batch}
use Rattle.mas_types.specs.declared.journals.Entry.{Entry}
use Rattle.mas_types.specs.declared.journals.Fate.TheVariants.{Kept}
use Rattle.mas_types.specs.declared.queues.Queue.{Queue}
use Rattle.mas_types.specs.Ids.{nobody, same_member}
use Rattle.spool_plant.specs.Acts.{Goes}
use Rattle.spool_plant.specs.View.{View, Line, World}
use Rattle.duplex_pair.specs.Halves.{SomeAlive}
use Rattle.mas_complex.specs.Crash.{EachTells, IsUntold, setting}
use Rattle.mas_complex.specs.Journals.{AreSettled, fated, has_step, kept_all, with_last}
use Rattle.mas_complex.specs.Meaning.{Closes, run, step}
use Rattle.ckpt_tables.specs.declared.tables.Tables.{Tables}
use Rattle.queue_effect.specs.Standing.{AreFit}
use Rattle.queue_telling.specs.Orders.{HaveOrders}
use Rattle.queue_telling.specs.Telling.{Tell}
use Rattle.member_node.specs.declared.checkpoint.Checkpoint.{Checkpoint}
use Rattle.member_node.specs.Batches.{HasDone}
use Rattle.member_node.specs.Drawn.{AreDrawn}
use Rattle.member_node.specs.Reads.{AreLow, IsSettle}
use Rattle.member_node.proofs.EntryLemmas.{nothing_done}
use Rattle.member_node.specs.declared.member.NodeNo.{NodeNo}
use Rattle.member_node.specs.declared.member.NodeNo.TheVariants as no_node
use Rattle.member_node.specs.Calls.{IsLeft, console_now}
use Rattle.member_node.specs.Writes.{IsWrite, journal_at}
use Rattle.member_node.proofs.CourseLemmas.{apart_none, apart_then, course_none, course_then}
use Rattle.member_node.proofs.SpareLemmas.{spares_none}
use Rattle.member_steps.proofs.StepLemmas.{journal_kept}
use Rattle.mas_complex.specs.Paper.{MayBegin, printed_after}
use Rattle.mas_complex.proofs.Batches.{one_begins}
use Rattle.mas_complex.specs.CallCounts.{pair_at}
use Rattle.run_opening.specs.Resets.{HasReset, restart_at, restart_entries}
use Rattle.member_quiet.specs.Standing.{IsOfEarlier}
use Rattle.run_opening.specs.Statuses.{IsCausedFrom, is_of_play, status_of}

-- nothing was said since this moment
none_said : (closes : List ℕ → MemberId → ℕ → Type 0) (lines : List Line) (P : MemberId → ℕ → Type 0) → EachTells closes (drop (length lines) lines) P
none_said closes [] P = tt
none_said closes (line ∷ lines) P = none_said closes lines P

-- no entries are told since this moment, if the console is still as it was then
pub none_untold_later : (reads : List ℕ → Option (List ℕ)) (base : Queue) (since : ℕ) (old v : View) (entries : List Entry) → since ≡ old.now → Goes old v → console_now v ≡ console_now old → IsUntold (setting reads base since) v entries
none_untold_later reads base since old v entries is goes same =
    let first : (v.world since).console ≡ (v.world v.now).console = ap (λ (t : ℕ). (v.world t).console) is ∙ ap (λ (w : World). w.console) (goes.past old.now (omega arith)) ∙ sym same in
    subst (λ (ls : List Line). EachTells Closes (drop (length ls) (v.world v.now).console) (λ m s. has_step m s entries ≡ false)) (sym first) (none_said Closes (v.world v.now).console (λ m s. has_step m s entries ≡ false))

-- what follows from a fact of an answer that is none of an error
pub ok_then : {T E A B : Type 0} (r : Result T E) → (A → B) → OnOk r A → OnOk r B
ok_then (Ok done) f a = f a
ok_then (Err why) f a = tt

-- BEFORE RESTART

pub tell_none : (t : Tables) (base : Queue) (batches : List Batch) → batches ≡ [] → Tell t base → Tell t (run base (kept_all batches))
tell_none t base batches none told = subst (λ (bs : List Batch). Tell t (run base (kept_all bs))) (sym none) told

-- before Restart nothing is done yet
pub reset_done : (base : Queue) (batches : List Batch) (batch : List Entry) (k : Checkpoint) → batches ≡ [] → batch ≡ [] → AreDrawn k.tables k.level k.levels k.pages → AreFit k.tables → HaveOrders k.tables → Tell k.tables base → HasDone (run base (kept_all batches)) batch k
reset_done base batches batch k none nothing drawn fit orders told = subst (λ (es : List Entry). HasDone (run base (kept_all batches)) es k) (sym nothing) (nothing_done (run base (kept_all batches)) k drawn fit orders (tell_none k.tables base batches none told))

-- WHAT RESTART LEAVES

-- the journal in which Restart's batch is kept isn't empty
pub some_kept : (front was batches : List Batch) (place b : Batch) → was ≡ front ++ place ∷ [] → batches ≡ with_last b was → 1 ≤ length batches
some_kept front was batches place b grown kept =
    let same = ap (λ (bs : List Batch). length bs) (journal_kept front was batches place b grown kept) ∙ length-append front (b ∷ []) in
    omega (arith, same)

-- after Restart the tables' orders are those of a run's first batch
pub low_first : (t : Tables) (was batches : ℕ) → AreFit t → was < 2 ^ 62 → t.order ≤ was + 32 → 1 ≤ batches → AreLow t.config batches t
low_first t was batches fit small le some = record { same = refl; fit = fit; order = omega (arith, small, le, some) }

pub some_left : (was1 is1 was2 is2 : Bool) → SomeAlive was1 was2 → IsLeft was1 is1 was2 is2 → SomeAlive is1 is2
some_left was1 is1 was2 is2 some is = ⊎_elim (λ here. here) (λ same. subst (λ (x : Bool). SomeAlive x is2) (sym same.0) (subst (λ (y : Bool). SomeAlive was1 y) (sym same.1) some)) is

-- nothing is done if there is room already
pub settle_none : (told : Type 0) (is1 is2 : Bool) (v : View) → SomeAlive is1 is2 → IsSettle {T = Unit {0}} told 0 (pair_at is1 is2 v) (pair_at is1 is2 v) (Ok tt)
settle_none told is1 is2 v some = record { course = course_none is1 is2 v; cause = some; spares = spares_none 0 v; loses = λ d. refl; apart = λ t. apart_none v }

module _ (told : Type 0) (batches : List Batch) (was1 m1 was2 m2 : Bool) (old mid : View) where
  -- there was no memory for Restart's batch, after room was made
  pub reset_none : IsSettle {T = Unit {0}} told 0 (pair_at was1 was2 old) (pair_at m1 m2 mid) (Ok tt) → batches ≡ [] → HasReset {T = Unit {0}} told batches (pair_at was1 was2 old) (pair_at m1 m2 mid) (Err no_node.NoMemory)
  reset_none s none = record { course = s.course; loses = s.loses; ends = (none, s.cause); apart = s.apart }

  -- room for Restart's batch wasn't made
  pub reset_unsettled : (r : Result (Unit {0}) NodeNo) (why : NodeNo) → r ≡ Err why → (r ≡ Err no_node.Halted → ⊥) → IsSettle told 0 (pair_at was1 was2 old) (pair_at m1 m2 mid) r → batches ≡ [] → HasReset told batches (pair_at was1 was2 old) (pair_at m1 m2 mid) r
  reset_unsettled (Ok done) why is goes_on s none = absurd (cc)
  reset_unsettled (Err no_node.NoMemory) why is goes_on s none = absurd s.cause
  reset_unsettled (Err no_node.BothLost) why is goes_on s none = record { course = s.course; loses = s.loses; ends = (inl none, s.cause); apart = s.apart }
  reset_unsettled (Err no_node.ConsoleFault) why is goes_on s none = absurd s.cause
  reset_unsettled (Err no_node.Halted) why is goes_on s none = absurd (goes_on refl)

  -- the operator is never stopped
  pub reset_written : (is1 is2 : Bool) (new : View) (r : Result (Unit {0}) NodeNo) → (r ≡ Err no_node.Halted → ⊥) → IsSettle {T = Unit {0}} told 0 (pair_at was1 was2 old) (pair_at m1 m2 mid) (Ok tt) → IsWrite told 0 (restart_at mid.now) (journal_at [] (pair_at m1 m2 mid)) (journal_at batches (pair_at is1 is2 new)) r
      → HasReset told batches (pair_at was1 was2 old) (pair_at is1 is2 new) r
  reset_written is1 is2 new (Ok done) goes_on s write = record {
    course = course_then was1 m1 is1 was2 m2 is2 old mid new s.course write.course;
    loses = λ d. write.loses d ∙ s.loses d;
    ends = ((mid.now, write.journal.0, s.course.goes.later, write.journal.1, write.journal.2, write.journal.3), some_left m1 is1 m2 is2 s.cause write.cause);
    apart = λ t. apart_then old mid new s.course.goes.later write.course.goes (s.apart t) (write.apart t);
  }
  reset_written is1 is2 new (Err no_node.NoMemory) goes_on s write = absurd write.cause
  reset_written is1 is2 new (Err no_node.BothLost) goes_on s write = record {
    course = course_then was1 m1 is1 was2 m2 is2 old mid new s.course write.course;
    loses = λ d. write.loses d ∙ s.loses d;
    ends = (inr (mid.now, s.course.goes.later, write.journal), write.cause);
    apart = λ t. apart_then old mid new s.course.goes.later write.course.goes (s.apart t) (write.apart t);
  }
  reset_written is1 is2 new (Err no_node.ConsoleFault) goes_on s write = absurd write.cause
  reset_written is1 is2 new (Err no_node.Halted) goes_on s write = absurd (goes_on refl)

-- Restart may begin a batch: it is no Mark
pub restart_begins : (base : Queue) (js : List Batch) (printed : List ℕ) (es : List Entry) → es ≡ restart_entries → MayBegin base js printed es
restart_begins base js printed es are =
    subst (λ (l : List Entry). MayBegin base js printed l) (sym are)
    (one_begins base js printed (record { by = nobody; step = 0; command = Restart; reply = Plain }) (record { by = refl; fit = tt }) refl)

-- the entry of Restart is the operator's
pub restart_own : (es : List Entry) (m : MemberId) → es ≡ restart_entries → m ≡ nobody → All (λ (e : Entry). e.by ≡ m) es
restart_own es m are same = subst (All (λ (e : Entry). e.by ≡ m)) (sym are) (All-cons (λ (e : Entry). e.by ≡ m) _ [] (sym same) (All-nil (λ (e : Entry). e.by ≡ m)))

-- a batch that was empty has the entry of Restart
pub restart_entry : (batch more : List Entry) (Q : Queue) (m : MemberId) → batch ≡ [] → m ≡ nobody → more ≡ batch ++ record { by = m; step = 0; command = Restart; reply = (step Q m Restart).1 } ∷ [] → more ≡ restart_entries
restart_entry batch more Q m none same is =
    is ∙ ap (λ (es : List Entry). es ++ record { by = m; step = 0; command = Restart; reply = (step Q m Restart).1 } ∷ []) none
    ∙ ap (λ (n : MemberId). let e : List Entry = record { by = n; step = 0; command = Restart; reply = (step Q n Restart).1 } ∷ [] in e) same

-- A WARM RUN AFTER RESTART

-- a run that ends at Restart ends as one that has begun does
pub err_plays : (T : Type 0) (why : NodeNo) → is_of_play (status_of {T = T} (Err why)) ≡ true
err_plays T no_node.NoMemory = refl
err_plays T no_node.BothLost = refl
err_plays T no_node.ConsoleFault = refl
err_plays T no_node.Halted = refl

pub reset_caused : {T : Type 0} (told : Type 0) (batches : List Batch) (a a' c c' : Bool) (old new : View) (why : NodeNo) → HasReset {T = T} told batches (pair_at a c old) (pair_at a' c' new) (Err why)
    → IsCausedFrom a c (status_of {T = T} (Err why)) old new
reset_caused told batches a a' c c' old new no_node.NoMemory r = record { failed1 = λ e was. absurd (cc); failed2 = λ e was. absurd (cc); console = λ e. absurd (cc) }
reset_caused told batches a a' c c' old new no_node.BothLost r = record {
  failed1 = λ e was. r.course.failed1 was r.ends.1.0;
  failed2 = λ e was. r.course.failed2 was r.ends.1.1;
  console = λ e. absurd (cc);
}
reset_caused told batches a a' c c' old new no_node.ConsoleFault r = absurd r.ends
reset_caused told batches a a' c c' old new no_node.Halted r = absurd r.ends

-- the one batch has its fate
pub one_settled : (b : Batch) (last now : ℕ) (batches : List Batch) → batches ≡ fated Kept last b ∷ [] → b.first ≤ last → last ≤ now → AreSettled batches now
one_settled b last now batches are order le = subst (λ (bs : List Batch). AreSettled bs now) (sym are) (refl, order, le, tt)

-- Restart prints nothing, and begins no count anew
pub restart_printed : (by : MemberId) (es : List Entry) (printed : List ℕ) → es ≡ restart_entries → printed_after by es printed ≡ printed
restart_printed by es printed are = subst (λ (l : List Entry). printed_after by l printed ≡ printed) (sym are) (none_anew (same_member nobody by)) where
  none_anew : (own : Bool) → (if (own && false) || false then slice_set printed by.0 0 else printed) ≡ printed
  none_anew true = refl
  none_anew false = refl

-- and is of no line
pub restart_earlier : (b : Batch) → b.entries ≡ restart_entries → IsOfEarlier 1 b
restart_earlier b are = subst (λ (es : List Entry). All (λ (e : Entry). e.step < 1) es) (sym are) (All-cons (λ (e : Entry). e.step < 1) _ [] (omega arith) (All-nil (λ (e : Entry). e.step < 1)))
