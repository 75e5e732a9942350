-- A step that gives a command, by how it ended.
use Rattle.std.proofs.Common.{OnOk, IfOk, ◌≡◌, inl, inr, ℕ, ◌+◌, ◌≤◌, ◌++◌, Bool, true, false, List, [], ◌∷◌, length, Option, None, Result, Ok, Err, All, append-nil, refl, sym, ◌∙◌, ap, subst, arith}
use Rattle.std.proofs.lemmas.List.Elements.{All-nil, All-cons, All-append, All-weaker}
use Rattle.mas_types.specs.declared.commands.Command.{Command}
use Rattle.mas_types.specs.declared.journals.Batch.{Batch}
use Rattle.mas_types.specs.declared.journals.Entry.{Entry}
use Rattle.mas_types.specs.declared.journals.Fate.TheVariants.{Kept}
use Rattle.mas_types.specs.declared.ids.MemberId.{MemberId}
use Rattle.mas_types.specs.declared.commands.Reply.{Reply}
use Rattle.mas_types.specs.Fit.{IsFit}
use Rattle.mas_types.specs.Limits.{page_bytes}
use Rattle.mas_types.specs.Step.{may_give}
use Rattle.paper_laws.specs.Counts.{is_mark}
use Rattle.queue_laws.proofs.RunLaws.{give_alike, runs_keep_configuration}
use Rattle.ckpt_tables.specs.declared.tables.Tables.{Tables}
use Rattle.ckpt_tables.specs.Shape.{AreLevels, HasSpelling, page_count}
use Rattle.queue_telling.specs.Telling.{Tell, TellSound}
use Rattle.member_node.specs.Leaving.{OthersLeaveTexts, ToldAreTheirOwn}
use Rattle.mas_complex.specs.Texts.{Spools, HasTexts}
use Rattle.member_node.specs.Given.{is_plain}
use Rattle.mas_types.specs.declared.queues.Queue.{Queue}
use Rattle.spool_plant.specs.View.{View}
use Rattle.mas_complex.specs.Crash.{IsUntold, setting}
use Rattle.mas_complex.specs.Journals.{StepIsKept, fated, in_flight, kept_all, with_last}
use Rattle.mas_complex.specs.Meaning.{run}
use Rattle.mas_complex.specs.Paper.{MayBegin}
use Rattle.mas_complex.proofs.Batches.{one_begins, with_last-append}
use Rattle.mas_complex.specs.CallCounts.{PairState, pair_at}
use Rattle.mas_complex.specs.Parts.{Parts}
use Rattle.member_node.specs.declared.checkpoint.Checkpoint.{Checkpoint}
use Rattle.member_node.specs.declared.checkpoint.Draft.{Draft}
use Rattle.member_node.specs.declared.checkpoint.Draft.TheVariants as draft
use Rattle.member_node.specs.declared.member.NodeNo.{NodeNo}
use Rattle.member_node.specs.declared.member.NodeNo.TheVariants.{BothLost, Halted, ConsoleFault, NoMemory}
use Rattle.member_node.specs.Batches.{CanDraw, HasDone, level_with}
use Rattle.member_node.specs.Calls.{console_now}
use Rattle.member_node.specs.Drawn.{AreDrawn}
use Rattle.member_node.specs.Writes.{HasKept, journal_at}
use Rattle.member_node.proofs.DrawnLemmas.{drawn_level}
use Rattle.member_node.proofs.AgeLemmas.{aged_as, drawn_aged, level_as}
use Rattle.member_node.proofs.CourseLemmas.{course_then, only_on, papers_on, wires_then}
use Rattle.member_node.proofs.EntryLemmas.{nothing_done}
use Rattle.member_node.proofs.SpareLemmas.{spares_then}
use Rattle.member_node.proofs.TextLemmas.{plain_brings, texts_after}
use Rattle.member_node.proofs.WriteLemmas.{run_append}
use Rattle.member_node.specs.Spares.{stopped_in}
use Rattle.member_steps.specs.Keeping.{IsOnCopies, KeepLeaves}
use Rattle.member_steps.specs.Saying.{HaveSaid, SayCauses}
use Rattle.member_steps.specs.Steps.{AreAllKept, IsKeptBy, IsBetween, IsStep, StepLeaves, entry_of, entry_with}
use Rattle.member_steps.proofs.KeepLemmas.{causes_then, copy_causes}
use Rattle.member_steps.proofs.SayLemmas.{console_course, said_none, said_on, say_causes}

-- THE STEP

module _ (told : Type 0) (lines : List (List ℕ)) (b : Batch) (front batches : List Batch) (x y : PairState) where
  abbrev by : ℕ
  by = b.by.0

  -- the batch wasn't kept
  pub step_unkept : (e : NodeNo) → IsOnCopies {T = Unit {0}} told by x y (Err e) → KeepLeaves {T = Unit {0}} (Err e) front batches b y.view.now → IsStep {T = Unit {0}} told lines b (journal_at front x) (journal_at batches y) (Err e)
  step_unkept e acts leaves = record {
    course = acts.course;
    loses = acts.loses;
    cause = copy_causes (Err e) by x y acts.cause;
    spares = acts.spares;
    journal = (left e leaves).0;
    others = λ t. (acts.apart t).others;
    papers = λ t. (acts.apart t).papers;
    wires = λ t. (acts.apart t).wires;
    console = λ t. said_none _ lines (console_now x.view) (console_now y.view) e (left e leaves).1 (acts.apart t).console;
  } where
    left : (e : NodeNo) → KeepLeaves {T = Unit {0}} (Err e) front batches b y.view.now → StepLeaves {T = Unit {0}} (Err e) front batches b y.view.now × (e ≡ ConsoleFault → ⊥)
    left Halted flies = (inl flies, λ is. absurd (cc))
    left ConsoleFault never = absurd never
    left _ leaves = (leaves, λ is. absurd (cc))

  -- the batch was kept, and its lines were said
  pub step_told : IsOnCopies {T = Unit {0}} told by x y (Ok tt) → HasKept front batches b y.view.now → (w : View) (r : Result (Unit {0}) NodeNo) → HaveSaid told by lines y.view w r → IsStep told lines b (journal_at front x) (journal_at batches (pair_at y.first y.second w)) r
  step_told acts kept w r said = record {
    course = course_then x.first y.first y.first x.second y.second y.second x.view y.view w acts.course (console_course told y.first y.second y.view w said.acts);
    loses = λ t d. said.acts.loses d ∙ acts.loses t d;
    cause = causes_then r by x.first y.first y.first x.second y.second y.second x.view y.view w acts.cause acts.course.goes (say_causes r by y w said.cause);
    spares = spares_then by (stopped_in r) x.view y.view w acts.spares said.spares;
    journal = left r said.cause;
    others = λ t. only_on x.view y.view w acts.course.goes.later said.acts.goes (acts.apart t).others (said.acts.others t);
    papers = λ t. papers_on x.view y.view w acts.course.goes.later said.acts.goes (acts.apart t).papers (said.acts.papers t);
    wires = λ t. wires_then x.view y.view w (acts.apart t).wires (said.acts.wires t);
    console = λ t. said_on (Unit {0}) (HasKept front batches b w.now) lines (console_now x.view) (console_now y.view) (console_now w) r (acts.apart t).console (λ u. still) (said.console t);
  } where
    still : HasKept front batches b w.now
    still = let later = said.acts.goes.later in (kept.0, kept.1, omega (arith, kept.2, later), kept.3)

    left : (r : Result (Unit {0}) NodeNo) → SayCauses r by y.view w → StepLeaves r front batches b w.now
    left (Err Halted) cause = inr still
    left (Err BothLost) cause = absurd cause
    left (Err NoMemory) cause = absurd cause
    left _ cause = still

-- BEFORE AND AFTER A STEP

-- nothing is done yet
pub between_done : {P C : Type 0} (tells : Type 0) (x : Parts P C) (batch : List Entry) (k : Checkpoint) → IsBetween tells x batch k → tells → HasDone (run x.base (kept_all x.batches)) batch k
between_done tells x batch k between told =
    subst (λ (es : List Entry). HasDone (run x.base (kept_all x.batches)) es k) (sym between.nothing)
    (nothing_done (run x.base (kept_all x.batches)) k between.drawn between.fit (between.orders told) (between.queue told))

-- a batch that had no entry has the one that came
pub only_entry : (was is : List Entry) (e : Entry) → is ≡ was ++ e ∷ [] → was ≡ [] → is ≡ e ∷ []
only_entry was is e one none = one ∙ ap (λ (es : List Entry). es ++ e ∷ []) none

-- who may give a command in a run may give it at a sound queue that tables tell which tell the run's queue
pub may_alike : (t : Tables) (base : Queue) (es : List Entry) (s : TellSound t) → Tell t (run base es) → (m : MemberId) (c : Command) → may_give base m c ≡ true → may_give s.queue m c ≡ true
may_alike t base es s told m c may = give_alike base s.queue m c (s.told.config ∙ sym told.config ∙ (runs_keep_configuration base es).config) may

-- a batch of one command may begin that is no Mark
pub begins_alone : (base : Queue) (js : List Batch) (printed : List ℕ) (m : MemberId) (at : ℕ) (c : Command) (r : Reply) (es : List Entry) → es ≡ entry_with m at c r ∷ [] → may_give base m c ≡ true → IsFit c → is_mark c ≡ false
    → MayBegin base js printed es
begins_alone base js printed m at c r es are may fit unmarked =
    subst (λ (l : List Entry). MayBegin base js printed l) (sym are) (one_begins base js printed (entry_with m at c r) (record { by = may; fit = fit }) unmarked)

-- texts after the command of a step
pub step_texts : OthersLeaveTexts → ToldAreTheirOwn → (gone : ℕ → Bool) (disks : Spools) (per : ℕ) (base base1 : Queue) (was kept : List Batch) (t : Tables) (m : MemberId) (at : ℕ) (c : Command) (es : List Entry) → is_plain c ≡ true → TellSound t → Tell t (run base (kept_all was))
    → base1 ≡ base → kept_all kept ≡ kept_all was → es ≡ entry_of (run base (kept_all was)) m at c ∷ [] → HasTexts gone disks per (run base1 (kept_all kept)) → HasTexts gone disks per (run base1 (kept_all kept ++ es))
step_texts law own gone disks per base base1 was kept t m at c es plain sound told same none are has =
    let Q : Queue = run base (kept_all was) in
    let here : run base1 (kept_all kept) ≡ Q = ap (λ (q : Queue). run q (kept_all kept)) same ∙ ap (run base) none in
    let stand : HasTexts gone disks per Q = subst (HasTexts gone disks per) here has in
    let after : HasTexts gone disks per (run Q (entry_of Q m at c ∷ [])) = texts_after law gone disks per Q m c (plain_brings c plain) (own t Q sound told) stand in
    subst (HasTexts gone disks per) (sym (run_append base1 (kept_all kept) es ∙ ap (λ (q : Queue). run q es) here ∙ ap (run Q) are)) after

pub none_flying : (batches : List Batch) (current : Option Batch) (t : ℕ) (m : MemberId) (s : ℕ) → current ≡ None → StepIsKept batches t m s → StepIsKept (batches ++ in_flight current) t m s
none_flying batches current t m s none kept = subst (λ (c : Option Batch). StepIsKept (batches ++ in_flight c) t m s) (sym none) (rw append-nil kept)

pub kept_later : (batches : List Batch) (now t : ℕ) → now ≤ t → AreAllKept batches now → AreAllKept batches t
kept_later batches now t le all = All-weaker (λ (b : Batch). IsKeptBy now b × (b.first ≤ b.last)) (λ (b : Batch). IsKeptBy t b × (b.first ≤ b.last))
    (λ b is. ((is.0.0, omega (arith, is.0.1, le)), is.1)) batches all

pub kept_push : (batches : List Batch) (now t : ℕ) (b : Batch) → now ≤ t → b.first ≤ t → AreAllKept batches now → AreAllKept (batches ++ fated Kept t b ∷ []) t
kept_push batches now t b le first all = All-append (λ (b : Batch). IsKeptBy t b × (b.first ≤ b.last)) batches (fated Kept t b ∷ []) (kept_later batches now t le all)
    (All-cons (λ (b : Batch). IsKeptBy t b × (b.first ≤ b.last)) (fated Kept t b) [] ((refl, omega arith), first) (All-nil (λ (b : Batch). IsKeptBy t b × (b.first ≤ b.last))))

-- the journal once the batch is kept
pub journal_kept : (front was batches : List Batch) (place b : Batch) → was ≡ front ++ place ∷ [] → batches ≡ with_last b was → batches ≡ front ++ b ∷ []
journal_kept front was batches place b one is = is ∙ ap (with_last b) one ∙ with_last-append b front place

-- a step that isn't told isn't told by other names either
pub untold_by : (reads : List ℕ → Option (List ℕ)) (base base' : Queue) (since since' : ℕ) (v v' : View) (es es' : List Entry) → base' ≡ base → since' ≡ since → v' ≡ v → es' ≡ es
    → IsUntold (setting reads base since) v es → IsUntold (setting reads base' since') v' es'
untold_by reads base base' since since' v v' es es' one two three four untold =
    subst (λ (Q : Queue). IsUntold (setting reads Q since') v' es') (sym one)
    (subst (λ (n : ℕ). IsUntold (setting reads base n) v' es') (sym two)
    (subst (λ (x : View). IsUntold (setting reads base since) x es') (sym three)
    (subst (λ (l : List Entry). IsUntold (setting reads base since) v l) (sym four) untold)))

-- THE ENTRY

pub some_of_one : (es : List Entry) (e : Entry) → es ≡ e ∷ [] → 1 ≤ length es
some_of_one es e is = subst (λ (l : List Entry). 1 ≤ length l) (sym is) (omega arith)

-- tables that a command changed can be drawn as before
pub can_still : (k n : Checkpoint) → CanDraw k → n.pages ≡ k.pages → n.level ≡ k.level → n.levels ≡ k.levels → n.tables.config ≡ k.tables.config → HasSpelling n.tables → CanDraw n
can_still k n draws pages level levels config spelling = record {
  leveled = subst (λ (l : ℕ). AreLevels n.tables l n.levels) (sym level) (subst (AreLevels n.tables k.level) (sym levels) (record {
    count = draws.leveled.count ∙ ap page_count (sym config);
    first = draws.leveled.first;
    each = draws.leveled.each;
    most = draws.leveled.most;
  }));
  as_many = ap length pages ∙ draws.as_many ∙ ap page_count (sym config);
  sized = subst (All (λ page. length page.0 ≡ page_bytes)) (sym pages) draws.sized;
  spelling = spelling;
  aged = aged_as k n draws.aged pages levels;
  at_level = level_as k n draws.at_level pages level;
}

pub can_draw : (k n : Checkpoint) → AreDrawn k.tables k.level k.levels k.pages → n.pages ≡ k.pages → n.level ≡ k.level → n.levels ≡ k.levels → n.tables.config ≡ k.tables.config → HasSpelling n.tables → CanDraw n
can_draw k n drawn = can_still k n (record {
  leveled = drawn.leveled;
  as_many = drawn.spelled.count;
  sized = drawn.sized;
  spelling = drawn.spelling;
  aged = drawn_aged k.tables k.level k.levels k.pages drawn;
  at_level = drawn_level k.tables k.level k.levels k.pages drawn;
})

-- tables that tell a run's queue with more entries have as many pages as its configuration says
pub pages_as_many : (base : Queue) (es more : List Entry) (t : Tables) → Tell t (run (run base es) more) → page_count base.config ≡ page_count t.config
pages_as_many base es more t told = ap page_count (sym (runs_keep_configuration base es).config ∙ sym (runs_keep_configuration (run base es) more).config ∙ told.config)

-- WHAT HOLDS WHATEVER THE ANSWER

pub ok_of : {T E A : Type 0} (r : Result T E) → A → OnOk r A
ok_of (Ok done) a = a
ok_of (Err why) a = tt

pub if_ok : {T E : Type 0} (P R : T → Type 0) (r : Result T E) → ((x : T) → P x → R x) → IfOk r P → IfOk r R
if_ok P R (Ok x) to p = to x p
if_ok P R (Err why) to p = tt

pub level_most : (d : Draft) (n : ℕ) → level_with d n ≤ n + 1
level_most draft.Same n = omega arith
level_most (draft.Changed numbers) n = omega arith
