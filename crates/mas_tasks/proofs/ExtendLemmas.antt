-- A run whose lines have ended, and one line more on the console: what it promises of each moment.
use Rattle.std.proofs.Common.{◌≡◌, ◌⊎◌, inl, inr, ⊎_elim, ℕ, zero, suc, ◌+◌, ◌≤◌, ◌<◌, nat_le, nat_lt, Bool, true, false, if◌then◌else◌, ◌&&◌, ◌||◌, List, [], ◌∷◌, ◌++◌, length, take, drop, filter, get_or, refl, sym, ◌∙◌, ap, subst, le_refl, arith}
use Rattle.std.specs.Prelude.{Contains, IfSome}
use Rattle.std.specs.List.{list_any}
use Rattle.std.proofs.Math.Logic.{∥∥₁_map}
use Rattle.std.proofs.lemmas.Bool.Decides.{nat_tests}
use Rattle.std.proofs.lemmas.List.{take-append-drop}
use Rattle.std.proofs.lemmas.List.Elements.{All-weaker, Contains-append_cases, Contains-append_right}
use Rattle.mas_types.specs.declared.answers.Closing.{Closing}
use Rattle.mas_types.specs.declared.ids.Dev.{Dev}
use Rattle.mas_types.specs.declared.ids.Dev.TheVariants.{Ckpt1, Ckpt2, Spool}
use Rattle.mas_types.specs.declared.ids.GroupNo.{GroupNo}
use Rattle.mas_types.specs.declared.ids.MemberId.{MemberId}
use Rattle.mas_types.specs.declared.jobs.Text.{Text}
use Rattle.mas_types.specs.declared.journals.Batch.{Batch}
use Rattle.mas_types.specs.declared.journals.Entry.{Entry}
use Rattle.mas_types.specs.declared.journals.Fate.{Fate}
use Rattle.mas_types.specs.declared.journals.Fate.TheVariants.{Kept, Dropped, Flying}
use Rattle.mas_types.specs.declared.journals.Journal.{Journal}
use Rattle.mas_types.specs.declared.queues.Queue.{Queue}
use Rattle.mas_types.specs.declared.queues.Thing.TheVariants.{Deck, Output}
use Rattle.mas_types.specs.Closings.{closing_line}
use Rattle.mas_types.specs.Journal.{entries_of, flying_at, is_flying, is_flying_at, is_kept, is_kept_by, kept_at}
use Rattle.spool_plant.specs.declared.plant.Part.TheVariants.{Disk as DiskPart}
use Rattle.spool_plant.specs.View.{View, World, Disk, Line, LeavesOnly, disk_at, disk_now}
use Rattle.spool_plant.specs.Acts.{Goes, top}
use Rattle.track_groups.specs.Places.{groups_of}
use Rattle.spool_volumes.specs.Volumes.{Volumes, volume_of}
use Rattle.ckpt_copy.specs.Moments.{either_way}
use Rattle.ckpt_copy.specs.Pages.{level}
use Rattle.ckpt_form.specs.Form.{form_reads}
use Rattle.duplex_pair.specs.Finds.{best}
use Rattle.mas_complex.specs.Crash.{IsLeft, IsReadBy, is_good, ReadsAtLevel, ReadsUpTo, left_at, read_left}
use Rattle.mas_complex.specs.Headline.{AreAlwaysAlike, AreLevelsLow, AreTextsLeft, AreToldKept, FoundFor, HasGood, IsCrashSafe, added, whole}
use Rattle.mas_complex.specs.Journals.{batches_kept, has_step, kept}
use Rattle.mas_complex.specs.Meaning.{StandFor, run}
use Rattle.mas_complex.specs.Paper.{IsOnPaper, PaperKept, SamePapers}
use Rattle.mas_complex.specs.Renewals.{no_renewals}
use Rattle.mas_complex.specs.Texts.{GivesTexts, IsReadUnless, lost_now}
use Rattle.mas_complex.proofs.Fates.{kept_is, left_below}
use Rattle.mas_complex.proofs.Papers.{line_past, on_same}
use Rattle.mas_complex.proofs.Basics.{passes_of}
use Rattle.mas_run.specs.Cuts.{AreBatched, IsBatched}
use Rattle.member_node.specs.Calls.{console_now}
use Rattle.paper_laws.specs.Paper.{AreMarkedLinesOn}
use Rattle.run_turns.specs.Scenes.{Batched}
use Rattle.run_turns.specs.Givens.{Given, given_first}
use Rattle.script_lang.specs.declared.types.Step.{Step}
use Rattle.mas_run.specs.Settling.{settle, with_found}
use Rattle.mas_run.specs.LinesAt.{played_at}
use Rattle.mas_run.specs.Passed.{ArePassed, Here, There, here_after, line_of}
use Rattle.mas_run.specs.Runs.{HavePassed, LinesBegun, LinesEnded, NonePassed, starts, stops}
use Rattle.run_opening.specs.Runs.{IsSafe}
use Rattle.mas_run.proofs.PassedLemmas.{by_going}

-- BATCHES BEGAN, and ended unless they are in flight, by a moment

pub record IsOver (b : Batch) (now : ℕ) : Type 0 where
  pub first : b.first ≤ now
  pub last : is_flying b.fate ≡ false → b.last ≤ now

abbrev pub AreOver : List Batch → ℕ → Type 0
AreOver [] now = Unit {0}
AreOver (b ∷ bs) now = IsOver b now × AreOver bs now

over_later : (b : Batch) (now later : ℕ) → now ≤ later → IsOver b now → IsOver b later
over_later b now later le is = record { first = omega (arith, le, is.first); last = λ not. omega (arith, le, is.last not) }

over_append : (bs cs : List Batch) (now : ℕ) → AreOver bs now → AreOver cs now → AreOver (bs ++ cs) now
over_append [] cs now one two = two
over_append (b ∷ bs) cs now one two = (one.0, over_append bs cs now one.1 two)

over_found : (found : Fate) (at now later : ℕ) (b : Batch) → now ≤ later → at ≤ later → IsOver b now → IsOver (with_found found at b) later
over_found Kept at now later b le ge is = record { first = omega (arith, le, is.first); last = λ not. ge }
over_found Dropped at now later b le ge is = record { first = omega (arith, le, is.first); last = λ not. ge }
over_found Flying at now later b le ge is = over_later b now later le is

over_settled : (found : Fate) (at now later : ℕ) (bs : List Batch) → now ≤ later → at ≤ later → AreOver bs now → AreOver (settle found at bs) later
over_settled found at now later [] le ge are = tt
over_settled found at now later (b ∷ bs) le ge are = (one (is_flying b.fate), over_settled found at now later bs le ge are.1) where
  one : (flies : Bool) → IsOver (if flies then with_found found at b else b) later
  one true = over_found found at now later b le ge are.0
  one false = over_later b now later le are.0

over_batched : (f : Fate) (by : MemberId) (x : Batched) (from now : ℕ) (b : Batch) → IsBatched f by x from now b → IsOver b now
over_batched Kept by x from now b is = record { first = omega (arith, is.moments.1, is.moments.2); last = λ not. is.moments.2 }
over_batched Flying by x from now b is = record { first = is.moments.1; last = λ not. absurd (flies (is_flying b.fate) not (ap is_flying is.flies)) } where
  flies : (v : Bool) → v ≡ false → v ≡ true → ⊥
  flies v p q = absurd (cc)
over_batched Dropped by x from now b is = absurd is

over_own : (by : MemberId) (from now : ℕ) (xs : List Batched) (bs : List Batch) → AreBatched by from now xs bs → AreOver bs now
over_own by from now [] [] are = tt
over_own by from now [] (b ∷ bs) are = absurd are
over_own by from now (x ∷ xs) [] are = absurd are
over_own by from now (x ∷ xs) (b ∷ bs) are = (over_batched x.fate by x from now b are.0, over_own by b.last now xs bs are.1)

module _ (told : Type 0) where
  pub passed_over : (h : Here) (gs : List Given) (steps : List Step) (many : ℕ) (end : There) → ArePassed told h gs steps many end → AreOver h.batches h.view.now → AreOver end.batches end.view.now
  passed_over h gs [] many end p before = subst (λ (n : ℕ). AreOver end.batches n) (sym (ap (λ (v : View). v.now) p.1)) (subst (λ (bs : List Batch). AreOver bs h.view.now) (sym p.0) before)
  passed_over h gs (step ∷ steps) many end (there, more, is, next, rest) before =
      let l = line_of h (given_first gs) step in
      let p = played_at l in
      let here : AreOver there.batches there.view.now = subst (λ (bs : List Batch). AreOver bs there.view.now) (sym next.batches)
      (over_append (settle p.outcome.found next.at h.batches) next.own there.view.now
      (over_settled p.outcome.found next.at h.view.now there.view.now h.batches next.passed.goes.later next.moment.1 before)
      (over_own step.by h.view.now there.view.now p.outcome.batches next.own next.passed.batches)) in
      by_going p.goes_on (λ b. AreOver end.batches end.view.now) rest
      (λ on m. passed_over (here_after h (given_first gs) step there) (drop 1 gs) steps more end m.1 here)
      (λ off e. subst (λ (x : There). AreOver x.batches x.view.now) (sym e.0) here)

  -- the lines of a run
  pub lines_over : (b : LinesBegun) (e : LinesEnded) → b.front ≡ [] → NonePassed b e ⊎ HavePassed told b e → AreOver e.batches e.view.now
  lines_over b e front passed = ⊎_elim
      (λ none. subst (λ (bs : List Batch). AreOver bs e.view.now) (sym none.empty) tt)
      (λ have. subst (λ (bs : List Batch). AreOver (bs ++ e.batches) e.view.now) front
      (passed_over (starts b) have.given b.steps e.many (stops b e have.result) have.passed (subst (λ (bs : List Batch). AreOver bs b.view.now) (sym front) tt)))
      passed

-- WHAT IS KEPT AND IN FLIGHT from then on

same_kept : (f : Fate) (last now t : ℕ) → now ≤ t → (is_flying f ≡ false → last ≤ now) → (is_kept f && nat_le last t) ≡ (is_kept f && nat_le last now)
same_kept Kept last now t le over =
    let so : last ≤ now = over refl in
    let one : nat_le last t ≡ true = grind (arith, nat_tests) in
    let two : nat_le last now ≡ true = grind (arith, nat_tests) in
    one ∙ sym two
same_kept Dropped last now t le over = refl
same_kept Flying last now t le over = refl

not_before : (last now t : ℕ) → now ≤ t → last ≤ now → nat_lt t last ≡ nat_lt now last
not_before last now t le over =
    let one : nat_lt t last ≡ false = grind (arith, nat_tests) in
    let two : nat_lt now last ≡ false = grind (arith, nat_tests) in
    one ∙ sym two

same_flight : (f : Fate) (first last now t : ℕ) → now ≤ t → first ≤ now → (is_flying f ≡ false → last ≤ now)
    → (nat_le first t && (nat_lt t last || is_flying f)) ≡ (nat_le first now && (nat_lt now last || is_flying f))
same_flight f first last now t le began over =
    let one : nat_le first t ≡ true = grind (arith, nat_tests) in
    let two : nat_le first now ≡ true = grind (arith, nat_tests) in
    ap (λ (v : Bool). v && (nat_lt t last || is_flying f)) one ∙ inner f over ∙ sym (ap (λ (v : Bool). v && (nat_lt now last || is_flying f)) two)
  where
    or_true : (v w : Bool) → (v || true) ≡ (w || true)
    or_true true true = refl
    or_true true false = refl
    or_true false true = refl
    or_true false false = refl

    inner : (g : Fate) → (is_flying g ≡ false → last ≤ now) → (nat_lt t last || is_flying g) ≡ (nat_lt now last || is_flying g)
    inner Kept so = ap (λ (v : Bool). v || false) (not_before last now t le (so refl))
    inner Dropped so = ap (λ (v : Bool). v || false) (not_before last now t le (so refl))
    inner Flying so = or_true (nat_lt t last) (nat_lt now last)

first_kept : (p q : Bool) (b : Batch) (bs cs : List Batch) → p ≡ q → entries_of bs ≡ entries_of cs
    → entries_of (if p then b ∷ bs else bs) ≡ entries_of (if q then b ∷ cs else cs)
first_kept true true b bs cs e rest = ap (λ (es : List Entry). b.entries ++ es) rest
first_kept false false b bs cs e rest = rest
first_kept true false b bs cs e rest = absurd (cc)
first_kept false true b bs cs e rest = absurd (cc)

kept_on : (bs : List Batch) (now t : ℕ) → now ≤ t → AreOver bs now → entries_of (filter (is_kept_by t) bs) ≡ entries_of (filter (is_kept_by now) bs)
kept_on [] now t le are = refl
kept_on (b ∷ bs) now t le are = first_kept (is_kept_by t b) (is_kept_by now b) b (filter (is_kept_by t) bs) (filter (is_kept_by now) bs) (same_kept b.fate b.last now t le are.0.last) (kept_on bs now t le are.1)

flying_on : (bs : List Batch) (now t : ℕ) → now ≤ t → AreOver bs now → entries_of (filter (is_flying_at t) bs) ≡ entries_of (filter (is_flying_at now) bs)
flying_on [] now t le are = refl
flying_on (b ∷ bs) now t le are = first_kept (is_flying_at t b) (is_flying_at now b) b (filter (is_flying_at t) bs) (filter (is_flying_at now) bs) (same_flight b.fate b.first b.last now t le are.0.first are.0.last) (flying_on bs now t le are.1)

-- LISTS

contains_drop : (k : ℕ) (xs ys : List Line) (y : Line) → Contains (drop k (xs ++ ys)) y → Contains (drop k xs) y ⊎ Contains ys y
contains_drop zero xs ys y h = Contains-append_cases xs ys y h
contains_drop (suc k) [] ys y h = inr (subst (λ (l : List Line). Contains l y) (take-append-drop (suc k) ys) (Contains-append_right (take (suc k) ys) (drop (suc k) ys) y h))
contains_drop (suc k) (x ∷ xs) ys y h = contains_drop k xs ys y h

any_same : (p q : GroupNo → Bool) → ((g : GroupNo) → p g ≡ q g) → (gs : List GroupNo) → list_any p gs ≡ list_any q gs
any_same p q same [] = refl
any_same p q same (g ∷ gs) = ap (λ (v : Bool). v || list_any p gs) (same g) ∙ ap (λ (v : Bool). q g || v) (any_same p q same gs)

read_unless : (one two : ℕ → Bool) → ((n : ℕ) → two n ≡ one n) → (volumes : Volumes) (per : ℕ) (text : Text) (groups : List GroupNo) → IsReadUnless one volumes per text groups → IsReadUnless two volumes per text groups
read_unless one two same volumes per text groups h none = h (any_same (λ (g : GroupNo). one (volume_of per g)) (λ (g : GroupNo). two (volume_of per g)) (λ g. sym (same (volume_of per g))) groups ∙ none)

gives_texts_as : (one two : ℕ → Bool) → ((n : ℕ) → two n ≡ one n) → (volumes : Volumes) (per : ℕ) (Q : Queue) → GivesTexts one volumes per Q → GivesTexts two volumes per Q
gives_texts_as one two same volumes per Q h = record {
  decks = λ k d lt. read_unless one two same volumes per (get_or Q.jobs k d).text (groups_of (Deck (get_or Q.jobs k d).number) Q.owners) (h.decks k d lt);
  outputs = λ k d lt. read_unless one two same volumes per (get_or Q.outputs k d).text (groups_of (Output (get_or Q.outputs k d).job (get_or Q.outputs k d).index) Q.owners) (h.outputs k d lt);
}

-- ONE LINE MORE

module _ (base : Queue) (J : Journal) (since : ℕ) (v1 v2 : View) (goes : Goes v1 v2) (time : v2.now ≡ v1.now + 1) (low : v2.now < top) (started : since ≤ v1.now)
    (disks : (d : Dev) → disk_now v2 d ≡ disk_now v1 d) (papers : SamePapers v1 v2) (lost : (d : Dev) → v2.lost (DiskPart d) ≡ v1.lost (DiskPart d)) (over : AreOver J.batches v1.now) where
  -- a moment after it is as one before it
  record Same (t : ℕ) : Type 0 where
    pub at : ℕ
    pub from : since ≤ at
    pub le : at ≤ v1.now
    pub left : (d : Dev) → left_at v2 t d ≡ left_at v1 at d
    pub kept : kept_at J t ≡ kept_at J at
    pub flies : flying_at J t ≡ flying_at J at

  same : (t : ℕ) → since ≤ t → t ≤ v2.now → Same t
  same t from to = ⊎_elim
      (λ early. record {
        at = t;
        from = from;
        le = early;
        left = λ d. left_below v2 t d (omega (arith, to, low)) ∙ ap (λ (w : World). w.disk d) (goes.past t early) ∙ sym (left_below v1 t d (omega (arith, to, low)));
        kept = refl;
        flies = refl;
      })
      (λ late.
      let now : t ≡ v2.now = omega (arith, time, late, to) in
      record {
        at = v1.now;
        from = started;
        le = le_refl v1.now;
        left = λ d. left_below v2 t d (omega (arith, to, low)) ∙ ap (λ (n : ℕ). disk_at v2 n d) now ∙ disks d ∙ sym (left_below v1 v1.now d (omega (arith, time, low)));
        kept = kept_on J.batches v1.now t (omega (arith, late)) over;
        flies = flying_on J.batches v1.now t (omega (arith, late)) over;
      })
      (either_way t v1.now)

  both : (t : ℕ) (s : Same t) → kept_at J t ++ flying_at J t ≡ kept_at J s.at ++ flying_at J s.at
  both t s = ap (λ (es : List Entry). es ++ flying_at J t) s.kept ∙ ap (λ (es : List Entry). kept_at J s.at ++ es) s.flies

  crash_on : IsCrashSafe form_reads base J no_renewals since v1 → IsCrashSafe form_reads base J no_renewals since v2
  crash_on h t from to good one two left1 left2 =
      let s = same t from to in
      let first : (is_good false (left_at v1 s.at Ckpt1) || is_good false (left_at v2 t Ckpt2)) ≡ true = ap (λ (d : Disk). is_good false d || is_good false (left_at v2 t Ckpt2)) (sym (s.left Ckpt1)) ∙ good in
      let still : HasGood no_renewals v1 s.at = ap (λ (d : Disk). is_good false (left_at v1 s.at Ckpt1) || is_good false d) (sym (s.left Ckpt2)) ∙ first in
      let q = best (read_left form_reads one) (read_left form_reads two) in
      ⊎_elim
      (λ x. inl (subst (λ (es : List Entry). FoundFor (run base es) q) (sym s.kept) x))
      (λ x. inr (subst (λ (es : List Entry). FoundFor (run base es) q) (sym (both t s)) x))
      (h s.at s.from s.le still one two (subst (λ (d : Disk). IsLeft d one) (s.left Ckpt1) left1) (subst (λ (d : Disk). IsLeft d two) (s.left Ckpt2) left2))

  alike_on : AreAlwaysAlike form_reads base J no_renewals since v1 → AreAlwaysAlike form_reads base J no_renewals since v2
  alike_on h t from to =
      let s = same t from to in
      let a = h s.at s.from s.le in
      record {
        was = a.was;
        coming = a.coming;
        stands = subst (λ (es : List Entry). StandFor (run base es) a.was) (sym s.kept) a.stands;
        comes = subst (λ (es : List Entry). IfSome a.coming (λ (pages : List ℕ). (level pages ≡ level a.was + 1) × StandFor (run base es) pages)) (sym (both t s)) a.comes;
        none = λ e. a.none (sym s.flies ∙ e);
        first = subst (λ (d : Disk). LeavesOnly d (λ image. IsReadBy false a.was a.coming (form_reads image))) (sym (s.left Ckpt1)) a.first;
        second = subst (λ (d : Disk). LeavesOnly d (λ image. IsReadBy false a.was a.coming (form_reads image))) (sym (s.left Ckpt2)) a.second;
      }

  texts_on : AreTextsLeft base since J v1 → AreTextsLeft base since J v2
  texts_on h t from to volumes left =
      let s = same t from to in
      let per = base.config.groups in
      let gives = h s.at s.from s.le volumes (λ n. subst (λ (d : Disk). IsLeft d (volumes n)) (s.left (Spool n)) (left n)) in
      let as_now = λ (es : List Entry). gives_texts_as (lost_now v1) (lost_now v2) (λ n. lost (Spool n)) volumes per (run base es) in (
        subst (λ (es : List Entry). GivesTexts (lost_now v2) volumes per (run base es)) (sym s.kept) (as_now (kept_at J s.at) gives.0),
        subst (λ (es : List Entry). GivesTexts (lost_now v2) volumes per (run base es)) (sym (both t s)) (as_now (kept_at J s.at ++ flying_at J s.at) gives.1),
      )

  told_on : (extra : List Line) → console_now v2 ≡ console_now v1 ++ extra → ((by : MemberId) (at : ℕ) (end : Closing) → Contains extra (whole (closing_line by at end)) → ⊥) → AreToldKept J since v1 → AreToldKept J since v2
  told_on extra console quiet h t from to by at end telling there =
      let first : (v2.world since).console ≡ (v1.world since).console = ap (λ (w : World). w.console) (goes.past since started) in
      let k = length (v1.world since).console in
      ⊎_elim
      (λ early.
      let there' : Contains (added v1 since t) (whole (closing_line by at end)) = subst (λ (ls : List Line). Contains (drop k ls) (whole (closing_line by at end))) (ap (λ (w : World). w.console) (goes.past t early))
      (subst (λ (ls : List Line). Contains (drop (length ls) (v2.world t).console) (whole (closing_line by at end))) first there) in
      h t from early by at end telling there')
      (λ late.
      let now : t ≡ v2.now = omega (arith, time, late, to) in
      let lines : (v2.world t).console ≡ console_now v1 ++ extra = ap (λ (n : ℕ). (v2.world n).console) now ∙ console in
      let there' : Contains (drop k (console_now v1 ++ extra)) (whole (closing_line by at end)) = subst (λ (ls : List Line). Contains (drop k ls) (whole (closing_line by at end))) lines
      (subst (λ (ls : List Line). Contains (drop (length ls) (v2.world t).console) (whole (closing_line by at end))) first there) in
      ⊎_elim
      (λ was. All-weaker (λ (b : Batch). has_step by at b.entries ≡ true → (b.fate ≡ Kept) × (b.last ≤ v1.now)) (λ (b : Batch). has_step by at b.entries ≡ true → (b.fate ≡ Kept) × (b.last ≤ t))
      (λ b before has. let was_kept = before has in (was_kept.0, omega (arith, was_kept.1, late))) J.batches (h v1.now started (le_refl v1.now) by at end telling was))
      (λ new. absurd (quiet by at end new))
      (contains_drop k (console_now v1) extra (whole (closing_line by at end)) there'))
      (either_way t v1.now)

  levels_on : AreLevelsLow form_reads since J no_renewals v1 → AreLevelsLow form_reads since J no_renewals v2
  levels_on h =
      let past : (d : Dev) → disk_at v2 since d ≡ disk_at v1 since d = λ d. ap (λ (w : World). w.disk d) (goes.past since started) in
      record {
        first_level = h.first_level;
        first_order = h.first_order;
        first1 = λ lt. subst (λ (d : Disk). ReadsAtLevel form_reads h.first_level h.first_order d) (sym (past Ckpt1)) (h.first1 lt);
        first2 = λ lt. subst (λ (d : Disk). ReadsAtLevel form_reads h.first_level h.first_order d) (sym (past Ckpt2)) (h.first2 lt);
        most1 = λ t from to whole. let s = same t from to in subst (λ (d : Disk). ReadsUpTo form_reads h.first_level h.first_order (h.first_level + batches_kept J.batches + 1) d) (sym (s.left Ckpt1)) (h.most1 s.at s.from s.le refl);
        most2 = λ t from to whole. let s = same t from to in subst (λ (d : Disk). ReadsUpTo form_reads h.first_level h.first_order (h.first_level + batches_kept J.batches + 1) d) (sym (s.left Ckpt2)) (h.most2 s.at s.from s.le refl);
      }

  paper_on : PaperKept base since J.batches v1 → PaperKept base since J.batches v2
  paper_on h = record {
    given = h.given;
    marks = λ t from to. ⊎_elim
        (λ early. subst (λ (w : World). AreMarkedLinesOn (IsOnPaper w.paper) base (kept J.batches t)) (sym (goes.past t early)) (h.marks t from early))
        (λ late.
        let le : v1.now ≤ t = omega (arith, late) in
        let so : kept J.batches t ≡ kept J.batches v1.now = kept_is J.batches t ∙ kept_on J.batches v1.now t le over ∙ sym (kept_is J.batches v1.now) in
        λ before after e n i at count o are command answered found untouched line above below.
        on_same (v1.world v1.now).paper (v2.world t).paper (papers t le to) n i line o.text
        (h.marks v1.now started (le_refl v1.now) before after e n i at count o (sym so ∙ are) command answered found untouched line above below))
        (either_way t v1.now);
    lines = λ t from lt m. ⊎_elim
        (λ after. inl (papers (t + 1) (omega (arith, after)) (omega (arith, lt)) m.0 ∙ sym (papers t after (omega (arith, lt)) m.0)))
        (λ before. line_past base since J.batches v1 v2 (passes_of v1 v2 goes) m t from before (h.lines t from before m))
        (either_way v1.now t);
  }

  pub safe_on : (tells : Type 0) → tells → (extra : List Line) → console_now v2 ≡ console_now v1 ++ extra → ((by : MemberId) (at : ℕ) (end : Closing) → Contains extra (whole (closing_line by at end)) → ⊥) → IsSafe tells base J no_renewals since v1 → IsSafe tells base J no_renewals since v2
  safe_on tells told extra console quiet h = record {
    crash = λ t. ∥∥₁_map (h.crash t) crash_on;
    alike = λ t. ∥∥₁_map (h.alike t) alike_on;
    texts = λ t. ∥∥₁_map (h.texts t) texts_on;
    told = λ t. told_on extra console quiet (h.told t);
    paper = λ t. ∥∥₁_map (h.paper t) paper_on;
    levels = λ t. ∥∥₁_map (h.levels t) levels_on;
    few = h.few;
  }
