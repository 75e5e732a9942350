-- Copies that are left alone aren't both lost.
use Rattle.mas_run.proofs.Names.{Admission, All, All-head, All-tail, AreLeftAlone, Ask, Book, Bool, CannotStop, Ckpt1, Ckpt2, Comes, Config, Cut, CutsAs, Dev, Disk, Ends, Err, Given, HavePassed, Here, IsBy, IsLeftAlone, IsNext, IsNotStarted, IsRun, IsStep, LineAt, LinesBegun, LinesEnded, List, MemberId, NodeNo, None, Ok, Option, Outcome, Page, Play, Played, Proceeds, Result, Rose, RunResult, Scene, Script, Some, Step, Stops, TakeoverCame, TakesNone, There, View, WasLost, [], admitted, admitted_at, and_from, ap, arith, as_found, ask_with, begins_at, comes, cut_in, disk_now, drop, eq-eqb, failed, false, form_reads, form_room, given_first, has_begun, here_after, if◌then◌else◌, inl, inr, is_member, is_stopped, is_takeover, is_up, left_by, left_keeps, line_of, line_with, loses_after, loses_then, next, next as next_moment, no, other, outcomes_if, outcomes_with, play_with, refl, resets, resets_in, run, silent, some_of, standing, starts, stop, stops, subst, sym, tried_keeps, true, ℕ, ⊎_elim, ◌+◌, ◌-◌, ◌==◌, ◌∙◌, ◌∷◌, ◌≡◌, ◌≢◌, ◌≤◌, ◌⊎◌, by_test, begun_after, ended_with, of_if, Stop, StopIn, Lose}
use Rattle.script_lang.specs.declared.types.Run.{Run}
use Rattle.script_input.specs.Script.{read_as}
use Rattle.script_laws.specs.Laws.{ReadsScripts}
use Rattle.script_laws.specs.Whole.{AreLinesOf, Configured, DeckLines, IsScriptOf, NoLine, Plain, SkippedLine, StepLine}
use Rattle.std.specs.Str.{bytes_eq}
use Rattle.std.proofs.lemmas.Slice.Eq.{bytes_eq-Decides}
use Rattle.ckpt_copy.specs.Pages.{bytes_of, level}
use Rattle.mas_complex.specs.Fits.{are_same, fits}
use Rattle.run_opening.specs.Runs.{IsFoundQueue}
use Rattle.warm_start.specs.Starting.{Mark, IsFound, IsSeen, IsUnfit, NoneOrFailed}
use Rattle.start_choice.specs.Usable.{HaveSize, IsUsable}
use Rattle.member_resets.proofs.BookLemmas.{SameStop, other_set, same_calls}
use Rattle.run_turns.proofs.One.{new_up}
use Rattle.mas_run.proofs.EachLemmas.{each_line}
use Rattle.mas_run.proofs.PassedLemmas.{device_is, silent_if}
use Rattle.mas_types.specs.declared.answers.Status.TheVariants as status

-- A SCRIPT that is read for a run that only formats has no steps: no line of a step may stand in it

module _ (run : Run) (only : run.only ≡ true) where
  none_in : {lines : List (List ℕ)} {steps : List Step} → AreLinesOf run lines steps → steps ≡ []
  none_in NoLine = refl
  none_in (SkippedLine line lines steps skipped are) = none_in are
  none_in (StepLine line lines step steps is deck are) = absurd (no true refl (sym only ∙ is.only))
  none_in (DeckLines line cards lines m steps is cards_are are) = absurd (no true refl (sym only ∙ is.only))

  none_of : {lines : List (List ℕ)} {script : Script} → IsScriptOf run lines script → script.steps ≡ []
  none_of (Plain lines steps are) = none_in are
  none_of (Configured front line lines setup steps skipped config are) = none_in are

  pub none_read : ReadsScripts → (bytes : List ℕ) (script : Script) → read_as run bytes ≡ Ok script → script.steps ≡ []
  none_read reads bytes script e = none_of ((reads run bytes script).0 e).2

-- Copies that are left alone aren't both lost.

-- the member of a line was stopped where it was cut
abbrev StopsIn : Option Cut → Type 0
StopsIn None = ⊥
StopsIn (Some cut) = cut.cause ≡ Stops

-- a line stops its member
abbrev StopsBy : Ask → Option Cut → Type 0
StopsBy what cut = (what ≡ Stop) ⊎ StopsIn (cut_in what cut)

module _ (by k : MemberId) where
  -- a member is stopped exactly if it was
  abbrev Same : Book → Book → Type 0
  Same b c = SameStop by k b c

  -- A LINE

  line_stops : (S : Scene) (at : ℕ) (g : Given) (what : Ask) → (StopsBy what g.sight.cut → (k.0 - 1 ≢ by.0 - 1)) → Same S.book (ask_with S by at g what).next.book
  line_stops S at g Stop apart = of_if (λ (p : Played). Same S.book p.next.book) (is_up S by) (silent _) (silent S) (λ _. other_set by k (apart (inl refl)) S.book (record (standing S.book by) { stopped = true })) (λ _. refl)
  line_stops S at g (StopIn what n) apart = of_if (λ (p : Played). Same S.book p.next.book) (is_up S by) (silent _) (silent S) (λ _. refl) (λ _. refl)
  line_stops S at g (Lose dev) apart = refl
  line_stops S at g another apart =
      let play_same : (play : Play) (cut : Option Cut) → (StopsIn cut → (k.0 - 1 ≢ by.0 - 1)) → Same play.book (left_by by cut play (S.counts by)).book =
      λ play cut apart. left_keeps by (λ (c : Book). Same play.book c) (same_calls by k play.book) cut
      (λ c is why b now. other_set by k (apart (subst StopsIn (sym is) why)) b (record (standing b by) { stopped = true }) ∙ now) play (S.counts by) refl in
      let a = admitted S.queue.config S.book by another in
      play_same (play_with S by a g) g.sight.cut (λ stop. apart (inr stop)) ∙ tried_keeps by (λ (c : Book). Same S.book c) (same_calls by k S.book) a S.book refl

-- NO LOCK IS TAKEN OVER where no line resets another member that a line before it may have stopped

module _ (config : Config) (b : Book) (by : MemberId) where
  takes_by : {what : Ask} {a : Admission} → Comes config b by what a → ((k : MemberId) → resets_in what ≡ Some k → is_stopped b by ≡ false → is_member config k ≡ true → is_stopped b k ≡ false) → is_takeover a ≡ false
  takes_by (TakeoverCame c of up so member down holds) apart = absurd (no true refl (sym down ∙ apart of so up.up member))
  takes_by _ apart = refl

-- A CUT AND A STOP

-- where its member was stopped in it a count of stops rose
stop_rose : (answer : Result (Unit {0}) NodeNo) (by : MemberId) (cut : Option Cut) (x y : View) → CutsAs answer by cut x y → StopsIn cut → Rose (x.stops by.0) (y.stops by.0)
stop_rose answer by None x y so stop = absurd stop
stop_rose (Ok done) by (Some cut) x y so stop = so.2
stop_rose (Err e) by (Some cut) x y so stop = absurd (let both : Stops ≡ Ends = sym stop ∙ so.0 in cc)

-- who is stopped by a line is a member
stops_member : (by : MemberId) (what : Ask) (cut : Option Cut) → IsBy by what → StopsBy what cut → 1 ≤ by.0
stops_member by (Lose dev) cut is (inl same) = absurd (cc)
stops_member by (Lose dev) cut is (inr stop) = absurd stop
stops_member by _ cut is stop = is.0

-- LINES ONE AFTER ANOTHER, in a run whose plant showed `old` before and `new` after it
module _ (old new : View) where
  -- a line that can't have stopped a member stops another one, or nobody
  stops_other : (k : MemberId) (s : Step) (answer : Result (Unit {0}) NodeNo) (cut : Option Cut) (x y : View) → 1 ≤ k.0 → IsBy s.by s.what → CannotStop old new k s
      → CutsAs answer s.by (cut_in s.what cut) x y → old.stops s.by.0 ≤ x.stops s.by.0 → y.stops s.by.0 ≤ new.stops s.by.0 → StopsBy s.what cut → k.0 - 1 ≢ s.by.0 - 1
  stops_other k s answer cut x y some by cannot so since until stop same =
      let one : 1 ≤ s.by.0 = stops_member s.by s.what cut by stop in
      let number : s.by.0 ≡ k.0 = omega (arith, some, one, same) in
      let rise : StopsIn (cut_in s.what cut) → Rose (old.stops s.by.0) (new.stops s.by.0) = λ halted. let rose = stop_rose answer s.by (cut_in s.what cut) x y so halted in omega (arith, since, until, rose) in
      ⊎_elim (λ other. other (ap (λ (i : ℕ). let m : MemberId = record { 0 = i } in m) number))
      (λ spared. ⊎_elim spared.0 (λ halted. spared.1 (subst (λ (n : ℕ). Rose (old.stops n) (new.stops n)) number (rise halted))) stop) cannot

  -- what is known before a line: of those before it, and of the book, in which who can't have been stopped by them isn't
  abbrev AreSpared : List Step → Here → Type 0
  AreSpared steps h = (before : List Step) × TakesNone old new before steps × ((k : MemberId) → 1 ≤ k.0 → All (CannotStop old new k) before → is_stopped h.scene.book k ≡ false) × All IsStep steps × ((m : ℕ) → old.stops m ≤ h.view.stops m)

  line_takes : (told : Type 0) (h : Here) (g : Given) (s : Step) (steps : List Step) (there : There) → AreSpared (s ∷ steps) h → IsNext told h g s there → Proceeds there.view new
      → (is_takeover (admitted_at (line_of h g s)) ≡ false) × AreSpared steps (here_after h g s there)
  line_takes told h g s steps there (before, takes, up, fits, since) next goes =
      let S = h.scene in (
        takes_by S.queue.config S.book s.by (comes S.queue.config S.book s.by s.what)
            (λ k resets free is. ⊎_elim (λ own. ap (λ (m : MemberId). is_stopped S.book m) own ∙ free) (λ none. up k (some_of S.queue.config k is) none) (takes.0 k resets)),
        (
          s ∷ before,
          takes.1,
          (λ k some none.
              line_stops s.by k S h.number g s.what
              (stops_other k s there.answer g.sight.cut h.view there.view some (All-head IsStep s steps fits).by (All-head (CannotStop old new k) s before none) next.passed.cut (since s.by.0) (goes.stops s.by.0))
              ∙ up k some (All-tail (CannotStop old new k) s before none)),
          All-tail IsStep s steps fits,
          (λ m. omega (arith, since m, next.passed.goes.stops m)),
        ),
      )

-- LINES THAT DON'T LOSE A COPY

module _ (d : Dev) (n : ℕ) where
  ask_loses : (S : Scene) (by : MemberId) (at : ℕ) (g : Given) (what : Ask) → what ≢ Lose d → loses_then (ask_with S by at g what).outcome.loses d n ≡ n
  ask_loses S by at g (Lose dev) other = ap (λ (t : Bool). if t then next_moment n else n) (device_is d dev (λ same. other (ap (λ (x : Dev). Lose x) (sym same))))
  ask_loses S by at g Stop other = ap (λ (p : Played). loses_then p.outcome.loses d n) (silent_if (is_up S by) _ _)
  ask_loses S by at g (StopIn fuse k) other = ap (λ (p : Played). loses_then p.outcome.loses d n) (silent_if (is_up S by) _ _)
  ask_loses S by at g _ other = refl

by_goes : (d : Dev) (n : ℕ) (os : List Outcome) (t : Bool) → loses_after d os n ≡ n → loses_after d (outcomes_if t os) n ≡ n
by_goes d n os true more = more
by_goes d n os false more = refl

lines_lose : (d : Dev) (S : Scene) (at : ℕ) (gs : List Given) (steps : List Step) (n : ℕ) → All (λ (s : Step). s.what ≢ Lose d) steps
    → loses_after d (outcomes_with S at gs steps) n ≡ n
lines_lose d S at gs [] n others = refl
lines_lose d S at gs (s ∷ steps) n others =
    let p = line_with S at (given_first gs) s in
    let os = outcomes_with p.next (at + 1) (drop 1 gs) steps in
    ap (loses_after d (outcomes_if p.goes_on os)) (ask_loses d n S s.by at (given_first gs) s.what (All-head (λ (x : Step). x.what ≢ Lose d) s steps others))
    ∙ by_goes d n os p.goes_on (lines_lose d p.next (at + 1) (drop 1 gs) steps n (All-tail (λ (x : Step). x.what ≢ Lose d) s steps others))

-- PAGES FIT THEMSELVES

same_as_self : (xs : List Page) → are_same xs xs ≡ true
same_as_self [] = refl
same_as_self (x ∷ xs) = and_from (bytes_eq x.0 x.0) (are_same xs xs) ((bytes_eq-Decides x.0 x.0).1 refl) (same_as_self xs)

-- WHAT A START FINDS: pages that a copy has which wasn't lost, and which the start doesn't lose

module _ (dev : Dev) (old new : View) (mark : Mark) where
  abbrev Reads : List ℕ → Type 0
  Reads found = (old.lost (Disk dev) ≡ false) × (form_reads (disk_now old dev).bytes ≡ Some found)

  seen_reads : (found : List ℕ) (seen : Option (List ℕ)) → IsSeen form_reads dev old new mark seen → seen ≡ Some found → Reads found
  seen_reads found None is same = absurd (cc)
  seen_reads found (Some bytes) is same = (is.0, is.1 ∙ same)

  module _ (room : ℕ) (pages : List Page) (sized : HaveSize pages) (usable : IsUsable pages) (failed : Rose (old.faults (Disk dev)) (new.faults (Disk dev)) → ⊥) (read : form_reads (disk_now old dev).bytes ≡ Some (bytes_of pages)) where
    unfit_seen : (seen : Option (List ℕ)) → IsSeen form_reads dev old new mark seen → ((own : List Page) → seen ≡ Some (bytes_of own) → HaveSize own → IsUsable own → fits pages own room ≡ false) → ⊥
    unfit_seen None (inl gone) unfit = failed gone.failed
    unfit_seen None (inr none) unfit = let e : Some (bytes_of pages) ≡ None = sym read ∙ none in absurd (cc)
    unfit_seen (Some bytes) is unfit = let fits_self : (pages : List Page) (room : ℕ) → fits pages pages room ≡ true = λ pages room. let e : (level (bytes_of pages) == level (bytes_of pages)) ≡ true = eq-eqb (level (bytes_of pages)) (level (bytes_of pages)) refl in rw e (same_as_self pages) in
        no (fits pages pages room) (fits_self pages room) (unfit pages (sym is.1 ∙ read) sized usable)

found_reads : (old new : View) (mark : Mark) (found : List ℕ) → IsFound form_reads old new mark found → Reads Ckpt1 old new mark found ⊎ Reads Ckpt2 old new mark found
found_reads old new mark found f = ⊎_elim (λ b. inl (seen_reads Ckpt1 old new mark found f.one f.seen1 b.0)) (λ b. inr (seen_reads Ckpt2 old new mark found f.two f.seen2 b.0)) f.best

-- BOTH LOST

-- a copy that was left alone isn't lost where no call lost it
unlost : (dev : Dev) (steps : List Step) (old new : View) → IsLeftAlone dev steps old new → new.loses dev ≡ old.loses dev → WasLost dev old new → ⊥
unlost dev steps old new alone same lost = ⊎_elim alone.failed (λ rose. let few = alone.counted in omega (arith, same, few, rose)) lost

-- a copy that was left alone is there for a warm run
unstarted_alone : (steps : List Step) (old new : View) → AreLeftAlone steps old new → NoneOrFailed old new → ⊥
unstarted_alone steps old new (inl (one, (inl two))) failed = ⊎_elim (λ both. no (old.lost (Disk Ckpt1)) both.0 one.there) (λ some. ⊎_elim (λ f. one.failed f.1) (λ f. two.failed f.1) some) failed
unstarted_alone steps old new (inl (one, (inr lost))) failed = ⊎_elim (λ both. no (old.lost (Disk Ckpt1)) both.0 one.there) (λ some. ⊎_elim (λ f. one.failed f.1) (λ f. no (old.lost (Disk Ckpt2)) lost f.0) some) failed
unstarted_alone steps old new (inr (two, lost)) failed = ⊎_elim (λ both. no (old.lost (Disk Ckpt2)) both.1 two.there) (λ some. ⊎_elim (λ f. no (old.lost (Disk Ckpt1)) lost f.0) (λ f. two.failed f.1) some) failed

-- in a run no call loses a copy that was left alone, except before the first line
module _ (tells : Type 0) (told : tells) (script : Script) (old : View) (end : RunResult) (fits : All IsStep script.steps) (takes : TakesNone old end.view [] script.steps) where
  abbrev new : View
  new = end.view

  unrisen : (cold : Bool) (r : IsRun cold tells script old end) (d : Dev) → IsLeftAlone d script.steps old new → r.first d ≡ old.loses d → WasLost d old new → ⊥
  unrisen cold r d alone same lost =
      let s = r.steps in
      let b : LinesBegun = begun_after script.steps s.opening s.entry end in
      let e : LinesEnded = ended_with s.many s.rest s.renewals end in
      let counted : new.loses d ≡ s.entry.loses d = ⊎_elim (λ none. ap (λ (v : View). v.loses d) none.still)
      (λ (p : HavePassed (Unit {0}) b e). p.loses_copies tt (each_line (Unit {0}) (λ (l : LineAt). is_takeover (admitted_at l) ≡ false) (AreSpared old new) (stops b e p.result) (line_takes old new (Unit {0})) (starts b) p.given script.steps s.many
      ([], takes, (λ k some none. new_up b.from.config.members b.from.config.hold (k.0 - 1)), fits, s.played.entered.stops) p.passed) d
      ∙ ap (λ (os : List Outcome). loses_after d os (s.entry.loses d)) p.did_is
      ∙ lines_lose d _ 1 p.given script.steps (s.entry.loses d) alone.unasked) (s.played.told told) in
      unlost d script.steps old new alone (counted ∙ s.played.lost_before d ∙ same) lost

  -- the copy that a warm run finds alone has its pages, and stays
  module _ (r : IsRun false tells script old end) where
    abbrev q : IsFoundQueue tells old (as_found r.lost new) end.since r.first end.base
    q = r.begun.queue

    stayed : (dev : Dev) → IsLeftAlone dev script.steps old new → Reads dev old (as_found r.lost new) (begins_at end.since r.first) (bytes_of q.pages)
        → (r.first dev ≡ old.loses dev) ⊎ IsUnfit form_reads dev old (as_found r.lost new) (begins_at end.since r.first) (form_room (disk_now old dev).bytes) q.pages → WasLost dev old new → ⊥
    stayed dev alone reads kept lost = ⊎_elim (λ e. unrisen false r dev alone e lost)
        (λ u. unfit_seen dev old (as_found r.lost new) (begins_at end.since r.first) (form_room (disk_now old dev).bytes) q.pages q.sized (q.tables, q.are) alone.failed reads.1 u.seen u.is u.unfit) kept

    warm_alone : AreLeftAlone script.steps old new → WasLost Ckpt1 old new → WasLost Ckpt2 old new → ⊥
    warm_alone (inl (one, (inl two))) lost1 lost2 = ⊎_elim (λ e. unrisen false r Ckpt1 one e lost1) (λ e. unrisen false r Ckpt2 two e lost2) q.one
    warm_alone (inl (one, (inr gone))) lost1 lost2 =
        ⊎_elim (λ reads. stayed Ckpt1 one reads (q.kept1 told) lost1) (λ reads. no (old.lost (Disk Ckpt2)) gone reads.0) (found_reads old (as_found r.lost new) (begins_at end.since r.first) (bytes_of q.pages) (q.found told))
    warm_alone (inr (two, gone)) lost1 lost2 =
        ⊎_elim (λ reads. no (old.lost (Disk Ckpt1)) gone reads.0) (λ reads. stayed Ckpt2 two reads (q.kept2 told) lost2) (found_reads old (as_found r.lost new) (begins_at end.since r.first) (bytes_of q.pages) (q.found told))

  -- what is said of every run, whether it has begun or not
  pub not_both : (cold : Bool) → AreLeftAlone script.steps old new → (cold ≡ false → has_begun end.base ≡ false → IsNotStarted tells status.BothLost old new) → (cold ≡ true → has_begun end.base ≡ false → (d : Dev) → new.loses d ≡ old.loses d)
      → (has_begun end.base ≡ true → IsRun cold tells script old end) → WasLost Ckpt1 old new → WasLost Ckpt2 old new → ⊥
  not_both true alone unstarted kept run lost1 lost2 = by_test (has_begun end.base)
      (λ e. let r = run e in ⊎_elim (λ a. unrisen true r Ckpt1 a.0 (r.begun.before Ckpt1) lost1) (λ a. unrisen true r Ckpt2 a.0 (r.begun.before Ckpt2) lost2) alone)
      (λ e. ⊎_elim (λ a. unlost Ckpt1 script.steps old new a.0 (kept refl e Ckpt1) lost1) (λ a. unlost Ckpt2 script.steps old new a.0 (kept refl e Ckpt2) lost2) alone)
  not_both false alone unstarted kept run lost1 lost2 =
      by_test (has_begun end.base) (λ e. warm_alone (run e) alone lost1 lost2) (λ e. unstarted_alone script.steps old new alone (unstarted refl e).0.failed)
