-- What stands on paper through acts that print nothing, and while the journal grows.
use Rattle.mas_complex.proofs.Names.{◌≡◌, ℕ, ◌+◌, ◌-◌, ◌≤◌, ◌<◌, ◌⊎◌, inl, inr, true, false, if◌then◌else◌, List, [], ◌∷◌, ◌++◌, length, Option, Some, None, All, refl, subst, sym, ◌∙◌, ap, arith, le_refl, append_assoc, max, Contains, slice_index_or, slice_set, list_any, nat_tests, append-nil, get_or-set_other, length-set, set_past, All-nil, All-cons, All-append, MemberId, JobNo, OutNo, Text, Batch, Entry, Flying, Queue, is_kept, same_member, printed_line, IsSound, Book, is_stopped, IsGiven, View, World, Line, Goes, SamePaper, next, Counts, begins_anew, counts_anew, counts_after, AreAllowed, AreLinesOn, AreMarksOn, IsNextLine, same_member_is, test_cases, fewer, stays_on, marks_stay_on, entries_keep, step, run, kept, flying, kept_all, in_flight, entries_in, AreSettled, IsBegun, Papers, IsOnPaper, SamePapers, Account, account, PaperAt, turned, turned_last, count_from, LineAt, LineFrom, counts_of, ap₂, printed_after, AreGivenIn, KeepsPaper, ◌≢◌, ◌==◌, length-append, get_or-set_same, All-weaker, Contains-append_left, Contains-append_right, is_somebody, after_stop, paper_now, Prints, Said, Rose, top, Act, Done, Failed, ActHalted as Halted, one_more, MayPrint, IsOfOther, printed_by, book_by, IsOfItsMember, Kept, Dropped, is_kept_by, members_most, output_at, none_printed, mark_of, kept_of, no_counts, PaperKept, true≢false, either_way, ⊎_elim, get_or-replicate, get_or_past, length-replicate, list_any_none, and_left as not_both, printed_upto, and_left}
use Rattle.mas_complex.proofs.Basics.{apart_is, Passes, number_is, still_one, of_if, of_other}
use Rattle.mas_complex.proofs.Batches.{account_before, account_fated, kept_all_append, account_now, account_after, turned_append, turned_by, turned_past}
use Rattle.mas_complex.proofs.Fates.{one_kept}
use Rattle.paper_laws.proofs.Printed.{lines_keep}
use Rattle.paper_laws.proofs.Marked.{marks_answer}

-- ENTRIES OF BATCHES

pub given_append : (base : Queue) (js ks : List Batch) → AreGivenIn base js → AreGivenIn base ks → AreGivenIn base (js ++ ks)
given_append base [] ks a b = b
given_append base (x ∷ js) ks a b = (a.0, given_append base js ks a.1 b)

pub given_flight : (base : Queue) (c : Option Batch) → All (IsGiven base) (entries_in c) → AreGivenIn base (in_flight c)
given_flight base None are = tt
given_flight base (Some b) are = (are, tt)

pub given_kept_all : (base : Queue) (js : List Batch) → AreGivenIn base js → All (IsGiven base) (kept_all js)
given_kept_all base [] are = All-nil (IsGiven base)
given_kept_all base (b ∷ js) are = All-append (IsGiven base) (if is_kept b.fate then b.entries else []) (kept_all js) (of_if (All (IsGiven base)) (is_kept b.fate) b.entries [] (λ _. are.0) (λ _. All-nil (IsGiven base))) (given_kept_all base js are.1)

pub allowed_given : (base Q : Queue) (counts : Counts) (es : List Entry) → AreAllowed base Q counts es → All (IsGiven base) es
allowed_given base Q counts [] are = All-nil (IsGiven base)
allowed_given base Q counts (e ∷ es) are = All-cons (IsGiven base) e es are.0.given (allowed_given base (step Q e.by e.command).0 _ es are.1)

given_kept : (base : Queue) (js : List Batch) (t : ℕ) → AreGivenIn base js → All (IsGiven base) (kept js t)
given_kept base [] t are = All-nil (IsGiven base)
given_kept base (b ∷ js) t are = All-append (IsGiven base) (kept_of b t) (kept js t) (of_if (All (IsGiven base)) (is_kept_by t b) b.entries [] (λ _. are.0) (λ _. All-nil (IsGiven base))) (given_kept base js t are.1)

-- LINES ON PAPER

on_more : (p q : Papers) → ((m : ℕ) (l : Line) → Contains (p m) l → Contains (q m) l) → (n : JobNo) (i : OutNo) (line : ℕ) (text : Text) → IsOnPaper p n i line text → IsOnPaper q n i line text
on_more p q more n i line text on = record { lines = on.lines; is = on.is; stands = record { printer = on.stands.printer; there = more on.stands.printer _ on.stands.there } }

pub on_same : (p q : Papers) → ((m : ℕ) → q m ≡ p m) → (n : JobNo) (i : OutNo) (line : ℕ) (text : Text) → IsOnPaper p n i line text → IsOnPaper q n i line text
on_same p q same = on_more p q (λ m l. subst (λ (ls : List Line). Contains ls l) (sym (same m)))

-- what is more on a printer
more_on : (p q : Papers) (m : ℕ) (l : Line) → q m ≡ p m ++ l ∷ [] → ((k : ℕ) → k ≢ m → q k ≡ p k) → (n : JobNo) (i : OutNo) (line : ℕ) (text : Text) → IsOnPaper p n i line text → IsOnPaper q n i line text
more_on p q m l more others = on_more p q (of_other (λ k. (x : Line) → Contains (p k) x → Contains (q k) x) m
    (λ x has. subst (λ (ls : List Line). Contains ls x) (sym more) (Contains-append_left (p m) (l ∷ []) x has)) (λ k ne x. subst (λ (ls : List Line). Contains ls x) (sym (others k ne))))

-- one act that prints nothing
pub same_papers : (old new : View) → Goes old new → new.now ≡ next old.now → SamePaper old new → SamePapers old new
same_papers old new goes time same t from le m = still_one (λ (w : World). w.paper m) old new goes time (same m) t from le

-- what stood on paper at a past moment
module _ (base : Queue) (since : ℕ) (J : List Batch) (old new : View) (goes : Passes old new) where
  paper_past : (m t : ℕ) → t ≤ old.now → (new.world t).paper m ≡ (old.world t).paper m
  paper_past m t le = ap (λ (w : World). w.paper m) (goes.past t le)

  pub line_past : (m : MemberId) (t : ℕ) → since ≤ t → t < old.now → LineAt base J since old t m → LineAt base J since new t m
  line_past m t from lt (inl e) = inl (paper_past m.0 (t + 1) (omega (arith, lt)) ∙ e ∙ sym (paper_past m.0 t (omega (arith, lt))))
  line_past m t from lt (inr p) = inr (record {
    line = p.line;
    more = paper_past m.0 (t + 1) (omega (arith, lt)) ∙ p.more ∙ ap (λ (l : List Line). l ++ p.line ∷ []) (sym (paper_past m.0 t (omega (arith, lt))));
    next = λ whole. subst (λ (n : ℕ). IsNextLine (run base (kept J t)) m n p.line.text) (sym count) (p.next whole);
    torn = λ torn. let some = p.torn torn in omega (arith, some, goes.stops m.0);
  }) where
    count : count_from (turned m J t since) new t m ≡ count_from (turned m J t since) old t m
    count = ap₂ (λ (a b : List Line). length a - length b) (paper_past m.0 t (omega (arith, lt))) (paper_past m.0 (turned m J t since) (omega (arith, lt, turned_by m J t since from)))

  on_paper_past : (t : ℕ) → since ≤ t → t < old.now → PaperAt base since (account J t) old t → PaperAt base since (account J t) new t
  on_paper_past t from lt p = record {
    marks = subst (λ (w : World). AreMarksOn (IsOnPaper w.paper) base (kept J t ++ flying J t)) (sym (goes.past t (omega (arith, lt)))) p.marks;
    lines = λ m. line_past m t from lt (p.lines m);
  }

pub somebody_is : (m : MemberId) → 0 < m.0 → is_somebody m ≡ true
somebody_is m some = grind (arith, nat_tests)

-- what is in flight is none of the member's
pub none_in_flight : (m : MemberId) (c : Option Batch) → IsOfOther c m → IsOfItsMember c → All (λ e. same_member e.by m ≡ false) (entries_in c)
none_in_flight m None apart own = All-nil (λ e. same_member e.by m ≡ false)
none_in_flight m (Some b) apart own = All-weaker (λ (e : Entry). e.by ≡ b.by) (λ e. same_member e.by m ≡ false) (λ e is. rw is (test_cases (b.by.0 == m.0) (same_member b.by m ≡ false) (λ e. absurd (apart (same_member_is b.by m e))) (λ e. e))) b.entries own

-- ACTS that take nothing off the printers

module _ (base : Queue) (since : ℕ) (js : List Batch) (c : Option Batch) (printed : List ℕ) (book : Book) (old new : View) (started : since ≤ old.now) (settled : AreSettled js old.now) (begun : IsBegun c old.now) (passes : Passes old new) (k : KeepsPaper base since js c (printed, book) old) where
  abbrev K : List Entry
  K = kept_all js

  abbrev F : List Entry
  F = entries_in c

  abbrev Old : JobNo → OutNo → ℕ → Text → Type 0
  Old = IsOnPaper (old.world old.now).paper

  abbrev New : JobNo → OutNo → ℕ → Text → Type 0
  New = IsOnPaper (new.world new.now).paper

  -- the moment since which a member counts
  abbrev from_of : MemberId → ℕ
  from_of m = turned_last m (js ++ in_flight c) since

  from_past : (m : MemberId) → (new.world (from_of m)).paper m.0 ≡ (old.world (from_of m)).paper m.0
  from_past m = ap (λ (w : World). w.paper m.0) (passes.past (from_of m) (turned_past m js c old.now since settled begun started))

  acts_on_paper : (printed' : List ℕ) (book' : Book) → ((t : ℕ) → old.now ≤ t → t < new.now → (j : ℕ) → (new.world t).paper j ≡ (old.world old.now).paper j) → ((n : JobNo) (i : OutNo) (line : ℕ) (text : Text) → Old n i line text → New n i line text)
      → ((t : ℕ) → old.now ≤ t → t < new.now → (m : MemberId) → LineFrom base K (from_of m) new t m) → AreLinesOn New base (counts_of printed') K → AreLinesOn New base (counts_of printed') (K ++ F)
      → ((m : MemberId) → m.0 < length printed' → is_stopped book' m ≡ false → length ((new.world new.now).paper m.0) ≡ length ((new.world (from_of m)).paper m.0) + counts_of printed' m) → KeepsPaper base since js c (printed', book') new
  acts_on_paper printed' book' still so lines kept_lines coming_lines counted =
      let past : (t : ℕ) → since ≤ t → t < new.now → PaperAt base since (account (js ++ in_flight c) t) new t = λ t from lt. ⊎_elim
      (λ (h : old.now ≤ t). subst (λ (s : Account). PaperAt base since s new t) (sym (account_now js c old.now t settled begun h))
      (record { marks = marks_stay_on Old (IsOnPaper (new.world t).paper) base (K ++ F) (on_same (old.world old.now).paper (new.world t).paper (still t h lt)) k.marks; lines = lines t h lt }))
      (λ (h : t < old.now). on_paper_past base since (js ++ in_flight c) old new passes t from h (k.past t from h))
      (either_way old.now t) in
      assumption (k, past, marks_stay_on Old New base (K ++ F) so k.marks, kept_lines, coming_lines, counted)

  -- and print nothing, with a book in which nobody who was stopped is up
  module _ (book' : Book) (up : (m : MemberId) → is_stopped book' m ≡ false → is_stopped book m ≡ false) where
    pub passes_on_paper : SamePapers old new → KeepsPaper base since js c (printed, book') new
    passes_on_paper same = acts_on_paper printed book' (λ t from lt. same t from (omega (arith, lt))) so
        (λ t from lt m. inl (same (t + 1) (omega (arith, from)) (omega (arith, lt)) m.0 ∙ sym (same t from (omega (arith, lt)) m.0)))
        (stays_on Old New base (counts_of printed) K so k.kept_lines) (stays_on Old New base (counts_of printed) (K ++ F) so k.coming_lines)
        (λ m few is. rw (same new.now passes.later (le_refl new.now) m.0, from_past m) (k.counted m few (up m is))) where
          so : (n : JobNo) (i : OutNo) (line : ℕ) (text : Text) → Old n i line text → New n i line text
          so = on_same (old.world old.now).paper (new.world new.now).paper (same new.now passes.later (le_refl new.now))

  -- A LINE MORE ON A PRINTER

  module _ (goes : Goes old new) (sound : IsSound base) (m : MemberId) (some : is_somebody m ≡ true) (few : m.0 < length printed) (up : is_stopped book m ≡ false) (apart : IsOfOther c m) (bytes : List ℕ)
      (may : MayPrint base K F m (counts_of printed m) bytes) where
    module _ (l : Line) (time : new.now ≡ old.now + 1) (more : (new.world new.now).paper m.0 ≡ (old.world old.now).paper m.0 ++ l ∷ []) (others : (j : ℕ) → j ≢ m.0 → (new.world new.now).paper j ≡ (old.world old.now).paper j) where
      so : (n : JobNo) (i : OutNo) (line : ℕ) (text : Text) → Old n i line text → New n i line text
      so = more_on (old.world old.now).paper (new.world new.now).paper m.0 l more others

      line_on_paper : (printed' : List ℕ) (book' : Book) → (l.whole ≡ true → l.text ≡ bytes) → (l.whole ≡ false → 0 < new.stops m.0) → AreLinesOn New base (counts_of printed') K → AreLinesOn New base (counts_of printed') (K ++ F)
          → ((j : MemberId) → j.0 < length printed' → is_stopped book' j ≡ false → length ((new.world new.now).paper j.0) ≡ length ((new.world (from_of j)).paper j.0) + counts_of printed' j) → KeepsPaper base since js c (printed', book') new
      line_on_paper printed' book' whole torn = acts_on_paper printed' book'
          (λ t from lt j. let at : t ≡ old.now = omega (arith, from, lt, time) in ap (λ (n : ℕ). (new.world n).paper j) at ∙ past j) so
          (λ t from lt j. let at : t ≡ old.now = omega (arith, from, lt, time) in subst (λ (n : ℕ). LineFrom base K (from_of j) new n j) (sym at) (new_line j))
        where
          past : (j : ℕ) → (new.world old.now).paper j ≡ (old.world old.now).paper j
          past j = ap (λ (w : World). w.paper j) (passes.past old.now (le_refl old.now))

          at_new : (j : ℕ) → (new.world (old.now + 1)).paper j ≡ (new.world new.now).paper j
          at_new j = ap (λ (t : ℕ). (new.world t).paper j) (sym time)

          count : count_from (from_of m) new old.now m ≡ counts_of printed m
          count = let a = ap length (past m.0) in let b = ap length (from_past m) in omega (arith, a, b, k.counted m few up)

          new_line : (j : MemberId) → LineFrom base K (from_of j) new old.now j
          new_line j = of_other (λ n. LineFrom base K (from_of (record { 0 = n })) new old.now (record { 0 = n })) m.0 (inr (record {
            line = l;
            more = at_new m.0 ∙ more ∙ ap (λ (ls : List Line). ls ++ l ∷ []) (sym (past m.0));
            next = λ w. rw (count, whole w) may.next;
            torn = torn;
          })) (λ n ne. inl (at_new n ∙ others n ne ∙ sym (past n))) j.0

      -- the counts of others, whose printers keep their lines
      other_counted : (j : MemberId) → j.0 ≢ m.0 → j.0 < length printed → is_stopped book j ≡ false → length ((new.world new.now).paper j.0) ≡ length ((new.world (from_of j)).paper j.0) + counts_of printed j
      other_counted j ne inside is_up = rw (others j.0 ne, from_past j) (k.counted j inside is_up)

      -- an act that was halted in it
      halted_on_paper : (l.whole ≡ true → l.text ≡ bytes) → 0 < new.stops m.0 → (book' : Book) → ((j : MemberId) → is_stopped book' j ≡ false → (j.0 ≢ m.0) × (is_stopped book j ≡ false)) → KeepsPaper base since js c (printed, book') new
      halted_on_paper whole stopped book' rest = line_on_paper printed book' whole (λ w. stopped) (stays_on Old New base (counts_of printed) K so k.kept_lines) (stays_on Old New base (counts_of printed) (K ++ F) so k.coming_lines)
          (λ j inside is_up. let other = rest j is_up in other_counted j other.0 inside other.1)

      -- the whole line: the member's count is one more
      done_on_paper : l ≡ record { text = bytes; whole = true } → KeepsPaper base since js c (slice_set printed m.0 (counts_of printed m + 1), book) new
      done_on_paper is = line_on_paper printed' book (λ w. ap (λ (x : Line). x.text) is) (λ w. absurd (true≢false (sym (ap (λ (x : Line). x.whole) is) ∙ w)))
          (subst (λ (cs : Counts). AreLinesOn New base cs K) (sym counts_is) (subst (λ (es : List Entry). AreLinesOn New base (one_more m (counts_of printed)) es) (append-nil K)
          (lines_keep Old New base (counts_of printed) K [] m may.next.output sound (given_kept_all base js k.given) (All-nil _) some (All-nil _) may.next.busy so line_on (subst (λ (es : List Entry). AreLinesOn Old base (counts_of printed) es) (sym (append-nil K)) k.kept_lines))))
          (subst (λ (cs : Counts). AreLinesOn New base cs (K ++ F)) (sym counts_is) (lines_keep Old New base (counts_of printed) K F m may.next.output sound (given_kept_all base js k.given) k.coming_given some (none_in_flight m c apart k.own) may.next.busy so line_on k.coming_lines))
          (λ j inside is_up. let inside' : j.0 < length printed = subst (λ (n : ℕ). j.0 < n) (length-set printed m.0 (counts_of printed m + 1)) inside in
          of_other (λ n. n < length printed → is_stopped book (record { 0 = n }) ≡ false → length ((new.world new.now).paper n) ≡ length ((new.world (from_of (record { 0 = n }))).paper n) + counts_of printed' (record { 0 = n })) m.0 (λ _ _. own_counted)
          (λ n ne inside is_up. rw (get_or-set_other printed m.0 n (counts_of printed m + 1) 0 ne) (other_counted (record { 0 = n }) ne inside is_up)) j.0 inside' is_up)
        where
          printed' : List ℕ
          printed' = slice_set printed m.0 (counts_of printed m + 1)

          own_counted : length ((new.world new.now).paper m.0) ≡ length ((new.world (from_of m)).paper m.0) + counts_of printed' m
          own_counted = omega (arith, ap length more ∙ length-append ((old.world old.now).paper m.0) (l ∷ []), ap length (from_past m), get_or-set_same printed m.0 (counts_of printed m + 1) 0 few, k.counted m few up)

          counts_is : counts_of printed' ≡ one_more m (counts_of printed)
          counts_is = λ i j. test_cases (same_member j m) (counts_of printed' j ≡ one_more m (counts_of printed) j)
              (λ e. let same : j.0 ≡ m.0 = number_is j.0 m.0 e in rw (e, same) (get_or-set_same printed m.0 (counts_of printed m + 1) 0 few))
              (λ e. rw e (get_or-set_other printed m.0 j.0 (counts_of printed m + 1) 0 (λ same. apart_is j.0 m.0 e same))) i

          line_on : New may.next.output.job may.next.output.index (may.next.output.mark + counts_of printed m + 1) may.next.output.text
          line_on = record { lines = may.next.lines; is = may.next.text; stands = record { printer = m.0; there = subst (λ (ls : List Line). Contains ls the_line) (sym (more ∙ ap (λ (x : Line). (old.world old.now).paper m.0 ++ x ∷ []) (is ∙ ap (λ (bs : List ℕ). record { text = bs; whole = true }) may.next.is))) (Contains-append_right ((old.world old.now).paper m.0) (the_line ∷ []) the_line (0, omega arith, refl)) } } where
            the_line : Line
            the_line = record { text = printed_line may.next.output.job may.next.output.index (may.next.output.mark + counts_of printed m + 1) may.next.lines; whole = true }

    -- the answer
    pub prints_on_paper : (result : Act) → new.now ≡ next old.now → (old.now ≡ top → result ≡ Failed) → (result ≡ Halted → Rose (old.stops m.0) (new.stops m.0)) → Prints m.0 bytes old new result → ((j : MemberId) → is_stopped (after_stop book m) j ≡ false → (j.0 ≢ m.0) × (is_stopped book j ≡ false))
        → KeepsPaper base since js c (printed_by m result printed, book_by m result book) new
    prints_on_paper result time last halts prints rest = by result prints.paper last halts
      where
        same_paper : paper_now new m.0 ≡ paper_now old m.0 → SamePaper old new
        same_paper is = of_other (λ j. paper_now new j ≡ paper_now old j) m.0 is prints.others

        one_later : (old.now ≢ top) → new.now ≡ old.now + 1
        one_later below = omega (arith, passes.later, time, below)

        still : (book' : Book) → ((j : MemberId) → is_stopped book' j ≡ false → is_stopped book j ≡ false) → paper_now new m.0 ≡ paper_now old m.0 → KeepsPaper base since js c (printed, book') new
        still book' is_up is = passes_on_paper book' is_up (same_papers old new goes time (same_paper is))

        by : (r : Act) → Said bytes (paper_now old m.0) (paper_now new m.0) r → (old.now ≡ top → r ≡ Failed) → (r ≡ Halted → Rose (old.stops m.0) (new.stops m.0)) → KeepsPaper base since js c (printed_by m r printed, book_by m r book) new
        by Done is last halts = done_on_paper (record { text = bytes; whole = true }) (one_later (λ e. absurd (cc (last e)))) is prints.others refl
        by Failed is last halts = still book (λ j u. u) is
        by Halted (inl is) last halts = still (after_stop book m) (λ j u. (rest j u).1) is
        by Halted (inr (inl torn)) last halts = halted_on_paper (record { text = torn.0; whole = false }) (one_later (λ e. absurd (cc (last e)))) torn.1 prints.others (λ w. absurd (cc)) (let rose = halts refl in omega (arith, rose)) (after_stop book m) rest
        by Halted (inr (inr is)) last halts = halted_on_paper (record { text = bytes; whole = true }) (one_later (λ e. absurd (cc (last e)))) is prints.others (λ w. refl) (let rose = halts refl in omega (arith, rose)) (after_stop book m) rest

-- COUNTS

zero_at : (l : List ℕ) (i : ℕ) → slice_index_or (slice_set l i 0) i 0 ≡ 0
zero_at l i = ⊎_elim (λ (past : length l ≤ i). rw (set_past l i 0 past) (get_or_past l i 0 past)) (λ (lt : i < length l). get_or-set_same l i 0 0 lt) (either_way (length l) i)

-- what a batch of a member leaves of the counts
pub counts_set : (m by : MemberId) (es : List Entry) (printed : List ℕ) → All (λ e. e.by ≡ by) es → counts_of (printed_after by es printed) m ≡ counts_after es (counts_of printed) m
counts_set m by es printed own =
    test_cases (same_member by m) (counts_of (printed_after by es printed) m ≡ counts_after es (counts_of printed) m)
    (λ e. subst (λ (x : MemberId). counts_of (printed_after x es printed) m ≡ counts_after es (counts_of printed) m) (sym (same_member_is by m e))
    (test_cases (list_any (begins_anew m) es) (counts_of (printed_after m es printed) m ≡ counts_after es (counts_of printed) m) (λ a. rw a (zero_at printed m.0)) (λ a. rw a refl)))
    (λ e. rw (list_any_none (begins_anew m) es (λ k d lt. let x = slice_index_or es k d in and_left (same_member x.by m) (counts_anew x.command) (subst (λ (n : MemberId). same_member n m ≡ false) (sym (own k d lt)) e))) (test_cases (list_any (begins_anew by) es) (counts_of (printed_after by es printed) m ≡ counts_of printed m) (λ a. rw a (get_or-set_other printed by.0 m.0 0 0 (λ same. apart_is by.0 m.0 e (sym same)))) (λ a. rw a refl)))

-- A BATCH BEGINS

module _ (base : Queue) (since : ℕ) (js : List Batch) (b : Batch) (printed : List ℕ) (book : Book) (v : View) (started : since ≤ v.now) (settled : AreSettled js v.now) (flies : b.fate ≡ Flying) (first : b.first ≡ v.now) where
  abbrev es : List Entry
  es = b.entries

  abbrev On : JobNo → OutNo → ℕ → Text → Type 0
  On = IsOnPaper (v.world v.now).paper

  pub begins_on_paper : IsSound base → KeepsPaper base since js None (printed, book) v → All (λ e. e.by ≡ b.by) es → AreAllowed base (run base (kept_all js)) (counts_of printed) es → KeepsPaper base since js (Some b) (printed_after b.by es printed, book) v
  begins_on_paper sound k own allowed = record {
    given = k.given;
    coming_given = allowed_given base (run base (kept_all js)) (counts_of printed) es allowed;
    own = own;
    past = λ t from lt. subst (λ (s : Account). PaperAt base since s v t) (sym (account_after js (b ∷ []) [] t (account_before b t flies (omega (arith, first, lt))))) (k.past t from lt);
    marks = both.1;
    kept_lines = subst (λ (cs : Counts). AreLinesOn On base cs (kept_all js)) (sym counts) (fewer On base (counts_of printed) (counts_after es (counts_of printed)) (kept_all js) (λ m. test_cases (list_any (begins_anew m) es) (counts_after es (counts_of printed) m ≤ counts_of printed m) (λ a. rw a (omega arith)) (λ a. rw a (le_refl (counts_of printed m)))) k.kept_lines);
    coming_lines = subst (λ (cs : Counts). AreLinesOn On base cs (kept_all js ++ es)) (sym counts) both.0;
    counted = λ m few up. test_cases (list_any (begins_anew m) es) (length ((v.world v.now).paper m.0) ≡ length ((v.world (turned_last m (js ++ b ∷ []) since)).paper m.0) + counts_of (printed_after b.by es printed) m)
        (λ a. rw (turned_append m js (b ∷ []) since, counts_set m b.by es printed own, a, last m) (omega arith))
        (λ a. rw (turned_append m js (b ∷ []) since, counts_set m b.by es printed own, a) (subst (λ (l : List Batch). length ((v.world v.now).paper m.0) ≡ length ((v.world (turned_last m l since)).paper m.0) + counts_of printed m) (append-nil js) (k.counted m (subst (λ (n : ℕ). m.0 < n) (test_cases (list_any (begins_anew b.by) es) (length (printed_after b.by es printed) ≡ length printed) (λ a. rw a (length-set printed b.by.0 0)) (λ a. rw a refl)) few) up)));
  } where
    counts : counts_of (printed_after b.by es printed) ≡ counts_after es (counts_of printed)
    counts = λ i m. counts_set m b.by es printed own i

    -- the marks and lines of the kept entries, and those with the batch
    both : AreLinesOn On base (counts_after es (counts_of printed)) (kept_all js ++ es) × AreMarksOn On base (kept_all js ++ es)
    both = entries_keep On base (counts_of printed) (kept_all js) es sound (given_kept_all base js k.given) allowed k.kept_lines (subst (λ (l : List Entry). AreMarksOn On base l) (append-nil (kept_all js)) k.marks)

    last : (m : MemberId) → max (turned_last m js since) b.first ≡ v.now
    last m = let past = subst (λ (l : List Batch). turned_last m l since ≤ v.now) (append-nil js) (turned_past m js None v.now since settled tt started) in omega (arith, past, first)

-- A BATCH GETS ITS FATE: what is kept of it is all of it or nothing

module _ (base : Queue) (since : ℕ) (js : List Batch) (b c : Batch) (printed : List ℕ) (book : Book) (v : View) where
  pub fated_on_paper : KeepsPaper base since js (Some b) (printed, book) v → b.fate ≡ Flying → c.first ≡ b.first → c.entries ≡ b.entries → c.last ≡ v.now → (c.fate ≡ Kept) ⊎ (c.fate ≡ Dropped) → KeepsPaper base since (js ++ c ∷ []) None (printed, book) v
  fated_on_paper k flies same_first same_entries last fate = record {
    given = given_append base js (c ∷ []) k.given (subst (λ (es : List Entry). All (IsGiven base) es) (sym same_entries) k.coming_given, tt);
    coming_given = All-nil (IsGiven base);
    own = tt;
    past = λ t from lt. subst (λ (s : Account). PaperAt base since s v t) (sym (ap (λ (l : List Batch). account l t) (append-nil (js ++ c ∷ [])) ∙ account_after js (c ∷ []) (b ∷ []) t (account_fated b c t flies same_first same_entries (omega (arith, last, lt))))) (k.past t from lt);
    marks = rw (append-nil (kept_all (js ++ c ∷ []))) stays.0;
    kept_lines = stays.1;
    coming_lines = rw (append-nil (kept_all (js ++ c ∷ []))) stays.1;
    counted = λ m few up. rw (append-nil (js ++ c ∷ []), turned_append m js (c ∷ []) since, same_first, same_entries, ← turned_append m js (b ∷ []) since) (k.counted m few up);
  } where
    On : JobNo → OutNo → ℕ → Text → Type 0
    On = IsOnPaper (v.world v.now).paper

    stays : AreMarksOn On base (kept_all (js ++ c ∷ [])) × AreLinesOn On base (counts_of printed) (kept_all (js ++ c ∷ []))
    stays = ⊎_elim
        (λ (e : c.fate ≡ Kept). rw (kept_all_append js (c ∷ []), one_kept c e, same_entries) (k.marks, k.coming_lines))
        (λ (e : c.fate ≡ Dropped). rw (kept_all_append js (c ∷ []), e, append-nil (kept_all js)) ((λ before after is. k.marks before (after ++ b.entries) (ap (λ (l : List Entry). l ++ b.entries) is ∙ append_assoc before after b.entries)), k.kept_lines))
        fate

-- A SHARED VALUE IS MADE

pub makes_paper : (base : Queue) (since : ℕ) (book : Book) (v : View) → since ≡ v.now → KeepsPaper base since [] None (no_counts, book) v
makes_paper base since book v is = record {
  given = tt;
  coming_given = All-nil (IsGiven base);
  own = tt;
  past = λ t from lt. absurd (omega (arith, from, lt, is));
  marks = no_marks;
  kept_lines = no_lines (counts_of no_counts) zeros;
  coming_lines = no_lines (counts_of no_counts) zeros;
  counted = λ m few up. rw (is, zeros m) (omega arith);
} where
  zeros : (m : MemberId) → counts_of no_counts m ≡ 0
  zeros m = ⊎_elim (λ (past : members_most + 1 ≤ m.0). get_or_past no_counts m.0 0 (omega (arith, past, length-replicate {A = ℕ} (members_most + 1) 0))) (λ (lt : m.0 < members_most + 1). get_or-replicate {A = ℕ} (members_most + 1) m.0 0 0 lt) (either_way (members_most + 1) m.0)

  -- no line is after the base's own marks
  no_lines : (counts : Counts) → ((m : MemberId) → counts m ≡ 0) → AreLinesOn (IsOnPaper (v.world v.now).paper) base counts []
  no_lines counts all n i o found un line low high =
      let found' : mark_of (output_at base n i) ≡ o.mark = rw found refl in
      absurd (omega (arith, low, high, found', printed_upto counts o.busy, all o.busy))

  no_marks : (before after : List Entry) → [] ≡ before ++ after → AreLinesOn (IsOnPaper (v.world v.now).paper) base none_printed before
  no_marks [] after e = no_lines none_printed (λ m. refl)
  no_marks (x ∷ before) after e = absurd (cc)

-- WHAT IS HANDED OUT

-- what stands on paper, by a journal with what is in flight at its end
pub kept_paper : (base : Queue) (since : ℕ) (js : List Batch) (c : Option Batch) (printed : List ℕ) (book : Book) (v : View) → AreSettled js v.now → IsBegun c v.now → IsSound base → KeepsPaper base since js c (printed, book) v → PaperKept base since (js ++ in_flight c) v
kept_paper base since js c printed book v settled begun sound k = record {
  given = given;
  marks = λ t from le. marks_answer (IsOnPaper (v.world t).paper) base (kept (js ++ in_flight c) t) sound (given_kept base (js ++ in_flight c) t given)
      (λ before after is. at t from le before (after ++ flying (js ++ in_flight c) t) (ap (λ (l : List Entry). l ++ flying (js ++ in_flight c) t) is ∙ append_assoc before after (flying (js ++ in_flight c) t)));
  lines = λ t from lt m. (k.past t from lt).lines m;
} where
  given : AreGivenIn base (js ++ in_flight c)
  given = given_append base js (in_flight c) k.given (given_flight base c k.coming_given)

  at : (t : ℕ) → since ≤ t → t ≤ v.now → AreMarksOn (IsOnPaper (v.world t).paper) base (kept (js ++ in_flight c) t ++ flying (js ++ in_flight c) t)
  at t from le = ⊎_elim
      (λ (h : v.now ≤ t). let e : v.now ≡ t = omega (arith, h, le) in subst (λ (n : ℕ). AreMarksOn (IsOnPaper (v.world n).paper) base (kept (js ++ in_flight c) n ++ flying (js ++ in_flight c) n)) e
      (subst (λ (s : Account). AreMarksOn (IsOnPaper (v.world v.now).paper) base (s.0 ++ s.1)) (sym (account_now js c v.now v.now settled begun (le_refl v.now))) k.marks))
      (λ (h : t < v.now). (k.past t from h).marks)
      (either_way v.now t)
