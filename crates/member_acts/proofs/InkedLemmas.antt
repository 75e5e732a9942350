-- Lines of an output that are printed one after another.
use Rattle.member_acts.proofs.Names.{◌≡◌, ℕ, ◌+◌, ◌≤◌, Bool, true, false, List, [], ◌∷◌, length, None, Some, Ok, Result, take, ◌≢◌, ◌⊎◌, inl, inr, ◌∙◌, zero, suc, ◌-◌, ◌<◌, ◌++◌, map, append-nil, append_assoc, Err, slice_get, ap, refl, subst, sym, arith, counts_of, book_by, printed_by, reserved_by, lines_upto, HasInked, Inked, IsCountOf, inked_of, lines_from, get_or-set_other, JobNo, MemberId, OutNo, Act, Done, Failed, ActHalted as Halted, Ghosts as PlantGhosts, Prints, Line, View, paper_now, whole, Parts, NodeNo, NoMemory, Halted as HaltedNo, printed_in, Acts, Printer, Read, SparesBut, beside_none, beside_on, beside_print, failed_wider, goes_none, none_lost, not, print_failed, sparing_beside, sparing_done, sparing_halted, sparing_none, sparing_then, wires_none, wires_then, Batch, Option, Queue, entries_in, kept_all}
use Rattle.paper_laws.specs.Next.{MayPrint}
use Rattle.member_acts.specs.Prints.{HasActedBeside, HasPrinted, Upto, MayPrintTo}
use Rattle.job_outcome.specs.declared.outcomes.Read.TheVariants as read
use Rattle.member_work.specs.Inked.{IsInkedBy}
use Rattle.mas_types.specs.Printed.{printed_line}
use Rattle.member_steps.specs.Saying.{torn}
use Rattle.member_steps.proofs.SayLemmas.{said_next}

-- THE LINES

pub many_from : (n : JobNo) (i : OutNo) (text : List (List ℕ)) (first more : ℕ) → length (lines_from n i text first more) ≡ more
many_from n i text first zero = refl
many_from n i text first (suc more) = ap suc (many_from n i text (first + 1) more)

pub line_at : (n : JobNo) (i : OutNo) (text : List (List ℕ)) (first more k : ℕ) → k < more → slice_get (lines_from n i text first more) k ≡ Some (printed_line n i (first + k) text)
line_at n i text first zero k less = absurd (omega (arith, less))
line_at n i text first (suc more) zero less = let same : first ≡ first + 0 = omega arith in ap (λ (m : ℕ). Some (printed_line n i m text)) same
line_at n i text first (suc more) (suc k) less =
    let same : first + 1 + k ≡ first + suc k = omega arith in
    line_at n i text (first + 1) more k (omega (arith, less)) ∙ ap (λ (m : ℕ). Some (printed_line n i m text)) same

-- the next one, where as many are printed as were counted
module _ (n : JobNo) (i : OutNo) (text : List (List ℕ)) (mark last was is before : ℕ) (more : was ≤ is) (same : mark + is ≡ before) (small : before < last) where
  pub next_less : is - was < length (lines_upto n i (mark + was) last text)
  next_less = subst (λ (k : ℕ). is - was < k) (sym (many_from n i text (mark + was + 1) (last - (mark + was)))) (omega (arith, more, same, small))

  pub next_line : (line : List ℕ) → line ≡ printed_line n i (before + 1) text → slice_get (lines_upto n i (mark + was) last text) (is - was) ≡ Some line
  next_line line it =
      let number : mark + was + 1 + (is - was) ≡ before + 1 = omega (arith, more, same, small) in
      line_at n i text (mark + was + 1) (last - (mark + was)) (is - was) (omega (arith, more, same, small)) ∙ ap (λ (m : ℕ). Some (printed_line n i m text)) number ∙ ap (λ (l : List ℕ). Some l) (sym it)

-- all of them
pub all_from : (n : JobNo) (i : OutNo) (text : List (List ℕ)) (mark last was is : ℕ) → was ≤ is → (was < is → mark + is ≤ last) → last ≤ mark + is → is - was ≡ length (lines_upto n i (mark + was) last text)
all_from n i text mark last was is more most upto = by_gap (is - was) refl ∙ sym (many_from n i text (mark + was + 1) (last - (mark + was))) where
  by_gap : (gap : ℕ) → is - was ≡ gap → is - was ≡ last - (mark + was)
  by_gap zero none = omega (arith, none, more, upto)
  by_gap (suc gap) some = let few = most (omega (arith, some)) in omega (arith, some, more, few, upto)

pub none_of : (lines : List (List ℕ)) → take 0 lines ≡ []
none_of [] = refl
none_of (line ∷ lines) = refl

-- WHAT IS PRINTED OF THEM

module _ {P C : Type 0} (plants : PlantGhosts P) (by : MemberId) (lines : List (List ℕ)) where
  abbrev v : Parts P C → View
  v x = plants.view x.plant

  abbrev paper : Parts P C → List Line
  paper x = paper_now (v x) by.0

  abbrev count : Parts P C → ℕ
  count x = counts_of x.printed by

  -- as many of them as were counted
  pub record HavePrinted (x y : Parts P C) : Type 0 where
    pub is : paper_now (plants.view y.plant) by.0 ≡ paper_now (plants.view x.plant) by.0
        ++ map whole (take (counts_of y.printed by - counts_of x.printed by) lines)
    pub others : (m : ℕ) → m ≢ by.0 → paper_now (plants.view y.plant) m ≡ paper_now (plants.view x.plant) m

  -- where nothing was printed
  pub unprinted_yet : (x y : Parts P C) → ((m : ℕ) → paper_now (v y) m ≡ paper_now (v x) m) → y.printed ≡ x.printed → HavePrinted x y
  unprinted_yet x y papers same =
      let none : count y - count x ≡ 0 = let counts = ap (λ (l : List ℕ). counts_of l by) same in omega (arith, counts) in
      let nothing : map whole (take (count y - count x) lines) ≡ [] = ap (λ (k : ℕ). map whole (take k lines)) none ∙ ap (map whole) (none_of lines) in
      record {
        is = papers by.0 ∙ sym (append-nil (paper x)) ∙ ap (λ (l : List Line). paper x ++ l) (sym nothing);
        others = λ m other. papers m;
      }

  pub printed_none : (x : Parts P C) → HavePrinted x x
  printed_none x = unprinted_yet x x (λ m. refl) refl

  -- one more of them
  pub printed_one : (x y z : Parts P C) (line : List ℕ) → HavePrinted x y → count x ≤ count y → count z ≡ count y + 1 → Prints by.0 line (v y) (v z) Done
      → count y - count x < length lines → slice_get lines (count y - count x) ≡ Some line → HavePrinted x z
  printed_one x y z line so more one prints less here = record {
    is = said_next lines (count y - count x) (count z - count x) line (paper x) (paper y) (paper z) less here (omega (arith, more, one)) so.is prints.paper;
    others = λ m other. prints.others m other ∙ so.others m other;
  }

  -- one at which the printer failed doesn't stand there
  pub printed_failed : (x y z : Parts P C) (line : List ℕ) → HavePrinted x y → z.printed ≡ y.printed → Prints by.0 line (v y) (v z) Failed → HavePrinted x z
  printed_failed x y z line so same prints = record {
    is = prints.paper ∙ so.is ∙ ap (λ (l : List ℕ). paper x ++ map whole (take (counts_of l by - count x) lines)) (sym same);
    others = λ m other. prints.others m other ∙ so.others m other;
  }

  module _ (x y : Parts P C) (so : HavePrinted x y) (more : count x ≤ count y) where
    abbrev far : Inked
    far = record { lines = count y - count x; rest = None }

    stands : paper y ≡ paper x ++ inked_of far lines
    stands = so.is ∙ ap (λ (l : List Line). paper x ++ l) (sym (append-nil (map whole (take (count y - count x) lines))))

    -- by the answer: all of them, or those before one that couldn't be printed
    pub inked_by : (r : Result Bool NodeNo) → IsInkedBy r (length lines) far → IsCountOf r (count x + (count y - count x)) (count y) → HasInked plants by lines x y r
    inked_by r by_answer counted = record { inked = far; paper = stands; others = so.others; by_answer = by_answer; counted = counted }

    -- stopped at the next one, which stands there whole, torn, or not at all
    pub inked_halted : (z : Parts P C) (line : List ℕ) → z.printed ≡ y.printed → Prints by.0 line (v y) (v z) Halted → count y - count x < length lines → slice_get lines (count y - count x) ≡ Some line
        → HasInked plants by lines x z (Err HaltedNo)
    inked_halted z line same prints less here = by_paper prints.paper where
      counts : count z ≡ count y
      counts = ap (λ (l : List ℕ). counts_of l by) same

      left : (k : Inked) → count y - count x ≤ k.lines → k.lines ≤ count y - count x + 1 → k.lines ≤ length lines → ((k.rest ≡ None) ⊎ (k.lines < length lines)) → paper z ≡ paper x ++ inked_of k lines → HasInked plants by lines x z (Err HaltedNo)
      left k from upto few rest is = record {
        inked = k;
        paper = is;
        others = λ m other. prints.others m other ∙ so.others m other;
        by_answer = (few, rest);
        counted = (omega (arith, more, counts, from), omega (arith, more, counts, upto));
      }

      by_paper : ((paper z ≡ paper y) ⊎ ((text : List ℕ) × (paper z ≡ paper y ++ torn text ∷ [])) ⊎ (paper z ≡ paper y ++ whole line ∷ [])) → HasInked plants by lines x z (Err HaltedNo)
      by_paper (inl none) = left far (omega arith) (omega arith) (omega (arith, less)) (inl refl) (none ∙ stands)
      by_paper (inr (inl part)) = left (record { lines = count y - count x; rest = Some part.0 }) (omega arith) (omega arith) (omega (arith, less)) (inr less)
          (part.1 ∙ ap (λ (l : List Line). l ++ torn part.0 ∷ []) so.is ∙ append_assoc (paper x) (map whole (take (count y - count x) lines)) (torn part.0 ∷ []))
      by_paper (inr (inr all)) = left (record { lines = suc (count y - count x); rest = None }) (omega arith) (omega arith) (omega (arith, less)) (inl refl)
          (said_next lines (count y - count x) (suc (count y - count x)) line (paper x) (paper y) (paper z) less here refl so.is all
          ∙ ap (λ (l : List Line). paper x ++ l) (sym (append-nil (map whole (take (suc (count y - count x)) lines)))))

-- CALLS ONE AFTER ANOTHER

module _ {P C : Type 0} (plants : PlantGhosts P) (by : MemberId) (lines : List (List ℕ)) where
  -- nothing was printed before
  pub inked_after : (x y z : Parts P C) (r : Result Bool NodeNo) → ((m : ℕ) → paper_now (plants.view y.plant) m ≡ paper_now (plants.view x.plant) m) → y.printed ≡ x.printed → HasInked plants by lines y z r → HasInked plants by lines x z r
  inked_after x y z r papers same k = record {
    inked = k.inked;
    paper = k.paper ∙ ap (λ (l : List Line). l ++ inked_of k.inked lines) (papers by.0);
    others = λ m other. k.others m other ∙ papers m;
    by_answer = k.by_answer;
    counted = subst (λ (l : List ℕ). IsCountOf r (counts_of l by + k.inked.lines) (counts_of z.printed by)) same k.counted;
  }

-- THE REST of the shared value, after one line more
pub one_behind : {P C : Type 0} (by : MemberId) (x y w : Parts P C) (r : Act) → w ≡ printed_in w x → y ≡ record w { plant = y.plant; printed = printed_by by r w.printed; book = book_by by r w.book; reserved = reserved_by by r w.reserved }
    → y ≡ record x { plant = y.plant; printed = y.printed; book = book_by by r x.book; reserved = reserved_by by r x.reserved }
one_behind {P} {C} by x y w r before same =
    same ∙ ap (λ (l : List ℕ). record w { plant = y.plant; printed = l; book = book_by by r w.book; reserved = reserved_by by r w.reserved }) (sym (ap (λ (p : Parts P C). p.printed) same))
    ∙ ap (λ (p : Parts P C). record p { plant = y.plant; printed = y.printed; book = book_by by r p.book; reserved = reserved_by by r p.reserved }) before

-- THE NEXT LINE MAY BE PRINTED

pub may_print : (base : Queue) (batches : List Batch) (current : Option Batch) (m : MemberId) (u : Upto) (printed before : ℕ) (lines : List (List ℕ)) (bytes : List ℕ) → MayPrintTo base batches current m u lines → u.output.mark + printed ≡ before → before < u.last
    → bytes ≡ printed_line u.output.job u.output.index (before + 1) lines → MayPrint base (kept_all batches) (entries_in current) m printed bytes
may_print base batches current m u printed before lines bytes may counted small is = record {
  next = record {
    output = may.output;
    busy = may.busy;
    lines = lines;
    text = may.text;
    is = rw (may.job, may.index, may.mark_is, counted) is;
    below = let same = may.mark_is in let upto = may.upto in omega (arith, same, upto, counted, small);
    limit = let same = may.mark_is in let limit = may.limit in omega (arith, same, limit, counted, small);
  };
  still = rw (may.job, may.index) may.still;
}

-- WHAT IS LEFT ALONE

beside_same : {P C : Type 0} (plants : PlantGhosts P) (by : MemberId) (x : Parts P C) → HasActedBeside plants x x by
beside_same plants by x = record { acts = beside_none plants.tells (plants.view x.plant); disks = λ told d. refl; other_counts = λ m other. refl; wires = λ told. wires_none (plants.view x.plant) }

others_by : (by : MemberId) (r : Act) (printed : List ℕ) (m : MemberId) → m.0 ≢ by.0 → counts_of (printed_by by r printed) m ≡ counts_of printed m
others_by by Done printed m other = get_or-set_other printed by.0 m.0 (counts_of printed by + 1) 0 other
others_by by _ printed m other = refl

-- THE LINES OF A TEXT up to the last one, except those that were counted before

module _ {P C : Type 0} (plants : PlantGhosts P) (by : MemberId) (u : Upto) (text : List (List ℕ)) (x : Parts P C) where
  abbrev seen : Parts P C → View
  seen y = plants.view y.plant

  abbrev pub its : List (List ℕ)
  its = lines_upto u.output.job u.output.index (u.output.mark + counts_of x.printed by) u.last text

  -- so far they are printed
  pub record HaveLines (before : ℕ) (y : Parts P C) : Type 0 where
    pub frame : y ≡ printed_in y x
    pub beside : HasActedBeside plants x y by
    pub spares : SparesBut by.0 false none_lost (plants.view x.plant) (plants.view y.plant)
    pub upto : before ≤ u.output.mark + counts_of y.printed by
    pub more : counts_of x.printed by ≤ counts_of y.printed by
    pub most : counts_of x.printed by < counts_of y.printed by → u.output.mark + counts_of y.printed by ≤ u.last
    pub so : plants.tells → HavePrinted plants by its x y
    pub next : before < u.last → u.output.mark + counts_of y.printed by ≡ before

  pub lines_none : (first : ℕ) → first ≤ u.output.mark + counts_of x.printed by → (first < u.last → u.output.mark + counts_of x.printed by ≡ first) → HaveLines first x
  lines_none first upto next = record {
    frame = refl;
    beside = beside_same plants by x;
    spares = sparing_none by.0 (seen x);
    upto = upto;
    more = omega arith;
    most = λ less. omega (arith, less);
    so = λ told. printed_none plants by its x;
    next = next;
  }

  -- THE NEXT ONE

  module _ (before : ℕ) (y : Parts P C) (have : HaveLines before y) where
    -- none was printed for want of memory
    pub lines_wanting : before < u.last → HasPrinted plants x y by u (read.Lines text) (Err NoMemory)
    lines_wanting small = record {
      frame = have.frame;
      beside = have.beside;
      inks = λ told. let less = next_less u.output.job u.output.index text u.output.mark u.last (counts_of x.printed by) (counts_of y.printed by) before have.more (have.next small) small in inked_by plants by its x y (have.so told) have.more (Err NoMemory) (omega (arith, less), refl) (omega (arith, have.more));
      failed = tt;
      counted = tt;
      cause = have.spares;
      lines = λ n. refl;
    }

    -- all are printed
    pub lines_done : u.last ≤ before → HasPrinted plants x y by u (read.Lines text) (Ok false)
    lines_done end = record {
      frame = have.frame;
      beside = have.beside;
      inks = λ told. inked_by plants by its x y (have.so told) have.more (Ok false)
          (ap (λ (k : ℕ). record { lines = k; rest = None }) (all_from u.output.job u.output.index text u.output.mark u.last (counts_of x.printed by) (counts_of y.printed by) have.more have.most (omega (arith, end, have.upto)))) (omega (arith, have.more));
      failed = λ is. absurd (cc);
      counted = λ is. omega (arith, end, have.upto);
      cause = have.spares;
      lines = tt;
    }

    module _ (small : before < u.last) (z : Parts P C) (line : List ℕ) (it : line ≡ printed_line u.output.job u.output.index (before + 1) text) where
      less : counts_of y.printed by - counts_of x.printed by < length its
      less = next_less u.output.job u.output.index text u.output.mark u.last (counts_of x.printed by) (counts_of y.printed by) before have.more (have.next small) small

      here : slice_get its (counts_of y.printed by - counts_of x.printed by) ≡ Some line
      here = next_line u.output.job u.output.index text u.output.mark u.last (counts_of x.printed by) (counts_of y.printed by) before have.more (have.next small) small line it

      -- what a call of the printer leaves
      abbrev pub Leaves : Act → Type 0
      Leaves r = z ≡ record y { plant = z.plant; printed = printed_by by r y.printed; book = book_by by r y.book; reserved = reserved_by by r y.reserved }

      module _ (r : Act) (frame : Leaves r) (acts : Acts by.0 (Printer by) (seen y) (seen z) r) (content : plants.tells → Prints by.0 line (seen y) (seen z) r) where
        counts_are : z.printed ≡ printed_by by r y.printed
        counts_are = ap (λ (p : Parts P C). p.printed) frame

        beside : HasActedBeside plants x z by
        beside = record {
          acts = beside_on plants.tells (seen x) (seen y) (seen z) have.beside.acts (beside_print plants.tells by line (seen y) (seen z) r acts content);
          disks = λ told d. (content told).disks d ∙ have.beside.disks told d;
          other_counts = λ m other. ap (λ (l : List ℕ). counts_of l m) counts_are ∙ others_by by r y.printed m other ∙ have.beside.other_counts m other;
          wires = λ told. wires_then (seen x) (seen y) (seen z) (have.beside.wires told) (content told).wires;
        }

      pub lines_more : Leaves Done → Acts by.0 (Printer by) (seen y) (seen z) Done → (plants.tells → Prints by.0 line (seen y) (seen z) Done) → counts_of z.printed by ≡ counts_of y.printed by + 1 → HaveLines (before + 1) z
      lines_more frame acts content one =
          let same = have.next small in
          record {
            frame = one_behind by x z y Done have.frame frame;
            beside = beside Done frame acts content;
            spares = sparing_then by.0 false none_lost (seen x) (seen y) (seen z) have.spares (sparing_done by.0 (Printer by) (seen y) (seen z) acts);
            upto = omega (arith, same, one);
            more = omega (arith, have.more, one);
            most = λ less. omega (arith, same, one, small);
            so = λ told. printed_one plants by its x y z line (have.so told) have.more one (content told) less here;
            next = λ less. omega (arith, same, one);
          }

      -- the printer failed at it
      pub lines_failed : Leaves Failed → Acts by.0 (Printer by) (seen y) (seen z) Failed → (plants.tells → Prints by.0 line (seen y) (seen z) Failed) → HasPrinted plants x z by u (read.Lines text) (Ok true)
      lines_failed frame acts content =
          let counts = counts_are Failed frame acts content in
          let as_many : counts_of z.printed by ≡ counts_of y.printed by = ap (λ (l : List ℕ). counts_of l by) counts in
          record {
            frame = one_behind by x z y Failed have.frame frame;
            beside = beside Failed frame acts content;
            inks = λ told. let more : counts_of x.printed by ≤ counts_of z.printed by = omega (arith, have.more, as_many) in inked_by plants by its x z (printed_failed plants by its x y z line (have.so told) counts (content told)) more (Ok true) (omega (arith, less, as_many), refl) (omega (arith, more));
            failed = λ is. failed_wider by (seen x) (seen y) (seen z) (seen z) have.beside.acts.goes (goes_none (seen z)) (print_failed by (seen y) (seen z) Failed refl acts);
            counted = λ is. absurd (cc);
            cause = sparing_then by.0 false none_lost (seen x) (seen y) (seen z) have.spares (sparing_beside by.0 (Printer by) (seen y) (seen z) (λ n same. absurd (cc)) acts);
            lines = tt;
          }

      -- the member was stopped at it
      pub lines_halted : Leaves Halted → Acts by.0 (Printer by) (seen y) (seen z) Halted → (plants.tells → Prints by.0 line (seen y) (seen z) Halted) → HasPrinted plants x z by u (read.Lines text) (Err HaltedNo)
      lines_halted frame acts content =
          let counts = counts_are Halted frame acts content in
          record {
            frame = one_behind by x z y Halted have.frame frame;
            beside = beside Halted frame acts content;
            inks = λ told. inked_halted plants by its x y (have.so told) have.more z line counts (content told) less here;
            failed = tt;
            counted = tt;
            cause = (sparing_then by.0 true none_lost (seen x) (seen y) (seen z) have.spares (sparing_halted by.0 (Printer by) (seen y) (seen z) acts), let rose = acts.halted refl in let sooner = have.beside.acts.goes.stops by.0 in omega (arith, rose, sooner));
            lines = λ n. refl;
          }

-- of no lines all stand there
pub inked_none : {P C : Type 0} (plants : PlantGhosts P) (by : MemberId) (x : Parts P C) → HasInked plants by [] x x (Ok false)
inked_none plants by x =
    let none : counts_of x.printed by - counts_of x.printed by ≡ 0 = omega arith in
    inked_by plants by [] x x (printed_none plants by [] x) (omega arith) (Ok false) (ap (λ (k : ℕ). record { lines = k; rest = None }) none) (omega arith)

-- no lines were read
pub lines_unread : {P C : Type 0} (plants : PlantGhosts P) (by : MemberId) (u : Upto) (x : Parts P C) (a : Read) → ((lines : List (List ℕ)) → a ≡ read.Lines lines → ⊥) → HasPrinted plants x x by u a (Ok false)
lines_unread plants by u x (read.Lines lines) not = absurd (not lines refl)
lines_unread plants by u x _ not = record {
  frame = refl;
  beside = beside_same plants by x;
  inks = λ told. inked_none plants by x;
  failed = λ is. absurd (cc);
  counted = λ is. absurd (cc);
  cause = sparing_none by.0 (plants.view x.plant);
  lines = tt;
}
