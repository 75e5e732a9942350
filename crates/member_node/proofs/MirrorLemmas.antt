-- Pages that stand beside a member's own.
use Rattle.std.proofs.Common.{◌≡◌, ℕ, zero, suc, ◌+◌, ◌≤◌, ◌<◌, Bool, true, false, List, [], ◌∷◌, ◌++◌, length, replicate, take, get_or, slice_set, slice_index_or, ⊎_elim, inl, inr, ◌⊎◌, Result, Ok, Err, refl, sym, ◌∙◌, ap, subst, arith, Contains}
use Rattle.std.specs.Prelude.{IfOk}
use Rattle.std.specs.List.{refill}
use Rattle.std.proofs.lemmas.List.{get_or-set_other, get_or-set_same, length-set, take_more}
use Rattle.mas_types.specs.declared.ids.Page.{Page}
use Rattle.mas_types.specs.Limits.{pages_most}
use Rattle.ckpt_tables.specs.declared.tables.Tables.{Tables}
use Rattle.page_marks.specs.Marks.{is_marked, marked}
use Rattle.ckpt_tables.specs.Pages.{page_in}
use Rattle.member_node.specs.Drawn.{AreUnmarkedDrawn}
use Rattle.member_node.specs.declared.member.NodeNo.{NodeNo}
use Rattle.member_node.specs.Mirrors.{IsMirror, IsMirrorBut, marked_all, marked_if}
use Rattle.member_node.specs.Reads.{ArePagesOf}
use Rattle.member_node.specs.Wanted.{AreUnchanged}
use Rattle.member_node.proofs.CourseLemmas.{no as not_both}
use Rattle.member_node.proofs.ReadLemmas.{page_set, pages_same, room_after}

same_or_not : (a b : ℕ) → (a ≡ b) ⊎ (a ≡ b → ⊥)
same_or_not zero zero = inl refl
same_or_not zero (suc b) = inr (λ e. absurd (omega (arith, e)))
same_or_not (suc a) zero = inr (λ e. absurd (omega (arith, e)))
same_or_not (suc a) (suc b) = ⊎_elim (λ same. inl (ap suc same)) (λ ne. inr (λ e. ne (omega (arith, e)))) (same_or_not a b)

-- a page that is put where it stood changes none
pub set_same : (pages : List Page) (p : ℕ) (into : Page) → p < length pages → into.0 ≡ page_in pages p → (q : ℕ) → page_in (slice_set pages p into) q ≡ page_in pages q
set_same pages p into lt is q =
    ⊎_elim (λ same. (page_set pages p q into lt).0 same ∙ is ∙ ap (λ (n : ℕ). page_in pages n) (sym same)) (λ ne. (page_set pages p q into lt).1 ne) (same_or_not q p)

-- the pages after one that is put stay
pub rest_set : (page : ℕ) (now : List Page) (into : Page) → page < length now → (q : ℕ) → page + 1 ≤ q → page_in (slice_set now page into) q ≡ page_in now q
rest_set page now into lt q from = (page_set now page q into lt).1 (λ e. absurd (omega (arith, e, from)))

-- one page more of the member's own
pub mirror_more : (page : ℕ) (now own : List Page) (into : Page) → page < length now → ((q : ℕ) → 1 ≤ q → q < page → page_in now q ≡ page_in own q) → into.0 ≡ page_in own page
    → (q : ℕ) → 1 ≤ q → q < page + 1 → page_in (slice_set now page into) q ≡ page_in own q
mirror_more page now own into lt before is q from to = by_place (same_or_not q page) where
  less : (a b : ℕ) → a ≤ b → (a ≡ b → ⊥) → a < b
  less zero zero le ne = absurd (ne refl)
  less zero (suc b) le ne = omega arith
  less (suc a) zero le ne = absurd (omega (arith, le))
  less (suc a) (suc b) le ne = omega (arith, less a b (omega (arith, le)) (λ e. ne (ap suc e)))

  by_place : (q ≡ page) ⊎ (q ≡ page → ⊥) → page_in (slice_set now page into) q ≡ page_in own q
  by_place (inl same) = (page_set now page q into lt).0 same ∙ is ∙ ap (λ (n : ℕ). page_in own n) (sym same)
  by_place (inr ne) = (page_set now page q into lt).1 ne ∙ before q from (less q page (omega (arith, to)) ne)

-- pages of which page 0 is the member's own too are its own
pub mirrored_own : (room own : List Page) → length room ≡ length own → page_in room 0 ≡ page_in own 0 → IsMirror room own → room ≡ own
mirrored_own room own many first mirror = pages_same room own many each where
  each : (q : ℕ) → q < length room → page_in room q ≡ page_in own q
  each zero lt = first
  each (suc q) lt = mirror (suc q) (omega arith) (omega (arith, lt, many))

-- where nothing was read the pages are the member's own
pub mirror_kept : (r : Result ℕ NodeNo) (mid now own : List Page) → IfOk r (λ count. count ≡ 0 → (q : ℕ) → page_in now q ≡ page_in mid q) → IsMirror mid own → IfOk r (λ count. count ≡ 0 → IsMirror now own)
mirror_kept (Ok count) mid now own none mirror = λ nothing q from to. none nothing q ∙ mirror q from to
mirror_kept (Err e) mid now own none mirror = tt

-- page 0 is that of the copies where it stays
pub header_pages : (was : List ℕ) (room mid : List Page) → page_in mid 0 ≡ page_in room 0 → ArePagesOf 0 1 was room → ArePagesOf 0 1 was mid
header_pages was room mid same at zero from to = same ∙ at 0 (omega arith) (omega arith)
header_pages was room mid same at (suc q) from to = absurd (omega (arith, to))

-- what is unchanged of the member's own pages is so of pages that are its own but for page 0
pub mirror_unchanged : (l : ℕ) (was : List ℕ) (own room mid : List Page) → length own ≡ length room → length mid ≡ length room → IsMirror mid own → AreUnchanged (length room) l own was → AreUnchanged (length mid) l mid was
mirror_unchanged l was own room mid many1 many2 mirror same q from to low = mirror q from (omega (arith, to, many1, many2)) ∙ same q from (omega (arith, to, many2)) low

-- page 0 of the room is read anew
pub first_mirror : (marks : List Bool) (room slice own : List Page) (into : Page) → slice ≡ room → 1 ≤ length room → IsMirrorBut marks room own → IsMirrorBut marks (refill (length room) room (slice_set slice 0 into)) own
first_mirror marks room slice own into same some mirror =
    let lt : 0 < length slice = omega (arith, some, ap (length {A = Page}) same) in
    let set : IsMirrorBut marks (slice_set slice 0 into) own = λ q from few to1 to2 off. (page_set slice 0 q into lt).1 (λ e. absurd (omega (arith, e, from)))
    ∙ ap (λ (ps : List Page). page_in ps q) same ∙ mirror q from few (omega (arith, to1, length-set slice 0 into, ap (length {A = Page}) same)) to2 off in
    subst (λ (ps : List Page). IsMirrorBut marks ps own) (sym (room_after room slice (slice_set slice 0 into) same (length-set slice 0 into))) set

-- MARKS

marked_in : (n q : ℕ) → q < n → is_marked (replicate n true) q ≡ true
marked_in zero q lt = absurd (omega (arith, lt))
marked_in (suc n) zero lt = refl
marked_in (suc n) (suc q) lt = marked_in n q (omega (arith, lt))

-- each page has a mark
pub all_marked : (marks : List Bool) (q : ℕ) → marks ≡ replicate pages_most true → q < pages_most → is_marked marks q ≡ false → ⊥
all_marked marks q all few off = not_both (is_marked marks q) (ap (λ (m : List Bool). is_marked m q) all ∙ marked_in pages_most q few) off

pub mirror_all : (marks : List Bool) (room own : List Page) → marks ≡ replicate pages_most true → IsMirrorBut marks room own
mirror_all marks room own all q from few to1 to2 off = absurd (all_marked marks q all few off)

pub drawn_all : (marks : List Bool) (t : Tables) (levels : List ℕ) (pages : List Page) → marks ≡ replicate pages_most true → length pages ≤ pages_most → AreUnmarkedDrawn marks t levels pages
drawn_all marks t levels pages all few p lt off = absurd (all_marked marks p all (omega (arith, lt, few)) off)

-- what mirrors all mirrors these
pub mirror_some : (marks : List Bool) (room own : List Page) → IsMirror room own → IsMirrorBut marks room own
mirror_some marks room own mirror q from few to1 to2 off = mirror q from to2

-- one mark more
marked_same : (p q : ℕ) (marks : List Bool) → p < length marks → q ≡ p → is_marked (marked p marks) q ≡ true
marked_same p q marks lt same = ap (λ (n : ℕ). is_marked (marked p marks) n) same ∙ get_or-set_same marks p true false lt

marked_other : (p q : ℕ) (marks : List Bool) → (q ≡ p → ⊥) → is_marked (marked p marks) q ≡ is_marked marks q
marked_other p q marks ne = get_or-set_other marks p q true false ne

-- a page that is read gets a mark
pub differ_more : (newer : Bool) (page : ℕ) (marks : List Bool) (now room : List Page) (into : Page) → page < length marks → page < length now → (newer ≡ false → into.0 ≡ page_in now page)
    → ((q : ℕ) → is_marked marks q ≡ false → page_in now q ≡ page_in room q)
    → (q : ℕ) → is_marked (marked_if newer page marks) q ≡ false → page_in (slice_set now page into) q ≡ page_in room q
differ_more false page marks now room into long lt stays same q off = set_same now page into lt (stays refl) q ∙ same q off
differ_more true page marks now room into long lt stays same q off =
    ⊎_elim (λ at. absurd (not_both (is_marked (marked page marks) q) (marked_same page q marks long at) off))
    (λ ne. (page_set now page q into lt).1 ne ∙ same q (sym (marked_other page q marks ne) ∙ off)) (same_or_not q page)

pub marks_long : (newer : Bool) (page : ℕ) (marks : List Bool) → length (marked_if newer page marks) ≡ length marks
marks_long false page marks = refl
marks_long true page marks = length-set marks page true

marked_append : (ps : List ℕ) (p : ℕ) (marks : List Bool) → marked_all (ps ++ p ∷ []) marks ≡ marked p (marked_all ps marks)
marked_append [] p marks = refl
marked_append (q ∷ ps) p marks = marked_append ps p (marked q marks)

pub marked_more : (ps : List ℕ) (i : ℕ) (marks : List Bool) → i < length ps → marked_all (take (i + 1) ps) marks ≡ marked (get_or ps i 0) (marked_all (take i ps) marks)
marked_more ps i marks lt = ap (λ (l : List ℕ). marked_all l marks) (take_more ps i 0 lt) ∙ marked_append (take i ps) (get_or ps i 0) marks

-- a page without a mark had none, and isn't one of those that got one
pub unmarked_all : (pages : List ℕ) (marks : List Bool) (q : ℕ) → q < length marks → is_marked (marked_all pages marks) q ≡ false → (is_marked marks q ≡ false) × (Contains pages q → ⊥)
unmarked_all [] marks q lt off = (off, λ one. absurd (omega (arith, one.1)))
unmarked_all (p ∷ pages) marks q lt off = with_rest (unmarked_all pages (marked p marks) q (omega (arith, lt, length-set marks p true)) off) where
  with_rest : (is_marked (marked p marks) q ≡ false) × (Contains pages q → ⊥) → (is_marked marks q ≡ false) × (Contains (p ∷ pages) q → ⊥)
  with_rest rest = (sym (marked_other p q marks ne) ∙ rest.0, λ one. by_place one.0 one.1 one.2) where
    ne : q ≡ p → ⊥
    ne at = not_both (is_marked (marked p marks) q) (marked_same p q marks (omega (arith, lt, at)) at) rest.0

    by_place : (k : ℕ) → k < length (p ∷ pages) → slice_index_or (p ∷ pages) k q ≡ q → ⊥
    by_place zero inside is = ne (sym is)
    by_place (suc k) inside is = rest.1 (k, omega (arith, inside), is)
