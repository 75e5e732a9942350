-- What a member read of the copies.
use Rattle.std.proofs.Common.{◌≡◌, ◌⊎◌, inl, inr, ⊎_elim, slice_set, ℕ, suc, zero, ◌+◌, ◌≤◌, ◌<◌, Bool, true, false, List, [], ◌∷◌, ◌++◌, length, take, drop, Option, Some, None, not, Result, Ok, Err, refl, sym, ◌∙◌, ap, subst, arith, All, append-nil}
use Rattle.std.specs.Prelude.{IfSome, OnOk}
use Rattle.std.specs.List.{refill}
use Rattle.std.specs.Option.{is_some}
use Rattle.std.proofs.lemmas.List.{drop_all, drop_at, length-append, length-set, take-append-le, take_all}
use Rattle.std.proofs.lemmas.List.Elements.{All-head, All-tail}
use Rattle.mas_types.specs.declared.ids.Dev.TheVariants.{Ckpt1, Ckpt2}
use Rattle.member_node.specs.declared.member.NodeNo.{NodeNo}
use Rattle.member_node.specs.declared.member.NodeNo.TheVariants as node
use Rattle.mas_types.specs.declared.ids.Page.{Page}
use Rattle.mas_types.specs.declared.queues.Queue.{Queue}
use Rattle.mas_types.specs.declared.queues.Config.{Config}
use Rattle.mas_types.specs.Limits.{page_bytes}
use Rattle.ckpt_copy.specs.Pages.{bytes_of, level, page_in as page_of_bytes}
use Rattle.ckpt_tables.specs.declared.tables.Tables.{Tables}
use Rattle.ckpt_pages.specs.Checkpoints.{IsCheckpoint, IsLeastBad, SpellSome, SpellsOneAtMost}
use Rattle.ckpt_pages.specs.Given.{levels_given, AreTheirLevels}
use Rattle.ckpt_tables.specs.Pages.{page_in}
use Rattle.ckpt_tables.specs.Shape.{page_count}
use Rattle.queue_telling.specs.Orders.{HaveOrders}
use Rattle.queue_telling.specs.Telling.{Tell}
use Rattle.mas_complex.specs.Meaning.{StandFor}
use Rattle.member_node.specs.declared.checkpoint.Checkpoint.{Checkpoint}
use Rattle.member_node.specs.Drawn.{AreDrawn}
use Rattle.mas_types.specs.declared.ids.Dev.{Dev}
use Rattle.spool_plant.specs.View.{View, disk_now}
use Rattle.duplex_pair.specs.ActCounts.{after_acts, copies_failed}
use Rattle.duplex_pair.specs.Both.{PairActed}
use Rattle.duplex_pair.specs.Halves.{SomeAlive}
use Rattle.duplex_pair.proofs.ActCounting.{acts_then}
use Rattle.mas_complex.specs.Elsewhere.{OnCopies}
use Rattle.member_node.specs.Reads.{AreLow, ArePagesOf, HasRead, IsRead, IsReadIn, IsReadWhole, IsUpTo, MayGoOn, ReadCauses, ReadInCauses, ReadsAs, ReadsLow, StandAt, TookActs, copies_alive, orders_after, too_high}
use Rattle.member_node.specs.Copies.{Reading, RestsAt}
use Rattle.member_node.specs.Spares.{Spares, is_stop}
use Rattle.ckpt_places.specs.declared.places.Place.{Place}
use Rattle.mas_complex.specs.Journals.{journal_most}
use Rattle.mas_complex.specs.CallCounts.{pair_at}
use Rattle.member_node.proofs.CourseLemmas.{no as not_both, rose_later, apart_none, apart_on, apart_then, course_none, course_of, course_then}
use Rattle.member_node.proofs.DrawnLemmas.{drawn_level, page_joined}
use Rattle.member_node.proofs.SpareLemmas.{spares_for, spares_none, spares_then}

-- THE SAME PAGES

page_same : (x y : Page) → x.0 ≡ y.0 → x ≡ y
page_same x y e = ap (λ (bytes : List ℕ). record { 0 = bytes }) e

pub pages_same : (xs ys : List Page) → length xs ≡ length ys → ((q : ℕ) → q < length xs → page_in xs q ≡ page_in ys q) → xs ≡ ys
pages_same [] [] many each = refl
pages_same [] (y ∷ ys) many each = absurd (omega (arith, many))
pages_same (x ∷ xs) [] many each = absurd (omega (arith, many))
pages_same (x ∷ xs) (y ∷ ys) many each =
    ap (λ (p : Page). p ∷ xs) (page_same x y (each 0 (omega arith)))
    ∙ ap (λ (ps : List Page). y ∷ ps) (pages_same xs ys (omega (arith, many)) (λ q lt. each (suc q) (omega (arith, lt))))

-- pages of one size are known by their bytes
pub same_pages : (xs ys : List Page) → All (λ page. length page.0 ≡ page_bytes) xs → All (λ page. length page.0 ≡ page_bytes) ys → bytes_of xs ≡ bytes_of ys → xs ≡ ys
same_pages [] [] sx sy e = refl
same_pages [] (y ∷ ys) sx sy e = absurd (empty y ys (All-head (λ page. length page.0 ≡ page_bytes) y ys sy) e) where
  empty : (y : Page) (ys : List Page) → length y.0 ≡ page_bytes → [] ≡ y.0 ++ bytes_of ys → ⊥
  empty y ys size e = omega (arith, ap (length {A = ℕ}) e, length-append y.0 (bytes_of ys), size)
same_pages (x ∷ xs) [] sx sy e = absurd (empty x xs (All-head (λ page. length page.0 ≡ page_bytes) x xs sx) e) where
  empty : (x : Page) (xs : List Page) → length x.0 ≡ page_bytes → x.0 ++ bytes_of xs ≡ [] → ⊥
  empty x xs size e = omega (arith, ap (length {A = ℕ}) e, length-append x.0 (bytes_of xs), size)
same_pages (x ∷ xs) (y ∷ ys) sx sy e =
    let hx : length x.0 ≡ page_bytes = All-head (λ page. length page.0 ≡ page_bytes) x xs sx in
    let hy : length y.0 ≡ page_bytes = All-head (λ page. length page.0 ≡ page_bytes) y ys sy in
    let front : x.0 ≡ y.0 = sym (front_of x.0 (bytes_of xs) hx) ∙ ap (take page_bytes) e ∙ front_of y.0 (bytes_of ys) hy in
    let rest : bytes_of xs ≡ bytes_of ys = sym (drop_at x.0 (bytes_of xs) page_bytes hx) ∙ ap (drop page_bytes) e ∙ drop_at y.0 (bytes_of ys) page_bytes hy in
    ap (λ (p : Page). p ∷ xs) (page_same x y front) ∙ ap (λ (ps : List Page). y ∷ ps)
    (same_pages xs ys (All-tail (λ page. length page.0 ≡ page_bytes) x xs sx) (All-tail (λ page. length page.0 ≡ page_bytes) y ys sy) rest) where
      front_of : (a b : List ℕ) → length a ≡ page_bytes → take page_bytes (a ++ b) ≡ a
      front_of a b h = take-append-le page_bytes a b (omega arith) ∙ take_all page_bytes a (omega arith)

-- pages that stand for a queue spell its configuration's number of pages
stand_many : (Q : Queue) (was : List ℕ) (stand : StandFor Q was) → length stand.pages ≡ page_count Q.config
stand_many Q was stand = stand.tell.spell.count ∙ ap page_count (sym stand.tell.tell.config)

module _ (Q : Queue) (was : List ℕ) (stand : StandFor Q was) (room : List Page) (many : page_count Q.config ≡ length room) (read : ArePagesOf 0 (length room) was room) where
  -- what was read page by page is what stands there
  pub room_is : room ≡ stand.pages
  room_is = pages_same room stand.pages (sym many ∙ sym (stand_many Q was stand)) (λ q lt.
      read q (omega arith) lt ∙ ap (page_of_bytes q) (sym stand.joined)
      ∙ page_joined stand.pages q stand.sized (omega (arith, lt, many, stand_many Q was stand)))

  pub room_bytes : bytes_of room ≡ was
  room_bytes = ap bytes_of room_is ∙ stand.joined

  pub room_stands : (reached : ℕ) → level was ≡ reached → StandAt Q reached room
  room_stands reached at = record {
    at_level = ap level room_bytes ∙ at;
    queue = subst (StandFor Q) (sym room_bytes) stand;
  }

  pub room_spells : SpellSome room
  room_spells = subst SpellSome (sym room_is) (
    stand.tell.tables,
    record {
      level = stand.level;
      levels = stand.tell.levels;
      fit = stand.tell.fit;
      ages = stand.tell.ages;
      spell = stand.tell.spell;
    },
  )

-- pages that spell tables have no page that is no spelling
pub none_bad : (pages : List Page) (p : ℕ) → SpellSome pages → IsLeastBad pages p → ⊥
none_bad pages p some bad =
    let t = some.0 in
    let is = some.1 in
    bad.bad (record {
      tables = t;
      level = is.level;
      levels = is.levels;
      fit = is.fit;
      ages = is.ages;
      count = is.spell.count;
      header = is.spell.each 0 (omega (arith, is.spell.count));
      is = is.spell.each p (within p bad.within);
    }) where
      within : (q : ℕ) → (1 ≤ q → q < length pages) → q < length pages
      within zero h = omega (arith, some.1.spell.count)
      within (suc q) h = h (omega arith)

pub some_is_bad : (pages : List Page) (r : Option ℕ) (none : Bool) → is_some r ≡ not none → none ≡ false → IfSome r (IsLeastBad pages) → SpellSome pages → ⊥
some_is_bad pages None none is so bad some = absurd (cc)
some_is_bad pages (Some p) none is so bad some = none_bad pages p some bad

-- A SLICE OF A MEMBER'S ROOM

refill_same : {A : Type 0} (xs ws : List A) → length ws ≡ length xs → refill (length xs) xs ws ≡ ws
refill_same xs ws long =
    let over : drop (length ws) xs ≡ [] = drop_all (length ws) xs (omega arith) in
    rw (over, append-nil ws) (take_all (length xs) ws (omega arith))

pub room_after : (room slice now : List Page) → slice ≡ room → length now ≡ length slice → refill (length room) room now ≡ now
room_after room slice now is long = refill_same room now (long ∙ ap (length {A = Page}) is)

pub on_ok : {T E A B : Type 0} (r : Result T E) → OnOk r A → (A → B) → OnOk r B
on_ok (Ok value) held f = f held
on_ok (Err e) held f = tt

-- ONE PAGE MORE

-- a page is what it is whatever it is called
one_page : (page : ℕ) (was kept into : List ℕ) → kept ≡ was → into ≡ page_of_bytes page kept → into ≡ page_of_bytes page was
one_page page was kept into same is = is ∙ ap (page_of_bytes page) same

some_same : (a b : List ℕ) (read : Option (List ℕ)) → read ≡ Some a → read ≡ Some b → a ≡ b
some_same a b read x y = cc

-- A page that was read, where pages are kept with which each copy that counts as alive rests: it is the page of what
-- these copies read.
module _ (rests1 rests2 : List ℕ → Type 0) (read1 read2 : Option (List ℕ)) (reads1 : (w : List ℕ) → rests1 w → read1 ≡ Some w) (reads2 : (w : List ℕ) → rests2 w → read2 ≡ Some w)
    (page : ℕ) (into was kept : List ℕ) where
  pub page_by : (alive1 alive2 : Bool) → (alive1 ≡ true → rests1 kept) → (alive2 ≡ true → rests2 kept) → (alive1 ≡ true → read1 ≡ Some was) → (alive2 ≡ true → read2 ≡ Some was)
      → ((w : List ℕ) → (alive1 ≡ true → rests1 w) → (alive1 ≡ false → rests2 w) → into ≡ page_of_bytes page w) → (alive1 ≡ false → alive2 ≡ true) → into ≡ page_of_bytes page was
  page_by true alive2 at1 at2 is1 is2 read some =
      one_page page was kept into (some_same kept was read1 (reads1 kept (at1 refl)) (is1 refl)) (read kept at1 (λ e. absurd (cc)))
  page_by false alive2 at1 at2 is1 is2 read some =
      one_page page was kept into (some_same kept was read2 (reads2 kept (at2 (some refl))) (is2 (some refl))) (read kept at1 (λ e. at2 (some refl)))

-- THE TABLES

-- the checkpoint of pages that spell these tables
pub up_to : AreTheirLevels → (config : Config) (pages : List Page) (t : Tables) (levels : List ℕ) → (is : IsCheckpoint pages t) → All (λ page. length page.0 ≡ page_bytes) pages → levels ≡ levels_given pages
    → MayGoOn config pages t → (k : Checkpoint) → k.tables ≡ t → k.levels ≡ levels → k.level ≡ level (bytes_of pages) → k.pages ≡ pages → IsUpTo config pages k
up_to given config pages t levels is sized are may k same_t same_ls same_l same_ps =
    let ls : k.levels ≡ is.levels = same_ls ∙ are ∙ given pages t is in
    let drawn : AreDrawn t is.level is.levels pages = record { spelling = is.fit; leveled = is.ages; spelled = is.spell; sized = sized } in
    let l : k.level ≡ is.level = same_l ∙ drawn_level t is.level is.levels pages drawn in
    record {
      has = same_ps;
      drawn = rw (same_t, ls, l, same_ps) drawn;
      may = rw same_t may;
    }

-- where these stand for a queue the tables tell it, and have no order twice
pub tell_up_to : SpellsOneAtMost → ((xs ys : List Page) → All (λ page. length page.0 ≡ page_bytes) xs → All (λ page. length page.0 ≡ page_bytes) ys → bytes_of xs ≡ bytes_of ys → xs ≡ ys)
    → (Q : Queue) (reached : ℕ) (config : Config) (pages : List Page) (k : Checkpoint) → StandAt Q reached pages → IsUpTo config pages k → Tell k.tables Q × (reached ≡ k.level) × HaveOrders k.tables
tell_up_to one joined Q reached config pages k stand up =
    let s = stand.queue in
    let same : s.pages ≡ k.pages = joined s.pages k.pages s.sized up.drawn.sized (s.joined ∙ ap bytes_of (sym up.has)) in
    let own : IsCheckpoint k.pages k.tables = record { level = k.level; levels = k.levels; fit = up.drawn.spelling; ages = up.drawn.leveled; spell = up.drawn.spelled } in
    let theirs : IsCheckpoint k.pages s.tell.tables = subst (λ (ps : List Page). IsCheckpoint ps s.tell.tables) same
    (record { level = s.level; levels = s.tell.levels; fit = s.tell.fit; ages = s.tell.ages; spell = s.tell.spell }) in
    let same_t : s.tell.tables ≡ k.tables = one k.pages s.tell.tables k.tables theirs own in (
      subst (λ (t : Tables). Tell t Q) same_t s.tell.tell,
      sym stand.at_level ∙ ap (λ (ps : List Page). level (bytes_of ps)) (sym up.has) ∙ drawn_level k.tables k.level k.levels k.pages up.drawn,
      subst HaveOrders same_t s.tell.orders,
    )

-- PAGES READ ONE AFTER ANOTHER

pub page_set : (pages : List Page) (p q : ℕ) (page : Page) → p < length pages → (q ≡ p → page_in (slice_set pages p page) q ≡ page.0) × ((q ≡ p → ⊥) → page_in (slice_set pages p page) q ≡ page_in pages q)
page_set [] p q page lt = absurd (omega arith)
page_set (x ∷ xs) zero zero page lt = ((λ e. refl), λ ne. absurd (ne refl))
page_set (x ∷ xs) zero (suc q) page lt = ((λ e. absurd (omega (arith, e))), λ ne. refl)
page_set (x ∷ xs) (suc p) zero page lt = ((λ e. absurd (omega (arith, e))), λ ne. refl)
page_set (x ∷ xs) (suc p) (suc q) page lt =
    let rest = page_set xs p q page (omega (arith, lt)) in
    ((λ e. rest.0 (omega (arith, e))), λ ne. rest.1 (λ e. ne (ap suc e)))

pub front_set : (first page : ℕ) (was : List ℕ) (pages : List Page) (into : Page) → first ≤ page → page < length pages → ArePagesOf 0 first was pages → ArePagesOf 0 first was (slice_set pages page into)
front_set first page was pages into le lt are q from to = (page_set pages page q into lt).1 (λ e. absurd (omega (arith, e, to, le))) ∙ are q from to

-- one page more of those that the copies have
pub pages_more : (first page : ℕ) (was : List ℕ) (pages : List Page) (into : Page) → page < length pages → ArePagesOf first page was pages → into.0 ≡ page_of_bytes page was → ArePagesOf first (page + 1) was (slice_set pages page into)
pages_more first page was pages into lt before is q from to = by_place (either_less q page (omega (arith, to))) where
  either_less : (a b : ℕ) → a ≤ b → (a < b) ⊎ (a ≡ b)
  either_less zero zero le = inr refl
  either_less zero (suc b) le = inl (omega arith)
  either_less (suc a) zero le = absurd (omega (arith, le))
  either_less (suc a) (suc b) le = ⊎_elim (λ less. inl (omega (arith, less))) (λ same. inr (ap suc same)) (either_less a b (omega (arith, le)))

  by_place : (q < page) ⊎ (q ≡ page) → page_in (slice_set pages page into) q ≡ page_of_bytes q was
  by_place (inl less) = (page_set pages page q into lt).1 (λ e. absurd (omega (arith, less, e))) ∙ before q from less
  by_place (inr same) = (page_set pages page q into lt).0 same ∙ is ∙ ap (λ (n : ℕ). page_of_bytes n was) (sym same)

-- the first page alone
pub first_page_of : (room slice : List Page) (into : Page) (was : List ℕ) → slice ≡ room → 1 ≤ length room → into.0 ≡ page_of_bytes 0 was → ArePagesOf 0 1 was (refill (length room) room (slice_set slice 0 into))
first_page_of room slice into was same some is =
    let long : length (slice_set slice 0 into) ≡ length slice = length-set slice 0 into in
    let one : ArePagesOf 0 1 was (slice_set slice 0 into) = pages_more 0 0 was slice into (omega (arith, some, ap (length {A = Page}) same)) (λ q from to. absurd (omega (arith, to))) is in
    subst (ArePagesOf 0 1 was) (sym (room_after room slice (slice_set slice 0 into) same long)) one

-- what a loop over pages keeps: it began with the room as it was, at the first page
pub record IsReadTo (told : Type 0) (by : ℕ) (was1 is1 was2 is2 : Bool) (old new : View) (reads : List ℕ → Option (List ℕ)) (first page : ℕ) (room now : List Page) : Type 0 where
  pub acts : HasRead told (pair_at was1 was2 old) (pair_at is1 is2 new)
  pub spares : Spares by false old new
  pub loses : (d : Dev) → new.loses d ≡ old.loses d
  pub many : length now ≡ length room
  pub front : (was : List ℕ) → ArePagesOf 0 first was room → ArePagesOf 0 first was now
  pub pages : told → (was : List ℕ) → ReadsAs told was1 (reads (disk_now old Ckpt1).bytes) was → ReadsAs told was2 (reads (disk_now old Ckpt2).bytes) was → ArePagesOf first page was now
  pub some : (page ≡ first) ⊎ SomeAlive is1 is2

pub read_none : (told : Type 0) (a b : Bool) (v : View) → HasRead told (pair_at a b v) (pair_at a b v)
read_none told a b v = record { course = course_none a b v; loses = λ t d. refl; apart = λ t. apart_none v; bytes = λ t d. refl }

-- one read of both copies
pub read_acted : (told : Type 0) (by : ℕ) (a a' b b' stopped : Bool) (old new : View) → PairActed by a a' b b' stopped old new → (told → OnCopies old new) → (told → (d : Dev) → (disk_now new d).bytes ≡ (disk_now old d).bytes) → HasRead told (pair_at a b old) (pair_at a' b' new)
read_acted told by a a' b b' stopped old new acted on bytes = record {
  course = course_of by a a' b b' stopped old new acted;
  loses = λ t d. acted.loses d;
  apart = λ t. apart_on old new (on t);
  bytes = bytes;
}

pub read_then : (told : Type 0) (a a' a'' b b' b'' : Bool) (v0 v1 v2 : View) → HasRead told (pair_at a b v0) (pair_at a' b' v1) → HasRead told (pair_at a' b' v1) (pair_at a'' b'' v2) → HasRead told (pair_at a b v0) (pair_at a'' b'' v2)
read_then told a a' a'' b b' b'' v0 v1 v2 x y = record {
  course = course_then a a' a'' b b' b'' v0 v1 v2 x.course y.course;
  loses = λ t d. y.loses t d ∙ x.loses t d;
  apart = λ t. apart_then v0 v1 v2 x.course.goes.later y.course.goes (x.apart t) (y.apart t);
  bytes = λ t d. y.bytes t d ∙ x.bytes t d;
}

-- page 0 was read, and so many pages after it
pub acts_both : (n many : ℕ) (a a' a'' b b' b'' : Bool) (v0 v1 v2 : View) (told : Type 0) → HasRead told (pair_at a b v0) (pair_at a' b' v1) → HasRead told (pair_at a' b' v1) (pair_at a'' b'' v2) → n ≡ many → TookActs 1 (pair_at a b v0) (pair_at a' b' v1) → TookActs n (pair_at a' b' v1) (pair_at a'' b'' v2) → TookActs (1 + many) (pair_at a b v0) (pair_at a'' b'' v2)
acts_both n many a a' a'' b b' b'' v0 v1 v2 told x y same one rest =
    acts_then 1 n a a' a'' b b' b'' v0.now v1.now v2.now x.course.alive1 y.course.alive1 x.course.alive2 y.course.alive2 one rest ∙ ap (λ (k : ℕ). after_acts ((1 + k) + copies_failed a a'' b b'') v0.now) same

-- what each copy reads stays, so it reads the same pages by a later moment's name
pub reads_earlier : (told : Type 0) (alive alive' : Bool) (read read' : Option (List ℕ)) (was : List ℕ) → (alive' ≡ true → alive ≡ true) → (told → read' ≡ read) → ReadsAs told alive read was → ReadsAs told alive' read' was
reads_earlier told alive alive' read read' was alives same reads t on = same t ∙ reads t (alives on)

-- the copies read the same by their bytes after calls that only read
pub reads_kept : (told : Type 0) (a a' b b' : Bool) (old new : View) (reads : List ℕ → Option (List ℕ)) (was : List ℕ) → HasRead told (pair_at a b old) (pair_at a' b' new)
    → (ReadsAs told a (reads (disk_now old Ckpt1).bytes) was → ReadsAs told a' (reads (disk_now new Ckpt1).bytes) was)
    × (ReadsAs told b (reads (disk_now old Ckpt2).bytes) was → ReadsAs told b' (reads (disk_now new Ckpt2).bytes) was)
reads_kept told a a' b b' old new reads was acts = (
  reads_earlier told a a' (reads (disk_now old Ckpt1).bytes) (reads (disk_now new Ckpt1).bytes) was acts.course.alive1 (λ t. ap reads (acts.bytes t Ckpt1)),
  reads_earlier told b b' (reads (disk_now old Ckpt2).bytes) (reads (disk_now new Ckpt2).bytes) was acts.course.alive2 (λ t. ap reads (acts.bytes t Ckpt2)),
)

-- no page was read yet
pub read_start : (told : Type 0) (by : ℕ) (a b : Bool) (v : View) (reads : List ℕ → Option (List ℕ)) (first : ℕ) (room : List Page) → IsReadTo told by a a b b v v reads first first room room
read_start told by a b v reads first room = record {
  acts = read_none told a b v;
  spares = spares_none by v;
  loses = λ d. refl;
  many = refl;
  front = λ was are. are;
  pages = λ t was one two q from to. absurd (omega (arith, from, to));
  some = inl refl;
}

-- one page more was read
pub read_more : (told : Type 0) (by : ℕ) (a a' a'' b b' b'' : Bool) (v0 v1 v2 : View) (reads : List ℕ → Option (List ℕ)) (first page : ℕ) (room now : List Page) (into : Page)
    → IsReadTo told by a a' b b' v0 v1 reads first page room now → first ≤ page → page < length now → HasRead told (pair_at a' b' v1) (pair_at a'' b'' v2) → Spares by false v1 v2 → ((d : Dev) → v2.loses d ≡ v1.loses d) → SomeAlive a'' b''
    → (told → (was : List ℕ) → ReadsAs told a'' (reads (disk_now v2 Ckpt1).bytes) was → ReadsAs told b'' (reads (disk_now v2 Ckpt2).bytes) was → into.0 ≡ page_of_bytes page was)
    → IsReadTo told by a a'' b b'' v0 v2 reads first (page + 1) room (slice_set now page into)
read_more told by a a' a'' b b' b'' v0 v1 v2 reads first page room now into x le lt acts spares loses some is =
    let all : HasRead told (pair_at a b v0) (pair_at a'' b'' v2) = read_then told a a' a'' b b' b'' v0 v1 v2 x.acts acts in
    record {
      acts = all;
      spares = spares_then by false v0 v1 v2 x.spares spares;
      loses = λ d. loses d ∙ x.loses d;
      many = length-set now page into ∙ x.many;
      front = λ was are. front_set first page was now into le lt (x.front was are);
      pages = λ t was one two.
          let k = reads_kept told a a'' b b'' v0 v2 reads was all in
          pages_more first page was now into lt (x.pages t was one two) (is t was (k.0 one) (k.1 two));
      some = inr some;
    }

-- BOTH READS

-- page 0 stood there, and the pages after it were read
pub read_whole : (told : Type 0) (Q : Queue) (reached : ℕ) (a a' b b' : Bool) (v0 v1 : View) (reads : List ℕ → Option (List ℕ)) (room now : List Page) → HasRead told (pair_at a b v0) (pair_at a' b' v1) → told
    → (was : List ℕ) → level was ≡ reached → StandFor Q was → (a ≡ true → reads (disk_now v0 Ckpt1).bytes ≡ Some was) → (b ≡ true → reads (disk_now v0 Ckpt2).bytes ≡ Some was)
    → ((w : List ℕ) → ReadsAs told a (reads (disk_now v0 Ckpt1).bytes) w → ReadsAs told b (reads (disk_now v0 Ckpt2).bytes) w → ArePagesOf 0 1 w room)
    → ((w : List ℕ) → ArePagesOf 0 1 w room → ArePagesOf 0 1 w now)
    → ((w : List ℕ) → ReadsAs told a (reads (disk_now v0 Ckpt1).bytes) w → ReadsAs told b (reads (disk_now v0 Ckpt2).bytes) w → ArePagesOf 1 (length now) w now)
    → IsReadWhole Q reached (a', reads (disk_now v1 Ckpt1).bytes) (b', reads (disk_now v1 Ckpt2).bytes) now
read_whole told Q reached a a' b b' v0 v1 reads room now acts t was at queue one two page before rest =
    let k = reads_kept told a a' b b' v0 v1 reads was acts in
    record {
      was = was;
      at_level = at;
      queue = queue;
      first = k.0 (λ t' on. one on) t;
      second = k.1 (λ t' on. two on) t;
      pages = from_both was now (before was (page was (λ t' on. one on) (λ t' on. two on))) (rest was (λ t' on. one on) (λ t' on. two on));
    } where
      from_both : (w : List ℕ) (ps : List Page) → ArePagesOf 0 1 w ps → ArePagesOf 1 (length ps) w ps → ArePagesOf 0 (length ps) w ps
      from_both w ps x y zero from to = x zero from (omega arith)
      from_both w ps x y (suc q) from to = y (suc q) (omega arith) to

-- what has no page that is no spelling spells tables, and else nothing is told
pub whole_spells : (Q : Queue) (reached : ℕ) (one two : Reading) (room : List Page) → page_count Q.config ≡ length room → IsReadWhole Q reached one two room → SpellSome room
whole_spells Q reached one two room many w = room_spells Q w.was w.queue room many w.pages

pub whole_stands : (Q : Queue) (reached : ℕ) (one two : Reading) (room : List Page) → page_count Q.config ≡ length room → IsReadWhole Q reached one two room → StandAt Q reached room
whole_stands Q reached one two room many w = room_stands Q w.was w.queue room many w.pages reached w.at_level

pub whole_bytes : (Q : Queue) (reached : ℕ) (one two : Reading) (room : List Page) → page_count Q.config ≡ length room → (w : IsReadWhole Q reached one two room) → bytes_of room ≡ w.was
whole_bytes Q reached one two room many w = room_bytes Q w.was w.queue room many w.pages

-- the answer of a read that comes after others
pub cause_later : {T : Type 0} (r : Result T NodeNo) (by : ℕ) (is1 is2 : Bool) (v0 v1 v2 : View) → v0.stops by ≤ v1.stops by → ReadCauses r by is1 is2 v1 v2 → ReadCauses r by is1 is2 v0 v2
cause_later (Ok done) by is1 is2 v0 v1 v2 le cause = cause
cause_later (Err node.BothLost) by is1 is2 v0 v1 v2 le cause = cause
cause_later (Err node.Halted) by is1 is2 v0 v1 v2 le cause = (cause.0, rose_later (v0.stops by) (v1.stops by) (v2.stops by) le cause.1)
cause_later (Err node.ConsoleFault) by is1 is2 v0 v1 v2 le cause = cause
cause_later (Err node.NoMemory) by is1 is2 v0 v1 v2 le cause = cause

-- the cause of an error is the same whatever the answer would have been
pub cause_as : (T U : Type 0) (e : NodeNo) (by : ℕ) (is1 is2 : Bool) (v0 v1 : View) → ReadCauses {T = T} (Err e) by is1 is2 v0 v1 → ReadCauses {T = U} (Err e) by is1 is2 v0 v1
cause_as T U node.BothLost by is1 is2 v0 v1 cause = cause
cause_as T U node.Halted by is1 is2 v0 v1 cause = cause
cause_as T U node.ConsoleFault by is1 is2 v0 v1 cause = cause
cause_as T U node.NoMemory by is1 is2 v0 v1 cause = cause

pub cause_in : (T U : Type 0) (e : NodeNo) (by : ℕ) (is1 is2 : Bool) (v0 v1 : View) → ReadCauses {T = T} (Err e) by is1 is2 v0 v1 → ReadInCauses {T = U} (Err e) by is1 is2 v0 v1
cause_in T U node.BothLost by is1 is2 v0 v1 cause = cause
cause_in T U node.Halted by is1 is2 v0 v1 cause = cause
cause_in T U node.ConsoleFault by is1 is2 v0 v1 cause = cause
cause_in T U node.NoMemory by is1 is2 v0 v1 cause = absurd cause

-- the same error, whatever the answer would have been
pub error_as : (T U : Type 0) (told : Type 0) (by : ℕ) (a a' b b' : Bool) (v0 v1 : View) (e : NodeNo) → IsRead {T = T} told by (pair_at a b v0) (pair_at a' b' v1) (Err e) → IsRead {T = U} told by (pair_at a b v0) (pair_at a' b' v1) (Err e)
error_as T U told by a a' b b' v0 v1 e x = record { acts = x.acts; cause = cause_as T U e by a' b' v0 v1 x.cause; spares = x.spares }

-- an error after other reads
pub error_later : (T U : Type 0) (told : Type 0) (by : ℕ) (a a' a'' b b' b'' : Bool) (v0 v1 v2 : View) (e : NodeNo) → HasRead told (pair_at a b v0) (pair_at a' b' v1) → Spares by false v0 v1 → IsRead {T = T} told by (pair_at a' b' v1) (pair_at a'' b'' v2) (Err e) → IsRead {T = U} told by (pair_at a b v0) (pair_at a'' b'' v2) (Err e)
error_later T U told by a a' a'' b b' b'' v0 v1 v2 e x spares y = record {
  acts = read_then told a a' a'' b b' b'' v0 v1 v2 x y.acts;
  cause = cause_as T U e by a'' b'' v0 v2 (cause_later {T = T} (Err e) by a'' b'' v0 v1 v2 (x.course.goes.stops by) y.cause);
  spares = spares_then by (is_stop e) v0 v1 v2 spares y.spares;
}

-- the last copy was lost after other reads
pub lost_later_read : (U : Type 0) (told : Type 0) (by : ℕ) (a a' a'' b b' b'' : Bool) (v0 v1 v2 : View) (e : NodeNo) → HasRead told (pair_at a b v0) (pair_at a' b' v1) → Spares by false v0 v1 → e ≡ node.BothLost → IsRead {T = Unit {0}} told 0 (pair_at a' b' v1) (pair_at a'' b'' v2) (Err e) → IsRead {T = U} told by (pair_at a b v0) (pair_at a'' b'' v2) (Err e)
lost_later_read U told by a a' a'' b b' b'' v0 v1 v2 node.BothLost x spares is y = record { acts = read_then told a a' a'' b b' b'' v0 v1 v2 x y.acts; cause = y.cause; spares = spares_then by false v0 v1 v2 spares (spares_for by 0 v1 v2 y.spares) }
lost_later_read U told by a a' a'' b b' b'' v0 v1 v2 node.Halted x spares is y = absurd (cc)
lost_later_read U told by a a' a'' b b' b'' v0 v1 v2 node.ConsoleFault x spares is y = absurd (cc)
lost_later_read U told by a a' a'' b b' b'' v0 v1 v2 node.NoMemory x spares is y = absurd (cc)

-- an error of the first reads, where the tables are brought up too
pub in_first : (told : Type 0) (by : ℕ) (a a' b b' : Bool) (v0 v1 : View) (e : NodeNo) → IsRead {T = Unit {0}} told by (pair_at a b v0) (pair_at a' b' v1) (Err e) → IsReadIn {T = Unit {0}} told by (pair_at a b v0) (pair_at a' b' v1) (Err e)
in_first told by a a' b b' v0 v1 e y = record { acts = y.acts; cause = cause_in (Unit {0}) (Unit {0}) e by a' b' v0 v1 y.cause; spares = y.spares }

-- an error after other reads
pub in_error : (T U : Type 0) (told : Type 0) (by : ℕ) (a a' a'' b b' b'' : Bool) (v0 v1 v2 : View) (e : NodeNo) → HasRead told (pair_at a b v0) (pair_at a' b' v1) → Spares by false v0 v1 → IsRead {T = T} told by (pair_at a' b' v1) (pair_at a'' b'' v2) (Err e) → IsReadIn {T = U} told by (pair_at a b v0) (pair_at a'' b'' v2) (Err e)
in_error T U told by a a' a'' b b' b'' v0 v1 v2 e x spares y =
    let z : IsRead {T = U} told by (pair_at a b v0) (pair_at a'' b'' v2) (Err e) = error_later T U told by a a' a'' b b' b'' v0 v1 v2 e x spares y in
    record { acts = z.acts; cause = cause_in U U e by a'' b'' v0 v2 z.cause; spares = z.spares }

pub in_lost : (U : Type 0) (told : Type 0) (by : ℕ) (a a' a'' b b' b'' : Bool) (v0 v1 v2 : View) (e : NodeNo) → HasRead told (pair_at a b v0) (pair_at a' b' v1) → Spares by false v0 v1 → e ≡ node.BothLost → IsRead {T = Unit {0}} told 0 (pair_at a' b' v1) (pair_at a'' b'' v2) (Err e) → IsReadIn {T = U} told by (pair_at a b v0) (pair_at a'' b'' v2) (Err e)
in_lost U told by a a' a'' b b' b'' v0 v1 v2 e x spares is y =
    let z : IsRead {T = U} told by (pair_at a b v0) (pair_at a'' b'' v2) (Err e) = lost_later_read U told by a a' a'' b b' b'' v0 v1 v2 e x spares is y in
    record { acts = z.acts; cause = cause_in U U e by a'' b'' v0 v2 z.cause; spares = z.spares }

pub in_memory : (U : Type 0) (told : Type 0) (by : ℕ) (a a' b b' : Bool) (v0 v1 : View) (e : NodeNo) → e ≡ node.NoMemory → HasRead told (pair_at a b v0) (pair_at a' b' v1) → Spares by false v0 v1 → SomeAlive a' b' → IsReadIn {T = U} told by (pair_at a b v0) (pair_at a' b' v1) (Err e)
in_memory U told by a a' b b' v0 v1 e is x spares some = subst (λ (n : NodeNo). IsReadIn {T = U} told by (pair_at a b v0) (pair_at a' b' v1) (Err n)) (sym is) (record { acts = x; cause = some; spares = spares })

-- A COPY IS LOST BY A MEMBER

pub fewer_then : (more : ℕ) (a a' b b' : Bool) → (a' ≡ true → a ≡ true) → (b' ≡ true → b ≡ true) → copies_alive a b < more → copies_alive a' b' < more
fewer_then more true true true true one two less = less
fewer_then more true true true false one two less = omega (arith, less)
fewer_then more true true false false one two less = less
fewer_then more true true false true one two less = absurd (not_both false (two refl) refl)
fewer_then more true false true true one two less = omega (arith, less)
fewer_then more true false true false one two less = omega (arith, less)
fewer_then more true false false false one two less = omega (arith, less)
fewer_then more true false false true one two less = absurd (not_both false (two refl) refl)
fewer_then more false true b b' one two less = absurd (not_both false (one refl) refl)
fewer_then more false false true true one two less = less
fewer_then more false false true false one two less = omega (arith, less)
fewer_then more false false false false one two less = less
fewer_then more false false false true one two less = absurd (not_both false (two refl) refl)

-- the copy that is read while the first isn't
pub other_alive : (a b : Bool) → SomeAlive a b → a ≡ false → b ≡ true
other_alive true b some off = absurd (cc)
other_alive false b some off = some

-- WHAT A COPY READS IS LOW AGAIN, after a write

some_is : (a b : List ℕ) (read : Option (List ℕ)) → read ≡ Some a → read ≡ Some b → a ≡ b
some_is a b read x y = cc

pub low_again : SpellsOneAtMost → ((xs ys : List Page) → All (λ page. length page.0 ≡ page_bytes) xs → All (λ page. length page.0 ≡ page_bytes) ys → bytes_of xs ≡ bytes_of ys → xs ≡ ys)
    → (told : Type 0) (alive : Bool) (place : Place) (count : ℕ) (config : Config) (batches : ℕ) (k : Checkpoint) (read : Option (List ℕ)) → AreDrawn k.tables k.level k.levels k.pages → AreLow config batches k.tables
    → RestsAt told alive place count k.pages read → ReadsLow told alive config batches read
low_again one joined told alive place count config batches k read drawn low rests t on pages u sized is spells =
    let same : pages ≡ k.pages = joined pages k.pages sized drawn.sized (some_is (bytes_of pages) (bytes_of k.pages) read is (rests.reads t on)) in
    let own : IsCheckpoint k.pages k.tables = record { level = k.level; levels = k.levels; fit = drawn.spelling; ages = drawn.leveled; spell = drawn.spelled } in
    subst (AreLow config batches) (one k.pages k.tables u own (subst (λ (ps : List Page). IsCheckpoint ps u) same spells)) low

-- a member may go on from pages whose tables are low
pub low_goes : (config : Config) (batches reached : ℕ) (pages : List Page) (t : Tables) → orders_after batches < too_high → reached < too_high → level (bytes_of pages) ≡ reached → AreLow config batches t → MayGoOn config pages t
low_goes config batches reached pages t orders levels at low = record {
  same = low.same;
  fit = low.fit;
  low_level = subst (λ (l : ℕ). l < too_high) (sym at) levels;
  low_order = le_lt t.order (orders_after batches) too_high low.order orders;
} where
  le_lt : (a b c : ℕ) → a ≤ b → b < c → a < c
  le_lt a b c x y = omega (arith, x, y)

-- tables that some copy has which counts as alive are low
pub low_of : (told : Type 0) (config : Config) (batches : ℕ) (a a' b b' : Bool) (v0 v1 : View) (reads : List ℕ → Option (List ℕ)) (room : List Page) (t : Tables) → HasRead told (pair_at a b v0) (pair_at a' b' v1) → told → SomeAlive a' b' → All (λ page. length page.0 ≡ page_bytes) room → IsCheckpoint room t
    → (a' ≡ true → reads (disk_now v1 Ckpt1).bytes ≡ Some (bytes_of room)) → (b' ≡ true → reads (disk_now v1 Ckpt2).bytes ≡ Some (bytes_of room))
    → ReadsLow told a config batches (reads (disk_now v0 Ckpt1).bytes) → ReadsLow told b config batches (reads (disk_now v0 Ckpt2).bytes) → AreLow config batches t
low_of told config batches a true b b' v0 v1 reads room t acts u some sized is one two low1 low2 =
    low1 u (acts.course.alive1 refl) room t sized (ap reads (sym (acts.bytes u Ckpt1)) ∙ one refl) is
low_of told config batches a false b b' v0 v1 reads room t acts u some sized is one two low1 low2 =
    low2 u (acts.course.alive2 some) room t sized (ap reads (sym (acts.bytes u Ckpt2)) ∙ two some) is

-- the orders after as many batches as a journal may have leave a step all that it can use
pub few_orders : (batches : ℕ) → batches ≤ journal_most → orders_after batches < too_high
few_orders batches few = omega (arith, few)
