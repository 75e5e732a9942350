-- The pages that a member wants, read one after another.
use Rattle.std.proofs.Common.{◌≡◌, ℕ, zero, suc, ◌+◌, ◌^◌, ◌≤◌, ◌<◌, nat_lt, Bool, true, false, if◌then◌else◌, List, [], ◌∷◌, ◌++◌, length, get_or, slice_index, slice_set, Option, Some, refl, sym, ◌∙◌, ap, subst, arith, All}
use Rattle.std.proofs.lemmas.Option.{same_Some as some_same}
use Rattle.std.proofs.lemmas.List.{length-append, length-set}
use Rattle.std.proofs.lemmas.List.Elements.{All-from_get_or, All-get_or}
use Rattle.std.proofs.lemmas.Bool.{ltb-false}
use Rattle.mas_types.specs.declared.ids.Dev.{Dev}
use Rattle.mas_types.specs.declared.ids.Dev.TheVariants.{Ckpt1, Ckpt2}
use Rattle.mas_types.specs.declared.ids.Page.{Page}
use Rattle.mas_types.specs.declared.queues.Queue.{Queue}
use Rattle.spool_plant.specs.View.{View, disk_now}
use Rattle.ckpt_copy.specs.Pages.{bytes_of, page_in as page_of_bytes}
use Rattle.ckpt_tables.specs.Pages.{page_in}
use Rattle.ckpt_tables.specs.Shape.{level_in, page_count}
use Rattle.ckpt_pages.specs.Given.{levels_given, levels_in}
use Rattle.ckpt_pages.specs.Laws.{GivesLevels}
use Rattle.duplex_pair.specs.Halves.{SomeAlive}
use Rattle.duplex_pair.proofs.ActCounting.{acts_then, no_acts}
use Rattle.mas_complex.specs.Meaning.{StandFor}
use Rattle.mas_complex.specs.Past.{age, AreLater, HasNoted, IsLater}
use Rattle.mas_complex.specs.CallCounts.{pair_at}
use Rattle.member_node.specs.declared.checkpoint.Checkpoint.{Checkpoint}
use Rattle.member_node.specs.Drawn.{AreDrawn}
use Rattle.member_node.specs.Reads.{ArePagesOf, HasRead, ReadsAs, TookActs}
use Rattle.member_node.specs.Spares.{Spares}
use Rattle.member_node.specs.Wanted.{AreUnchanged, HasHad, exceeding, level_had, one_if, wanted}
use Rattle.member_node.proofs.CourseLemmas.{no as not_both}
use Rattle.member_node.proofs.DrawnLemmas.{drawn_level, page_joined}
use Rattle.member_node.proofs.MirrorLemmas.{set_same}
use Rattle.member_node.proofs.ReadLemmas.{page_set, pages_more, read_none, read_then, reads_kept}
use Rattle.member_node.proofs.SpareLemmas.{spares_none, spares_then}

-- HOW MANY ARE WANTED

list_if : (b : Bool) (n : ℕ) → length (if b then n ∷ [] else []) ≡ one_if b
list_if true n = refl
list_if false n = refl

-- one level more
exceeding_more : (l x : ℕ) (xs : List ℕ) (n : ℕ) → length (exceeding l n (xs ++ x ∷ [])) ≡ length (exceeding l n xs) + one_if (nat_lt l x)
exceeding_more l x [] n =
    let one : List ℕ = if nat_lt l x then n ∷ [] else [] in
    omega (arith, length-append one [], list_if (nat_lt l x) n)
exceeding_more l x (y ∷ ys) n =
    let one : List ℕ = if nat_lt l y then n ∷ [] else [] in
    omega (arith, length-append one (exceeding l (n + 1) (ys ++ x ∷ [])), length-append one (exceeding l (n + 1) ys), exceeding_more l x ys (n + 1))

wanted_append : (l x : ℕ) (levels : List ℕ) → 1 ≤ length levels → length (wanted l (levels ++ x ∷ [])) ≡ length (wanted l levels) + one_if (nat_lt l x)
wanted_append l x [] some = absurd (omega (arith, some))
wanted_append l x (first ∷ levels) some = exceeding_more l x levels 1

pub levels_many : (page0 : List ℕ) (n : ℕ) → length (levels_in page0 n) ≡ n
levels_many page0 zero = refl
levels_many page0 (suc n) = length-append (levels_in page0 n) (level_in page0 n ∷ []) ∙ ap (λ (k : ℕ). k + 1) (levels_many page0 n) ∙ omega arith

-- page 0 itself isn't wanted any more
pub wanted_none : (l : ℕ) (page0 : List ℕ) → 0 ≡ length (wanted l (levels_in page0 1))
wanted_none l page0 = refl

-- one page more
pub wanted_more : (l : ℕ) (page0 : List ℕ) (n : ℕ) → 1 ≤ n → length (wanted l (levels_in page0 (n + 1))) ≡ length (wanted l (levels_in page0 n)) + one_if (nat_lt l (level_in page0 n))
wanted_more l page0 n some =
    let next : n + 1 ≡ suc n = omega arith in
    ap (λ (k : ℕ). length (wanted l (levels_in page0 k))) next ∙ wanted_append l (level_in page0 n) (levels_in page0 n) (omega (arith, some, levels_many page0 n))

-- THE LOOP

-- What a loop over the pages keeps: it began with the room as it was, at page 1. Each newer page before this one was
-- read, so many of them, and each other page is as it was.
pub record IsReadAbove (told : Type 0) (by : ℕ) (was1 is1 was2 is2 : Bool) (old new : View) (reads : List ℕ → Option (List ℕ)) (l page count : ℕ) (room now : List Page) : Type 0 where
  pub acts : HasRead told (pair_at was1 was2 old) (pair_at is1 is2 new)
  pub spares : Spares by false old new
  pub loses : (d : Dev) → new.loses d ≡ old.loses d
  pub took : TookActs count (pair_at was1 was2 old) (pair_at is1 is2 new)
  pub some : SomeAlive is1 is2
  pub many : length now ≡ length room
  pub within : page ≤ length now
  pub few : count ≤ page
  pub header : page_in now 0 ≡ page_in room 0
  pub rest : (q : ℕ) → page ≤ q → page_in now q ≡ page_in room q
  pub none : count ≡ 0 → (q : ℕ) → page_in now q ≡ page_in room q
  pub counts : count ≡ length (wanted l (levels_in (page_in room 0) page))
  pub pages : told → (was : List ℕ) → ReadsAs told was1 (reads (disk_now old Ckpt1).bytes) was → ReadsAs told was2 (reads (disk_now old Ckpt2).bytes) was → ArePagesOf 0 1 was room → AreUnchanged (length room) l room was → ArePagesOf 1 page was now

pub above_start : (told : Type 0) (by : ℕ) (a b : Bool) (v : View) (reads : List ℕ → Option (List ℕ)) (l : ℕ) (room : List Page) → SomeAlive a b → 1 ≤ length room → IsReadAbove told by a a b b v v reads l 1 0 room room
above_start told by a b v reads l room some any = record {
  acts = read_none told a b v;
  spares = spares_none by v;
  loses = λ d. refl;
  took = no_acts a b v.now;
  some = some;
  many = refl;
  within = any;
  few = omega arith;
  header = refl;
  rest = λ q from. refl;
  none = λ nothing q. refl;
  counts = wanted_none l (page_in room 0);
  pages = λ t was one two at same q from to. absurd (omega (arith, from, to));
}

pub header_set : (page : ℕ) (now : List Page) (into : Page) → 1 ≤ page → page < length now → page_in (slice_set now page into) 0 ≡ page_in now 0
header_set page now into some lt = (page_set now page 0 into lt).1 (λ e. absurd (omega (arith, e, some)))

within_set : (page : ℕ) (now : List Page) (into : Page) → page < length now → page + 1 ≤ length (slice_set now page into)
within_set page now into lt = subst (λ (n : ℕ). page + 1 ≤ n) (sym (length-set now page into)) (omega (arith, lt))

pub one_most : (newer : Bool) → one_if newer ≤ 1
one_most true = omega arith
one_most false = omega arith

count_fits : (count page n : ℕ) (newer : Bool) → count ≤ page → n ≡ one_if newer → count + n ≤ page + 1
count_fits count page n newer few one = omega (arith, few, one, one_most newer)

none_newer : (count n : ℕ) (newer : Bool) → n ≡ one_if newer → count + n ≡ 0 → newer ≡ false
none_newer count n true one nothing = absurd (omega (arith, one, nothing))
none_newer count n false one nothing = refl

none_before : (count n : ℕ) → count + n ≡ 0 → count ≡ 0
none_before count n nothing = omega (arith, nothing)

counts_more : (count n k m one : ℕ) → count ≡ k → m ≡ k + one → n ≡ one → count + n ≡ m
counts_more count n k m one is more same = omega (arith, is, more, same)

-- the page comes out as the copies have it, whether it was read or stood there
page_comes : (l page : ℕ) (newer : Bool) (now room : List Page) (into : Page) (was : List ℕ) → newer ≡ nat_lt l (level_in (page_in now 0) page) → (newer ≡ false → into.0 ≡ page_in now page) → (newer ≡ true → into.0 ≡ page_of_bytes page was)
    → page_in now page ≡ page_in room page → page_in now 0 ≡ page_of_bytes 0 was → (age page was ≤ l → page_in room page ≡ page_of_bytes page was) → into.0 ≡ page_of_bytes page was
page_comes l page true now room into was is stays read same header unchanged = read refl
page_comes l page false now room into was is stays read same header unchanged =
    let low : level_in (page_in now 0) page ≤ l = ltb-false l (level_in (page_in now 0) page) (sym is) in
    stays refl ∙ same ∙ unchanged (subst (λ (p : List ℕ). level_in p page ≤ l) header low)

-- one page more
pub above_next : (told : Type 0) (by : ℕ) (a a' a'' b b' b'' : Bool) (v0 v1 v2 : View) (reads : List ℕ → Option (List ℕ)) (l page count n : ℕ) (newer : Bool) (room now : List Page) (into : Page)
    → IsReadAbove told by a a' b b' v0 v1 reads l page count room now → 1 ≤ page → page < length now → newer ≡ nat_lt l (level_in (page_in now 0) page) → n ≡ one_if newer
    → HasRead told (pair_at a' b' v1) (pair_at a'' b'' v2) → Spares by false v1 v2 → ((d : Dev) → v2.loses d ≡ v1.loses d) → TookActs n (pair_at a' b' v1) (pair_at a'' b'' v2) → SomeAlive a'' b'' → (newer ≡ false → into.0 ≡ page_in now page)
    → (newer ≡ true → told → (was : List ℕ) → ReadsAs told a'' (reads (disk_now v2 Ckpt1).bytes) was → ReadsAs told b'' (reads (disk_now v2 Ckpt2).bytes) was → into.0 ≡ page_of_bytes page was)
    → IsReadAbove told by a a'' b b'' v0 v2 reads l (page + 1) (count + n) room (slice_set now page into)
above_next told by a a' a'' b b' b'' v0 v1 v2 reads l page count n newer room now into x first lt is one acts spares loses took some stays read =
    let all : HasRead told (pair_at a b v0) (pair_at a'' b'' v2) = read_then told a a' a'' b b' b'' v0 v1 v2 x.acts acts in
    let page0 : List ℕ = page_in room 0 in
    record {
      acts = all;
      spares = spares_then by false v0 v1 v2 x.spares spares;
      loses = λ d. loses d ∙ x.loses d;
      took = acts_then count n a a' a'' b b' b'' v0.now v1.now v2.now x.acts.course.alive1 acts.course.alive1 x.acts.course.alive2 acts.course.alive2 x.took took;
      some = some;
      many = length-set now page into ∙ x.many;
      within = within_set page now into lt;
      few = count_fits count page n newer x.few one;
      header = header_set page now into first lt ∙ x.header;
      rest = λ q from. (page_set now page q into lt).1 (λ e. absurd (omega (arith, e, from))) ∙ x.rest q (omega (arith, from));
      none = λ nothing q. set_same now page into lt (stays (none_newer count n newer one nothing)) q ∙ x.none (none_before count n nothing) q;
      counts = counts_more count n (length (wanted l (levels_in page0 page))) (length (wanted l (levels_in page0 (page + 1)))) (one_if (nat_lt l (level_in page0 page))) x.counts (wanted_more l page0 page first)
          (one ∙ ap (λ (c : Bool). one_if c) is ∙ ap (λ (p : List ℕ). one_if (nat_lt l (level_in p page))) x.header);
      pages = λ t was w1 w2 at same.
          let k = reads_kept told a a'' b b'' v0 v2 reads was all in
          pages_more 1 page was now into lt (x.pages t was w1 w2 at same)
          (page_comes l page newer now room into was is stays (λ e. read e t was (k.0 w1) (k.1 w2)) (x.rest page (omega arith)) (x.header ∙ at 0 (omega arith) (omega arith)) (λ low. same page first (omega (arith, lt, x.many)) low));
    }

-- at the end as many were read as are wanted
pub above_count : (l page count : ℕ) (room now : List Page) → count ≡ length (wanted l (levels_in (page_in room 0) page)) → page_in now 0 ≡ page_in room 0 → page ≡ length now → count ≡ length (wanted l (levels_given now))
above_count l page count room now counts header all =
    counts ∙ ap (λ (p : List ℕ). length (wanted l (levels_in p page))) (sym header) ∙ ap (λ (n : ℕ). length (wanted l (levels_in (page_in now 0) n))) all

-- a page of a list, by whatever stands past its end
pub page_at : (pages : List Page) (p : ℕ) (d : Page) → p < length pages → (get_or pages p d).0 ≡ page_in pages p
page_at [] p d lt = absurd (omega (arith, lt))
page_at (x ∷ xs) zero d lt = refl
page_at (x ∷ xs) (suc p) d lt = page_at xs p d (omega (arith, lt))

-- WHAT THE MEMBER HAS

pub levels_fit : (levels : List ℕ) (most : ℕ) → most < 2 ^ 63 → All (λ l. (1 ≤ l) × (l ≤ most)) levels → All (λ l. l < 2 ^ 64) levels
levels_fit levels most few each = All-from_get_or (λ (l : ℕ). l < 2 ^ 64) levels 0 (λ i lt. let b = All-get_or (λ (l : ℕ). (1 ≤ l) × (l ≤ most)) levels i 0 lt each in omega (arith, b.1, few))

-- each page has a level from 1 on
age_some : GivesLevels → (Q : Queue) (was : List ℕ) (stand : StandFor Q was) (q : ℕ) → q < page_count Q.config → 1 ≤ age q was
age_some gives Q was stand q lt =
    let t = stand.tell in
    let many : length t.levels ≡ page_count Q.config = t.ages.count ∙ ap page_count (sym t.tell.config) in
    let pages : length stand.pages ≡ page_count Q.config = t.spell.count ∙ ap page_count (sym t.tell.config) in
    let few : q < length t.levels = omega (arith, lt, many) in
    let at : 1 ≤ slice_index t.levels q = (All-get_or (λ (l : ℕ). (1 ≤ l) × (l ≤ stand.level)) t.levels q 0 few t.ages.each).0 in
    let header : page_of_bytes 0 was ≡ page_in stand.pages 0 = ap (page_of_bytes 0) (sym stand.joined) ∙ page_joined stand.pages 0 stand.sized (omega (arith, lt, pages)) in
    let e : age q was ≡ slice_index t.levels q = ap (λ (p : List ℕ). level_in p q) header ∙ gives t.tables t.levels stand.pages q t.spell (levels_fit t.levels stand.level t.ages.most t.ages.each) few in
    omega (arith, e, at)

-- What a member has is the copies' where its level isn't above its own: it noted its pages, or it has none.
pub unchanged_own : GivesLevels → (told : Type 0) (Q : Queue) (was : List ℕ) → StandFor Q was → (k : Checkpoint) → AreDrawn k.tables k.level k.levels k.pages → (count : ℕ) → count ≡ length k.pages → count ≡ page_count Q.config → 1 ≤ count
    → (fresh : Bool) (had : List (List Page)) (m : ℕ) → HasHad told fresh had m k.pages → told → AreLater count had was → AreUnchanged count (level_had fresh k.level) k.pages was
unchanged_own gives told Q was stand k drawn count many config some true had m noted t later q from to low =
    let least : 1 ≤ age q was = age_some gives Q was stand q (omega (arith, to, config)) in
    absurd (omega (arith, least, low))
unchanged_own gives told Q was stand k drawn count many config some false had m noted t later q from to low =
    by_pages k.pages refl (noted t refl) where
      by_pages : (ps : List Page) → k.pages ≡ ps → HasNoted had m k.pages → page_in k.pages q ≡ page_of_bytes q was
      by_pages [] e n = absurd (omega (arith, some, many, ap (length {A = Page}) e))
      by_pages (p ∷ ps) e n =
          let past : IsLater count (bytes_of k.pages) was = subst (λ (x : List Page). IsLater count (bytes_of x) was) (sym e) (later m p ps (subst (λ (x : List Page). HasNoted had m x) e n)) in
          let here = past.each q from to (subst (λ (n : ℕ). age q was ≤ n) (sym (drawn_level k.tables k.level k.levels k.pages drawn)) low) in
          sym (page_joined k.pages q drawn.sized (omega (arith, to, many))) ∙ sym here.0

-- The same of what is read of any copy that counts as alive.
pub own_unchanged : GivesLevels → (told : Type 0) → told → (Q : Queue) (kept : List ℕ) → StandFor Q kept → (a b : Bool) → SomeAlive a b → (read1 read2 : Option (List ℕ)) → (a ≡ true → read1 ≡ Some kept) → (b ≡ true → read2 ≡ Some kept)
    → (count : ℕ) (had : List (List Page)) → (a ≡ true → (is : List ℕ) → read1 ≡ Some is → AreLater count had is) → (b ≡ true → (is : List ℕ) → read2 ≡ Some is → AreLater count had is)
    → (k : Checkpoint) → AreDrawn k.tables k.level k.levels k.pages → count ≡ length k.pages → count ≡ page_count Q.config → 1 ≤ count → (fresh : Bool) (m : ℕ) → HasHad told fresh had m k.pages
    → (w : List ℕ) → ReadsAs told a read1 w → ReadsAs told b read2 w → AreUnchanged count (level_had fresh k.level) k.pages w
own_unchanged gives told t Q kept stand true b some read1 read2 one two count had later1 later2 k drawn many config least fresh m noted w r1 r2 =
    unchanged_own gives told Q w (subst (λ (l : List ℕ). StandFor Q l) (some_same kept w (sym (one refl) ∙ r1 t refl)) stand) k drawn count many config least fresh had m noted t (later1 refl w (r1 t refl))
own_unchanged gives told t Q kept stand false true some read1 read2 one two count had later1 later2 k drawn many config least fresh m noted w r1 r2 =
    unchanged_own gives told Q w (subst (λ (l : List ℕ). StandFor Q l) (some_same kept w (sym (two refl) ∙ r2 t refl)) stand) k drawn count many config least fresh had m noted t (later2 refl w (r2 t refl))
own_unchanged gives told t Q kept stand false false some read1 read2 one two count had later1 later2 k drawn many config least fresh m noted w r1 r2 = absurd (not_both false some refl)
