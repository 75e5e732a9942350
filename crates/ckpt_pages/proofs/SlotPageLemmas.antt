-- Pages of slots: the least that is no spelling.
use Rattle.std.proofs.Common.{◌≡◌, ℕ, ◌+◌, ◌-◌, ◌*◌, ◌/◌, ◌≤◌, ◌<◌, List, ◌++◌, length, take, drop, map, replicate, Option, None, Result, Err, refl, sym, ap, ◌∙◌, All, arith}
use Rattle.std.specs.Prelude.{min, IfErr}
use Rattle.std.specs.List.{concat}
use Rattle.std.specs.Int.{w64, to_be_bytes}
use Rattle.std.proofs.Math.Nat.{mul-le-mul_left}
use Rattle.std.proofs.lemmas.List.{length-append, length-take, length-drop, length-replicate, drop-append-le, take-append-le, get_or-take, get_or-drop}
use Rattle.std.proofs.lemmas.List.Elements.{All-append, All-replicate}
use Rattle.mas_types.specs.declared.ids.Page.{Page}
use Rattle.mas_types.specs.declared.queues.Owner.{Owner}
use Rattle.mas_types.specs.declared.queues.Owner.TheVariants as owner
use Rattle.lay_bytes.specs.declared.records.JobRec.{JobRec}
use Rattle.lay_bytes.specs.declared.records.OutRec.{OutRec}
use Rattle.lay_bytes.specs.Slots.{job_slot, output_slot, owner_entry, IsJobRec, IsOutRec, IsOwner, IfUsed}
use Rattle.lay_bytes.proofs.SlotLemmas.{job_length, output_length, owner_length}
use Rattle.ckpt_pages.specs.declared.header.Header.{Header}
use Rattle.ckpt_tables.specs.declared.tables.Tables.{Tables}
use Rattle.ckpt_tables.specs.Shape.{HasSpelling, AreLevels}
use Rattle.ckpt_pages.specs.Headers.{IsHeader, header_with, header_bytes}
use Rattle.ckpt_tables.specs.Pages.{filled, filled_to, part, page_in, page_of}
use Rattle.ckpt_pages.specs.declared.entries.EntryError.{EntryError}
use Rattle.ckpt_pages.specs.declared.entries.EntryError.TheVariants as notread
use Rattle.ckpt_pages.specs.declared.entries.PageNo.{PageNo}
use Rattle.ckpt_pages.specs.declared.entries.PageNo.TheVariants.{BadPage, NoMemory}
use Rattle.ckpt_pages.specs.Reading.{AreEntries, ArePages, IsFirstBad, IfBadPage, page_no}
use Rattle.ckpt_pages.specs.Slots.{IsBadBehind}
use Rattle.ckpt_pages.proofs.EntryLemmas.{concat_length, room_below}
use Rattle.ckpt_pages.proofs.HeaderLemmas.{same_numbers, split_front}
use Rattle.ckpt_pages.proofs.CheckpointLemmas.{spelled_before, job_page, output_page, owner_page, any_outputs, any_owners}

-- ---- parts of a list

All-part : {X : Type 0} (P : X → Type 0) (a k : ℕ) (xs : List X) → All P xs → All P (part a k xs)
All-part P a k xs h i d lt =
    let room : i < a = omega (arith, length-take a (drop (a * k) xs)) in
    let room' : a * k + i < length xs = omega (arith, length-take a (drop (a * k) xs), length-drop (a * k) xs) in
    rw (get_or-take a (drop (a * k) xs) i d room, get_or-drop (a * k) xs i d) (h (a * k + i) d room')

pub part_length : {X : Type 0} (a k : ℕ) (xs : List X) → length (part a k xs) ≡ min (length xs - a * k) a
part_length a k xs = omega (arith, length-take a (drop (a * k) xs), length-drop (a * k) xs)

-- a part before the end of a list stays where more is added
part_before : {X : Type 0} (a k : ℕ) (xs ys : List X) → a * k + a ≤ length xs → part a k (xs ++ ys) ≡ part a k xs
part_before a k xs ys room =
    let d : drop (a * k) (xs ++ ys) ≡ drop (a * k) xs ++ ys = drop-append-le (a * k) xs ys (omega (arith, room)) in
    ap (take a) d ∙ take-append-le a (drop (a * k) xs) ys (omega (arith, length-drop (a * k) xs, room))

filled_length : (ps : List (List ℕ)) → length (concat ps) ≤ 4096 → length (filled ps) ≡ 4096
filled_length ps room = omega (arith, length-append (concat ps) (replicate (4096 - length (concat ps)) 0), length-replicate {A = ℕ} (4096 - length (concat ps)) 0, room)

module _ {X : Type 0} (slot : X → List ℕ) (Fits : X → Type 0) (w : ℕ) (long : (x : X) → Fits x → length (slot x) ≡ w) where
  -- a page that is filled with entries is these entries
  pub page_entries : (count : ℕ) (page : List ℕ) (items : List X) → All Fits items → length items ≡ count → w * count ≤ 4096 → page ≡ filled (map slot items) → AreEntries slot Fits count page items
  page_entries count page items fit len room e =
      let size : length (concat (map slot items)) ≡ w * count = concat_length slot Fits w long items fit ∙ ap (λ (k : ℕ). w * k) len in
      let whole : length page ≡ 4096 = ap length e ∙ filled_length (map slot items) (omega (arith, size, room)) in
      record { len = len; fit = fit; is = e ∙ ap (λ (k : ℕ). filled_to k (map slot items)) (sym whole) }

  pub part_entries : (a_page total k : ℕ) (page : List ℕ) (items : List X) → All Fits items → length items ≡ total → w * a_page ≤ 4096 → page ≡ filled (map slot (part a_page k items))
      → AreEntries slot Fits (min (total - a_page * k) a_page) page (part a_page k items)
  part_entries a_page total k page items fit len room e =
      let count : length (part a_page k items) ≡ min (total - a_page * k) a_page = part_length a_page k items ∙ ap (λ (n : ℕ). min (n - a_page * k) a_page) len in
      let few : min (total - a_page * k) a_page ≤ a_page = omega arith in
      page_entries (min (total - a_page * k) a_page) page (part a_page k items) (All-part Fits a_page k items fit) count (omega (arith, mul-le-mul_left {m = min (total - a_page * k) a_page} {n = a_page} w few, room)) e

-- ---- the header of the tables of a spelling

pub same_header : (pages : List Page) (h : Header) → IsHeader h pages → (t : Tables) (level : ℕ) (levels : List ℕ) → HasSpelling t → AreLevels t level levels → page_in pages 0 ≡ page_of t levels 0 → h ≡ header_with t level
same_header pages h is t level levels s a e =
    let front : header_bytes h ≡ take 1024 (page_in pages 0) = sym (ap (take 1024) is.page ∙ (split_front (header_bytes h) (map (to_be_bytes w64) is.levels) 1024 4096 refl).0) in
    same_numbers pages (page_in pages 0) (header_bytes h) h refl front (is.numbers, refl) t level levels s a e

-- ---- the least page that is no spelling

fill_jobs : (h : Header) (before : List (Option JobRec)) → All (IfUsed IsJobRec) before → length before ≤ h.jobs → (length (before ++ replicate (h.jobs - length before) None) ≡ h.jobs) × All (IfUsed IsJobRec) (before ++ replicate (h.jobs - length before) None)
fill_jobs h before fit few = (
  omega (arith, length-append before (replicate (h.jobs - length before) None), length-replicate {A = Option JobRec} (h.jobs - length before) None, few),
  All-append (IfUsed IsJobRec) before (replicate (h.jobs - length before) None) fit (All-replicate (IfUsed IsJobRec) (h.jobs - length before) None tt),
)

fill_outputs : (h : Header) (before : List (Option OutRec)) → All (IfUsed IsOutRec) before → length before ≤ h.outputs → (length (before ++ replicate (h.outputs - length before) None) ≡ h.outputs) × All (IfUsed IsOutRec) (before ++ replicate (h.outputs - length before) None)
fill_outputs h before fit few = (
  omega (arith, length-append before (replicate (h.outputs - length before) None), length-replicate {A = Option OutRec} (h.outputs - length before) None, few),
  All-append (IfUsed IsOutRec) before (replicate (h.outputs - length before) None) fit (All-replicate (IfUsed IsOutRec) (h.outputs - length before) None tt),
)

fill_owners : (n : ℕ) (before : List Owner) → All IsOwner before → length before ≤ n → (length (before ++ replicate (n - length before) owner.Free) ≡ n) × All IsOwner (before ++ replicate (n - length before) owner.Free)
fill_owners n before fit few = (
  omega (arith, length-append before (replicate (n - length before) owner.Free), length-replicate (n - length before) owner.Free, few),
  All-append IsOwner before (replicate (n - length before) owner.Free) fit (All-replicate IsOwner (n - length before) owner.Free tt),
)

-- a page before the bad one, in the list that is filled up
earlier : {X : Type 0} (slot : X → List ℕ) (Fits : X → Type 0) (a first p q : ℕ) (pages : List Page) (before rest : List X) → ArePages slot Fits a first (a * (p - first)) pages before → first + q < p → a * q < a * (p - first)
    → page_in pages (first + q) ≡ filled (map slot (part a q (before ++ rest)))
earlier {X = X} slot Fits a first p q pages before rest good lt some =
    let room = room_below a q (p - first) (omega arith) in
    good.each q some ∙ ap (λ (xs : List X). filled (map slot xs)) (sym (part_before a q before rest (omega (arith, room, good.len))))

pub bad_jobs : (h : Header) (pages : List Page) (p : ℕ) → IsHeader h pages → IsFirstBad job_slot (IfUsed IsJobRec) 16 3 h.jobs pages p → IsBadBehind h pages p
bad_jobs h pages p is bad node members lines routes front =
    let jobs : List (Option JobRec) = bad.before ++ replicate (h.jobs - length bad.before) None in
    let end : p < 3 + h.jobs / 16 = omega (arith, bad.from, bad.within, is.numbers.jobs.2) in
    let total : p < length pages = omega (arith, end, is.count) in
    let fill = fill_jobs h bad.before bad.good.fit (omega (arith, bad.good.len, bad.within)) in
    record {
      within = λ some. total;
      before = spelled_before h node members lines routes (bad.before ++ replicate (h.jobs - length bad.before) None) (replicate h.outputs None) (replicate (h.volumes * h.groups) owner.Free) pages is
          (record { node_fit = front.node_fit; members_are = front.members_are; lines_are = front.lines_are; routes_are = front.routes_are; jobs_are = fill; outputs_are = any_outputs h; owners_are = any_owners h })
          p
          (record {
            second = λ some. front.second;
            third = λ some. front.third;
            of_jobs = λ q lt some. earlier job_slot (IfUsed IsJobRec) 16 3 p q pages bad.before (replicate (h.jobs - length bad.before) None) bad.good lt (omega (arith, lt));
            of_outputs = λ q lt some. absurd (omega (arith, lt, end));
            of_owners = λ q lt some. absurd (omega (arith, lt, end));
          })
          (omega (arith, total));
      bad = λ s.
          let same = same_header pages h is s.tables s.level s.levels s.fit s.ages s.header in
          let count : s.tables.config.jobs ≡ h.jobs = ap (λ (k : Header). k.jobs) (sym same) in
          let page : page_in pages p ≡ filled (map job_slot (part 16 (p - 3) s.tables.jobs)) = s.is ∙ job_page s.tables s.levels p bad.from (omega (arith, end, count)) in
          bad.bad (part 16 (p - 3) s.tables.jobs) (part_entries job_slot (IfUsed IsJobRec) 256 job_length 16 h.jobs (p - 3) (page_in pages p) s.tables.jobs s.fit.jobs (s.fit.shape.jobs ∙ count) (omega arith) page);
    }

pub bad_outputs : (h : Header) (pages : List Page) (p : ℕ) (jobs : List (Option JobRec)) → IsHeader h pages → ArePages job_slot (IfUsed IsJobRec) 16 3 h.jobs pages jobs
    → IsFirstBad output_slot (IfUsed IsOutRec) 32 (3 + h.jobs / 16) h.outputs pages p → IsBadBehind h pages p
bad_outputs h pages p jobs is good_jobs bad node members lines routes front =
    let end : p < 3 + h.jobs / 16 + h.outputs / 32 = omega (arith, bad.from, bad.within, is.numbers.outputs.2) in
    let total : p < length pages = omega (arith, end, is.count) in
    let fill = fill_outputs h bad.before bad.good.fit (omega (arith, bad.good.len, bad.within)) in
    record {
      within = λ some. total;
      before = spelled_before h node members lines routes jobs (bad.before ++ replicate (h.outputs - length bad.before) None) (replicate (h.volumes * h.groups) owner.Free) pages is
          (record { node_fit = front.node_fit; members_are = front.members_are; lines_are = front.lines_are; routes_are = front.routes_are; jobs_are = (good_jobs.len, good_jobs.fit); outputs_are = fill; owners_are = any_owners h })
          p
          (record {
            second = λ some. front.second;
            third = λ some. front.third;
            of_jobs = λ q lt some. good_jobs.each q some;
            of_outputs = λ q lt some. earlier output_slot (IfUsed IsOutRec) 32 (3 + h.jobs / 16) p q pages bad.before (replicate (h.outputs - length bad.before) None) bad.good lt (omega (arith, lt));
            of_owners = λ q lt some. absurd (omega (arith, lt, end));
          })
          (omega (arith, total));
      bad = λ s.
          let same = same_header pages h is s.tables s.level s.levels s.fit s.ages s.header in
          let count : s.tables.config.jobs ≡ h.jobs = ap (λ (k : Header). k.jobs) (sym same) in
          let count2 : s.tables.config.outputs ≡ h.outputs = ap (λ (k : Header). k.outputs) (sym same) in
          let first : 3 + s.tables.config.jobs / 16 ≡ 3 + h.jobs / 16 = ap (λ (k : ℕ). 3 + k / 16) count in
          let page : page_in pages p ≡ filled (map output_slot (part 32 (p - (3 + h.jobs / 16)) s.tables.outputs)) =
          s.is ∙ output_page s.tables s.levels p (omega (arith, first, bad.from)) (omega (arith, end, first, count2)) ∙ ap (λ (k : ℕ). filled (map output_slot (part 32 (p - k) s.tables.outputs))) first in
          bad.bad (part 32 (p - (3 + h.jobs / 16)) s.tables.outputs)
          (part_entries output_slot (IfUsed IsOutRec) 128 output_length 32 h.outputs (p - (3 + h.jobs / 16)) (page_in pages p) s.tables.outputs s.fit.outputs (s.fit.shape.outputs ∙ count2) (omega arith) page);
    }

pub bad_owners : (h : Header) (pages : List Page) (p : ℕ) (jobs : List (Option JobRec)) (outputs : List (Option OutRec)) → IsHeader h pages → ArePages job_slot (IfUsed IsJobRec) 16 3 h.jobs pages jobs
    → ArePages output_slot (IfUsed IsOutRec) 32 (3 + h.jobs / 16) h.outputs pages outputs → IsFirstBad owner_entry IsOwner 512 (3 + h.jobs / 16 + h.outputs / 32) (h.volumes * h.groups) pages p → IsBadBehind h pages p
bad_owners h pages p jobs outputs is good_jobs good_outputs bad node members lines routes front =
    let total : p < length pages = omega (arith, bad.from, bad.within, is.count) in
    let fill = fill_owners (h.volumes * h.groups) bad.before bad.good.fit (omega (arith, bad.good.len, bad.within)) in
    record {
      within = λ some. total;
      before = spelled_before h node members lines routes jobs outputs (bad.before ++ replicate (h.volumes * h.groups - length bad.before) owner.Free) pages is
          (record { node_fit = front.node_fit; members_are = front.members_are; lines_are = front.lines_are; routes_are = front.routes_are; jobs_are = (good_jobs.len, good_jobs.fit); outputs_are = (good_outputs.len, good_outputs.fit); owners_are = fill })
          p
          (record {
            second = λ some. front.second;
            third = λ some. front.third;
            of_jobs = λ q lt some. good_jobs.each q some;
            of_outputs = λ q lt some. good_outputs.each q some;
            of_owners = λ q lt some.
                earlier owner_entry IsOwner 512 (3 + h.jobs / 16 + h.outputs / 32) p q pages bad.before (replicate (h.volumes * h.groups - length bad.before) owner.Free) bad.good lt (omega (arith, lt));
          })
          (omega (arith, total));
      bad = λ s.
          let same = same_header pages h is s.tables s.level s.levels s.fit s.ages s.header in
          let first : 3 + s.tables.config.jobs / 16 + s.tables.config.outputs / 32 ≡ 3 + h.jobs / 16 + h.outputs / 32 = ap (λ (k : Header). 3 + k.jobs / 16 + k.outputs / 32) (sym same) in
          let count : s.tables.config.volumes * s.tables.config.groups ≡ h.volumes * h.groups = ap (λ (k : Header). k.volumes * k.groups) (sym same) in
          let page : page_in pages p ≡ filled (map owner_entry (part 512 (p - (3 + h.jobs / 16 + h.outputs / 32)) s.tables.owners)) =
          s.is ∙ owner_page s.tables s.levels p (omega (arith, first, bad.from)) ∙ ap (λ (k : ℕ). filled (map owner_entry (part 512 (p - k) s.tables.owners))) first in
          bad.bad (part 512 (p - (3 + h.jobs / 16 + h.outputs / 32)) s.tables.owners)
          (part_entries owner_entry IsOwner 8 owner_length 512 (h.volumes * h.groups) (p - (3 + h.jobs / 16 + h.outputs / 32)) (page_in pages p) s.tables.owners s.fit.owners (s.fit.shape.owners ∙ count) (omega arith) page);
    }

-- ---- what is handed on

pub other_page : (P Q : ℕ → Type 0) (e : PageNo) → IfBadPage e P → ((p : ℕ) → P p → Q p) → IfBadPage e Q
other_page P Q (BadPage p) h f = f p h
other_page P Q NoMemory h f = tt

pub handed_on : (T : Type 0) (Q : ℕ → Type 0) (r : Result T PageNo) (y e : PageNo) → r ≡ Err y → y ≡ e → IfBadPage e Q → IfErr r (λ x. IfBadPage x Q)
handed_on T Q r y e a b h = rw (a, b) h

pub of_reader : (Q : ℕ → Type 0) (why : EntryError) (p : ℕ) → (why ≡ notread.Bad → Q p) → IfBadPage (page_no why p) Q
of_reader Q notread.Bad p f = f refl
of_reader Q notread.NoMemory p f = tt

pub err_is : (T : Type 0) (why : EntryError) → why ≡ notread.Bad → ◌≡◌ {A = Result T EntryError} (Err why) (Err notread.Bad)
err_is T why e = rw e refl
