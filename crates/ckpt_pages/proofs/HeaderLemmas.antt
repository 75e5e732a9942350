-- The header: what is read is spelled so, and what is spelled so is read.
use Rattle.std.proofs.Common.{◌≡◌, ℕ, ◌-◌, ◌%◌, ◌^◌, ◌≤◌, ◌<◌, true, false, List, [], ◌∷◌, ◌++◌, length, get_or, take, drop, map, replicate, None, Some, refl, sym, ap, subst, ◌∙◌, append_assoc, All, arith}
use Rattle.std.specs.Prelude.{◌==◌, ◌&&◌, nat_le, slice_get}
use Rattle.std.specs.List.{concat, list_all, slice_index}
use Rattle.std.specs.Int.{w64, to_be_bytes}
use Rattle.std.proofs.Math.Nat.{mul-le-mul_left}
use Rattle.std.proofs.lemmas.Bool.Decides.{nat_tests}
use Rattle.std.proofs.lemmas.List.{take_at, drop_at, take-append-drop, length-append}
use Rattle.std.proofs.lemmas.List.Elements.{All-nil, All-cons, All-head, All-tail}
use Rattle.std.proofs.lemmas.Nat.{from_be_bytes-to_be_bytes_2, from_be_bytes-to_be_bytes_4, from_be_bytes-to_be_bytes_8}
use Rattle.mas_types.specs.declared.ids.Page.{Page}
use Rattle.mas_types.specs.Limits.{members_most, jobs_least, jobs_most, outputs_least, outputs_most, volumes_most, groups_most, hold_most, dormancy_most, number_most}
use Rattle.lay_bytes.specs.Fields.{piece, first_bad, pieces}
use Rattle.lay_bytes.proofs.Pieces.{AreSpelled, each_stands, join_pieces, cons_same, between, is_least, is_most, both_true, both_from, long_back}
use Rattle.lay_bytes.proofs.SlotLemmas.{half_again, word_again, long_again, byte_takes, half_takes, word_takes, long_takes, zeros_take, known, same_from_eq, none_some}
use Rattle.ckpt_pages.specs.declared.header.Header.{Header}
use Rattle.ckpt_tables.specs.declared.tables.Tables.{Tables}
use Rattle.ckpt_tables.specs.Shape.{HasSpelling, AreLevels, page_count}
use Rattle.ckpt_pages.specs.Fields.{mark_of_header, age_most, header_fields, header_in}
use Rattle.ckpt_pages.specs.Headers.{HasNumbers, IsHeader, NoHeader, header_with, header_spelled_by, header_bytes, pages_of, is_whole, are_ages}
use Rattle.ckpt_tables.specs.Pages.{filled, filled_to, page_in, page_of}
use Rattle.ckpt_pages.specs.Reading.{AreEntries, ReadsEntries, AreNoEntries}
use Rattle.ckpt_pages.specs.Spelled.{good_of, said_of, apart_of}
use Rattle.ckpt_pages.specs.Kinds.{level_size, level_apart}
use Rattle.ckpt_pages.proofs.EntryLemmas.{one_list}

-- ---- the numbers

numbers_spelled : (h : Header) → HasNumbers h → AreSpelled header_fields (header_spelled_by h)
numbers_spelled h n = (
  (refl, refl),
  (
    (refl, long_again 1 age_most h.level (omega (arith, n.level.1)) n.level.0 n.level.1),
    (
      (refl, refl),
      (
        (refl, between 1 members_most h.members n.members.0 n.members.1),
        (
          (refl, between 1 volumes_most h.volumes n.volumes.0 n.volumes.1),
          (
            (refl, refl),
            (
              (refl, half_again jobs_least jobs_most h.jobs (omega (arith, n.jobs.1)) n.jobs.0 n.jobs.1),
              (
                (refl, half_again outputs_least outputs_most h.outputs (omega (arith, n.outputs.1)) n.outputs.0 n.outputs.1),
                (
                  (refl, half_again 1 groups_most h.groups (omega (arith, n.groups.1)) n.groups.0 n.groups.1),
                  (
                    (refl, half_again 1 hold_most h.hold (omega (arith, n.hold.1)) n.hold.0 n.hold.1),
                    (
                      (refl, half_again 0 dormancy_most h.dormancy (omega (arith, n.dormancy)) (omega arith) n.dormancy),
                      (
                        (refl, refl),
                        (
                          (refl, word_again 0 number_most h.last.0 (omega (arith, n.last)) (omega arith) n.last),
                          ((refl, refl), ((refl, long_again 0 age_most h.order (omega (arith, n.order)) (omega arith) n.order), ((refl, refl), tt))),
                        ),
                      ),
                    ),
                  ),
                ),
              ),
            ),
          ),
        ),
      ),
    ),
  ),
)

abbrev made : Header → ℕ → ℕ → ℕ → ℕ → ℕ → ℕ → ℕ → ℕ → Header
made h level jobs outputs groups hold dormancy last order = record {
  level = level;
  members = h.members;
  volumes = h.volumes;
  jobs = jobs;
  outputs = outputs;
  groups = groups;
  hold = hold;
  dormancy = dormancy;
  last = record { 0 = last };
  order = order;
}

same_made : (h : Header) (a a' b b' c c' d d' e e' f f' g g' i i' : ℕ) → a ≡ a' → b ≡ b' → c ≡ c' → d ≡ d' → e ≡ e' → f ≡ f' → g ≡ g' → i ≡ i' → made h a b c d e f g i ≡ made h a' b' c' d' e' f' g' i'
same_made h a a' b b' c c' d d' e e' f f' g g' i i' e1 e2 e3 e4 e5 e6 e7 e8 = rw (e1, e2, e3, e4, e5, e6, e7, e8) refl

numbers_again : (h : Header) → HasNumbers h → header_in (header_spelled_by h) ≡ h
numbers_again h n =
    same_made h _ h.level _ h.jobs _ h.outputs _ h.groups _ h.hold _ h.dormancy _ h.last.0 _ h.order
    (from_be_bytes-to_be_bytes_8 h.level (omega (arith, n.level.1)))
    (from_be_bytes-to_be_bytes_2 h.jobs (omega (arith, n.jobs.1)))
    (from_be_bytes-to_be_bytes_2 h.outputs (omega (arith, n.outputs.1)))
    (from_be_bytes-to_be_bytes_2 h.groups (omega (arith, n.groups.1)))
    (from_be_bytes-to_be_bytes_2 h.hold (omega (arith, n.hold.1)))
    (from_be_bytes-to_be_bytes_2 h.dormancy (omega (arith, n.dormancy)))
    (from_be_bytes-to_be_bytes_4 h.last.0 (omega (arith, n.last)))
    (from_be_bytes-to_be_bytes_8 h.order (omega (arith, n.order)))

-- what a test of jobs and outputs says
whole_from : (h : Header) → is_whole h ≡ true → (h.jobs % 16 ≡ 0) × (h.outputs % 32 ≡ 0)
whole_from h w =
    let p = both_true (h.jobs % 16 == 0) (h.outputs % 32 == 0) w in
    (same_from_eq (h.jobs % 16) 0 p.0, same_from_eq (h.outputs % 32) 0 p.1)

whole_to : (h : Header) → HasNumbers h → is_whole h ≡ true
whole_to h n = both_from _ _ (eq_to (h.jobs % 16) 0 n.jobs.2) (eq_to (h.outputs % 32) 0 n.outputs.2)
  where
    eq_to : (a b : ℕ) → a ≡ b → (a == b) ≡ true
    eq_to a b e = grind (arith, nat_tests)

mark_known : (n : ℕ) → mark_of_header ≤ n → n ≤ mark_of_header → mark_of_header ≡ n
mark_known n a b = omega arith

pub numbers_take : (head : List ℕ) (h : Header) → length head ≡ 1024 → ((i : ℕ) → get_or head i 0 < 256) → first_bad 0 header_fields head ≡ None → h ≡ header_in (pieces 0 header_fields head) → is_whole h ≡ true
    → HasNumbers h × (head ≡ header_bytes h)
numbers_take head h len fits good e whole =
    let s = each_stands 0 header_fields head (omega (arith, len)) fits good in
    let mark = s.0 in let level = s.1.0 in let layout = s.1.1.0 in let members = s.1.1.1.0 in let volumes = s.1.1.1.1.0 in let gap = s.1.1.1.1.1.0 in
    let jobs = s.1.1.1.1.1.1.0 in let outputs = s.1.1.1.1.1.1.1.0 in let groups = s.1.1.1.1.1.1.1.1.0 in let hold = s.1.1.1.1.1.1.1.1.1.0 in
    let dormancy = s.1.1.1.1.1.1.1.1.1.1.0 in let gap2 = s.1.1.1.1.1.1.1.1.1.1.1.0 in let last = s.1.1.1.1.1.1.1.1.1.1.1.1.0 in let gap3 = s.1.1.1.1.1.1.1.1.1.1.1.1.1.0 in
    let order = s.1.1.1.1.1.1.1.1.1.1.1.1.1.1.0 in let rest = s.1.1.1.1.1.1.1.1.1.1.1.1.1.1.1.0 in
    let w = whole_from h whole in
    let marked : to_be_bytes w64 mark_of_header ≡ piece 0 8 head =
    ap (to_be_bytes w64) (mark_known _ (is_least mark_of_header mark_of_header _ mark.stands) (is_most mark_of_header mark_of_header _ mark.stands)) ∙ long_back (piece 0 8 head) mark.len mark.bytes in
    let same : header_spelled_by (header_in (pieces 0 header_fields head)) ≡ pieces 0 header_fields head =
    cons_same _ _ _ _ marked
    (cons_same _ _ _ _ (long_takes refl level)
    (cons_same _ _ _ _ (byte_takes 1 (known 1 _ (is_least 1 1 _ layout.stands) (is_most 1 1 _ layout.stands)) refl layout)
    (cons_same _ _ _ _ (byte_takes _ refl refl members)
    (cons_same _ _ _ _ (byte_takes _ refl refl volumes)
    (cons_same _ _ _ _ (zeros_take 1 gap)
    (cons_same _ _ _ _ (half_takes refl jobs)
    (cons_same _ _ _ _ (half_takes refl outputs)
    (cons_same _ _ _ _ (half_takes refl groups)
    (cons_same _ _ _ _ (half_takes refl hold)
    (cons_same _ _ _ _ (half_takes refl dormancy)
    (cons_same _ _ _ _ (zeros_take 2 gap2)
    (cons_same _ _ _ _ (word_takes refl last)
    (cons_same _ _ _ _ (zeros_take 4 gap3)
    (cons_same _ _ _ _ (long_takes refl order)
    (cons_same _ _ _ _ (zeros_take 976 rest) refl))))))))))))))) in
    let w' : (header_in (pieces 0 header_fields head)).jobs % 16 ≡ 0 = subst (λ (x : Header). x.jobs % 16 ≡ 0) e w.0 in
    let w'' : (header_in (pieces 0 header_fields head)).outputs % 32 ≡ 0 = subst (λ (x : Header). x.outputs % 32 ≡ 0) e w.1 in
    let numbers : HasNumbers (header_in (pieces 0 header_fields head)) = record {
      level = (is_least 1 age_most _ level.stands, is_most 1 age_most _ level.stands);
      members = (is_least 1 members_most _ members.stands, is_most 1 members_most _ members.stands);
      volumes = (is_least 1 volumes_most _ volumes.stands, is_most 1 volumes_most _ volumes.stands);
      jobs = (is_least jobs_least jobs_most _ jobs.stands, is_most jobs_least jobs_most _ jobs.stands, w');
      outputs = (is_least outputs_least outputs_most _ outputs.stands, is_most outputs_least outputs_most _ outputs.stands, w'');
      groups = (is_least 1 groups_most _ groups.stands, is_most 1 groups_most _ groups.stands);
      hold = (is_least 1 hold_most _ hold.stands, is_most 1 hold_most _ hold.stands);
      dormancy = is_most 0 dormancy_most _ dormancy.stands;
      last = is_most 0 number_most _ last.stands;
      order = is_most 0 age_most _ order.stands;
    } in
    subst (λ (x : Header). HasNumbers x × (head ≡ header_bytes x)) (sym e) (numbers, sym (join_pieces 0 header_fields head (sym len)) ∙ ap concat (sym same))

pub numbers_good : (h : Header) → HasNumbers h → first_bad 0 header_fields (header_bytes h) ≡ None
numbers_good = good_of header_fields header_spelled_by header_in HasNumbers numbers_spelled numbers_again

pub numbers_said : (h : Header) → HasNumbers h → header_in (pieces 0 header_fields (header_bytes h)) ≡ h
numbers_said = said_of header_fields header_spelled_by header_in HasNumbers numbers_spelled numbers_again

pub numbers_size : (h : Header) → length (header_bytes h) ≡ 1024
numbers_size h = refl

pub numbers_apart : (h k : Header) → HasNumbers h → HasNumbers k → header_bytes h ≡ header_bytes k → h ≡ k
numbers_apart = apart_of header_fields header_spelled_by header_in HasNumbers numbers_spelled numbers_again

-- bytes with a bad field, or of jobs that fill no page, are no header
pub not_checked : (head : List ℕ) (n : ℕ) → first_bad 0 header_fields head ≡ Some n → (h : Header) → HasNumbers h → head ≡ header_bytes h → ⊥
not_checked head n bad h is e = none_some _ _ (ap (first_bad 0 header_fields) e ∙ numbers_good h is) bad

pub not_whole : (head : List ℕ) (h : Header) → h ≡ header_in (pieces 0 header_fields head) → is_whole h ≡ false → (k : Header) → HasNumbers k → head ≡ header_bytes k → ⊥
not_whole head h e w k is e' =
    let same : h ≡ k = e ∙ ap (λ (b : List ℕ). header_in (pieces 0 header_fields b)) e' ∙ numbers_said k is in
    let t : is_whole h ≡ true = ap is_whole same ∙ whole_to k is in
    absurd (cc)

-- ---- the whole page

-- a first piece of n bytes, and what is after it
pub split_front : (text : List ℕ) (ps : List (List ℕ)) (n size : ℕ) → length text ≡ n → (take n (filled_to size (text ∷ ps)) ≡ text) × (drop n (filled_to size (text ∷ ps)) ≡ filled_to (size - n) ps)
split_front text ps n size len =
    let zeros : List ℕ = replicate (size - length (text ++ concat ps)) 0 in
    let left : size - length (text ++ concat ps) ≡ size - n - length (concat ps) = omega (arith, length-append text (concat ps), len) in
    let regroup : (text ++ concat ps) ++ replicate (size - length (text ++ concat ps)) 0 ≡ text ++ (concat ps ++ replicate (size - length (text ++ concat ps)) 0) = append_assoc text (concat ps) (replicate (size - length (text ++ concat ps)) 0) in (
      ap (take n) regroup ∙ take_at text (concat ps ++ replicate (size - length (text ++ concat ps)) 0) n len,
      ap (drop n) regroup ∙ drop_at text (concat ps ++ replicate (size - length (text ++ concat ps)) 0) n len ∙ ap (λ (k : ℕ). concat ps ++ replicate k 0) left,
    )

pub join_front : (page text : List ℕ) (ps : List (List ℕ)) (n size : ℕ) → length text ≡ n → take n page ≡ text → drop n page ≡ filled_to (size - n) ps → page ≡ filled_to size (text ∷ ps)
join_front page text ps n size len front back =
    let left : size - n - length (concat ps) ≡ size - length (text ++ concat ps) = omega (arith, length-append text (concat ps), len) in
    sym (take-append-drop n page) ∙ ap (λ (x : List ℕ). x ++ drop n page) front ∙ ap (λ (x : List ℕ). text ++ x) back
    ∙ ap (λ (k : ℕ). text ++ (concat ps ++ replicate k 0)) left ∙ sym (append_assoc text (concat ps) (replicate (size - length (text ++ concat ps)) 0))

first_level : (level : ℕ) (levels : List ℕ) → slice_get levels 0 ≡ Some level → slice_index levels 0 ≡ level
first_level level [] e = absurd (cc)
first_level level (l ∷ ls) e = cc

level_some : (level : ℕ) (levels : List ℕ) → slice_get levels 0 ≡ Some level → All (λ l. (1 ≤ l) × (l ≤ level)) levels → 1 ≤ level
level_some level [] e h = absurd (cc)
level_some level (l ∷ ls) e h = let p = All-head (λ l. (1 ≤ l) × (l ≤ level)) l ls h in omega (arith, p.0, p.1)

pub all_ages : (level : ℕ) (ls : List ℕ) → All (λ l. (1 ≤ l) × (l ≤ level)) ls → list_all (λ l. nat_le 1 l && nat_le l level) ls ≡ true
all_ages level [] h = refl
all_ages level (l ∷ ls) h =
    let p = All-head (λ l. (1 ≤ l) × (l ≤ level)) l ls h in
    both_from _ _ (in_range l p.0 p.1) (all_ages level ls (All-tail (λ l. (1 ≤ l) × (l ≤ level)) l ls h))
  where
    in_range : (l : ℕ) → 1 ≤ l → l ≤ level → nat_le 1 l && nat_le l level ≡ true
    in_range l a b = grind (arith, nat_tests)

pub ages_all : (level : ℕ) (ls : List ℕ) → list_all (λ l. nat_le 1 l && nat_le l level) ls ≡ true → All (λ l. (1 ≤ l) × (l ≤ level)) ls
ages_all level [] h = All-nil (λ l. (1 ≤ l) × (l ≤ level))
ages_all level (l ∷ ls) h =
    let p = both_true (nat_le 1 l && nat_le l level) (list_all (λ l. nat_le 1 l && nat_le l level) ls) h in
    All-cons (λ l. (1 ≤ l) × (l ≤ level)) l ls (in_range l p.0) (ages_all level ls p.1)
  where
    in_range : (l : ℕ) → nat_le 1 l && nat_le l level ≡ true → (1 ≤ l) × (l ≤ level)
    in_range l h = let q = both_true (nat_le 1 l) (nat_le l level) h in (least l q.0, most l q.1)
      where
        least : (l : ℕ) → nat_le 1 l ≡ true → 1 ≤ l
        least l h = grind (arith, nat_tests)

        most : (l : ℕ) → nat_le l level ≡ true → l ≤ level
        most l h = grind (arith, nat_tests)

pub ages_of : (t : Tables) (level : ℕ) (levels : List ℕ) → AreLevels t level levels → are_ages level levels ≡ true
ages_of t level levels h = both_from _ _ (eq_to (slice_index levels 0) level (first_level level levels h.first)) (all_ages level levels h.each)
  where
    eq_to : (a b : ℕ) → a ≡ b → (a == b) ≡ true
    eq_to a b e = grind (arith, nat_tests)

pub numbers_of : (t : Tables) (level : ℕ) (levels : List ℕ) → HasSpelling t → AreLevels t level levels → HasNumbers (header_with t level)
numbers_of t level levels s h = record {
  level = (level_some level levels h.first h.each, omega (arith, h.most));
  members = s.shape.config.members;
  volumes = s.shape.config.volumes;
  jobs = s.shape.config.jobs;
  outputs = s.shape.config.outputs;
  groups = s.shape.config.groups;
  hold = s.shape.config.hold;
  dormancy = s.shape.config.dormancy;
  last = s.shape.last;
  order = omega (arith, s.order);
}

-- page 0 of tables, in two
pub record IsCut (t : Tables) (level : ℕ) (levels page : List ℕ) : Type 0 where
  pub head : take 1024 page ≡ header_bytes (header_with t level)
  pub rest : drop 1024 page ≡ filled_to 3072 (map (to_be_bytes w64) levels)

pub cut_of : (t : Tables) (level : ℕ) (levels page : List ℕ) → AreLevels t level levels → page ≡ page_of t levels 0 → IsCut t level levels page
cut_of t level levels page h e =
    let e' : page ≡ filled (header_bytes (header_with t level) ∷ map (to_be_bytes w64) levels) = e ∙ ap (λ (l : ℕ). filled (header_bytes (header_with t l) ∷ map (to_be_bytes w64) levels)) (first_level level levels h.first) in
    let p = split_front (header_bytes (header_with t level)) (map (to_be_bytes w64) levels) 1024 4096 refl in
    record { head = ap (take 1024) e' ∙ p.0; rest = ap (drop 1024) e' ∙ p.1 }

levels_fit : (level : ℕ) (ls : List ℕ) → level < 2 ^ 63 → All (λ l. (1 ≤ l) × (l ≤ level)) ls → All (λ l. l < 2 ^ 64) ls
levels_fit level [] lt h = All-nil (λ l. l < 2 ^ 64)
levels_fit level (l ∷ ls) lt h =
    let p = All-head (λ l. (1 ≤ l) × (l ≤ level)) l ls h in
    All-cons (λ l. l < 2 ^ 64) l ls (omega (arith, p.1, lt)) (levels_fit level ls lt (All-tail (λ l. (1 ≤ l) × (l ≤ level)) l ls h))

-- the levels after the header are entries
pub levels_are : (t : Tables) (level count : ℕ) (levels page rest : List ℕ) → AreLevels t level levels → IsCut t level levels page → rest ≡ drop 1024 page → length rest ≡ 3072 → count ≡ page_count t.config
    → AreEntries (to_be_bytes w64) (λ l. l < 2 ^ 64) count rest levels
levels_are t level count levels page rest h cut e len n = record {
  len = h.count ∙ sym n;
  fit = levels_fit level levels h.most h.each;
  is = e ∙ cut.rest ∙ ap (λ (k : ℕ). filled_to k (map (to_be_bytes w64) levels)) (sym len);
}

-- ---- what the reader finds

pub first_page : (pages : List Page) (p : Page) → slice_get pages 0 ≡ Some p → page_in pages 0 ≡ p.0
first_page [] p e = absurd (cc)
first_page (x ∷ xs) p e = let same : x ≡ p = cc in ap (λ (q : Page). q.0) same

pub header_found : (pages : List Page) (bytes head rest ls : List ℕ) (h : Header) → page_in pages 0 ≡ bytes → length bytes ≡ 4096 → head ≡ take 1024 bytes → rest ≡ drop 1024 bytes → length rest ≡ 3072
    → HasNumbers h × (head ≡ header_bytes h) → pages_of h ≡ length pages → ReadsEntries (to_be_bytes w64) (λ l. l < 2 ^ 64) (length pages) rest [] ls → are_ages h.level ls ≡ true → IsHeader h pages
header_found pages bytes head rest ls h here size front back len found count r ages = record {
  numbers = found.0;
  count = sym count;
  levels = ls;
  ages = record { len = ap length r.is ∙ r.reads.len; ages = ages };
  page =
      here ∙ join_front bytes (header_bytes h) (map (to_be_bytes w64) ls) 1024 4096 refl (sym front ∙ found.1)
      (sym back ∙ r.reads.is ∙ ap (λ (k : ℕ). filled_to k (map (to_be_bytes w64) r.more)) len ∙ ap (λ (xs : List ℕ). filled_to 3072 (map (to_be_bytes w64) xs)) (sym r.is));
}

-- there is no page
pub no_pages : (pages : List Page) → slice_get pages 0 ≡ None → NoHeader pages
no_pages [] e t level levels s h count here = omega (arith, count)
no_pages (x ∷ xs) e t level levels s h count here = cc

pub no_numbers : (pages : List Page) (bytes head : List ℕ) → page_in pages 0 ≡ bytes → head ≡ take 1024 bytes → ((k : Header) → HasNumbers k → head ≡ header_bytes k → ⊥) → NoHeader pages
no_numbers pages bytes head here front wrong t level levels s h count page =
    wrong (header_with t level) (numbers_of t level levels s h) (front ∙ (cut_of t level levels bytes h (sym here ∙ page)).head)

-- the numbers of page 0 are those of the tables
pub same_numbers : (pages : List Page) (bytes head : List ℕ) (h : Header) → page_in pages 0 ≡ bytes → head ≡ take 1024 bytes → HasNumbers h × (head ≡ header_bytes h)
    → (t : Tables) (level : ℕ) (levels : List ℕ) → HasSpelling t → AreLevels t level levels → page_in pages 0 ≡ page_of t levels 0 → h ≡ header_with t level
same_numbers pages bytes head h here front found t level levels s a page =
    numbers_apart h (header_with t level) found.0 (numbers_of t level levels s a) (sym found.1 ∙ front ∙ (cut_of t level levels bytes a (sym here ∙ page)).head)

pub other_count : (pages : List Page) (bytes head : List ℕ) (h : Header) → page_in pages 0 ≡ bytes → head ≡ take 1024 bytes → HasNumbers h × (head ≡ header_bytes h) → (pages_of h ≡ length pages → ⊥) → NoHeader pages
other_count pages bytes head h here front found differ t level levels s a count page =
    let same = same_numbers pages bytes head h here front found t level levels s a page in
    differ (ap pages_of same ∙ sym count)

pub no_levels : (pages : List Page) (bytes rest : List ℕ) → page_in pages 0 ≡ bytes → rest ≡ drop 1024 bytes → length rest ≡ 3072 → AreNoEntries (to_be_bytes w64) (λ l. l < 2 ^ 64) (length pages) rest → NoHeader pages
no_levels pages bytes rest here back len none t level levels s a count page =
    none levels (levels_are t level (length pages) levels bytes rest a (cut_of t level levels bytes a (sym here ∙ page)) back len count)

pub other_ages : (pages : List Page) (bytes head rest ls : List ℕ) (h : Header) → page_in pages 0 ≡ bytes → head ≡ take 1024 bytes → rest ≡ drop 1024 bytes → length rest ≡ 3072 → HasNumbers h × (head ≡ header_bytes h)
    → ReadsEntries (to_be_bytes w64) (λ l. l < 2 ^ 64) (length pages) rest [] ls → are_ages h.level ls ≡ false → NoHeader pages
other_ages pages bytes head rest ls h here front back len found r wrong t level levels s a count page =
    let same = same_numbers pages bytes head h here front found t level levels s a page in
    let cut = cut_of t level levels bytes a (sym here ∙ page) in
    let is : ls ≡ levels = r.is ∙ one_list (to_be_bytes w64) (λ l. l < 2 ^ 64) 8 level_size level_apart (length pages) rest r.more levels r.reads (levels_are t level (length pages) levels bytes rest a cut back len count) in
    let ages : are_ages h.level ls ≡ true = ap (λ (k : Header). are_ages k.level ls) same ∙ ap (are_ages level) is ∙ ages_of t level levels a in
    cc

-- the pages of a header are few
pub few_pages : (h : Header) → HasNumbers h → pages_of h ≤ 323
few_pages h n = omega (arith, n.jobs.1, n.outputs.1, n.volumes.1, n.groups.1, mul-le-mul_left {m = h.groups} {n = 4096} h.volumes n.groups.1)
