-- The header of tables whose configuration is known.
use Rattle.std.proofs.Common.{◌≡◌, ℕ, ◌%◌, ◌^◌, ◌≤◌, ◌<◌, true, List, length, get_or, take, drop, map, None, Some, refl, sym, ap, subst, ◌∙◌, arith}
use Rattle.std.specs.Prelude.{◌==◌, ◌&&◌, nat_le}
use Rattle.std.specs.List.{list_all, slice_index}
use Rattle.std.specs.Int.{w64, from_be_bytes, to_be_bytes}
use Rattle.std.proofs.lemmas.Bool.Decides.{nat_tests}
use Rattle.std.proofs.lemmas.List.Elements.{All-weaker}
use Rattle.mas_types.specs.declared.ids.Page.{Page}
use Rattle.mas_types.specs.declared.queues.Config.{Config}
use Rattle.mas_types.specs.Fit.{IsConfig}
use Rattle.lay_bytes.specs.Fields.{piece, first_bad, pieces}
use Rattle.lay_bytes.proofs.Pieces.{both_from, both_true}
use Rattle.ckpt_tables.specs.declared.tables.Tables.{Tables}
use Rattle.ckpt_tables.specs.Shape.{page_count}
use Rattle.ckpt_tables.specs.Pages.{filled_to, page_in}
use Rattle.ckpt_pages.specs.Fields.{header_fields, header_in}
use Rattle.ckpt_pages.specs.Checkpoints.{IsCheckpoint}
use Rattle.ckpt_pages.specs.Headers.{IsHeader, config_of, header_bytes, header_with, is_whole}
use Rattle.ckpt_pages.specs.Testing.{NoLevels, SomeLevels}
use Rattle.ckpt_pages.proofs.HeaderLemmas.{ages_all, ages_of, cut_of, join_front, not_checked, numbers_of, numbers_said, numbers_take, split_front}
use Rattle.ckpt_pages.proofs.TestingLemmas.{header_there}
use Rattle.page_tables.specs.Bringing.{HasHeader, IsHead, head_pieces, said_config}

-- jobs and outputs fill whole pages, as those of the configuration do
whole_by : (ps : List (List ℕ)) (c : Config) → IsConfig c → config_of (header_in ps) c.node ≡ c → is_whole (header_in ps) ≡ true
whole_by ps c fit same =
    let jobs : (header_in ps).jobs ≡ c.jobs = ap (λ (x : Config). x.jobs) same in
    let outputs : (header_in ps).outputs ≡ c.outputs = ap (λ (x : Config). x.outputs) same in
    both_from _ _ (none_left ((header_in ps).jobs % 16) (ap (λ (n : ℕ). n % 16) jobs ∙ fit.jobs.2)) (none_left ((header_in ps).outputs % 32) (ap (λ (n : ℕ). n % 32) outputs ∙ fit.outputs.2))
  where
    none_left : (n : ℕ) → n ≡ 0 → (n == 0) ≡ true
    none_left n e = grind (arith, nat_tests)

pub head_from : (c : Config) (head : List ℕ) → IsConfig c → length head ≡ 1024 → ((i : ℕ) → get_or head i 0 < 256) → first_bad 0 header_fields head ≡ None → config_of (header_in (pieces 0 header_fields head)) c.node ≡ c → IsHead c head
head_from c head fit len fits good same =
    let found = numbers_take head (header_in (pieces 0 header_fields head)) len fits good refl (whole_by (pieces 0 header_fields head) c fit same) in
    record { numbers = found.0; bytes = found.1; config = same }

pub header_from : (c : Config) (pages : List Page) (bytes head rest : List ℕ) → length pages ≡ page_count c → page_in pages 0 ≡ bytes → length bytes ≡ 4096 → head ≡ take 1024 bytes → rest ≡ drop 1024 bytes
    → length rest ≡ 3072 → IsHead c head → SomeLevels (from_be_bytes w64 (piece 8 8 head)) (length pages) rest → HasHeader c pages
header_from c pages bytes head rest count here size front back len is_head levels =
    let is = header_there pages bytes head rest (header_in (pieces 0 header_fields head)) here size front back len (is_head.numbers, is_head.bytes) (ap page_count is_head.config ∙ sym count) levels in
    let e : head ≡ take 1024 (page_in pages 0) = front ∙ ap (take 1024) (sym here) in
    record {
      is = subst (λ (x : List ℕ). IsHeader (header_in (pieces 0 header_fields x)) pages) e is;
      config = subst (λ (x : List ℕ). config_of (header_in (pieces 0 header_fields x)) c.node ≡ c) e is_head.config;
    }

-- page 0 in two
head_is : (ps : List (List ℕ)) (pages : List Page) (is : IsHeader (header_in ps) pages) → take 1024 (page_in pages 0) ≡ header_bytes (header_in ps)
head_is ps pages is = ap (take 1024) is.page ∙ (split_front (header_bytes (header_in ps)) (map (to_be_bytes w64) is.levels) 1024 4096 refl).0

rest_is : (ps : List (List ℕ)) (pages : List Page) (is : IsHeader (header_in ps) pages) → drop 1024 (page_in pages 0) ≡ filled_to 3072 (map (to_be_bytes w64) is.levels)
rest_is ps pages is = ap (drop 1024) is.page ∙ (split_front (header_bytes (header_in ps)) (map (to_be_bytes w64) is.levels) 1024 4096 refl).1

-- page 0 of a header has its fields
pub head_of_header : (c : Config) (pages : List Page) (bytes head : List ℕ) → page_in pages 0 ≡ bytes → head ≡ take 1024 bytes → HasHeader c pages → IsHead c head
head_of_header c pages bytes head here front has =
    let e : take 1024 (page_in pages 0) ≡ head = ap (take 1024) here ∙ sym front in
    subst (IsHead c) e (record { numbers = has.is.numbers; bytes = head_is (head_pieces pages) pages has.is; config = has.config })

pub bad_fields : (c : Config) (head : List ℕ) (n : ℕ) → first_bad 0 header_fields head ≡ Some n → IsHead c head → ⊥
bad_fields c head n bad is = not_checked head n bad (header_in (pieces 0 header_fields head)) is.numbers is.bytes

pub bad_levels : (c : Config) (pages : List Page) (bytes head rest : List ℕ) → page_in pages 0 ≡ bytes → head ≡ take 1024 bytes → rest ≡ drop 1024 bytes → length rest ≡ 3072 → NoLevels (from_be_bytes w64 (piece 8 8 head)) (length pages) rest → HasHeader c pages → ⊥
bad_levels c pages bytes head rest here front back len none has =
    let is = has.is in
    let e : head ≡ take 1024 (page_in pages 0) = front ∙ ap (take 1024) (sym here) in
    let none' : NoLevels (header_in (head_pieces pages)).level (length pages) rest = subst (λ (x : List ℕ). NoLevels (from_be_bytes w64 (piece 8 8 x)) (length pages) rest) e none in
    let parts = both_true (slice_index is.levels 0 == (header_in (head_pieces pages)).level) (list_all (λ l. nat_le 1 l && nat_le l (header_in (head_pieces pages)).level) is.levels) is.ages.ages in
    let each = ages_all (header_in (head_pieces pages)).level is.levels parts.1 in
    none' is.levels (
      record {
        len = is.ages.len;
        fit = All-weaker (λ l. (1 ≤ l) × (l ≤ (header_in (head_pieces pages)).level)) (λ l. l < 2 ^ 64) (λ l p. omega (arith, p.1, is.numbers.level.1)) is.levels each;
        is = back ∙ ap (drop 1024) (sym here) ∙ rest_is (head_pieces pages) pages is ∙ ap (λ (k : ℕ). filled_to k (map (to_be_bytes w64) is.levels)) (sym len);
      },
      is.ages.ages,
    )

-- page 0 of pages that spell tables is a header of the configuration that it says
pub header_of_spelled : (c : Config) (pages : List Page) (t : Tables) (is : IsCheckpoint pages t) → length pages ≡ page_count c → said_config c.node (page_in pages 0) ≡ c → HasHeader c pages
header_of_spelled c pages t is count said =
    let numbers = numbers_of t is.level is.levels is.fit is.ages in
    let cut = cut_of t is.level is.levels (page_in pages 0) is.ages (is.spell.each 0 (omega (arith, count))) in
    let again : header_in (head_pieces pages) ≡ header_with t is.level = ap (λ (head : List ℕ). header_in (pieces 0 header_fields head)) cut.head ∙ numbers_said (header_with t is.level) numbers in
    let header : IsHeader (header_with t is.level) pages = record {
      numbers = numbers;
      count = is.spell.count;
      levels = is.levels;
      ages = record { len = is.ages.count ∙ sym is.spell.count; ages = ages_of t is.level is.levels is.ages };
      page = join_front (page_in pages 0) (header_bytes (header_with t is.level)) (map (to_be_bytes w64) is.levels) 1024 4096 refl cut.head cut.rest;
    } in
    record { is = subst (λ h. IsHeader h pages) (sym again) header; config = said }
