-- What the test of pages finds, without a list of what they spell.
use Rattle.std.proofs.Common.{◌≡◌, ℕ, ◌+◌, ◌-◌, ◌*◌, ◌/◌, ◌≤◌, ◌<◌, ◌^◌, true, false, List, [], ◌∷◌, ◌++◌, length, get_or, take, drop, Option, None, Some, refl, sym, ap, subst, ◌∙◌, All, arith}
use Rattle.std.specs.Prelude.{◌==◌, ◌&&◌, nat_le, min, IfSome}
use Rattle.std.specs.List.{list_all, slice_index}
use Rattle.std.specs.Int.{w64, from_be_bytes, to_be_bytes}
use Rattle.std.proofs.lemmas.Bool.Decides.{nat_tests}
use Rattle.std.proofs.lemmas.List.{length-take, length-drop}
use Rattle.std.proofs.lemmas.List.Elements.{All-nil, All-push, All-get_or}
use Rattle.std.proofs.lemmas.Nat.{from_be_bytes-to_be_bytes_8}
use Rattle.mas_types.specs.declared.ids.Page.{Page}
use Rattle.mas_types.specs.declared.queues.Setting.{Setting}
use Rattle.mas_types.specs.Fit.{IsSetting}
use Rattle.lay_bytes.specs.Bytes.{are_zeros}
use Rattle.lay_bytes.specs.Fields.{piece, first_bad}
use Rattle.lay_bytes.specs.Slots.{job_slot, output_slot, owner_entry, IsJobRec, IsOutRec, IsOwner, IfUsed}
use Rattle.lay_bytes.proofs.Pieces.{both_true, both_from, long_back, fits_piece}
use Rattle.lay_bytes.proofs.SlotLemmas.{same_from_eq}
use Rattle.ckpt_pages.specs.declared.header.Header.{Header}
use Rattle.ckpt_pages.specs.declared.nodes.Nodes.{Nodes}
use Rattle.ckpt_tables.specs.Shape.{IsRoute, IsLineCount}
use Rattle.ckpt_pages.specs.Checkpoints.{IsLeastBad, SpellSome}
use Rattle.ckpt_pages.specs.Fields.{node_fields}
use Rattle.ckpt_pages.specs.Headers.{HasNumbers, IsHeader, NoHeader, header_bytes, pages_of, are_ages}
use Rattle.ckpt_pages.specs.Kinds.{level_size}
use Rattle.ckpt_pages.specs.Nodes.{AreNodes}
use Rattle.ckpt_tables.specs.Pages.{page_in, setting_entry, line_entry, route_entry}
use Rattle.ckpt_pages.specs.Reading.{AreEntries, ReadsEntries, IsFirstBad}
use Rattle.ckpt_pages.specs.Slots.{made, AreFront, IsBadBehind}
use Rattle.ckpt_pages.specs.Testing.{SpellsOne, SomeEntries, SomePages, AreLevelsOf, SomeLevels, NoLevels, SomeNodes, SomeSlots}
use Rattle.ckpt_pages.proofs.EntryLemmas.{IsReadTo, read_none, read_more, read_step, read_all, entry_of, no_tail}
use Rattle.ckpt_pages.proofs.RunLemmas.{AreReadTo, none_read, one_more, all_read}
use Rattle.ckpt_pages.proofs.HeaderLemmas.{all_ages, ages_all, ages_of, same_numbers, levels_are, cut_of, header_found}
use Rattle.ckpt_pages.proofs.NodeLemmas.{nodes_found}
use Rattle.ckpt_pages.proofs.DecodingLemmas.{AreMembers, bad_2, members_found, front_found, tables_found}
use Rattle.ckpt_pages.proofs.SlotPageLemmas.{bad_outputs, bad_owners}

-- ---- entries and pages of them

-- i entries stand before at
abbrev pub StandTo : {X : Type 0} → (X → List ℕ) → (X → Type 0) → ℕ → ℕ → ℕ → List ℕ → Type 0
StandTo {X} slot Fits w i at bytes = (items : List X) × IsReadTo slot Fits w i at bytes [] items

-- the items on the pages before page are the total less the rest
abbrev pub StandBefore : {X : Type 0} → (X → List ℕ) → (X → Type 0) → ℕ → ℕ → ℕ → List Page → ℕ → ℕ → Type 0
StandBefore {X} slot Fits a_page first total pages page rest = (items : List X) × (rest + length items ≡ total) × AreReadTo slot Fits a_page first total pages page items

module _ {X : Type 0} (slot : X → List ℕ) (Fits : X → Type 0) where
  pub none_stand : (w : ℕ) (bytes : List ℕ) → StandTo slot Fits w 0 0 bytes
  none_stand w bytes = ([], read_none slot Fits w bytes [])

  pub one_stands : (w w1 w2 i at : ℕ) (bytes : List ℕ) → StandTo slot Fits w i at bytes → w1 ≡ w → w2 ≡ w → SpellsOne Fits slot (take (at + w1 - at) (drop at bytes)) → StandTo slot Fits w (i + 1) (at + w2) bytes
  one_stands w w1 w2 i at bytes h e1 e2 x = (h.0 ++ x.0 ∷ [], read_step slot Fits w w1 w2 i at bytes [] h.0 (h.0 ++ x.0 ∷ []) x.0 h.1 e1 e2 (x.1, x.2) refl)

  pub all_stand : (w count i at : ℕ) (bytes : List ℕ) → StandTo slot Fits w i at bytes → i ≤ count → count ≤ i → w * count ≤ length bytes → true ≡ are_zeros (take (length bytes - at) (drop at bytes)) → SomeEntries slot Fits count bytes
  all_stand w count i at bytes h le ge room z =
      let r = read_all slot Fits w count i at bytes [] h.0 h.1 le ge room z in
      (r.more, r.reads)

  pub none_before : (a_page first total : ℕ) (pages : List Page) → StandBefore slot Fits a_page first total pages first total
  none_before a_page first total pages = ([], omega arith, none_read slot Fits a_page first total pages)

  -- entries of bytes as what a reader adds
  pub added : (count : ℕ) (bytes : List ℕ) (old : List X) (h : SomeEntries slot Fits count bytes) → ReadsEntries slot Fits count bytes old (old ++ h.0)
  added count bytes old h = record { more = h.0; is = refl; reads = h.1 }

  pub one_before : (a_page first total : ℕ) (pages : List Page) (page rest count : ℕ) (bytes : List ℕ) (h : StandBefore slot Fits a_page first total pages page rest) → length h.0 < total → page_in pages page ≡ bytes → length bytes ≡ 4096
      → count ≡ min (total - length h.0) a_page → SomeEntries slot Fits count bytes → StandBefore slot Fits a_page first total pages (page + 1) (rest - count)
  one_before a_page first total pages page rest count bytes h lt here size e some =
      let more = one_more slot Fits a_page first total pages page rest count bytes h.0 (h.0 ++ some.0) h.1 h.2 lt here size e (added count bytes h.0 some) in
      (h.0 ++ some.0, more.0, more.1)

  pub all_before : (a_page first total : ℕ) (pages : List Page) (page rest : ℕ) → StandBefore slot Fits a_page first total pages page rest → rest ≤ 0 → SomePages slot Fits a_page first total pages
  all_before a_page first total pages page rest h none = (h.0, all_read slot Fits a_page first total pages page h.0 h.2 (omega (arith, h.1, none)))

-- ---- levels

-- i levels stand before byte 8 * i, each from 1 to the greatest
abbrev pub LevelsTo : ℕ → ℕ → List ℕ → Type 0
LevelsTo level i bytes = (levels : List ℕ) × All (λ a. (1 ≤ a) × (a ≤ level)) levels × IsReadTo (to_be_bytes w64) (λ a. a < 2 ^ 64) 8 i (8 * i) bytes [] levels

pub no_levels_yet : (level : ℕ) (bytes : List ℕ) → LevelsTo level 0 bytes
no_levels_yet level bytes = ([], All-nil (λ a. (1 ≤ a) × (a ≤ level)), read_none (to_be_bytes w64) (λ a. a < 2 ^ 64) 8 bytes [])

-- eight bytes are the spelling of the number that they give
long_at : (at n : ℕ) (bytes : List ℕ) → at + 8 ≤ length bytes → ((i : ℕ) → get_or bytes i 0 < 256) → n ≡ from_be_bytes w64 (piece at 8 bytes) → piece at 8 bytes ≡ to_be_bytes w64 n
long_at at n bytes room fits e =
    let len : length (piece at 8 bytes) ≡ 8 = omega (arith, length-take 8 (drop at bytes), length-drop at bytes, room) in
    sym (long_back (piece at 8 bytes) len (fits_piece at 8 bytes fits)) ∙ ap (to_be_bytes w64) (sym e)

pub one_level_more : (level i count age : ℕ) (bytes : List ℕ) → LevelsTo level i bytes → i < count → 8 * count ≤ length bytes → ((k : ℕ) → get_or bytes k 0 < 256) → age < 2 ^ 64 → age ≡ from_be_bytes w64 (piece (8 * i) 8 bytes) → 1 ≤ age → age ≤ level
    → LevelsTo level (i + 1) bytes
one_level_more level i count age bytes h lt room fits small e some most =
    let next : 8 * i + 8 ≡ 8 * (i + 1) = omega arith in (
      h.0 ++ age ∷ [],
      All-push (λ a. (1 ≤ a) × (a ≤ level)) h.0 age h.1 (some, most),
      subst (λ (at : ℕ). IsReadTo (to_be_bytes w64) (λ a. a < 2 ^ 64) 8 (i + 1) at bytes [] (h.0 ++ age ∷ [])) next
          (read_more (to_be_bytes w64) (λ a. a < 2 ^ 64) 8 i (8 * i) bytes [] h.0 (h.0 ++ age ∷ []) age h.2 small (long_at (8 * i) age bytes (omega (arith, lt, room)) fits e) refl),
    )

-- the number at the place of a page's level is that level
level_there : (count i : ℕ) (bytes levels : List ℕ) → AreEntries (to_be_bytes w64) (λ a. a < 2 ^ 64) count bytes levels → i < count → from_be_bytes w64 (piece (8 * i) 8 bytes) ≡ get_or levels i 0
level_there count i bytes levels h lt =
    let p = entry_of (to_be_bytes w64) (λ a. a < 2 ^ 64) 8 level_size count i (8 * i) bytes levels 0 h lt refl in
    ap (from_be_bytes w64) p.1 ∙ from_be_bytes-to_be_bytes_8 (get_or levels i 0) p.0

pub levels_stand : (level i count n : ℕ) (bytes : List ℕ) → LevelsTo level i bytes → i ≤ count → count ≤ i → 1 ≤ count → 8 * count ≤ length bytes → n ≡ from_be_bytes w64 (piece 0 8 bytes) → n ≡ level
    → true ≡ are_zeros (take (length bytes - 8 * count) (drop (8 * count) bytes)) → SomeLevels level count bytes
levels_stand level i count n bytes h le ge some room e is z =
    let same : i ≡ count = omega (arith, le, ge) in
    let read = subst (λ (k : ℕ). IsReadTo (to_be_bytes w64) (λ a. a < 2 ^ 64) 8 k (8 * k) bytes [] h.0) same h.2 in
    let r = read_all (to_be_bytes w64) (λ a. a < 2 ^ 64) 8 count count (8 * count) bytes [] h.0 read (omega arith) (omega arith) room z in
    let first : slice_index r.more 0 ≡ level = sym (level_there count 0 bytes r.more r.reads (omega (arith, some))) ∙ sym e ∙ is in
    (r.more, (r.reads, both_from _ _ (eq_to (slice_index r.more 0) level first) (all_ages level r.more (subst (All (λ l. (1 ≤ l) × (l ≤ level))) r.is h.1))))
  where
    eq_to : (a b : ℕ) → a ≡ b → (a == b) ≡ true
    eq_to a b e = grind (arith, nat_tests)

pub other_first : (level count n : ℕ) (bytes : List ℕ) → 1 ≤ count → n ≡ from_be_bytes w64 (piece 0 8 bytes) → (n ≡ level → ⊥) → NoLevels level count bytes
other_first level count n bytes some e differ levels h =
    let p = both_true (slice_index levels 0 == level) (list_all (λ l. nat_le 1 l && nat_le l level) levels) h.1 in
    differ (e ∙ level_there count 0 bytes levels h.0 (omega (arith, some)) ∙ same_from_eq (slice_index levels 0) level p.0)

-- each level is from 1 to the greatest
level_within : (level count i n : ℕ) (bytes levels : List ℕ) → AreLevelsOf level count bytes levels → i < count → n ≡ from_be_bytes w64 (piece (8 * i) 8 bytes) → (1 ≤ n) × (n ≤ level)
level_within level count i n bytes levels h lt e =
    let p = both_true (slice_index levels 0 == level) (list_all (λ l. nat_le 1 l && nat_le l level) levels) h.1 in
    let q = All-get_or (λ l. (1 ≤ l) × (l ≤ level)) levels i 0 (omega (arith, h.0.len, lt)) (ages_all level levels p.1) in
    let is : n ≡ get_or levels i 0 = e ∙ level_there count i bytes levels h.0 lt in
    (omega (arith, is, q.0), omega (arith, is, q.1))

pub level_outside : (level count i n : ℕ) (bytes : List ℕ) → i < count → n ≡ from_be_bytes w64 (piece (8 * i) 8 bytes) → ((1 ≤ n) → (n ≤ level) → ⊥) → NoLevels level count bytes
level_outside level count i n bytes lt e wrong levels h = let p = level_within level count i n bytes levels h lt e in wrong p.0 p.1

pub no_zeros : (level count : ℕ) (bytes : List ℕ) → false ≡ are_zeros (take (length bytes - 8 * count) (drop (8 * count) bytes)) → NoLevels level count bytes
no_zeros level count bytes z levels h = no_tail (to_be_bytes w64) (λ a. a < 2 ^ 64) 8 level_size count count (8 * count) bytes (omega arith) (omega arith) refl z levels h.0

-- ---- page 0

pub header_there : (pages : List Page) (bytes head rest : List ℕ) (h : Header) → page_in pages 0 ≡ bytes → length bytes ≡ 4096 → head ≡ take 1024 bytes → rest ≡ drop 1024 bytes → length rest ≡ 3072
    → HasNumbers h × (head ≡ header_bytes h) → pages_of h ≡ length pages → SomeLevels h.level (length pages) rest → IsHeader h pages
header_there pages bytes head rest h here size front back len found count levels =
    header_found pages bytes head rest levels.0 h here size front back len found count (record { more = levels.0; is = refl; reads = levels.1.0 }) levels.1.1

pub no_ages : (pages : List Page) (bytes head rest : List ℕ) (h : Header) → page_in pages 0 ≡ bytes → head ≡ take 1024 bytes → rest ≡ drop 1024 bytes → length rest ≡ 3072 → HasNumbers h × (head ≡ header_bytes h)
    → NoLevels h.level (length pages) rest → NoHeader pages
no_ages pages bytes head rest h here front back len found none t level levels s a count page =
    let same = same_numbers pages bytes head h here front found t level levels s a page in
    let cut = cut_of t level levels bytes a (sym here ∙ page) in
    none levels (levels_are t level (length pages) levels bytes rest a cut back len count, ap (λ (k : Header). are_ages k.level levels) same ∙ ages_of t level levels a)

-- ---- page 2

pub nodes_there : (page head rest middle tail : List ℕ) → head ≡ take 128 page → rest ≡ drop 128 page → middle ≡ take 896 rest → tail ≡ drop 896 rest → length head ≡ 128 → length middle ≡ 896 → length tail ≡ 3072
    → ((i : ℕ) → get_or page i 0 < 256) → first_bad 0 node_fields head ≡ None → SomeEntries line_entry IsLineCount 8 middle → SomeEntries route_entry IsRoute (slice_index head 8) tail → SomeNodes page
nodes_there page head rest middle tail e0 e1 e2 e3 len0 len1 len2 fits good lines routes = (
  record { node = record { 0 = piece 0 8 head }; lines = lines.0; routes = routes.0 },
  nodes_found page head rest middle tail (record { 0 = piece 0 8 head }) lines.0 routes.0 e0 e1 e2 e3 len0 len1 len2 fits good refl
      (record { more = lines.0; is = refl; reads = lines.1 }) (record { more = routes.0; is = refl; reads = routes.1 }),
)

-- ---- all pages

pub if_some : (P Q : ℕ → Type 0) (o : Option ℕ) → ((p : ℕ) → P p → Q p) → IfSome o P → IfSome o Q
if_some P Q None f h = tt
if_some P Q (Some p) f h = f p h

-- pages 1 and 2 spell something
pub record SomeFront (h : Header) (pages : List Page) : Type 0 where
  pub members : List Setting
  pub nodes : Nodes
  pub front : AreFront h nodes.node members nodes.lines nodes.routes pages

pub members_there : (h : Header) (pages : List Page) (one : List ℕ) → page_in pages 1 ≡ one → length one ≡ 4096 → (members : SomeEntries setting_entry IsSetting h.members one) → AreMembers h members.0 pages
members_there h pages one here size members = members_found h pages one members.0 here size (record { more = members.0; is = refl; reads = members.1 })

pub front_there : (h : Header) (pages : List Page) (one two : List ℕ) → page_in pages 1 ≡ one → length one ≡ 4096 → page_in pages 2 ≡ two → SomeEntries setting_entry IsSetting h.members one → SomeNodes two → SomeFront h pages
front_there h pages one two here size there members nodes = record {
  members = members.0;
  nodes = nodes.0;
  front = front_found h pages two members.0 nodes.0 (members_there h pages one here size members) there nodes.1;
}

pub nodes_bad : (h : Header) (pages : List Page) (one two : List ℕ) → IsHeader h pages → page_in pages 1 ≡ one → length one ≡ 4096 → page_in pages 2 ≡ two → SomeEntries setting_entry IsSetting h.members one
    → ((n : Nodes) → AreNodes two n → ⊥) → IsLeastBad pages 2
nodes_bad h pages one two is here size there members none =
    let m = members_there h pages one here size members in
    bad_2 h pages two members.0 is m.fit m.page there none

pub slot_bad : (h : Header) (pages : List Page) (o : Option ℕ) → SomeFront h pages → IfSome o (IsBadBehind h pages) → IfSome o (IsLeastBad pages)
slot_bad h pages o f bad = if_some (IsBadBehind h pages) (IsLeastBad pages) o (λ n behind. behind f.nodes.node f.members f.nodes.lines f.nodes.routes f.front) bad

pub all_there : (h : Header) (pages : List Page) → IsHeader h pages → SomeFront h pages → SomeSlots h pages → SpellSome pages
all_there h pages is f slots =
    (made h f.nodes.node f.members f.nodes.lines f.nodes.routes slots.0.jobs slots.0.outputs slots.0.owners, tables_found h f.nodes.node f.members f.nodes.lines f.nodes.routes slots.0 pages is f.front slots.1)

-- ---- slots

pub outputs_bad : (h : Header) (pages : List Page) (p : ℕ) → IsHeader h pages → SomePages job_slot (IfUsed IsJobRec) 16 3 h.jobs pages → IsFirstBad output_slot (IfUsed IsOutRec) 32 (3 + h.jobs / 16) h.outputs pages p → IsBadBehind h pages p
outputs_bad h pages p is jobs bad = bad_outputs h pages p jobs.0 is jobs.1 bad

pub owners_bad : (h : Header) (pages : List Page) (o : Option ℕ) → IsHeader h pages → SomePages job_slot (IfUsed IsJobRec) 16 3 h.jobs pages → SomePages output_slot (IfUsed IsOutRec) 32 (3 + h.jobs / 16) h.outputs pages
    → IfSome o (IsFirstBad owner_entry IsOwner 512 (3 + h.jobs / 16 + h.outputs / 32) (h.volumes * h.groups) pages) → IfSome o (IsBadBehind h pages)
owners_bad h pages o is jobs outputs bad =
    if_some (IsFirstBad owner_entry IsOwner 512 (3 + h.jobs / 16 + h.outputs / 32) (h.volumes * h.groups) pages) (IsBadBehind h pages) o (λ n b. bad_owners h pages n jobs.0 outputs.0 is jobs.1 outputs.1 b) bad

pub slots_there : (h : Header) (pages : List Page) → SomePages job_slot (IfUsed IsJobRec) 16 3 h.jobs pages → SomePages output_slot (IfUsed IsOutRec) 32 (3 + h.jobs / 16) h.outputs pages
    → SomePages owner_entry IsOwner 512 (3 + h.jobs / 16 + h.outputs / 32) (h.volumes * h.groups) pages → SomeSlots h pages
slots_there h pages jobs outputs owners = (record { jobs = jobs.0; outputs = outputs.0; owners = owners.0 }, record { of_jobs = jobs.1; of_outputs = outputs.1; of_owners = owners.1 })
