-- Pages that are read one after another spell tables.
use Rattle.std.proofs.Common.{◌≡◌, ℕ, zero, suc, ◌+◌, ◌-◌, ◌*◌, ◌/◌, ◌≤◌, ◌<◌, true, false, List, [], ◌∷◌, length, map, replicate, Option, None, Some, refl, sym, ap, ◌∙◌, All, inl, inr, arith}
use Rattle.std.specs.Prelude.{◌==◌, nat_lt, codes, slice_get}
use Rattle.std.specs.List.{slice_index}
use Rattle.std.specs.Int.{w64, to_be_bytes}
use Rattle.std.proofs.lemmas.Bool.{cases_lt, lt-ltb as is_below}
use Rattle.std.proofs.lemmas.Bool.Decides.{nat_tests}
use Rattle.std.proofs.lemmas.List.{length-replicate}
use Rattle.std.proofs.lemmas.List.Elements.{All-replicate, All-nil}
use Rattle.mas_types.specs.declared.ids.Name8.{Name8}
use Rattle.mas_types.specs.declared.ids.Page.{Page}
use Rattle.mas_types.specs.declared.queues.LineCount.{LineCount}
use Rattle.mas_types.specs.declared.queues.Owner.{Owner}
use Rattle.mas_types.specs.declared.queues.Owner.TheVariants as owner
use Rattle.mas_types.specs.declared.queues.Route.{Route}
use Rattle.mas_types.specs.declared.queues.Setting.{Setting}
use Rattle.mas_types.specs.Fit.{IsConfig, IsName, IsSetting}
use Rattle.mas_types.specs.Limits.{routes_most}
use Rattle.mas_types.specs.Starts.{default_setting, no_count}
use Rattle.lay_bytes.specs.declared.records.JobRec.{JobRec}
use Rattle.lay_bytes.specs.declared.records.OutRec.{OutRec}
use Rattle.lay_bytes.specs.Slots.{job_slot, output_slot, owner_entry, IsJobRec, IsOutRec, IsOwner, IfUsed}
use Rattle.lay_bytes.proofs.Pieces.{both_true}
use Rattle.lay_bytes.proofs.SlotLemmas.{same_from_eq}
use Rattle.ckpt_pages.specs.declared.header.Header.{Header}
use Rattle.ckpt_tables.specs.declared.tables.Tables.{Tables}
use Rattle.ckpt_tables.specs.Shape.{HasSpelling, AreLevels, IsRoute, IsLineCount, first_output_page, first_group_page}
use Rattle.ckpt_pages.specs.Headers.{HasNumbers, IsHeader, config_of, are_ages, header_bytes}
use Rattle.ckpt_pages.specs.Nodes.{node_page}
use Rattle.ckpt_pages.specs.Slots.{made}
use Rattle.ckpt_tables.specs.Pages.{filled, part, page_in, page_of, setting_entry}
use Rattle.ckpt_pages.specs.Checkpoints.{IsCheckpoint, IsSpelling}
use Rattle.ckpt_pages.proofs.HeaderLemmas.{ages_all}
use Rattle.ckpt_pages.proofs.StartLemmas.{default_is_setting}

-- ---- tables from their parts

-- the parts fit the header
pub record ArePartsOf (h : Header) (node : Name8) (members : List Setting) (lines : List LineCount) (routes : List Route) (jobs : List (Option JobRec)) (outputs : List (Option OutRec)) (owners : List Owner) : Type 0 where
  pub node_fit : IsName node
  pub members_are : (length members ≡ h.members) × All IsSetting members
  pub lines_are : (length lines ≡ 8) × All IsLineCount lines
  pub routes_are : (length routes ≤ routes_most) × All IsRoute routes
  pub jobs_are : (length jobs ≡ h.jobs) × All (IfUsed IsJobRec) jobs
  pub outputs_are : (length outputs ≡ h.outputs) × All (IfUsed IsOutRec) outputs
  pub owners_are : (length owners ≡ h.volumes * h.groups) × All IsOwner owners

config_fits : (h : Header) (node : Name8) → HasNumbers h → IsName node → IsConfig (config_of h node)
config_fits h node n name = record {
  members = n.members;
  jobs = n.jobs;
  outputs = n.outputs;
  volumes = n.volumes;
  groups = n.groups;
  hold = n.hold;
  dormancy = n.dormancy;
  node = name;
}

pub made_fits : (h : Header) (node : Name8) (members : List Setting) (lines : List LineCount) (routes : List Route) (jobs : List (Option JobRec)) (outputs : List (Option OutRec)) (owners : List Owner)
    → HasNumbers h → ArePartsOf h node members lines routes jobs outputs owners → HasSpelling (made h node members lines routes jobs outputs owners)
made_fits h node members lines routes jobs outputs owners n p = record {
  shape = record {
    config = config_fits h node n p.node_fit;
    jobs = p.jobs_are.0;
    outputs = p.outputs_are.0;
    owners = p.owners_are.0;
    members = p.members_are.0;
    settings = p.members_are.1;
    routes = p.routes_are.0;
    lines = p.lines_are.0;
    last = n.last;
  };
  order = omega (arith, n.order);
  jobs = p.jobs_are.1;
  outputs = p.outputs_are.1;
  owners = p.owners_are.1;
  routes = p.routes_are.1;
  lines = p.lines_are.1;
}

first_is : (level count : ℕ) (levels : List ℕ) → 1 ≤ length levels → are_ages level levels ≡ true → slice_get levels 0 ≡ Some level
first_is level count [] some h = absurd (omega arith)
first_is level count (l ∷ ls) some h = let p = both_true (slice_index (l ∷ ls) 0 == level) _ h in ap Some (same_from_eq l level p.0)

pub made_levels : (h : Header) (node : Name8) (members : List Setting) (lines : List LineCount) (routes : List Route) (jobs : List (Option JobRec)) (outputs : List (Option OutRec)) (owners : List Owner) (pages : List Page)
    (is : IsHeader h pages) → AreLevels (made h node members lines routes jobs outputs owners) h.level is.levels
made_levels h node members lines routes jobs outputs owners pages is =
    let p = both_true (slice_index is.levels 0 == h.level) _ is.ages.ages in
    record {
      count = is.ages.len ∙ is.count;
      first = first_is h.level (length pages) is.levels (omega (arith, is.ages.len, is.count)) is.ages.ages;
      each = ages_all h.level is.levels p.1;
      most = omega (arith, is.numbers.level.1);
    }

first_known : (level : ℕ) (levels : List ℕ) → are_ages level levels ≡ true → slice_index levels 0 ≡ level
first_known level levels h = let p = both_true (slice_index levels 0 == level) _ h in same_from_eq (slice_index levels 0) level p.0

pub made_header : (h : Header) (node : Name8) (members : List Setting) (lines : List LineCount) (routes : List Route) (jobs : List (Option JobRec)) (outputs : List (Option OutRec)) (owners : List Owner) (pages : List Page)
    (is : IsHeader h pages) → page_in pages 0 ≡ page_of (made h node members lines routes jobs outputs owners) is.levels 0
made_header h node members lines routes jobs outputs owners pages is =
    let level = first_known h.level is.levels is.ages.ages in
    is.page ∙ ap (λ (l : ℕ). filled (header_bytes (record h { level = l }) ∷ map (to_be_bytes w64) is.levels)) (sym level)

-- ---- the pages of tables, by kind

not_page : (p k : ℕ) → k < p → (p == k) ≡ false
not_page p k lt = grind (arith, nat_tests)

not_below : (p n : ℕ) → n ≤ p → nat_lt p n ≡ false
not_below p n le = grind (arith, nat_tests)

pub job_page : (t : Tables) (levels : List ℕ) (p : ℕ) → 3 ≤ p → p < first_output_page t.config → page_of t levels p ≡ filled (map job_slot (part 16 (p - 3) t.jobs))
job_page t levels p from to = rw (not_page p 0 (omega arith), not_page p 1 (omega arith), not_page p 2 (omega arith), is_below p (first_output_page t.config) to) refl

pub output_page : (t : Tables) (levels : List ℕ) (p : ℕ) → first_output_page t.config ≤ p → p < first_group_page t.config → page_of t levels p ≡ filled (map output_slot (part 32 (p - first_output_page t.config) t.outputs))
output_page t levels p from to =
    rw (not_page p 0 (omega arith), not_page p 1 (omega arith), not_page p 2 (omega arith), not_below p (first_output_page t.config) from, is_below p (first_group_page t.config) to) refl

pub owner_page : (t : Tables) (levels : List ℕ) (p : ℕ) → first_group_page t.config ≤ p → page_of t levels p ≡ filled (map owner_entry (part 512 (p - first_group_page t.config) t.owners))
owner_page t levels p from =
    rw (not_page p 0 (omega arith), not_page p 1 (omega arith), not_page p 2 (omega arith), not_below p (first_output_page t.config) (omega arith), not_below p (first_group_page t.config) from) refl

-- ---- pages that were read

-- the pages before p are those of the parts
pub record AreReadBefore (p : ℕ) (h : Header) (node : Name8) (members : List Setting) (lines : List LineCount) (routes : List Route) (jobs : List (Option JobRec)) (outputs : List (Option OutRec)) (owners : List Owner) (pages : List Page) : Type 0 where
  pub second : 1 < p → page_in pages 1 ≡ filled (map setting_entry members)
  pub third : 2 < p → page_in pages 2 ≡ node_page node lines routes
  pub of_jobs : (q : ℕ) → 3 + q < p → 16 * q < h.jobs → page_in pages (3 + q) ≡ filled (map job_slot (part 16 q jobs))
  pub of_outputs : (q : ℕ) → 3 + h.jobs / 16 + q < p → 32 * q < h.outputs → page_in pages (3 + h.jobs / 16 + q) ≡ filled (map output_slot (part 32 q outputs))
  pub of_owners : (q : ℕ) → 3 + h.jobs / 16 + h.outputs / 32 + q < p → 512 * q < h.volumes * h.groups → page_in pages (3 + h.jobs / 16 + h.outputs / 32 + q) ≡ filled (map owner_entry (part 512 q owners))

module _ (h : Header) (node : Name8) (members : List Setting) (lines : List LineCount) (routes : List Route) (jobs : List (Option JobRec)) (outputs : List (Option OutRec)) (owners : List Owner) (pages : List Page)
    (is : IsHeader h pages) (parts : ArePartsOf h node members lines routes jobs outputs owners) where
  tables : Tables
  tables = made h node members lines routes jobs outputs owners

  pub each_page : (p q : ℕ) → AreReadBefore p h node members lines routes jobs outputs owners pages → q < p → p ≤ length pages → page_in pages q ≡ page_of (made h node members lines routes jobs outputs owners) is.levels q
  each_page p zero r lt le = made_header h node members lines routes jobs outputs owners pages is
  each_page p (suc zero) r lt le = r.second (omega arith)
  each_page p (suc (suc zero)) r lt le = r.third (omega arith)
  each_page p (suc (suc (suc n))) r lt le = later (suc (suc (suc n))) (omega arith) (omega arith)
    where
      later : (q : ℕ) → 3 ≤ q → q < p → page_in pages q ≡ page_of (made h node members lines routes jobs outputs owners) is.levels q
      later q from to =
          elim (cases_lt q (3 + h.jobs / 16)) [
            | inl job ↦
                let e : 3 + (q - 3) ≡ q = omega arith in
                ap (page_in pages) (sym e) ∙ r.of_jobs (q - 3) (omega arith) (omega (arith, is.numbers.jobs.2)) ∙ sym (job_page (made h node members lines routes jobs outputs owners) is.levels q from job)
            | inr other ↦ elim (cases_lt q (3 + h.jobs / 16 + h.outputs / 32)) [
              | inl output ↦
                  let e : 3 + h.jobs / 16 + (q - (3 + h.jobs / 16)) ≡ q = omega arith in
                  ap (page_in pages) (sym e) ∙ r.of_outputs (q - (3 + h.jobs / 16)) (omega arith) (omega (arith, is.numbers.outputs.2)) ∙ sym (output_page (made h node members lines routes jobs outputs owners) is.levels q other output)
              | inr group ↦
                  let e : 3 + h.jobs / 16 + h.outputs / 32 + (q - (3 + h.jobs / 16 + h.outputs / 32)) ≡ q = omega arith in
                  ap (page_in pages) (sym e) ∙ r.of_owners (q - (3 + h.jobs / 16 + h.outputs / 32)) (omega arith) (omega (arith, is.count, le)) ∙ sym (owner_page (made h node members lines routes jobs outputs owners) is.levels q group)
            ]
          ]

  pub spelled_before : (p : ℕ) → AreReadBefore p h node members lines routes jobs outputs owners pages → p ≤ length pages → (q : ℕ) → q < p → IsSpelling pages q
  spelled_before p r le q lt = record {
    tables = made h node members lines routes jobs outputs owners;
    level = h.level;
    levels = is.levels;
    fit = made_fits h node members lines routes jobs outputs owners is.numbers parts;
    ages = made_levels h node members lines routes jobs outputs owners pages is;
    count = is.count;
    header = made_header h node members lines routes jobs outputs owners pages is;
    is = each_page p q r lt le;
  }

  pub all_spelled : AreReadBefore (length pages) h node members lines routes jobs outputs owners pages → IsCheckpoint pages (made h node members lines routes jobs outputs owners)
  all_spelled r = record {
    level = h.level;
    levels = is.levels;
    fit = made_fits h node members lines routes jobs outputs owners is.numbers parts;
    ages = made_levels h node members lines routes jobs outputs owners pages is;
    spell = record { count = is.count; each = λ q lt. each_page (length pages) q r lt (omega arith) };
  }

-- ---- parts that nothing is known of

pub any_name : Name8
any_name = record { 0 = codes "HERE    " }

pub any_is_name : IsName any_name
unfolding any_name
any_is_name = (codes "HERE", refl, refl)

pub any_members : (h : Header) → (length (replicate h.members default_setting) ≡ h.members) × All IsSetting (replicate h.members default_setting)
any_members h = (length-replicate h.members default_setting, All-replicate IsSetting h.members default_setting default_is_setting)

pub any_lines : (length (replicate 8 no_count) ≡ 8) × All IsLineCount (replicate 8 no_count)
any_lines = (refl, All-replicate IsLineCount 8 no_count (record { sent = omega arith; got = omega arith; current = omega arith }))

pub any_routes : (length {A = Route} [] ≤ routes_most) × All IsRoute []
any_routes = (omega arith, All-nil IsRoute)

pub any_jobs : (h : Header) → (length {A = Option JobRec} (replicate h.jobs None) ≡ h.jobs) × All (IfUsed IsJobRec) (replicate h.jobs None)
any_jobs h = (length-replicate h.jobs None, All-replicate (IfUsed IsJobRec) h.jobs None tt)

pub any_outputs : (h : Header) → (length {A = Option OutRec} (replicate h.outputs None) ≡ h.outputs) × All (IfUsed IsOutRec) (replicate h.outputs None)
any_outputs h = (length-replicate h.outputs None, All-replicate (IfUsed IsOutRec) h.outputs None tt)

pub any_owners : (h : Header) → (length (replicate (h.volumes * h.groups) owner.Free) ≡ h.volumes * h.groups) × All IsOwner (replicate (h.volumes * h.groups) owner.Free)
any_owners h = (length-replicate (h.volumes * h.groups) owner.Free, All-replicate IsOwner (h.volumes * h.groups) owner.Free tt)
