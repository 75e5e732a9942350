-- The pages of slots and of groups, after those of the header, the members and the nodes.
use Rattle.std.specs.Prelude.{◌≡◌, ℕ, ◌*◌, ◌≤◌, List, length, map, All, Option}
use Rattle.mas_types.specs.declared.ids.Name8.{Name8}
use Rattle.mas_types.specs.declared.ids.Page.{Page}
use Rattle.mas_types.specs.declared.queues.LineCount.{LineCount}
use Rattle.mas_types.specs.declared.queues.Owner.{Owner}
use Rattle.mas_types.specs.declared.queues.Route.{Route}
use Rattle.mas_types.specs.declared.queues.Setting.{Setting}
use Rattle.mas_types.specs.Fit.{IsName, IsSetting}
use Rattle.mas_types.specs.Limits.{routes_most, wires_most}
use Rattle.mas_types.specs.Starts.{blank_name}
use Rattle.lay_bytes.specs.declared.records.JobRec.{JobRec}
use Rattle.lay_bytes.specs.declared.records.OutRec.{OutRec}
use Rattle.lay_bytes.specs.Slots.{job_slot, output_slot, owner_entry, IsJobRec, IsOutRec, IsOwner, IfUsed}
use Rattle.ckpt_pages.specs.declared.header.Header.{Header}
use Rattle.ckpt_pages.specs.declared.slots.Slots.{Slots}
use Rattle.ckpt_tables.specs.declared.tables.Tables.{Tables}
use Rattle.ckpt_tables.specs.Shape.{IsRoute, IsLineCount, jobs_a_page, outputs_a_page, owners_a_page, first_job_page, first_output_page, first_group_page}
use Rattle.ckpt_pages.specs.Headers.{config_of}
use Rattle.ckpt_pages.specs.Nodes.{node_page}
use Rattle.ckpt_tables.specs.Pages.{filled, page_in, setting_entry}
use Rattle.ckpt_pages.specs.Reading.{ArePages}
use Rattle.ckpt_pages.specs.Checkpoints.{IsLeastBad}

-- tables from their parts
abbrev pub made : Header → Name8 → List Setting → List LineCount → List Route → List (Option JobRec)
    → List (Option OutRec) → List Owner → Tables
made h node members lines routes jobs outputs owners = record {
  config = config_of h node;
  jobs = jobs;
  outputs = outputs;
  owners = owners;
  members = members;
  routes = routes;
  lines = lines;
  last = h.last;
  order = h.order;
}

-- the pages spell the slots of jobs and outputs, and the groups
pub record AreSlots (h : Header) (pages : List Page) (s : Slots) : Type 0 where
  pub of_jobs : ArePages job_slot (IfUsed IsJobRec) jobs_a_page first_job_page h.jobs pages s.jobs
  pub of_outputs : ArePages output_slot (IfUsed IsOutRec) outputs_a_page (first_output_page (config_of h blank_name))
      h.outputs pages s.outputs
  pub of_owners : ArePages owner_entry IsOwner owners_a_page (first_group_page (config_of h blank_name))
      (h.volumes * h.groups) pages s.owners

-- pages 1 and 2 are read
pub record AreFront (h : Header) (node : Name8) (members : List Setting) (lines : List LineCount) (routes : List Route)
    (pages : List Page) : Type 0 where
  pub node_fit : IsName node
  pub members_are : (length members ≡ h.members) × All IsSetting members
  pub lines_are : (length lines ≡ wires_most) × All IsLineCount lines
  pub routes_are : (length routes ≤ routes_most) × All IsRoute routes
  pub second : page_in pages 1 ≡ filled (map setting_entry members)
  pub third : page_in pages 2 ≡ node_page node lines routes

-- page p is the least that is no spelling, where pages 1 and 2 are spellings
abbrev pub IsBadBehind : Header → List Page → ℕ → Type 0
IsBadBehind h pages p = (node : Name8) (members : List Setting) (lines : List LineCount) (routes : List Route)
    → AreFront h node members lines routes pages → IsLeastBad pages p
