-- Tables without jobs and outputs.
use Rattle.std.specs.Prelude.{ℕ, ◌*◌, List, None, replicate}
use Rattle.mas_types.specs.declared.queues.Config.{Config}
use Rattle.mas_types.specs.declared.queues.Owner.TheVariants as owner
use Rattle.mas_types.specs.declared.queues.Route.{Route}
use Rattle.mas_types.specs.Ids.{no_number}
use Rattle.mas_types.specs.Limits.{wires_most}
use Rattle.mas_types.specs.Starts.{default_setting, no_count}
use Rattle.ckpt_tables.specs.declared.tables.Tables.{Tables}

-- every slot and every group is free, each member has the default setting, nothing went over a line, and no number and
-- no order was given
abbrev pub empty_tables : Config → List Route → Tables
empty_tables config routes = record {
  config = config;
  jobs = replicate config.jobs None;
  outputs = replicate config.outputs None;
  owners = replicate (config.volumes * config.groups) owner.Free;
  members = replicate config.members default_setting;
  routes = routes;
  lines = replicate wires_most no_count;
  last = no_number;
  order = 0;
}

-- every page has level 1
abbrev pub first_levels : ℕ → List ℕ
first_levels count = replicate count 1
