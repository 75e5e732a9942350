-- What a run begins with: the default values, and a queue without jobs.
use Rattle.std.specs.Prelude.{ℕ, ◌*◌, List, [], map, replicate, codes}
use Rattle.mas_types.specs.declared.ids.Class.{Class}
use Rattle.mas_types.specs.declared.ids.Name8.{Name8}
use Rattle.mas_types.specs.declared.queues.Config.{Config}
use Rattle.mas_types.specs.declared.queues.LineCount.{LineCount}
use Rattle.mas_types.specs.declared.queues.Owner.TheVariants as owner
use Rattle.mas_types.specs.declared.queues.Queue.{Queue}
use Rattle.mas_types.specs.declared.queues.Route.{Route}
use Rattle.mas_types.specs.declared.queues.Setting.{Setting}
use Rattle.mas_types.specs.Ids.{no_number}
use Rattle.mas_types.specs.Limits.{wires_most}
use Rattle.mas_types.specs.Names.{padded}

-- THE DEFAULT VALUES

abbrev pub default_config : Config
default_config = record {
  members = 2;
  jobs = 256;
  outputs = 512;
  volumes = 1;
  groups = 512;
  hold = 64;
  dormancy = 0;
  node = record { 0 = padded (codes "HERE") };
}

-- the classes of a text that lists them
abbrev pub classes_of : List ℕ → List Class
classes_of text = map (λ b. record { 0 = b }) text

-- A to Z, then 0 to 9
abbrev pub all_classes : List Class
all_classes = classes_of (codes "ABCDEFGHIJKLMNOPQRSTUVWXYZ0123456789")

abbrev pub default_setting : Setting
default_setting = record {
  init = all_classes;
  prt = all_classes;
  forms = record { 0 = padded (codes "STD") };
  lines = 20;
}

-- THE EMPTY QUEUE

-- a line over which nothing went, and on which no job is current
abbrev pub no_count : LineCount
no_count = record { sent = 0; got = 0; current = no_number }

-- no jobs and no outputs, every group Free, the default settings, line counts of zero, and no last number
abbrev pub empty_queue : Config → List Route → Queue
empty_queue config routes = record {
  config = config;
  jobs = [];
  outputs = [];
  owners = replicate (config.volumes * config.groups) owner.Free;
  members = replicate config.members default_setting;
  routes = routes;
  lines = replicate wires_most no_count;
  last = no_number;
}

-- NO QUEUE

-- a name without a text
abbrev pub blank_name : Name8
blank_name = record { 0 = padded [] }

abbrev pub no_config : Config
no_config = record {
  members = 0;
  jobs = 0;
  outputs = 0;
  volumes = 0;
  groups = 0;
  hold = 0;
  dormancy = 0;
  node = blank_name;
}

-- the queue of a run that has not begun
abbrev pub no_queue : Queue
no_queue = record {
  config = no_config;
  jobs = [];
  outputs = [];
  owners = [];
  members = [];
  routes = [];
  lines = [];
  last = no_number;
}
