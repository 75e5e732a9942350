-- Tables without jobs and outputs have their shape and a spelling.
use Rattle.std.proofs.Common.{◌≡◌, ℕ, zero, suc, ◌*◌, ◌≤◌, List, [], length, Option, None, Some, replicate, refl, All, arith}
use Rattle.std.proofs.lemmas.List.{length-replicate}
use Rattle.std.proofs.lemmas.List.Elements.{All-replicate}
use Rattle.std.specs.Prelude.{codes, slice_get}
use Rattle.mas_types.specs.declared.queues.Config.{Config}
use Rattle.mas_types.specs.declared.queues.Owner.TheVariants as owner
use Rattle.mas_types.specs.declared.queues.Queue.{Queue}
use Rattle.mas_types.specs.declared.queues.Route.{Route}
use Rattle.mas_types.specs.Fit.{IsConfig, IsSetting, AreClasses}
use Rattle.mas_types.specs.Limits.{routes_most}
use Rattle.mas_types.specs.Starts.{all_classes, default_config, default_setting, no_count, empty_queue}
use Rattle.lay_bytes.specs.declared.records.JobRec.{JobRec}
use Rattle.lay_bytes.specs.declared.records.OutRec.{OutRec}
use Rattle.mas_types.specs.declared.jobs.Text.{Text}
use Rattle.lay_bytes.specs.Slots.{IsJobRec, IsOutRec, IsOwner, IfUsed}
use Rattle.ckpt_tables.specs.Shape.{HasShape, HasSpelling, AreLevels, IsRoute, IsLineCount, page_count}
use Rattle.lay_bytes.specs.Used.{used}
use Rattle.ckpt_pages.specs.QueueOf.{queue_of}
use Rattle.ckpt_pages.specs.Starts.{empty_tables, first_levels}
use Rattle.ckpt_pages.specs.Classes.{classes_from, distinct_from}

every_class : AreClasses all_classes
every_class = record { some = omega arith; few = omega arith; each = classes_from all_classes refl; distinct = distinct_from all_classes refl }

pub default_is_setting : IsSetting default_setting
default_is_setting = record { init = every_class; prt = every_class; forms = (codes "STD", refl, refl); lines = (omega arith, omega arith) }

pub default_is_config : IsConfig default_config
default_is_config = record {
  members = (omega arith, omega arith);
  jobs = (omega arith, omega arith, refl);
  outputs = (omega arith, omega arith, refl);
  volumes = (omega arith, omega arith);
  groups = (omega arith, omega arith);
  hold = (omega arith, omega arith);
  dormancy = omega arith;
  node = (codes "HERE", refl, refl);
}

pub empty_shape : (config : Config) (routes : List Route) → IsConfig config → length routes ≤ routes_most → HasShape (empty_tables config routes)
empty_shape config routes is few = record {
  config = is;
  jobs = length-replicate config.jobs None;
  outputs = length-replicate config.outputs None;
  owners = length-replicate (config.volumes * config.groups) owner.Free;
  members = length-replicate config.members default_setting;
  settings = All-replicate IsSetting config.members default_setting default_is_setting;
  routes = few;
  lines = refl;
  last = omega arith;
}

-- the tables that are made of an empty queue
pub made_shape : (Q : Queue) (config : Config) (routes : List Route) (jobs : List (Option JobRec)) (outputs : List (Option OutRec)) → IsConfig config → length routes ≤ routes_most
    → Q ≡ empty_queue config routes → jobs ≡ replicate Q.config.jobs None → outputs ≡ replicate Q.config.outputs None
    → HasShape (record { config = Q.config; jobs = jobs; outputs = outputs; owners = Q.owners; members = Q.members; routes = Q.routes; lines = Q.lines; last = Q.last; order = 0 })
made_shape Q config routes jobs outputs is few e ej eo = rw (ej, eo, e) (empty_shape config routes is few)

-- THE LAWS

pub empty_spelling : (config : Config) (routes : List Route) → IsConfig config → length routes ≤ routes_most → All IsRoute routes → HasSpelling (empty_tables config routes)
empty_spelling config routes is few fit = record {
  shape = empty_shape config routes is few;
  order = omega arith;
  jobs = All-replicate (IfUsed IsJobRec) config.jobs None tt;
  outputs = All-replicate (IfUsed IsOutRec) config.outputs None tt;
  owners = All-replicate IsOwner (config.volumes * config.groups) owner.Free tt;
  routes = fit;
  lines = All-replicate IsLineCount 8 no_count (record { sent = omega arith; got = omega arith; current = omega arith });
}

pub first_are_levels : (config : Config) (routes : List Route) → IsConfig config → AreLevels (empty_tables config routes) 1 (first_levels (page_count config))
first_are_levels config routes is = record {
  count = length-replicate (page_count config) 1;
  first = first_of (page_count config) (omega arith);
  each = All-replicate (λ l. (1 ≤ l) × (l ≤ 1)) (page_count config) 1 (omega arith, omega arith);
  most = omega arith;
}
  where
    first_of : (n : ℕ) → 1 ≤ n → slice_get {X = ℕ} (replicate n 1) 0 ≡ Some 1
    first_of zero some = absurd (omega arith)
    first_of (suc n) some = refl

none_used : (X : Type 0) (n : ℕ) → used {X = X} (replicate n None) ≡ []
none_used X zero = refl
none_used X (suc n) = none_used X n

pub empty_stands : (config : Config) (routes : List Route) (deck : JobRec → Text) (print : OutRec → Text) → queue_of (empty_tables config routes) deck print ≡ empty_queue config routes
empty_stands config routes deck print = rw (none_used JobRec config.jobs, none_used OutRec config.outputs) refl
