-- The sound parts of a queue: what every command keeps.
use Rattle.std.specs.Prelude.{◌≡◌, suc, ◌*◌, ◌≤◌, ◌<◌, ◌==◌, Bool, true, false, not, ◌&&◌, ◌||◌, List, length, All, is_some, find}
use Rattle.std.specs.List.{list_any}
use Rattle.std.specs.Option.{option_map_or}
use Rattle.mas_types.specs.declared.ids.MemberId.{MemberId}
use Rattle.mas_types.specs.declared.ids.JobNo.{JobNo}
use Rattle.mas_types.specs.declared.jobs.Phase.{Phase}
use Rattle.mas_types.specs.declared.jobs.Job.{Job}
use Rattle.mas_types.specs.declared.jobs.Output.{Output}
use Rattle.mas_types.specs.declared.queues.Owner.{Owner}
use Rattle.mas_types.specs.declared.queues.Owner.TheVariants as owner
use Rattle.mas_types.specs.declared.queues.Config.{Config}
use Rattle.mas_types.specs.declared.queues.Queue.{Queue}
use Rattle.mas_types.specs.declared.jobs.Text.{Text}
use Rattle.mas_types.specs.Ids.{same_member, same_number, same_index, is_somebody}
use Rattle.mas_types.specs.Limits.{number_most, routes_most, wires_most}
use Rattle.mas_types.specs.Queue.{is_member, in_input, in_convert, in_execute, in_output, in_hardcopy, has_number, has_key, line_count, total}
use Rattle.mas_types.specs.Owners.{is_deck_of, is_output_of}
use Rattle.mas_types.specs.Fit.{AreDistinct, IsText, IsSetting, IsConfig, IsIndex}

-- nobody, or a member
abbrev pub is_busy_right : Config → MemberId → Bool
is_busy_right config m = not (is_somebody m) || is_member config m

-- JOBS

-- a job in this phase may be busy
abbrev pub may_be_busy : Phase → Bool
may_be_busy p = in_input p || in_convert p || in_execute p

-- what holds of each job, beside its groups
pub record IsSoundJob (config : Config) (j : Job) : Type 0 where
  pub number : (1 ≤ j.number.0) × (j.number.0 ≤ number_most)
  pub busy : is_busy_right config j.busy ≡ true
  pub busy_phase : is_somebody j.busy ≡ true → may_be_busy j.phase ≡ true
  pub text : IsText j.text
  pub no_cards : in_input j.phase ≡ true → line_count j.text ≡ 0

-- a text with lines has a group, one that the test picks
abbrev pub HasGroup : List Owner → (Owner → Bool) → Text → Type 0
HasGroup owners is_its text = 0 < line_count text → list_any is_its owners ≡ true

abbrev pub HasDeckGroup : List Owner → Job → Type 0
HasDeckGroup owners j = HasGroup owners (is_deck_of j.number) j.text

-- OUTPUTS

-- a job in this phase may have outputs
abbrev pub may_have_outputs : Phase → Bool
may_have_outputs p = in_output p || in_hardcopy p

-- the job of that number is there, and passes the test
abbrev pub is_there : (Job → Bool) → List Job → JobNo → Bool
is_there test jobs n = option_map_or test (find (has_number n) jobs) false

-- what holds of each output, beside its groups
pub record IsSoundOutput (config : Config) (jobs : List Job) (o : Output) : Type 0 where
  pub index : IsIndex o.index.0
  pub copies : 1 ≤ o.copies
  pub lines : 1 ≤ line_count o.text
  pub job : is_there (λ j. may_have_outputs j.phase) jobs o.job ≡ true
  pub busy : is_busy_right config o.busy ≡ true
  pub text : IsText o.text
  pub mark : o.mark ≤ total o

abbrev pub HasOutputGroup : List Owner → Output → Type 0
HasOutputGroup owners o = HasGroup owners (is_output_of o.job o.index) o.text

-- two outputs of one job with one index
abbrev pub same_key : Output → Output → Bool
same_key a b = has_key a.job a.index b

-- two outputs that are busy at one member
abbrev pub same_printer : Output → Output → Bool
same_printer a b = is_somebody a.busy && same_member a.busy b.busy

-- GROUPS

-- a group's member, job or output is there, and a deck's job is past its input
abbrev pub is_owner_there : Config → List Job → List Output → Owner → Bool
is_owner_there config jobs outputs owner.Free = true
is_owner_there config jobs outputs (owner.Member m) = is_member config m
is_owner_there config jobs outputs (owner.Deck n place) = is_there (λ j. not (in_input j.phase)) jobs n
is_owner_there config jobs outputs (owner.Output n i place) = is_some (find (has_key n i) outputs)

-- the two owners are one place of one deck or output
abbrev pub same_place : Owner → Owner → Bool
same_place (owner.Deck n p) (owner.Deck n' p') = same_number n n' && (p == p')
same_place (owner.Output n i p) (owner.Output n' i' p') = same_number n n' && same_index i i' && (p == p')
same_place _ _ = false

-- the place before it is taken too, where it isn't the first
abbrev pub is_place_before_there : List Owner → Owner → Bool
is_place_before_there gs (owner.Deck n (suc p)) = list_any (same_place (owner.Deck n p)) gs
is_place_before_there gs (owner.Output n i (suc p)) = list_any (same_place (owner.Output n i p)) gs
is_place_before_there gs _ = true

-- THE QUEUE

-- what every command keeps
pub record IsSound (Q : Queue) : Type 0 where
  pub config : IsConfig Q.config
  pub few_jobs : length Q.jobs ≤ Q.config.jobs
  pub few_outputs : length Q.outputs ≤ Q.config.outputs
  pub each_group : length Q.owners ≡ Q.config.volumes * Q.config.groups
  pub each_member : length Q.members ≡ Q.config.members
  pub few_routes : length Q.routes ≤ routes_most
  pub each_line : length Q.lines ≡ wires_most
  pub last : Q.last.0 ≤ number_most
  pub members : All IsSetting Q.members
  pub jobs : All (IsSoundJob Q.config) Q.jobs
  pub decks : All (HasDeckGroup Q.owners) Q.jobs
  pub outputs : All (IsSoundOutput Q.config Q.jobs) Q.outputs
  pub groups : All (HasOutputGroup Q.owners) Q.outputs
  pub owners : All (λ g. is_owner_there Q.config Q.jobs Q.outputs g ≡ true) Q.owners
  pub numbers : AreDistinct (λ a b. same_number a.number b.number) Q.jobs
  pub keys : AreDistinct same_key Q.outputs
  pub printers : AreDistinct same_printer Q.outputs
  pub places : AreDistinct same_place Q.owners
  pub no_gaps : All (λ g. is_place_before_there Q.owners g ≡ true) Q.owners
