-- Scripts that are within the limits.
use Rattle.std.specs.Prelude.{◌≡◌, ℕ, ◌≤◌, true, List, length, All}
use Rattle.mas_types.specs.declared.ids.Dev.{Dev}
use Rattle.mas_types.specs.declared.ids.Dev.TheVariants as dev
use Rattle.mas_types.specs.declared.ids.MemberId.{MemberId}
use Rattle.mas_types.specs.declared.queues.Route.{Route}
use Rattle.mas_types.specs.Fit.{IsConfig, IsFit, IsLine, IsName}
use Rattle.mas_types.specs.Limits.{members_most, routes_most, steps_most, volumes_most}
use Rattle.script_lang.specs.declared.types.Ask.{Ask}
use Rattle.script_lang.specs.declared.types.Ask.TheVariants as ask
use Rattle.script_lang.specs.declared.types.Script.{Script}
use Rattle.script_lang.specs.declared.types.Step.{Step}
use Rattle.script_lang.specs.Asks.{fuse_most, units_most}
use Rattle.script_lang.specs.Config.{are_apart}
use Rattle.script_lang.specs.Lines.{is_line}

-- a number from the least to the greatest
abbrev pub IsBetween : ℕ → ℕ → ℕ → Type 0
IsBetween least most n = (least ≤ n) × (n ≤ most)

-- a copy of the checkpoint
abbrev pub IsCopy : Dev → Type 0
IsCopy dev.Ckpt1 = Unit {0}
IsCopy dev.Ckpt2 = Unit {0}
IsCopy (dev.Spool volume) = ⊥

abbrev pub IsDevice : Dev → Type 0
IsDevice dev.Ckpt1 = Unit {0}
IsDevice dev.Ckpt2 = Unit {0}
IsDevice (dev.Spool volume) = IsBetween 1 volumes_most volume

-- each card of a deck has at most 255 text bytes
abbrev pub AreCards : List (List ℕ) → Type 0
AreCards cards = All (λ card. is_line card ≡ true) cards

-- what is asked for is within the limits
abbrev pub IsAsk : Ask → Type 0
IsAsk (ask.Deck cards) = AreCards cards
IsAsk (ask.Command command) = IsFit command
IsAsk (ask.Work n) = IsBetween 1 units_most n
IsAsk ask.Lock = Unit {0}
IsAsk ask.Free = Unit {0}
IsAsk (ask.Line line) = IsLine line
IsAsk (ask.Replace copy) = IsCopy copy
IsAsk ask.Stop = Unit {0}
IsAsk (ask.StopIn fuse n) = IsBetween 1 fuse_most n
IsAsk (ask.Lose device) = IsDevice device

abbrev pub IsMember : MemberId → Type 0
IsMember m = IsBetween 1 members_most m.0

-- a member asks for it; a device is lost by nobody
abbrev pub IsBy : MemberId → Ask → Type 0
IsBy m (ask.Lose device) = m.0 ≡ 0
IsBy m (ask.Deck cards) = IsMember m
IsBy m (ask.Command command) = IsMember m
IsBy m (ask.Work n) = IsMember m
IsBy m ask.Lock = IsMember m
IsBy m ask.Free = IsMember m
IsBy m (ask.Line line) = IsMember m
IsBy m (ask.Replace copy) = IsMember m
IsBy m ask.Stop = IsMember m
IsBy m (ask.StopIn fuse n) = IsMember m

pub record IsStep (s : Step) : Type 0 where
  pub by : IsBy s.by s.what
  pub what : IsAsk s.what

pub record IsRoute (r : Route) : Type 0 where
  pub name : IsName r.name
  pub line : IsLine r.line

pub record IsScript (s : Script) : Type 0 where
  pub config : IsConfig s.config
  pub few : length s.routes ≤ routes_most
  pub routes : All IsRoute s.routes
  pub apart : are_apart s.config.node s.routes ≡ true
  pub short : length s.steps ≤ steps_most
  pub steps : All IsStep s.steps
