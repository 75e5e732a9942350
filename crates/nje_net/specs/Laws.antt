-- The theorem over all lists of events.
use Rattle.std.specs.Prelude.{◌≡◌, true, List}
use Rattle.nje_net.specs.declared.nets.Net.{Net}
use Rattle.nje_net.specs.declared.worlds.NetEvent.{NetEvent}
use Rattle.nje_net.specs.Nets.{is_net}
use Rattle.nje_net.specs.Worlds.{start}
use Rattle.nje_net.specs.Events.{runs}
use Rattle.nje_net.specs.Lossless.{NoneIsLost, dests_entered}

-- whatever is lost, comes again or comes late, no job is lost and none arrives twice
abbrev pub NoRunLoses : Type 0
NoRunLoses = (net : Net) (events : List NetEvent) → is_net net ≡ true
    → NoneIsLost net (dests_entered net events) (runs net (start net) events)
