-- Displays.
use Rattle.std.specs.Prelude.{◌≡◌, ℕ, List, [], ◌∷◌, ◌++◌, codes}
use Rattle.mas_types.specs.declared.commands.Command.TheVariants as command
use Rattle.mas_types.specs.declared.commands.What.TheVariants as what
use Rattle.mas_types.specs.Shown.{shown}
use Rattle.mas_types.specs.Starts.{default_config}
use Rattle.queue_laws.specs.Examples.Small.{member, job, empty, queue_after, deck, decks}

abbrev pub SpoolIsShown : Type 0
SpoolIsShown = shown (queue_after (empty (record default_config { volumes = 2; groups = 20 })) (deck 1 1)) what.Spool ≡ codes "VOL1 FREE 19 OF 20" ∷ codes "VOL2 FREE 20 OF 20" ∷ []

abbrev pub members_text : List (List ℕ)
members_text =
    codes "SYSA INIT=ABCDEFGHIJKLMNOPQRSTUVWXYZ0123456789 PRT=ABCDEFGHIJKLMNOPQRSTUVWXYZ0123456789 F=STD L=20"
    ∷ codes "SYSB INIT=ABCDEFGHIJKLMNOPQRSTUVWXYZ0123456789 PRT=ABCDEFGHIJKLMNOPQRSTUVWXYZ0123456789 F=STD L=20" ∷ []

abbrev pub MembersAreShown : Type 0
MembersAreShown = shown (empty default_config) what.Members ≡ members_text

abbrev pub OneJobIsShown : Type 0
OneJobIsShown =
    shown (queue_after (empty default_config) (decks 1 2 ++ (member 1, command.Hold (job 2)) ∷ [])) (what.Job (job 2)) ≡ codes "JOB00002 A A 05 CONVERT - HELD" ∷ []
