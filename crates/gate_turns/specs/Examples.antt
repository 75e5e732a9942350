-- Lines, and whose they are.
use Rattle.std.specs.Prelude.{◌≡◌, [], codes}
use Rattle.gate_turns.specs.Words.{speaker}

-- the member whose line it is, of two members and of one
abbrev pub LinesAreTheirs : Type 0
LinesAreTheirs =
    (speaker 2 (codes "SYSB 00001 OK") ≡ 2)
    × (speaker 1 (codes "SYSB 00001 OK") ≡ 0)
    × (speaker 2 (codes "SYSA") ≡ 1)
    × (speaker 2 (codes "SYSAB 00001 OK") ≡ 0)
    × (speaker 2 (codes "OPER 00001 OK") ≡ 0)
    × (speaker 2 [] ≡ 0)
