-- A worked example: a member stops as it prints, and another takes over and prints on from the mark.
use Rattle.std.specs.Prelude.{◌≡◌, ℕ, zero, suc, ◌+◌, false, List, [], ◌∷◌, ◌++◌, decimal, map, codes}
use Rattle.mas_types.specs.declared.commands.Command.TheVariants as command
use Rattle.mas_types.specs.declared.commands.What.TheVariants as what
use Rattle.mas_types.specs.Numerals.{in_digits}
use Rattle.mas_types.specs.Starts.{classes_of, default_config}
use Rattle.queue_laws.specs.Examples.Small.{empty, member, name}
use Rattle.script_lang.specs.declared.types.Ask.TheVariants as ask
use Rattle.script_lang.specs.declared.types.Step.{Step}
use Rattle.spool_plant.specs.declared.plant.Fuse.TheVariants as fuse
use Rattle.run_turns.specs.Cuts.{whole}
use Rattle.run_turns.specs.Fuses.{calm_run}
use Rattle.run_turns.specs.Runs.{paper_of}
use Rattle.run_turns.specs.Examples.{Says, line}

-- the texts of so many lines, from this one on
abbrev pub data_from : ℕ → ℕ → List (List ℕ)
data_from first zero = []
data_from first (suc more) = (codes "LINE " ++ decimal first ++ codes " OF 25") ∷ data_from (first + 1) more

abbrev pub copied_deck : List (List ℕ)
copied_deck =
    codes "//COPY JOB (1),'ME',CLASS=A,MSGCLASS=A,MSGLEVEL=(1,1)"
    ∷ codes "//S1 EXEC PGM=IEBGENER"
    ∷ codes "//SYSPRINT DD SYSOUT=*"
    ∷ codes "//SYSIN DD DUMMY"
    ∷ codes "//SYSUT1 DD *"
    ∷ (data_from 1 25
    ++ codes "/*"
    ∷ codes "//SYSUT2 DD SYSOUT=A"
    ∷ codes "//" ∷ [])

-- Twenty-five lines, ten at a time at the first member, which stops at its eighth print after the first ten.
abbrev pub printing_lines : List Step
printing_lines =
    line 1 (ask.Deck copied_deck)
    ∷ line 1 (ask.Command (command.SetPrt (classes_of (codes "A")) (name (codes "STD")) 10))
    ∷ line 1 (ask.Work 7)
    ∷ line 1 (ask.StopIn fuse.Print 8)
    ∷ line 1 (ask.Work 1)
    ∷ line 2 (ask.Command (command.Reset (member 1)))
    ∷ line 2 (ask.Command (command.Show what.Outputs))
    ∷ line 2 (ask.Work 9)
    ∷ []

abbrev pub PrintingIsTakenOver : Type 0
PrintingIsTakenOver =
    Says default_config printing_lines
    (codes "SYSA 00001 OK JOB00001"
    ∷ codes "SYSA 00002 OK"
    ∷ codes "SYSA 00003 OK DONE 7"
    ∷ codes "SYSA 00005 STOPPED"
    ∷ codes "SYSB 00006 OK SYSA"
    ∷ codes "SYSB 00007 - JOB00001.01 A LOCAL STD 1 25 10 - -"
    ∷ codes "SYSB 00007 OK 1"
    ∷ codes "SYSB 00008 OK DONE 4"
    ∷ [])

-- so many lines of the output on paper, from line first on
abbrev pub paper_from : ℕ → ℕ → List (List ℕ)
paper_from first zero = []
paper_from first (suc more) =
    (codes "JOB00001.01 " ++ in_digits 8 first ++ codes " LINE " ++ decimal first ++ codes " OF 25") ∷ paper_from (first + 1) more

-- The first member's paper has lines 1 to 17 and half of line 18; the other's has lines 11 to 25, since the mark stood
-- at 10.
abbrev pub PaperGoesOnAtTheMark : Type 0
PaperGoesOnAtTheMark =
    let os = calm_run (empty default_config) printing_lines in
    (paper_of (member 1) printing_lines os ≡ map whole (paper_from 1 17) ++ record { text = codes "JOB00001.01 00000"; whole = false } ∷ [])
    × (paper_of (member 2) printing_lines os ≡ map whole (paper_from 11 15))
