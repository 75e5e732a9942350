-- Worked examples of the script that is made from a number of decks.
use Rattle.std.specs.Prelude.{◌≡◌, [], ◌∷◌, ◌++◌, map, codes}
use Rattle.std.specs.List.{range_with_len, sum_by}
use Rattle.gen_work.specs.Generated.{deck_data_count, deck_lines, job_card, script_lines, script_text, work_lines}

-- of one deck
abbrev pub OneDeckIsWritten : Type 0
OneDeckIsWritten =
    script_text 1
    ≡ codes "SYSA DECK\n//G00001 JOB CLASS=H,PRTY=5\n"
    ++ codes "//S EXEC PGM=IEBGENER\n//SYSPRINT DD SYSOUT=*\n//SYSIN DD DUMMY\n//SYSUT1 DD *\n"
    ++ codes "LINE 1 OF 1\nLINE 2 OF 1\n/*\n//SYSUT2 DD SYSOUT=A\n//\n++END\n"
    ++ codes "SYSB WORK 9999\n"

-- the first cards: A is the class of each 26th deck, and 0 the priority of each 16th
abbrev pub JobCardsAreWritten : Type 0
JobCardsAreWritten =
    map job_card (2 ∷ 3 ∷ 4 ∷ 15 ∷ 16 ∷ 26 ∷ 100 ∷ 999 ∷ 1000 ∷ [])
    ≡ (codes "//G00002 JOB CLASS=O,PRTY=10" ∷ codes "//G00003 JOB CLASS=V,PRTY=15"
    ∷ codes "//G00004 JOB CLASS=C,PRTY=4" ∷ codes "//G00015 JOB CLASS=B,PRTY=11"
    ∷ codes "//G00016 JOB CLASS=I,PRTY=0" ∷ codes "//G00026 JOB CLASS=A,PRTY=2"
    ∷ codes "//G00100 JOB CLASS=Y,PRTY=4" ∷ codes "//G00999 JOB CLASS=Z,PRTY=3"
    ∷ codes "//G01000 JOB CLASS=G,PRTY=8" ∷ [])

-- a deck of an odd number and one of an even number
abbrev pub DecksAreWritten : Type 0
DecksAreWritten =
    map deck_lines (9 ∷ 1000 ∷ [])
    ≡ ((codes "SYSA DECK" ∷ codes "//G00009 JOB CLASS=L,PRTY=13" ∷ codes "//S EXEC PGM=IEBGENER"
    ∷ codes "//SYSPRINT DD SYSOUT=*" ∷ codes "//SYSIN DD DUMMY" ∷ codes "//SYSUT1 DD *" ∷ codes "LINE 1 OF 9"
    ∷ codes "/*" ∷ codes "//SYSUT2 DD SYSOUT=A" ∷ codes "//" ∷ codes "++END" ∷ [])
    ∷ (codes "SYSB DECK" ∷ codes "//G01000 JOB CLASS=G,PRTY=8" ∷ codes "//S EXEC PGM=IEBGENER"
    ∷ codes "//SYSPRINT DD SYSOUT=*" ∷ codes "//SYSIN DD DUMMY" ∷ codes "//SYSUT1 DD *" ∷ codes "LINE 1 OF 1000"
    ∷ codes "LINE 2 OF 1000" ∷ codes "/*" ∷ codes "//SYSUT2 DD SYSOUT=A" ∷ codes "//" ∷ codes "++END" ∷ [])
    ∷ [])

-- work stands after decks 4, 8 and so on
abbrev pub WorkIsAsked : Type 0
WorkIsAsked =
    map work_lines (1 ∷ 2 ∷ 3 ∷ 4 ∷ 6 ∷ 8 ∷ 1000 ∷ [])
    ≡ ([] ∷ [] ∷ [] ∷ (codes "SYSA WORK 40" ∷ []) ∷ [] ∷ (codes "SYSA WORK 40" ∷ []) ∷ (codes "SYSA WORK 40" ∷ []) ∷ [])

-- the lines that the jobs print: 14 of four decks, 44 of eight
abbrev pub LinesAreCounted : Type 0
LinesAreCounted =
    (sum_by deck_data_count (range_with_len 1 4) ∷ sum_by deck_data_count (range_with_len 1 8) ∷ []) ≡ (14 ∷ 44 ∷ [])

-- decks 1 to 5, with the work after the fourth, and the work at the end
abbrev pub FiveDecksAreWritten : Type 0
FiveDecksAreWritten =
    script_lines 5
    ≡ deck_lines 1 ++ deck_lines 2 ++ deck_lines 3 ++ deck_lines 4 ++ codes "SYSA WORK 40" ∷ deck_lines 5
    ++ codes "SYSB WORK 9999" ∷ []

-- ALL OF THEM

pub record ScriptsAreWritten : Type 0 where
  pub one_deck : OneDeckIsWritten
  pub job_cards : JobCardsAreWritten
  pub decks : DecksAreWritten
  pub work : WorkIsAsked
  pub lines : LinesAreCounted
  pub five_decks : FiveDecksAreWritten
