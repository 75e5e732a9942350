-- The script that is made from a number of decks: the jobs, each of which copies a few lines to paper, and the work on
-- them.
use Rattle.std.specs.Prelude.{ℕ, ◌+◌, ◌*◌, ◌%◌, ◌≤◌, ◌==◌, if◌then◌else◌, List, [], ◌∷◌, ◌++◌, map, decimal, codes}
use Rattle.std.specs.List.{flat_map, range_with_len}
use Rattle.mas_types.specs.declared.ids.Class.{Class}
use Rattle.mas_types.specs.declared.ids.MemberId.{MemberId}
use Rattle.mas_types.specs.declared.ids.Prio.{Prio}
use Rattle.mas_types.specs.Numerals.{in_digits}
use Rattle.mas_types.specs.Shown.{class_text, member_word}

-- the most decks that are made
abbrev pub decks_most : ℕ
decks_most = 1000

-- a number of decks that are made
abbrev pub IsDeckCount : ℕ → Type 0
IsDeckCount n = (1 ≤ n) × (n ≤ decks_most)

-- WHAT A DECK SAYS, by its number, from 1 on

-- the member that gives it: SYSA if its number is odd, SYSB if it is even
abbrev pub deck_member : ℕ → MemberId
deck_member i = if i % 2 == 1 then record { 0 = 1 } else record { 0 = 2 }

-- its job's class, one of the 26 letters, A for 0
abbrev pub deck_class : ℕ → Class
deck_class i = record { 0 = 65 + (7 * i) % 26 }

abbrev pub deck_priority : ℕ → Prio
deck_priority i = record { 0 = (5 * i) % 16 }

-- how many lines its job prints
abbrev pub deck_data_count : ℕ → ℕ
deck_data_count i = i % 9 + 1

-- ITS CARDS

-- the job's name is G and the deck's number in five digits
abbrev pub job_card : ℕ → List ℕ
job_card i =
    codes "//G" ++ in_digits 5 i ++ codes " JOB CLASS=" ++ class_text (deck_class i)
    ++ codes ",PRTY=" ++ decimal (deck_priority i).0

-- a program that copies its data to paper
abbrev pub step_cards : List (List ℕ)
step_cards =
    codes "//S EXEC PGM=IEBGENER" ∷ codes "//SYSPRINT DD SYSOUT=*" ∷ codes "//SYSIN DD DUMMY"
    ∷ codes "//SYSUT1 DD *" ∷ []

abbrev pub data_card : ℕ → ℕ → List ℕ
data_card i k = codes "LINE " ++ decimal k ++ codes " OF " ++ decimal i

-- the data, from line 1 on
abbrev pub data_cards : ℕ → List (List ℕ)
data_cards i = map (data_card i) (range_with_len 1 (deck_data_count i))

-- the end of the data, where it is copied to, and the end of the job
abbrev pub end_cards : List (List ℕ)
end_cards = codes "/*" ∷ codes "//SYSUT2 DD SYSOUT=A" ∷ codes "//" ∷ []

abbrev pub deck_cards : ℕ → List (List ℕ)
deck_cards i = job_card i ∷ step_cards ++ data_cards i ++ end_cards

-- THE SCRIPT

-- the lines of a deck: the member that gives it, its cards, and its end
abbrev pub deck_lines : ℕ → List (List ℕ)
deck_lines i = (member_word (deck_member i) ++ codes " DECK") ∷ deck_cards i ++ codes "++END" ∷ []

-- after each fourth deck SYSA works
abbrev pub work_lines : ℕ → List (List ℕ)
work_lines i = if i % 4 == 0 then codes "SYSA WORK 40" ∷ [] else []

-- a deck, and the work after it
abbrev pub part_lines : ℕ → List (List ℕ)
part_lines i = deck_lines i ++ work_lines i

-- the decks in order, and at the end SYSB does the work that is left
abbrev pub script_lines : ℕ → List (List ℕ)
script_lines n = flat_map part_lines (range_with_len 1 n) ++ codes "SYSB WORK 9999" ∷ []

-- a line and its end
abbrev pub line_text : List ℕ → List ℕ
line_text line = line ++ 10 ∷ []

abbrev pub lines_text : List (List ℕ) → List ℕ
lines_text lines = flat_map line_text lines

-- the script of so many decks
abbrev pub script_text : ℕ → List ℕ
script_text n = lines_text (script_lines n)
