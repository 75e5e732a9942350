-- What a line asks for outside decks, or the first of its causes.
use Rattle.std.specs.Prelude.{ℕ, ◌+◌, ◌-◌, ◌==◌, nat_eq, nat_le, Bool, true, not, ◌&&◌, ◌||◌, if◌then◌else◌, List, [], length, drop, codes, slice_index, Option, Some, None, Result, Ok, Err}
use Rattle.std.specs.List.{starts_with}
use Rattle.std.specs.Str.{bytes_eq}
use Rattle.mas_types.specs.declared.answers.LineCause.{LineCause}
use Rattle.mas_types.specs.declared.answers.LineCause.TheVariants as cause
use Rattle.mas_types.specs.declared.commands.Command.{Command}
use Rattle.mas_types.specs.declared.ids.Dev.TheVariants as dev
use Rattle.mas_types.specs.declared.ids.MemberId.{MemberId}
use Rattle.mas_types.specs.Ids.{nobody}
use Rattle.mas_types.specs.Limits.{members_most, volumes_most, wires_most}
use Rattle.operator_cmds.specs.Typed.{command_in}
use Rattle.script_lang.specs.declared.types.Ask.{Ask}
use Rattle.script_lang.specs.declared.types.Ask.TheVariants as ask
use Rattle.spool_plant.specs.declared.plant.Fuse.TheVariants as fuse
use Rattle.script_lang.specs.declared.types.Run.{Run}
use Rattle.script_lang.specs.declared.types.Step.{Step}
use Rattle.script_lang.specs.Config.{number_in}
use Rattle.script_lang.specs.Lines.{has_word, word_at}

-- MEMBERS

-- A to H, the last letter of a member's name
abbrev pub is_member_letter : ℕ → Bool
is_member_letter b = nat_le 65 b && nat_le b (64 + members_most)

-- SYSA to SYSH
abbrev pub member_of : List ℕ → Option MemberId
member_of text =
    if (length text == 4) && starts_with nat_eq text (codes "SYS") && is_member_letter (slice_index text 3)
    then Some (record { 0 = slice_index text 3 - 64 }) else None

-- The member of a line: of LOSE nobody, of STOP the second word's, else the first word's. None where no member stands
-- there. STOP alone lacks a word, which is another cause.
abbrev pub member_in : List (List ℕ) → Option MemberId
member_in words =
    if has_word words 0 (codes "LOSE") then Some nobody
    else if has_word words 0 (codes "STOP") then (if length words == 1 then Some nobody else member_of (word_at words 1))
    else member_of (word_at words 0)

-- RACES

-- IN or PRINT, behind STOP and its member
abbrev pub has_fuse : List (List ℕ) → Bool
has_fuse words = has_word words 2 (codes "IN") || has_word words 2 (codes "PRINT")

-- a line that may not stand in a race: LOSE, STOP without IN or PRINT, LOCK, FREE, LINE and REPLACE
abbrev pub is_calm : List (List ℕ) → Bool
is_calm words =
    if has_word words 0 (codes "LOSE") then true
    else if has_word words 0 (codes "STOP") then not (has_fuse words)
    else has_word words 1 (codes "LOCK") || has_word words 1 (codes "FREE") || has_word words 1 (codes "LINE") || has_word words 1 (codes "REPLACE")

-- WHAT IS ASKED FOR

-- the work units that a step asks for
abbrev pub units_most : ℕ
units_most = 9999

-- the acts or prints that a stop waits for
abbrev pub fuse_most : ℕ
fuse_most = 999999

-- what a number asks for, where it is one
abbrev pub numbered : (ℕ → Ask) → Option ℕ → Result Ask LineCause
numbered asked None = Err cause.Number
numbered asked (Some n) = Ok (asked n)

-- what a word that begins with `$` asks for, where it is a command
abbrev pub typed : Option Command → Result Ask LineCause
typed None = Err cause.Command
typed (Some command) = Ok (ask.Command command)

-- one word behind a member
abbrev pub verb_asks : List ℕ → Result Ask LineCause
verb_asks verb =
    if bytes_eq verb (codes "DECK") then Ok (ask.Deck [])
    else if bytes_eq verb (codes "LOCK") then Ok ask.Lock
    else if bytes_eq verb (codes "FREE") then Ok ask.Free
    else if starts_with nat_eq verb (codes "$") then typed (command_in verb)
    else Err cause.Verb

-- a copy that is lost
abbrev pub copy_asks : List ℕ → Result Ask LineCause
copy_asks copy =
    if bytes_eq copy (codes "CKPT1") then Ok (ask.Replace dev.Ckpt1)
    else if bytes_eq copy (codes "CKPT2") then Ok (ask.Replace dev.Ckpt2)
    else Err cause.Verb

-- two words behind a member
abbrev pub pair_asks : List ℕ → List ℕ → Result Ask LineCause
pair_asks verb word =
    if bytes_eq verb (codes "WORK") then numbered ask.Work (number_in 1 units_most word)
    else if bytes_eq verb (codes "LINE") then numbered ask.Line (number_in 1 wires_most word)
    else if bytes_eq verb (codes "REPLACE") then copy_asks word
    else Err cause.Verb

-- a word and a number behind STOP and its member
abbrev pub fuse_asks : List ℕ → List ℕ → Result Ask LineCause
fuse_asks word number =
    if bytes_eq word (codes "IN") then numbered (ask.StopIn fuse.Any) (number_in 1 fuse_most number)
    else if bytes_eq word (codes "PRINT") then numbered (ask.StopIn fuse.Print) (number_in 1 fuse_most number)
    else Err cause.Verb

abbrev pub lost_volume : ℕ → Ask
lost_volume v = ask.Lose (dev.Spool v)

-- SPOOL and the number of a volume
abbrev pub spool_asks : List ℕ → Result Ask LineCause
spool_asks device =
    if starts_with nat_eq device (codes "SPOOL") then numbered lost_volume (number_in 1 volumes_most (drop 5 device))
    else Err cause.Verb

-- the device behind LOSE
abbrev pub device_asks : List ℕ → Result Ask LineCause
device_asks device =
    if bytes_eq device (codes "CKPT1") then Ok (ask.Lose dev.Ckpt1)
    else if bytes_eq device (codes "CKPT2") then Ok (ask.Lose dev.Ckpt2)
    else spool_asks device

abbrev pub member_asks : List (List ℕ) → Result Ask LineCause
member_asks words =
    if length words == 2 then verb_asks (word_at words 1)
    else if length words == 3 then pair_asks (word_at words 1) (word_at words 2)
    else Err cause.Verb

abbrev pub stop_asks : List (List ℕ) → Result Ask LineCause
stop_asks words =
    if length words == 2 then Ok ask.Stop
    else if length words == 4 then fuse_asks (word_at words 2) (word_at words 3)
    else Err cause.Verb

abbrev pub lose_asks : List (List ℕ) → Result Ask LineCause
lose_asks words = if length words == 2 then device_asks (word_at words 1) else Err cause.Verb

-- what a line asks for that has a member where one is wanted
abbrev pub asks : List (List ℕ) → Result Ask LineCause
asks words =
    if has_word words 0 (codes "LOSE") then lose_asks words
    else if has_word words 0 (codes "STOP") then stop_asks words
    else member_asks words

-- THE STEP

abbrev pub step_with : MemberId → Result Ask LineCause → Result Step LineCause
step_with by (Ok what) = Ok (record { by = by; what = what })
step_with by (Err why) = Err why

-- a line whose member is this one
abbrev pub step_by : Run → List (List ℕ) → Option MemberId → Result Step LineCause
step_by run words None = Err cause.Member
step_by run words (Some by) = if run.race && is_calm words then Err cause.Race else step_with by (asks words)

-- The step of a line other than CONFIG, or the first cause that applies to it: Only, Member, Race, and then Verb,
-- Number or Command
abbrev pub step_of : Run → List (List ℕ) → Result Step LineCause
step_of run words = if run.only then Err cause.Only else step_by run words (member_in words)
