-- What a line asks for never has the cause End.
use Rattle.std.proofs.Common.{◌≡◌, ℕ, ◌==◌, nat_eq, Bool, true, false, ◌&&◌, if◌then◌else◌, List, [], length, drop, codes, Option, Some, None, Result, Ok, Err}
use Rattle.std.specs.List.{starts_with}
use Rattle.std.specs.Str.{bytes_eq}
use Rattle.mas_types.specs.declared.answers.LineCause.{LineCause}
use Rattle.mas_types.specs.declared.answers.LineCause.TheVariants as cause
use Rattle.mas_types.specs.declared.commands.Command.{Command}
use Rattle.mas_types.specs.declared.ids.MemberId.{MemberId}
use Rattle.mas_types.specs.Limits.{volumes_most, wires_most}
use Rattle.operator_cmds.specs.Typed.{command_in}
use Rattle.script_lang.specs.declared.types.Ask.{Ask}
use Rattle.script_lang.specs.declared.types.Ask.TheVariants as ask
use Rattle.spool_plant.specs.declared.plant.Fuse.TheVariants as fuse
use Rattle.script_lang.specs.declared.types.Run.{Run}
use Rattle.script_lang.specs.Asks.{is_calm, member_in, units_most, fuse_most, numbered, typed, lost_volume, verb_asks, copy_asks, pair_asks, fuse_asks, device_asks, asks, step_with, step_by, step_of}
use Rattle.script_lang.specs.Config.{number_in}
use Rattle.script_lang.specs.Lines.{has_word, word_at}

-- the result isn't a refusal of a line as cut off
abbrev pub IsNoEnd : {A : Type 0} → Result A LineCause → Type 0
IsNoEnd r = r ≡ Err cause.End → ⊥

pub if_none : {A : Type 0} (b : Bool) (one other : Result A LineCause) → IsNoEnd one → IsNoEnd other → IsNoEnd (if b then one else other)
if_none true one other left right = left
if_none false one other left right = right

pub one_none : {A : Type 0} (x : A) → IsNoEnd {A = A} (Ok x)
one_none x e = absurd (cc)

verb_none : IsNoEnd {A = Ask} (Err cause.Verb)
verb_none e = absurd (cc)

number_none : (asked : ℕ → Ask) (o : Option ℕ) → IsNoEnd (numbered asked o)
number_none asked None e = absurd (cc)
number_none asked (Some n) e = absurd (cc)

command_none : (o : Option Command) → IsNoEnd (typed o)
command_none None e = absurd (cc)
command_none (Some c) e = absurd (cc)

verb_asks_none : (verb : List ℕ) → IsNoEnd (verb_asks verb)
verb_asks_none verb =
    if_none (bytes_eq verb (codes "DECK")) _ _ (one_none (ask.Deck []))
    (if_none (bytes_eq verb (codes "LOCK")) _ _ (one_none ask.Lock)
    (if_none (bytes_eq verb (codes "FREE")) _ _ (one_none ask.Free)
    (if_none (starts_with nat_eq verb (codes "$")) _ _ (command_none (command_in verb)) verb_none)))

copy_none : (copy : List ℕ) → IsNoEnd (copy_asks copy)
copy_none copy = if_none (bytes_eq copy (codes "CKPT1")) _ _ (one_none _) (if_none (bytes_eq copy (codes "CKPT2")) _ _ (one_none _) verb_none)

pair_none : (verb word : List ℕ) → IsNoEnd (pair_asks verb word)
pair_none verb word =
    if_none (bytes_eq verb (codes "WORK")) _ _ (number_none ask.Work (number_in 1 units_most word))
    (if_none (bytes_eq verb (codes "LINE")) _ _ (number_none ask.Line (number_in 1 wires_most word))
    (if_none (bytes_eq verb (codes "REPLACE")) _ _ (copy_none word) verb_none))

fuse_none : (word number : List ℕ) → IsNoEnd (fuse_asks word number)
fuse_none word number =
    if_none (bytes_eq word (codes "IN")) _ _ (number_none (ask.StopIn fuse.Any) (number_in 1 fuse_most number))
    (if_none (bytes_eq word (codes "PRINT")) _ _ (number_none (ask.StopIn fuse.Print) (number_in 1 fuse_most number)) verb_none)

device_none : (device : List ℕ) → IsNoEnd (device_asks device)
device_none device =
    if_none (bytes_eq device (codes "CKPT1")) _ _ (one_none _)
    (if_none (bytes_eq device (codes "CKPT2")) _ _ (one_none _)
    (if_none (starts_with nat_eq device (codes "SPOOL")) _ _ (number_none lost_volume (number_in 1 volumes_most (drop 5 device))) verb_none))

asks_none : (words : List (List ℕ)) → IsNoEnd (asks words)
asks_none words =
    if_none (has_word words 0 (codes "LOSE")) _ _ (if_none (length words == 2) _ _ (device_none (word_at words 1)) verb_none)
    (if_none (has_word words 0 (codes "STOP")) _ _
    (if_none (length words == 2) _ _ (one_none ask.Stop) (if_none (length words == 4) _ _ (fuse_none (word_at words 2) (word_at words 3)) verb_none))
    (if_none (length words == 2) _ _ (verb_asks_none (word_at words 1)) (if_none (length words == 3) _ _ (pair_none (word_at words 1) (word_at words 2)) verb_none)))

with_none : (m : MemberId) (r : Result Ask LineCause) → IsNoEnd r → IsNoEnd (step_with m r)
with_none m (Ok a) h e = absurd (cc)
with_none m (Err why) h e = h (cc)

by_none : (run : Run) (words : List (List ℕ)) (o : Option MemberId) → IsNoEnd (step_by run words o)
by_none run words None = λ e. absurd (cc)
by_none run words (Some m) = if_none (run.race && is_calm words) _ _ (λ e. absurd (cc)) (with_none m (asks words) (asks_none words))

pub step_none : (run : Run) (words : List (List ℕ)) → IsNoEnd (step_of run words)
step_none run words = if_none run.only _ _ (λ e. absurd (cc)) (by_none run words (member_in words))
