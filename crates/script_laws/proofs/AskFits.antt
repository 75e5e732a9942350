-- What a line asks for is within the limits.
use Rattle.std.proofs.Common.{◌≡◌, sym, ap, ℕ, ◌-◌, ◌==◌, ◌≤◌, nat_le, nat_eq, Bool, true, false, ◌&&◌, if◌then◌else◌, List, [], length, drop, codes, slice_index, Option, Some, None, Result, Ok, Err, refl, arith}
use Rattle.std.specs.List.{starts_with}
use Rattle.std.specs.Str.{bytes_eq}
use Rattle.std.proofs.lemmas.Bool.{eqb-true, leb-true, and_parts}
use Rattle.std.proofs.lemmas.Option.{cond_some}
use Rattle.std.proofs.lemmas.List.Elements.{All-nil}
use Rattle.mas_types.specs.declared.answers.LineCause.{LineCause}
use Rattle.mas_types.specs.declared.answers.LineCause.TheVariants as cause
use Rattle.mas_types.specs.declared.commands.Command.{Command}
use Rattle.mas_types.specs.declared.ids.Dev.TheVariants as dev
use Rattle.mas_types.specs.declared.ids.MemberId.{MemberId}
use Rattle.mas_types.specs.Ids.{nobody}
use Rattle.mas_types.specs.Limits.{volumes_most, wires_most}
use Rattle.mas_types.specs.Numerals.{is_numeral, value_of}
use Rattle.operator_cmds.specs.Laws.{ComputesCommands}
use Rattle.operator_cmds.specs.Typed.{command_in}
use Rattle.script_lang.specs.declared.types.Ask.{Ask}
use Rattle.script_lang.specs.declared.types.Ask.TheVariants as ask
use Rattle.spool_plant.specs.declared.plant.Fuse.TheVariants as fuse
use Rattle.script_lang.specs.declared.types.Run.{Run}
use Rattle.script_lang.specs.declared.types.Step.{Step}
use Rattle.script_lang.specs.Asks.{is_member_letter, member_of, member_in, is_calm, units_most, fuse_most, numbered, typed, lost_volume, verb_asks, copy_asks, pair_asks, fuse_asks, device_asks, member_asks, stop_asks, lose_asks, asks, step_with, step_by, step_of}
use Rattle.script_lang.specs.Config.{number_in}
use Rattle.script_laws.specs.Limits.{IsAsk, IsBetween, IsBy, IsMember, IsStep}
use Rattle.script_lang.specs.Lines.{has_word, is_line, word_at}
use Rattle.script_laws.proofs.CommandFits.{spelled_within}
use Rattle.script_laws.proofs.ByCases.{if_ok, not_ok, one_ok}

-- NUMBERS AND MEMBERS

pub number-within : (least most : ℕ) (text : List ℕ) (n : ℕ) → number_in least most text ≡ Some n → IsBetween least most n
number-within least most text n e =
    let found = cond_some (is_numeral text && nat_le (value_of text) most && nat_le least (value_of text)) (value_of text) n e in
    let low = and_parts (is_numeral text && nat_le (value_of text) most) (nat_le least (value_of text)) found.0 in
    let high = and_parts (is_numeral text) (nat_le (value_of text) most) low.0 in
    let least_is : least ≤ value_of text = leb-true _ _ low.1 in
    let most_is : value_of text ≤ most = leb-true _ _ high.1 in
    let value : value_of text ≡ n = found.1 in
    (omega arith, omega arith)

pub member-within : (text : List ℕ) (m : MemberId) → member_of text ≡ Some m → IsMember m
member-within text m e =
    let found = cond_some ((length text == 4) && starts_with nat_eq text (codes "SYS") && is_member_letter (slice_index text 3)) (record { 0 = slice_index text 3 - 64 }) m e in
    let letter = (and_parts ((length text == 4) && starts_with nat_eq text (codes "SYS")) (is_member_letter (slice_index text 3)) found.0).1 in
    let both = and_parts (nat_le 65 (slice_index text 3)) (nat_le (slice_index text 3) 72) letter in
    let low : 65 ≤ slice_index text 3 = leb-true _ _ both.0 in
    let high : slice_index text 3 ≤ 72 = leb-true _ _ both.1 in
    let value : slice_index text 3 - 64 ≡ m.0 = ap (λ (k : MemberId). k.0) found.1 in
    (omega arith, omega arith)

-- WHAT IS ASKED FOR

abbrev pub IsAskedBy : MemberId → Ask → Type 0
IsAskedBy m a = IsBy m a × IsAsk a

pub of_number : (asked : ℕ → Ask) (o : Option ℕ) (a : Ask) (P : Ask → Type 0) → ((n : ℕ) → o ≡ Some n → P (asked n)) → numbered asked o ≡ Ok a → P a
of_number asked None a P h e = absurd (cc)
of_number asked (Some n) a P h e = one_ok (asked n) a P (h n refl) e

of_device : (m : MemberId) (device : List ℕ) (a : Ask) → m.0 ≡ 0 → device_asks device ≡ Ok a → IsAskedBy m a
of_device m device a by e =
    if_ok (bytes_eq device (codes "CKPT1")) _ _ a (IsAskedBy m a)
    (λ is e. one_ok (ask.Lose dev.Ckpt1) a (IsAskedBy m) (by, tt) e)
    (λ is e. if_ok (bytes_eq device (codes "CKPT2")) _ _ a (IsAskedBy m a)
    (λ is e. one_ok (ask.Lose dev.Ckpt2) a (IsAskedBy m) (by, tt) e)
    (λ is e. if_ok (starts_with nat_eq device (codes "SPOOL")) _ _ a (IsAskedBy m a)
    (λ is e. of_number lost_volume (number_in 1 volumes_most (drop 5 device)) a (IsAskedBy m) (λ n is. (by, number-within 1 volumes_most (drop 5 device) n is)) e)
    (λ is e. not_ok cause.Verb a (IsAskedBy m a) e) e) e) e

of_lose : (m : MemberId) (words : List (List ℕ)) (a : Ask) → m.0 ≡ 0 → lose_asks words ≡ Ok a → IsAskedBy m a
of_lose m words a by e =
    if_ok (length words == 2) _ _ a (IsAskedBy m a)
    (λ is e. of_device m (word_at words 1) a by e)
    (λ is e. not_ok cause.Verb a (IsAskedBy m a) e) e

module _ (computes : ComputesCommands) (m : MemberId) (by : IsMember m) where
  of_command : (verb : List ℕ) (o : Option Command) (a : Ask) → command_in verb ≡ o → typed o ≡ Ok a → IsAskedBy m a
  of_command verb None a is e = not_ok cause.Command a (IsAskedBy m a) e
  of_command verb (Some c) a is e = one_ok (ask.Command c) a (IsAskedBy m) (by, spelled_within verb c ((computes verb c).0 is)) e

  of_verb : (verb : List ℕ) (a : Ask) → verb_asks verb ≡ Ok a → IsAskedBy m a
  of_verb verb a e =
      if_ok (bytes_eq verb (codes "DECK")) _ _ a (IsAskedBy m a)
      (λ is e. one_ok (ask.Deck []) a (IsAskedBy m) (by, All-nil (λ card. is_line card ≡ true)) e)
      (λ is e. if_ok (bytes_eq verb (codes "LOCK")) _ _ a (IsAskedBy m a)
      (λ is e. one_ok ask.Lock a (IsAskedBy m) (by, tt) e)
      (λ is e. if_ok (bytes_eq verb (codes "FREE")) _ _ a (IsAskedBy m a)
      (λ is e. one_ok ask.Free a (IsAskedBy m) (by, tt) e)
      (λ is e. if_ok (starts_with nat_eq verb (codes "$")) _ _ a (IsAskedBy m a)
      (λ is e. of_command verb (command_in verb) a refl e)
      (λ is e. not_ok cause.Verb a (IsAskedBy m a) e) e) e) e) e

  of_copy : (copy : List ℕ) (a : Ask) → copy_asks copy ≡ Ok a → IsAskedBy m a
  of_copy copy a e =
      if_ok (bytes_eq copy (codes "CKPT1")) _ _ a (IsAskedBy m a)
      (λ is e. one_ok (ask.Replace dev.Ckpt1) a (IsAskedBy m) (by, tt) e)
      (λ is e. if_ok (bytes_eq copy (codes "CKPT2")) _ _ a (IsAskedBy m a)
      (λ is e. one_ok (ask.Replace dev.Ckpt2) a (IsAskedBy m) (by, tt) e)
      (λ is e. not_ok cause.Verb a (IsAskedBy m a) e) e) e

  of_pair : (verb word : List ℕ) (a : Ask) → pair_asks verb word ≡ Ok a → IsAskedBy m a
  of_pair verb word a e =
      if_ok (bytes_eq verb (codes "WORK")) _ _ a (IsAskedBy m a)
      (λ is e. of_number ask.Work (number_in 1 units_most word) a (IsAskedBy m) (λ n is. (by, number-within 1 units_most word n is)) e)
      (λ is e. if_ok (bytes_eq verb (codes "LINE")) _ _ a (IsAskedBy m a)
      (λ is e. of_number ask.Line (number_in 1 wires_most word) a (IsAskedBy m) (λ n is. (by, number-within 1 wires_most word n is)) e)
      (λ is e. if_ok (bytes_eq verb (codes "REPLACE")) _ _ a (IsAskedBy m a)
      (λ is e. of_copy word a e)
      (λ is e. not_ok cause.Verb a (IsAskedBy m a) e) e) e) e

  of_fuse : (word number : List ℕ) (a : Ask) → fuse_asks word number ≡ Ok a → IsAskedBy m a
  of_fuse word number a e =
      if_ok (bytes_eq word (codes "IN")) _ _ a (IsAskedBy m a)
      (λ is e. of_number (ask.StopIn fuse.Any) (number_in 1 fuse_most number) a (IsAskedBy m) (λ n is. (by, number-within 1 fuse_most number n is)) e)
      (λ is e. if_ok (bytes_eq word (codes "PRINT")) _ _ a (IsAskedBy m a)
      (λ is e. of_number (ask.StopIn fuse.Print) (number_in 1 fuse_most number) a (IsAskedBy m) (λ n is. (by, number-within 1 fuse_most number n is)) e)
      (λ is e. not_ok cause.Verb a (IsAskedBy m a) e) e) e

  of_member : (words : List (List ℕ)) (a : Ask) → member_asks words ≡ Ok a → IsAskedBy m a
  of_member words a e =
      if_ok (length words == 2) _ _ a (IsAskedBy m a)
      (λ is e. of_verb (word_at words 1) a e)
      (λ is e. if_ok (length words == 3) _ _ a (IsAskedBy m a)
      (λ is e. of_pair (word_at words 1) (word_at words 2) a e)
      (λ is e. not_ok cause.Verb a (IsAskedBy m a) e) e) e

  of_stop : (words : List (List ℕ)) (a : Ask) → stop_asks words ≡ Ok a → IsAskedBy m a
  of_stop words a e =
      if_ok (length words == 2) _ _ a (IsAskedBy m a)
      (λ is e. one_ok ask.Stop a (IsAskedBy m) (by, tt) e)
      (λ is e. if_ok (length words == 4) _ _ a (IsAskedBy m a)
      (λ is e. of_fuse (word_at words 2) (word_at words 3) a e)
      (λ is e. not_ok cause.Verb a (IsAskedBy m a) e) e) e

-- STOP alone asks for nothing
pub stop_alone : (words : List (List ℕ)) (a : Ask) (P : Type 0) → (length words == 1) ≡ true → stop_asks words ≡ Ok a → P
stop_alone words a P is e =
    let one : length words ≡ 1 = eqb-true _ _ is in
    not_ok cause.Verb a P (rw one at e)

-- the member of a line, and what it asks for
by_first_word : (lose stop alone : Bool) (first second : Option MemberId) (of_lose of_stop of_member : Result Ask LineCause) (m : MemberId) (a : Ask) (P : Type 0)
    → (nobody ≡ m → of_lose ≡ Ok a → P)
    → (alone ≡ true → of_stop ≡ Ok a → P)
    → (second ≡ Some m → of_stop ≡ Ok a → P)
    → (first ≡ Some m → of_member ≡ Ok a → P)
    → (if lose then Some nobody else if stop then (if alone then Some nobody else second) else first) ≡ Some m
    → (if lose then of_lose else if stop then of_stop else of_member) ≡ Ok a → P
by_first_word true stop alone first second of_lose of_stop of_member m a P h i j k named asked = h (cc) asked
by_first_word false true true first second of_lose of_stop of_member m a P h i j k named asked = i refl asked
by_first_word false true false first second of_lose of_stop of_member m a P h i j k named asked = j named asked
by_first_word false false alone first second of_lose of_stop of_member m a P h i j k named asked = k named asked

asks-within : ComputesCommands → (words : List (List ℕ)) (m : MemberId) (a : Ask) → member_in words ≡ Some m → asks words ≡ Ok a → IsAskedBy m a
asks-within computes words m a named asked =
    by_first_word (has_word words 0 (codes "LOSE")) (has_word words 0 (codes "STOP")) (length words == 1) (member_of (word_at words 0)) (member_of (word_at words 1)) (lose_asks words) (stop_asks words) (member_asks words) m a (IsAskedBy m a)
    (λ is e. of_lose m words a (ap (λ (k : MemberId). k.0) (sym is)) e)
    (λ is e. stop_alone words a (IsAskedBy m a) is e)
    (λ is e. of_stop computes m (member-within (word_at words 1) m is) words a e)
    (λ is e. of_member computes m (member-within (word_at words 0) m is) words a e)
    named asked

-- STEPS

step_of_ask : ComputesCommands → (m : MemberId) (words : List (List ℕ)) (r : Result Ask LineCause) (s : Step) → member_in words ≡ Some m → asks words ≡ r → step_with m r ≡ Ok s → IsStep s
step_of_ask computes m words (Err why) s named asked e = not_ok why s (IsStep s) e
step_of_ask computes m words (Ok a) s named asked e =
    let within = asks-within computes words m a named asked in
    one_ok (record { by = m; what = a }) s IsStep (record { by = within.0; what = within.1 }) e

step_of_member : ComputesCommands → (run : Run) (words : List (List ℕ)) (o : Option MemberId) (s : Step) → member_in words ≡ o → step_by run words o ≡ Ok s → IsStep s
step_of_member computes run words None s named e = not_ok cause.Member s (IsStep s) e
step_of_member computes run words (Some m) s named e =
    if_ok (run.race && is_calm words) _ _ s (IsStep s)
    (λ is e. not_ok cause.Race s (IsStep s) e)
    (λ is e. step_of_ask computes m words (asks words) s named refl e) e

pub step-within : ComputesCommands → (run : Run) (words : List (List ℕ)) (s : Step) → step_of run words ≡ Ok s → IsStep s
step-within computes run words s e =
    if_ok run.only _ _ s (IsStep s)
    (λ is e. not_ok cause.Only s (IsStep s) e)
    (λ is e. step_of_member computes run words (member_in words) s refl e) e
