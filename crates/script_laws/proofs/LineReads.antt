-- A line that is read as a step is in the grammar.
use Rattle.std.proofs.Common.{◌≡◌, sym, subst, ℕ, ◌==◌, nat_eq, Bool, true, false, ◌&&◌, if◌then◌else◌, List, [], ◌∷◌, ◌++◌, length, drop, codes, Option, Some, None, Result, Ok, Err, refl}
use Rattle.std.specs.List.{starts_with}
use Rattle.std.specs.Str.{bytes_eq}
use Rattle.mas_types.specs.declared.answers.LineCause.{LineCause}
use Rattle.mas_types.specs.declared.answers.LineCause.TheVariants as cause
use Rattle.mas_types.specs.declared.commands.Command.{Command}
use Rattle.mas_types.specs.declared.ids.Dev.TheVariants as dev
use Rattle.mas_types.specs.declared.ids.MemberId.{MemberId}
use Rattle.mas_types.specs.Ids.{nobody}
use Rattle.mas_types.specs.Limits.{volumes_most, wires_most}
use Rattle.operator_cmds.specs.Laws.{ComputesCommands}
use Rattle.operator_cmds.specs.Typed.{command_in}
use Rattle.script_lang.specs.declared.types.Ask.{Ask}
use Rattle.script_lang.specs.declared.types.Ask.TheVariants as ask
use Rattle.spool_plant.specs.declared.plant.Fuse.TheVariants as fuse
use Rattle.script_lang.specs.declared.types.Run.{Run}
use Rattle.script_lang.specs.declared.types.Step.{Step}
use Rattle.script_lang.specs.Asks.{member_of, member_in, is_calm, units_most, fuse_most, typed, lost_volume, verb_asks, copy_asks, pair_asks, fuse_asks, device_asks, member_asks, stop_asks, lose_asks, asks, step_with, step_by, step_of}
use Rattle.script_lang.specs.Config.{number_in}
use Rattle.script_lang.specs.Lines.{has_word, word_at}
use Rattle.script_laws.specs.Grammar.{AsksFor, DeckLine, LockLine, FreeLine, CommandLine, WorkLine, WireLine, FirstCopyLine, SecondCopyLine, IsLineOf, MemberLine, StopLine, StopInLine, StopPrintLine, LoseFirstLine, LoseSecondLine, LoseVolumeLine, IsNameOf, step_of_member}
use Rattle.script_laws.proofs.AskFits.{of_number, stop_alone}
use Rattle.script_laws.proofs.ByCases.{if_ok, not_ok, one_ok}
use Rattle.script_laws.proofs.LineWords.{word_is, begins, two_words, three_words, four_words, number_is, name_is}

-- ONE OR TWO WORDS BEHIND A MEMBER

verb_is : (verb text : List ℕ) (what a : Ask) → bytes_eq verb text ≡ true → AsksFor (text ∷ []) what → ◌≡◌ {A = Result Ask LineCause} (Ok what) (Ok a) → AsksFor (verb ∷ []) a
verb_is verb text what a is asks e = one_ok what a (AsksFor (verb ∷ [])) (subst (λ (v : List ℕ). AsksFor (v ∷ []) what) (sym (word_is verb text is)) asks) e

module _ (computes : ComputesCommands) where
  command_read : (verb : List ℕ) (o : Option Command) (a : Ask) → command_in verb ≡ o → typed o ≡ Ok a → AsksFor (verb ∷ []) a
  command_read verb None a is e = not_ok cause.Command a (AsksFor (verb ∷ []) a) e
  command_read verb (Some c) a is e = one_ok (ask.Command c) a (AsksFor (verb ∷ [])) (CommandLine c verb ((computes verb c).0 is)) e

  verb_read : (verb : List ℕ) (a : Ask) → verb_asks verb ≡ Ok a → AsksFor (verb ∷ []) a
  verb_read verb a e =
      if_ok (bytes_eq verb (codes "DECK")) _ _ a (AsksFor (verb ∷ []) a)
      (λ is e. verb_is verb (codes "DECK") (ask.Deck []) a is DeckLine e)
      (λ is e. if_ok (bytes_eq verb (codes "LOCK")) _ _ a (AsksFor (verb ∷ []) a)
      (λ is e. verb_is verb (codes "LOCK") ask.Lock a is LockLine e)
      (λ is e. if_ok (bytes_eq verb (codes "FREE")) _ _ a (AsksFor (verb ∷ []) a)
      (λ is e. verb_is verb (codes "FREE") ask.Free a is FreeLine e)
      (λ is e. if_ok (starts_with nat_eq verb (codes "$")) _ _ a (AsksFor (verb ∷ []) a)
      (λ is e. command_read verb (command_in verb) a refl e)
      (λ is e. not_ok cause.Verb a (AsksFor (verb ∷ []) a) e) e) e) e) e

copy_is : (copy text : List ℕ) (what a : Ask) → bytes_eq copy text ≡ true → AsksFor (codes "REPLACE" ∷ text ∷ []) what → ◌≡◌ {A = Result Ask LineCause} (Ok what) (Ok a) → AsksFor (codes "REPLACE" ∷ copy ∷ []) a
copy_is copy text what a is asks e = one_ok what a (AsksFor (codes "REPLACE" ∷ copy ∷ [])) (subst (λ (w : List ℕ). AsksFor (codes "REPLACE" ∷ w ∷ []) what) (sym (word_is copy text is)) asks) e

copy_read : (copy : List ℕ) (a : Ask) → copy_asks copy ≡ Ok a → AsksFor (codes "REPLACE" ∷ copy ∷ []) a
copy_read copy a e =
    if_ok (bytes_eq copy (codes "CKPT1")) _ _ a (AsksFor (codes "REPLACE" ∷ copy ∷ []) a)
    (λ is e. copy_is copy (codes "CKPT1") (ask.Replace dev.Ckpt1) a is FirstCopyLine e)
    (λ is e. if_ok (bytes_eq copy (codes "CKPT2")) _ _ a (AsksFor (codes "REPLACE" ∷ copy ∷ []) a)
    (λ is e. copy_is copy (codes "CKPT2") (ask.Replace dev.Ckpt2) a is SecondCopyLine e)
    (λ is e. not_ok cause.Verb a (AsksFor (codes "REPLACE" ∷ copy ∷ []) a) e) e) e

pair_is : (verb text word : List ℕ) (a : Ask) → bytes_eq verb text ≡ true → AsksFor (text ∷ word ∷ []) a → AsksFor (verb ∷ word ∷ []) a
pair_is verb text word a is asks = subst (λ (v : List ℕ). AsksFor (v ∷ word ∷ []) a) (sym (word_is verb text is)) asks

pair_read : (verb word : List ℕ) (a : Ask) → pair_asks verb word ≡ Ok a → AsksFor (verb ∷ word ∷ []) a
pair_read verb word a e =
    if_ok (bytes_eq verb (codes "WORK")) _ _ a (AsksFor (verb ∷ word ∷ []) a)
    (λ is e. pair_is verb (codes "WORK") word a is (of_number ask.Work (number_in 1 units_most word) a (AsksFor (codes "WORK" ∷ word ∷ [])) (λ n found. WorkLine n word (number_is 1 units_most word n found)) e))
    (λ is e. if_ok (bytes_eq verb (codes "LINE")) _ _ a (AsksFor (verb ∷ word ∷ []) a)
    (λ is e. pair_is verb (codes "LINE") word a is (of_number ask.Line (number_in 1 wires_most word) a (AsksFor (codes "LINE" ∷ word ∷ [])) (λ n found. WireLine n word (number_is 1 wires_most word n found)) e))
    (λ is e. if_ok (bytes_eq verb (codes "REPLACE")) _ _ a (AsksFor (verb ∷ word ∷ []) a)
    (λ is e. pair_is verb (codes "REPLACE") word a is (copy_read word a e))
    (λ is e. not_ok cause.Verb a (AsksFor (verb ∷ word ∷ []) a) e) e) e) e

-- THE WHOLE LINE

-- the words are the line of a member's step
abbrev pub IsLine : List (List ℕ) → MemberId → Ask → Type 0
IsLine words m a = IsLineOf words (step_of_member m a)

member_two : (computes : ComputesCommands) (name verb : List ℕ) (m : MemberId) (a : Ask) → member_of name ≡ Some m → verb_asks verb ≡ Ok a → IsLine (name ∷ verb ∷ []) m a
member_two computes name verb m a named e = MemberLine m name (verb ∷ []) a (name_is name m named) (verb_read computes verb a e)

member_three : (name verb word : List ℕ) (m : MemberId) (a : Ask) → member_of name ≡ Some m → pair_asks verb word ≡ Ok a → IsLine (name ∷ verb ∷ word ∷ []) m a
member_three name verb word m a named e = MemberLine m name (verb ∷ word ∷ []) a (name_is name m named) (pair_read verb word a e)

member_read : (computes : ComputesCommands) (words : List (List ℕ)) (m : MemberId) (a : Ask) → member_of (word_at words 0) ≡ Some m → member_asks words ≡ Ok a → IsLine words m a
member_read computes words m a named e =
    if_ok (length words == 2) _ _ a (IsLine words m a)
    (λ is e. let two = two_words words is in
    subst (λ (ws : List (List ℕ)). IsLine ws m a) (sym two.2) (member_two computes two.0 two.1 m a (rw two.2 at named) (rw two.2 at e)))
    (λ is e. if_ok (length words == 3) _ _ a (IsLine words m a)
    (λ is e. let three = three_words words is in
    subst (λ (ws : List (List ℕ)). IsLine ws m a) (sym three.3) (member_three three.0 three.1 three.2 m a (rw three.3 at named) (rw three.3 at e)))
    (λ is e. not_ok cause.Verb a (IsLine words m a) e) e) e

fuse_is : (word text name number : List ℕ) (m : MemberId) (a : Ask) → bytes_eq word text ≡ true → IsLine (codes "STOP" ∷ name ∷ text ∷ number ∷ []) m a → IsLine (codes "STOP" ∷ name ∷ word ∷ number ∷ []) m a
fuse_is word text name number m a is line = subst (λ (w : List ℕ). IsLine (codes "STOP" ∷ name ∷ w ∷ number ∷ []) m a) (sym (word_is word text is)) line

fuse_read : (name word number : List ℕ) (m : MemberId) (a : Ask) → IsNameOf m name → fuse_asks word number ≡ Ok a → IsLine (codes "STOP" ∷ name ∷ word ∷ number ∷ []) m a
fuse_read name word number m a named e =
    if_ok (bytes_eq word (codes "IN")) _ _ a (IsLine (codes "STOP" ∷ name ∷ word ∷ number ∷ []) m a)
    (λ is e. fuse_is word (codes "IN") name number m a is (of_number (ask.StopIn fuse.Any) (number_in 1 fuse_most number) a (IsLine (codes "STOP" ∷ name ∷ codes "IN" ∷ number ∷ []) m) (λ n found. StopInLine m name n number named (number_is 1 fuse_most number n found)) e))
    (λ is e. if_ok (bytes_eq word (codes "PRINT")) _ _ a (IsLine (codes "STOP" ∷ name ∷ word ∷ number ∷ []) m a)
    (λ is e. fuse_is word (codes "PRINT") name number m a is (of_number (ask.StopIn fuse.Print) (number_in 1 fuse_most number) a (IsLine (codes "STOP" ∷ name ∷ codes "PRINT" ∷ number ∷ []) m) (λ n found. StopPrintLine m name n number named (number_is 1 fuse_most number n found)) e))
    (λ is e. not_ok cause.Verb a (IsLine (codes "STOP" ∷ name ∷ word ∷ number ∷ []) m a) e) e) e

stop_two : (first name : List ℕ) (m : MemberId) (a : Ask) → bytes_eq first (codes "STOP") ≡ true → member_of name ≡ Some m → ◌≡◌ {A = Result Ask LineCause} (Ok ask.Stop) (Ok a) → IsLine (first ∷ name ∷ []) m a
stop_two first name m a is named e = subst (λ (f : List ℕ). IsLine (f ∷ name ∷ []) m a) (sym (word_is first (codes "STOP") is)) (one_ok ask.Stop a (IsLine (codes "STOP" ∷ name ∷ []) m) (StopLine m name (name_is name m named)) e)

stop_four : (first name word number : List ℕ) (m : MemberId) (a : Ask) → bytes_eq first (codes "STOP") ≡ true → member_of name ≡ Some m → fuse_asks word number ≡ Ok a → IsLine (first ∷ name ∷ word ∷ number ∷ []) m a
stop_four first name word number m a is named e = subst (λ (f : List ℕ). IsLine (f ∷ name ∷ word ∷ number ∷ []) m a) (sym (word_is first (codes "STOP") is)) (fuse_read name word number m a (name_is name m named) e)

stop_read : (words : List (List ℕ)) (m : MemberId) (a : Ask) → has_word words 0 (codes "STOP") ≡ true → member_of (word_at words 1) ≡ Some m → stop_asks words ≡ Ok a → IsLine words m a
stop_read words m a stop named e =
    if_ok (length words == 2) _ _ a (IsLine words m a)
    (λ is e. let two = two_words words is in
    subst (λ (ws : List (List ℕ)). IsLine ws m a) (sym two.2) (stop_two two.0 two.1 m a (rw two.2 at stop) (rw two.2 at named) e))
    (λ is e. if_ok (length words == 4) _ _ a (IsLine words m a)
    (λ is e. let four = four_words words is in
    subst (λ (ws : List (List ℕ)). IsLine ws m a) (sym four.4) (stop_four four.0 four.1 four.2 four.3 m a (rw four.4 at stop) (rw four.4 at named) (rw four.4 at e)))
    (λ is e. not_ok cause.Verb a (IsLine words m a) e) e) e

device_is : (device text : List ℕ) (what a : Ask) → bytes_eq device text ≡ true → IsLine (codes "LOSE" ∷ text ∷ []) nobody what → ◌≡◌ {A = Result Ask LineCause} (Ok what) (Ok a) → IsLine (codes "LOSE" ∷ device ∷ []) nobody a
device_is device text what a is line e = one_ok what a (IsLine (codes "LOSE" ∷ device ∷ []) nobody) (subst (λ (d : List ℕ). IsLine (codes "LOSE" ∷ d ∷ []) nobody what) (sym (word_is device text is)) line) e

device_read : (device : List ℕ) (a : Ask) → device_asks device ≡ Ok a → IsLine (codes "LOSE" ∷ device ∷ []) nobody a
device_read device a e =
    if_ok (bytes_eq device (codes "CKPT1")) _ _ a (IsLine (codes "LOSE" ∷ device ∷ []) nobody a)
    (λ is e. device_is device (codes "CKPT1") (ask.Lose dev.Ckpt1) a is LoseFirstLine e)
    (λ is e. if_ok (bytes_eq device (codes "CKPT2")) _ _ a (IsLine (codes "LOSE" ∷ device ∷ []) nobody a)
    (λ is e. device_is device (codes "CKPT2") (ask.Lose dev.Ckpt2) a is LoseSecondLine e)
    (λ is e. if_ok (starts_with nat_eq device (codes "SPOOL")) _ _ a (IsLine (codes "LOSE" ∷ device ∷ []) nobody a)
    (λ is e. subst (λ (d : List ℕ). IsLine (codes "LOSE" ∷ d ∷ []) nobody a) (sym (begins device (codes "SPOOL") is))
    (of_number lost_volume (number_in 1 volumes_most (drop 5 device)) a (IsLine (codes "LOSE" ∷ (codes "SPOOL" ++ drop 5 device) ∷ []) nobody) (λ n found. LoseVolumeLine n (drop 5 device) (number_is 1 volumes_most (drop 5 device) n found)) e))
    (λ is e. not_ok cause.Verb a (IsLine (codes "LOSE" ∷ device ∷ []) nobody a) e) e) e) e

lose_two : (first device : List ℕ) (a : Ask) → bytes_eq first (codes "LOSE") ≡ true → device_asks device ≡ Ok a → IsLine (first ∷ device ∷ []) nobody a
lose_two first device a is e = subst (λ (f : List ℕ). IsLine (f ∷ device ∷ []) nobody a) (sym (word_is first (codes "LOSE") is)) (device_read device a e)

lose_read : (words : List (List ℕ)) (a : Ask) → has_word words 0 (codes "LOSE") ≡ true → lose_asks words ≡ Ok a → IsLine words nobody a
lose_read words a lose e =
    if_ok (length words == 2) _ _ a (IsLine words nobody a)
    (λ is e. let two = two_words words is in
    subst (λ (ws : List (List ℕ)). IsLine ws nobody a) (sym two.2) (lose_two two.0 two.1 a (rw two.2 at lose) (rw two.2 at e)))
    (λ is e. not_ok cause.Verb a (IsLine words nobody a) e) e

-- the first word of a line decides who asks and what may stand behind it
by_word : (lose stop alone : Bool) (first second : Option MemberId) (l s k : Result Ask LineCause) (m : MemberId) (a : Ask) (P : Type 0)
    → (lose ≡ true → nobody ≡ m → l ≡ Ok a → P)
    → (alone ≡ true → s ≡ Ok a → P)
    → (stop ≡ true → second ≡ Some m → s ≡ Ok a → P)
    → (first ≡ Some m → k ≡ Ok a → P)
    → (if lose then Some nobody else if stop then (if alone then Some nobody else second) else first) ≡ Some m
    → (if lose then l else if stop then s else k) ≡ Ok a → P
by_word true stop alone first second l s k m a P h i j g named asked = h refl (cc) asked
by_word false true true first second l s k m a P h i j g named asked = i refl asked
by_word false true false first second l s k m a P h i j g named asked = j refl named asked
by_word false false alone first second l s k m a P h i j g named asked = g named asked

line_read : (computes : ComputesCommands) (words : List (List ℕ)) (m : MemberId) (a : Ask) → member_in words ≡ Some m → asks words ≡ Ok a → IsLine words m a
line_read computes words m a named asked =
    by_word (has_word words 0 (codes "LOSE")) (has_word words 0 (codes "STOP")) (length words == 1) (member_of (word_at words 0)) (member_of (word_at words 1)) (lose_asks words) (stop_asks words) (member_asks words) m a (IsLine words m a)
    (λ lose is e. subst (λ (k : MemberId). IsLine words k a) is (lose_read words a lose e))
    (λ alone e. stop_alone words a (IsLine words m a) alone e)
    (λ stop is e. stop_read words m a stop is e)
    (λ is e. member_read computes words m a is e)
    named asked

ask_read : (computes : ComputesCommands) (m : MemberId) (words : List (List ℕ)) (r : Result Ask LineCause) (s : Step) → member_in words ≡ Some m → asks words ≡ r → step_with m r ≡ Ok s → IsLineOf words s
ask_read computes m words (Err why) s named asked e = not_ok why s (IsLineOf words s) e
ask_read computes m words (Ok a) s named asked e = one_ok (step_of_member m a) s (IsLineOf words) (line_read computes words m a named asked) e

step_read : (computes : ComputesCommands) (run : Run) (words : List (List ℕ)) (o : Option MemberId) (s : Step) → member_in words ≡ o → step_by run words o ≡ Ok s → IsLineOf words s × ((run.race && is_calm words) ≡ false)
step_read computes run words None s named e = not_ok cause.Member s (IsLineOf words s × ((run.race && is_calm words) ≡ false)) e
step_read computes run words (Some m) s named e =
    if_ok (run.race && is_calm words) _ _ s (IsLineOf words s × ((run.race && is_calm words) ≡ false))
    (λ is e. not_ok cause.Race s (IsLineOf words s × ((run.race && is_calm words) ≡ false)) e)
    (λ is e. (ask_read computes m words (asks words) s named refl e, is)) e

-- a line that is read is in the grammar, and in a race it may stand there
pub line_of_step : (computes : ComputesCommands) (run : Run) (words : List (List ℕ)) (s : Step) → step_of run words ≡ Ok s → IsLineOf words s × ((run.race && is_calm words) ≡ false) × (run.only ≡ false)
line_of_step computes run words s e =
    if_ok run.only _ _ s (IsLineOf words s × ((run.race && is_calm words) ≡ false) × (run.only ≡ false))
    (λ is e. not_ok cause.Only s (IsLineOf words s × ((run.race && is_calm words) ≡ false) × (run.only ≡ false)) e)
    (λ is e. let read = step_read computes run words (member_in words) s refl e in (read.0, read.1, is)) e
