-- A line of the grammar is read as its step.
use Rattle.std.proofs.Common.{◌≡◌, ◌∙◌, sym, ap, subst, ℕ, Bool, true, false, ◌&&◌, List, [], ◌∷◌, Some, Ok, Err, refl}
use Rattle.std.proofs.lemmas.Bool.{cond-false}
use Rattle.mas_types.specs.declared.answers.LineCause.TheVariants as cause
use Rattle.mas_types.specs.declared.commands.Command.{Command}
use Rattle.mas_types.specs.declared.ids.MemberId.{MemberId}
use Rattle.mas_types.specs.Limits.{volumes_most, wires_most}
use Rattle.mas_types.specs.Names.{member_text}
use Rattle.operator_cmds.specs.Laws.{ComputesCommands}
use Rattle.operator_cmds.specs.Spellings.{IsSpelling}
use Rattle.script_lang.specs.declared.types.Ask.{Ask}
use Rattle.script_lang.specs.declared.types.Ask.TheVariants as ask
use Rattle.spool_plant.specs.declared.plant.Fuse.TheVariants as fuse
use Rattle.script_lang.specs.declared.types.Run.{Run}
use Rattle.script_lang.specs.declared.types.Step.{Step}
use Rattle.script_lang.specs.Asks.{member_of, member_in, is_calm, units_most, fuse_most, numbered, typed, lost_volume, verb_asks, member_asks, asks, step_with, step_by, step_of}
use Rattle.script_lang.specs.Config.{number_in}
use Rattle.script_laws.specs.Grammar.{AsksFor, DeckLine, LockLine, FreeLine, CommandLine, WorkLine, WireLine, FirstCopyLine, SecondCopyLine, IsLineOf, MemberLine, StopLine, StopInLine, StopPrintLine, LoseFirstLine, LoseSecondLine, LoseVolumeLine, IsNameOf, IsNumber, MayRace}
use Rattle.script_laws.proofs.LineWords.{dollar, name_from, number_from}

-- RACES

-- the line may stand in a race exactly where what it asks for may
abbrev pub IsCalmAs : List (List ℕ) → Ask → Type 0
IsCalmAs words a = (is_calm words ≡ false → MayRace a) × (MayRace a → is_calm words ≡ false)

command_calm : (m : ℕ) (rest : List ℕ) → is_calm (member_text m ∷ (36 ∷ rest) ∷ []) ≡ false
command_calm m rest = refl

member_calm : (m : ℕ) (words : List (List ℕ)) (a : Ask) → AsksFor words a → IsCalmAs (member_text m ∷ words) a
member_calm m _ _ DeckLine = (λ e. tt, λ r. refl)
member_calm m _ _ LockLine = (λ e. absurd (cc), λ r. absurd r)
member_calm m _ _ FreeLine = (λ e. absurd (cc), λ r. absurd r)
member_calm m _ _ (CommandLine c text s) =
    let first = dollar text c s in
    (λ e. tt, λ r. subst (λ (t : List ℕ). is_calm (member_text m ∷ t ∷ []) ≡ false) (sym first.1) (command_calm m first.0))
member_calm m _ _ (WorkLine n text is) = (λ e. tt, λ r. refl)
member_calm m _ _ (WireLine n text is) = (λ e. absurd (cc), λ r. absurd r)
member_calm m _ _ FirstCopyLine = (λ e. absurd (cc), λ r. absurd r)
member_calm m _ _ SecondCopyLine = (λ e. absurd (cc), λ r. absurd r)

pub line_calm : (words : List (List ℕ)) (s : Step) → IsLineOf words s → IsCalmAs words s.what
line_calm _ _ (MemberLine m name words a named asks) = subst (λ (t : List ℕ). IsCalmAs (t ∷ words) a) (sym named.named) (member_calm m.0 words a asks)
line_calm _ _ (StopLine m name named) = (λ e. absurd (cc), λ r. absurd r)
line_calm _ _ (StopInLine m name n text named is) = (λ e. tt, λ r. refl)
line_calm _ _ (StopPrintLine m name n text named is) = (λ e. tt, λ r. refl)
line_calm _ _ LoseFirstLine = (λ e. absurd (cc), λ r. absurd r)
line_calm _ _ LoseSecondLine = (λ e. absurd (cc), λ r. absurd r)
line_calm _ _ (LoseVolumeLine v text is) = (λ e. absurd (cc), λ r. absurd r)

-- WHO ASKS, AND FOR WHAT

number_asks : (asked : ℕ → Ask) (least most : ℕ) (text : List ℕ) (n : ℕ) → IsNumber least most n text → numbered asked (number_in least most text) ≡ Ok (asked n)
number_asks asked least most text n is = ap (numbered asked) (number_from least most text n is)

module _ (computes : ComputesCommands) where
  command_asks : (rest : List ℕ) (c : Command) → IsSpelling c (36 ∷ rest) → verb_asks (36 ∷ rest) ≡ Ok (ask.Command c)
  command_asks rest c s = ap typed ((computes (36 ∷ rest) c).1 s)

  words_ask : (m : ℕ) (words : List (List ℕ)) (a : Ask) → AsksFor words a → member_asks (member_text m ∷ words) ≡ Ok a
  words_ask m _ _ DeckLine = refl
  words_ask m _ _ LockLine = refl
  words_ask m _ _ FreeLine = refl
  words_ask m _ _ (CommandLine c text s) =
      let first = dollar text c s in
      let spelled : IsSpelling c (36 ∷ first.0) = subst (IsSpelling c) first.1 s in
      subst (λ (t : List ℕ). verb_asks t ≡ Ok (ask.Command c)) (sym first.1) (command_asks first.0 c spelled)
  words_ask m _ _ (WorkLine n text is) = number_asks ask.Work 1 units_most text n is
  words_ask m _ _ (WireLine n text is) = number_asks ask.Line 1 wires_most text n is
  words_ask m _ _ FirstCopyLine = refl
  words_ask m _ _ SecondCopyLine = refl

  line_asks : (words : List (List ℕ)) (s : Step) → IsLineOf words s → asks words ≡ Ok s.what
  line_asks _ _ (MemberLine m name words a named asked) = subst (λ (t : List ℕ). asks (t ∷ words) ≡ Ok a) (sym named.named) (words_ask m.0 words a asked)
  line_asks _ _ (StopLine m name named) = refl
  line_asks _ _ (StopInLine m name n text named is) = number_asks (ask.StopIn fuse.Any) 1 fuse_most text n is
  line_asks _ _ (StopPrintLine m name n text named is) = number_asks (ask.StopIn fuse.Print) 1 fuse_most text n is
  line_asks _ _ LoseFirstLine = refl
  line_asks _ _ LoseSecondLine = refl
  line_asks _ _ (LoseVolumeLine v text is) = number_asks lost_volume 1 volumes_most text v is

name_read : (m : MemberId) (name : List ℕ) → IsNameOf m name → member_of name ≡ Some m
name_read m name named = subst (λ (t : List ℕ). member_of t ≡ Some m) (sym named.named) (name_from m named.within.0 named.within.1)

member_first : (m : MemberId) (words : List (List ℕ)) → IsNameOf m (member_text m.0) → member_in (member_text m.0 ∷ words) ≡ Some m
member_first m words named = name_from m named.within.0 named.within.1

line_member : (words : List (List ℕ)) (s : Step) → IsLineOf words s → member_in words ≡ Some s.by
line_member _ _ (MemberLine m name words a named asked) =
    subst (λ (t : List ℕ). member_in (t ∷ words) ≡ Some m) (sym named.named) (member_first m words (record { within = named.within; named = refl }))
line_member _ _ (StopLine m name named) = name_read m name named
line_member _ _ (StopInLine m name n text named is) = name_read m name named
line_member _ _ (StopPrintLine m name n text named is) = name_read m name named
line_member _ _ LoseFirstLine = refl
line_member _ _ LoseSecondLine = refl
line_member _ _ (LoseVolumeLine v text is) = refl

-- THE STEP

race_calm : (race calm : Bool) → (race ≡ true → calm ≡ false) → (race && calm) ≡ false
race_calm true calm h = h refl
race_calm false calm h = refl

pub step_of_line : (computes : ComputesCommands) (run : Run) (words : List (List ℕ)) (s : Step) → run.only ≡ false → (run.race ≡ true → MayRace s.what) → IsLineOf words s → step_of run words ≡ Ok s
step_of_line computes run words s only race line =
    let calm : (run.race && is_calm words) ≡ false = race_calm run.race (is_calm words) (λ e. (line_calm words s line).1 (race e)) in
    cond-false run.only (Err cause.Only) (step_by run words (member_in words)) only
    ∙ ap (step_by run words) (line_member words s line)
    ∙ cond-false (run.race && is_calm words) (Err cause.Race) (step_with s.by (asks words)) calm
    ∙ ap (step_with s.by) (line_asks computes words s line)
