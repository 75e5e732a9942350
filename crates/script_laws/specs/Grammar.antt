-- The lines of steps, as a grammar: their words, and what they ask for.
use Rattle.std.specs.Prelude.{◌≡◌, ℕ, true, List, [], ◌∷◌, ◌++◌, codes}
use Rattle.mas_types.specs.declared.commands.Command.{Command}
use Rattle.mas_types.specs.declared.ids.Dev.TheVariants as dev
use Rattle.mas_types.specs.declared.ids.MemberId.{MemberId}
use Rattle.mas_types.specs.Ids.{nobody}
use Rattle.mas_types.specs.Limits.{volumes_most, wires_most}
use Rattle.mas_types.specs.Names.{member_text}
use Rattle.mas_types.specs.Numerals.{is_numeral, value_of}
use Rattle.operator_cmds.specs.Spellings.{IsSpelling}
use Rattle.script_lang.specs.declared.types.Ask.{Ask}
use Rattle.script_lang.specs.declared.types.Ask.TheVariants as ask
use Rattle.spool_plant.specs.declared.plant.Fuse.TheVariants as fuse
use Rattle.script_lang.specs.declared.types.Step.{Step}
use Rattle.script_lang.specs.Asks.{fuse_most, units_most}
use Rattle.script_laws.specs.Limits.{IsBetween, IsMember}

-- a number of 1 to 10 digits as it is typed, from the least to the greatest
pub record IsNumber (least most n : ℕ) (text : List ℕ) : Type 0 where
  pub numeral : is_numeral text ≡ true
  pub value : value_of text ≡ n
  pub within : IsBetween least most n

-- the name of a member: SYSA to SYSH
pub record IsNameOf (m : MemberId) (text : List ℕ) : Type 0 where
  pub within : IsMember m
  pub named : text ≡ member_text m.0

-- the words behind a member's name, and what they ask for; a deck's cards are on the lines behind
pub data AsksFor : List (List ℕ) → Ask → Type 0 where
  DeckLine : AsksFor (codes "DECK" ∷ []) (ask.Deck [])
  LockLine : AsksFor (codes "LOCK" ∷ []) ask.Lock
  FreeLine : AsksFor (codes "FREE" ∷ []) ask.Free
  CommandLine : (c : Command) (text : List ℕ) → IsSpelling c text → AsksFor (text ∷ []) (ask.Command c)
  WorkLine : (n : ℕ) (text : List ℕ) → IsNumber 1 units_most n text → AsksFor (codes "WORK" ∷ text ∷ []) (ask.Work n)
  WireLine : (n : ℕ) (text : List ℕ) → IsNumber 1 wires_most n text → AsksFor (codes "LINE" ∷ text ∷ []) (ask.Line n)
  FirstCopyLine : AsksFor (codes "REPLACE" ∷ codes "CKPT1" ∷ []) (ask.Replace dev.Ckpt1)
  SecondCopyLine : AsksFor (codes "REPLACE" ∷ codes "CKPT2" ∷ []) (ask.Replace dev.Ckpt2)

abbrev pub step_of_member : MemberId → Ask → Step
step_of_member m what = record { by = m; what = what }

-- the words of a line, and its step
pub data IsLineOf : List (List ℕ) → Step → Type 0 where
  MemberLine : (m : MemberId) (name : List ℕ) (words : List (List ℕ)) (what : Ask) → IsNameOf m name
      → AsksFor words what → IsLineOf (name ∷ words) (step_of_member m what)
  StopLine : (m : MemberId) (name : List ℕ) → IsNameOf m name → IsLineOf (codes "STOP" ∷ name ∷ []) (step_of_member m ask.Stop)
  StopInLine : (m : MemberId) (name : List ℕ) (n : ℕ) (text : List ℕ) → IsNameOf m name → IsNumber 1 fuse_most n text → IsLineOf (codes "STOP" ∷ name ∷ codes "IN" ∷ text ∷ []) (step_of_member m (ask.StopIn fuse.Any n))
  StopPrintLine : (m : MemberId) (name : List ℕ) (n : ℕ) (text : List ℕ) → IsNameOf m name → IsNumber 1 fuse_most n text → IsLineOf (codes "STOP" ∷ name ∷ codes "PRINT" ∷ text ∷ []) (step_of_member m (ask.StopIn fuse.Print n))
  LoseFirstLine : IsLineOf (codes "LOSE" ∷ codes "CKPT1" ∷ []) (step_of_member nobody (ask.Lose dev.Ckpt1))
  LoseSecondLine : IsLineOf (codes "LOSE" ∷ codes "CKPT2" ∷ []) (step_of_member nobody (ask.Lose dev.Ckpt2))
  LoseVolumeLine : (v : ℕ) (text : List ℕ) → IsNumber 1 volumes_most v text → IsLineOf (codes "LOSE" ∷ (codes "SPOOL" ++ text) ∷ []) (step_of_member nobody (ask.Lose (dev.Spool v)))

-- what may be asked for in a race: not LOCK, FREE, LINE, REPLACE and LOSE, and of STOP only IN and PRINT
abbrev pub MayRace : Ask → Type 0
MayRace (ask.Deck cards) = Unit {0}
MayRace (ask.Command command) = Unit {0}
MayRace (ask.Work n) = Unit {0}
MayRace (ask.StopIn fuse n) = Unit {0}
MayRace ask.Lock = ⊥
MayRace ask.Free = ⊥
MayRace (ask.Line line) = ⊥
MayRace (ask.Replace copy) = ⊥
MayRace ask.Stop = ⊥
MayRace (ask.Lose device) = ⊥
