-- What is asked of some kinds of steps alone.
use Rattle.std.proofs.Common.{◌≡◌, ℕ, ◌+◌, ◌≤◌, List, [], ◌∷◌, Option, Result, Err, arith}
use Rattle.mas_types.specs.declared.ids.MemberId.{MemberId}
use Rattle.script_lang.specs.Asks.{units_most}
use Rattle.spool_plant.specs.View.{View}
use Rattle.member_node.specs.declared.member.NodeNo.{NodeNo}
use Rattle.step_turns.specs.Courses.{Finds}
use Rattle.step_turns.specs.Laws.{units_done, units_left}
use Rattle.step_turns.specs.declared.states.Found.{Found}
use Rattle.step_turns.specs.declared.states.State.{State}
use Rattle.step_turns.specs.declared.states.Aside.TheVariants.{Acknowledge, Exchange, PrintLines, ReadText, SpoolArrival, SpoolDeck, SpoolOutputs}
use Rattle.step_turns.specs.declared.states.State.TheVariants.{Away, Fresh, Rested, Told}
use Rattle.step_turns.specs.declared.states.Task.TheVariants.{Deck, Give, Line, Work}
use Rattle.member_sittings.specs.Tight.{IfNoWork}
use Rattle.member_hand.specs.Hears.{HearsIn, HearsStep, ReaderStaysFrom, ReaderStaysIn, TakesNothing}
use Rattle.member_hand.specs.Found.{Wait}
use Rattle.member_hand.specs.Plays.{IfCommand, IfNoPrint}
use Rattle.member_hand.specs.Sits.{AreFewUnits, ComesTo, IsLineTask, IsWork}

pub if_all : (s : State) (A : Type 0) → A → IfNoWork s A
if_all (Fresh (Give c)) A a = a
if_all (Fresh (Deck fields text)) A a = a
if_all (Fresh (Work n)) A a = tt
if_all (Fresh (Line l)) A a = tt
if_all (Away (SpoolDeck n text)) A a = a
if_all (Away (ReadText runs n fields p)) A a = tt
if_all (Away (SpoolOutputs n specs p)) A a = tt
if_all (Away (PrintLines n i last p)) A a = tt
if_all (Away (Exchange l offer)) A a = tt
if_all (Away (SpoolArrival number job cards service)) A a = tt
if_all (Away (Acknowledge number service)) A a = tt
if_all (Rested p) A a = tt
if_all Told A a = a

pub if_map : (s : State) (A B : Type 0) → (A → B) → IfNoWork s A → IfNoWork s B
if_map (Fresh (Give c)) A B f a = f a
if_map (Fresh (Deck fields text)) A B f a = f a
if_map (Fresh (Work n)) A B f a = tt
if_map (Fresh (Line l)) A B f a = tt
if_map (Away (SpoolDeck n text)) A B f a = f a
if_map (Away (ReadText runs n fields p)) A B f a = tt
if_map (Away (SpoolOutputs n specs p)) A B f a = tt
if_map (Away (PrintLines n i last p)) A B f a = tt
if_map (Away (Exchange l offer)) A B f a = tt
if_map (Away (SpoolArrival number job cards service)) A B f a = tt
if_map (Away (Acknowledge number service)) A B f a = tt
if_map (Rested p) A B f a = tt
if_map Told A B f a = f a

-- asked of a command's step
pub if_still : (s : State) (A : Type 0) → A → IfCommand s A
if_still (Fresh (Give c)) A a = a
if_still (Fresh (Deck fields text)) A a = tt
if_still (Fresh (Work n)) A a = tt
if_still (Fresh (Line l)) A a = tt
if_still (Away aside) A a = tt
if_still (Rested p) A a = tt
if_still Told A a = a

-- ASKED OF A STEP THAT DOESN'T WORK, and so of each state that it comes to

pub if_silent : (s : State) (A : Type 0) → ((IsWork s → ⊥) → A) → IfNoPrint s A
if_silent (Fresh (Give c)) A f = f (λ w. w)
if_silent (Fresh (Deck fields text)) A f = f (λ w. w)
if_silent (Fresh (Work n)) A f = tt
if_silent (Fresh (Line l)) A f = f (λ w. w)
if_silent (Away (SpoolDeck n text)) A f = f (λ w. w)
if_silent (Away (ReadText runs n fields p)) A f = tt
if_silent (Away (SpoolOutputs n specs p)) A f = tt
if_silent (Away (PrintLines n i last p)) A f = tt
if_silent (Away (Exchange l offer)) A f = f (λ w. w)
if_silent (Away (SpoolArrival number n text s)) A f = f (λ w. w)
if_silent (Away (Acknowledge number s)) A f = f (λ w. w)
if_silent (Rested p) A f = tt
if_silent Told A f = f (λ w. w)

pub of_silent : (s : State) (A : Type 0) → (IsWork s → ⊥) → IfNoPrint s A → A
of_silent (Fresh (Give c)) A off a = a
of_silent (Fresh (Deck fields text)) A off a = a
of_silent (Fresh (Work n)) A off a = absurd (off tt)
of_silent (Fresh (Line l)) A off a = a
of_silent (Away (SpoolDeck n text)) A off a = a
of_silent (Away (ReadText runs n fields p)) A off a = absurd (off tt)
of_silent (Away (SpoolOutputs n specs p)) A off a = absurd (off tt)
of_silent (Away (PrintLines n i last p)) A off a = absurd (off tt)
of_silent (Away (Exchange l offer)) A off a = a
of_silent (Away (SpoolArrival number n text s)) A off a = a
of_silent (Away (Acknowledge number s)) A off a = a
of_silent (Rested p) A off a = absurd (off tt)
of_silent Told A off a = a

pub still_silent : (s n : State) → ComesTo s n → (IsWork s → ⊥) → IsWork n → ⊥
still_silent s Told comes off = λ w. w
still_silent s (Fresh task) comes off = absurd comes
still_silent s (Rested p) comes off = absurd (off comes)
still_silent s (Away (SpoolDeck n text)) comes off = λ w. w
still_silent s (Away (ReadText runs n fields p)) comes off = absurd (off comes)
still_silent s (Away (SpoolOutputs n specs p)) comes off = absurd (off comes)
still_silent s (Away (PrintLines n i last p)) comes off = absurd (off comes)
still_silent s (Away (Exchange l offer)) comes off = λ w. w
still_silent s (Away (SpoolArrival number n text service)) comes off = λ w. w
still_silent s (Away (Acknowledge number service)) comes off = λ w. w

pub both_silent : (s n : State) (A B D : Type 0) → ComesTo s n → (A → B → D) → IfNoPrint s A → IfNoPrint n B → IfNoPrint s D
both_silent s n A B D comes f a b = if_silent s D (λ off. f (of_silent s A off a) (of_silent n B (still_silent s n comes off) b))

-- THE UNITS OF WORK

few_working : (s : State) → IsWork s → AreFewUnits s → units_done s + units_left s ≤ units_most
few_working (Fresh (Work n)) w few = few
few_working (Away (ReadText runs n fields p)) w few = few
few_working (Away (SpoolOutputs n specs p)) w few = few
few_working (Away (PrintLines n i last p)) w few = few
few_working (Rested p) w few = few
few_working (Fresh (Give c)) w few = absurd w
few_working (Fresh (Deck fields text)) w few = absurd w
few_working (Fresh (Line l)) w few = absurd w
few_working (Away (SpoolDeck n text)) w few = absurd w
few_working (Away (Exchange l offer)) w few = absurd w
few_working (Away (SpoolArrival number n text s)) w few = absurd w
few_working (Away (Acknowledge number s)) w few = absurd w
few_working Told w few = absurd w

pub few_after : (s n : State) → ComesTo s n → units_done n + units_left n ≤ units_done s + units_left s → AreFewUnits s → AreFewUnits n
few_after s Told comes le few = omega arith
few_after s (Fresh task) comes le few = absurd comes
few_after s (Rested p) comes le few = let most = few_working s comes few in omega (arith, le, most)
few_after s (Away (SpoolDeck n text)) comes le few = omega arith
few_after s (Away (ReadText runs n fields p)) comes le few = let most = few_working s comes few in omega (arith, le, most)
few_after s (Away (SpoolOutputs n specs p)) comes le few = let most = few_working s comes few in omega (arith, le, most)
few_after s (Away (PrintLines n i last p)) comes le few = let most = few_working s comes few in omega (arith, le, most)
few_after s (Away (Exchange l offer)) comes le few = tt
few_after s (Away (SpoolArrival number n text service)) comes le few = tt
few_after s (Away (Acknowledge number service)) comes le few = tt

-- THE EXCHANGE of a step that serves a line: it waits for it once it has begun, and for none later

abbrev pub IsExchange : State → Type 0
IsExchange (Away (Exchange l offer)) = Unit {0}
IsExchange _ = ⊥

pub no_exchange : (s n : State) → ComesTo s n → (IsLineTask s → ⊥) → IsExchange n → ⊥
no_exchange s Told comes off = λ w. w
no_exchange s (Fresh task) comes off = λ w. w
no_exchange s (Rested p) comes off = λ w. w
no_exchange s (Away (SpoolDeck n text)) comes off = λ w. w
no_exchange s (Away (ReadText runs n fields p)) comes off = λ w. w
no_exchange s (Away (SpoolOutputs n specs p)) comes off = λ w. w
no_exchange s (Away (PrintLines n i last p)) comes off = λ w. w
no_exchange s (Away (Exchange l offer)) comes off = λ w. off comes
no_exchange s (Away (SpoolArrival number n text service)) comes off = λ w. w
no_exchange s (Away (Acknowledge number service)) comes off = λ w. w

pub no_task : (s n : State) → ComesTo s n → IsLineTask n → ⊥
no_task s (Fresh task) comes w = comes
no_task s Told comes w = w
no_task s (Rested p) comes w = w
no_task s (Away aside) comes w = w

-- what is asked of one that serves no line, or has begun
pub stays_from : (s : State) (was is : Option (List ℕ)) → ((IsLineTask s → ⊥) → is ≡ was) → ReaderStaysFrom s was is
stays_from (Fresh (Give c)) was is f = f (λ w. w)
stays_from (Fresh (Deck fields text)) was is f = f (λ w. w)
stays_from (Fresh (Work n)) was is f = f (λ w. w)
stays_from (Fresh (Line l)) was is f = tt
stays_from (Away aside) was is f = f (λ w. w)
stays_from (Rested p) was is f = f (λ w. w)
stays_from Told was is f = f (λ w. w)

pub of_stays_from : (s : State) (was is : Option (List ℕ)) → (IsLineTask s → ⊥) → ReaderStaysFrom s was is → is ≡ was
of_stays_from (Fresh (Give c)) was is off same = same
of_stays_from (Fresh (Deck fields text)) was is off same = same
of_stays_from (Fresh (Work n)) was is off same = same
of_stays_from (Fresh (Line l)) was is off same = absurd (off tt)
of_stays_from (Away aside) was is off same = same
of_stays_from (Rested p) was is off same = same
of_stays_from Told was is off same = same

pub of_stays_in : (s : State) (was is : Option (List ℕ)) → (IsExchange s → ⊥) → ReaderStaysIn s was is → is ≡ was
of_stays_in (Fresh task) was is off same = same
of_stays_in (Away (SpoolDeck n text)) was is off same = same
of_stays_in (Away (ReadText runs n fields p)) was is off same = same
of_stays_in (Away (SpoolOutputs n specs p)) was is off same = same
of_stays_in (Away (PrintLines n i last p)) was is off same = same
of_stays_in (Away (Exchange l offer)) was is off same = absurd (off tt)
of_stays_in (Away (SpoolArrival number n text service)) was is off same = same
of_stays_in (Away (Acknowledge number service)) was is off same = same
of_stays_in (Rested p) was is off same = same
of_stays_in Told was is off same = same

module _ (by : MemberId) (old new : View) (was is : Option (List ℕ)) where
  pub of_hears_in : (s : State) (found : Found) → (IsExchange s → ⊥) → HearsIn by old new was is s found → TakesNothing old new
  of_hears_in (Fresh task) found off h = h
  of_hears_in (Away (SpoolDeck n text)) found off h = h
  of_hears_in (Away (ReadText runs n fields p)) found off h = h
  of_hears_in (Away (SpoolOutputs n specs p)) found off h = h
  of_hears_in (Away (PrintLines n i last p)) found off h = h
  of_hears_in (Away (Exchange l offer)) found off h = absurd (off tt)
  of_hears_in (Away (SpoolArrival number n text service)) found off h = h
  of_hears_in (Away (Acknowledge number service)) found off h = h
  of_hears_in (Rested p) found off h = h
  of_hears_in Told found off h = h

  pub of_hears_step : (s : State) (r : Result (Unit {0}) NodeNo) (finds : Finds) (ws : List Wait) → (IsLineTask s → ⊥) → HearsStep by old new was is s r finds ws → TakesNothing old new
  of_hears_step (Fresh (Give c)) r finds ws off h = h
  of_hears_step (Fresh (Deck fields text)) r finds ws off h = h
  of_hears_step (Fresh (Work n)) r finds ws off h = h
  of_hears_step (Fresh (Line l)) r finds ws off h = absurd (off tt)
  of_hears_step (Away aside) r finds ws off h = h
  of_hears_step (Rested p) r finds ws off h = h
  of_hears_step Told r finds ws off h = h

  -- by what was heard at the first place where the step waited
  pub hears_first : (s : State) (r : Result (Unit {0}) NodeNo) (finds : Finds) (w : Wait) (ws : List Wait) → (IsLineTask s → HearsIn by old new was is w.state (finds w.queue w.state)) → ((IsLineTask s → ⊥) → TakesNothing old new)
      → HearsStep by old new was is s r finds (w ∷ ws)
  hears_first (Fresh (Give c)) r finds w ws first else_none = else_none (λ k. k)
  hears_first (Fresh (Deck fields text)) r finds w ws first else_none = else_none (λ k. k)
  hears_first (Fresh (Work n)) r finds w ws first else_none = else_none (λ k. k)
  hears_first (Fresh (Line l)) r finds w ws first else_none = first tt
  hears_first (Away aside) r finds w ws first else_none = else_none (λ k. k)
  hears_first (Rested p) r finds w ws first else_none = else_none (λ k. k)
  hears_first Told r finds w ws first else_none = else_none (λ k. k)

  -- of a step that ended with an error before it waited anywhere
  pub hears_early : (s : State) (e : NodeNo) (finds : Finds) → ((IsLineTask s → ⊥) → TakesNothing old new) → HearsStep by old new was is s (Err e) finds []
  hears_early (Fresh (Give c)) e finds else_none = else_none (λ k. k)
  hears_early (Fresh (Deck fields text)) e finds else_none = else_none (λ k. k)
  hears_early (Fresh (Work n)) e finds else_none = else_none (λ k. k)
  hears_early (Fresh (Line l)) e finds else_none = tt
  hears_early (Away aside) e finds else_none = else_none (λ k. k)
  hears_early (Rested p) e finds else_none = else_none (λ k. k)
  hears_early Told e finds else_none = else_none (λ k. k)
