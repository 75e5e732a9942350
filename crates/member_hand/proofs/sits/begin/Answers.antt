use Rattle.std.proofs.Common.{refl, arith}
use Rattle.mas_complex.specs.Parts.{parts_of}
use Rattle.step_turns.specs.declared.states.Task.TheVariants.{Deck, Give, Line, Work}
use Rattle.member_hand.specs.Sits.{begins}
use Rattle.member_hand.proofs.Leaving.{both, deck_leaves, load_all, told_leaves, work_all}
use Rattle.member_hand.proofs.sits.begin.Goals as goal

-- A LINE

pub sit_load-requires-clause-line : goal.sit_load-requires-clause-line
sit_load-requires-clause-line g c = let right = rw c.in-Line.is at c.requires.right in right.0

pub returns-in-Line-clause-sat : goal.returns-in-Line-clause-sat
returns-in-Line-clause-sat g c = rw c.in-Line.is c.sit_load.ensures.sat

pub returns-in-Line-clause-again : goal.returns-in-Line-clause-again
returns-in-Line-clause-again g c =
    let x = parts_of c.args.complex.now in
    let y = parts_of c.sit_load.new.complex in
    let e = c.sit_load.ensures in
    rw c.in-Line.is (load_all g.P.Plant g.C.Copying x y c.args.member.now c.sit_load.new.member (begins c.args.holder (Line c.in-Line.line)) tt refl (omega arith) c.sit_load.result tt (λ t says. says.0) e.sat e.again e.waits)

-- A COMMAND

pub sit_command-requires-clause-givable : goal.sit_command-requires-clause-givable
sit_command-requires-clause-givable g c = let right = rw c.in-Give.is at c.requires.right in right.0

pub returns-in-Give-clause-sat : goal.returns-in-Give-clause-sat
returns-in-Give-clause-sat g c = rw c.in-Give.is c.sit_command.ensures.sat

pub returns-in-Give-clause-again : goal.returns-in-Give-clause-again
returns-in-Give-clause-again g c =
    let x = parts_of c.args.complex.now in
    let y = parts_of c.sit_command.new.complex in
    rw c.in-Give.is (both c.sit_command.result _ _ _
    (λ e on told. told_leaves g.P.Plant g.C.Copying x y c.args.member.now c.sit_command.new.member (begins c.args.holder (Give c.in-Give.command)) e (omega arith) on told)
    c.sit_command.ensures.again c.sit_command.ensures.goes)

-- A DECK

pub sit_deck-requires-clause-deck : goal.sit_deck-requires-clause-deck
sit_deck-requires-clause-deck g c = let right = rw c.in-Deck.is at c.requires.right in record { fields = right.0.0; text = right.0.1 }

pub returns-in-Deck-clause-sat : goal.returns-in-Deck-clause-sat
returns-in-Deck-clause-sat g c = rw c.in-Deck.is c.sit_deck.ensures.sat

pub returns-in-Deck-clause-again : goal.returns-in-Deck-clause-again
returns-in-Deck-clause-again g c =
    let x = parts_of c.args.complex.now in
    let y = parts_of c.sit_deck.new.complex in
    rw c.in-Deck.is (both c.sit_deck.result _ _ _
    (λ e on waits. deck_leaves g.P.Plant g.C.Copying x y c.args.member.now c.sit_deck.new.member (begins c.args.holder (Deck c.in-Deck.fields c.in-Deck.text)) e tt refl refl refl on waits)
    c.sit_deck.ensures.again c.sit_deck.ensures.goes)

-- WORK

pub sit_work-requires-clause-level : goal.sit_work-requires-clause-level
sit_work-requires-clause-level g c = let level = rw c.in-Work.is at c.requires.level in omega (arith, level)

pub sit_work-requires-clause-units : goal.sit_work-requires-clause-units
sit_work-requires-clause-units g c = let few = rw c.in-Work.is at c.requires.few in omega (arith, few)

pub returns-in-Work-clause-sat : goal.returns-in-Work-clause-sat
returns-in-Work-clause-sat g c = rw c.in-Work.is (c.sit_work.ensures.fresh _ refl refl)

pub returns-in-Work-clause-again : goal.returns-in-Work-clause-again
returns-in-Work-clause-again g c =
    let x = parts_of c.args.complex.now in
    let y = parts_of c.sit_work.new.complex in
    let e = c.sit_work.ensures in
    rw c.in-Work.is (work_all g.P.Plant g.C.Copying x y c.args.member.now c.sit_work.new.member (begins c.args.holder (Work c.in-Work.units)) c.sit_work.result tt e.leaves)
