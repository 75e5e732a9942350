-- A step as a chain of turns at a shared value: in each turn the member plays a piece of its step, and between two
-- turns others may have had the value.
use Rattle.std.specs.Prelude.{◌≡◌, ◌⊎◌, ℕ, Bool, List, [], ◌∷◌, Option, Result, Ok, Err, IfSome}
use Rattle.spool_plant.specs.declared.plant.Plant.{Ghosts as PlantGhosts}
use Rattle.ckpt_copy.specs.declared.copying.Copying.{Ghosts as CopyGhosts}
use Rattle.ckpt_form.specs.declared.steady.Steady.{Ghosts as SteadyGhosts}
use Rattle.mas_complex.specs.declared.complex.Complex.{Complex}
use Rattle.mas_complex.specs.Parts.{parts_of, shown_of}
use Rattle.gate_turns.specs.Shared.{facts_of}
use Rattle.gate_turns.specs.Turning.{MayHandBack, OfEach}
use Rattle.member_node.specs.declared.member.Member.{Member}
use Rattle.member_node.specs.declared.member.NodeNo.{NodeNo}
use Rattle.step_turns.specs.States.{nothing_found}
use Rattle.step_turns.specs.declared.states.Holder.{Holder}
use Rattle.step_turns.specs.declared.states.State.TheVariants.{Fresh, Told}
use Rattle.step_turns.specs.declared.states.Task.{Task}
use Rattle.member_hand.specs.Plays.{IsAfterPiece, MayPlay, Pieced, Played, played_in}
use Rattle.member_hand.specs.Sits.{start_of}
use Rattle.member_hand.specs.declared.sits.Stand.{Stand}

-- a member between two turns, where its step stands then, and what the reader of its line is
pub record Pause : Type 0 where
  pub member : Member
  pub stand : Stand
  pub reader : Option (List ℕ)

-- a member that begins a task
abbrev pub begun : Member → Holder → Task → Option (List ℕ) → Pause
begun m h task reader = record {
  member = m;
  stand = record { holder = h; state = Fresh task; found = nothing_found };
  reader = reader;
}

-- a turn: the value as it was found and as it was left, and the member after it
pub record Turn (A : Type 0) : Type 0 where
  pub found : A
  pub left : A
  pub after : Pause

-- the turn in which the step ends
pub record End (A : Type 0) : Type 0 where
  pub found : A
  pub left : A
  pub member : Member
  pub reader : Option (List ℕ)

abbrev pub turn_to : {A : Type 0} → End A → Stand → Turn A
turn_to e at = record {
  found = e.found;
  left = e.left;
  after = record { member = e.member; stand = at; reader = e.reader };
}

module _ {P C : Type 0} {plants : PlantGhosts P} {steadies : SteadyGhosts C} {copies : CopyGhosts C} where
  -- THE TURNS

  -- the member plays a whole piece in the turn
  pub record PlaysPiece (p : Pause) (t : Turn (Complex P C plants steadies copies)) : Type 0 where
    pub frame : parts_of t.left ≡ played_in (parts_of t.left) (parts_of t.found)
    pub id : t.after.member.id ≡ p.member.id
    pub piece : Pieced t.found t.left (start_of p.stand) p.reader t.after.reader t.after.stand
    pub next : IsAfterPiece t.found t.left p.member t.after.member (start_of p.stand) t.after.stand

  -- its step ends with an error in the turn
  pub record BreaksOff (p : Pause) (e : End (Complex P C plants steadies copies)) (why : NodeNo) : Type 0 where
    pub frame : parts_of e.left ≡ played_in (parts_of e.left) (parts_of e.found)
    pub id : e.member.id ≡ p.member.id
    pub played : Played e.found e.left p.member (start_of p.stand) p.reader e.reader (Err why)

  -- the step ends so: it is told in a last piece, or breaks off
  abbrev pub EndsStep : Pause → End (Complex P C plants steadies copies) → Result (Unit {0}) NodeNo → Type 0
  EndsStep p e (Ok done) = (at : Stand) × PlaysPiece p (turn_to e at) × (at.state ≡ Told)
  EndsStep p e (Err why) = BreaksOff p e why

  -- THE CHAIN

  module _ (follows : Complex P C plants steadies copies → Complex P C plants steadies copies → Type 0) where
    -- Whole pieces, and the end. The first turn finds a value that may be found, and each other one a value that
    -- follows the one that the turn before it left.
    abbrev pub TakesTurns : (Complex P C plants steadies copies → Type 0) → Pause
        → List (Turn (Complex P C plants steadies copies)) → End (Complex P C plants steadies copies)
        → Result (Unit {0}) NodeNo → Type 0
    TakesTurns finds p [] e r = finds e.found × EndsStep p e r
    TakesTurns finds p (t ∷ ts) e r = finds t.found × PlaysPiece p t × TakesTurns (follows t.left) t.after ts e r

    -- The member has played its step so. What may be found next follows the value that it left.
    pub record HasTakenTurns (finds then_finds : Complex P C plants steadies copies → Type 0) (p : Pause) (n : Member)
        (reader : Option (List ℕ)) (r : Result (Unit {0}) NodeNo) : Type 0 where
      pub turns : List (Turn (Complex P C plants steadies copies))
      pub found : Complex P C plants steadies copies
      pub left : Complex P C plants steadies copies
      pub chain : TakesTurns finds p turns (record { found = found; left = left; member = n; reader = reader }) r
      pub leaves : OfEach then_finds (follows left)

  -- WHAT IT NEEDS

  -- one that is bound to a member may hand this back, which found that
  abbrev pub MayLeave : (Complex P C plants steadies copies → Type 0) → Option ℕ → (Bool → List Bool)
      → Complex P C plants steadies copies → Complex P C plants steadies copies → Type 0
  MayLeave rests bound cares x y =
      IfSome bound (λ m. MayHandBack plants.tells (rests y) m cares (λ told. facts_of told (shown_of x)) (shown_of y))

  -- A member may play its step in turns: it may play a piece on each value that may be found first, and on each that
  -- may follow a value that it left so that it may go on; and what a turn of it leaves may be handed back.
  pub record MayTakeTurns (finds : Complex P C plants steadies copies → Type 0)
      (follows : Complex P C plants steadies copies → Complex P C plants steadies copies → Type 0)
      (rests : Complex P C plants steadies copies → Type 0) (bound : Option ℕ)
      (cares : Bool → List Bool) (p : Pause) : Type 0 where
    pub first : OfEach finds (λ x. MayPlay x p.member (start_of p.stand))
    pub next : (x y : Complex P C plants steadies copies) (q : Pause) → q.member.id ≡ p.member.id → follows x y
        → MayPlay x q.member (start_of q.stand) → MayPlay y q.member (start_of q.stand)
    pub whole : (q : Pause) (t : Turn (Complex P C plants steadies copies)) → q.member.id ≡ p.member.id
        → (finds t.found ⊎ ((x : Complex P C plants steadies copies) × follows x t.found))
        → MayPlay t.found q.member (start_of q.stand) → PlaysPiece q t → MayLeave rests bound cares t.found t.left
    pub broken : (q : Pause) (e : End (Complex P C plants steadies copies)) (why : NodeNo)
        → q.member.id ≡ p.member.id
        → (finds e.found ⊎ ((x : Complex P C plants steadies copies) × follows x e.found))
        → MayPlay e.found q.member (start_of q.stand) → BreaksOff q e why → MayLeave rests bound cares e.found e.left
