-- A script that several members play, by the pieces that its lines gave. What a line leaves follows from these alone; a
-- plant that tells nothing may give other ones than its queue would.
use Rattle.std.specs.Prelude.{◌≡◌, ℕ, ◌+◌, Bool, true, false, List, [], ◌∷◌, drop, get_or, map, Option, None}
use Rattle.mas_types.specs.declared.ids.MemberId.{MemberId}
use Rattle.mas_types.specs.declared.journals.Entry.{Entry}
use Rattle.mas_types.specs.declared.queues.Queue.{Queue}
use Rattle.script_lang.specs.declared.types.Ask.{Ask}
use Rattle.script_lang.specs.declared.types.Ask.TheVariants as ask
use Rattle.script_lang.specs.declared.types.Step.{Step}
use Rattle.run_turns.specs.Sights.{Cut, Sight, clear}
use Rattle.run_turns.specs.Scenes.{Scene, flight_found, queue_found}
use Rattle.run_turns.specs.Admissions.{Admission, admitted, tried}
use Rattle.run_turns.specs.Pieces.{Piece, Play, fate_found, is_locked, pieces_found, pieces_of, sayer_of}
use Rattle.run_turns.specs.Cuts.{left_by}
use Rattle.run_turns.specs.Steps.{Outcome, Played, arm, cause_of, lose, outcome_of, run_goes_on, scene_left, stop}
use Rattle.run_turns.specs.Runs.{outcomes_from, outcomes_if, scene_after, scene_if}

-- what a line found, and the pieces that it gave
pub record Given : Type 0 where
  pub sight : Sight
  pub pieces : List Piece

-- A LINE OF A MEMBER

-- the queue and the batch in flight as the line finds them
abbrev pub queue_met : Scene → Admission → Sight → Queue
queue_met S a sight = queue_found (fate_found a sight) S.flight S.queue

abbrev pub flight_met : Scene → Admission → Sight → Option (List Entry)
flight_met S a sight = flight_found (fate_found a sight) S.flight

abbrev pub play_with : Scene → MemberId → Admission → Given → Play
play_with S by a g = record {
  sayer = sayer_of by a;
  pieces = pieces_found (is_locked a) (flight_met S a g.sight) g.pieces;
  book = tried S.book by a;
  locked = is_locked a;
  queue = queue_met S a g.sight;
  flight = flight_met S a g.sight;
}

abbrev pub played_with : Scene → MemberId → ℕ → Admission → Given → Played
played_with S by at a g =
    let play = play_with S by a g in
    let l = left_by by g.sight.cut play (S.counts by) in
    record {
      outcome = outcome_of by at (fate_found a g.sight) play (cause_of g.sight.cut) l;
      next = scene_left S by play l;
      goes_on = run_goes_on (cause_of g.sight.cut);
    }

-- A LINE: a stop, one that is armed, and the loss of a device find nothing and give nothing

abbrev pub ask_with : Scene → MemberId → ℕ → Given → Ask → Played
ask_with S by at g ask.Stop = stop S by
ask_with S by at g (ask.StopIn what n) = arm S by what n
ask_with S by at g (ask.Lose dev) = lose S dev
ask_with S by at g what = played_with S by at (admitted S.queue.config S.book by what) g

abbrev pub line_with : Scene → ℕ → Given → Step → Played
line_with S at g step = ask_with S step.by at g step.what

-- the pieces are those that the queue gives, by what the line found
abbrev pub ArePiecesOf : Scene → MemberId → ℕ → Admission → Given → Type 0
ArePiecesOf S by at a g = g.pieces ≡ pieces_of S by at g.sight (queue_met S a g.sight) a

abbrev pub IsAskRight : Scene → MemberId → ℕ → Given → Ask → Type 0
IsAskRight S by at g ask.Stop = Unit {0}
IsAskRight S by at g (ask.StopIn what n) = Unit {0}
IsAskRight S by at g (ask.Lose dev) = Unit {0}
IsAskRight S by at g what = ArePiecesOf S by at (admitted S.queue.config S.book by what) g

abbrev pub IsRight : Scene → ℕ → Given → Step → Type 0
IsRight S at g step = IsAskRight S step.by at g step.what

-- LINES ONE AFTER ANOTHER, up to one that ends the run; those after the end of a list gave nothing

abbrev pub none_given : Given
none_given = record { sight = clear; pieces = [] }

abbrev pub given_first : List Given → Given
given_first gs = get_or gs 0 none_given

abbrev pub outcomes_with : Scene → ℕ → List Given → List Step → List Outcome
outcomes_with S at gs [] = []
outcomes_with S at gs (step ∷ steps) =
    let p = line_with S at (given_first gs) step in
    p.outcome ∷ outcomes_if p.goes_on (outcomes_with p.next (at + 1) (drop 1 gs) steps)

abbrev pub scene_with : Scene → ℕ → List Given → List Step → Scene
scene_with S at gs [] = S
scene_with S at gs (step ∷ steps) =
    let p = line_with S at (given_first gs) step in
    scene_if p.goes_on (scene_with p.next (at + 1) (drop 1 gs) steps) p.next

-- where the line was cut that ended the run, if one did
abbrev pub cut_if : Bool → Option Cut → Option Cut → Option Cut
cut_if true later here = later
cut_if false later here = here

abbrev pub last_cut : Scene → ℕ → List Given → List Step → Option Cut
last_cut S at gs [] = None
last_cut S at gs (step ∷ steps) =
    let p = line_with S at (given_first gs) step in
    cut_if p.goes_on (last_cut p.next (at + 1) (drop 1 gs) steps) (given_first gs).sight.cut

-- the pieces of each line are those that its queue gives
abbrev pub RightIf : Bool → Type 0 → Type 0
RightIf true right = right
RightIf false right = Unit {0}

abbrev pub AreRight : Scene → ℕ → List Given → List Step → Type 0
AreRight S at gs [] = Unit {0}
AreRight S at gs (step ∷ steps) =
    let p = line_with S at (given_first gs) step in
    IsRight S at (given_first gs) step × RightIf p.goes_on (AreRight p.next (at + 1) (drop 1 gs) steps)

abbrev pub sights_of : List Given → List Sight
sights_of gs = map (λ g. g.sight) gs

-- Where the pieces are right the lines come to what the script says of them, by what they found.
abbrev pub RightLinesAreTheScript : Type 0
RightLinesAreTheScript = (S : Scene) (at : ℕ) (gs : List Given) (steps : List Step) → AreRight S at gs steps
    → (outcomes_with S at gs steps ≡ outcomes_from S at (sights_of gs) steps)
    × (scene_with S at gs steps ≡ scene_after S at (sights_of gs) steps)
