-- The lines of a script, played one after another, up to one that ends the run.
use Rattle.mas_run.specs.Names.{Dev, Batch, Step, next, View, NodeNo, Armed, Scene, Outcome, Given, RightIf, given_first, line_with, fate_found, settle, Renewals}
use Rattle.std.specs.Prelude.{◌≡◌, ℕ, suc, ◌+◌, ◌≤◌, ◌==◌, Bool, true, false, if◌then◌else◌, List, [], ◌∷◌, ◌++◌, drop, Option, Result, Ok}
use Rattle.mas_run.specs.LinesAt.{LineAt, admitted_at, played_at}
use Rattle.mas_run.specs.Renewing.{RenewsAs}
use Rattle.mas_run.specs.Lines.{IsPassed, LeavesVolumes, LosesAs, Account, is_takeover, loses_then, taking, account_at}
use Rattle.mas_run.specs.Wires.{Carries}

-- what a plant showed, what the journal of the run had, when copies were replaced, and the scene, at a line of this
-- number, in a run whose first moment is this; and how a copy's bytes are read
pub record Here : Type 0 where
  pub reads : List ℕ → Option (List ℕ)
  pub since : ℕ
  pub number : ℕ
  pub scene : Scene
  pub batches : List Batch
  pub renewals : Renewals
  pub view : View

-- how it all ended
pub record There : Type 0 where
  pub batches : List Batch
  pub renewals : Renewals
  pub view : View
  pub answer : Result (Unit {0}) NodeNo

abbrev pub line_of : Here → Given → Step → LineAt
line_of h g step = record { scene = h.scene; number = h.number; step = step; given = g }

-- A line: with its own batches it was played up to what the plant shows now. What it found of a batch in flight is that
-- batch's fate since a moment of the line.
pub record IsNextBy (told : Type 0) (h : Here) (w : Account) (there : There) : Type 0 where
  pub own : List Batch
  pub passed : IsPassed told w own h.view there.view there.answer
  pub at : ℕ
  pub moment : (h.view.now ≤ at) × (at ≤ there.view.now)
  pub batches : there.batches ≡ settle w.played.outcome.found at h.batches ++ own
  -- what was lost by a call in it
  pub loses : told → LosesAs h.reads
      (taking (is_takeover (admitted_at w.line)) (fate_found (admitted_at w.line) w.line.given.sight))
      w.played.outcome.loses h.view there.view
  -- the copies that it replaced
  pub renews : RenewsAs (admitted_at w.line) w.line.given.sight.cut w.line.given.sight.renewed
      (record { renewals = h.renewals; view = h.view }) (record { renewals = there.renewals; view = there.view })
  -- the bytes that it gave and took on a line to another node
  pub wires : told → Carries h.since w.line (admitted_at w.line) w.played.outcome.given h.view there.view

abbrev pub IsNext : Type 0 → Here → Given → Step → There → Type 0
IsNext told h g step there = IsNextBy told h (account_at (line_of h g step)) there

abbrev pub here_after : Here → Given → Step → There → Here
here_after h g step there = record {
  reads = h.reads;
  since = h.since;
  number = h.number + 1;
  scene = (played_at (line_of h g step)).next;
  batches = there.batches;
  renewals = there.renewals;
  view = there.view;
}

-- the run goes on with the next line, or ends in this one
abbrev pub GoesOn : Bool → Type 0 → Type 0 → Type 0
GoesOn true more ends = more
GoesOn false more ends = ends

-- so many of them were played
abbrev pub ArePassed : Type 0 → Here → List Given → List Step → ℕ → There → Type 0
ArePassed told h gs [] many end = (end.batches ≡ h.batches) × (end.view ≡ h.view) × (end.answer ≡ Ok tt) × (many ≡ 0)
    × (end.renewals ≡ h.renewals)
ArePassed told h gs (step ∷ steps) many end =
    (there : There) × (more : ℕ) × (many ≡ suc more) × IsNext told h (given_first gs) step there
    × GoesOn (played_at (line_of h (given_first gs) step)).goes_on
    ((there.answer ≡ Ok tt) × ArePassed told (here_after h (given_first gs) step there) (drop 1 gs) steps more end)
    ((end ≡ there) × (more ≡ 0))

-- lines from here on, by what each gave
pub record Passed (told : Type 0) (h : Here) (steps : List Step) (many : ℕ) (end : There) : Type 0 where
  pub given : List Given
  pub are : ArePassed told h given steps many end

-- WHAT FOLLOWS of counts and volumes

-- how often a device was lost by a call, after lines that came to this; a takeover may have lost a copy besides
abbrev pub loses_after : Dev → List Outcome → ℕ → ℕ
loses_after d [] loses = loses
loses_after d (o ∷ os) loses = loses_after d os (loses_then o.loses d loses)

-- how often a stop of a member was armed, after the stops that a scene has, which had none at first
abbrev pub arms_after : ℕ → List Armed → ℕ → ℕ
arms_after m [] arms = arms
arms_after m (a ∷ more) arms = arms_after m more (if a.member.0 == m then next arms else arms)

-- each line that was played is so
abbrev pub AreEach : (LineAt → Type 0) → Scene → ℕ → List Given → List Step → Type 0
AreEach P S at gs [] = Unit {0}
AreEach P S at gs (step ∷ steps) =
    let g = given_first gs in
    P (record { scene = S; number = at; step = step; given = g })
    × RightIf (line_with S at g step).goes_on (AreEach P (line_with S at g step).next (at + 1) (drop 1 gs) steps)

-- each leaves the volumes as they are
abbrev pub LeaveVolumes : Scene → ℕ → List Given → List Step → Type 0
LeaveVolumes S at gs steps = AreEach LeavesVolumes S at gs steps

-- none takes the lock over
abbrev pub TakeNone : Scene → ℕ → List Given → List Step → Type 0
TakeNone S at gs steps = AreEach (λ (l : LineAt). is_takeover (admitted_at l) ≡ false) S at gs steps
