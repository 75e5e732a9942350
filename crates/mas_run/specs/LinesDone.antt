-- What a line of a script leaves of the shared value and its members, for every answer.
use Rattle.mas_run.specs.Names.{MemberId, Book, is_stopped, PlantGhosts, Ghosts as CopyGhosts, SteadyGhosts, Ask, Step, Complex, NodeNo, BetweenLines, LeftBetween}
use Rattle.std.specs.Prelude.{◌≡◌, ◌⊎◌, ℕ, ◌+◌, Bool, false, List, Result, Ok, Err, OnOk}
use Rattle.member_node.specs.declared.member.Member.{Member}
use Rattle.member_node.specs.declared.member.NodeNo.TheVariants as no_node
use Rattle.mas_run.specs.Copies.{CopiesKept}
use Rattle.mas_run.specs.LinesLeft.{LineIsLeft}
use Rattle.mas_run.specs.LinesPlayed.{Known, PlayedLine, line_by}

-- who is up in a later book was up before
abbrev pub AreUpSince : Book → Book → Type 0
AreUpSince was now = (m : MemberId) → is_stopped now m ≡ false → is_stopped was m ≡ false

module _ {P C : Type 0} {plants : PlantGhosts P} {steadies : SteadyGhosts C} {copies : CopyGhosts C} where
  -- A line of a member. Where its member was halted it is stopped in the book, nothing was said of that yet, and what
  -- it had reserved is still to be given up.
  pub record LineDone (x y : Complex P C plants steadies copies) (ms : List Member) (at : ℕ) (by : MemberId)
      (what : Ask) (r : Result (Unit {0}) NodeNo) : Type 0 where
    pub base : y.base ≡ x.base
    pub since : y.since ≡ x.since
    pub line : (all : Bool) → (Known all → plants.tells) → LineIsLeft (Known all) at (line_by by what) x y r
    pub copies_kept : CopiesKept x y r
    pub next : OnOk r (BetweenLines y ms (at + 1))
    pub halted : r ≡ Err no_node.Halted → LeftBetween y ms (at + 1)
    -- who is up then was up before, and its member only where it wasn't halted
    pub up : (r ≡ Ok tt) ⊎ (r ≡ Err no_node.Halted)
        → AreUpSince x.book y.book × (is_stopped y.book by ≡ false → r ≡ Ok tt)

  -- any line, once the operator said that its member was stopped, if it was
  pub record LineIsPlayed (x y : Complex P C plants steadies copies) (ms : List Member) (at : ℕ) (step : Step)
      (r : Result (Unit {0}) NodeNo) : Type 0 where
    pub base : y.base ≡ x.base
    pub since : y.since ≡ x.since
    pub line : (all : Bool) → (Known all → plants.tells) → PlayedLine (Known all) at step x y r
    pub kept : CopiesKept x y r
    pub next : OnOk r (BetweenLines y ms (at + 1))
