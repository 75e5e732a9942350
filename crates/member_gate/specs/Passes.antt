-- What clauses say of a gate and its passes.
use Rattle.std.specs.Prelude.{◌≡◌, ℕ}
use Rattle.member_gate.specs.declared.view.View.{View}
use Rattle.member_gate.specs.declared.pass.Gate.{Gate}
use Rattle.member_gate.specs.declared.pass.Pass.{Pass}

module _ {V : Type 0} where
  -- what the pass knows
  abbrev pub view : Pass V → View
  view p = p.seat.me.0

  abbrev pub IsPassOf : Gate V → Pass V → Type 0
  IsPassOf g p = p.seat.table_id ≡ g.table.shared.table_id

  abbrev pub members_of : Gate V → ℕ
  members_of g = g.members

-- what a turn leaves of a pass
pub record IsSame (v w : View) : Type 0 where
  pub root : w.root ≡ v.root
  pub member : w.member ≡ v.member
  pub cares : w.cares ≡ v.cares
  pub holds : w.holds ≡ v.holds
  pub given : w.given ≡ v.given
