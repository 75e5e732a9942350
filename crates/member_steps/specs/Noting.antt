-- The pages that members noted in the shared value, after a call of one of them.
use Rattle.std.specs.Prelude.{◌≡◌, ◌≢◌, ℕ, false, List, slice_get, Result, OnOk}
use Rattle.mas_types.specs.declared.ids.MemberId.{MemberId}
use Rattle.mas_types.specs.declared.ids.Page.{Page}
use Rattle.spool_plant.specs.declared.plant.Plant.{Ghosts as PlantGhosts}
use Rattle.ckpt_copy.specs.declared.copying.Copying.{Ghosts as CopyGhosts}
use Rattle.mas_complex.specs.Steady.{Ghosts as SteadyGhosts}
use Rattle.mas_complex.specs.declared.complex.Complex.{Complex}
use Rattle.mas_complex.specs.Past.{values_of}
pub use Rattle.member_node.specs.declared.member.Member.{Member}
use Rattle.member_node.specs.declared.member.NodeNo.{NodeNo}
use Rattle.member_node.specs.Wanted.{HasHad}

-- what each other member noted is as it was
abbrev pub OtherNotesStay : MemberId → List (List Page) → List (List Page) → Type 0
OtherNotesStay by was is = (m : ℕ) → m ≢ by.0 → slice_get is m ≡ slice_get was m

-- A call of a member, by what was noted before it and after it. Nobody else's note differs, whatever the answer. Where
-- it ends well a member that had the pages that it noted has those that it noted last, and one that has read pages
-- knows that it has.
pub record KeepsOwnNotes {T : Type 0} (tells : Type 0) (was is : List (List Page)) (m n : Member)
    (result : Result T NodeNo) : Type 0 where
  pub own : OnOk result (HasHad tells m.fresh was m.id.0 m.checkpoint.pages
      → HasHad tells n.fresh is n.id.0 n.checkpoint.pages)
  pub read : OnOk result (m.fresh ≡ false → n.fresh ≡ false)
  pub others : OtherNotesStay m.id was is

-- OVER THE SHARED VALUE

module _ {P C : Type 0} {plants : PlantGhosts P} {steadies : SteadyGhosts C} {copies : CopyGhosts C} where
  -- a member has the pages that it noted, if it has read any
  abbrev pub HasNotes : Complex P C plants steadies copies → Member → Type 0
  HasNotes x m = HasHad plants.tells m.fresh (values_of x.had) m.id.0 m.checkpoint.pages

  abbrev pub KeepsNotes : {T : Type 0} → Complex P C plants steadies copies → Complex P C plants steadies copies
      → Member → Member → Result T NodeNo → Type 0
  KeepsNotes x y m n result = KeepsOwnNotes plants.tells (values_of x.had) (values_of y.had) m n result

  abbrev pub LeavesNotes : MemberId → Complex P C plants steadies copies → Complex P C plants steadies copies → Type 0
  LeavesNotes by x y = OtherNotesStay by (values_of x.had) (values_of y.had)
