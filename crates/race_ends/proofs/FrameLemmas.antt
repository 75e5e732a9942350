-- A value of which only the plant has changed.
use Rattle.std.proofs.Common.{◌≡◌, ◌∙◌, ap}
use Rattle.spool_plant.specs.declared.plant.Plant.{Ghosts as PlantGhosts}
use Rattle.ckpt_copy.specs.declared.copying.Copying.{Ghosts as CopyGhosts}
use Rattle.ckpt_form.specs.declared.steady.Steady.{Ghosts as SteadyGhosts}
use Rattle.mas_complex.specs.declared.complex.Complex.{Complex}
use Rattle.mas_complex.specs.Parts.{Parts, parts_of}
use Rattle.member_lines.specs.Sat.{journal_of}

module _ {P C : Type 0} {plants : PlantGhosts P} {steadies : SteadyGhosts C} {copies : CopyGhosts C} (x y : Complex P C plants steadies copies)
    (frame : parts_of y ≡ record (parts_of x) { plant = y.plant }) where
  pub base_on : y.base ≡ x.base
  base_on = ap (λ (z : Parts P C). z.base) frame

  pub since_on : y.since ≡ x.since
  since_on = ap (λ (z : Parts P C). z.since) frame

  pub renewals_on : y.renewals ≡ x.renewals
  renewals_on = ap (λ (z : Parts P C). z.renewals) frame

  pub journal_on : journal_of (parts_of y) ≡ journal_of (parts_of x)
  journal_on = ap (λ (z : Parts P C). journal_of z) frame

  -- and of a later one
  pub frame_on : (z : Complex P C plants steadies copies) → parts_of z ≡ record (parts_of y) { plant = z.plant } → parts_of z ≡ record (parts_of x) { plant = z.plant }
  frame_on z next = next ∙ ap (λ (q : Parts P C). let r : Parts P C = record q { plant = z.plant } in r) frame
