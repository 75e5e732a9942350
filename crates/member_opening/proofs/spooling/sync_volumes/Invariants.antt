use Rattle.std.proofs.Common.{◌≡◌, false, ◌≤◌, ℕ, Some, slice_get}
use Rattle.mas_types.specs.declared.ids.GroupNo.{GroupNo}
use Rattle.spool_volumes.specs.Volumes.{volume_of}
use Rattle.mas_complex.specs.Parts.{parts_of}
use Rattle.mas_complex.specs.Texts.{IsSynced, spools_at}
use Rattle.member_node.specs.Calls.{none_lost}
use Rattle.member_node.specs.Spares.{SparesBut}
use Rattle.member_decks.specs.Spooling.{AreQuiet, OnVolumes}
use Rattle.member_opening.proofs.spooling.sync_volumes.Given as goal

-- the groups on the volumes so far are synced
abbrev pub invariant-loop-before : goal.invariant-loop-before
invariant-loop-before g l =
    let P = g.P.Plant in
    let x = l.fn.complex in
    let y = l.complex in
    record {
      pair : y.pair ≡ x.pair;
      frame : parts_of y ≡ record (parts_of x) { plant = y.plant };
      acts : OnVolumes P.tells l.by.0 (P.view x.plant) (P.view y.plant);
      cause : SparesBut l.by.0 false none_lost (P.view x.plant) (P.view y.plant);
      synced : P.tells → (k : ℕ) (h : GroupNo) → slice_get l.groups k ≡ Some h → volume_of x.base.config.groups h ≤ l.before → IsSynced (spools_at (P.view y.plant) (P.view y.plant).now) x.base.config.groups h;
      quiet : P.tells → AreQuiet (spools_at (P.view x.plant) (P.view x.plant).now) (spools_at (P.view y.plant) (P.view y.plant).now);
    }
