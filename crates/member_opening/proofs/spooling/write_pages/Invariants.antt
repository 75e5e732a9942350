use Rattle.std.proofs.Common.{◌≡◌, false}
use Rattle.spool_text.specs.Texts.{packed}
use Rattle.mas_complex.specs.Parts.{parts_of}
use Rattle.mas_complex.specs.Texts.{spools_at}
use Rattle.member_node.specs.Calls.{none_lost}
use Rattle.member_node.specs.Spares.{SparesBut}
use Rattle.member_decks.specs.Spooling.{GroupsKept, OnVolumes, StandBelow}
use Rattle.spool_volumes.specs.Volumes.{AreRoomy}
use Rattle.member_opening.proofs.spooling.write_pages.Given as goal

-- the pages at the places so far stand in their groups
abbrev pub invariant-loop-place : goal.invariant-loop-place
invariant-loop-place g l =
    let P = g.P.Plant in
    let x = l.fn.complex in
    let y = l.complex in
    record {
      pair : y.pair ≡ x.pair;
      frame : parts_of y ≡ record (parts_of x) { plant = y.plant };
      acts : OnVolumes P.tells l.by.0 (P.view x.plant) (P.view y.plant);
      cause : SparesBut l.by.0 false none_lost (P.view x.plant) (P.view y.plant);
      stand : P.tells → AreRoomy (P.view x.plant) x.base.config → StandBelow l.place (spools_at (P.view y.plant) (P.view y.plant).now) x.base.config.groups (packed l.text) l.groups;
      spares : P.tells → GroupsKept x.base.config.groups l.groups (spools_at (P.view x.plant) (P.view x.plant).now) (spools_at (P.view y.plant) (P.view y.plant).now);
    }
