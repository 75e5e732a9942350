use Rattle.std.proofs.Common.{◌≡◌, take, Ok}
use Rattle.mas_complex.specs.Parts.{parts_of}
use Rattle.race_ends.specs.Prepared.{HasPrepared}
use Rattle.race_ends.proofs.before.prepare.Given as goal

-- so many lines were gone through
abbrev pub invariant-loop-line : goal.invariant-loop-line
invariant-loop-line g l = record {
  number : l.number ≡ l.line-index;
  frame : parts_of l.complex ≡ record (parts_of l.fn.complex) { plant = l.complex.plant };
  prepared : HasPrepared g.P.Plant 1 (take l.line-index l.lines) (parts_of l.fn.complex) (parts_of l.complex) (Ok tt);
}
